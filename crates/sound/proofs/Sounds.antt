-- A network is taken exactly where it is sound: what each check says, held for every link and node. Assumes nothing.
use mathlib.Core.Path.{◌≡◌}
use mathlib.Core.Bool.{false}
use Prim.Native.Nat.{ℕ, ◌<◌}
use borrow.Author.Tests.{not-false}
use Rattle.edition.specs.Refusals.{taken as no_refusal}
use Rattle.edition.specs.declared.Why.TheVariants.{NodeCount, LinkCount, BadRoot, BadDepth, BadRule, BadEnds, BadMark, BadParent, NoRoute, NotShort}
use Rattle.edition.specs.Limits.{memory_limits}
use Rattle.rows.proofs.Refusing.{head_taken, rest-taken, both_taken, none_left, if_taken_lem, if_passes, at_taken, at_passes}
use Rattle.network.specs.Network.{Net}
use Rattle.network.specs.Records.{bad_nodes, bad_links, bad_root, bad_depth, bad_rule, size_verdict, bad_ends, bad_mark, bad_parent}
use Rattle.tree.specs.Tree.{tree_of, has_route}
use Rattle.tree.proofs.Ways.{Home}
use Rattle.sound.specs.Sound.{no_route, not_short, record_verdict, net_verdict}

-- what checks 1 to 4 and 14 leave
pub record Sized (g : Net) : Type 0 where
  pub nodes-ok : bad_nodes memory_limits g.nodes ≡ false
  pub links-ok : bad_links memory_limits g.links ≡ false
  pub root_ok : bad_root g.nodes g.search.root ≡ false
  pub depth_ok : bad_depth memory_limits g.search.depth ≡ false
  pub rule_ok : bad_rule g.search.rule ≡ false

-- what checks 5 to 9 leave
pub record Recorded (g : Net) : Type 0 where
  pub ends_ok : (e : ℕ) → e < g.links → bad_ends g.nodes (g.link e) ≡ false
  pub marks_ok : (e : ℕ) → e < g.links → bad_mark (g.link e).mark ≡ false
  pub parents-ok : (u : ℕ) → u < g.nodes → bad_parent g u ≡ false
  pub routes_ok : (u : ℕ) → u < g.nodes → Home (tree_of g) u
  pub short_ok : (e : ℕ) → e < g.links → not_short g e ≡ false

-- a sound network
pub record Sound (g : Net) : Type 0 where
  pub sized : Sized g
  pub recorded : Recorded g

home-is : (g : Net) (u : ℕ) → no_route g u ≡ false → Home (tree_of g) u
unfolding no_route
home-is g u h = not-false (has_route (tree_of g) u) h

pub home-not : (g : Net) (u : ℕ) → Home (tree_of g) u → no_route g u ≡ false
unfolding no_route
home-not g u h = rw h

sizes_say : (g : Net) → size_verdict memory_limits g.nodes g.links g.search ≡ no_refusal → Sized g
unfolding size_verdict
sizes_say g t1 =
    let t2 = rest-taken _ _ t1 in
    let t3 = rest-taken _ _ t2 in
    let t4 = rest-taken _ _ t3 in
    let t14 = rest-taken _ _ t4 in
    record {
      nodes-ok = if_taken_lem _ NodeCount 0 (head_taken _ _ t1);
      links-ok = if_taken_lem _ LinkCount 0 (head_taken _ _ t2);
      root_ok = if_taken_lem _ BadRoot 0 (head_taken _ _ t3);
      depth_ok = if_taken_lem _ BadDepth 0 (head_taken _ _ t4);
      rule_ok = if_taken_lem _ BadRule 0 (head_taken _ _ t14);
    }

records_say : (g : Net) → record_verdict g ≡ no_refusal → Recorded g
unfolding record_verdict
records_say g t5 =
    let t6 = rest-taken _ _ t5 in
    let t7 = rest-taken _ _ t6 in
    let t8 = rest-taken _ _ t7 in
    let t9 = rest-taken _ _ t8 in
    record {
      ends_ok = at_taken (λ e. bad_ends g.nodes (g.link e)) g.links BadEnds (head_taken _ _ t5);
      marks_ok = at_taken (λ e. bad_mark (g.link e).mark) g.links BadMark (head_taken _ _ t6);
      parents-ok = at_taken (bad_parent g) g.nodes BadParent (head_taken _ _ t7);
      routes_ok = λ u l. home-is g u (at_taken (no_route g) g.nodes NoRoute (head_taken _ _ t8) u l);
      short_ok = at_taken (not_short g) g.links NotShort (head_taken _ _ t9);
    }

-- a network that is taken is sound
pub sound : (g : Net) → net_verdict g ≡ no_refusal → Sound g
unfolding net_verdict
sound g h =
    record { sized = sizes_say g (head_taken _ _ h); recorded = records_say g (head_taken _ _ (rest-taken _ _ h)) }

pub sizes_taken : (g : Net) → Sized g → size_verdict memory_limits g.nodes g.links g.search ≡ no_refusal
unfolding size_verdict
sizes_taken g s =
    both_taken _ _ (if_passes _ NodeCount 0 s.nodes-ok)
    (both_taken _ _ (if_passes _ LinkCount 0 s.links-ok)
    (both_taken _ _ (if_passes _ BadRoot 0 s.root_ok)
    (both_taken _ _ (if_passes _ BadDepth 0 s.depth_ok)
    (both_taken _ _ (if_passes _ BadRule 0 s.rule_ok) none_left))))

records_taken : (g : Net) → Recorded g → record_verdict g ≡ no_refusal
unfolding record_verdict
records_taken g r =
    both_taken _ _ (at_passes (λ e. bad_ends g.nodes (g.link e)) g.links BadEnds r.ends_ok)
    (both_taken _ _ (at_passes (λ e. bad_mark (g.link e).mark) g.links BadMark r.marks_ok)
    (both_taken _ _ (at_passes (bad_parent g) g.nodes BadParent r.parents-ok)
    (both_taken _ _ (at_passes (no_route g) g.nodes NoRoute (λ u l. home-not g u (r.routes_ok u l)))
    (both_taken _ _ (at_passes (not_short g) g.links NotShort r.short_ok) none_left))))

-- and a sound network is taken
pub taken : (g : Net) → Sound g → net_verdict g ≡ no_refusal
unfolding net_verdict
taken g s = both_taken _ _ (sizes_taken g s.sized) (both_taken _ _ (records_taken g s.recorded) none_left)
