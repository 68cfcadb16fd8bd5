-- Demand 3 over any list of changes, refused ones among them: the network stays sound and the table stays the fresh one.
-- Assumes nothing.
use Rattle.std.specs.Prelude.{Err, Ok}
use mathlib.Core.Path.{◌≡◌, refl, ap, ◌∙◌}
use mathlib.Core.List.{List, [], ◌∷◌, ◌++◌}
use Prim.Native.Nat.{ℕ}
use Rattle.edition.specs.declared.Change.{Change}
use Rattle.edition.specs.declared.Refusal.{Refusal}
use Rattle.edition.specs.declared.Search.{Search}
use Rattle.edition.specs.Refusals.{Verdict, taken}
use Rattle.network.specs.Network.{net_of}
use Rattle.sound.specs.Sound.{net_verdict}
use Rattle.sound.proofs.Sounds.{taken as is_taken}
use Rattle.table.specs.Table.{table}
use Rattle.change.specs.Change.{change_verdict, set_link, mended, Lent, changed, changed_by}
use Rattle.change.proofs.Staying.{allowed, still_sound}
use Rattle.change.proofs.Mending.{mended-right}

module _ (parents : List ℕ) (search : Search) where
  -- a refused change leaves network and table equal
  pub refused-kept :
      (c : Change) (lent : Lent) (r : Refusal)
      → change_verdict (net_of lent.links parents search) lent.entries c ≡ Err r
      → changed parents search c lent ≡ lent
  unfolding changed
  refused-kept c lent r q = rw q

  -- the network is sound, and the row of entries is its table and what lies past it
  pub record Right (rest : List ℕ) (lent : Lent) : Type 0 where
    pub fine : net_verdict (net_of lent.links parents search) ≡ taken
    pub fresh : lent.entries ≡ table (net_of lent.links parents search) ++ rest

  step_right : (rest : List ℕ) (c : Change) (lent : Lent) → Right rest lent → Right rest (changed parents search c lent)
  unfolding changed
  step_right rest c lent r = go (change_verdict (net_of lent.links parents search) lent.entries c) refl
    where
      go : (v : Verdict) → change_verdict (net_of lent.links parents search) lent.entries c ≡ v → Right rest (changed parents search c lent)
      go (Ok _) q =
          let a = allowed (net_of lent.links parents search) lent.entries c q in
          rw q
          (record {
            fine = is_taken (net_of (set_link lent.links c) parents search) (still_sound lent.links parents search c a);
            fresh = ap (mended _ _ c.link) r.fresh ∙ mended-right lent.links parents search c a rest;
          })
      go (Err why) q = rw q r

  -- a right table stays right through any series of changes
  pub series_right : (rest : List ℕ) (cs : List Change) (lent : Lent) → Right rest lent → Right rest (changed_by parents search cs lent)
  unfolding changed_by
  series_right rest [] lent r = r
  series_right rest (c ∷ cs) lent r = series_right rest cs (changed parents search c lent) (step_right rest c lent r)
