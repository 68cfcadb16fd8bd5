-- One node's entry: its verdict and its answer. Assumes nothing.
use Rattle.std.specs.Prelude.{Err, Ok, Result}
use Rattle.std.proofs.Common.{◌≡◌, ℕ, ◌<◌, ◌≤◌, leb, List, length, replicate, sym, ◌∙◌, arith, le-ltb, leb-false}
use lib.ListN.{length-replicate}
use Rattle.edition.specs.Refusals.{Verdict, taken}
use Rattle.edition.specs.declared.Refusal.{Refusal}
use Rattle.edition.specs.declared.Entry.{Entry}
use Rattle.edition.specs.Limits.{node_limit, entry_room}
use Rattle.edition.specs.declared.Search.{Search}
use Rattle.network.specs.Network.{Net, net_of}
use Rattle.sound.specs.Surveyed.{Surveyed}
use Rattle.sound.specs.declared.Sizes.{Sizes}
use Rattle.sound.specs.Sound.{net_verdict, checked}
use Rattle.sound.proofs.Handing.{sound_told, handed_then}
use Rattle.sound.proofs.Sounds.{sound}
use Rattle.sound.proofs.Holding.{nodes-few}
use Rattle.swap.specs.Entry.{entry}
use Rattle.table.specs.Table.{table_verdict, entry_verdict, entry_answer}
use Rattle.entries.specs.Row.{entries_in}
use Rattle.rows.specs.First.{refuse_if}
use Rattle.rows.proofs.Refusing.{head_taken, rest-taken, if_taken_lem, if_passes, both_taken, none_left, head_refuses, head_passes, only_one}
use Rattle.edition.specs.declared.Why.TheVariants.{NoRoute, NoRoom}

-- a row of zeros for the entries of all nodes that there can be
abbrev pub bare_row : List ℕ
bare_row = replicate entry_room 0

pub parents-few : (links parents : List ℕ) (search : Search) {survey : List ℕ} → Surveyed (net_of links parents search) survey → length parents ≤ node_limit
unfolding net_of
parents-few links parents search s = nodes-few (net_of links parents search) (sound (net_of links parents search) s.is_taken)

-- that row is never too short
pub bare_verdict : (g : Net) (v : Verdict) → net_verdict g ≡ v → table_verdict g bare_row ≡ v
unfolding table_verdict
bare_verdict g (Ok _) q =
    both_taken _ _ q (both_taken _ _ (if_passes _ NoRoom 0 (le-ltb (entries_in bare_row) g.nodes room)) none_left)
  where
    room : g.nodes ≤ entries_in bare_row
    room = omega (arith, nodes-few g (sound g q), length-replicate {A = ℕ} entry_room 0)
bare_verdict g (Err r) q = head_refuses _ _ r q

-- 8 at x, behind the check of the network
pub entry_judged :
    (g : Net) (x : ℕ) (s : Result Sizes Refusal) (z : Sizes)
    → s ≡ checked g → s ≡ Ok z → (w : Verdict) → w ≡ refuse_if (leb z.nodes x) NoRoute x → w ≡ entry_verdict g x
unfolding entry_verdict
entry_judged g x s z e t w q =
    q
    ∙ (λ i. refuse_if (leb ((sound_told g s z e t).1 i) x) NoRoute x)
    ∙ handed_then g s e z t (refuse_if (leb g.nodes x) NoRoute x)

-- the same by the verdict on the network
pub entry-refused : (g : Net) (x : ℕ) (v : Verdict) (r : Refusal) → v ≡ net_verdict g → v ≡ Err r → v ≡ entry_verdict g x
unfolding entry_verdict
entry-refused g x v r q t = t ∙ sym (head_refuses _ _ r (sym q ∙ t))

pub entry_decided : (g : Net) (x : ℕ) → net_verdict g ≡ taken → (w : Verdict) → w ≡ refuse_if (leb g.nodes x) NoRoute x → w ≡ entry_verdict g x
unfolding entry_verdict
entry_decided g x t w q = q ∙ sym (head_passes _ _ t ∙ only_one _)

module _ (g : Net) (x : ℕ) (v : Verdict) (q : v ≡ entry_verdict g x) where
  pub one-node : v ≡ taken → x < g.nodes
  unfolding entry_verdict
  one-node t =
      leb-false g.nodes x (if_taken_lem _ NoRoute x (head_taken _ _ (rest-taken _ _ (sym q ∙ t))))

  pub one-is : v ≡ taken → (e : Entry) → e ≡ entry g x → Ok e ≡ entry_answer g x
  unfolding entry_answer
  one-is t e p = rw (← q, t, p)

  pub one-not : (r : Refusal) → v ≡ Err r → Err r ≡ entry_answer g x
  unfolding entry_answer
  one-not r t = rw (← q, t)
