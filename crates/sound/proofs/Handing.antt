-- What is handed up of a check is the verdict on the network, and a sound one's sizes are its own. Assumes nothing.
use Rattle.std.specs.Prelude.{Err, Ok, Result}
use mathlib.Core.Path.{◌≡◌, refl, sym, ap, ◌∙◌}
use mathlib.Core.List.{List, [], ◌∷◌}
use Prim.Native.Nat.{ℕ}
use native.Mathlib.Omega.{arith}
use Rattle.edition.specs.Refusals.{Verdict, taken}
use Rattle.edition.specs.declared.Refusal.{Refusal}
use Rattle.rows.specs.First.{firstly}
use Rattle.rows.proofs.Refusing.{head_refuses, head_passes, only_one}
use Rattle.network.specs.Network.{Net}
use Rattle.sound.specs.declared.Sizes.{Sizes}
use Rattle.sound.specs.Sound.{net_verdict, answer_of, checked, handed_up}

-- the refusal is handed up unchanged
pub handed-is : (g : Net) (s : Result Sizes Refusal) → s ≡ checked g → handed_up s ≡ net_verdict g
unfolding checked
handed-is g s e = ap handed_up e ∙ go (net_verdict g)
  where
    go : (v : Verdict) → handed_up (answer_of v g) ≡ v
    go (Ok _) = refl
    go (Err r) = refl

nodes_of : Result Sizes Refusal → ℕ
nodes_of (Ok z) = z.nodes
nodes_of (Err r) = 0

links_of : Result Sizes Refusal → ℕ
links_of (Ok z) = z.links
links_of (Err r) = 0

-- a sound network is taken, and its sizes are told
pub sound_told :
    (g : Net) (s : Result Sizes Refusal) (z : Sizes)
    → s ≡ checked g → s ≡ Ok z → (net_verdict g ≡ taken) × (z.nodes ≡ g.nodes) × (z.links ≡ g.links)
unfolding checked nodes_of links_of
sound_told g s z e t = go (net_verdict g) refl (sym e ∙ t)
  where
    go : (v : Verdict) → net_verdict g ≡ v → answer_of v g ≡ Ok z → (net_verdict g ≡ taken) × (z.nodes ≡ g.nodes) × (z.links ≡ g.links)
    go (Ok _) q p = (q, sym (ap nodes_of p), sym (ap links_of p))
    go (Err r) q p = let clash : ◌≡◌ {A = ℕ} 0 1 = cc in absurd (omega arith)

-- a list of checks that begins with the network's: refused where the check refuses, and where it does not what the next one says
module _ (g : Net) (s : Result Sizes Refusal) (e : s ≡ checked g) where
  pub handed-first : (r : Refusal) → s ≡ Err r → (rest : List Verdict) (v : Verdict) → v ≡ handed_up s → v ≡ firstly (net_verdict g ∷ rest)
  handed-first r t rest v q =
      q ∙ (ap handed_up t ∙ sym (head_refuses (net_verdict g) rest r (sym (handed-is g s e) ∙ ap handed_up t)))

  pub handed_then : (z : Sizes) → s ≡ Ok z → (w : Verdict) → w ≡ firstly (net_verdict g ∷ w ∷ [])
  handed_then z t w = sym (head_passes (net_verdict g) (w ∷ []) (sound_told g s z e t).0 ∙ only_one w)
