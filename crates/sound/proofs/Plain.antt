-- 1 to 7 and then 8 and 9 are 1 to 9; and what 1 to 7 leave. Assumes nothing.
use Rattle.std.specs.Prelude.{Err, Ok}
use mathlib.Core.Path.{◌≡◌, refl}
use mathlib.Core.List.{[], ◌∷◌}
use Prim.Native.Nat.{ℕ, ◌<◌}
use lib.Dec.{eqb, leb}
use borrow.Author.Tests.{leb-false}
use Rattle.edition.specs.Refusals.{Verdict, taken}
use Rattle.edition.specs.declared.Why.TheVariants.{NodeCount, BadRoot, BadEnds, BadParent}
use Rattle.rows.specs.First.{firstly}
use Rattle.rows.proofs.Tests.{or3_false}
use Rattle.rows.proofs.Refusing.{head_taken, rest-taken, if_taken_lem, at_taken}
use Rattle.network.specs.Network.{Net}
use Rattle.network.specs.Records.{size_verdict, bad_ends}
use Rattle.sound.specs.Sound.{record_verdict, net_verdict}
use Rattle.sound.specs.Surveyed.{plain_verdict}
use Rattle.sound.specs.Work.{Passed, tree_verdict}

regroup :
    (a b c d e f : Verdict)
    → firstly (firstly (a ∷ b ∷ c ∷ d ∷ []) ∷ firstly (e ∷ f ∷ []) ∷ [])
    ≡ firstly (a ∷ firstly (b ∷ c ∷ d ∷ e ∷ f ∷ []) ∷ [])
unfolding firstly
regroup (Err r) b c d e f = refl
regroup (Ok _) (Err r) c d e f = refl
regroup (Ok _) (Ok _) (Err r) d e f = refl
regroup (Ok _) (Ok _) (Ok _) (Err r) e f = refl
regroup (Ok _) (Ok _) (Ok _) (Ok _) (Err r) f = refl
regroup (Ok _) (Ok _) (Ok _) (Ok _) (Ok _) (Err r) = refl
regroup (Ok _) (Ok _) (Ok _) (Ok _) (Ok _) (Ok _) = refl

-- the order for a network in two parts
pub net_parts : (g : Net) → firstly (plain_verdict g ∷ tree_verdict g ∷ []) ≡ net_verdict g
unfolding plain_verdict tree_verdict net_verdict record_verdict
net_parts g = regroup _ _ _ _ _ _

pub plain_passed : (g : Net) → plain_verdict g ≡ taken → Passed g
unfolding plain_verdict size_verdict
plain_passed g t =
    let sizes = head_taken _ _ t in
    let t5 = rest-taken _ _ t in
    let t7 = rest-taken _ _ (rest-taken _ _ t5) in
    record {
      nodes-ok = if_taken_lem _ NodeCount 0 (head_taken _ _ sizes);
      root_ok = if_taken_lem _ BadRoot 0 (head_taken _ _ (rest-taken _ _ (rest-taken _ _ sizes)));
      ends_ok = at_taken _ _ BadEnds (head_taken _ _ t5);
      parents-ok = at_taken _ _ BadParent (head_taken _ _ t7);
    }

-- both ends of a link are nodes
pub passed_ends : (g : Net) → Passed g → (e : ℕ) → e < g.links → ((g.link e).first < g.nodes) × ((g.link e).second < g.nodes)
unfolding bad_ends
passed_ends g passed e l =
    let say =
    or3_false (leb g.nodes (g.link e).first) (leb g.nodes (g.link e).second) (eqb (g.link e).first (g.link e).second)
    (passed.ends_ok e l) in
    (leb-false g.nodes (g.link e).first say.0, leb-false g.nodes (g.link e).second say.1)
