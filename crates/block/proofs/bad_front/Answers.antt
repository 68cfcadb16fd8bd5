-- `block::bad_front` meets its contract. Assumes nothing.
use native.Mathlib.Omega.{arith}
use borrow.Author.Rules.{rules}
use Rattle.std.proofs.lemmas.Grind.{common_steps}
use Rattle.block.proofs.Fronts.{front_other}
use Rattle.block.proofs.bad_front.Goals as goal

pub returns-then-two_at-number : goal.returns-then-two_at-number
returns-then-two_at-number c =
    grind (
      arith,
      common_steps,
      front_other c.args.kind c.args.number c.args.used c.args.b.now c.requires (λ i. omega (arith, c.type_inv.b i))
          (search rules) (search rules),
    )

pub returns-else-two_at-number : goal.returns-else-two_at-number
returns-else-two_at-number c =
    grind (
      arith,
      common_steps,
      front_other c.args.kind c.args.number c.args.used c.args.b.now c.requires (λ i. omega (arith, c.type_inv.b i))
          (search rules) (search rules),
    )
