-- `block::has_dirty_entry` meets its contract. Assumes nothing.
use mathlib.Core.Path.{refl, ◌∙◌}
use native.Mathlib.Omega.{arith}
use borrow.Author.Rules.{rules}
use borrow.Author.Tests.{tests}
use Rattle.std.proofs.lemmas.Iterator.{YieldsList-from_range}
use Rattle.std.proofs.lemmas.Iterator.Search.{any_from_yields_List}
use Rattle.block.specs.Block.{dirty_entry}
use Rattle.block.proofs.Passing.{any_below}
use Rattle.block.proofs.has_dirty_entry.Goals as goal

pub returns : goal.returns
returns c =
    any_from_yields_List (dirty_entry c.args.b.now) _ _ _ c.any.ensures.ran (YieldsList-from_range 0 c.args.used c.args.used refl (omega arith))
    (λ x b q k. search (rules, tests))
    ∙ any_below (dirty_entry c.args.b.now) c.args.used
