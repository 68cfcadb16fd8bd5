-- `block::payload` meets its contract. Assumes nothing.
use Rattle.std.proofs.Common.{ℕ, ◌+◌, refl, sym, ap, ◌∙◌, arith}
use Rattle.block.proofs.Judging.{taken-length, payload-taken, place-taken, payload-none, place_none}
use Rattle.block.proofs.payload.Goals as goal

pub slice_bounds-result-end : goal.slice_bounds-result-end
slice_bounds-result-end c = omega (arith, taken-length _ _ _ _ (sym c.check_block.ensures ∙ c.in-Ok.is))

pub returns-in-Ok-clause-part : goal.returns-in-Ok-clause-part
returns-in-Ok-clause-part c = payload-taken _ _ _ _ _ c.check_block.ensures c.in-Ok.is

pub returns-in-Ok-clause-place : goal.returns-in-Ok-clause-place
returns-in-Ok-clause-place c =
    (refl, ap (λ (n : ℕ). n + c.args.b.ref_ptr.1) (place-taken _ _ _ _ _ c.check_block.ensures c.in-Ok.is))

pub returns-in-Err-clause-part : goal.returns-in-Err-clause-part
returns-in-Err-clause-part c = payload-none _ _ _ _ _ c.check_block.ensures _ c.in-Err.is

pub returns-in-Err-clause-place : goal.returns-in-Err-clause-place
returns-in-Err-clause-place c =
    (refl, ap (λ (n : ℕ). n + c.args.b.ref_ptr.1) (place_none _ _ _ _ _ c.check_block.ensures _ c.in-Err.is))
