-- `tree::climb_to_meet` meets its contract. Assumes nothing.
use Rattle.std.proofs.Common.{sym, arith}
use Rattle.tree.proofs.Together.{together_start, together_turn, together_next, together_less, hops-few, lengths_few, met_told}
use Rattle.tree.proofs.climb_to_meet.Goals as goal

pub loop-a-init : goal.loop-a-init
loop-a-init c =
    together_start _ _ _ c.args.net.short c.requires.0 _ _ c.requires.1 c.requires.2 _ _ _ _ c.to_root-from_u.ensures
    c.to_root-from_z.ensures c.begin-a.ensures c.begin-b.ensures

pub overflow_add-from_z : goal.overflow_add-from_z
overflow_add-from_z c =
    let few = hops-few c.loop-a.invariant in
    omega (arith, few.0, few.1, few.2, few.3)

pub overflow_add-from_u : goal.overflow_add-from_u
overflow_add-from_u c =
    let few = hops-few c.loop-a.invariant in
    omega (arith, few.0, few.1, few.2, few.3)

pub loop-a-smaller-then-from_z-a : goal.loop-a-smaller-then-from_z-a
loop-a-smaller-then-from_z-a c =
    let less =
    together_less c.loop-a.invariant
    c.loop-a-test.true (omega (arith, c.if-from_z-a.true))
    c.step-a.ensures in
    omega (arith, less)

pub loop-a-preserved-then-from_z-a : goal.loop-a-preserved-then-from_z-a
loop-a-preserved-then-from_z-a c =
    together_next c.loop-a.invariant
    c.loop-a-test.true (omega (arith, c.if-from_z-a.true))
    c.step-a.ensures

pub loop-a-smaller : goal.loop-a-smaller
loop-a-smaller c =
    let turn = together_turn c.loop-a.invariant in
    omega (arith, together_less turn (λ q. c.loop-a-test.true (sym q)) (omega (arith, c.if-from_z-a.false)) c.step-b.ensures)

pub loop-a-preserved : goal.loop-a-preserved
loop-a-preserved c =
    let turn = together_turn c.loop-a.invariant in
    together_turn (together_next turn (λ q. c.loop-a-test.true (sym q)) (omega (arith, c.if-from_z-a.false)) c.step-b.ensures)

pub overflow_add-result : goal.overflow_add-result
overflow_add-result c =
    let few = lengths_few c.loop-a.invariant in
    omega (arith, few.0, few.1)

pub returns : goal.returns
returns c =
    met_told c.loop-a.invariant c.loop-a-test.false
