use Rattle.std.proofs.Common.{◌≡◌, ◌<◌}
use Rattle.algebra.specs.Arith.{power}
use Rattle.field.proofs.Field.power.Given as goal

abbrev pub invariant-loop-left : goal.invariant-loop-left
invariant-loop-left g l =
    let A = g.Self.Field.meaning l.self in
    (l.product < A.size) × (A.mul l.product (power A.mul l.square l.left) ≡ power A.mul l.a l.exponent)

abbrev pub decreases-loop-left : goal.decreases-loop-left
decreases-loop-left g l = l.left
