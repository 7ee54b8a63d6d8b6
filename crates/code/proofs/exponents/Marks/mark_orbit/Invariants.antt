use Rattle.std.proofs.Common.{◌≡◌, not}
use Rattle.std.specs.List.{count_by}
use Rattle.code.proofs.Marking.{Orbit}
use Rattle.code.proofs.exponents.Marks.mark_orbit.Given as goal

abbrev pub invariant-loop-self : goal.invariant-loop-self
invariant-loop-self l = record {
  same : l.self.order ≡ l.fn.self.order;
  orbit : Orbit l.fn.self.order l.factor l.fn.self.marks l.self.marks l.start l.exponent;
}

abbrev pub decreases-loop-self : goal.decreases-loop-self
decreases-loop-self l = count_by not l.self.marks
