use Rattle.std.proofs.Common.{◌≡◌}
use Rattle.code.specs.Marks.{MarkedRun}
use Rattle.code.proofs.exponents.Marks.of_run.Given as goal

abbrev pub invariant-loop-i : goal.invariant-loop-i
invariant-loop-i l = record {
  same : l.all.order ≡ l.order;
  run : MarkedRun l.order l.factor l.first l.i l.all.marks;
}
