use Rattle.std.proofs.Common.{refl, ◌∙◌}
use Rattle.code.proofs.Marking.{run_begins, run_goes_on}
use Rattle.code.proofs.exponents.Marks.of_run.Goals as goal

pub loop-i-init : goal.loop-i-init
loop-i-init c = record { same = refl; run = run_begins c.args.order c.args.factor c.args.first }

pub loop-i-preserved : goal.loop-i-preserved
loop-i-preserved c =
    let m = c.mark_orbit.ensures in
    let is = c.loop-i.invariant.same in
    let run = c.loop-i.invariant.run in
    record {
      same = m.order ∙ is;
      run = run_goes_on c.args.order c.args.factor c.args.first c.loop-i.i c.loop-i.all.marks c.mark_orbit.new.self.marks run (m.size ∙ run.size) m.kept m.started (rw is at m.closed) (rw is at m.least);
    }
