use Rattle.std.proofs.Common.{arith}
use Rattle.code.proofs.Marking.{orbit_goes_on}
use Rattle.code.proofs.exponents.Marks.mark_orbit.Goals as goal

pub loop-self-preserved : goal.loop-self-preserved
loop-self-preserved c =
    let l = c.loop-self in
    let next = orbit_goes_on c.args.self.now.order c.args.factor c.args.self.now.marks l.self.marks c.args.start l.exponent (omega arith) l.invariant.orbit in
    record {
      same = l.invariant.same;
      orbit = rw (c.from-in-loop-self.ensures, c.from-in-loop-self-2.ensures, c.from-in-loop-self-3.ensures, c.from-in-loop-self-4.ensures, l.invariant.same) next;
    }
