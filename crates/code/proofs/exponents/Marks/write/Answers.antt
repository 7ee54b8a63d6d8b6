use Rattle.std.proofs.Common.{refl, rules, tests, arith}
use Rattle.std.proofs.lemmas.Iterator.{YieldsList-from_range, YieldsList-from_take}
use Rattle.std.proofs.lemmas.Iterator.Consumers.{YieldsList-from_filter, YieldsList-from_enumerate, YieldsList-at, YieldsList-end}
use Rattle.code.specs.Marks.{marked, marked_below}
use Rattle.code.proofs.Marking.{all_written}
use Rattle.code.proofs.exponents.Marks.write.Goals as goal

pub returns : goal.returns
returns c = λ fits.
    let order = c.args.self.now.order in
    let marks = c.args.self.now.marks in
    let places = c.args.count in
    let end = YieldsList-end
    (YieldsList-at c.into_iter-i-iterator.ensures.into_iter_gives
    (YieldsList-from_enumerate
    (YieldsList-at c.enumerate-i-items.ensures.source
    (YieldsList-from_take places
    (YieldsList-at c.take.ensures.source
    (YieldsList-from_filter _ (marked marks)
    (YieldsList-at c.filter-marked.ensures.source (YieldsList-from_range 0 order order refl (omega arith)))
    c.filter-marked.ensures.closure (λ x r q k. search (rules, tests))))
    c.take.ensures.count))
    c.enumerate-i-items.ensures.count))
    c.loop-i.yielded _ c.loop-i.yielded_by _ _ c.in-None.is c.next.ensures.steps in
    all_written (marked_below order marks) c.loop-i.list places c.loop-i.yielded fits end.0 c.loop-i.invariant.front
