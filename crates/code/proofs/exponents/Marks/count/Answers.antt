use Rattle.std.proofs.Common.{◌≡◌, ◌≤◌, ◌^◌, length, take, sym, ◌∙◌, subst, rules, tests, arith}
use Rattle.std.specs.Int.{from_bool}
use Rattle.std.proofs.lemmas.Iterator.{YieldsList-from_slice, YieldsList-from_map}
use Rattle.std.proofs.lemmas.Iterator.Consumers.{YieldsList-at, sum_by_from_yields_List, fits_by_from_yields_list}
use Rattle.code.specs.Marks.{marked_below}
use Rattle.code.proofs.Marking.{marks_counted, few_marked}
use Rattle.code.proofs.exponents.Marks.count.Goals as goal

pub sum-requires-clause-fits : goal.sum-requires-clause-fits
sum-requires-clause-fits c =
    let order = c.args.self.now.order in
    let marks = c.args.self.now.marks in
    fits_by_from_yields_list from_bool (take order marks) _ (2 ^ 64)
    (YieldsList-from_map _ from_bool (YieldsList-at c.map.ensures.source (YieldsList-from_slice (take order marks) (search rules))) c.map.ensures.closure
    (λ x r q k. search (rules, tests)))
    (omega (arith, marks_counted marks order (search rules), few_marked marks order, c.args.self.now.fits))

pub returns : goal.returns
returns c =
    let order = c.args.self.now.order in
    let marks = c.args.self.now.marks in
    let value : c.sum.result ≡ length (marked_below order marks) =
    sum_by_from_yields_List from_bool (take order marks) _ _ c.sum.ensures.ran
    (YieldsList-from_map _ from_bool (YieldsList-at c.map.ensures.source (YieldsList-from_slice (take order marks) (search rules))) c.map.ensures.closure
    (λ x r q k. search (rules, tests)))
    ∙ marks_counted marks order (search rules) in
    record { few = subst (λ n. n ≤ order) (sym value) (few_marked marks order); value = value }
