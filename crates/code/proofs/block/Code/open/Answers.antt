use Rattle.std.proofs.Common.{rules, ◌≡◌, ◌<◌, true, None, arith}
use Rattle.std.proofs.lemmas.Bool.Decides.{nat_tests}
use Rattle.algebra.specs.Arith.{Arith}
use Rattle.algebra.specs.BlockCode.{symbols, redundancy, generator, Accepted}
use Rattle.algebra.specs.declared.Design.{Design}
use Rattle.algebra.proofs.CodeFacts.{code_facts}
use Rattle.algebra.proofs.Exponents.{exponents_smallest}
use Rattle.code.specs.Calls.{outside}
use Rattle.code.specs.Opening.{length_fits, distance_fits}
use Rattle.code.proofs.Outside.{none_outside}
use Rattle.code.proofs.block.Code.open.Given.{Over}
use Rattle.code.proofs.block.Code.open.Goals.{In_default}
use Rattle.code.proofs.block.Code.open.Goals as goal

-- what was judged is what an opening accepts
accepts : (A : Arith) (D : Design) → length_fits A.order D.length ≡ true → D.first < A.order → distance_fits D.distance ≡ true → redundancy A D < D.length
    → outside (symbols A D.alphabet) (generator A D) ≡ None → Accepted A D
accepts A D long first far room none =
    record {
      length_low = grind (arith, nat_tests);
      length_high = grind (arith, nat_tests);
      length_order = grind (arith, nat_tests);
      first_order = first;
      distance_low = grind (arith, nat_tests);
      distance_high = grind (arith, nat_tests);
      some_message = room;
      generator_symbols = none_outside (symbols A D.alphabet) (generator A D) none;
    }

accepted : (g : Over) (c : In_default g) → Accepted (g.F.Field.meaning c.args.field) c.args.design
accepted g c =
    let A = g.F.Field.meaning c.args.field in
    let D = c.args.design in
    let long : length_fits A.order D.length ≡ true = search rules in
    let first : D.first < A.order = search rules in
    let far : distance_fits D.distance ≡ true = search rules in
    let room : redundancy A D < D.length = search rules in
    let none : outside (symbols A D.alphabet) (generator A D) ≡ None = search rules in
    accepts A D long first far room none

pub invariant_of-result : goal.invariant_of-result
invariant_of-result g c = record { accepted = accepted g c; opened = c.of-tables.ensures }

pub returns-clause-facts : goal.returns-clause-facts
returns-clause-facts g c = code_facts (g.F.Field.meaning c.args.field) (g.met.F.Field.keeps c.args.field) c.args.design (accepted g (goal.at.returns-clause-facts g c).In_default)

pub returns-then-not-is_length-clause-exponents_smallest : goal.returns-then-not-is_length-clause-exponents_smallest
returns-then-not-is_length-clause-exponents_smallest g c = exponents_smallest _ (g.met.F.Field.keeps c.args.field) c.args.design

pub returns-then-design-from-clause-exponents_smallest : goal.returns-then-design-from-clause-exponents_smallest
returns-then-design-from-clause-exponents_smallest g c = exponents_smallest _ (g.met.F.Field.keeps c.args.field) c.args.design

pub returns-then-not-is_distance-clause-exponents_smallest : goal.returns-then-not-is_distance-clause-exponents_smallest
returns-then-not-is_distance-clause-exponents_smallest g c = exponents_smallest _ (g.met.F.Field.keeps c.args.field) c.args.design

pub returns-then-redundancy-design-clause-exponents_smallest : goal.returns-then-redundancy-design-clause-exponents_smallest
returns-then-redundancy-design-clause-exponents_smallest g c = exponents_smallest _ (g.met.F.Field.keeps c.args.field) c.args.design

pub returns-in-Some-clause-exponents_smallest : goal.returns-in-Some-clause-exponents_smallest
returns-in-Some-clause-exponents_smallest g c = exponents_smallest _ (g.met.F.Field.keeps c.args.field) c.args.design

pub returns-clause-exponents_smallest : goal.returns-clause-exponents_smallest
returns-clause-exponents_smallest g c = exponents_smallest _ (g.met.F.Field.keeps c.args.field) c.args.design
