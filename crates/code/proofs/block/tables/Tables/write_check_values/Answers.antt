use Rattle.std.proofs.Common.{◌≡◌, ◌+◌, ◌-◌, ◌<◌, map, sym, ap, ◌∙◌, subst, arith}
use Rattle.std.specs.List.{range_with_len}
use Rattle.std.proofs.lemmas.List.{take_all}
use Rattle.algebra.specs.Arith.{Arith}
use Rattle.algebra.specs.Words.{value}
use Rattle.algebra.specs.BlockCode.{ops, root_power, check_values}
use Rattle.algebra.proofs.Powers.{power_code}
use Rattle.code.proofs.Valuing.{next_point, one_more_check}
use Rattle.code.proofs.block.tables.Tables.write_check_values.Goals as goal

pub loop-value-preserved : goal.loop-value-preserved
loop-value-preserved g c D o all =
    let A : Arith = g.F.Field.meaning c.args.field.now in
    let b = D.first in
    let i = c.loop-value.value-index in
    let was = c.loop-value.invariant D o all in
    let L = g.met.F.Field.keeps c.args.field.now in
    let point = subst (λ p. p < A.size) (sym was.0) (power_code A L.ring A.root (b + i)) in
    let word = c.args.word.now in (
      next_point A b word i _ _ _ c.root-root.ensures was.0 c.mul-point.ensures,
      one_more_check A b word c.loop-value.list i _ (omega arith) (c.value_at.ensures point all ∙ ap (value (ops A) word) was.0) was.1,
    )

pub returns : goal.returns
unfolding check_values
returns g c D o all n =
    let A = g.F.Field.meaning c.args.field.now in
    let b = D.first in
    let i = c.loop-value.value-index in
    let end : i ≡ D.distance - 1 = omega arith in
    sym (take_all i c.loop-value.list (omega arith)) ∙ (c.loop-value.invariant D o all).1
    ∙ ap (λ k. map (λ j. value (ops A) c.args.word.now (root_power A (b + j))) (range_with_len 0 k)) end
