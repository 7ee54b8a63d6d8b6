use Rattle.std.proofs.Common.{◌≡◌, ℕ, zero, suc, ◌+◌, get_or, replicate, refl, map, length, take, sym, ◌∙◌, ap₂, arith, rules}
use Rattle.std.proofs.lemmas.List.{places, drop_all, get_or-set_other}
use Rattle.algebra.specs.Arith.{power}
use Rattle.algebra.specs.Words.{times_factors}
use Rattle.algebra.specs.BlockCode.{ops, root_power}
use Rattle.code.proofs.Generating.{factor_turn}
use Rattle.code.proofs.generator.generator_of.Goals as goal

-- a list of zeros has nothing else, and nothing else is read past its end
zeros : (n k : ℕ) → get_or {A = ℕ} (replicate n 0) k 0 ≡ 0
zeros zero k = refl
zeros (suc n) zero = refl
zeros (suc n) (suc k) = zeros n k

pub loop-i-init : goal.loop-i-init
loop-i-init g c = record { size = refl; zeros = λ k h. get_or-set_other (replicate 255 0) 0 k 1 0 (omega arith) ∙ zeros 255 k; product = refl }

pub loop-i-preserved : goal.loop-i-preserved
loop-i-preserved g c =
    let A = g.F.Field.meaning c.args.field.now in
    let i = c.loop-i.i in
    let was = c.loop-i.invariant in
    let size = was.size in
    let zero = was.zeros (i + 1) (omega arith) in
    record {
      size = search (rules, places);
      zeros = λ k h. let zero = was.zeros k (omega arith) in search (rules, places);
      product =
          factor_turn A c.power-point.result c.loop-i.product c.multiply_by_factor.new.word _ c.args.exponents.now i _ (omega arith) zero (omega arith) (omega arith)
          (c.power-point.ensures ∙ ap₂ (power A.mul) c.root-root.ensures c.from.ensures)
          c.multiply_by_factor.ensures
          ∙ was.product;
    }

pub returns : goal.returns
returns g c =
    let A = g.F.Field.meaning c.args.field.now in
    let es = c.args.exponents.now in
    let end : c.loop-i.i ≡ length es = omega arith in
    record {
      size = c.loop-i.invariant.size;
      product =
          ap₂ (λ n left. times_factors (ops A) (take (suc n) c.loop-i.product) (map (root_power A) left)) (sym end) (sym (drop_all c.loop-i.i es (omega arith)))
          ∙ c.loop-i.invariant.product;
    }
