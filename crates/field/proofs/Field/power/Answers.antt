use Rattle.std.proofs.Common.{◌≡◌, ℕ, ◌/◌, ◌<◌, sym, ap, ◌∙◌, subst}
use Rattle.algebra.specs.Arith.{power}
use Rattle.algebra.proofs.Powers.{one_code, one-mul, power_code, turn_even, turn_odd}
use Rattle.field.proofs.Field.power.Goals as goal
use Rattle.field.proofs.Field.power.Goals.{then-left-eq1, else-left-eq1}

pub loop-left-init : goal.loop-left-init
loop-left-init g c =
    let A = g.Self.Field.meaning c.args.self.now in
    let R = (g.met.Self.Field.keeps c.args.self.now).ring in
    (one_code A R, one-mul A R _ (power_code A R c.args.a c.args.exponent))

pub loop-left-preserved : goal.loop-left-preserved
loop-left-preserved g c =
    let A = g.Self.Field.meaning c.args.self.now in
    let R = (g.met.Self.Field.keeps c.args.self.now).ring in
    let p = c.loop-left.product in
    let x = c.loop-left.square in
    let k = c.loop-left.left in
    let was = c.loop-left.invariant in
    let after : ℕ → ℕ = λ r. A.mul r (power A.mul c.mul-square.result (k / 2)) in
    let squared : (r : ℕ) → after r ≡ A.mul r (power A.mul (A.mul x x) (k / 2)) = λ r. ap (λ y. A.mul r (power A.mul y (k / 2))) (c.mul-square.ensures) in
    elim c.if-left-eq1.branch [
      | then-left-eq1 w ↦
          let is : c.if-left-eq1.product ≡ A.mul p x = w.product-is ∙ w.mul-product.ensures in
          (subst (λ r. r < A.size) (sym is) (R.mul_code p x), ap after is ∙ squared (A.mul p x) ∙ turn_odd A R p x k w.if-left-eq1.true ∙ was.1)
      | else-left-eq1 w ↦
          (subst (λ r. r < A.size) (sym w.product-is) was.0, ap after w.product-is ∙ squared p ∙ turn_even A R p x k w.if-left-eq1.false ∙ was.1)
    ]
