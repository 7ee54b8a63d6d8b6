use Rattle.std.proofs.Common.{◌≡◌, ◌+◌, ◌-◌, ◌^◌, ◌<◌, ◌≤◌, sym, ap, ◌∙◌, refl, inl, inr, arith}
use Rattle.std.proofs.lemmas.Grind.{common_steps}
use Rattle.std.proofs.lemmas.Bool.{cases_lt}
use Rattle.std.proofs.Math.Pow.{pow_mono}
use Rattle.algebra.specs.Arith.{iterate}
use Rattle.algebra.specs.Search.{Returns}
use Rattle.algebra.specs.Binary.{binary}
use Rattle.algebra.proofs.Polynomials.{one_below}
use Rattle.algebra.proofs.Walks.{not_yet, first_return}
use Rattle.algebra.proofs.RootReturns.{returns_soon}
use Rattle.field.proofs.binary.polynomial.Polynomial.first_return.Goals.{After-times_x-power}
use Rattle.field.proofs.binary.polynomial.Polynomial.first_return.Goals as goal

-- the power after a step
stepped : (c : After-times_x-power) → c.times_x-power.result ≡ iterate ((binary c.args.self.degree c.args.self.bits).mul 2) c.loop-exponent.exponent 1
stepped c = grind (arith, common_steps)

pub loop-exponent-init : goal.loop-exponent-init
loop-exponent-init c = let p = c.args.self in (one_below p.degree p.bits p.shape, refl, λ k pos h e. omega arith)

pub loop-exponent-preserved : goal.loop-exponent-preserved
loop-exponent-preserved c =
    let step = (binary c.args.self.degree c.args.self.bits).mul 2 in
    let l = c.loop-exponent in
    let at = stepped (goal.at.loop-exponent-preserved c).After-times_x-power in
    let s : l.exponent ≡ l.exponent + 1 - 1 = omega arith in
    (c.times_x-power.ensures.code, at ∙ ap (λ k. iterate step k 1) s, not_yet step l.exponent c.times_x-power.result at c.if-power-eq1.false l.invariant.2)

pub returns-then-power-eq1 : goal.returns-then-power-eq1
returns-then-power-eq1 c =
    let p = c.args.self in
    let l = c.loop-exponent in
    let step = (binary p.degree p.bits).mul 2 in
    let ret : Returns step l.exponent = (l.auto.exponent, sym (stepped (goal.at.returns-then-power-eq1 c).After-times_x-power) ∙ c.if-power-eq1.true, l.invariant.2) in
    let soon : l.exponent < 2 ^ p.degree =
    elim (cases_lt l.exponent (2 ^ p.degree)) [ inl h ↦ h | inr h ↦ absurd (returns_soon p.degree p.bits p.shape p.odd (λ k pos lt. l.invariant.2 k pos (omega arith))) ] in
    record { returns = ret; found = sym (first_return step l.exponent (2 ^ p.degree - 1) ret (omega arith)) }

pub unreachable-requires : goal.unreachable-requires
unreachable-requires c =
    let p = c.args.self in
    let high : 2 ^ p.degree ≤ 2 ^ 10 = pow_mono {i = p.degree} {j = 10} (omega (arith, p.shape.1)) in
    let over = c.loop-exponent-test.false in
    returns_soon p.degree p.bits p.shape p.odd (λ k pos h. c.loop-exponent.invariant.2 k pos (omega arith))
