use Rattle.std.proofs.Common.{◌^◌, ◌<◌, sym, refl, ◌∙◌, arith}
use Rattle.algebra.proofs.Polynomials.{raised_more, partial_none, partial_term, partial_gap, partial_all}
use Rattle.algebra.proofs.BinaryLaws.{root_raises, mul_is}
use Rattle.field.proofs.binary.BinaryFieldField.mul.Goals as goal
use Rattle.field.proofs.binary.BinaryFieldField.mul.Goals.{then-b-i-eq1, else-b-i-eq1}

pub loop-i-init : goal.loop-i-init
loop-i-init c =
    let p = c.args.self.now.polynomial in
    (omega (arith, c.size-size.ensures), refl, partial_none p.degree p.bits c.args.a c.args.b)

pub loop-i-preserved : goal.loop-i-preserved
loop-i-preserved c =
    let p = c.args.self.now.polynomial in
    let m = p.degree in
    let P = p.bits in
    let l = c.loop-i in (
      c.times_x-shifted.ensures.code,
      c.times_x-shifted.ensures.product ∙ root_raises m P p.shape l.shifted l.invariant.0
          ∙ raised_more m P c.args.a c.args.b l.i l.shifted l.invariant.1,
      elim c.if-b-i-eq1.branch [
        | then-b-i-eq1 w ↦ w.product-is ∙ partial_term m P c.args.a c.args.b l.i l.shifted l.product w.if-b-i-eq1.true l.invariant.1 l.invariant.2
        | else-b-i-eq1 w ↦ w.product-is ∙ partial_gap m P c.args.a c.args.b l.i l.product w.if-b-i-eq1.false l.invariant.2
      ],
    )

pub returns : goal.returns
returns c =
    let p = c.args.self.now.polynomial in
    let a = c.args.a in
    let b = c.args.b in
    let size = c.size-size.ensures in
    let ha : a < 2 ^ p.degree = omega arith in
    let hb : b < 2 ^ p.degree = omega arith in
    c.loop-i.invariant.2 ∙ partial_all p.degree p.bits a b c.loop-i.i (omega arith) ha ∙ sym (mul_is p.degree p.bits p.shape a b ha hb)
