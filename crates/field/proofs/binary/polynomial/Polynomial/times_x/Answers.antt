use Rattle.std.proofs.Common.{◌≡◌, ℕ, ◌*◌, ◌/◌, ◌^◌, ◌<◌, ◌≤◌, sym, ap₂, ◌∙◌, subst, inl, inr, min, div-lt_iff_lt-mul, pow-suc, pow_pos, arith}
use Rattle.std.proofs.Math.Nat.{min-eq_left, min-eq_right, min_comm, div-eq_of_lt-le}
use Rattle.std.proofs.lemmas.Bool.{cases_eq}
use lib.Bits.{bit_xor, xor_comm, xor_shr}
use Rattle.algebra.specs.Binary.{Shape}
use Rattle.algebra.proofs.Bits.{below_from_div}
use Rattle.algebra.proofs.Polynomials.{raise, raise_high, raise_low, raise_below}
use Rattle.algebra.proofs.BinaryLaws.{root_raises}
use Rattle.field.proofs.binary.polynomial.Polynomial.times_x.Goals as goal

-- a number with something at place m or above is no lower than 2^m
reaches : (m n : ℕ) → n / 2 ^ m ≡ 1 → 2 ^ m ≤ n
reaches m n e = grind (arith, pow_pos m)

-- the polynomial is taken away once, or not at all
raised : (m P a : ℕ) → Shape m P → a < 2 ^ m → min (2 * a) (bit_xor (2 * a) P) ≡ raise m P a
raised m P a shape h =
    elim (cases_eq (2 * a / 2 ^ m) 1) [
      | inl e ↦
          let t : bit_xor (2 * a) P ≡ raise m P a = raise_high m P a e in
          let below : bit_xor (2 * a) P < 2 ^ m = subst (λ x. x < 2 ^ m) (sym t) (raise_below m P shape a h) in
          let above : 2 ^ m ≤ 2 * a = reaches m (2 * a) e in
          min-eq_right (omega (arith, below, above)) ∙ t
      | inr ne ↦
          let d : 2 * a / 2 ^ m < 2 = (div-lt_iff_lt-mul (pow_pos m)).1 (omega arith) in
          let zero : 2 * a / 2 ^ m ≡ 0 = omega arith in
          let top : P / 2 ^ m ≡ 1 = div-eq_of_lt-le (2 ^ m) (omega (arith, shape.2)) (omega (arith, shape.3, pow-suc 2 m)) in
          let above : 2 ^ m ≤ bit_xor (2 * a) P = reaches m (bit_xor (2 * a) P) (xor_shr (2 * a) P m ∙ ap₂ bit_xor zero top) in
          let below : 2 * a < 2 ^ m = below_from_div (2 * a) m zero in
          min-eq_left (omega (arith, below, above)) ∙ raise_low m P a h ne
    ]

pub returns-clause-product : goal.returns-clause-product
returns-clause-product c =
    let p = c.args.self in
    grind (arith, c.min.ensures, raised p.degree p.bits c.args.a p.shape c.requires, root_raises p.degree p.bits p.shape c.args.a c.requires, xor_comm, min_comm)

pub returns-clause-code : goal.returns-clause-code
returns-clause-code c =
    let p = c.args.self in
    grind (arith, c.min.ensures, raised p.degree p.bits c.args.a p.shape c.requires, raise_below p.degree p.bits p.shape c.args.a c.requires, xor_comm, min_comm)
