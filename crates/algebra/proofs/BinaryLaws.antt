-- The binary field by P, of degree m, is a ring, and a field where the powers of x first return to 1 at 2^m - 1.
use Rattle.std.proofs.Common.{◌≡◌, ℕ, ◌-◌, ◌^◌, ◌<◌, ◌≤◌, refl, ◌∙◌, arith, pow_mono}
use lib.Bits.{bit_xor, xor_lt, xor_comm, xor_assoc, xor_zero_r, xor_self}
use Rattle.std.proofs.lemmas.Bool.Decides.{nat_tests}
use Rattle.algebra.specs.Arith.{Ring, Laws}
use Rattle.algebra.specs.Search.{Returns}
use Rattle.algebra.specs.Binary.{binary, Shape}
use Rattle.algebra.proofs.Guarded.{ring_on_codes}
use Rattle.algebra.proofs.Cyclic.{field_laws}
use Rattle.algebra.proofs.Polynomials.{raise, reduced, reduced_below, reduced_comm, reduced_one, reduced_assoc, reduced_right, power_reduced}

module _ (m P : ℕ) (shape : Shape m P) where
  pub four_codes : 4 ≤ 2 ^ m
  four_codes = pow_mono shape.0

  pub binary_ring : Ring (binary m P)
  binary_ring = ring_on_codes (2 ^ m) 2 (2 ^ m - 1) 2 bit_xor (λ a. a) (reduced m P) (omega (arith, four_codes)) (pow_mono shape.1) (record {
    sum_below = xor_lt m;
    negative_below = λ a h. h;
    product_below = λ a b ha _. reduced_below m P shape a b ha;
    sum_comm = xor_comm;
    sum_assoc = λ a b c _ _ _. xor_assoc a b c;
    sum-zero = λ a _. xor_zero_r a;
    sum_negative = λ a _. xor_self a;
    product_comm = reduced_comm m P shape;
    product_assoc = λ a b c ha hb _. reduced_assoc m P shape a b c ha hb;
    product_one = reduced_one m P shape;
    product_sum = λ a b c _ _ _. reduced_right m P a b c;
  })

  pub mul_is : (a b : ℕ) → a < 2 ^ m → b < 2 ^ m → (binary m P).mul a b ≡ reduced m P a b
  mul_is a b ha hb = grind (arith, nat_tests)

  -- the product by the root is the product by x
  pub root_raises : (a : ℕ) → a < 2 ^ m → (binary m P).mul 2 a ≡ raise m P a
  root_raises a h = mul_is 2 a (omega (arith, four_codes)) h ∙ power_reduced m P shape 1 a (omega (arith, shape.0)) h

  pub binary_laws : Returns ((binary m P).mul 2) (2 ^ m - 1) → Laws (binary m P)
  binary_laws ret =
      let four = four_codes in
      field_laws (binary m P) binary_ring (omega arith) ret (omega arith) (λ a. refl) (omega arith) (omega arith)
      (λ a h. let z : a ≡ 0 = omega arith in rw z (grind (arith, nat_tests)))
      (λ a h. let z : a ≡ 1 = omega arith in rw z (grind (arith, nat_tests)))
