-- The remainder of the division by P is one: it is below x^m, and with a multiple of P it makes up what was divided.
use Rattle.std.proofs.Common.{◌≡◌, ℕ, zero, suc, ◌+◌, ◌*◌, ◌/◌, ◌^◌, ◌<◌, ◌≤◌, refl, add-zero, add-suc, mul_assoc, one-mul, zero-mul, arith, pow_pos, pow_mono, pow-add, shl_lt}
use native.Mathlib.Nat.{pow-succ', mul-div-mul_right}
use lib.Bits.{bit_xor, xor_self, xor_zero_r, xor_shr, xor_lt, xor_comm, xor_assoc}
use Rattle.std.proofs.lemmas.Nat.Bits.{bit_at-pow_same, bit_at-pow_other}
use Rattle.algebra.specs.Binary.{bit, sum_over, carryless, remainder, Shape, ProductIsRemainder}
use Rattle.algebra.proofs.Bits.{xor_back, bit_below, bit_above, below_from_div, div_top, digit_below}
use Rattle.algebra.proofs.Linear.{linear_digit, over_linear, over_below}
use Rattle.algebra.proofs.Polynomials.{digit_top}
use Rattle.algebra.proofs.BinaryLaws.{mul_is}

over_none : (f : ℕ → ℕ) (b n : ℕ) → ((i : ℕ) → i < n → bit b i ≡ 0) → sum_over f b n ≡ 0
unfolding sum_over
over_none f b zero h = refl
over_none f b (suc n) h = simp (over_none f b n (λ i k. h i (omega arith)), h n (omega arith), zero-mul)

-- the product with x^n
times_power : (P n : ℕ) → carryless P (2 ^ n) (suc n) ≡ P * 2 ^ n
unfolding carryless sum_over
times_power P n =
    let none = over_none (λ i. P * 2 ^ i) (2 ^ n) n (λ i h. unfold bit in bit_at-pow_other n i (omega arith)) in
    let one : bit (2 ^ n) n ≡ 1 = unfold bit in bit_at-pow_same n in
    simp (none, one, one-mul)

times_short : (P q n : ℕ) → q < 2 ^ n → carryless P q (suc n) ≡ carryless P q n
unfolding carryless sum_over
times_short P q n h = simp (bit_above q n h, zero-mul, xor_zero_r)

-- one more term of the quotient
times_more : (P q s n : ℕ) → q < 2 ^ n → s < 2 → carryless P (bit_xor q (s * 2 ^ n)) (suc n) ≡ bit_xor (carryless P q n) (s * (P * 2 ^ n))
unfolding carryless
times_more P q s n h k =
    let sums = over_linear (λ i. P * 2 ^ i) (suc n) in
    cc (sums q (s * 2 ^ n), times_short P q n h, linear_digit (λ v. carryless P v (suc n)) sums s (2 ^ n) k, times_power P n)

-- one step of the division takes the top term away
cut_below : (m P n c : ℕ) → Shape m P → c < 2 ^ (m + suc n) → bit_xor c (bit c (m + n) * (P * 2 ^ n)) < 2 ^ (m + n)
cut_below m P n c shape h =
    let s = bit c (m + n) in
    let d : s * (P * 2 ^ n) / 2 ^ (m + n) ≡ s =
    rw (← mul_assoc, pow-add 2 m n, mul-div-mul_right (s * P) (2 ^ m) (pow_pos n)) (digit_top m P shape s (bit_below c (m + n))) in
    below_from_div _ (m + n) (rw (xor_shr, div_top c (m + n) (rw add-suc at h), d) (xor_self s))

divides : (m P n c : ℕ) → Shape m P → c < 2 ^ (m + n)
    → (remainder m P c n < 2 ^ m) × ((q : ℕ) × (q < 2 ^ n) × (c ≡ bit_xor (carryless P q n) (remainder m P c n)))
unfolding remainder carryless sum_over
divides m P zero c shape h = (rw add-zero at h, (0, omega arith, refl))
divides m P (suc n) c shape h =
    let s = bit c (m + n) in
    let low : s < 2 = bit_below c (m + n) in
    let t = divides m P n (bit_xor c (s * (P * 2 ^ n))) shape (cut_below m P n c shape h) in
    let q = t.1.0 in (
      t.0,
      (
        bit_xor q (s * 2 ^ n),
        xor_lt (suc n) q (s * 2 ^ n) (omega (arith, t.1.1, pow-succ' 2 n)) (digit_below s (2 ^ n) (2 ^ suc n) low (omega (arith, pow-succ' 2 n, pow_pos n))),
        grind (arith, xor_back c (s * (P * 2 ^ n)), t.1.2, times_more P q s n t.1.1 low, xor_assoc, xor_comm),
      ),
    )

-- a product of codes is below x^(2m)
times_below : (m a b : ℕ) → a < 2 ^ m → carryless a b m < 2 ^ (m + m)
unfolding carryless
times_below m a b h = over_below (λ i. a * 2 ^ i) b m (m + m) (λ i k. let more : m + i ≤ m + m = omega arith in omega (arith, shl_lt m i h, pow_mono more))

pub product_is_remainder : ProductIsRemainder
product_is_remainder m P shape a b ha hb = rw (mul_is m P shape a b ha hb) (divides m P m (carryless a b m) shape (times_below m a b ha))
