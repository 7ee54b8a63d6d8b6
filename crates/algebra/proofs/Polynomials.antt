-- Products of polynomials reduced by P, of degree m, make a commutative ring on the numbers below 2^m, whatever P is.
-- Reducing is linear, and x^i·a reduced is i products by x; so each law is shown at the powers of x.
use Rattle.std.proofs.Common.{◌≡◌, ℕ, zero, suc, ◌+◌, ◌-◌, ◌*◌, ◌/◌, ◌%◌, ◌^◌, ◌<◌, ◌≤◌, sym, refl, ap, ◌∙◌, add-zero, add-suc, mod-eq_of_lt, div-lt_iff_lt-mul, one-mul, pow-suc, zero-add, suc-add, zero-mul, mul-one, mul_left_comm, add-one, arith, pow_pos, pow_mono, shl_lt}
use native.Mathlib.Nat.{zero-div, pow-succ', div-eq_of_lt-le}
use lib.Bits.{bit_xor, xor_self, xor_zero_r, xor_shr, xor_comm, xor_assoc}
use lib.Pow.{pow-lt}
use Rattle.algebra.specs.Arith.{iterate}
use Rattle.algebra.specs.Binary.{bit, sum_over, carryless, remainder, Shape}
use Rattle.algebra.proofs.Bits.{bit_below, digit_cases, bit-xor, digits_xor, shl-xor, twice-xor, bit_above, bit-twice, below_from_div, div_top}
use Rattle.algebra.proofs.Walks.{iterate_first}
use Rattle.algebra.proofs.Linear.{Linear, over_map, over_same, over_sum, over_linear, over_below, over_terms, linear_terms}

-- the product of a and x: twice a, less P where there is a term x^m
unfoldable pub raise : ℕ → ℕ → ℕ → ℕ
raise m P a = bit_xor (2 * a) (bit (2 * a) m * P)

-- the product of two codes
abbrev pub reduced : ℕ → ℕ → ℕ → ℕ → ℕ
reduced m P a b = remainder m P (carryless a b m) m

shift_more : (a n : ℕ) → a * 2 ^ suc n ≡ 2 * (a * 2 ^ n)
shift_more a n = rw (pow-succ' 2 n) (omega arith)

module _ (m P : ℕ) where
  -- c, less q if it has bit k
  cut_linear : (k q : ℕ) → Linear (λ c. bit_xor c (bit c k * q))
  cut_linear k q a b = grind (arith, bit-xor a b k, digits_xor _ _ q (bit_below a k) (bit_below b k), xor_assoc, xor_comm)

  pub raise_linear : Linear (raise m P)
  unfolding raise
  raise_linear a b = rw (twice-xor a b) (cut_linear m P (2 * a) (2 * b))

  remainder_linear : (n : ℕ) → Linear (λ c. remainder m P c n)
  unfolding remainder
  remainder_linear zero a b = refl
  remainder_linear (suc n) a b = rw (cut_linear (m + n) (P * 2 ^ n) a b) (remainder_linear n _ _)

  remainder-twice : (n c : ℕ) → remainder m P (2 * c) (suc n) ≡ raise m P (remainder m P c n)
  unfolding remainder raise
  remainder-twice zero c = simp (add-zero, mul-one)
  remainder-twice (suc n) c = simp (add-suc, bit-twice, shift_more, mul_left_comm (bit c (m + n)) 2, ← twice-xor) (remainder-twice n _)

  remainder_shift : (n a : ℕ) → remainder m P (a * 2 ^ n) n ≡ iterate (raise m P) n a
  remainder_shift zero a = unfold remainder in mul-one a
  remainder_shift (suc n) a = rw (shift_more a n, remainder-twice n, remainder_shift n a)

  -- a division may begin above the polynomial
  remainder_short : (n c k : ℕ) → c < 2 ^ (m + n) → remainder m P c (k + n) ≡ remainder m P c n
  unfolding remainder
  remainder_short n c zero h = rw zero-add
  remainder_short n c (suc k) h =
      let more : m + n ≤ m + (k + n) = omega arith in
      let gone : bit c (m + (k + n)) ≡ 0 = bit_above c (m + (k + n)) (omega (arith, pow_mono more)) in
      let same : bit_xor c (bit c (m + (k + n)) * (P * 2 ^ (k + n))) ≡ c = simp (gone, zero-mul, xor_zero_r) in
      ap (remainder m P c) (suc-add k n) ∙ ap (λ v. remainder m P v (k + n)) same ∙ remainder_short n c k h

  remainder_power : (i a : ℕ) → i ≤ m → a < 2 ^ m → remainder m P (a * 2 ^ i) m ≡ iterate (raise m P) i a
  remainder_power i a h k = grind (arith, remainder_short i (a * 2 ^ i) (m - i) (shl_lt m i k), remainder_shift i a)

  -- the product as the sum of the x^i·a
  pub reduced_is : (a b : ℕ) → a < 2 ^ m → reduced m P a b ≡ sum_over (λ i. iterate (raise m P) i a) b m
  unfolding carryless
  reduced_is a b h =
      over_map (λ c. remainder m P c m) (remainder_linear m) (λ i. a * 2 ^ i) b m
      ∙ over_same (λ i. remainder m P (a * 2 ^ i) m) (λ i. iterate (raise m P) i a) b m (λ i k. remainder_power i a (omega arith) h)

  -- the product is linear in both
  pub reduced_right : (a : ℕ) → Linear (reduced m P a)
  unfolding carryless
  reduced_right a b c = rw (over_linear (λ i. a * 2 ^ i) m b c) (remainder_linear m _ _)

  reduced_left : (c : ℕ) → Linear (λ a. reduced m P a c)
  unfolding carryless
  reduced_left c a b =
      let terms = over_same _ (λ i. bit_xor (a * 2 ^ i) (b * 2 ^ i)) c m (λ i h. shl-xor a b i) in
      ap (λ v. remainder m P v m) (terms ∙ over_sum (λ i. a * 2 ^ i) (λ i. b * 2 ^ i) c m)
      ∙ remainder_linear m _ _

  module _ (shape : Shape m P) where
    -- a digit times P has that digit as its top
    pub digit_top : (s : ℕ) → s < 2 → s * P / 2 ^ m ≡ s
    digit_top s h =
        let top : P / 2 ^ m ≡ 1 = div-eq_of_lt-le (2 ^ m) (omega (arith, shape.2)) (omega (arith, shape.3, pow-suc 2 m)) in
        grind (arith, digit_cases s h, zero-mul, one-mul, zero-div (2 ^ m))

    pub raise_below : (a : ℕ) → a < 2 ^ m → raise m P a < 2 ^ m
    unfolding raise
    raise_below a h =
        below_from_div _ m (simp (xor_shr, div_top (2 * a) m (omega (arith, pow-suc 2 m)), digit_top (bit (2 * a) m) (bit_below (2 * a) m), xor_self))

    raised_below : (k a : ℕ) → a < 2 ^ m → iterate (raise m P) k a < 2 ^ m
    raised_below zero a h = h
    raised_below (suc k) a h = raise_below (iterate (raise m P) k a) (raised_below k a h)

    pub reduced_below : (a b : ℕ) → a < 2 ^ m → reduced m P a b < 2 ^ m
    reduced_below a b h = rw (reduced_is a b h) (over_below (λ i. iterate (raise m P) i a) b m m (λ i k. raised_below i a h))

    raised_one : (i : ℕ) → i < m → iterate (raise m P) i 1 ≡ 2 ^ i
    unfolding raise
    raised_one zero h = refl
    raised_one (suc i) h =
        ap (raise m P) (raised_one i (omega arith)) ∙ simp (← pow-succ' 2 i, bit_above (2 ^ suc i) m (pow-lt h), zero-mul, xor_zero_r)

    pub one_below : 1 < 2 ^ m
    one_below = pow-lt {i = 0} {j = m} (omega (arith, shape.0))

    one_reduced : (b : ℕ) → b < 2 ^ m → reduced m P 1 b ≡ b
    one_reduced b h = reduced_is 1 b one_below ∙ over_same _ (λ i. 2 ^ i) b m raised_one ∙ over_terms b m ∙ mod-eq_of_lt h

    raise_reduced : (a b : ℕ) → a < 2 ^ m → reduced m P (raise m P a) b ≡ raise m P (reduced m P a b)
    raise_reduced a b h =
        reduced_is (raise m P a) b (raise_below a h)
        ∙ over_same _ (λ i. raise m P (iterate (raise m P) i a)) b m (λ i k. iterate_first (raise m P) i a)
        ∙ sym (over_map (raise m P) raise_linear (λ i. iterate (raise m P) i a) b m) ∙ ap (raise m P) (sym (reduced_is a b h))

    raised_reduced : (k a b : ℕ) → a < 2 ^ m → reduced m P (iterate (raise m P) k a) b ≡ iterate (raise m P) k (reduced m P a b)
    raised_reduced zero a b h = refl
    raised_reduced (suc k) a b h = raise_reduced (iterate (raise m P) k a) b (raised_below k a h) ∙ ap (raise m P) (raised_reduced k a b h)

    -- x^i times b
    pub power_reduced : (i b : ℕ) → i < m → b < 2 ^ m → reduced m P (2 ^ i) b ≡ iterate (raise m P) i b
    power_reduced i b h k = cc (raised_one i h, raised_reduced i 1 b one_below, one_reduced b k)

    pub reduced_comm : (a b : ℕ) → a < 2 ^ m → b < 2 ^ m → reduced m P a b ≡ reduced m P b a
    reduced_comm a b h k =
        linear_terms (λ v. reduced m P v b) (reduced_left b) a m h
        ∙ over_same (λ i. reduced m P (2 ^ i) b) (λ i. iterate (raise m P) i b) a m (λ i l. power_reduced i b l k) ∙ sym (reduced_is b a k)

    pub reduced_one : (a : ℕ) → a < 2 ^ m → reduced m P a 1 ≡ a
    reduced_one a h = reduced_comm a 1 h one_below ∙ one_reduced a h

    pub reduced_assoc : (a b c : ℕ) → a < 2 ^ m → b < 2 ^ m → reduced m P (reduced m P a b) c ≡ reduced m P a (reduced m P b c)
    reduced_assoc a b c h k =
        let left : Linear (λ v. reduced m P (reduced m P v b) c) = λ u v. rw (reduced_left b u v) (reduced_left c _ _) in
        let low : reduced m P b c < 2 ^ m = reduced_below b c k in
        linear_terms (λ v. reduced m P (reduced m P v b) c) left a m h
        ∙ over_same _ (λ i. reduced m P (2 ^ i) (reduced m P b c)) a m
        (λ i l. cc (power_reduced i b l k, raised_reduced i b c k, power_reduced i (reduced m P b c) l low))
        ∙ sym (linear_terms (λ v. reduced m P v (reduced m P b c)) (reduced_left (reduced m P b c)) a m h)

-- the product by x as a program has it: twice a has the term x^m, or it has not
module _ (m P a : ℕ) where
  pub raise_high : 2 * a / 2 ^ m ≡ 1 → bit_xor (2 * a) P ≡ raise m P a
  unfolding raise bit
  raise_high e = simp (e, one-mul)

  pub raise_low : a < 2 ^ m → (2 * a / 2 ^ m ≡ 1 → ⊥) → 2 * a ≡ raise m P a
  unfolding raise bit
  raise_low h ne =
      let d : 2 * a / 2 ^ m < 2 = (div-lt_iff_lt-mul (pow_pos m)).1 (omega arith) in
      let e : 2 * a / 2 ^ m ≡ 0 = omega arith in
      simp (e, zero-mul, xor_zero_r)

-- the x^n·a and their sum over the terms x^n of b, as a program adds them up
module _ (m P a b : ℕ) where
  pub partial : ℕ → ℕ
  partial n = sum_over (λ k. iterate (raise m P) k a) b n

  pub raised_more : (n v : ℕ) → v ≡ iterate (raise m P) n a → raise m P v ≡ iterate (raise m P) (n + 1) a
  raised_more n v e = rw (e, add-one)

  pub partial_none : 0 ≡ partial 0
  unfolding partial sum_over
  partial_none = refl

  pub partial_term : (n v w : ℕ) → b / 2 ^ n % 2 ≡ 1 → v ≡ iterate (raise m P) n a → w ≡ partial n → bit_xor w v ≡ partial (n + 1)
  unfolding partial sum_over bit
  partial_term n v w t e d = rw add-one (simp (t, one-mul, d, e))

  pub partial_gap : (n w : ℕ) → (b / 2 ^ n % 2 ≡ 1 → ⊥) → w ≡ partial n → w ≡ partial (n + 1)
  unfolding partial sum_over bit
  partial_gap n w t d =
      let z : b / 2 ^ n % 2 ≡ 0 = omega arith in
      rw add-one (simp (z, zero-mul, xor_zero_r, d))

  pub partial_all : (n : ℕ) → n ≡ m → a < 2 ^ m → partial n ≡ reduced m P a b
  unfolding partial
  partial_all n e h = ap partial e ∙ sym (reduced_is m P a b h)
