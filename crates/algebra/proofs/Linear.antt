-- Maps that keep sums, and sums over the terms of a polynomial.
use Rattle.std.proofs.Common.{◌≡◌, ℕ, zero, suc, ◌*◌, ◌/◌, ◌%◌, ◌^◌, ◌<◌, sym, refl, ap, ◌∙◌, mod-eq_of_lt, one-mul, zero-mul, arith}
use native.Mathlib.Nat.{mod-one}
use lib.Bits.{bit_xor, xor_self, xor_lt, xor_shifted, xor_comm, xor_assoc}
use Rattle.std.proofs.lemmas.Nat.{pow_pos, mod-pow-add}
use Rattle.algebra.specs.Binary.{bit, sum_over}
use Rattle.algebra.proofs.Bits.{bit_below, digit_cases, bit-xor, digit_xor, digits_xor, digit_below}

-- f keeps sums
abbrev pub Linear : (ℕ → ℕ) → Type 0
Linear f = (a b : ℕ) → f (bit_xor a b) ≡ bit_xor (f a) (f b)

pub linear_zero : (f : ℕ → ℕ) → Linear f → f 0 ≡ 0
linear_zero f h = h 0 0 ∙ xor_self (f 0)

pub linear_digit : (f : ℕ → ℕ) → Linear f → (s a : ℕ) → s < 2 → f (s * a) ≡ s * f a
linear_digit f h s a k = grind (arith, digit_cases s k, linear_zero f h, zero-mul, one-mul)

pub over_map : (g : ℕ → ℕ) → Linear g → (f : ℕ → ℕ) (b n : ℕ) → g (sum_over f b n) ≡ sum_over (λ i. g (f i)) b n
unfolding sum_over
over_map g h f b zero = linear_zero g h
over_map g h f b (suc n) = cc (h (sum_over f b n) (bit b n * f n), over_map g h f b n, linear_digit g h (bit b n) (f n) (bit_below b n))

pub over_same : (f g : ℕ → ℕ) (b n : ℕ) → ((i : ℕ) → i < n → f i ≡ g i) → sum_over f b n ≡ sum_over g b n
unfolding sum_over
over_same f g b zero h = refl
over_same f g b (suc n) h = cc (over_same f g b n (λ i k. h i (omega arith)), h n (omega arith))

pub over_sum : (f g : ℕ → ℕ) (b n : ℕ) → sum_over (λ i. bit_xor (f i) (g i)) b n ≡ bit_xor (sum_over f b n) (sum_over g b n)
unfolding sum_over
over_sum f g b zero = refl
over_sum f g b (suc n) = grind (arith, over_sum f g b n, digit_xor (bit b n) (f n) (g n) (bit_below b n), xor_assoc, xor_comm)

pub over_linear : (f : ℕ → ℕ) (n : ℕ) → Linear (λ b. sum_over f b n)
unfolding sum_over
over_linear f zero a b = refl
over_linear f (suc n) a b = grind (arith, over_linear f n a b, bit-xor a b n, digits_xor _ _ (f n) (bit_below a n) (bit_below b n), xor_assoc, xor_comm)

pub over_below : (f : ℕ → ℕ) (b n k : ℕ) → ((i : ℕ) → i < n → f i < 2 ^ k) → sum_over f b n < 2 ^ k
unfolding sum_over
over_below f b zero k h = pow_pos k
over_below f b (suc n) k h =
    xor_lt k (sum_over f b n) (bit b n * f n) (over_below f b n k (λ i l. h i (omega arith))) (digit_below _ _ _ (bit_below b n) (h n (omega arith)))

-- a number is the sum of its own terms
pub over_terms : (b n : ℕ) → sum_over (λ i. 2 ^ i) b n ≡ b % 2 ^ n
unfolding sum_over bit
over_terms b zero = sym (mod-one b)
over_terms b (suc n) = grind (arith, over_terms b n, xor_comm, xor_shifted (b / 2 ^ n % 2) n (b % 2 ^ n), pow_pos n, mod-pow-add b 1 n)

-- so a linear map is known from its values at the powers of two
pub linear_terms : (f : ℕ → ℕ) → Linear f → (a n : ℕ) → a < 2 ^ n → f a ≡ sum_over (λ i. f (2 ^ i)) a n
linear_terms f h a n k = ap f (sym (over_terms a n ∙ mod-eq_of_lt k)) ∙ over_map f h (λ i. 2 ^ i) a n
