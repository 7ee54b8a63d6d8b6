-- Exclusive or: what is added twice, bits, digits and shifts.
use Rattle.std.proofs.Common.{◌≡◌, ℕ, suc, ◌*◌, ◌/◌, ◌^◌, ◌<◌, ◌⊎◌, one-mul, zero-mul, arith, lit<}
use native.Mathlib.Nat.{mul-div-mul_left, pow-succ', div-eq_of_lt}
use lib.Bits.{bit_xor, xor_assoc, xor_self, xor_zero_r, xor_zero_l, xor_shr, xor_mod, xor_block}
use Rattle.std.proofs.lemmas.Nat.{pow_pos, shr_below}
use Rattle.algebra.specs.Binary.{bit}

-- what is added twice is gone
pub xor_back : (a b : ℕ) → bit_xor (bit_xor a b) b ≡ a
xor_back a b = simp (xor_assoc, xor_self, xor_zero_r)

-- numbers whose sum is 0 are equal
pub xor_equal : (a b : ℕ) → bit_xor a b ≡ 0 → a ≡ b
xor_equal a b e = cc (xor_back a b, xor_zero_l b)

pub bit_below : (a i : ℕ) → bit a i < 2
unfolding bit
bit_below a i = omega arith

pub bit-xor : (a b i : ℕ) → bit (bit_xor a b) i ≡ bit_xor (bit a i) (bit b i)
unfolding bit
bit-xor a b i = rw (xor_shr a b i) (xor_mod (a / 2 ^ i) (b / 2 ^ i) 1)

pub digit_cases : (s : ℕ) → s < 2 → (s ≡ 0) ⊎ (s ≡ 1)
digit_cases s h = grind arith

-- a digit times a sum, and a sum of digits times a number
pub digit_xor : (s a b : ℕ) → s < 2 → s * bit_xor a b ≡ bit_xor (s * a) (s * b)
digit_xor s a b h = grind (arith, digit_cases s h, xor_zero_l, zero-mul, one-mul)

pub digits_xor : (s t q : ℕ) → s < 2 → t < 2 → bit_xor s t * q ≡ bit_xor (s * q) (t * q)
digits_xor s t q h k = grind (arith, digit_cases s h, digit_cases t k, xor_zero_l, xor_zero_r, xor_self, zero-mul, one-mul)

-- a digit times a number is no larger
pub digit_below : (s v k : ℕ) → s < 2 → v < k → s * v < k
digit_below s v k h l = grind (arith, digit_cases s h, zero-mul, one-mul)

pub shl-xor : (a b k : ℕ) → bit_xor a b * 2 ^ k ≡ bit_xor (a * 2 ^ k) (b * 2 ^ k)
shl-xor a b k = grind (arith, xor_block k a b 0 0, pow_pos k, xor_self)

pub twice-xor : (a b : ℕ) → 2 * bit_xor a b ≡ bit_xor (2 * a) (2 * b)
twice-xor a b = grind (arith, shl-xor a b 1)

-- above its length a number has no bits
pub bit_above : (a i : ℕ) → a < 2 ^ i → bit a i ≡ 0
unfolding bit
bit_above a i h = simp (div-eq_of_lt h)

-- the bits of twice a
pub bit-twice : (a i : ℕ) → bit (2 * a) (suc i) ≡ bit a i
unfolding bit
bit-twice a i = rw (pow-succ' 2 i, mul-div-mul_left a (2 ^ i) (lit< tt))

-- a number with nothing from bit i on is below 2^i
pub below_from_div : (a i : ℕ) → a / 2 ^ i ≡ 0 → a < 2 ^ i
below_from_div a i e = grind (arith, pow_pos i)

-- the top bit of a number of i + 1 bits
pub div_top : (a i : ℕ) → a < 2 ^ suc i → a / 2 ^ i ≡ bit a i
unfolding bit
div_top a i h = grind (arith, shr_below a 1 i)
