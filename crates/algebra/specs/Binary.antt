-- Polynomials over the two numbers 0 and 1, written as numbers: bit i is the coefficient of x^i, and a sum is an exclusive or.
-- The binary field of degree m: codes are polynomials below x^m, and products are reduced by a polynomial of degree m.
use Rattle.std.specs.Prelude.{◌≡◌, ℕ, zero, suc, ◌+◌, ◌-◌, ◌*◌, ◌/◌, ◌%◌, ◌^◌, ◌<◌, ◌≤◌, bit_xor}
use Rattle.algebra.specs.Arith.{Arith}
use Rattle.algebra.specs.Search.{Returns, root_return}
use Rattle.algebra.specs.Codes.{on_codes}

-- the coefficient of x^i in a
unfoldable pub bit : ℕ → ℕ → ℕ
bit a i = a / 2 ^ i % 2

-- the sum of f i over the terms x^i of b that are below x^n
unfoldable pub sum_over : (ℕ → ℕ) → ℕ → ℕ → ℕ
sum_over f b zero = 0
sum_over f b (suc n) = bit_xor (sum_over f b n) (bit b n * f n)

-- the product of a and b, where b is below x^n: the sum of a·x^i over the terms x^i of b
unfoldable pub carryless : ℕ → ℕ → ℕ → ℕ
carryless a b n = sum_over (λ i. a * 2 ^ i) b n

-- what the division by P, of degree m, leaves of c, which is below x^(m + n): while there is a term x^(m + i), x^i·P is taken away
unfoldable pub remainder : ℕ → ℕ → ℕ → ℕ → ℕ
remainder m P c zero = c
remainder m P c (suc n) = remainder m P (bit_xor c (bit c (m + n) * (P * 2 ^ n))) n

-- the binary field of degree m by the polynomial P
abbrev pub binary : ℕ → ℕ → Arith
binary m P = on_codes (2 ^ m) 2 (2 ^ m - 1) 2 bit_xor (λ a. a) (λ a b. remainder m P (carryless a b m) m)

-- P has the degree m, from 2 to 10
abbrev pub Shape : ℕ → ℕ → Type 0
Shape m P = (2 ≤ m) × (m ≤ 10) × (2 ^ m ≤ P) × (P < 2 ^ suc m)

-- the product of two codes is the remainder of their product as polynomials: it is below x^m, and with a multiple of P it
-- makes up that product
abbrev pub ProductIsRemainder : Type 0
ProductIsRemainder =
    (m P : ℕ) → Shape m P → (a b : ℕ) → a < 2 ^ m → b < 2 ^ m
    → ((binary m P).mul a b < 2 ^ m) × ((q : ℕ) × (q < 2 ^ m) × (carryless a b m ≡ bit_xor (carryless P q m) ((binary m P).mul a b)))

-- the powers of the root return to 1 where P is odd, and the search for the first return finds it
abbrev pub RootReturns : Type 0
RootReturns = (m P : ℕ) → Shape m P → P % 2 ≡ 1 → Returns ((binary m P).mul 2) (root_return (binary m P))
