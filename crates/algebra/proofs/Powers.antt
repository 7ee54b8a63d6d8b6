-- Powers in a ring of codes: of a sum of exponents, of a product, by squares.
use Rattle.std.proofs.Common.{◌≡◌, ℕ, zero, suc, ◌+◌, ◌/◌, ◌%◌, ◌<◌, sym, refl, ap, ◌∙◌, inl, inr, arith}
use native.Mathlib.Nat as nat
use Rattle.std.proofs.lemmas.Bool.{cases_lt}
use Rattle.algebra.specs.Arith.{Arith, Ring, power}

module _ (A : Arith) (R : Ring A) where
  pub one_code : 1 < A.size
  one_code = let h = R.size_low in omega arith

  pub zero_code : 0 < A.size
  zero_code = let h = R.size_low in omega arith

  pub power_code : (a n : ℕ) → power A.mul a n < A.size
  power_code a zero = one_code
  power_code a (suc n) = R.mul_code a (power A.mul a n)

  -- commutative for all numbers, since one that is no code gives 0
  pub mul_comm : (a b : ℕ) → A.mul a b ≡ A.mul b a
  mul_comm a b = grind (arith, R.mul_comm, R.mul_outside_left, R.mul_outside_right, cases_lt a A.size, cases_lt b A.size)

  -- a code with a + a = a is 0, so a * 0 = 0
  pub mul-zero : (a : ℕ) → A.mul a 0 ≡ 0
  mul-zero a =
      elim (cases_lt a A.size) [
        | inr h ↦ R.mul_outside_left a 0 h
        | inl h ↦
            let m = A.mul a 0 in
            let mc = R.mul_code a 0 in
            let twice = R.mul-add a 0 0 h zero_code zero_code in
            cc (twice, R.add-zero 0 zero_code, R.add-zero m mc, R.add-neg m mc, R.add_assoc m m (A.neg m) mc mc (R.neg_code m))
      ]

  pub zero-mul : (a : ℕ) → A.mul 0 a ≡ 0
  zero-mul a = mul_comm 0 a ∙ mul-zero a

  -- associative for all numbers, since one that is no code gives 0
  pub mul_assoc : (a b c : ℕ) → A.mul (A.mul a b) c ≡ A.mul a (A.mul b c)
  mul_assoc a b c =
      grind (arith, R.mul_assoc, R.mul_outside_left, R.mul_outside_right, mul-zero, zero-mul, cases_lt a A.size, cases_lt b A.size, cases_lt c A.size)

  pub one-mul : (a : ℕ) → a < A.size → A.mul 1 a ≡ a
  one-mul a h = mul_comm 1 a ∙ R.mul-one a h

  pub power-add : (a m n : ℕ) → power A.mul a (m + n) ≡ A.mul (power A.mul a m) (power A.mul a n)
  power-add a zero n = ap (power A.mul a) (omega arith) ∙ sym (one-mul (power A.mul a n) (power_code a n))
  power-add a (suc m) n = ap (power A.mul a) (nat.suc-add m n) ∙ simp (power-add a m n, mul_assoc)

  pub power-mul : (a b n : ℕ) → power A.mul (A.mul a b) n ≡ A.mul (power A.mul a n) (power A.mul b n)
  power-mul a b zero = sym (R.mul-one 1 one_code)
  power-mul a b (suc n) = grind (arith, power-mul a b n, mul_assoc, mul_comm)

  pub power_of_one : (n : ℕ) → power A.mul 1 n ≡ 1
  power_of_one zero = refl
  power_of_one (suc n) = ap (A.mul 1) (power_of_one n) ∙ R.mul-one 1 one_code

  -- one turn of a loop by squares, at an even and at an odd exponent: p * s ^ k stays
  pub turn_even : (p s k : ℕ) → (k % 2 ≡ 1 → ⊥) → A.mul p (power A.mul (A.mul s s) (k / 2)) ≡ A.mul p (power A.mul s k)
  turn_even p s k even = let e : k / 2 + k / 2 ≡ k = omega arith in rw (power-mul, ← power-add, e)

  pub turn_odd : (p s k : ℕ) → k % 2 ≡ 1 → A.mul (A.mul p s) (power A.mul (A.mul s s) (k / 2)) ≡ A.mul p (power A.mul s k)
  turn_odd p s k odd = let e : suc (k / 2 + k / 2) ≡ k = omega arith in rw (power-mul, ← power-add, mul_assoc) (ap (λ n. A.mul p (power A.mul s n)) e)
