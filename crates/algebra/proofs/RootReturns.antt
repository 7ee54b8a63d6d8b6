-- An odd P of degree m: the product by x is one to one, so the powers of x return to 1, at 2^m - 1 or before.
use Rattle.std.proofs.Common.{◌≡◌, ℕ, zero, suc, pred, ◌+◌, ◌-◌, ◌*◌, ◌%◌, ◌^◌, ◌<◌, eqb, sym, ap, ◌∙◌, inl, inr, arith, pow_pos}
use native.Mathlib.Nat as nat
use lib.Bits.{bit_xor, xor_self}
use Rattle.std.proofs.lemmas.Bool.{eqb-true, eq-eqb}
use Rattle.algebra.specs.Arith.{iterate}
use Rattle.algebra.specs.Binary.{bit, binary, Shape, RootReturns}
use Rattle.algebra.proofs.Bits.{xor_equal, bit_below, digit_cases}
use Rattle.algebra.proofs.Pigeon.{no_room}
use Rattle.algebra.proofs.Powers.{power_code}
use Rattle.algebra.proofs.Searches.{first_finds}
use Rattle.algebra.proofs.Polynomials.{raise, raise_linear}
use Rattle.algebra.proofs.BinaryLaws.{binary_ring, root_raises}

module _ (m P : ℕ) (shape : Shape m P) (odd : P % 2 ≡ 1) where
  -- no code but 0 is taken to 0: twice a code is even
  raise_kernel : (a : ℕ) → raise m P a ≡ 0 → a ≡ 0
  unfolding raise
  raise_kernel a e =
      let same = xor_equal (2 * a) (bit (2 * a) m * P) e in
      elim (digit_cases _ (bit_below (2 * a) m)) [ inl z ↦ omega (arith, rw z at same) | inr one ↦ omega (arith, rw one at same) ]

  raise_apart : (a b : ℕ) → raise m P a ≡ raise m P b → a ≡ b
  raise_apart a b e = xor_equal a b (raise_kernel (bit_xor a b) (rw (raise_linear m P, e) (xor_self (raise m P b))))

  -- the powers of x
  abbrev walk : ℕ → ℕ
  walk k = iterate ((binary m P).mul 2) k 1

  walk_code : (k : ℕ) → walk k < 2 ^ m
  walk_code k = power_code (binary m P) (binary_ring m P shape) 2 k

  walk_next : (k : ℕ) → walk (suc k) ≡ raise m P (walk k)
  walk_next k = root_raises m P shape (walk k) (walk_code k)

  walk_nonzero : (k : ℕ) → walk k ≡ 0 → ⊥
  walk_nonzero zero e = omega arith
  walk_nonzero (suc k) e = walk_nonzero k (raise_kernel (walk k) (sym (walk_next k) ∙ e))

  -- equal powers, taken back to 1
  walk_back : (i j : ℕ) → walk i ≡ walk (i + j) → walk j ≡ 1
  walk_back zero j e = grind arith
  walk_back (suc i) j e = walk_back i j (raise_apart (walk i) (walk (i + j)) (sym (walk_next i) ∙ e ∙ ap walk (nat.suc-add i j) ∙ walk_next (i + j)))

  -- not all powers from 1 to 2^m - 1 are other than 1
  pub returns_soon : ((k : ℕ) → 0 < k → k < 2 ^ m → walk k ≡ 1 → ⊥) → ⊥
  returns_soon never =
      no_room (2 ^ m - 1) (λ k. pred (walk k)) (λ k _. omega (arith, walk_code k, walk_nonzero k))
      (λ i j hi hj e. grind (arith, never (j - i), never (i - j), walk_back i (j - i), walk_back j (i - j), walk_nonzero i, walk_nonzero j))

pub root_returns : RootReturns
root_returns m P shape odd =
    elim (first_finds (λ e. eqb (iterate ((binary m P).mul 2) e 1) 1) (2 ^ m - 1) 1) [
      | inl f ↦ (f.0, eqb-true _ _ f.2, λ k pos h e. f.3 k pos h (eq-eqb _ _ e))
      | inr none ↦ absurd (returns_soon m P shape odd (λ k pos h e. none k pos (omega (arith, pow_pos m)) (eq-eqb _ _ e)))
    ]
