-- Pigeonhole on the numbers below n.
use Rattle.std.proofs.Common.{◌≡◌, ℕ, zero, suc, ◌<◌, cond, eqb, ltb, inl, inr, arith}
use Rattle.std.proofs.lemmas.Bool.{eqb-true, eq-eqb}
use Rattle.std.proofs.lemmas.Bool.Decides.{nat_tests}
use Rattle.algebra.proofs.Searches.{first_finds}

-- no function is one to one from the numbers up to n into those below n
pub no_room : (n : ℕ) (f : ℕ → ℕ) → ((i : ℕ) → i < suc n → f i < n) → ((i j : ℕ) → i < suc n → j < suc n → f i ≡ f j → i ≡ j) → ⊥
no_room zero f into one = omega (arith, into 0 (omega arith))
no_room (suc n) f into one =
    -- n is the last hole; whoever has it takes the last pigeon's
    no_room n (λ i. cond (eqb (f i) n) (f (suc n)) (f i))
    (λ i h. grind (arith, nat_tests, into i, into (suc n), one i (suc n)))
    (λ i j hi hj e. grind (arith, nat_tests, one i j, one i (suc n), one j (suc n)))

-- one to one from the numbers below n into themselves: every number below n is a value
pub onto : (n : ℕ) (f : ℕ → ℕ) → ((i : ℕ) → i < n → f i < n) → ((i j : ℕ) → i < n → j < n → f i ≡ f j → i ≡ j) → (y : ℕ) → y < n → (i : ℕ) × (i < n) × (f i ≡ y)
onto n f into one y hy =
    elim (first_finds (λ i. eqb (f i) y) n 0) [
      | inl s ↦ (_, omega (arith, s.1), eqb-true _ _ s.2)
      | inr none ↦
          let no : (i : ℕ) → i < n → f i ≡ y → ⊥ = λ i l e. none i (omega arith) (omega arith) (eq-eqb _ _ e) in
          absurd (no_room n (λ i. cond (ltb i n) (f i) y)
          (λ i h. grind (arith, nat_tests, into i))
          (λ i j hi hj e. grind (arith, nat_tests, one i j, no i, no j)))
    ]
