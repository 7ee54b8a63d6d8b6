-- The first number that passes a test, and the first return of a walk.
use Rattle.std.specs.Prelude.{◌≡◌, ℕ, zero, suc, ◌<◌, Bool, true, false, ◌≢◌, nat_eq}
use Rattle.algebra.specs.Arith.{Arith, iterate, power}

-- the first of the n numbers from i on that passes, and 0 where none does
unfoldable pub first : (ℕ → Bool) → ℕ → ℕ → ℕ
first test i zero = 0
first test i (suc n) = elim (test i) [ true ↦ i | false ↦ first test (suc i) n ]

-- the first exponent from 1 to the order at which the root's power is 1
abbrev pub root_return : Arith → ℕ
root_return A = first (λ e. nat_eq (power A.mul A.root e) 1) 1 A.order

-- the walk 1, step 1, step (step 1), .. comes back to 1 after n steps, and not before
abbrev pub Returns : (ℕ → ℕ) → ℕ → Type 0
Returns step n = (0 < n) × (iterate step n 1 ≡ 1) × ((k : ℕ) → 0 < k → k < n → iterate step k 1 ≢ 1)
