-- First returns that are computed, one step after the other.
use Rattle.std.proofs.Common.{◌≡◌, ℕ, zero, suc, ◌-◌, ◌<◌, Bool, true, not, ◌&&◌, eqb, sym, refl, ◌∙◌, arith}
use Rattle.std.proofs.lemmas.Bool.{eqb-true}
use Rattle.std.proofs.lemmas.Bool.Decides.{nat_tests}
use Rattle.algebra.specs.Arith.{iterate}
use Rattle.algebra.specs.Search.{Returns}
use Rattle.algebra.specs.Codes.{modulo}
use Rattle.algebra.proofs.Walks.{iterate_first}

-- from x on, `step` makes 1 after k steps, and not before
abbrev pub comes_back : (ℕ → ℕ) → ℕ → ℕ → Bool
comes_back step zero x = eqb x 1
comes_back step (suc k) x = not (eqb x 1) && comes_back step k (step x)

module _ (step : ℕ → ℕ) where
  not_before : (k x : ℕ) → comes_back step k x ≡ true → (j : ℕ) → j < k → iterate step j x ≡ 1 → ⊥
  not_before zero x t j h e = omega arith
  not_before (suc k) x t zero h e = grind (arith, nat_tests)
  not_before (suc k) x t (suc j) h e = grind (arith, nat_tests, not_before k (step x), iterate_first step j x)

  at_last : (k x : ℕ) → comes_back step k x ≡ true → iterate step k x ≡ 1
  at_last zero x t = eqb-true x 1 t
  at_last (suc k) x t = grind (arith, nat_tests, at_last k (step x), iterate_first step k x)

  pub returns_by : (n : ℕ) → comes_back step n (step 1) ≡ true → Returns step (suc n)
  returns_by n t =
      let last = sym (iterate_first step n 1) ∙ at_last n (step 1) t in
      (omega arith, last, λ k pos h e. grind (arith, not_before n (step 1) t (k - 1), iterate_first step (k - 1) 1))

pub returns_929 : Returns ((modulo 929 3).mul 3) 928
returns_929 = returns_by ((modulo 929 3).mul 3) 927 refl
