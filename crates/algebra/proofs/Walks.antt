-- A walk from 1 by a step that first returns to 1 at n: its n places are all different and not 0, and where n is
-- the number of codes but 0 every such code is one of them. The step is the product by a root, in any field.
use Rattle.std.proofs.Common.{◌≡◌, ℕ, zero, suc, pred, ◌+◌, ◌-◌, ◌<◌, ◌≤◌, eqb, refl, ap, ◌∙◌, arith}
use native.Mathlib.Nat as nat
use Rattle.std.proofs.lemmas.Bool.{eqb-true, eq-eqb}
use Rattle.algebra.specs.Arith.{iterate}
use Rattle.algebra.specs.Search.{first, Returns}
use Rattle.algebra.proofs.Pigeon.{onto}
use Rattle.algebra.proofs.Searches.{first_is}

module _ (step : ℕ → ℕ) where
  pub iterate_first : (n x : ℕ) → iterate step n (step x) ≡ step (iterate step n x)
  iterate_first zero x = refl
  iterate_first (suc n) x = ap step (iterate_first n x)

  pub iterate-add : (m n x : ℕ) → iterate step (m + n) x ≡ iterate step m (iterate step n x)
  iterate-add zero n x = grind arith
  iterate-add (suc m) n x = ap (λ k. iterate step k x) (nat.suc-add m n) ∙ ap step (iterate-add m n x)

  iterate_fixed : (x : ℕ) → step x ≡ x → (n : ℕ) → iterate step n x ≡ x
  iterate_fixed x e zero = refl
  iterate_fixed x e (suc n) = ap step (iterate_fixed x e n) ∙ e

  -- no return up to n, and none at n
  pub not_yet : (n x : ℕ) → x ≡ iterate step n 1 → (x ≡ 1 → ⊥) → ((k : ℕ) → 0 < k → k < n → iterate step k 1 ≡ 1 → ⊥) → (k : ℕ) → 0 < k → k < n + 1 → iterate step k 1 ≡ 1 → ⊥
  not_yet n x is ne before k pos h e = grind (arith, before k)

  -- the search for the first return finds it
  pub first_return : (n bound : ℕ) → Returns step n → n ≤ bound → first (λ e. eqb (iterate step e 1) 1) 1 bound ≡ n
  first_return n bound ret low =
      first_is (λ e. eqb (iterate step e 1) 1) bound 1 n ret.0 (omega arith) (eq-eqb _ _ ret.1) (λ j pos h e. ret.2 j pos h (eqb-true _ _ e))

module _ (step : ℕ → ℕ) (n : ℕ) (ret : Returns step n) where
  -- from place i on to the end of the round
  home : (i : ℕ) → i ≤ n → iterate step (n - i) (iterate step i 1) ≡ 1
  home i h = grind (arith, iterate-add step (n - i) i 1)

  pub different : (i j : ℕ) → i < n → j < n → iterate step i 1 ≡ iterate step j 1 → i ≡ j
  different i j hi hj e =
      let sum = iterate-add step in
      grind (arith, ret.2 (j - i), ret.2 (i - j), home i, home j, sum (n - i) j 1, sum (n - j) i 1, sum (j - i) n 1, sum (i - j) n 1)

  no_zero : step 0 ≡ 0 → (i : ℕ) → i < n → iterate step i 1 ≡ 0 → ⊥
  no_zero zero-stays i hi e = grind (arith, home i, iterate_fixed step 0 zero-stays (n - i))

  pub reaches : step 0 ≡ 0 → ((i : ℕ) → iterate step i 1 ≤ n) → (a : ℕ) → a ≤ n → (a ≡ 0 → ⊥) → (i : ℕ) × (i < n) × (iterate step i 1 ≡ a)
  reaches zero-stays code a ha ne =
      let s = onto n (λ i. pred (iterate step i 1))
      (λ i hi. omega (arith, code i, no_zero zero-stays i hi))
      (λ i j hi hj e. different i j hi hj (omega (arith, no_zero zero-stays i hi, no_zero zero-stays j hj)))
      (pred a) (omega arith) in
      (s.0, s.1, omega (arith, no_zero zero-stays s.0 s.1))
