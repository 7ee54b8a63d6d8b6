-- What `first` finds.
use Rattle.std.proofs.Common.{◌≡◌, ℕ, zero, suc, ◌+◌, ◌<◌, ◌≤◌, Bool, true, ◌⊎◌, refl, inl, inr, arith}
use Rattle.std.proofs.lemmas.Bool.{cases_Bool, cases_eq}
use Rattle.algebra.specs.Search.{first}

module _ (test : ℕ → Bool) where
  -- it finds the number that passes where none before does
  pub first_is : (n i k : ℕ) → i ≤ k → k < i + n → test k ≡ true → ((j : ℕ) → i ≤ j → j < k → test j ≡ true → ⊥) → first test i n ≡ k
  unfolding first
  first_is zero i k low high passes before = absurd (omega arith)
  first_is (suc n) i k low high passes before =
      elim (cases_eq i k) [
        | inl same ↦ cc
        | inr other ↦
            let no = before i (omega arith) (omega arith) in
            let later = first_is n (suc i) k (omega arith) (omega arith) passes (λ j l h. before j (omega arith) h) in
            grind (arith, cases_Bool (test i))
      ]

  -- it answers 0 where none passes
  pub first_none : (n i : ℕ) → ((j : ℕ) → test j ≡ true → ⊥) → first test i n ≡ 0
  unfolding first
  first_none zero i never = refl
  first_none (suc n) i never = grind (arith, first_none n (suc i) never, never i)

  pub first_below : (n i q : ℕ) → 0 < q → i + n ≤ q → first test i n < q
  unfolding first
  first_below zero i q pos fits = pos
  first_below (suc n) i q pos fits = grind (arith, first_below n (suc i) q pos (omega arith))

  -- what it finds passes, and nothing before it does; or nothing passes
  abbrev Finds : ℕ → ℕ → ℕ → Type 0
  Finds i n k = (i ≤ k) × (k < i + n) × (test k ≡ true) × ((j : ℕ) → i ≤ j → j < k → test j ≡ true → ⊥)

  pub first_finds : (n i : ℕ) → Finds i n (first test i n) ⊎ ((j : ℕ) → i ≤ j → j < i + n → test j ≡ true → ⊥)
  unfolding first
  first_finds zero i = inr (λ j low high e. omega arith)
  first_finds (suc n) i = grind (arith, first_finds n (suc i), cases_Bool (test i))
