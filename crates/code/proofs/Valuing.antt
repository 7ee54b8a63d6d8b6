-- Check values one point after the other.
use Rattle.std.proofs.lemmas.Grind.{common_steps}
use Rattle.std.proofs.Common.{◌≡◌, ℕ, ◌+◌, ◌<◌, List, [], ◌∷◌, ◌++◌, map, length, take, set, sym, ◌∙◌, ap₂, arith}
use Rattle.std.specs.List.{range_with_len}
use Rattle.std.proofs.lemmas.List.FromFn.{map-range_with_len_more}
use Rattle.std.proofs.lemmas.List.{take_more_set}
use Rattle.algebra.specs.Arith.{Arith}
use Rattle.algebra.specs.Words.{value}
use Rattle.algebra.specs.BlockCode.{ops, root_power}

-- one more check value, and the next point
module _ (A : Arith) (b : ℕ) (word : List ℕ) where
  abbrev check : ℕ → ℕ
  check j = value (ops A) word (root_power A (b + j))

  pub next_point : (i root point next : ℕ) → root ≡ A.root → point ≡ root_power A (b + i) → next ≡ A.mul root point → next ≡ root_power A (b + (i + 1))
  next_point i root point next r p n = grind (arith, common_steps)

  pub one_more_check : (list : List ℕ) (i y : ℕ) → i < length list → y ≡ check i → take i list ≡ map check (range_with_len 0 i) → take (i + 1) (set list i y) ≡ map check (range_with_len 0 (i + 1))
  one_more_check list i y h e before =
      take_more_set list i y h ∙ ap₂ (λ done z. done ++ (z ∷ [])) before e ∙ sym (map-range_with_len_more check 0 i i (omega arith))
