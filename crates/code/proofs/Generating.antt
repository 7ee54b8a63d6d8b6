-- One more factor of the generator, multiplied in place.
use Rattle.std.proofs.Common.{◌≡◌, ℕ, suc, ◌+◌, ◌<◌, ◌≤◌, List, [], ◌∷◌, ◌++◌, map, length, get_or, take, drop, sym, refl, ap, ◌∙◌, ap₂, add-one, arith}
use Rattle.std.proofs.lemmas.List.{length_push, length-take-le, take_at, take_more, drop_more}
use Rattle.algebra.specs.Arith.{Arith}
use Rattle.algebra.specs.Words.{less, times_factor, times_factors}
use Rattle.algebra.specs.BlockCode.{ops, root_power}
use Rattle.algebra.proofs.WordValues.{length-less}

module _ (A : Arith) where
  -- what stands past the end of the word is not used
  less_past : (a : ℕ) (w v past : List ℕ) → length w ≤ length v → less (ops A) a w (v ++ past) ≡ less (ops A) a w v
  less_past a [] v past h = refl
  less_past a (c ∷ w) [] past h = absurd (omega arith)
  less_past a (c ∷ w) (d ∷ v) past h = ap (λ rest. A.add c (A.neg (A.mul a d)) ∷ rest) (less_past a w v past (omega arith))

  -- a word with a 0 behind it, made the product in its place
  factor_in_place : (a : ℕ) (product : List ℕ) (i n : ℕ) → i + 1 < length product → get_or product (i + 1) 0 ≡ 0 → n ≡ i + 1 + 1
      → let part = take n product in less (ops A) a part (0 ∷ part) ≡ times_factor (ops A) a (take (i + 1) product)
  factor_in_place a product i n h z e =
      let w = take (i + 1) product in
      let part : take n product ≡ w ++ (0 ∷ []) = ap (λ m. take m product) e ∙ take_more product (i + 1) 0 h ∙ ap (λ y. w ++ (y ∷ [])) z in
      let size = length_push w 0 in
      ap (λ p. less (ops A) a p (0 ∷ p)) part ∙ less_past a (w ++ (0 ∷ [])) (0 ∷ w) (0 ∷ []) (omega arith)

  pub factor_turn : (a : ℕ) (product last past exponents : List ℕ) (i n : ℕ) → i + 1 < length product → get_or product (i + 1) 0 ≡ 0 → i < length exponents → n ≡ i + 1 + 1 → a ≡ root_power A (get_or exponents i 0)
      → (let part = take n product in last ≡ less (ops A) a part (0 ∷ part))
      → times_factors (ops A) (take (suc (i + 1)) (last ++ past)) (map (root_power A) (drop (i + 1) exponents)) ≡ times_factors (ops A) (take (suc i) product) (map (root_power A) (drop i exponents))
  factor_turn a product last past exponents i n h z k e is made =
      let w = take (i + 1) product in
      let whole : last ≡ times_factor (ops A) a w = made ∙ factor_in_place a product i n h z e in
      let size : length last ≡ suc (i + 1) =
      ap length whole ∙ length-less (ops A) a (w ++ (0 ∷ [])) (0 ∷ w) ∙ length_push w 0 ∙ (let t = length-take-le (i + 1) product (omega arith) in omega arith) in
      ap (λ u. times_factors (ops A) u (map (root_power A) (drop (i + 1) exponents))) (take_at last past (suc (i + 1)) size ∙ whole)
      ∙ ap (λ root. times_factors (ops A) (times_factor (ops A) root w) (map (root_power A) (drop (i + 1) exponents))) is
      ∙ ap₂ (λ n rest. times_factors (ops A) (take n product) (map (root_power A) rest)) (add-one i) (sym (drop_more exponents i 0 k))
