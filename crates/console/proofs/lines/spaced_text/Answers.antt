use Rattle.std.proofs.Common.{◌≡◌, ℕ, List, [], ◌∷◌, ◌++◌, codes, decimal, sym, ap, append-nil, arith}
use Rattle.std.specs.List.{flat_map}
use Rattle.std.proofs.lemmas.Grind.{common_steps}
use Rattle.console.specs.Lines.{spaced}
use Rattle.console.proofs.lines.spaced_text.Goals as goal

-- the first number, and each later one after a space
spaced-cons : (x : ℕ) (xs : List ℕ) → spaced (x ∷ xs) ≡ decimal x ++ flat_map (λ y. codes " " ++ decimal y) xs
spaced-cons x [] = sym (append-nil (decimal x))
spaced-cons x (y ∷ ys) = ap (λ t. decimal x ++ (codes " " ++ t)) (spaced-cons y ys)

pub returns : goal.returns
returns c = grind (arith, common_steps, spaced-cons)
