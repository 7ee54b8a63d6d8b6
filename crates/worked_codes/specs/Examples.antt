-- Worked examples of the definitions of codes, as one test.
use Rattle.std.specs.Prelude.{ℕ, Bool, true, false, ◌&&◌, List, [], ◌∷◌, Ok, Err, Result, ◌==◌}
use Rattle.algebra.specs.Arith.{Arith}
use Rattle.algebra.specs.BlockCode.{exponents, generator, encoded}
use Rattle.algebra.specs.Codes.{modulo}
use Rattle.algebra.specs.declared.Alphabet.{Alphabet}
use Rattle.algebra.specs.declared.Alphabet.TheVariants.{Whole, Ground}
use Rattle.algebra.specs.declared.Design.{Design}
use Rattle.field.specs.Opening.{opening as field_opening}
use Rattle.code.specs.Opening.{opening as code_opening}

abbrev same : List ℕ → List ℕ → Bool
same [] [] = true
same [] (y ∷ ys) = false
same (x ∷ xs) [] = false
same (x ∷ xs) (y ∷ ys) = x == y && same xs ys

-- it opens, and the test holds of what is opened
abbrev opens : {X E : Type 0} → Result X E → (X → Bool) → Bool
opens (Ok x) test = test x
opens (Err fault) test = false

-- the code with this alphabet, length n, first exponent b and distance δ
abbrev opens_code : Arith → Alphabet → ℕ → ℕ → ℕ → (Design → Bool) → Bool
opens_code A a n b δ = opens (code_opening A (record { alphabet = a; length = n; first = b; distance = δ }))

abbrev examples_of_8 : Arith → Bool
examples_of_8 A =
    -- the ground alphabet: three exponents, and an encoding
    opens_code A Ground 7 1 3 (λ D. same (exponents A D) (1 ∷ 2 ∷ 4 ∷ []) && same (encoded A D (1 ∷ 0 ∷ 1 ∷ 0 ∷ [])) (1 ∷ 0 ∷ 1 ∷ 0 ∷ 0 ∷ 1 ∷ 1 ∷ []))
    -- the whole alphabet with the same numbers: a generator, and an encoding
    && opens_code A Whole 7 1 3 (λ D. same (generator A D) (1 ∷ 6 ∷ 3 ∷ []) && same (encoded A D (0 ∷ 0 ∷ 0 ∷ 0 ∷ 1 ∷ [])) (0 ∷ 0 ∷ 0 ∷ 0 ∷ 1 ∷ 6 ∷ 3 ∷ []))

abbrev pub code_examples : Bool
code_examples =
    opens (field_opening 3 11) examples_of_8
    -- the remainder is subtracted: added, it would give 1 12 902
    && opens_code (modulo 929 3) Whole 3 1 3 (λ D. same (encoded (modulo 929 3) D (1 ∷ [])) (1 ∷ 917 ∷ 27 ∷ []))
