-- What is proved of the definitions of codes, for every field that keeps its laws.
use Rattle.std.specs.Prelude.{◌≡◌, ℕ, suc, ◌+◌, ◌-◌, ◌%◌, ◌<◌, ◌≤◌, Bool, T, ◌⊎◌, ◌↔◌, List, [], ◌∷◌, map, length, take, slice_index_or, All}
use Rattle.algebra.specs.Arith.{Arith}
use Rattle.algebra.specs.Words.{value, factors}
use Rattle.algebra.specs.BlockCode.{ops, symbols, root_power, conjugate, reach, exponents, redundancy, dimension, generator, Word, Codeword, encoded, check_values}
use Rattle.algebra.specs.declared.Alphabet.TheVariants.{Ground}
use Rattle.algebra.specs.declared.Design.{Design}

-- each number is below all that follow
abbrev pub Rising : List ℕ → Type 0
Rising [] = Unit {0}
Rising (x ∷ xs) = All (λ y. x < y) xs × Rising xs

-- x stands in the list
abbrev pub Member : ℕ → List ℕ → Type 0
Member x [] = ⊥
Member x (y ∷ ys) = (x ≡ y) ⊎ Member x ys

module _ (A : Arith) where
  -- the exponents are the smallest set that holds b up to b + δ − 2 modulo N and, for the ground alphabet, with each e also e × p modulo N
  pub record Smallest (D : Design) : Type 0 where
    pub rising : Rising (exponents A D)
    pub below : All (λ e. e < A.order) (exponents A D)
    pub run_in : (i : ℕ) → i < D.distance - 1 → Member ((D.first + i) % A.order) (exponents A D)
    pub closed : D.alphabet ≡ Ground → (e : ℕ) → Member e (exponents A D) → Member (conjugate A e) (exponents A D)
    pub least : (set : ℕ → Bool) → ((i : ℕ) → i < D.distance - 1 → T (set ((D.first + i) % A.order))) → (D.alphabet ≡ Ground → (e : ℕ) → T (set e) → T (set (conjugate A e))) → All (λ e. T (set e)) (exponents A D)

  -- what an accepted code is
  pub record Facts (D : Design) : Type 0 where
    pub some_message : 1 ≤ dimension A D
    pub whole_length : dimension A D + redundancy A D ≡ D.length
    pub reach_most : reach A D ≤ 16
    pub distance_most : D.distance ≤ D.length
    pub generator_long : length (generator A D) ≡ suc (redundancy A D)
    pub generator_first : slice_index_or (generator A D) 0 0 ≡ 1
    -- its value is the product of the x − α^e over the exponent set
    pub generator_value : (x : ℕ) → x < A.size → value (ops A) (generator A D) x ≡ factors (ops A) (map (root_power A) (exponents A D)) x

-- what is encoded is a codeword, and begins with the message
abbrev pub EncodingIsCodeword : Arith → Design → Type 0
EncodingIsCodeword A D =
    (message : List ℕ) → length message ≡ dimension A D → All (λ x. x < symbols A D.alphabet) message
    → Codeword A D (encoded A D message) × (take (dimension A D) (encoded A D message) ≡ message)

-- the check values of a word are all 0 exactly where it is a codeword
abbrev pub ChecksTellCodewords : Arith → Design → Type 0
ChecksTellCodewords A D = (w : List ℕ) → Word A D w → All (λ s. s ≡ 0) (check_values A D w) ↔ Codeword A D w
