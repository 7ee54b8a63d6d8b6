-- Codes over a field: the exponent set, the generator, codewords, encoding and check values.
use Rattle.std.specs.Prelude.{◌≡◌, ℕ, zero, suc, ◌+◌, ◌-◌, ◌*◌, ◌/◌, ◌%◌, ◌<◌, ◌≤◌, Bool, false, ◌||◌, List, [], ◌∷◌, ◌++◌, map, length, drop, replicate, filter, nat_eq, All}
use Rattle.std.specs.List.{range_with_len, flat_map}
use Rattle.algebra.specs.Arith.{Arith, power}
use Rattle.algebra.specs.Abstract.{Ops}
use Rattle.algebra.specs.Words.{value, remainder, times_factors}
use Rattle.algebra.specs.declared.Alphabet.{Alphabet}
use Rattle.algebra.specs.declared.Alphabet.TheVariants.{Whole, Ground}
use Rattle.algebra.specs.declared.Design.{Design}

-- whether some x of the list passes
abbrev pub some_of : {X : Type 0} → (X → Bool) → List X → Bool
some_of test [] = false
some_of test (x ∷ xs) = test x || some_of test xs

-- e, step e, step (step e) and so on: k of them
abbrev pub orbit : (ℕ → ℕ) → ℕ → ℕ → List ℕ
orbit step e zero = []
orbit step e (suc k) = e ∷ orbit step (step e) k

module _ (A : Arith) where
  -- the field's operations, as words take them
  abbrev pub ops : Ops ℕ
  ops = record { zero = 0; one = 1; add = A.add; neg = A.neg; mul = A.mul }

  -- how many symbols an alphabet has: they are the codes below that number
  abbrev pub symbols : Alphabet → ℕ
  symbols Whole = A.size
  symbols Ground = A.ground_size

  -- α^e
  abbrev pub root_power : ℕ → ℕ
  root_power e = power A.mul A.root e

  -- e × p modulo N
  abbrev pub conjugate : ℕ → ℕ
  conjugate e = e * A.ground_size % A.order

  -- how many check values there are: δ − 1
  abbrev pub check_count : Design → ℕ
  check_count D = D.distance - 1

  -- the reach t: half of δ − 1, the fraction dropped
  abbrev pub reach : Design → ℕ
  reach D = check_count D / 2

  -- b, b + 1, up to b + δ − 2, each modulo N
  abbrev pub run : Design → List ℕ
  run D = map (λ i. (D.first + i) % A.order) (range_with_len 0 (D.distance - 1))

  -- these for the whole alphabet; for the ground alphabet with each e also e × p modulo N, over and over
  abbrev pub reached : Alphabet → List ℕ → List ℕ
  reached Whole es = es
  reached Ground es = flat_map (λ e. orbit conjugate e A.order) es

  -- the exponent set, each exponent once, rising
  unfoldable pub exponents : Design → List ℕ
  exponents D = let es = reached D.alphabet (run D) in filter (λ e. some_of (nat_eq e) es) (range_with_len 0 A.order)

  -- r and k
  abbrev pub redundancy : Design → ℕ
  redundancy D = length (exponents D)

  abbrev pub dimension : Design → ℕ
  dimension D = D.length - redundancy D

  -- the product of (x − α^e) over the exponent set
  unfoldable pub generator : Design → List ℕ
  generator D = times_factors ops (1 ∷ []) (map root_power (exponents D))

  -- n symbols of the alphabet
  abbrev pub Word : Design → List ℕ → Type 0
  Word D w = (length w ≡ D.length) × All (λ x. x < symbols D.alphabet) w

  -- a word whose value is 0 at α^b up to α^(b+δ−2)
  abbrev pub Codeword : Design → List ℕ → Type 0
  Codeword D w = Word D w × ((j : ℕ) → j < check_count D → value ops w (root_power (D.first + j)) ≡ 0)

  -- the message times x^r, less the remainder of its division by the generator
  unfoldable pub encoded : Design → List ℕ → List ℕ
  encoded D message = message ++ map A.neg (remainder ops (length message) (drop 1 (generator D)) (message ++ replicate (redundancy D) 0))

  -- S_0 to S_(δ−2): S_j is the word's value at α^(b+j)
  unfoldable pub check_values : Design → List ℕ → List ℕ
  check_values D w = map (λ j. value ops w (root_power (D.first + j))) (range_with_len 0 (check_count D))

  -- what an opening accepts
  pub record Accepted (D : Design) : Type 0 where
    pub length_low : 2 ≤ D.length
    pub length_high : D.length ≤ 255
    pub length_order : D.length ≤ A.order
    pub first_order : D.first < A.order
    pub distance_low : 3 ≤ D.distance
    pub distance_high : D.distance ≤ 33
    pub some_message : redundancy D < D.length
    pub generator_symbols : All (λ x. x < symbols D.alphabet) (generator D)
