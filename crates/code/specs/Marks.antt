-- Marks on the numbers from 0 on, as a list of tests, and sets of numbers.
use Rattle.std.specs.Prelude.{◌≡◌, ℕ, ◌+◌, ◌*◌, ◌%◌, ◌<◌, Bool, false, T, List, length, filter, slice_index_or}
use Rattle.std.specs.List.{range_with_len}
use Rattle.algebra.specs.Arith.{Arith}
use Rattle.algebra.specs.declared.Alphabet.{Alphabet}
use Rattle.algebra.specs.declared.Alphabet.TheVariants.{Whole, Ground}

-- whether e is marked
abbrev pub marked : List Bool → ℕ → Bool
marked marks e = slice_index_or marks e false

-- the marked numbers below the order, rising
abbrev pub marked_below : ℕ → List Bool → List ℕ
marked_below order marks = filter (marked marks) (range_with_len 0 order)

-- what an exponent is multiplied by to reach the next one that goes with it: 1 leads to itself
abbrev pub factor : Arith → Alphabet → ℕ
factor A Whole = 1
factor A Ground = A.ground_size

-- e times the factor, modulo the order
abbrev pub step : ℕ → ℕ → ℕ → ℕ
step order times e = e * times % order

-- one set lies within another
abbrev pub Within : (ℕ → Bool) → (ℕ → Bool) → Type 0
Within set other = (e : ℕ) → T (set e) → T (other e)

-- with each number the set holds the one that the step leads to
abbrev pub Closed : (ℕ → ℕ) → (ℕ → Bool) → Type 0
Closed next set = (e : ℕ) → T (set e) → T (set (next e))

-- the marks are the smallest set that holds `count` numbers from `first` on, modulo the order, and is closed
pub record MarkedRun (order times first count : ℕ) (marks : List Bool) : Type 0 where
  pub size : length marks ≡ 1024
  pub run_in : (i : ℕ) → i < count → T (marked marks ((first + i) % order))
  pub closed : Closed (step order times) (marked marks)
  pub least : (set : ℕ → Bool) → ((i : ℕ) → i < count → T (set ((first + i) % order))) → Closed (step order times) set → Within (marked marks) set
