-- What each call on a code answers, and what it leaves in the memory lent to it.
use Rattle.std.specs.Prelude.{ℕ, not, List, ◌++◌, length, drop, Some, None, Ok, Err, Option, Result, ◌==◌, nat_le, nat_lt, position}
use Rattle.algebra.specs.Arith.{Arith}
use Rattle.algebra.specs.BlockCode.{symbols, check_count, dimension, encoded, check_values}
use Rattle.algebra.specs.declared.Design.{Design}
use Rattle.field.specs.Opening.{refuse}
use Rattle.code.specs.declared.fault.CodeFault.{CodeFault}
use Rattle.code.specs.declared.fault.CodeFault.TheVariants.{WordLength, Symbol, Room}

-- the place of the first number that is not below the limit
abbrev pub outside : ℕ → List ℕ → Option ℕ
outside limit w = position (λ x. nat_le limit x) w

-- the word is as long as it should be, its symbols are in the alphabet and there is room for what is written; or the first refusal
abbrev pub judged : {X : Type 0} → ℕ → ℕ → List ℕ → ℕ → ℕ → X → Result X CodeFault
judged size limit word room wanted x =
    refuse (not (length word == size)) WordLength
    (elim (outside limit word) [ Some j ↦ Err (Symbol j) | None ↦ refuse (nat_lt room wanted) Room (Ok x) ])

module _ (A : Arith) (D : Design) where
  -- what an encoding leaves in the buffer: the codeword, and behind it what was there
  abbrev pub encoding : List ℕ → List ℕ → Result (List ℕ) CodeFault
  encoding message buffer =
      judged (dimension A D) (symbols A D.alphabet) message (length buffer) D.length (encoded A D message ++ drop D.length buffer)

  -- what a call for check values leaves in the list: the check values, and behind them what was there
  abbrev pub checking : List ℕ → List ℕ → Result (List ℕ) CodeFault
  checking word list =
      judged D.length (symbols A D.alphabet) word (length list) (check_count A D) (check_values A D word ++ drop (check_count A D) list)
