-- Worked examples of the definitions, as one test.
use Rattle.std.specs.Prelude.{ℕ, Bool, true, false, ◌&&◌, List, [], ◌∷◌, map, Ok, Err, Result, ◌==◌}
use Rattle.std.specs.List.{range_with_len}
use Rattle.algebra.specs.Arith.{Arith, power}
use Rattle.field.specs.Fault.{field_fault}
use Rattle.field.specs.Opening.{opening}
use Rattle.field.specs.declared.fault.FieldFault.{FieldFault}

abbrev same : List ℕ → List ℕ → Bool
same [] [] = true
same [] (y ∷ ys) = false
same (x ∷ xs) [] = false
same (x ∷ xs) (y ∷ ys) = x == y && same xs ys

-- the field opens, and the test holds of it
abbrev opens : Result Arith FieldFault → (Arith → Bool) → Bool
opens (Ok A) test = test A
opens (Err fault) test = false

-- the field is refused, by this number at this place
abbrev refuses : Result Arith FieldFault → ℕ → ℕ → Bool
refuses (Ok A) number place = false
refuses (Err fault) number place = let t = field_fault fault in (t.number == number) && t.place == place

abbrev pub worked_examples : Bool
worked_examples =
    -- the field of 8: the powers of the root
    opens (opening 3 11) (λ A. same (map (power A.mul A.root) (range_with_len 0 A.order)) (1 ∷ 2 ∷ 4 ∷ 3 ∷ 6 ∷ 7 ∷ 5 ∷ []))
    -- polynomials at which the root returns too early
    && refuses (opening 4 31) 3 5
    && refuses (opening 2 5) 3 2
