-- What each command is answered, and which field is current after it.
use Rattle.std.specs.Prelude.{ℕ, List, ◌++◌, map, Some, None, Ok, Err, codes, decimal, Option, Result}
use Rattle.std.specs.List.{range_with_len}
use Rattle.algebra.specs.Arith.{Arith, power}
use Rattle.algebra.specs.Codes.{modulo}
use Rattle.field.specs.Fault.{field_fault, field_words}
use Rattle.field.specs.Opening.{opening}
use Rattle.field.specs.declared.fault.FieldFault.{FieldFault}
use Rattle.console.specs.Lines.{spaced, refusal}
use Rattle.console.specs.declared.command.Command.{Command}
use Rattle.console.specs.declared.command.Command.TheVariants.{Binary, Prime, Ask, Help}
use Rattle.console.specs.declared.command.Question.{Question}
use Rattle.console.specs.declared.command.Question.TheVariants.{Sum, Negative, Product, Inverse, Powers}
use Rattle.console.specs.declared.complaint.Complaint.{Complaint}
use Rattle.console.specs.declared.complaint.Complaint.TheVariants.{NoField}

-- α^0 to α^(N−1)
abbrev pub powers_of : Arith → List ℕ
powers_of A = map (power A.mul A.root) (range_with_len 0 A.order)

abbrev pub field_line : Arith → List ℕ
field_line A = codes "field size " ++ (decimal A.size ++ (codes " ground " ++ (decimal A.ground_size ++ (codes " order " ++ (decimal A.order ++ (codes " root " ++ decimal A.root))))))

abbrev pub opened_line : Result Arith FieldFault → List ℕ
opened_line (Ok A) = field_line A
opened_line (Err fault) = refusal (field_fault fault) (field_words fault)

abbrev pub help_line : List ℕ
help_line = codes "binary M P, prime, sum A B, negative A, product A B, inverse A, powers, help"

-- what is asked of a field
abbrev pub calculated : Arith → Question → List ℕ
calculated A (Sum a b) = decimal (A.add a b)
calculated A (Negative a) = decimal (A.neg a)
calculated A (Product a b) = decimal (A.mul a b)
calculated A (Inverse a) = decimal (A.inv a)
calculated A Powers = spaced (powers_of A)

-- only a current field answers a question
abbrev pub asked : Option Arith → Question → Result (List ℕ) Complaint
asked None question = Err NoField
asked (Some A) question = Ok (calculated A question)

-- the line that answers a command, or why it has none
abbrev pub answered : Option Arith → Command → Result (List ℕ) Complaint
answered field (Binary m P) = Ok (opened_line (opening m P))
answered field Prime = Ok (field_line (modulo 929 3))
answered field (Ask question) = asked field question
answered field Help = Ok help_line

-- a refused opening leaves the field that is current
abbrev pub opened_or : Option Arith → Result Arith FieldFault → Option Arith
opened_or field (Ok A) = Some A
opened_or field (Err fault) = field

abbrev pub current_after : Option Arith → Command → Option Arith
current_after field (Binary m P) = opened_or field (opening m P)
current_after field Prime = Some (modulo 929 3)
current_after field (Ask question) = field
current_after field Help = field
