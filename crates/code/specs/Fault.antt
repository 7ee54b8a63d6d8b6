-- What each refusal of the codes tells: its layer, its number and its place, and its words for a person.
use Rattle.std.specs.Prelude.{ℕ, List, codes}
use Rattle.field.specs.Fault.{Told, field_fault, field_words}
use Rattle.field.specs.declared.fault.Layer.TheVariants.{Code}
use Rattle.code.specs.declared.fault.CodeFault.{CodeFault}
use Rattle.code.specs.declared.fault.CodeFault.TheVariants.{Field, Length, FirstExponent, Distance, Redundancy, Generator, WordLength, Symbol, Room}

-- a refusal of this layer, with a place
abbrev refusal_at : ℕ → ℕ → Told
refusal_at number place = record { layer = Code; number = number; place = place }

abbrev pub code_fault : CodeFault → Told
code_fault (Field fault) = field_fault fault
code_fault Length = refusal_at 4 0
code_fault FirstExponent = refusal_at 5 0
code_fault Distance = refusal_at 6 0
code_fault (Redundancy r) = refusal_at 7 r
code_fault (Generator degree) = refusal_at 8 degree
code_fault WordLength = refusal_at 9 0
code_fault (Symbol place) = refusal_at 10 place
code_fault Room = refusal_at 16 0

abbrev pub code_words : CodeFault → List ℕ
code_words (Field fault) = field_words fault
code_words Length = codes "the length must be 2 to 255, and at most the order of the root"
code_words FirstExponent = codes "the first exponent must be below the order of the root"
code_words Distance = codes "the distance must be 3 to 33"
code_words (Redundancy r) = codes "that many check symbols leave no place for a message"
code_words (Generator degree) = codes "a coefficient of the generator is outside the alphabet"
code_words WordLength = codes "not as many symbols as the code asks for"
code_words (Symbol place) = codes "a symbol outside the alphabet"
code_words Room = codes "the memory lent is too short"
