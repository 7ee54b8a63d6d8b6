-- What a desk stands for, and what an answer says.
use Rattle.std.specs.Prelude.{◌≡◌, ℕ, List, Some, None, Ok, Err, string_bytes, Option, Result, String}
use Rattle.std.specs.Option.{option_map}
use Rattle.std.specs.declared.alloc.Global.{Global}
use Rattle.algebra.specs.Arith.{Arith}
use Rattle.field.specs.Any.{any_meaning}
use Rattle.console.specs.declared.complaint.Complaint as complaints
use Rattle.console.specs.declared.desk.Desk.{Desk}
use Rattle.console.specs.declared.desk.Failure.{Failure}
use Rattle.console.specs.declared.desk.Failure.TheVariants.{Complaint, Memory}

-- the current field
abbrev pub current : Desk → Option Arith
current desk = option_map any_meaning desk.field

-- the line is what is to be said, or the complaint is; where memory fails nothing is said
abbrev pub Obeyed : Result (List ℕ) complaints.Complaint → Result (String Global) Failure → Type 0
Obeyed said (Ok line) = said ≡ Ok (string_bytes line)
Obeyed said (Err (Complaint c)) = said ≡ Err c
Obeyed said (Err (Memory e)) = Unit {0}

-- the same of a whole line, to which nothing may be to be said
abbrev pub CarriedOut : Option (Result (List ℕ) complaints.Complaint) → Result (Option (String Global)) Failure → Type 0
CarriedOut said (Ok None) = said ≡ None
CarriedOut said (Ok (Some line)) = said ≡ Some (Ok (string_bytes line))
CarriedOut said (Err (Complaint c)) = said ≡ Some (Err c)
CarriedOut said (Err (Memory e)) = Unit {0}
