-- The numbers that the console reads: decimal digits alone, below 2^32.
use Rattle.std.specs.Prelude.{ℕ, ◌^◌, Bool, cond, not, ◌&&◌, List, length, Ok, Err, Result, ◌==◌, nat_lt}
use Rattle.std.specs.Str.Parse.{digits_value}
use Rattle.std.specs.Str.{all_ascii_digits}
use Rattle.console.specs.declared.complaint.Complaint.{Complaint}
use Rattle.console.specs.declared.complaint.Complaint.TheVariants.{NotANumber, NumberTooLarge}

-- one digit or more, and nothing else
abbrev pub digits_alone : List ℕ → Bool
digits_alone word = all_ascii_digits word && not (length word == 0)

abbrev pub number_in : List ℕ → Result ℕ Complaint
number_in word = cond (digits_alone word) (cond (nat_lt (digits_value 10 word) (2 ^ 32)) (Ok (digits_value 10 word)) (Err NumberTooLarge)) (Err NotANumber)
