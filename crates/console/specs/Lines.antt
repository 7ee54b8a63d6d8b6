-- What the console writes: numbers, lists of numbers, refusals and its own complaints.
use Rattle.std.specs.Prelude.{ℕ, List, [], ◌∷◌, ◌++◌, codes, decimal}
use Rattle.field.specs.Fault.{Told, layer_name}
use Rattle.console.specs.declared.complaint.Complaint.{Complaint}
use Rattle.console.specs.declared.complaint.Complaint.TheVariants.{NotText, UnknownCommand, TooFewWords, TooManyWords, NotANumber, NumberTooLarge, NoField}

-- the numbers, one space between two
abbrev pub spaced : List ℕ → List ℕ
spaced [] = []
spaced (x ∷ []) = decimal x
spaced (x ∷ y ∷ ys) = decimal x ++ (codes " " ++ spaced (y ∷ ys))

-- a refusal of the libraries, with its words for a person
abbrev pub refusal : Told → List ℕ → List ℕ
refusal t words =
    codes "refused " ++ (layer_name t.layer ++ (codes " " ++ (decimal t.number ++ (codes " at " ++ (decimal t.place ++ (codes ": " ++ words))))))

abbrev pub complaint_words : Complaint → List ℕ
complaint_words NotText = codes "the line is not UTF-8 text"
complaint_words UnknownCommand = codes "unknown command, try help"
complaint_words TooFewWords = codes "too few words"
complaint_words TooManyWords = codes "too many words"
complaint_words NotANumber = codes "not a decimal number"
complaint_words NumberTooLarge = codes "the number is too large"
complaint_words NoField = codes "no field is open"

-- what the console itself cannot take, in line n of the input
abbrev pub complaint_line : ℕ → Complaint → List ℕ
complaint_line n c = codes "error line " ++ (decimal n ++ (codes ": " ++ complaint_words c))
