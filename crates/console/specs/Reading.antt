-- What a line is read as, and what is answered to it.
use Rattle.std.specs.Prelude.{◌≡◌, ℕ, Bool, true, false, List, Some, None, Ok, Err, IsUtf8, Option, Result, ◌==◌, slice_index}
use Rattle.algebra.specs.Arith.{Arith}
use Rattle.console.specs.Answers.{answered, current_after}
use Rattle.console.specs.Lines.{complaint_line}
use Rattle.console.specs.declared.command.Command.{Command}
use Rattle.console.specs.declared.complaint.Complaint.{Complaint}
use Rattle.console.specs.declared.complaint.Complaint.TheVariants.{NotText}

-- a command, nothing, or a complaint
abbrev pub Reading : Type 0
Reading = Result (Option Command) Complaint

-- it begins with '#', whose code is 35
abbrev pub comment : List ℕ → Bool
comment line = slice_index line 0 == 35

-- a comment is nothing, whatever bytes it holds; every other line is text
abbrev pub ReadAs : List ℕ → Reading → Type 0
ReadAs line reading = (comment line ≡ true → reading ≡ Ok None) × (comment line ≡ false → (IsUtf8 line → ⊥) → reading ≡ Err NotText)

abbrev pub said : Option Arith → Reading → Option (Result (List ℕ) Complaint)
said field (Ok None) = None
said field (Ok (Some command)) = Some (answered field command)
said field (Err complaint) = Some (Err complaint)

-- the text for line n of the input
abbrev pub line_said : ℕ → Result (List ℕ) Complaint → List ℕ
line_said n (Ok text) = text
line_said n (Err complaint) = complaint_line n complaint

abbrev pub current_read : Option Arith → Reading → Option Arith
current_read field (Ok None) = field
current_read field (Ok (Some command)) = current_after field command
current_read field (Err complaint) = field
