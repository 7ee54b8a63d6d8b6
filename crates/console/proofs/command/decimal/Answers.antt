use Rattle.std.proofs.Common.{◌≡◌, ℕ, true, List, Ok, Err, Result, MatchResult, arith, rules}
use Rattle.std.specs.Str.Parse.{ParsesUnsigned}
use Rattle.std.specs.Str.{all_ascii_digits}
use Rattle.std.proofs.lemmas.Str.Parse.{numerals_by_value, tells_all_ascii_digits, parse_digits}
use Rattle.std.proofs.lemmas.Grind.{common_steps}
use Rattle.console.specs.Words.{digits_alone, number_in}
use Rattle.console.specs.declared.complaint.Complaint.TheVariants.{NumberTooLarge}
use Rattle.console.proofs.command.decimal.Goals as goal

-- of a word of digits alone, `parse` refuses only a number that does not fit
number_in-parsed : {E : Type 0} (w : List ℕ) (r : Result ℕ E) → ParsesUnsigned 32 10 w r → digits_alone w ≡ true → MatchResult r (λ n. number_in w ≡ Ok n) (λ _. number_in w ≡ Err NumberTooLarge)
number_in-parsed w r reads digits =
    let read = parse_digits (numerals_by_value (λ ds. all_ascii_digits ds ≡ true) tells_all_ascii_digits) 32 w r reads (grind (arith, common_steps)) in
    grind (arith, common_steps)

pub returns : goal.returns
returns c = search (rules, number_in-parsed)
