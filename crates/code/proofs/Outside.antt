-- The first symbol outside an alphabet.
use Rattle.std.proofs.Common.{◌≡◌, ℕ, ◌<◌, leb, List, None, arith, All}
use Rattle.std.proofs.lemmas.Bool.Decides.{nat_tests}
use Rattle.std.proofs.lemmas.List.Sums.{fails_before_first}
use Rattle.code.specs.Calls.{outside}

-- where none is outside, each is below the limit
pub none_outside : (limit : ℕ) (w : List ℕ) → outside limit w ≡ None → All (λ x. x < limit) w
none_outside limit w e k d l = grind (arith, nat_tests, fails_before_first (λ x. leb limit x) w k d)
