-- The polynomials supplied for the degrees 2 to 10.
use Rattle.std.specs.Prelude.{ℕ, ◌-◌, ◌||◌, List, [], ◌∷◌, Ok, Result, nat_lt, slice_index}
use Rattle.algebra.specs.Arith.{Arith}
use Rattle.algebra.specs.Binary.{binary}
use Rattle.field.specs.Opening.{refuse}
use Rattle.field.specs.declared.fault.FieldFault.{FieldFault}
use Rattle.field.specs.declared.fault.FieldFault.TheVariants.{Degree}

abbrev pub polynomials : List ℕ
polynomials = 7 ∷ 11 ∷ 19 ∷ 37 ∷ 67 ∷ 137 ∷ 285 ∷ 529 ∷ 1033 ∷ []

-- the field of degree m by its supplied polynomial: only the degree is refused
abbrev pub standard_opening : ℕ → Result Arith FieldFault
standard_opening m = refuse (nat_lt m 2 || nat_lt 10 m) Degree (Ok (binary m (slice_index polynomials (m - 2))))
