-- The opening of a binary field, for every degree m and polynomial P.
use Rattle.std.specs.Prelude.{ℕ, suc, ◌-◌, ◌%◌, ◌^◌, Bool, cond, not, ◌||◌, Ok, Err, Result, ◌==◌, nat_le, nat_lt}
use Rattle.algebra.specs.Arith.{Arith}
use Rattle.algebra.specs.Search.{root_return}
use Rattle.algebra.specs.Binary.{binary}
use Rattle.field.specs.declared.fault.FieldFault.{FieldFault}
use Rattle.field.specs.declared.fault.FieldFault.TheVariants.{Degree, Polynomial, RootOrder}

-- the fault where the test applies, and else what follows
abbrev pub refuse : {X E : Type 0} → Bool → E → Result X E → Result X E
refuse test fault next = cond test (Err fault) next

-- the field, or the first refusal that applies
abbrev pub opening : ℕ → ℕ → Result Arith FieldFault
opening m P =
    refuse (nat_lt m 2 || nat_lt 10 m) Degree
    (refuse (P % 2 == 0 || nat_lt P (2 ^ m) || nat_le (2 ^ suc m) P) Polynomial
    (refuse (not (root_return (binary m P) == 2 ^ m - 1)) (RootOrder (root_return (binary m P)))
    (Ok (binary m P))))
