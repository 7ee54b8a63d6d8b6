-- The opening of a code over a field, for every design.
use Rattle.std.specs.Prelude.{ℕ, ◌-◌, Bool, not, ◌&&◌, Some, None, Ok, Err, Option, Result, nat_le, nat_lt}
use Rattle.std.specs.Result.{result_map_both}
use Rattle.algebra.specs.Arith.{Arith}
use Rattle.algebra.specs.BlockCode.{symbols, redundancy, generator}
use Rattle.algebra.specs.declared.Design.{Design}
use Rattle.field.specs.Opening.{refuse, opening as field_opening}
use Rattle.field.specs.declared.fault.FieldFault.{FieldFault}
use Rattle.code.specs.Calls.{outside}
use Rattle.code.specs.declared.fault.CodeFault.{CodeFault}
use Rattle.code.specs.declared.fault.CodeFault.TheVariants.{Field, Length, FirstExponent, Distance, Redundancy, Generator}

-- a code has 2 to 255 symbols, and no more than the root has powers
abbrev pub length_fits : ℕ → ℕ → Bool
length_fits order n = nat_le 2 n && nat_le n 255 && nat_le n order

abbrev pub distance_fits : ℕ → Bool
distance_fits δ = nat_le 3 δ && nat_le δ 33

-- the coefficient at place j of a generator of degree r is the one of degree r − j, so the first outside has the highest degree
abbrev pub generator_fits : Design → ℕ → Option ℕ → Result Design CodeFault
generator_fits D r None = Ok D
generator_fits D r (Some j) = Err (Generator (r - j))

-- the design, where it is accepted, or the first refusal that applies
abbrev pub opening : Arith → Design → Result Design CodeFault
opening A D =
    refuse (not (length_fits A.order D.length)) Length
    (refuse (not (nat_lt D.first A.order)) FirstExponent
    (refuse (not (distance_fits D.distance)) Distance
    (refuse (nat_le D.length (redundancy A D)) (Redundancy (redundancy A D))
    (generator_fits D (redundancy A D) (outside (symbols A D.alphabet) (generator A D))))))

-- a fault of the field stands whole inside a fault of the code
abbrev pub after : {X Y : Type 0} → Result X FieldFault → (X → Result Y CodeFault) → Result Y CodeFault
after (Ok x) next = next x
after (Err fault) next = Err (Field fault)

-- a binary field, and a code over it
abbrev pub binary_opening : ℕ → ℕ → Design → Result (Arith × Design) CodeFault
binary_opening m P D = after (field_opening m P) (λ A. result_map_both (λ accepted. (A, accepted)) (λ fault. fault) (opening A D))
