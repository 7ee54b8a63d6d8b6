use Rattle.std.proofs.Common.{rules, ◌-◌, ◌^◌}
use Rattle.algebra.specs.Search.{Returns}
use Rattle.algebra.specs.Binary.{binary}
use Rattle.algebra.proofs.BinaryLaws.{binary_laws}
use Rattle.algebra.proofs.Division.{product_is_remainder}
use Rattle.field.proofs.binary.BinaryField.open.Goals as goal

pub returns-in_err-polynomial-clause-product_is_remainder : goal.returns-in_err-polynomial-clause-product_is_remainder
returns-in_err-polynomial-clause-product_is_remainder c = product_is_remainder

pub returns-then-exponent-polynomial-clause-product_is_remainder : goal.returns-then-exponent-polynomial-clause-product_is_remainder
returns-then-exponent-polynomial-clause-product_is_remainder c = product_is_remainder

pub returns-clause-product_is_remainder : goal.returns-clause-product_is_remainder
returns-clause-product_is_remainder c = product_is_remainder

pub returns-clause-sound : goal.returns-clause-sound
returns-clause-sound c =
    let p = c.in_ok-polynomial.polynomial in
    let returns : Returns ((binary p.degree p.bits).mul 2) (2 ^ p.degree - 1) = search rules in
    binary_laws p.degree p.bits p.shape returns
