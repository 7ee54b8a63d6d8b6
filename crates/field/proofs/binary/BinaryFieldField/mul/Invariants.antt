use Rattle.std.proofs.Common.{◌≡◌, ◌^◌, ◌<◌}
use Rattle.algebra.specs.Arith.{iterate}
use Rattle.algebra.proofs.Polynomials.{raise, partial}
use Rattle.field.proofs.binary.BinaryFieldField.mul.Given as goal

abbrev pub invariant-loop-i : goal.invariant-loop-i
invariant-loop-i l =
    let m = l.self.polynomial.degree in
    let P = l.self.polynomial.bits in
    (l.shifted < 2 ^ m) × (l.shifted ≡ iterate (raise m P) l.i l.a) × (l.product ≡ partial m P l.a l.b l.i)
