use Rattle.std.proofs.Common.{◌≡◌, ℕ, ◌-◌, ◌^◌, ◌<◌}
use Rattle.algebra.specs.Arith.{iterate}
use Rattle.algebra.specs.Binary.{binary}
use Rattle.field.proofs.binary.polynomial.Polynomial.first_return.Given as goal

abbrev pub invariant-loop-exponent : goal.invariant-loop-exponent
invariant-loop-exponent l =
    let step = (binary l.self.degree l.self.bits).mul 2 in
    (l.power < 2 ^ l.self.degree) × (l.power ≡ iterate step (l.exponent - 1) 1) × ((k : ℕ) → 0 < k → k < l.exponent → iterate step k 1 ≡ 1 → ⊥)
