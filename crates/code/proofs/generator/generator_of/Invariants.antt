use Rattle.std.proofs.Common.{◌≡◌, ℕ, suc, ◌<◌, [], ◌∷◌, map, length, get_or, take, drop}
use Rattle.algebra.specs.Words.{times_factors}
use Rattle.algebra.specs.BlockCode.{ops, root_power}
use Rattle.code.proofs.generator.generator_of.Given as goal

-- the factors that are left take the product so far to the whole
abbrev pub invariant-loop-i : goal.invariant-loop-i
invariant-loop-i g l =
    let A = g.F.Field.meaning l.field in
    record {
      size : length l.product ≡ 255;
      zeros : (k : ℕ) → l.i < k → get_or l.product k 0 ≡ 0;
      product : times_factors (ops A) (take (suc l.i) l.product) (map (root_power A) (drop l.i l.exponents)) ≡ times_factors (ops A) (1 ∷ []) (map (root_power A) l.exponents);
    }
