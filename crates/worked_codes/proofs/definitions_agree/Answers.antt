use Rattle.std.proofs.Common.{refl}
use Rattle.algebra.specs.Search.{first}
use Rattle.algebra.specs.Binary.{bit, sum_over, carryless, remainder}
use Rattle.algebra.specs.BlockCode.{exponents, generator, encoded}
use Rattle.worked_codes.proofs.definitions_agree.Goals as goal

-- by computing
pub returns : goal.returns
unfolding first bit sum_over carryless remainder exponents generator encoded
returns c = refl
