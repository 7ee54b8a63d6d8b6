-- The meaning of a field whose kind is known at run time.
use Rattle.algebra.specs.Arith.{Arith}
use Rattle.field.specs.declared.any.AnyField.{AnyField}
use Rattle.field.specs.declared.any.AnyField.TheVariants.{Binary, Prime}
use Rattle.field.specs.contracts.binary.BinaryFieldField.TheImpl.{ghosts as binary}
use Rattle.field.specs.contracts.prime.PrimeFieldField.TheImpl.{ghosts as prime}

abbrev pub any_meaning : AnyField → Arith
any_meaning (Binary f) = binary.meaning f
any_meaning (Prime f) = prime.meaning f
