use Rattle.std.proofs.Common.{lit<, lit≤}
use Rattle.algebra.proofs.Integers.{modulo_laws}
use Rattle.algebra.proofs.Computed.{returns_929}
use Rattle.field.proofs.prime.PrimeField.open.Goals as goal

pub returns-clause-sound : goal.returns-clause-sound
returns-clause-sound c = modulo_laws 929 3 (lit≤ tt) (lit≤ tt) (lit< tt) returns_929
