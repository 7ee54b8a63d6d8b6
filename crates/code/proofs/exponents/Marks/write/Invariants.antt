use Rattle.std.proofs.Common.{◌≡◌, ◌+◌, ◌≤◌, length, map, take}
use Rattle.code.proofs.exponents.Marks.write.Given as goal

abbrev pub invariant-loop-i : goal.invariant-loop-i
invariant-loop-i l = record {
  place : l.i-iterator.count ≡ length l.yielded;
  asked : l.i-iterator.count + l.i-iterator.iter.n ≡ l.count;
  room : l.count ≤ length l.list;
  front : take (length l.yielded) l.list ≡ map (λ p. p.1) l.yielded;
}
