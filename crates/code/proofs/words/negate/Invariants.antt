use Rattle.std.proofs.Common.{◌≡◌, ◌++◌, map, take, drop}
use Rattle.code.proofs.words.negate.Given as goal

abbrev pub invariant-loop-symbol : goal.invariant-loop-symbol
invariant-loop-symbol g l =
    let A = g.F.Field.meaning l.field in
    take l.symbol-index l.word ++ map A.neg (drop l.symbol-index l.word) ≡ map A.neg l.initial.word
