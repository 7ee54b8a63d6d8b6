use Rattle.std.proofs.Common.{◌≡◌, ◌++◌, take, drop}
use Rattle.algebra.specs.Words.{less}
use Rattle.algebra.specs.BlockCode.{ops}
use Rattle.code.proofs.words.subtract_multiple.Given as goal

abbrev pub invariant-loop-symbol : goal.invariant-loop-symbol
invariant-loop-symbol g l =
    let A = g.F.Field.meaning l.field in
    take l.symbol-index l.word ++ less (ops A) l.factor (drop l.symbol-index l.word) l.others.rest.now ≡ less (ops A) l.factor l.initial.word l.other
