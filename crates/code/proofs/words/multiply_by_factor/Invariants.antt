use Rattle.std.proofs.Common.{◌≡◌, ◌∷◌, ◌++◌, take, drop}
use Rattle.algebra.specs.Words.{less}
use Rattle.algebra.specs.BlockCode.{ops}
use Rattle.code.proofs.words.multiply_by_factor.Given as goal

-- what was done, and what doing the same to the rest would give, is the product
abbrev pub invariant-loop-symbol : goal.invariant-loop-symbol
invariant-loop-symbol g l =
    let A = g.F.Field.meaning l.field in
    let left = drop l.symbol-index l.word in
    take l.symbol-index l.word ++ less (ops A) l.root left (l.above ∷ left) ≡ less (ops A) l.root l.initial.word (0 ∷ l.initial.word)
