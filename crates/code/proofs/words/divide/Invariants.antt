use Rattle.std.proofs.Common.{◌≡◌, ◌-◌, drop}
use Rattle.algebra.specs.Words.{remainder}
use Rattle.algebra.specs.BlockCode.{ops}
use Rattle.code.proofs.words.divide.Given as goal

-- the steps that are left take what is left of the word to the remainder
abbrev pub invariant-loop-i : goal.invariant-loop-i
invariant-loop-i g l =
    let o = ops (g.F.Field.meaning l.field) in
    remainder o (l.steps - l.i) l.divisor (drop l.i l.word) ≡ remainder o l.steps l.divisor l.initial.word
