use Rattle.std.proofs.Common.{◌≡◌, ◌+◌, ◌<◌, map, take, All}
use Rattle.std.specs.List.{range_with_len}
use Rattle.algebra.specs.Words.{value}
use Rattle.algebra.specs.BlockCode.{ops, root_power}
use Rattle.algebra.specs.declared.Design.{Design}
use Rattle.code.specs.Opened.{TablesOf}
use Rattle.code.proofs.block.tables.Tables.write_check_values.Given as goal

abbrev pub invariant-loop-value : goal.invariant-loop-value
invariant-loop-value g l =
    let A = g.F.Field.meaning l.field in
    let i = l.value-index in
    (D : Design) → TablesOf A D l.self → All (λ s. s < A.size) l.word
    → (l.point ≡ root_power A (D.first + i)) × (take i l.list ≡ map (λ j. value (ops A) l.word (root_power A (D.first + j))) (range_with_len 0 i))
