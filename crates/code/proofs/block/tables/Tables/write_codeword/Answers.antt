use Rattle.std.proofs.Common.{◌+◌, drop, ap, ◌∙◌, arith}
use Rattle.std.proofs.lemmas.Slice.{between_is}
use Rattle.code.proofs.EncodesInPlace.{encodes_in_place}
use Rattle.code.proofs.block.tables.Tables.write_codeword.Goals as goal

pub returns : goal.returns
returns g c D o =
    let tables = c.args.self.now in
    let count = o.redundancy_is in
    encodes_in_place (g.F.Field.meaning c.args.field.now) D c.args.message.now c.args.word.now (omega arith) (omega arith)
    _ _ _ _ _ _ c.write_front.ensures c.clear_from.ensures (between_is tables.generator 1 (tables.redundancy + 1) ∙ ap (drop 1) o.generator_is)
    c.divide.ensures c.write_front-2.ensures c.negate.ensures
