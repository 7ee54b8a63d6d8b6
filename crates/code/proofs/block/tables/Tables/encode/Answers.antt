use Rattle.algebra.proofs.Encoding.{encoding_is_codeword}
use Rattle.code.proofs.block.tables.Tables.encode.Goals as goal

pub returns-in_err-judge-clause-codeword : goal.returns-in_err-judge-clause-codeword
returns-in_err-judge-clause-codeword g c accepted = encoding_is_codeword _ (g.met.F.Field.keeps c.args.field.now) c.args.design accepted

pub returns-clause-codeword : goal.returns-clause-codeword
returns-clause-codeword g c accepted = encoding_is_codeword _ (g.met.F.Field.keeps c.args.field.now) c.args.design accepted
