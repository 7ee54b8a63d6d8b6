use Rattle.algebra.proofs.Encoding.{checks_tell_codewords}
use Rattle.code.proofs.block.tables.Tables.check_values.Goals as goal

pub returns-in_err-judge-clause-tell_codewords : goal.returns-in_err-judge-clause-tell_codewords
returns-in_err-judge-clause-tell_codewords g c = checks_tell_codewords _ c.args.design

pub returns-clause-tell_codewords : goal.returns-clause-tell_codewords
returns-clause-tell_codewords g c = checks_tell_codewords _ c.args.design
