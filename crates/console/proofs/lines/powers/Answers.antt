use Rattle.std.proofs.Common.{rules}
use Rattle.std.proofs.lemmas.Result.{IfOk-weaker}
use Rattle.console.proofs.Powers.{taken_powers}
use Rattle.console.proofs.lines.powers.Goals as goal

pub returns : goal.returns
returns g c =
    let A = g.F.Field.meaning c.args.field.now in
    IfOk-weaker c.collect.result _ _ (λ v w. taken_powers A.mul A.root A.order c.successors.ensures.runs c.take.ensures.runs (search rules) (record { keeps = λ a r f' e. search rules; answers = λ x r e. search rules }) (w tt)) c.collect.ensures.runs
