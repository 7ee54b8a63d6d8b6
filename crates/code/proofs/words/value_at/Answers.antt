use Rattle.std.proofs.Common.{rules, ◌≡◌, ◌<◌, ◌∷◌, sym, ap, ◌∙◌, subst, All}
use Rattle.std.proofs.lemmas.List.Elements.{All-head, All-tail}
use Rattle.std.proofs.iter.runs.Made.{chains}
use Rattle.algebra.specs.Words.{value}
use Rattle.algebra.specs.BlockCode.{ops}
use Rattle.algebra.proofs.Horner.{horner, horner_value}
use Rattle.code.proofs.words.value_at.Goals as goal

pub returns : goal.returns
returns g c hx all =
    let A = g.F.Field.meaning c.args.field.now in
    let L = g.met.F.Field.keeps c.args.field.now in
    let whole : c.args.word.now ≡ c.in-Some.first.now ∷ c.in-Some.rest.now = search rules in
    let folded : c.fold.result ≡ horner A c.args.x c.in-Some.first.now c.in-Some.rest.now = search (rules, chains) in
    let symbols = subst (All (λ s. s < A.size)) whole all in
    folded ∙ horner_value A L c.args.x _ _ hx (All-head (λ s. s < A.size) _ _ symbols) (All-tail (λ s. s < A.size) _ _ symbols) ∙ ap (λ w. value (ops A) w c.args.x) (sym whole)
