use Rattle.std.proofs.Common.{rules, ◌≡◌, ℕ, suc, ◌+◌, List, [], ◌∷◌, map, length, take, sym, ap, ◌∙◌, add-one}
use Rattle.algebra.specs.Arith.{Arith, power}
use Rattle.algebra.specs.Words.{times_factors}
use Rattle.algebra.specs.BlockCode.{ops, root_power, exponents, redundancy, generator}
use Rattle.algebra.specs.declared.Design.{Design}
use Rattle.code.proofs.block.tables.Tables.of.Goals as goal

-- the product of the factors of the exponents listed is the generator
generator_table : (A : Arith) (D : Design) (r : ℕ) (list table : List ℕ) → r ≡ redundancy A D → take r list ≡ exponents A D
    → take (suc (length (take r list))) table ≡ times_factors (ops A) (1 ∷ []) (map (root_power A) (take r list)) → take (r + 1) table ≡ generator A D
unfolding generator
generator_table A D r list table count listed product =
    ap (λ n. take n table) (add-one r) ∙ ap (λ n. take (suc n) table) (count ∙ ap length (sym listed)) ∙ product ∙ ap (λ es. times_factors (ops A) (1 ∷ []) (map (root_power A) es)) listed

pub returns : goal.returns
returns g c =
    let A = g.F.Field.meaning c.args.field.now in
    let D = c.args.design in
    let set = c.requires.marks in
    let count : c.args.count ≡ redundancy A D = c.requires.counted in
    let listed : take c.args.count c.write.new.list ≡ exponents A D = search rules in
    record {
      redundancy_is = count;
      start_is = c.power-start.ensures ∙ ap (λ root. power A.mul root D.first) c.root.ensures;
      exponents_are = listed;
      generator_is = generator_table A D _ c.write.new.list c.generator_of-generator.result count listed (search rules);
    }
