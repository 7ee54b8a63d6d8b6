-- The marks of a run are the exponent set.
use Rattle.std.proofs.Common.{◌≡◌, ℕ, ◌-◌, ◌%◌, ◌<◌, Bool, true, false, T, eqb, List, filter, sym, refl, ap, ◌∙◌, subst, mod-eq_of_lt, mul-one}
use Rattle.std.specs.List.{range_with_len}
use Rattle.algebra.specs.Arith.{Arith, Laws}
use Rattle.algebra.specs.BlockCode.{some_of, exponents}
use Rattle.algebra.specs.BlockCodeLaws.{Member}
use Rattle.algebra.specs.declared.Alphabet.{Alphabet}
use Rattle.algebra.specs.declared.Alphabet.TheVariants.{Whole, Ground}
use Rattle.algebra.specs.declared.Design.{Design}
use Rattle.algebra.proofs.Members.{member-all, some_member, member_some}
use Rattle.algebra.proofs.Exponents.{exponents_smallest, marked_are_exponents}
use Rattle.code.specs.Marks.{marked, factor, step, Closed, MarkedRun}

truth : (b : Bool) → T b → b ≡ true
truth true t = refl
truth false t = absurd t

module _ (A : Arith) (L : Laws A) (D : Design) where
  abbrev in_set : ℕ → Bool
  in_set e = some_of (eqb e) (exponents A D)

  is_in : (e : ℕ) → Member e (exponents A D) → T (in_set e)
  is_in e m = subst T (sym (member_some e (exponents A D) m)) tt

  member : (e : ℕ) → T (in_set e) → Member e (exponents A D)
  member e t = some_member e (exponents A D) (truth (in_set e) t)

  set_closed : (a : Alphabet) → D.alphabet ≡ a → Closed (step A.order (factor A a)) in_set
  set_closed Whole is e t =
      let low : e < A.order = member-all (λ x. x < A.order) e (exponents A D) (exponents_smallest A L D).below (member e t) in
      subst (λ x. T (in_set x)) (sym (ap (λ x. x % A.order) (mul-one e) ∙ mod-eq_of_lt low)) t
  set_closed Ground is e t = is_in (step A.order A.ground_size e) ((exponents_smallest A L D).closed is e (member e t))

  pub marks_are_exponents : (marks : List Bool) → MarkedRun A.order (factor A D.alphabet) D.first (D.distance - 1) marks → exponents A D ≡ filter (marked marks) (range_with_len 0 A.order)
  marks_are_exponents marks m =
      marked_are_exponents A L D (marked marks) m.run_in (λ is e t. subst (λ a. T (marked marks (step A.order (factor A a) e))) is (m.closed e t))
      (λ e t. member e (m.least in_set (λ i h. is_in _ ((exponents_smallest A L D).run_in i h)) (set_closed D.alphabet refl) e t))
