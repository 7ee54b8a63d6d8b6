-- What an accepted code is: its dimension, its reach, and its generator, of length r + 1, which begins with 1 and is 0 at the exponents.
use Rattle.std.proofs.Common.{◌≡◌, ℕ, suc, ◌+◌, ◌-◌, ◌%◌, ◌<◌, ◌≤◌, List, [], ◌∷◌, map, length, get_or, drop, sym, refl, ap, ◌∙◌, inl, inr, arith}
use native.Mathlib.Nat as nat
use lib.ListN.{length-map}
use Rattle.std.proofs.lemmas.Bool.{cases_lt}
use Rattle.algebra.specs.Arith.{Arith, Laws}
use Rattle.algebra.specs.Words.{pow, value, times_factors, factors}
use Rattle.algebra.specs.BlockCode.{ops, root_power, exponents, redundancy, generator, Accepted}
use Rattle.algebra.specs.BlockCodeLaws.{Member, Facts}
use Rattle.algebra.specs.declared.Design.{Design}
use Rattle.algebra.proofs.Pigeon.{no_room}
use Rattle.algebra.proofs.Members.{place, at_place}
use Rattle.algebra.proofs.Elements.{Element, element, codes, on_elements, elements_ring, code_pow, pow_is_power, code_value, codes-times_factors, code_factors}
use Rattle.algebra.proofs.WordValues.{length-times_factors, value_product, begins, factors_root}
use Rattle.algebra.proofs.Exponents.{exponents_smallest}

pub generator_length : (A : Arith) (D : Design) → length (generator A D) ≡ suc (redundancy A D)
unfolding generator
generator_length A D =
    length-times_factors (ops A) (1 ∷ []) (map (root_power A) (exponents A D)) ∙ ap (λ n. 1 + n) (length-map (exponents A D) (root_power A)) ∙ omega arith

-- b and two different numbers below N do not make the same sum modulo N
sums_differ : (N b i j : ℕ) → b < N → i < N → j < N → (b + i) % N ≡ (b + j) % N → i ≡ j
sums_differ N b i j hb hi hj e = grind (arith, cases_lt (b + i) N, cases_lt (b + j) N, nat.mod-eq_of_lt, nat.mod-eq-sub-mod)

module _ (A : Arith) (L : Laws A) where
  abbrev pub root_element : Element A
  root_element = element A.root L.root_code

  codes_powers : (es : List ℕ) → codes (map (pow (on_elements A L.ring) root_element) es) ≡ map (root_power A) es
  codes_powers [] = refl
  codes_powers (e ∷ es) = cc (code_pow A L.ring root_element e, pow_is_power A A.root e, codes_powers es)

  module _ (D : Design) where
    -- the generator's roots, and the generator but for its first coefficient, as elements
    abbrev roots : List (Element A)
    roots = map (pow (on_elements A L.ring) root_element) (exponents A D)

    abbrev pub generator_tail : List (Element A)
    generator_tail = let o = on_elements A L.ring in drop 1 (times_factors o (o.one ∷ []) roots)

    pub generator_is : generator A D ≡ 1 ∷ codes generator_tail
    unfolding generator
    generator_is =
        let o = on_elements A L.ring in
        ap (times_factors (ops A) (1 ∷ [])) (sym (codes_powers (exponents A D))) ∙ sym (codes-times_factors A L.ring (o.one ∷ []) roots)
        ∙ ap codes (begins (elements_ring A L.ring) [] roots)

    -- the generator is 0 at the exponents
    pub tail_root : (e : ℕ) → Member e (exponents A D) → let o = on_elements A L.ring in value o (o.one ∷ generator_tail) (pow o root_element e) ≡ o.zero
    tail_root e m =
        let power = pow (on_elements A L.ring) root_element in
        value_product (elements_ring A L.ring) roots (power e) ∙ factors_root (elements_ring A L.ring) power (exponents A D) e m

    generator_value : (x : ℕ) → x < A.size → value (ops A) (generator A D) x ≡ factors (ops A) (map (root_power A) (exponents A D)) x
    generator_value x l =
        let R = L.ring in
        let X : Element A = element x l in
        let whole = code_value A R ((on_elements A R).one ∷ generator_tail) X in
        cc (generator_is, whole, value_product (elements_ring A R) roots X, code_factors A R roots X, codes_powers (exponents A D))

    -- the run has δ − 1 numbers, all different and all in the exponent set
    run_fits : D.first < A.order → redundancy A D < A.order → D.distance - 1 ≤ redundancy A D
    run_fits b r =
        elim (cases_lt (redundancy A D) (D.distance - 1)) [
          | inr h ↦ h
          | inl h ↦
              let E = exponents A D in
              let e : ℕ → ℕ = λ i. (D.first + i) % A.order in
              let at = λ (i : ℕ) (l : i < suc (redundancy A D)). at_place (e i) E ((exponents_smallest A L D).run_in i (omega arith)) in
              absurd (no_room (redundancy A D) (λ i. place (e i) E) (λ i l. (at i l).0)
              (λ i j li lj q. sums_differ A.order D.first i j b (omega arith) (omega arith) (sym (at i li).1 ∙ ap (λ k. get_or E k 0) q ∙ (at j lj).1)))
        ]

    pub code_facts : Accepted A D → Facts A D
    code_facts a =
        let room = a.some_message in
        let order = a.length_order in
        let most = a.distance_high in
        let fits = run_fits a.first_order (omega arith) in
        record {
          some_message = omega arith;
          whole_length = omega arith;
          reach_most = omega arith;
          distance_most = omega arith;
          generator_long = generator_length A D;
          generator_first = ap (λ w. get_or w 0 0) generator_is;
          generator_value = generator_value;
        }
