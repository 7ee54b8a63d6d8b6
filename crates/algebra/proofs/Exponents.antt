-- The exponent set is the smallest one that holds the run and, for the ground alphabet, the conjugates.
use Rattle.std.proofs.Common.{◌≡◌, ℕ, zero, suc, ◌+◌, ◌-◌, ◌%◌, ◌<◌, Bool, true, T, eqb, List, [], ◌∷◌, filter, refl, ◌∙◌, subst, inl, inr, mod-lt, arith, All}
use Rattle.std.specs.List.{range_with_len}
use Rattle.std.proofs.lemmas.List.Elements.{All-nil, All-cons, All-weaker, All-map, All-filter, filter_passes}
use Rattle.std.proofs.lemmas.Bool.{cases_Bool, cases_lt, eqb-true}
use Rattle.std.proofs.lemmas.Bool.Decides.{nat_tests}
use Rattle.algebra.specs.Arith.{Arith, Laws, iterate}
use Rattle.algebra.specs.BlockCode.{some_of, orbit, conjugate, run, reached, exponents}
use Rattle.algebra.specs.BlockCodeLaws.{Rising, Member, Smallest}
use Rattle.algebra.specs.declared.Alphabet.{Alphabet}
use Rattle.algebra.specs.declared.Alphabet.TheVariants.{Whole, Ground}
use Rattle.algebra.specs.declared.Design.{Design}
use Rattle.algebra.proofs.Pigeon.{no_room}
use Rattle.algebra.proofs.Searches.{first_finds}
use Rattle.algebra.proofs.Walks.{iterate_first, iterate-add}
use Rattle.algebra.proofs.Members.{member-all, member-map, member-joined, joined-member, all-joined, member-counting, all-between, all-counting, member-kept, kept_same, some_member, member_some}

counting_rising : (a n : ℕ) → Rising (range_with_len a n)
counting_rising a zero = tt
counting_rising a (suc n) = (all-between (λ y. a < y) (a + 1) n (λ y low high. omega arith), counting_rising (a + 1) n)

kept_rising : (test : ℕ → Bool) (xs : List ℕ) → Rising xs → Rising (filter test xs)
kept_rising test [] r = tt
kept_rising test (x ∷ xs) r = grind (arith, kept_rising test xs r.1, All-filter test (λ y. x < y) xs r.0, cases_Bool (test x))

module _ (step : ℕ → ℕ) where
  orbit_at : (k j e : ℕ) → j < k → Member (iterate step j e) (orbit step e k)
  orbit_at zero j e l = absurd (omega arith)
  orbit_at (suc k) zero e l = inl refl
  orbit_at (suc k) (suc j) e l = inr (rw (iterate_first step j e) at (orbit_at k j (step e) (omega arith)))

  orbit-member : (k e x : ℕ) → Member x (orbit step e k) → (j : ℕ) × (j < k) × (x ≡ iterate step j e)
  orbit-member zero e x m = absurd m
  orbit-member (suc k) e x (inl h) = (0, omega arith, h)
  orbit-member (suc k) e x (inr m) = let r = orbit-member k (step e) x m in (suc r.0, omega arith, r.2 ∙ iterate_first step r.0 e)

  orbit_set : (set : ℕ → Bool) → ((e : ℕ) → T (set e) → T (set (step e))) → (k e : ℕ) → T (set e) → All (λ x. T (set x)) (orbit step e k)
  orbit_set set h zero e t = All-nil (λ x. T (set x))
  orbit_set set h (suc k) e t = All-cons (λ x. T (set x)) e (orbit step (step e) k) t (orbit_set set h k (step e) (h e t))

  module _ (N e : ℕ) (l : e < N) (below : (x : ℕ) → step x < N) where
    iterate_below : (j : ℕ) → iterate step j e < N
    iterate_below zero = l
    iterate_below (suc j) = below (iterate step j e)

    -- N steps come back into the first N, since two of the first N + 1 places are the same
    comes_round : Member (iterate step N e) (orbit step e N)
    comes_round =
        elim (first_finds (λ i. eqb (iterate step i e) (iterate step N e)) N 0) [
          | inl s ↦ rw (← eqb-true _ _ s.2) (orbit_at N _ e (omega (arith, s.1)))
          | inr none ↦
              absurd (no_room N (λ i. iterate step i e) (λ i _. iterate_below i)
              (λ i j hi hj q. grind (arith, nat_tests, none (N - j + i), none (N - i + j), iterate-add step (N - j), iterate-add step (N - i))))
        ]

    orbit_closed : (x : ℕ) → Member x (orbit step e N) → Member (step x) (orbit step e N)
    orbit_closed x m =
        let r = orbit-member N e x m in
        rw r.2 (elim (cases_lt (suc r.0) N) [
          | inl h ↦ orbit_at N (suc r.0) e h
          | inr h ↦ let s : N ≡ suc r.0 = omega arith in subst (λ y. Member (iterate step y e) (orbit step e N)) s comes_round
        ])

module _ (A : Arith) (L : Laws A) (D : Design) where
  modulo-order : (m : ℕ) → m % A.order < A.order
  modulo-order m = mod-lt m (let h = L.order_low in omega arith)

  all-run : (P : ℕ → Type 0) → ((i : ℕ) → i < D.distance - 1 → P ((D.first + i) % A.order)) → All P (run A D)
  all-run P h = All-map P (λ i. (D.first + i) % A.order) (range_with_len 0 (D.distance - 1)) (all-counting _ (D.distance - 1) h)

  member-run : (i : ℕ) → i < D.distance - 1 → Member ((D.first + i) % A.order) (run A D)
  member-run i l = member-map (λ i. (D.first + i) % A.order) i (range_with_len 0 (D.distance - 1)) (member-counting 0 (D.distance - 1) i (omega arith) (omega arith))

  abbrev round : ℕ → List ℕ
  round e = orbit (conjugate A) e A.order

  run_reached : (s : Alphabet) (e : ℕ) → Member e (run A D) → Member e (reached A s (run A D))
  run_reached Whole e m = m
  run_reached Ground e m = let h = L.order_low in member-joined round e e (run A D) m (orbit_at (conjugate A) A.order 0 e (omega arith))

  reached_closed : (s : Alphabet) → s ≡ Ground → (e : ℕ) → Member e (reached A s (run A D)) → Member (conjugate A e) (reached A s (run A D))
  reached_closed Whole g e m = absurd (cc)
  reached_closed Ground g e m =
      let r = joined-member round e (run A D) m in
      let l : r.0 < A.order = member-all (λ e. e < A.order) r.0 (run A D) (all-run (λ e. e < A.order) (λ i _. modulo-order (D.first + i))) r.1 in
      member-joined round r.0 (conjugate A e) (run A D) r.1 (orbit_closed (conjugate A) A.order r.0 l (λ x. modulo-order _) e r.2)

  -- a set that holds the run, and for the ground alphabet with each e its conjugate
  reached_least : (s : Alphabet) (set : ℕ → Bool) → ((i : ℕ) → i < D.distance - 1 → T (set ((D.first + i) % A.order)))
      → (s ≡ Ground → (e : ℕ) → T (set e) → T (set (conjugate A e))) → All (λ e. T (set e)) (reached A s (run A D))
  reached_least Whole set h k = all-run (λ e. T (set e)) h
  reached_least Ground set h k =
      all-joined round (λ e. T (set e)) (λ e. T (set e)) (λ e t. orbit_set (conjugate A) set (k refl) A.order e t) (run A D) (all-run (λ e. T (set e)) h)

  abbrev es : List ℕ
  es = reached A D.alphabet (run A D)

  abbrev in_set : ℕ → Bool
  in_set e = some_of (eqb e) es

  reached_exponent : (e : ℕ) → e < A.order → Member e es → Member e (exponents A D)
  unfolding exponents
  reached_exponent e l m = member-kept in_set e (range_with_len 0 A.order) (member-counting 0 A.order e (omega arith) (omega arith)) (member_some e es m)

  exponents_reached : All (λ e. in_set e ≡ true) (exponents A D)
  unfolding exponents
  exponents_reached = filter_passes in_set (range_with_len 0 A.order)

  exponent_reached : (e : ℕ) → Member e (exponents A D) → Member e es
  exponent_reached e m = some_member e es (member-all (λ e. in_set e ≡ true) e (exponents A D) exponents_reached m)

  pub exponents_smallest : Smallest A D
  unfolding exponents
  exponents_smallest = record {
    rising = kept_rising in_set (range_with_len 0 A.order) (counting_rising 0 A.order);
    below = All-filter in_set (λ e. e < A.order) (range_with_len 0 A.order) (all-counting (λ e. e < A.order) A.order (λ e l. l));
    run_in = λ i l. reached_exponent _ (modulo-order _) (run_reached D.alphabet _ (member-run i l));
    closed = λ g e m. reached_exponent _ (modulo-order _) (reached_closed D.alphabet g e (exponent_reached e m));
    least = λ set h k.
        All-weaker (λ e. in_set e ≡ true) (λ e. T (set e)) (λ e t. member-all (λ e. T (set e)) e es (reached_least D.alphabet set h k) (some_member e es t))
        (exponents A D) exponents_reached;
  }

  -- a set that holds what it has to and nothing beside the exponents has just these
  pub marked_are_exponents : (set : ℕ → Bool) → ((i : ℕ) → i < D.distance - 1 → T (set ((D.first + i) % A.order)))
      → (D.alphabet ≡ Ground → (e : ℕ) → T (set e) → T (set (conjugate A e)))
      → ((e : ℕ) → T (set e) → Member e (exponents A D)) → exponents A D ≡ filter set (range_with_len 0 A.order)
  unfolding exponents
  marked_are_exponents set h k only =
      let all = exponents_smallest.least set h k in
      kept_same in_set set (range_with_len 0 A.order)
      (all-counting (λ e. in_set e ≡ set e) A.order
      (λ e l. grind (
        arith,
        member-all (λ e. T (set e)) e (exponents A D) all,
        reached_exponent e l,
        exponent_reached e,
        only e,
        some_member e es,
        member_some e es,
        cases_Bool (set e),
        cases_Bool (in_set e),
      )))
