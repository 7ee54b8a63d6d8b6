-- Marking a set of numbers, an orbit after the other, and writing them to a list.
use Rattle.std.proofs.lemmas.Grind.{common_steps}
use Rattle.std.proofs.Common.{◌≡◌, ℕ, zero, suc, ◌+◌, ◌%◌, ◌<◌, ◌≤◌, Bool, true, false, T, ◌⊎◌, List, [], ◌∷◌, length, take, set, replicate, map, filter, sym, refl, ap, ◌∙◌, subst, inl, inr, mod-lt, arith, below_more}
use Rattle.std.specs.List.{enumerate_from, range_with_len, sum_by}
use Rattle.std.specs.Int.{from_bool}
use Rattle.std.proofs.lemmas.List.FromFn.{length-enumerate_from, length-range_with_len, fill_by_all}
use Rattle.std.proofs.lemmas.List.Sums.{sum_by-cons, length-filter, count_by-le-length}
use Rattle.std.proofs.lemmas.List.{map-id, take_all, length-take-le, get_or-take}
use Rattle.code.specs.Marks.{marked, step, Within, Closed, MarkedRun}

-- what is marked after e was marked
mark_here : (marks : List Bool) (e : ℕ) → e < length marks → T (marked (set marks e true) e)
mark_here marks e h = grind (arith, common_steps)

mark_kept : (marks : List Bool) (e : ℕ) → e < length marks → Within (marked marks) (marked (set marks e true))
mark_kept marks e h x t = grind (arith, common_steps)

mark_back : (marks : List Bool) (e x : ℕ) → T (marked (set marks e true) x) → (x ≡ e) ⊎ T (marked marks x)
mark_back marks e x t = grind (arith, common_steps)

module _ (order factor : ℕ) where
  -- how far the marking of the orbit of `start` has come, if e is to be marked next
  pub record Orbit (entry marks : List Bool) (start e : ℕ) : Type 0 where
    pub inside : e < order
    pub kept : Within (marked entry) (marked marks)
    pub started : T (marked marks start) ⊎ (e ≡ start)
    pub closed : Closed (step order factor) (marked entry) → (x : ℕ) → T (marked marks x) → T (marked marks (step order factor x)) ⊎ (step order factor x ≡ e)
    pub least : (set : ℕ → Bool) → Closed (step order factor) set → T (set start) → Within (marked entry) set → Within (marked marks) set × T (set e)

  pub orbit_goes_on : (entry marks : List Bool) (start e : ℕ) → order ≤ length marks → Orbit entry marks start e → Orbit entry (set marks e true) start (step order factor e)
  orbit_goes_on entry marks start e fits o =
      let inside = o.inside in
      let h : e < length marks = omega arith in
      record {
        inside = mod-lt _ (omega arith);
        kept = λ x t. mark_kept marks e h x (o.kept x t);
        started = inl (elim o.started [ inl t ↦ mark_kept marks e h start t | inr same ↦ subst (λ y. T (marked (set marks e true) y)) same (mark_here marks e h) ]);
        closed = λ c x t.
            elim (mark_back marks e x t) [
              | inl same ↦ inr (ap (step order factor) same)
              | inr old ↦
                  inl
                  (elim (o.closed c x old) [
                    | inl u ↦ mark_kept marks e h (step order factor x) u
                    | inr here ↦ subst (λ y. T (marked (set marks e true) y)) (sym here) (mark_here marks e h)
                  ])
            ];
        least = λ s c t w.
            let was = o.least s c t w in
            (λ x u. elim (mark_back marks e x u) [ inl same ↦ subst (λ y. T (s y)) (sym same) was.1 | inr old ↦ was.0 x old ], c e was.1);
      }

-- nothing is marked at first
none_marked : (n e : ℕ) → T (marked (replicate n false) e) → ⊥
none_marked zero e t = t
none_marked (suc n) zero t = t
none_marked (suc n) (suc e) t = none_marked n e t

module _ (order factor first : ℕ) where
  pub run_begins : MarkedRun order factor first 0 (replicate 1024 false)
  run_begins = record {
    size = refl;
    run_in = λ k h. absurd (omega arith);
    closed = λ e t. absurd (none_marked 1024 e t);
    least = λ s h c e t. absurd (none_marked 1024 e t);
  }

  -- one more exponent of the run is marked, with its orbit
  pub run_goes_on : (i : ℕ) (marks next : List Bool) → MarkedRun order factor first i marks → length next ≡ 1024 → Within (marked marks) (marked next)
      → T (marked next ((first + i) % order)) → (Closed (step order factor) (marked marks) → Closed (step order factor) (marked next))
      → ((set : ℕ → Bool) → Closed (step order factor) set → T (set ((first + i) % order)) → Within (marked marks) set → Within (marked next) set)
      → MarkedRun order factor first (i + 1) next
  run_goes_on i marks next m size kept started closed least = record {
    size = size;
    run_in = below_more _ i (λ k h. kept _ (m.run_in k h)) started;
    closed = closed m.closed;
    least = λ s h c. least s c (h i (omega arith)) (m.least s (λ k l. h k (omega arith)) c);
  }

-- a list's elements, from their pairs with their places
without_places : (n : ℕ) (xs : List ℕ) → map (λ p. p.1) (enumerate_from n xs) ≡ xs
without_places n [] = refl
without_places n (x ∷ xs) = ap (λ ys. x ∷ ys) (without_places (n + 1) xs)

-- what was found stands at the front of the list, which has places enough, once each was written to its place
pub all_written : (found list : List ℕ) (places : ℕ) (written : List (ℕ × ℕ)) → length found ≤ places → map (λ p. p) written ≡ enumerate_from 0 (take places found)
    → take (length written) list ≡ map (λ p. p.1) written → take (length found) list ≡ found
all_written found list places written fits each front =
    let all : written ≡ enumerate_from 0 found = sym (map-id written) ∙ each ∙ ap (enumerate_from 0) (take_all places found fits) in
    ap (λ n. take n list) (sym (ap length all ∙ length-enumerate_from 0 found)) ∙ front ∙ ap (map (λ p. p.1)) all ∙ without_places 0 found

summed : (f : ℕ → Bool) (xs : List ℕ) → sum_by from_bool (map f xs) ≡ length (filter f xs)
summed f [] = refl
summed f (x ∷ xs) = grind (arith, common_steps, sum_by-cons from_bool (f x) (map f xs), summed f xs)

-- the marks before place n, each as 0 or 1, come to how many numbers below n are marked
pub marks_counted : (marks : List Bool) (n : ℕ) → n ≤ length marks → sum_by from_bool (take n marks) ≡ length (filter (marked marks) (range_with_len 0 n))
marks_counted marks n fits =
    ap (sum_by from_bool) (fill_by_all (marked marks) (take n marks) n false (length-take-le n marks fits) (λ k h. get_or-take n marks k false h))
    ∙ summed (marked marks) (range_with_len 0 n)

pub few_marked : (marks : List Bool) (n : ℕ) → length (filter (marked marks) (range_with_len 0 n)) ≤ n
few_marked marks n =
    omega (arith, length-filter (marked marks) (range_with_len 0 n), count_by-le-length (marked marks) (range_with_len 0 n), length-range_with_len 0 n)
