-- Each supplied polynomial is accepted: one computed test of the table, and what the test tells of an entry.
use Rattle.std.proofs.Common.{rules, ◌≡◌, ℕ, zero, suc, ◌+◌, ◌-◌, ◌%◌, ◌^◌, ◌<◌, ◌≤◌, Bool, true, ◌&&◌, eqb, ltb, leb, List, [], ◌∷◌, length, get_or, Ok, refl, subst, arith, pow_mono}
use Rattle.std.proofs.lemmas.Bool.{and_parts, eqb-true, leb-true, ltb-true}
use Rattle.algebra.specs.Search.{Returns, root_return}
use Rattle.algebra.specs.Binary.{bit, sum_over, carryless, remainder, binary, Shape}
use Rattle.field.specs.Opening.{opening}
use Rattle.field.specs.Supplied.{polynomials, standard_opening}
use Rattle.algebra.proofs.Walks.{first_return}
use Rattle.algebra.proofs.Computed.{comes_back, returns_by}

-- P is odd and of degree m, and the powers of the root first return to 1 at 2^m - 1
abbrev accepted : ℕ → ℕ → Bool
accepted m P = eqb (P % 2) 1 && leb (2 ^ m) P && ltb P (2 ^ suc m) && comes_back ((binary m P).mul 2) (2 ^ m - 2) ((binary m P).mul 2 1)

-- each of the list, the degrees rising from m
abbrev each_accepted : ℕ → List ℕ → Bool
each_accepted m [] = true
each_accepted m (P ∷ Ps) = accepted m P && each_accepted (suc m) Ps

table_accepted : each_accepted 2 polynomials ≡ true
unfolding bit sum_over carryless remainder
table_accepted = refl

entry_accepted : (m : ℕ) (Ps : List ℕ) → each_accepted m Ps ≡ true → (i : ℕ) → i < length Ps → accepted (m + i) (get_or Ps i 0) ≡ true
entry_accepted m [] t i h = absurd (omega arith)
entry_accepted m (P ∷ Ps) t zero h = let e : m ≡ m + 0 = omega arith in subst (λ k. accepted k P ≡ true) e (and_parts (accepted m P) (each_accepted (suc m) Ps) t).0
entry_accepted m (P ∷ Ps) t (suc i) h =
    let e : suc m + i ≡ m + suc i = omega arith in
    subst (λ k. accepted k (get_or Ps i 0) ≡ true) e (entry_accepted (suc m) Ps (and_parts (accepted m P) (each_accepted (suc m) Ps) t).1 i (omega arith))

-- the opening of a binary field whose degree and polynomial pass
opening_field : (m P : ℕ) → Shape m P → P % 2 ≡ 1 → root_return (binary m P) ≡ 2 ^ m - 1 → opening m P ≡ Ok (binary m P)
opening_field m P shape odd e = search rules

opens : (m P : ℕ) → 2 ≤ m → m ≤ 10 → accepted m P ≡ true → opening m P ≡ Ok (binary m P)
opens m P low high t =
    let step : ℕ → ℕ = (binary m P).mul 2 in
    let four : 4 ≤ 2 ^ m = pow_mono low in
    let s = and_parts (eqb (P % 2) 1 && leb (2 ^ m) P && ltb P (2 ^ suc m)) (comes_back step (2 ^ m - 2) (step 1)) t in
    let u = and_parts (eqb (P % 2) 1 && leb (2 ^ m) P) (ltb P (2 ^ suc m)) s.0 in
    let v = and_parts (eqb (P % 2) 1) (leb (2 ^ m) P) u.0 in
    let last : suc (2 ^ m - 2) ≡ 2 ^ m - 1 = omega arith in
    opening_field m P (low, high, leb-true _ _ v.1, ltb-true _ _ u.1) (eqb-true _ _ v.0)
    (first_return step (2 ^ m - 1) (2 ^ m - 1) (subst (Returns step) last (returns_by step (2 ^ m - 2) s.1)) (omega arith))

pub supplied_opens : (m : ℕ) → 2 ≤ m → m ≤ 10 → opening m (get_or polynomials (m - 2) 0) ≡ standard_opening m
supplied_opens m low high =
    let P = get_or polynomials (m - 2) 0 in
    let e : 2 + (m - 2) ≡ m = omega arith in
    let opened = opens m P low high (subst (λ k. accepted k P ≡ true) e (entry_accepted 2 polynomials table_accepted (m - 2) (omega arith))) in
    search rules
