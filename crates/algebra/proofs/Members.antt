-- Membership in a list: of what is mapped, joined, counted or kept, and the place of a member.
use Rattle.std.proofs.Common.{◌≡◌, ℕ, zero, suc, ◌+◌, ◌<◌, ◌≤◌, Bool, true, cond, eqb, ◌⊎◌, ◌↔◌, List, [], ◌∷◌, ◌++◌, map, length, get_or, filter, refl, inl, inr, arith, All}
use Rattle.std.specs.List.{range_with_len, flat_map}
use Rattle.std.proofs.lemmas.List.Elements.{All-nil, All-head, All-tail, All-append}
use Rattle.std.proofs.lemmas.List.FromFn.{length-range_with_len, get_or-range_with_len}
use Rattle.std.proofs.lemmas.Bool.{cases_Bool, false≢true}
use Rattle.std.proofs.lemmas.Bool.Decides.{nat_tests}
use Rattle.algebra.specs.BlockCode.{some_of}
use Rattle.algebra.specs.BlockCodeLaws.{Member}

member-append : (x : ℕ) (xs ys : List ℕ) → Member x (xs ++ ys) ↔ (Member x xs ⊎ Member x ys)
member-append x [] ys = (inr, λ m. elim m [ inl n ↦ absurd n | inr k ↦ k ])
member-append x (y ∷ xs) ys = let more = member-append x xs ys in (λ m. grind (arith, more.0), λ m. grind (arith, more.1))

pub member-map : (f : ℕ → ℕ) (x : ℕ) (xs : List ℕ) → Member x xs → Member (f x) (map f xs)
member-map f x [] m = absurd m
member-map f x (y ∷ xs) m = grind (arith, member-map f x xs)

module _ (f : ℕ → List ℕ) where
  pub member-joined : (x y : ℕ) (xs : List ℕ) → Member x xs → Member y (f x) → Member y (flat_map f xs)
  member-joined x y [] m k = absurd m
  member-joined x y (z ∷ xs) m k = (member-append y (f z) (flat_map f xs)).1 (grind (arith, member-joined x y xs))

  pub joined-member : (y : ℕ) (xs : List ℕ) → Member y (flat_map f xs) → (x : ℕ) × Member x xs × Member y (f x)
  joined-member y [] m = absurd m
  joined-member y (x ∷ xs) m =
      elim ((member-append y (f x) (flat_map f xs)).0 m) [
        | inl h ↦ (x, inl refl, h)
        | inr h ↦ let r = joined-member y xs h in (r.0, inr r.1, r.2)
      ]

  pub all-joined : (P Q : ℕ → Type 0) → ((x : ℕ) → Q x → All P (f x)) → (xs : List ℕ) → All Q xs → All P (flat_map f xs)
  all-joined P Q h [] q = All-nil P
  all-joined P Q h (x ∷ xs) q = All-append P (f x) (flat_map f xs) (h x (All-head Q x xs q)) (all-joined P Q h xs (All-tail Q x xs q))

pub member-counting : (a n x : ℕ) → a ≤ x → x < a + n → Member x (range_with_len a n)
member-counting a zero x l h = absurd (omega arith)
member-counting a (suc n) x l h = grind (arith, member-counting (a + 1) n x)

-- what holds of all numbers from a on, below a + n, holds of those counted
pub all-between : (P : ℕ → Type 0) (a n : ℕ) → ((x : ℕ) → a ≤ x → x < a + n → P x) → All P (range_with_len a n)
all-between P a n h k d l = grind (arith, length-range_with_len a n, get_or-range_with_len a n k d, h (a + k))

pub all-counting : (P : ℕ → Type 0) (n : ℕ) → ((x : ℕ) → x < n → P x) → All P (range_with_len 0 n)
all-counting P n h = all-between P 0 n (λ x low high. h x (omega arith))

pub member-kept : (test : ℕ → Bool) (x : ℕ) (xs : List ℕ) → Member x xs → test x ≡ true → Member x (filter test xs)
member-kept test x [] m t = absurd m
member-kept test x (y ∷ xs) m t = grind (arith, member-kept test x xs, cases_Bool (test y))

-- tests that agree keep the same
pub kept_same : (s t : ℕ → Bool) (xs : List ℕ) → All (λ x. s x ≡ t x) xs → filter s xs ≡ filter t xs
kept_same s t [] h = refl
kept_same s t (x ∷ xs) h = grind (arith, h 0 x, kept_same s t xs (All-tail (λ y. s y ≡ t y) x xs h))

pub some_member : (x : ℕ) (xs : List ℕ) → some_of (eqb x) xs ≡ true → Member x xs
some_member x [] e = absurd (false≢true e)
some_member x (y ∷ xs) e = grind (arith, nat_tests, some_member x xs)

pub member_some : (x : ℕ) (xs : List ℕ) → Member x xs → some_of (eqb x) xs ≡ true
member_some x [] m = absurd m
member_some x (y ∷ xs) m = grind (arith, nat_tests, member_some x xs)

-- the first place at which x stands
abbrev pub place : ℕ → List ℕ → ℕ
place x [] = 0
place x (y ∷ ys) = cond (eqb x y) 0 (suc (place x ys))

pub at_place : (x : ℕ) (xs : List ℕ) → Member x xs → (place x xs < length xs) × (get_or xs (place x xs) 0 ≡ x)
at_place x [] m = absurd m
at_place x (y ∷ ys) m = grind (arith, nat_tests, at_place x ys)

pub member-all : (P : ℕ → Type 0) (x : ℕ) (xs : List ℕ) → All P xs → Member x xs → P x
member-all P x xs h m = let at = at_place x xs m in rw at.1 at (h (place x xs) 0 at.0)
