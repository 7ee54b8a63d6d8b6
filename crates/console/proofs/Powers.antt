-- The powers, as a chain of `successors` and `take` gives them.
use Rattle.std.proofs.Common.{◌≡◌, ℕ, ◌-◌, zero, suc, ◌<◌, ◌≤◌, true, List, map, length, Some, IfSome, Option, ◌∙◌, arith}
use Rattle.std.specs.List.{range_with_len}
use Rattle.std.specs.Fn.{CalledAt}
use Rattle.std.specs.Iterator.Runs.{Run, EachRunFrom, SomeRun, WholeRun, HasSameItems, IsSuccessorsRun, CallKeepsClosure}
use Rattle.std.specs.Bool.{IsTrue}
use Rattle.std.proofs.lemmas.List.FromFn.{fill_by_all}
use Rattle.std.proofs.lemmas.Grind.{common_steps}
use Rattle.algebra.specs.Arith.{power}
use denote.Param.Members.{Mut}
use denote.Ref.{Bor}

-- the closure answers the product with the root, and stays as it is
pub record GivesProduct {F : Type 0} (g : Mut F (Bor ℕ × Unit {0}) (Option ℕ)) (f : F) (mul : ℕ → ℕ → ℕ) (root : ℕ) : Type 0 where
  pub keeps : CallKeepsClosure g f
  pub answers : (x : ℕ) (r : Option ℕ) → CalledAt g f x r f → r ≡ Some (mul root x)

module _ {T F : Type 0} {source : T → Option ℕ → T → Type 0} (q : Run source) {g : Mut F (Bor ℕ × Unit {0}) (Option ℕ)} {f : F} (mul : ℕ → ℕ → ℕ) (root : ℕ) (gives : GivesProduct g f mul root) (runs : IsSuccessorsRun q g f (Some 1)) where
  -- what came at each place
  power_at : (k : ℕ) → IfSome (q.at k) (λ y. y ≡ power mul root k)
  power_at zero = let first = runs.0 in grind (arith, common_steps)
  power_at (suc k) =
      let before = power_at k in
      let after = (runs.2 gives.keeps).0 (suc k) (omega arith) in
      grind (arith, common_steps, gives.answers)

  -- a call that gave `None` would have to be the last
  endless : q.whole ≡ true → ⊥
  endless whole =
      let first = runs.1 whole in
      let last = (runs.2 gives.keeps).1 (q.len - 1) whole in
      grind (arith, common_steps, gives.answers)

-- n of them, taken and collected
pub taken_powers : {S T F : Type 0} {steps : S → Option ℕ → S → Type 0} {source : T → Option ℕ → T → Type 0} {g : Mut F (Bor ℕ × Unit {0}) (Option ℕ)} {f : F} {s : S} {t : T} {ys : List ℕ} {l m : ℕ} (mul : ℕ → ℕ → ℕ) (root n : ℕ)
    → EachRunFrom source t (λ q. IsSuccessorsRun q g f (Some 1))
    → EachRunFrom steps s (λ p. (p.len ≤ m) × SomeRun source t (λ q. HasSameItems p q × (IsTrue p.whole → p.len < m → IsTrue q.whole)))
    → m ≡ n
    → GivesProduct g f mul root
    → WholeRun steps s (λ p. (ys ≡ p.items) × (l ≡ length p.items))
    → ys ≡ map (power mul root) (range_with_len 0 n)
taken_powers mul root n all taken count gives (p, from, whole, is) =
    let t = taken p p.seen from in
    let q = t.1.0 in
    let runs = all q q.seen t.1.1 in
    let no_fewer : p.len < n → ⊥ = λ less. endless q mul root gives runs (t.1.2.1 whole (omega arith)) in
    is.0 ∙ fill_by_all (power mul root) p.items n 0 (omega (arith, t.0)) (λ k l. grind (arith, common_steps, p.reads k 0, t.1.2.0.2 k, power_at q mul root gives runs k))
