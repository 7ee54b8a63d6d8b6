use Rattle.std.proofs.Common.{◌≡◌, ℕ, suc, ◌+◌, ◌*◌, ◌/◌, ◌%◌, ◌^◌, ◌<◌, ◌≤◌, Bool, true, false, eqb, ◌⊎◌, MatchBool, sym, refl, ap, ◌∙◌, inl, inr, pow-suc, arith}
use native.Mathlib.Nat.{div-eq_of_lt-le}
use Rattle.std.proofs.lemmas.Nat.{pow_pos, shr_split, mod_below}
use Rattle.std.proofs.lemmas.Bool.{cases_lt, eqb-true, eqb-false}
use Rattle.algebra.specs.Binary.{Shape}
use Rattle.field.proofs.binary.polynomial.has_degree.Goals as goal

-- a quotient of 1 is the degree
judged : (m P : ℕ) → (2 ≤ m) × (m ≤ 10) → P % 2 ≡ 1 → (t : Bool) → eqb (P / 2 ^ m) 1 ≡ t
    → MatchBool t (Shape m P × (P % 2 ≡ 1)) ((P % 2 ≡ 0) ⊎ ((P < 2 ^ m) ⊎ (2 ^ suc m ≤ P)))
judged m P d odd true t =
    let split : 1 * 2 ^ m + P % 2 ^ m ≡ P = ap (λ q. q * 2 ^ m + P % 2 ^ m) (sym (eqb-true _ _ t)) ∙ shr_split P m in
    let rest = mod_below P (2 ^ m) (pow_pos m) in
    ((d.0, d.1, omega arith, omega (arith, pow-suc 2 m)), odd)
judged m P d odd false t =
    elim (cases_lt P (2 ^ m)) [
      | inl low ↦ inr (inl low)
      | inr over ↦ elim (cases_lt P (2 ^ suc m)) [
        | inl under ↦ absurd (eqb-false _ _ t (div-eq_of_lt-le (2 ^ m) (omega arith) (omega (arith, pow-suc 2 m))))
        | inr high ↦ inr (inr high)
      ]
    ]

pub returns-then-polynomial-eq1 : goal.returns-then-polynomial-eq1
returns-then-polynomial-eq1 c = judged c.args.degree c.args.polynomial c.requires c.if-polynomial-eq1.true (eqb (c.args.polynomial / 2 ^ c.args.degree) 1) refl
