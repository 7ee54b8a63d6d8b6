-- A ring of codes whose root's powers first return to 1 at size - 1 is a field: the root's powers are all codes but 0,
-- so a ^ (size - 2) is the inverse of a.
use Rattle.std.proofs.Common.{◌≡◌, ℕ, zero, suc, ◌-◌, ◌<◌, ◌≤◌, eqb, sym, ap, ◌∙◌, inl, inr, arith}
use Rattle.std.proofs.lemmas.Bool.{cases_eq, eqb-true, eq-eqb}
use Rattle.std.proofs.lemmas.Bool.Decides.{nat_tests}
use Rattle.algebra.specs.Arith.{Arith, Ring, Laws, power}
use Rattle.algebra.specs.Codes.{inverse}
use Rattle.algebra.specs.Search.{Returns}
use Rattle.algebra.proofs.Searches.{first_is, first_none, first_below}
use Rattle.algebra.proofs.Walks.{different, reaches}
use Rattle.algebra.proofs.Powers.{one_code, zero_code, power_code, mul_comm, mul-zero, zero-mul, mul_assoc, one-mul, power-mul, power_of_one}

module _ (A : Arith) (R : Ring A) where
  -- what makes 1 with a is its inverse, since there is only one such code
  one_inverse : (a b c : ℕ) → b < A.size → c < A.size → A.mul a b ≡ 1 → A.mul a c ≡ 1 → c ≡ b
  one_inverse a b c hb hc e f = grind (arith, one-mul A R c, R.mul-one b hb, mul_comm A R, mul_assoc A R)

  inverse_is : (a b : ℕ) → b < A.size → A.mul a b ≡ 1 → inverse A.size A.mul a ≡ b
  inverse_is a b hb e =
      first_is (λ c. eqb (A.mul a c) 1) A.size 0 b (omega arith) (omega arith) (eq-eqb _ _ e)
      (λ c low lt t. omega (arith, one_inverse a b c hb (omega arith) e (eqb-true _ _ t)))

  no_inverse : (a : ℕ) → ((b : ℕ) → A.mul a b ≡ 0) → inverse A.size A.mul a ≡ 0
  no_inverse a none = first_none (λ b. eqb (A.mul a b) 1) A.size 0 (λ b t. grind (arith, nat_tests, none b))

  module _ (full : suc A.order ≡ A.size) (ret : Returns (A.mul A.root) A.order) where
    power_full : (i : ℕ) → power A.mul (power A.mul A.root i) A.order ≡ 1
    power_full zero = power_of_one A R A.order
    power_full (suc i) = cc (power-mul A R A.root (power A.mul A.root i) A.order, ret.1, power_full i, R.mul-one 1 (one_code A R))

    -- a ^ (size - 1) = 1
    fermat : (a : ℕ) → a < A.size → (a ≡ 0 → ⊥) → A.mul a (power A.mul a (A.size - 2)) ≡ 1
    fermat a ha ne =
        let low = R.size_low in
        let s : suc (A.size - 2) ≡ A.order = omega arith in
        let at = reaches (A.mul A.root) A.order ret (mul-zero A R A.root) (λ i. omega (arith, power_code A R A.root i)) a (omega arith) ne in
        cc (ap (power A.mul a) s, at.2, power_full at.0)

    -- a ^ (size - 2) is the inverse of a, the exponent as a program has it
    pub inverse_by_power : (a q : ℕ) → a < A.size → q ≡ A.size → power A.mul a (q - 2) ≡ inverse A.size A.mul a
    inverse_by_power a q ha e =
        let low = R.size_low in
        let s : A.size - 2 ≡ suc (A.size - 3) = omega arith in
        ap (λ n. power A.mul a (n - 2)) e
        ∙ elim (cases_eq a 0) [
          | inl z ↦ cc (ap (power A.mul a) s, zero-mul A R (power A.mul a (A.size - 3)), no_inverse 0 (zero-mul A R), z)
          | inr ne ↦ sym (inverse_is a _ (power_code A R a (A.size - 2)) (fermat a ha ne))
        ]

    pub field_laws : A.root < A.size → ((a : ℕ) → A.inv a ≡ inverse A.size A.mul a) → 2 ≤ A.ground_size → A.ground_size ≤ A.size
        → ((a : ℕ) → suc a < A.ground_size → A.add a 1 ≡ suc a) → ((a : ℕ) → suc a ≡ A.ground_size → A.add a 1 ≡ 0) → Laws A
    field_laws root inv-is ground_low ground_high add-one add_one_last =
        let low = R.size_low in
        record {
          ring = R;
          inv_code = λ a. rw (inv-is a) (first_below (λ b. eqb (A.mul a b) 1) A.size 0 A.size (zero_code A R) (omega arith));
          mul-inv = λ a ha ne. let e = fermat a ha ne in cc (inv-is a, inverse_is a _ (power_code A R a (A.size - 2)) e);
          inv-zero = inv-is 0 ∙ no_inverse 0 (zero-mul A R);
          inv_outside = λ a h. inv-is a ∙ no_inverse a (λ b. R.mul_outside_left a b h);
          ground_low = ground_low;
          ground_high = ground_high;
          add-one = add-one;
          add_one_last = add_one_last;
          order_low = omega arith;
          order_high = omega arith;
          root_code = root;
          root_different = different (A.mul A.root) A.order ret;
          root_order = ret.1;
        }

-- in a field whose root's powers are all codes but 0 it is the inverse that the field has
pub inverse_is_power : (A : Arith) → Laws A → suc A.order ≡ A.size → (a q : ℕ) → a < A.size → q ≡ A.size → power A.mul a (q - 2) ≡ A.inv a
inverse_is_power A L full a q ha e =
    let R = L.ring in
    let low = L.order_low in
    let ret : Returns (A.mul A.root) A.order = (omega arith, L.root_order, λ k pos h one. omega (arith, L.root_different k 0 h (omega arith) one)) in
    inverse_by_power A R full ret a q ha e
    ∙ elim (cases_eq a 0) [
      | inl z ↦ cc (z, no_inverse A R 0 (zero-mul A R), L.inv-zero)
      | inr ne ↦ inverse_is A R a _ (L.inv_code a) (L.mul-inv a ha ne)
    ]
