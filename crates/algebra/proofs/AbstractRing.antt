-- What follows from the laws of a commutative ring, and `ring`, the equations by which `simp (ring, L)` proves others.
use Rattle.std.proofs.Common.{◌≡◌, sym, ap, ◌∙◌}
use Rattle.algebra.specs.Abstract.{Ops, RingLaws}

module _ {K : Type 0} {o : Ops K} (L : RingLaws o) where
  open o use {zero as 𝟘, one as 𝟙, add as ◌⊕◌, neg as ⊖, mul as ◌⊗◌}

  infixl 80 ◌⊕◌
  infixl 90 ◌⊗◌
  -- the laws themselves, by names that a set of equations can list
  pub add_comm : (x y : K) → x ⊕ y ≡ y ⊕ x
  add_comm = L.add_comm

  pub add_assoc : (x y z : K) → x ⊕ y ⊕ z ≡ x ⊕ (y ⊕ z)
  add_assoc = L.add_assoc

  pub add-zero : (x : K) → x ⊕ 𝟘 ≡ x
  add-zero = L.add-zero

  pub add-neg : (x : K) → x ⊕ ⊖ x ≡ 𝟘
  add-neg = L.add-neg

  pub mul_comm : (x y : K) → x ⊗ y ≡ y ⊗ x
  mul_comm = L.mul_comm

  pub mul_assoc : (x y z : K) → x ⊗ y ⊗ z ≡ x ⊗ (y ⊗ z)
  mul_assoc = L.mul_assoc

  pub mul-one : (x : K) → x ⊗ 𝟙 ≡ x
  mul-one = L.mul-one

  pub mul-add : (x y z : K) → x ⊗ (y ⊕ z) ≡ x ⊗ y ⊕ x ⊗ z
  mul-add = L.mul-add

  pub add_left : (x y z : K) → x ⊕ (y ⊕ z) ≡ y ⊕ (x ⊕ z)
  add_left x y z = rw (← L.add_assoc x y z, L.add_comm x y, L.add_assoc)

  pub mul_left : (x y z : K) → x ⊗ (y ⊗ z) ≡ y ⊗ (x ⊗ z)
  mul_left x y z = rw (← L.mul_assoc x y z, L.mul_comm x y, L.mul_assoc)

  pub zero-add : (x : K) → 𝟘 ⊕ x ≡ x
  zero-add x = rw (L.add_comm, L.add-zero)

  pub one-mul : (x : K) → 𝟙 ⊗ x ≡ x
  one-mul x = rw (L.mul_comm, L.mul-one)

  pub add-mul : (x y z : K) → (x ⊕ y) ⊗ z ≡ x ⊗ z ⊕ y ⊗ z
  add-mul x y z = simp (L.mul_comm, L.mul-add)

  -- x and −x cancel, whatever stands behind them
  pub add_neg_next : (x y : K) → x ⊕ (⊖ x ⊕ y) ≡ y
  add_neg_next x y = simp (← L.add_assoc, L.add-neg, zero-add)

  pub neg_add_next : (x y : K) → ⊖ x ⊕ (x ⊕ y) ≡ y
  neg_add_next x y = add_left (⊖ x) x y ∙ add_neg_next x y

  cancel : (x y z : K) → x ⊕ y ≡ x ⊕ z → y ≡ z
  cancel x y z e = cc (neg_add_next x y, neg_add_next x z)

  pub mul-zero : (x : K) → x ⊗ 𝟘 ≡ 𝟘
  mul-zero x = cancel (x ⊗ 𝟘) (x ⊗ 𝟘) 𝟘 (simp (← L.mul-add, L.add-zero))

  pub zero-mul : (x : K) → 𝟘 ⊗ x ≡ 𝟘
  zero-mul x = L.mul_comm 𝟘 x ∙ mul-zero x

  -- what makes 0 with x is −x
  pub neg_unique : (x y : K) → x ⊕ y ≡ 𝟘 → y ≡ ⊖ x
  neg_unique x y e = cancel x y (⊖ x) (e ∙ sym (L.add-neg x))

  pub neg-mul : (x y : K) → ⊖ x ⊗ y ≡ ⊖ (x ⊗ y)
  neg-mul x y = neg_unique (x ⊗ y) (⊖ x ⊗ y) (simp (← add-mul, L.add-neg, zero-mul))

  pub mul-neg : (x y : K) → x ⊗ ⊖ y ≡ ⊖ (x ⊗ y)
  mul-neg x y = L.mul_comm x (⊖ y) ∙ neg-mul y x ∙ ap ⊖ (L.mul_comm y x)

  pub neg-add : (x y : K) → ⊖ (x ⊕ y) ≡ ⊖ x ⊕ ⊖ y
  neg-add x y = sym (neg_unique (x ⊕ y) (⊖ x ⊕ ⊖ y) (rw (L.add_assoc, add_left y (⊖ x) (⊖ y), add_neg_next, L.add-neg)))

  pub neg-neg : (x : K) → ⊖ (⊖ x) ≡ x
  neg-neg x = sym (neg_unique (⊖ x) x (rw L.add_comm (L.add-neg x)))

  pub neg-zero : ⊖ 𝟘 ≡ 𝟘
  neg-zero = sym (neg_unique 𝟘 𝟘 (L.add-zero 𝟘))

-- where a sum or a product has 0, 1, or x and −x
pub ruleset gone = (mul-zero, zero-mul, mul-one, one-mul, add-zero, zero-add, neg-zero, neg-neg, add-neg, add_neg_next, neg_add_next)

pub ruleset ring = (gone, mul-add, add-mul, neg-mul, mul-neg, neg-add, add_assoc, mul_assoc, add_comm, mul_comm, add_left, mul_left)
