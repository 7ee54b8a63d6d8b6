-- A commutative ring on any type, with laws that hold without conditions.
use Rattle.std.specs.Prelude.{◌≡◌}

pub record Ops (K : Type 0) : Type 0 where
  pub zero : K
  pub one : K
  pub add : K → K → K
  pub neg : K → K
  pub mul : K → K → K

pub record RingLaws {K : Type 0} (o : Ops K) : Type 0 where
  pub add_comm : (x y : K) → o.add x y ≡ o.add y x
  pub add_assoc : (x y z : K) → o.add (o.add x y) z ≡ o.add x (o.add y z)
  pub add-zero : (x : K) → o.add x o.zero ≡ x
  pub add-neg : (x : K) → o.add x (o.neg x) ≡ o.zero
  pub mul_comm : (x y : K) → o.mul x y ≡ o.mul y x
  pub mul_assoc : (x y z : K) → o.mul (o.mul x y) z ≡ o.mul x (o.mul y z)
  pub mul-one : (x : K) → o.mul x o.one ≡ x
  pub mul-add : (x y z : K) → o.mul x (o.add y z) ≡ o.add (o.mul x y) (o.mul x z)
