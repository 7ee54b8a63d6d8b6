-- What a field is: numbers called codes, four operations on them, a root, and the laws that these keep.
use Rattle.std.specs.Prelude.{◌≡◌, ℕ, zero, suc, ◌<◌, ◌≤◌, ◌≢◌}

-- The meaning of a field. The codes are the numbers below `size`; the ground codes are those below `ground`.
-- `order` is the number of powers of `root`.
pub record Arith : Type 0 where
  pub size : ℕ
  pub ground_size : ℕ
  pub order : ℕ
  pub root : ℕ
  pub add : ℕ → ℕ → ℕ
  pub neg : ℕ → ℕ
  pub mul : ℕ → ℕ → ℕ
  pub inv : ℕ → ℕ

-- step, n times, from x
abbrev pub iterate : (ℕ → ℕ) → ℕ → ℕ → ℕ
iterate step zero x = x
iterate step (suc n) x = step (iterate step n x)

-- a to the n: 1, and then a times it, n times
abbrev pub power : (ℕ → ℕ → ℕ) → ℕ → ℕ → ℕ
power mul a n = iterate (mul a) n 1

-- The codes are a commutative ring, every answer is a code, and a number that is no code is answered by 0.
pub record Ring (A : Arith) : Type 0 where
  pub size_low : 3 ≤ A.size
  pub size_high : A.size ≤ 1024
  pub add_code : (a b : ℕ) → A.add a b < A.size
  pub neg_code : (a : ℕ) → A.neg a < A.size
  pub mul_code : (a b : ℕ) → A.mul a b < A.size
  pub add_comm : (a b : ℕ) → a < A.size → b < A.size → A.add a b ≡ A.add b a
  pub add_assoc : (a b c : ℕ) → a < A.size → b < A.size → c < A.size → A.add (A.add a b) c ≡ A.add a (A.add b c)
  pub add-zero : (a : ℕ) → a < A.size → A.add a 0 ≡ a
  pub add-neg : (a : ℕ) → a < A.size → A.add a (A.neg a) ≡ 0
  pub mul_comm : (a b : ℕ) → a < A.size → b < A.size → A.mul a b ≡ A.mul b a
  pub mul_assoc : (a b c : ℕ) → a < A.size → b < A.size → c < A.size → A.mul (A.mul a b) c ≡ A.mul a (A.mul b c)
  pub mul-one : (a : ℕ) → a < A.size → A.mul a 1 ≡ a
  pub mul-add : (a b c : ℕ) → a < A.size → b < A.size → c < A.size → A.mul a (A.add b c) ≡ A.add (A.mul a b) (A.mul a c)
  pub add_outside_left : (a b : ℕ) → A.size ≤ a → A.add a b ≡ 0
  pub add_outside_right : (a b : ℕ) → A.size ≤ b → A.add a b ≡ 0
  pub neg_outside : (a : ℕ) → A.size ≤ a → A.neg a ≡ 0
  pub mul_outside_left : (a b : ℕ) → A.size ≤ a → A.mul a b ≡ 0
  pub mul_outside_right : (a b : ℕ) → A.size ≤ b → A.mul a b ≡ 0

-- The ring is a field, 1 added to itself counts up the ground codes and then comes to 0, and the root has `order` powers.
pub record Laws (A : Arith) : Type 0 where
  pub ring : Ring A
  pub inv_code : (a : ℕ) → A.inv a < A.size
  pub mul-inv : (a : ℕ) → a < A.size → (a ≢ 0) → A.mul a (A.inv a) ≡ 1
  pub inv-zero : A.inv 0 ≡ 0
  pub inv_outside : (a : ℕ) → A.size ≤ a → A.inv a ≡ 0
  pub ground_low : 2 ≤ A.ground_size
  pub ground_high : A.ground_size ≤ A.size
  pub add-one : (a : ℕ) → suc a < A.ground_size → A.add a 1 ≡ suc a
  pub add_one_last : (a : ℕ) → suc a ≡ A.ground_size → A.add a 1 ≡ 0
  pub order_low : 2 ≤ A.order
  pub order_high : suc A.order ≤ A.size
  pub root_code : A.root < A.size
  pub root_different : (i j : ℕ) → i < A.order → j < A.order → power A.mul A.root i ≡ power A.mul A.root j → i ≡ j
  pub root_order : power A.mul A.root A.order ≡ 1
