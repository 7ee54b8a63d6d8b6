-- Operations that keep the laws of a ring on the numbers below q are a ring of codes, once numbers from q on are answered by 0.
use Rattle.std.proofs.Common.{◌≡◌, ℕ, ◌<◌, ◌≤◌, arith}
use Rattle.std.proofs.lemmas.Bool.Decides.{nat_tests}
use Rattle.algebra.specs.Arith.{Ring}
use Rattle.algebra.specs.Codes.{on_codes}

-- the laws of the operations on numbers below q
pub record OnNumbers (q : ℕ) (sum : ℕ → ℕ → ℕ) (negative : ℕ → ℕ) (product : ℕ → ℕ → ℕ) : Type 0 where
  pub sum_below : (a b : ℕ) → a < q → b < q → sum a b < q
  pub negative_below : (a : ℕ) → a < q → negative a < q
  pub product_below : (a b : ℕ) → a < q → b < q → product a b < q
  pub sum_comm : (a b : ℕ) → sum a b ≡ sum b a
  pub sum_assoc : (a b c : ℕ) → a < q → b < q → c < q → sum (sum a b) c ≡ sum a (sum b c)
  pub sum-zero : (a : ℕ) → a < q → sum a 0 ≡ a
  pub sum_negative : (a : ℕ) → a < q → sum a (negative a) ≡ 0
  pub product_comm : (a b : ℕ) → a < q → b < q → product a b ≡ product b a
  pub product_assoc : (a b c : ℕ) → a < q → b < q → c < q → product (product a b) c ≡ product a (product b c)
  pub product_one : (a : ℕ) → a < q → product a 1 ≡ a
  pub product_sum : (a b c : ℕ) → a < q → b < q → c < q → product a (sum b c) ≡ sum (product a b) (product a c)

module _ (q p N root : ℕ) (sum : ℕ → ℕ → ℕ) (negative : ℕ → ℕ) (product : ℕ → ℕ → ℕ) where
  pub ring_on_codes : 3 ≤ q → q ≤ 1024 → OnNumbers q sum negative product → Ring (on_codes q p N root sum negative product)
  ring_on_codes low high L = record {
    size_low = low;
    size_high = high;
    add_code = λ a b. grind (arith, nat_tests, L.sum_below);
    neg_code = λ a. grind (arith, nat_tests, L.negative_below);
    mul_code = λ a b. grind (arith, nat_tests, L.product_below);
    add_comm = λ a b ha hb. grind (arith, nat_tests, L.sum_comm);
    add_assoc = λ a b c ha hb hc. grind (arith, nat_tests, L.sum_assoc, L.sum_below);
    add-zero = λ a ha. grind (arith, nat_tests, L.sum-zero);
    add-neg = λ a ha. grind (arith, nat_tests, L.sum_negative, L.negative_below);
    mul_comm = λ a b ha hb. grind (arith, nat_tests, L.product_comm);
    mul_assoc = λ a b c ha hb hc. grind (arith, nat_tests, L.product_assoc, L.product_below);
    mul-one = λ a ha. grind (arith, nat_tests, L.product_one);
    mul-add = λ a b c ha hb hc. grind (arith, nat_tests, L.product_sum, L.product_below, L.sum_below);
    add_outside_left = λ a b h. grind (arith, nat_tests);
    add_outside_right = λ a b h. grind (arith, nat_tests);
    neg_outside = λ a h. grind (arith, nat_tests);
    mul_outside_left = λ a b h. grind (arith, nat_tests);
    mul_outside_right = λ a b h. grind (arith, nat_tests);
  }
