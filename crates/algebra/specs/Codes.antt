-- Fields by operations on the numbers below q, and the whole numbers modulo p as one.
use Rattle.std.specs.Prelude.{ℕ, ◌+◌, ◌-◌, ◌*◌, ◌%◌, cond, nat_eq, nat_lt}
use Rattle.algebra.specs.Arith.{Arith}
use Rattle.algebra.specs.Search.{first}

-- x where a is below q, and else 0
abbrev pub within : ℕ → ℕ → ℕ → ℕ
within q a x = cond (nat_lt a q) x 0

-- the code below q that makes 1 with a, and 0 where there is none
abbrev pub inverse : ℕ → (ℕ → ℕ → ℕ) → ℕ → ℕ
inverse q mul a = first (λ b. nat_eq (mul a b) 1) 0 q

-- the sum, negative and product of codes, answered by 0 where a number is no code, and the inverse by that product
abbrev pub on_codes : (q p N root : ℕ) → (ℕ → ℕ → ℕ) → (ℕ → ℕ) → (ℕ → ℕ → ℕ) → Arith
on_codes q p N root sum negative product =
    let mul : ℕ → ℕ → ℕ = λ a b. within q a (within q b (product a b)) in
    record {
      size = q;
      ground_size = p;
      order = N;
      root = root;
      add = λ a b. within q a (within q b (sum a b));
      neg = λ a. within q a (negative a);
      mul = mul;
      inv = inverse q mul;
    }

-- the whole numbers modulo p, with the root g
abbrev pub modulo : ℕ → ℕ → Arith
modulo p g = on_codes p p (p - 1) g (λ a b. (a + b) % p) (λ a. (p - a) % p) (λ a b. a * b % p)
