-- The whole numbers modulo p are a ring, and a field where the powers of a root first return to 1 at p - 1.
use Rattle.std.proofs.Common.{◌≡◌, ℕ, ◌+◌, ◌-◌, ◌<◌, ◌≤◌, refl, arith}
use native.Mathlib.Nat as nat
use Rattle.std.proofs.lemmas.Bool.Decides.{nat_tests}
use Rattle.std.proofs.lemmas.Nat.{mul-mod_first, mul-mod_second}
use Rattle.algebra.specs.Arith.{Ring, Laws}
use Rattle.algebra.specs.Search.{Returns}
use Rattle.algebra.specs.Codes.{modulo}
use Rattle.algebra.proofs.Guarded.{ring_on_codes}
use Rattle.algebra.proofs.Cyclic.{field_laws}

module _ (p g : ℕ) (low : 3 ≤ p) (high : p ≤ 1024) where
  pub modulo_ring : Ring (modulo p g)
  modulo_ring = ring_on_codes p p (p - 1) g _ _ _ low high (record {
    sum_below = λ a b _ _. omega arith;
    negative_below = λ a _. omega arith;
    product_below = λ a b _ _. omega arith;
    sum_comm = λ a b. simp nat.add_comm;
    sum_assoc = λ a b c _ _ _. simp (nat.mod-add-mod, nat.add-mod-mod, nat.add_assoc);
    sum-zero = λ a h. simp (nat.add-zero, nat.mod-eq_of_lt h);
    sum_negative = λ a h. let e : a + (p - a) ≡ p = omega arith in simp (nat.add-mod-mod, e, nat.mod_self);
    product_comm = λ a b _ _. simp nat.mul_comm;
    product_assoc = λ a b c _ _ _. simp (mul-mod_first, mul-mod_second, nat.mul_assoc);
    product_one = λ a h. simp (nat.mul-one, nat.mod-eq_of_lt h);
    product_sum = λ a b c _ _ _. simp (mul-mod_second, nat.mul-add, nat.mod-add-mod, nat.add-mod-mod);
  })

  pub modulo_laws : g < p → Returns ((modulo p g).mul g) (p - 1) → Laws (modulo p g)
  modulo_laws root ret =
      field_laws (modulo p g) modulo_ring (omega arith) ret root (λ a. refl) (omega arith) (omega arith)
      (λ a h. grind (arith, nat_tests, nat.mod-eq_of_lt {n = a + 1}))
      (λ a h. grind (arith, nat_tests, nat.mod_self))
