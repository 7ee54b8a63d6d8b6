-- Words as polynomials over a commutative ring: the lengths and the values of products by x − a and of remainders.
use Rattle.std.proofs.Common.{◌≡◌, ℕ, zero, suc, ◌+◌, ◌-◌, ◌≤◌, List, [], ◌∷◌, ◌++◌, map, length, drop, replicate, sym, refl, ap, ◌∙◌, inl, inr, arith, length-append}
use native.Mathlib.Nat as nat
use lib.ListN.{length-map, length-replicate}
use Rattle.algebra.specs.Abstract.{Ops, RingLaws}
use Rattle.algebra.specs.Words.{pow, value, less, remainder, times_factor, times_factors, factors}
use Rattle.algebra.specs.BlockCodeLaws.{Member}
use Rattle.algebra.proofs.AbstractRing.{ring, add_assoc, mul_assoc, mul_left, neg_unique, one-mul, mul-zero, add-mul, neg-mul, neg-add}

module _ {K : Type 0} (o : Ops K) where
  pub length-less : (a : K) (w v : List K) → length (less o a w v) ≡ length w
  length-less a [] v = refl
  length-less a (c ∷ w) [] = refl
  length-less a (c ∷ w) (d ∷ v) = ap suc (length-less a w v)

  pub length-remainder : (k : ℕ) (g w : List K) → length w ≡ k + length g → length (remainder o k g w) ≡ length g
  length-remainder zero g w n = omega arith
  length-remainder (suc k) g [] n = absurd (omega arith)
  length-remainder (suc k) g (c ∷ w) n = length-remainder k g (less o c w g) (length-less c w g ∙ omega arith)

  pub length-times_factors : (w roots : List K) → length (times_factors o w roots) ≡ length w + length roots
  length-times_factors w [] = omega arith
  length-times_factors w (a ∷ roots) =
      let once : length (times_factor o a w) ≡ length w + 1 = length-less a (w ++ (o.zero ∷ [])) (o.zero ∷ w) ∙ length-append w (o.zero ∷ []) in
      length-times_factors (times_factor o a w) roots ∙ omega arith

  -- a message of k symbols, with r places behind it
  pub length_raised : (message : List K) (r : ℕ) → length (message ++ replicate r o.zero) ≡ length message + r
  length_raised message r = simp (length-append, length-replicate)

module _ {K : Type 0} {o : Ops K} (L : RingLaws o) where
  open o use {zero as 𝟘, one as 𝟙, add as ◌⊕◌, neg as ⊖, mul as ◌⊗◌}

  infixl 80 ◌⊕◌
  infixl 90 ◌⊗◌
  -- the equations of the ring that the values below come to
  one_less : (c a d P Q R W V : K) → R ≡ P ⊗ Q → (c ⊕ ⊖ (a ⊗ d)) ⊗ R ⊕ (W ⊕ ⊖ (a ⊗ V ⊗ Q)) ≡ c ⊗ R ⊕ W ⊕ ⊖ (a ⊗ (d ⊗ P ⊕ V) ⊗ Q)
  one_less c a d P Q R W V e = rw e (simp (ring, L))

  first_gone : (c P Q R W V : K) → R ≡ P ⊗ Q → 𝟙 ⊗ P ⊕ V ≡ 𝟘 → W ⊕ ⊖ (c ⊗ V ⊗ Q) ≡ c ⊗ R ⊕ W
  first_gone c P Q R W V e z = rw (e, neg_unique L P V (rw one-mul at z)) (simp (ring, L))

  one_factor : (V x a P : K) → V ⊗ (x ⊗ 𝟙) ⊕ (𝟘 ⊗ 𝟙 ⊕ 𝟘) ⊕ ⊖ (a ⊗ (𝟘 ⊗ P ⊕ V) ⊗ 𝟙) ≡ (x ⊕ ⊖ a) ⊗ V
  one_factor V x a P = simp (ring, L)

  pow-add : (x : K) (m n : ℕ) → pow o x (m + n) ≡ pow o x m ⊗ pow o x n
  pow-add x zero n = simp (nat.zero-add, one-mul, L)
  pow-add x (suc m) n = ap (pow o x) (nat.suc-add m n) ∙ ap (λ w. x ⊗ w) (pow-add x m n) ∙ sym (L.mul_assoc x (pow o x m) (pow o x n))

  pow_split : (x : K) (m n : ℕ) → n ≤ m → pow o x m ≡ pow o x n ⊗ pow o x (m - n)
  pow_split x m n l = let e : m ≡ n + (m - n) = omega arith in ap (pow o x) e ∙ pow-add x n (m - n)

  value-append : (u v : List K) (x : K) → value o (u ++ v) x ≡ value o u x ⊗ pow o x (length v) ⊕ value o v x
  value-append [] v x = simp (ring, L)
  value-append (c ∷ u) v x = simp (length-append u v, pow-add x (length u) (length v), value-append u v x, add-mul, add_assoc, mul_assoc, L)

  value-neg : (w : List K) (x : K) → value o (map ⊖ w) x ≡ ⊖ (value o w x)
  value-neg [] x = simp (ring, L)
  value-neg (c ∷ w) x = simp (length-map w ⊖, value-neg w x, neg-mul, neg-add, L)

  value_zeros : (n : ℕ) (x : K) → value o (replicate n 𝟘) x ≡ 𝟘
  value_zeros zero x = refl
  value_zeros (suc n) x = simp (value_zeros n x, ring, L)

  -- w less a times v, where v is no longer than w
  value-less : (a : K) (w v : List K) (x : K) → length v ≤ length w
      → value o (less o a w v) x ≡ value o w x ⊕ ⊖ (a ⊗ value o v x ⊗ pow o x (length w - length v))
  value-less a [] [] x l = simp (ring, L)
  value-less a [] (d ∷ v) x l = absurd (omega arith)
  value-less a (c ∷ w) [] x l = simp (ring, L)
  value-less a (c ∷ w) (d ∷ v) x l =
      simp (nat.suc-sub-suc, length-less o a w v, value-less a w v x (omega arith))
      (one_less c a d _ _ _ _ _ (pow_split x (length w) (length v) (omega arith)))

  -- at a root of the divisor a step of the division keeps the value
  value_step : (c : K) (w g : List K) (x : K) → length g ≤ length w → value o (𝟙 ∷ g) x ≡ 𝟘 → value o (less o c w g) x ≡ value o (c ∷ w) x
  value_step c w g x l z =
      value-less c w g x l ∙ first_gone c _ _ _ _ _ (pow_split x (length w) (length g) l) z

  value-remainder : (k : ℕ) (g w : List K) (x : K) → length w ≡ k + length g → value o (𝟙 ∷ g) x ≡ 𝟘 → value o (remainder o k g w) x ≡ value o w x
  value-remainder zero g w x n z = refl
  value-remainder (suc k) g [] x n z = refl
  value-remainder (suc k) g (c ∷ w) x n z =
      value-remainder k g (less o c w g) x (length-less o c w g ∙ omega arith) z ∙ value_step c w g x (omega arith) z

  -- a message times x^r less its remainder is 0 at each root of the divisor
  pub value_divided : (message g : List K) (x : K) → value o (𝟙 ∷ g) x ≡ 𝟘
      → value o (message ++ map ⊖ (remainder o (length message) g (message ++ replicate (length g) 𝟘))) x ≡ 𝟘
  value_divided message g x z =
      let r = length g in
      let raised = message ++ replicate r 𝟘 in
      let rest = remainder o (length message) g raised in
      let long : length raised ≡ length message + r = length_raised o message r in
      let places : length (map ⊖ rest) ≡ r = length-map rest ⊖ ∙ length-remainder o (length message) g raised long in
      let above : value o rest x ≡ value o message x ⊗ pow o x r =
      value-remainder (length message) g raised x long z ∙ rw (value-append message (replicate r 𝟘) x, length-replicate r 𝟘, value_zeros r x) (L.add-zero _) in
      rw (value-append message (map ⊖ rest) x, places, value-neg rest x, above) (L.add-neg _)

  value-times_factor : (a : K) (w : List K) (x : K) → value o (times_factor o a w) x ≡ (x ⊕ ⊖ a) ⊗ value o w x
  value-times_factor a w x =
      let more : length (w ++ (𝟘 ∷ [])) ≡ length w + 1 = length-append w (𝟘 ∷ []) in
      let none : length (w ++ (𝟘 ∷ [])) - suc (length w) ≡ 0 = omega arith in
      value-less a (w ++ (𝟘 ∷ [])) (𝟘 ∷ w) x (omega arith) ∙ rw (value-append w (𝟘 ∷ []) x, none) (one_factor _ x a _)

  pub value-times_factors : (w roots : List K) (x : K) → value o (times_factors o w roots) x ≡ value o w x ⊗ factors o roots x
  value-times_factors w [] x = sym (L.mul-one (value o w x))
  value-times_factors w (a ∷ roots) x =
      value-times_factors (times_factor o a w) roots x ∙ ap (λ v. v ⊗ factors o roots x) (value-times_factor a w x)
      ∙ L.mul_assoc _ _ _ ∙ mul_left L _ _ _

  -- a product by factors x − a begins with 1 where its first factor does
  pub begins : (g roots : List K) → times_factors o (𝟙 ∷ g) roots ≡ 𝟙 ∷ drop 1 (times_factors o (𝟙 ∷ g) roots)
  begins g [] = refl
  begins g (a ∷ roots) = let first : 𝟙 ⊕ ⊖ (a ⊗ 𝟘) ≡ 𝟙 = simp (ring, L) in rw first (begins (less o a (g ++ (𝟘 ∷ [])) (𝟙 ∷ g)) roots)

  -- the product of the x − a, as a word but for its first coefficient, which is 1
  pub value_product : (roots : List K) (x : K) → value o (𝟙 ∷ drop 1 (times_factors o (𝟙 ∷ []) roots)) x ≡ factors o roots x
  value_product roots x = rw (← begins [] roots, value-times_factors (𝟙 ∷ []) roots x) (simp (ring, L))

  -- the product of the x − f e is 0 at each f e
  pub factors_root : (f : ℕ → K) (es : List ℕ) (e : ℕ) → Member e es → factors o (map f es) (f e) ≡ 𝟘
  factors_root f [] e m = absurd m
  factors_root f (d ∷ es) e (inl same) = simp (← same, ring, L)
  factors_root f (d ∷ es) e (inr m) = simp (factors_root f es e m, mul-zero, L)
