-- Words as polynomials: place j of a word of length n has the coefficient of x^(n−1−j).
use Rattle.std.specs.Prelude.{ℕ, zero, suc, List, [], ◌∷◌, ◌++◌, length}
use Rattle.algebra.specs.Abstract.{Ops}

module _ {K : Type 0} (o : Ops K) where
  open o use {zero as 𝟘, one as 𝟙, add as ◌⊕◌, neg as ⊖, mul as ◌⊗◌}

  infixl 80 ◌⊕◌
  infixl 90 ◌⊗◌
  abbrev pub pow : K → ℕ → K
  pow x zero = 𝟙
  pow x (suc n) = x ⊗ pow x n

  -- the value at x
  abbrev pub value : List K → K → K
  value [] x = 𝟘
  value (c ∷ w) x = c ⊗ pow x (length w) ⊕ value w x

  -- w less a times v, the two standing one under the other from their first places on
  abbrev pub less : K → List K → List K → List K
  less a [] v = []
  less a (c ∷ w) [] = c ∷ w
  less a (c ∷ w) (d ∷ v) = c ⊕ ⊖ (a ⊗ d) ∷ less a w v

  -- what is left of w after k steps of its division by the polynomial with the coefficients 1 and then g
  abbrev pub remainder : ℕ → List K → List K → List K
  remainder zero g w = w
  remainder (suc k) g [] = []
  remainder (suc k) g (c ∷ w) = remainder k g (less c w g)

  -- w times (x − a): w times x, less a times w
  abbrev pub times_factor : K → List K → List K
  times_factor a w = less a (w ++ (𝟘 ∷ [])) (𝟘 ∷ w)

  -- w times (x − a) for each a of the list
  abbrev pub times_factors : List K → List K → List K
  times_factors w [] = w
  times_factors w (a ∷ roots) = times_factors (times_factor a w) roots

  -- the product of the numbers x − a
  abbrev pub factors : List K → K → K
  factors [] x = 𝟙
  factors (a ∷ roots) x = (x ⊕ ⊖ a) ⊗ factors roots x
