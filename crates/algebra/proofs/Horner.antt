-- Horner's rule gives a word's value.
use Rattle.std.proofs.Common.{◌≡◌, ℕ, ◌<◌, List, [], ◌∷◌, length, sym, ap, ◌∙◌, arith, All}
use Rattle.std.specs.List.{fold}
use Rattle.std.proofs.lemmas.List.Elements.{All-tail}
use Rattle.algebra.specs.Arith.{Arith, Laws}
use Rattle.algebra.specs.Abstract.{Ops, RingLaws}
use Rattle.algebra.specs.Words.{pow, value}
use Rattle.algebra.specs.BlockCode.{ops}
use Rattle.algebra.proofs.Powers.{zero_code, power_code}
use Rattle.algebra.proofs.Elements.{element, pow_is_power, elements_ring}
use Rattle.algebra.proofs.AbstractRing.{ring}

-- the symbols of w come in after `sum`, which is multiplied by x each time
abbrev pub horner : Arith → ℕ → ℕ → List ℕ → ℕ
horner A x sum w = fold (λ s c. A.add (A.mul s x) c) sum w

horner_step : {K : Type 0} {o : Ops K} (L : RingLaws o) (c x d P V : K)
    → o.add (o.mul (o.add (o.mul c x) d) P) V ≡ o.add (o.mul c (o.mul x P)) (o.add (o.mul d P) V)
horner_step L c x d P V = simp (ring, L)

module _ (A : Arith) (L : Laws A) where
  value_code : (w : List ℕ) (x : ℕ) → value (ops A) w x < A.size
  value_code [] x = zero_code A L.ring
  value_code (c ∷ w) x = L.ring.add_code _ _

  pub horner_value : (x c : ℕ) (w : List ℕ) → x < A.size → c < A.size → All (λ s. s < A.size) w → horner A x c w ≡ value (ops A) (c ∷ w) x
  horner_value x c [] hx hc h = sym (L.ring.add-zero (A.mul c 1) (L.ring.mul_code c 1) ∙ L.ring.mul-one c hc)
  horner_value x c (d ∷ w) hx hc h =
      horner_value x (A.add (A.mul c x) d) w hx (L.ring.add_code _ d) (All-tail (λ s. s < A.size) d w h)
      ∙ ap (λ v. v.code) (horner_step (elements_ring A L.ring) (element c hc) (element x hx) (element d (h 0 d (omega arith)))
      (element (pow (ops A) x (length w)) (rw pow_is_power (power_code A L.ring x (length w)))) (element (value (ops A) w x) (value_code w x)))
