-- The codes of a ring as a type of their own, whose laws hold without conditions, and words of it as words of codes.
use Rattle.std.proofs.Common.{◌≡◌, ℕ, zero, suc, ◌<◌, T, ltb, List, [], ◌∷◌, ◌++◌, map, length, replicate, sym, refl, ap, ◌∙◌, ltb→lt, lt→ltb, arith, All}
use mathlib.Core.HLevel.{is_prop→PathP}
use mathlib.Core.List.{map-append, map-map}
use lib.LanesLaws.{map-replicate}
use lib.Dec.{T_prop}
use lib.ListN.{length-map}
use Rattle.std.proofs.lemmas.List.Elements.{All-tail}
use Rattle.algebra.specs.Arith.{Arith, Ring, power}
use Rattle.algebra.specs.Abstract.{Ops, RingLaws}
use Rattle.algebra.specs.Words.{pow, value, less, remainder, times_factor, times_factors, factors}
use Rattle.algebra.specs.BlockCode.{ops}
use Rattle.algebra.proofs.Powers.{zero_code, one_code}

pub record Element (A : Arith) : Type 0 where
  pub code : ℕ
  pub fits : T (ltb code A.size)

module _ {A : Arith} where
  abbrev pub element : (c : ℕ) → c < A.size → Element A
  element c l = record { code = c; fits = lt→ltb c A.size l }

  code_below : (x : Element A) → x.code < A.size
  code_below x = ltb→lt x.code A.size x.fits

  -- an element is its code
  pub same_element : (x y : Element A) → x.code ≡ y.code → x ≡ y
  same_element x y e =
      λ i. record { code = e i; fits = is_prop→PathP (λ j. T (ltb (e j) A.size)) (λ j. T_prop (ltb (e j) A.size)) x.fits y.fits i }

  abbrev pub codes : List (Element A) → List ℕ
  codes w = map (λ x. x.code) w

  -- a word of codes is one of elements
  pub with_codes : (w : List ℕ) → All (λ c. c < A.size) w → (W : List (Element A)) × (codes W ≡ w)
  with_codes [] h = ([], refl)
  with_codes (c ∷ w) h = let t = with_codes w (All-tail (λ c. c < A.size) c w h) in (element c (h 0 c (omega arith)) ∷ t.0, ap (λ l. c ∷ l) t.1)

-- powers of a code, as a word's value takes them and as a field does
pub pow_is_power : (A : Arith) (x n : ℕ) → pow (ops A) x n ≡ power A.mul x n
pow_is_power A x zero = refl
pow_is_power A x (suc n) = ap (A.mul x) (pow_is_power A x n)

module _ (A : Arith) (R : Ring A) where
  abbrev pub on_elements : Ops (Element A)
  on_elements = record {
    zero = element 0 (zero_code A R);
    one = element 1 (one_code A R);
    add = λ x y. element (A.add x.code y.code) (R.add_code x.code y.code);
    neg = λ x. element (A.neg x.code) (R.neg_code x.code);
    mul = λ x y. element (A.mul x.code y.code) (R.mul_code x.code y.code);
  }

  pub elements_ring : RingLaws on_elements
  elements_ring = record {
    add_comm = λ x y. same_element _ _ (R.add_comm _ _ (code_below x) (code_below y));
    add_assoc = λ x y z. same_element _ _ (R.add_assoc _ _ _ (code_below x) (code_below y) (code_below z));
    add-zero = λ x. same_element _ _ (R.add-zero _ (code_below x));
    add-neg = λ x. same_element _ _ (R.add-neg _ (code_below x));
    mul_comm = λ x y. same_element _ _ (R.mul_comm _ _ (code_below x) (code_below y));
    mul_assoc = λ x y z. same_element _ _ (R.mul_assoc _ _ _ (code_below x) (code_below y) (code_below z));
    mul-one = λ x. same_element _ _ (R.mul-one _ (code_below x));
    mul-add = λ x y z. same_element _ _ (R.mul-add _ _ _ (code_below x) (code_below y) (code_below z));
  }

  pub code_pow : (x : Element A) (n : ℕ) → (pow on_elements x n).code ≡ pow (ops A) x.code n
  code_pow x zero = refl
  code_pow x (suc n) = ap (A.mul x.code) (code_pow x n)

  pub code_value : (w : List (Element A)) (x : Element A) → (value on_elements w x).code ≡ value (ops A) (codes w) x.code
  code_value [] x = refl
  code_value (c ∷ w) x = cc (code_pow x (length w), length-map w (λ x. x.code), code_value w x)

  codes-less : (a : Element A) (w v : List (Element A)) → codes (less on_elements a w v) ≡ less (ops A) a.code (codes w) (codes v)
  codes-less a [] v = refl
  codes-less a (c ∷ w) [] = refl
  codes-less a (c ∷ w) (d ∷ v) = ap (λ l. A.add c.code (A.neg (A.mul a.code d.code)) ∷ l) (codes-less a w v)

  codes-remainder : (k : ℕ) (g w : List (Element A)) → codes (remainder on_elements k g w) ≡ remainder (ops A) k (codes g) (codes w)
  codes-remainder zero g w = refl
  codes-remainder (suc k) g [] = refl
  codes-remainder (suc k) g (c ∷ w) = cc (codes-remainder k g (less on_elements c w g), codes-less c w g)

  -- a message times x^r, less its remainder
  pub codes_divided : (M g : List (Element A)) (r : ℕ)
      → codes (M ++ map on_elements.neg (remainder on_elements (length M) g (M ++ replicate r on_elements.zero)))
      ≡ codes M ++ map A.neg (remainder (ops A) (length (codes M)) (codes g) (codes M ++ replicate r 0))
  codes_divided M g r =
      let code : Element A → ℕ = λ x. x.code in
      let raised = M ++ replicate r on_elements.zero in
      let rest = remainder on_elements (length M) g raised in
      let signs : codes (map on_elements.neg rest) ≡ map A.neg (codes rest) = map-map code on_elements.neg rest ∙ sym (map-map A.neg code rest) in
      cc (
        map-append code M (map on_elements.neg rest),
        signs,
        codes-remainder (length M) g raised,
        length-map M code,
        map-append code M (replicate r on_elements.zero),
        map-replicate code r on_elements.zero,
      )

  pub codes-times_factors : (w roots : List (Element A)) → codes (times_factors on_elements w roots) ≡ times_factors (ops A) (codes w) (codes roots)
  codes-times_factors w [] = refl
  codes-times_factors w (a ∷ roots) =
      let zero = on_elements.zero in
      let shifted = map-append (λ x. x.code) w (zero ∷ []) in
      cc (codes-times_factors (times_factor on_elements a w) roots, codes-less a (w ++ (zero ∷ [])) (zero ∷ w), shifted)

  pub code_factors : (roots : List (Element A)) (x : Element A) → (factors on_elements roots x).code ≡ factors (ops A) (codes roots) x.code
  code_factors [] x = refl
  code_factors (a ∷ roots) x = ap (A.mul (A.add x.code (A.neg a.code))) (code_factors roots x)
