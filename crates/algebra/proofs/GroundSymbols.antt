-- Each alphabet has 0 and is closed under sums, negatives and products, and so under division.
use Rattle.std.proofs.Common.{◌≡◌, ℕ, zero, suc, ◌+◌, ◌-◌, ◌<◌, ◌≤◌, List, [], ◌∷◌, map, replicate, ap, rules, arith, All}
use Rattle.std.proofs.lemmas.List.Elements.{All-cons, All-head, All-tail, All-replicate, All-weaker, All-map}
use Rattle.std.proofs.lemmas.Bool.{cases_lt}
use Rattle.algebra.specs.Arith.{Arith, Laws}
use Rattle.algebra.specs.Words.{less, remainder}
use Rattle.algebra.specs.BlockCode.{ops, symbols}
use Rattle.algebra.specs.declared.Alphabet.{Alphabet}
use Rattle.algebra.specs.declared.Alphabet.TheVariants.{Whole, Ground}
use Rattle.algebra.proofs.Powers.{zero_code, one_code, mul-zero}
use Rattle.algebra.proofs.AbstractRing.{neg_unique}
use Rattle.algebra.proofs.Elements.{element, same_element, elements_ring}

module _ (A : Arith) (L : Laws A) where
  ground_code : (a : ℕ) → a < A.ground_size → a < A.size
  ground_code a l = omega (arith, L.ground_high)

  ground_next : (a : ℕ) → a < A.ground_size → A.add a 1 < A.ground_size
  ground_next a l = grind (arith, L.add-one a, L.add_one_last a, cases_lt (suc a) A.ground_size)

  -- a + (b + 1) = (a + b) + 1
  add_next : (a b : ℕ) → a < A.size → suc b < A.ground_size → A.add a (suc b) ≡ A.add (A.add a b) 1
  add_next a b ha hb = cc (L.add-one b hb, L.ring.add_assoc a b 1 ha (ground_code b (omega arith)) (one_code A L.ring))

  ground_add : (a b : ℕ) → a < A.ground_size → b < A.ground_size → A.add a b < A.ground_size
  ground_add a zero ha hb = rw (L.ring.add-zero a (ground_code a ha)) ha
  ground_add a (suc b) ha hb = rw (add_next a b (ground_code a ha) hb) (ground_next (A.add a b) (ground_add a b ha (omega arith)))

  ground_mul : (a b : ℕ) → a < A.ground_size → b < A.ground_size → A.mul a b < A.ground_size
  ground_mul a zero ha hb = rw (mul-zero A L.ring a) hb
  ground_mul a (suc b) ha hb =
      let ca = ground_code a ha in
      let e = L.ring.mul-add a b 1 ca (ground_code b (omega arith)) (one_code A L.ring) in
      rw (← L.add-one b hb, e, L.ring.mul-one a ca) (ground_add (A.mul a b) a (ground_mul a b ha (omega arith)) ha)

  -- below the number of ground codes the sum is that of numbers
  plain_add : (a b : ℕ) → a + b < A.ground_size → A.add a b ≡ a + b
  plain_add a zero h = grind (arith, L.ring.add-zero a, ground_code a)
  plain_add a (suc b) h = grind (arith, add_next a b, ground_code a, plain_add a b, L.add-one (a + b))

  -- −a is (p − 1 − a) + 1
  ground_neg : (a : ℕ) → a < A.ground_size → A.neg a < A.ground_size
  ground_neg a ha =
      let R = L.ring in
      let b : ℕ = A.ground_size - 1 - a in
      let hb : b < A.ground_size = omega arith in
      let ca = ground_code a ha in
      let hc : A.add b 1 < A.ground_size = ground_next b hb in
      let gone : A.add a (A.add b 1) ≡ 0 =
      grind (arith, R.add_assoc a b 1 ca (ground_code b hb) (one_code A R), plain_add a b, L.add_one_last (a + b)) in
      let e : A.add b 1 ≡ A.neg a = ap (λ x. x.code) (neg_unique (elements_ring A R) (element a ca) (element _ (ground_code _ hc)) (same_element _ _ gone)) in
      rw e at hc

  pub symbols_codes : (s : Alphabet) → symbols A s ≤ A.size
  symbols_codes Whole = omega arith
  symbols_codes Ground = L.ground_high

  -- what an alphabet is closed under
  record Closed (s : Alphabet) : Type 0 where
    zero_in : 0 < symbols A s
    add_in : (a b : ℕ) → a < symbols A s → b < symbols A s → A.add a b < symbols A s
    mul_in : (a b : ℕ) → a < symbols A s → b < symbols A s → A.mul a b < symbols A s
    neg_in : (a : ℕ) → a < symbols A s → A.neg a < symbols A s

  closed : (s : Alphabet) → Closed s
  closed Whole =
      let R = L.ring in
      record { zero_in = zero_code A R; add_in = λ a b _ _. R.add_code a b; mul_in = λ a b _ _. R.mul_code a b; neg_in = λ a _. R.neg_code a }
  closed Ground = record { zero_in = omega (arith, L.ground_low); add_in = ground_add; mul_in = ground_mul; neg_in = ground_neg }

  module _ (s : Alphabet) where
    abbrev Symbol : ℕ → Type 0
    Symbol x = x < symbols A s

    abbrev Symbols : List ℕ → Type 0
    Symbols w = All Symbol w

    symbols_less : (a : ℕ) (w v : List ℕ) → a < symbols A s → Symbols w → Symbols v → Symbols (less (ops A) a w v)
    symbols_less a [] v ha hw hv = hw
    symbols_less a (c ∷ w) [] ha hw hv = hw
    symbols_less a (c ∷ w) (d ∷ v) ha hw hv =
        let S = closed s in
        search (rules, All-cons Symbol, S.add_in, S.neg_in, S.mul_in, symbols_less a w v, All-head Symbol, All-tail Symbol)

    pub symbols_remainder : (k : ℕ) (g w : List ℕ) → Symbols g → Symbols w → Symbols (remainder (ops A) k g w)
    symbols_remainder zero g w hg hw = hw
    symbols_remainder (suc k) g [] hg hw = hw
    symbols_remainder (suc k) g (c ∷ w) hg hw = symbols_remainder k g (less (ops A) c w g) hg (symbols_less c w g (hw 0 c (omega arith)) (All-tail Symbol c w hw) hg)

    pub symbols_negatives : (w : List ℕ) → Symbols w → Symbols (map A.neg w)
    symbols_negatives w h = All-map Symbol A.neg w (All-weaker Symbol (λ x. Symbol (A.neg x)) (closed s).neg_in w h)

    pub symbols_zeros : (n : ℕ) → Symbols (replicate n 0)
    symbols_zeros n = All-replicate Symbol n 0 (closed s).zero_in
