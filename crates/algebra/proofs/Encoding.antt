-- What is encoded is a codeword that begins with the message, and the check values tell codewords.
use Rattle.std.proofs.Common.{◌≡◌, ℕ, zero, suc, ◌+◌, ◌*◌, ◌/◌, ◌%◌, ◌<◌, List, ◌++◌, map, length, drop, replicate, sym, ap, ◌∙◌, suc-mul, zero-mul, arith, length-append, length-drop, All}
use native.Mathlib.Nat.{mod-add-div'}
use lib.ListN.{length-map}
use Rattle.std.specs.List.{range_with_len}
use Rattle.std.proofs.lemmas.List.Elements.{All-weaker, All-map, All-append, All-drop}
use Rattle.std.proofs.lemmas.List.{take_at}
use Rattle.algebra.specs.Arith.{Arith, Laws}
use Rattle.algebra.specs.Words.{pow, value, remainder}
use Rattle.algebra.specs.BlockCode.{ops, symbols, root_power, check_count, redundancy, dimension, generator, encoded, check_values, Accepted}
use Rattle.algebra.specs.BlockCodeLaws.{EncodingIsCodeword, ChecksTellCodewords}
use Rattle.algebra.specs.declared.Design.{Design}
use Rattle.algebra.proofs.Powers.{one_code, power_code, power-add}
use Rattle.algebra.proofs.Members.{member-all, member-map, member-counting, all-counting}
use Rattle.algebra.proofs.Elements.{Element, codes, with_codes, on_elements, elements_ring, code_pow, pow_is_power, code_value, codes_divided}
use Rattle.algebra.proofs.WordValues.{length-remainder, length_raised, value_divided}
use Rattle.algebra.proofs.GroundSymbols.{symbols_codes, symbols_remainder, symbols_negatives, symbols_zeros}
use Rattle.algebra.proofs.Exponents.{exponents_smallest}
use Rattle.algebra.proofs.CodeFacts.{generator_length, root_element, generator_tail, generator_is, tail_root}

module _ (A : Arith) (D : Design) where
  pub checks_tell_codewords : ChecksTellCodewords A D
  unfolding check_values
  checks_tell_codewords w word =
      let S : ℕ → ℕ = λ j. value (ops A) w (root_power A (D.first + j)) in
      let js = range_with_len 0 (check_count A D) in (
        λ h. (word, λ j l. member-all (λ s. s ≡ 0) (S j) (map S js) h (member-map S j js (member-counting 0 (check_count A D) j (omega arith) (omega arith)))),
        λ c. All-map (λ s. s ≡ 0) S js (all-counting (λ j. S j ≡ 0) (check_count A D) c.1),
      )

  encoded_length : Accepted A D → (message : List ℕ) → length message ≡ dimension A D → length (encoded A D message) ≡ D.length
  unfolding encoded
  encoded_length a message n =
      let room = a.some_message in
      let g = drop 1 (generator A D) in
      let raised = message ++ replicate (redundancy A D) 0 in
      let tail : length g ≡ redundancy A D = omega (arith, length-drop 1 (generator A D), generator_length A D) in
      let above = length_raised (ops A) message (redundancy A D) in
      let long = length-remainder (ops A) (length message) g raised (omega arith) in
      simp (length-append, length-map, long) (omega arith)

module _ (A : Arith) (L : Laws A) where
  -- the root's powers go round
  root_turns : (k : ℕ) → root_power A (k * A.order) ≡ 1
  root_turns zero = ap (root_power A) (zero-mul A.order)
  root_turns (suc k) =
      let R = L.ring in
      cc (ap (root_power A) (suc-mul k A.order), power-add A R A.root (k * A.order) A.order, root_turns k, L.root_order, R.mul-one 1 (one_code A R))

  root_modulo : (m : ℕ) → root_power A (m % A.order) ≡ root_power A m
  root_modulo m =
      let N = A.order in
      let R = L.ring in
      let whole = R.mul-one (root_power A (m % N)) (power_code A R A.root (m % N)) in
      cc (ap (root_power A) (mod-add-div' m N), power-add A R A.root (m % N) (m / N * N), root_turns (m / N), whole)

  module _ (D : Design) where
    -- the encoded word, of elements
    abbrev encoded_elements : List (Element A) → List (Element A)
    encoded_elements M =
        let o = on_elements A L.ring in
        let g = generator_tail A L D in
        M ++ map o.neg (remainder o (length M) g (M ++ replicate (length g) o.zero))

    encoded_is : (M : List (Element A)) → encoded A D (codes M) ≡ codes (encoded_elements M)
    unfolding encoded
    encoded_is M =
        let g = generator_tail A L D in
        let is = generator_is A L D in
        let r : redundancy A D ≡ length g = omega (arith, generator_length A D, ap length is, length-map g (λ x. x.code)) in
        cc (codes_divided A L.ring M g (length g), is, r)

    encoded_root : (M : List (Element A)) (j : ℕ) → j < check_count A D → value (ops A) (encoded A D (codes M)) (root_power A (D.first + j)) ≡ 0
    encoded_root M j l =
        let R = L.ring in
        let e = (D.first + j) % A.order in
        let x : Element A = pow (on_elements A R) (root_element A L) e in
        let at : x.code ≡ root_power A (D.first + j) = code_pow A R (root_element A L) e ∙ pow_is_power A A.root e ∙ root_modulo (D.first + j) in
        (λ i. value (ops A) (encoded_is M i) (sym at i)) ∙ sym (code_value A R (encoded_elements M) x)
        ∙ ap (λ v. v.code) (value_divided (elements_ring A R) M (generator_tail A L D) x (tail_root A L D e ((exponents_smallest A L D).run_in j l)))

    encoded_symbols : Accepted A D → (message : List ℕ) → All (λ x. x < symbols A D.alphabet) message → All (λ x. x < symbols A D.alphabet) (encoded A D message)
    unfolding encoded
    encoded_symbols a message h =
        let s = D.alphabet in
        let P : ℕ → Type 0 = λ x. x < symbols A s in
        let zeros = replicate (redundancy A D) 0 in
        All-append P message _ h
        (symbols_negatives A L s _
        (symbols_remainder A L s (length message) (drop 1 (generator A D)) (message ++ zeros) (All-drop P 1 (generator A D) a.generator_symbols)
        (All-append P message zeros h (symbols_zeros A L s (redundancy A D)))))

    pub encoding_is_codeword : Accepted A D → EncodingIsCodeword A D
    unfolding encoded
    encoding_is_codeword a message n h =
        let most = symbols_codes A L D.alphabet in
        let M = with_codes message (All-weaker (λ x. x < symbols A D.alphabet) (λ x. x < A.size) (λ x l. omega arith) message h) in (
          (
            (encoded_length A D a message n, encoded_symbols a message h),
            rw M.1 at (encoded_root M.0),
          ),
          take_at message _ (dimension A D) n,
        )
