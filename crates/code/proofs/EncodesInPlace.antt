-- The encoder's steps in the buffer come to the encoding.
use Rattle.std.proofs.lemmas.Grind.{common_steps}
use Rattle.std.proofs.Common.{◌≡◌, ℕ, ◌-◌, ◌≤◌, List, ◌++◌, map, length, take, drop, replicate, refl, ap, ◌∙◌, ap₂, arith}
use borrow.Rule.Slice.PartMut.{put_mid}
use Rattle.std.proofs.lemmas.List.{length-append, take_at, take_rest, drop_at}
use Rattle.algebra.specs.Arith.{Arith}
use Rattle.algebra.specs.Words.{remainder}
use Rattle.algebra.specs.BlockCode.{ops, redundancy, generator, encoded}
use Rattle.algebra.specs.declared.Design.{Design}
use Rattle.code.proofs.Dividing.{rest_written}

module _ (A : Arith) (D : Design) (message word : List ℕ) (fits : length message ≤ length word) (checks : length word - length message ≡ redundancy A D) where
  abbrev k : ℕ
  k = length message

  -- the message times x^r
  padded : (front cleared : List ℕ) → front ≡ message ++ drop k word → cleared ≡ take k front ++ replicate (length front - k) 0 → cleared ≡ message ++ replicate (redundancy A D) 0
  padded front cleared f c = grind (arith, common_steps)

  pub encodes_in_place : (front cleared divisor divided again negated : List ℕ) → front ≡ message ++ drop k word → cleared ≡ take k front ++ replicate (length front - k) 0
      → divisor ≡ drop 1 (generator A D) → drop k divided ≡ remainder (ops A) k divisor cleared → again ≡ message ++ drop k divided
      → negated ≡ map A.neg (take (length again - k) (drop k again)) → put_mid k (length again - k) again negated ≡ encoded A D message
  unfolding encoded
  encodes_in_place front cleared divisor divided again negated f c g d a n =
      let rest : drop k again ≡ remainder (ops A) k (drop 1 (generator A D)) (message ++ replicate (redundancy A D) 0) =
      ap (drop k) a ∙ drop_at message (drop k divided) k refl ∙ d ∙ ap₂ (remainder (ops A) k) g (padded front cleared f c) in
      let long : k ≤ length again = let l = ap length a ∙ length-append message (drop k divided) in omega arith in
      rest_written again negated k long
      ∙ ap₂ ◌++◌ (ap (take k) a ∙ take_at message (drop k divided) k refl) (n ∙ ap (map A.neg) (take_rest again k ∙ rest))
