-- One step of a division in place.
use Rattle.std.proofs.lemmas.Grind.{common_steps}
use Rattle.std.proofs.Common.{◌≡◌, ℕ, suc, ◌+◌, ◌-◌, ◌<◌, ◌≤◌, List, ◌++◌, length, get_or, take, drop, sym, ap, ◌∙◌, ap₂, arith}
use borrow.Rule.Slice.PartMut.{put_mid}
use Rattle.std.proofs.lemmas.List.{take_rest, drop_more}
use Rattle.algebra.specs.Arith.{Arith}
use Rattle.algebra.specs.Words.{less, remainder}
use Rattle.algebra.specs.BlockCode.{ops}

-- the word after a write to all that follows place a
pub rest_written : (w part : List ℕ) (a : ℕ) → a ≤ length w → put_mid a (length w - a) w part ≡ take a w ++ part
rest_written w part a h = grind (arith, common_steps)

drop_written : (w part : List ℕ) (a : ℕ) → a ≤ length w → drop a (put_mid a (length w - a) w part) ≡ part
drop_written w part a h = grind (arith, common_steps)

pub divide_turn : (A : Arith) (g w part : List ℕ) (steps i : ℕ) → i < steps → steps ≤ length w
    → part ≡ less (ops A) (get_or w i 0) (take (length w - (i + 1)) (drop (i + 1) w)) g
    → remainder (ops A) (steps - (i + 1)) g (drop (i + 1) (put_mid (i + 1) (length w - (i + 1)) w part)) ≡ remainder (ops A) (steps - i) g (drop i w)
divide_turn A g w part steps i h fits e =
    let one_more : suc (steps - (i + 1)) ≡ steps - i = omega arith in
    let lead = get_or w i 0 in
    ap (remainder (ops A) (steps - (i + 1)) g) (drop_written w part (i + 1) (omega arith) ∙ e ∙ ap (λ left. less (ops A) lead left g) (take_rest w (i + 1)))
    ∙ ap₂ (λ k left. remainder (ops A) k g left) one_more (sym (drop_more w i 0 (omega arith)))
