use Rattle.std.proofs.Common.{◌≡◌, ◌++◌, take, slice_index, string_bytes, codes, decimal}
use Rattle.std.specs.List.{flat_map}
use Rattle.console.proofs.lines.spaced_text.Given as goal

abbrev pub invariant-loop-n : goal.invariant-loop-n
invariant-loop-n l = string_bytes l.text ≡ decimal (slice_index l.numbers 0) ++ flat_map (λ y. codes " " ++ decimal y) (take l.n-index l.rest)
