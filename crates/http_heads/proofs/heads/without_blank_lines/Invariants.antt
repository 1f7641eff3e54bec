use Rattle.std.proofs.Common.{◌≡◌, ◌++◌, ℕ, List, length}
use Rattle.httparse.specs.Grammar.{LineEnd, print_blank}
use Rattle.httparse.specs.Pieces.{Stops, is_newline}
use Rattle.http_heads.proofs.heads.without_blank_lines.Given as goal

abbrev pub invariant-loop-after : goal.invariant-loop-after
invariant-loop-after l =
    ((blank : List LineEnd) × (l.text ≡ print_blank blank ++ l.rest))
    × ((blank : List LineEnd) (rest : List ℕ) → Stops is_newline rest → l.text ≡ print_blank blank ++ rest
    → (others : List LineEnd) × (l.rest ≡ print_blank others ++ rest))

abbrev pub decreases-loop-after : goal.decreases-loop-after
decreases-loop-after l = length l.rest
