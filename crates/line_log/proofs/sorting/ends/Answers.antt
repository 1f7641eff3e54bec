use Rattle.std.proofs.Common.{◌≡◌, ℕ, ◌≤◌, Bool, not, List, [], ◌∷◌, length, get_or, ap, ◌∙◌, arith}
use Rattle.std.specs.Cmp.Lexicographic.{pointwise, texts_ties}
use Rattle.std.specs.Prelude.{nat_eq}
use Rattle.line_log.specs.Sorting.{NumberedLine, edits_at, ends, lines_numbered}
use Rattle.line_log.proofs.sorting.ends.Goals as goal

next_ends : (line : List ℕ) (rows : List NumberedLine) (d : NumberedLine) (es : List (Bool × List ℕ)) → 1 ≤ length rows
    → not (pointwise nat_eq line (get_or rows 0 d).line.0.now) ≡ ends line (edits_at es (lines_numbered rows))
next_ends line [] d es h = absurd (omega arith)
next_ends line (row ∷ rows) d es h = ap not (texts_ties line row.line.0.now)

pub returns-in-len1-up : goal.returns-in-len1-up
returns-in-len1-up c = λ es. c.ne.ensures ∙ next_ends c.args.line.now c.args.behind.now _ es c.in-len1-up.len_at_least
