-- How many fields a text has room for.
use Rattle.std.specs.Prelude.{ℕ, ◌==◌, List, min}
use Rattle.std.specs.List.{count_by}

-- the lines that end in the text
abbrev pub lines_in : List ℕ → ℕ
lines_in text = count_by (λ byte. byte == 10) text

-- a field has a line of its own, and three bytes at least
abbrev pub most_spans : List ℕ → ℕ
most_spans text = min (lines_in text) 5461
