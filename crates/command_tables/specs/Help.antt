-- What `--help` prints.
use Rattle.std.specs.Prelude.{ℕ, ◌-◌, ◌==◌, if◌then◌else◌, List, [], ◌∷◌, ◌++◌, map, take}
use Rattle.std.specs.Prelude.{length, codes}
use Rattle.std.specs.List.{flat_map}
use Rattle.command_tables.specs.Names.{words_text}
use Rattle.command_tables.specs.declared.help.TheConstants.{BLANKS, HEAD, INDENT}
use Rattle.command_tables.specs.declared.rows.TheConstants.{ROWS}

-- what stands between a command's words and its first line of help, where so many blanks are left:
-- these blanks, or if there are none, what stands in front of each further line
abbrev pub gap_text : ℕ → List ℕ
gap_text left = if left == 0 then INDENT.now else take left BLANKS.now

-- what stands in front of a line: an empty one has no gap
abbrev pub gap_before : List ℕ → List ℕ → List ℕ
gap_before [] gap = []
gap_before line gap = gap

-- lines of help, the first one behind the gap
abbrev pub help_lines : List ℕ → List (List ℕ) → List ℕ
help_lines gap [] = codes "\n"
help_lines gap (line ∷ lines) = gap_before line gap ++ (line ++ help_lines INDENT.now lines)

-- the lines of a command
abbrev pub entry_text : List ℕ → List (List ℕ) → List (List ℕ) → List ℕ
entry_text word positions lines = codes "  " ++ (words_text word positions
    ++ help_lines (gap_text (18 - length (words_text word positions))) lines)

-- the whole text
unfoldable pub help_text : List ℕ
help_text = HEAD.now ++ flat_map
    (λ row. entry_text row.word.now (map (λ text. text.now) row.positions.now)
    (map (λ text. text.now) row.help.now)) ROWS.now
