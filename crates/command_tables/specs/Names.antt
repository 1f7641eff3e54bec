-- The names of the commands, and the words that stand behind them.
use Rattle.std.specs.Prelude.{◌≡◌, ℕ, ◌≤◌, Bool, true, false, List}
use Rattle.std.specs.Prelude.{[], ◌∷◌, ◌++◌, map, Option, None, Some, if◌then◌else◌}
use Rattle.std.specs.Fmt.{decimal}
use Rattle.std.specs.List.{flat_map}
use Rattle.std.specs.Str.{bytes_eq}
use Rattle.std.proofs.Common.{get_or}
use denote.Enum.Declared.{tag_of}
use Rattle.command_tables.specs.Positions.{FitPositions}
use Rattle.command_tables.specs.contracts.name.Name.{the_type}
use Rattle.command_tables.specs.declared.name.Name.{Name}
use Rattle.command_tables.specs.declared.rows.Group.{Group}
use Rattle.command_tables.specs.declared.rows.Group.TheVariants as groups
use Rattle.command_tables.specs.declared.rows.CommandRow.{CommandRow}
use Rattle.command_tables.specs.declared.rows.TheConstants.{ROWS}

-- a row of the constant, in which a reference is known by what stands there
abbrev pub KnownRow : Type 0
KnownRow = CommandRow (record { now : List ℕ }) (record { now : List (record { now : List ℕ }) })

-- what stands in a column of a command's row; rows stand in the order of the names
abbrev pub of_command : {A : Type 0} → (KnownRow → A) → A → Name → A
of_command column missing name = get_or (map column ROWS.now) (tag_of the_type name) missing

-- the word that names a command
abbrev pub name_text : Name → List ℕ
name_text = of_command (λ row. row.word.now) []

-- what stands for each word behind the name
abbrev pub positions_of : Name → List (List ℕ)
positions_of = of_command (λ row. map (λ text. text.now) row.positions.now) []

-- what the command is on
abbrev pub group_of : Name → Group
group_of = of_command (λ row. row.group) groups.Own

abbrev pub is_call : Group → Bool
is_call groups.Call = true
is_call other = false

-- the command asks a server at the address of its first position
abbrev pub asks_server : Name → Bool
asks_server = of_command (λ row. is_call row.group) false

abbrev pub is_zone : Group → Bool
is_zone groups.Zone = true
is_zone other = false

-- the command is on a zone, whose directory is its first position
abbrev pub is_of_zone : Name → Bool
is_of_zone = of_command (λ row. is_zone row.group) false

-- a word, and behind it each position behind a blank
abbrev pub words_text : List ℕ → List (List ℕ) → List ℕ
words_text word positions = word ++ flat_map (λ position. 32 ∷ position) positions

-- a command's words
abbrev pub usage_text : Name → List ℕ
usage_text name = words_text (name_text name) (positions_of name)

-- the command that a word names, or none
abbrev pub IsNamed : List ℕ → Option Name → Type 0
IsNamed word None = (name : Name) → word ≡ name_text name → ⊥
IsNamed word (Some name) = word ≡ name_text name

-- the name beside the first word that is this one
abbrev pub first_name : List ℕ → List (List ℕ × Name) → Option Name
first_name word [] = None
first_name word (row ∷ rows) = if bytes_eq row.0 word then Some row.1 else first_name word rows

-- the first word names a command
abbrev pub BeginsWith : List (List ℕ) → Name → Type 0
BeginsWith words name = (rest : List (List ℕ)) × (words ≡ name_text name ∷ rest)

-- the first word is this one
abbrev pub HasFirst : List (List ℕ) → List ℕ → Type 0
HasFirst words first = (rest : List (List ℕ)) × (words ≡ first ∷ rest)

-- the first word names the command, and behind it stands a word for each of its positions, none of
-- which begins with `-`
abbrev pub FitsName : List (List ℕ) → Name → Type 0
FitsName words name = BeginsWith words name × FitPositions (positions_of name) words

-- the number that a word is, of those from the one to the other, or none
abbrev pub IsNumberIn : ℕ → ℕ → List ℕ → Option ℕ → Type 0
IsNumberIn low high word None = (n : ℕ) → low ≤ n → n ≤ high → word ≡ decimal n → ⊥
IsNumberIn low high word (Some n) = (low ≤ n) × (n ≤ high) × (word ≡ decimal n)
