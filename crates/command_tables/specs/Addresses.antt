-- The words that are addresses of a server.
use Rattle.std.specs.Prelude.{◌≡◌, ℕ, ◌≤◌, List, ◌∷◌, ◌++◌, length}
use Rattle.std.specs.List.{All}

-- a character from `!` to `~`
abbrev pub IsVisible : ℕ → Type 0
IsVisible byte = (33 ≤ byte) × (byte ≤ 126)

abbrev pub IsDigit : ℕ → Type 0
IsDigit byte = (48 ≤ byte) × (byte ≤ 57)

-- 1 to 5 digits
abbrev pub IsPort : List ℕ → Type 0
IsPort bytes = (1 ≤ length bytes) × (length bytes ≤ 5) × All IsDigit bytes

-- at most 255 visible characters, of which the last `:` has a port behind it and nothing else
pub record IsAddress (word : List ℕ) : Type 0 where
  pub host : List ℕ
  pub port : List ℕ
  pub parts : word ≡ host ++ 58 ∷ port
  pub is_port : IsPort port
  pub visible : All IsVisible word
  pub long : length word ≤ 255
