-- How far a head was followed that has not ended.
use Rattle.std.specs.Prelude.{◌≡◌, ◌≤◌, ℕ, Bool, true, false, List, [], ◌∷◌, ◌++◌, length, All}
use Rattle.std.specs.Char.{is_ascii_digit}
use Rattle.httparse.specs.Grammar.{LineEnd, print_blank, print_version, IsToken, AllPass}
use Rattle.httparse.specs.Grammar.{is_value_byte, Field, IsField, print_section}
use Rattle.http_heads.specs.Heads.{Head, ReadsHead, EndsInTarget}
use Rattle.http_heads.specs.declared.message.Kind.{Kind}
use Rattle.http_heads.specs.declared.message.Kind.TheVariants.{Requests, Replies}
use Rattle.http_heads.specs.declared.progress.HeadProgress.{HeadProgress}
use Rattle.http_heads.specs.declared.progress.HeadProgress.TheVariants.{Blank, BlankEnd, Method}
use Rattle.http_heads.specs.declared.progress.HeadProgress.TheVariants.{Target, Reason, Line, Name}
use Rattle.http_heads.specs.declared.progress.HeadProgress.TheVariants.{Value, ValueEnd, Unknown}

-- whatever fields follow, and the empty line behind them, the text becomes a head
abbrev pub TakesFields : Kind → List ℕ → Type 0
TakesFields kind text = (fields : List Field) (last : LineEnd) → All IsField fields
    → (head : Head) × ReadsHead kind (text ++ print_section fields last) head []

-- a field's name behind the lines before it, and what has come of its value
abbrev pub IsInName : Kind → List ℕ → Type 0
IsInName kind text = (lines : List ℕ) × (name : List ℕ) × TakesFields kind lines
    × IsToken name × (text ≡ lines ++ name)

abbrev pub IsInValue : Kind → List ℕ → Type 0
IsInValue kind text =
    (lines : List ℕ) × (name : List ℕ) × (raw : List ℕ) × TakesFields kind lines
    × IsToken name × AllPass is_value_byte raw
    × (text ≡ lines ++ (name ++ 58 ∷ raw))

-- a status line up to its reason phrase and some of that
abbrev pub IsToReason : List ℕ → Type 0
IsToReason line =
    (minor : ℕ) × (digits : List ℕ) × (phrase : List ℕ) × (minor ≤ 1) × (length digits ≡ 3)
    × AllPass is_ascii_digit digits × AllPass is_value_byte phrase
    × (line ≡ print_version minor ++ 32 ∷ (digits ++ 32 ∷ phrase))

-- the text ends in a reason phrase
abbrev pub EndsInReason : List ℕ → Type 0
EndsInReason text =
    (blank : List LineEnd) × (line : List ℕ) × IsToReason line × (text ≡ print_blank blank ++ line)

-- what the text is
abbrev pub Follows : Kind → List ℕ → HeadProgress → Type 0
Follows kind text Blank = (blank : List LineEnd) × (text ≡ print_blank blank)
Follows kind text BlankEnd = (blank : List LineEnd) × (text ≡ print_blank blank ++ 13 ∷ [])
Follows kind text Method = (kind ≡ Requests) × ((blank : List LineEnd) × (method : List ℕ)
    × IsToken method × (text ≡ print_blank blank ++ method))
Follows kind text Target = EndsInTarget kind text
Follows kind text Reason = (kind ≡ Replies) × EndsInReason text
Follows kind text Line = TakesFields kind text
Follows kind text Name = IsInName kind text
Follows kind text Value = IsInValue kind text
Follows kind text ValueEnd = (value : List ℕ) × IsInValue kind value × (text ≡ value ++ 13 ∷ [])
Follows kind text Unknown = Unit {0}

-- whether the text was followed up to its end
abbrev pub is_known : HeadProgress → Bool
is_known Unknown = false
is_known Blank = true
is_known BlankEnd = true
is_known Method = true
is_known Target = true
is_known Reason = true
is_known Line = true
is_known Name = true
is_known Value = true
is_known ValueEnd = true
