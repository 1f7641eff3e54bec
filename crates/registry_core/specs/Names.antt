-- Which texts are names and URIs, and where another text stops being one.
use Rattle.std.specs.Prelude.{ℕ, ◌+◌, ◌==◌, nat_lt, min, Bool, true, false, ◌||◌, ◌&&◌, not}
use Rattle.std.specs.Prelude.{if◌then◌else◌, List, [], ◌∷◌, length, position, Option, Some, None}
use Rattle.std.specs.Char.{is_ascii_alphanumeric}
use Rattle.rdf_terms.specs.Iri.{is_forbidden, has_scheme}

-- a letter, a digit, _ or -, or behind the front a dot
abbrev pub may_stand : ℕ → ℕ → Bool
may_stand place c = is_ascii_alphanumeric c || c == 95 || c == 45 || (c == 46 && nat_lt 0 place)

-- the first place, where the text begins at this one, that no name has: the place 64, or that of a
-- byte that may not stand there
unfoldable pub name_stop : ℕ → List ℕ → Option ℕ
name_stop place [] = None
name_stop place (c ∷ rest) = if place == 64 || not
    (may_stand place c) then Some place else name_stop (place + 1) rest

-- where a text stops being a name; a name isn't empty
unfoldable pub name_fault : List ℕ → Option ℕ
name_fault [] = Some 0
name_fault (c ∷ rest) = name_stop 0 (c ∷ rest)

-- by the first byte that no IRI has, whether a scheme stands in front, and whether there are more
-- than 1,024 bytes
abbrev pub uri_stop : Option ℕ → Bool → Bool → Option ℕ
uri_stop (Some place) schemed long = Some (min place 1024)
uri_stop None false long = Some 0
uri_stop None true true = Some 1024
uri_stop None true false = None

-- where a text stops being a URI, which is an IRI of at most 1,024 bytes
unfoldable pub uri_fault : List ℕ → Option ℕ
uri_fault text = uri_stop (position is_forbidden text) (has_scheme text) (nat_lt 1024 (length text))
