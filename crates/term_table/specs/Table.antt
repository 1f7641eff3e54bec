-- Numbers of terms.
use Rattle.std.specs.Prelude.{ℕ, ◌+◌, ◌-◌, ◌==◌, Bool, List, [], ◌∷◌, ◌++◌}
use Rattle.std.specs.Prelude.{Option, None, slice_get, position, if◌then◌else◌}
use Rattle.std.specs.Option.{option_map}
use Rattle.std.specs.List.{list_any}
use Rattle.rdf_terms.specs.declared.term.Term.{Term}
use Rattle.rdf_terms.specs.contracts.term.TermPartialEq as terms_eq

-- whether two terms have the same parts
abbrev pub same : Term → Term → Bool
same = terms_eq.TheImpl.ghosts.eq

-- the term of a number, from 1 on
abbrev pub term_numbered : List Term → ℕ → Option Term
term_numbered terms number = if number == 0 then None else slice_get terms (number - 1)

abbrev pub number_in : List Term → Term → Option ℕ
number_in terms term = option_map (λ at. at + 1) (position (same term) terms)

-- with the term behind the others, unless it is there
abbrev pub interned : List Term → Term → List Term
interned terms term = if list_any (same term) terms then terms else terms ++ term ∷ []

abbrev pub most : ℕ
most = 4294967294
