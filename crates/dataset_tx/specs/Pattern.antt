-- Which quads a pattern fits.
use Rattle.std.specs.Prelude.{ℕ, Bool, true, false, ◌&&◌, Option, None, Some}
use Rattle.rdf_terms.specs.declared.term.Term.{Term}
use Rattle.rdf_terms.specs.Quad.{Statement}
use Rattle.quad_index.specs.declared.key.QuadKey.{QuadKey}
use Rattle.quad_index.specs.declared.key.KeyPattern.{KeyPattern}
use Rattle.quad_index.specs.Key.{fits_bound, matches_key}
use Rattle.term_table.specs.Table.{same}
use Rattle.dataset_tx.specs.declared.pattern.GraphPart.{GraphPart}
use Rattle.dataset_tx.specs.declared.pattern.GraphPart.TheVariants.{Any, Default, Named}
use Rattle.dataset_tx.specs.declared.pattern.Pattern.{Pattern}

-- a part that is free, or is this term
abbrev pub fits : Option Term → Term → Bool
fits None term = true
fits (Some wanted) term = same wanted term

-- any graph, the default one, or the one with this name
abbrev pub fits_graph : GraphPart → Option Term → Bool
fits_graph Any graph = true
fits_graph Default None = true
fits_graph Default (Some name) = false
fits_graph (Named wanted) None = false
fits_graph (Named wanted) (Some name) = same wanted name

abbrev pub matches : Pattern → Statement → Bool
matches pattern q =
    fits_graph pattern.graph q.graph
    && fits pattern.subject q.subject
    && fits pattern.predicate q.predicate
    && fits pattern.object q.object

-- a part by its number; nothing fits a term without one
abbrev pub fits_number : Option (Option ℕ) → ℕ → Bool
fits_number None number = false
fits_number (Some wanted) number = fits_bound wanted number

-- a pattern by its numbers, where each bound term has one
abbrev pub fits_key : Option KeyPattern → QuadKey → Bool
fits_key None key = false
fits_key (Some pattern) key = matches_key pattern key
