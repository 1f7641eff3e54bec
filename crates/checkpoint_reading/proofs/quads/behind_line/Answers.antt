use Rattle.std.proofs.Common.{List, ℕ, ◌++◌, ap, ◌∙◌}
use Rattle.rdf_terms.specs.Line.{line}
use Rattle.checkpoint_reading.proofs.Stripped.{stripped_some, stripped_none}
use Rattle.checkpoint_reading.proofs.quads.behind_line.Goals as goal

pub returns-clause-some : goal.returns-clause-some
returns-clause-some c =
    stripped_some c.args.text.now c.as_slice.result.now _ c.strip_prefix.result c.strip_prefix.ensures.cases (c.as_slice.ensures.value ∙ c.in_ok-push_line.ensures.text ∙ ap (λ (t : List ℕ). t ++ line c.args.quad.now) c.clear.ensures.items)

pub returns-clause-none : goal.returns-clause-none
returns-clause-none c =
    stripped_none c.args.text.now c.as_slice.result.now _ c.strip_prefix.result c.strip_prefix.ensures.cases (c.as_slice.ensures.value ∙ c.in_ok-push_line.ensures.text ∙ ap (λ (t : List ℕ). t ++ line c.args.quad.now) c.clear.ensures.items)
