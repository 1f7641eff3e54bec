use Rattle.std.proofs.Common.{List, ap, ◌∙◌}
use Rattle.patch_meaning.specs.Checked.{CheckedPatch}
use Rattle.rdf_terms.specs.Dataset.{apply}
use Rattle.rdf_terms.specs.declared.change.Change.{Change}
use Rattle.stream_squash.proofs.pieces.apply_piece.Goals as goal

pub returns-in-Ok-clause-contents : goal.returns-in-Ok-clause-contents
returns-in-Ok-clause-contents c = λ m is.
    c.in-Ok.ensures.ok ∙ ap (λ (cs : List Change). apply cs c.args.base.now.contents) (c.changes.ensures ∙ ap (λ (p : CheckedPatch). p.meaning.changes) (c.in_ok-patch.ensures m is))
