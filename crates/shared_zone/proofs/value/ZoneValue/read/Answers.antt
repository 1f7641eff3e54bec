use Rattle.std.proofs.Common.{◌∙◌, ap, map}
use Rattle.std.specs.List.{filter}
use Rattle.rdf_terms.specs.Line.{line}
use Rattle.dataset_tx.specs.Pattern.{matches}
use Rattle.checkpoint_text.specs.Brief.{Brief}
use Rattle.shared_zone.proofs.Standing.{kept, ids_count}
use Rattle.shared_zone.proofs.value.ZoneValue.read.Goals as goal

pub returns-clause-version : goal.returns-clause-version
returns-clause-version g c = rw (← c.self.view_is) (c.version-version.ensures.version ∙ ids_count g.D.Disk _ c.self.invariant.1)

pub returns-clause-lines : goal.returns-clause-lines
returns-clause-lines g c = rw (← c.self.view_is) (c.in_ok-lines.ensures.found ∙ ap (λ (b : Brief). map line (filter (matches c.args.pattern.now) b.contents.quads)) (kept g.D.Disk _ c.self.invariant.1))
