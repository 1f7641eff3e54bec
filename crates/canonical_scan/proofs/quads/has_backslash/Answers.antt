use Rattle.canonical_scan.proofs.Making.{no_backslash}
use Rattle.canonical_scan.proofs.quads.has_backslash.Goals as goal

pub returns : goal.returns
returns c = no_backslash _ c.contains.result c.contains.ensures.cases
