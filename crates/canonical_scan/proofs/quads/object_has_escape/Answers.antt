use Rattle.canonical_scan.proofs.Making.{string_inside}
use Rattle.canonical_scan.proofs.quads.object_has_escape.Goals as goal

pub has_backslash-requires-clause-order : goal.has_backslash-requires-clause-order
has_backslash-requires-clause-order c = let object = rw c.in-Some.is at c.requires in (string_inside c.args.text.now c.args.at c.in-Some.string object.0).low
