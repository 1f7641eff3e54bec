use Rattle.canonical_scan.proofs.Terms.{literal_there}
use Rattle.canonical_scan.proofs.term.literal_places.Goals as goal

pub returns-then-is_spaced : goal.returns-then-is_spaced
returns-then-is_spaced c =
    literal_there c.args.text.now c.args.at c.in_ok-string.string c.in_ok-end.end c.in_ok-string.ensures c.in_ok-end.ensures (c.is_spaced.ensures c.if-is_spaced.true)
