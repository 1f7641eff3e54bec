use Rattle.checkpoint_text.specs.Text.{line_of_id, IsIdValue}
use Rattle.checkpoint_text.proofs.OneText.{id_cut}
use Rattle.checkpoint_reading.proofs.Fronts.{stops}
use Rattle.checkpoint_reading.proofs.ids.read_ids.Goals as goal

pub returns-in_default-clause-broken : goal.returns-in_default-clause-broken
returns-in_default-clause-broken c = λ broken ids rest all.
    stops line_of_id IsIdValue id_cut c.loop-place._place c.args.count c.args.text.now c.loop-place.rest.now c.loop-place.ids.items c.loop-place.invariant c.loop-place-test.true c.in_default.ensures.none ids rest all
