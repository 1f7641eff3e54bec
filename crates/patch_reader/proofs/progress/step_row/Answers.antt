use Rattle.patch_reader.specs.declared.progress.Place.TheVariants as place
use Rattle.patch_reader.proofs.ProgressSteps.{enters, from_place}
use Rattle.patch_reader.proofs.progress.step_row.Goals as goal

pub returns-then-is_open : goal.returns-then-is_open
returns-then-is_open c = enters c.args.text.now (record { place = place.Row; inside = c.args.inside }) c.in_code.result c.pass-inside.result c.in_code.ensures.leads c.pass-inside.ensures.leads c.pass-inside.ensures.within
    (c.is_open.ensures c.if-is_open.true)

pub returns : goal.returns
returns c = from_place c.args.text.now place.Row c.args.inside c.step_code.result c.step_code.ensures
