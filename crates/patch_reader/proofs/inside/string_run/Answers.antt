use Rattle.std.proofs.Common.{ℕ, Option, Ok, drop, ap, ◌∙◌}
use Rattle.patch_reader.proofs.InsideSteps.{string_over, string_shut}
use Rattle.patch_reader.proofs.inside.string_run.Goals as goal

pub run-preserved : goal.run-preserved
run-preserved c =
    let found = c.in-Ok-Some-default in
    let here = found.ensures in
    let piece = here.gives.0 ∙ ap (λ (p : Option ℕ). Ok (p, drop found.next c.args.text.now)) found.field-0-0-is in
    (here.gives.1, λ more o. c.run.invariant.1 more (string_over c.args.text.now more c.run.at found.next found.field-0-0-0 here.further here.gives.1 piece o))

pub returns-in-Ok-None-default-clause-leads : goal.returns-in-Ok-None-default-clause-leads
returns-in-Ok-None-default-clause-leads c =
    let found = c.in-Ok-None-default in
    let here = found.ensures in
    let piece = here.gives.0 ∙ ap (λ (p : Option ℕ). Ok (p, drop found.next c.args.text.now)) found.field-0-0-is in
    λ more o. c.run.invariant.1 more (string_shut c.args.text.now more c.run.at found.next here.further here.gives.1 piece o)
