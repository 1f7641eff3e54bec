use Rattle.std.proofs.Common.{◌+◌, ◌*◌, ◌<◌, ◌≤◌, length, sym, subst, arith}
use Rattle.patch_reader.specs.Progress.{SameOpen, parts_left}
use Rattle.patch_reader.specs.declared.progress.RowPart.{RowPart}
use Rattle.patch_reader.specs.declared.progress.RowPart.TheVariants as part
use Rattle.patch_reader.specs.declared.progress.Place.TheVariants as place
use Rattle.patch_reader.proofs.ProgressSteps.{graph_is_none, enters, from_place}
use Rattle.patch_reader.proofs.progress.step_token.Goals as goal

pub returns-then-lacks_graph : goal.returns-then-lacks_graph
returns-then-lacks_graph c =
    let is = c.lacks_graph.ensures.yes c.if-lacks_graph.true in
    let lt = c.requires.begins in
    subst (λ (p : RowPart). SameOpen c.args.text.now (place.Token p c.args.start) (place.Token part.End c.args.start) × (c.args.start + 1 ≤ length c.args.text.now) × (2 < 2 * parts_left p)) (sym is.0)
    (graph_is_none c.args.text.now c.args.start lt is.1, omega (arith, lt), omega arith)

pub returns-then-is_open : goal.returns-then-is_open
returns-then-is_open c = enters c.args.text.now (record { place = place.Token c.args.part c.args.start; inside = c.args.inside }) c.in_part.result c.pass-inside.result c.in_part.ensures.leads c.pass-inside.ensures.leads c.pass-inside.ensures.within
    (c.is_open.ensures c.if-is_open.true)

pub returns : goal.returns
returns c = from_place c.args.text.now (place.Token c.args.part c.args.start) c.args.inside c.step_part.result c.step_part.ensures
