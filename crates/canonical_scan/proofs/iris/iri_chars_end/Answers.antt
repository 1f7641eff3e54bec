use Rattle.canonical_scan.specs.Parts.{Between, InIri}
use Rattle.canonical_scan.proofs.Pieces.{starts, iri_none, iri_joins, iri_run, iri_char}
use Rattle.canonical_scan.proofs.iris.iri_chars_end.Goals as goal

pub loop-next-init : goal.loop-next-init
loop-next-init c = starts InIri iri_none iri_joins c.args.text.now c.args.from c.requires

pub returns-in-None : goal.returns-in-None
returns-in-None c =
    let run = c.plain_iri_end-run in
    iri_run c.args.text.now c.args.from c.loop-next.at run.result c.loop-next.invariant run.ensures.low run.ensures.high run.ensures.plain

pub loop-next-preserved : goal.loop-next-preserved
loop-next-preserved c =
    let run = c.plain_iri_end-run in
    let so_far : Between InIri c.args.text.now c.args.from run.result = iri_run c.args.text.now c.args.from c.loop-next.at run.result c.loop-next.invariant run.ensures.low run.ensures.high run.ensures.plain in
    iri_char c.args.text.now c.args.from run.result c.in-Some.next so_far c.in-Some.ensures.long
