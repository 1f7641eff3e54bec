use Rattle.canonical_scan.specs.Parts.{Between, InString}
use Rattle.canonical_scan.proofs.Pieces.{starts, string_none, string_joins, string_run, string_piece}
use Rattle.canonical_scan.proofs.strings.string_chars_end.Goals as goal

pub loop-next-init : goal.loop-next-init
loop-next-init c = starts InString string_none string_joins c.args.text.now c.args.from c.requires

pub returns-in-None : goal.returns-in-None
returns-in-None c =
    let run = c.plain_string_end-run in
    string_run c.args.text.now c.args.from c.loop-next.at run.result c.loop-next.invariant run.ensures.low run.ensures.high run.ensures.plain

pub loop-next-preserved : goal.loop-next-preserved
loop-next-preserved c =
    let run = c.plain_string_end-run in
    let so_far : Between InString c.args.text.now c.args.from run.result = string_run c.args.text.now c.args.from c.loop-next.at run.result c.loop-next.invariant run.ensures.low run.ensures.high run.ensures.plain in
    string_piece c.args.text.now c.args.from run.result c.in-Some.next so_far c.in-Some.ensures.piece
