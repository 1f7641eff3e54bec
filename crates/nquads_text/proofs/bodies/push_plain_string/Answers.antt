use Rattle.std.proofs.Common.{refl, drop}
use Rattle.std.specs.String.{string_bytes}
use Rattle.nquads_text.specs.Reading.{string_piece, is_plain_string, string_body_at, with_front}
use Rattle.nquads_text.proofs.Plain.{plain_between, plain_more, string_stands}
use Rattle.nquads_text.proofs.PlainRuns.{run_each}
use Rattle.nquads_text.proofs.bodies.push_plain_string.Goals as goal

pub from_utf8_unchecked-plain-requires : goal.from_utf8_unchecked-plain-requires
from_utf8_unchecked-plain-requires c =
    let run = c.plain_string_end-run in
    let each = run_each is_plain_string c.args.text.now c.args.at run.result run.ensures.high run.ensures.plain in
    plain_between string_piece is_plain_string string_stands c.args.text.now c.args.at run.result run.ensures.low each

pub returns-clause-same : goal.returns-clause-same
returns-clause-same c =
    let run = c.plain_string_end-run in
    let each = run_each is_plain_string c.args.text.now c.args.at run.result run.ensures.high run.ensures.plain in
    rw c.in_ok-push_str.ensures.bytes (rw c.from_utf8_unchecked-plain.ensures
    (plain_more string_piece is_plain_string string_stands c.args.text.now (string_bytes c.args.out.now) c.args.at run.result (with_front (string_bytes c.args.out.now) (string_body_at (drop c.args.at c.args.text.now)))
    run.ensures.low run.ensures.high each refl))
