use Rattle.std.proofs.Common.{[], ◌++◌, List, ℕ, sym, ap, drop, ◌∙◌}
use Rattle.std.specs.List.{slice_range}
use Rattle.nquads_text.specs.Reading.{string_piece, is_plain_string, string_body_at}
use Rattle.nquads_text.proofs.Escaping.{plain_itself}
use Rattle.nquads_text.proofs.Plain.{plain_more, string_stands, with_nothing}
use Rattle.nquads_text.proofs.PlainRuns.{run_each}
use Rattle.nquads_text.proofs.copying.copy_plain.Goals as goal

pub returns-clause-written : goal.returns-clause-written
returns-clause-written c =
    let run = c.plain_string_end-run in
    let plain = slice_range c.args.text.now c.args.at run.result in
    c.in_ok-extend_from_slice.ensures.items ∙ ap (λ (t : List ℕ). c.args.out.now.items ++ t) (sym (plain_itself plain run.ensures.plain))

pub returns-clause-same : goal.returns-clause-same
returns-clause-same c =
    let run = c.plain_string_end-run in
    let text = c.args.text.now in
    let each = run_each is_plain_string text c.args.at run.result run.ensures.high run.ensures.plain in
    plain_more string_piece is_plain_string string_stands text [] c.args.at run.result (string_body_at (drop c.args.at text)) run.ensures.low run.ensures.high each
    (sym (with_nothing (string_body_at (drop c.args.at text))))
