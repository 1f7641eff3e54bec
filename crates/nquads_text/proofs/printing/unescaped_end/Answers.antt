use Rattle.nquads_text.specs.Reading.{is_plain_string}
use Rattle.nquads_text.proofs.Escaping.{string_itself}
use Rattle.nquads_text.proofs.PlainRuns.{run_each}
use Rattle.nquads_text.proofs.printing.unescaped_end.Goals as goal

pub loop-i-init : goal.loop-i-init
loop-i-init c =
    let run = c.plain_string_end-run in
    let each = run_each is_plain_string c.args.text.now c.args.at run.result run.ensures.high run.ensures.plain in
    λ k low lt. string_itself _ (each k low lt)
