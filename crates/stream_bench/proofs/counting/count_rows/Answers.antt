use Rattle.std.proofs.Common.{◌≡◌, ℕ, ◌^◌, ◌<◌, List, length, sym, ap, ◌∙◌, subst, eqb-true, arith}
use Rattle.stream_bench.specs.Counting.{CountsRows}
use Rattle.stream_bench.proofs.Counted.{whole_fed, all_counted}
use Rattle.stream_bench.proofs.counting.count_rows.Goals as goal

pub returns : goal.returns
returns c =
    let i = c.pieces.invariant in
    let text : List ℕ = c.args.text.now in
    let fits : length c.args.text.now < 2 ^ 64 = omega arith in
    let none : length c.pieces.rest.now ≡ 0 = eqb-true (length c.pieces.rest.now) 0 (sym c.is_empty.ensures ∙ c.pieces-test.false) in
    let ended = c.finish.ensures in
    let same = c.take_rows.ensures.same in
    let fed = ended.same.0 ∙ whole_fed text c.pieces.reader.fed c.pieces.rest.now i.0 none in
    let counts : CountsRows c.finish.new.self c.pieces.count = λ short. ap length ended.same.1 ∙ i.2 (subst (λ (t : List ℕ). length t < 2 ^ 64) ended.same.0 short) in
    all_counted text c.take_rows.new.reader c.take_rows.result fits (same.0 ∙ fed) (same.1 ∙ ended.end) (same.2 ∙ c.in_ok-finish.ensures.answer) c.take_rows.ensures.all c.take_rows.ensures.rows
    (c.take_rows.ensures.counts counts)
