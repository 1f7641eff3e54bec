use Rattle.std.proofs.Common.{ℕ, sym, subst, ◌∙◌}
use Rattle.stream_bench.specs.Counting.{CountsRows}
use Rattle.stream_bench.proofs.Counted.{counted_on}
use Rattle.stream_bench.proofs.counting.take_rows.Goals as goal

pub rows-preserved : goal.rows-preserved
rows-preserved c =
    let i = c.rows.invariant in
    let new = c.take_one.new.reader in
    let one = c.rows-test.ensures.one in
    let same = c.take_one.ensures.same in (
      (λ counts. subst (λ (n : ℕ). CountsRows new n) (sym c.saturating_add-count.ensures) (counted_on c.rows.reader new c.rows.count one same c.take_one.ensures.rows (i.0 counts))),
      (same.0 ∙ i.1.0, same.1 ∙ i.1.1, same.2 ∙ i.1.2),
    )
