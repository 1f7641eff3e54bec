use Rattle.std.proofs.Common.{◌≡◌, ℕ, ◌+◌, ◌-◌, ◌/◌, List, take, drop, sym, ap, ◌∙◌, arith, add-one}
use Rattle.case_tables.specs.Tables.{has_char}
use Rattle.case_tables.proofs.Halves.{none_from, none_up_to, none_in_parts, has_at}
use Rattle.case_tables.proofs.ranges.RangeTable.contains.Goals as goal

pub loop-low-preserved-then-code-first : goal.loop-low-preserved-then-code-first
loop-low-preserved-then-code-first g c =
    let rows = c.self.inside.rows.now in
    let middle = c.loop-low.low + (c.loop-low.high - c.loop-low.low) / 2 in
    (omega arith, omega arith, c.loop-low.invariant.2, none_from 0 rows middle c.args.c _ c.self.invariant (omega arith) c.if-code-first.true)

pub loop-low-preserved : goal.loop-low-preserved
loop-low-preserved g c =
    let rows = c.self.inside.rows.now in
    let middle = c.loop-low.low + (c.loop-low.high - c.loop-low.low) / 2 in (
      omega arith,
      omega arith,
      ap (λ (n : ℕ). has_char (take n rows) c.args.c) (add-one middle) ∙ none_up_to 0 rows middle c.args.c _ c.self.invariant (omega arith) c.if-last-code.true,
      c.loop-low.invariant.3,
    )

pub returns-else-last-code : goal.returns-else-last-code
returns-else-last-code g c =
    let rows = c.self.inside.rows.now in
    let middle = c.loop-low.low + (c.loop-low.high - c.loop-low.low) / 2 in
    sym (ap (λ (t : List (ℕ × ℕ)). has_char t c.args.c) (sym c.self.view_is) ∙ has_at rows middle c.args.c _ (omega arith) c.if-code-first.false c.if-last-code.false)

pub returns : goal.returns
returns g c =
    let rows = c.self.inside.rows.now in
    let met : c.loop-low.high ≡ c.loop-low.low = omega arith in
    sym (ap (λ (t : List (ℕ × ℕ)). has_char t c.args.c) (sym c.self.view_is)
    ∙ none_in_parts rows c.loop-low.low c.args.c c.loop-low.invariant.2 (ap (λ (n : ℕ). has_char (drop n rows) c.args.c) (sym met) ∙ c.loop-low.invariant.3))
