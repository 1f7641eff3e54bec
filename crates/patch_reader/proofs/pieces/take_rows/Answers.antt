use Rattle.std.proofs.Common.{◌≡◌, ◌-◌, ◌<◌, ℕ, List, [], ◌∷◌, ◌++◌, Option, Ok, length, sym, ap, subst, ◌∙◌, arith}
use Rattle.patch_reader.specs.declared.placed.PlacedRow.{PlacedRow}
use Rattle.patch_reader.specs.Rows.{AddsRows, GivesNext, RowsStand}
use Rattle.patch_reader.specs.Window.{Window, ReadsOn}
use Rattle.patch_reader.proofs.Adding.{adds_more}
use Rattle.patch_reader.proofs.Holding.{row_within}
use Rattle.patch_reader.proofs.pieces.take_rows.Goals as goal

pub rows-smaller : goal.rows-smaller
rows-smaller c =
    let old = c.rows.window in
    let new = c.next.new.self in
    let given = subst (λ (o : Option PlacedRow). GivesNext c.args.end old.fed old.passed (Ok o)) c.in-Some.is c.in_ok-row.ensures.gives in
    let moved = subst (λ (o : Option PlacedRow). ReadsOn old (Ok o) new) c.in-Some.is c.in_ok-row.ensures.goes_on in
    let there = row_within c.args.end old.fed old.passed c.in-Some.row given in
    let fed : length new.fed ≡ length old.fed = ap (λ (w : Window). length w.fed) moved in
    let passed : new.passed ≡ c.in-Some.row.end = ap (λ (w : Window). w.passed) moved in
    let less : length new.fed - new.passed < length old.fed - old.passed = omega (arith, fed, passed, there.0, there.1, there.2) in less

pub rows-preserved : goal.rows-preserved
rows-preserved c =
    let old = c.rows.window in
    let new = c.next.new.self in
    let text = c.args.window.now.fed in
    let given = subst (λ (o : Option PlacedRow). GivesNext c.args.end old.fed old.passed (Ok o)) c.in-Some.is c.in_ok-row.ensures.gives in
    let moved = subst (λ (o : Option PlacedRow). ReadsOn old (Ok o) new) c.in-Some.is c.in_ok-row.ensures.goes_on in
    let stands = subst (λ (t : List ℕ). RowsStand c.args.end t old.passed (c.in-Some.row ∷ []) c.in-Some.row.end) c.rows.invariant.0 given in (
      ap (λ (w : Window). w.fed) moved ∙ c.rows.invariant.0,
      subst (λ (n : ℕ). AddsRows c.args.end text c.args.window.now.passed c.args.ready.now.items c.push_back_reserved.new.self.items n) (sym (ap (λ (w : Window). w.passed) moved))
          (adds_more c.args.end text c.args.window.now.passed old.passed c.in-Some.row.end c.args.ready.now.items c.rows.ready.items c.push_back_reserved.new.self.items c.in-Some.row
          c.rows.invariant.1 (c.push_back_reserved.ensures.items ∙ ap (λ (t : List PlacedRow). t ++ c.in-Some.row ∷ []) c.in_ok-reserve.ensures.items) stands),
    )
