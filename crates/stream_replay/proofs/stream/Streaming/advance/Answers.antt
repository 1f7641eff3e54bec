use Rattle.std.proofs.Common.{◌≡◌, ℕ, ◌-◌, ◌<◌, List, [], ◌∷◌, Some, length, refl, sym, ap, subst, ◌∙◌, arith}
use Rattle.std.proofs.lemmas.Result.{err_from_is_err_and}
use Rattle.patch_reader.specs.Rows.{RowsStand, StopsRows}
use Rattle.patch_reader.specs.Window.{Window}
use Rattle.stream_replay.specs.Streaming.{IsToldEnd}
use Rattle.stream_replay.proofs.Streams.{next_passed, streamed_at}
use Rattle.stream_replay.proofs.stream.Streaming.advance.Goals as goal

pub take_row-requires-clause-room : goal.take_row-requires-clause-room
take_row-requires-clause-room c =
    let row = c.in-Ok-Some in let next = next_passed c.args.end c.rows.self.window c.next.new.self row.field-0 row.row row.field-0-is row.ensures.gives row.ensures.goes_on in
    omega (arith, c.rows.invariant.few, next.low, next.further, next.within, c.requires.room, ap length c.rows.invariant.fed)

pub take_row-requires-clause-high : goal.take_row-requires-clause-high
take_row-requires-clause-high c =
    let row = c.in-Ok-Some in let next = next_passed c.args.end c.rows.self.window c.next.new.self row.field-0 row.row row.field-0-is row.ensures.gives row.ensures.goes_on in
    omega (arith, next.further, next.within, ap length next.fed)

pub returns-in_err-take_row-in-Ok-Some-clause-fault : goal.returns-in_err-take_row-in-Ok-Some-clause-fault
returns-in_err-take_row-in-Ok-Some-clause-fault c =
    let p = err_from_is_err_and c.from_residual.result c.from_residual.ensures.1 in
    let old = c.rows.self.window in let new = c.next.new.self in let end = c.args.end in let taken = c.in_err-take_row-in-Ok-Some in
    let row = c.in-Ok-Some in let next = next_passed end old new row.field-0 row.row row.field-0-is row.ensures.gives row.ensures.goes_on in
    rw (p.1, p.2)
    (λ read.
    subst (λ (t : List ℕ). IsToldEnd end t taken.field-0.0) (next.fed ∙ c.rows.invariant.fed)
    (taken.ensures.fault end old.passed (subst (λ (t : List ℕ). RowsStand end t old.passed (row.row ∷ []) row.row.end) (sym next.fed) next.stands)
    (streamed_at end old.fed new.fed old.passed old.passed c.rows.self.progress next.fed refl (c.rows.invariant.read read))))

pub break_off-requires-clause-there : goal.break_off-requires-clause-there
break_off-requires-clause-there c =
    let old = c.rows.self.window in
    (c.args.end, old.passed, subst (λ (w : Window). StopsRows c.args.end w.fed old.passed (Some c.in-Err.fault)) (sym c.in-Err.ensures.goes_on) c.in-Err.ensures.gives)

pub take_found_rows-requires-clause-few : goal.take_found_rows-requires-clause-few
take_found_rows-requires-clause-few c =
    let row = c.in-Ok-Some in let next = next_passed c.args.end c.rows.self.window c.next.new.self row.field-0 row.row row.field-0-is row.ensures.gives row.ensures.goes_on in
    let taken = c.in_ok-take_row-in-Ok-Some.ensures in
    omega (arith, c.rows.invariant.few, taken.version, next.low, next.further, next.passed, ap (λ (w : Window). w.passed) taken.window)

pub rows-smaller : goal.rows-smaller
rows-smaller c =
    let old = c.rows.self.window in let now = c.take_found_rows.new.self.window in
    let row = c.in-Ok-Some in let next = next_passed c.args.end old c.next.new.self row.field-0 row.row row.field-0-is row.ensures.gives row.ensures.goes_on in
    let same = c.in_ok-take_row-in-Ok-Some.ensures.window in let found = c.in_ok-take_found_rows.ensures in
    let passed = ap (λ (w : Window). w.passed) same ∙ next.passed in
    let fed = ap (λ (w : Window). length w.fed) same ∙ ap length next.fed in
    let less : length now.fed - now.passed < length old.fed - old.passed = omega (arith, next.low, next.further, next.within, passed, fed, ap length found.fed, found.further) in less

pub returns-in-Err-clause-fault : goal.returns-in-Err-clause-fault
returns-in-Err-clause-fault c = λ read.
    let old = c.rows.self.window in let new = c.next.new.self in let end = c.args.end in
    let fed : new.fed ≡ old.fed = ap (λ (w : Window). w.fed) c.in-Err.ensures.goes_on in
    let passed : new.passed ≡ old.passed = ap (λ (w : Window). w.passed) c.in-Err.ensures.goes_on in
    subst (λ (t : List ℕ). IsToldEnd end t c.break_off.result) (fed ∙ c.rows.invariant.fed)
    (c.break_off.ensures end
    (subst (λ (w : Window). StopsRows end w.fed w.passed (Some c.in-Err.fault)) (sym c.in-Err.ensures.goes_on) c.in-Err.ensures.gives)
    (streamed_at end old.fed new.fed old.passed new.passed c.rows.self.progress fed passed (c.rows.invariant.read read)))
