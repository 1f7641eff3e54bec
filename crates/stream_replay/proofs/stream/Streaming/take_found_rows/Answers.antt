use Rattle.std.proofs.Common.{ℕ, ◌+◌, ◌-◌, ◌<◌, [], Option, IfSome, length, ap, subst, ◌∙◌, arith}
use Rattle.patch_rows.specs.declared.cut.TextEnd.{TextEnd}
use Rattle.patch_reader.specs.Window.{Window}
use Rattle.stream_replay.specs.Streaming.{HasStreamed, IsStreamRead}
use Rattle.stream_replay.proofs.Streams.{streamed_at}
use Rattle.stream_replay.proofs.stream.Streaming.take_found_rows.Goals as goal

pub take_front-requires-clause-room : goal.take_front-requires-clause-room
take_front-requires-clause-room c =
    let begins = c.in-Some.ensures.begins in
    let gap = begins.0 [] in
    omega (arith, c.rows.invariant.few, gap.1, begins.2, c.requires.room, ap length c.rows.invariant.fed)

pub rows-smaller : goal.rows-smaller
rows-smaller c =
    let w = c.rows.self.window in let size = c.in-Some-2.size in let now = c.pass_row.new.self in
    let begins = c.in-Some.ensures.begins in
    let gap = begins.0 [] in
    let further : 0 < size = subst (λ (o : Option ℕ). IfSome o (λ n. 0 < n)) c.in-Some-2.is c.in_ok-size.ensures.further in
    let fed = ap (λ (w : Window). length w.fed) c.pass_row.ensures ∙ ap (λ (w : Window). length w.fed) c.in_ok-size.ensures.window in
    let less : length now.fed - now.passed < length w.fed - w.passed = omega (arith, fed, ap (λ (w : Window). w.passed) c.pass_row.ensures, gap.1, begins.2, further) in less

pub rows-preserved : goal.rows-preserved
rows-preserved c =
    let s = c.rows.self in let w = s.window in let place = c.in-Some.place in let size = c.in-Some-2.size in let now = c.pass_row.new.self in
    let taken = c.in_ok-size.ensures in let before = c.rows.invariant in
    let begins = c.in-Some.ensures.begins in
    let gap = begins.0 [] in
    let further : 0 < size = subst (λ (o : Option ℕ). IfSome o (λ n. 0 < n)) c.in-Some-2.is taken.further in
    let read : (end : TextEnd) → IsStreamRead end s → HasStreamed end w.fed (place + size) c.take_front.new.self.progress =
    subst (λ (o : Option ℕ). IfSome o (λ n. (end : TextEnd) → IsStreamRead end s → HasStreamed end w.fed (place + n) c.take_front.new.self.progress)) c.in-Some-2.is taken.ok in
    let fed = ap (λ (w : Window). w.fed) c.pass_row.ensures ∙ ap (λ (w : Window). w.fed) taken.window in
    let passed = ap (λ (w : Window). w.passed) c.pass_row.ensures in
    record {
      read = λ end h. streamed_at end w.fed now.fed (place + size) now.passed c.take_front.new.self.progress fed passed (read end (before.read end h));
      few = omega (arith, before.few, taken.version, passed, gap.1, further);
      further = omega (arith, before.further, passed, gap.1);
      fed = fed ∙ before.fed;
      same = taken.same ∙ before.same;
    }
