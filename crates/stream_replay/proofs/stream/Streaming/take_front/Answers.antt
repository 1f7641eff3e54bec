use Rattle.std.proofs.Common.{ℕ, List, Option, IfSome, ◌+◌, refl, subst, ◌∙◌}
use Rattle.row_lines.specs.declared.row.WrittenRow.{WrittenRow}
use Rattle.row_lines.specs.Rows.{HasWrittenRow}
use Rattle.stream_replay.proofs.Streams.{awaits_found, front_there}
use Rattle.stream_replay.proofs.stream.Streaming.take_front.Goals as goal

pub returns-in_ok-take_quad-in-Some-2-clause-ok : goal.returns-in_ok-take_quad-in-Some-2-clause-ok
returns-in_ok-take_quad-in-Some-2-clause-ok c = λ end h.
    let s = c.args.self.now in let w = s.window in let place = c.args.place in let row = c.in-Some-2.row in let line = c.write_row.new.line.items in
    let has = subst (λ (o : Option WrittenRow). IfSome o (HasWrittenRow c.row_front-2.result.now 0 line)) c.in-Some-2.is c.in_ok-row.ensures in
    let there = subst (λ (t : List ℕ). HasWrittenRow t 0 line row) (c.row_front-2.ensures ∙ front_there w place c.requires.front) has in
    c.in_ok-take_quad-in-Some-2.ensures.ok end w.fed (place + row.end) there.0 (c.deref.ensures.value ∙ there.1.lined)
    (awaits_found w s.progress place row.end _ _ c.requires.begins there.1.row refl end h)
