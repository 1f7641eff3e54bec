use Rattle.std.proofs.Common.{List, ◌++◌, ℕ, sym, ap, subst, ◌∙◌, append_assoc, append-nil}
use Rattle.std.specs.Io.KnownBytes.{Appends}
use Rattle.std.proofs.KnownBytes.{Appends-trans}
use Rattle.std.proofs.lemmas.Result.{on_ok_weaker}
use Rattle.sink_writing.specs.Writing.{AppendsFront}
use Rattle.sink_writing.proofs.room.Room.put.Goals as goal

pub returns-in_err-write_all-clause-front : goal.returns-in_err-write_all-clause-front
returns-in_err-write_all-clause-front g c =
    let p = subst (AppendsFront (g.K.Sink.written c.args.out.now) (g.K.Sink.written c.write_all.new.out)) (c.as_slice.ensures.value ∙ c.self.view_is) c.in_err-write_all.ensures.front in
    (p.0, p.1 ++ c.args.text.now, ap (λ (l : List ℕ). l ++ c.args.text.now) p.2 ∙ append_assoc p.0 p.1 c.args.text.now, p.3)

pub returns-clause-put : goal.returns-clause-put
returns-clause-put g c =
    let first = subst (Appends (g.K.Sink.written c.args.out.now) (g.K.Sink.written c.write_all.new.out)) (c.as_slice.ensures.value ∙ c.self.view_is) c.in_ok-write_all.ensures.whole in
    on_ok_weaker c.write_all-2.result
    (λ done. (
      c.args.self.now ++ c.args.text.now,
      sym (append-nil (c.args.self.now ++ c.args.text.now)) ∙ ap (λ (l : List ℕ). (c.args.self.now ++ c.args.text.now) ++ l) (sym c.clear.ensures.items),
      Appends-trans (g.K.Sink.written c.args.out.now) (g.K.Sink.written c.write_all.new.out) (g.K.Sink.written c.write_all-2.new.out) c.args.self.now c.args.text.now first done,
    ))
    c.write_all-2.ensures.whole

pub returns-clause-front : goal.returns-clause-front
returns-clause-front g c =
    let first = subst (Appends (g.K.Sink.written c.args.out.now) (g.K.Sink.written c.write_all.new.out)) (c.as_slice.ensures.value ∙ c.self.view_is) c.in_ok-write_all.ensures.whole in
    let p = c.write_all-2.ensures.front in (
      c.args.self.now ++ p.0,
      p.1,
      ap (λ (l : List ℕ). c.args.self.now ++ l) p.2 ∙ sym (append_assoc c.args.self.now p.0 p.1),
      Appends-trans (g.K.Sink.written c.args.out.now) (g.K.Sink.written c.write_all.new.out) (g.K.Sink.written c.write_all-2.new.out) c.args.self.now p.0 first p.3,
    )
