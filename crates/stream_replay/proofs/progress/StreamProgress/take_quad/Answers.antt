use Rattle.std.proofs.Common.{refl, sym, ◌∙◌}
use Rattle.std.proofs.lemmas.Result.{on_ok_weaker}
use Rattle.stream_replay.proofs.Held.{both_ok, goes_held, goes_unheld, quad_grows}
use Rattle.stream_replay.proofs.Streams.{streamed_quad}
use Rattle.stream_replay.proofs.progress.StreamProgress.take_quad.Goals as goal

pub returns-then-needs_none-clause-ok : goal.returns-then-needs_none-clause-ok
returns-then-needs_none-clause-ok c = λ end text stop quad is a.
    streamed_quad end text c.args.at stop c.args.self.now _ c.args.adds quad a c.take_quad.ensures.rows c.take_quad.ensures.from refl
    (goes_unheld c.args.self.now _ _ c.args.at refl refl (sym c.needs_none.ensures ∙ c.if-needs_none.true))

pub returns-clause-ok : goal.returns-clause-ok
returns-clause-ok c =
    on_ok_weaker c.put.result
    (λ put end text stop quad is a.
    streamed_quad end text c.args.at stop c.args.self.now _ c.args.adds quad a c.take_quad.ensures.rows c.take_quad.ensures.from refl
    (goes_held c.args.self.now _ _ c.args.at refl (sym c.needs_none.ensures ∙ c.if-needs_none.false) (put.0 quad is) (quad_grows c.args.adds quad c.args.bytes.now _ _ is put.1)))
    (both_ok c.put.result _ _ c.put.ensures.edits c.put.ensures.grows)
