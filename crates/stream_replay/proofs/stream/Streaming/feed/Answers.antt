use Rattle.std.proofs.Common.{◌++◌, Option, sym, subst}
use Rattle.std.proofs.lemmas.Result.{on_ok_weaker}
use Rattle.stream_replay.specs.declared.fault.ReplayFault.{ReplayFault}
use Rattle.stream_replay.specs.Streaming.{HasMet}
use Rattle.stream_replay.proofs.Fed.{fed_bounded, fed_stopped}
use Rattle.stream_replay.proofs.stream.Streaming.feed.Goals as goal

pub returns-in-Err-clause-fed : goal.returns-in-Err-clause-fed
returns-in-Err-clause-fed c =
    on_ok_weaker c.stop.result
    (λ is text fed.
    subst (λ (f : Option ReplayFault). HasMet f (text ++ c.args.piece.now) c.stop.new.self) (sym is)
    (fed_stopped text c.args.piece.now c.args.self.now c.push.new.self c.in_default.not-Some c.in_ok-push.ensures.ok fed c.in-Err.told c.in-Err.ensures.fault))
    c.stop.ensures.fault

pub returns-in-Ok-clause-memory : goal.returns-in-Ok-clause-memory
returns-in-Ok-clause-memory c = λ text fed none.
    let new = c.advance.new.self in
    fed_bounded text c.args.piece.now c.args.self.now c.push.new.self c.in_default.not-Some c.in_ok-push.ensures.ok fed new.progress new.window.fed new.window.passed c.in-Ok.ensures.ok
