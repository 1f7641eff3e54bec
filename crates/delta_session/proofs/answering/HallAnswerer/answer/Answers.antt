use Rattle.std.proofs.Common.{refl, []}
use Rattle.rpc_calls.specs.Calls.{call_of}
use Rattle.delta_session.proofs.Refused.{refused_said}
use Rattle.delta_session.proofs.answering.HallAnswerer.answer.Goals as goal

pub returns-in-Err-clause-answers : goal.returns-in-Err-clause-answers
returns-in-Err-clause-answers g c =
    let outcome = call_of c.args.request in
    ([], refl, refused_said c.args.state.now.dice outcome c.refuse.result (c.refuse.ensures.says outcome c.in-Err.ensures.fault))
