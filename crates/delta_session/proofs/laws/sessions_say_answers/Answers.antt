use Rattle.delta_session.proofs.OwnTexts.{memory_said, refusal_said}
use Rattle.delta_session.proofs.laws.sessions_say_answers.Goals as goal

pub returns : goal.returns
returns c = record { memory = memory_said; refusals = refusal_said }
