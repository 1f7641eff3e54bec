use Rattle.std.proofs.Common.{refl}
use Rattle.rpc_answers.proofs.FoundLemmas.{other-name}
use Rattle.rpc_answers.proofs.print.status_beside.Goals as goal

pub returns-in_default : goal.returns-in_default
returns-in_default c =
    rw (
      other-name _ _ c.in_default.not-BadHead,
      other-name _ _ c.in_default.not-TooManyFields,
      other-name _ _ c.in_default.not-HeadTooLong,
      other-name _ _ c.in_default.not-BadHost,
      other-name _ _ c.in_default.not-TwoLengths,
      other-name _ _ c.in_default.not-BadLength,
      other-name _ _ c.in_default.not-BodyTooLong,
      other-name _ _ c.in_default.not-BadChunk,
    ) refl
