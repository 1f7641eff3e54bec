-- What a check tells of a call that is refused.
use Rattle.std.specs.Prelude.{◌≡◌, ◌⊎◌, List, ℕ}
use Rattle.registry_core.specs.declared.answer.CreateAnswer.{CreateAnswer}
use Rattle.registry_core.specs.declared.answer.CreateAnswer.TheVariants.{Made, IdTaken, OutOfMemory}
use Rattle.registry_core.specs.declared.answer.ChangeAnswer.{ChangeAnswer}
use Rattle.registry_core.specs.declared.answer.ChangeAnswer.TheVariants.{Done, OutOfMemory as Wants}
use Rattle.log_base.specs.declared.source_info.SourceInfo.{SourceInfo}
use Rattle.registry_core.specs.Answers.{told, end_of_create, end_of_change}
use Rattle.registry_core.specs.Replies.{removal}

-- the reply is a refusal, and is given; or memory ran out for the name of the source that has the
-- id
abbrev pub IsRefusedCreate : CreateAnswer → CreateAnswer → Type 0
IsRefusedCreate reply answer = ((answer ≡ reply) × (end_of_create reply ≡ told))
    ⊎ ((answer ≡ OutOfMemory) × ((name : List ℕ) × (reply ≡ IdTaken name)))

-- the reply is a refusal, and is given
abbrev pub IsRefusedChange : ChangeAnswer → ChangeAnswer → Type 0
IsRefusedChange reply answer = (answer ≡ reply) × (end_of_change removal reply ≡ told)

-- what is answered before the disk is asked: a refusal; or memory ran out for the source that is
-- due
abbrev pub StopsCreate : CreateAnswer → CreateAnswer → Type 0
StopsCreate reply answer = IsRefusedCreate reply answer ⊎ ((answer ≡ OutOfMemory)
    × ((source : SourceInfo) × (reply ≡ Made source)))

abbrev pub StopsChange : ChangeAnswer → ChangeAnswer → Type 0
StopsChange reply answer = IsRefusedChange reply answer ⊎ ((answer ≡ Wants) × ((source : SourceInfo)
    × (reply ≡ Done source)))
