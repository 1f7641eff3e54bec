use Rattle.std.proofs.Common.{rules, ◌≡◌, [], ◌∷◌, Ok, refl, ap}
use Rattle.rpc_answers.specs.declared.answer.Answer.{Answer}
use Rattle.rpc_answers.specs.declared.answer.Answer.TheVariants as answer
use Rattle.catch_up.specs.Ends as ends
use Rattle.catch_up.specs.Runs as runs
use Rattle.catch_up.proofs.catching_up.take_answer.Goals as goal

pub returns-in-Err-clause-err : goal.returns-in-Err-clause-err
returns-in-Err-clause-err g c =
    let text : c.args.answer ≡ answer.Patch c.as_slice.result.now = search rules in
    runs.refused c.as_slice.result.now c.in-Err.refusal (ap (λ (a : Answer). Ok a ∷ []) text) c.in-Err.ensures.takes refl

pub returns-in-NoSource-clause-err : goal.returns-in-NoSource-clause-err
returns-in-NoSource-clause-err g c = runs.answered c.args.answer refl (ends.no_source c.in-NoSource.is refl) refl

pub returns-in-NoPatch-clause-err : goal.returns-in-NoPatch-clause-err
returns-in-NoPatch-clause-err g c = runs.answered c.args.answer refl (ends.no_patch c.in-NoPatch.version c.in-NoPatch.is refl) refl

pub returns-in_default-clause-err : goal.returns-in_default-clause-err
returns-in_default-clause-err g c = runs.answered c.args.answer refl (ends.refused (search rules) c.refused.ensures) refl
