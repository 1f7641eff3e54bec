-- A log is asked behind a look-up of a name.
use Rattle.std.proofs.Common.{◌≡◌, ⊎_elim, ℕ, List, [], ◌∷◌, refl, sym, subst, Option, Some, None, Ok, Err}
use Rattle.chain_core.specs.Replies.{LogCall}
use Rattle.log_base.specs.declared.source_info.SourceInfo.{SourceInfo}
use Rattle.registry_core.specs.Replies.{RegistryReply, resolve, found, answered, changed, listed}
use Rattle.rpc_answers.specs.declared.answer.Answer.{Answer}
use Rattle.rpc_calls.specs.Calls.{call_of}
use Rattle.rpc_calls.specs.Outcomes.{CallOutcome}
use Rattle.http_session.specs.Output.{Exchange}
use Rattle.http_session.specs.declared.answerer.Said.{Said}
use Rattle.turn_cell.specs.Turns.{AllOf}
use Rattle.shared_registry.specs.Lookups.{RegistryLookup}
use Rattle.delta_session.specs.declared.logs.SlotCall.{SlotCall}
use Rattle.delta_session.specs.declared.logs.SlotCall.TheVariants.{Describe, Version, FetchVersion, FetchId, Append, AppendRun}
use Rattle.delta_session.specs.Answered.{ByLog, ByText, BySlot, BehindLookup, ComesTo, IsSaidTo}
use Rattle.delta_session.specs.Asking.{Asking, asks_nobody, asks_registry, asks_log, asking_of}
use Rattle.delta_session.specs.Sessions.{AreSaid}
use Rattle.delta_session.specs.Steps.{Step, of_registry}
use Rattle.hall_deployment.specs.Laws.{AskByName}

none_asked : (steps : List Step) → steps ≡ [] → AskByName steps
none_asked steps none = subst AskByName (sym none) tt

module _ (name : List ℕ) (made : RegistryLookup) (call_is : made.call ≡ resolve name) where
  alone : (rest : List Step) → rest ≡ [] → AskByName (of_registry made ∷ rest)
  alone rest none = subst (λ (steps : List Step). AskByName (of_registry made ∷ steps)) (sym none) tt

  module _ (source : SourceInfo) (reply_is : made.reply ≡ Some (found (Some source))) (rest : List Step) (said : Said) where
    by_log : (call : LogCall) → ByLog source.slot call rest said → AskByName (of_registry made ∷ rest)
    by_log call by = subst (λ (steps : List Step). AskByName (of_registry made ∷ steps)) (sym by.2) (name, source, call_is, reply_is, refl)

    by_text : {A F : Type 0} (IsIt : A → Type 0) (call : A → LogCall) (Has : F → Type 0) (answer : F → Answer) → ByText IsIt call Has answer source.slot rest said → AskByName (of_registry made ∷ rest)
    by_text {A} {F} IsIt call Has answer by = ⊎_elim
        (λ (it : (it : A) × IsIt it × ByLog source.slot (call it) rest said). by_log (call it.0) it.2)
        (⊎_elim (λ it. alone rest it.2) (λ it. alone rest it.0)) by

    by_slot : (call : SlotCall) → BySlot call source.slot rest said → AskByName (of_registry made ∷ rest)
    by_slot Describe by = by_log _ by
    by_slot Version by = by_log _ by
    by_slot (FetchVersion place) by = by_log _ by
    by_slot (FetchId id) by = by_log _ by
    by_slot (Append text) by = by_text _ _ _ _ by
    by_slot (AppendRun text) by = by_text _ _ _ _ by

  behind : (call : SlotCall) (reply : Option RegistryReply) → made.reply ≡ reply → (rest : List Step) (said : Said) → BehindLookup (BySlot call) reply rest said → AskByName (of_registry made ∷ rest)
  behind call (Some (found (Some source))) is rest said by = by_slot source is rest said call by
  behind call (Some (found None)) is rest said by = alone rest by.0
  behind call (Some (answered it)) is rest said by = absurd by
  behind call (Some (changed it)) is rest said by = absurd by
  behind call (Some (listed it)) is rest said by = absurd by
  behind call None is rest said by = alone rest by.0

comes_to : (asking : Asking) (steps : List Step) (said : Said) → ComesTo asking steps said → AskByName steps
comes_to (asks_nobody answer) steps said by = none_asked steps by.0
comes_to (asks_registry call) steps said by = subst AskByName (sym by.2) tt
comes_to (asks_log name call) steps said by = subst AskByName (sym by.3) (behind name by.0 by.1 call by.0.reply refl by.2 said by.4)

said_to : (dice : ℕ) (outcome : CallOutcome) (steps : List Step) (said : Said) (next : ℕ) → IsSaidTo dice outcome steps said next → AskByName steps
said_to dice (Err refusal) steps said next is = none_asked steps is.0
said_to dice (Ok call) steps said next is = ⊎_elim (λ it. comes_to (asking_of dice call) steps said it.0) (λ it. none_asked steps it.0) is

pub asked_by_name : (dice last : ℕ) (exchanges : List Exchange) (steps : List (List Step)) → AreSaid dice exchanges steps last → AllOf AskByName steps
asked_by_name dice last [] [] are = tt
asked_by_name dice last [] (one ∷ more) are = absurd are
asked_by_name dice last (e ∷ exchanges) [] are = absurd are
asked_by_name dice last (e ∷ exchanges) (one ∷ more) are = (said_to dice (call_of e.request) one e.said are.0 are.1, asked_by_name are.0 last exchanges more are.2)
