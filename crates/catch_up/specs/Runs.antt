-- A run of catching up: what was said, what the replica made of it, and why it ended.
use Rattle.std.specs.Prelude.{◌≡◌, ℕ, ◌+◌, ◌<◌, ◌≤◌, List, [], ◌∷◌, ◌++◌, map}
use Rattle.std.specs.Prelude.{Option, Result, Ok, Err}
use Rattle.delta_base.specs.declared.id.Id.{Id}
use Rattle.delta_client.specs.declared.fault.AskFault.{AskFault}
use Rattle.delta_client.specs.Exchanges.{WasSaid}
use Rattle.rpc_answers.specs.declared.answer.Answer.{Answer}
use Rattle.rpc_answers.specs.declared.answer.Answer.TheVariants as answer
use Rattle.rpc_calls.specs.declared.call.Call.{Call}
use Rattle.rpc_calls.specs.declared.call.Call.TheVariants as calls
use Rattle.catch_up.specs.declared.end.RunEnd.{RunEnd}
use Rattle.catch_up.specs.declared.end.RunEnd.TheVariants.{CaughtUp, OutOfMemory, Refused}
use Rattle.catch_up.specs.Ends.{LogEnds, FetchRefuses, Compares, GoesBefore, end_of_fault}

-- a text that was taken: as that of which version, and up to which version there were patches then
pub record TakenText : Type 0 where
  pub version : ℕ
  pub text : List ℕ
  pub reached : ℕ

-- What was said to the log's call, what the replica had shown before, the texts that it took, and
-- what was said to the fetch behind them, where there was one.
pub record Run : Type 0 where
  pub log : List WasSaid
  pub mine : ℕ
  pub have : Option Id
  pub steps : List TakenText
  pub last : List WasSaid

abbrev pub step_texts : List TakenText → List (List ℕ)
step_texts steps = map (λ step. step.text) steps

-- texts of patches, as answers
abbrev pub texts_said : List (List ℕ) → List WasSaid
texts_said texts = map (λ text. Ok (answer.Patch text)) texts

-- all that was said
abbrev pub said_in : Run → List WasSaid
said_in run = run.log ++ (texts_said (step_texts run.steps) ++ run.last)

-- a fetch for each text that was taken, and one of the version behind for what was said last
abbrev pub fetches_in : List ℕ → ℕ → List TakenText → List WasSaid → List Call
fetches_in name from [] last = map (λ one. calls.FetchVersion name (from + 1)) last
fetches_in name from (step ∷ steps) last =
    calls.FetchVersion name step.version ∷ fetches_in name step.reached steps last

-- the calls: one for the log, and then the fetches
abbrev pub calls_in : List ℕ → Run → List Call
calls_in name run =
    map (λ one. calls.Log name) run.log ++ fetches_in name run.mine run.steps run.last

module _ {S E : Type 0} (takes : S → ℕ → List ℕ → Result ℕ E → S → Type 0) where
  -- While the replica was behind the peer's log, each text was fetched as that of the version
  -- behind its own, and taken.
  abbrev pub TakesAll : ℕ → ℕ → S → List TakenText → ℕ → S → Type 0
  TakesAll theirs from before [] reached after = (reached ≡ from) × (after ≡ before)
  TakesAll theirs from before (step ∷ steps) reached after =
      (between : S) × (from < theirs) × (step.version ≡ from + 1)
      × takes before step.version step.text (Ok step.reached) between
      × TakesAll theirs step.reached between steps reached after

  -- how the fetch of a version ends it, or that no memory was found for the call
  pub data FetchEnds (version : ℕ) (before : S) (said : List WasSaid) (end : RunEnd E) (after : S)
      : Type 0 where
    refused : (text : List ℕ) (refusal : E) → said ≡ Ok (answer.Patch text) ∷ []
        → takes before version text (Err refusal) after → end ≡ Refused refusal
        → FetchEnds version before said end after
    answered : (a : Answer) → said ≡ Ok a ∷ [] → FetchRefuses version a end → after ≡ before
        → FetchEnds version before said end after
    faulty : (fault : AskFault) → said ≡ Err fault ∷ [] → end ≡ end_of_fault fault
        → after ≡ before → FetchEnds version before said end after
    not_asked : said ≡ [] → end ≡ OutOfMemory → after ≡ before
        → FetchEnds version before said end after

  -- how it ends to fetch the versions behind one up to that of the peer's log: a fetch ended it, or
  -- none was left
  pub data RestIs (theirs from : ℕ) (before : S) (steps : List TakenText) (last : List WasSaid)
      (end : RunEnd E) (after : S) : Type 0 where
    stopped : (reached : ℕ) (between : S) → TakesAll theirs from before steps reached between
        → reached < theirs → FetchEnds (reached + 1) between last end after
        → RestIs theirs from before steps last end after
    caught_up : (reached : ℕ) → TakesAll theirs from before steps reached after
        → theirs ≤ reached → last ≡ [] → end ≡ CaughtUp theirs
        → RestIs theirs from before steps last end after

  module _ (shows : S → ℕ → Option Id → S → Type 0) where
    -- The replica showed what it had, and then the peer was asked: the log's call told no log; or
    -- one that the replica didn't go before; or it went before it, and followed.
    pub data IsRunTo (before : S) (run : Run) (end : RunEnd E) (after : S) : Type 0 where
      unanswered : shows before run.mine run.have after → run.steps ≡ [] → run.last ≡ []
          → LogEnds run.log end → IsRunTo before run end after
      compared : (theirs : ℕ) (head : Option Id) → shows before run.mine run.have after
          → run.log ≡ Ok (answer.Info theirs head) ∷ [] → run.steps ≡ [] → run.last ≡ []
          → Compares run.mine run.have theirs head end → IsRunTo before run end after
      followed : (theirs : ℕ) (head : Option Id) (between : S)
          → shows before run.mine run.have between → run.log ≡ Ok (answer.Info theirs head) ∷ []
          → GoesBefore run.mine run.have theirs head
          → RestIs theirs run.mine between run.steps run.last end after
          → IsRunTo before run end after
