-- How an answer that isn't what a call asks for ends catching up.
use Rattle.std.specs.Prelude.{◌≡◌, ◌≢◌, ℕ, ◌<◌, ◌≤◌, List, [], ◌∷◌, Option, Result, Ok, Err}
use Rattle.delta_base.specs.declared.id.Id.{Id}
use Rattle.delta_client.specs.declared.fault.AskFault.{AskFault}
use Rattle.delta_client.specs.declared.fault.AskFault.TheVariants as ask
use Rattle.delta_client.specs.Exchanges.{WasSaid}
use Rattle.rpc_answers.specs.declared.answer.Answer.{Answer}
use Rattle.rpc_answers.specs.declared.answer.Answer.TheVariants as answer
use Rattle.rpc_answers.specs.Answers.{status_of, body_of}
use Rattle.rpc_answers.specs.Prints.{compact}
use Rattle.catch_up.specs.declared.end.RunEnd.{RunEnd}
use Rattle.catch_up.specs.declared.end.RunEnd.TheVariants.{NoSuchName, PeerBehind, HeadsDiffer}
use Rattle.catch_up.specs.declared.end.RunEnd.TheVariants.{NoPatch, PeerRefused, LinkFault}
use Rattle.catch_up.specs.declared.end.RunEnd.TheVariants.{CutShort, NotUnderstood, OutOfMemory}

-- ---- refusals

-- a refusal of the call for a log, other than that its name is unknown
pub record TellsNoLog (a : Answer) : Type 0 where
  pub refuses : status_of a ≢ 200
  pub no_source : a ≢ answer.NoSource

-- a refusal of the fetch of a patch, other than that the log's name or the version is unknown
pub record TellsNoPatch (a : Answer) : Type 0 where
  pub refuses : status_of a ≢ 200
  pub no_source : a ≢ answer.NoSource
  pub no_patch : (has : ℕ) → a ≢ answer.NoPatch has

-- what is had of this version and head goes before a log: it is no longer, and at the log's version
-- has the log's head
abbrev pub GoesBefore : ℕ → Option Id → ℕ → Option Id → Type 0
GoesBefore mine have theirs head = (mine ≤ theirs) × (mine ≡ theirs → head ≡ have)

module _ {E : Type 0} where
  -- a call without an answer, as an end
  abbrev pub end_of_fault : AskFault → RunEnd E
  end_of_fault ask.LinkFault = LinkFault
  end_of_fault ask.CutShort = CutShort
  end_of_fault (ask.NotUnderstood at) = NotUnderstood at
  end_of_fault ask.OutOfMemory = OutOfMemory

  -- how a refusal ends it; want of memory is free
  abbrev pub IsRefusal : Answer → RunEnd E → Type 0
  IsRefusal a (PeerRefused status body) = (status ≡ status_of a) × (body ≡ compact (body_of a))
  IsRefusal a OutOfMemory = Unit {0}
  IsRefusal a other = ⊥

  -- ---- the log's call

  -- how an answer to the log's call ends it
  pub data LogRefuses (a : Answer) (end : RunEnd E) : Type 0 where
    no_source : a ≡ answer.NoSource → end ≡ NoSuchName → LogRefuses a end
    refused : TellsNoLog a → IsRefusal a end → LogRefuses a end

  -- how what was said to the log's call ends it, or that no memory was found for the call
  pub data LogEnds (said : List WasSaid) (end : RunEnd E) : Type 0 where
    answered : (a : Answer) → said ≡ Ok a ∷ [] → LogRefuses a end → LogEnds said end
    faulty : (fault : AskFault) → said ≡ Err fault ∷ [] → end ≡ end_of_fault fault
        → LogEnds said end
    not_asked : said ≡ [] → end ≡ OutOfMemory → LogEnds said end

  -- what an answer to the log's call says: the log's version and head, or how it ends
  abbrev pub LogTold : Answer → Result (ℕ × Option Id) (RunEnd E) → Type 0
  LogTold a (Ok told) = a ≡ answer.Info told.0 told.1
  LogTold a (Err end) = LogRefuses a end

  -- what was said to the log's call
  abbrev pub LogSays : List WasSaid → Result (ℕ × Option Id) (RunEnd E) → Type 0
  LogSays said (Ok told) = said ≡ Ok (answer.Info told.0 told.1) ∷ []
  LogSays said (Err end) = LogEnds said end

  -- how a log of this version and head ends it that what is had doesn't go before
  abbrev pub Compares : ℕ → Option Id → ℕ → Option Id → RunEnd E → Type 0
  Compares mine have theirs head (PeerBehind version found) =
      (version ≡ mine) × (found ≡ theirs) × (theirs < mine)
  Compares mine have theirs head (HeadsDiffer version last named) =
      (version ≡ mine) × (theirs ≡ mine) × (last ≡ have) × (named ≡ head) × (head ≢ have)
  Compares mine have theirs head other = ⊥

  -- ---- a fetch

  -- how an answer to the fetch of a version ends it that is no text
  pub data FetchRefuses (version : ℕ) (a : Answer) (end : RunEnd E) : Type 0 where
    no_source : a ≡ answer.NoSource → end ≡ NoSuchName → FetchRefuses version a end
    no_patch : (has : ℕ) → a ≡ answer.NoPatch has → end ≡ NoPatch version
        → FetchRefuses version a end
    refused : TellsNoPatch a → IsRefusal a end → FetchRefuses version a end
