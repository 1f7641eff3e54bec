-- What a command asks of a server, and how it ends.
use Rattle.std.specs.Prelude.{◌≡◌, ℕ, List, [], ◌∷◌, ◌++◌, Option, None, Result, Ok, Err, take}
use Rattle.std.specs.Prelude.{length}
use Rattle.rpc_calls.specs.declared.call.Call.{Call}
use Rattle.rpc_calls.specs.declared.call.Call.TheVariants as call
use Rattle.delta_client.specs.Exchanges.{AsksAll, DialView, Exchanged, WasSaid}
use Rattle.delta_client.specs.declared.line.Open.{Open}
use Rattle.client_commands.specs.Answers.{EndsCall}
use Rattle.client_commands.specs.declared.fault.ClientFault.{ClientFault}
use Rattle.client_commands.specs.declared.fault.ClientFault.TheVariants as faults

-- the texts of both calls; where the second has none, its fault is handed on. Want of
-- memory is free
abbrev pub Joins : List ℕ → Result (List ℕ) ClientFault → Result (List ℕ) ClientFault → Type 0
Joins first second (Ok text) = (last : List ℕ) × (second ≡ Ok last) × (text ≡ first ++ last)
Joins first second (Err faults.OutOfMemory) = Unit {0}
Joins first second (Err fault) = second ≡ Err fault

-- the calls that describe a log
abbrev pub both_calls : List ℕ → List Call
both_calls name = call.Source name ∷ call.Log name ∷ []

-- How describing a log ends, by what was said to its calls: the log is asked for only where its
-- source was answered. Nothing is asked where no memory is found for the calls.
abbrev pub EndsBoth : List WasSaid → Result (List ℕ) ClientFault → Type 0
EndsBoth [] result = result ≡ Err faults.OutOfMemory
EndsBoth (one ∷ []) result =
    (fault : ClientFault) × (result ≡ Err fault) × EndsCall one (Err fault)
EndsBoth (one ∷ other ∷ []) result =
    (first : List ℕ) × (second : Result (List ℕ) ClientFault)
    × EndsCall one (Ok first) × EndsCall other second × Joins first second result
EndsBoth (one ∷ other ∷ third ∷ more) result = ⊥

module _ {L : Type 0} (left sent : L → Option (List ℕ)) (address : List ℕ) where
  -- a call goes over a connection of its own, which is hung up, and ends by what is said to it
  pub record AsksOnce (c : Call) (before after : DialView L) (result : Result (List ℕ) ClientFault)
      : Type 0 where
    pub said : WasSaid
    pub asks : Exchanged left sent address (c ∷ []) (said ∷ []) None before after
    pub ends : EndsCall said result

  -- A source is asked for, and where it was answered its log, over what the first reply left open
  -- or over a new connection; what is open then is hung up.
  pub record AsksBoth (name : List ℕ) (before after : DialView L)
      (result : Result (List ℕ) ClientFault) : Type 0 where
    pub said : List WasSaid
    pub asks : Exchanged left sent address (take (length said) (both_calls name)) said None before
        after
    pub ends : EndsBoth said result

  -- Inner: the two calls over a line, before it is ended.
  pub record AsksTwo (name : List ℕ) (talk : Option (Open L)) (before after : DialView L)
      (line : Option (Open L)) (result : Result (List ℕ) ClientFault) : Type 0 where
    pub said : List WasSaid
    pub asks : AsksAll left sent address (take (length said) (both_calls name)) said talk before
        after line
    pub ends : EndsBoth said result

  -- Inner: one call over a line.
  pub record AsksOver (c : Call) (talk : Option (Open L)) (before after : DialView L)
      (line : Option (Open L)) (result : Result (List ℕ) ClientFault) : Type 0 where
    pub said : WasSaid
    pub asks : AsksAll left sent address (c ∷ []) (said ∷ []) talk before after line
    pub ends : EndsCall said result
