-- Calls one after another to one address, and what is said to them.
use Rattle.std.specs.Prelude.{◌≡◌, ℕ, Bool, List, [], ◌∷◌, ◌++◌, Option, Some}
use Rattle.std.specs.Prelude.{None, IsSome, IsNone, Result, Ok, Err, if◌then◌else◌}
use Rattle.std.specs.Io.KnownBytes.{Appends, Consumes}
use Rattle.delta_base.specs.Memory.{CountsCall}
use Rattle.http_heads.specs.declared.message.RawReply.{RawReply}
use Rattle.rpc_answers.specs.declared.answer.Answer.{Answer}
use Rattle.rpc_answers.specs.Prints.{IsPrintOf}
use Rattle.rpc_calls.specs.declared.call.Call.{Call}
use Rattle.delta_client.specs.Asking.{BeginWith, call_text}
use Rattle.delta_client.specs.Kinds.{MayAnswer}
use Rattle.delta_client.specs.Lines.{Connection, GoesOver, IsOpen, Over, Links, behind_reply}
use Rattle.delta_client.specs.Lines.{told_of}
use Rattle.delta_client.specs.declared.dial.Dial.{Ghosts}
use Rattle.delta_client.specs.declared.fault.AskFault.{AskFault}
use Rattle.delta_client.specs.declared.line.Open.{Open}

-- what is said to a call: an answer, or why there is none
abbrev pub WasSaid : Type 0
WasSaid = Result Answer AskFault

-- what a dial shows: its connections, how often one was tried for, and how often a call has failed
pub record DialView (L : Type 0) : Type 0 where
  pub links : Links L
  pub tries : ℕ
  pub faults : ℕ

abbrev pub dial_view : {N L : Type 0} → Ghosts N L → N → DialView L
dial_view dial net = record {
  links = told_of (dial.to_come net) (dial.addresses net) (dial.back net);
  tries = dial.tries net;
  faults = dial.faults net;
}

-- the link of what stands, where something does
abbrev pub standing_links : {L : Type 0} → Option (Connection L) → List L
standing_links None = []
standing_links (Some standing) = standing.now ∷ []

-- what stands is hung up
abbrev pub IsHungUpThen : {L : Type 0} → Option (Connection L) → DialView L → DialView L
    → Type 0
IsHungUpThen standing before after =
    (after.links ≡ record before.links { back = before.links.back ++ standing_links standing })
    × (after.tries ≡ before.tries)

-- a connection is tried for exactly where none stands
abbrev pub TriesFor : {L : Type 0} → Option (Connection L) → ℕ → ℕ → Type 0
TriesFor None before after = CountsCall before after
TriesFor (Some standing) before after = after ≡ before

-- behind a reply a connection stands, unless the reply closes it
abbrev pub stands_then : {L : Type 0} → Bool → Connection L → Option (Connection L)
stands_then closes connection = if closes then None else Some connection

-- where the reply closes, the connection is hung up
abbrev pub links_then : {L : Type 0} → Bool → L → Links L → Links L
links_then closes link made =
    if closes then (record made { back = made.back ++ link ∷ [] }) else made

module _ {L : Type 0} (left sent : L → Option (List ℕ)) (address : List ℕ) where
  -- a call's text was sent over a connection, whose link then is this one, and the answer is what
  -- the next reply prints, and one that the call takes
  pub record IsAnswered (call : Call) (a : Answer) (over : Connection L) (link : L)
      (reply : RawReply) : Type 0 where
    pub read : List ℕ
    pub consumed : Consumes (left over.came) (left link) read
    pub begins : BeginWith read (over.replies ++ reply ∷ [])
    pub prints : IsPrintOf reply a
    pub takes : MayAnswer call a
    pub whole : Appends (sent over.now) (sent link) (call_text address call)

  -- Calls one after another. Each goes over the connection that stands, or over the next one to
  -- come, and that stands behind it unless its reply closes. Behind a call without an answer none
  -- stands, and what stands at the end is hung up.
  abbrev pub Exchanged : List Call → List WasSaid → Option (Connection L) → DialView L
      → DialView L → Type 0
  Exchanged [] [] standing before after = IsHungUpThen standing before after
  Exchanged (call ∷ calls) (Ok a ∷ said) standing before after =
      (over : Connection L) × (made : Links L) × (link : L) × (reply : RawReply)
      × (between : DialView L)
      × GoesOver address standing before.links over made
      × TriesFor standing before.tries between.tries
      × IsAnswered call a over link reply × (between.links ≡ links_then reply.close link made)
      × Exchanged calls said (stands_then reply.close (behind_reply over link reply)) between after
  Exchanged (call ∷ calls) (Err fault ∷ said) standing before after =
      (between : DialView L)
      × Over left sent address call standing before.links between.links None
      (Err fault)
      × TriesFor standing before.tries between.tries × Exchanged calls said None between after
  Exchanged [] (one ∷ said) standing before after = ⊥
  Exchanged (call ∷ calls) [] standing before after = ⊥

  -- a call goes over what is open, or over a new connection
  pub record AsksOne (call : Call) (said : WasSaid) (talk : Option (Open L))
      (before after : DialView L) (line : Option (Open L)) : Type 0 where
    pub over : (standing : Option (Connection L)) → IsOpen left standing talk
        → Over left sent address call standing before.links after.links line
        said
    pub kept : IsSome talk → after.tries ≡ before.tries
    pub tried : IsNone talk → CountsCall before.tries after.tries

  -- each call goes over what the one before it left open, or over a new connection
  abbrev pub AsksAll : List Call → List WasSaid → Option (Open L) → DialView L → DialView L
      → Option (Open L) → Type 0
  AsksAll [] [] talk before after line = (after ≡ before) × (line ≡ talk)
  AsksAll (call ∷ calls) (one ∷ said) talk before after line =
      (between : DialView L) × (next : Option (Open L))
      × AsksOne call one talk before between next × AsksAll calls said next between after line
  AsksAll [] (one ∷ said) talk before after line = ⊥
  AsksAll (call ∷ calls) [] talk before after line = ⊥

  -- whatever was asked over what is open comes to these exchanges, where it is hung up then
  abbrev pub EndsExchanges : Option (Open L) → DialView L → DialView L → Type 0
  EndsExchanges line end after =
      (calls : List Call) (said : List WasSaid) (standing : Option (Connection L))
      (talk : Option (Open L)) (before : DialView L) → IsOpen left standing talk
      → AsksAll calls said talk before end line → Exchanged calls said standing before after
