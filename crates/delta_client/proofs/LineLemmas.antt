-- What one call makes of the connection that it goes over.
use Rattle.std.proofs.Common.{◌≡◌, inl, ℕ, Bool, true, false, List, [], ◌∷◌, ◌++◌, Option, None, Some, Result, Ok, Err, refl, sym, ◌∙◌, subst}
use Rattle.std.specs.Prelude.{◌≢◌, IsSome, MatchBool}
use Rattle.std.specs.Io.KnownBytes.{Appends, Consumes}
use Rattle.std.proofs.KnownBytes.{Consumes-nil, Consumes-trans}
use Rattle.http_text.specs.Taken.{GaveReplies}
use Rattle.http_heads.specs.declared.message.RawReply.{RawReply}
use Rattle.http_text.specs.declared.reader.MessageReader.{MessageReader}
use Rattle.rpc_answers.specs.declared.answer.Answer.{Answer}
use Rattle.rpc_calls.specs.declared.call.Call.{Call}
use Rattle.sink_writing.specs.Writing.{AppendsFront}
use Rattle.delta_client.specs.declared.asking.Asked.{Asked}
use Rattle.delta_client.specs.declared.fault.AskFault.{AskFault}
use Rattle.delta_client.specs.declared.fault.AskFault.TheVariants as ask
use Rattle.delta_client.specs.declared.line.Open.{Open}
use Rattle.delta_client.specs.Asking.{AnswerIs, SendsFirst, SentFor, call_text}
use Rattle.delta_client.specs.Lines.{Connection, Links, told_of, fresh, behind_reply, IsHungUp, ConnectionStands, IsOpen, IsBegun, IsBehindReply, AnswersOver, Over}

-- what asking says of the bytes of a connection
abbrev pub Asks : Call → Option (List ℕ) → Option (List ℕ) → MessageReader → MessageReader → Result Asked AskFault → Type 0
Asks call before after old new result =
    (given : List ℕ) (taken : List RawReply) → GaveReplies given taken old → (read : List ℕ) × Consumes before after read × AnswerIs call (given ++ read) taken after new result

not_some : false ≡ true → ⊥
not_some same = cc

-- what was sent, by the fault
sent_for : (old new : Option (List ℕ)) (text : List ℕ) (fault : AskFault) → (fault ≢ ask.LinkFault → fault ≢ ask.OutOfMemory → Appends old new text) → AppendsFront old new text → SentFor fault old new text
sent_for old new text ask.LinkFault whole front = front
sent_for old new text ask.CutShort whole front = whole (λ same. cc) (λ same. cc)
sent_for old new text (ask.NotUnderstood at) whole front = whole (λ same. cc) (λ same. cc)
sent_for old new text ask.OutOfMemory whole front = front

-- what is told of a dial, part by part
pub same_told : {L : Type 0} (to_come to_come' : List L) (addresses addresses' : List (List ℕ)) (back back' : List L) → to_come' ≡ to_come → addresses' ≡ addresses → back' ≡ back
    → told_of to_come' addresses' back' ≡ told_of to_come addresses back
same_told to_come to_come' addresses addresses' back back' a b c = cc

module _ {L : Type 0} (left : L → Option (List ℕ)) where
  -- the connection just made is open, and nothing was read of it
  pub begun : (address : List ℕ) (before made : Links L) (link : L) (rest : List L) (reader : MessageReader) → before.to_come ≡ link ∷ rest
      → made ≡ told_of rest (before.addresses ++ address ∷ []) before.back → GaveReplies [] [] reader → IsBegun left address before made (Some (record { link = link; reader = reader }))
  begun address before made link rest reader first is gave = (fresh link, (link, rest, first, refl, is), (refl, ([], Consumes-nil (left link), gave)))

module _ {L : Type 0} (left sent : L → Option (List ℕ)) (host : List ℕ) (call : Call) (over : Connection L) (talk : Open L) (link : L) (reader : MessageReader) (made after : Links L) (line : Option (Open L)) (stands : ConnectionStands left over talk) where
  consumed : (read : List ℕ) → Consumes (left talk.link) (left link) read → Consumes (left over.came) (left link) (stands.1.0 ++ read)
  consumed read is = Consumes-trans (left over.came) (left over.now) (left link) stands.1.0 read stands.1.1 (subst (λ (l : L). Consumes (left l) (left link) read) stands.0 is)

  -- there is no answer
  pub failed_over : (fault : AskFault) → Asks call (left talk.link) (left link) talk.reader reader (Err fault) → (fault ≢ ask.LinkFault → fault ≢ ask.OutOfMemory → Appends (sent talk.link) (sent link) (call_text host call))
      → AppendsFront (sent talk.link) (sent link) (call_text host call) → SendsFirst (left talk.link) (left link) (sent talk.link) (sent link) (call_text host call) → IsHungUp link made after line
      → AnswersOver left sent host call over link made after line (Err fault)
  failed_over fault asks whole front first hung =
      let heard = asks stands.1.0 over.replies stands.1.2 in (
        stands.1.0 ++ heard.0,
        consumed heard.0 heard.1,
        heard.2,
        subst (λ (l : L). SentFor fault (sent l) (sent link) (call_text host call)) stands.0 (sent_for (sent talk.link) (sent link) (call_text host call) fault whole front),
        subst (λ (l : L). SendsFirst (left l) (left link) (sent l) (sent link) (call_text host call)) stands.0 first,
        hung,
      )

  -- there is one, and the reply closes
  pub closed_over : (asked : Asked) → Asks call (left talk.link) (left link) talk.reader reader (Ok asked) → Appends (sent talk.link) (sent link) (call_text host call) → asked.close ≡ true → IsHungUp link made after line
      → AnswersOver left sent host call over link made after line (Ok asked.answer)
  closed_over asked asks whole closes hung =
      let heard = asks stands.1.0 over.replies stands.1.2 in
      let is = heard.2 in
      let settled : IsBehindReply left over link is.0 made after line =
      subst (λ (b : Bool). MatchBool b (IsHungUp link made after line) ((after ≡ made) × IsOpen left (Some (behind_reply over link is.0)) line)) (sym closes ∙ is.4) hung in
      (stands.1.0 ++ heard.0, is.0, consumed heard.0 heard.1, is.1, is.3, is.5, subst (λ (l : L). Appends (sent l) (sent link) (call_text host call)) stands.0 whole, settled)

  -- there is one, and the connection stays open
  pub kept_over : (asked : Asked) → Asks call (left talk.link) (left link) talk.reader reader (Ok asked) → Appends (sent talk.link) (sent link) (call_text host call) → asked.close ≡ false → after ≡ made
      → line ≡ Some (record { link = link; reader = reader }) → AnswersOver left sent host call over link made after line (Ok asked.answer)
  kept_over asked asks whole stays same is_line =
      let heard = asks stands.1.0 over.replies stands.1.2 in
      let is = heard.2 in
      let standing : ConnectionStands left (behind_reply over link is.0) (record { link = link; reader = reader }) = (refl, (stands.1.0 ++ heard.0, consumed heard.0 heard.1, is.2)) in
      let opened : IsOpen left (Some (behind_reply over link is.0)) line = subst (λ (o : Option (Open L)). IsOpen left (Some (behind_reply over link is.0)) o) (sym is_line) standing in
      let settled : IsBehindReply left over link is.0 made after line =
      subst (λ (b : Bool). MatchBool b (IsHungUp link made after line) ((after ≡ made) × IsOpen left (Some (behind_reply over link is.0)) line)) (sym stays ∙ is.4) (same, opened) in
      (stands.1.0 ++ heard.0, is.0, consumed heard.0 heard.1, is.1, is.3, is.5, subst (λ (l : L). Appends (sent l) (sent link) (call_text host call)) stands.0 whole, settled)

module _ {L : Type 0} (left sent : L → Option (List ℕ)) (address : List ℕ) (call : Call) (after : Links L) (line : Option (Open L)) (result : Result Answer AskFault) where
  -- what asking over an open connection says
  abbrev pub AsksOpen : Links L → Option (Open L) → Type 0
  AsksOpen made talk = (over : Connection L) → IsOpen left (Some over) talk → (link : L) × AnswersOver left sent address call over link made after line result

  pub over_standing : (before : Links L) (standing : Option (Connection L)) (talk : Option (Open L)) → IsSome talk → IsOpen left standing talk → AsksOpen before talk
      → Over left sent address call standing before after line result
  over_standing before None None some is asks = absurd (not_some some)
  over_standing before (Some over) None some is asks = absurd (not_some some)
  over_standing before None (Some talk) some is asks = absurd is
  over_standing before (Some over) (Some talk) some is asks = let it = asks over is in inl (over, before, it.0, (refl, refl), it.1)

  pub over_new : (before made : Links L) (standing : Option (Connection L)) (talk begun : Option (Open L)) → talk ≡ None → IsOpen left standing talk → IsBegun left address before made begun → AsksOpen made begun
      → Over left sent address call standing before after line result
  over_new before made None talk begun none is begins asks = let it = asks begins.0 begins.2 in inl (begins.0, made, it.0, begins.1, it.1)
  over_new before made (Some over) talk begun none is begins asks = absurd (subst (λ (o : Option (Open L)). IsOpen left (Some over) o) none is)
