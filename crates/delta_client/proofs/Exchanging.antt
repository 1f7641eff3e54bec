-- What calls over a line come to, as connections.
use Rattle.std.proofs.Common.{◌≡◌, inl, inr, ⊎_elim, ℕ, Bool, true, false, List, [], ◌∷◌, ◌++◌, Option, None, Some, Ok, Err, refl, sym, ◌∙◌, ap, subst}
use Rattle.std.specs.Prelude.{IsSome, IsNone, MatchBool}
use Rattle.delta_base.specs.Memory.{CountsCall}
use Rattle.http_heads.specs.declared.message.RawReply.{RawReply}
use Rattle.rpc_answers.specs.declared.answer.Answer.{Answer}
use Rattle.rpc_calls.specs.declared.call.Call.{Call}
use Rattle.delta_client.specs.Lines.{Connection, GoesOver, IsHungUp, IsOpen, Over, Links, behind_reply, links_in}
use Rattle.delta_client.specs.declared.fault.AskFault.{AskFault}
use Rattle.delta_client.specs.declared.line.Open.{Open}
use Rattle.delta_client.specs.Exchanges.{WasSaid, DialView, standing_links, stands_then, links_then, TriesFor, IsAnswered, Exchanged, AsksAll}

module _ {L : Type 0} (left sent : L → Option (List ℕ)) (address : List ℕ) where
  -- behind a reply
  settled : (closes : Bool) (over : Connection L) (link : L) (reply : RawReply) (made after : Links L) (line : Option (Open L))
      → MatchBool closes (IsHungUp link made after line) ((after ≡ made) × IsOpen left (Some (behind_reply over link reply)) line)
      → IsOpen left (stands_then closes (behind_reply over link reply)) line × (after ≡ links_then closes link made)
  settled true over link reply made after line is = (subst (λ (o : Option (Open L)). IsOpen left None o) (sym is.1) tt, is.0)
  settled false over link reply made after line is = (is.1, is.0)

  tries_for : (standing : Option (Connection L)) (talk : Option (Open L)) → IsOpen left standing talk → (before after : ℕ) → (IsSome talk → after ≡ before) → (IsNone talk → CountsCall before after)
      → TriesFor standing before after
  tries_for None None is before after kept tried = tried refl
  tries_for (Some standing) (Some talk) is before after kept tried = kept refl
  tries_for None (Some talk) is before after kept tried = absurd is
  tries_for (Some standing) None is before after kept tried = absurd is

  same_links : (standing : Option (Connection L)) (talk : Option (Open L)) → IsOpen left standing talk → links_in talk ≡ standing_links standing
  same_links None None is = refl
  same_links (Some standing) (Some talk) is = ap (λ (link : L). link ∷ []) is.0
  same_links None (Some talk) is = absurd is
  same_links (Some standing) None is = absurd is

  -- a call that was answered
  abbrev AnsweredBy : Call → Answer → Option (Connection L) → Links L → Links L → Option (Open L) → Type 0
  AnsweredBy call a standing before after line =
      (over : Connection L) × (made : Links L) × (link : L) × (reply : RawReply)
      × GoesOver address standing before over made × IsAnswered left sent address call a over link reply
      × IsOpen left (stands_then reply.close (behind_reply over link reply)) line × (after ≡ links_then reply.close link made)

  answered : (call : Call) (a : Answer) (standing : Option (Connection L)) (before after : Links L) (line : Option (Open L))
      → Over left sent address call standing before after line (Ok a) → AnsweredBy call a standing before after line
  answered call a standing before after line (inl went) =
      let it = went.4 in
      let reply : RawReply = it.1 in
      let then = settled reply.close went.0 went.2 reply went.1 after line it.7 in
      (went.0, went.1, went.2, reply, went.3, record { read = it.0; consumed = it.2; begins = it.3; prints = it.4; takes = it.5; whole = it.6 }, then.0, then.1)
  answered call a standing before after line (inr none) = absurd (⊎_elim (λ same. cc) (λ same. cc) none.3)

  none_open : (call : Call) (fault : AskFault) (standing : Option (Connection L)) (before after : Links L) (line : Option (Open L))
      → Over left sent address call standing before after line (Err fault) → line ≡ None
  none_open call fault standing before after line (inl went) = went.4.5.1
  none_open call fault standing before after line (inr none) = none.2

  -- calls over what is open come to these exchanges, where what is open at the end is hung up
  pub exchanged : (calls : List Call) (said : List WasSaid) (standing : Option (Connection L)) (talk line : Option (Open L)) (before end after : DialView L) → IsOpen left standing talk
      → AsksAll left sent address calls said talk before end line → after.links ≡ record end.links { back = end.links.back ++ links_in line } → after.tries ≡ end.tries
      → Exchanged left sent address calls said standing before after
  exchanged [] [] standing talk line before end after is asks hung tries =
      let links : links_in line ≡ standing_links standing = ap (λ (o : Option (Open L)). links_in o) asks.1 ∙ same_links standing talk is in (
        hung ∙ (ap (λ (net : DialView L). record net.links { back = net.links.back ++ links_in line }) asks.0
            ∙ ap (λ (links : List L). record before.links { back = before.links.back ++ links }) links),
        tries ∙ ap (λ (net : DialView L). net.tries) asks.0,
      )
  exchanged (call ∷ calls) (Ok a ∷ said) standing talk line before end after is asks hung tries =
      let one = asks.2 in
      let by = answered call a standing before.links asks.0.links asks.1 (one.over standing is) in
      let tried = tries_for standing talk is before.tries asks.0.tries one.kept one.tried in
      let reply : RawReply = by.3 in
      (by.0, by.1, by.2, reply, asks.0, by.4, tried, by.5, by.7, exchanged calls said (stands_then reply.close (behind_reply by.0 by.2 reply)) asks.1 line asks.0 end after by.6 asks.3 hung tries)
  exchanged (call ∷ calls) (Err fault ∷ said) standing talk line before end after is asks hung tries =
      let one = asks.2 in
      let over = one.over standing is in
      let none : asks.1 ≡ None = none_open call fault standing before.links asks.0.links asks.1 over in
      let tried = tries_for standing talk is before.tries asks.0.tries one.kept one.tried in
      let over_none = subst (λ (o : Option (Open L)). Over left sent address call standing before.links asks.0.links o (Err fault)) none over in
      let stands : IsOpen left None asks.1 = subst (λ (o : Option (Open L)). IsOpen left None o) (sym none) tt in
      (asks.0, over_none, tried, exchanged calls said None asks.1 line asks.0 end after stands asks.3 hung tries)
  exchanged [] (one ∷ said) standing talk line before end after is asks hung tries = absurd asks
  exchanged (call ∷ calls) [] standing talk line before end after is asks hung tries = absurd asks
