-- Whoever asks over connections that answer its calls is told these answers.
use Rattle.std.proofs.Common.{◌≡◌, ◌⊎◌, inl, inr, ℕ, Bool, true, false, List, [], ◌∷◌, ◌++◌, Option, None, Some, Ok, Err, refl, sym, ◌∙◌, ap, subst}
use Rattle.std.specs.Prelude.{if◌then◌else◌}
use Rattle.std.specs.Io.KnownBytes.{Consumes, IsAtEnd}
use Rattle.std.proofs.lemmas.List.{append-nil, map-append}
use Rattle.http_heads.specs.declared.framing.FrameFault.{FrameFault}
use Rattle.http_heads.specs.declared.message.Kind.{Kind}
use Rattle.http_heads.specs.declared.message.Kind.TheVariants.{Replies}
use Rattle.http_heads.specs.declared.message.Message.{Message}
use Rattle.http_heads.specs.declared.message.Message.TheVariants as forms
use Rattle.http_heads.specs.declared.message.RawReply.{RawReply}
use Rattle.http_messages.specs.Messages.{AreMessages, End, ReadsMessages, between, faulty, inside}
use Rattle.http_text.specs.Taken.{reply_messages}
use Rattle.rpc_answers.specs.declared.answer.Answer.{Answer}
use Rattle.rpc_answers.specs.Prints.{IsNoAnswer, IsPrintOf, at_body, at_head, without_spare}
use Rattle.rpc_calls.specs.declared.call.Call.{Call}
use Rattle.delta_client.specs.Asking.{BeginWith, NoAnswer}
use Rattle.delta_client.specs.Exchanges.{DialView, Exchanged, IsAnswered, WasSaid, links_then, stands_then}
use Rattle.delta_client.specs.Kinds.{MayAnswer}
use Rattle.delta_client.specs.Lines.{Connection, GoesOver, Links, Over, behind_reply}
use Rattle.delta_client.specs.Serving.{AllSaid, EndsAtFault, IsSaidBy, RepliesTo, Serves, Talk, begun, talk_of, talks_on}
use Rattle.delta_client.specs.declared.fault.AskFault.{AskFault}
use Rattle.delta_client.specs.declared.fault.AskFault.TheVariants as ask

-- a reply more, as a message
one_more : (taken : List RawReply) (reply : RawReply) → reply_messages (taken ++ reply ∷ []) ≡ reply_messages taken ++ forms.Reply reply ∷ []
one_more taken reply = map-append forms.Reply taken (reply ∷ [])

abbrev replies_in : Message → List RawReply
replies_in (forms.Reply reply) = reply ∷ []
replies_in (forms.Request request) = []

abbrev first_in : RawReply → List RawReply → RawReply
first_in other [] = other
first_in other (reply ∷ replies) = reply

same_reply : (a b : RawReply) → forms.Reply a ≡ forms.Reply b → a ≡ b
same_reply a b same = ap (λ (message : Message). first_in a (replies_in message)) same

-- what the laws of messages and answers say
abbrev pub OneNext : Type 0
OneNext = (kind : Kind) (bytes more rest last : List ℕ) (taken : List Message) (x y : Message) → AreMessages kind bytes (taken ++ x ∷ []) rest → AreMessages kind (bytes ++ more) (taken ++ y ∷ []) last → x ≡ y

abbrev pub NoEnd : Type 0
NoEnd = (kind : Kind) (bytes last : List ℕ) (taken : List Message) (x : Message) (end : End) → AreMessages kind bytes (taken ++ x ∷ []) last → ReadsMessages kind bytes taken end → ⊥

abbrev pub NoFault : Type 0
NoFault = (kind : Kind) (bytes more last : List ℕ) (taken : List Message) (x : Message) (fault : FrameFault) → AreMessages kind (bytes ++ more) (taken ++ x ∷ []) last → ReadsMessages kind bytes taken (faulty fault) → ⊥

-- a link failed, or memory was wanting
abbrev IsWant : WasSaid → Type 0
IsWant one = (one ≡ Err ask.LinkFault) ⊎ (one ≡ Err ask.OutOfMemory)

abbrev pub OneAnswer : Type 0
OneAnswer = (reply : RawReply) (a b : Answer) → IsPrintOf reply a → IsPrintOf reply b → without_spare a ≡ without_spare b

module _ {L : Type 0} (left sent : L → Option (List ℕ)) (address : List ℕ) (IsAnswerOf : Call → Answer → Type 0) (fits : (call : Call) (a : Answer) → IsAnswerOf call a → MayAnswer call a)
    (alike : (call : Call) (a b : Answer) → without_spare a ≡ without_spare b → IsAnswerOf call b → IsAnswerOf call a) (one_next : OneNext) (no_end : NoEnd) (no_fault : NoFault) (one_answer : OneAnswer)
  where
    -- what was read of a connection with these bytes, and what is left of it
    read_of : (came link : L) (bytes read : List ℕ) → left came ≡ Some bytes → Consumes (left came) (left link) read → (rest : List ℕ) × (left link ≡ Some rest) × (bytes ≡ read ++ rest)
    read_of came link bytes read all consumed = by (left link) refl
      where
        by : (now : Option (List ℕ)) → left link ≡ now → (rest : List ℕ) × (left link ≡ Some rest) × (bytes ≡ read ++ rest)
        by None is = absurd (subst (λ (now : Option (List ℕ)). Consumes (Some bytes) now read) is (subst (λ (before : Option (List ℕ)). Consumes before (left link) read) all consumed))
        by (Some rest) is = (rest, is, subst (λ (now : Option (List ℕ)). Consumes (Some bytes) now read) is (subst (λ (before : Option (List ℕ)). Consumes before (left link) read) all consumed))

    module _ (call : Call) (talk : Talk L) (reply : RawReply) (has : RepliesTo left IsAnswerOf call talk reply) (link : L) (read : List ℕ) (consumed : Consumes (left talk.came) (left link) read) where
      abbrev part : (rest : List ℕ) × (left link ≡ Some rest) × (has.bytes ≡ read ++ rest)
      part = read_of talk.came link has.bytes read has.all consumed

      -- the bytes read and those left begin with the reply
      there : AreMessages Replies (read ++ part.0) (reply_messages talk.replies ++ forms.Reply reply ∷ []) has.begins.0
      there =
          subst (λ (bytes : List ℕ). AreMessages Replies bytes (reply_messages talk.replies ++ forms.Reply reply ∷ []) has.begins.0) part.2
          (subst (λ (ms : List Message). AreMessages Replies has.bytes ms has.begins.0) (one_more talk.replies reply) has.begins.1)

      -- the next reply that was read is that one
      is_reply : (other : RawReply) → BeginWith read (talk.replies ++ other ∷ []) → other ≡ reply
      is_reply other begins =
          let here = subst (λ (ms : List Message). AreMessages Replies read ms begins.0) (one_more talk.replies other) begins.1 in
          same_reply other reply (one_next Replies read part.0 begins.0 has.begins.0 (reply_messages talk.replies) (forms.Reply other) (forms.Reply reply) here there)

      -- and what it prints is the answer
      is_answer : (other : RawReply) (a : Answer) → BeginWith read (talk.replies ++ other ∷ []) → IsPrintOf other a → IsAnswerOf call a
      is_answer other a begins prints =
          let same = is_reply other begins in
          alike call a has.answer_ (one_answer reply a has.answer_ (subst (λ (r : RawReply). IsPrintOf r a) same prints) has.prints) has.answers

      refused : (other : RawReply) (at : ℕ) → other ≡ reply → IsNoAnswer other at → ⊥
      refused other at same (at_head none here) =
          let is = subst (λ (r : RawReply). IsPrintOf r has.answer_) (sym same) has.prints in none (has.answer_, is.stands, is.status, is.media)
      refused other at same (at_body head none here) = none has.answer_ (subst (λ (r : RawReply). IsPrintOf r has.answer_) (sym same) has.prints)

      -- nothing else can have been said
      only_link_or_memory : (fault : AskFault) → NoAnswer call read talk.replies (left link) fault → (calls : List Call) (said : List WasSaid) → AllSaid (IsSaidBy IsAnswerOf) calls said → AllSaid (IsSaidBy IsAnswerOf) (call ∷ calls) (Err fault ∷ said)
      only_link_or_memory ask.LinkFault none calls said are = (tt, are)
      only_link_or_memory ask.OutOfMemory none calls said are = (tt, are)
      only_link_or_memory ask.CutShort none calls said are = absurd (ends none.0)
        where
          at_end : part.0 ≡ []
          at_end = subst (λ (now : Option (List ℕ)). IsAtEnd now) part.1 none.1

          all_read : AreMessages Replies read (reply_messages talk.replies ++ forms.Reply reply ∷ []) has.begins.0
          all_read =
              subst (λ (bytes : List ℕ). AreMessages Replies bytes (reply_messages talk.replies ++ forms.Reply reply ∷ []) has.begins.0) (ap (λ (rest : List ℕ). read ++ rest) at_end ∙ append-nil read) there

          ends : (ReadsMessages Replies read (reply_messages talk.replies) between) ⊎ (ReadsMessages Replies read (reply_messages talk.replies) inside) → ⊥
          ends (inl is) = no_end Replies read has.begins.0 (reply_messages talk.replies) (forms.Reply reply) between all_read is
          ends (inr is) = no_end Replies read has.begins.0 (reply_messages talk.replies) (forms.Reply reply) inside all_read is
      only_link_or_memory (ask.NotUnderstood at) (inl none) calls said are = absurd (no_fault Replies read part.0 has.begins.0 (reply_messages talk.replies) (forms.Reply reply) none.0.0 there none.0.1)
      only_link_or_memory (ask.NotUnderstood at) (inr (inl none)) calls said are = absurd (refused none.0 at (is_reply none.0 none.1) none.2)
      only_link_or_memory (ask.NotUnderstood at) (inr (inr none)) calls said are =
          let other = none.0 in absurd (other.5 (fits call other.1 (is_answer other.0 other.1 other.2 other.3) other.4))

    abbrev talk_over : Connection L → Talk L
    talk_over over = record { came = over.came; replies = over.replies }

    moved : (closes : Bool) (over : Connection L) (link : L) (reply : RawReply)
        → if closes then None else Some (record { came = over.came; replies = over.replies ++ reply ∷ [] }) ≡ talk_of (stands_then closes (behind_reply over link reply))
    moved true over link reply = refl
    moved false over link reply = refl

    still_come : (closes : Bool) (link : L) (made : Links L) → (links_then closes link made).to_come ≡ made.to_come
    still_come true link made = refl
    still_come false link made = refl

    -- behind an answer the next calls go on
    go_on : (call : Call) (calls : List Call) (said : List WasSaid) (a : Answer) (over : Connection L) (made : Links L) (link : L) (reply served : RawReply) (mid : DialView L) → RepliesTo left IsAnswerOf call (talk_over over) served
        → Serves left IsAnswerOf calls (talks_on (talk_over over) served) made.to_come → IsAnswered left sent address call a over link reply → mid.links ≡ links_then reply.close link made
        → (Serves left IsAnswerOf calls (talk_of (stands_then reply.close (behind_reply over link reply))) mid.links.to_come → AllSaid (IsSaidBy IsAnswerOf) calls said) → AllSaid (IsSaidBy IsAnswerOf) (call ∷ calls) (Ok a ∷ said)
    go_on call calls said a over made link reply served mid has serves it links more =
        let same : reply ≡ served = is_reply call (talk_over over) served has link it.read it.consumed reply it.begins in
        let here : Serves left IsAnswerOf calls (talks_on (talk_over over) reply) made.to_come = subst (λ (r : RawReply). Serves left IsAnswerOf calls (talks_on (talk_over over) r) made.to_come) (sym same) serves in
        let stands : Serves left IsAnswerOf calls (talk_of (stands_then reply.close (behind_reply over link reply))) made.to_come =
        subst (λ (talk : Option (Talk L)). Serves left IsAnswerOf calls talk made.to_come) (moved reply.close over link reply) here in
        let come : made.to_come ≡ mid.links.to_come = sym (still_come reply.close link made) ∙ ap (λ (all : Links L). all.to_come) (sym links) in (
          is_answer call (talk_over over) served has link it.read it.consumed reply a it.begins it.prints,
          more (subst (λ (to_come : List L). Serves left IsAnswerOf calls (talk_of (stands_then reply.close (behind_reply over link reply))) to_come) come stands),
        )

    -- how a call is served over the connection that it goes over
    served_over : (call : Call) (calls : List Call) (standing : Option (Connection L)) (before : Links L) (over : Connection L) (made : Links L) → GoesOver address standing before over made → Serves left IsAnswerOf (call ∷ calls) (talk_of standing) before.to_come
        → (reply : RawReply) × RepliesTo left IsAnswerOf call (talk_over over) reply × Serves left IsAnswerOf calls (talks_on (talk_over over) reply) made.to_come
    served_over call calls (Some standing) before over made goes (reply, has, serves) = (
      reply,
      subst (λ (c : Connection L). RepliesTo left IsAnswerOf call (talk_over c) reply) (sym goes.0) has,
      subst (λ (links : Links L). Serves left IsAnswerOf calls (talks_on (talk_over over) reply) links.to_come) (sym goes.1)
          (subst (λ (c : Connection L). Serves left IsAnswerOf calls (talks_on (talk_over c) reply) before.to_come) (sym goes.0) serves),
    )
    served_over call calls None before over made (link, rest, comes, is, made_is) serves =
        let it : (reply : RawReply) × RepliesTo left IsAnswerOf call (begun link) reply × Serves left IsAnswerOf calls (talks_on (begun link) reply) rest =
        subst (λ (to_come : List L). Serves left IsAnswerOf (call ∷ calls) None to_come) comes serves in (
          it.0,
          subst (λ (c : Connection L). RepliesTo left IsAnswerOf call (talk_over c) it.0) (sym is) it.1,
          subst (λ (links : Links L). Serves left IsAnswerOf calls (talks_on (talk_over over) it.0) links.to_come) (sym made_is)
              (subst (λ (c : Connection L). Serves left IsAnswerOf calls (talks_on (talk_over c) it.0) rest) (sym is) it.2),
        )

    -- behind the last call nothing is said
    nothing_behind : (calls : List Call) (said : List WasSaid) (before after : DialView L) → said ≡ [] → Exchanged left sent address calls said None before after → AllSaid (IsSaidBy IsAnswerOf) calls said
    nothing_behind [] [] before after none asks = tt
    nothing_behind (call ∷ calls) [] before after none asks = tt
    nothing_behind calls (one ∷ said) before after none asks = absurd cc

    unanswered : (call : Call) (calls : List Call) (said : List WasSaid) (fault : AskFault) (standing : Option (Connection L)) (before after : Links L) → Serves left IsAnswerOf (call ∷ calls) (talk_of standing) before.to_come
        → Over left sent address call standing before after None (Err fault) → AllSaid (IsSaidBy IsAnswerOf) calls said → AllSaid (IsSaidBy IsAnswerOf) (call ∷ calls) (Err fault ∷ said)
    unanswered call calls said fault standing before after serves (inl (over, made, link, goes, it)) are =
        let so = served_over call calls standing before over made goes serves in only_link_or_memory call (talk_over over) so.0 so.1 link it.0 it.1 fault it.2 calls said are
    unanswered call calls said fault standing before after serves (inr none) are = by fault none.3
      where
        by : (fault : AskFault) → IsWant (Err fault) → AllSaid (IsSaidBy IsAnswerOf) (call ∷ calls) (Err fault ∷ said)
        by ask.LinkFault is = (tt, are)
        by ask.OutOfMemory is = (tt, are)
        by ask.CutShort (inl is) = absurd cc
        by ask.CutShort (inr is) = absurd cc
        by (ask.NotUnderstood at) (inl is) = absurd cc
        by (ask.NotUnderstood at) (inr is) = absurd cc

    pub all_answered : (calls : List Call) (said : List WasSaid) (standing : Option (Connection L)) (before after : DialView L) → Serves left IsAnswerOf calls (talk_of standing) before.links.to_come
        → Exchanged left sent address calls said standing before after → EndsAtFault said → AllSaid (IsSaidBy IsAnswerOf) calls said
    all_answered [] [] standing before after serves asks ends = tt
    all_answered (call ∷ calls) (Ok a ∷ said) standing before after serves (over, made, link, reply, mid, goes, tries, answered, links, more) ends =
        let it = served_over call calls standing before.links over made goes serves in
        go_on call calls said a over made link reply it.0 mid it.1 it.2 answered links
        (λ serves. all_answered calls said (stands_then reply.close (behind_reply over link reply)) mid after serves more ends)
    all_answered (call ∷ calls) (Err fault ∷ said) standing before after serves (mid, over, tries, more) ends =
        unanswered call calls said fault standing before.links mid.links serves over (nothing_behind calls said mid after ends more)
    all_answered [] (one ∷ said) standing before after serves asks ends = tt
    all_answered (call ∷ calls) [] standing before after serves asks ends = tt

    -- the first call is answered so where it alone is served
    pub first_answered : (call : Call) (calls : List Call) (said : List WasSaid) (a : Answer) (standing : Option (Connection L)) (before after : DialView L) → Serves left IsAnswerOf (call ∷ []) (talk_of standing) before.links.to_come
        → Exchanged left sent address (call ∷ calls) (Ok a ∷ said) standing before after → IsAnswerOf call a
    first_answered call calls said a standing before after serves (over, made, link, reply, mid, goes, tries, answered, links, more) =
        let it = served_over call [] standing before.links over made goes serves in
        is_answer call (talk_over over) it.0 it.1 link answered.read answered.consumed reply a answered.begins answered.prints

-- fewer calls are served too
pub fewer_served : {L : Type 0} (left : L → Option (List ℕ)) (IsAnswerOf : Call → Answer → Type 0) (calls more : List Call) (talk : Option (Talk L)) (to_come : List L) → Serves left IsAnswerOf (calls ++ more) talk to_come → Serves left IsAnswerOf calls talk to_come
fewer_served left IsAnswerOf [] more talk to_come serves = tt
fewer_served left IsAnswerOf (call ∷ calls) more (Some talk) to_come (reply, has, serves) = (reply, has, fewer_served left IsAnswerOf calls more (talks_on talk reply) to_come serves)
fewer_served left IsAnswerOf (call ∷ calls) more None [] serves = absurd serves
fewer_served left IsAnswerOf (call ∷ calls) more None (came ∷ to_come) (reply, has, serves) = (reply, has, fewer_served left IsAnswerOf calls more (talks_on (begun came) reply) to_come serves)
