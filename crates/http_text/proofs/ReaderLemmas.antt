-- Facts about the steps of a reader.
use Rattle.std.proofs.Common.{◌≡◌, ℕ, Bool, true, false, ◌-◌, ◌<◌, ◌≤◌, List, [], ◌∷◌, ◌++◌, length, take, Result, Ok, Err, refl, sym, ap, ◌∙◌, subst, inl, inr, arith}
use Rattle.std.specs.Global.{Vec}
use Rattle.std.proofs.lemmas.List.{append-nil}
use Rattle.std.proofs.lemmas.List.Elements.{All-nil}
use Rattle.http_heads.specs.Heads.{Head, request, reply, print_head, HasNoHead, IsBadHead, IsInterim, PassesOver, room_behind}
use Rattle.http_messages.specs.Chunks.{IsChunk}
use Rattle.http_heads.specs.Asking.{message_expects}
use Rattle.http_messages.specs.Messages.{message_of, request_of, reply_of, head_expects, BeginsWithHead, BeginsWithGoodHead, framing_behind, IsMessage, IsBody, IsFrameFault}
use Rattle.http_messages.specs.Front.{TellsFaultAt}
use Rattle.http_messages.specs.Stages.{IsOpenHead, HoldsPart, TellsBodyFault, HeadStepIs, UsesSome}
use Rattle.http_messages.specs.declared.stage.HeadEnd.{HeadEnd}
use Rattle.http_text.specs.Readers.{HoldsHead, HoldsBody, HoldsRest, IsHeadOfMessage, NextMessageIs, BeginsBody, EndsHead, TellsFault, HasHeadFault, KnowsAsk, BreaksAs}
use Rattle.http_heads.specs.declared.framing.FrameFault.{FrameFault}
use Rattle.http_heads.specs.declared.framing.FrameFault.TheVariants as faults
use Rattle.http_heads.specs.declared.framing.Framing.{Framing}
use Rattle.http_heads.specs.declared.framing.Framing.TheVariants.{Sized, Chunked}
use Rattle.http_heads.specs.declared.message.Kind.{Kind}
use Rattle.http_heads.specs.declared.message.Message.{Message}
use Rattle.http_heads.specs.declared.message.Message.TheVariants as forms
use Rattle.http_heads.specs.declared.message.RawRequest.{RawRequest}
use Rattle.http_heads.specs.declared.message.RawReply.{RawReply}
use Rattle.http_messages.specs.declared.line.LineAt.TheVariants as lines
use Rattle.http_messages.specs.declared.stage.BodyPart.{BodyPart}
use Rattle.http_messages.specs.declared.stage.BodyPart.TheVariants as parts
use Rattle.http_messages.specs.declared.stage.HeadEnd.TheVariants as ends
use Rattle.http_heads.specs.Follow.{Follows}
use Rattle.http_heads.specs.declared.progress.HeadProgress.{HeadProgress}
use Rattle.http_heads.specs.declared.progress.HeadProgress.TheVariants as at
use Rattle.http_text.specs.declared.reader.Stage.{Stage}
use Rattle.http_text.specs.declared.reader.Stage.TheVariants as stages
use Rattle.http_heads.proofs.HeadLaws.{nothing_read, some_head}
use Rattle.http_messages.proofs.GrowLemmas.{begins_grows}
use Rattle.http_text.proofs.PassLemmas.{passes_none, passes_grow, passes_more, room_more, tells_behind}
use Rattle.http_messages.proofs.ChunkLemmas.{open_line}
use Rattle.http_text.proofs.StayLemmas.{good_head_stays}

-- no byte of a head has come
pub open_head : (kind : Kind) (room : ℕ) → 0 < room → IsOpenHead kind room []
open_head kind room some = record { short = some; none = nothing_read kind; good = λ bad. some_head kind bad.1 }

pub start : (kind : Kind) → HoldsHead kind [] 16384 at.Blank []
start kind = record { passed = []; passes = passes_none kind []; room_is = refl; still = open_head kind 16384 (omega arith); follows = ([], refl) }

pub start_with : (kind : Kind) (stage : Stage) (pending : List ℕ) → HoldsRest kind stage [] [] → pending ≡ [] → HoldsRest kind stage pending []
start_with kind stage pending held empty = subst (λ (p : List ℕ). HoldsRest kind stage p []) (sym empty) held

-- a head without a body is a message
pub empty_message : (kind : Kind) (text : List ℕ) (message : Message) (framing : Framing) (size : ℕ) → IsHeadOfMessage kind text message framing → framing ≡ Sized size → size ≡ 0
    → IsMessage kind text message
empty_message kind text message framing size whole is zero = record {
  passed = whole.passed;
  from = whole.from;
  passes = whole.passes;
  head = whole.head;
  behind = [];
  begins = whole.begins;
  framing = Sized 0;
  faultless = whole.faultless ∙ ap Ok (is ∙ ap Sized zero);
  body = [];
  is_body = (refl, refl);
  is_message = whole.message_is;
}

-- a body of a known length begins
pub sized_begins : (kind : Kind) (text : List ℕ) (message : Message) (framing : Framing) (size : ℕ) (body : Vec ℕ) → IsHeadOfMessage kind text message framing → framing ≡ Sized size
    → 0 < size → body.items ≡ [] → HoldsRest kind (stages.Body message body (parts.Sized size)) [] text
sized_begins kind text message framing size body whole is some empty = record {
  passed = whole.passed;
  from = whole.from;
  passes = whole.passes;
  head = whole.head;
  behind = [];
  framing = Sized size;
  begins = whole.begins;
  faultless = whole.faultless ∙ ap Ok is;
  message_is = whole.message_is;
  part_is = let none = ap length empty in (some, ap Sized (omega arith), sym empty, refl);
}

-- a chunked body begins with a chunk line
pub chunked_begins : (kind : Kind) (text : List ℕ) (message : Message) (framing : Framing) (body : Vec ℕ) → IsHeadOfMessage kind text message framing → framing ≡ Chunked → body.items ≡ []
    → HoldsRest kind (stages.Body message body (parts.Line lines.Unknown)) [] text
chunked_begins kind text message framing body whole is empty = record {
  passed = whole.passed;
  from = whole.from;
  passes = whole.passes;
  head = whole.head;
  behind = [];
  framing = Chunked;
  begins = whole.begins;
  faultless = whole.faultless ∙ ap Ok is;
  message_is = whole.message_is;
  part_is = (
    (refl, record { chunks = []; before = record { each = All-nil IsChunk; fit = omega arith }; body_is = empty; behind_is = refl }),
    open_line,
    tt,
  );
}

-- the body goes on behind the same head
pub body_goes_on : (kind : Kind) (rest more : List ℕ) (message : Message) (part next : BodyPart) (old new kept body : List ℕ) (held : HoldsBody kind rest message kept part old)
    → HoldsPart next body new held.framing (held.behind ++ more) → HoldsBody kind (rest ++ more) message body next new
body_goes_on kind rest more message part next old new kept body held goes = record {
  passed = held.passed;
  from = held.from ++ more;
  passes = passes_grow kind rest more held.passed held.from held.passes;
  head = held.head;
  behind = held.behind ++ more;
  framing = held.framing;
  begins = begins_grows kind (room_behind held.passed) held.from held.behind more held.head held.begins;
  faultless = held.faultless;
  message_is = held.message_is;
  part_is = goes;
}

-- what a message is with its body
pub record HasBody (message whole : Message) (body : List ℕ) : Type 0 where
  pub request : (r : RawRequest) → message ≡ forms.Request r → whole ≡ forms.Request (record r { body = body })
  pub reply : (r : RawReply) → message ≡ forms.Reply r → whole ≡ forms.Reply (record r { body = body })

whole_is : (message whole : Message) (body : List ℕ) (head : Head) → HasBody message whole body → message ≡ message_of head [] → whole ≡ message_of head body
whole_is message whole body (request h) has is = has.request (request_of h []) is
whole_is message whole body (reply h) has is = has.reply (reply_of h []) is

-- the body is whole
pub body_is_whole : (kind : Kind) (rest more : List ℕ) (message whole : Message) (part : BodyPart) (old kept body : List ℕ) (held : HoldsBody kind rest message kept part old)
    → HasBody message whole body → IsBody held.framing (held.behind ++ more) body → IsMessage kind (rest ++ more) whole
body_is_whole kind rest more message whole part old kept body held has is_body = record {
  passed = held.passed;
  from = held.from ++ more;
  passes = passes_grow kind rest more held.passed held.from held.passes;
  head = held.head;
  behind = held.behind ++ more;
  begins = begins_grows kind (room_behind held.passed) held.from held.behind more held.head held.begins;
  framing = held.framing;
  faultless = held.faultless;
  body = body;
  is_body = is_body;
  is_message = whole_is message whole body held.head has held.message_is;
}

-- no body has a fault of a head
module _ (kind : Kind) (rest text behind : List ℕ) (passed : List Head) (head : Head) (passes : PassesOver kind rest passed text)
    (begins : BeginsWithHead kind (room_behind passed) text head behind) where
  body_fault_is_frames : (framing : Framing) (fault : FrameFault) → framing_behind head ≡ Ok framing → TellsBodyFault framing behind fault → TellsFault kind rest fault
  body_fault_is_frames framing faults.OutOfMemory ok bad = tt
  body_fault_is_frames framing faults.BadHost ok bad = (passed, text, passes, (head, behind, begins, inr (framing, ok, bad)))
  body_fault_is_frames framing faults.TwoLengths ok bad = (passed, text, passes, (head, behind, begins, inr (framing, ok, bad)))
  body_fault_is_frames framing faults.BadLength ok bad = (passed, text, passes, (head, behind, begins, inr (framing, ok, bad)))
  body_fault_is_frames framing (faults.BodyTooLong size limit) ok bad = (passed, text, passes, (head, behind, begins, inr (framing, ok, bad)))
  body_fault_is_frames framing faults.BadChunk ok bad = (passed, text, passes, (head, behind, begins, inr (framing, ok, bad)))
  body_fault_is_frames (Sized size) faults.BadHead ok bad = absurd bad
  body_fault_is_frames (Sized size) faults.TooManyFields ok bad = absurd bad
  body_fault_is_frames (Sized size) faults.HeadTooLong ok bad = absurd bad
  body_fault_is_frames Chunked faults.BadHead ok bad = absurd bad.4
  body_fault_is_frames Chunked faults.TooManyFields ok bad = absurd bad.4
  body_fault_is_frames Chunked faults.HeadTooLong ok bad = absurd bad.4

made_expects : (message : Message) (head : Head) (body : List ℕ) → message ≡ message_of head body → head_expects head ≡ message_expects message
made_expects message (request h) body is = sym (ap message_expects is)
made_expects message (reply h) body is = sym (ap message_expects is)

-- a message was read from a head that asks as it does
pub good_head : (kind : Kind) (rest : List ℕ) (message : Message) (part : BodyPart) (kept body : List ℕ) → HoldsBody kind rest message body part kept
    → BeginsWithGoodHead kind rest (message_expects message)
good_head kind rest message part kept body held = record {
  passed = held.passed;
  from = held.from;
  passes = held.passes;
  head = held.head;
  behind = held.behind;
  begins = held.begins;
  framing = held.framing;
  faultless = held.faultless;
  asks_is = made_expects message held.head [] held.message_is;
}

pub message_head : (kind : Kind) (text more : List ℕ) (message : Message) → IsMessage kind text message → BeginsWithGoodHead kind (text ++ more) (message_expects message)
message_head kind text more message one = good_head_stays kind text more (message_expects message) (record {
  passed = one.passed;
  from = one.from;
  passes = one.passes;
  head = one.head;
  behind = one.behind;
  begins = one.begins;
  framing = one.framing;
  faultless = one.faultless;
  asks_is = made_expects message one.head one.body one.is_message;
})

knows_ask : (kind : Kind) (rest : List ℕ) (fault : FrameFault) (asks : Bool) → BeginsWithGoodHead kind rest asks → KnowsAsk kind rest fault asks
knows_ask kind rest fault true good = good
knows_ask kind rest fault false good = inr good

-- a fault in a body is that of the rest
pub body_breaks : (kind : Kind) (rest more : List ℕ) (message : Message) (part : BodyPart) (old kept : List ℕ) (fault : FrameFault) (held : HoldsBody kind rest message kept part old)
    → TellsBodyFault held.framing (held.behind ++ more) fault → BreaksAs kind (rest ++ more) (record { fault = fault; expects = message_expects message })
body_breaks kind rest more message part old kept fault held bad = (
  body_fault_is_frames kind (rest ++ more) (held.from ++ more) (held.behind ++ more) held.passed held.head (passes_grow kind rest more held.passed held.from held.passes)
      (begins_grows kind (room_behind held.passed) held.from held.behind more held.head held.begins) held.framing fault held.faultless bad,
  knows_ask kind (rest ++ more) fault (message_expects message)
      (good_head_stays kind rest more (message_expects message) (good_head kind rest message part old kept held)),
)

-- and so is want of memory
pub memory_breaks : (kind : Kind) (rest more : List ℕ) (message : Message) (part : BodyPart) (old kept : List ℕ) (fault : FrameFault) → fault ≡ faults.OutOfMemory
    → HoldsBody kind rest message kept part old → BreaksAs kind (rest ++ more) (record { fault = fault; expects = message_expects message })
memory_breaks kind rest more message part old kept fault is held = (
  subst (λ (f : FrameFault). TellsFault kind (rest ++ more) f) (sym is) tt,
  knows_ask kind (rest ++ more) fault (message_expects message)
      (good_head_stays kind rest more (message_expects message) (good_head kind rest message part old kept held)),
)

-- a fault of a head breaks the stream
pub head_breaks : (kind : Kind) (rest : List ℕ) (fault : FrameFault) → HasHeadFault kind rest fault → BreaksAs kind rest (record { fault = fault; expects = false })
head_breaks kind rest fault bad = (tells_behind kind rest bad.0 bad.1 fault bad.2 bad.3, inl bad)

-- ---- behind a step in a head

module _ (kind : Kind) (rest old new piece : List ℕ) (room used : ℕ) (progress : HeadProgress) (held : HoldsHead kind rest room progress old) where
  abbrev grown : PassesOver kind (rest ++ take used piece) held.passed (old ++ take used piece)
  grown = passes_grow kind rest (take used piece) held.passed old held.passes

  -- the head goes on
  pub head_goes_on : (next : HeadProgress) → new ≡ old ++ take used piece → IsOpenHead kind room new → Follows kind new next → HoldsHead kind (rest ++ take used piece) room next new
  head_goes_on next is still follows = record {
    passed = held.passed;
    passes = subst (λ (t : List ℕ). PassesOver kind (rest ++ take used piece) held.passed t) (sym is) grown;
    room_is = held.room_is;
    still = still;
    follows = follows;
  }

  -- it was one that is passed over
  module _ (left : ℕ) (head : Head) (empty : new ≡ []) (interim : IsInterim kind head) (is : old ++ take used piece ≡ print_head head)
      (fits : length (print_head head) ≤ room) (left_is : left ≡ room - length (print_head head)) where
    within : length (print_head head) ≤ room_behind held.passed
    within = let room_is = held.room_is in omega arith

    left_behind : left ≡ room_behind (held.passed ++ head ∷ [])
    left_behind = left_is ∙ ap (λ n. n - length (print_head head)) held.room_is
        ∙ sym (room_more kind (rest ++ take used piece) held.passed (old ++ take used piece) head [] grown interim (is ∙ sym (append-nil (print_head head))) within)

    over : PassesOver kind (rest ++ take used piece) (held.passed ++ head ∷ []) []
    over = passes_more kind (rest ++ take used piece) held.passed (old ++ take used piece) head [] grown interim (is ∙ sym (append-nil (print_head head))) within

    pub interim_passed : 0 < left → HoldsHead kind (rest ++ take used piece) left at.Blank new
    interim_passed some = record {
      passed = held.passed ++ head ∷ [];
      passes = subst (λ (t : List ℕ). PassesOver kind (rest ++ take used piece) (held.passed ++ head ∷ []) t) (sym empty) over;
      room_is = left_behind;
      still = subst (λ (t : List ℕ). IsOpenHead kind left t) (sym empty) (open_head kind left some);
      follows = ([], empty);
    }

    -- and nothing is left to the next one
    pub no_room_left : left ≡ 0 → IsFrameFault kind (rest ++ take used piece) faults.HeadTooLong
    no_room_left none = (
      held.passed ++ head ∷ [],
      [],
      over,
      subst (λ (n : ℕ). (n ≤ 0) × HasNoHead kind (take n []) × ¬ (IsBadHead kind (take n []))) (sym none ∙ left_behind) (omega arith, nothing_read kind, λ bad. some_head kind bad.1),
    )

  -- the head is whole
  pub head_is_whole : (message : Message) (framing : Framing) (head : Head) → BeginsWithHead kind room (old ++ take used piece) head [] → framing_behind head ≡ Ok framing
      → message ≡ message_of head [] → IsHeadOfMessage kind (rest ++ take used piece) message framing
  head_is_whole message framing head begins faultless is = record {
    passed = held.passed;
    from = old ++ take used piece;
    passes = grown;
    head = head;
    begins = subst (λ (n : ℕ). BeginsWithHead kind n (old ++ take used piece) head []) held.room_is begins;
    faultless = faultless;
    message_is = is;
  }

-- where nothing is kept
pub next_again : (kind : Kind) (text pending : List ℕ) (old new : List Message) (stage : Stage) → pending ≡ []
    → NextMessageIs kind text old new stage [] → NextMessageIs kind text old new stage pending
next_again kind text pending old new stage empty next = subst (λ (p : List ℕ). NextMessageIs kind text old new stage p) (sym empty) next

-- the fault of what is kept is that of the rest
pub head_fault_tells : (kind : Kind) (rest old piece : List ℕ) (room : ℕ) (progress : HeadProgress) (fault : FrameFault) (held : HoldsHead kind rest room progress old)
    → TellsFaultAt kind room (old ++ piece) fault → HasHeadFault kind (rest ++ piece) fault
head_fault_tells kind rest old piece room progress fault held tells =
    (held.passed, old ++ piece, passes_grow kind rest piece held.passed old held.passes, subst (λ (n : ℕ). TellsFaultAt kind n (old ++ piece) fault) held.room_is tells)

-- a step in a head uses some of the piece
pub uses_some : (kind : Kind) (room used : ℕ) (old new piece : List ℕ) (end : HeadEnd) → HeadStepIs kind room old new piece (Ok (used, end)) → UsesSome piece used
uses_some kind room used old new piece (ends.Open progress) step = step.0
uses_some kind room used old new piece (ends.Interim left) step = step.0
uses_some kind room used old new piece (ends.Whole message framing) step = step.0

-- what follows a head is what its body begins as
pub ends_body : (kind : Kind) (text pending : List ℕ) (old new : List Message) (r : Result Stage FrameFault) → pending ≡ [] → BeginsBody kind text old new r
    → EndsHead kind text pending old new r
ends_body kind text pending old new (Ok stage) empty began = next_again kind text pending old new stage empty began
ends_body kind text pending old new (Err fault) empty (same, is) = (same, subst (λ (f : FrameFault). HasHeadFault kind text f) (sym is) ([], text, passes_none kind text, tt))

-- in a head the limit is at most the whole one
pub room_fits : (kind : Kind) (rest pending : List ℕ) (room : ℕ) (progress : HeadProgress) → HoldsHead kind rest room progress pending → room ≤ 16384
room_fits kind rest pending room progress held = let is = held.room_is in omega arith
