-- Facts about the messages of more and more bytes.
use Rattle.std.proofs.Common.{◌≡◌, ◌≢◌, ℕ, Bool, ◌+◌, ◌-◌, ◌<◌, ◌≤◌, ◌⊎◌, List, [], ◌∷◌, ◌++◌, length, take, drop, Option, None, Some, Ok, Err, refl, sym, ap, ◌∙◌, subst, inl, inr, arith, append_assoc, length-append}
use Rattle.std.specs.Prelude.{IfNone, IfSome}
use Rattle.std.proofs.lemmas.List.{append-nil, take_rest, take-append-drop}
use Rattle.http_heads.specs.Heads.{print_head, print_heads}
use Rattle.http_heads.proofs.HeadLaws.{head_not_empty}
use Rattle.http_messages.specs.Messages.{IsMessage, AreMessages, ReadsMessages, between, inside}
use Rattle.http_text.proofs.FaultLemmas.{open_no_fault}
use Rattle.http_messages.proofs.GrowLemmas.{lt_or_le}
use Rattle.http_text.proofs.OpenLemmas.{open_no_message}
use Rattle.http_text.proofs.StayLemmas.{broken_stays}
use Rattle.http_text.specs.Readers.{TellsFault, BreaksAs, HoldsHead, HoldsRest, CanGoOn, NextMessageIs, AdvanceIs, HoldsMessages, HoldsFaulty, HoldsStage, stage_fault, Decides}
use Rattle.http_heads.specs.declared.framing.FrameFault.{FrameFault}
use Rattle.http_heads.specs.declared.framing.FrameFault.TheVariants as faults
use Rattle.http_heads.specs.declared.message.Message.{Message}
use Rattle.http_heads.specs.declared.message.Kind.{Kind}
use Rattle.http_heads.specs.declared.progress.HeadProgress.{HeadProgress}
use Rattle.http_text.specs.declared.reader.Broken.{Broken}
use Rattle.http_text.specs.declared.reader.Stage.{Stage}
use Rattle.http_text.specs.declared.reader.Stage.TheVariants as stages
use Rattle.http_heads.specs.declared.framing.FrameFault.TheVariants.{OutOfMemory}

-- more bytes join the rest
pub messages_grow : (kind : Kind) (messages : List Message) (bytes rest more : List ℕ) → AreMessages kind bytes messages rest → AreMessages kind (bytes ++ more) messages (rest ++ more)
messages_grow kind [] bytes rest more is = ap (λ (t : List ℕ). t ++ more) is
messages_grow kind (message ∷ messages) bytes rest more (text, behind, is, one, others) = (
  text,
  behind ++ more,
  ap (λ (t : List ℕ). t ++ more) is ∙ append_assoc text behind more,
  one,
  messages_grow kind messages behind rest more others,
)

-- the rest is one more message
pub messages_last : (kind : Kind) (messages : List Message) (bytes rest : List ℕ) (message : Message) → AreMessages kind bytes messages rest → IsMessage kind rest message
    → AreMessages kind bytes (messages ++ message ∷ []) []
messages_last kind [] bytes rest message is one = (rest, [], is ∙ sym (append-nil rest), one, refl)
messages_last kind (first ∷ messages) bytes rest message (text, behind, is, it, others) one = (text, behind, is, it, messages_last kind messages behind rest message others one)

-- what is known of the stage after a step
pub goes_on : (kind : Kind) (asks : Bool) (rest piece : List ℕ) (old new : List Message) (pending : List ℕ) (used : ℕ) (stage : Stage)
    → AdvanceIs kind asks rest piece old new pending (Ok (used, stage)) → CanGoOn kind stage pending
goes_on kind asks rest piece old new pending used stage (some, inl next) = (rest ++ take used piece, next.1)
goes_on kind asks rest piece old new pending used stage (some, inr next) = ([], next.3)

-- a step leads from all the bytes before to those with what it used
pub next_all : (kind : Kind) (bytes rest : List ℕ) (taken : List Message) (old new : List Message) (stage : Stage) (pending : List ℕ)
    → AreMessages kind bytes (taken ++ old) rest → NextMessageIs kind rest old new stage pending → HoldsMessages kind bytes taken new stage pending
next_all kind bytes rest taken old new stage pending are (inl (same, held)) =
    (rest, subst (λ (q : List Message). AreMessages kind bytes (taken ++ q) rest) (sym same) are, held)
next_all kind bytes rest taken old new stage pending are (inr (message, more, is, held)) =
    let joined : (taken ++ old) ++ message ∷ [] ≡ taken ++ new =
    append_assoc taken old (message ∷ []) ∙ ap (λ (q : List Message). taken ++ q) (sym more) in
    ([], subst (λ (q : List Message). AreMessages kind bytes q []) joined (messages_last kind (taken ++ old) bytes rest message are is), held)

-- the rest of a piece
pub rest_of_piece : (piece front left : List ℕ) (used : ℕ) → piece ≡ front ++ left
    → piece ≡ (front ++ take used left) ++ take (length left - used) (drop used left)
rest_of_piece piece front left used is =
    is ∙ ap (λ (t : List ℕ). front ++ t) (sym (take-append-drop used left)) ∙ sym (append_assoc front (take used left) (drop used left))
    ∙ ap (λ (t : List ℕ). (front ++ take used left) ++ t) (sym (take_rest left used))

-- one step more
pub step_all : (kind : Kind) (asks : Bool) (bytes front left : List ℕ) (taken : List Message) (old new : List Message) (before after : Stage) (kept pending : List ℕ) (used : ℕ)
    → HoldsMessages kind (bytes ++ front) taken old before kept
    → ((rest : List ℕ) → HoldsRest kind before kept rest → AdvanceIs kind asks rest left old new pending (Ok (used, after)))
    → HoldsMessages kind (bytes ++ (front ++ take used left)) taken new after pending
step_all kind asks bytes front left taken old new before after kept pending used (rest, are, held) step =
    subst (λ (b : List ℕ). HoldsMessages kind b taken new after pending) (append_assoc bytes front (take used left))
    (next_all kind ((bytes ++ front) ++ take used left) (rest ++ take used left) taken old new after pending
    (messages_grow kind (taken ++ old) (bytes ++ front) rest (take used left) are) (step rest held).1)

-- a step meets a fault
pub fault_all : (kind : Kind) (asks : Bool) (bytes piece front left : List ℕ) (taken : List Message) (old new : List Message) (before : Stage) (kept pending : List ℕ) (fault : FrameFault)
    → piece ≡ front ++ left → HoldsMessages kind (bytes ++ front) taken old before kept
    → ((rest : List ℕ) → HoldsRest kind before kept rest → AdvanceIs kind asks rest left old new pending (Err fault))
    → HoldsFaulty kind (bytes ++ piece) taken new (record { fault = fault; expects = asks })
fault_all kind asks bytes piece front left taken old new before kept pending fault is (rest, are, held) step =
    let failed = step rest held in
    let whole : (bytes ++ front) ++ left ≡ bytes ++ piece = append_assoc bytes front left ∙ ap (λ (t : List ℕ). bytes ++ t) (sym is) in (
      rest ++ left,
      subst (λ (q : List Message). AreMessages kind (bytes ++ piece) (taken ++ q) (rest ++ left)) (sym failed.0)
          (subst (λ (b : List ℕ). AreMessages kind b (taken ++ old) (rest ++ left)) whole
          (messages_grow kind (taken ++ old) (bytes ++ front) rest left are)),
      failed.1,
    )

-- nothing of the piece is left
pub all_read : (kind : Kind) (bytes piece front left : List ℕ) (taken : List Message) (queue : List Message) (stage : Stage) (pending : List ℕ)
    → piece ≡ front ++ left → length left ≡ 0 → HoldsMessages kind (bytes ++ front) taken queue stage pending → HoldsMessages kind (bytes ++ piece) taken queue stage pending
all_read kind bytes piece front [] taken queue stage pending is none all =
    subst (λ (t : List ℕ). HoldsMessages kind (bytes ++ t) taken queue stage pending) (sym (is ∙ append-nil front)) all
all_read kind bytes piece front (b ∷ left) taken queue stage pending is none all = absurd (omega arith)

-- ---- the fault

pub not_faulty : (kind : Kind) (stage : Stage) (pending rest : List ℕ) → ((broken : Broken) → stage ≡ stages.Faulty broken → ⊥) → HoldsStage kind stage pending rest → HoldsRest kind stage pending rest
not_faulty kind (stages.Head room progress) pending rest good held = held
not_faulty kind (stages.Body message body part) pending rest good held = held
not_faulty kind (stages.Faulty fault) pending rest good held = absurd (good fault refl)

pub still_held : (kind : Kind) (stage : Stage) (pending rest : List ℕ) → HoldsRest kind stage pending rest → HoldsStage kind stage pending rest
still_held kind (stages.Head room progress) pending rest held = held
still_held kind (stages.Body message body part) pending rest held = held
still_held kind (stages.Faulty fault) pending rest held = absurd held

pub no_fault : (kind : Kind) (stage : Stage) (pending rest : List ℕ) → HoldsRest kind stage pending rest → stage_fault stage ≡ None
no_fault kind (stages.Head room progress) pending rest held = refl
no_fault kind (stages.Body message body part) pending rest held = refl
no_fault kind (stages.Faulty fault) pending rest held = absurd held

-- a stage with a fault was broken by it
pub faulty_stage : (stage : Stage) (fault : FrameFault) → stage_fault stage ≡ Some fault → (broken : Broken) × (stage ≡ stages.Faulty broken)
faulty_stage (stages.Head room progress) fault is = cc
faulty_stage (stages.Body message body part) fault is = cc
faulty_stage (stages.Faulty broken) fault is = (broken, refl)

pub same_fault : (stage : Stage) (broken : Broken) (fault : FrameFault) → stage ≡ stages.Faulty broken → stage_fault stage ≡ Some fault → broken.fault ≡ fault
same_fault stage broken fault is met = let both : Some broken.fault ≡ Some fault = sym (ap stage_fault is) ∙ met in cc

-- a fault stays where more bytes come
pub fault_again : (kind : Kind) (bytes piece rest : List ℕ) (messages : List Message) (broken : Broken) → AreMessages kind bytes messages rest → BreaksAs kind rest broken
    → (after : List ℕ) × AreMessages kind (bytes ++ piece) messages after × BreaksAs kind after broken
fault_again kind bytes piece rest messages broken are breaks = (rest ++ piece, messages_grow kind messages bytes rest piece are, broken_stays kind rest piece broken breaks)

-- ---- the end

held_unless_fault : (kind : Kind) (stage : Stage) (pending rest : List ℕ) → stage_fault stage ≡ None → HoldsStage kind stage pending rest → HoldsRest kind stage pending rest
held_unless_fault kind (stages.Head room progress) pending rest none held = held
held_unless_fault kind (stages.Body message body part) pending rest none held = held
held_unless_fault kind (stages.Faulty fault) pending rest none held = cc

not_empty : (rest : List ℕ) → 0 < length rest → rest ≢ []
not_empty rest some is = let none = ap length is in omega arith

-- bytes of a message that hasn't ended are inside it
pub ends_inside : (kind : Kind) (bytes rest pending : List ℕ) (messages : List Message) (stage : Stage) → AreMessages kind bytes messages rest → stage_fault stage ≡ None
    → HoldsStage kind stage pending rest → (HoldsRest kind stage pending rest → 0 < length rest) → ReadsMessages kind bytes messages inside
ends_inside kind bytes rest pending messages stage are none stands some =
    let held = held_unless_fault kind stage pending rest none stands in
    (rest, are, (not_empty rest (some held), open_no_message kind stage pending rest held, open_no_fault kind stage pending rest held))

nothing_kept : (rest : List ℕ) → length rest ≡ 0 → rest ≡ []
nothing_kept [] none = refl
nothing_kept (b ∷ rest) none = absurd (omega arith)

module _ (kind : Kind) (rest : List ℕ) (room : ℕ) (progress : HeadProgress) (pending : List ℕ) (held : HoldsHead kind rest room progress pending) where
  rest_length : length rest ≡ length (print_heads held.passed) + length pending
  rest_length = ap length held.passes.text_is ∙ length-append (print_heads held.passed) pending

  -- where nothing of a head is kept and the whole limit is left, nothing has come
  nothing_came : room ≡ 16384 → length pending ≡ 0 → rest ≡ []
  nothing_came whole none =
      let long = rest_length in
      let room_is = held.room_is in
      nothing_kept rest (omega (arith, held.passes.short))

  -- else something has
  kept_is_rest : 0 < length pending → 0 < length rest
  kept_is_rest some = let long = rest_length in omega arith

  room_is_rest : (room ≡ 16384 → ⊥) → 0 < length rest
  room_is_rest other = by_length (lt_or_le 0 (length rest))
    where
      by_length : (0 < length rest) ⊎ (length rest ≤ 0) → 0 < length rest
      by_length (inl some) = some
      by_length (inr none) =
          let long = rest_length in
          let room_is = held.room_is in
          absurd (other (omega (arith, held.passes.short)))

-- the rest in a body isn't empty
pub body_not_empty : (kind : Kind) (rest pending : List ℕ) (stage : Stage) → HoldsRest kind stage pending rest → ((room : ℕ) (progress : HeadProgress) → stage ≡ stages.Head room progress → ⊥) → 0 < length rest
body_not_empty kind rest pending (stages.Head room progress) held other = absurd (other room progress refl)
body_not_empty kind rest pending (stages.Faulty fault) held other = absurd held
body_not_empty kind rest pending (stages.Body message body part) held other =
    let long : length rest ≡ length (print_heads held.passed) + length held.from = ap length held.passes.text_is ∙ length-append (print_heads held.passed) held.from in
    let head : length held.from ≡ length (print_head held.head) + length held.behind = ap length held.begins.reads.1 ∙ length-append (print_head held.head) held.behind in
    let some = head_not_empty held.head in
    omega arith

module _ (kind : Kind) (pending rest : List ℕ) (stage : Stage) (room : ℕ) (progress : HeadProgress) (is : stage ≡ stages.Head room progress) where
  in_head : HoldsRest kind stage pending rest → HoldsHead kind rest room progress pending
  in_head held = subst (λ (s : Stage). HoldsRest kind s pending rest) is held

  pub head_kept : 0 < length pending → HoldsRest kind stage pending rest → 0 < length rest
  head_kept some held = kept_is_rest kind rest room progress pending (in_head held) some

  pub head_passed : (room ≡ 16384 → ⊥) → HoldsRest kind stage pending rest → 0 < length rest
  head_passed other held = room_is_rest kind rest room progress pending (in_head held) other

  -- nothing has come of the next message
  pub ends_between : (bytes : List ℕ) (messages : List Message) → AreMessages kind bytes messages rest → HoldsStage kind stage pending rest → room ≡ 16384 → length pending ≡ 0
      → ReadsMessages kind bytes messages between
  ends_between bytes messages are stands whole none =
      let head = subst (λ (s : Stage). HoldsStage kind s pending rest) is stands in
      (rest, are, nothing_came kind rest room progress pending head whole none)

-- a reader that took a message, or none, still was given some bytes
pub still_reader : (kind : Kind) (bytes rest pending : List ℕ) (taken old new : List Message) (stage : Stage) (result : Option Message) → AreMessages kind bytes (taken ++ old) rest
    → HoldsStage kind stage pending rest → IfNone result ((new ≡ old)) → IfSome result (λ message. old ≡ message ∷ new)
    → (more : List Message) × AreMessages kind bytes (more ++ new) rest
still_reader kind bytes rest pending taken old new stage None are stands none some =
    (taken, subst (λ (q : List Message). AreMessages kind bytes (taken ++ q) rest) (sym none) are)
still_reader kind bytes rest pending taken old new stage (Some message) are stands none some = (
  taken ++ message ∷ [],
  subst (λ (q : List Message). AreMessages kind bytes q rest) (ap (λ (q : List Message). taken ++ q) some ∙ sym (append_assoc taken (message ∷ []) new)) are,
)

-- where no fault was met, the bytes end between two messages or inside one
pub decided_open : (kind : Kind) (bytes rest pending : List ℕ) (messages : List Message) (stage : Stage) → AreMessages kind bytes messages rest → HoldsRest kind stage pending rest
    → ReadsMessages kind bytes messages between ⊎ ReadsMessages kind bytes messages inside
decided_open kind bytes rest pending messages stage are held = by_length (lt_or_le 0 (length rest))
  where
    by_length : (0 < length rest) ⊎ (length rest ≤ 0) → ReadsMessages kind bytes messages between ⊎ ReadsMessages kind bytes messages inside
    by_length (inl some) = inr (rest, are, (not_empty rest some, open_no_message kind stage pending rest held, open_no_fault kind stage pending rest held))
    by_length (inr none) = inl (rest, are, nothing_kept rest (omega arith))

-- where one was met, it is that of the bytes
pub decided_fault : (kind : Kind) (bytes rest : List ℕ) (messages : List Message) (fault : FrameFault) → AreMessages kind bytes messages rest → TellsFault kind rest fault
    → Decides {T = Unit {0}} kind bytes messages (Err fault)
decided_fault kind bytes rest messages faults.OutOfMemory are tells = (rest, are)
decided_fault kind bytes rest messages faults.BadHead are tells = (rest, are, tells)
decided_fault kind bytes rest messages faults.TooManyFields are tells = (rest, are, tells)
decided_fault kind bytes rest messages faults.HeadTooLong are tells = (rest, are, tells)
decided_fault kind bytes rest messages faults.BadHost are tells = (rest, are, tells)
decided_fault kind bytes rest messages faults.TwoLengths are tells = (rest, are, tells)
decided_fault kind bytes rest messages faults.BadLength are tells = (rest, are, tells)
decided_fault kind bytes rest messages (faults.BodyTooLong size limit) are tells = (rest, are, tells)
decided_fault kind bytes rest messages faults.BadChunk are tells = (rest, are, tells)
