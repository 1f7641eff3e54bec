-- Whether the head at the front of a reader asks for 100 Continue.
use Rattle.std.proofs.Common.{◌≡◌, ℕ, Bool, true, false, ◌⊎◌, List, [], ◌∷◌, ◌++◌, length, take, Some, Ok, Err, refl, sym, ap, ◌∙◌, subst, inl, inr, arith}
use Rattle.std.proofs.lemmas.List.{append-nil}
use Rattle.http_heads.specs.Heads.{Head, fields_of, ReadsHead, room_behind}
use Rattle.http_messages.specs.Messages.{head_expects, framing_behind, BeginsWithHead, BeginsWithGoodHead, AreMessages}
use Rattle.http_messages.specs.Front.{TellsFaultAt}
use Rattle.http_text.specs.Readers.{HoldsHead, HoldsStage, HasHeadFault, KnowsAsk, stage_fault, stage_expects, asks_first}
use Rattle.http_text.specs.Taken.{AsksBehind}
use Rattle.http_heads.specs.declared.progress.HeadProgress.{HeadProgress}
use Rattle.http_heads.specs.declared.framing.FrameFault.{FrameFault}
use Rattle.http_heads.specs.declared.framing.FrameFault.TheVariants as faults
use Rattle.http_heads.specs.declared.framing.Framing.{Framing}
use Rattle.http_heads.specs.declared.message.Kind.{Kind}
use Rattle.http_heads.specs.declared.message.Message.{Message}
use Rattle.http_text.specs.declared.reader.Stage.{Stage}
use Rattle.http_text.specs.declared.reader.Stage.TheVariants as stages
use Rattle.http_heads.proofs.HeadLaws.{head_unique, head_grows}
use Rattle.http_text.proofs.PassLemmas.{HasNoInterim, same_passed, no_interim_none, no_interim_begins, no_interim_fault, head_in_front}
use Rattle.http_text.proofs.ReaderLemmas.{good_head, message_head}
use Rattle.http_text.proofs.UniqueLemmas.{message_same}

-- ---- the head at the front of a rest is one

pub asks_once : (kind : Kind) (rest : List ℕ) (a b : Bool) → BeginsWithGoodHead kind rest a → BeginsWithGoodHead kind rest b → a ≡ b
asks_once kind rest a b one two =
    let place = same_passed kind rest one.passed two.passed one.from two.from one.passes two.passes
    (no_interim_begins kind (room_behind one.passed) one.from one.head one.behind one.begins)
    (no_interim_begins kind (room_behind two.passed) two.from two.head two.behind two.begins) in
    let heads = head_unique kind one.from one.head two.head one.behind two.behind one.begins.reads
    (subst (λ (t : List ℕ). ReadsHead kind t two.head two.behind) (sym place.1) two.begins.reads) in
    sym one.asks_is ∙ ap head_expects heads.0 ∙ two.asks_is

-- a head that hasn't ended asks for nothing
open_asks_nothing : (kind : Kind) (rest : List ℕ) (room : ℕ) (progress : HeadProgress) (pending : List ℕ) (asks : Bool) → HoldsHead kind rest room progress pending
    → BeginsWithGoodHead kind rest asks → ⊥
open_asks_nothing kind rest room progress pending asks held good =
    let place = same_passed kind rest held.passed good.passed pending good.from held.passes good.passes
    (no_interim_none kind (room_behind held.passed) pending held.still.none)
    (no_interim_begins kind (room_behind good.passed) good.from good.head good.behind good.begins) in
    held.still.none good.head good.behind (subst (λ (t : List ℕ). ReadsHead kind t good.head good.behind) (sym place.1) good.begins.reads)

-- a head with a fault asks for nothing
module _ (kind : Kind) (room : ℕ) (text behind : List ℕ) (head : Head) (framing : Framing) (begins : BeginsWithHead kind room text head behind)
    (ok : framing_behind head ≡ Ok framing) where
  other_fault : (fault : FrameFault) (other : Head) (after : List ℕ) → BeginsWithHead kind room text other after → framing_behind other ≡ Err fault → ⊥
  other_fault fault other after it err =
      let same = head_unique kind text head other behind after begins.reads it.reads in
      let both : Ok framing ≡ Err fault = sym ok ∙ ap framing_behind same.0 ∙ err in
      cc

  good_has_no_fault : (fault : FrameFault) → TellsFaultAt kind room text fault → (fault ≡ faults.OutOfMemory → ⊥) → ⊥
  good_has_no_fault faults.OutOfMemory tells other = other refl
  good_has_no_fault faults.BadHead tells other =
      tells.1 [] head _ (head_grows kind (take room text) head _ [] (head_in_front kind room text head behind begins.reads begins.short))
  good_has_no_fault faults.TooManyFields (more, after, reads, over) other =
      let same = head_unique kind (take room text) head more _ after (head_in_front kind room text head behind begins.reads begins.short) reads in
      omega (arith, begins.few, ap (λ (h : Head). length (fields_of h)) same.0)
  good_has_no_fault faults.HeadTooLong (long, none, good) other = none head _ (head_in_front kind room text head behind begins.reads begins.short)
  good_has_no_fault faults.BadHost (one, after, it, err) other = other_fault faults.BadHost one after it err
  good_has_no_fault faults.TwoLengths (one, after, it, err) other = other_fault faults.TwoLengths one after it err
  good_has_no_fault faults.BadLength (one, after, it, err) other = other_fault faults.BadLength one after it err
  good_has_no_fault (faults.BodyTooLong size limit) (one, after, it, err) other = other_fault (faults.BodyTooLong size limit) one after it err
  good_has_no_fault faults.BadChunk (one, after, it, err) other = other_fault faults.BadChunk one after it err

no_interim_told : (kind : Kind) (room : ℕ) (text : List ℕ) (fault : FrameFault) → TellsFaultAt kind room text fault → (fault ≡ faults.OutOfMemory → ⊥) → HasNoInterim kind room text
no_interim_told kind room text faults.OutOfMemory tells other = absurd (other refl)
no_interim_told kind room text faults.BadHead tells other = no_interim_fault kind room text faults.BadHead tells
no_interim_told kind room text faults.TooManyFields tells other = no_interim_fault kind room text faults.TooManyFields tells
no_interim_told kind room text faults.HeadTooLong tells other = no_interim_fault kind room text faults.HeadTooLong tells
no_interim_told kind room text faults.BadHost tells other = no_interim_begins kind room text tells.0 tells.1 tells.2
no_interim_told kind room text faults.TwoLengths tells other = no_interim_begins kind room text tells.0 tells.1 tells.2
no_interim_told kind room text faults.BadLength tells other = no_interim_begins kind room text tells.0 tells.1 tells.2
no_interim_told kind room text (faults.BodyTooLong size limit) tells other = no_interim_begins kind room text tells.0 tells.1 tells.2
no_interim_told kind room text faults.BadChunk tells other = no_interim_begins kind room text tells.0 tells.1 tells.2

fault_asks_nothing : (kind : Kind) (rest : List ℕ) (fault : FrameFault) (asks : Bool) → HasHeadFault kind rest fault → (fault ≡ faults.OutOfMemory → ⊥)
    → BeginsWithGoodHead kind rest asks → ⊥
fault_asks_nothing kind rest fault asks (passed, text, passes, tells) other good =
    let place = same_passed kind rest passed good.passed text good.from passes good.passes (no_interim_told kind (room_behind passed) text fault tells other)
    (no_interim_begins kind (room_behind good.passed) good.from good.head good.behind good.begins) in
    let here : BeginsWithHead kind (room_behind passed) good.from good.head good.behind =
    subst (λ (p : List Head). BeginsWithHead kind (room_behind p) good.from good.head good.behind) (sym place.0) good.begins in
    let begins : BeginsWithHead kind (room_behind passed) text good.head good.behind =
    subst (λ (t : List ℕ). BeginsWithHead kind (room_behind passed) t good.head good.behind) (sym place.1) here in
    good_has_no_fault kind (room_behind passed) text good.behind good.head good.framing begins good.faultless fault tells other

memory_or_not : (fault : FrameFault) → (fault ≡ faults.OutOfMemory) ⊎ (fault ≡ faults.OutOfMemory → ⊥)
memory_or_not faults.OutOfMemory = inl refl
memory_or_not faults.BadHead = inr (λ is. cc)
memory_or_not faults.TooManyFields = inr (λ is. cc)
memory_or_not faults.HeadTooLong = inr (λ is. cc)
memory_or_not faults.BadHost = inr (λ is. cc)
memory_or_not faults.TwoLengths = inr (λ is. cc)
memory_or_not faults.BadLength = inr (λ is. cc)
memory_or_not (faults.BodyTooLong size limit) = inr (λ is. cc)
memory_or_not faults.BadChunk = inr (λ is. cc)

-- ---- by the stage

not_both : (kind : Kind) (rest : List ℕ) → BeginsWithGoodHead kind rest false → BeginsWithGoodHead kind rest true → ⊥
not_both kind rest quiet asks = let both : false ≡ true = asks_once kind rest false true quiet asks in cc

stage_asks : (kind : Kind) (stage : Stage) (pending rest : List ℕ) → HoldsStage kind stage pending rest → stage_expects stage ≡ true → BeginsWithGoodHead kind rest true
stage_asks kind (stages.Head room progress) pending rest held is = cc
stage_asks kind (stages.Body message body part) pending rest held is =
    subst (λ (b : Bool). BeginsWithGoodHead kind rest b) is (good_head kind rest message part pending body.items held)
stage_asks kind (stages.Faulty broken) pending rest held is = subst (λ (b : Bool). KnowsAsk kind rest broken.fault b) is held.1

stage_asks_nothing : (kind : Kind) (stage : Stage) (pending rest : List ℕ) → HoldsStage kind stage pending rest → stage_expects stage ≡ false
    → (stage_fault stage ≡ Some faults.OutOfMemory) ⊎ (BeginsWithGoodHead kind rest true → ⊥)
stage_asks_nothing kind (stages.Head room progress) pending rest held is = inr (λ good. open_asks_nothing kind rest room progress pending true held good)
stage_asks_nothing kind (stages.Body message body part) pending rest held is =
    inr (λ good. not_both kind rest (subst (λ (b : Bool). BeginsWithGoodHead kind rest b) is (good_head kind rest message part pending body.items held)) good)
stage_asks_nothing kind (stages.Faulty broken) pending rest held is =
    known (memory_or_not broken.fault) (subst (λ (b : Bool). KnowsAsk kind rest broken.fault b) is held.1)
  where
    known : (broken.fault ≡ faults.OutOfMemory) ⊎ (broken.fault ≡ faults.OutOfMemory → ⊥) → HasHeadFault kind rest broken.fault ⊎ BeginsWithGoodHead kind rest false
        → (Some broken.fault ≡ Some faults.OutOfMemory) ⊎ (BeginsWithGoodHead kind rest true → ⊥)
    known (inl memory) knows = inl (ap Some memory)
    known (inr other) (inl bad) = inr (λ good. fault_asks_nothing kind rest broken.fault true bad other good)
    known (inr other) (inr quiet) = inr (λ good. not_both kind rest quiet good)

-- ---- behind the messages that were taken

-- the rest behind the same messages is one
pub rest_same : (kind : Kind) (xs : List Message) (bytes a b : List ℕ) → AreMessages kind bytes xs a → AreMessages kind bytes xs b → a ≡ b
rest_same kind [] bytes a b one two = sym one ∙ two
rest_same kind (x ∷ xs) bytes a b (text, more, is, it, others) (front, after, and, that, those) =
    let same = message_same kind text front more after x x it that (sym is ∙ and) in
    rest_same kind xs more a b others (subst (λ (t : List ℕ). AreMessages kind t xs b) (sym same.1) those)

pub taken_front : (kind : Kind) (xs ys : List Message) (bytes rest : List ℕ) → AreMessages kind bytes (xs ++ ys) rest
    → (middle : List ℕ) × AreMessages kind bytes xs middle × AreMessages kind middle ys rest
taken_front kind [] ys bytes rest are = (bytes, refl, are)
taken_front kind (x ∷ xs) ys bytes rest (text, more, is, it, others) =
    let found = taken_front kind xs ys more rest others in
    (found.0, (text, more, is, it, found.1), found.2)

next_head : (kind : Kind) (rest last : List ℕ) (message : Message) (more : List Message) (stage : Stage) (asks : Bool) → AreMessages kind rest (message ∷ more) last
    → asks_first (message ∷ more) stage ≡ asks → BeginsWithGoodHead kind rest asks
next_head kind rest last message more stage asks (text, after, is, it, others) said =
    subst (λ (t : List ℕ). BeginsWithGoodHead kind t asks) (sym is)
    (subst (λ (b : Bool). BeginsWithGoodHead kind (text ++ after) b) said (message_head kind text after message it))

pub front_asks : (kind : Kind) (bytes rest pending : List ℕ) (taken queue : List Message) (stage : Stage) → AreMessages kind bytes (taken ++ queue) rest
    → HoldsStage kind stage pending rest → asks_first queue stage ≡ true → AsksBehind kind bytes taken
front_asks kind bytes rest pending taken [] stage are held is =
    (rest, subst (λ (q : List Message). AreMessages kind bytes q rest) (append-nil taken) are, stage_asks kind stage pending rest held is)
front_asks kind bytes rest pending taken (message ∷ more) stage are held is =
    let found = taken_front kind taken (message ∷ more) bytes rest are in
    (found.0, found.1, next_head kind found.0 rest message more stage true found.2 is)

pub front_asks_nothing : (kind : Kind) (bytes rest pending : List ℕ) (taken queue : List Message) (stage : Stage) → AreMessages kind bytes (taken ++ queue) rest
    → HoldsStage kind stage pending rest → asks_first queue stage ≡ false
    → ((queue ≡ []) × (stage_fault stage ≡ Some faults.OutOfMemory)) ⊎ (AsksBehind kind bytes taken → ⊥)
front_asks_nothing kind bytes rest pending taken [] stage are held is = by_stage [] refl (stage_asks_nothing kind stage pending rest held is)
  where
    by_stage : (queue : List Message) → queue ≡ [] → (stage_fault stage ≡ Some faults.OutOfMemory) ⊎ (BeginsWithGoodHead kind rest true → ⊥)
        → ((queue ≡ []) × (stage_fault stage ≡ Some faults.OutOfMemory)) ⊎ (AsksBehind kind bytes taken → ⊥)
    by_stage queue empty (inl memory) = inl (empty, memory)
    by_stage queue empty (inr none) = inr (λ front.
        let here = subst (λ (q : List Message). AreMessages kind bytes q rest) (append-nil taken) are in
        none (subst (λ (t : List ℕ). BeginsWithGoodHead kind t true) (rest_same kind taken bytes front.0 rest front.1 here) front.2))
front_asks_nothing kind bytes rest pending taken (message ∷ more) stage are held is = inr (λ front.
    let found = taken_front kind taken (message ∷ more) bytes rest are in
    not_both kind found.0 (next_head kind found.0 rest message more stage false found.2 is)
    (subst (λ (t : List ℕ). BeginsWithGoodHead kind t true) (rest_same kind taken bytes front.0 found.0 front.1 found.1) front.2))
