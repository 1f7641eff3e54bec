-- What a reader stands for.
use Rattle.std.specs.Prelude.{◌≡◌, ◌⊎◌, ℕ, Bool, true, false, List, [], ◌∷◌}
use Rattle.std.specs.Prelude.{◌++◌, take, Option, Some, None, Result, Ok, Err}
use Rattle.http_heads.specs.Heads.{Head, PassesOver, room_behind}
use Rattle.http_heads.specs.Asking.{message_expects}
use Rattle.http_messages.specs.Messages.{message_of, BeginsWithHead}
use Rattle.http_messages.specs.Messages.{BeginsWithGoodHead, framing_behind, IsMessage}
use Rattle.http_messages.specs.Messages.{IsFrameFault, AreMessages, ReadsMessages, between, inside}
use Rattle.http_messages.specs.Messages.{faulty}
use Rattle.http_heads.specs.Follow.{Follows}
use Rattle.http_messages.specs.Front.{TellsFaultAt}
use Rattle.http_heads.specs.declared.progress.HeadProgress.{HeadProgress}
use Rattle.http_messages.specs.Stages.{IsOpenHead, HoldsPart, UsesSome}
use Rattle.http_heads.specs.declared.framing.FrameFault.{FrameFault}
use Rattle.http_heads.specs.declared.framing.FrameFault.TheVariants.{OutOfMemory}
use Rattle.http_heads.specs.declared.framing.Framing.{Framing}
use Rattle.http_heads.specs.declared.message.Kind.{Kind}
use Rattle.http_heads.specs.declared.message.Message.{Message}
use Rattle.http_messages.specs.declared.stage.BodyPart.{BodyPart}
use Rattle.http_text.specs.declared.reader.Broken.{Broken}
use Rattle.http_text.specs.declared.reader.Stage.{Stage}
use Rattle.http_text.specs.declared.reader.Stage.TheVariants.{Head as InHead, Body, Faulty}
use Rattle.http_text.specs.declared.reader.MessageReader.{MessageReader}

-- the rest is what was passed over, and the front of a head
pub record HoldsHead (kind : Kind) (rest : List ℕ) (room : ℕ) (progress : HeadProgress)
    (pending : List ℕ) : Type 0 where
  pub passed : List Head
  pub passes : PassesOver kind rest passed pending
  pub room_is : room ≡ room_behind passed
  pub still : IsOpenHead kind room pending
  pub follows : Follows kind pending progress

-- the rest is a whole head without a fault, and what has come of its body
pub record HoldsBody (kind : Kind) (rest : List ℕ) (message : Message) (body : List ℕ)
    (part : BodyPart) (pending : List ℕ) : Type 0 where
  pub passed : List Head
  pub from : List ℕ
  pub passes : PassesOver kind rest passed from
  pub head : Head
  pub behind : List ℕ
  pub framing : Framing
  pub begins : BeginsWithHead kind (room_behind passed) from head behind
  pub faultless : framing_behind head ≡ Ok framing
  pub message_is : message ≡ message_of head []
  pub part_is : HoldsPart part body pending framing behind

-- the rest has no fault yet, and has come so far
abbrev pub HoldsRest : Kind → Stage → List ℕ → List ℕ → Type 0
HoldsRest kind (InHead room progress) pending rest = HoldsHead kind rest room progress pending
HoldsRest kind (Body message body part) pending rest =
    HoldsBody kind rest message body.items part pending
HoldsRest kind (Faulty broken) pending rest = ⊥

-- the fault is that of the rest, unless memory ran out
abbrev pub TellsFault : Kind → List ℕ → FrameFault → Type 0
TellsFault kind rest OutOfMemory = Unit {0}
TellsFault kind rest fault = IsFrameFault kind rest fault

-- the rest is what was passed over and a head with this fault, unless memory ran out
abbrev pub HasHeadFault : Kind → List ℕ → FrameFault → Type 0
HasHeadFault kind rest fault = (passed : List Head) × (text : List ℕ)
    × PassesOver kind rest passed text × TellsFaultAt kind (room_behind passed) text fault

-- whether the head in front of a fault is whole, without a fault, and asks for 100 Continue
abbrev pub KnowsAsk : Kind → List ℕ → FrameFault → Bool → Type 0
KnowsAsk kind rest fault true = BeginsWithGoodHead kind rest true
KnowsAsk kind rest fault false = HasHeadFault kind rest fault ⊎ BeginsWithGoodHead kind rest false

-- the rest has this fault, unless memory ran out, and what is told of the head in front of it holds
abbrev pub BreaksAs : Kind → List ℕ → Broken → Type 0
BreaksAs kind rest broken =
    TellsFault kind rest broken.fault × KnowsAsk kind rest broken.fault broken.expects

-- and else it has this fault, unless memory ran out
abbrev pub HoldsStage : Kind → Stage → List ℕ → List ℕ → Type 0
HoldsStage kind (Faulty broken) pending rest = BreaksAs kind rest broken
HoldsStage kind (InHead room progress) pending rest =
    HoldsRest kind (InHead room progress) pending rest
HoldsStage kind (Body message body part) pending rest =
    HoldsRest kind (Body message body part) pending rest

-- the stage and the bytes that are kept go together
abbrev pub CanGoOn : Kind → Stage → List ℕ → Type 0
CanGoOn kind stage pending = (rest : List ℕ) × HoldsRest kind stage pending rest

-- the text is still no whole message, or it is one, which joins the others
abbrev pub NextMessageIs : Kind → List ℕ → List Message → List Message → Stage → List ℕ → Type 0
NextMessageIs kind text old new stage pending =
    ((new ≡ old) × HoldsRest kind stage pending text)
    ⊎ ((message : Message) × (new ≡ old ++ message ∷ []) × IsMessage kind text message
    × HoldsRest kind stage pending [])

-- a step used some of a piece, or met a fault
abbrev pub AdvanceIs : Kind → Bool → List ℕ → List ℕ → List Message → List Message
    → List ℕ → Result (ℕ × Stage) FrameFault → Type 0
AdvanceIs kind asks rest piece old new pending (Ok (used, stage)) =
    UsesSome piece used × NextMessageIs kind (rest ++ take used piece) old new stage pending
AdvanceIs kind asks rest piece old new pending (Err fault) =
    (new ≡ old) × BreaksAs kind (rest ++ piece) (record { fault = fault; expects = asks })

-- the text is what is passed over and a whole head without a fault, of this message
pub record IsHeadOfMessage (kind : Kind) (text : List ℕ) (message : Message)
    (framing : Framing) : Type 0 where
  pub passed : List Head
  pub from : List ℕ
  pub passes : PassesOver kind text passed from
  pub head : Head
  pub begins : BeginsWithHead kind (room_behind passed) from head []
  pub faultless : framing_behind head ≡ Ok framing
  pub message_is : message ≡ message_of head []

-- what a body begins as behind a whole head
abbrev pub BeginsBody : Kind → List ℕ → List Message → List Message
    → Result Stage FrameFault → Type 0
BeginsBody kind text old new (Ok stage) = NextMessageIs kind text old new stage []
BeginsBody kind text old new (Err fault) = (new ≡ old) × (fault ≡ OutOfMemory)

-- where a reader is behind a step in a head, or the fault of the text
abbrev pub EndsHead : Kind → List ℕ → List ℕ → List Message → List Message
    → Result Stage FrameFault → Type 0
EndsHead kind text pending old new (Ok stage) = NextMessageIs kind text old new stage pending
EndsHead kind text pending old new (Err fault) = (new ≡ old) × HasHeadFault kind text fault

-- the bytes are the messages taken and those that wait, and then a rest of which this much is kept
abbrev pub HoldsMessages : Kind → List ℕ → List Message → List Message → Stage → List ℕ → Type 0
HoldsMessages kind bytes taken queue stage pending =
    (rest : List ℕ) × AreMessages kind bytes (taken ++ queue) rest
    × HoldsRest kind stage pending rest

-- the bytes are the messages taken and those that wait, and then a rest with this fault
abbrev pub HoldsFaulty : Kind → List ℕ → List Message → List Message → Broken → Type 0
HoldsFaulty kind bytes taken queue broken =
    (rest : List ℕ) × AreMessages kind bytes (taken ++ queue) rest × BreaksAs kind rest broken

-- a piece was read
abbrev pub ReadsPiece : Kind → List ℕ → List Message → List Message
    → List ℕ → Result Stage Broken → Type 0
ReadsPiece kind bytes taken queue pending (Ok stage) =
    HoldsMessages kind bytes taken queue stage pending
ReadsPiece kind bytes taken queue pending (Err broken) = HoldsFaulty kind bytes taken queue broken

-- the messages that wait to be taken
abbrev pub waiting : MessageReader → List Message
waiting reader = reader.queue.items

-- the fault that was met
abbrev pub stage_fault : Stage → Option FrameFault
stage_fault (InHead room progress) = None
stage_fault (Body message body part) = None
stage_fault (Faulty broken) = Some broken.fault

-- whether the head behind which the stage is asks for 100 Continue
abbrev pub stage_expects : Stage → Bool
stage_expects (InHead room progress) = false
stage_expects (Body message body part) = message_expects message
stage_expects (Faulty broken) = broken.expects

abbrev pub fault_of : MessageReader → Option FrameFault
fault_of reader = stage_fault reader.stage

-- it was answered that the head at the front asks for 100 Continue
abbrev pub was_told : MessageReader → Bool
was_told reader = reader.told

-- whether the head of the next message that waits asks for it, or else the head of the stage
abbrev pub asks_first : List Message → Stage → Bool
asks_first [] stage = stage_expects stage
asks_first (message ∷ messages) stage = message_expects message

-- the reader was given these bytes, and of their messages these were taken
abbrev pub ReaderStandsFor : Kind → List ℕ → List Message → MessageReader → Type 0
ReaderStandsFor kind bytes taken reader =
    (rest : List ℕ) × AreMessages kind bytes (taken ++ waiting reader) rest
    × HoldsStage kind reader.stage reader.pending.items rest

-- a reader that was given some bytes
abbrev pub IsReader : MessageReader → Type 0
IsReader reader =
    (bytes : List ℕ) × (taken : List Message) × ReaderStandsFor reader.kind bytes taken reader

-- the messages so far are those of the bytes, and the fault, where there is one, is theirs
abbrev pub Decides : {T : Type 0} → Kind → List ℕ → List Message → Result T FrameFault → Type 0
Decides kind bytes messages (Ok done) =
    ReadsMessages kind bytes messages between ⊎ ReadsMessages kind bytes messages inside
Decides kind bytes messages (Err OutOfMemory) =
    (rest : List ℕ) × AreMessages kind bytes messages rest
Decides kind bytes messages (Err fault) = ReadsMessages kind bytes messages (faulty fault)
