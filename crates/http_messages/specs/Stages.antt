-- What a reader keeps of the rest behind the last whole message.
use Rattle.std.specs.Prelude.{◌≡◌, ◌⊎◌, ◌+◌, ◌<◌, ◌≤◌, ◌-◌, ℕ, List, [], ◌∷◌, ◌++◌}
use Rattle.std.specs.Prelude.{length, take, Option, Some, None, Result, Ok, Err, codes}
use Rattle.std.specs.List.{flat_map}
use Rattle.httparse.specs.Grammar.{print_version, ChunkLine, print_chunk_line, chunk_size}
use Rattle.httparse.specs.Grammar.{HasNoChunkLine, NeverHasChunkLine, HasNoSection, NeverHasSection}
use Rattle.http_heads.specs.Heads.{Head, print_head, HasNoHead, IsBadHead, IsInterim}
use Rattle.http_heads.specs.Framing.{most_body}
use Rattle.http_messages.specs.Chunks.{most_line, most_trailers, IsShortLine}
use Rattle.http_messages.specs.Chunks.{AreChunks, data_of, print_chunk, Chunk}
use Rattle.http_messages.specs.Messages.{message_of, BeginsWithHead}
use Rattle.http_messages.specs.Messages.{framing_behind, IsBody, IsBodyFault}
use Rattle.http_heads.specs.Follow.{Follows}
use Rattle.http_messages.specs.Line.{FollowsLine}
use Rattle.http_messages.specs.Front.{TellsFaultAt}
use Rattle.http_heads.specs.declared.progress.HeadProgress.{HeadProgress}
use Rattle.http_heads.specs.declared.message.Kind.{Kind}
use Rattle.http_heads.specs.declared.message.Kind.TheVariants.{Replies}
use Rattle.http_heads.specs.declared.framing.FrameFault.{FrameFault}
use Rattle.http_heads.specs.declared.framing.FrameFault.TheVariants.{OutOfMemory}
use Rattle.http_heads.specs.declared.framing.Framing.{Framing}
use Rattle.http_heads.specs.declared.framing.Framing.TheVariants as framings
use Rattle.http_messages.specs.declared.stage.HeadEnd.{HeadEnd}
use Rattle.http_messages.specs.declared.stage.HeadEnd.TheVariants.{Open, Interim, Whole}
use Rattle.http_messages.specs.declared.stage.BodyPart.{BodyPart}
use Rattle.http_messages.specs.declared.stage.BodyPart.TheVariants.{Sized, Line, Content}
use Rattle.http_messages.specs.declared.stage.BodyPart.TheVariants.{ContentEnd, Trailers}

-- a head that hasn't ended, and has no fault
pub record IsOpenHead (kind : Kind) (room : ℕ) (text : List ℕ) : Type 0 where
  pub short : length text < room
  pub none : HasNoHead kind text
  pub good : ¬ (IsBadHead kind text)

-- a chunk line that hasn't ended, and has no fault
pub record IsOpenLine (text : List ℕ) : Type 0 where
  pub short : length text < most_line
  pub none : HasNoChunkLine text
  pub good : ¬ (NeverHasChunkLine text)

-- a trailer section that hasn't ended, and has no fault
pub record AreOpenTrailers (text : List ℕ) : Type 0 where
  pub short : length text < most_trailers
  pub none : HasNoSection text
  pub good : ¬ (NeverHasSection text)

-- behind these chunks, within a chunk of this line: its content so far, of which so many
-- bytes are left
pub record IsInChunk (body behind content : List ℕ) (left : ℕ) : Type 0 where
  pub chunks : List Chunk
  pub line : ChunkLine
  pub before : AreChunks chunks
  pub short : IsShortLine line
  pub size : chunk_size line ≡ length content + left
  pub some : 0 < chunk_size line
  pub fits : length (data_of chunks) + chunk_size line ≤ most_body
  pub body_is : body ≡ data_of chunks ++ content
  pub behind_is : behind ≡ flat_map print_chunk chunks ++ (print_chunk_line line ++ content)

-- behind these chunks
pub record IsAtLine (body behind text : List ℕ) : Type 0 where
  pub chunks : List Chunk
  pub before : AreChunks chunks
  pub body_is : body ≡ data_of chunks
  pub behind_is : behind ≡ flat_map print_chunk chunks ++ text

-- behind these chunks and the last chunk's line
pub record IsAtTrailers (body behind text : List ℕ) : Type 0 where
  pub chunks : List Chunk
  pub last : ChunkLine
  pub before : AreChunks chunks
  pub short : IsShortLine last
  pub zero : chunk_size last ≡ 0
  pub body_is : body ≡ data_of chunks
  pub behind_is : behind ≡ flat_map print_chunk chunks ++ (print_chunk_line last ++ text)

-- a chunked body in which the line of a chunk comes next, of which this much has come
abbrev pub HoldsLine : Framing → List ℕ → List ℕ → List ℕ → Type 0
HoldsLine framing body behind text = (framing ≡ framings.Chunked) × IsAtLine body behind text

-- and one in which the trailers do
abbrev pub HoldsTrailers : Framing → List ℕ → List ℕ → List ℕ → Type 0
HoldsTrailers framing body behind text =
    (framing ≡ framings.Chunked) × IsAtTrailers body behind text

-- trailers are followed as the fields behind a status line are
abbrev pub some_status_line : List ℕ
some_status_line = print_version 1 ++ 32 ∷ (codes "200" ++ 10 ∷ [])

abbrev pub FollowsTrailers : List ℕ → HeadProgress → Type 0
FollowsTrailers text progress = Follows Replies (some_status_line ++ text) progress

-- of what stands behind a head, the body has come so far, and pending is the start of this part
abbrev pub HoldsPart : BodyPart → List ℕ → List ℕ → Framing → List ℕ → Type 0
HoldsPart (Sized left) body pending framing behind =
    (0 < left) × (framing ≡ framings.Sized (length body + left)) × (behind ≡ body) × (pending ≡ [])
HoldsPart (Line at) body pending framing behind =
    HoldsLine framing body behind pending × IsOpenLine pending × FollowsLine pending at
HoldsPart (Content left) body pending framing behind =
    (framing ≡ framings.Chunked) × (0 < left)
    × ((content : List ℕ) × IsInChunk body behind content left) × (pending ≡ [])
HoldsPart ContentEnd body pending framing behind =
    (framing ≡ framings.Chunked)
    × ((content before : List ℕ) × IsInChunk body before content 0 × (behind ≡ before ++ pending))
    × ((pending ≡ []) ⊎ (pending ≡ 13 ∷ []))
HoldsPart (Trailers progress) body pending framing behind =
    HoldsTrailers framing body behind pending × AreOpenTrailers pending
    × FollowsTrailers pending progress

-- some bytes behind some head are a body that has come so far
abbrev pub IsSomePart : BodyPart → List ℕ → List ℕ → Type 0
IsSomePart part body pending =
    (framing : Framing) × (behind : List ℕ) × HoldsPart part body pending framing behind

-- the fault of a body, unless memory ran out
abbrev pub TellsBodyFault : Framing → List ℕ → FrameFault → Type 0
TellsBodyFault framing behind OutOfMemory = Unit {0}
TellsBodyFault framing behind fault = IsBodyFault framing behind fault

-- so many bytes of a piece were used, and there were some
abbrev pub UsesSome : List ℕ → ℕ → Type 0
UsesSome piece used = (0 < used) × (used ≤ length piece)

-- a head goes on, or is whole, or has a fault
abbrev pub HeadStepIs : Kind → ℕ → List ℕ → List ℕ → List ℕ
    → Result (ℕ × HeadEnd) FrameFault → Type 0
HeadStepIs kind room old new piece (Ok (used, Open progress)) = UsesSome piece used
    × (new ≡ old ++ take used piece) × IsOpenHead kind room new × Follows kind new progress
HeadStepIs kind room old new piece (Ok (used, Interim left)) =
    UsesSome piece used × (new ≡ [])
    × ((head : Head) × IsInterim kind head × (old ++ take used piece ≡ print_head head)
    × (length (print_head head) ≤ room) × (left ≡ room - length (print_head head)))
HeadStepIs kind room old new piece (Ok (used, Whole message framing)) =
    UsesSome piece used × (new ≡ [])
    × ((head : Head) × BeginsWithHead kind room (old ++ take used piece) head []
    × (framing_behind head ≡ Ok framing) × (message ≡ message_of head []))
HeadStepIs kind room old new piece (Err fault) = TellsFaultAt kind room (old ++ piece) fault

-- a body goes on, or is whole, or has a fault
abbrev pub PartStepIs : Framing → List ℕ → List ℕ → List ℕ → List ℕ
    → Result (ℕ × Option BodyPart) FrameFault → Type 0
PartStepIs framing behind piece body pending (Ok (used, None)) =
    UsesSome piece used × IsBody framing (behind ++ take used piece) body × (pending ≡ [])
PartStepIs framing behind piece body pending (Ok (used, Some part)) =
    UsesSome piece used × HoldsPart part body pending framing (behind ++ take used piece)
PartStepIs framing behind piece body pending (Err fault) =
    TellsBodyFault framing (behind ++ piece) fault
