-- What commands print of a text, or why they don't.
use Rattle.std.specs.Prelude.{◌≡◌, ℕ, List, [], ◌∷◌, ◌++◌, length, Option, codes}
use Rattle.std.specs.Fmt.{decimal}
use Rattle.delta_base.specs.declared.id.Id.{Id}
use Rattle.rdf_terms.specs.Line.{lines}
use Rattle.chain_core.specs.Ids.{last_of}
use Rattle.chain_core.specs.Links.{IsChain, link_ids}
use Rattle.patch_meaning.specs.Patch.{Meaning}
use Rattle.patch_meaning.specs.Replay.{links_said, replay}
use Rattle.patch_meaning.specs.Stream.{IsStream}
use Rattle.stream_replay.specs.Places.{IsFaultyStream, IsLong}
use Rattle.stream_replay.specs.Source.{ReadsBytes, IsTooLong, IsUnchained, stream_limit}
use Rattle.std.specs.Borrow.{Bor}
use Rattle.sink_writing.specs.Writing.{joined}
use Rattle.stream_replay.specs.declared.fault.ReplayFault.{ReplayFault}
use Rattle.stream_replay.specs.declared.fault.ReplayFault.TheVariants as replays
use Rattle.stream_generator.specs.Generator.{stream_text}
use Rattle.command_tables.specs.Channels.{Channel, ChannelFailed, IsSilent, WritesText, WritesFront}
use Rattle.delta_cli.specs.Document.{IsShown, IsFaultyDocument}
use Rattle.slot_checks.specs.Lines.{id_or_none}
use Rattle.command_tables.specs.declared.refusal.Refusal.{Refusal}
use Rattle.command_tables.specs.declared.refusal.Refusal.TheVariants as refusals

-- where the input tells its bytes, it was read to its end, has at most 268,435,456 bytes, and
-- they are such
abbrev pub ReadsInput : Channel → Channel → (List ℕ → Type 0) → Type 0
ReadsInput before after IsSuch = ReadsBytes before.bytes after.bytes IsSuch

-- what the text has as its result was written
pub record Prints (Has : List ℕ → List ℕ → Type 0) (out out' : Channel)
    (text : List ℕ) : Type 0 where
  pub result : List ℕ
  pub has : Has text result
  pub written : WritesText out out' result

-- out failed, and a front of it was written
pub record PrintsFront (Has : List ℕ → List ℕ → Type 0) (out out' : Channel)
    (text : List ℕ) : Type 0 where
  pub result : List ℕ
  pub has : Has text result
  pub written : WritesFront out out' result

-- the text is a stream whose patches are a chain, and these are the canonical lines of the dataset
-- that they make
pub record HasReplayLines (text result : List ℕ) : Type 0 where
  pub patches : List Meaning
  pub stream : IsStream text patches
  pub chain : IsChain (links_said patches)
  pub lines_are : result ≡ lines (replay patches).quads

-- so many patches and quads, and the last patch's id
abbrev pub counts_line : ℕ → ℕ → Option Id → List ℕ
counts_line patches quads head = codes "patches " ++ (decimal patches
    ++ (codes " quads " ++ (decimal quads ++ (codes " head " ++ (id_or_none head ++ 10 ∷ [])))))

-- the generator's stream of so many patches, replayed: how many they are, how many quads they
-- leave, and the last one's id
pub record IsGeneratedLine (patches : ℕ) (text : List ℕ) : Type 0 where
  pub meanings : List Meaning
  pub stream : IsStream (stream_text patches) meanings
  pub chain : IsChain (links_said meanings)
  pub text_is : text ≡ counts_line (length meanings) (length (replay meanings).quads)
      (last_of (link_ids (links_said meanings)))

-- these are the canonical lines of the text
abbrev pub AreShown : List (Bor (List ℕ)) → List ℕ → Type 0
AreShown lines text = IsShown text (joined lines)

-- the end of a command whose input has no replay
abbrev pub refusal_of : ReplayFault → Refusal
refusal_of (replays.Stream line at kind) = refusals.Stream line at kind
refusal_of (replays.LongPatch size limit) = refusals.LongPatch size limit
refusal_of (replays.Chain fault) = refusals.Chain fault
refusal_of replays.TooLong = refusals.TooLong stream_limit
refusal_of replays.Failed = refusals.InputFailed
refusal_of replays.OutOfMemory = refusals.OutOfMemory

-- why a text that was made is not printed
abbrev pub StopsPrinting : List ℕ → Channel → Channel → Refusal → Type 0
StopsPrinting text out out' refusals.OutputFailed =
    ChannelFailed out out' × WritesFront out out' text
StopsPrinting text out out' refusals.OutOfMemory = IsSilent out out'
StopsPrinting text out out' other = ⊥

-- why the counts of a generated stream are not printed
abbrev pub StopsGenerating : ℕ → Channel → Channel → Refusal → Type 0
StopsGenerating patches out out' refusal =
    (text : List ℕ) × IsGeneratedLine patches text × StopsPrinting text out out' refusal

-- why a text has no canonical form
abbrev pub StopsDocument : List ℕ → Refusal → Type 0
StopsDocument text (refusals.Document line at kind) = IsFaultyDocument line at kind text
StopsDocument text refusals.OutOfMemory = Unit {0}
StopsDocument text other = ⊥

-- why an input is not read to its end
abbrev pub StopsReading : Channel → Channel → Refusal → Type 0
StopsReading input input' (refusals.TooLong limit) =
    IsTooLong input.bytes input'.bytes × (limit ≡ stream_limit)
StopsReading input input' refusals.InputFailed = ChannelFailed input input'
StopsReading input input' refusals.OutOfMemory = Unit {0}
StopsReading input input' other = ⊥

-- why `replay` prints no lines of its input
abbrev pub StopsReplay : Refusal → Channel → Channel → Channel → Channel → Type 0
StopsReplay (refusals.Stream line at kind) input input' out out' =
    ReadsInput input input' (IsFaultyStream line at kind) × IsSilent out out'
StopsReplay (refusals.LongPatch size limit) input input' out out' =
    ReadsInput input input' (IsLong size limit) × IsSilent out out'
StopsReplay (refusals.Chain fault) input input' out out' =
    ReadsInput input input' (IsUnchained fault) × IsSilent out out'
StopsReplay (refusals.TooLong limit) input input' out out' =
    IsTooLong input.bytes input'.bytes × (limit ≡ stream_limit) × IsSilent out out'
StopsReplay refusals.InputFailed input input' out out' =
    ChannelFailed input input' × IsSilent out out'
StopsReplay refusals.OutputFailed input input' out out' =
    ChannelFailed out out' × ReadsInput input input' (PrintsFront HasReplayLines out out')
StopsReplay refusals.OutOfMemory input input' out out' = IsSilent out out'
StopsReplay other input input' out out' = ⊥

-- why `nquads` prints no lines of its input
abbrev pub StopsNquads : Refusal → Channel → Channel → Channel → Channel → Type 0
StopsNquads (refusals.Document line at kind) input input' out out' =
    ReadsInput input input' (IsFaultyDocument line at kind) × IsSilent out out'
StopsNquads (refusals.TooLong limit) input input' out out' =
    IsTooLong input.bytes input'.bytes × (limit ≡ stream_limit) × IsSilent out out'
StopsNquads refusals.InputFailed input input' out out' =
    ChannelFailed input input' × IsSilent out out'
StopsNquads refusals.OutputFailed input input' out out' =
    ChannelFailed out out' × ReadsInput input input' (PrintsFront IsShown out out')
StopsNquads refusals.OutOfMemory input input' out out' = IsSilent out out'
StopsNquads other input input' out out' = ⊥

-- why a known text is not written
abbrev pub StopsWriting : List ℕ → Refusal → Channel → Channel → Type 0
StopsWriting text refusals.OutputFailed out out' =
    ChannelFailed out out' × WritesFront out out' text
StopsWriting text other out out' = ⊥

-- why a text is not written whose parts are made on the way; all memory is taken before
-- its first byte
abbrev pub StopsEmitting : List ℕ → Refusal → Channel → Channel → Type 0
StopsEmitting text refusals.OutOfMemory out out' = IsSilent out out'
StopsEmitting text other out out' = StopsWriting text other out out'
