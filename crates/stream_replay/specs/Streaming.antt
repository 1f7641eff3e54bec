-- A stream of which some pieces were read.
use Rattle.std.specs.Prelude.{◌≡◌, ℕ, ◌+◌, ◌-◌, ◌*◌, ◌≤◌, min, nat_lt, Bool, false, List, [], ◌∷◌}
use Rattle.std.specs.Prelude.{◌++◌, length, take, Option, None, Some}
use Rattle.chain_core.specs.declared.testing.ChainFault.{ChainFault}
use Rattle.line_log.specs.Edits.{bytes_of}
use Rattle.log_base.specs.declared.chain_link.ChainLink.{ChainLink}
use Rattle.log_base.specs.declared.limits.TheConstants.{PATCH_LIMIT}
use Rattle.patch_rows.specs.declared.cut.TextEnd.{TextEnd}
use Rattle.patch_rows.specs.declared.cut.TextEnd.TheVariants as ends
use Rattle.patch_rows.specs.declared.row.Row.{Row}
use Rattle.patch_rows.specs.Grammar.{row_limit}
use Rattle.patch_reader.specs.declared.placed.PlacedRow.{PlacedRow}
use Rattle.patch_reader.specs.Rows.{RowsStand}
use Rattle.patch_meaning.specs.declared.fault.PatchFault.{PatchFault}
use Rattle.patch_meaning.specs.declared.part.Part.{Part}
use Rattle.patch_meaning.specs.declared.role.Role.{Role}
use Rattle.patch_meaning.specs.declared.role.Role.TheVariants as roles
use Rattle.patch_meaning.specs.Cutting.{IsCutInto, RefusesStream}
use Rattle.patch_meaning.specs.Patch.{Meaning}
use Rattle.patch_meaning.specs.Replay.{replay}
use Rattle.patch_meaning.specs.Roles.{role, change_of}
use Rattle.rdf_terms.specs.declared.change.Change.{Change}
use Rattle.rdf_terms.specs.Line.{lines}
use Rattle.stream_replay.specs.declared.edits.Edits.{Edits}
use Rattle.stream_replay.specs.declared.fault.ReplayFault.{ReplayFault}
use Rattle.stream_replay.specs.declared.progress.StreamProgress.{StreamProgress}
use Rattle.stream_replay.specs.declared.stream.Streaming.{Streaming}
use Rattle.stream_replay.specs.Edits.{HasEdits, IsEnoughFor, IsShort, edits_by}
use Rattle.stream_replay.specs.Replaying.{IsReplay}
use Rattle.stream_replay.specs.Source.{EndsText}

-- the whole text may be this one: more follows what was fed, or none where its end is known
abbrev pub MayBe : TextEnd → List ℕ → List ℕ → Type 0
MayBe ends.Open text whole = (more : List ℕ) × (whole ≡ text ++ more)
MayBe ends.Known text whole = whole ≡ text

-- ---- what is held

-- what the changes of the patches do, as long as their chain has no fault; behind one nothing
abbrev pub HoldsEdits : Option ChainFault → List Meaning → List Change → Edits → Type 0
HoldsEdits None ms changes e = HasEdits changes (replay ms) e
HoldsEdits (Some fault) ms changes e = e.log ≡ []

-- what is enough goes by the dataset behind a front of the patches
abbrev pub GoesByDataset : List Meaning → Edits → Type 0
GoesByDataset ms e = (n : ℕ) × (n ≤ length ms) × IsEnoughFor (replay (take n ms)) e

-- how many bytes of the open patch stand before a place: no more than the limit of a patch and that
-- of a row, since no row that begins behind the limit is held
abbrev pub open_bytes : Part → ℕ → ℕ
open_bytes p at = min (at - p.from) (PATCH_LIMIT + row_limit)

-- Whatever the stream, the log has no more than is enough, and what the open patch adds: half as
-- many bytes again as the patch has before this place, and one edit for 8 bytes of it.
pub record IsBounded (ms : List Meaning) (p : Part) (at : ℕ) (e : Edits) : Type 0 where
  pub enough : GoesByDataset ms e
  pub begun : p.from ≤ at
  pub bytes : 2 * bytes_of e.log ≤ 2 * e.enough_bytes + 3 * open_bytes p at
  pub edits : 8 * length e.log ≤ 8 * e.enough_edits + open_bytes p at

-- where a patch was completed the log has no more than is enough; else the edits are as they were
abbrev pub IsShortBehind : Option ChainLink → List Meaning → Edits → Edits → Type 0
IsShortBehind None ms old new = new ≡ old
IsShortBehind (Some link) ms old new = IsShort new × GoesByDataset ms new

-- the edits that a row is
abbrev pub edits_said : Role → List (Bool × List ℕ)
edits_said (roles.Change c) = edits_by c
edits_said _ = []

-- ---- rows that were taken

-- The rows up to a place were cut into patches. Those that are complete were applied, and what the
-- changes of the one that may go on do to their dataset is held, in a log that is bounded.
pub record HasStreamed (end : TextEnd) (text : List ℕ) (at : ℕ) (p : StreamProgress) : Type 0 where
  pub rs : List PlacedRow
  pub ms : List Meaning
  pub changes : List Change
  pub reads : RowsStand end text 0 rs at
  pub parts : IsCutInto rs ms changes p.part
  pub edits : HoldsEdits p.replay.fault ms changes p.edits
  pub memory : IsBounded ms p.part at p.edits
  pub replayed : IsReplay ms p.replay

-- the rows before the next one were taken; it says this, and stands between these places
pub record AwaitsRow (end : TextEnd) (text : List ℕ) (p : StreamProgress)
    (says : Role) (at stop : ℕ) : Type 0 where
  pub passed : ℕ
  pub before : HasStreamed end text passed p
  pub row_ : Row
  pub stands : RowsStand end text passed (record { row = row_; at = at; end = stop } ∷ []) stop
  pub says_is : role row_ ≡ says

-- what the changes do is held with that of one more row, where the row begins within the limit
abbrev pub HoldsMore : Option ChainFault → Part → List Meaning → List Change → Role → ℕ → Edits
    → Type 0
HoldsMore fault p ms changes says at e =
    (more : List Change) × HoldsEdits fault ms more e
    × (nat_lt (p.from + PATCH_LIMIT) at ≡ false → more ≡ changes ++ change_of says)

-- ---- faults, whatever follows

-- it is the first fault of the text as a stream; want of memory is free
abbrev pub IsRefusedStream : TextEnd → List ℕ → PatchFault → Type 0
IsRefusedStream end text fault = (whole : List ℕ) → MayBe end text whole → RefusesStream whole fault

-- so the replay of the text ends
abbrev pub IsToldEnd : TextEnd → List ℕ → ReplayFault → Type 0
IsToldEnd end text told = (whole : List ℕ) → MayBe end text whole → EndsText told whole

-- ---- a stream

-- the rows that the window passed were taken
abbrev pub IsStreamRead : TextEnd → Streaming → Type 0
IsStreamRead end s = HasStreamed end s.window.fed s.window.passed s.progress

-- the text was fed, and the rows that were passed were taken; or the fault was met
abbrev pub HasMet : Option ReplayFault → List ℕ → Streaming → Type 0
HasMet None text s = (s.window.fed ≡ text) × IsStreamRead ends.Open s
HasMet (Some told) text s = IsToldEnd ends.Open text told

-- the text was fed
abbrev pub HasFed : List ℕ → Streaming → Type 0
HasFed text s = HasMet s.fault text s

-- no more patches were taken than bytes were passed, as long as there is no fault
abbrev pub IsFew : Streaming → Type 0
IsFew s = s.fault ≡ None → s.progress.replay.chain.version ≤ s.window.passed

-- These patches were taken. The log has at most twice the bytes of the lines of the dataset behind
-- a front of them, and 20 MiB; and at most twice as many edits as that has quads, and 1,114,112.
pub record HasBoundedLog (ms : List Meaning) (p : StreamProgress) : Type 0 where
  pub taken : IsReplay ms p.replay
  pub settled : ℕ
  pub within : settled ≤ length ms
  pub bytes : bytes_of p.edits.log ≤ 2 * length (lines (replay (take settled ms)).quads) + 20971520
  pub edits : length p.edits.log ≤ 2 * length (replay (take settled ms)).quads + 1114112
