-- What the tool answers, and why.
use Rattle.std.specs.Prelude.{◌≡◌, ◌⊎◌, ℕ, ◌+◌, List, length}
use Rattle.delta_base.specs.Outside.{Rose}
use Rattle.delta_base.specs.declared.link.Link.{Ghosts as LinkGhosts}
use Rattle.disk_model.specs.declared.shelf.Shelf.{Ghosts as ShelfGhosts}
use Rattle.slot_files.specs.Files.{Files, IsInitial, StopsAt, SameBut, KeepsFull}
use Rattle.stream_generator.specs.Generator.{stream_text}
use Rattle.stream_squash.specs.Squashes.{HasSquashed}
use Rattle.slot_checks.specs.Checks.{AreKept, IsReport, CheckStops}
use Rattle.slot_checks.specs.Lines.{lines_text}
use Rattle.slot_checks.specs.declared.lines.FileLine.{FileLine}
use Rattle.slot_checks.specs.declared.marker.TheConstants.{FILES_MARKER, ZONE_MARKER}
use Rattle.directory_upgrade.specs.Directories.{IsUpgradedDirectory, StopsUpgrade}
use Rattle.directory_upgrade.specs.Zones.{IsUpgradedZone, StopsZoneUpgrade}
use Rattle.delta_client.specs.declared.dial.Dial.{Ghosts as DialGhosts}
use Rattle.delta_cli.specs.Asked.{AppendsInput, Asked, Described}
use Rattle.delta_cli.specs.Asked.{PrintsEnd, StopsAppend, StopsAsking}
use Rattle.command_tables.specs.Channels.{Channel, ChannelFailed, IsSilent, WritesFront, WritesText}
use Rattle.command_tables.specs.Help.{help_text}
use Rattle.delta_cli.specs.Commands.{Asks, RefusesWords}
use Rattle.delta_cli.specs.Document.{IsShown}
use Rattle.command_tables.specs.Refusals.{ReportsRefusal}
use Rattle.delta_cli.specs.Results.{ReadsInput, Prints, HasReplayLines, IsGeneratedLine}
use Rattle.delta_cli.specs.Results.{StopsReplay, StopsNquads, StopsGenerating, StopsEmitting}
use Rattle.delta_cli.specs.Results.{StopsWriting}
use Rattle.delta_cli.specs.Squashes.{HasInverted, StopsInverting, StopsSquashing}
use Rattle.delta_cli.specs.Frames.{LeavesBut, frame}
use Rattle.command_tables.specs.Markers.{StopsAtMark, Unmarked}
use Rattle.command_tables.specs.Views.{ShelfView}
use Rattle.delta_cli.specs.Views.{OutsideView}
use Rattle.delta_cli.specs.Checkpoints.{WritesCheckpoint, StopsCheckpoint}
use Rattle.delta_cli.specs.Syncs.{CatchesUp, StopsSync}
use Rattle.delta_cli.specs.Upgrades.{StopsUpgrading, UpgradesFiles}
use Rattle.delta_cli.specs.Zones.{IsNewZone, KeepsZone, ReadsZone, SparesZone}
use Rattle.delta_cli.specs.Zones.{StopsMaking, StopsZone, bytes_of}
use Rattle.delta_cli.specs.declared.command.Command.{Command}
use Rattle.delta_cli.specs.declared.command.Command.TheVariants as commands
use Rattle.command_tables.specs.declared.refusal.Refusal.{Refusal}
use Rattle.command_tables.specs.declared.refusal.Refusal.TheVariants as refusals
use Rattle.delta_cli.specs.declared.help.TheConstants.{VERSION}

-- where the shelf tells its files, those of the directory that had bytes and those of other names
-- are as they were
abbrev pub Spares : List ℕ → ℕ → Type 0 → Files → Files → Type 0
Spares dir slots tells files files' =
    tells → KeepsFull dir files files' × SameBut dir 0 (slots + 1) files files'

-- where the shelf tells its files, the report is that of a directory, and its files were kept
abbrev pub Reported : List ℕ → Type 0 → Files → Files → List FileLine → Type 0
Reported dir tells files files' report =
    tells → IsReport files dir report × AreKept dir (length report) files files'

-- why files were not made
abbrev pub StopsInit : List ℕ → ℕ → Type 0 → ShelfView → ShelfView → Refusal → Type 0
StopsInit dir slots tells old new (refusals.NotEmpty file length) =
    tells → StopsAt dir slots file length old.files new.files
StopsInit dir slots tells old new refusals.DiskFailed = Rose old.faults new.faults
StopsInit dir slots tells old new refusals.OutOfMemory = Unit {0}
StopsInit dir slots tells old new other = ⊥

-- where the shelf tells its files, those below some number were kept, and no other was asked for
abbrev pub KeepsSome : List ℕ → Type 0 → Files → Files → Type 0
KeepsSome dir tells files files' = tells → (end : ℕ) × AreKept dir end files files'

-- why the files of a directory were not reported
abbrev pub StopsCheck : List ℕ → Type 0 → ShelfView → ShelfView → Channel → Channel → Refusal
    → Type 0
StopsCheck dir tells old new out out' (refusals.File fault) =
    (tells → CheckStops dir old.files new.files fault) × IsSilent out out'
StopsCheck dir tells old new out out' refusals.DiskFailed =
    Rose old.faults new.faults × KeepsSome dir tells old.files new.files × IsSilent out out'
StopsCheck dir tells old new out out' refusals.OutputFailed =
    ChannelFailed out out'
    × ((report : List FileLine) × Reported dir tells old.files new.files report
    × WritesFront out out' (lines_text report))
StopsCheck dir tells old new out out' refusals.OutOfMemory =
    KeepsSome dir tells old.files new.files × IsSilent out out'
StopsCheck dir tells old new out out' other = ⊥

module _ {H D N L : Type 0} (shelf : ShelfGhosts H D) (dial : DialGhosts N L)
    (links : LinkGhosts L) where
  -- what a command has done that ends with its result
  abbrev pub Does : Command → OutsideView L → OutsideView L → Type 0
  Does commands.Replay old new =
      ReadsInput old.input new.input (Prints HasReplayLines old.out new.out)
  Does (commands.Squash from to) old new =
      ReadsInput old.input new.input (Prints (HasSquashed from to) old.out new.out)
  Does (commands.Invert id) old new =
      ReadsInput old.input new.input (Prints (HasInverted id) old.out new.out)
  Does commands.Nquads old new = ReadsInput old.input new.input (Prints IsShown old.out new.out)
  Does (commands.Gen patches) old new =
      (text : List ℕ) × IsGeneratedLine patches text × WritesText old.out new.out text
  Does (commands.Emit patches) old new = WritesText old.out new.out (stream_text patches)
  Does (commands.Init dir slots) old new = Unmarked dir FILES_MARKER shelf.tells (λ seen.
      (shelf.tells → IsInitial dir slots seen.files new.shelf.files)
      × Spares dir slots shelf.tells seen.files new.shelf.files) old.shelf
  Does (commands.Check dir) old new = Unmarked dir FILES_MARKER shelf.tells (λ seen.
      (report : List FileLine) × Reported dir shelf.tells seen.files new.shelf.files report
      × WritesText old.out new.out (lines_text report)) old.shelf
  Does (commands.Upgrade dir) old new =
      UpgradesFiles shelf.tells (IsUpgradedDirectory dir) old.shelf new.shelf old.out new.out
  Does (commands.Zone dir) old new = Unmarked dir ZONE_MARKER shelf.tells (λ seen.
      (shelf.tells → IsNewZone dir seen.files new.shelf.files)
      × SparesZone dir shelf.tells seen.files new.shelf.files) old.shelf
  Does (commands.Read dir reading) old new = Unmarked dir ZONE_MARKER shelf.tells (λ seen.
      ((lines : List (List ℕ)) × ReadsZone dir reading shelf.tells seen.files lines
      × WritesText old.out new.out (bytes_of lines))
      × KeepsZone dir shelf.tells seen.files new.shelf.files) old.shelf
  Does (commands.Sync dir address name) old new = Unmarked dir ZONE_MARKER shelf.tells (λ seen.
      CatchesUp shelf dial links dir address name
      seen new.shelf old.net new.net old.out new.out) old.shelf
  Does (commands.Checkpoint dir) old new = Unmarked dir ZONE_MARKER shelf.tells (λ seen.
      WritesCheckpoint dir shelf.tells seen new.shelf old.out new.out) old.shelf
  Does (commands.UpgradeZone dir) old new =
      UpgradesFiles shelf.tells (IsUpgradedZone dir) old.shelf new.shelf old.out new.out
  Does (commands.Ask address call) old new =
      PrintsEnd (Asked dial links address call old.net new.net) old.out new.out
  Does (commands.Describe address name) old new =
      PrintsEnd (Described dial links address name old.net new.net) old.out new.out
  Does (commands.Append what address name) old new = AppendsInput what dial links address name
      old.input new.input old.out new.out old.net new.net
  Does commands.Help old new = WritesText old.out new.out help_text
  Does commands.Version old new = WritesText old.out new.out VERSION.now

  -- why a command ends without its result, and what it has done by then
  abbrev pub Stops : Command → OutsideView L → OutsideView L → Refusal → Type 0
  Stops commands.Replay old new refusal =
      StopsReplay refusal old.input new.input old.out new.out
  Stops (commands.Squash from to) old new refusal =
      StopsSquashing from to refusal old.input new.input old.out new.out
  Stops (commands.Invert id) old new refusal =
      StopsInverting id refusal old.input new.input old.out new.out
  Stops commands.Nquads old new refusal =
      StopsNquads refusal old.input new.input old.out new.out
  Stops (commands.Gen patches) old new refusal =
      StopsGenerating patches old.out new.out refusal
  Stops (commands.Emit patches) old new refusal =
      StopsEmitting (stream_text patches) refusal old.out new.out
  Stops (commands.Init dir slots) old new refusal =
      StopsAtMark dir FILES_MARKER shelf.tells old.shelf new.shelf refusal
      ⊎ Unmarked dir FILES_MARKER shelf.tells (λ seen.
      StopsInit dir slots shelf.tells seen new.shelf refusal
      × Spares dir slots shelf.tells seen.files new.shelf.files) old.shelf
  Stops (commands.Check dir) old new refusal =
      (StopsAtMark dir FILES_MARKER shelf.tells old.shelf new.shelf refusal
      × IsSilent old.out new.out)
      ⊎ Unmarked dir FILES_MARKER shelf.tells (λ seen.
      StopsCheck dir shelf.tells seen new.shelf old.out new.out refusal) old.shelf
  Stops (commands.Upgrade dir) old new refusal =
      StopsUpgrading shelf.tells (IsUpgradedDirectory dir) (StopsUpgrade dir)
      old.shelf new.shelf old.out new.out refusal
  Stops (commands.Zone dir) old new refusal =
      StopsAtMark dir ZONE_MARKER shelf.tells old.shelf new.shelf refusal
      ⊎ Unmarked dir ZONE_MARKER shelf.tells (λ seen.
      StopsMaking dir shelf.tells seen new.shelf refusal
      × SparesZone dir shelf.tells seen.files new.shelf.files) old.shelf
  Stops (commands.Read dir reading) old new refusal =
      (StopsAtMark dir ZONE_MARKER shelf.tells old.shelf new.shelf refusal
      × IsSilent old.out new.out)
      ⊎ Unmarked dir ZONE_MARKER shelf.tells (λ seen.
      StopsZone dir reading shelf.tells seen new.shelf old.out new.out refusal
      × KeepsZone dir shelf.tells seen.files new.shelf.files) old.shelf
  Stops (commands.Sync dir address name) old new refusal =
      (StopsAtMark dir ZONE_MARKER shelf.tells old.shelf new.shelf refusal
      × (new.net ≡ old.net) × IsSilent old.out new.out)
      ⊎ Unmarked dir ZONE_MARKER shelf.tells (λ seen.
      StopsSync shelf dial links dir address
      name seen new.shelf old.net new.net old.out new.out refusal) old.shelf
  Stops (commands.Checkpoint dir) old new refusal =
      (StopsAtMark dir ZONE_MARKER shelf.tells old.shelf new.shelf refusal
      × IsSilent old.out new.out)
      ⊎ Unmarked dir ZONE_MARKER shelf.tells (λ seen.
      StopsCheckpoint dir shelf.tells seen new.shelf old.out new.out refusal) old.shelf
  Stops (commands.UpgradeZone dir) old new refusal =
      StopsUpgrading shelf.tells (IsUpgradedZone dir) (StopsZoneUpgrade dir)
      old.shelf new.shelf old.out new.out refusal
  Stops (commands.Ask address call) old new refusal =
      StopsAsking (Asked dial links address call old.net new.net) old.out new.out refusal
  Stops (commands.Describe address name) old new refusal =
      StopsAsking (Described dial links address name old.net new.net) old.out new.out refusal
  Stops (commands.Append what address name) old new refusal = StopsAppend what dial links address
      name old.input new.input old.out new.out old.net new.net refusal
  Stops commands.Help old new refusal = StopsWriting help_text refusal old.out new.out
  Stops commands.Version old new refusal = StopsWriting VERSION.now refusal old.out new.out

  -- The status for these words and dice, with what was told of the outside and of err before and
  -- after.
  pub data Answers (words : List (List ℕ)) (dice : ℕ) (old new : OutsideView L)
      (err err' : Channel) : ℕ → Type 0 where
    -- a command has its result
    done : (c : Command) → Asks words dice c → LeavesBut (frame c) old new → Does c old new
        → IsSilent err err' → Answers words dice old new err err' 0
    -- a command has none
    stopped : (c : Command) (refusal : Refusal) (status : ℕ) → Asks words dice c
        → LeavesBut (frame c) old new → Stops c old new refusal
        → ReportsRefusal refusal err err' status → Answers words dice old new err err' status
    -- nothing was asked
    refused : (refusal : Refusal) (status : ℕ) → RefusesWords words refusal → new ≡ old
        → ReportsRefusal refusal err err' status → Answers words dice old new err err' status
