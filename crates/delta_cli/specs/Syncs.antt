-- What `sync` does with a zone and a log of a server, or why it stops.
use Rattle.std.specs.Prelude.{◌≡◌, ◌⊎◌, ℕ, List, [], ◌∷◌, ◌++◌, codes}
use Rattle.std.specs.Fmt.{decimal}
use Rattle.delta_base.specs.Outside.{Rose}
use Rattle.delta_base.specs.declared.link.Link.{Ghosts as LinkGhosts}
use Rattle.log_base.specs.declared.limits.FullKind.{FullKind}
use Rattle.chain_core.specs.declared.testing.ChainFault.TheVariants as chains
use Rattle.disk_model.specs.declared.shelf.Shelf.{Ghosts as ShelfGhosts}
use Rattle.delta_client.specs.Exchanges.{DialView}
use Rattle.delta_client.specs.declared.dial.Dial.{Ghosts as DialGhosts}
use Rattle.rpc_answers.specs.Answers.{body_of}
use Rattle.rpc_answers.specs.Prints.{compact}
use Rattle.rpc_answers.specs.declared.answer.Answer.TheVariants.{NoSource}
use Rattle.follower.specs.declared.ends.SyncEnd.{SyncEnd}
use Rattle.follower.specs.declared.ends.SyncEnd.TheVariants as ends
use Rattle.zone_commands.specs.Disks.{SameButZone, first_bytes, second_bytes}
use Rattle.zone_commands.specs.Following.{Followed}
use Rattle.command_tables.specs.Channels.{Channel, IsSilent, WritesText}
use Rattle.delta_cli.specs.Results.{StopsPrinting}
use Rattle.command_tables.specs.Views.{ShelfView}
use Rattle.delta_cli.specs.Zones.{KeepsZone, StopsOpening}
use Rattle.command_tables.specs.declared.refusal.Refusal.{Refusal}
use Rattle.command_tables.specs.declared.refusal.Refusal.TheVariants as refusals

-- the zone has so many patches, which are all of the log
abbrev pub caught_up_line : ℕ → List ℕ
caught_up_line version = codes "caught up at version " ++ (decimal version ++ 10 ∷ [])

-- which refusal tells this end
abbrev pub TellsEnd : SyncEnd → Refusal → Type 0
TellsEnd end (refusals.Refused status body) =
    (end ≡ ends.PeerRefused status body)
    ⊎ ((end ≡ ends.NoSuchName) × (status ≡ 404) × (body ≡ compact (body_of NoSource)))
TellsEnd end (refusals.ZoneFull have limit) = (what : FullKind) × (end ≡ ends.Full what have limit)
TellsEnd end refusals.ZoneTermsFull = end ≡ ends.TermsFull
TellsEnd end refusals.DiskFailed = end ≡ ends.DiskFault
TellsEnd end refusals.LinkFailed = end ≡ ends.LinkFault
TellsEnd end (refusals.NotUnderstood at) = end ≡ ends.NotUnderstood at
TellsEnd end refusals.CutShort = end ≡ ends.CutShort
TellsEnd end (refusals.BadPatch version fault) = end ≡ ends.BadPatch version fault
TellsEnd end (refusals.Chain (chains.Diverged version have found)) =
    end ≡ ends.Diverged version have found
TellsEnd end (refusals.Chain (chains.Repeated id version)) = end ≡ ends.Repeated version id
TellsEnd end (refusals.PeerBehind mine theirs) = end ≡ ends.PeerBehind mine theirs
TellsEnd end (refusals.NoPatch version) = end ≡ ends.NoPatch version
TellsEnd end refusals.OutOfMemory = (end ≡ ends.OutOfMemory) ⊎ (end ≡ ends.NoSuchName)
TellsEnd end other = ⊥

module _ {H D N L : Type 0} (shelf : ShelfGhosts H D) (dial : DialGhosts N L)
    (links : LinkGhosts L) (dir address name : List ℕ) where
  -- The zone of the directory followed the log, and that ended so; every other file is as it was. A
  -- failed disk or link has raised its count.
  pub record Synced (old new : ShelfView) (net net' : DialView L) (end : SyncEnd) : Type 0 where
    pub followed : Followed links.left links.sent shelf.tells dial.tells address name
        (first_bytes old.files dir) (second_bytes old.files dir)
        (first_bytes new.files dir) (second_bytes new.files dir) net net' end
    pub others : shelf.tells → SameButZone dir old.files new.files
    pub disk : end ≡ ends.DiskFault → Rose old.faults new.faults
    pub link : end ≡ ends.LinkFault → Rose net.faults net'.faults

  -- the zone caught up, and the version is written
  abbrev pub CatchesUp : ShelfView → ShelfView → DialView L → DialView L → Channel → Channel
      → Type 0
  CatchesUp old new net net' out out' =
      (version : ℕ) × Synced old new net net' (ends.CaughtUp version)
      × WritesText out out' (caught_up_line version)

  -- Why no version was written: the zone could not be opened, and then nobody was connected to; or
  -- catching up ended otherwise; or it caught up, and that isn't printed.
  pub data StopsSync (old new : ShelfView) (net net' : DialView L) (out out' : Channel)
      (refusal : Refusal) : Type 0 where
    unopened : StopsOpening dir shelf.tells old new refusal
        → KeepsZone dir shelf.tells old.files new.files → net' ≡ net → IsSilent out out'
        → StopsSync old new net net' out out' refusal
    ended : (end : SyncEnd) → Synced old new net net' end → TellsEnd end refusal
        → IsSilent out out' → StopsSync old new net net' out out' refusal
    unprinted : (version : ℕ) → Synced old new net net' (ends.CaughtUp version)
        → StopsPrinting (caught_up_line version) out out' refusal
        → StopsSync old new net net' out out' refusal
