-- From what a zone came to, to the end of `sync`.
use Rattle.std.proofs.Common.{◌≡◌, ℕ, List, Result, Ok, Err, sym, ap, subst, ◌∙◌}
use Rattle.std.proofs.KnownBytes.{Keeps-refl}
use Rattle.delta_base.specs.Outside.{Rose}
use Rattle.delta_base.specs.declared.link.Link.{Ghosts as LinkGhosts}
use Rattle.delta_client.specs.declared.dial.Dial.{Ghosts as DialGhosts}
use Rattle.disk_model.specs.declared.shelf.Shelf.{Ghosts as ShelfGhosts}
use Rattle.paired_zone.specs.declared.fault.PairFault.{PairFault}
use Rattle.paired_zone.specs.declared.fault.PairFault.TheVariants as pairs
use Rattle.follower.specs.declared.ends.SyncEnd.{SyncEnd}
use Rattle.follower.specs.declared.ends.SyncEnd.TheVariants as ends
use Rattle.zone_commands.specs.Disks.{SameButZone, first_bytes, second_bytes}
use Rattle.zone_commands.specs.Files.{HasFilesFault}
use Rattle.zone_commands.specs.Following.{Followed}
use Rattle.command_tables.specs.Channels.{Channel}
use Rattle.delta_cli.specs.Syncs.{StopsSync, Synced, unopened}
use Rattle.command_tables.specs.Views.{ShelfView}
use Rattle.delta_client.specs.Exchanges.{DialView}
use Rattle.command_tables.specs.Refusals.{pair_refusal}
use Rattle.delta_cli.specs.Zones.{KeepsZone, StopsOpening}
use Rattle.delta_cli.proofs.Made.{opening_stops}
use Rattle.command_tables.specs.declared.refusal.Refusal.{Refusal}

module _ {H D N L : Type 0} (shelf : ShelfGhosts H D) (dial : DialGhosts N L) (links : LinkGhosts L) (dir address name : List ℕ) (old new : ShelfView) (net net' : DialView L) (result : Result SyncEnd PairFault) where
  -- a zone that followed a log
  pub synced : (end : SyncEnd) → result ≡ Ok end
      → Followed links.left links.sent shelf.tells dial.tells address name (first_bytes old.files dir) (second_bytes old.files dir) (first_bytes new.files dir) (second_bytes new.files dir) net net' end
      → (shelf.tells → SameButZone dir old.files new.files) → (result ≡ Ok ends.DiskFault → Rose old.faults new.faults) → (result ≡ Ok ends.LinkFault → Rose net.faults net'.faults)
      → Synced shelf dial links dir address name old new net net' end
  synced end is followed others disk link = record {
    followed = followed;
    others = others;
    disk = λ why. disk (is ∙ ap (λ (e : SyncEnd). Ok e) why);
    link = λ why. link (is ∙ ap (λ (e : SyncEnd). Ok e) why);
  }

  -- one that could not be opened
  pub opening_stopped : (fault : PairFault) (refusal : Refusal) (out : Channel) → result ≡ Err fault → refusal ≡ pair_refusal fault
      → (shelf.tells → HasFilesFault (first_bytes old.files dir) (second_bytes old.files dir) fault) → ((file : ℕ) → result ≡ Err (pairs.Failed file) → Rose old.faults new.faults) → KeepsZone dir shelf.tells old.files new.files → net' ≡ net
      → StopsSync shelf dial links dir address name old new net net' out out refusal
  opening_stopped fault refusal out is tells_it has cause keeps same =
      unopened (subst (StopsOpening dir shelf.tells old new) (sym tells_it) (opening_stops dir shelf.tells old new result fault is has cause)) keeps same (Keeps-refl out.bytes)
