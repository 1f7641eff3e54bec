-- From what became of a zone's files, to the end of `checkpoint`.
use Rattle.std.proofs.Common.{◌≡◌, ℕ, List, Result, Ok, Err, sym, ap, subst, ◌∙◌}
use Rattle.std.proofs.KnownBytes.{Keeps-refl}
use Rattle.delta_base.specs.Outside.{Rose}
use Rattle.paired_zone.specs.declared.answer.CheckEnd.{CheckEnd}
use Rattle.paired_zone.specs.declared.answer.CheckEnd.TheVariants as ends
use Rattle.paired_zone.specs.declared.fault.PairFault.{PairFault}
use Rattle.paired_zone.specs.declared.fault.PairFault.TheVariants as pairs
use Rattle.zone_commands.specs.Checkpoints.{Checkpointed}
use Rattle.zone_commands.specs.Disks.{SameButZone, first_bytes, second_bytes}
use Rattle.zone_commands.specs.Files.{HasFilesFault}
use Rattle.command_tables.specs.Channels.{Channel}
use Rattle.command_tables.specs.Refusals.{pair_refusal}
use Rattle.command_tables.specs.Views.{ShelfView}
use Rattle.command_tables.specs.declared.refusal.Refusal.{Refusal}
use Rattle.delta_cli.specs.Checkpoints.{StopsCheckpoint, ZoneCheckpointed, not_opened}
use Rattle.delta_cli.specs.Zones.{KeepsZone, StopsOpening}
use Rattle.delta_cli.proofs.Made.{opening_stops}

module _ (dir : List ℕ) (tells : Type 0) (old new : ShelfView) (result : Result CheckEnd PairFault) where
  -- a zone of which a checkpoint was to be made
  pub zone_checkpointed : (end : CheckEnd) → result ≡ Ok end
      → Checkpointed tells (first_bytes old.files dir) (second_bytes old.files dir) (first_bytes new.files dir) (second_bytes new.files dir) end
      → (tells → SameButZone dir old.files new.files) → (result ≡ Ok ends.DiskFault → Rose old.faults new.faults) → ZoneCheckpointed dir tells old new end
  zone_checkpointed end is checkpointed others disk = record {
    checkpointed = checkpointed;
    others = others;
    disk = λ why. disk (is ∙ ap (λ (e : CheckEnd). Ok e) why);
  }

  -- one that could not be opened
  pub checkpoint_stopped : (fault : PairFault) (refusal : Refusal) (out : Channel) → result ≡ Err fault → refusal ≡ pair_refusal fault
      → (tells → HasFilesFault (first_bytes old.files dir) (second_bytes old.files dir) fault) → ((file : ℕ) → result ≡ Err (pairs.Failed file) → Rose old.faults new.faults) → KeepsZone dir tells old.files new.files
      → StopsCheckpoint dir tells old new out out refusal
  checkpoint_stopped fault refusal out is tells_it has cause keeps =
      not_opened (subst (StopsOpening dir tells old new) (sym tells_it) (opening_stops dir tells old new result fault is has cause)) keeps (Keeps-refl out.bytes)
