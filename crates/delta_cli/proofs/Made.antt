-- From why files were not made, or not read, to the end of the command.
use Rattle.std.proofs.Common.{◌≡◌, ◌<◌, ℕ, List, length, Result, Err, refl}
use Rattle.std.proofs.KnownBytes.{Keeps-refl}
use Rattle.delta_base.specs.Outside.{Rose}
use Rattle.slot_files.specs.Files.{StopsAt, bytes_at}
use Rattle.slot_files.specs.declared.fault.InitFault.{InitFault}
use Rattle.slot_files.specs.declared.fault.InitFault.TheVariants as inits
use Rattle.zone_files.specs.declared.file.TheConstants.{ZONE_NUMBER}
use Rattle.paired_zone.specs.declared.fault.PairFault.{PairFault}
use Rattle.paired_zone.specs.declared.fault.PairFault.TheVariants as pairs
use Rattle.zone_commands.specs.Disks.{first_bytes, second_bytes}
use Rattle.zone_commands.specs.Files.{HasFilesFault}
use Rattle.zone_commands.specs.declared.reading.Reading.{Reading}
use Rattle.command_tables.specs.Channels.{Channel}
use Rattle.delta_cli.specs.Results.{StopsPrinting}
use Rattle.command_tables.specs.Refusals.{init_refusal}
use Rattle.delta_cli.specs.Tool.{StopsInit}
use Rattle.command_tables.specs.Refusals.{pair_refusal}
use Rattle.command_tables.specs.Views.{ShelfView}
use Rattle.delta_cli.specs.Zones.{ReadsZone, StopsMaking, StopsOpening, StopsZone, bytes_of}
use Rattle.command_tables.specs.declared.refusal.Refusal.{Refusal}
use Rattle.command_tables.specs.declared.refusal.Refusal.TheVariants as refusals

module _ (dir : List ℕ) (tells : Type 0) (old new : ShelfView) where
  pub init_stops : {T : Type 0} (slots : ℕ) (result : Result T InitFault) (fault : InitFault) → result ≡ Err fault
      → (tells → (number size : ℕ) → result ≡ Err (inits.NotEmpty number size) → StopsAt dir slots number size old.files new.files)
      → (result ≡ Err inits.Failed → Rose old.faults new.faults) → StopsInit dir slots tells old new (init_refusal fault)
  init_stops slots result (inits.NotEmpty number size) is full cause = λ told. full told number size is
  init_stops slots result inits.Failed is full cause = cause is
  init_stops slots result inits.OutOfMemory is full cause = tt

  pub making_stops : {T : Type 0} (result : Result T InitFault) (fault : InitFault) → result ≡ Err fault
      → (tells → (number size : ℕ) → result ≡ Err (inits.NotEmpty number size) → (number ≡ ZONE_NUMBER) × (0 < size) × (size ≡ length (bytes_at old.files dir ZONE_NUMBER)))
      → (result ≡ Err inits.Failed → Rose old.faults new.faults) → StopsMaking dir tells old new (init_refusal fault)
  making_stops result (inits.NotEmpty number size) is full cause = λ told. let why = full told number size is in record { file_is = why.0; has_bytes = why.1; size_is = why.2 }
  making_stops result inits.Failed is full cause = cause is
  making_stops result inits.OutOfMemory is full cause = tt

  -- a zone that can't be opened
  pub opening_stops : {T : Type 0} (result : Result T PairFault) (fault : PairFault) → result ≡ Err fault
      → (tells → HasFilesFault (first_bytes old.files dir) (second_bytes old.files dir) fault) → ((file : ℕ) → result ≡ Err (pairs.Failed file) → Rose old.faults new.faults)
      → StopsOpening dir tells old new (pair_refusal fault)
  opening_stops result (pairs.Failed file) is has cause = cause file is
  opening_stops result pairs.OutOfMemory is has cause = tt
  opening_stops result pairs.TermsFull is has cause = has
  opening_stops result (pairs.BrokenCheckpoint file) is has cause = has
  opening_stops result (pairs.Damaged file at) is has cause = has
  opening_stops result (pairs.OldFormat file) is has cause = has
  opening_stops result (pairs.WrongNumber file found) is has cause = has
  opening_stops result (pairs.OverLimit file size limit) is has cause = has
  opening_stops result (pairs.BrokenChain file version) is has cause = has

  module _ (reading : Reading) where
    -- an output to which nothing was written
    opening_silent : (out : Channel) (fault : PairFault) → StopsOpening dir tells old new (pair_refusal fault) → StopsZone dir reading tells old new out out (pair_refusal fault)
    opening_silent out (pairs.Failed file) stops = (stops, Keeps-refl out.bytes)
    opening_silent out pairs.OutOfMemory stops = (stops, Keeps-refl out.bytes)
    opening_silent out pairs.TermsFull stops = (stops, Keeps-refl out.bytes)
    opening_silent out (pairs.BrokenCheckpoint file) stops = (stops, Keeps-refl out.bytes)
    opening_silent out (pairs.Damaged file at) stops = (stops, Keeps-refl out.bytes)
    opening_silent out (pairs.OldFormat file) stops = (stops, Keeps-refl out.bytes)
    opening_silent out (pairs.WrongNumber file found) stops = (stops, Keeps-refl out.bytes)
    opening_silent out (pairs.OverLimit file size limit) stops = (stops, Keeps-refl out.bytes)
    opening_silent out (pairs.BrokenChain file version) stops = (stops, Keeps-refl out.bytes)

    pub reading_stops : {T : Type 0} (out : Channel) (result : Result T PairFault) (fault : PairFault) → result ≡ Err fault
        → (tells → HasFilesFault (first_bytes old.files dir) (second_bytes old.files dir) fault) → ((file : ℕ) → result ≡ Err (pairs.Failed file) → Rose old.faults new.faults)
        → StopsZone dir reading tells old new out out (pair_refusal fault)
    reading_stops out result fault is has cause = opening_silent out fault (opening_stops result fault is has cause)

    -- lines that are not printed
    pub printing_stops : (lines : List (List ℕ)) → ReadsZone dir reading tells old.files lines → (out out' : Channel) (refusal : Refusal)
        → StopsPrinting (bytes_of lines) out out' refusal → StopsZone dir reading tells old new out out' refusal
    printing_stops lines reads out out' refusals.OutputFailed stops = (stops.0, (lines, reads, stops.1))
    printing_stops lines reads out out' refusals.OutOfMemory stops = (tt, stops)
    printing_stops lines reads out out' other stops = absurd stops
