-- What is told of an object of the outside at a moment.
use Rattle.std.specs.Prelude.{ℕ}
use Rattle.delta_base.specs.declared.outside.Sink.{Ghosts as SinkGhosts}
use Rattle.delta_base.specs.declared.outside.Source.{Ghosts as SourceGhosts}
use Rattle.disk_model.specs.declared.shelf.Shelf.{Ghosts as ShelfGhosts}
use Rattle.slot_files.specs.Files.{Files}
use Rattle.command_tables.specs.Channels.{Channel, channel}

abbrev pub input_view : {S : Type 0} → SourceGhosts S → S → Channel
input_view source input = channel (source.left input) (source.faults input)

abbrev pub output_view : {K : Type 0} → SinkGhosts K → K → Channel
output_view sink out = channel (sink.written out) (sink.faults out)

-- the files that a shelf has, and how often a call of it has failed
pub record ShelfView : Type 0 where
  pub files : Files
  pub faults : ℕ

abbrev pub shelf_view : {H D : Type 0} → ShelfGhosts H D → H → ShelfView
shelf_view shelf now = record { files = shelf.files now; faults = shelf.faults now }
