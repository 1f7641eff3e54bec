-- What is told of the objects of the outside before and after a run of the tool.
use Rattle.delta_base.specs.declared.outside.Sink.{Ghosts as SinkGhosts}
use Rattle.delta_base.specs.declared.outside.Source.{Ghosts as SourceGhosts}
use Rattle.disk_model.specs.declared.shelf.Shelf.{Ghosts as ShelfGhosts}
use Rattle.delta_client.specs.Exchanges.{DialView, dial_view}
use Rattle.delta_client.specs.declared.dial.Dial.{Ghosts as DialGhosts}
use Rattle.command_tables.specs.Channels.{Channel}
use Rattle.command_tables.specs.Views.{ShelfView, input_view, output_view, shelf_view}

-- what is told of all that a command works with: the input, out, the shelf and the dial
pub record OutsideView (L : Type 0) : Type 0 where
  pub input : Channel
  pub out : Channel
  pub shelf : ShelfView
  pub net : DialView L

module _ {S K H D N L : Type 0} (source : SourceGhosts S) (sink : SinkGhosts K)
    (shelf : ShelfGhosts H D) (dial : DialGhosts N L) where
  abbrev pub outside_of : S → K → H → N → OutsideView L
  outside_of input out files net = record {
    input = input_view source input;
    out = output_view sink out;
    shelf = shelf_view shelf files;
    net = dial_view dial net;
  }
