-- Which objects of the outside a command may make calls of.
use Rattle.std.specs.Prelude.{◌≡◌, Bool, true, false}
use Rattle.std.specs.Bool.{OnFalse}
use Rattle.delta_cli.specs.Views.{OutsideView}
use Rattle.delta_cli.specs.declared.command.Command.{Command}
use Rattle.delta_cli.specs.declared.command.Command.TheVariants as commands

pub record Frame : Type 0 where
  pub input : Bool
  pub out : Bool
  pub shelf : Bool
  pub net : Bool

abbrev pub only_out : Frame
only_out = record { input = false; out = true; shelf = false; net = false }

abbrev pub only_shelf : Frame
only_shelf = record { input = false; out = false; shelf = true; net = false }

abbrev pub with_input : Frame → Frame
with_input touched = record touched { input = true }

abbrev pub with_shelf : Frame → Frame
with_shelf touched = record touched { shelf = true }

abbrev pub with_net : Frame → Frame
with_net touched = record touched { net = true }

-- no call was made of another object
abbrev pub LeavesBut : {L : Type 0} → Frame → OutsideView L → OutsideView L → Type 0
LeavesBut touched old new =
    OnFalse touched.input (new.input ≡ old.input) × OnFalse touched.out (new.out ≡ old.out)
    × OnFalse touched.shelf (new.shelf ≡ old.shelf) × OnFalse touched.net (new.net ≡ old.net)

-- those of each command, also where it stops
abbrev pub frame : Command → Frame
frame commands.Replay = with_input only_out
frame (commands.Squash from to) = with_input only_out
frame (commands.Invert id) = with_input only_out
frame commands.Nquads = with_input only_out
frame (commands.Gen patches) = only_out
frame (commands.Emit patches) = only_out
frame (commands.Init dir slots) = only_shelf
frame (commands.Check dir) = with_shelf only_out
frame (commands.Upgrade dir) = with_shelf only_out
frame (commands.Zone dir) = only_shelf
frame (commands.Read dir reading) = with_shelf only_out
frame (commands.Sync dir address name) = with_shelf (with_net only_out)
frame (commands.Checkpoint dir) = with_shelf only_out
frame (commands.UpgradeZone dir) = with_shelf only_out
frame (commands.Ask address call) = with_net only_out
frame (commands.Describe address name) = with_net only_out
frame (commands.Append what address name) = with_input (with_net only_out)
frame commands.Help = only_out
frame commands.Version = only_out
