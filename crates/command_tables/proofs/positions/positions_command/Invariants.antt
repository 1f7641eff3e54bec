use Rattle.std.proofs.Common.{◌≡◌, map, take}
use Rattle.clap.specs.Words.{app_of}
use Rattle.command_tables.specs.Positions.{positions_app}
use Rattle.command_tables.proofs.positions.positions_command.Given as goal

abbrev pub invariant-loop-id : goal.invariant-loop-id
invariant-loop-id l = app_of l.command ≡ positions_app l.name (map (λ s. s.now) (take l.id-index l.names))
