use Rattle.std.proofs.Common.{◌≡◌, map, take, Some}
use Rattle.clap.specs.Words.{found_of, first_value}
use Rattle.command_tables.proofs.positions.values_of.Given as goal

abbrev pub invariant-loop-name : goal.invariant-loop-name
invariant-loop-name l =
    map (λ word. Some word.now) l.values.items ≡ map (λ name. first_value (found_of l.matches) name.now) (take l.name-index l.names)
