use Rattle.std.proofs.Common.{◌≡◌, ◌∷◌, ◌++◌, map, drop}
use Rattle.std.specs.List.{flat_map}
use Rattle.command_tables.specs.Names.{usage_text}
use Rattle.command_tables.proofs.name.Name.push_usage.Given as goal

abbrev pub invariant-loop-position : goal.invariant-loop-position
invariant-loop-position l =
    l.text.items ++ flat_map (λ position. 32 ∷ position) (map (λ text. text.now) (drop l.position-index l.position-items)) ≡ l.fn.text.items ++ usage_text l.fn.self
