use Rattle.std.proofs.Common.{◌≡◌, ◌+◌, ◌-◌, ◌≤◌, length, vec_len}
use Rattle.std.specs.Io.KnownBytes.{Consumes}
use Rattle.delta_cli.proofs.input.read_all.Given as goal

-- what was read so far came from what was left
abbrev pub invariant-reading : goal.invariant-reading
invariant-reading g l = record {
  read : Consumes (g.S.Source.left l.fn.input) (g.S.Source.left l.input) l.text.items;
  faults : g.S.Source.faults l.fn.input ≤ g.S.Source.faults l.input;
  short : length l.text.items ≤ l.limit + 65536;
  piece : length l.piece ≡ 65536;
}

abbrev pub decreases-reading : goal.decreases-reading
decreases-reading g l = l.limit + 1 - vec_len l.text
