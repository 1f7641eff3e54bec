use Rattle.std.proofs.Common.{◌≡◌, ◌≤◌, take}
use Rattle.http_heads.specs.Room.{lines_in}
use Rattle.http_heads.proofs.room.count_lines.Given as goal

abbrev pub invariant-loop-byte : goal.invariant-loop-byte
invariant-loop-byte l = record {
  small : l.count ≤ l.byte-index;
  counted : l.count ≡ lines_in (take l.byte-index l.text);
}
