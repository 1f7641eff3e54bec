use Rattle.std.proofs.Common.{◌≡◌, ℕ, ◌+◌, cond, List, length, take}
use Rattle.std.specs.Prelude.{◌==◌}
use Rattle.disk_model.specs.Past.{reads, overwritten}
use Rattle.log_journal.specs.Filling.{behind_gate}
use Rattle.log_journal.specs.Writing.{WroteBehind}
use Rattle.log_journal.proofs.filling.write_bodies.Given as goal

-- the payloads so far, and a gate that is open where more come
abbrev pub so_far : List (List ℕ) → ℕ → List ℕ
so_far payloads i = behind_gate (take i payloads) (cond (i == length payloads) 0 1)

abbrev pub invariant-loop-i : goal.invariant-loop-i
invariant-loop-i g l = record {
  behind : g.D.Disk.tells → WroteBehind 9 (g.D.Disk.past l.fn.disk) (g.D.Disk.past l.disk);
  read : g.D.Disk.tells → reads (g.D.Disk.past l.disk) ≡ overwritten (reads (g.D.Disk.past l.fn.disk)) 9 (so_far l.payloads l.i);
  end_is : l.end ≡ 9 + length (so_far l.payloads l.i);
  faults : g.D.Disk.faults l.disk ≡ g.D.Disk.faults l.fn.disk;
  planned : g.D.Disk.plans → g.D.Disk.short l.disk ≡ g.D.Disk.short l.fn.disk;
  read_bytes : g.D.Disk.read_bytes l.disk ≡ g.D.Disk.read_bytes l.fn.disk;
  mark : g.D.Disk.mark l.disk ≡ g.D.Disk.mark l.fn.disk;
}
