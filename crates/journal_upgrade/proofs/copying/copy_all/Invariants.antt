use Rattle.std.proofs.Common.{◌≡◌, List, length, drop}
use Rattle.log_journal.specs.declared.form.Form.{Form}
use Rattle.journal_upgrade.specs.Copies.{AreKept, SameFaults, SameMarks}
use Rattle.journal_upgrade.proofs.Loops.{BroughtBelow, CopiesBelow}
use Rattle.journal_upgrade.proofs.copying.copy_all.Given as goal

abbrev pub invariant-loop-i : goal.invariant-loop-i
invariant-loop-i g l = record {
  as_many : length l.to ≡ length l.fn.to;
  kept : g.D.Disk.tells → AreKept g.D.Disk.past l.fn.from l.from;
  from_behind : drop l.i l.from ≡ drop l.i l.fn.from;
  to_behind : drop l.i l.to ≡ drop l.i l.fn.to;
  brought : g.D.Disk.tells → (forms : List Form) × (length forms ≡ l.i) × BroughtBelow g.D.Disk.past l.from_more l.to_more l.numbers l.fn.from forms l.to l.i;
  copied : g.D.Disk.tells → CopiesBelow g.D.Disk.past l.from_more l.to_more l.numbers l.from l.to l.i;
  from_faults : SameFaults g.D.Disk.faults l.fn.from l.from;
  to_faults : SameFaults g.D.Disk.faults l.fn.to l.to;
  from_marks : SameMarks g.D.Disk.mark l.fn.from l.from;
  to_marks : SameMarks g.D.Disk.mark l.fn.to l.to;
}
