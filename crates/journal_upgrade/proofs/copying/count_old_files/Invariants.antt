use Rattle.std.proofs.Common.{◌≡◌, ◌-◌, ◌^◌, min, List, length, drop}
use Rattle.log_journal.specs.declared.form.Form.{Form}
use Rattle.journal_upgrade.specs.Copies.{AreKept, count_old, SameFaults, SameMarks}
use Rattle.journal_upgrade.proofs.Loops.{WellBelow, SyncedBelow}
use Rattle.journal_upgrade.proofs.copying.count_old_files.Given as goal

abbrev pub invariant-loop-i : goal.invariant-loop-i
invariant-loop-i g l = record {
  kept : g.D.Disk.tells → AreKept g.D.Disk.past l.fn.files l.files;
  behind : drop l.i l.files ≡ drop l.i l.fn.files;
  forms : List Form;
  counted : l.count ≡ min (count_old forms) (2 ^ 32 - 1);
  as_many : length forms ≡ l.i;
  well : g.D.Disk.tells → WellBelow g.D.Disk.past 0 l.numbers l.fn.files forms l.i;
  synced : g.D.Disk.tells → SyncedBelow g.D.Disk.past l.files l.i;
  faults : SameFaults g.D.Disk.faults l.fn.files l.files;
  marks : SameMarks g.D.Disk.mark l.fn.files l.files;
}
