use Rattle.std.proofs.Common.{◌≡◌, ◌+◌, ◌*◌, ◌++◌, ◌≤◌, List, ℕ, length}
use Rattle.std.specs.Prelude.{replicate, IsTrue}
use Rattle.log_base.specs.declared.limits.TheConstants.{PAYLOAD_FRAME}
use Rattle.disk_model.specs.Past.{reads}
use Rattle.log_journal.specs.File.{file_of}
use Rattle.log_journal.specs.StandsFor.{StandsFor, is_settled, length_of, limit_of, count_of, disk_of}
use Rattle.log_journal.specs.Payload.{payload_of}
use Rattle.append_bench.proofs.filling.append_all.Given as goal

abbrev pub invariant-loop : goal.invariant-loop
invariant-loop g l = record {
  settled : IsTrue (is_settled l.journal);
  stands : (number : ℕ) (payloads : List (List ℕ)) → StandsFor l.fn.journal number payloads → StandsFor l.journal number (payloads ++ replicate l.counter (payload_of l.block));
  ends : g.D.Disk.tells → (number : ℕ) (payloads : List (List ℕ)) → StandsFor l.fn.journal number payloads → reads (g.D.Disk.past (disk_of l.fn.journal)) ≡ file_of number payloads
      → reads (g.D.Disk.past (disk_of l.journal)) ≡ file_of number (payloads ++ replicate l.counter (payload_of l.block));
  length : length_of l.journal ≡ length_of l.fn.journal + l.counter * (PAYLOAD_FRAME + length (payload_of l.block));
  count : count_of l.journal ≡ count_of l.fn.journal + l.counter;
  limit : limit_of l.journal ≡ limit_of l.fn.journal;
  faults : g.D.Disk.faults (disk_of l.fn.journal) ≤ g.D.Disk.faults (disk_of l.journal);
  mark : g.D.Disk.mark (disk_of l.journal) ≡ g.D.Disk.mark (disk_of l.fn.journal);
}
