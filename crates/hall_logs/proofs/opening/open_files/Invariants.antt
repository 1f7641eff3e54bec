use Rattle.std.proofs.Common.{◌≡◌, ◌≤◌, ◌+◌, vec_len, vec_capacity}
use Rattle.hall_logs.proofs.Opens.{Opening}
use Rattle.hall_logs.proofs.opening.open_files.Given as goal

abbrev pub invariant-loop-disk : goal.invariant-loop-disk
invariant-loop-disk g l = record {
  opening : Opening g.D.Disk l.limits l.fn.disks.items l.opened.items l.disks.items l.file;
  capacity : vec_capacity l.disks ≡ vec_capacity l.fn.disks;
  room : vec_len l.opened + vec_len l.disks ≤ vec_capacity l.opened;
  few : l.file + vec_len l.disks ≤ 16;
  file : l.file ≡ vec_len l.opened;
  back : vec_len l.opened + vec_len l.disks ≤ vec_capacity l.disks;
}

abbrev pub decreases-loop-disk : goal.decreases-loop-disk
decreases-loop-disk g l = vec_len l.disks
