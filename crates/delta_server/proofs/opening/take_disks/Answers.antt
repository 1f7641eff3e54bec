use Rattle.std.proofs.Common.{inl, inr, ⊎_elim, List, ℕ, length, refl, sym, arith}
use Rattle.slot_checks.proofs.Steps.{all_kept, all_twice, same_bytes}
use Rattle.slot_checks.specs.Checks.{AreKept}
use Rattle.command_tables.specs.declared.refusal.Refusal.TheVariants as refusals
use Rattle.delta_server.specs.Ends.{at_shelf}
use Rattle.delta_server.proofs.Shelving.{kept_over, begun_same, rose_before, rose_behind}
use Rattle.delta_server.proofs.opening.take_disks.Goals as goal

pub returns-in_default-clause-stopped : goal.returns-in_default-clause-stopped
returns-in_default-clause-stopped g c =
    at_shelf refusals.OutOfMemory 0 (inr refl) (λ told. inl (omega arith)) (λ told. all_kept c.args.dir.now 0 (g.H.Shelf.files c.args.shelf.now))

pub returns-in-Ok-take_logs-clause-asked : goal.returns-in-Ok-take_logs-clause-asked
returns-in-Ok-take_logs-clause-asked g c =
    let old = g.H.Shelf.files c.args.shelf.now in
    let mid = g.H.Shelf.files c.take_registry.new.shelf in
    let dir = c.args.dir.now in
    let first = c.in-Ok-take_registry.ensures in
    record {
      slots = c.in-Ok-take_registry.slots;
      count = c.in-Ok-take_logs.ensures.count;
      marked = λ told. c.take_logs.ensures.marked told (first.marked told);
      begun = λ told.
          let same = λ (n : ℕ). same_bytes dir 1 old mid n (first.kept told) in
          begun_same g.H.D.Disk mid old dir 0 c.take_logs.new.disks.items same
          (c.take_logs.ensures.begun told (begun_same g.H.D.Disk old mid dir 0 c.take_registry.new.disks.items (λ (n : ℕ). sym (same n)) (first.begun told)));
      said = λ told. first.said told;
    }

pub returns-in-Err-take_logs-clause-stopped : goal.returns-in-Err-take_logs-clause-stopped
returns-in-Err-take_logs-clause-stopped g c =
    let old = g.H.Shelf.files c.args.shelf.now in
    let mid = g.H.Shelf.files c.take_registry.new.shelf in
    let taken = g.H.Shelf.files c.take_logs.new.shelf in
    let new = g.H.Shelf.files c.put_back.new.shelf in
    let dir = c.args.dir.now in
    let left : List g.row.H-D.Denot = c.take_logs.new.disks.items in
    let first = c.in-Ok-take_registry.ensures in
    at_shelf c.in-Err-take_logs.refusal (length left)
    (⊎_elim
    (λ failed. inl (
      failed.0,
      rose_behind (g.H.Shelf.faults c.args.shelf.now) (g.H.Shelf.faults c.take_logs.new.shelf) (g.H.Shelf.faults c.put_back.new.shelf)
          (omega (arith, c.take_registry.ensures.never_falls, c.take_logs.ensures.never_falls))
          (rose_before (g.H.Shelf.faults c.args.shelf.now) (g.H.Shelf.faults c.take_registry.new.shelf) (g.H.Shelf.faults c.take_logs.new.shelf) c.take_registry.ensures.never_falls failed.1)
          c.put_back.ensures.never_falls,
    ))
    (λ want. inr want)
    c.in-Err-take_logs.ensures.cause)
    (λ told. let said = first.said told in inr (c.in-Ok-take_registry.slots, said.0, said.1, c.take_logs.ensures.within))
    (λ told.
    let same = λ (n : ℕ). same_bytes dir 1 old mid n (first.kept told) in
    let begun = begun_same g.H.D.Disk mid old dir 0 left same
    (c.take_logs.ensures.begun told (begun_same g.H.D.Disk old mid dir 0 c.take_registry.new.disks.items (λ (n : ℕ). sym (same n)) (first.begun told))) in
    let kept : AreKept dir (length left) old taken = all_twice dir 1 (length left) old mid taken c.take_logs.ensures.grown (first.kept told) (c.take_logs.ensures.kept told) in
    kept_over g.H.D.Disk dir left old taken new kept begun (c.put_back.ensures.put_back told dir (c.take_logs.ensures.marked told (first.marked told))))
