use Rattle.std.proofs.Common.{List, [], ◌∷◌, ◌++◌, ℕ, inl, inr, Err, refl, sym, ap, subst, ◌∙◌, arith}
use Rattle.disk_model.specs.Past.{Past, began, reads, Keeps}
use Rattle.disk_model.specs.declared.shelf.ShelfFault.{ShelfFault}
use Rattle.slot_files.specs.Files.{bytes_at}
use Rattle.slot_checks.proofs.Steps.{all_kept, visit_kept}
use Rattle.slot_checks.specs.Faults.{HasRegistryFileFault}
use Rattle.slot_checks.specs.declared.fault.CheckFault.{CheckFault}
use Rattle.command_tables.specs.declared.refusal.Refusal.TheVariants as refusals
use Rattle.delta_server.specs.Ends.{HasNoDisks, at_registry, at_shelf}
use Rattle.delta_server.specs.Files.{HaveBegun}
use Rattle.command_tables.specs.Views.{shelf_view}
use Rattle.delta_server.proofs.Shelving.{err_at, rose_before, put_at}
use Rattle.delta_server.proofs.Halls.{risen}
use Rattle.delta_server.proofs.opening.take_registry.Goals as goal

pub returns-in-Err-Failed-clause-stopped : goal.returns-in-Err-Failed-clause-stopped
returns-in-Err-Failed-clause-stopped g c =
    let old = g.H.Shelf.files c.args.shelf.now in
    let new = g.H.Shelf.files c.disk.new.self in
    at_shelf refusals.DiskFailed 1
    (inl (refl, c.disk.ensures.cause (c.in-Err-Failed.is ∙ ap (λ (f : ShelfFault). Err f) c.in-Err-Failed.field-0-is)))
    (λ told. inl (omega arith))
    (λ told. visit_kept c.args.dir.now 0 old old new (all_kept c.args.dir.now 0 old) (inl (c.in-Err-Failed.ensures.refused told)) (c.disk.ensures.others told))

pub returns-in-Err-OutOfMemory-clause-stopped : goal.returns-in-Err-OutOfMemory-clause-stopped
returns-in-Err-OutOfMemory-clause-stopped g c =
    let old = g.H.Shelf.files c.args.shelf.now in
    let new = g.H.Shelf.files c.disk.new.self in
    at_shelf refusals.OutOfMemory 1 (inr refl)
    (λ told. inl (omega arith))
    (λ told. visit_kept c.args.dir.now 0 old old new (all_kept c.args.dir.now 0 old) (inl (c.in-Err-OutOfMemory.ensures.refused told)) (c.disk.ensures.others told))

pub returns-in-Err-clause-stopped : goal.returns-in-Err-clause-stopped
returns-in-Err-clause-stopped g c =
    let old = g.H.Shelf.files c.args.shelf.now in
    let mid = g.H.Shelf.files c.disk.new.self in
    let new = g.H.Shelf.files c.put_back.new.self in
    let dir = c.args.dir.now in
    let opened = c.in-Ok.ensures in
    let after = c.read_registry_file-first.result.0 in
    let tell = λ (told : g.H.Shelf.tells). g.met.H.Shelf.disks_tell told in
    subst (HasNoDisks g.H.Shelf dir (shelf_view g.H.Shelf c.args.shelf.now) (shelf_view g.H.Shelf c.put_back.new.self)) (sym c.of_check.ensures)
    (at_registry c.in-Err.fault
    (λ told. subst (λ (bytes : List ℕ). HasRegistryFileFault bytes c.in-Err.fault) (ap reads (opened.opened told)) (err_at (λ (f : CheckFault). HasRegistryFileFault (reads (g.H.D.Disk.past c.in-Ok.first)) f) c.read_registry_file-first.result.1 c.in-Err.fault c.in-Err.is (c.read_registry_file-first.ensures.fault (tell told))))
    (λ failed. rose_before (g.H.Shelf.faults c.args.shelf.now) (g.H.Shelf.faults c.disk.new.self) (g.H.Shelf.faults c.put_back.new.self) c.disk.ensures.never_falls
    (c.put_back.ensures.rises (risen g.H.D.Disk (g.H.D.Disk.faults c.in-Ok.first) (g.H.D.Disk.faults after) (c.read_registry_file-first.ensures.cause (c.in-Err.is ∙ ap (λ (f : CheckFault). Err f) failed)))))
    (λ told. put_at g.H.D.Disk dir old mid new c.in-Ok.first after (opened.made told) (c.disk.ensures.others told) (opened.opened told)
    (c.read_registry_file-first.ensures.kept (tell told)) (c.read_registry_file-first.ensures.mark ∙ opened.mark told)
    (c.put_back.ensures.kept told dir 0 (c.read_registry_file-first.ensures.mark ∙ opened.mark told)) (c.put_back.ensures.others told)))

pub returns-in-Ok-answer-clause-begun : goal.returns-in-Ok-answer-clause-begun
returns-in-Ok-answer-clause-begun g c told =
    let old = g.H.Shelf.files c.args.shelf.now in
    let dir = c.args.dir.now in
    let after = c.read_registry_file-first.result.0 in
    let pushed = c.push_reserved.ensures.items ∙ ap (λ (l : List g.row.H-D.Denot). l ++ after ∷ []) c.requires.none in
    let kept : Keeps (began (bytes_at old dir 0)) (g.H.D.Disk.past after) =
    subst (λ (p : Past). Keeps p (g.H.D.Disk.past after)) (c.in-Ok.ensures.opened told) (c.read_registry_file-first.ensures.kept (g.met.H.Shelf.disks_tell told)) in
    subst (HaveBegun g.H.D.Disk old dir 0) (sym pushed) (kept, tt)
