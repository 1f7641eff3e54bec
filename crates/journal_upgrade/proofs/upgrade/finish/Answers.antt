use Rattle.std.proofs.Common.{ap, sym, subst}
use Rattle.std.proofs.lemmas.Result.{IfOk-at_ok}
use Rattle.disk_model.specs.Past.{EveryImage}
use Rattle.journal_upgrade.specs.Copies.{AreRestored}
use Rattle.journal_upgrade.specs.Marker.{IsMarked}
use Rattle.journal_upgrade.proofs.Safety.{held_kept, held_copied, held_same, safe_on_both, safe_marked}
use Rattle.journal_upgrade.proofs.upgrade.finish.Goals as goal

pub returns-in-Ok-unmarked-clause-safe : goal.returns-in-Ok-unmarked-clause-safe
returns-in-Ok-unmarked-clause-safe g c told payloads held =
    let past = g.D.Disk.past in
    let numbers = c.args.set.numbers.items in
    let mid = c.overwrite_files-set.result.0 in
    let end = c.unmark-set.result.0 in
    let restored = IfOk-at_ok (λ done. AreRestored past numbers mid.files.items mid.spares.items) c.in-Ok.is (c.overwrite_files-set.ensures.ok told) in
    let spares = held_kept past numbers payloads 2000 c.args.set.spares.items mid.spares.items c.requires.set.as_many_spares (c.overwrite_files-set.ensures.spares told) held in
    let files = held_copied past numbers payloads (λ disk. g.met.D.Disk.reads_may_be_left disk told) 2000 0 mid.spares.items mid.files.items restored spares in
    safe_on_both past numbers payloads end.files.items end.spares.items (past end.marker) c.args.set.marker_number
    (held_same past numbers payloads 0 mid.files.items end.files.items (ap (λ l. l.items) c.unmark-set.ensures.same.0) files)
    (held_same past numbers payloads 2000 mid.spares.items end.spares.items (ap (λ l. l.items) c.unmark-set.ensures.same.1) spares)

pub returns-in-Err-unmarked-clause-safe : goal.returns-in-Err-unmarked-clause-safe
returns-in-Err-unmarked-clause-safe g c told payloads held =
    let past = g.D.Disk.past in
    let numbers = c.args.set.numbers.items in
    let mid = c.overwrite_files-set.result.0 in
    let end = c.unmark-set.result.0 in
    let restored = IfOk-at_ok (λ done. AreRestored past numbers mid.files.items mid.spares.items) c.in-Ok.is (c.overwrite_files-set.ensures.ok told) in
    let spares = held_kept past numbers payloads 2000 c.args.set.spares.items mid.spares.items c.requires.set.as_many_spares (c.overwrite_files-set.ensures.spares told) held in
    let files = held_copied past numbers payloads (λ disk. g.met.D.Disk.reads_may_be_left disk told) 2000 0 mid.spares.items mid.files.items restored spares in
    safe_on_both past numbers payloads end.files.items end.spares.items (past end.marker) c.args.set.marker_number
    (held_same past numbers payloads 0 mid.files.items end.files.items (ap (λ l. l.items) c.unmark-set.ensures.same.0) files)
    (held_same past numbers payloads 2000 mid.spares.items end.spares.items (ap (λ l. l.items) c.unmark-set.ensures.same.1) spares)

pub returns-in-Err-clause-safe : goal.returns-in-Err-clause-safe
returns-in-Err-clause-safe g c told payloads held =
    let past = g.D.Disk.past in
    let numbers = c.args.set.numbers.items in
    let mid = c.overwrite_files-set.result.0 in
    let spares = held_kept past numbers payloads 2000 c.args.set.spares.items mid.spares.items c.requires.set.as_many_spares (c.overwrite_files-set.ensures.spares told) held in
    safe_marked past numbers payloads mid.files.items mid.spares.items (past mid.marker) c.args.set.marker_number
    (subst (λ m. EveryImage (past m) (λ image. IsMarked image c.args.set.marker_number)) (sym c.overwrite_files-set.ensures.same.0) (c.requires.marked told))
    spares
