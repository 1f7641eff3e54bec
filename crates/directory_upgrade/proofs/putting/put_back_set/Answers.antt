use Rattle.std.proofs.Common.{◌≡◌, List, ℕ, length, map, sym, subst, ap, ◌∙◌}
use Rattle.std.specs.Prelude.{Option}
use Rattle.disk_model.specs.Shelf.{SameOthers}
use Rattle.directory_upgrade.specs.Sets.{HaveMarks, HaveRead}
use Rattle.directory_upgrade.proofs.PutBack.{set_back}
use Rattle.directory_upgrade.proofs.putting.put_back_set.Goals as goal

pub returns-clause-back : goal.returns-clause-back
returns-clause-back g c told dir file_marks spare_marks marker_mark is =
    let numbers = c.args.set.numbers.items in
    let past = g.H.D.Disk.past in
    let files_are : c.into_vec.result.items ≡ c.args.set.files.items = c.into_vec.ensures in
    let spares_are : c.into_vec-2.result.items ≡ c.args.set.spares.items = c.into_vec-2.ensures in
    let first = c.put_back_disks.ensures in
    let second = c.put_back_disks-2.ensures in
    let file_count : length c.into_vec.result.items ≡ length numbers = ap length files_are ∙ c.requires.as_many_files in
    let spare_count : length c.into_vec-2.result.items ≡ length numbers = ap length spares_are ∙ c.requires.as_many_spares in
    let at_files = subst (HaveMarks g.H.D.Disk dir 0 numbers) (sym files_are) file_marks in
    let at_spares = subst (HaveMarks g.H.D.Disk dir 2000 numbers) (sym spares_are) spare_marks in
    let mid = g.H.Shelf.files c.put_back_disks.new.shelf in
    let late = g.H.Shelf.files c.put_back_disks-2.new.shelf in
    set_back dir numbers c.requires.known c.args.set.marker_number is (g.H.Shelf.files c.args.shelf.now) mid late (g.H.Shelf.files c.put_back.new.self)
    (map past c.args.set.files.items) (map past c.args.set.spares.items) (past c.args.set.marker)
    (subst (λ (l : List g.row.H-D.Denot). HaveRead mid dir 0 numbers (map past l)) files_are (first.have told dir 0 numbers c.requires.differ file_count at_files))
    (first.others told dir 0 numbers file_count at_files)
    (subst (λ (l : List g.row.H-D.Denot). HaveRead late dir 2000 numbers (map past l)) spares_are (second.have told dir 2000 numbers c.requires.differ spare_count at_spares))
    (second.others told dir 2000 numbers spare_count at_spares)
    (c.put_back.ensures.kept told dir c.args.set.marker_number marker_mark)
    (subst (λ (mark : Option (List ℕ × ℕ)). SameOthers mark late (g.H.Shelf.files c.put_back.new.self)) marker_mark (c.put_back.ensures.others told))
