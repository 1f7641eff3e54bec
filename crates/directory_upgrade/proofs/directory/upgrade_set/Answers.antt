use Rattle.std.proofs.Common.{◌≡◌, List, ℕ, map, sym, subst, ap, ◌∙◌}
use Rattle.std.specs.Prelude.{Result, Some}
use Rattle.delta_base.specs.Listed.{Listed}
use Rattle.journal_upgrade.specs.declared.fault.UpgradeFault.{UpgradeFault}
use Rattle.journal_upgrade.specs.declared.upgrade.Upgraded.{Upgraded}
use Rattle.directory_upgrade.specs.Ends.{IsSetEnd}
use Rattle.directory_upgrade.specs.Sets.{HaveMarks, IsMarkerNumber, IsSetBack}
use Rattle.directory_upgrade.proofs.Ended.{set_end}
use Rattle.directory_upgrade.proofs.Sets.{marked_spares, same_marks}
use Rattle.directory_upgrade.proofs.directory.upgrade_set.Goals as goal

pub returns-in-Ok-clause-done : goal.returns-in-Ok-clause-done
returns-in-Ok-clause-done g c told dir old taken beside =
    let set = c.args.set in
    let left = c.upgrade_files-set.result.0 in
    let did = c.upgrade_files-set.ensures in
    let past = g.H.D.Disk.past in
    let disks = g.H.D.Disk in
    let numbers = set.numbers.items in
    let number = set.marker_number in
    let tells = g.met.H.Shelf.disks_tell told in
    let numbers_are : left.numbers.items ≡ numbers = ap (λ (l : Listed ℕ). l.items) did.same.0 in
    let number_is : left.marker_number ≡ number = did.same.1 in
    let mid = g.H.Shelf.files c.args.shelf.now in
    let new = g.H.Shelf.files c.put_back_set.new.shelf in
    let file_marks = same_marks disks dir old numbers 0 set.files.items left.files.items did.marks.0 taken.file_marks in
    let spare_marks = same_marks disks dir old numbers 2000 set.spares.items left.spares.items did.marks.1 taken.spare_marks in
    let back = c.put_back_set.ensures.back told dir
    (subst (λ (l : List ℕ). HaveMarks disks dir 0 l left.files.items) (sym numbers_are) file_marks)
    (subst (λ (l : List ℕ). HaveMarks disks dir 2000 l left.spares.items) (sym numbers_are) spare_marks)
    (did.marks.2 ∙ taken.marker_mark ∙ ap (λ (n : ℕ). Some (dir, n)) (sym number_is))
    (subst IsMarkerNumber (sym number_is) c.requires.number) in
    let here : IsSetBack dir number numbers (map past left.files.items) (map past left.spares.items) (past left.marker) mid new =
    subst (λ (n : ℕ). IsSetBack dir n numbers (map past left.files.items) (map past left.spares.items) (past left.marker) mid new) number_is
    (subst (λ (l : List ℕ). IsSetBack dir left.marker_number l (map past left.files.items) (map past left.spares.items) (past left.marker) mid new) numbers_are back) in
    let whole = set_end past numbers set.files.items set.spares.items left.files.items left.spares.items set.marker left.marker number dir old
    c.requires.set.as_many_files c.requires.set.as_many_spares taken.files_kept (λ one. marked_spares disks dir old numbers set.files.items set.spares.items set.marker number taken one) taken.marker_kept
    mid new c.upgrade_files-set.result.1 beside here (did.found tells) (did.ok tells) (did.nothing tells) (λ payloads before. did.safe tells payloads before) (did.kept tells) (did.fault tells) in
    subst (λ (r : Result Upgraded UpgradeFault). IsSetEnd dir number numbers old new r) c.in-Ok.is whole

pub returns-in-Err-clause-stopped : goal.returns-in-Err-clause-stopped
returns-in-Err-clause-stopped g c told dir old taken beside =
    let set = c.args.set in
    let left = c.upgrade_files-set.result.0 in
    let did = c.upgrade_files-set.ensures in
    let past = g.H.D.Disk.past in
    let disks = g.H.D.Disk in
    let numbers = set.numbers.items in
    let number = set.marker_number in
    let tells = g.met.H.Shelf.disks_tell told in
    let numbers_are : left.numbers.items ≡ numbers = ap (λ (l : Listed ℕ). l.items) did.same.0 in
    let number_is : left.marker_number ≡ number = did.same.1 in
    let mid = g.H.Shelf.files c.args.shelf.now in
    let new = g.H.Shelf.files c.put_back_set.new.shelf in
    let file_marks = same_marks disks dir old numbers 0 set.files.items left.files.items did.marks.0 taken.file_marks in
    let spare_marks = same_marks disks dir old numbers 2000 set.spares.items left.spares.items did.marks.1 taken.spare_marks in
    let back = c.put_back_set.ensures.back told dir
    (subst (λ (l : List ℕ). HaveMarks disks dir 0 l left.files.items) (sym numbers_are) file_marks)
    (subst (λ (l : List ℕ). HaveMarks disks dir 2000 l left.spares.items) (sym numbers_are) spare_marks)
    (did.marks.2 ∙ taken.marker_mark ∙ ap (λ (n : ℕ). Some (dir, n)) (sym number_is))
    (subst IsMarkerNumber (sym number_is) c.requires.number) in
    let here : IsSetBack dir number numbers (map past left.files.items) (map past left.spares.items) (past left.marker) mid new =
    subst (λ (n : ℕ). IsSetBack dir n numbers (map past left.files.items) (map past left.spares.items) (past left.marker) mid new) number_is
    (subst (λ (l : List ℕ). IsSetBack dir left.marker_number l (map past left.files.items) (map past left.spares.items) (past left.marker) mid new) numbers_are back) in
    let whole = set_end past numbers set.files.items set.spares.items left.files.items left.spares.items set.marker left.marker number dir old
    c.requires.set.as_many_files c.requires.set.as_many_spares taken.files_kept (λ one. marked_spares disks dir old numbers set.files.items set.spares.items set.marker number taken one) taken.marker_kept
    mid new c.upgrade_files-set.result.1 beside here (did.found tells) (did.ok tells) (did.nothing tells) (λ payloads before. did.safe tells payloads before) (did.kept tells) (did.fault tells) in
    (c.in-Err.fault, c.check_fault.ensures, subst (λ (r : Result Upgraded UpgradeFault). IsSetEnd dir number numbers old new r) c.in-Err.is whole)
