use Rattle.std.proofs.Common.{◌≡◌, ℕ, List, [], ◌∷◌, ◌++◌, length, refl, ap, subst, ◌∙◌, arith}
use Rattle.disk_model.specs.Past.{reads}
use Rattle.slot_files.specs.Files.{bytes_at}
use Rattle.slot_checks.proofs.Steps.{told_err}
use Rattle.slot_checks.specs.declared.marker.TheConstants.{ZONE_MARKER}
use Rattle.directory_upgrade.specs.Sets.{MarkerSays}
use Rattle.directory_upgrade.specs.Taking.{IsAdded}
use Rattle.directory_upgrade.specs.Zones.{StopsTakingZone}
use Rattle.directory_upgrade.proofs.Stops.{zone_free_stops, zone_marker_stops}
use Rattle.directory_upgrade.proofs.Visits.{all_left, left_more, taken_more, taken_none}
use Rattle.directory_upgrade.proofs.zone.take_zone.Goals as goal

pub returns-in_err-is_marked-clause-fault : goal.returns-in_err-is_marked-clause-fault
returns-in_err-is_marked-clause-fault g c told opened =
    let files = g.H.Shelf.files c.args.shelf.now in
    let dir = c.args.dir.now in
    let fault = c.in_err-is_marked.field-0.0 in
    told_err (StopsTakingZone files dir) c.from_residual.result fault c.from_residual.ensures.1
    (zone_marker_stops files dir fault c.args.set.now.marker_number (reads (g.H.D.Disk.past c.args.set.now.marker)) c.requires.number (ap reads opened.past) (c.in_err-is_marked.ensures.fault (g.met.H.Shelf.disks_tell told)))

pub returns-in_err-take_file-clause-fault : goal.returns-in_err-take_file-clause-fault
returns-in_err-take_file-clause-fault g c told opened =
    let files = g.H.Shelf.files c.args.shelf.now in
    let dir = c.args.dir.now in
    let fault = c.in_err-take_file.field-0.0 in
    told_err (StopsTakingZone files dir) c.from_residual-in_err-take_file.result fault c.from_residual-in_err-take_file.ensures.1 (zone_free_stops files dir fault c.in_err-take_file.ensures.fault)

pub returns-in_err-take_file-2-clause-fault : goal.returns-in_err-take_file-2-clause-fault
returns-in_err-take_file-2-clause-fault g c told opened =
    let files = g.H.Shelf.files c.args.shelf.now in
    let dir = c.args.dir.now in
    let fault = c.in_err-take_file-2.field-0.0 in
    told_err (StopsTakingZone files dir) c.from_residual-in_err-take_file-2.result fault c.from_residual-in_err-take_file-2.ensures.1 (zone_free_stops files dir fault c.in_err-take_file-2.ensures.fault)

pub returns-in_err-take_file-2-clause-left : goal.returns-in_err-take_file-2-clause-left
returns-in_err-take_file-2-clause-left g c told =
    let old = g.H.Shelf.files c.args.shelf.now in
    let mid = g.H.Shelf.files c.take_file.new.shelf in
    let new = g.H.Shelf.files c.take_file-then-both.new.shelf in
    let dir = c.args.dir.now in
    left_more dir ZONE_MARKER (1000 ∷ []) 1001 old mid new (left_more dir ZONE_MARKER [] 1000 old old mid (all_left dir ZONE_MARKER [] old) (c.take_file.ensures.kept told)) (c.take_file-then-both.ensures.kept told)

pub returns-in_ok-take_file-2-clause-left : goal.returns-in_ok-take_file-2-clause-left
returns-in_ok-take_file-2-clause-left g c told =
    let old = g.H.Shelf.files c.args.shelf.now in
    let mid = g.H.Shelf.files c.take_file.new.shelf in
    let new = g.H.Shelf.files c.take_file-then-both.new.shelf in
    let dir = c.args.dir.now in
    left_more dir ZONE_MARKER (1000 ∷ []) 1001 old mid new (left_more dir ZONE_MARKER [] 1000 old old mid (all_left dir ZONE_MARKER [] old) (c.take_file.ensures.kept told)) (c.take_file-then-both.ensures.kept told)

pub returns-in_ok-take_file-2-clause-kept : goal.returns-in_ok-take_file-2-clause-kept
returns-in_ok-take_file-2-clause-kept g c told =
    let old = g.H.Shelf.files c.args.shelf.now in
    let mid = g.H.Shelf.files c.take_file.new.shelf in
    let new = g.H.Shelf.files c.take_file-then-both.new.shelf in
    let dir = c.args.dir.now in
    let none : c.is_marked.new.set.numbers.items ≡ [] = ap (λ s. s.numbers.items) c.is_marked.ensures.same ∙ c.requires.empty.2 in
    let first : c.take_file.new.set.numbers.items ≡ 1000 ∷ [] = c.in_ok-take_file.ensures.ok.2 ∙ ap (λ (l : List ℕ). l ++ 1000 ∷ []) none in
    let second : c.take_file-then-both.new.set.numbers.items ≡ 1000 ∷ 1001 ∷ [] = c.in_ok-take_file-2.ensures.ok.2 ∙ ap (λ (l : List ℕ). l ++ 1001 ∷ []) first in
    rw second
    (left_more dir ZONE_MARKER (1000 ∷ []) 1001 old mid new (left_more dir ZONE_MARKER [] 1000 old old mid (all_left dir ZONE_MARKER [] old) (c.take_file.ensures.kept told)) (c.take_file-then-both.ensures.kept told))

pub returns-in_ok-take_file-2-clause-taken : goal.returns-in_ok-take_file-2-clause-taken
returns-in_ok-take_file-2-clause-taken g c told opened =
    let old = g.H.Shelf.files c.args.shelf.now in
    let mid = g.H.Shelf.files c.take_file.new.shelf in
    let new = g.H.Shelf.files c.take_file-then-both.new.shelf in
    let dir = c.args.dir.now in
    let none : c.is_marked.new.set.numbers.items ≡ [] = ap (λ s. s.numbers.items) c.is_marked.ensures.same ∙ c.requires.empty.2 in
    let first : c.take_file.new.set.numbers.items ≡ 1000 ∷ [] = c.in_ok-take_file.ensures.ok.2 ∙ ap (λ (l : List ℕ). l ++ 1000 ∷ []) none in
    let second : c.take_file-then-both.new.set.numbers.items ≡ 1000 ∷ 1001 ∷ [] = c.in_ok-take_file-2.ensures.ok.2 ∙ ap (λ (l : List ℕ). l ++ 1001 ∷ []) first in
    let disks = g.H.D.Disk in
    let start = c.args.set.now in
    let before = c.is_marked.new.set in
    let between = c.take_file.new.set in
    let after = c.take_file-then-both.new.set in
    let tells = g.met.H.Shelf.disks_tell told in
    let no_files : before.files.items ≡ [] = ap (λ s. s.files.items) c.is_marked.ensures.same ∙ c.requires.empty.0 in
    let no_spares : before.spares.items ≡ [] = ap (λ s. s.spares.items) c.is_marked.ensures.same ∙ c.requires.empty.1 in
    let none_taken = taken_none disks dir old [] [] [] start.marker before.marker ZONE_MARKER refl refl refl opened (c.is_marked.ensures.kept tells) c.is_marked.ensures.went.mark in
    let said : MarkerSays c.in_ok-is_marked.field-0 (bytes_at old dir ZONE_MARKER) ZONE_MARKER =
    subst (λ (b : List ℕ). MarkerSays c.in_ok-is_marked.field-0 b ZONE_MARKER) (ap reads opened.past) (subst (λ (n : ℕ). MarkerSays c.in_ok-is_marked.field-0 (reads (disks.past start.marker)) n) c.requires.number (c.in_ok-is_marked.ensures.says tells)) in
    let file_one = subst (λ (l : List g.row.H-D.Denot). IsAdded disks dir 1000 old l between.files.items) no_files (c.in_ok-take_file.ensures.file told) in
    let spare_one = subst (λ (l : List g.row.H-D.Denot). IsAdded disks dir 3000 old l between.spares.items) no_spares (c.in_ok-take_file.ensures.spare told) in
    let one_taken = taken_more disks dir old [] 1000 old ZONE_MARKER (all_left dir ZONE_MARKER [] old) (omega arith) [] [] between.files.items between.spares.items before.marker refl refl c.in_ok-is_marked.field-0 said none_taken file_one spare_one in
    let left = left_more dir ZONE_MARKER [] 1000 old old mid (all_left dir ZONE_MARKER [] old) (c.take_file.ensures.kept told) in
    let count_files : length between.files.items ≡ 1 = ap length file_one.added in
    let count_spares : length between.spares.items ≡ 1 = ap length spare_one.added in
    let both_taken = taken_more disks dir old (1000 ∷ []) 1001 mid ZONE_MARKER left (omega arith) between.files.items between.spares.items after.files.items after.spares.items before.marker count_files count_spares c.in_ok-is_marked.field-0 said one_taken
    (c.in_ok-take_file-2.ensures.file told) (c.in_ok-take_file-2.ensures.spare told) in
    rw (second, c.take_file-then-both.ensures.same.0, c.take_file.ensures.same.0) both_taken
