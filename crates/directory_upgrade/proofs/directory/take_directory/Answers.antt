use Rattle.std.proofs.Common.{◌≡◌, ◌⊎◌, ℕ, List, sym, subst, ◌∙◌, arith}
use Rattle.std.proofs.lemmas.Result.{IfOk-at_ok, IfErr-at_err}
use Rattle.slot_checks.specs.declared.fault.CheckFault.TheVariants as check
use Rattle.slot_checks.specs.declared.marker.TheConstants.{FILES_MARKER}
use Rattle.directory_upgrade.specs.Sets.{AreKeptButSpare, IsOneOf, IsTaken}
use Rattle.directory_upgrade.specs.Directories.{up_to, HasSlots, StopsTaking}
use Rattle.directory_upgrade.proofs.Counted.{err_map, on_ok_at, on_ok_map}
use Rattle.directory_upgrade.proofs.Numbers.{up_to_within}
use Rattle.directory_upgrade.proofs.Sets.{left_wider}
use Rattle.directory_upgrade.proofs.Stops.{free_stops}
use Rattle.directory_upgrade.proofs.directory.take_directory.Goals as goal

pub returns-in-Ok-clause-has : goal.returns-in-Ok-clause-has
returns-in-Ok-clause-has g c told opened =
    let old = g.H.Shelf.files c.args.shelf.now in
    let has = IfOk-at_ok (HasSlots old c.args.dir.now) c.in-Ok.is (c.take_counted-set.ensures.has told opened) in
    on_ok_map c.take_logs-taken.result _ _ (λ are. (c.in-Ok.slots, has, are)) c.take_logs-taken.ensures.numbers

pub returns-in-Ok-clause-taken : goal.returns-in-Ok-clause-taken
returns-in-Ok-clause-taken g c told opened =
    let dir = c.args.dir.now in
    let old = g.H.Shelf.files c.args.shelf.now in
    let disks = g.H.D.Disk in
    let set = c.take_counted-set.result.0 in
    let did = c.take_counted-set.ensures in
    let numbers : set.numbers.items ≡ up_to 0 = on_ok_at c.take_counted-set.result.1 c.in-Ok.slots _ c.in-Ok.is did.registry in
    let logs = c.take_logs-taken.new.set in
    let more = c.take_logs-taken.ensures in
    let before = subst (λ (n : ℕ). IsTaken disks dir old set.numbers.items set.files.items set.spares.items set.marker n) (sym did.number) (did.taken told opened) in
    let left = subst (λ (n : ℕ). AreKeptButSpare dir n (up_to 0) old (g.H.Shelf.files c.take_counted-set.new.shelf)) (sym did.number) (did.kept told) in
    subst (λ (n : ℕ). IsTaken disks dir old logs.numbers.items logs.files.items logs.spares.items logs.marker n) (more.same.1 ∙ did.number) (more.taken told old before left)

pub returns-in-Ok-clause-kept : goal.returns-in-Ok-clause-kept
returns-in-Ok-clause-kept g c told =
    let dir = c.args.dir.now in
    let old = g.H.Shelf.files c.args.shelf.now in
    let disks = g.H.D.Disk in
    let set = c.take_counted-set.result.0 in
    let did = c.take_counted-set.ensures in
    let numbers : set.numbers.items ≡ up_to 0 = on_ok_at c.take_counted-set.result.1 c.in-Ok.slots _ c.in-Ok.is did.registry in
    let new = g.H.Shelf.files c.take_logs-taken.new.shelf in
    let left = subst (λ (n : ℕ). AreKeptButSpare dir n (up_to 0) old (g.H.Shelf.files c.take_counted-set.new.shelf)) (sym did.number) (did.kept told) in
    let all = subst (λ (n : ℕ). AreKeptButSpare dir n (up_to c.in-Ok.slots) old new) did.number (c.take_logs-taken.ensures.kept told old left) in
    on_ok_map c.take_logs-taken.result _ _ (λ are. subst (λ (l : List ℕ). AreKeptButSpare dir FILES_MARKER l old new) (sym are) all) c.take_logs-taken.ensures.numbers

pub returns-in-Ok-clause-left : goal.returns-in-Ok-clause-left
returns-in-Ok-clause-left g c told =
    let dir = c.args.dir.now in
    let old = g.H.Shelf.files c.args.shelf.now in
    let disks = g.H.D.Disk in
    let set = c.take_counted-set.result.0 in
    let did = c.take_counted-set.ensures in
    let numbers : set.numbers.items ≡ up_to 0 = on_ok_at c.take_counted-set.result.1 c.in-Ok.slots _ c.in-Ok.is did.registry in
    let new = g.H.Shelf.files c.take_logs-taken.new.shelf in
    let few = IfOk-at_ok _ c.in-Ok.is did.few in
    let left = subst (λ (n : ℕ). AreKeptButSpare dir n (up_to 0) old (g.H.Shelf.files c.take_counted-set.new.shelf)) (sym did.number) (did.kept told) in
    let all = subst (λ (n : ℕ). AreKeptButSpare dir n (up_to c.in-Ok.slots) old new) did.number (c.take_logs-taken.ensures.kept told old left) in
    left_wider dir FILES_MARKER (up_to c.in-Ok.slots) (up_to 16) old new (up_to_within c.in-Ok.slots 16 few.1) all

pub returns-in-Ok-clause-within : goal.returns-in-Ok-clause-within
returns-in-Ok-clause-within g c more number one =
    let some = c.take_logs-taken.ensures.some in
    let few = IfOk-at_ok _ c.in-Ok.is c.take_counted-set.ensures.few in
    up_to_within some.0 16 (omega (arith, some.1, few.1)) more number (subst (λ (l : List ℕ). IsOneOf more l number) some.2 one)

pub returns-in-Ok-clause-fault : goal.returns-in-Ok-clause-fault
returns-in-Ok-clause-fault g c told opened =
    let old = g.H.Shelf.files c.args.shelf.now in
    err_map c.take_logs-taken.result (λ fault. (fault ≡ check.Failed) ⊎ (fault ≡ check.OutOfMemory)) (StopsTaking old c.args.dir.now) (free_stops old c.args.dir.now) c.take_logs-taken.ensures.fault

pub returns-in-Err-clause-left : goal.returns-in-Err-clause-left
returns-in-Err-clause-left g c told =
    left_wider c.args.dir.now FILES_MARKER (up_to 0) (up_to 16) (g.H.Shelf.files c.args.shelf.now) (g.H.Shelf.files c.take_counted-set.new.shelf) (up_to_within 0 16 (omega arith)) (c.take_counted-set.ensures.kept told)

pub returns-in-Err-clause-within : goal.returns-in-Err-clause-within
returns-in-Err-clause-within g c more number one = up_to_within 0 16 (omega arith) more number (c.take_counted-set.ensures.within more number one)

pub returns-in-Err-clause-fault : goal.returns-in-Err-clause-fault
returns-in-Err-clause-fault g c told opened =
    IfErr-at_err (StopsTaking (g.H.Shelf.files c.args.shelf.now) c.args.dir.now) c.in-Err.is (c.take_counted-set.ensures.fault told opened)
