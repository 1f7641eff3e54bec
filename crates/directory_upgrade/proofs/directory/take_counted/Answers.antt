use Rattle.std.proofs.Common.{◌≡◌, ℕ, List, [], ◌∷◌, length, ap, sym, subst, ◌∙◌, arith}
use Rattle.std.specs.Prelude.{Bool, true, false}
use Rattle.delta_base.specs.Listed.{Listed}
use Rattle.slot_files.specs.Files.{bytes_at}
use Rattle.slot_checks.specs.declared.marker.TheConstants.{FILES_MARKER}
use Rattle.directory_upgrade.specs.Sets.{IsOpened, IsTaken, MarkerSays}
use Rattle.directory_upgrade.proofs.Counted.{has_marked, has_quiet, stops_marked, stops_quiet}
use Rattle.directory_upgrade.proofs.Sets.{files_went, spares_went}
use Rattle.directory_upgrade.proofs.directory.take_counted.Goals as goal

pub slots_unmarked-requires-clause-unmarked : goal.slots_unmarked-requires-clause-unmarked
slots_unmarked-requires-clause-unmarked g c told = c.in-Ok-false.ensures.unmarked told c.in-Ok-false.field-0-test

pub returns-in-Ok-true-clause-has : goal.returns-in-Ok-true-clause-has
returns-in-Ok-true-clause-has g c told given =
    let dir = c.args.dir.now in
    let old = g.H.Shelf.files c.args.shelf.now in
    let disks = g.H.D.Disk in
    let set = c.take_registry.new.set in
    let opened = subst (λ (n : ℕ). IsOpened disks dir n old c.args.set.marker) (sym c.requires.number) given in
    let number : set.marker_number ≡ FILES_MARKER = c.take_registry.ensures.number ∙ c.requires.number in
    let taken : IsTaken disks dir old (0 ∷ []) set.files.items set.spares.items set.marker FILES_MARKER =
    subst (λ (n : ℕ). IsTaken disks dir old (0 ∷ []) set.files.items set.spares.items set.marker n) number
    (subst (λ (l : List ℕ). IsTaken disks dir old l set.files.items set.spares.items set.marker set.marker_number) c.in-Ok-true.ensures.registry (c.take_registry.ensures.taken told opened)) in
    let tells = g.met.H.Shelf.disks_tell told in
    let said : MarkerSays true (bytes_at old dir FILES_MARKER) FILES_MARKER =
    subst (λ (n : ℕ). MarkerSays true (bytes_at old dir n) n) c.requires.number
    (subst (λ (b : Bool). MarkerSays b (bytes_at old dir c.args.set.marker_number) c.args.set.marker_number) c.in-Ok-true.field-0-test (c.in-Ok-true.ensures.says told opened)) in
    has_marked disks dir old set.files.items set.spares.items set.marker taken c.slots_marked.result.1 said (c.slots_marked.ensures.tells tells)

pub returns-in-Ok-true-clause-fault : goal.returns-in-Ok-true-clause-fault
returns-in-Ok-true-clause-fault g c told given =
    let dir = c.args.dir.now in
    let old = g.H.Shelf.files c.args.shelf.now in
    let disks = g.H.D.Disk in
    let set = c.take_registry.new.set in
    let opened = subst (λ (n : ℕ). IsOpened disks dir n old c.args.set.marker) (sym c.requires.number) given in
    let number : set.marker_number ≡ FILES_MARKER = c.take_registry.ensures.number ∙ c.requires.number in
    let taken : IsTaken disks dir old (0 ∷ []) set.files.items set.spares.items set.marker FILES_MARKER =
    subst (λ (n : ℕ). IsTaken disks dir old (0 ∷ []) set.files.items set.spares.items set.marker n) number
    (subst (λ (l : List ℕ). IsTaken disks dir old l set.files.items set.spares.items set.marker set.marker_number) c.in-Ok-true.ensures.registry (c.take_registry.ensures.taken told opened)) in
    let tells = g.met.H.Shelf.disks_tell told in
    let said : MarkerSays true (bytes_at old dir FILES_MARKER) FILES_MARKER =
    subst (λ (n : ℕ). MarkerSays true (bytes_at old dir n) n) c.requires.number
    (subst (λ (b : Bool). MarkerSays b (bytes_at old dir c.args.set.marker_number) c.args.set.marker_number) c.in-Ok-true.field-0-test (c.in-Ok-true.ensures.says told opened)) in
    stops_marked disks dir old set.files.items set.spares.items set.marker taken c.slots_marked.result.1 said (c.slots_marked.ensures.fault tells)

pub returns-in-Ok-true-clause-taken : goal.returns-in-Ok-true-clause-taken
returns-in-Ok-true-clause-taken g c told given =
    let dir = c.args.dir.now in
    let old = g.H.Shelf.files c.args.shelf.now in
    let disks = g.H.D.Disk in
    let set = c.take_registry.new.set in
    let opened = subst (λ (n : ℕ). IsOpened disks dir n old c.args.set.marker) (sym c.requires.number) given in
    let number : set.marker_number ≡ FILES_MARKER = c.take_registry.ensures.number ∙ c.requires.number in
    let taken : IsTaken disks dir old (0 ∷ []) set.files.items set.spares.items set.marker FILES_MARKER =
    subst (λ (n : ℕ). IsTaken disks dir old (0 ∷ []) set.files.items set.spares.items set.marker n) number
    (subst (λ (l : List ℕ). IsTaken disks dir old l set.files.items set.spares.items set.marker set.marker_number) c.in-Ok-true.ensures.registry (c.take_registry.ensures.taken told opened)) in
    let tells = g.met.H.Shelf.disks_tell told in
    let said : MarkerSays true (bytes_at old dir FILES_MARKER) FILES_MARKER =
    subst (λ (n : ℕ). MarkerSays true (bytes_at old dir n) n) c.requires.number
    (subst (λ (b : Bool). MarkerSays b (bytes_at old dir c.args.set.marker_number) c.args.set.marker_number) c.in-Ok-true.field-0-test (c.in-Ok-true.ensures.says told opened)) in
    let now = c.slots_marked.result.0 in
    let same = c.slots_marked.ensures.same in
    let numbers : now.numbers.items ≡ 0 ∷ [] = ap (λ (l : Listed ℕ). l.items) same.1 ∙ c.in-Ok-true.ensures.registry in
    let files : now.files.items ≡ set.files.items = ap (λ (l : Listed g.row.H-D.Denot). l.items) same.3 in
    rw (numbers, files, same.0) (spares_went disks dir old (0 ∷ []) set.files.items set.spares.items set.marker FILES_MARKER taken now.spares.items (c.slots_marked.ensures.spares tells) c.slots_marked.ensures.marks)

pub returns-in-Ok-false-clause-has : goal.returns-in-Ok-false-clause-has
returns-in-Ok-false-clause-has g c told given =
    let dir = c.args.dir.now in
    let old = g.H.Shelf.files c.args.shelf.now in
    let disks = g.H.D.Disk in
    let set = c.take_registry.new.set in
    let opened = subst (λ (n : ℕ). IsOpened disks dir n old c.args.set.marker) (sym c.requires.number) given in
    let number : set.marker_number ≡ FILES_MARKER = c.take_registry.ensures.number ∙ c.requires.number in
    let taken : IsTaken disks dir old (0 ∷ []) set.files.items set.spares.items set.marker FILES_MARKER =
    subst (λ (n : ℕ). IsTaken disks dir old (0 ∷ []) set.files.items set.spares.items set.marker n) number
    (subst (λ (l : List ℕ). IsTaken disks dir old l set.files.items set.spares.items set.marker set.marker_number) c.in-Ok-false.ensures.registry (c.take_registry.ensures.taken told opened)) in
    let tells = g.met.H.Shelf.disks_tell told in
    let said : MarkerSays false (bytes_at old dir FILES_MARKER) FILES_MARKER =
    subst (λ (n : ℕ). MarkerSays false (bytes_at old dir n) n) c.requires.number
    (subst (λ (b : Bool). MarkerSays b (bytes_at old dir c.args.set.marker_number) c.args.set.marker_number) c.in-Ok-false.field-0-test (c.in-Ok-false.ensures.says told opened)) in
    let count : length set.files.items ≡ 1 = c.take_registry.ensures.set.as_many_files ∙ ap length c.in-Ok-false.ensures.registry in
    has_quiet disks dir old set.files.items set.spares.items set.marker taken c.slots_unmarked.result.1 said count (c.slots_unmarked.ensures.tells tells)

pub returns-in-Ok-false-clause-fault : goal.returns-in-Ok-false-clause-fault
returns-in-Ok-false-clause-fault g c told given =
    let dir = c.args.dir.now in
    let old = g.H.Shelf.files c.args.shelf.now in
    let disks = g.H.D.Disk in
    let set = c.take_registry.new.set in
    let opened = subst (λ (n : ℕ). IsOpened disks dir n old c.args.set.marker) (sym c.requires.number) given in
    let number : set.marker_number ≡ FILES_MARKER = c.take_registry.ensures.number ∙ c.requires.number in
    let taken : IsTaken disks dir old (0 ∷ []) set.files.items set.spares.items set.marker FILES_MARKER =
    subst (λ (n : ℕ). IsTaken disks dir old (0 ∷ []) set.files.items set.spares.items set.marker n) number
    (subst (λ (l : List ℕ). IsTaken disks dir old l set.files.items set.spares.items set.marker set.marker_number) c.in-Ok-false.ensures.registry (c.take_registry.ensures.taken told opened)) in
    let tells = g.met.H.Shelf.disks_tell told in
    let said : MarkerSays false (bytes_at old dir FILES_MARKER) FILES_MARKER =
    subst (λ (n : ℕ). MarkerSays false (bytes_at old dir n) n) c.requires.number
    (subst (λ (b : Bool). MarkerSays b (bytes_at old dir c.args.set.marker_number) c.args.set.marker_number) c.in-Ok-false.field-0-test (c.in-Ok-false.ensures.says told opened)) in
    let count : length set.files.items ≡ 1 = c.take_registry.ensures.set.as_many_files ∙ ap length c.in-Ok-false.ensures.registry in
    stops_quiet disks dir old set.files.items set.spares.items set.marker taken c.slots_unmarked.result.1 said count (c.slots_unmarked.ensures.fault tells)

pub returns-in-Ok-false-clause-taken : goal.returns-in-Ok-false-clause-taken
returns-in-Ok-false-clause-taken g c told given =
    let dir = c.args.dir.now in
    let old = g.H.Shelf.files c.args.shelf.now in
    let disks = g.H.D.Disk in
    let set = c.take_registry.new.set in
    let opened = subst (λ (n : ℕ). IsOpened disks dir n old c.args.set.marker) (sym c.requires.number) given in
    let number : set.marker_number ≡ FILES_MARKER = c.take_registry.ensures.number ∙ c.requires.number in
    let taken : IsTaken disks dir old (0 ∷ []) set.files.items set.spares.items set.marker FILES_MARKER =
    subst (λ (n : ℕ). IsTaken disks dir old (0 ∷ []) set.files.items set.spares.items set.marker n) number
    (subst (λ (l : List ℕ). IsTaken disks dir old l set.files.items set.spares.items set.marker set.marker_number) c.in-Ok-false.ensures.registry (c.take_registry.ensures.taken told opened)) in
    let tells = g.met.H.Shelf.disks_tell told in
    let said : MarkerSays false (bytes_at old dir FILES_MARKER) FILES_MARKER =
    subst (λ (n : ℕ). MarkerSays false (bytes_at old dir n) n) c.requires.number
    (subst (λ (b : Bool). MarkerSays b (bytes_at old dir c.args.set.marker_number) c.args.set.marker_number) c.in-Ok-false.field-0-test (c.in-Ok-false.ensures.says told opened)) in
    let now = c.slots_unmarked.result.0 in
    let same = c.slots_unmarked.ensures.same in
    let numbers : now.numbers.items ≡ 0 ∷ [] = ap (λ (l : Listed ℕ). l.items) same.1 ∙ c.in-Ok-false.ensures.registry in
    let one : length now.spares.items ≡ 1 = c.slots_unmarked.ensures.set.as_many_spares ∙ ap length numbers in
    rw (numbers, same.0)
    (files_went disks dir old set.files.items set.spares.items set.marker FILES_MARKER taken now.files.items now.spares.items said (c.slots_unmarked.ensures.files tells) one c.slots_unmarked.ensures.marks.0 c.slots_unmarked.ensures.marks.1)

pub returns-in-Err-clause-within : goal.returns-in-Err-clause-within
returns-in-Err-clause-within g c more number one = absurd (omega (arith, one.1, ap length c.in-Err.ensures.none))
