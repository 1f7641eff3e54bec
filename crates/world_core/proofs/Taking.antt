-- The calls of a zone keep up with the patches that reach it.
use Rattle.std.proofs.Common.{◌≡◌, ◌⊎◌, inl, inr, ⊎_elim, ℕ, Bool, true, false, cond, List, [], ◌∷◌, map, Option, Some, None, refl, sym, ◌∙◌, ap, subst, arith}
use Rattle.std.specs.Prelude.{is_none}
use Rattle.std.specs.List.{AllByRecursion}
use Rattle.std.specs.Option.{option_map}
use Rattle.disk_model.specs.Past.{Past, MayLeave, reads}
use Rattle.disk_model.specs.Plan.{plan_past, plan_reads_left}
use Rattle.disk_model.specs.declared.plan.PlanDisk.{PlanDisk}
use Rattle.log_journal.specs.File.{Holds}
use Rattle.log_journal.specs.Writing.{LeavesEither}
use Rattle.log_base.specs.declared.phase.Phase.TheVariants.{Settling, Body, Gate}
use Rattle.log_base.specs.declared.limits.LogLimits.{LogLimits}
use Rattle.log_base.specs.declared.limits.TheConstants.{LOG_LIMITS}
use Rattle.log_base.specs.OneMore.{with_one_more}
use Rattle.chain_core.specs.declared.chain.Patch.{Patch}
use Rattle.chain_core.specs.declared.fate.Fate.{Fate}
use Rattle.chain_core.specs.declared.fate.Fate.TheVariants.{Done, Fails, Stops}
use Rattle.chain_core.specs.declared.answer.LogAnswer.{LogAnswer}
use Rattle.chain_core.specs.declared.answer.LogAnswer.TheVariants.{Accepted, DiskFault}
use Rattle.chain_core.specs.Decision.{decision}
use Rattle.chain_core.specs.Log.{up, down}
use Rattle.chain_core.specs.Patches.{texts_of}
use Rattle.chain_core.specs.Stay.{Outcome, accepted_by, stay, fate_by_plan}
use Rattle.patch_meaning.specs.Checked.{CheckedPatch, AreChecked, checked_texts}
use Rattle.patch_log.specs.Log.{bare, IsSound}
use Rattle.zone_state.specs.declared.answer.TakeAnswer.{TakeAnswer}
use Rattle.zone_state.specs.declared.answer.TakeAnswer.TheVariants as take
use Rattle.zone_state.specs.declared.file.TheConstants.{ZONE_NUMBER}
use Rattle.zone_state.specs.Brief.{Brief, brief_of, file_length}
use Rattle.zone_state.specs.Log.{IsSoundZoneLog, StandsForZoneFile, patch_payload}
use Rattle.zone_state.specs.Stay.{decided}
use Rattle.zone_state.specs.Taking.{taking, taken_by, taken_then, told_by}
use Rattle.zone_state.specs.Zone.{ZoneView, StandsForZone, DiskHolds, doubt_of, text_in, zone_point}
use Rattle.zone_state.proofs.Decisions.{IsDecided, decided as is_decided}
use Rattle.zone_state.proofs.Growing.{bare_texts}
use Rattle.zone_state.proofs.AsLogs.{decided_alike, stays_alike, zone_log}
use Rattle.zone_state.proofs.Reopened.{found_again}
use Rattle.zone_state.proofs.Sound.{sound_checked}
use Rattle.world_core.specs.declared.zone.ZonePart.{ZonePart}
use Rattle.world_core.specs.declared.zone.ZonePart.TheVariants.{Up, Down}
use Rattle.world_core.specs.Parts.{run_as, stop_by, stop_taken, stopped_if, MayHold, CarriesPart, KeepsPayloads, RunsZone, KeepsTaken, IsZoneOf, EveryImageOfZone, HoldsTaken, MayBeKept}
use Rattle.world_core.specs.World.{ZonePoint, MayBeFound}
use Rattle.world_core.proofs.Carried.{carried_images, kept_texts}
use Rattle.world_core.proofs.Planned.{same_plan}
use Rattle.world_core.proofs.Running.{AsRun, accepted_as_run}

abbrev pub text_of : Patch → List ℕ
text_of patch = patch.text

-- ---- disks

leaves_bare : (past : Past) (checked : List CheckedPatch) (left : Option CheckedPatch) → LeavesEither past ZONE_NUMBER (checked_texts checked) (text_in left) → LeavesEither past ZONE_NUMBER (texts_of (map bare checked)) (patch_payload (doubt_of left))
leaves_bare past checked None either = tt
leaves_bare past checked (Some patch) either = subst (λ (texts : List (List ℕ)). LeavesEither past ZONE_NUMBER texts (Some patch.text)) (sym (bare_texts checked)) either

each_held : (past : Past) (limits : LogLimits) (taken : List Patch) (doubt : Option Patch) (image : List ℕ) → StandsForZoneFile past ZONE_NUMBER limits taken doubt → MayLeave past image → MayHold ZONE_NUMBER (texts_of taken) (patch_payload doubt) image
each_held past limits taken None image stands left = stands.each image left
each_held past limits taken (Some patch) image stands left = stands.each image left

module _ (zone : ZoneView PlanDisk) (taken : List Patch) (doubt : Option Patch) (runs : RunsZone zone taken doubt) where
  -- the disk of a zone that runs
  zone_file : StandsForZoneFile (plan_past zone.disk) ZONE_NUMBER LOG_LIMITS taken doubt
  zone_file =
      let stands = zone_log (Unit {0}) (plan_past zone.disk) zone runs.checked zone.doubt runs.stands tt in
      subst (λ (z : LogLimits × List Patch × Option Patch). StandsForZoneFile (plan_past zone.disk) ZONE_NUMBER z.0 z.1 z.2) (λ i. (runs.limits_is i, runs.taken_is i, runs.doubt_is i)) stands

  zone_carries : CarriesPart ZONE_NUMBER zone.disk (texts_of taken) (patch_payload doubt)
  zone_carries = record {
    each = λ image left. each_held (plan_past zone.disk) LOG_LIMITS taken doubt image zone_file left;
    leaves = subst (λ (z : List Patch × Option Patch). LeavesEither (plan_past zone.disk) ZONE_NUMBER (texts_of z.0) (patch_payload z.1)) (λ i. (runs.taken_is i, runs.doubt_is i)) (leaves_bare (plan_past zone.disk) runs.checked zone.doubt runs.leaves);
  }

keeps_zone : (disk : PlanDisk) (taken : List Patch) → KeepsPayloads ZONE_NUMBER disk (texts_of taken) → IsSoundZoneLog LOG_LIMITS taken → KeepsTaken disk taken
keeps_zone disk taken keeps log = record { each = keeps; without = log; having = log }

-- what is left of it is one of the two
left_zone : (taken : List Patch) (doubt : Option Patch) (opened : Bool) → IsSoundZoneLog LOG_LIMITS taken → IsSoundZoneLog LOG_LIMITS (with_one_more taken doubt) → IsSoundZoneLog LOG_LIMITS (cond opened (with_one_more taken doubt) taken)
left_zone taken doubt true without having = having
left_zone taken doubt false without having = without

pub stopped_zone : (zone : ZoneView PlanDisk) (taken : List Patch) (doubt : Option Patch) (opened : Bool) (disk : PlanDisk) → RunsZone zone taken doubt
    → (CarriesPart ZONE_NUMBER zone.disk (texts_of taken) (patch_payload doubt) → KeepsPayloads ZONE_NUMBER disk (cond opened (with_one_more (texts_of taken) (patch_payload doubt)) (texts_of taken)))
    → KeepsTaken disk (cond opened (with_one_more taken doubt) taken)
stopped_zone zone taken doubt opened disk runs keeps =
    let file = zone_file zone taken doubt runs in
    keeps_zone disk (cond opened (with_one_more taken doubt) taken) (kept_texts text_of ZONE_NUMBER disk opened taken doubt (keeps (zone_carries zone taken doubt runs))) (left_zone taken doubt opened file.without file.having)

pub new_zone : (disk : PlanDisk) → KeepsPayloads ZONE_NUMBER disk [] → KeepsTaken disk []
new_zone disk keeps = keeps_zone disk [] keeps (record { log = record { chain = record { follow = tt; differ = tt }; few = omega arith; room = omega arith; short = tt }; sound = tt })

-- ---- what is found of it

-- patches that their texts are, with their changes
checked_again : (patches : List Patch) → AllByRecursion IsSound patches → (checked : List CheckedPatch) × AreChecked checked × (map bare checked ≡ patches)
checked_again [] sound = ([], tt, refl)
checked_again (patch ∷ patches) sound =
    let rest = checked_again patches sound.1 in
    let first : CheckedPatch = record { text = patch.text; meaning = record { id = patch.id; prev = patch.prev; changes = sound.0.0 } } in
    (first ∷ rest.0, (sound.0.1, rest.1), ap (λ (ps : List Patch). patch ∷ ps) rest.2)

taken_checked : (P : List Patch → Type 0) (image : List ℕ) (found : List Patch) → AllByRecursion IsSound found → P found → Holds image ZONE_NUMBER (texts_of found) → HoldsTaken P image
taken_checked P image found sound has holds =
    let again = checked_again found sound in
    (again.0, (again.1, subst P (sym again.2) has), subst (λ (texts : List (List ℕ)). Holds image ZONE_NUMBER texts) (ap texts_of (sym again.2) ∙ bare_texts again.0) holds)

-- each image of a zone's disk holds what may be found
pub zone_images : (part : ZonePart) (point : ZonePoint) → IsZoneOf part point → EveryImageOfZone part (HoldsTaken (MayBeFound point))
zone_images (Up zone) (up taken doubt) runs = λ image left.
    let file = zone_file zone taken doubt runs in
    let held = carried_images text_of ZONE_NUMBER zone.disk taken doubt (zone_carries zone taken doubt runs) image left in
    let sound : AllByRecursion IsSound held.0 = ⊎_elim
    (λ (is : held.0 ≡ taken). subst (λ (ps : List Patch). AllByRecursion IsSound ps) (sym is) file.without.sound)
    (λ (is : held.0 ≡ with_one_more taken doubt). subst (λ (ps : List Patch). AllByRecursion IsSound ps) (sym is) file.having.sound) held.1 in
    taken_checked (MayBeFound (up taken doubt)) image held.0 sound held.1 held.2
zone_images (Up zone) (down taken) runs = absurd runs
zone_images (Down disk) (up taken doubt) keeps = absurd keeps
zone_images (Down disk) (down taken) keeps = λ image left. taken_checked (MayBeFound (down taken)) image taken keeps.without.sound refl (keeps.each image left)

-- and so does opening it
pub zone_reopened : (past : Past) (taken : List Patch) (doubt : Option Patch) (found : List CheckedPatch) (image : List ℕ) → StandsForZoneFile past ZONE_NUMBER LOG_LIMITS taken doubt → MayLeave past image
    → Holds image ZONE_NUMBER (checked_texts found) → AreChecked found → (map bare found ≡ taken) ⊎ (map bare found ≡ with_one_more taken doubt)
zone_reopened past taken doubt found image file left holds checked =
    found_again past ZONE_NUMBER LOG_LIMITS taken (map bare found) doubt image file left (subst (λ (texts : List (List ℕ)). Holds image ZONE_NUMBER texts) (sym (bare_texts found)) holds) (sound_checked found checked)

-- what may be kept is that of patches which may be found
pub kept_found : (part : ZonePart) (point : ZonePoint) (brief : Brief) → IsZoneOf part point → MayBeKept part brief → (taken : List CheckedPatch) × AreChecked taken × MayBeFound point (map bare taken) × (brief ≡ brief_of taken)
kept_found (Up zone) (up taken doubt) brief runs (inl now) = (runs.checked, runs.stands.without.checked, inl runs.taken_is, now ∙ runs.stands.brief_is)
kept_found (Up zone) (up taken doubt) brief runs (inr opened) =
    (opened.found, opened.checked, zone_reopened (plan_past zone.disk) taken doubt opened.found opened.image (zone_file zone taken doubt runs) opened.left opened.holds opened.checked, opened.brief_is)
kept_found (Up zone) (down taken) brief runs kept = absurd runs
kept_found (Down disk) (up taken doubt) brief keeps kept = absurd keeps
kept_found (Down disk) (down taken) brief keeps opened = (
  opened.found,
  opened.checked,
  ⊎_elim (λ (is : map bare opened.found ≡ taken). is) (λ (is : map bare opened.found ≡ taken). is) (zone_reopened (plan_past disk) taken None opened.found opened.image keeps opened.left opened.holds opened.checked),
  opened.brief_is,
)

-- ---- opening

pub opened_zone : (disk : PlanDisk) (zone : ZoneView PlanDisk) (checked : List CheckedPatch) (taken : List Patch) → KeepsTaken disk taken → Holds (reads (plan_past disk)) ZONE_NUMBER (checked_texts checked)
    → StandsForZone (Unit {0}) (plan_past zone.disk) zone checked None → zone.limits ≡ LOG_LIMITS → RunsZone zone taken None
opened_zone disk zone checked taken keeps holds stands limits =
    let found = zone_reopened (plan_past disk) taken None checked (reads (plan_past disk)) keeps (plan_reads_left disk) holds stands.without.checked in
    let none : None ≡ zone.doubt = sym stands.doubt_is in
    record {
      checked = checked;
      taken_is = ⊎_elim (λ (is : map bare checked ≡ taken). is) (λ (is : map bare checked ≡ taken). is) found;
      doubt_is = ap doubt_of stands.doubt_is;
      limits_is = limits;
      stands = subst (λ (doubt : Option CheckedPatch). StandsForZone (Unit {0}) (plan_past zone.disk) zone checked doubt) none stands;
      leaves = subst (λ (doubt : Option CheckedPatch). LeavesEither (plan_past zone.disk) ZONE_NUMBER (checked_texts checked) (text_in doubt)) none tt;
    }

-- ---- a taking, as it was run

-- the gate stands as a log's would
told_same : (fate : Fate) (a answer : LogAnswer) → ◌≡◌ {A = Option LogAnswer} (Some a) (Some answer) → stop_taken fate (told_by a) ≡ stop_by fate a → stop_taken fate (told_by answer) ≡ stop_by fate answer
told_same fate a answer same is = let inner : a ≡ answer = cc in subst (λ (x : LogAnswer). stop_taken fate (told_by x) ≡ stop_by fate x) inner is

told_stop : (version : ℕ) (fate run : Fate) (taken : List Patch) (doubt : Option Patch) (patch : Patch) (answer : LogAnswer) → (accepted_by version run taken doubt patch).1 ≡ Some answer → stop_taken fate (told_by answer) ≡ stop_by fate answer
told_stop version fate Done taken doubt patch answer is = told_same fate (Accepted version) answer is refl
told_stop version fate (Fails Settling) taken None patch answer is = told_same fate (Accepted version) answer is refl
told_stop version fate (Fails Settling) taken (Some doubtful) patch answer is = told_same fate DiskFault answer is refl
told_stop version fate (Fails Body) taken doubt patch answer is = told_same fate DiskFault answer is refl
told_stop version fate (Fails Gate) taken doubt patch answer is = told_same fate DiskFault answer is refl
told_stop version fate (Stops Settling opened) taken None patch answer is = told_same fate (Accepted version) answer is refl
told_stop version fate (Stops Settling opened) taken (Some doubtful) patch answer is = absurd (cc)
told_stop version fate (Stops Body opened) taken doubt patch answer is = absurd (cc)
told_stop version fate (Stops Gate opened) taken doubt patch answer is = absurd (cc)

-- there was an answer
record WasTold (got : Option LogAnswer) (answer : TakeAnswer) : Type 0 where
  told : LogAnswer
  is : got ≡ Some told
  same : told_by told ≡ answer

was_told : (got : Option LogAnswer) (answer : TakeAnswer) → option_map told_by got ≡ Some answer → WasTold got answer
was_told None answer is = absurd (cc)
was_told (Some told) answer is = record { told = told; is = refl; same = cc }

outcome_of : (outcome : Outcome Patch) (point : ZonePoint) (answer : LogAnswer) → outcome.0 ≡ point → outcome.1 ≡ Some answer → outcome ≡ (point, Some answer)
outcome_of (p, a) point answer is told = ap (λ (q : ZonePoint). let o : Outcome Patch = (q, a) in o) is ∙ ap (λ (b : Option LogAnswer). let o : Outcome Patch = (point, b) in o) told

module _ (fate : Fate) (taken : List Patch) (doubt : Option Patch) (patch : Patch) (after : List Patch) (left : Option Patch) (answer : TakeAnswer) where
  -- what the fate comes to
  abbrev ComesTo : ZonePoint → Type 0
  ComesTo point = point ≡ stopped_if (up after left) (stop_taken fate answer)

  next_as_run : (version : ℕ) → taken_by (take.Applied version) (run_as doubt fate) taken doubt patch ≡ (up after left, Some answer) → ComesTo (taken_by (take.Applied version) fate taken doubt patch).0
  next_as_run version is =
      let run = accepted_by version (run_as doubt fate) taken doubt patch in
      let points : run.0 ≡ up after left = ap (λ (o : ZonePoint × Option TakeAnswer). o.0) is in
      let answers : option_map told_by run.1 ≡ Some answer = ap (λ (o : ZonePoint × Option TakeAnswer). o.1) is in
      let told = was_told run.1 answer answers in
      let as_run = accepted_as_run taken patch version fate doubt after left told.told (outcome_of run (up after left) told.told points told.is) in
      let stop : stop_by fate told.told ≡ stop_taken fate answer = sym (told_stop version fate (run_as doubt fate) taken doubt patch told.told told.is) ∙ ap (stop_taken fate) told.same in
      subst (λ (s : Option Bool). (accepted_by version fate taken doubt patch).0 ≡ stopped_if (up after left) s) stop (by_stop told.told as_run (stop_by fate told.told) refl)
    where
      by_stop : (told : LogAnswer) → AsRun fate told after left (accepted_by version fate taken doubt patch) → (stop : Option Bool) → stop_by fate told ≡ stop → (accepted_by version fate taken doubt patch).0 ≡ stopped_if (up after left) stop
      by_stop told as_run None none = ap (λ (o : Outcome Patch). o.0) (as_run.1 none)
      by_stop told as_run (Some opened) some = ap (λ (o : Outcome Patch). o.0) (as_run.0 opened some)

  refused_as_run : (refused : TakeAnswer) → stop_taken fate refused ≡ None → ◌≡◌ {A = ZonePoint × Option TakeAnswer} (up taken doubt, Some refused) (up after left, Some answer) → ComesTo (up taken doubt)
  refused_as_run refused none is =
      let points : up taken doubt ≡ up after left = ap (λ (o : ZonePoint × Option TakeAnswer). o.0) is in
      let answers : Some refused ≡ Some answer = ap (λ (o : ZonePoint × Option TakeAnswer). o.1) is in
      let same : refused ≡ answer = cc in
      points ∙ ap (stopped_if (up after left)) (sym none ∙ ap (stop_taken fate) same)

  took_as_run : (made : TakeAnswer) → IsDecided made → taken_by made (run_as doubt fate) taken doubt patch ≡ (up after left, Some answer) → ComesTo (taken_by made fate taken doubt patch).0
  took_as_run (take.Applied version) fair is = next_as_run version is
  took_as_run (take.Diverged have prev) fair is = refused_as_run (take.Diverged have prev) refl is
  took_as_run (take.Repeated version) fair is = refused_as_run (take.Repeated version) refl is
  took_as_run (take.Full what have limit) fair is = refused_as_run (take.Full what have limit) refl is
  took_as_run take.TermsFull fair is = absurd fair
  took_as_run take.OutOfMemory fair is = absurd fair
  took_as_run take.DiskFault fair is = absurd fair

-- ---- a taking by a plan

pub settled_so : (doubt : Option CheckedPatch) → is_none doubt ≡ is_none (doubt_of doubt)
settled_so None = refl
settled_so (Some patch) = refl

-- the plan changes nothing but the disk's next failure
pub planned_runs : (zone planned : ZoneView PlanDisk) (taken : List Patch) (doubt : Option Patch) → RunsZone zone taken doubt → planned ≡ record zone { disk = planned.disk } → plan_past planned.disk ≡ plan_past zone.disk → RunsZone planned taken doubt
planned_runs zone planned taken doubt runs same past = subst (λ (z : ZoneView PlanDisk). RunsZone z taken doubt) (sym same) (record {
  checked = runs.checked;
  taken_is = runs.taken_is;
  doubt_is = runs.doubt_is;
  limits_is = runs.limits_is;
  stands = record {
    brief_is = runs.stands.brief_is;
    doubt_is = runs.stands.doubt_is;
    without = runs.stands.without;
    having = runs.stands.having;
    on_disk = λ told. subst (λ (p : Past). DiskHolds p (file_length zone.brief.ids zone.brief.bytes) runs.checked zone.doubt) (sym past) (runs.stands.on_disk told);
  };
  leaves = subst (λ (p : Past). LeavesEither p ZONE_NUMBER (checked_texts runs.checked) (text_in zone.doubt)) (sym past) runs.leaves;
})

-- the zone runs on, or stops where it is to stop
abbrev pub Took : ZoneView PlanDisk → List Patch → Option Patch → Patch → Fate → Option Bool → Type 0
Took zone taken doubt patch fate stop = (after : List Patch) × (left : Option Patch) × RunsZone zone after left × ((stay LOG_LIMITS (up taken doubt) patch fate).0 ≡ stopped_if (up after left) stop)

module _ (zone new : ZoneView PlanDisk) (taken : List Patch) (doubt : Option Patch) (patch : CheckedPatch) (fate : Fate) (plan : Option ℕ) (answer : TakeAnswer) (runs : RunsZone zone taken doubt) where
  abbrev after : List CheckedPatch
  after = taken_then answer runs.checked patch

  -- the stay of the patches that were checked
  stay_checked : taken_by (decided zone patch) (fate_by_plan zone.doubt plan) (map bare runs.checked) (doubt_of zone.doubt) (bare patch) ≡ (zone_point after new.doubt, Some answer)
      → fate_by_plan (doubt_of zone.doubt) plan ≡ run_as (doubt_of zone.doubt) fate
      → (stay LOG_LIMITS (up (map bare runs.checked) (doubt_of zone.doubt)) (bare patch) fate).0 ≡ stopped_if (zone_point after new.doubt) (stop_taken fate answer)
  stay_checked is planned =
      let as_planned : taken_by (decided zone patch) (run_as (doubt_of zone.doubt) fate) (map bare runs.checked) (doubt_of zone.doubt) (bare patch) ≡ (zone_point after new.doubt, Some answer) =
      subst (λ (f : Fate). taken_by (decided zone patch) f (map bare runs.checked) (doubt_of zone.doubt) (bare patch) ≡ (zone_point after new.doubt, Some answer)) (sym (same_plan bare zone.doubt plan) ∙ planned) is in
      let took = took_as_run fate (map bare runs.checked) (doubt_of zone.doubt) (bare patch) (map bare after) (doubt_of new.doubt) answer (decided zone patch) (is_decided zone.brief.ids zone.brief.bytes (bare patch) zone.limits) as_planned in
      let same : (taken_by (decided zone patch) fate (map bare runs.checked) (doubt_of zone.doubt) (bare patch)).0 ≡ (stay LOG_LIMITS (up (map bare runs.checked) (doubt_of zone.doubt)) (bare patch) fate).0 =
      ap (λ (brief : Brief). (taken_by (taking brief.ids brief.bytes (bare patch) zone.limits) fate (map bare runs.checked) (doubt_of zone.doubt) (bare patch)).0) runs.stands.brief_is
      ∙ stays_alike fate (map bare runs.checked) (doubt_of zone.doubt) (bare patch) (taking (brief_of runs.checked).ids (brief_of runs.checked).bytes (bare patch) zone.limits) (decision (map bare runs.checked) (bare patch) zone.limits) (decided_alike runs.checked (bare patch) zone.limits)
      ∙ ap (λ (limits : LogLimits). (stay limits (up (map bare runs.checked) (doubt_of zone.doubt)) (bare patch) fate).0) runs.limits_is in
      sym same ∙ took

  pub took_runs : StandsForZone (Unit {0}) (plan_past new.disk) new after new.doubt → new.limits ≡ LOG_LIMITS
      → taken_by (decided zone patch) (fate_by_plan zone.doubt plan) (map bare runs.checked) (doubt_of zone.doubt) (bare patch) ≡ (zone_point after new.doubt, Some answer)
      → fate_by_plan (doubt_of zone.doubt) plan ≡ run_as (doubt_of zone.doubt) fate
      → LeavesEither (plan_past new.disk) ZONE_NUMBER (checked_texts after) (text_in new.doubt)
      → Took new taken doubt (bare patch) fate (stop_taken fate answer)
  took_runs stands limits is planned leaves =
      let now : RunsZone new (map bare after) (doubt_of new.doubt) = record { checked = after; taken_is = refl; doubt_is = refl; limits_is = limits; stands = stands; leaves = leaves } in
      let checked : Took new (map bare runs.checked) (doubt_of zone.doubt) (bare patch) fate (stop_taken fate answer) = (map bare after, doubt_of new.doubt, now, stay_checked is planned) in
      subst (λ (d : Option Patch). Took new taken d (bare patch) fate (stop_taken fate answer)) runs.doubt_is (subst (λ (t : List Patch). Took new t (doubt_of zone.doubt) (bare patch) fate (stop_taken fate answer)) runs.taken_is checked)
