-- One event: the chain of a log goes on as a chain, and only grows.
use Rattle.std.proofs.Common.{◌≡◌, ⊎_elim, ℕ, zero, suc, ◌+◌, ◌-◌, ◌<◌, Bool, true, false, cond, List, [], ◌∷◌, ◌++◌, length, Option, Some, None, refl, sym, ◌∙◌, ap, subst, arith, append_assoc}
use Rattle.std.specs.Prelude.{slice_get}
use Rattle.std.proofs.lemmas.List.{append-nil}
use Rattle.log_base.specs.declared.phase.Phase.TheVariants.{Settling, Body, Gate}
use Rattle.chain_core.specs.declared.chain.Patch.{Patch}
use Rattle.log_base.specs.declared.limits.LogLimits.{LogLimits}
use Rattle.chain_core.specs.declared.fate.Fate.{Fate}
use Rattle.chain_core.specs.declared.fate.Fate.TheVariants.{Done, Fails, Stops}
use Rattle.chain_core.specs.declared.answer.Decision.{Decision}
use Rattle.chain_core.specs.declared.answer.Decision.TheVariants.{Accept, Known, Conflict, Full}
use Rattle.chain_core.specs.Links.{IsChain}
use Rattle.chain_core.specs.Patches.{links_of, patch_at}
use Rattle.chain_core.specs.Runs.{IsRun, patches_in}
use Rattle.chain_core.specs.Decision.{run_decision}
use Rattle.chain_core.specs.Log.{LogPoint, up, down, stopped, opened_again}
use Rattle.log_base.specs.OneMore.{with_one_more}
use Rattle.chain_core.specs.Stay.{accepted_by, decided_by}
use Rattle.chain_core.proofs.Decided.{accepted}
use Rattle.chain_core.proofs.Runs.{patches_in-push, run_goes_on}
use Rattle.world_core.specs.declared.event.WorldEvent.{WorldEvent}
use Rattle.world_core.specs.declared.event.WorldEvent.TheVariants.{Append, Serve, Describe, Stop, Open, NewZone, Deliver, ZoneStop, ZoneOpen}
use Rattle.world_core.specs.World.{sending, MayBeFound, BringsRun, StandsAt}

-- what a log or a zone took, without what is in doubt
abbrev pub taken_of : {T : Type 0} → LogPoint T → List T
taken_of (up taken doubt) = taken
taken_of (down taken) = taken

-- the patches of a log
abbrev pub chain_of : LogPoint (List Patch) → List Patch
chain_of point = patches_in (taken_of point)

-- the one list, with some behind it or none
abbrev pub GrowsTo : {T : Type 0} → List T → List T → Type 0
GrowsTo {T} before after = (more : List T) × (after ≡ before ++ more)

-- all that may be found has P
abbrev pub Each : {T : Type 0} → (List T → Type 0) → LogPoint T → Type 0
Each P (up taken doubt) = P taken × P (with_one_more taken doubt)
Each P (down taken) = P taken

-- the patches of runs are a chain
abbrev pub AreChained : List (List Patch) → Type 0
AreChained runs = IsChain (links_of (patches_in runs))

abbrev pub AreChains : LogPoint (List Patch) → Type 0
AreChains point = Each AreChained point

pub stays_same : {T : Type 0} (list : List T) → GrowsTo list list
stays_same list = ([], sym (append-nil list))

pub grows_on : {T : Type 0} (first mid last : List T) → GrowsTo first mid → GrowsTo mid last → GrowsTo first last
grows_on {T} first mid last one two = (one.0 ++ two.0, two.1 ∙ (ap (λ (list : List T). list ++ two.0) one.1 ∙ append_assoc first one.0 two.0))

patches_in-append : (runs more : List (List Patch)) → patches_in (runs ++ more) ≡ patches_in runs ++ patches_in more
patches_in-append [] more = refl
patches_in-append (run ∷ runs) more = ap (λ (patches : List Patch). run ++ patches) (patches_in-append runs more) ∙ sym (append_assoc run (patches_in runs) (patches_in more))

-- where runs grow, their patches do
pub patches_grow : (before after : List (List Patch)) → GrowsTo before after → GrowsTo (patches_in before) (patches_in after)
patches_grow before after grows = (patches_in grows.0, ap patches_in grows.1 ∙ patches_in-append before grows.0)

module _ {T : Type 0} (taken : List T) (doubt : Option T) (one : T) where
  -- what a stay leaves has P where the longer list has it
  module _ (P : List T → Type 0) (each : Each P (up taken doubt)) where
    opened_each : (opened : Bool) (longer : List T) → P longer → P (cond opened longer taken)
    opened_each true longer is = is
    opened_each false longer is = each.0

    accepted_each : (version : ℕ) (fate : Fate) → P (taken ++ one ∷ []) → Each P (accepted_by version fate taken doubt one).0
    accepted_each version Done more = (more, more)
    accepted_each version (Fails Settling) more = settling doubt each
      where
        settling : (d : Option T) → Each P (up taken d) → Each P (accepted_by version (Fails Settling) taken d one).0
        settling None both = (more, more)
        settling (Some doubtful) both = both
    accepted_each version (Fails Body) more = (each.0, each.0)
    accepted_each version (Fails Gate) more = (each.0, more)
    accepted_each version (Stops Settling opened) more = settling doubt each
      where
        settling : (d : Option T) → Each P (up taken d) → Each P (accepted_by version (Stops Settling opened) taken d one).0
        settling None both = (more, more)
        settling (Some doubtful) both = opened_each opened (taken ++ doubtful ∷ []) both.1
    accepted_each version (Stops Body opened) more = each.0
    accepted_each version (Stops Gate opened) more = opened_each opened (taken ++ one ∷ []) more

    pub decided_each : (fate : Fate) (made : Decision) → ((version : ℕ) → made ≡ Accept version → P (taken ++ one ∷ [])) → Each P (decided_by made fate taken doubt one).0
    decided_each fate (Accept version) more = accepted_each version fate (more version refl)
    decided_each fate (Known version known) more = each
    decided_each fate (Conflict version head named) more = each
    decided_each fate (Full what have limit) more = each

  -- ---- growth

  grows_if : (opened : Bool) (more : T) → GrowsTo taken (cond opened (taken ++ more ∷ []) taken)
  grows_if true more = (more ∷ [], refl)
  grows_if false more = stays_same taken

  accepted_grows : (version : ℕ) (fate : Fate) → GrowsTo taken (taken_of (accepted_by version fate taken doubt one).0)
  accepted_grows version Done = (one ∷ [], refl)
  accepted_grows version (Fails Settling) = settling doubt
    where
      settling : (d : Option T) → GrowsTo taken (taken_of (accepted_by version (Fails Settling) taken d one).0)
      settling None = (one ∷ [], refl)
      settling (Some doubtful) = stays_same taken
  accepted_grows version (Fails Body) = stays_same taken
  accepted_grows version (Fails Gate) = stays_same taken
  accepted_grows version (Stops Settling opened) = settling doubt
    where
      settling : (d : Option T) → GrowsTo taken (taken_of (accepted_by version (Stops Settling opened) taken d one).0)
      settling None = (one ∷ [], refl)
      settling (Some doubtful) = grows_if opened doubtful
  accepted_grows version (Stops Body opened) = stays_same taken
  accepted_grows version (Stops Gate opened) = grows_if opened one

  decided_grows : (fate : Fate) (made : Decision) → GrowsTo taken (taken_of (decided_by made fate taken doubt one).0)
  decided_grows fate (Accept version) = accepted_grows version fate
  decided_grows fate (Known version known) = stays_same taken
  decided_grows fate (Conflict version head named) = stays_same taken
  decided_grows fate (Full what have limit) = stays_same taken

module _ {T : Type 0} (P : List T → Type 0) where
  pub stopped_each : (point : LogPoint T) (opened : Bool) → Each P point → Each P (stopped point opened)
  stopped_each (up taken doubt) true each = each.1
  stopped_each (up taken doubt) false each = each.0
  stopped_each (down taken) opened each = each

  pub opened_again_each : (point : LogPoint T) → Each P point → Each P (opened_again point)
  opened_again_each (up taken doubt) each = each
  opened_again_each (down taken) each = (each, each)

  pub found_each : (point : LogPoint T) (found : List T) → Each P point → MayBeFound point found → P found
  found_each (up taken doubt) found each may = ⊎_elim (λ (is : found ≡ taken). subst P (sym is) each.0) (λ (is : found ≡ with_one_more taken doubt). subst P (sym is) each.1) may
  found_each (down taken) found each may = subst P (sym may) each

-- ---- events

chain_more : (limits : LogLimits) (runs : List (List Patch)) (run : List Patch) → AreChained runs → IsRun run → (version : ℕ) → run_decision (patches_in runs) run limits ≡ Accept version → AreChained (runs ++ run ∷ [])
chain_more limits runs run is linked version same =
    let could = (accepted (patches_in runs) run limits version same).0 in
    subst (λ (patches : List Patch). IsChain (links_of patches)) (sym (patches_in-push runs run)) (run_goes_on (patches_in runs) run is linked could.follows could.new)

pub sending_chains : (limits : LogLimits) (point : LogPoint (List Patch)) (event : WorldEvent) → BringsRun event → AreChains point → AreChains (sending limits point event).0
sending_chains limits (up runs doubt) (Append run fate) linked are =
    decided_each runs doubt run AreChained are fate (run_decision (patches_in runs) run limits) (chain_more limits runs run are.0 linked)
sending_chains limits (up runs doubt) (Serve version) linked are = are
sending_chains limits (up runs doubt) Describe linked are = are
sending_chains limits (up runs doubt) (Stop opened) linked are = stopped_each AreChained (up runs doubt) opened are
sending_chains limits (up runs doubt) Open linked are = are
sending_chains limits (up runs doubt) NewZone linked are = are
sending_chains limits (up runs doubt) (Deliver message zone fate) linked are = are
sending_chains limits (up runs doubt) (ZoneStop zone opened) linked are = are
sending_chains limits (up runs doubt) (ZoneOpen zone) linked are = are
sending_chains limits (down runs) (Append run fate) linked are = are
sending_chains limits (down runs) (Serve version) linked are = are
sending_chains limits (down runs) Describe linked are = are
sending_chains limits (down runs) (Stop opened) linked are = are
sending_chains limits (down runs) Open linked are = (are, are)
sending_chains limits (down runs) NewZone linked are = are
sending_chains limits (down runs) (Deliver message zone fate) linked are = are
sending_chains limits (down runs) (ZoneStop zone opened) linked are = are
sending_chains limits (down runs) (ZoneOpen zone) linked are = are

stopped_grows : {T : Type 0} (taken : List T) (doubt : Option T) (opened : Bool) → GrowsTo taken (taken_of (stopped (up taken doubt) opened))
stopped_grows taken None true = stays_same taken
stopped_grows taken (Some doubtful) true = (doubtful ∷ [], refl)
stopped_grows taken doubt false = stays_same taken

runs_grow : (limits : LogLimits) (point : LogPoint (List Patch)) (event : WorldEvent) → GrowsTo (taken_of point) (taken_of (sending limits point event).0)
runs_grow limits (up runs doubt) (Append run fate) = decided_grows runs doubt run fate (run_decision (patches_in runs) run limits)
runs_grow limits (up runs doubt) (Serve version) = stays_same runs
runs_grow limits (up runs doubt) Describe = stays_same runs
runs_grow limits (up runs doubt) (Stop opened) = stopped_grows runs doubt opened
runs_grow limits (up runs doubt) Open = stays_same runs
runs_grow limits (up runs doubt) NewZone = stays_same runs
runs_grow limits (up runs doubt) (Deliver message zone fate) = stays_same runs
runs_grow limits (up runs doubt) (ZoneStop zone opened) = stays_same runs
runs_grow limits (up runs doubt) (ZoneOpen zone) = stays_same runs
runs_grow limits (down runs) (Append run fate) = stays_same runs
runs_grow limits (down runs) (Serve version) = stays_same runs
runs_grow limits (down runs) Describe = stays_same runs
runs_grow limits (down runs) (Stop opened) = stays_same runs
runs_grow limits (down runs) Open = stays_same runs
runs_grow limits (down runs) NewZone = stays_same runs
runs_grow limits (down runs) (Deliver message zone fate) = stays_same runs
runs_grow limits (down runs) (ZoneStop zone opened) = stays_same runs
runs_grow limits (down runs) (ZoneOpen zone) = stays_same runs

pub sending_grows : (limits : LogLimits) (point : LogPoint (List Patch)) (event : WorldEvent) → GrowsTo (chain_of point) (chain_of (sending limits point event).0)
sending_grows limits point event = patches_grow (taken_of point) (taken_of (sending limits point event).0) (runs_grow limits point event)

-- ---- what stands in a list

still_got : (patches more : List Patch) (place : ℕ) (patch : Patch) → slice_get patches place ≡ Some patch → slice_get (patches ++ more) place ≡ Some patch
still_got [] more place patch is = absurd (cc)
still_got (first ∷ patches) more zero patch is = is
still_got (first ∷ patches) more (suc place) patch is = still_got patches more place patch is

-- a patch stays where it stands when the list grows
pub still_at : (before after : List Patch) (version : ℕ) (patch : Patch) → GrowsTo before after → patch_at before version ≡ Some patch → patch_at after version ≡ Some patch
still_at before after zero patch grows is = absurd (cc)
still_at before after (suc place) patch grows is = subst (λ (patches : List Patch). slice_get patches place ≡ Some patch) (sym grows.1) (still_got before grows.0 place patch is)

-- so does a run
pub still_stands : (before after run : List Patch) (first version : ℕ) → GrowsTo before after → StandsAt before run first version → StandsAt after run first version
still_stands before after run first version grows stands = record { last = stands.last; patches_at = λ place within. at place (got run place within) (stands.patches_at place within) }
  where
    got : (patches : List Patch) (place : ℕ) → place < length patches → (patch : Patch) × (slice_get patches place ≡ Some patch)
    got [] place within = absurd (omega (arith, within))
    got (patch ∷ patches) zero within = (patch, refl)
    got (patch ∷ patches) (suc place) within = got patches place (omega (arith, within))

    at : (place : ℕ) → (patch : Patch) × (slice_get run place ≡ Some patch) → patch_at before (first + place) ≡ slice_get run place → patch_at after (first + place) ≡ slice_get run place
    at place there same = still_at before after (first + place) there.0 grows (same ∙ there.1) ∙ sym there.1

runs_found : (point : LogPoint (List Patch)) (found : List (List Patch)) → MayBeFound point found → GrowsTo (taken_of point) found
runs_found (up runs doubt) found may = ⊎_elim (λ (is : found ≡ runs). ([], is ∙ sym (append-nil runs))) (with_or_without doubt) may
  where
    with_or_without : (d : Option (List Patch)) → found ≡ with_one_more runs d → GrowsTo runs found
    with_or_without None is = ([], is ∙ sym (append-nil runs))
    with_or_without (Some run) is = (run ∷ [], is)
runs_found (down runs) found may = ([], may ∙ sym (append-nil runs))

pub found_grows : (point : LogPoint (List Patch)) (found : List (List Patch)) → MayBeFound point found → GrowsTo (chain_of point) (patches_in found)
found_grows point found may = patches_grow (taken_of point) found (runs_found point found may)

got_behind : (patches more : List Patch) (place : ℕ) → slice_get (patches ++ more) (length patches + place) ≡ slice_get more place
got_behind [] more place = let same : 0 + place ≡ place = omega arith in ap (slice_get more) same
got_behind (first ∷ patches) more place =
    let count : length (first ∷ patches) + place ≡ suc (length patches + place) = omega arith in
    ap (slice_get ((first ∷ patches) ++ more)) count ∙ got_behind patches more place

-- a run that was put behind patches stands there
pub stands_behind : (patches run : List Patch) (first version : ℕ) → version ≡ length patches + length run → first ≡ version - (length run - 1) → StandsAt (patches ++ run) run first version
stands_behind patches run first version last begins = record {
  last = omega (arith, last, begins);
  patches_at = λ place within.
      let at : first + place ≡ suc (length patches + place) = omega (arith, last, begins, within) in
      ap (patch_at (patches ++ run)) at ∙ got_behind patches run place;
}

-- a list that goes on with the patch behind another list has that patch behind it
pub next_front : (taken chain : List Patch) (version : ℕ) (patch : Patch) → GrowsTo taken chain → version ≡ length taken + 1 → patch_at chain version ≡ Some patch → GrowsTo (taken ++ patch ∷ []) chain
next_front taken chain version patch grows is at =
    let place : version ≡ suc (length taken) = omega (arith, is) in
    let here : slice_get (taken ++ grows.0) (length taken) ≡ Some patch =
    ap (λ (patches : List Patch). slice_get patches (length taken)) (sym grows.1) ∙ ap (patch_at chain) (sym place) ∙ at in
    let rest = begins taken grows.0 patch here in
    (rest.0, grows.1 ∙ ap (λ (more : List Patch). taken ++ more) rest.1 ∙ sym (append_assoc taken (patch ∷ []) rest.0))
  where
    begins : (front more : List Patch) (p : Patch) → slice_get (front ++ more) (length front) ≡ Some p → (rest : List Patch) × (more ≡ p ∷ rest)
    begins [] [] p got = absurd (cc)
    begins [] (q ∷ rest) p got = let same : q ≡ p = cc in (rest, ap (λ (x : Patch). x ∷ rest) same)
    begins (first ∷ front) more p got =
        let count : length (first ∷ front) ≡ suc (length front) = omega arith in
        begins front more p (sym (ap (slice_get ((first ∷ front) ++ more)) count) ∙ got)
