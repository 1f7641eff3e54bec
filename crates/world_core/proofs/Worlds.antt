-- Whatever happens, the promises of a world are kept.
use Rattle.std.proofs.Common.{◌≡◌, ◌⊎◌, inl, inr, ⊎_elim, ℕ, ◌+◌, ◌-◌, List, [], ◌∷◌, ◌++◌, length, Option, Some, None, refl, sym, ◌∙◌, ap, subst, arith, append_assoc}
use Rattle.std.specs.Prelude.{fold, Contains}
use Rattle.std.specs.List.{AllByRecursion}
use Rattle.std.specs.Option.{option_map}
use Rattle.std.proofs.lemmas.List.{append-nil}
use Rattle.std.proofs.lemmas.List.Sums.{fold-append}
use Rattle.std.proofs.lemmas.List.Elements.{Contains-push_cases}
use Rattle.log_base.specs.declared.phase.Phase.TheVariants.{Settling, Body, Gate}
use Rattle.chain_core.specs.declared.chain.Patch.{Patch}
use Rattle.log_base.specs.declared.limits.LogLimits.{LogLimits}
use Rattle.chain_core.specs.declared.fate.Fate.{Fate}
use Rattle.chain_core.specs.declared.fate.Fate.TheVariants.{Done, Fails, Stops}
use Rattle.chain_core.specs.declared.answer.LogAnswer.{LogAnswer}
use Rattle.chain_core.specs.declared.answer.LogAnswer.TheVariants.{Accepted as IsAccepted, AcceptedRun, Known as IsKnown, Conflict as IsConflict, Full as IsFull, DiskFault, OutOfMemory}
use Rattle.chain_core.specs.declared.answer.Decision.{Decision}
use Rattle.chain_core.specs.declared.answer.Decision.TheVariants.{Accept, Known, Conflict, Full}
use Rattle.chain_core.specs.Links.{IsChain}
use Rattle.chain_core.specs.Patches.{links_of, patch_at}
use Rattle.chain_core.specs.Runs.{patches_in}
use Rattle.chain_core.specs.Decision.{run_decision}
use Rattle.chain_core.specs.Log.{LogPoint, up, down}
use Rattle.chain_core.specs.Replies.{as_run}
use Rattle.chain_core.specs.Stay.{Outcome, accepted_by, decided_by, run_stay}
use Rattle.chain_core.proofs.Decided.{accepted}
use Rattle.chain_core.proofs.Runs.{patches_in-push}
use Rattle.world_core.specs.declared.event.WorldEvent.{WorldEvent}
use Rattle.world_core.specs.declared.event.WorldEvent.TheVariants.{Append, Serve, Describe, Stop, Open, NewZone, Deliver, ZoneStop, ZoneOpen}
use Rattle.world_core.specs.declared.message.Message.{Message}
use Rattle.world_core.specs.declared.message.Message.TheVariants.{Accepted, Item}
use Rattle.world_core.specs.World.{WorldPoint, accepted_message, served, sending, with_message, step, start, world, MayBeFound, BringsRun, WasAccepted, StandsAt, WasServed, KeepsPromises}
use Rattle.world_core.proofs.Growing.{chain_of, GrowsTo, AreChained, AreChains, stays_same, grows_on, sending_chains, sending_grows, still_at, still_stands, stands_behind, found_grows, found_each}

-- ---- chains

fold_chains : (limits : LogLimits) (point : WorldPoint) (events : List WorldEvent) → AllByRecursion BringsRun events → AreChains point.log → AreChains (fold (step limits) point events).log
fold_chains limits point [] linked are = are
fold_chains limits point (event ∷ events) linked are = fold_chains limits (step limits point event) events linked.1 (sending_chains limits point.log event linked.0 are)

no_patch : IsChain []
no_patch = record { follow = tt; differ = tt }

pub always_chains : (limits : LogLimits) (events : List WorldEvent) (found : List (List Patch)) → AllByRecursion BringsRun events → MayBeFound (world limits events).log found → IsChain (links_of (patches_in found))
always_chains limits events found linked may = found_each AreChained (world limits events).log found (fold_chains limits start events linked (no_patch, no_patch)) may

-- ---- growth

fold_grows : (limits : LogLimits) (point : WorldPoint) (events : List WorldEvent) → GrowsTo (chain_of point.log) (chain_of (fold (step limits) point events).log)
fold_grows limits point [] = stays_same (chain_of point.log)
fold_grows limits point (event ∷ events) =
    let next = step limits point event in
    grows_on (chain_of point.log) (chain_of next.log) (chain_of (fold (step limits) next events).log) (sending_grows limits point.log event) (fold_grows limits next events)

-- what a world has is found behind whatever happens then
found_later : (limits : LogLimits) (point : WorldPoint) (events : List WorldEvent) (found : List (List Patch)) → MayBeFound (fold (step limits) point events).log found → GrowsTo (chain_of point.log) (patches_in found)
found_later limits point events found may =
    let after = fold (step limits) point events in
    grows_on (chain_of point.log) (chain_of after.log) (patches_in found) (fold_grows limits point events) (found_grows after.log found may)

-- ---- what was served

-- each patch that was served stands at its version
abbrev pub AreServed : WorldPoint → Type 0
AreServed point = (version : ℕ) (patch : Patch) → Contains point.pool (Item version patch) → patch_at (chain_of point.log) version ≡ Some patch

same_item : (v w : ℕ) (p q : Patch) → Item v p ≡ Item w q → (v ≡ w) × (p ≡ q)
same_item v w p q same = (cc, cc)

served_is : (chain : List Patch) (asked version : ℕ) (patch : Patch) (got : Option Patch) → patch_at chain asked ≡ got → served asked got ≡ Some (Item version patch) → patch_at chain version ≡ Some patch
served_is chain asked version patch None at is = absurd (cc)
served_is chain asked version patch (Some p) at is =
    let inner : Item asked p ≡ Item version patch = cc in
    let parts = same_item asked version p patch inner in
    subst (λ (v : ℕ). patch_at chain v ≡ Some patch) parts.0 (at ∙ ap (λ (q : Patch). Some q) parts.1)

told_is : (count : ℕ) (answer : Option LogAnswer) (version : ℕ) (patch : Patch) → accepted_message (option_map (as_run count) answer) ≡ Some (Item version patch) → ⊥
told_is count None version patch is = cc
told_is count (Some (IsAccepted v)) version patch is = cc
told_is count (Some (AcceptedRun first v)) version patch is = cc
told_is count (Some (IsKnown v same)) version patch is = cc
told_is count (Some (IsConflict v head named)) version patch is = cc
told_is count (Some (IsFull what have limit)) version patch is = cc
told_is count (Some DiskFault) version patch is = cc
told_is count (Some OutOfMemory) version patch is = cc

-- what is served stands already
sent_stands : (limits : LogLimits) (point : LogPoint (List Patch)) (event : WorldEvent) (version : ℕ) (patch : Patch) → (sending limits point event).1 ≡ Some (Item version patch) → patch_at (chain_of point) version ≡ Some patch
sent_stands limits (up runs doubt) (Append run fate) version patch is = absurd (told_is (length run) (run_stay limits (up runs doubt) run fate).1 version patch is)
sent_stands limits (up runs doubt) (Serve asked) version patch is = served_is (patches_in runs) asked version patch (patch_at (patches_in runs) asked) refl is
sent_stands limits (up runs doubt) Describe version patch is = absurd (cc)
sent_stands limits (up runs doubt) (Stop opened) version patch is = absurd (cc)
sent_stands limits (up runs doubt) Open version patch is = absurd (cc)
sent_stands limits (up runs doubt) NewZone version patch is = absurd (cc)
sent_stands limits (up runs doubt) (Deliver message zone fate) version patch is = absurd (cc)
sent_stands limits (up runs doubt) (ZoneStop zone opened) version patch is = absurd (cc)
sent_stands limits (up runs doubt) (ZoneOpen zone) version patch is = absurd (cc)
sent_stands limits (down runs) (Append run fate) version patch is = absurd (cc)
sent_stands limits (down runs) (Serve asked) version patch is = absurd (cc)
sent_stands limits (down runs) Describe version patch is = absurd (cc)
sent_stands limits (down runs) (Stop opened) version patch is = absurd (cc)
sent_stands limits (down runs) Open version patch is = absurd (cc)
sent_stands limits (down runs) NewZone version patch is = absurd (cc)
sent_stands limits (down runs) (Deliver message zone fate) version patch is = absurd (cc)
sent_stands limits (down runs) (ZoneStop zone opened) version patch is = absurd (cc)
sent_stands limits (down runs) (ZoneOpen zone) version patch is = absurd (cc)

joined_cases : (pool : List Message) (sent : Option Message) (message : Message) → Contains (with_message pool sent) message → Contains pool message ⊎ (sent ≡ Some message)
joined_cases pool None message has = inl has
joined_cases pool (Some last) message has = ⊎_elim (λ (earlier : Contains pool message). inl earlier) (λ (is : last ≡ message). inr (ap (λ (m : Message). Some m) is)) (Contains-push_cases pool last message has)

pub step_serves : (limits : LogLimits) (point : WorldPoint) (event : WorldEvent) → AreServed point → AreServed (step limits point event)
step_serves limits point event are version patch has =
    let next = sending limits point.log event in
    let stands : patch_at (chain_of point.log) version ≡ Some patch = ⊎_elim (are version patch) (sent_stands limits point.log event version patch) (joined_cases point.pool next.1 (Item version patch) has) in
    still_at (chain_of point.log) (chain_of next.0) version patch (sending_grows limits point.log event) stands

fold_serves : (limits : LogLimits) (point : WorldPoint) (events : List WorldEvent) → AreServed point → AreServed (fold (step limits) point events)
fold_serves limits point [] are = are
fold_serves limits point (event ∷ events) are = fold_serves limits (step limits point event) events (step_serves limits point event are)

pub none_served : AreServed start
none_served version patch has = absurd (omega (arith, has.1))

pub always_served : (limits : LogLimits) (events more : List WorldEvent) (patch : Patch) (version : ℕ) (found : List (List Patch)) → WasServed limits events patch version
    → MayBeFound (world limits (events ++ more)).log found → patch_at (patches_in found) version ≡ Some patch
always_served limits events more patch version found has may =
    let point = world limits events in
    let grows = found_later limits point more found (subst (λ (w : WorldPoint). MayBeFound w.log found) (fold-append (step limits) start events more) may) in
    still_at (chain_of point.log) (patches_in found) version patch grows (fold_serves limits start events none_served version patch has)

-- ---- what was accepted

-- the answer is that the run was accepted at these versions
abbrev Accepts : List Patch → ℕ → ℕ → Outcome (List Patch) → Type 0
Accepts run first version outcome = accepted_message (option_map (as_run (length run)) outcome.1) ≡ Some (Accepted first version) → StandsAt (chain_of outcome.0) run first version

module _ (runs : List (List Patch)) (doubt : Option (List Patch)) (run : List Patch) (first version : ℕ) where
  was_done : (at : ℕ) → at ≡ length (patches_in runs) + length run → accepted_message (Some (AcceptedRun (at - (length run - 1)) at)) ≡ Some (Accepted first version) → StandsAt (patches_in (runs ++ run ∷ [])) run first version
  was_done at last is =
      let inner : Accepted (at - (length run - 1)) at ≡ Accepted first version = cc in
      let begins : at - (length run - 1) ≡ first = cc in
      let same : at ≡ version = cc in
      subst (λ (patches : List Patch). StandsAt patches run first version) (sym (patches_in-push runs run))
      (stands_behind (patches_in runs) run first version (sym same ∙ last) (sym begins ∙ ap (λ (n : ℕ). n - (length run - 1)) same))

  accepted_stands : (at : ℕ) → at ≡ length (patches_in runs) + length run → (fate : Fate) → Accepts run first version (accepted_by at fate runs doubt run)
  accepted_stands at last Done is = was_done at last is
  accepted_stands at last (Fails Settling) is = settling doubt is
    where
      settling : (d : Option (List Patch)) → Accepts run first version (accepted_by at (Fails Settling) runs d run)
      settling None told_so = was_done at last told_so
      settling (Some doubtful) told_so = absurd (cc)
  accepted_stands at last (Fails Body) is = absurd (cc)
  accepted_stands at last (Fails Gate) is = absurd (cc)
  accepted_stands at last (Stops Settling opened) is = settling doubt is
    where
      settling : (d : Option (List Patch)) → Accepts run first version (accepted_by at (Stops Settling opened) runs d run)
      settling None told_so = was_done at last told_so
      settling (Some doubtful) told_so = absurd (cc)
  accepted_stands at last (Stops Body opened) is = absurd (cc)
  accepted_stands at last (Stops Gate opened) is = absurd (cc)

  decided_stands : (fate : Fate) (made : Decision) → ((at : ℕ) → made ≡ Accept at → at ≡ length (patches_in runs) + length run) → Accepts run first version (decided_by made fate runs doubt run)
  decided_stands fate (Accept at) counts is = accepted_stands at (counts at refl) fate is
  decided_stands fate (Known at same) counts is = absurd (cc)
  decided_stands fate (Conflict at head named) counts is = absurd (cc)
  decided_stands fate (Full what have limit) counts is = absurd (cc)

appended_stands : (limits : LogLimits) (point : LogPoint (List Patch)) (run : List Patch) (fate : Fate) (first version : ℕ) → (sending limits point (Append run fate)).1 ≡ Some (Accepted first version)
    → StandsAt (chain_of (sending limits point (Append run fate)).0) run first version
appended_stands limits (up runs doubt) run fate first version is =
    let patches = run in
    decided_stands runs doubt patches first version fate (run_decision (patches_in runs) patches limits) (λ at same. (accepted (patches_in runs) patches limits at same).1) is
appended_stands limits (down runs) run fate first version is = absurd (cc)

pub always_accepted : (limits : LogLimits) (events more : List WorldEvent) (run : List Patch) (first version : ℕ) (found : List (List Patch)) → WasAccepted limits events run first version
    → MayBeFound (world limits (events ++ more)).log found → StandsAt (patches_in found) run first version
always_accepted limits events more run first version found was may =
    let point = world limits was.before in
    let event = Append run was.fate in
    let next = step limits point event in
    let rest = was.after ++ more in
    let whole : events ++ more ≡ was.before ++ event ∷ rest = ap (λ (es : List WorldEvent). es ++ more) was.parts ∙ append_assoc was.before (event ∷ was.after) more in
    let grows = found_later limits next rest found (subst (λ (w : WorldPoint). MayBeFound w.log found) (ap (world limits) whole ∙ fold-append (step limits) start was.before (event ∷ rest)) may) in
    still_stands (chain_of next.log) (patches_in found) run first version grows (appended_stands limits point.log run was.fate first version was.told)

-- ---- all of it

pub promises : (limits : LogLimits) (events : List WorldEvent) (found : List (List Patch)) → MayBeFound (world limits events).log found → IsChain (links_of (patches_in found)) → KeepsPromises limits events found
promises limits events found may chain =
    let same : MayBeFound (world limits (events ++ [])).log found = subst (λ (es : List WorldEvent). MayBeFound (world limits es).log found) (sym (append-nil events)) may in
    record {
      chain = chain;
      accepted = λ run first version was. always_accepted limits events [] run first version found was same;
      served = λ patch version was. always_served limits events [] patch version found was same;
    }
