-- One call: its reply is one of a front of what the pass knew behind it.
use Rattle.std.proofs.Common.{◌≡◌, ◌⊎◌, inl, inr, ⊎_elim, ℕ, ◌+◌, ◌-◌, ◌<◌, List, [], ◌∷◌, ◌++◌, length, Option, Some, None, refl, sym, ◌∙◌, ap, subst, arith}
use Rattle.disk_model.specs.declared.disk.Disk.{Ghosts}
use Rattle.log_base.specs.declared.limits.LogLimits.{LogLimits}
use Rattle.chain_core.specs.declared.chain.Patch.{Patch}
use Rattle.chain_core.specs.declared.answer.Decision.TheVariants.{Accept}
use Rattle.chain_core.specs.declared.answer.LogAnswer.{LogAnswer}
use Rattle.chain_core.specs.declared.answer.LogAnswer.TheVariants.{Accepted, AcceptedRun, Known, Conflict, Full, DiskFault, OutOfMemory}
use Rattle.chain_core.specs.Decision.{run_decision}
use Rattle.chain_core.specs.Patches.{patches_of, patch_at, patch_named, version_of}
use Rattle.chain_core.specs.Runs.{patches_in, runs_of}
use Rattle.chain_core.specs.Stay.{answer_of}
use Rattle.chain_core.specs.Replies.{LogCall, append, append_run, fetch_version, fetch_id, describe, version, LogReply, answered, found, fetched, as_run, log_reply}
use Rattle.chain_core.proofs.Decided.{accepted as accepted_is}
use Rattle.chain_core.proofs.Runs.{patches_in-push, patches_in-runs, runs_of-push}
use Rattle.patch_log.specs.State.{LogView, runs_in}
use Rattle.patch_log.specs.Run.{AppendedRun}
use Rattle.turn_cell.specs.Calls.{IsReplied}
use Rattle.turn_cell.specs.Sharing.{InTurn}
use Rattle.turn_cell.specs.Knowing.{SeesOn, seen_of, pass_number}
use Rattle.turn_cell.proofs.Views.{prefix_trans, prefix_refl}
use Rattle.shared_log.specs.History.{LogSight, patches_known, history_of, entries_known, shared_log}
use Rattle.shared_log.specs.Calls.{MayWant}
use Rattle.shared_log.specs.Legal.{IsAppendAnswer, IsLogTold}
use Rattle.shared_log.specs.Stays.{CalledOnLog, HasStay}
use Rattle.shared_log.proofs.Histories.{known_chain}
use Rattle.shared_log.proofs.Stays.{stays_of}
use Rattle.shared_log.proofs.Table.{Stays}
use Rattle.shared_log.proofs.Turns.{known_entries}
use Rattle.world_core.specs.World.{StandsAt}
use Rattle.world_core.proofs.Growing.{GrowsTo, stays_same, patches_grow, still_at, still_stands, stands_behind}
use Rattle.deployment.specs.Calls.{IsToAppend, SeenCall}
use Rattle.deployment.specs.Promise.{IsGiven}
use Rattle.deployment.proofs.Fronts.{patches_go_on, runs_known, runs_patches, as_prefix}

module _ (limits : LogLimits) (log : List (List Patch)) where
  -- what is given is so in a log that goes on
  pub given_on : (longer : List (List Patch)) (seen : SeenCall) → GrowsTo log longer → IsGiven limits log seen → IsGiven limits longer seen
  given_on longer seen grows given =
      let patches = patches_grow log longer grows in
      record {
        point = given.point;
        of_log = prefix_trans given.point log longer given.of_log (as_prefix log longer grows);
        had_seen = given.had_seen;
        seen_then = given.seen_then;
        gives = given.gives;
        accepted = λ patch place is told. still_at (patches_in log) (patches_in longer) place patch patches (given.accepted patch place is told);
        accepted_run = λ run first last is told. still_stands (patches_in log) (patches_in longer) run first last patches (given.accepted_run run first last is told);
        served = λ patch place is told. still_at (patches_in log) (patches_in longer) place patch patches (given.served patch place is told);
        served_by_id = λ patch id is told. let at = given.served_by_id patch id is told in (at.0, still_at (patches_in log) (patches_in longer) at.0 patch patches at.1);
      }

module _ {D : Type 0} (disks : Ghosts D) (origin : LogView D) (p q : LogSight) where
  abbrev limits : LogLimits
  limits = origin.limits

  -- what the pass then knows
  abbrev Log : List (List Patch)
  Log = runs_known (seen_of q)

  abbrev Seen : List Patch
  Seen = patches_in Log

  same : patches_known (seen_of q) ≡ Seen
  same = runs_patches (seen_of q)

  all_seen : GrowsTo Seen (patches_known (seen_of q))
  all_seen = subst (GrowsTo Seen) (sym same) (stays_same Seen)

  fetched_is : (one : Option Patch) (count : ℕ) (patch : Patch) → fetched one count ≡ found patch → one ≡ Some patch
  fetched_is None count patch told = absurd (cc)
  fetched_is (Some one) count patch told = cc

  named_at : (patches : List Patch) (place : Option ℕ) (patch : Patch) → patch_named patches place ≡ Some patch → (version : ℕ) × (patch_at patches version ≡ Some patch)
  named_at patches None patch is = absurd (cc)
  named_at patches (Some place) patch is = (place, is)

  abbrev Of : LogCall → Option LogReply → SeenCall
  Of call reply = record { before = p; call = call; reply = reply; after = q }

  some_is : (r s : LogReply) → Some r ≡ Some s → r ≡ s
  some_is r s same = cc

  -- it tells no acceptance
  abbrev TellsNone : LogCall → LogReply → Type 0
  TellsNone call reply = ((patch : Patch) (place : ℕ) → call ≡ append patch → reply ≡ answered (Accepted place) → ⊥)
      × ((run : List Patch) (first last : ℕ) → call ≡ append_run run → reply ≡ answered (AcceptedRun first last) → ⊥)

  -- ---- an append that was accepted, by its stay

  module _ {Did : LogView D → LogView D → Type 0} (stay : InTurn (shared_log disks) Did origin p q) (run : List Patch) (some : 0 < length run) (place : ℕ) (appended : AppendedRun disks stay.found stay.left run (pass_number p) (Accepted place)) where
    abbrev Point : List (List Patch)
    Point = runs_in stay.found

    came : Stays stay.found.limits (pass_number p) run stay.found stay.left (Accepted place)
    came = stays_of disks stay.found stay.left run (pass_number p) (Accepted place) appended

    known : patches_known (history_of stay.found.entries) ≡ patches_in Point
    known = known_chain stay.found.entries ∙ sym (patches_in-runs stay.found.entries)

    of_log : Log ≡ Point ++ run ∷ []
    of_log = ap runs_of (ap entries_known stay.sees ∙ known_entries stay.left.entries ∙ came.1) ∙ runs_of-push stay.found.entries run (pass_number p) appended.found_whole some

    point_had_seen : GrowsTo (patches_known (seen_of p)) (patches_in Point)
    point_had_seen = subst (GrowsTo (patches_known (seen_of p))) known (patches_go_on (seen_of p) (history_of stay.found.entries) stay.had_seen)

    point_seen : GrowsTo (patches_in Point) (patches_known (seen_of q))
    point_seen = (run, same ∙ ap patches_in of_log ∙ patches_in-push Point run)

    takes : run_decision (patches_in Point) run limits ≡ Accept place
    takes =
        let one : stay.found.limits ≡ limits = ap (λ f. f.limits) stay.found_fixed in
        ap (λ (ps : List Patch). run_decision ps run limits) (patches_in-runs stay.found.entries) ∙ ap (λ (l : LogLimits). run_decision (patches_of stay.found.entries) run l) (sym one) ∙ came.0

    stands : StandsAt Seen run (place - (length run - 1)) place
    stands =
        let last = (accepted_is (patches_in Point) run limits place takes).1 in
        let all : Seen ≡ patches_in Point ++ run = ap patches_in of_log ∙ patches_in-push Point run in
        subst (λ (patches : List Patch). StandsAt patches run (place - (length run - 1)) place) (sym all) (stands_behind (patches_in Point) run (place - (length run - 1)) place last refl)

  module _ (on : SeesOn p q) where
    before : GrowsTo (patches_known (seen_of p)) Seen
    before = subst (GrowsTo (patches_known (seen_of p))) same (patches_go_on (seen_of p) (seen_of q) on.2)

    -- memory ran out
    silent : (call : LogCall) → IsGiven limits Log (Of call None)
    silent call = record {
      point = Log;
      of_log = prefix_refl Log;
      had_seen = before;
      seen_then = all_seen;
      gives = λ reply told. absurd (cc);
      accepted = λ patch place is told. absurd (cc);
      accepted_run = λ run first last is told. absurd (cc);
      served = λ patch place is told. absurd (cc);
      served_by_id = λ patch id is told. absurd (cc);
    }

    -- what the pass then knows gives the reply
    asks : (call : LogCall) (reply : LogReply) → TellsNone call reply → reply ≡ log_reply limits call (patches_known (seen_of q)) → IsGiven limits Log (Of call (Some reply))
    asks call reply none known =
        let is : reply ≡ log_reply limits call Seen = known ∙ ap (log_reply limits call) same in
        record {
          point = Log;
          of_log = prefix_refl Log;
          had_seen = before;
          seen_then = all_seen;
          gives = λ r told. inl (sym (some_is reply r told) ∙ is);
          accepted = λ patch place c told. absurd (none.0 patch place c (some_is reply (answered (Accepted place)) told));
          accepted_run = λ run first last c told. absurd (none.1 run first last c (some_is reply (answered (AcceptedRun first last)) told));
          served = λ patch place c told. fetched_is (patch_at Seen place) (length Seen) patch (sym (is ∙ ap (λ x. log_reply limits x Seen) c) ∙ some_is reply (found patch) told);
          served_by_id = λ patch id c told. named_at Seen (version_of Seen id) patch
              (fetched_is (patch_named Seen (version_of Seen id)) (length Seen) patch (sym (is ∙ ap (λ x. log_reply limits x Seen) c) ∙ some_is reply (found patch) told));
        }

    -- a fault or want of memory
    excused : (call : LogCall) (run : List Patch) (place : ℕ) (answer : LogAnswer) → IsToAppend call run → (answer ≡ DiskFault) ⊎ (answer ≡ OutOfMemory) → run_decision (patches_known (seen_of q)) run limits ≡ Accept place → IsGiven limits Log (Of call (Some (answered answer)))
    excused call run place answer is_to which could = record {
      point = Log;
      of_log = prefix_refl Log;
      had_seen = before;
      seen_then = all_seen;
      gives = λ r told. let one = some_is (answered answer) r told in inr (record {
        run = run;
        version = place;
        call_is = is_to;
        could = ap (λ (ps : List Patch). run_decision ps run limits) (sym same) ∙ could;
        told = ⊎_elim (λ (e : answer ≡ DiskFault). inl (sym one ∙ ap answered e)) (λ (e : answer ≡ OutOfMemory). inr (sym one ∙ ap answered e)) which;
      });
      accepted = λ patch version c told. let one : answer ≡ Accepted version = cc in absurd (not_both version which one);
      accepted_run = λ more first last c told. let one : answer ≡ AcceptedRun first last = cc in absurd (not_run first last which one);
      served = λ other version c told. absurd (cc);
      served_by_id = λ other id c told. absurd (cc);
    }
      where
        not_both : (told : ℕ) → (answer ≡ DiskFault) ⊎ (answer ≡ OutOfMemory) → answer ≡ Accepted told → ⊥
        not_both told (inl e) f = cc
        not_both told (inr e) f = cc

        not_run : (first last : ℕ) → (answer ≡ DiskFault) ⊎ (answer ≡ OutOfMemory) → answer ≡ AcceptedRun first last → ⊥
        not_run first last (inl e) f = cc
        not_run first last (inr e) f = cc

    module _ {Did : LogView D → LogView D → Type 0} (stay : InTurn (shared_log disks) Did origin p q) where
      -- the pass has brought the patch
      brings : (patch : Patch) (place : ℕ) → AppendedRun disks stay.found stay.left (patch ∷ []) (pass_number p) (Accepted place) → IsGiven limits Log (Of (append patch) (Some (answered (Accepted place))))
      brings patch place appended =
          let run = patch ∷ [] in
          let some : 0 < length run = omega arith in
          let one = (stands stay run some place appended).patches_at 0 some in
          let at : place ≡ place - (length run - 1) + 0 = omega arith in
          record {
            point = Point stay run some place appended;
            of_log = (run ∷ [], sym (of_log stay run some place appended));
            had_seen = point_had_seen stay run some place appended;
            seen_then = point_seen stay run some place appended;
            gives = λ r told. inl (sym (some_is (answered (Accepted place)) r told) ∙ ap (λ d. answered (answer_of d)) (sym (takes stay run some place appended)));
            accepted = λ other version c told. let is : patch ≡ other = cc in let to : place ≡ version = cc in ap (patch_at Seen) (sym to ∙ at) ∙ one ∙ ap Some is;
            accepted_run = λ more first last c told. absurd (cc);
            served = λ other version c told. absurd (cc);
            served_by_id = λ other id c told. absurd (cc);
          }

      -- or the run
      brings_run : (run : List Patch) (some : 0 < length run) (place : ℕ) → AppendedRun disks stay.found stay.left run (pass_number p) (Accepted place) → IsGiven limits Log (Of (append_run run) (Some (answered (AcceptedRun (place - (length run - 1)) place))))
      brings_run run some place appended = record {
        point = Point stay run some place appended;
        of_log = (run ∷ [], sym (of_log stay run some place appended));
        had_seen = point_had_seen stay run some place appended;
        seen_then = point_seen stay run some place appended;
        gives = λ r told. inl (sym (some_is (answered (AcceptedRun (place - (length run - 1)) place)) r told) ∙ ap (λ d. answered (as_run (length run) (answer_of d))) (sym (takes stay run some place appended)));
        accepted = λ other version c told. absurd (cc);
        accepted_run = λ other first last c told.
            let is : run ≡ other = cc in
            let from : place - (length run - 1) ≡ first = cc in
            let to : place ≡ last = cc in
            subst (λ (x : List Patch × (ℕ × ℕ)). StandsAt Seen x.0 x.1.0 x.1.1) (λ i. (is i, (from i, to i))) (stands stay run some place appended);
        served = λ other version c told. absurd (cc);
        served_by_id = λ other id c told. absurd (cc);
      }

      answers : (patch : Patch) (answer : LogAnswer) → IsAppendAnswer limits (append patch) (patch ∷ []) answer p q → AppendedRun disks stay.found stay.left (patch ∷ []) (pass_number p) answer → IsGiven limits Log (Of (append patch) (Some (answered answer)))
      answers patch (Accepted place) is appended = brings patch place appended
      answers patch (AcceptedRun first place) is appended = absurd is
      answers patch (Known place told) is appended = asks (append patch) (answered (Known place told)) ((λ other version c told. cc), (λ other first last c told. cc)) is.0
      answers patch (Conflict place head named) is appended = asks (append patch) (answered (Conflict place head named)) ((λ other version c told. cc), (λ other first last c told. cc)) is.0
      answers patch (Full what have limit) is appended = asks (append patch) (answered (Full what have limit)) ((λ other version c told. cc), (λ other first last c told. cc)) is.0
      answers patch DiskFault is appended = excused (append patch) (patch ∷ []) is.0.0 DiskFault refl (inl refl) is.0.1
      answers patch OutOfMemory is appended = excused (append patch) (patch ∷ []) is.0.0 OutOfMemory refl (inr refl) is.0.1

      -- an acceptance is told by that of the stay
      accepts : (run : List Patch) (place : ℕ) (answer : LogAnswer) → answered (as_run (length run) (Accepted place)) ≡ answered (as_run (length run) answer) → AppendedRun disks stay.found stay.left run (pass_number p) answer
          → AppendedRun disks stay.found stay.left run (pass_number p) (Accepted place)
      accepts run place (Accepted to) is appended = let at : to ≡ place = cc in subst (λ (v : ℕ). AppendedRun disks stay.found stay.left run (pass_number p) (Accepted v)) at appended
      accepts run place (AcceptedRun first to) is appended = absurd (stays_of disks stay.found stay.left run (pass_number p) (AcceptedRun first to) appended)
      accepts run place (Known to told) is appended = absurd (cc)
      accepts run place (Conflict to head named) is appended = absurd (cc)
      accepts run place (Full what have limit) is appended = absurd (cc)
      accepts run place DiskFault is appended = absurd (cc)
      accepts run place OutOfMemory is appended = absurd (cc)

      answers_run : (run : List Patch) → 0 < length run → (answer of_stay : LogAnswer) → IsAppendAnswer limits (append_run run) run answer p q → answered (as_run (length run) answer) ≡ answered (as_run (length run) of_stay)
          → AppendedRun disks stay.found stay.left run (pass_number p) of_stay → IsGiven limits Log (Of (append_run run) (Some (answered (as_run (length run) answer))))
      answers_run run some (Accepted place) of_stay is one appended = brings_run run some place (accepts run place of_stay one appended)
      answers_run run some (AcceptedRun first place) of_stay is one appended = absurd is
      answers_run run some (Known place told) of_stay is one appended = asks (append_run run) (answered (Known place told)) ((λ other version c told. cc), (λ other first last c told. cc)) is.0
      answers_run run some (Conflict place head named) of_stay is one appended = asks (append_run run) (answered (Conflict place head named)) ((λ other version c told. cc), (λ other first last c told. cc)) is.0
      answers_run run some (Full what have limit) of_stay is one appended = asks (append_run run) (answered (Full what have limit)) ((λ other version c told. cc), (λ other first last c told. cc)) is.0
      answers_run run some DiskFault of_stay is one appended = excused (append_run run) run is.0.0 DiskFault refl (inl refl) is.0.1
      answers_run run some OutOfMemory of_stay is one appended = excused (append_run run) run is.0.0 OutOfMemory refl (inr refl) is.0.1

    answer_is : (a b : LogAnswer) → answered a ≡ answered b → a ≡ b
    answer_is a b e = cc

    tells : (call : LogCall) (reply : LogReply) → IsLogTold limits call reply p q → HasStay disks origin call reply p q → IsGiven limits Log (Of call (Some reply))
    tells (append patch) reply told stay =
        let one : stay.did.0 ≡ told.0 = answer_is stay.did.0 told.0 (sym stay.did.1 ∙ told.1) in
        subst (λ r. IsGiven limits Log (Of (append patch) (Some r))) (sym told.1) (answers stay patch told.0 told.2 (subst (AppendedRun disks stay.found stay.left (patch ∷ []) (pass_number p)) one stay.did.2))
    tells (append_run run) reply told stay =
        subst (λ r. IsGiven limits Log (Of (append_run run) (Some r))) (sym told.1) (answers_run stay run told.3 told.0 stay.did.0 told.2 (sym told.1 ∙ stay.did.1) stay.did.2)
    tells (fetch_version place) reply told stay = asks (fetch_version place) reply ((λ other version c t. cc), (λ other first last c t. cc)) told.0
    tells (fetch_id id) reply told stay = asks (fetch_id id) reply ((λ other version c t. cc), (λ other first last c t. cc)) told.0
    tells describe reply told stay = asks describe reply ((λ other version c t. cc), (λ other first last c t. cc)) told.0
    tells version reply told stay = asks version reply ((λ other place c t. cc), (λ other first last c t. cc)) told.0

  pub given : (call : LogCall) (reply : Option LogReply) → IsReplied (CalledOnLog disks origin) MayWant p call reply q → IsGiven limits Log (Of call reply)
  given call None wants = silent wants.1.0 call
  given call (Some reply) called = tells called.legal.0 call reply called.legal.1 called.stay
