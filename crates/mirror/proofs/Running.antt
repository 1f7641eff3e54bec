-- What a run of a log comes to.
use Rattle.std.proofs.Common.{◌≡◌, inl, inr, ⊎_elim, ℕ, ◌+◌, ◌<◌, ◌≤◌, ◌^◌, ◌-◌, List, [], ◌∷◌, length, Option, Result, Ok, Err, refl, sym, ◌∙◌, ap, subst, arith}
use Rattle.std.proofs.lemmas.List.{length-map}
use mathlib.Core.List.{IsPrefix}
use Rattle.delta_base.specs.Outside.{Rose}
use Rattle.delta_base.specs.declared.id.Id.{Id}
use Rattle.disk_model.specs.declared.disk.Disk.{Ghosts}
use Rattle.delta_client.specs.Exchanges.{WasSaid}
use Rattle.rpc_answers.specs.declared.answer.Answer.TheVariants as origin_says
use Rattle.chain_core.specs.declared.chain.Patch.{Patch}
use Rattle.chain_core.specs.Patches.{last_id}
use Rattle.chain_core.specs.Replies.{describe, described}
use Rattle.patch_log.specs.State.{LogView}
use Rattle.turn_cell.specs.declared.view.Known.{Known}
use Rattle.turn_cell.specs.Knowing.{KnowsItsOwn, pass_number, seen_of, own_faults_of}
use Rattle.shared_log.specs.declared.value.Placed.{Placed}
use Rattle.shared_log.specs.History.{LogSight, SeesWhole, patches_known}
use Rattle.catch_up.specs.declared.end.RunEnd.{RunEnd}
use Rattle.catch_up.specs.Runs as runs
use Rattle.catch_up.specs.Runs.{FetchEnds, IsRunTo, RestIs, Run, TakenText, TakesAll}
use Rattle.mirror.specs.declared.ends.PullEnd.TheVariants as pull
use Rattle.mirror.specs.declared.ends.PullRefusal.{PullRefusal}
use Rattle.mirror.specs.Ends.{end_of_pull}
use Rattle.mirror.specs.Pulling.{ShowsLog, TakesText}
use Rattle.mirror.proofs.Answered.{Went, went_none, went_both, called_went, takes_went, takes_within, takes_faulted}
use Rattle.mirror.proofs.Ended.{not_caught_up, no_disk, refused_not_caught_up, refused_by_disk, compared_of_peer, log_of_peer, answered_of_peer, faulty_of_peer, want_of_peer}

counted_same : (a b : ℕ) (h k : Option Id) → described a h ≡ described b k → a ≡ b
counted_same a b h k is = cc

module _ {D : Type 0} (disks : Ghosts D) (origin : LogView D) where
  abbrev Takes : LogSight → ℕ → List ℕ → Result ℕ PullRefusal → LogSight → Type 0
  Takes = TakesText disks origin

  shown_within : (p q : LogSight) (version : ℕ) (head : Option Id) → ShowsLog disks origin p version head q → version ≡ length (seen_of q)
  shown_within p q version head shown =
      let chain : List Patch = patches_known (seen_of q) in
      counted_same version (length chain) head (last_id chain) shown.0.legal.1.0 ∙ length-map (seen_of q) (λ (k : Known Placed). k.content.patch)

  all_went : (theirs from : ℕ) (before : LogSight) (steps : List TakenText) (reached : ℕ) (after : LogSight) → TakesAll Takes theirs from before steps reached after → Went before after
  all_went theirs from before [] reached after all = went_none before after all.1
  all_went theirs from before (step ∷ steps) reached after all =
      went_both before all.0 after (takes_went disks origin before all.0 step.version step.text (Ok step.reached) all.3) (all_went theirs step.reached all.0 steps reached after all.4)

  all_within : (theirs from : ℕ) (before : LogSight) (steps : List TakenText) (reached : ℕ) (after : LogSight) → TakesAll Takes theirs from before steps reached after → from ≤ length (seen_of before) → reached ≤ length (seen_of after)
  all_within theirs from before [] reached after all within =
      let long : length (seen_of after) ≡ length (seen_of before) = ap (λ (it : LogSight). length (seen_of it)) all.1 in
      let same : reached ≡ from = all.0 in
      omega (arith, same, within, long)
  all_within theirs from before (step ∷ steps) reached after all within =
      all_within theirs step.reached all.0 steps reached after all.4 (takes_within disks origin before all.0 step.version step.reached from step.text all.3 all.2 within).1

  ended_went : (version : ℕ) (before : LogSight) (said : List WasSaid) (end : RunEnd PullRefusal) (after : LogSight) → FetchEnds Takes version before said end after → Went before after
  ended_went version before said end after (runs.refused text refusal is took ends) = takes_went disks origin before after version text (Err refusal) took
  ended_went version before said end after (runs.answered a is refuses same) = went_none before after same
  ended_went version before said end after (runs.faulty fault is ends same) = went_none before after same
  ended_went version before said end after (runs.not_asked is ends same) = went_none before after same

  ended_not_caught_up : (version : ℕ) (before : LogSight) (said : List WasSaid) (end : RunEnd PullRefusal) (after : LogSight) (at : ℕ) → FetchEnds Takes version before said end after → end_of_pull end ≡ pull.CaughtUp at → ⊥
  ended_not_caught_up version before said end after at (runs.refused text refusal is took ends) same = refused_not_caught_up refusal at (ap end_of_pull (sym ends) ∙ same)
  ended_not_caught_up version before said end after at (runs.answered a is refuses still) same = not_caught_up end at (answered_of_peer version a end refuses) same
  ended_not_caught_up version before said end after at (runs.faulty fault is ends still) same = not_caught_up end at (faulty_of_peer fault end ends) same
  ended_not_caught_up version before said end after at (runs.not_asked is ends still) same = not_caught_up end at (want_of_peer end ends) same

  ended_faulted : (version : ℕ) (before : LogSight) (said : List WasSaid) (end : RunEnd PullRefusal) (after : LogSight) → FetchEnds Takes version before said end after → end_of_pull end ≡ pull.DiskFault → Rose (own_faults_of before) (own_faults_of after)
  ended_faulted version before said end after (runs.refused text refusal is took ends) same =
      let by_disk = refused_by_disk refusal (ap end_of_pull (sym ends) ∙ same) in
      takes_faulted disks origin before after version text (subst (λ (it : PullRefusal). TakesText disks origin before version text (Err it) after) by_disk took)
  ended_faulted version before said end after (runs.answered a is refuses still) same = absurd (no_disk end (answered_of_peer version a end refuses) same)
  ended_faulted version before said end after (runs.faulty fault is ends still) same = absurd (no_disk end (faulty_of_peer fault end ends) same)
  ended_faulted version before said end after (runs.not_asked is ends still) same = absurd (no_disk end (want_of_peer end ends) same)

  rest_went : (theirs from : ℕ) (before : LogSight) (steps : List TakenText) (last : List WasSaid) (end : RunEnd PullRefusal) (after : LogSight) → RestIs Takes theirs from before steps last end after → Went before after
  rest_went theirs from before steps last end after (runs.stopped reached between all less ends) =
      went_both before between after (all_went theirs from before steps reached between all) (ended_went (reached + 1) between last end after ends)
  rest_went theirs from before steps last end after (runs.caught_up reached all done none ends) = all_went theirs from before steps reached after all

  later_rose : (old mid new : ℕ) → old ≤ mid → Rose mid new → Rose old new
  later_rose old mid new less rose = ⊎_elim (λ (is : mid < new). inl (omega (arith, less, is))) (λ (is : new ≡ 2 ^ 64 - 1). inr is) rose

  rest_faulted : (theirs from : ℕ) (before : LogSight) (steps : List TakenText) (last : List WasSaid) (end : RunEnd PullRefusal) (after : LogSight) → RestIs Takes theirs from before steps last end after → end_of_pull end ≡ pull.DiskFault → Rose (own_faults_of before) (own_faults_of after)
  rest_faulted theirs from before steps last end after (runs.stopped reached between all less ends) same =
      later_rose (own_faults_of before) (own_faults_of between) (own_faults_of after) (all_went theirs from before steps reached between all).faults (ended_faulted (reached + 1) between last end after ends same)
  rest_faulted theirs from before steps last end after (runs.caught_up reached all done none ends) same =
      let other : pull.CaughtUp theirs ≡ pull.DiskFault = ap end_of_pull (sym ends) ∙ same in absurd (cc)

  rest_caught_up : (theirs from : ℕ) (before : LogSight) (steps : List TakenText) (last : List WasSaid) (end : RunEnd PullRefusal) (after : LogSight) (version : ℕ) → RestIs Takes theirs from before steps last end after → from ≤ length (seen_of before)
      → end_of_pull end ≡ pull.CaughtUp version → (version ≡ theirs) × (version ≤ length (seen_of after))
  rest_caught_up theirs from before steps last end after version (runs.stopped reached between all less ends) within same = absurd (ended_not_caught_up (reached + 1) between last end after version ends same)
  rest_caught_up theirs from before steps last end after version (runs.caught_up reached all done none ends) within same =
      let other : pull.CaughtUp theirs ≡ pull.CaughtUp version = ap end_of_pull (sym ends) ∙ same in
      let one : version ≡ theirs = cc in
      let seen = all_within theirs from before steps reached after all within in
      (one, omega (arith, one, done, seen))

  -- a run shows first, and goes on from there
  record Began (p q : LogSight) : Type 0 where
    mid : LogSight
    version : ℕ
    head : Option Id
    shown : ShowsLog disks origin p version head mid
    went : Went mid q

  began : (p q : LogSight) (it : Run) (end : RunEnd PullRefusal) → IsRunTo Takes (ShowsLog disks origin) p it end q → Began p q
  began p q it end (runs.unanswered shown steps last ends) = record { mid = q; version = it.mine; head = it.have; shown = shown; went = went_none q q refl }
  began p q it end (runs.compared theirs head shown log steps last ends) = record { mid = q; version = it.mine; head = it.have; shown = shown; went = went_none q q refl }
  began p q it end (runs.followed theirs head between shown log before rest) =
      record { mid = between; version = it.mine; head = it.have; shown = shown; went = rest_went theirs it.mine between it.steps it.last end q rest }

  pub run_went : (p q : LogSight) (it : Run) (end : RunEnd PullRefusal) → IsRunTo Takes (ShowsLog disks origin) p it end q → IsPrefix (seen_of p) (seen_of q) × SeesWhole q × KnowsItsOwn q × (pass_number q ≡ pass_number p)
  run_went p q it end is =
      let b = began p q it end is in
      let first = called_went disks origin p b.mid describe (described b.version b.head) b.shown in
      let both = went_both p b.mid q first b.went in
      (both.seen, b.went.whole b.shown.1, b.went.own b.shown.0.legal.0.3, both.number)

  pub run_faulted : (p q : LogSight) (it : Run) (end : RunEnd PullRefusal) → IsRunTo Takes (ShowsLog disks origin) p it end q → end_of_pull end ≡ pull.DiskFault → Rose (own_faults_of p) (own_faults_of q)
  run_faulted p q it end (runs.unanswered shown steps last ends) same = absurd (no_disk end (log_of_peer it.log end ends) same)
  run_faulted p q it end (runs.compared theirs head shown log steps last ends) same = absurd (no_disk end (compared_of_peer it.mine it.have theirs head end ends) same)
  run_faulted p q it end (runs.followed theirs head between shown log before rest) same =
      let first = called_went disks origin p between describe (described it.mine it.have) shown in
      later_rose (own_faults_of p) (own_faults_of between) (own_faults_of q) first.faults (rest_faulted theirs it.mine between it.steps it.last end q rest same)

  pub run_caught_up : (p q : LogSight) (it : Run) (end : RunEnd PullRefusal) (version : ℕ) → IsRunTo Takes (ShowsLog disks origin) p it end q → end_of_pull end ≡ pull.CaughtUp version
      → ((head : Option Id) × (it.log ≡ Ok (origin_says.Info version head) ∷ [])) × (version ≤ length (seen_of q))
  run_caught_up p q it end version (runs.unanswered shown steps last ends) same = absurd (not_caught_up end version (log_of_peer it.log end ends) same)
  run_caught_up p q it end version (runs.compared theirs head shown log steps last ends) same = absurd (not_caught_up end version (compared_of_peer it.mine it.have theirs head end ends) same)
  run_caught_up p q it end version (runs.followed theirs head between shown log before rest) same =
      let at = shown_within p between it.mine it.have shown in
      let within : it.mine ≤ length (seen_of between) = omega (arith, at) in
      let all = rest_caught_up theirs it.mine between it.steps it.last end q version rest within same in
      ((head, log ∙ ap (λ (v : ℕ). Ok (origin_says.Info v head) ∷ []) (sym all.0)), all.1)
