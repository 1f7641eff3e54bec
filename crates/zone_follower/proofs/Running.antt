-- What holds of each step of a run holds of the whole, whoever the replica is.
use Rattle.std.proofs.Common.{◌≡◌, inl, inr, ℕ, ◌+◌, List, [], ◌∷◌, ◌++◌, Option, Result, Ok, Err, refl, sym, subst}
use Rattle.delta_base.specs.declared.id.Id.{Id}
use Rattle.delta_client.specs.Exchanges.{WasSaid}
use Rattle.rpc_answers.specs.declared.answer.Answer.TheVariants as answer
use Rattle.turn_cell.specs.Turns.{AllOf, IsIn}
use Rattle.catch_up.specs.declared.end.RunEnd.{RunEnd}
use Rattle.catch_up.specs.Runs as runs
use Rattle.catch_up.specs.Runs.{FetchEnds, IsRunTo, RestIs, Run, TakenText, TakesAll, said_in, step_texts, texts_said}
use Rattle.zone_follower.specs.Causes.{reached_by}

in_right : {A : Type 0} (x : A) (xs ys : List A) → IsIn x ys → IsIn x (xs ++ ys)
in_right x [] ys is = is
in_right x (y ∷ xs) ys is = inr (in_right x xs ys is)

in_left : {A : Type 0} (x : A) (xs ys : List A) → IsIn x xs → IsIn x (xs ++ ys)
in_left x [] ys is = absurd is
in_left x (y ∷ xs) ys (inl is) = inl is
in_left x (y ∷ xs) ys (inr is) = inr (in_left x xs ys is)

-- the text of a step was said among these
abbrev WasSaidAmong : List WasSaid → TakenText → Type 0
WasSaidAmong said step = IsIn (Ok (answer.Patch step.text)) said

steps_said : (said : List WasSaid) (steps : List TakenText) → ((x : WasSaid) → IsIn x (texts_said (step_texts steps)) → IsIn x said) → AllOf (WasSaidAmong said) steps
steps_said said [] within = tt
steps_said said (step ∷ steps) within = (within (Ok (answer.Patch step.text)) (inl refl), steps_said said steps (λ x is. within x (inr is)))

module _ {S E : Type 0} (takes : S → ℕ → List ℕ → Result ℕ E → S → Type 0) where
  pub takes_reach : (theirs from : ℕ) (before : S) (steps : List TakenText) (reached : ℕ) (after : S) → TakesAll takes theirs from before steps reached after → reached ≡ reached_by from steps
  takes_reach theirs from before [] reached after all = all.0
  takes_reach theirs from before (step ∷ steps) reached after all = takes_reach theirs step.reached all.0 steps reached after all.4

  -- a state of which a version is shown, and then up to which version there are patches
  module _ (At : S → ℕ → Type 0) (took_at : (p q : S) (version : ℕ) (text : List ℕ) (reached : ℕ) → takes p version text (Ok reached) q → At q reached) where
    pub all_at : (theirs from : ℕ) (before : S) (steps : List TakenText) (reached : ℕ) (after : S) → TakesAll takes theirs from before steps reached after → At before from → At after reached
    all_at theirs from before [] reached after all at = subst (λ (it : S × ℕ). At it.0 it.1) (λ i. (sym all.1 i, sym all.0 i)) at
    all_at theirs from before (step ∷ steps) reached after all at =
        all_at theirs step.reached all.0 steps reached after all.4 (took_at before all.0 step.version step.text step.reached all.3)

  module _ (shows : S → ℕ → Option Id → S → Type 0) (Goes : S → S → Type 0) (still : (p q : S) → q ≡ p → Goes p q) (both : (p m q : S) → Goes p m → Goes m q → Goes p q) where
    module _ (said : List WasSaid) (step_goes : (text : List ℕ) → IsIn (Ok (answer.Patch text)) said → (p q : S) (version : ℕ) (result : Result ℕ E) → takes p version text result q → Goes p q) where
      pub all_go : (theirs from : ℕ) (before : S) (steps : List TakenText) (reached : ℕ) (after : S) → AllOf (WasSaidAmong said) steps → TakesAll takes theirs from before steps reached after → Goes before after
      all_go theirs from before [] reached after texts all = still before after all.1
      all_go theirs from before (step ∷ steps) reached after texts all =
          both before all.0 after (step_goes step.text texts.0 before all.0 step.version (Ok step.reached) all.3) (all_go theirs step.reached all.0 steps reached after texts.1 all.4)

      ended_goes : (version : ℕ) (before : S) (last : List WasSaid) (end : RunEnd E) (after : S) → ((x : WasSaid) → IsIn x last → IsIn x said) → FetchEnds takes version before last end after → Goes before after
      ended_goes version before last end after within (runs.refused text refusal is took ends) =
          step_goes text (within (Ok (answer.Patch text)) (subst (λ (l : List WasSaid). IsIn (Ok (answer.Patch text)) l) (sym is) (inl refl))) before after version (Err refusal) took
      ended_goes version before last end after within (runs.answered a is refuses same) = still before after same
      ended_goes version before last end after within (runs.faulty fault is ends same) = still before after same
      ended_goes version before last end after within (runs.not_asked is ends same) = still before after same

      rest_goes : (theirs from : ℕ) (before : S) (steps : List TakenText) (last : List WasSaid) (end : RunEnd E) (after : S) → AllOf (WasSaidAmong said) steps → ((x : WasSaid) → IsIn x last → IsIn x said) → RestIs takes theirs from before steps last end after → Goes before after
      rest_goes theirs from before steps last end after texts within (runs.stopped reached between all less ends) =
          both before between after (all_go theirs from before steps reached between texts all) (ended_goes (reached + 1) between last end after within ends)
      rest_goes theirs from before steps last end after texts within (runs.caught_up reached all done none ends) = all_go theirs from before steps reached after texts all

    -- a run shows first, and goes on from there
    pub record Began (p : S) (it : Run) (q : S) : Type 0 where
      pub mid : S
      pub shown : shows p it.mine it.have mid
      pub goes : Goes mid q

    pub began : (p q : S) (it : Run) (end : RunEnd E) → ((text : List ℕ) → IsIn (Ok (answer.Patch text)) (said_in it) → (p q : S) (version : ℕ) (result : Result ℕ E) → takes p version text result q → Goes p q) → IsRunTo takes shows p it end q → Began p it q
    began p q it end step_goes (runs.unanswered shown steps last ends) = record { mid = q; shown = shown; goes = still q q refl }
    began p q it end step_goes (runs.compared theirs head shown log steps last ends) = record { mid = q; shown = shown; goes = still q q refl }
    began p q it end step_goes (runs.followed theirs head between shown log before rest) =
        let texts = texts_said (step_texts it.steps) in
        record {
          mid = between;
          shown = shown;
          goes = rest_goes (said_in it) step_goes theirs it.mine between it.steps it.last end q
              (steps_said (said_in it) it.steps (λ x is. in_right x it.log (texts ++ it.last) (in_left x texts it.last is)))
              (λ x is. in_right x it.log (texts ++ it.last) (in_right x texts it.last is)) rest;
        }
