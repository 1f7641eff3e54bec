-- Passes stay those of their log, whatever they ask.
use Rattle.std.proofs.Common.{◌≡◌, ℕ, refl, sym, ap, ◌∙◌, subst, ⊎_elim, inl, inr, List, [], ◌∷◌, Option, Some, None}
use Rattle.std.specs.List.{AllZip}
use Rattle.disk_model.specs.declared.disk.Disk.{Ghosts}
use Rattle.chain_core.specs.Replies.{LogCall, LogReply}
use Rattle.patch_log.specs.State.{LogView}
use Rattle.turn_cell.specs.Turns.{AllOf, IsIn}
use Rattle.turn_cell.specs.Calls.{IsReplied}
use Rattle.turn_cell.specs.Knowing.{SeesOn, pass_number}
use Rattle.turn_cell.specs.Sights.{Made}
use Rattle.turn_cell.specs.Sharing.{AreAllPassesOf, IsPassOf}
use Rattle.shared_log.specs.Calls.{AreCalledOnLog, CallOnLog, MayWant}
use Rattle.shared_log.specs.History.{LogSight, shared_log}
use Rattle.shared_log.specs.Stays.{CalledOnLog}

module _ {D : Type 0} (disks : Ghosts D) where
  -- whether it found memory or not, the pass sees on
  sees : (origin : LogView D) (p q : LogSight) (call : LogCall) (reply : Option LogReply) → IsReplied (CalledOnLog disks origin) MayWant p call reply q → SeesOn p q
  sees origin p q call (Some reply) is = is.legal.0
  sees origin p q call None is = is.1.0

  -- the pass asked the log some calls
  abbrev pub HasAsked : LogView D → LogSight → LogSight → Type 0
  HasAsked origin p q = (calls : List CallOnLog) × AreCalledOnLog disks origin p calls q

  module _ (log : Made (LogView D)) where
    -- the pass is one of the log still, by its number
    abbrev Stays : LogSight → LogSight → Type 0
    Stays p q = IsPassOf (shared_log disks) log q × (pass_number q ≡ pass_number p)

    stays : (p q : LogSight) (calls : List CallOnLog) → IsPassOf (shared_log disks) log p → AreCalledOnLog disks log.origin p calls q → Stays p q
    stays p q [] is same = (subst (IsPassOf (shared_log disks) log) (sym same) is, ap (λ (s : LogSight). pass_number s) same)
    stays p q (made ∷ more) is are =
        let on = sees log.origin p are.0 made.call made.reply are.1.replied in
        let rest = stays are.0 q more (on.0.0 ∙ is.0, on.1, on.0.3 ∙ is.2) are.2 in
        (rest.0, rest.1 ∙ on.0.2)

    all_stay : (before after : List LogSight) → AllZip (HasAsked log.origin) before after → AllOf (IsPassOf (shared_log disks) log) before → AllOf (IsPassOf (shared_log disks) log) after
    all_stay [] [] asked all = tt
    all_stay [] (y ∷ after) asked all = absurd asked
    all_stay (x ∷ before) [] asked all = absurd asked
    all_stay (x ∷ before) (y ∷ after) asked all = ((stays x y asked.0.0 all.0 asked.0.1).0, all_stay before after asked.1 all.1)

    one_left : (n : ℕ) (before after : List LogSight) → AllZip (HasAsked log.origin) before after → AllOf (IsPassOf (shared_log disks) log) before → (pass : LogSight) → IsIn pass before → pass_number pass ≡ n → (p : LogSight) × IsIn p after × (pass_number p ≡ n)
    one_left n [] after asked all pass there is = absurd there
    one_left n (x ∷ before) [] asked all pass there is = absurd asked
    one_left n (x ∷ before) (y ∷ after) asked all pass there is =
        ⊎_elim (λ (e : pass ≡ x). (y, inl refl, (stays x y asked.0.0 all.0 asked.0.1).1 ∙ sym (ap (λ (s : LogSight). pass_number s) e) ∙ is))
        (λ (i : IsIn pass before). let more = one_left n before after asked.1 all.1 pass i is in (more.0, inr more.1, more.2)) there

    pub passes_stay : (before after : List LogSight) → AllZip (HasAsked log.origin) before after → AreAllPassesOf (shared_log disks) log before → AreAllPassesOf (shared_log disks) log after
    passes_stay before after asked are = (
      all_stay before after asked are.0,
      λ n positive high. let one = are.1 n positive high in one_left n before after asked are.0 one.0 one.1 one.2,
    )
