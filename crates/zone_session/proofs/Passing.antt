-- Passes stay those of their zone, whatever they are asked.
use Rattle.std.proofs.Common.{◌≡◌, ℕ, refl, sym, ap, ◌∙◌, subst, ⊎_elim, inl, inr, List, [], ◌∷◌}
use Rattle.std.specs.List.{AllZip}
use Rattle.disk_model.specs.declared.disk.Disk.{Ghosts}
use Rattle.turn_cell.specs.Turns.{AllOf, IsIn}
use Rattle.turn_cell.specs.Knowing.{pass_number}
use Rattle.turn_cell.specs.Sights.{Made}
use Rattle.turn_cell.specs.Sharing.{AreAllPassesOf, IsPassOf}
use Rattle.shared_zone.specs.History.{SharedZone, ZoneSight, shared_zone}
use Rattle.zone_session.specs.Sessions.{StillOrOn}
use Rattle.zone_session.proofs.Served.{same_number}

module _ {D : Type 0} (disks : Ghosts D) (hall : Made (SharedZone D)) where
  pub pass_stays : (p q : ZoneSight) → StillOrOn p q → IsPassOf (shared_zone disks) hall p → IsPassOf (shared_zone disks) hall q
  pass_stays p q (inl same) is = subst (IsPassOf (shared_zone disks) hall) (sym same) is
  pass_stays p q (inr on) is = (on.0.0 ∙ is.0, on.1, on.0.3 ∙ is.2)

  all_stay : (before after : List ZoneSight) → AllZip StillOrOn before after → AllOf (IsPassOf (shared_zone disks) hall) before → AllOf (IsPassOf (shared_zone disks) hall) after
  all_stay [] [] on all = tt
  all_stay [] (y ∷ after) on all = absurd on
  all_stay (x ∷ before) [] on all = absurd on
  all_stay (x ∷ before) (y ∷ after) on all = (pass_stays x y on.0 all.0, all_stay before after on.1 all.1)

  one_left : (n : ℕ) (before after : List ZoneSight) → AllZip StillOrOn before after → (pass : ZoneSight) → IsIn pass before → pass_number pass ≡ n → (p : ZoneSight) × IsIn p after × (pass_number p ≡ n)
  one_left n [] after on pass there is = absurd there
  one_left n (x ∷ before) [] on pass there is = absurd on
  one_left n (x ∷ before) (y ∷ after) on pass there is =
      ⊎_elim (λ (e : pass ≡ x). (y, inl refl, same_number x y on.0 ∙ sym (ap (λ (s : ZoneSight). pass_number s) e) ∙ is))
      (λ (i : IsIn pass before). let more = one_left n before after on.1 pass i is in (more.0, inr more.1, more.2)) there

  pub passes_stay : (before after : List ZoneSight) → AllZip StillOrOn before after → AreAllPassesOf (shared_zone disks) hall before → AreAllPassesOf (shared_zone disks) hall after
  passes_stay before after on are = (
    all_stay before after on are.0,
    λ n positive high. let one = are.1 n positive high in one_left n before after on one.0 one.1 one.2,
  )
