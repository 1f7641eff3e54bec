-- Acts of a mirror, one after another, and what a peer said in several runs.
use Rattle.std.proofs.Common.{◌≡◌, inl, inr, ⊎_elim, List, [], ◌∷◌, ◌++◌, subst}
use Rattle.disk_model.specs.declared.disk.Disk.{Ghosts}
use Rattle.chain_core.specs.declared.chain.Patch.{Patch}
use Rattle.patch_log.specs.State.{LogView}
use Rattle.turn_cell.specs.Turns.{IsIn}
use Rattle.shared_log.specs.History.{LogSight}
use Rattle.delta_client.specs.Exchanges.{WasSaid}
use Rattle.mirror.specs.Following.{AreActs, TextsAreAmong}

module _ {A : Type 0} where
  in_front : (x : A) (xs ys : List A) → IsIn x xs → IsIn x (xs ++ ys)
  in_front x [] ys is = absurd is
  in_front x (y ∷ xs) ys is = ⊎_elim (λ (e : x ≡ y). inl e) (λ (i : IsIn x xs). inr (in_front x xs ys i)) is

  in_rest : (x : A) (xs ys : List A) → IsIn x ys → IsIn x (xs ++ ys)
  in_rest x [] ys is = is
  in_rest x (y ∷ xs) ys is = inr (in_rest x xs ys is)

module _ (chain : List Patch) (first others : List WasSaid) (texts : TextsAreAmong chain (first ++ others)) where
  pub among_front : TextsAreAmong chain first
  among_front text is = texts text (in_front _ first others is)

  pub among_rest : TextsAreAmong chain others
  among_rest text is = texts text (in_rest _ first others is)

module _ {D : Type 0} (disks : Ghosts D) (chain : List Patch) (origin : LogView D) where
  pub act_on : (p m q : LogSight) (first others : List LogSight) → AreActs disks chain origin p first m → AreActs disks chain origin m others q → AreActs disks chain origin p (first ++ others) q
  act_on p m q [] others same are = subst (λ (s : LogSight). AreActs disks chain origin s others q) same are
  act_on p m q (next ∷ first) others acts are = (acts.0, act_on next m q first others acts.1 are)
