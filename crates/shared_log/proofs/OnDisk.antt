-- What a pass is told stands in the log that it left, and so in each image of its disk.
use Rattle.std.proofs.Common.{◌≡◌, ℕ, zero, suc, ◌+◌, ◌-◌, List, [], ◌∷◌, ◌++◌, length, refl, sym, ap, ◌∙◌, subst, ⊎_elim, arith, Option, Some, None, slice_get}
use Rattle.std.proofs.lemmas.List.{map-append, length-map}
use Rattle.disk_model.specs.declared.disk.Disk.{Ghosts}
use Rattle.log_base.specs.OneMore.{with_one_more}
use Rattle.log_base.specs.declared.limits.LogLimits.{LogLimits}
use Rattle.log_journal.specs.File.{Holds}
use Rattle.chain_core.specs.declared.chain.Patch.{Patch}
use Rattle.chain_core.specs.declared.answer.LogAnswer.{LogAnswer}
use Rattle.chain_core.specs.declared.answer.LogAnswer.TheVariants.{Accepted, AcceptedRun, Known as IsKnown, Conflict, Full, DiskFault, OutOfMemory}
use Rattle.chain_core.specs.Patches.{at_version, version_of, patch_at, patch_named}
use Rattle.chain_core.specs.Replies.{LogCall, append, append_run, as_run, found, fetched}
use Rattle.chain_core.specs.Runs.{entries_of, patches_in, run_text, run_texts, runs_of}
use Rattle.chain_core.proofs.Decided.{accepted}
use Rattle.chain_core.proofs.Runs.{patches_in-push, patches_in-runs, patches_of-run}
use Rattle.patch_log.specs.Log.{IsSoundLog, MayHoldChain}
use Rattle.patch_log.proofs.Sound.{texts_of-push}
use Rattle.patch_log.specs.State.{LogView}
use Rattle.turn_cell.specs.declared.view.Known.{Known}
use Rattle.turn_cell.specs.Knowing.{pass_number, seen_of}
use Rattle.turn_cell.specs.Sharing.{InTurn}
use Rattle.shared_log.specs.History.{LogSight, history_of, patches_known, shared_log}
use Rattle.shared_log.specs.declared.value.Placed.{Placed}
use Rattle.shared_log.specs.Legal.{BroughtRun, IsAccepted, IsAppendAnswer}
use Rattle.shared_log.specs.Stays.{HoldsPatchAt, IsOnDisk}
use Rattle.shared_log.specs.Laws.{ToldIsOnDisk, StaysInSight}
use Rattle.shared_log.proofs.Histories.{known_chain}

module _ {A : Type 0} where
  get_on : (xs ys : List A) (k : ℕ) (x : A) → slice_get xs k ≡ Some x → slice_get (xs ++ ys) k ≡ Some x
  get_on [] ys k x is = let c = is in cc
  get_on (z ∷ xs) ys zero x is = is
  get_on (z ∷ xs) ys (suc k) x is = get_on xs ys k x is

  stands_on : (xs ys : List A) (place : ℕ) (x : A) → at_version xs place ≡ Some x → at_version (xs ++ ys) place ≡ Some x
  stands_on xs ys zero x is = let c = is in cc
  stands_on xs ys (suc k) x is = get_on xs ys k x is

  get_behind : (xs ys : List A) (k n : ℕ) → n ≡ length xs + k → slice_get (xs ++ ys) n ≡ slice_get ys k
  get_behind [] ys k n at = let same : n ≡ k = omega (arith, at) in ap (slice_get ys) same
  get_behind (z ∷ xs) ys k zero at = absurd (omega (arith, at))
  get_behind (z ∷ xs) ys k (suc n) at = get_behind xs ys k n (omega (arith, at))

  -- what stands behind others, at its version
  stands_behind : (xs ys : List A) (k place : ℕ) (y : A) → place ≡ length xs + k + 1 → slice_get ys k ≡ Some y → at_version (xs ++ ys) place ≡ Some y
  stands_behind xs ys k zero y at is = absurd (omega (arith, at))
  stands_behind xs ys k (suc n) y at is = get_behind xs ys k n (omega (arith, at)) ∙ is

held : (limits : LogLimits) (number : ℕ) (runs : List (List Patch)) (doubt : Option (List Patch)) (place : ℕ) (patch : Patch) (image : List ℕ) → IsSoundLog limits runs → IsSoundLog limits (with_one_more runs doubt) → patch_at (patches_in runs) place ≡ Some patch → MayHoldChain number runs doubt image
    → HoldsPatchAt number place patch image
held limits number runs None place patch image without having is holds = (runs, holds, without.sound, is)
held limits number runs (Some doubt) place patch image without having is holds =
    ⊎_elim (λ (h : Holds image number (run_texts runs)). (runs, h, without.sound, is))
    (λ (h : Holds image number (run_texts runs ++ run_text doubt ∷ [])). (
      runs ++ doubt ∷ [],
      subst (λ (texts : List (List ℕ)). Holds image number texts) (sym (texts_of-push runs doubt)) h,
      having.sound,
      subst (λ (patches : List Patch). patch_at patches place ≡ Some patch) (sym (patches_in-push runs doubt)) (stands_on (patches_in runs) doubt place patch is),
    )) holds

fetched_found : (there : Option Patch) (count : ℕ) (patch : Patch) → found patch ≡ fetched there count → there ≡ Some patch
fetched_found None count patch is = let c = is in cc
fetched_found (Some other) count patch is = let same : patch ≡ other = cc in ap Some (sym same)

named : (chain : List Patch) (at : Option ℕ) (patch : Patch) → patch_named chain at ≡ Some patch → (place : ℕ) × (at ≡ Some place) × (patch_at chain place ≡ Some patch)
named chain None patch is = let c = is in cc
named chain (Some place) patch is = (place, refl, is)

module _ {D : Type 0} (disks : Ghosts D) (origin : LogView D) (p q : LogSight) where
  -- what stands in the log that was left is on its disk
  left_on_disk : {Did : LogView D → LogView D → Type 0} → (place : ℕ) (patch : Patch) (stay : InTurn (shared_log disks) Did origin p q) → patch_at (patches_known (seen_of q)) place ≡ Some patch → (on : IsOnDisk disks origin place patch q) × (on.log ≡ stay.left)
  left_on_disk place patch stay is =
      let seen : patches_known (seen_of q) ≡ patches_in (runs_of stay.left.entries) = ap patches_known stay.sees ∙ known_chain stay.left.entries ∙ sym (patches_in-runs stay.left.entries) in
      let there : patch_at (patches_in (runs_of stay.left.entries)) place ≡ Some patch = subst (λ (chain : List Patch). patch_at chain place ≡ Some patch) seen is in (
        record {
          log = stay.left;
          file = stay.left_fixed;
          sees = stay.sees;
          stands_in_it = is;
          images = λ told image may.
              let stands = stay.left_stands.stands told in
              held stay.left.limits stay.left.number (runs_of stay.left.entries) stay.left.doubt place patch image stands.without stands.having there (stands.each image may);
        },
        refl,
      )

  abbrev chain : List Patch
  chain = patches_known (seen_of q)

  -- each patch of a run that was brought stands at its version
  brought_stands : (run : List Patch) (last place k : ℕ) (patch : Patch) (b : BroughtRun run last p q) → place ≡ length b.before + k + 1 → slice_get run k ≡ Some patch → patch_at chain place ≡ Some patch
  brought_stands run last place k patch b at is =
      let entries = entries_of run (pass_number p) in
      let ends : chain ≡ patches_known b.before ++ run = ap patches_known b.sees ∙ map-append (λ (known : Known Placed). known.content.patch) b.before (history_of entries) ∙ ap (λ (patches : List Patch). patches_known b.before ++ patches) (known_chain entries ∙ patches_of-run run (pass_number p)) in
      let before : place ≡ length (patches_known b.before) + k + 1 = omega (arith, at, length-map b.before (λ (known : Known Placed). known.content.patch)) in
      subst (λ (patches : List Patch). patch_at patches place ≡ Some patch) (sym ends) (stands_behind (patches_known b.before) run k place patch before is)

  -- the last place of a run that was brought
  last_of : (limits : LogLimits) (run : List Patch) (last : ℕ) (taken : IsAccepted limits run last p q) → last ≡ length taken.0.before + length run
  last_of limits run last taken =
      omega (arith, (accepted (patches_known taken.0.before) run limits last taken.1).1, length-map taken.0.before (λ (known : Known Placed). known.content.patch))

  run_accepted : (limits : LogLimits) (call : LogCall) (run : List Patch) (first last : ℕ) (answer : LogAnswer) → AcceptedRun first last ≡ as_run (length run) answer → IsAppendAnswer limits call run answer p q → IsAccepted limits run last p q × (first ≡ last - (length run - 1))
  run_accepted limits call run first last (Accepted place) is told =
      let ends : last ≡ place = cc in
      let begins : first ≡ place - (length run - 1) = cc in
      (subst (λ (v : ℕ). IsAccepted limits run v p q) (sym ends) told, begins ∙ ap (λ (v : ℕ). v - (length run - 1)) (sym ends))
  run_accepted limits call run first last (AcceptedRun from to) is told = absurd told
  run_accepted limits call run first last (IsKnown place same) is told = absurd (cc)
  run_accepted limits call run first last (Conflict place head named) is told = absurd (cc)
  run_accepted limits call run first last (Full what have limit) is told = absurd (cc)
  run_accepted limits call run first last DiskFault is told = absurd (cc)
  run_accepted limits call run first last OutOfMemory is told = absurd (cc)

  pub told_on_disk : ToldIsOnDisk disks origin p q
  told_on_disk = record {
    accepted = λ place patch call.
        let told = call.legal.1 in
        let same : told.0 ≡ Accepted place = let e = told.1 in cc in
        let taken : IsAccepted origin.limits (patch ∷ []) place p q = subst (λ (answer : LogAnswer). IsAppendAnswer origin.limits (append patch) (patch ∷ []) answer p q) same told.2 in
        left_on_disk place patch call.stay (brought_stands (patch ∷ []) place place 0 patch taken.0 (omega (arith, last_of origin.limits (patch ∷ []) place taken)) refl);
    accepted_run = λ first last run call k patch is.
        let told = call.legal.1 in
        let same : AcceptedRun first last ≡ as_run (length run) told.0 = let e = told.1 in cc in
        let taken = run_accepted origin.limits (append_run run) run first last told.0 same told.2 in
        left_on_disk (first + k) patch call.stay (brought_stands run last (first + k) k patch taken.0.0 (omega (arith, last_of origin.limits run last taken.0, taken.1, told.3)) is);
    served = λ place patch call. left_on_disk place patch call.stay (fetched_found (patch_at chain place) (length chain) patch call.legal.1.0);
    served_by_id = λ id patch call.
        let there = named chain (version_of chain id) patch (fetched_found (patch_named chain (version_of chain id)) (length chain) patch call.legal.1.0) in
        (there.0, there.1, left_on_disk there.0 patch call.stay there.2);
  }

pub stays_in_sight : {D : Type 0} (disks : Ghosts D) (origin : LogView D) (q later : LogSight) → StaysInSight disks origin q later
stays_in_sight disks origin q later longer place patch is =
    subst (λ (history : List (Known Placed)). patch_at (patches_known history) place ≡ Some patch) longer.1
    (rw (map-append (λ (known : Known Placed). known.content.patch) (seen_of q) longer.0) (stands_on (patches_known (seen_of q)) (patches_known longer.0) place patch is.stands_in_it))
