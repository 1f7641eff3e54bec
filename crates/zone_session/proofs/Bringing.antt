-- What a pass brings into the zone, request by request.
use Rattle.std.proofs.Common.{◌≡◌, ◌≢◌, ◌⊎◌, inl, inr, ℕ, List, [], ◌∷◌, ◌++◌, append_assoc, refl, sym, ◌∙◌, ap, subst}
use Rattle.std.proofs.lemmas.List.{append-nil}
use Rattle.disk_model.specs.declared.disk.Disk.{Ghosts}
use Rattle.chain_core.specs.declared.chain.Patch.{Patch}
use Rattle.patch_meaning.specs.Checked.{CheckedPatch}
use Rattle.delta_client.specs.Exchanges.{WasSaid}
use Rattle.turn_cell.specs.declared.view.Known.{Known}
use Rattle.turn_cell.specs.Knowing.{KnowsItsOwn, Wants, pass_number, seen_of, failed_of}
use Rattle.turn_cell.specs.Sharing.{FoundInTurn}
use Rattle.turn_cell.specs.Turns.{AllOf, IsIn}
use Rattle.turn_cell.proofs.Views.{all_append, all_map}
use Rattle.shared_zone.specs.History.{SharedZone, ZoneSight, shared_zone, head_seen, version_seen}
use Rattle.catch_up.specs.Ends as ends
use Rattle.catch_up.specs.Runs.{Run, unanswered}
use Rattle.catch_up.specs.declared.end.RunEnd.TheVariants as run_end
use Rattle.follower.specs.declared.ends.SyncEnd.TheVariants as sync
use Rattle.zone_follower.specs.Bringing.{BringsRead, FollowingsBringWhatTheyRead, WasRead, WasReadBare}
use Rattle.zone_follower.specs.Following.{Followed}

-- ---- what was said, among more

pub in_right : {A : Type 0} (x : A) (xs ys : List A) → IsIn x ys → IsIn x (xs ++ ys)
in_right x [] ys is = is
in_right x (y ∷ xs) ys is = inr (in_right x xs ys is)

pub in_left : {A : Type 0} (x : A) (xs ys : List A) → IsIn x xs → IsIn x (xs ++ ys)
in_left x [] ys is = absurd is
in_left x (y ∷ xs) ys (inl is) = inl is
in_left x (y ∷ xs) ys (inr is) = inr (in_left x xs ys is)

module _ (said more : List WasSaid) (within : (x : WasSaid) → IsIn x said → IsIn x more) where
  read_too : (patch : CheckedPatch) → WasRead said patch → WasRead more patch
  read_too patch read = record { was_said = within _ read.was_said; is_patch = read.is_patch }

  brought_too : (n : ℕ) (known : Known CheckedPatch) → (known.by ≢ n) ⊎ WasRead said known.content → (known.by ≢ n) ⊎ WasRead more known.content
  brought_too n known (inl other) = inl other
  brought_too n known (inr read) = inr (read_too known.content read)

  doubted_too : (doubt : Patch) → WasReadBare said doubt → WasReadBare more doubt
  doubted_too doubt read = (read.0, read_too read.0 read.1, read.2)

  pub brings_among : (p q : ZoneSight) → BringsRead said p q → BringsRead more p q
  brings_among p q brings = record {
    behind = brings.behind;
    sees = brings.sees;
    brought = all_map (λ (known : Known CheckedPatch). (known.by ≢ pass_number p) ⊎ WasRead said known.content) (λ (known : Known CheckedPatch). (known.by ≢ pass_number p) ⊎ WasRead more known.content)
        (brought_too (pass_number p)) brings.behind brings.brought;
    left = brings.left;
    failed = brings.failed;
    doubted = all_map (WasReadBare said) (WasReadBare more) doubted_too brings.left brings.doubted;
  }

-- ---- one after another

pub brings_none : (said : List WasSaid) (p q : ZoneSight) → q ≡ p → BringsRead said p q
brings_none said p q same =
    subst (λ (it : ZoneSight). BringsRead said p it) (sym same)
    (record { behind = []; sees = sym (append-nil (seen_of p)); brought = tt; left = []; failed = sym (append-nil (failed_of p)); doubted = tt })

brings_on : (said : List WasSaid) (p m q : ZoneSight) → pass_number m ≡ pass_number p → BringsRead said p m → BringsRead said m q → BringsRead said p q
brings_on said p m q number first second =
    let OtherOrRead : ℕ → Known CheckedPatch → Type 0 = λ n known. (known.by ≢ n) ⊎ WasRead said known.content in record {
      behind = first.behind ++ second.behind;
      sees = second.sees ∙ (ap (λ (l : List (Known CheckedPatch)). l ++ second.behind) first.sees ∙ append_assoc (seen_of p) first.behind second.behind);
      brought = all_append (OtherOrRead (pass_number p)) first.behind second.behind first.brought (subst (λ (n : ℕ). AllOf (OtherOrRead n) second.behind) number second.brought);
      left = first.left ++ second.left;
      failed = second.failed ∙ (ap (λ (l : List Patch). l ++ second.left) first.failed ∙ append_assoc (failed_of p) first.left second.left);
      doubted = all_append (WasReadBare said) first.left second.left first.doubted second.doubted;
    }

pub brings_both : (said more : List WasSaid) (p m q : ZoneSight) → pass_number m ≡ pass_number p → BringsRead said p m → BringsRead more m q → BringsRead (said ++ more) p q
brings_both said more p m q number first second =
    brings_on (said ++ more) p m q number (brings_among said (said ++ more) (λ x is. in_left x said more is) p m first) (brings_among more (said ++ more) (λ x is. in_right x said more is) m q second)

-- ---- a stay that only looks

-- a stay that only looks is as one that asks a peer who says nothing
abbrev looked : {D : Type 0} (origin : SharedZone D) (q : ZoneSight) → Run
looked origin q = record { log = []; mine = version_seen origin.base q; have = head_seen origin.base q; steps = []; last = [] }

pub looking_brings : {D : Type 0} (disks : Ghosts D) (origin : SharedZone D) → FollowingsBringWhatTheyRead disks origin → (p q : ZoneSight) → Wants p q → FoundInTurn (shared_zone disks) origin p q → KnowsItsOwn p → BringsRead [] p q
looking_brings disks origin law p q wants stay own =
    let followed : Followed disks origin p (looked origin q) sync.OutOfMemory q = record {
      run_end = run_end.OutOfMemory;
      ended = refl;
      taken = unanswered ((wants, (refl, refl)), stay) refl refl (ends.not_asked refl refl);
    } in law p q (looked origin q) sync.OutOfMemory own followed
