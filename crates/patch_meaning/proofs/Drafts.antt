-- Rows that may stand behind one another are those of a draft, and at their end of a patch, or they have a first fault.
use Rattle.std.proofs.Common.{◌≡◌, ℕ, ◌+◌, ◌<◌, ◌≤◌, Bool, true, false, List, [], ◌∷◌, ◌++◌, Option, Some, None, refl, sym, ap, subst, ◌∙◌, append_assoc, append-nil, ◌⊎◌, inl, inr}
use Rattle.std.specs.Prelude.{is_some}
use Rattle.std.proofs.lemmas.Bool.{cases_lt}
use Rattle.delta_base.specs.declared.id.Id.{Id}
use Rattle.rdf_terms.specs.declared.change.Change.{Change}
use Rattle.patch_reader.specs.declared.placed.PlacedRow.{PlacedRow}
use Rattle.patch_meaning.specs.declared.draft.Draft.{Draft}
use Rattle.patch_meaning.specs.declared.fault.PatchFault.{PatchFault}
use Rattle.patch_meaning.specs.declared.fault.PatchFault.TheVariants as faults
use Rattle.patch_meaning.specs.declared.fault.PatchKind.{PatchKind}
use Rattle.patch_meaning.specs.declared.fault.PatchKind.TheVariants as kinds
use Rattle.patch_meaning.specs.declared.role.Role.{Role}
use Rattle.patch_meaning.specs.declared.role.Role.TheVariants as roles
use Rattle.patch_meaning.specs.Draft.{DraftStands}
use Rattle.patch_meaning.specs.PartRead.{LacksEnd}
use Rattle.log_base.specs.declared.limits.TheConstants.{PATCH_LIMIT}
use Rattle.patch_meaning.specs.Patch.{Meaning, IsWell, AreTaken, AreTakenFrom, block_refusal, refusal, prev_list}
use Rattle.patch_meaning.specs.Roles.{role, said, changes_of, open_after}
use Rattle.patch_meaning.specs.Stream.{StreamPart, IsEndFault, too_long}
use Rattle.patch_meaning.proofs.Parts.{said_more, whole_is, lacks_end}
use Rattle.patch_meaning.proofs.Taking.{taken_more, second_id, late_id, second_prev, late_prev, late_other, change_refused, first_stands, id_stands, prev_stands, other_stands, change_stands}

-- ---- drafts

refuses : {X : Type 0} (rs : List Role) (r : Role) (why : PatchKind) → refusal rs r ≡ None → refusal rs r ≡ Some why → X
refuses rs r why free refused = absurd cc

-- one more row may stand behind those of a draft
abbrev Follows : List Role → Role → Type 0
Follows rs r = (new : Draft) × DraftStands (rs ++ r ∷ []) new

id_follows : (rs : List Role) (id : Id) (d : Draft) (some late : Bool) → is_some d.id ≡ some → d.has_change ≡ late → DraftStands rs d → refusal rs (roles.Id (Some id)) ≡ None → Follows rs (roles.Id (Some id))
id_follows rs id d true late has change s free = refuses rs (roles.Id (Some id)) kinds.TwoIds free (second_id rs id d s has)
id_follows rs id d false true has change s free = refuses rs (roles.Id (Some id)) kinds.LateHeader free (late_id rs id d s has change)
id_follows rs id d false false has change s free = let new : Draft = record d { id = Some id } in (new, id_stands rs id d new s change free has refl refl refl refl)

prev_follows : (rs : List Role) (id : Id) (d : Draft) (some late : Bool) → is_some d.prev ≡ some → d.has_change ≡ late → DraftStands rs d → refusal rs (roles.Prev (Some id)) ≡ None → Follows rs (roles.Prev (Some id))
prev_follows rs id d true late has change s free = refuses rs (roles.Prev (Some id)) kinds.TwoPrevs free (second_prev rs id d s has)
prev_follows rs id d false true has change s free = refuses rs (roles.Prev (Some id)) kinds.LateHeader free (late_prev rs id d s has change)
prev_follows rs id d false false has change s free = let new : Draft = record d { prev = Some id } in (new, prev_stands rs id d new s change free has refl refl refl refl)

other_follows : (rs : List Role) (d : Draft) (late : Bool) → d.has_change ≡ late → DraftStands rs d → refusal rs roles.Other ≡ None → Follows rs roles.Other
other_follows rs d true change s free = refuses rs roles.Other kinds.LateHeader free (late_other rs d s change)
other_follows rs d false change s free = (d, other_stands rs d s change free)

change_follows : (rs : List Role) (c : Change) (d : Draft) → DraftStands rs d → refusal rs (roles.Change c) ≡ None → Follows rs (roles.Change c)
change_follows rs c d s free =
    let new : Draft = record d { has_change = true; in_block = open_after d.in_block c } in
    (new, change_stands rs c d new s (sym (change_refused rs c d (block_refusal d.in_block c) s refl) ∙ free) refl refl refl refl)

bad_id : (rs : List Role) → refusal rs (roles.Id None) ≡ Some kinds.BadId
unfolding refusal
bad_id rs = refl

bad_prev : (rs : List Role) → refusal rs (roles.Prev None) ≡ Some kinds.BadId
unfolding refusal
bad_prev rs = refl

follows : (rs : List Role) (r : Role) (d : Draft) → DraftStands rs d → refusal rs r ≡ None → Follows rs r
follows rs (roles.Id None) d s free = refuses rs (roles.Id None) kinds.BadId free (bad_id rs)
follows rs (roles.Id (Some id)) d s free = id_follows rs id d (is_some d.id) d.has_change refl refl s free
follows rs (roles.Prev None) d s free = refuses rs (roles.Prev None) kinds.BadId free (bad_prev rs)
follows rs (roles.Prev (Some id)) d s free = prev_follows rs id d (is_some d.prev) d.has_change refl refl s free
follows rs roles.Other d s free = other_follows rs d d.has_change refl s free
follows rs (roles.Change c) d s free = change_follows rs c d s free

all_follow : (before rs : List Role) (d : Draft) → DraftStands before d → AreTakenFrom before rs → (new : Draft) × DraftStands (before ++ rs) new
all_follow before [] d s taken = (d, subst (λ (l : List Role). DraftStands l d) (sym (append-nil before)) s)
all_follow before (r ∷ rs) d s taken =
    let one = follows before r d s taken.0 in
    let all = all_follow (before ++ r ∷ []) rs one.0 one.1 taken.1 in
    (all.0, subst (λ (l : List Role). DraftStands l all.0) (append_assoc before (r ∷ []) rs) all.1)

drafted : (rs : List Role) → AreTaken rs → (d : Draft) × DraftStands rs d
drafted rs taken =
    let first : Draft = record { id = None; prev = None; has_change = false; in_block = false } in
    all_follow [] rs first (first_stands first refl refl refl refl) taken

-- ---- the end of a patch

-- the rows are those of a patch, or it lacks its end
abbrev pub Ends : List Role → ℕ → Type 0
Ends rs stop = ((m : Meaning) × IsWell rs m) ⊎ ((fault : PatchFault) × LacksEnd rs stop fault)

ends_by : (rs : List Role) (stop : ℕ) (d : Draft) (inside : Bool) (id : Option Id) → DraftStands rs d → d.in_block ≡ inside → d.id ≡ id → Ends rs stop
ends_by rs stop d true id s open_block is = inr (faults.At stop kinds.OpenBlock, (s.taken, inl (s.inside ∙ open_block, refl)))
ends_by rs stop d false None s closed is = inr (faults.At stop kinds.NoId, (s.taken, inr (s.inside ∙ closed, s.ids ∙ ap prev_list is, refl)))
ends_by rs stop d false (Some id) s closed is = inl (record { id = id; prev = d.prev; changes = changes_of rs }, whole_is rs d id s closed is)

pub ends : (rs : List Role) (stop : ℕ) → AreTaken rs → Ends rs stop
ends rs stop taken = let d = drafted rs taken in ends_by rs stop d.0 d.0.in_block d.0.id d.1 refl refl

-- ---- one more row

pub taken_with : (rs : List PlacedRow) (r : PlacedRow) → AreTaken (said rs) → refusal (said rs) (role r.row) ≡ None → AreTaken (said (rs ++ r ∷ []))
taken_with rs r taken free = subst AreTaken (sym (said_more rs r)) (taken_more [] (said rs) (role r.row) taken free)

-- ---- a patch of a stream

-- the part is a patch within the limit, or it has a fault where it ends
pub part_settled : (part : StreamPart) (stop : ℕ) → AreTaken (said part.rows_) → ((m : Meaning) × IsWell (said part.rows_) m × (stop ≤ part.from + PATCH_LIMIT)) ⊎ ((fault : PatchFault) × IsEndFault part stop fault)
part_settled part stop taken = by (cases_lt (part.from + PATCH_LIMIT) stop)
  where
    whole : stop ≤ part.from + PATCH_LIMIT → Ends (said part.rows_) stop → ((m : Meaning) × IsWell (said part.rows_) m × (stop ≤ part.from + PATCH_LIMIT)) ⊎ ((fault : PatchFault) × IsEndFault part stop fault)
    whole short (inl m) = inl (m.0, m.1, short)
    whole short (inr lacks) = inr (lacks.0, lacks_end part.rows_ part.from stop lacks.0 short lacks.1)

    by : (part.from + PATCH_LIMIT < stop) ⊎ (stop ≤ part.from + PATCH_LIMIT) → ((m : Meaning) × IsWell (said part.rows_) m × (stop ≤ part.from + PATCH_LIMIT)) ⊎ ((fault : PatchFault) × IsEndFault part stop fault)
    by (inl long) = inr (_, too_long long refl)
    by (inr short) = whole short (ends (said part.rows_) stop taken)
