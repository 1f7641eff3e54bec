-- A patch of a stream while its rows are taken.
use Rattle.std.proofs.Common.{◌≡◌, ℕ, ◌+◌, ◌≤◌, Bool, true, false, List, [], ◌∷◌, ◌++◌, Some, refl, sym, ap, subst, ◌∙◌, append-nil, ◌⊎◌, inl, inr}
use Rattle.std.proofs.lemmas.List.{map-append}
use Rattle.delta_base.specs.declared.id.Id.{Id}
use Rattle.log_base.specs.declared.limits.TheConstants.{PATCH_LIMIT}
use Rattle.patch_meaning.specs.declared.draft.Draft.{Draft}
use Rattle.patch_meaning.specs.declared.fault.PatchFault.{PatchFault}
use Rattle.patch_meaning.specs.declared.fault.PatchFault.TheVariants as faults
use Rattle.patch_meaning.specs.declared.fault.PatchKind.TheVariants as kinds
use Rattle.patch_meaning.specs.declared.role.Role.{Role}
use Rattle.patch_meaning.specs.Draft.{AreBehind, DraftStands}
use Rattle.patch_meaning.specs.Patch.{AreOutside, IsWell, prev_list}
use Rattle.patch_meaning.specs.PartRead.{LacksEnd}
use Rattle.patch_meaning.specs.Roles.{role, said, ids_of, changes_of, is_open}
use Rattle.patch_meaning.specs.Stream.{IsEndFault, open_block, no_id}
use Rattle.patch_reader.specs.declared.placed.PlacedRow.{PlacedRow}

-- ---- rows

pub said_more : (rs : List PlacedRow) (r : PlacedRow) → said (rs ++ r ∷ []) ≡ said rs ++ role r.row ∷ []
said_more rs r = map-append (λ (r : PlacedRow). role r.row) rs (r ∷ [])

-- ---- the end of a patch

pub whole_is : (rs : List Role) (d : Draft) (id : Id) → DraftStands rs d → d.in_block ≡ false → d.id ≡ Some id → IsWell rs (record { id = id; prev = d.prev; changes = changes_of rs })
whole_is rs d id s outside is = record {
  parted = s.parted;
  one_id = s.ids ∙ ap prev_list is;
  prev_is = s.prevs;
  changes_are = refl;
  blocks = subst AreOutside (append-nil (changes_of rs)) (s.blocks [] (subst (λ (b : Bool). AreBehind b []) (sym outside) tt));
}

pub lacks_end : (rs : List PlacedRow) (from stop : ℕ) (fault : PatchFault) → stop ≤ from + PATCH_LIMIT → LacksEnd (said rs) stop fault → IsEndFault (record { from = from; rows_ = rs }) stop fault
lacks_end rs from stop fault short lacks = by lacks.1
  where
    by : ((is_open (said rs) ≡ true) × (fault ≡ faults.At stop kinds.OpenBlock)) ⊎ ((is_open (said rs) ≡ false) × (ids_of (said rs) ≡ []) × (fault ≡ faults.At stop kinds.NoId)) → IsEndFault (record { from = from; rows_ = rs }) stop fault
    by (inl is) = open_block short is.0 is.1
    by (inr is) = no_id short is.0 is.1 is.2
