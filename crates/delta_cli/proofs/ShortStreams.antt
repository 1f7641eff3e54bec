-- No patch of a stream is too long that has no more bytes than a patch may have.
use Rattle.std.proofs.Common.{◌≡◌, ℕ, ◌+◌, ◌≤◌, Bool, true, false, cond, ltb, List, [], ◌∷◌, ◌++◌, length, refl, ◌∙◌, subst, arith}
use Rattle.std.specs.Prelude.{fold}
use Rattle.std.proofs.lemmas.Bool.Decides.{nat_tests}
use Rattle.log_base.specs.declared.limits.TheConstants.{PATCH_LIMIT}
use Rattle.patch_meaning.specs.declared.fault.PatchFault.TheVariants as faults
use Rattle.patch_meaning.specs.declared.fault.PatchKind.{PatchKind}
use Rattle.patch_meaning.specs.declared.fault.PatchKind.TheVariants as kinds
use Rattle.patch_meaning.specs.Roles.{role, said}
use Rattle.patch_meaning.specs.Rows.{AreUpTo}
use Rattle.patch_meaning.specs.Stream.{Cut, EndsAt, IsEndFault, IsPartFault, IsStreamFault, StreamPart, begins, cut, cut_with, within}
use Rattle.patch_meaning.specs.Stream.{next, over, too_long, open_block, no_id, refused, no_row, ended}
use Rattle.patch_meaning.proofs.Cuts.{begun, longer}
use Rattle.patch_meaning.proofs.Rowed.{front_up_to, row_within, rows_up_to}
use Rattle.patch_reader.specs.declared.placed.PlacedRow.{PlacedRow}

-- ---- the rows of a stream's last part

up_more : (rs : List PlacedRow) (r : PlacedRow) (stop : ℕ) → AreUpTo rs stop → r.at ≤ stop → AreUpTo (rs ++ r ∷ []) stop
up_more [] r stop up here = (here, tt)
up_more (q ∷ rs) r stop up here = (up.0, up_more rs r stop up.1 here)

up_by : (b : Bool) (c : Cut) (r : PlacedRow) (stop : ℕ) → AreUpTo c.last.rows_ stop → r.at ≤ stop → AreUpTo (cond b (begun c r) (longer c r)).last.rows_ stop
up_by true c r stop up here = (here, tt)
up_by false c r stop up here = up_more c.last.rows_ r stop up here

up_all : (rs : List PlacedRow) (c : Cut) (stop : ℕ) → AreUpTo rs stop → AreUpTo c.last.rows_ stop → AreUpTo (fold cut_with c rs).last.rows_ stop
up_all [] c stop all up = up
up_all (r ∷ rs) c stop all up = up_all rs (cut_with c r) stop all.1 (up_by (begins (said c.last.rows_) (role r.row)) c r stop up all.0)

up_cut : (rs : List PlacedRow) (stop : ℕ) → AreUpTo rs stop → AreUpTo (cut rs).last.rows_ stop
up_cut rs stop all = up_all rs (record { done = []; last = record { from = 0; rows_ = [] } }) stop all tt

-- ---- faults

module _ (text : List ℕ) (short : length text ≤ PATCH_LIMIT) (size limit : ℕ) where
  -- a fault at a place of the text
  near : (from at : ℕ) (kind : PatchKind) → at ≤ length text → faults.TooLong size limit ≡ within from at kind → ⊥
  near from at kind high is =
      let no : ltb (from + PATCH_LIMIT) at ≡ false = grind (arith, nat_tests, high, short) in
      let here : within from at kind ≡ faults.At at kind = rw no refl in
      let other : faults.TooLong size limit ≡ faults.At at kind = is ∙ here in cc

  ends_near : (part : StreamPart) (to : ℕ) → EndsAt text part to → to ≤ length text
  ends_near part to (next r end there begins_next) = let up = row_within text to r end there in omega (arith, up.0, up.1)
  ends_near part to (over is some) = omega (arith, is)

  no_end : (part : StreamPart) (to : ℕ) → to ≤ length text → IsEndFault part to (faults.TooLong size limit) → ⊥
  no_end part to high (too_long far is) = omega (arith, far, high, short)
  no_end part to high (open_block up open_ is) = cc
  no_end part to high (no_id up open_ none is) = cc

  no_part : (part : StreamPart) (to : ℕ) → AreUpTo part.rows_ (length text) → IsPartFault text part to (faults.TooLong size limit) → ⊥
  no_part part to up (refused front r kind parts taken refuses is) =
      near part.from r.at kind (front_up_to front r (length text) (subst (λ (rs : List PlacedRow). AreUpTo rs (length text)) parts up)).1 is
  no_part part to up (no_row at kind taken none is) = near part.from at (kinds.Row kind) none.2 is
  no_part part to up (ended taken ends is) = no_end part to (ends_near part to ends) is

  pub never_long : IsStreamFault text (faults.TooLong size limit) → ⊥
  never_long is =
      let gap = is.reads.2 in
      let behind : is.reads.0 ≤ length text = omega (arith, gap.1, gap.2) in
      no_part (cut is.rows_).last is.to (up_cut is.rows_ (length text) (rows_up_to text 0 is.reads.0 (length text) is.rows_ is.reads.1 behind)) is.fault_is
