-- What is known of a patch of which some rows were read.
use Rattle.std.specs.Prelude.{◌≡◌, Bool, true, false, List, [], ◌∷◌, ◌++◌, Some, Result, Ok, Err}
use Rattle.rdf_terms.specs.declared.change.Change.{Change}
use Rattle.patch_meaning.specs.declared.draft.Draft.{Draft}
use Rattle.patch_meaning.specs.declared.fault.PatchKind.{PatchKind}
use Rattle.patch_meaning.specs.declared.role.Role.{Role}
use Rattle.patch_meaning.specs.Patch.{AreOutside, AreInside, AreParted}
use Rattle.patch_meaning.specs.Patch.{AreTaken, has_some, prev_list, refusal}
use Rattle.patch_meaning.specs.Roles.{ids_of, prevs_of, changes_of, is_open}

-- changes that may follow where a block is open, or none is
abbrev pub AreBehind : Bool → List Change → Type 0
AreBehind true changes = AreInside changes
AreBehind false changes = AreOutside changes

-- these rows were taken, and the draft has what they say
pub record DraftStands (rs : List Role) (d : Draft) : Type 0 where
  pub taken : AreTaken rs
  pub parted : AreParted rs
  pub ids : ids_of rs ≡ prev_list d.id
  pub prevs : prevs_of rs ≡ prev_list d.prev
  pub change : has_some (changes_of rs) ≡ d.has_change
  pub inside : is_open rs ≡ d.in_block
  pub blocks : (more : List Change) → AreBehind d.in_block more → AreOutside (changes_of rs ++ more)

-- the row was taken, or the first reason why it may not stand there
abbrev pub DraftTakes : List Role → Role → Result Unit PatchKind → Draft → Type 0
DraftTakes rs r (Ok done) d = DraftStands (rs ++ r ∷ []) d
DraftTakes rs r (Err why) d = refusal rs r ≡ Some why
