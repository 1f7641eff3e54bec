-- One more row is taken.
use Rattle.std.proofs.Common.{◌≡◌, Bool, true, false, cond, List, [], ◌∷◌, ◌++◌, map, Option, Some, None, refl, sym, ap, subst, ◌∙◌, append_assoc, append-nil}
use Rattle.std.specs.Prelude.{is_some}
use Rattle.std.specs.List.{flat_map}
use Rattle.std.proofs.lemmas.List.{map-append}
use Rattle.std.proofs.lemmas.Grind.{flat_map-append}
use Rattle.delta_base.specs.declared.id.Id.{Id}
use Rattle.rdf_terms.specs.declared.change.Change.{Change}
use Rattle.rdf_terms.specs.declared.change.Change.TheVariants as change
use Rattle.rdf_terms.specs.Quad.{Statement}
use Rattle.row_scan.specs.Found.{change_by}
use Rattle.patch_meaning.specs.declared.draft.Draft.{Draft}
use Rattle.patch_meaning.specs.declared.fault.PatchKind.{PatchKind}
use Rattle.patch_meaning.specs.declared.fault.PatchKind.TheVariants as kinds
use Rattle.patch_meaning.specs.declared.role.Role.{Role}
use Rattle.patch_meaning.specs.declared.role.Role.TheVariants as roles
use Rattle.patch_meaning.specs.Draft.{AreBehind, DraftStands}
use Rattle.patch_meaning.specs.Patch.{AreOutside, AreParted, AreTakenFrom, block_refusal, late, refusal, prev_list, has_some}
use Rattle.patch_meaning.specs.Roles.{id_said, prev_of, change_of, ids_of, prevs_of, changes_of, open_after, open_from}

-- ---- what a list with one more row says

says_more : {X : Type 0} (f : Role → List X) (rs : List Role) (r : Role) → flat_map f (rs ++ r ∷ []) ≡ flat_map f rs ++ f r
says_more {X} f rs r = flat_map-append f rs (r ∷ []) ∙ ap (λ (xs : List X). flat_map f rs ++ xs) (append-nil (f r))

-- a row that says nothing of this
same : {X : Type 0} (f : Role → List X) (rs : List Role) (r : Role) → f r ≡ [] → flat_map f (rs ++ r ∷ []) ≡ flat_map f rs
same {X} f rs r none = says_more f rs r ∙ ap (λ (xs : List X). flat_map f rs ++ xs) none ∙ append-nil (flat_map f rs)

pub taken_more : (before rs : List Role) (r : Role) → AreTakenFrom before rs → refusal (before ++ rs) r ≡ None → AreTakenFrom before (rs ++ r ∷ [])
taken_more before [] r taken none = (ap (λ (l : List Role). refusal l r) (sym (append-nil before)) ∙ none, tt)
taken_more before (q ∷ rs) r taken none =
    (taken.0, taken_more (before ++ q ∷ []) rs r taken.1 (ap (λ (l : List Role). refusal l r) (append_assoc before (q ∷ []) rs) ∙ none))

header_more : (rs : List Role) (r : Role) → changes_of rs ≡ [] → change_of r ≡ [] → AreParted (rs ++ r ∷ [])
header_more rs r before none = record {
  headers = rs ++ r ∷ [];
  changes = [];
  parts = sym (append-nil (rs ++ r ∷ []));
  no_change = same change_of rs r none ∙ before;
}

change_more : (rs : List Role) (c : Change) → AreParted rs → AreParted (rs ++ roles.Change c ∷ [])
change_more rs c p = record {
  headers = p.headers;
  changes = p.changes ++ c ∷ [];
  parts = ap (λ (l : List Role). l ++ roles.Change c ∷ []) p.parts ∙ append_assoc p.headers (map roles.Change p.changes) (roles.Change c ∷ [])
      ∙ ap (λ (l : List Role). p.headers ++ l) (sym (map-append roles.Change p.changes (c ∷ [])));
  no_change = p.no_change;
}

-- ---- blocks

open_more : (inside : Bool) (cs : List Change) (c : Change) → open_from inside (cs ++ c ∷ []) ≡ open_after (open_from inside cs) c
open_more inside [] c = refl
open_more inside (d ∷ cs) c = open_more (open_after inside d) cs c

behind_more : (inside : Bool) (c : Change) (more : List Change) → block_refusal inside c ≡ None → AreBehind (open_after inside c) more → AreBehind inside (c ∷ more)
behind_more true change.Begin more none behind = absurd cc
behind_more false change.Begin more none behind = behind
behind_more true change.Commit more none behind = behind
behind_more false change.Commit more none behind = absurd cc
behind_more true change.Abort more none behind = behind
behind_more false change.Abort more none behind = absurd cc
behind_more true (change.Add quad) more none behind = behind
behind_more false (change.Add quad) more none behind = behind
behind_more true (change.Delete quad) more none behind = behind
behind_more false (change.Delete quad) more none behind = behind
behind_more true (change.PrefixAdd prefix iri graph) more none behind = behind
behind_more false (change.PrefixAdd prefix iri graph) more none behind = behind
behind_more true (change.PrefixDelete prefix graph) more none behind = behind
behind_more false (change.PrefixDelete prefix graph) more none behind = behind

-- ---- refusals

late_by : (rs : List Role) (d : Draft) (some : Bool) → DraftStands rs d → d.has_change ≡ some → late rs ≡ cond some (Some kinds.LateHeader) None
late_by rs d some s is = ap (λ (b : Bool). cond b (Some kinds.LateHeader) None) (s.change ∙ is)

no_changes : (cs : List Change) → has_some cs ≡ false → cs ≡ []
no_changes [] none = refl
no_changes (c ∷ cs) none = absurd cc

second : (ids : List (Option Id)) (id : Option Id) (why : PatchKind) (other : Option PatchKind) → ids ≡ prev_list id → is_some id ≡ true → cond (has_some ids) (Some why) other ≡ Some why
second ids None why other e some = absurd cc
second ids (Some id) why other e some = ap (λ (l : List (Option Id)). cond (has_some l) (Some why) other) e

first : (ids : List (Option Id)) (id : Option Id) (why : PatchKind) (other : Option PatchKind) → ids ≡ prev_list id → is_some id ≡ false → cond (has_some ids) (Some why) other ≡ other
first ids None why other e none = ap (λ (l : List (Option Id)). cond (has_some l) (Some why) other) e
first ids (Some id) why other e none = absurd cc

pub second_id : (rs : List Role) (id : Id) (d : Draft) → DraftStands rs d → is_some d.id ≡ true → refusal rs (roles.Id (Some id)) ≡ Some kinds.TwoIds
unfolding refusal
second_id rs id d s some = second (ids_of rs) d.id kinds.TwoIds (late rs) s.ids some

pub late_id : (rs : List Role) (id : Id) (d : Draft) → DraftStands rs d → is_some d.id ≡ false → d.has_change ≡ true → refusal rs (roles.Id (Some id)) ≡ Some kinds.LateHeader
unfolding refusal
late_id rs id d s none some = first (ids_of rs) d.id kinds.TwoIds (late rs) s.ids none ∙ late_by rs d true s some

pub id_taken : (rs : List Role) (id : Id) (d : Draft) → DraftStands rs d → is_some d.id ≡ false → d.has_change ≡ false → refusal rs (roles.Id (Some id)) ≡ None
unfolding refusal
id_taken rs id d s none empty = first (ids_of rs) d.id kinds.TwoIds (late rs) s.ids none ∙ late_by rs d false s empty

pub second_prev : (rs : List Role) (id : Id) (d : Draft) → DraftStands rs d → is_some d.prev ≡ true → refusal rs (roles.Prev (Some id)) ≡ Some kinds.TwoPrevs
unfolding refusal
second_prev rs id d s some = second (prevs_of rs) d.prev kinds.TwoPrevs (late rs) s.prevs some

pub late_prev : (rs : List Role) (id : Id) (d : Draft) → DraftStands rs d → is_some d.prev ≡ false → d.has_change ≡ true → refusal rs (roles.Prev (Some id)) ≡ Some kinds.LateHeader
unfolding refusal
late_prev rs id d s none some = first (prevs_of rs) d.prev kinds.TwoPrevs (late rs) s.prevs none ∙ late_by rs d true s some

pub prev_taken : (rs : List Role) (id : Id) (d : Draft) → DraftStands rs d → is_some d.prev ≡ false → d.has_change ≡ false → refusal rs (roles.Prev (Some id)) ≡ None
unfolding refusal
prev_taken rs id d s none empty = first (prevs_of rs) d.prev kinds.TwoPrevs (late rs) s.prevs none ∙ late_by rs d false s empty

pub late_other : (rs : List Role) (d : Draft) → DraftStands rs d → d.has_change ≡ true → refusal rs roles.Other ≡ Some kinds.LateHeader
unfolding refusal
late_other rs d s some = late_by rs d true s some

pub other_taken : (rs : List Role) (d : Draft) → DraftStands rs d → d.has_change ≡ false → refusal rs roles.Other ≡ None
unfolding refusal
other_taken rs d s empty = late_by rs d false s empty

pub change_refused : (rs : List Role) (c : Change) (d : Draft) (why : Option PatchKind) → DraftStands rs d → block_refusal d.in_block c ≡ why → refusal rs (roles.Change c) ≡ why
unfolding refusal
change_refused rs c d why s is = ap (λ (b : Bool). block_refusal b c) s.inside ∙ is

change_taken : (rs : List Role) (c : Change) (d : Draft) → DraftStands rs d → block_refusal d.in_block c ≡ None → refusal rs (roles.Change c) ≡ None
change_taken rs c d s free = change_refused rs c d None s free

-- ---- drafts

pub first_stands : (d : Draft) → d.id ≡ None → d.prev ≡ None → d.has_change ≡ false → d.in_block ≡ false → DraftStands [] d
first_stands d id prev changes inside = record {
  taken = tt;
  parted = record { headers = []; changes = []; parts = refl; no_change = refl };
  ids = ap prev_list (sym id);
  prevs = ap prev_list (sym prev);
  change = sym changes;
  inside = sym inside;
  blocks = λ more behind. subst (λ (b : Bool). AreBehind b more) inside behind;
}

header_stands : (rs : List Role) (r : Role) (old new : Draft) → DraftStands rs old → old.has_change ≡ false → refusal rs r ≡ None → change_of r ≡ []
    → ids_of (rs ++ r ∷ []) ≡ prev_list new.id → prevs_of (rs ++ r ∷ []) ≡ prev_list new.prev → new.has_change ≡ old.has_change → new.in_block ≡ old.in_block → DraftStands (rs ++ r ∷ []) new
header_stands rs r old new s none taken silent ids prevs changes inside =
    let unchanged : changes_of (rs ++ r ∷ []) ≡ changes_of rs = same change_of rs r silent in
    record {
      taken = taken_more [] rs r s.taken taken;
      parted = header_more rs r (no_changes (changes_of rs) (s.change ∙ none)) silent;
      ids = ids;
      prevs = prevs;
      change = ap has_some unchanged ∙ s.change ∙ sym changes;
      inside = ap (open_from false) unchanged ∙ s.inside ∙ sym inside;
      blocks = λ more behind.
          subst (λ (cs : List Change). AreOutside (cs ++ more)) (sym unchanged) (s.blocks more (subst (λ (b : Bool). AreBehind b more) inside behind));
    }

no_list : (id : Option Id) → is_some id ≡ false → prev_list id ≡ []
no_list None none = refl
no_list (Some id) none = absurd cc

pub id_stands : (rs : List Role) (id : Id) (old new : Draft) → DraftStands rs old → old.has_change ≡ false → refusal rs (roles.Id (Some id)) ≡ None → is_some old.id ≡ false
    → new.id ≡ Some id → new.prev ≡ old.prev → new.has_change ≡ old.has_change → new.in_block ≡ old.in_block → DraftStands (rs ++ roles.Id (Some id) ∷ []) new
id_stands rs id old new s none taken free is prev changes inside =
    header_stands rs (roles.Id (Some id)) old new s none taken refl
    (says_more id_said rs (roles.Id (Some id)) ∙ ap (λ (l : List (Option Id)). l ++ Some id ∷ []) (s.ids ∙ no_list old.id free) ∙ ap prev_list (sym is))
    (same prev_of rs (roles.Id (Some id)) refl ∙ s.prevs ∙ ap prev_list (sym prev)) changes inside

pub prev_stands : (rs : List Role) (id : Id) (old new : Draft) → DraftStands rs old → old.has_change ≡ false → refusal rs (roles.Prev (Some id)) ≡ None → is_some old.prev ≡ false
    → new.prev ≡ Some id → new.id ≡ old.id → new.has_change ≡ old.has_change → new.in_block ≡ old.in_block → DraftStands (rs ++ roles.Prev (Some id) ∷ []) new
prev_stands rs id old new s none taken free is same_id changes inside =
    header_stands rs (roles.Prev (Some id)) old new s none taken refl
    (same id_said rs (roles.Prev (Some id)) refl ∙ s.ids ∙ ap prev_list (sym same_id))
    (says_more prev_of rs (roles.Prev (Some id)) ∙ ap (λ (l : List (Option Id)). l ++ Some id ∷ []) (s.prevs ∙ no_list old.prev free) ∙ ap prev_list (sym is)) changes inside

pub other_stands : (rs : List Role) (d : Draft) → DraftStands rs d → d.has_change ≡ false → refusal rs roles.Other ≡ None → DraftStands (rs ++ roles.Other ∷ []) d
other_stands rs d s none taken =
    header_stands rs roles.Other d d s none taken refl (same id_said rs roles.Other refl ∙ s.ids) (same prev_of rs roles.Other refl ∙ s.prevs) refl refl

some_more : (cs : List Change) (c : Change) → has_some (cs ++ c ∷ []) ≡ true
some_more [] c = refl
some_more (d ∷ cs) c = refl

pub change_stands : (rs : List Role) (c : Change) (old new : Draft) → DraftStands rs old → block_refusal old.in_block c ≡ None → new.id ≡ old.id → new.prev ≡ old.prev
    → new.has_change ≡ true → new.in_block ≡ open_after old.in_block c → DraftStands (rs ++ roles.Change c ∷ []) new
change_stands rs c old new s free id prev changes inside =
    let now : changes_of (rs ++ roles.Change c ∷ []) ≡ changes_of rs ++ c ∷ [] = says_more change_of rs (roles.Change c) in
    record {
      taken = taken_more [] rs (roles.Change c) s.taken (change_taken rs c old s free);
      parted = change_more rs c s.parted;
      ids = same id_said rs (roles.Change c) refl ∙ s.ids ∙ ap prev_list (sym id);
      prevs = same prev_of rs (roles.Change c) refl ∙ s.prevs ∙ ap prev_list (sym prev);
      change = ap has_some now ∙ some_more (changes_of rs) c ∙ sym changes;
      inside = ap (open_from false) now ∙ open_more false (changes_of rs) c ∙ ap (λ (b : Bool). open_after b c) s.inside ∙ sym inside;
      blocks = λ more behind.
          subst AreOutside (sym (ap (λ (l : List Change). l ++ more) now ∙ append_assoc (changes_of rs) (c ∷ []) more))
          (s.blocks (c ∷ more) (behind_more old.in_block c more free (subst (λ (b : Bool). AreBehind b more) inside behind)));
    }

-- a row that adds or deletes a quad
pub quad_stands : (rs : List Role) (adds : Bool) (quad : Statement) (old : Draft) → DraftStands rs old → DraftStands (rs ++ roles.Change (change_by adds quad) ∷ []) (record old { has_change = true })
quad_stands rs true quad old s = change_stands rs (change.Add quad) old (record old { has_change = true }) s refl refl refl refl refl
quad_stands rs false quad old s = change_stands rs (change.Delete quad) old (record old { has_change = true }) s refl refl refl refl refl
