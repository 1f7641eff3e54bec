-- Each row of a patch may stand behind those before it, and the rows say one thing.
use Rattle.std.proofs.Common.{◌≡◌, Bool, true, false, cond, List, [], ◌∷◌, ◌++◌, map, Option, Some, None, refl, sym, ap, subst, ◌∙◌, append_assoc, append-nil}
use Rattle.std.specs.List.{flat_map}
use Rattle.std.proofs.lemmas.Grind.{flat_map-append}
use Rattle.delta_base.specs.declared.id.Id.{Id}
use Rattle.rdf_terms.specs.declared.change.Change.{Change}
use Rattle.rdf_terms.specs.declared.change.Change.TheVariants as change
use Rattle.patch_meaning.specs.declared.fault.PatchKind.{PatchKind}
use Rattle.patch_meaning.specs.declared.fault.PatchKind.TheVariants as kinds
use Rattle.patch_meaning.specs.declared.role.Role.{Role}
use Rattle.patch_meaning.specs.declared.role.Role.TheVariants as roles
use Rattle.patch_meaning.specs.Draft.{AreBehind}
use Rattle.patch_meaning.specs.Patch.{Meaning, IsWell, AreTaken, AreTakenFrom, block_refusal, late, refusal, prev_list, has_some}
use Rattle.patch_meaning.specs.Roles.{id_said, prev_of, change_of, ids_of, prevs_of, changes_of, open_after, open_from, is_open}

-- ---- lists of one item

alone : {X : Type 0} (xs ys : List X) (x y : X) → xs ++ x ∷ ys ≡ y ∷ [] → (xs ≡ []) × (x ≡ y)
alone [] ys x y e = (refl, cc)
alone (z ∷ []) ys x y e = absurd cc
alone (z ∷ w ∷ xs) ys x y e = absurd cc

never : {X : Type 0} (xs ys : List X) (x : X) → xs ++ x ∷ ys ≡ [] → ⊥
never [] ys x e = cc
never (z ∷ xs) ys x e = cc

not_both : {X : Type 0} (x : X) → None ≡ Some x → ⊥
not_both x e = cc

-- what the row at a place says, among what all rows say
said_there : {X : Type 0} (f : Role → List X) (before rs : List Role) (r : Role) → flat_map f (before ++ r ∷ rs) ≡ flat_map f before ++ flat_map f (r ∷ rs)
said_there f before rs r = flat_map-append f before (r ∷ rs)

-- ---- headers stand before changes

two_ways : (l : List Change) (c : Change) → l ≡ [] → l ≡ c ∷ [] → ⊥
two_ways l c none some = cc

no_header : (before rs : List Role) (r : Role) (changes : List Change) → before ++ r ∷ rs ≡ map roles.Change changes → change_of r ≡ [] → ⊥
no_header [] rs r [] e none = cc
no_header [] rs r (c ∷ changes) e none =
    let is : r ≡ roles.Change c = cc in
    two_ways (change_of r) c none (ap change_of is)
no_header (b ∷ before) rs r [] e none = cc
no_header (b ∷ before) rs r (c ∷ changes) e none =
    let rest : before ++ r ∷ rs ≡ map roles.Change changes = cc in
    no_header before rs r changes rest none

front_none : {X : Type 0} (xs ys : List X) → xs ++ ys ≡ [] → xs ≡ []
front_none [] ys e = refl
front_none (x ∷ xs) ys e = absurd cc

back_none : {X : Type 0} (xs ys : List X) → xs ++ ys ≡ [] → ys ≡ []
back_none [] ys e = e
back_none (x ∷ xs) ys e = absurd cc

no_change_before : (before rs : List Role) (r : Role) (headers : List Role) (changes : List Change) → before ++ r ∷ rs ≡ headers ++ map roles.Change changes → changes_of headers ≡ [] → change_of r ≡ [] → changes_of before ≡ []
no_change_before [] rs r headers changes e silent none = refl
no_change_before (b ∷ before) rs r [] changes e silent none = absurd (no_header (b ∷ before) rs r changes e none)
no_change_before (b ∷ before) rs r (h ∷ headers) changes e silent none =
    let first : b ≡ h = cc in
    let rest : before ++ r ∷ rs ≡ headers ++ map roles.Change changes = cc in
    ap (λ (q : Role). change_of q ++ changes_of before) first ∙ ap (λ (l : List Change). l ++ changes_of before) (front_none (change_of h) (changes_of headers) silent)
    ∙ no_change_before before rs r headers changes rest (back_none (change_of h) (changes_of headers) silent) none

not_late : (before rs : List Role) (r : Role) (m : Meaning) → IsWell (before ++ r ∷ rs) m → change_of r ≡ [] → late before ≡ None
not_late before rs r m w none =
    ap (λ (cs : List Change). cond (has_some cs) (Some kinds.LateHeader) None)
    (no_change_before before rs r w.parted.headers w.parted.changes w.parted.parts w.parted.no_change none)

-- ---- blocks

behind_next : (inside : Bool) (c : Change) (more : List Change) → AreBehind inside (c ∷ more) → (block_refusal inside c ≡ None) × AreBehind (open_after inside c) more
behind_next true change.Begin more b = absurd b
behind_next false change.Begin more b = (refl, b)
behind_next true change.Commit more b = (refl, b)
behind_next false change.Commit more b = absurd b
behind_next true change.Abort more b = (refl, b)
behind_next false change.Abort more b = absurd b
behind_next true (change.Add quad) more b = (refl, b)
behind_next false (change.Add quad) more b = (refl, b)
behind_next true (change.Delete quad) more b = (refl, b)
behind_next false (change.Delete quad) more b = (refl, b)
behind_next true (change.PrefixAdd prefix iri graph) more b = (refl, b)
behind_next false (change.PrefixAdd prefix iri graph) more b = (refl, b)
behind_next true (change.PrefixDelete prefix graph) more b = (refl, b)
behind_next false (change.PrefixDelete prefix graph) more b = (refl, b)

may_stand : (inside : Bool) (before : List Change) (c : Change) (more : List Change) → AreBehind inside (before ++ c ∷ more) → block_refusal (open_from inside before) c ≡ None
may_stand inside [] c more b = (behind_next inside c more b).0
may_stand inside (d ∷ before) c more b = may_stand (open_after inside d) before c more (behind_next inside d (before ++ c ∷ more) b).1

closed : (inside : Bool) (changes : List Change) → AreBehind inside changes → open_from inside changes ≡ false
closed true [] b = absurd b
closed false [] b = refl
closed inside (c ∷ changes) b = closed (open_after inside c) changes (behind_next inside c changes b).1

pub well_closed : (rs : List Role) (m : Meaning) → IsWell rs m → is_open rs ≡ false
well_closed rs m w = ap (open_from false) w.changes_are ∙ closed false m.changes w.blocks

-- ---- each row may stand

id_there : (before rs : List Role) (id : Option Id) (m : Meaning) → IsWell (before ++ roles.Id id ∷ rs) m → (ids_of before ≡ []) × (id ≡ Some m.id)
id_there before rs id m w = alone (ids_of before) (ids_of rs) id (Some m.id) (sym (said_there id_said before rs (roles.Id id)) ∙ w.one_id)

prev_alone : (xs ys : List (Option Id)) (x : Option Id) (prev : Option Id) → xs ++ x ∷ ys ≡ prev_list prev → (xs ≡ []) × ((id : Id) × (x ≡ Some id))
prev_alone xs ys x None e = absurd (never xs ys x e)
prev_alone xs ys x (Some id) e = let one = alone xs ys x (Some id) e in (one.0, (id, one.1))

prev_there : (before rs : List Role) (id : Option Id) (m : Meaning) → IsWell (before ++ roles.Prev id ∷ rs) m → (prevs_of before ≡ []) × ((other : Id) × (id ≡ Some other))
prev_there before rs id m w = prev_alone (prevs_of before) (prevs_of rs) id m.prev (sym (said_there prev_of before rs (roles.Prev id)) ∙ w.prev_is)

unless : (ids : List (Option Id)) (why : Option PatchKind) (rest : Option PatchKind) → ids ≡ [] → rest ≡ None → cond (has_some ids) why rest ≡ None
unless ids why rest none e = ap (λ (l : List (Option Id)). cond (has_some l) why rest) none ∙ e

row_taken : (before : List Role) (r : Role) (rs : List Role) (m : Meaning) → IsWell (before ++ r ∷ rs) m → refusal before r ≡ None
unfolding refusal
row_taken before (roles.Id None) rs m w = absurd (not_both m.id (id_there before rs None m w).1)
row_taken before (roles.Id (Some id)) rs m w =
    unless (ids_of before) (Some kinds.TwoIds) (late before) (id_there before rs (Some id) m w).0 (not_late before rs (roles.Id (Some id)) m w refl)
row_taken before (roles.Prev None) rs m w = let there = prev_there before rs None m w in absurd (not_both there.1.0 there.1.1)
row_taken before (roles.Prev (Some id)) rs m w =
    unless (prevs_of before) (Some kinds.TwoPrevs) (late before) (prev_there before rs (Some id) m w).0 (not_late before rs (roles.Prev (Some id)) m w refl)
row_taken before roles.Other rs m w = not_late before rs roles.Other m w refl
row_taken before (roles.Change c) rs m w =
    may_stand false (changes_of before) c (changes_of rs) (subst (AreBehind false) (sym (sym (said_there change_of before rs (roles.Change c)) ∙ w.changes_are)) w.blocks)

taken_from : (before rs : List Role) (m : Meaning) → IsWell (before ++ rs) m → AreTakenFrom before rs
taken_from before [] m w = tt
taken_from before (r ∷ rs) m w = (row_taken before r rs m w, taken_from (before ++ r ∷ []) rs m (subst (λ (l : List Role). IsWell l m) (sym (append_assoc before (r ∷ []) rs)) w))

pub well_taken : (rs : List Role) (m : Meaning) → IsWell rs m → AreTaken rs
well_taken rs m w = taken_from [] rs m w

-- the next row may stand behind the first ones
pub next_taken : (before rs : List Role) (r : Role) → AreTaken (before ++ r ∷ rs) → refusal before r ≡ None
next_taken before rs r taken = from [] before rs r taken
  where
    from : (front before rs : List Role) (r : Role) → AreTakenFrom front (before ++ r ∷ rs) → refusal (front ++ before) r ≡ None
    from front [] rs r taken = ap (λ (l : List Role). refusal l r) (append-nil front) ∙ taken.0
    from front (b ∷ before) rs r taken = ap (λ (l : List Role). refusal l r) (sym (append_assoc front (b ∷ []) before)) ∙ from (front ++ b ∷ []) before rs r taken.1

-- ---- the rows say one thing

some_is : {X : Type 0} (x y : X) → Some x ≡ Some y → x ≡ y
some_is x y e = cc

one_item : {X : Type 0} (x y : X) → x ∷ [] ≡ y ∷ [] → x ≡ y
one_item x y e = cc

one_prev : (p q : Option Id) → prev_list p ≡ prev_list q → p ≡ q
one_prev None None e = refl
one_prev None (Some id) e = absurd cc
one_prev (Some id) None e = absurd cc
one_prev (Some id) (Some other) e = one_item (Some id) (Some other) e

pub same_meaning : (rs : List Role) (m n : Meaning) → IsWell rs m → IsWell rs n → m ≡ n
same_meaning rs m n w v =
    let make : Id → Option Id → List Change → Meaning = λ a b c. record { id = a; prev = b; changes = c } in
    ap (λ (a : Id). make a m.prev m.changes) (some_is m.id n.id (one_item (Some m.id) (Some n.id) (sym w.one_id ∙ v.one_id)))
    ∙ ap (λ (b : Option Id). make n.id b m.changes) (one_prev m.prev n.prev (sym w.prev_is ∙ v.prev_is))
    ∙ ap (make n.id n.prev) (sym w.changes_are ∙ v.changes_are)
