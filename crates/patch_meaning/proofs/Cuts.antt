-- A stream while its rows are cut into patches.
use Rattle.std.proofs.Common.{◌≡◌, ℕ, ◌+◌, ◌≤◌, Bool, true, false, cond, List, [], ◌∷◌, ◌++◌, Option, Some, None, Result, Ok, Err, refl, sym, ap, subst, ◌∙◌, append-nil, inl, inr}
use Rattle.std.specs.Prelude.{OnOk, IfOk, IfErr}
use Rattle.std.proofs.lemmas.List.{map-append}
use Rattle.std.proofs.lemmas.List.Sums.{fold-append}
use Rattle.std.proofs.lemmas.Grind.{flat_map-append}
use Rattle.log_base.specs.declared.chain_link.ChainLink.{ChainLink}
use Rattle.rdf_terms.specs.declared.change.Change.{Change}
use Rattle.patch_rows.specs.declared.fault.RowKind.{RowKind}
use Rattle.patch_reader.specs.declared.placed.PlacedRow.{PlacedRow}
use Rattle.patch_meaning.specs.declared.fault.PatchFault.{PatchFault}
use Rattle.patch_meaning.specs.declared.fault.PatchKind.{PatchKind}
use Rattle.patch_meaning.specs.declared.fault.PatchKind.TheVariants as kinds
use Rattle.patch_meaning.specs.declared.part.Part.{Part as PartRead}
use Rattle.patch_meaning.specs.declared.role.Role.{Role}
use Rattle.patch_meaning.specs.Cutting.{IsCutInto, BeginsPatch, GoesOnInPatch, IsCutAt, IsLeftPart, HasTakenNext, AreRefused, EndsWith, IsBrokenAt, IsBrokenBy, IsLastPatch, EndsStream, IsBrokenAtEnd, changes_behind}
use Rattle.patch_meaning.specs.PartRead.{HasPart, IsComplete, IsIncomplete, IsRefusedRow, meaning_of}
use Rattle.log_base.specs.declared.limits.TheConstants.{PATCH_LIMIT}
use Rattle.patch_meaning.specs.Patch.{Meaning, IsWell, AreTaken, refusal, has_some}
use Rattle.patch_meaning.specs.Roles.{role, said, change_of, changes_of}
use Rattle.patch_meaning.specs.Rows.{AreUpTo}
use Rattle.patch_meaning.specs.Stream.{StreamPart, Cut, ArePatches, AreStream, IsEndFault, begins, cut, cut_with, stop_of, within}
use Rattle.patch_meaning.proofs.Rowed.{front_up_to, up_further}

-- ---- cutting

cut_more : (rs : List PlacedRow) (r : PlacedRow) → cut (rs ++ r ∷ []) ≡ cut_with (cut rs) r
cut_more rs r = fold-append cut_with (record { done = []; last = record { from = 0; rows_ = [] } }) rs (r ∷ [])

abbrev pub begun : Cut → PlacedRow → Cut
begun c r = record { done = c.done ++ c.last ∷ []; last = record { from = r.at; rows_ = r ∷ [] } }

abbrev pub longer : Cut → PlacedRow → Cut
longer c r = record { done = c.done; last = record { from = c.last.from; rows_ = c.last.rows_ ++ r ∷ [] } }

pub cut_begun : (rs : List PlacedRow) (r : PlacedRow) → begins (said (cut rs).last.rows_) (role r.row) ≡ true → cut (rs ++ r ∷ []) ≡ begun (cut rs) r
cut_begun rs r e = cut_more rs r ∙ ap (λ (b : Bool). cond b (begun (cut rs) r) (longer (cut rs) r)) e

pub cut_longer : (rs : List PlacedRow) (r : PlacedRow) → begins (said (cut rs).last.rows_) (role r.row) ≡ false → cut (rs ++ r ∷ []) ≡ longer (cut rs) r
cut_longer rs r e = cut_more rs r ∙ ap (λ (b : Bool). cond b (begun (cut rs) r) (longer (cut rs) r)) e

pub stop_more : (parts : List StreamPart) (last : StreamPart) (stop : ℕ) → stop_of (parts ++ last ∷ []) stop ≡ stop_of parts last.from
stop_more [] last stop = refl
stop_more (part ∷ parts) last stop = refl

pub patches_more : (done : List StreamPart) (last : StreamPart) (ms : List Meaning) (m : Meaning) (stop : ℕ) → ArePatches done last.from ms → IsWell (said last.rows_) m → stop ≤ last.from + PATCH_LIMIT
    → ArePatches (done ++ last ∷ []) stop (ms ++ m ∷ [])
patches_more [] last [] m stop are well short = (well, short, tt)
patches_more [] last (n ∷ ms) m stop are well short = absurd are
patches_more (part ∷ done) last [] m stop are well short = absurd are
patches_more (part ∷ done) last (n ∷ ms) m stop are well short =
    (are.0, subst (λ (s : ℕ). s ≤ part.from + PATCH_LIMIT) (sym (stop_more done last stop)) are.1, patches_more done last ms m stop are.2 well short)

-- ---- one more row

pub not_empty : {X : Type 0} (xs : List X) (x : X) → xs ++ x ∷ [] ≡ [] → ⊥
not_empty [] x e = cc
not_empty (y ∷ xs) x e = cc

-- the cut with one more row
cut_is : (rs : List PlacedRow) (ms : List Meaning) (changes : List Change) (r : PlacedRow) (new : PartRead) (c : Cut) → cut (rs ++ r ∷ []) ≡ c → (c.last.rows_ ≡ [] → ⊥) → c.last.from ≡ new.from
    → HasPart c.last.rows_ new → ArePatches c.done c.last.from ms → (AreUpTo (rs ++ r ∷ []) (new.from + PATCH_LIMIT) → changes_of (said c.last.rows_) ≡ changes) → IsCutInto (rs ++ r ∷ []) ms changes new
cut_is rs ms changes r new c e some from part before all = record {
  some = λ empty. absurd (some (sym (ap (λ (k : Cut). k.last.rows_) e) ∙ empty));
  from_is = ap (λ (k : Cut). k.last.from) e ∙ from;
  part = subst (λ (k : Cut). HasPart k.last.rows_ new) (sym e) part;
  before = subst (λ (k : Cut). ArePatches k.done k.last.from ms) (sym e) before;
  changes_are = λ up. ap (λ (k : Cut). changes_of (said k.last.rows_)) e ∙ all up;
}

-- the changes with those of one more row
changes_more : (rs : List PlacedRow) (r : PlacedRow) → changes_of (said (rs ++ r ∷ [])) ≡ changes_of (said rs) ++ change_of (role r.row)
changes_more rs r =
    ap changes_of (map-append (λ (q : PlacedRow). role q.row) rs (r ∷ [])) ∙ flat_map-append change_of (said rs) (role r.row ∷ [])
    ∙ ap (λ (cs : List Change). changes_of (said rs) ++ cs) (append-nil (change_of (role r.row)))

-- where a row begins behind the limit, nobody needs the changes
pub with_changes : (rs : List PlacedRow) (ms : List Meaning) (changes other : List Change) (p : PartRead) → (AreUpTo rs (p.from + PATCH_LIMIT) → changes ≡ other) → IsCutInto rs ms changes p → IsCutInto rs ms other p
with_changes rs ms changes other p same h = record {
  some = h.some;
  from_is = h.from_is;
  part = h.part;
  before = h.before;
  changes_are = λ up. h.changes_are up ∙ same up;
}

-- what taking a row of the patch comes to
abbrev pub Adds : PartRead → Role → PartRead → Type 0
Adds old says new = (rs : List PlacedRow) (r : PlacedRow) → HasPart rs old → role r.row ≡ says → HasPart (rs ++ r ∷ []) new

added : (old new : PartRead) (says : Role) (at : ℕ) → GoesOnInPatch says old → Adds old says new → new.from ≡ old.from → HasTakenNext old says at None new
added old new says at same step from rs ms changes r h up is place =
    cut_is rs (ms ++ []) (changes_behind None changes says) r new (longer (cut rs) r)
    (cut_longer rs r (ap (begins (said (cut rs).last.rows_)) is ∙ same (cut rs).last.rows_ h.part))
    (not_empty (cut rs).last.rows_ r) (h.from_is ∙ sym from) (step (cut rs).last.rows_ r h.part is)
    (subst (ArePatches (cut rs).done (cut rs).last.from) (sym (append-nil ms)) h.before)
    (λ now.
    changes_more (cut rs).last.rows_ r
    ∙ ap (λ (cs : List Change). cs ++ change_of (role r.row)) (h.changes_are (subst (λ (n : ℕ). AreUpTo rs (n + PATCH_LIMIT)) from (front_up_to rs r (new.from + PATCH_LIMIT) now).0))
    ∙ ap (λ (q : Role). changes ++ change_of q) is)

-- a patch that is complete says what its rows say
pub well_with : (rs : List Role) (link : ChainLink) (changes : List Change) → changes_of rs ≡ changes → IsWell rs (meaning_of link (changes_of rs)) → IsWell rs (meaning_of link changes)
well_with rs link changes are well = subst (λ (cs : List Change). IsWell rs (meaning_of link cs)) are well

-- the changes of a patch that stops within its limit
pub changes_within : (rs : List PlacedRow) (ms : List Meaning) (changes : List Change) (p : PartRead) (stop : ℕ) → IsCutInto rs ms changes p → AreUpTo rs stop → stop ≤ p.from + PATCH_LIMIT → changes_of (said (cut rs).last.rows_) ≡ changes
changes_within rs ms changes p stop h up short = h.changes_are (up_further rs stop (p.from + PATCH_LIMIT) short up)

begun_with : (old mid new : PartRead) (says : Role) (at : ℕ) (link : ChainLink) → BeginsPatch says old → IsComplete old at link → HasPart [] mid → mid.from ≡ at → Adds mid says new → new.from ≡ mid.from
    → HasTakenNext old says at (Some link) new
begun_with old mid new says at link first done none starts step from rs ms changes r h up is place =
    let last = done (cut rs).last.rows_ h.part in
    let well = well_with (said (cut rs).last.rows_) link changes (changes_within rs ms changes old at h up last.1) last.0 in
    cut_is rs (ms ++ meaning_of link changes ∷ []) (changes_behind (Some link) changes says) r new (begun (cut rs) r)
    (cut_begun rs r (ap (begins (said (cut rs).last.rows_)) is ∙ first (cut rs).last.rows_ h.part))
    (λ empty. cc) (place ∙ sym (from ∙ starts)) (step [] r none is)
    (subst (λ (n : ℕ). ArePatches ((cut rs).done ++ (cut rs).last ∷ []) n (ms ++ meaning_of link changes ∷ [])) (sym place)
    (patches_more (cut rs).done (cut rs).last ms (meaning_of link changes) at h.before well (subst (λ (n : ℕ). at ≤ n + PATCH_LIMIT) (sym h.from_is) last.1)))
    (λ now. changes_more [] r ∙ ap change_of is)

pub taken_next : (old mid new : PartRead) (says : Role) (at : ℕ) (done : Option ChainLink) → IsCutAt old says at done → IsLeftPart old at done mid → Adds mid says new → new.from ≡ mid.from → HasTakenNext old says at done new
taken_next old mid new says at None is left step from = added old new says at is (λ rs r h. step rs r (subst (HasPart rs) (sym left) h)) (from ∙ ap (λ (p : PartRead). p.from) left)
taken_next old mid new says at (Some link) is left step from = begun_with old mid new says at link is.0 is.1 left.0 left.1 step from

-- ---- faults

pub ends_with : (p : PartRead) (rs : List PlacedRow) (ms : List Meaning) (changes : List Change) (stop : ℕ) (fault : PatchFault) → IsIncomplete p stop fault → IsCutInto rs ms changes p → EndsWith rs stop fault
ends_with p rs ms changes stop fault why h =
    (h.part.stands.taken, subst (λ (n : ℕ). IsEndFault (record { from = n; rows_ = (cut rs).last.rows_ }) stop fault) (sym h.from_is) (why (cut rs).last.rows_ h.part))

-- the cut with one more row, which is refused
pub refused_with : (rs : List PlacedRow) (r : PlacedRow) (c : Cut) (ms : List Meaning) (front : List PlacedRow) (kind : PatchKind) (fault : PatchFault) → cut (rs ++ r ∷ []) ≡ c → ArePatches c.done c.last.from ms
    → c.last.rows_ ≡ front ++ r ∷ [] → AreTaken (said front) → refusal (said front) (role r.row) ≡ Some kind → fault ≡ within c.last.from r.at kind → AreRefused (rs ++ r ∷ []) fault
refused_with rs r c ms front kind fault e before parts taken refuses is = record {
  before = ms;
  well = subst (λ (k : Cut). ArePatches k.done k.last.from ms) (sym e) before;
  front = front;
  row_ = r;
  kind = kind;
  rows_ = ap (λ (k : Cut). k.last.rows_) e ∙ parts;
  taken = taken;
  refused = refuses;
  fault_is = is ∙ ap (λ (k : Cut). within k.last.from r.at kind) (sym e);
}

-- the next patch begins with the row, and the one before it is incomplete
pub broken_before : (p : PartRead) (says : Role) (at : ℕ) (fault : PatchFault) → BeginsPatch says p → IsIncomplete p at fault → IsBrokenBy p says at fault
broken_before p says at fault first why rs ms changes r h is place = inl (first (cut rs).last.rows_ h.part, ends_with p rs ms changes at fault why h)

-- the row is refused
pub broken_row : (old mid : PartRead) (says : Role) (at : ℕ) (done : Option ChainLink) (fault : PatchFault) → IsCutAt old says at done → IsLeftPart old at done mid → IsRefusedRow mid says at fault → IsBrokenBy old says at fault
broken_row old mid says at None fault same left why rs ms changes r h is place =
    let last = (cut rs).last in
    let no = why last.rows_ (subst (HasPart last.rows_) (sym left) h.part) in
    inr (refused_with rs r (longer (cut rs) r) ms last.rows_ no.0 fault
    (cut_longer rs r (ap (begins (said last.rows_)) is ∙ same last.rows_ h.part))
    h.before refl h.part.stands.taken (ap (refusal (said last.rows_)) is ∙ no.1)
    (no.2 ∙ ap (λ (n : ℕ). within n at no.0) (ap (λ (p : PartRead). p.from) left ∙ sym h.from_is) ∙ ap (λ (n : ℕ). within last.from n no.0) (sym place)))
broken_row old mid says at (Some link) fault (first, done) (none, starts) why rs ms changes r h is place =
    let last = (cut rs).last in
    let whole = done last.rows_ h.part in
    let no = why [] none in
    inr (refused_with rs r (begun (cut rs) r) (ms ++ meaning_of link (changes_of (said last.rows_)) ∷ []) [] no.0 fault
    (cut_begun rs r (ap (begins (said last.rows_)) is ∙ first last.rows_ h.part))
    (subst (λ (n : ℕ). ArePatches ((cut rs).done ++ last ∷ []) n (ms ++ meaning_of link (changes_of (said last.rows_)) ∷ [])) (sym place)
    (patches_more (cut rs).done last ms (meaning_of link (changes_of (said last.rows_))) at h.before whole.0 (subst (λ (n : ℕ). at ≤ n + PATCH_LIMIT) (sym h.from_is) whole.1)))
    refl tt (ap (refusal []) is ∙ no.1)
    (no.2 ∙ ap (λ (n : ℕ). within n at no.0) (starts ∙ sym place) ∙ ap (λ (n : ℕ). within r.at n no.0) (sym place)))

pub broken_at : (p : PartRead) (at : ℕ) (kind : RowKind) (fault : PatchFault) → fault ≡ within p.from at (kinds.Row kind) → IsBrokenAt p at kind fault
broken_at p at kind fault is rs ms changes h = (h.part.stands.taken, is ∙ ap (λ (n : ℕ). within n at (kinds.Row kind)) (sym h.from_is))

has_none : (rs : List PlacedRow) → rs ≡ [] → has_some rs ≡ true → ⊥
has_none [] e some = cc
has_none (r ∷ rs) e some = cc

pub broken_at_end : (p : PartRead) (stop : ℕ) (fault : PatchFault) → ((rs : List PlacedRow) → HasPart rs p → has_some rs ≡ true) → IsIncomplete p stop fault → IsBrokenAtEnd p stop fault
broken_at_end p stop fault some why rs ms changes h =
    (λ empty. has_none (cut rs).last.rows_ empty (some (cut rs).last.rows_ h.part), ends_with p rs ms changes stop fault why h)

-- ---- the end

pub stream_by : (rs : List PlacedRow) (stop : ℕ) (ms : List Meaning) → has_some (cut rs).last.rows_ ≡ true → ArePatches ((cut rs).done ++ (cut rs).last ∷ []) stop ms → AreStream rs stop ms
stream_by [] stop ms some are = absurd cc
stream_by (r ∷ rs) stop ms some are = are

stream_ends : (p : PartRead) (stop : ℕ) (link : ChainLink) → ((rs : List PlacedRow) → HasPart rs p → has_some rs ≡ true) → IsComplete p stop link → EndsStream p stop (Some link)
stream_ends p stop link some is rs ms changes h up =
    let last = is (cut rs).last.rows_ h.part in
    let well = well_with (said (cut rs).last.rows_) link changes (changes_within rs ms changes p stop h up last.1) last.0 in
    stream_by rs stop (ms ++ meaning_of link changes ∷ []) (some (cut rs).last.rows_ h.part)
    (patches_more (cut rs).done (cut rs).last ms (meaning_of link changes) stop h.before well (subst (λ (n : ℕ). stop ≤ n + PATCH_LIMIT) (sym h.from_is) last.1))

pub none_there : (rs : List PlacedRow) → has_some rs ≡ false → rs ≡ []
none_there [] none = refl
none_there (r ∷ rs) none = absurd cc

no_patches : (from : ℕ) (ms : List Meaning) → ArePatches [] from ms → ms ≡ []
no_patches from [] are = refl
no_patches from (m ∷ ms) are = absurd are

empty_by : (rs : List PlacedRow) (stop : ℕ) (ms : List Meaning) → rs ≡ [] → ArePatches (cut rs).done (cut rs).last.from ms → AreStream rs stop ms
empty_by [] stop ms e are = no_patches 0 ms are
empty_by (r ∷ rs) stop ms e are = absurd cc

no_rows : (p : PartRead) (stop : ℕ) → ((rs : List PlacedRow) → HasPart rs p → has_some rs ≡ false) → EndsStream p stop None
no_rows p stop none rs ms changes h up =
    subst (AreStream rs stop) (sym (append-nil ms)) (empty_by rs stop ms (h.some (none_there (cut rs).last.rows_ (none (cut rs).last.rows_ h.part))) h.before)

pub ends_stream : (p : PartRead) (stop : ℕ) (done : Option ChainLink) → IsLastPatch p stop done → EndsStream p stop done
ends_stream p stop None last = no_rows p stop last
ends_stream p stop (Some link) last = stream_ends p stop link last.0 last.1

pub nothing_cut : (p : PartRead) → HasPart [] p → p.from ≡ 0 → IsCutInto [] [] [] p
nothing_cut p part from = record { some = λ empty. refl; from_is = sym from; part = part; before = tt; changes_are = λ up. refl }

-- ---- results

pub on_ok : {T E : Type 0} (r : Result T E) (A B C D : Type 0) → OnOk r A → OnOk r B → OnOk r C → (A → B → C → D) → OnOk r D
on_ok (Ok x) A B C D a b c f = f a b c
on_ok (Err e) A B C D a b c f = tt

pub if_ok : {T E : Type 0} (r : Result T E) (P Q : T → Type 0) → IfOk r P → ((x : T) → P x → Q x) → IfOk r Q
if_ok (Ok x) P Q p f = f x p
if_ok (Err e) P Q p f = tt

pub if_err : {T E : Type 0} (r : Result T E) (P Q : E → Type 0) → IfErr r P → ((e : E) → P e → Q e) → IfErr r Q
if_err (Ok x) P Q p f = tt
if_err (Err e) P Q p f = f e p
