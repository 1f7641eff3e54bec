-- What is held of the changes behind one more row, or one more patch.
use Rattle.std.proofs.Common.{◌≡◌, ℕ, ◌+◌, Bool, true, false, List, [], ◌∷◌, ◌++◌, Option, Some, None, Result, Ok, Err, refl, sym, ap, subst, ◌∙◌, append-nil}
use Rattle.std.specs.Prelude.{◌||◌, is_some, nat_lt, OnOk}
use Rattle.std.proofs.lemmas.Bool.{false≢true}
use Rattle.log_base.specs.declared.limits.TheConstants.{PATCH_LIMIT}
use Rattle.log_base.specs.declared.chain_link.ChainLink.{ChainLink}
use Rattle.chain_core.specs.declared.testing.ChainFault.{ChainFault}
use Rattle.rdf_terms.specs.declared.change.Change.{Change}
use Rattle.rdf_terms.specs.Dataset.{Dataset, apply}
use Rattle.rdf_terms.specs.Line.{line}
use Rattle.rdf_terms.specs.Quad.{Statement}
use Rattle.row_scan.specs.Found.{change_by}
use Rattle.patch_meaning.specs.declared.part.Part.{Part}
use Rattle.patch_meaning.specs.declared.role.Role.{Role}
use Rattle.patch_meaning.specs.PartRead.{meaning_of}
use Rattle.patch_meaning.specs.Patch.{Meaning}
use Rattle.patch_meaning.specs.Replay.{replay}
use Rattle.patch_meaning.specs.Roles.{change_of}
use Rattle.stream_replay.specs.declared.edits.Edits.{Edits}
use Rattle.stream_replay.specs.declared.progress.StreamProgress.{StreamProgress}
use Rattle.stream_replay.specs.declared.replay.Replay.{Replay}
use Rattle.stream_replay.specs.Edits.{GrowsBy, HasEdits, IsSettledOrShort, IsShort, edits_by}
use Rattle.stream_replay.specs.Streaming.{GoesByDataset, HoldsEdits, HoldsMore, IsShortBehind, edits_said}
use Rattle.stream_replay.proofs.Bounds.{completed, nothing_more}
use Rattle.stream_replay.proofs.Streams.{GoOn}
use Rattle.stream_replay.proofs.Taken.{edits_left}

either : (a : Bool) → (a || false) ≡ true → a ≡ true
either true e = refl
either false e = e

not_both : (a : Bool) → (a || true) ≡ false → ⊥
not_both true e = cc
not_both false e = cc

neither : (a b : Bool) → (a || b) ≡ false → a ≡ false
neither true b e = e
neither false b e = refl

-- ---- one more row

-- nobody needs it
pub held_none : (fault : Option ChainFault) (p : Part) (ms : List Meaning) (changes : List Change) (says : Role) (at : ℕ) (e : Edits) → (nat_lt (p.from + PATCH_LIMIT) at || is_some fault) ≡ true → HoldsEdits fault ms changes e
    → HoldsMore fault p ms changes says at e
held_none None p ms changes says at e none has = (changes, has, λ near. absurd (false≢true (sym near ∙ either (nat_lt (p.from + PATCH_LIMIT) at) none)))
held_none (Some fault) p ms changes says at e none has = (changes ++ change_of says, has, λ near. refl)

-- it is held
pub held_more : (fault : Option ChainFault) (p : Part) (ms : List Meaning) (changes : List Change) (says : Role) (at : ℕ) (old new : Edits) → (nat_lt (p.from + PATCH_LIMIT) at || is_some fault) ≡ false
    → ((cs : List Change) (d : Dataset) → HasEdits cs d old → HasEdits (cs ++ change_of says) d new) → HoldsEdits fault ms changes old → HoldsMore fault p ms changes says at new
held_more None p ms changes says at old new some more has = (changes ++ change_of says, more changes (replay ms) has, λ near. refl)
held_more (Some fault) p ms changes says at old new some more has = absurd (not_both (nat_lt (p.from + PATCH_LIMIT) at) some)

-- it is no change
pub held_still : (fault : Option ChainFault) (p : Part) (ms : List Meaning) (changes : List Change) (says : Role) (at : ℕ) (e : Edits) → change_of says ≡ [] → HoldsEdits fault ms changes e → HoldsMore fault p ms changes says at e
held_still fault p ms changes says at e nothing has = (changes, has, λ near. sym (append-nil changes) ∙ ap (λ (cs : List Change). changes ++ cs) (sym nothing))

-- ---- a quad

-- the line is that of the quad
pub quad_grows : (adds : Bool) (quad : Statement) (bytes : List ℕ) (old new : Edits) → bytes ≡ line quad → GrowsBy ((adds, bytes) ∷ []) old new → GrowsBy (edits_by (change_by adds quad)) old new
quad_grows true quad bytes old new is grows = subst (λ (l : List ℕ). GrowsBy ((true, l) ∷ []) old new) is grows
quad_grows false quad bytes old new is grows = subst (λ (l : List ℕ). GrowsBy ((false, l) ∷ []) old new) is grows

module _ (old new : StreamProgress) (says : Role) (at : ℕ) (same : new.replay ≡ old.replay) where
  from_old : (ms : List Meaning) (changes : List Change) → HoldsEdits old.replay.fault ms changes old.edits → HoldsEdits new.replay.fault (ms ++ []) changes old.edits
  from_old ms changes has = subst (λ (r : Replay). HoldsEdits r.fault (ms ++ []) changes old.edits) (sym same) (subst (λ (l : List Meaning). HoldsEdits old.replay.fault l changes old.edits) (sym (append-nil ms)) has)

  -- nobody needs it
  pub goes_unheld : new.edits ≡ old.edits → (nat_lt (new.part.from + PATCH_LIMIT) at || is_some new.replay.fault) ≡ true → GoOn old new says at None
  goes_unheld stays none = record {
    mid = old.edits;
    holds = λ ms changes has. held_none new.replay.fault new.part (ms ++ []) changes says at new.edits none (subst (HoldsEdits new.replay.fault (ms ++ []) changes) (sym stays) (from_old ms changes has));
    short = λ ms changes has by. refl;
    grows = subst (GrowsBy (edits_said says) old.edits) (sym stays) (nothing_more (edits_said says) old.edits);
    beyond = λ far. stays;
  }

  -- it is held
  pub goes_held : (nat_lt (new.part.from + PATCH_LIMIT) at || is_some new.replay.fault) ≡ false → ((cs : List Change) (d : Dataset) → HasEdits cs d old.edits → HasEdits (cs ++ change_of says) d new.edits)
      → GrowsBy (edits_said says) old.edits new.edits → GoOn old new says at None
  goes_held some more grows = record {
    mid = old.edits;
    holds = λ ms changes has. held_more new.replay.fault new.part (ms ++ []) changes says at old.edits new.edits some more (from_old ms changes has);
    short = λ ms changes has by. refl;
    grows = grows;
    beyond = λ far. absurd (false≢true (sym (neither (nat_lt (new.part.from + PATCH_LIMIT) at) (is_some new.replay.fault) some) ∙ far));
  }

-- both clauses of a call
pub both_ok : {T E : Type 0} (r : Result T E) (P Q : Type 0) → OnOk r P → OnOk r Q → OnOk r (P × Q)
both_ok (Ok v) P Q p q = (p, q)
both_ok (Err e) P Q p q = tt

-- ---- a patch

-- behind a fault of the chain nothing is held
pub let_go : (fault : Option ChainFault) (ms : List Meaning) (changes : List Change) (e : Edits) → is_some fault ≡ true → e.log ≡ [] → HoldsEdits fault ms changes e
let_go None ms changes e some none = absurd cc
let_go (Some fault) ms changes e some none = none

-- where the chain has no fault it had none
pub was_whole : (old new : Option ChainFault) → (is_some old ≡ true → is_some new ≡ true) → is_some new ≡ false → old ≡ None
was_whole None new stays none = refl
was_whole (Some fault) new stays none = absurd (false≢true (sym none ∙ stays refl))

pub none_met : (fault : Option ChainFault) → is_some fault ≡ false → fault ≡ None
none_met None none = refl
none_met (Some fault) none = absurd cc

pub has_held : (fault : Option ChainFault) (ms : List Meaning) (changes : List Change) (e : Edits) → fault ≡ None → HoldsEdits fault ms changes e → HasEdits changes (replay ms) e
has_held fault ms changes e none has = subst (λ (f : Option ChainFault). HoldsEdits f ms changes e) none has

pub holds_has : (fault : Option ChainFault) (ms : List Meaning) (changes : List Change) (e : Edits) → fault ≡ None → HasEdits changes (replay ms) e → HoldsEdits fault ms changes e
holds_has fault ms changes e none has = subst (λ (f : Option ChainFault). HoldsEdits f ms changes e) (sym none) has

module _ (old new : Option ChainFault) (ms : List Meaning) (changes : List Change) (link : ChainLink) (before after : Edits) (stays : is_some old ≡ true → is_some new ≡ true) (whole : is_some new ≡ false) (has : HoldsEdits old ms changes before) where
  edits_before : HasEdits changes (replay ms) before
  edits_before = has_held old ms changes before (was_whole old new stays whole) has

  -- a patch is complete, and the chain has no fault
  pub patch_held : ((cs : List Change) (d : Dataset) → HasEdits cs d before → HasEdits [] (apply cs d) after) → HoldsEdits new (ms ++ meaning_of link changes ∷ []) [] after
  patch_held done = holds_has new (ms ++ meaning_of link changes ∷ []) [] after (none_met new whole) (edits_left ms changes after link (done changes (replay ms) edits_before))

  -- behind it the log is short
  pub patch_short : IsShort after → IsSettledOrShort before after → GoesByDataset ms before → IsShortBehind (Some link) (ms ++ meaning_of link changes ∷ []) before after
  patch_short short settled by = (short, completed ms (meaning_of link changes) before after edits_before settled by)
