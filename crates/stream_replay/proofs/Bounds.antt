-- How much the edits have, whatever the stream.
use Rattle.std.proofs.Common.{◌≡◌, ℕ, ◌+◌, ◌-◌, ◌*◌, ◌<◌, ◌≤◌, Bool, true, false, cond, List, [], ◌∷◌, ◌++◌, length, take, drop, map, Option, Some, None, refl, sym, ap, subst, ◌∙◌, inl, inr, append-nil, length-append, length-drop, arith}
use Rattle.std.specs.Prelude.{nat_lt}
use Rattle.std.proofs.Math.Seq.{take-length}
use Rattle.std.proofs.lemmas.Bool.Decides.{nat_tests}
use Rattle.std.proofs.lemmas.List.{length-map, length-take, take-append-le}
use Rattle.std.proofs.lemmas.List.Concat.{flat_map-cons}
use Rattle.std.proofs.lemmas.List.Sums.{sum_by-append, sum_by-cons, sum_by-take-le}
use Rattle.log_base.specs.declared.limits.TheConstants.{PATCH_LIMIT}
use Rattle.log_base.specs.declared.chain_link.ChainLink.{ChainLink}
use Rattle.line_log.specs.Edits.{bytes_of}
use Rattle.line_log.specs.Sorting.{additions}
use Rattle.delta_base.specs.declared.id.Id.{Id}
use Rattle.rdf_terms.specs.declared.change.Change.{Change}
use Rattle.rdf_terms.specs.declared.change.Change.TheVariants as change
use Rattle.rdf_terms.specs.Dataset.{Dataset, apply, empty}
use Rattle.rdf_terms.specs.Line.{line, lines}
use Rattle.rdf_terms.specs.Quad.{Statement}
use Rattle.patch_rows.specs.declared.row.Row.{Row}
use Rattle.patch_rows.specs.declared.row.Row.TheVariants as row
use Rattle.patch_rows.specs.Grammar.{IsRowAt, RowAt, row_limit}
use Rattle.patch_meaning.specs.declared.part.Part.{Part}
use Rattle.patch_meaning.specs.declared.role.Role.{Role}
use Rattle.patch_meaning.specs.declared.role.Role.TheVariants as roles
use Rattle.patch_meaning.specs.Cutting.{meanings_of}
use Rattle.patch_meaning.specs.PartRead.{meaning_of}
use Rattle.patch_meaning.specs.Patch.{Meaning}
use Rattle.patch_meaning.specs.Replay.{replay}
use Rattle.patch_meaning.specs.Roles.{header_role, role}
use Rattle.stream_replay.specs.declared.edits.Edits.{Edits}
use Rattle.stream_replay.specs.declared.progress.StreamProgress.{StreamProgress}
use Rattle.stream_replay.specs.Replaying.{IsReplay}
use Rattle.stream_replay.specs.Edits.{GrowsBy, HasEdits, IsEnoughFor, IsSettled, IsSettledOrShort, IsShort, MakesLines, edits_by}
use Rattle.stream_replay.specs.Streaming.{GoesByDataset, HasBoundedLog, IsBounded, IsShortBehind, edits_said}
use Rattle.stream_replay.proofs.Edited.{all_made}
use Rattle.stream_replay.proofs.RowBytes.{FitsRow, added, deleted}
use Rattle.stream_replay.proofs.Taken.{replay-push}

-- ---- edits

pub nothing_more : (more : List (Bool × List ℕ)) (e : Edits) → GrowsBy more e e
nothing_more more e = record { bytes = omega arith; edits = omega arith; enough_bytes_is = refl; enough_edits_is = refl }

pub grown : (more : List (Bool × List ℕ)) (old new : Edits) → new.log ≡ old.log ++ more → new.enough_bytes ≡ old.enough_bytes → new.enough_edits ≡ old.enough_edits → GrowsBy more old new
grown more old new is bytes edits = record {
  bytes = omega (arith, ap bytes_of is, sum_by-append (λ (e : Bool × List ℕ). length e.1) old.log more);
  edits = omega (arith, ap length is, length-append old.log more);
  enough_bytes_is = bytes;
  enough_edits_is = edits;
}

pub fewer : (count : ℕ) (old new : Edits) → new.log ≡ take count old.log → new.enough_bytes ≡ old.enough_bytes → new.enough_edits ≡ old.enough_edits → GrowsBy [] old new
fewer count old new is bytes edits = record {
  bytes = omega (arith, ap bytes_of is, sum_by-take-le (λ (e : Bool × List ℕ). length e.1) old.log count);
  edits = omega (arith, ap length is, length-take count old.log);
  enough_bytes_is = bytes;
  enough_edits_is = edits;
}

-- ---- edits that were settled

bytes_added : (quads : List Statement) → bytes_of (additions (map line quads)) ≡ length (lines quads)
bytes_added [] = refl
bytes_added (q ∷ quads) =
    omega (arith, sum_by-cons (λ (e : Bool × List ℕ). length e.1) (true, line q) (additions (map line quads)), ap length (flat_map-cons line q quads), length-append (line q) (lines quads), bytes_added quads)

enough_kept : (d : Dataset) (old new : Edits) → new.enough_bytes ≡ old.enough_bytes → new.enough_edits ≡ old.enough_edits → IsEnoughFor d old → IsEnoughFor d new
enough_kept d old new bytes edits h = let a = h.bytes in let b = h.edits in record { bytes = omega (arith, a, bytes); edits = omega (arith, b, edits) }

enough_settled : (d : Dataset) (old new : Edits) → MakesLines old.log d → IsSettled old new → IsEnoughFor d new
enough_settled d old new makes (log, bytes, edits) =
    let lines_are : new.log ≡ additions (map line d.quads) = log ∙ ap additions makes in
    let adds : List ℕ → Bool × List ℕ = λ l. (true, l) in
    record {
      bytes = omega (arith, bytes, ap bytes_of lines_are, bytes_added d.quads);
      edits = omega (arith, edits, ap length lines_are, length-map (map line d.quads) adds, length-map d.quads line);
    }

some_front : (ms : List Meaning) (m : Meaning) (e : Edits) → GoesByDataset ms e → GoesByDataset (ms ++ m ∷ []) e
some_front ms m e (n, within, enough) = (
  n,
  omega (arith, within, length-append ms (m ∷ [])),
  subst (λ (l : List Meaning). IsEnoughFor (replay l) e) (sym (take-append-le n ms (m ∷ []) within)) enough,
)

all_of_them : (ms : List Meaning) (e : Edits) → IsEnoughFor (replay ms) e → GoesByDataset ms e
all_of_them ms e enough = (length ms, omega arith, subst (λ (l : List Meaning). IsEnoughFor (replay l) e) (sym (take-length ms)) enough)

pub none_of_them : (ms : List Meaning) (e : Edits) → IsEnoughFor empty e → GoesByDataset ms e
none_of_them ms e enough = (0, omega arith, enough)

-- one patch more was completed
pub completed : (ms : List Meaning) (m : Meaning) (old new : Edits) → HasEdits m.changes (replay ms) old → IsSettledOrShort old new → GoesByDataset ms old → GoesByDataset (ms ++ m ∷ []) new
completed ms m old new has (inl (log, bytes, edits)) (n, within, enough) = some_front ms m new (n, within, enough_kept (replay (take n ms)) old new bytes edits enough)
completed ms m old new has (inr settled) by =
    all_of_them (ms ++ m ∷ []) new
    (subst (λ (d : Dataset). IsEnoughFor d new) (sym (replay-push ms m empty)) (enough_settled (apply m.changes (replay ms)) old new (all_made old.before_block m.changes (replay ms) old.log has) settled))

-- ---- a row, and the edits that it is

-- a row behind others, and what it adds
pub record IsSmall (passed at stop : ℕ) (more : List (Bool × List ℕ)) : Type 0 where
  pub low : passed ≤ at
  pub further : at < stop
  pub short : stop ≤ at + row_limit
  pub bytes : 2 * bytes_of more ≤ 3 * (stop - at)
  pub edits : 8 * length more ≤ stop - at

no_change : (a b : Bool) (x y : Option Id) (c : Change) → cond a (roles.Id x) (cond b (roles.Prev y) roles.Other) ≡ roles.Change c → ⊥
no_change true b x y c is = cc
no_change false true x y c is = cc
no_change false false x y c is = cc

row_says : (r : Row) (c : Change) → role r ≡ roles.Change c → r ≡ row.Change c
unfolding header_role
row_says (row.Header key value) c is = absurd (no_change _ _ _ _ c is)
row_says (row.Change d) c is = let same : d ≡ c = cc in ap row.Change same

-- a row with these edits
abbrev HasFew : List ℕ → List (Bool × List ℕ) → List ℕ → Type 0
HasFew text more after = (2 * bytes_of more + 3 * length after ≤ 3 * length text) × (8 * length more + length after ≤ length text)

few_of : (text after : List ℕ) (c : Change) → length after ≤ length text → RowAt text (row.Change c) after → HasFew text (edits_by c) after
few_of text after (change.Add q) le there = let fits : FitsRow text q after = added text q after there in (omega arith, omega arith)
few_of text after (change.Delete q) le there = let fits : FitsRow text q after = deleted text q after there in (omega arith, omega arith)
few_of text after _ le there = (omega arith, omega arith)

few_said : (text after : List ℕ) (r : Row) (says : Role) → length after ≤ length text → role r ≡ says → RowAt text r after → HasFew text (edits_said says) after
few_said text after r (roles.Change c) le is there = few_of text after c le (subst (λ (x : Row). RowAt text x after) (row_says r c is) there)
few_said text after r _ le is there = (omega arith, omega arith)

pub row_small : (text : List ℕ) (passed at stop : ℕ) (r : Row) (says : Role) → passed ≤ at → IsRowAt text at r stop → role r ≡ says → IsSmall passed at stop (edits_said says)
unfolding IsRowAt
row_small text passed at stop r says low (short, further, within) is =
    let a = length-drop at text in let b = length-drop stop text in
    let few = few_said (drop at text) (drop stop text) r says (omega arith) is short.0 in
    record { low = low; further = further; short = omega (arith, short.1); bytes = omega (arith, few.0); edits = omega (arith, few.1) }

-- ---- the open patch

goes_by : (ms : List Meaning) (more : List (Bool × List ℕ)) (old new : Edits) → GrowsBy more old new → GoesByDataset ms old → GoesByDataset ms new
goes_by ms more old new grows (n, within, enough) = (n, within, enough_kept (replay (take n ms)) old new grows.enough_bytes_is grows.enough_edits_is enough)

-- the patch goes on with a row that is held
held_on : (ms : List Meaning) (old new : Part) (passed at stop : ℕ) (more : List (Bool × List ℕ)) (e f : Edits) → IsBounded ms old passed e → IsSmall passed at stop more → new.from ≡ old.from → at ≤ new.from + PATCH_LIMIT → GrowsBy more e f
    → IsBounded ms new stop f
held_on ms old new passed at stop more e f h small same near grows = record {
  enough = goes_by ms more e f grows h.enough;
  begun = omega (arith, h.begun, small.low, small.further, same);
  bytes = let a = h.bytes in let b = h.begun in let c = grows.bytes in let d = small.bytes in omega (arith, a, b, c, d, small.low, small.further, small.short, same, near, grows.enough_bytes_is);
  edits = let a = h.edits in let b = h.begun in let c = grows.edits in let d = small.edits in omega (arith, a, b, c, d, small.low, small.further, small.short, same, near, grows.enough_edits_is);
}

-- the patch goes on with a row that isn't held
passed_on : (ms : List Meaning) (old new : Part) (passed at stop : ℕ) (more : List (Bool × List ℕ)) (e f : Edits) → IsBounded ms old passed e → IsSmall passed at stop more → new.from ≡ old.from → f ≡ e → IsBounded ms new stop f
passed_on ms old new passed at stop more e f h small same is = subst (IsBounded ms new stop) (sym is) (record {
  enough = h.enough;
  begun = omega (arith, h.begun, small.low, small.further, same);
  bytes = let a = h.bytes in omega (arith, a, small.low, small.further, same);
  edits = let a = h.edits in omega (arith, a, small.low, small.further, same);
})

-- the patch goes on
bounded_on : (ms : List Meaning) (old new : Part) (passed at stop : ℕ) (more : List (Bool × List ℕ)) (e f : Edits) → IsBounded ms old passed e → IsSmall passed at stop more → new.from ≡ old.from → GrowsBy more e f
    → (nat_lt (new.from + PATCH_LIMIT) at ≡ true → f ≡ e) → IsBounded ms new stop f
bounded_on ms old new passed at stop more e f h small same grows beyond = by (nat_lt (new.from + PATCH_LIMIT) at) refl
  where
    by : (b : Bool) → nat_lt (new.from + PATCH_LIMIT) at ≡ b → IsBounded ms new stop f
    by true far = passed_on ms old new passed at stop more e f h small same (beyond far)
    by false near = held_on ms old new passed at stop more e f h small same (grind (arith, nat_tests)) grows

-- the next patch begins
bounded_first : (ms : List Meaning) (new : Part) (passed at stop : ℕ) (more : List (Bool × List ℕ)) (e f : Edits) → IsShort e → GoesByDataset ms e → IsSmall passed at stop more → new.from ≡ at → GrowsBy more e f → IsBounded ms new stop f
bounded_first ms new passed at stop more e f is by small starts grows = record {
  enough = goes_by ms more e f grows by;
  begun = omega (arith, small.further, starts);
  bytes = let a = is.bytes in let c = grows.bytes in let d = small.bytes in omega (arith, a, c, d, small.further, small.short, starts, grows.enough_bytes_is);
  edits = let a = is.edits in let c = grows.edits in let d = small.edits in omega (arith, a, c, d, small.further, small.short, starts, grows.enough_edits_is);
}

-- where the patch begins that may go on
abbrev pub BeginsAt : Option ChainLink → Part → ℕ → Part → Type 0
BeginsAt None old at new = new.from ≡ old.from
BeginsAt (Some link) old at new = new.from ≡ at

-- one row more
pub bounded_next : (ms : List Meaning) (changes : List Change) (done : Option ChainLink) (old new : Part) (passed at stop : ℕ) (more : List (Bool × List ℕ)) (before mid after : Edits) → IsBounded ms old passed before
    → IsShortBehind done (ms ++ meanings_of done changes) before mid → IsSmall passed at stop more → BeginsAt done old at new → GrowsBy more mid after → (nat_lt (new.from + PATCH_LIMIT) at ≡ true → after ≡ mid)
    → IsBounded (ms ++ meanings_of done changes) new stop after
bounded_next ms changes None old new passed at stop more before mid after h same small from grows beyond =
    subst (λ (l : List Meaning). IsBounded l new stop after) (sym (append-nil ms)) (bounded_on ms old new passed at stop more mid after (subst (IsBounded ms old passed) (sym same) h) small from grows beyond)
bounded_next ms changes (Some link) old new passed at stop more before mid after h short small from grows beyond =
    bounded_first (ms ++ meaning_of link changes ∷ []) new passed at stop more mid after short.0 short.1 small from grows

-- no row yet
pub bounded_none : (ms : List Meaning) (p : Part) (e : Edits) → p.from ≡ 0 → e.log ≡ [] → IsEnoughFor empty e → IsBounded ms p 0 e
bounded_none ms p e starts none enough = record {
  enough = none_of_them ms e enough;
  begun = omega (arith, starts);
  bytes = omega (arith, ap bytes_of none);
  edits = omega (arith, ap length none);
}

-- ---- all in all

-- so much the log has at most, whatever the stream
pub all_in_all : (ms : List Meaning) (p : StreamProgress) (at : ℕ) → IsReplay ms p.replay → IsBounded ms p.part at p.edits → HasBoundedLog ms p
all_in_all ms p at taken h =
    let enough = h.enough in let a = enough.2.bytes in let b = enough.2.edits in
    record {
      taken = taken;
      settled = enough.0;
      within = enough.1;
      bytes = let c = h.bytes in omega (arith, a, c);
      edits = let c = h.edits in omega (arith, b, c);
    }
