-- A text while it is split into patches.
use Rattle.std.proofs.Common.{◌≡◌, ℕ, ◌≤◌, Bool, true, List, [], ◌∷◌, ◌++◌, length, map, Option, Some, None, refl, sym, ap, subst, ◌∙◌, append-nil, ◌⊎◌, inl, inr, arith}
use Rattle.std.specs.List.{slice_range}
use Rattle.std.proofs.lemmas.List.{map-append}
use Rattle.log_base.specs.declared.chain_link.ChainLink.{ChainLink}
use Rattle.rdf_terms.specs.declared.change.Change.{Change}
use Rattle.patch_rows.specs.declared.row.Row.{Row}
use Rattle.patch_reader.specs.declared.placed.PlacedRow.{PlacedRow}
use Rattle.patch_reader.specs.Rows.{Gap}
use Rattle.patch_meaning.specs.declared.fault.PatchFault.{PatchFault}
use Rattle.patch_meaning.specs.declared.part.Part.{Part as PartRead}
use Rattle.patch_meaning.specs.declared.rows.Next.{Next}
use Rattle.patch_meaning.specs.declared.role.Role.{Role}
use Rattle.patch_meaning.specs.declared.role.Role.TheVariants as roles
use Rattle.patch_meaning.specs.declared.stream.Cutting.{Cutting}
use Rattle.patch_meaning.specs.declared.stream.Linked.{Linked}
use Rattle.rdf_terms.specs.Quad.{Statement}
use Rattle.row_scan.specs.Found.{change_by}
use Rattle.row_scan.specs.declared.row.Says.{Says}
use Rattle.row_scan.specs.declared.row.Says.TheVariants as says
use Rattle.row_scan.specs.declared.row.ScannedRow.{ScannedRow}
use Rattle.patch_meaning.specs.Checked.{CheckedPatch, meanings, checked_texts}
use Rattle.patch_meaning.specs.Cutting.{IsCutInto, IsCutAt, HasTakenNext, AreRefused, EndsWith, IsBrokenBy, IsLastPatch, EndsStream, IsBrokenAtEnd, HasCut, IsFoundToCut, IsNextToCut, checked_of, linked_of, StopsCutting, RefusesStream, changes_behind, meanings_of}
use Rattle.patch_meaning.specs.Next.{IsNextRow}
use Rattle.patch_meaning.specs.PartRead.{HasPart}
use Rattle.patch_meaning.specs.Patch.{Meaning, has_some}
use Rattle.patch_meaning.specs.Roles.{role, said, IsFoundRole, found_role}
use Rattle.patch_meaning.specs.Rows.{AreUpTo}
use Rattle.patch_meaning.specs.Stream.{StreamPart, Cut, AreStream, IsSplit, begins, cut, linked, stop_of, part_texts, cut_texts, next, over}
use Rattle.patch_meaning.proofs.Cuts.{cut_begun, cut_longer, stop_more, none_there, nothing_cut, taken_next}
use Rattle.patch_meaning.proofs.StreamFaults.{refused_fault, no_row_fault, end_fault}
use Rattle.patch_meaning.proofs.Pieces.{last_rows}
use Rattle.patch_meaning.proofs.Read.{next_found, word_found}
use Rattle.patch_meaning.proofs.Rowed.{rows_more, row_within, rows_order, rows_up_to}

-- ---- texts

meanings_more : (ps : List CheckedPatch) (text : List ℕ) (done : Option ChainLink) (changes : List Change) → meanings (ps ++ checked_of text done changes) ≡ meanings ps ++ meanings_of done changes
meanings_more ps text None changes = map-append (λ (p : CheckedPatch). p.meaning) ps []
meanings_more ps text (Some link) changes = map-append (λ (p : CheckedPatch). p.meaning) ps (checked_of text (Some link) changes)

texts_more : (text : List ℕ) (done : List StreamPart) (last : StreamPart) (stop : ℕ) → part_texts text (done ++ last ∷ []) stop ≡ part_texts text done last.from ++ slice_range text last.from stop ∷ []
texts_more text [] last stop = refl
texts_more text (part ∷ done) last stop =
    ap (λ (n : ℕ). slice_range text part.from n ∷ part_texts text (done ++ last ∷ []) stop) (stop_more done last stop)
    ∙ ap (λ (l : List (List ℕ)). slice_range text part.from (stop_of done last.from) ∷ l) (texts_more text done last stop)

links_more : (ps : List CheckedPatch) (text : List ℕ) (done : Option ChainLink) (changes : List Change) → map linked (ps ++ checked_of text done changes) ≡ map linked ps ++ linked_of text done
links_more ps text None changes = map-append linked ps []
links_more ps text (Some link) changes = map-append linked ps (checked_of text (Some link) changes)

-- one more patch with its text
texts_with : (text : List ℕ) (c : Cut) (p : PartRead) (ps : List CheckedPatch) (link : ChainLink) (changes : List Change) (stop : ℕ) → c.last.from ≡ p.from → checked_texts ps ≡ part_texts text c.done c.last.from
    → checked_texts (ps ++ checked_of (slice_range text p.from stop) (Some link) changes) ≡ part_texts text (c.done ++ c.last ∷ []) stop
texts_with text c p ps link changes stop from are =
    map-append (λ (q : CheckedPatch). q.text) ps (checked_of (slice_range text p.from stop) (Some link) changes)
    ∙ ap (λ (l : List (List ℕ)). l ++ slice_range text p.from stop ∷ []) are
    ∙ ap (λ (n : ℕ). part_texts text c.done c.last.from ++ slice_range text n stop ∷ []) (sym from) ∙ sym (texts_more text c.done c.last stop)

abbrev texts_so_far : List ℕ → Cut → List (List ℕ)
texts_so_far text c = part_texts text c.done c.last.from

texts_next : (text : List ℕ) (rs : List PlacedRow) (r : PlacedRow) (p : PartRead) (ps : List CheckedPatch) (done : Option ChainLink) (changes : List Change) → HasPart (cut rs).last.rows_ p → (cut rs).last.from ≡ p.from
    → IsCutAt p (role r.row) r.at done → checked_texts ps ≡ texts_so_far text (cut rs) → checked_texts (ps ++ checked_of (slice_range text p.from r.at) done changes) ≡ texts_so_far text (cut (rs ++ r ∷ []))
texts_next text rs r p ps None changes h from same are = ap checked_texts (append-nil ps) ∙ are ∙ sym (ap (texts_so_far text) (cut_longer rs r (same (cut rs).last.rows_ h)))
texts_next text rs r p ps (Some link) changes h from is are =
    texts_with text (cut rs) p ps link changes r.at from are ∙ sym (ap (texts_so_far text) (cut_begun rs r (is.0 (cut rs).last.rows_ h)))

no_rows_left : (text : List ℕ) (rs : List PlacedRow) (ps : List CheckedPatch) → rs ≡ [] → checked_texts ps ≡ texts_so_far text (cut rs) → checked_texts ps ≡ cut_texts text rs
no_rows_left text [] ps none are = are
no_rows_left text (r ∷ rs) ps none are = absurd cc

last_text : (text : List ℕ) (rs : List PlacedRow) (texts_are : List (List ℕ)) → has_some (cut rs).last.rows_ ≡ true → texts_are ≡ part_texts text ((cut rs).done ++ (cut rs).last ∷ []) (length text) → texts_are ≡ cut_texts text rs
last_text text [] texts_are some are = absurd cc
last_text text (r ∷ rs) texts_are some are = are

texts_last : (text : List ℕ) (rs : List PlacedRow) (p : PartRead) (ps : List CheckedPatch) (done : Option ChainLink) (changes : List Change) → IsCutInto rs (meanings ps) changes p → IsLastPatch p (length text) done
    → checked_texts ps ≡ texts_so_far text (cut rs) → checked_texts (ps ++ checked_of (slice_range text p.from (length text)) done changes) ≡ cut_texts text rs
texts_last text rs p ps None changes h none are = ap checked_texts (append-nil ps) ∙ no_rows_left text rs ps (h.some (none_there (cut rs).last.rows_ (none (cut rs).last.rows_ h.part))) are
texts_last text rs p ps (Some link) changes h is are =
    last_text text rs _ (is.0 (cut rs).last.rows_ h.part) (texts_with text (cut rs) p ps link changes (length text) h.from_is are)

-- ---- where a patch begins

pub part_before : (text : List ℕ) (at : ℕ) (k : Cutting) → HasCut text at k → k.part.from ≤ at
part_before text at k h = omega (arith, h.parts.from_is, rows_order text (cut h.rs).last.from at (cut h.rs).last.rows_ (last_rows text h.rs at h.reads))

all_before : (text : List ℕ) (at stop : ℕ) (k : Cutting) → (h : HasCut text at k) → at ≤ stop → AreUpTo h.rs stop
all_before text at stop k h le = rows_up_to text 0 at stop h.rs h.reads le

-- ---- a whole text

abbrev placed : Next → Row → PlacedRow
placed row r = record { row = r; at = row.at; end = row.end }

pub begun_text : (text : List ℕ) (k : Cutting) → HasPart [] k.part → k.part.from ≡ 0 → k.patches.items ≡ [] → HasCut text 0 k
begun_text text k part from none = record {
  rs = [];
  patches = [];
  changes = [];
  reads = refl;
  within = omega arith;
  parts = nothing_cut k.part part from;
  texts_are = refl;
  links_are = none;
}

pub taken_behind : (text : List ℕ) (at : ℕ) (old new : Cutting) (row : Next) (done : Option ChainLink) → IsNextRow text at row → HasCut text at old → IsCutAt old.part row.role row.at done
    → HasTakenNext old.part row.role row.at done new.part → new.patches.items ≡ old.patches.items ++ linked_of (slice_range text old.part.from row.at) done → HasCut text row.end new
taken_behind text at old new row done is h cuts taken links =
    let low = is.1.1 in
    let piece : List ℕ = slice_range text old.part.from row.at in
    let changes : List Change = changes_behind done h.changes row.role in
    record {
      rs = h.rs ++ placed row is.0 ∷ [];
      patches = h.patches ++ checked_of piece done h.changes;
      changes = changes;
      reads = rows_more text 0 at h.rs (placed row is.0) h.reads is.1 is.2;
      within = (row_within text row.at is.0 row.end is.2).1;
      parts = subst (λ (ms : List Meaning). IsCutInto (h.rs ++ placed row is.0 ∷ []) ms changes new.part) (sym (meanings_more h.patches piece done h.changes))
          (taken h.rs (meanings h.patches) h.changes (placed row is.0) h.parts (all_before text at row.at old h low) (sym is.3) refl);
      texts_are = texts_next text h.rs (placed row is.0) old.part h.patches done h.changes h.parts.part h.parts.from_is (subst (λ (says : _). IsCutAt old.part says row.at done) is.3 cuts) h.texts_are;
      links_are = links ∙ ap (λ (ls : List Linked). ls ++ linked_of piece done) h.links_are ∙ sym (links_more h.patches piece done h.changes);
    }

-- ---- rows that a scan found

pub found_next : (text : List ℕ) (at : ℕ) (found : ScannedRow) (k : Cutting) (x : Role) → IsFoundToCut text at found k → found_role found.says ≡ Some x → IsNextToCut text (record { role = x; at = at; end = found.end }) k
found_next text at found k x is same = (is.0, is.1, word_found text is.0 at found x is.2 is.3 same)

quad_found : (s : Says) (r : Role) → IsFoundRole s r → found_role s ≡ None → (adds : Bool) × (quad : Statement) × (r ≡ roles.Change (change_by adds quad))
quad_found (says.Quad adds line) r is none = (adds, is.0, is.1)
quad_found says.Begin r is none = absurd cc
quad_found says.Commit r is none = absurd cc
quad_found says.Abort r is none = absurd cc
quad_found (says.Id id) r is none = absurd cc
quad_found (says.Prev id) r is none = absurd cc

-- the patch goes on with a quad
pub quad_behind : (text : List ℕ) (at : ℕ) (found : ScannedRow) (old new : Cutting) → IsFoundToCut text at found old → found_role found.says ≡ None
    → ((rs : List PlacedRow) (r : PlacedRow) (adds : Bool) (quad : Statement) → HasPart rs old.part → role r.row ≡ roles.Change (change_by adds quad) → HasPart (rs ++ r ∷ []) new.part) → new.part.from ≡ old.part.from
    → new.patches.items ≡ old.patches.items → HasCut text found.end new
quad_behind text at found old new is none step from same =
    let row = next_found text is.0 at found is.2 is.3 in
    let quad = quad_found found.says row.0 row.1 none in
    let says : Role = roles.Change (change_by quad.0 quad.1) in
    taken_behind text is.0 old new (record { role = says; at = at; end = found.end }) None (subst (λ (r : Role). IsNextRow text is.0 (record { role = r; at = at; end = found.end })) quad.2 row.2) is.1 (λ rs h. refl)
    (taken_next old.part old.part new.part says at None (λ rs h. refl) refl (λ rs r h e. step rs r quad.0 quad.1 h e) from) (same ∙ sym (append-nil old.patches.items))

-- ---- faults

pub broken_row : (text : List ℕ) (at : ℕ) (k : Cutting) (row : Next) (fault : PatchFault) → IsNextRow text at row → HasCut text at k → IsBrokenBy k.part row.role row.at fault → RefusesStream text fault
broken_row text at k row fault is h why = by (why h.rs (meanings h.patches) h.changes (placed row is.0) h.parts (sym is.3) refl)
  where
    by : ((begins (said (cut h.rs).last.rows_) row.role ≡ true) × EndsWith h.rs row.at fault) ⊎ AreRefused (h.rs ++ placed row is.0 ∷ []) fault → RefusesStream text fault
    by (inl ends) =
        inr (end_fault text h.rs row.at (meanings h.patches) fault (at, h.reads, is.1) h.parts.before (next is.0 row.end is.2 (ap (begins (said (cut h.rs).last.rows_)) (sym is.3) ∙ ends.0)) ends.1)
    by (inr bad) =
        inr (refused_fault text (h.rs ++ placed row is.0 ∷ []) row.end fault (rows_more text 0 at h.rs (placed row is.0) h.reads is.1 is.2) (row_within text row.at is.0 row.end is.2).1 bad)

pub stopped_there : (text : List ℕ) (at : ℕ) (k : Cutting) (fault : PatchFault) → HasCut text at k → StopsCutting text at k.part fault → RefusesStream text fault
stopped_there text at k fault h (inl memory) = inl memory
stopped_there text at k fault h (inr s) =
    inr (no_row_fault text h.rs s.0 (meanings h.patches) s.1 s.2 fault (at, h.reads, s.3) h.parts.before s.4 (s.5 h.rs (meanings h.patches) h.changes h.parts))

pub unfinished : (text : List ℕ) (at : ℕ) (k : Cutting) (fault : PatchFault) → HasCut text at k → Gap text at (length text) → IsBrokenAtEnd k.part (length text) fault → RefusesStream text fault
unfinished text at k fault h gap why =
    let ends = why h.rs (meanings h.patches) h.changes h.parts in
    inr (end_fault text h.rs (length text) (meanings h.patches) fault (at, h.reads, gap) h.parts.before (over refl ends.0) ends.1)

-- ---- the end

pub finished : (text : List ℕ) (at : ℕ) (k : Cutting) (done : Option ChainLink) (links : List Linked) → HasCut text at k → Gap text at (length text) → EndsStream k.part (length text) done
    → IsLastPatch k.part (length text) done → links ≡ k.patches.items ++ linked_of (slice_range text k.part.from (length text)) done → (ps : List CheckedPatch) × IsSplit text ps × (links ≡ map linked ps)
finished text at k done links h gap ends last same =
    let piece : List ℕ = slice_range text k.part.from (length text) in (
      h.patches ++ checked_of piece done h.changes,
      record {
        rows_ = h.rs;
        reads = (at, h.reads, gap);
        stream = subst (AreStream h.rs (length text)) (sym (meanings_more h.patches piece done h.changes)) (ends h.rs (meanings h.patches) h.changes h.parts (all_before text at (length text) k h gap.1));
        texts_are = texts_last text h.rs k.part h.patches done h.changes h.parts last h.texts_are;
      },
      same ∙ ap (λ (ls : List Linked). ls ++ linked_of piece done) h.links_are ∙ sym (links_more h.patches piece done h.changes),
    )
