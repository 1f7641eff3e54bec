-- A text while its rows are taken, and what it is at its end.
use Rattle.std.proofs.Common.{◌≡◌, ℕ, ◌<◌, ◌≤◌, List, [], ◌∷◌, ◌++◌, length, codes, Some, Err, refl, sym, ap, subst, ◌∙◌, inl, inr, arith}
use Rattle.std.proofs.lemmas.List.{map-append}
use Rattle.patch_rows.specs.declared.row.Row.TheVariants as rows
use Rattle.patch_rows.specs.declared.fault.RowFault.{RowFault}
use Rattle.patch_rows.specs.declared.fault.RowFault.TheVariants as row
use Rattle.patch_meaning.specs.declared.draft.Draft.{Draft}
use Rattle.log_base.specs.declared.chain_link.ChainLink.{ChainLink}
use Rattle.delta_base.specs.declared.id.Id.{Id}
use Rattle.delta_base.specs.Ids.{number_of}
use Rattle.rdf_terms.specs.declared.change.Change.{Change}
use Rattle.rdf_terms.specs.declared.change.Change.TheVariants as change
use Rattle.patch_rows.specs.declared.row.Row.{Row}
use Rattle.patch_rows.specs.Grammar.{IsRowAt}
use Rattle.patch_meaning.specs.declared.fault.PatchFault.{PatchFault}
use Rattle.patch_meaning.specs.declared.role.Role.{Role}
use Rattle.patch_meaning.specs.declared.role.Role.TheVariants as roles
use Rattle.patch_meaning.specs.declared.rows.Next.{Next}
use Rattle.patch_meaning.specs.Checked.{HasTakenRows, HasDrafted, Refuses, IsStopped}
use Rattle.patch_meaning.specs.Draft.{DraftStands}
use Rattle.patch_meaning.specs.Next.{IsNextRow, IsNextRead}
use Rattle.patch_meaning.specs.PartRead.{LacksEnd, meaning_of}
use Rattle.log_base.specs.declared.limits.TheConstants.{PATCH_LIMIT}
use Rattle.patch_meaning.specs.Patch.{IsPatch, IsWell, AreTaken, IsPatchFault, rows_, no_row, refused, open_block, no_id, refusal, row_refused}
use Rattle.patch_meaning.specs.Roles.{value_id, header_role, role, IsFoundRole, found_role, said, changes_of}
use Rattle.patch_meaning.specs.Rows.{RowsTo}
use Rattle.patch_reader.specs.declared.placed.PlacedRow.{PlacedRow}
use Rattle.patch_reader.specs.Rows.{Gap}
use Rattle.row_scan.specs.declared.row.Says.{Says}
use Rattle.row_scan.specs.declared.row.Says.TheVariants as says
use Rattle.row_scan.specs.declared.row.ScannedRow.{ScannedRow}
use Rattle.rdf_terms.specs.Quad.{Statement}
use Rattle.row_scan.specs.declared.QuadRow.{QuadRow}
use Rattle.row_scan.specs.Found.{change_by, IsQuadRow}
use Rattle.row_scan.specs.Rows.{id_row, IsSaid, HasRow}
use Rattle.row_scan.proofs.Rows.{row_there, stands_alone}
use Rattle.patch_meaning.proofs.Rowed.{rows_more, row_within}

pub started : (text : List ℕ) (Known : List Role → Type 0) → Known [] → HasTakenRows text 0 Known
started text Known s = record { rs = []; reads = refl; within = omega arith; known = s }

pub taken : (text : List ℕ) (at : ℕ) (Old New : List Role → Type 0) (next : Next) → HasTakenRows text at Old → IsNextRow text at next → ((rs : List Role) → Old rs → New (rs ++ next.role ∷ [])) → HasTakenRows text next.end New
taken text at Old New next h is step =
    let placed : PlacedRow = record { row = is.0; at = next.at; end = next.end } in
    record {
      rs = h.rs ++ placed ∷ [];
      reads = rows_more text 0 at h.rs placed h.reads is.1 is.2;
      within = (row_within text next.at is.0 next.end is.2).1;
      known = subst New
          (ap (λ (r : Role). said h.rs ++ r ∷ []) is.3 ∙ sym (map-append (λ (r : PlacedRow). role r.row) h.rs (placed ∷ [])))
          (step (said h.rs) h.known);
    }

-- ---- rows that a scan found

id_role : (digits : List ℕ) (id : Id) → number_of digits ≡ Some id.0 → role (id_row (codes "id") digits) ≡ roles.Id (Some id)
unfolding header_role value_id
id_role digits id named = rw named refl

prev_role : (digits : List ℕ) (id : Id) → number_of digits ≡ Some id.0 → role (id_row (codes "prev") digits) ≡ roles.Prev (Some id)
unfolding header_role value_id
prev_role digits id named = rw named refl

-- the row itself
row_found : (text : List ℕ) (at end : ℕ) (s : Says) → IsSaid text at end s → (r : Role) × IsFoundRole s r × (x : Row) × IsRowAt text at x end × (r ≡ role x)
row_found text at end (says.Quad adds line) is =
    let change : Change = change_by adds is.0 in
    (roles.Change change, (is.0, refl), rows.Change change, row_there text at (record { adds = adds; line = line; end = end }) is.0 is.1, refl)
row_found text at end says.Begin is = (roles.Change change.Begin, refl, rows.Change change.Begin, stands_alone text at end (rows.Change change.Begin) is.row, refl)
row_found text at end says.Commit is = (roles.Change change.Commit, refl, rows.Change change.Commit, stands_alone text at end (rows.Change change.Commit) is.row, refl)
row_found text at end says.Abort is = (roles.Change change.Abort, refl, rows.Change change.Abort, stands_alone text at end (rows.Change change.Abort) is.row, refl)
row_found text at end (says.Id id) is = (roles.Id (Some id), refl, id_row (codes "id") is.0, stands_alone text at end (id_row (codes "id") is.0) is.2.row, sym (id_role is.0 id is.1))
row_found text at end (says.Prev id) is = (roles.Prev (Some id), refl, id_row (codes "prev") is.0, stands_alone text at end (id_row (codes "prev") is.0) is.2.row, sym (prev_role is.0 id is.1))

pub next_found : (text : List ℕ) (from at : ℕ) (row : ScannedRow) → Gap text from at → HasRow text at row → (r : Role) × IsFoundRole row.says r × IsNextRow text from (record { role = r; at = at; end = row.end })
next_found text from at row gap is =
    let r = row_found text at row.end row.says is in
    (r.0, r.1, (r.2, gap, r.3, r.4))

found_is : (s : Says) (r x : Role) → IsFoundRole s r → found_role s ≡ Some x → r ≡ x
found_is (says.Quad adds line) r x is same = absurd cc
found_is says.Begin r x is same = is ∙ cc
found_is says.Commit r x is same = is ∙ cc
found_is says.Abort r x is same = is ∙ cc
found_is (says.Id id) r x is same = is ∙ cc
found_is (says.Prev id) r x is same = is ∙ cc

pub word_found : (text : List ℕ) (from at : ℕ) (row : ScannedRow) (x : Role) → Gap text from at → HasRow text at row → found_role row.says ≡ Some x → IsNextRow text from (record { role = x; at = at; end = row.end })
word_found text from at row x gap is same =
    let next = next_found text from at row gap is in
    subst (λ (r : Role). IsNextRow text from (record { role = r; at = at; end = row.end })) (found_is row.says next.0 x next.1 same) next.2

pub quad_made : (text : List ℕ) (from at : ℕ) (row : QuadRow) (quad : Statement) → Gap text from at → IsQuadRow text at row quad
    → IsNextRow text from (record { role = roles.Change (change_by row.adds quad); at = at; end = row.end })
quad_made text from at row quad gap is = (rows.Change (change_by row.adds quad), gap, row_there text at row quad is, refl)

-- what is left gets less
pub further : (text : List ℕ) (at : ℕ) (next : Next) → IsNextRow text at next → (at < next.end) × (next.end ≤ length text)
further text at next is =
    let row = row_within text next.at is.0 next.end is.2 in
    let low = is.1.1 in
    (omega (arith, row.0, low), row.1)

pub ended : (text : List ℕ) (at : ℕ) (Known : List Role → Type 0) → HasTakenRows text at Known → Gap text at (length text) → (rs : List PlacedRow) × RowsTo text 0 rs (length text) × Known (said rs)
ended text at Known h gap = (h.rs, (at, h.reads, gap), h.known)

pub stopped : (text : List ℕ) (at : ℕ) (Known : List Role → Type 0) (next : Next) (fault : PatchFault) → length text ≤ PATCH_LIMIT → ((rs : List Role) → Known rs → AreTaken rs) → HasTakenRows text at Known
    → IsNextRow text at next → ((rs : List Role) → Known rs → IsStopped rs next fault) → Refuses text fault
stopped text at Known next fault short all h is stop = by (stop (said h.rs) h.known)
  where
    by : IsStopped (said h.rs) next fault → Refuses text fault
    by (inl memory) = inl memory
    by (inr s) =
        inr (rows_ h.rs next.at short (at, h.reads, is.1) (all (said h.rs) h.known)
        (refused is.0 next.end s.0 is.2 (ap (refusal (said h.rs)) (sym is.3) ∙ s.1) s.2))

pub broken : (text : List ℕ) (at : ℕ) (Known : List Role → Type 0) (fault : RowFault) → length text ≤ PATCH_LIMIT → ((rs : List Role) → Known rs → AreTaken rs) → HasTakenRows text at Known → IsNextRead text at (Err fault)
    → Refuses text (row_refused fault)
broken text at Known (row.At place kind) short all h is = inr (rows_ h.rs is.0 short (at, h.reads, is.1) (all (said h.rs) h.known) (no_row place kind is.2 refl))
broken text at Known row.OutOfMemory short all h is = inl refl

-- ---- the end

-- all rows were taken, and yet it is no patch
pub lacks_text : (text : List ℕ) (rs : List PlacedRow) (to : ℕ) (fault : PatchFault) → length text ≤ PATCH_LIMIT → RowsTo text 0 rs to → to ≡ length text → LacksEnd (said rs) to fault → IsPatchFault text fault
lacks_text text rs to fault short reads last (taken, inl is) = rows_ rs to short reads taken (open_block last is.0 is.1)
lacks_text text rs to fault short reads last (taken, inr is) = rows_ rs to short reads taken (no_id last is.0 is.1 is.2)

pub lacks_end : (text : List ℕ) (d : Draft) (fault : PatchFault) → length text ≤ PATCH_LIMIT → HasDrafted text d → ((rs : List Role) → DraftStands rs d → LacksEnd rs (length text) fault) → Refuses text fault
lacks_end text d fault short h why = inr (lacks_text text h.0 (length text) fault short h.1 refl (why (said h.0) h.2))

pub whole_patch : (text : List ℕ) (d : Draft) (link : ChainLink) → length text ≤ PATCH_LIMIT → HasDrafted text d → ((rs : List Role) → DraftStands rs d → IsWell rs (meaning_of link (changes_of rs)))
    → (changes : List Change) × IsPatch text (meaning_of link changes)
whole_patch text d link short h well = (changes_of (said h.0), record { short = short; rows_ = h.0; reads = h.1; well = well (said h.0) h.2 })
