-- A patch is a stream of one patch, and a text is one list of patches with their texts.
use Rattle.std.proofs.Common.{◌≡◌, ℕ, Bool, true, false, cond, List, [], ◌∷◌, ◌++◌, length, Some, None, refl, sym, ap, subst, ◌∙◌, append_assoc, append-nil, arith}
use Rattle.std.specs.Prelude.{fold}
use Rattle.std.proofs.lemmas.List.{map-append}
use Rattle.patch_meaning.specs.declared.fault.PatchKind.{PatchKind}
use Rattle.patch_meaning.specs.declared.fault.PatchKind.TheVariants as kinds
use Rattle.patch_meaning.specs.declared.role.Role.{Role}
use Rattle.patch_meaning.specs.declared.role.Role.TheVariants as roles
use Rattle.patch_meaning.specs.Checked.{CheckedPatch, meanings, checked_texts}
use Rattle.patch_meaning.specs.Patch.{Meaning, IsPatch, IsWell, AreTakenFrom, refusal, late, has_some}
use Rattle.patch_meaning.specs.Roles.{role, said, ids_of, prevs_of, changes_of}
use Rattle.patch_meaning.specs.Stream.{Cut, ArePatches, IsStream, IsSplit, begins, cut, cut_with, part_texts, cut_texts}
use Rattle.patch_reader.specs.declared.placed.PlacedRow.{PlacedRow}
use Rattle.patch_meaning.specs.Rows.{RowsTo}
use Rattle.patch_meaning.proofs.Joined.{slice_all}
use Rattle.patch_meaning.proofs.OneStream.{same_stream}
use Rattle.patch_meaning.proofs.SameRows.{Compared, same, shorter, longer, compared, none_at_end}
use Rattle.patch_meaning.proofs.WellTaken.{well_taken}

-- ---- no row of a patch begins another

late_none : (before : List Role) → late before ≡ None → has_some (changes_of before) ≡ false
late_none before is = by (has_some (changes_of before)) is
  where
    by : (test : Bool) → cond test (Some kinds.LateHeader) None ≡ None → test ≡ false
    by true e = absurd (cc)
    by false e = refl

or_late : (test : Bool) (before : List Role) (kind : PatchKind) → cond test (Some kind) (late before) ≡ None → (test ≡ false) × (late before ≡ None)
or_late true before kind e = absurd (cc)
or_late false before kind e = (refl, e)

none_begins : (before : List Role) (r : Role) → refusal before r ≡ None → begins before r ≡ false
unfolding refusal
none_begins before (roles.Id None) taken = absurd (cc)
none_begins before (roles.Id (Some id)) taken =
    let parts = or_late (has_some (ids_of before)) before kinds.TwoIds taken in rw (parts.0, late_none before parts.1) refl
none_begins before (roles.Prev None) taken = absurd (cc)
none_begins before (roles.Prev (Some id)) taken = late_none before (or_late (has_some (prevs_of before)) before kinds.TwoPrevs taken).1
none_begins before roles.Other taken = late_none before taken
none_begins before (roles.Change change) taken = refl

abbrev grown_to : List PlacedRow → Cut
grown_to rs = record { done = []; last = record { from = 0; rows_ = rs } }

one_part : (before rs : List PlacedRow) → AreTakenFrom (said before) (said rs) → fold cut_with (grown_to before) rs ≡ grown_to (before ++ rs)
one_part before [] taken = ap grown_to (sym (append-nil before))
one_part before (r ∷ rs) taken =
    let step : cut_with (grown_to before) r ≡ grown_to (before ++ r ∷ []) = rw (none_begins (said before) (role r.row) taken.0) refl in
    let rest : AreTakenFrom (said (before ++ r ∷ [])) (said rs) = subst (λ (ss : List Role). AreTakenFrom ss (said rs)) (sym (map-append (λ (q : PlacedRow). role q.row) before (r ∷ []))) taken.1 in
    ap (λ (c : Cut). fold cut_with c rs) step ∙ one_part (before ++ r ∷ []) rs rest ∙ ap grown_to (append_assoc before (r ∷ []) rs)

some_id : (rs : List PlacedRow) (m : Meaning) → IsWell (said rs) m → rs ≡ [] → ⊥
some_id rs m well none = let ids : ids_of (said []) ≡ Some m.id ∷ [] = subst (λ (l : List PlacedRow). ids_of (said l) ≡ Some m.id ∷ []) none well.one_id in absurd (cc)

pub alone : (p : CheckedPatch) → IsPatch p.text p.meaning → IsSplit p.text (p ∷ [])
alone p is = by is.rows_ refl
  where
    by : (rs : List PlacedRow) → is.rows_ ≡ rs → IsSplit p.text (p ∷ [])
    by [] none = absurd (some_id is.rows_ p.meaning is.well none)
    by (r ∷ rs) are =
        let one : cut (r ∷ rs) ≡ grown_to (r ∷ rs) = one_part [] (r ∷ rs) (well_taken (said (r ∷ rs)) p.meaning (subst (λ (l : List PlacedRow). IsWell (said l) p.meaning) are is.well)) in
        let well : IsWell (said (r ∷ rs)) p.meaning = subst (λ (l : List PlacedRow). IsWell (said l) p.meaning) are is.well in
        let parts : ArePatches ((grown_to (r ∷ rs)).done ++ (grown_to (r ∷ rs)).last ∷ []) (length p.text) (p.meaning ∷ []) = (well, omega (arith, is.short), tt) in
        record {
          rows_ = r ∷ rs;
          reads = subst (λ (l : List PlacedRow). RowsTo p.text 0 l (length p.text)) are is.reads;
          stream = subst (λ (c : Cut). ArePatches (c.done ++ c.last ∷ []) (length p.text) (p.meaning ∷ [])) (sym one) parts;
          texts_are = ap (λ (t : List ℕ). t ∷ []) (sym (slice_all p.text)) ∙ ap (λ (c : Cut). part_texts p.text (c.done ++ c.last ∷ []) (length p.text)) (sym one);
        }

-- ---- one list

same_checked : (ps qs : List CheckedPatch) → meanings ps ≡ meanings qs → checked_texts ps ≡ checked_texts qs → ps ≡ qs
same_checked [] [] ms ts = refl
same_checked [] (q ∷ qs) ms ts = absurd (cc)
same_checked (p ∷ ps) [] ms ts = absurd (cc)
same_checked (p ∷ ps) (q ∷ qs) ms ts =
    let first : p.meaning ≡ q.meaning = cc in
    let text : p.text ≡ q.text = cc in
    let later : meanings ps ≡ meanings qs = cc in
    let texts : checked_texts ps ≡ checked_texts qs = cc in
    let one : p ≡ q = ap (λ (m : Meaning). let x : CheckedPatch = record { text = p.text; meaning = m } in x) first ∙ ap (λ (t : List ℕ). let x : CheckedPatch = record { text = t; meaning = q.meaning } in x) text in
    ap (λ (x : CheckedPatch). x ∷ ps) one ∙ ap (λ (l : List CheckedPatch). q ∷ l) (same_checked ps qs later texts)

stream_of : (text : List ℕ) (ps : List CheckedPatch) → IsSplit text ps → IsStream text (meanings ps)
stream_of text ps split = record { rows_ = split.rows_; reads = split.reads; stream = split.stream }

pub one_split : (text : List ℕ) (ps qs : List CheckedPatch) → IsSplit text ps → IsSplit text qs → ps ≡ qs
one_split text ps qs p q = same_checked ps qs (same_stream text (meanings ps) (meanings qs) (stream_of text ps p) (stream_of text qs q)) (by (compared text 0 p.rows_ (length text) q.rows_ (length text) p.reads q.reads))
  where
    by : Compared text p.rows_ (length text) q.rows_ (length text) → checked_texts ps ≡ checked_texts qs
    by (same rs place) = p.texts_are ∙ ap (cut_texts text) rs ∙ sym q.texts_are
    by (shorter r more rs at there) = absurd (none_at_end text (length text) r.row r.end refl there)
    by (longer r more rs at there) = absurd (none_at_end text (length text) r.row r.end refl there)
