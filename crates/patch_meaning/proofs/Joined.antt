-- The texts of a stream's patches are its text, and each is that patch by itself.
use Rattle.std.proofs.Common.{◌≡◌, ℕ, ◌+◌, ◌-◌, ◌≤◌, List, [], ◌∷◌, ◌++◌, length, take, drop, refl, sym, ap, subst, ◌∙◌, arith}
use Rattle.std.specs.List.{flat_map, slice_range}
use Rattle.std.proofs.lemmas.List.{drop-drop}
use Rattle.std.proofs.lemmas.List.Concat.{flat_map-cons}
use Rattle.std.proofs.Math.Seq.{take-add, take-length}
use Rattle.patch_reader.specs.declared.placed.PlacedRow.{PlacedRow}
use Rattle.patch_meaning.specs.Checked.{CheckedPatch, AreChecked, meanings, checked_texts}
use Rattle.patch_meaning.specs.Patch.{IsPatch}
use Rattle.patch_meaning.specs.Rows.{RowsTo}
use Rattle.patch_meaning.specs.Stream.{StreamPart, ArePatches, AreStream, IsSplit, cut, cut_texts, stop_of, part_texts}
use Rattle.patch_meaning.proofs.OneStream.{first_from}
use Rattle.patch_meaning.proofs.Pieces.{AreRead, all_read, piece_patch}
use Rattle.patch_meaning.proofs.Rowed.{rows_order}

-- ---- pieces of a text, one behind another

slice_on : (text : List ℕ) (a b c : ℕ) → a ≤ b → b ≤ c → slice_range text a b ++ slice_range text b c ≡ slice_range text a c
slice_on text a b c low high =
    let there : a + (b - a) ≡ b = omega (arith, low) in
    let size : (b - a) + (c - b) ≡ c - a = omega (arith, low, high) in
    ap (λ (t : List ℕ). slice_range text a b ++ take (c - b) t) (sym (drop-drop (b - a) a text ∙ ap (λ (n : ℕ). drop n text) there))
    ∙ sym (take-add (b - a) (c - b) (drop a text)) ∙ ap (λ (n : ℕ). take n (drop a text)) size

none_there : (text : List ℕ) (at : ℕ) → slice_range text at at ≡ []
none_there text at = let none : at - at ≡ 0 = omega arith in ap (λ (n : ℕ). take n (drop at text)) none

pub slice_all : (text : List ℕ) → slice_range text 0 (length text) ≡ text
slice_all text = let all : length text - 0 ≡ length text = omega arith in ap (λ (n : ℕ). take n text) all ∙ take-length text

rows_within : (text : List ℕ) (from stop : ℕ) (rs : List PlacedRow) → RowsTo text from rs stop → from ≤ stop
rows_within text from stop rs (behind, up, gap) = let low = gap.1 in omega (arith, low, rows_order text from behind rs up)

-- the parts come one behind another up to the place
parts_order : (text : List ℕ) (parts : List StreamPart) (stop : ℕ) → AreRead text parts stop → stop_of parts stop ≤ stop
parts_order text [] stop are = omega arith
parts_order text (part ∷ parts) stop are = omega (arith, parts_order text parts stop are.1, rows_within text part.from (stop_of parts stop) part.rows_ are.0)

joined_parts : (text : List ℕ) (parts : List StreamPart) (stop : ℕ) → AreRead text parts stop → flat_map (λ (t : List ℕ). t) (part_texts text parts stop) ≡ slice_range text (stop_of parts stop) stop
joined_parts text [] stop are = sym (none_there text stop)
joined_parts text (part ∷ parts) stop are =
    flat_map-cons (λ (t : List ℕ). t) (slice_range text part.from (stop_of parts stop)) (part_texts text parts stop)
    ∙ ap (λ (t : List ℕ). slice_range text part.from (stop_of parts stop) ++ t) (joined_parts text parts stop are.1)
    ∙ slice_on text part.from (stop_of parts stop) stop (rows_within text part.from (stop_of parts stop) part.rows_ are.0) (parts_order text parts stop are.1)

flat_texts : (ps : List CheckedPatch) → flat_map (λ (p : CheckedPatch). p.text) ps ≡ flat_map (λ (t : List ℕ). t) (checked_texts ps)
flat_texts [] = refl
flat_texts (p ∷ ps) = flat_map-cons (λ (q : CheckedPatch). q.text) p ps ∙ ap (λ (t : List ℕ). p.text ++ t) (flat_texts ps) ∙ sym (flat_map-cons (λ (t : List ℕ). t) p.text (checked_texts ps))

none_said : (ps : List CheckedPatch) → meanings ps ≡ [] → ps ≡ []
none_said [] e = refl
none_said (p ∷ ps) e = absurd cc

pub joined : (text : List ℕ) (ps : List CheckedPatch) → IsSplit text ps → (ps ≡ [] → ⊥) → flat_map (λ (p : CheckedPatch). p.text) ps ≡ text
joined text ps s some = by s.rows_ s.reads s.stream s.texts_are
  where
    by : (rs : List PlacedRow) → RowsTo text 0 rs (length text) → AreStream rs (length text) (meanings ps) → checked_texts ps ≡ cut_texts text rs → flat_map (λ (p : CheckedPatch). p.text) ps ≡ text
    by [] reads are same = absurd (some (none_said ps are))
    by (r ∷ rs) reads are same =
        let c = cut (r ∷ rs) in
        flat_texts ps ∙ ap (flat_map (λ (t : List ℕ). t)) same
        ∙ joined_parts text (c.done ++ c.last ∷ []) (length text) (all_read text (r ∷ rs) (length text) reads)
        ∙ ap (λ (n : ℕ). slice_range text n (length text)) (first_from (r ∷ rs) (length text)) ∙ slice_all text

-- ---- each is a patch

first_is : (t u : List ℕ) (ts us : List (List ℕ)) → t ∷ ts ≡ u ∷ us → t ≡ u
first_is t u ts us e = cc

rest_is : (t u : List ℕ) (ts us : List (List ℕ)) → t ∷ ts ≡ u ∷ us → ts ≡ us
rest_is t u ts us e = cc

checked_parts : (text : List ℕ) (parts : List StreamPart) (stop : ℕ) (ps : List CheckedPatch) → AreRead text parts stop → ArePatches parts stop (meanings ps) → checked_texts ps ≡ part_texts text parts stop → AreChecked ps
checked_parts text [] stop [] read are same = tt
checked_parts text [] stop (p ∷ ps) read are same = absurd are
checked_parts text (part ∷ parts) stop [] read are same = absurd are
checked_parts text (part ∷ parts) stop (p ∷ ps) read are same =
    let to : ℕ = stop_of parts stop in (
      subst (λ (t : List ℕ). IsPatch t p.meaning) (sym (first_is p.text (slice_range text part.from to) (checked_texts ps) (part_texts text parts stop) same)) (piece_patch text part.from to part.rows_ p.meaning read.0 are.1 are.0),
      checked_parts text parts stop ps read.1 are.2 (rest_is p.text (slice_range text part.from to) (checked_texts ps) (part_texts text parts stop) same),
    )

pub checked_by_itself : (text : List ℕ) (ps : List CheckedPatch) → IsSplit text ps → AreChecked ps
checked_by_itself text ps s = by s.rows_ s.reads s.stream s.texts_are
  where
    by : (rs : List PlacedRow) → RowsTo text 0 rs (length text) → AreStream rs (length text) (meanings ps) → checked_texts ps ≡ cut_texts text rs → AreChecked ps
    by [] reads are same = subst AreChecked (sym (none_said ps are)) tt
    by (r ∷ rs) reads are same = checked_parts text ((cut (r ∷ rs)).done ++ (cut (r ∷ rs)).last ∷ []) (length text) ps (all_read text (r ∷ rs) (length text) reads) are same
