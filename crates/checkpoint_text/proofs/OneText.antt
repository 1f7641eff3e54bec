-- A text is the checkpoint of one generation and one brief.
use Rattle.std.proofs.Common.{◌≡◌, ℕ, List, [], ◌∷◌, ◌++◌, length, take, drop, map, Option, Some, Result, Ok, refl, sym, ◌∙◌, ap, subst, append_assoc}
use Rattle.std.specs.List.{All, AllByRecursion, Contains, concat, flat_map}
use Rattle.std.specs.List.Sorted.{IsStrictlySortedBy}
use Rattle.std.specs.declared.cmp.Ordering.{Ordering}
use Rattle.std.specs.declared.cmp.Ordering.TheVariants.{Less}
use Rattle.std.specs.Cmp.{IsTotalOrder}
use Rattle.std.specs.Cmp.Lexicographic.{nat_list_cmp_total}
use Rattle.std.proofs.lemmas.Cmp.{on_total}
use Rattle.std.proofs.lemmas.List.{append-nil, append_cancel_left, take_at, drop_at}
use Rattle.std.proofs.lemmas.List.Elements.{All-contains}
use Rattle.delta_base.specs.declared.id.Id.{Id}
use Rattle.delta_base.specs.Ids.{IsId, number_of, text_of}
use Rattle.delta_base.proofs.IdLemmas.{length-text_of, number_of-text_of}
use Rattle.rdf_terms.specs.declared.change.Change.{Change}
use Rattle.rdf_terms.specs.declared.term.Term.{Term}
use Rattle.rdf_terms.specs.Quad.{Statement}
use Rattle.rdf_terms.specs.Dataset.{PrefixKey, prefix_cmp}
use Rattle.rdf_terms.specs.Line.{line, quoted, graph_text}
use Rattle.nquads_text.specs.Statement.{statement_at}
use Rattle.nquads_documents.specs.Laws.{IsQuadValue}
use Rattle.nquads_documents.proofs.LineLaws.{statement_read}
use Rattle.nquads_documents.proofs.CanonicalLaws.{contains_map, from_map}
use Rattle.nquads_documents.proofs.Rising.{same_rising}
use Rattle.patch_rows.specs.declared.row.Row.{Row}
use Rattle.patch_rows.specs.declared.row.Row.TheVariants as row
use Rattle.patch_rows.specs.Rows.{row_at}
use Rattle.patch_rows.specs.Printing.{row_text}
use Rattle.patch_rows.proofs.Printed.{row_again}
use Rattle.patch_rows.proofs.WholeRow.{exact_row}
use Rattle.dataset_tx.specs.Prefixes.{prefix_change}
use Rattle.dataset_tx.specs.Rows.{change_row, rows_in_order}
use Rattle.checkpoint_line.specs.declared.first.FirstLine.{FirstLine}
use Rattle.checkpoint_line.specs.First.{first_line}
use Rattle.checkpoint_line.proofs.Cuts.{one_first}
use Rattle.checkpoint_text.specs.Brief.{Brief}
use Rattle.checkpoint_text.specs.Text.{line_of_id, IsIdValue, prefix_rows, first_line_of, Setting, setting_line, IsSetting, IsCheckpoint}
use Rattle.checkpoint_text.proofs.Items.{once, itself, concat_flat, concat_mapped, All-from_contains}
use Rattle.checkpoint_text.proofs.Ordered.{ordered_from, ordered_to}

ok_is : {X E : Type 0} (x y : X) (r : Result X E) → r ≡ Ok x → r ≡ Ok y → x ≡ y
ok_is x y r p q = cc

-- ---- ids

front_cut : (p q x y : List ℕ) → length p ≡ length q → p ++ x ≡ q ++ y → (p ≡ q) × (x ≡ y)
front_cut p q x y long same = (
  sym (take_at p x (length p) refl) ∙ ap (take (length p)) same ∙ ap (λ (n : ℕ). take n (q ++ y)) long ∙ take_at q y (length q) refl,
  sym (drop_at p x (length p) refl) ∙ ap (drop (length p)) same ∙ ap (λ (n : ℕ). drop n (q ++ y)) long ∙ drop_at q y (length q) refl,
)

one_id : (a b : Id) → IsId a.0 → IsId b.0 → text_of a.0 ≡ text_of b.0 → a ≡ b
one_id a b small_a small_b same =
    let both : Some a.0 ≡ Some b.0 = sym (number_of-text_of a.0 small_a) ∙ ap number_of same ∙ number_of-text_of b.0 small_b in
    let numbers : a.0 ≡ b.0 = cc in
    ap (λ (n : ℕ). record { 0 = n }) numbers

pub id_cut : (a b : Id) (x y : List ℕ) → IsIdValue a → IsIdValue b → line_of_id a ++ x ≡ line_of_id b ++ y → (a ≡ b) × (x ≡ y)
id_cut a b x y small_a small_b same =
    let cut = front_cut (text_of a.0) (text_of b.0) (10 ∷ x) (10 ∷ y) (length-text_of a.0 ∙ sym (length-text_of b.0)) (sym (append_assoc (text_of a.0) (10 ∷ []) x) ∙ same ∙ append_assoc (text_of b.0) (10 ∷ []) y) in
    (one_id a b small_a small_b cut.0, ap (drop 1) cut.1)

-- ---- rows

one_setting : (a b : Setting) → prefix_change a ≡ prefix_change b → a ≡ b
one_setting a b same =
    let iris : a.1 ≡ b.1 = cc in
    let graphs : a.0.0 ≡ b.0.0 = cc in
    let prefixes : a.0.1 ≡ b.0.1 = cc in
    ap (λ (g : Option Term). ((g, a.0.1), a.1)) graphs ∙ ap (λ (t : List ℕ). ((b.0.0, t), a.1)) prefixes ∙ ap (λ (t : List ℕ). ((b.0.0, b.0.1), t)) iris

-- the row of a setting is read, whatever follows it
pub setting_read : (setting : Setting) (rest : List ℕ) → IsSetting setting → row_at (setting_line setting ++ rest) ≡ Ok (row.Change (prefix_change setting), 10 ∷ rest)
setting_read setting rest is =
    let shown : List ℕ = row_text (row.Change (prefix_change setting)) in
    ap row_at (append_assoc shown (10 ∷ []) rest) ∙ (exact_row (shown ++ 10 ∷ rest)).again (row.Change (prefix_change setting), 10 ∷ rest) (row_again (row.Change (prefix_change setting)) (10 ∷ rest) is.0 is.1)

pub setting_cut : (a b : Setting) (x y : List ℕ) → IsSetting a → IsSetting b → setting_line a ++ x ≡ setting_line b ++ y → (a ≡ b) × (x ≡ y)
setting_cut a b x y is_a is_b same =
    let both = ok_is (row.Change (prefix_change a), 10 ∷ x) (row.Change (prefix_change b), 10 ∷ y) (row_at (setting_line b ++ y)) (sym (ap row_at same) ∙ setting_read a x is_a) (setting_read b y is_b) in
    let rows : row.Change (prefix_change a) ≡ row.Change (prefix_change b) = ap (λ (p : Row × List ℕ). p.0) both in
    let changes : prefix_change a ≡ prefix_change b = cc in
    (one_setting a b changes, ap (λ (p : Row × List ℕ). drop 1 p.1) both)

-- the text is the row of a setting
abbrev pub IsRowLine : List ℕ → Type 0
IsRowLine text = (setting : Setting) × IsSetting setting × (text ≡ setting_line setting)

pub row_cut : (a b x y : List ℕ) → IsRowLine a → IsRowLine b → a ++ x ≡ b ++ y → (a ≡ b) × (x ≡ y)
row_cut a b x y is_a is_b same =
    let parts : setting_line is_a.0 ++ x ≡ setting_line is_b.0 ++ y = ap (λ (t : List ℕ). t ++ x) (sym is_a.2) ∙ same ∙ ap (λ (t : List ℕ). t ++ y) is_b.2 in
    let both = setting_cut is_a.0 is_b.0 x y is_a.1 is_b.1 parts in
    (is_a.2 ∙ ap setting_line both.0 ∙ sym is_b.2, both.1)

pub same_rows : (xs ys : List (List ℕ)) (x y : List ℕ) → length xs ≡ length ys → All IsRowLine xs → All IsRowLine ys → concat xs ++ x ≡ concat ys ++ y → (xs ≡ ys) × (x ≡ y)
same_rows xs ys x y long are_a are_b same =
    once itself IsRowLine row_cut xs ys x y long are_a are_b (ap (λ (t : List ℕ). t ++ x) (sym (concat_flat xs)) ∙ same ∙ ap (λ (t : List ℕ). t ++ y) (concat_flat ys))

-- ---- quads

pub quad_cut : (p q : Statement) (x y : List ℕ) → IsQuadValue p → IsQuadValue q → line p ++ x ≡ line q ++ y → (p ≡ q) × (x ≡ y)
quad_cut p q x y is_p is_q same =
    let both = ok_is (p, 10 ∷ x) (q, 10 ∷ y) (statement_at (line q ++ y)) (sym (ap statement_at same) ∙ statement_read p x is_p) (statement_read q y is_q) in
    (ap (λ (z : Statement × List ℕ). z.0) both, ap (λ (z : Statement × List ℕ). drop 1 z.1) both)

pub same_quads : (p q : List Statement) (x y : List ℕ) → length p ≡ length q → All IsQuadValue p → All IsQuadValue q → concat (map line p) ++ x ≡ concat (map line q) ++ y → (p ≡ q) × (x ≡ y)
same_quads p q x y long are_p are_q same =
    once line IsQuadValue quad_cut p q x y long are_p are_q (ap (λ (t : List ℕ). t ++ x) (sym (concat_mapped line p)) ∙ same ∙ ap (λ (t : List ℕ). t ++ y) (concat_mapped line q))

-- ---- prefixes

pub lines_are : (settings : List Setting) → map change_row (map prefix_change settings) ≡ map setting_line settings
lines_are [] = refl
lines_are (s ∷ settings) = ap (λ (ts : List (List ℕ)). setting_line s ∷ ts) (lines_are settings)

-- a row of the prefixes is that of one of them
pub row_from : (settings : List Setting) (t : List ℕ) → Contains (rows_in_order (map prefix_change settings)) t → (s : Setting) × Contains settings s × (setting_line s ≡ t)
row_from settings t c = from_map setting_line settings t (subst (λ (ts : List (List ℕ)). Contains ts t) (lines_are settings) (ordered_from (map prefix_change settings) t c))

-- and each of them has its row
pub row_of : (settings : List Setting) (s : Setting) → Contains settings s → Contains (rows_in_order (map prefix_change settings)) (setting_line s)
row_of settings s c = ordered_to (map prefix_change settings) (setting_line s) (subst (λ (ts : List (List ℕ)). Contains ts (setting_line s)) (sym (lines_are settings)) (contains_map setting_line settings s c))

pub are_row_lines : (settings : List Setting) → All IsSetting settings → All IsRowLine (rows_in_order (map prefix_change settings))
are_row_lines settings are = All-from_contains IsRowLine (rows_in_order (map prefix_change settings)) (λ t c.
    let found = row_from settings t c in
    (found.0, All-contains IsSetting settings found.0 are found.1, sym found.2))

-- a setting of the one is one of the other
pub setting_in : (p q : List Setting) → All IsSetting p → All IsSetting q → rows_in_order (map prefix_change p) ≡ rows_in_order (map prefix_change q) → (s : Setting) → Contains p s → Contains q s
setting_in p q are_p are_q same s c =
    let there : Contains (rows_in_order (map prefix_change q)) (setting_line s) = subst (λ (ts : List (List ℕ)). Contains ts (setting_line s)) same (row_of p s c) in
    let found = row_from q (setting_line s) there in
    let one = setting_cut found.0 s [] [] (All-contains IsSetting q found.0 are_q found.1) (All-contains IsSetting p s are_p c) (ap (λ (t : List ℕ). t ++ []) found.2) in
    subst (Contains q) one.0 found.1

abbrev pub setting_cmp : Setting → Setting → Ordering
setting_cmp a b = prefix_cmp a.0 b.0

pub setting_total : IsTotalOrder setting_cmp
setting_total = on_total (λ (s : Setting). quoted s.0.1 ++ graph_text s.0.0) nat_list_cmp_total

less_keys : (x : Setting) (xs : List Setting) → AllByRecursion (λ k. prefix_cmp x.0 k ≡ Less) (map (λ s. s.0) xs) → AllByRecursion (λ s. setting_cmp x s ≡ Less) xs
less_keys x [] a = tt
less_keys x (y ∷ xs) a = (a.0, less_keys x xs a.1)

pub sorted_settings : (xs : List Setting) → IsStrictlySortedBy prefix_cmp (map (λ s. s.0) xs) → IsStrictlySortedBy setting_cmp xs
unfolding IsStrictlySortedBy
sorted_settings [] s = tt
sorted_settings (x ∷ xs) s = (less_keys x xs s.0, sorted_settings xs s.1)

pub same_prefixes : (p q : List Setting) → All IsSetting p → All IsSetting q → IsStrictlySortedBy prefix_cmp (map (λ s. s.0) p) → IsStrictlySortedBy prefix_cmp (map (λ s. s.0) q) → rows_in_order (map prefix_change p) ≡ rows_in_order (map prefix_change q) → p ≡ q
same_prefixes p q are_p are_q sorted_p sorted_q same =
    same_rising setting_cmp setting_total p q (sorted_settings p sorted_p) (sorted_settings q sorted_q) (setting_in p q are_p are_q same) (setting_in q p are_q are_p (sym same))

-- ---- the whole text

pub one_checkpoint : (text : List ℕ) (g h : ℕ) (a b : Brief) → IsCheckpoint text g a → IsCheckpoint text h b → (g ≡ h) × (a ≡ b)
one_checkpoint text g h a b is_a is_b =
    let la = first_line_of g a in
    let lb = first_line_of h b in
    let behind_a : List ℕ = flat_map line_of_id a.ids ++ (concat (prefix_rows a.contents) ++ concat (map line a.contents.quads)) in
    let behind_b : List ℕ = flat_map line_of_id b.ids ++ (concat (prefix_rows b.contents) ++ concat (map line b.contents.quads)) in
    let firsts : la ≡ lb = one_first text la lb (is_a.counts, (behind_a, is_a.text_is)) (is_b.counts, (behind_b, is_b.text_is)) in
    let whole : first_line lb ++ behind_a ≡ first_line lb ++ behind_b = ap (λ (l : FirstLine). first_line l ++ behind_a) (sym firsts) ∙ sym is_a.text_is ∙ is_b.text_is in
    let rest = append_cancel_left (first_line lb) behind_a behind_b whole in
    let ids = once line_of_id IsIdValue id_cut a.ids b.ids _ _ (ap (λ (l : FirstLine). l.patches) firsts) is_a.ids_are is_b.ids_are rest in
    let rows = same_rows (prefix_rows a.contents) (prefix_rows b.contents) _ _ (ap (λ (l : FirstLine). l.prefixes) firsts) (are_row_lines a.contents.prefixes is_a.contents_are.prefixes_are.are) (are_row_lines b.contents.prefixes is_b.contents_are.prefixes_are.are) ids.1 in
    let prefixes = same_prefixes a.contents.prefixes b.contents.prefixes is_a.contents_are.prefixes_are.are is_b.contents_are.prefixes_are.are is_a.contents_are.prefixes_are.in_order is_b.contents_are.prefixes_are.in_order rows.0 in
    let lines_a : List ℕ = concat (map line a.contents.quads) in
    let lines_b : List ℕ = concat (map line b.contents.quads) in
    let quads = same_quads a.contents.quads b.contents.quads [] [] (ap (λ (l : FirstLine). l.quads) firsts) is_a.contents_are.quads_are is_b.contents_are.quads_are (append-nil lines_a ∙ rows.1 ∙ sym (append-nil lines_b)) in
    let bytes : a.bytes ≡ b.bytes = ap (λ (l : FirstLine). l.bytes) firsts in (
      ap (λ (l : FirstLine). l.generation) firsts,
      ap (λ (i : List Id). record { ids = i; bytes = a.bytes; contents = a.contents }) ids.0
          ∙ ap (λ (n : ℕ). record { ids = b.ids; bytes = n; contents = a.contents }) bytes
          ∙ ap (λ (q : List Statement). record { ids = b.ids; bytes = b.bytes; contents = record { quads = q; prefixes = a.contents.prefixes } }) quads.0
          ∙ ap (λ (p : List Setting). record { ids = b.ids; bytes = b.bytes; contents = record { quads = b.contents.quads; prefixes = p } }) prefixes,
    )
