-- The text that is printed of a row is that row, whatever follows.
use Rattle.std.proofs.Common.{◌≡◌, ℕ, ◌+◌, ◌-◌, ◌≤◌, Bool, true, false, ◌||◌, ◌&&◌, not, List, [], ◌∷◌, ◌++◌, length, take, drop, nat_eq, Option, Some, None, refl, sym, ap, subst, ◌∙◌, inl, arith, append_assoc}
use Rattle.std.specs.List.{list_all, prefix_len}
use Rattle.std.specs.Char.{is_ascii_alphabetic}
use Rattle.std.specs.Str.{IsUtf8}
use Rattle.std.proofs.lemmas.List.{length-append, append-nil, take_at, drop_at}
use Rattle.std.proofs.Math.Seq.{take-append-add}
use Rattle.std.proofs.lemmas.Bool.{false≢true, and_parts}
use Rattle.std.proofs.lemmas.Bool.Decides.{nat_tests}
use Rattle.rdf_terms.specs.declared.term.Term.{Term}
use Rattle.rdf_terms.specs.declared.term.Term.TheVariants as term
use Rattle.rdf_terms.specs.declared.change.Change.{Change}
use Rattle.rdf_terms.specs.declared.change.Change.TheVariants as change
use Rattle.rdf_terms.specs.Iri.{IsIri}
use Rattle.rdf_terms.specs.Line.{quoted, iri_text, term_text, graph_text}
use Rattle.rdf_terms.specs.Quad.{Statement, is_iri, is_literal, is_quad, may_be_graph}
use Rattle.rdf_terms.specs.Tag.{IsWord}
use Rattle.nquads_text.specs.Grammar.{is_blank, Longest}
use Rattle.nquads_text.specs.Printing.{IsTermValue, IsGraphValue, HasTermValues}
use Rattle.nquads_text.proofs.Printed.{printed, space_ends}
use Rattle.patch_rows.specs.declared.codes.Code.{Code}
use Rattle.patch_rows.specs.declared.codes.Code.TheVariants as code
use Rattle.patch_rows.specs.declared.row.Row.{Row}
use Rattle.patch_rows.specs.declared.row.Row.TheVariants as row
use Rattle.patch_rows.specs.Grammar.{is_word_byte, is_space, begins_space, Space, Spaced, IsKey, KeyAt, letters, WordAt, RowTerm, Placed, is_any, is_node, plain, PrefixAt, PrefixIriAt, EndAt, GraphAt, QuadAt, code_of, ChangeAt, PartsAt, RowAt, row_limit, row_front, FrontDecides, ShortRowAt, IsRowAt, IsDecidedRow}
use Rattle.patch_rows.proofs.Shorter.{row_shorter}
use Rattle.patch_rows.specs.Printing.{quad_text, change_text, parts_text, row_text, IsChangeValue, IsRowValue, IsWellPlaced, IsWritable}
use Rattle.patch_rows.specs.Reading.{space_behind, skip_space}
use Rattle.patch_rows.proofs.RunLaws.{run_longest, key_bytes}
use Rattle.patch_rows.proofs.SpaceLaws.{skipped}

-- ---- a space, and a byte that begins no space

space_over : (b : ℕ) (rest : List ℕ) → is_space b ≡ false → nat_eq b 35 ≡ false → skip_space (32 ∷ b ∷ rest) ≡ b ∷ rest
unfolding space_behind
space_over b rest e h = rw (e, h) refl

neither : (a b : Bool) → (a || b) ≡ false → (a ≡ false) × (b ≡ false)
neither true b e = absurd (false≢true (sym e))
neither false b e = (refl, e)

-- a byte that begins no space, and goes on with no string
abbrev IsFresh : List ℕ → Type 0
IsFresh text = (b : ℕ) × (rest : List ℕ) × (text ≡ b ∷ rest) × (begins_space b ≡ false) × (is_blank b ≡ false) × (nat_eq b 94 ≡ false)

after_space : (text : List ℕ) → IsFresh text → Space (32 ∷ text) text
after_space text f =
    let n = neither (is_space f.0) (nat_eq f.0 35) f.3 in
    let same : skip_space (32 ∷ text) ≡ text = ap (λ (t : List ℕ). skip_space (32 ∷ t)) f.2 ∙ space_over f.0 f.1 n.0 n.1 ∙ sym f.2 in
    subst (λ (t : List ℕ). Space (32 ∷ text) t) same (skipped (32 ∷ text))

fresh_with : (front rest : List ℕ) → IsFresh front → IsFresh (front ++ rest)
fresh_with front rest f = (f.0, f.1 ++ rest, ap (λ (t : List ℕ). t ++ rest) f.2, f.3, f.4, f.5)

fresh_term : (t : Term) → IsFresh (term_text t)
fresh_term (term.Iri iri) = (60, iri ++ 62 ∷ [], refl, refl, refl, refl)
fresh_term (term.Blank label) = (95, 58 ∷ label, refl, refl, refl, refl)
fresh_term (term.Literal literal) = (34, _, refl, refl, refl, refl)

fresh_end : (rest : List ℕ) → IsFresh (46 ∷ rest)
fresh_end rest = (46, rest, refl, refl, refl, refl)

-- ---- terms

term_again : (t : Term) (rest : List ℕ) → IsTermValue t → IsFresh rest → RowTerm (term_text t ++ 32 ∷ rest) t (32 ∷ rest)
term_again t rest v f =
    subst (λ (s : List ℕ). RowTerm (term_text t ++ 32 ∷ s) t (32 ∷ s)) (sym f.2) (inl (printed t (32 ∷ f.0 ∷ f.1) v (space_ends t f.0 f.1 f.4 f.5)))

spaced_term : (fits : Term → Bool) (t : Term) (rest : List ℕ) → IsTermValue t → fits t ≡ true → IsFresh rest → Spaced (Placed fits) (32 ∷ (term_text t ++ 32 ∷ rest)) t (32 ∷ rest)
spaced_term fits t rest v e f =
    let from : List ℕ = term_text t ++ 32 ∷ rest in
    (from, after_space from (fresh_with (term_text t) (32 ∷ rest) (fresh_term t)), (term_again t rest v f, e))

-- ---- the end of a row

abbrev ending : List ℕ → List ℕ
ending rest = 32 ∷ 46 ∷ rest

end_again : (rest : List ℕ) → EndAt (ending rest) rest
end_again rest = (46 ∷ rest, after_space (46 ∷ rest) (fresh_end rest), refl)

graph_again : (g : Option Term) (rest : List ℕ) → IsGraphValue g → may_be_graph g ≡ true → GraphAt (graph_text g ++ ending rest) g rest
graph_again None rest v e = end_again rest
graph_again (Some g) rest v e = (ending rest, spaced_term is_node g (46 ∷ rest) v e (fresh_end rest), end_again rest)

-- what a graph and the end begin with
behind_graph : (g : Option Term) (rest : List ℕ) → (more : List ℕ) × (graph_text g ++ ending rest ≡ 32 ∷ more) × IsFresh more
behind_graph None rest = (46 ∷ rest, refl, fresh_end rest)
behind_graph (Some g) rest = (term_text g ++ ending rest, refl, fresh_with (term_text g) (ending rest) (fresh_term g))

-- a term before a graph and the end
before_graph : (fits : Term → Bool) (t : Term) (g : Option Term) (rest : List ℕ) → IsTermValue t → fits t ≡ true
    → Spaced (Placed fits) (32 ∷ (term_text t ++ (graph_text g ++ ending rest))) t (graph_text g ++ ending rest)
before_graph fits t g rest v e =
    let b = behind_graph g rest in
    subst (λ (s : List ℕ). Spaced (Placed fits) (32 ∷ (term_text t ++ s)) t s) (sym b.1) (spaced_term fits t b.0 v e b.2)

-- ---- quads

quad_parts : (q : Statement) → is_quad q ≡ true → (is_node q.subject ≡ true) × (is_iri q.predicate ≡ true) × (may_be_graph q.graph ≡ true)
quad_parts q e =
    let a = and_parts (not (is_literal q.subject) && is_iri q.predicate) (may_be_graph q.graph) e in
    let b = and_parts (not (is_literal q.subject)) (is_iri q.predicate) a.0 in (b.0, b.1, a.1)

quad_shape : (q : Statement) (rest : List ℕ) → quad_text q ++ ending rest
    ≡ 32 ∷ (term_text q.subject ++ 32 ∷ (term_text q.predicate ++ 32 ∷ (term_text q.object ++ (graph_text q.graph ++ ending rest))))
quad_shape q rest =
    let s = term_text q.subject in let p = term_text q.predicate in let o = term_text q.object in let g = graph_text q.graph in
    ap (λ (t : List ℕ). 32 ∷ t)
    (append_assoc s (32 ∷ (p ++ 32 ∷ (o ++ g))) (ending rest)
    ∙ ap (λ (t : List ℕ). s ++ 32 ∷ t) (append_assoc p (32 ∷ (o ++ g)) (ending rest) ∙ ap (λ (t : List ℕ). p ++ 32 ∷ t) (append_assoc o g (ending rest))))

quad_again : (q : Statement) (rest : List ℕ) → HasTermValues q → is_quad q ≡ true → QuadAt (quad_text q ++ ending rest) q rest
quad_again q rest v e =
    let parts = quad_parts q e in
    let g : List ℕ = graph_text q.graph ++ ending rest in
    let o : List ℕ = term_text q.object ++ g in
    let p : List ℕ = term_text q.predicate ++ 32 ∷ o in
    subst (λ (t : List ℕ). QuadAt t q rest) (sym (quad_shape q rest)) (
      32 ∷ p,
      32 ∷ o,
      g,
      spaced_term is_node q.subject p v.0 parts.0 (fresh_with (term_text q.predicate) (32 ∷ o) (fresh_term q.predicate)),
      spaced_term is_iri q.predicate o v.1 parts.1 (fresh_with (term_text q.object) g (fresh_term q.object)),
      before_graph is_any q.object q.graph rest v.2 refl,
      graph_again q.graph rest v.3 parts.2,
    )

-- ---- prefixes

string_again : (prefix rest : List ℕ) → IsUtf8 prefix → IsFresh rest → RowTerm (quoted prefix ++ 32 ∷ rest) (plain prefix) (32 ∷ rest)
string_again prefix rest v f =
    subst (λ (s : List ℕ). RowTerm (s ++ 32 ∷ rest) (plain prefix) (32 ∷ rest)) (append-nil (quoted prefix)) (term_again (plain prefix) rest (v, tt) f)

fresh_quoted : (prefix : List ℕ) → IsFresh (quoted prefix)
fresh_quoted prefix = (34, _, refl, refl, refl, refl)

spaced_prefix : (prefix rest : List ℕ) → IsUtf8 prefix → IsFresh rest → Spaced PrefixAt (32 ∷ (quoted prefix ++ 32 ∷ rest)) prefix (32 ∷ rest)
spaced_prefix prefix rest v f =
    let from : List ℕ = quoted prefix ++ 32 ∷ rest in
    (from, after_space from (fresh_with (quoted prefix) (32 ∷ rest) (fresh_quoted prefix)), PrefixAt.string (string_again prefix rest v f))

spaced_iri : (iri rest : List ℕ) → IsUtf8 iri → IsIri iri → IsFresh rest → Spaced PrefixIriAt (32 ∷ (iri_text iri ++ 32 ∷ rest)) iri (32 ∷ rest)
spaced_iri iri rest v is f =
    let from : List ℕ = iri_text iri ++ 32 ∷ rest in
    (from, after_space from (fresh_with (iri_text iri) (32 ∷ rest) (fresh_term (term.Iri iri))), PrefixIriAt.reference (term_again (term.Iri iri) rest (v, is) f))

added_again : (prefix iri : List ℕ) (g : Option Term) (rest : List ℕ) → IsChangeValue (change.PrefixAdd prefix iri g) → may_be_graph g ≡ true
    → ChangeAt (change_text (change.PrefixAdd prefix iri g) ++ ending rest) (change.PrefixAdd prefix iri g) rest
added_again prefix iri g rest v e =
    let b = behind_graph g rest in
    let i : List ℕ = iri_text iri ++ (graph_text g ++ ending rest) in
    let shape : change_text (change.PrefixAdd prefix iri g) ++ ending rest ≡ 32 ∷ (quoted prefix ++ 32 ∷ i) =
    ap (λ (t : List ℕ). 32 ∷ t) (append_assoc (quoted prefix) (32 ∷ (iri_text iri ++ graph_text g)) (ending rest) ∙ ap (λ (t : List ℕ). quoted prefix ++ 32 ∷ t) (append_assoc (iri_text iri) (graph_text g) (ending rest))) in
    subst (λ (t : List ℕ). ChangeAt t (change.PrefixAdd prefix iri g) rest) (sym shape) (
      32 ∷ i,
      graph_text g ++ ending rest,
      spaced_prefix prefix i v.0 (fresh_with (iri_text iri) (graph_text g ++ ending rest) (fresh_term (term.Iri iri))),
      subst (λ (s : List ℕ). Spaced PrefixIriAt (32 ∷ (iri_text iri ++ s)) iri s) (sym b.1) (spaced_iri iri b.0 v.1 v.2 b.2),
      graph_again g rest v.3 e,
    )

removed_again : (prefix : List ℕ) (g : Option Term) (rest : List ℕ) → IsChangeValue (change.PrefixDelete prefix g) → may_be_graph g ≡ true
    → ChangeAt (change_text (change.PrefixDelete prefix g) ++ ending rest) (change.PrefixDelete prefix g) rest
removed_again prefix g rest v e =
    let b = behind_graph g rest in
    let shape : change_text (change.PrefixDelete prefix g) ++ ending rest ≡ 32 ∷ (quoted prefix ++ (graph_text g ++ ending rest)) =
    ap (λ (t : List ℕ). 32 ∷ t) (append_assoc (quoted prefix) (graph_text g) (ending rest)) in
    subst (λ (t : List ℕ). ChangeAt t (change.PrefixDelete prefix g) rest) (sym shape) (
      graph_text g ++ ending rest,
      subst (λ (s : List ℕ). Spaced PrefixAt (32 ∷ (quoted prefix ++ s)) prefix s) (sym b.1) (spaced_prefix prefix b.0 v.0 b.2),
      graph_again g rest v.1 e,
    )

-- ---- keys and codes

run_ends : (test : ℕ → Bool) (front rest : List ℕ) (b : ℕ) → list_all test front ≡ true → test b ≡ false → prefix_len test (front ++ b ∷ rest) ≡ length front
run_ends test [] rest b all none = rw none refl
run_ends test (a ∷ front) rest b all none =
    let p = and_parts (test a) (list_all test front) all in
    let later : prefix_len test (front ++ b ∷ rest) ≡ length front = run_ends test front rest b p.1 none in
    rw (p.0, later) (omega arith)

-- a word whose run ends before a byte is the longest of its form there
ended : (test : ℕ → Bool) (Form : List ℕ → Type 0) (front rest : List ℕ) (b : ℕ) → ((bytes : List ℕ) → Form bytes → list_all test bytes ≡ true) → Form front → test b ≡ false
    → Longest Form (front ++ b ∷ rest) front (b ∷ rest)
ended test Form front rest b passes is none =
    let n = run_ends test front rest b (passes front is) none in
    let text : List ℕ = front ++ b ∷ rest in
    let taken : take (prefix_len test text) text ≡ front = ap (λ (k : ℕ). take k text) n ∙ take_at front (b ∷ rest) (length front) refl in
    let left : drop (prefix_len test text) text ≡ b ∷ rest = ap (λ (k : ℕ). drop k text) n ∙ drop_at front (b ∷ rest) (length front) refl in
    subst (λ (s : List ℕ). Longest Form text front s) left (subst (λ (s : List ℕ). Longest Form text s (drop (prefix_len test text) text)) taken
    (run_longest test Form text passes (subst Form (sym taken) is)))

cons_some : (b : ℕ) (rest : List ℕ) → b ∷ rest ≡ [] → ⊥
cons_some b rest e = cc

code_is_word : (c : Code) → IsWord is_ascii_alphabetic (letters c)
code_is_word code.Header = (omega arith, refl)
code_is_word code.Begin = (omega arith, refl)
code_is_word code.Commit = (omega arith, refl)
code_is_word code.Abort = (omega arith, refl)
code_is_word code.PrefixAdd = (omega arith, refl)
code_is_word code.PrefixDelete = (omega arith, refl)
code_is_word code.Add = (omega arith, refl)
code_is_word code.Delete = (omega arith, refl)

word_again : (c : Code) (rest : List ℕ) → WordAt (letters c ++ 32 ∷ rest) (letters c) (32 ∷ rest)
word_again c rest = (ended is_ascii_alphabetic (IsWord is_ascii_alphabetic) (letters c) rest 32 (λ bytes w. w.1) (code_is_word c) refl, cons_some 32 rest)

fresh_key : (key : List ℕ) → IsKey key → IsFresh key
fresh_key [] is = absurd is
fresh_key (b ∷ key) is = (b, key, refl, letter_fresh b is.0, letter_no_blank b is.0, letter_no_hat b is.0)
  where
    letter_fresh : (b : ℕ) → is_ascii_alphabetic b ≡ true → begins_space b ≡ false
    letter_fresh b e = grind (arith, nat_tests)

    letter_no_blank : (b : ℕ) → is_ascii_alphabetic b ≡ true → is_blank b ≡ false
    letter_no_blank b e = grind (arith, nat_tests)

    letter_no_hat : (b : ℕ) → is_ascii_alphabetic b ≡ true → nat_eq b 94 ≡ false
    letter_no_hat b e = grind (arith, nat_tests)

spaced_key : (key rest : List ℕ) → IsKey key → Spaced KeyAt (32 ∷ (key ++ 32 ∷ rest)) key (32 ∷ rest)
spaced_key key rest is =
    let from : List ℕ = key ++ 32 ∷ rest in
    (from, after_space from (fresh_with key (32 ∷ rest) (fresh_key key is)), ended is_word_byte IsKey key rest 32 key_bytes is refl)

-- ---- rows

change_again : (c : Change) (rest : List ℕ) → IsChangeValue c → IsWellPlaced c → ChangeAt (change_text c ++ ending rest) c rest
change_again (change.Add q) rest v e = quad_again q rest v e
change_again (change.Delete q) rest v e = quad_again q rest v e
change_again (change.PrefixAdd prefix iri g) rest v e = added_again prefix iri g rest v e
change_again (change.PrefixDelete prefix g) rest v e = removed_again prefix g rest v e
change_again change.Begin rest v e = end_again rest
change_again change.Commit rest v e = end_again rest
change_again change.Abort rest v e = end_again rest

parts_again : (r : Row) (rest : List ℕ) → IsRowValue r → IsWritable r → PartsAt (parts_text r ++ ending rest) r rest
parts_again (row.Header key value) rest v is =
    let t : List ℕ = term_text value ++ ending rest in
    let shape : parts_text (row.Header key value) ++ ending rest ≡ 32 ∷ (key ++ 32 ∷ t) = ap (λ (s : List ℕ). 32 ∷ s) (append_assoc key (32 ∷ term_text value) (ending rest)) in
    subst (λ (s : List ℕ). PartsAt s (row.Header key value) rest) (sym shape)
    (32 ∷ t, ending rest, spaced_key key t is, spaced_term is_any value (46 ∷ rest) v.1 refl (fresh_end rest), end_again rest)
parts_again (row.Change c) rest v is = change_again c rest v is

-- the parts of a row and its end begin with a space
behind_code : (r : Row) (rest : List ℕ) → (more : List ℕ) × (parts_text r ++ ending rest ≡ 32 ∷ more)
behind_code (row.Header key value) rest = (_, refl)
behind_code (row.Change (change.Add q)) rest = (_, refl)
behind_code (row.Change (change.Delete q)) rest = (_, refl)
behind_code (row.Change (change.PrefixAdd prefix iri g)) rest = (_, refl)
behind_code (row.Change (change.PrefixDelete prefix g)) rest = (_, refl)
behind_code (row.Change change.Begin) rest = (_, refl)
behind_code (row.Change change.Commit) rest = (_, refl)
behind_code (row.Change change.Abort) rest = (_, refl)

row_shape : (r : Row) (rest : List ℕ) → row_text r ++ rest ≡ letters (code_of r) ++ (parts_text r ++ ending rest)
unfolding row_text
row_shape r rest = append_assoc (letters (code_of r)) (parts_text r ++ 32 ∷ 46 ∷ []) rest ∙ ap (λ (t : List ℕ). letters (code_of r) ++ t) (append_assoc (parts_text r) (32 ∷ 46 ∷ []) rest)

pub row_again : (r : Row) (rest : List ℕ) → IsRowValue r → IsWritable r → RowAt (row_text r ++ rest) r rest
unfolding RowAt
row_again r rest v is =
    let b = behind_code r rest in
    subst (λ (t : List ℕ). RowAt t r rest) (sym (row_shape r rest)) (
      parts_text r ++ ending rest,
      subst (λ (t : List ℕ). WordAt (letters (code_of r) ++ t) (letters (code_of r)) t) (sym b.1) (word_again (code_of r) b.0),
      parts_again r rest v is,
    )

-- ---- the answer of `print_row`

line_shape : (r : Row) (v rest : List ℕ) → v ≡ row_text r ++ 10 ∷ [] → v ++ rest ≡ row_text r ++ 10 ∷ rest
line_shape r v rest e = ap (λ (t : List ℕ). t ++ rest) e ∙ append_assoc (row_text r) (10 ∷ []) rest

pub printed_row : (r : Row) (v rest : List ℕ) → v ≡ row_text r ++ 10 ∷ [] → IsRowValue r → IsWritable r → RowAt (v ++ rest) r (10 ∷ rest)
printed_row r v rest e value is = subst (λ (t : List ℕ). RowAt t r (10 ∷ rest)) (sym (line_shape r v rest e)) (row_again r (10 ∷ rest) value is)

-- the front of what stands behind a line
front_shape : (v more : List ℕ) → length v ≤ row_limit + 1 → row_front (v ++ more) ≡ v ++ take (row_limit + 1 - length v) more
unfolding row_front
front_shape v more short =
    let count : row_limit + 1 ≡ length v + (row_limit + 1 - length v) = omega (arith, short) in
    ap (λ (n : ℕ). take n (v ++ more)) count ∙ take-append-add v more (row_limit + 1 - length v)

pub printed_decided : (r : Row) (v : List ℕ) → v ≡ row_text r ++ 10 ∷ [] → IsRowValue r → IsWritable r → length v ≤ row_limit + 1 → IsDecidedRow v 0 r (length v - 1)
unfolding IsRowAt
printed_decided r v e value is short = λ more.
    let there = printed_row r v more e value is in
    let size : length v ≡ length (row_text r ++ 10 ∷ []) = ap length e in
    let count : length v - 1 ≡ length (row_text r) = omega (arith, size, length-append (row_text r) (10 ∷ [])) in
    let behind : drop (length v - 1) (v ++ more) ≡ 10 ∷ more = ap (drop (length v - 1)) (line_shape r v more e) ∙ drop_at (row_text r) (10 ∷ more) (length v - 1) (sym count) in
    let less = row_shorter (v ++ more) r (10 ∷ more) there in
    let whole : length (v ++ more) ≡ length v + length more = length-append v more in
    let tail : List ℕ = take (row_limit + 1 - length v) more in
    let settled : FrontDecides (v ++ more) r = (
      10 ∷ tail,
      λ others.
          subst (λ (t : List ℕ). RowAt t r (10 ∷ (tail ++ others))) (sym (append_assoc v tail others) ∙ ap (λ (t : List ℕ). t ++ others) (sym (front_shape v more short)))
          (printed_row r v (tail ++ others) e value is),
    ) in
    (subst (λ (after : List ℕ). ShortRowAt (v ++ more) r after) (sym behind) (there, omega (arith, whole, short), λ long. settled), omega (arith, less, whole), omega (arith, whole))

pub line_is : (r : Row) (v two one front word : List ℕ) → v ≡ two ++ 32 ∷ 46 ∷ 10 ∷ [] → two ≡ one ++ parts_text r → one ≡ front ++ word → front ≡ [] → word ≡ letters (code_of r)
    → v ≡ row_text r ++ 10 ∷ []
line_is r v two one front word a b c d e =
    let l : List ℕ = letters (code_of r) in
    a ∙ ap (λ (t : List ℕ). t ++ 32 ∷ 46 ∷ 10 ∷ []) (b ∙ ap (λ (t : List ℕ). t ++ parts_text r) (c ∙ ap (λ (t : List ℕ). t ++ word) d ∙ e))
    ∙ append_assoc l (parts_text r) (32 ∷ 46 ∷ 10 ∷ []) ∙ sym (row_shape r (10 ∷ []))
