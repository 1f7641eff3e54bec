-- The parts of an unfinished row, one behind another.
use Rattle.std.proofs.Common.{◌≡◌, ◌⊎◌, ◌↔◌, ℕ, Bool, true, false, cond, List, [], ◌∷◌, ◌++◌, length, Some, None, Result, Ok, Err, nat_eq, ◌||◌, refl, sym, ap, subst, ◌∙◌, inl, inr, ⊎_elim, append_assoc, append-nil, arith}
use Rattle.std.proofs.lemmas.Bool.{false≢true}
use Rattle.std.proofs.lemmas.List.{length-append}
use Rattle.std.specs.Char.{is_ascii_alphabetic}
use Rattle.rdf_terms.specs.Quad.{is_iri}
use Rattle.rdf_terms.specs.declared.change.Change.{Change}
use Rattle.rdf_terms.specs.declared.change.Change.TheVariants as change
use Rattle.rdf_terms.specs.declared.term.Term.{Term}
use Rattle.rdf_terms.specs.declared.term.Term.TheVariants as term
use Rattle.nquads_text.specs.declared.fault.TextKind.TheVariants.{MissingDot, BadToken}
use Rattle.nquads_text.specs.Faults.{begins_term}
use Rattle.patch_rows.specs.declared.fault.RowKind.{RowKind}
use Rattle.patch_rows.specs.declared.fault.RowKind.TheVariants.{Common, UnknownCode}
use Rattle.patch_rows.specs.Fault.{Fault, Read, ◌>>=◌}
use Rattle.patch_rows.specs.Faults.{is_dot}
use Rattle.patch_rows.specs.Grammar.{is_word_byte, is_any, is_node}
use Rattle.patch_rows.specs.Reading.{skip_space, stands, run_of, key_at, past_colon, uncut, other, dot_at, end_at, code_named, word_at}
use Rattle.patch_rows.specs.declared.cut.TextEnd.TheVariants.{Open, Known}
use Rattle.patch_rows.specs.Rows.{added_of, bare_at, graph_or_dot_of, header_of, live_row, open_key, open_word_prefix, parts_of, placed_of, prefix_iri_of, prefix_of, quad_of, quoted_of, removed_of, row_of}
use Rattle.patch_rows.specs.declared.codes.Code.{Code}
use Rattle.patch_rows.specs.declared.codes.Code.TheVariants as code
use Rattle.patch_reader.specs.declared.progress.RowPart.{RowPart}
use Rattle.patch_reader.specs.declared.progress.RowPart.TheVariants as part
use Rattle.patch_rows.specs.Cut.{AtEnd, is_cut}
use Rattle.patch_reader.specs.Progress.{Rest, end_from, graph_from, object_from, predicate_from, subject_from, value_from, key_from, iri_from, added_from, removed_from, rest_from, part_at, part_behind, rest_behind, first_part}
use Rattle.patch_reader.proofs.Completions.{stop}
use Rattle.patch_reader.proofs.Opens.{Outcome, GoesOn, widened, went_on, placed_ends, quoted_ends, prefix_iri_ends}
use Rattle.patch_reader.proofs.RowStays.{Keeps, end_then, cut_placed, cut_key, cut_prefix, cut_prefix_iri, cut_dot, cut_stands, no_term, placed_stays, key_stays, quoted_stays, prefix_iri_stays, word_stays, word_run_stays, dot_stays, uncut_cases, uncut_longer, past_more, node_alike, iri_alike, any_alike}

-- ---- what was read of a part is read of it with more text behind

abbrev given : {X : Type 0} → X × List ℕ → Read X
given x = Ok x

none_both : {X : Type 0} (x : X × List ℕ) (f : Fault) (r : Read X) → r ≡ Ok x → r ≡ Err f → ⊥
none_both x f r a b = let both : given x ≡ Err f = sym a ∙ b in absurd cc

ok_is : {X : Type 0} (x y : X × List ℕ) → given x ≡ Ok y → x ≡ y
ok_is x y e = cc

module _ {X : Type 0} (live whole : List ℕ → Read X) (keeps : (more rest : List ℕ) → Keeps more (live rest) (whole (rest ++ more)))
    (ends : (rest : List ℕ) → AtEnd (live rest) → Outcome (λ bytes. whole (rest ++ bytes)) (GoesOn (λ bytes. whole (rest ++ bytes)))) where
  there : (rest more : List ℕ) (x : X × List ℕ) → live rest ≡ Ok x → whole (rest ++ more) ≡ Ok (x.0, x.1 ++ more)
  there rest more x e = went_on x more (whole (rest ++ more)) (subst (λ (r : Read X). Keeps more r (whole (rest ++ more))) e (keeps more rest))

  module _ (rest more : List ℕ) (x : X × List ℕ) (e : live rest ≡ Ok x) where
    further : (bytes : List ℕ) → whole ((rest ++ more) ++ bytes) ≡ Ok (x.0, x.1 ++ (more ++ bytes))
    further bytes = ap whole (append_assoc rest more bytes) ∙ there rest (more ++ bytes) x e

    not_open : Outcome (λ bytes. whole ((rest ++ more) ++ bytes)) (GoesOn (λ bytes. whole ((rest ++ more) ++ bytes))) → ⊥
    not_open (Outcome.ended a) = subst AtEnd (further []) a
    not_open (Outcome.broken bytes two is) = none_both (x.0, x.1 ++ (more ++ bytes)) _ (whole ((rest ++ more) ++ bytes)) (further bytes) is
    not_open (Outcome.otherwise (bytes, two, y, is)) =
        let same = ok_is (x.0, x.1 ++ (more ++ bytes)) (y, stop) (sym (further bytes) ∙ is) in
        let size = ap (λ (z : X × List ℕ). length z.1) same in
        omega (arith, size, two, length-append x.1 (more ++ bytes), length-append more bytes)

    not_failed : (f : Fault) → Keeps [] (Err f) (whole ((rest ++ more) ++ [])) → live (rest ++ more) ≡ Err f → ⊥
    not_failed f (inl at_end) is = not_open (ends (rest ++ more) (subst AtEnd (sym is) at_end))
    not_failed f (inr same) is = none_both (x.0, x.1 ++ (more ++ [])) (f.0, f.1 ++ []) (whole ((rest ++ more) ++ [])) (further []) same

    pub stays : live (rest ++ more) ≡ Ok (x.0, x.1 ++ more)
    stays = by (live (rest ++ more)) refl
      where
        by : (r : Read X) → live (rest ++ more) ≡ r → live (rest ++ more) ≡ Ok (x.0, x.1 ++ more)
        by (Ok y) is =
            let same = ok_is (y.0, y.1 ++ []) (x.0, x.1 ++ (more ++ [])) (sym (there (rest ++ more) [] y is) ∙ further []) in
            let value : y.0 ≡ x.0 = ap (λ (z : X × List ℕ). z.0) same in
            let after : y.1 ≡ x.1 ++ more = sym (append-nil y.1) ∙ ap (λ (z : X × List ℕ). z.1) same ∙ ap (λ (t : List ℕ). x.1 ++ t) (append-nil more) in
            is ∙ ap (λ (v : X). given (v, y.1)) value ∙ ap (λ (t : List ℕ). given (x.0, t)) after
        by (Err f) is = absurd (not_failed f (subst (λ (r : Read X). Keeps [] r (whole ((rest ++ more) ++ []))) is (keeps [] (rest ++ more))) is)

placed_again : (fits : Term → Bool) → ((a b : List ℕ) → fits (term.Blank a) ≡ fits (term.Blank b)) → (rest more : List ℕ) (x : Term × List ℕ) → placed_of Open fits rest ≡ Ok x → placed_of Open fits (rest ++ more) ≡ Ok (x.0, x.1 ++ more)
placed_again fits alike = stays (placed_of Open fits) (placed_of Known fits) (λ more rest. placed_stays fits more rest alike) (λ rest a. placed_ends fits rest alike a)

quoted_again : (rest more : List ℕ) (x : List ℕ × List ℕ) → quoted_of Open rest ≡ Ok x → quoted_of Open (rest ++ more) ≡ Ok (x.0, x.1 ++ more)
quoted_again = stays (quoted_of Open) (quoted_of Known) quoted_stays (λ rest a. widened (λ bytes. quoted_of Known (rest ++ bytes)) absurd (quoted_ends rest a))

prefix_iri_again : (rest more : List ℕ) (x : List ℕ × List ℕ) → prefix_iri_of Open rest ≡ Ok x → prefix_iri_of Open (rest ++ more) ≡ Ok (x.0, x.1 ++ more)
prefix_iri_again = stays (prefix_iri_of Open) (prefix_iri_of Known) prefix_iri_stays (λ rest a. widened (λ bytes. prefix_iri_of Known (rest ++ bytes)) absurd (prefix_iri_ends rest a))

-- words aren't cut

uncut_is : (x y : List ℕ × List ℕ) → uncut x ≡ Ok y → (x ≡ y) × (x.1 ≡ [] → ⊥)
uncut_is x y e = ⊎_elim (λ cut. absurd (subst AtEnd e cut.0)) (λ apart. (ok_is x y (sym apart.0 ∙ e), apart.1)) (uncut_cases x)

key_again : (rest more : List ℕ) (x : List ℕ × List ℕ) → open_key rest ≡ Ok x → open_key (rest ++ more) ≡ Ok (x.0, x.1 ++ more)
unfolding open_key
key_again rest more x e = by (key_at rest) refl e
  where
    by : (r : Read (List ℕ)) → key_at rest ≡ r → (r >>= λ k. uncut k) ≡ Ok x → (key_at (rest ++ more) >>= λ k. uncut k) ≡ Ok (x.0, x.1 ++ more)
    by (Ok k) is u =
        let p = uncut_is k x u in
        let longer : key_at (rest ++ more) ≡ Ok (x.0, x.1 ++ more) = went_on x more (key_at (rest ++ more)) (subst (λ (r : Read (List ℕ)). Keeps more r (key_at (rest ++ more))) e (key_stays more rest)) in
        rw longer (uncut_longer x.0 x.1 more (λ none. p.1 (ap (λ (y : List ℕ × List ℕ). y.1) p.0 ∙ none)))
    by (Err f) is u = absurd cc

abbrev past_word : Read (List ℕ) → Read (List ℕ)
past_word r = r >>= λ w. Ok (w.0, past_colon w.1)

abbrev run_there : List ℕ → Read (List ℕ)
run_there rest = uncut (run_of is_word_byte rest)

word_prefix_again : (rest more : List ℕ) (x : List ℕ × List ℕ) → open_word_prefix rest ≡ Ok x → open_word_prefix (rest ++ more) ≡ Ok (x.0, x.1 ++ more)
unfolding open_word_prefix
word_prefix_again rest more x e = by (run_there rest) refl e
  where
    by : (r : Read (List ℕ)) → run_there rest ≡ r → past_word r ≡ Ok x → past_word (run_there (rest ++ more)) ≡ Ok (x.0, x.1 ++ more)
    by (Ok w) is u =
        let p = uncut_is (run_of is_word_byte rest) w is in
        let longer : run_there (rest ++ more) ≡ Ok (w.0, w.1 ++ more) = went_on w more (run_there (rest ++ more)) (subst (λ (r : Read (List ℕ)). Keeps more r (run_there (rest ++ more))) is (word_run_stays is_word_byte more rest)) in
        let same = ok_is (w.0, past_colon w.1) x u in
        rw longer (ap (λ (t : List ℕ). given (w.0, t)) (past_more w.1 more (λ none. p.1 (ap (λ (y : List ℕ × List ℕ). y.1) p.0 ∙ none))) ∙ ap (λ (y : List ℕ × List ℕ). given (y.0, y.1 ++ more)) same)
    by (Err f) is u = absurd cc

prefix_again : (rest more : List ℕ) (x : List ℕ × List ℕ) → prefix_of Open rest ≡ Ok x → prefix_of Open (rest ++ more) ≡ Ok (x.0, x.1 ++ more)
unfolding prefix_of
prefix_again [] more x e = absurd (none_there e)
  where
    none_there : prefix_of Open [] ≡ Ok x → ⊥
    none_there e = none_both x _ (prefix_of Open []) e refl
prefix_again (b ∷ bs) more x e = by (nat_eq b 58) (is_ascii_alphabetic b) (is_dot b || begins_term b) refl refl refl e
  where
    by : (colon letter term : Bool) → nat_eq b 58 ≡ colon → is_ascii_alphabetic b ≡ letter → (is_dot b || begins_term b) ≡ term
        → cond {A = Read (List ℕ)} colon (Ok ([], bs)) (cond letter (open_word_prefix (b ∷ bs)) (cond term (quoted_of Open (b ∷ bs)) (Err (other (Common BadToken) (b ∷ bs))))) ≡ Ok x
        → cond {A = Read (List ℕ)} colon (Ok ([], bs ++ more)) (cond letter (open_word_prefix (b ∷ (bs ++ more))) (cond term (quoted_of Open (b ∷ (bs ++ more))) (Err (other (Common BadToken) (b ∷ (bs ++ more)))))) ≡ Ok (x.0, x.1 ++ more)
    by true letter term c l t e = ap (λ (y : List ℕ × List ℕ). given (y.0, y.1 ++ more)) (ok_is ([], bs) x e)
    by false true term c l t e = word_prefix_again (b ∷ bs) more x e
    by false false true c l t e = quoted_again (b ∷ bs) more x e
    by false false false c l t e = absurd cc

-- ---- from one part to the next

abbrev behind : List ℕ → Rest
behind t = Ok t

behind_is : (a b : List ℕ) → behind a ≡ behind b → a ≡ b
behind_is a b e = cc

tail_of : {X : Type 0} (r : Read X) (after : List ℕ) → (r >>= λ t. Ok t.1) ≡ Ok after → (x : X × List ℕ) × (r ≡ Ok x) × (x.1 ≡ after)
tail_of (Ok x) after e = (x, refl, behind_is x.1 after e)
tail_of (Err f) after e = absurd cc

-- the part is read of a longer text too, and the next one behind it
module _ {X : Type 0} (live : List ℕ → Read X) (again : (rest more : List ℕ) (x : X × List ℕ) → live rest ≡ Ok x → live (rest ++ more) ≡ Ok (x.0, x.1 ++ more)) (next : RowPart) where
  over : (rest after more : List ℕ) → (live rest >>= λ t. Ok t.1) ≡ Ok after → (live (rest ++ more) >>= λ t. rest_behind (Some next) t.1) ≡ rest_behind (Some next) (after ++ more)
  over rest after more e =
      let x = tail_of (live rest) after e in
      let here : rest_behind (Some next) (x.0.1 ++ more) ≡ rest_behind (Some next) (after ++ more) = ap (λ (t : List ℕ). rest_behind (Some next) (t ++ more)) x.2 in
      rw (again rest more x.0 x.1) here

got : List ℕ → Read (Unit {0})
got after = Ok (tt, after)

after_of : Read (Unit {0}) → List ℕ
after_of (Ok x) = x.1
after_of (Err f) = []

dot_over : (missing : RowKind) (rest after more : List ℕ) → dot_at missing rest ≡ Ok after → dot_at missing (rest ++ more) ≡ Ok (after ++ more)
unfolding after_of got
dot_over missing rest after more e =
    by (dot_at missing (rest ++ more)) (went_on (tt, after) more _ (subst (λ (r : Rest). Keeps more (r >>= got) (dot_at missing (rest ++ more) >>= got)) e (dot_stays more missing tt rest)))
  where
    by : (r : Rest) → (r >>= got) ≡ got (after ++ more) → r ≡ Ok (after ++ more)
    by (Ok t) same = ap (λ (u : List ℕ). Ok u) (ap after_of same)
    by (Err f) same = absurd cc

stands_longer : (test : ℕ → Bool) (rest more : List ℕ) → stands test rest ≡ true → stands test (rest ++ more) ≡ true
stands_longer test [] more e = absurd (false≢true e)
stands_longer test (b ∷ rest) more e = e

pub part_over : (p : RowPart) (rest after more : List ℕ) → (p ≡ part.Graph → stands begins_term rest ≡ true) → part_at p rest ≡ Ok after
    → rest_from p (rest ++ more) ≡ rest_behind (part_behind p) (after ++ more)
unfolding end_from graph_from object_from predicate_from subject_from value_from key_from iri_from added_from removed_from
part_over part.Key rest after more g e = over open_key key_again part.Value rest after more e
part_over part.Value rest after more g e = over (placed_of Open is_any) (placed_again is_any any_alike) part.End rest after more e
part_over part.Bare rest after more g e = dot_over (Common BadToken) rest after more e
part_over part.Added rest after more g e = over (prefix_of Open) prefix_again part.Iri rest after more e
part_over part.Iri rest after more g e = over (prefix_iri_of Open) prefix_iri_again part.Graph rest after more e
part_over part.Removed rest after more g e = over (prefix_of Open) prefix_again part.Graph rest after more e
part_over part.Subject rest after more g e = over (placed_of Open is_node) (placed_again is_node node_alike) part.Predicate rest after more e
part_over part.Predicate rest after more g e = over (placed_of Open is_iri) (placed_again is_iri iri_alike) part.Object rest after more e
part_over part.Object rest after more g e = over (placed_of Open is_any) (placed_again is_any any_alike) part.Graph rest after more e
part_over part.Graph rest after more g e = rw (stands_longer begins_term rest more (g refl)) (over (placed_of Open is_node) (placed_again is_node node_alike) part.End rest after more e)
part_over part.End rest after more g e = dot_over (Common MissingDot) rest after more e

-- ---- a part that isn't read

fails : {X : Type 0} (r : Read X) (f : Fault) (next : X × List ℕ → Rest) → (r >>= λ t. Ok t.1) ≡ Err f → (r >>= next) ≡ Err f
fails (Ok x) f next e = absurd cc
fails (Err g) f next e = e

pub part_fails : (p : RowPart) (rest : List ℕ) (f : Fault) → (p ≡ part.Graph → stands begins_term rest ≡ true) → part_at p rest ≡ Err f → rest_from p rest ≡ Err f
unfolding graph_from object_from predicate_from subject_from value_from key_from iri_from added_from removed_from
part_fails part.Graph rest f g e = rw (g refl) (fails (placed_of Open is_node rest) f _ e)
part_fails part.Bare rest f g e = e
part_fails part.End rest f g e = e
part_fails _ rest f g e = search (fails)

pub no_graph : (rest : List ℕ) → stands begins_term rest ≡ false → graph_from rest ≡ end_from rest
unfolding graph_from
no_graph rest e = rw e refl

-- ---- where the text ends

ruleset cuts = (end_then, cut_placed, cut_prefix, cut_prefix_iri, cut_dot)

pub cut_rest : (p : RowPart) (rest : List ℕ) → is_cut rest ≡ true → AtEnd (rest_from p rest)
unfolding end_from graph_from object_from predicate_from subject_from value_from key_from iri_from added_from removed_from
cut_rest part.Graph rest e = rw (cut_stands begins_term rest no_term e) (cut_dot (Common MissingDot) rest e)
cut_rest part.Key rest e = end_then (open_key rest) _ (cut_key Open rest e)
cut_rest _ rest e = search cuts

-- ---- behind a row's code

-- both meet the text's end, or neither does
abbrev Alike : {X Y : Type 0} → Result X Fault → Result Y Fault → Type 0
Alike r s = AtEnd r ↔ AtEnd s

same : {A : Type 0} → A ↔ A
same = (λ a. a, λ a. a)

both : {A B C : Type 0} → A ↔ B → B ↔ C → A ↔ C
both f g = (λ a. g.0 (f.0 a), λ c. f.1 (g.1 c))

made_end : {X Y : Type 0} (r : Result X Fault) (make : X → Y) → Alike (r >>= λ x. Ok (make x)) r
made_end (Ok x) make = same
made_end (Err f) make = same

map_end : {X Y : Type 0} (r : Read X) (f : X × List ℕ → Read Y) (g : X × List ℕ → Rest) → ((x : X × List ℕ) → Alike (f x) (g x)) → Alike (r >>= f) (r >>= g)
map_end (Ok x) f g each = each x
map_end (Err e) f g each = same

choice_end : {X : Type 0} (b : Bool) (x y : Read X) (u v : Rest) → Alike x u → Alike y v → Alike (cond b x y) (cond b u v)
choice_end true x y u v first second = first
choice_end false x y u v first second = second

graph_end : (rest : List ℕ) → Alike (graph_or_dot_of Open rest) (graph_from rest)
unfolding graph_from end_from graph_or_dot_of
graph_end rest = choice_end (stands begins_term rest) _ _ _ _
    (map_end (placed_of Open is_node rest) _ _ (λ g. made_end (end_at (Common MissingDot) g.1) _))
    (made_end (dot_at (Common MissingDot) rest) _)

quad_end : (rest : List ℕ) → Alike (quad_of Open rest) (subject_from (skip_space rest))
unfolding subject_from predicate_from object_from quad_of
quad_end rest = map_end (placed_of Open is_node (skip_space rest)) _ _ (λ s. map_end (placed_of Open is_iri (skip_space s.1)) _ _ (λ p. map_end (placed_of Open is_any (skip_space p.1)) _ _
    (λ o. both (made_end (graph_or_dot_of Open (skip_space o.1)) _) (graph_end (skip_space o.1)))))

header_end : (rest : List ℕ) → Alike (header_of Open rest) (key_from (skip_space rest))
unfolding key_from value_from end_from header_of
header_end rest = map_end (open_key (skip_space rest)) _ _ (λ k. map_end (placed_of Open is_any (skip_space k.1)) _ _ (λ v. made_end (end_at (Common MissingDot) v.1) _))

bare_end : (c : Change) (rest : List ℕ) → Alike (bare_at c rest) (dot_at (Common BadToken) (skip_space rest))
unfolding bare_at
bare_end c rest = made_end (end_at (Common BadToken) rest) _

added_end : (rest : List ℕ) → Alike (added_of Open rest) (added_from (skip_space rest))
unfolding added_from iri_from added_of
added_end rest = map_end (prefix_of Open (skip_space rest)) _ _ (λ p. map_end (prefix_iri_of Open (skip_space p.1)) _ _
    (λ i. both (made_end (graph_or_dot_of Open (skip_space i.1)) _) (graph_end (skip_space i.1))))

removed_end : (rest : List ℕ) → Alike (removed_of Open rest) (removed_from (skip_space rest))
unfolding removed_from removed_of
removed_end rest = map_end (prefix_of Open (skip_space rest)) _ _ (λ p. both (made_end (graph_or_dot_of Open (skip_space p.1)) _) (graph_end (skip_space p.1)))

parts_end : (c : Code) (rest : List ℕ) → Alike (parts_of Open c rest) (rest_from (first_part c) (skip_space rest))
unfolding parts_of
parts_end code.Header rest = header_end rest
parts_end code.Begin rest = bare_end change.Begin rest
parts_end code.Commit rest = bare_end change.Commit rest
parts_end code.Abort rest = bare_end change.Abort rest
parts_end code.PrefixAdd rest = added_end rest
parts_end code.PrefixDelete rest = removed_end rest
parts_end code.Add rest = both (made_end (quad_of Open rest) _) (quad_end rest)
parts_end code.Delete rest = both (made_end (quad_of Open rest) _) (quad_end rest)

word_again : (rest more letters after : List ℕ) → word_at rest ≡ Ok (letters, after) → word_at (rest ++ more) ≡ Ok (letters, after ++ more)
word_again rest more letters after e = went_on (letters, after) more _ (subst (λ (r : Read (List ℕ)). Keeps more r (word_at (rest ++ more))) e (word_stays more rest))

pub row_over : (rest more letters after : List ℕ) (c : Code) → word_at rest ≡ Ok (letters, after) → code_named letters ≡ Some c
    → AtEnd (live_row (rest ++ more)) ↔ AtEnd (rest_behind (Some (first_part c)) (after ++ more))
unfolding row_of
row_over rest more letters after c e named = rw (word_again rest more letters after e) (rw named (parts_end c (after ++ more)))

-- ---- a row whose code isn't read

pub row_open : (rest : List ℕ) → AtEnd (word_at rest) → AtEnd (live_row rest)
unfolding row_of
row_open rest a = end_then (word_at rest) _ a

pub word_fails : (rest : List ℕ) (f : Fault) → word_at rest ≡ Err f → live_row rest ≡ Err f
unfolding row_of
word_fails rest f e = rw e refl

pub no_code : (rest letters after : List ℕ) → word_at rest ≡ Ok (letters, after) → code_named letters ≡ None → live_row rest ≡ Err (UnknownCode, rest)
unfolding row_of
no_code rest letters after e named = rw e (rw named refl)
