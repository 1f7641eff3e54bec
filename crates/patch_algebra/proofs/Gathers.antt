-- One more change in front of those that were gathered, over plain variables.
use Rattle.std.proofs.Common.{◌≡◌, ℕ, Bool, true, false, cond, not, ◌||◌, List, [], ◌∷◌, ◌++◌, map, Option, None, Some, refl, sym, ap, subst, ◌∙◌}
use mathlib.Core.Bool.{true≢false}
use Rattle.std.specs.Prelude.{Result, Ok, Err, OnOk, Vec}
use Rattle.std.specs.declared.alloc.Global.{Global}
use Rattle.std.specs.List.{filter, list_any}
use Rattle.std.specs.Cmp.Lexicographic.{slice_cmp, nat_list_cmp_total}
use Rattle.std.specs.Ordering.{eq_by_cmp, nat_cmp, is_eq, match_ordering}
use Rattle.std.specs.declared.cmp.Ordering.{Ordering}
use Rattle.std.specs.declared.cmp.Ordering.TheVariants.{Less, Equal, Greater}
use Rattle.std.specs.BTreeSet.{insert_key}
use Rattle.std.proofs.lemmas.Map.Lookups.{exact_bytes}
use Rattle.rdf_terms.specs.Dataset.{Dataset}
use Rattle.rdf_terms.specs.Line.{line, quoted, graph_text}
use Rattle.rdf_terms.specs.declared.change.Change.{Change}
use Rattle.rdf_terms.specs.declared.change.Change.TheVariants.{Add, Delete, PrefixAdd, PrefixDelete, Begin, Commit, Abort}
use Rattle.rdf_terms.specs.declared.term.Term.{Term}
use Rattle.patch_rows.specs.declared.row.Row.{Row}
use Rattle.patch_rows.specs.declared.row.Row.TheVariants as row
use Rattle.patch_rows.specs.Fault.{Fault}
use Rattle.patch_rows.specs.Printing.{IsWellPlaced}
use Rattle.patch_rows.specs.Rows.{row_at}
use Rattle.patch_rows.proofs.WholeRow.{exact_row}
use Rattle.net_changes.specs.Keys.{ChangeKey, of_quad, of_prefix, of_nothing, change_key, same_key, iri_of}
use Rattle.net_changes.specs.Net.{alters, prefix_restored}
use Rattle.net_changes.specs.Writes.{is_written, last_writes, insert_sorted, insertion_sort}
use Rattle.net_changes.proofs.Datasets.{key_laws}
use Rattle.net_changes.proofs.Sets.{has-insert}
use Rattle.net_changes.proofs.Writing.{kept_unnamed, last_named, ordered_named}
use Rattle.net_changes.specs.Keys.{left_by}
use Rattle.patch_algebra.specs.declared.gathering.Direction.{Direction}
use Rattle.patch_algebra.specs.declared.gathering.Direction.TheVariants.{Forth, Back}
use Rattle.patch_algebra.specs.declared.gathering.Gathering.{Gathering}
use Rattle.patch_algebra.specs.Gathered.{turned, gathered, set_of, AreGathered}
use Rattle.patch_algebra.specs.Names.{name_bytes}
use Rattle.patch_algebra.specs.Nets.{net_cmp, ranked_row}
use Rattle.patch_algebra.specs.Written.{HaveRows}
use Rattle.patch_rows.proofs.Printed.{printed_row}
use Rattle.printed_rows.specs.Printed.{IsPrintedRow, printed_line}

abbrev same_text : List ℕ → List ℕ → Bool
same_text = eq_by_cmp (slice_cmp nat_cmp)

-- ---- names are keys

abbrev key_name : ChangeKey → List ℕ
key_name (of_quad q) = 81 ∷ line q
key_name (of_prefix p) = 80 ∷ (quoted p.1 ++ graph_text p.0)
key_name of_nothing = []

name_is : (c : Change) → key_name (change_key c) ≡ name_bytes c
name_is (Add q) = refl
name_is (Delete q) = refl
name_is (PrefixAdd p i g) = refl
name_is (PrefixDelete p g) = refl
name_is Begin = refl
name_is Commit = refl
name_is Abort = refl

same_names : (k l : ChangeKey) → same_key k l ≡ same_text (key_name k) (key_name l)
same_names (of_quad q) (of_quad r) = refl
same_names (of_quad q) (of_prefix p) = refl
same_names (of_quad q) of_nothing = refl
same_names (of_prefix p) (of_quad q) = refl
same_names (of_prefix p) (of_prefix r) = refl
same_names (of_prefix p) of_nothing = refl
same_names of_nothing (of_quad q) = refl
same_names of_nothing (of_prefix p) = refl
same_names of_nothing of_nothing = refl

written_named : (c : Change) (cs : List Change) → is_written change_key same_key (change_key c) cs ≡ list_any (same_text (name_bytes c)) (map name_bytes cs)
written_named c [] = refl
written_named c (x ∷ cs) =
    let one : same_key (change_key x) (change_key c) ≡ same_text (name_bytes c) (name_bytes x) =
    key_laws.symm (change_key x) (change_key c) ∙ same_names (change_key c) (change_key x) ∙ ap (λ (l : List ℕ). same_text l (key_name (change_key x))) (name_is c) ∙ ap (same_text (name_bytes c)) (name_is x) in
    ap (λ b. b || is_written change_key same_key (change_key c) cs) one ∙ ap (λ b. same_text (name_bytes c) (name_bytes x) || b) (written_named c cs)

set_has : (q : List ℕ) (texts : List (List ℕ)) → list_any (same_text q) (set_of texts) ≡ list_any (same_text q) texts
set_has q [] = refl
set_has q (t ∷ texts) = has-insert nat_list_cmp_total t q (set_of texts) ∙ ap (λ b. same_text q t || b) (set_has q texts)

-- whether a name is among those that were met
pub met_before : (c : Change) (cs : List Change) (met : List (List ℕ)) → met ≡ set_of (map name_bytes cs) → list_any (same_text (name_bytes c)) met ≡ is_written change_key same_key (change_key c) cs
met_before c cs met e = ap (list_any (same_text (name_bytes c))) e ∙ set_has (name_bytes c) (map name_bytes cs) ∙ sym (written_named c cs)

-- ---- what is gathered with one more

module _ (direction : Direction) (d : Dataset) (c : Change) (cs : List Change) where
  abbrev from : List Change → List Change
  from l = insertion_sort net_cmp (map (turned direction d) (filter (alters d) l))

  pub again : is_written change_key same_key (change_key c) cs ≡ true → gathered direction d (c ∷ cs) ≡ gathered direction d cs
  again w = ap (λ b. from (cond b (last_writes change_key same_key cs) (c ∷ last_writes change_key same_key cs))) w

  new : is_written change_key same_key (change_key c) cs ≡ false → gathered direction d (c ∷ cs) ≡ from (c ∷ last_writes change_key same_key cs)
  new w = ap (λ b. from (cond b (last_writes change_key same_key cs) (c ∷ last_writes change_key same_key cs))) w

  pub idle : is_written change_key same_key (change_key c) cs ≡ false → alters d c ≡ false → gathered direction d (c ∷ cs) ≡ gathered direction d cs
  idle w a = new w ∙ ap (λ b. insertion_sort net_cmp (map (turned direction d) (cond b (c ∷ filter (alters d) (last_writes change_key same_key cs)) (filter (alters d) (last_writes change_key same_key cs))))) a

  pub one_more : is_written change_key same_key (change_key c) cs ≡ false → alters d c ≡ true → gathered direction d (c ∷ cs) ≡ insert_sorted net_cmp (turned direction d c) (gathered direction d cs)
  one_more w a = new w ∙ ap (λ b. insertion_sort net_cmp (map (turned direction d) (cond b (c ∷ filter (alters d) (last_writes change_key same_key cs)) (filter (alters d) (last_writes change_key same_key cs))))) a

-- ---- rows are told apart

ok_is : (a b : Row × List ℕ) → ◌≡◌ {A = Result (Row × List ℕ) Fault} (Ok a) (Ok b) → a ≡ b
ok_is a b e = cc

rows_told : (r s : Row) → IsPrintedRow r → IsPrintedRow s → printed_line r ≡ printed_line s → r ≡ s
rows_told r s p q e =
    let one = (exact_row (printed_line r ++ [])).again (r, 10 ∷ []) (printed_row r (printed_line r) [] refl p.value p.writable) in
    let two = (exact_row (printed_line s ++ [])).again (s, 10 ∷ []) (printed_row s (printed_line s) [] refl q.value q.writable) in
    ap (λ (x : Row × List ℕ). x.0) (ok_is (r, 10 ∷ []) (s, 10 ∷ []) (sym one ∙ ap (λ (l : List ℕ). row_at (l ++ [])) e ∙ two))

changes_told : (a b : Change) → IsPrintedRow (row.Change a) → IsPrintedRow (row.Change b) → net_cmp a b ≡ Equal → a ≡ b
changes_told a b p q e =
    let bytes = exact_bytes (ranked_row a) (ranked_row b) e in
    let lines : printed_line (row.Change a) ≡ printed_line (row.Change b) = cc in
    let rows = rows_told (row.Change a) (row.Change b) p q lines in
    cc

-- ---- a row goes in where its change does

pub put_row : (x : Change) (G : List Change) → is_written change_key same_key (change_key x) G ≡ false → IsPrintedRow (row.Change x) → HaveRows G → insert_key (slice_cmp nat_cmp) (map ranked_row G) (ranked_row x) ≡ map ranked_row (insert_sorted net_cmp x G)
put_row x [] w p h = refl
put_row x (y ∷ G) w p h = by (net_cmp x y) refl (put_row x G)
  where
    first : (a b : Bool) → (a || b) ≡ false → (a ≡ false) × (b ≡ false)
    first true b e = absurd (true≢false e)
    first false b e = (refl, e)

    by : (o : Ordering) → net_cmp x y ≡ o → (is_written change_key same_key (change_key x) G ≡ false → IsPrintedRow (row.Change x) → HaveRows G → insert_key (slice_cmp nat_cmp) (map ranked_row G) (ranked_row x) ≡ map ranked_row (insert_sorted net_cmp x G))
        → match_ordering o (ranked_row x ∷ ranked_row y ∷ map ranked_row G) (ranked_row y ∷ map ranked_row G) (ranked_row y ∷ insert_key (slice_cmp nat_cmp) (map ranked_row G) (ranked_row x)) ≡ map ranked_row (match_ordering o (x ∷ y ∷ G) (x ∷ y ∷ G) (y ∷ insert_sorted net_cmp x G))
    by Less e r = refl
    by Equal e r =
        let same = changes_told x y p h.0 e in
        let both = first (same_key (change_key y) (change_key x)) (is_written change_key same_key (change_key x) G) w in
        absurd (true≢false (sym (key_laws.refl (change_key x)) ∙ ap (λ (c : Change). same_key (change_key c) (change_key x)) same ∙ both.0))
    by Greater e r =
        let both = first (same_key (change_key y) (change_key x)) (is_written change_key same_key (change_key x) G) w in
        ap (λ (l : List (List ℕ)). ranked_row y ∷ l) (r both.1 p h.1)

-- ---- keys stay when changes are undone

restored_key : (p : List ℕ) (g : Option Term) (o : Option (List ℕ)) → change_key (prefix_restored p g o) ≡ of_prefix (g, p)
restored_key p g None = refl
restored_key p g (Some iri) = refl

turned_key : (direction : Direction) (d : Dataset) (c : Change) → change_key (turned direction d c) ≡ change_key c
turned_key Forth d c = refl
turned_key Back d (Add q) = refl
turned_key Back d (Delete q) = refl
turned_key Back d (PrefixAdd p i g) = restored_key p g (iri_of d (g, p))
turned_key Back d (PrefixDelete p g) = restored_key p g (iri_of d (g, p))
turned_key Back d Begin = refl
turned_key Back d Commit = refl
turned_key Back d Abort = refl

turned_named : (direction : Direction) (d : Dataset) (k : ChangeKey) (cs : List Change) → is_written change_key same_key k (map (turned direction d) cs) ≡ is_written change_key same_key k cs
turned_named direction d k [] = refl
turned_named direction d k (c ∷ cs) =
    ap (λ l. same_key l k || is_written change_key same_key k (map (turned direction d) cs)) (turned_key direction d c) ∙ ap (λ b. same_key (change_key c) k || b) (turned_named direction d k cs)

-- what is gathered isn't about what no change is about
pub unnamed : (direction : Direction) (d : Dataset) (c : Change) (cs : List Change) → is_written change_key same_key (change_key c) cs ≡ false → is_written change_key same_key (change_key (turned direction d c)) (gathered direction d cs) ≡ false
unnamed direction d c cs w =
    let k = change_key c in let last = last_writes change_key same_key cs in let some = filter (alters d) last in
    ap (λ (l : ChangeKey). is_written change_key same_key l (gathered direction d cs)) (turned_key direction d c)
    ∙ ordered_named change_key left_by key_laws net_cmp k (map (turned direction d) some)
    ∙ turned_named direction d k some
    ∙ kept_unnamed change_key left_by key_laws k (alters d) last (last_named change_key left_by key_laws k cs ∙ w)

-- what is undone may stand where it did
restored_placed : (p : List ℕ) (g : Option Term) (o : Option (List ℕ)) → IsWellPlaced (PrefixDelete p g) → IsWellPlaced (prefix_restored p g o)
restored_placed p g None w = w
restored_placed p g (Some iri) w = w

pub turned_placed : (direction : Direction) (d : Dataset) (c : Change) → IsWellPlaced c → IsWellPlaced (turned direction d c)
turned_placed Forth d c w = w
turned_placed Back d (Add q) w = w
turned_placed Back d (Delete q) w = w
turned_placed Back d (PrefixAdd p i g) w = restored_placed p g (iri_of d (g, p)) w
turned_placed Back d (PrefixDelete p g) w = restored_placed p g (iri_of d (g, p)) w
turned_placed Back d Begin w = w
turned_placed Back d Commit w = w
turned_placed Back d Abort w = w

pub put_printed : (x : Change) (G : List Change) → IsPrintedRow (row.Change x) → HaveRows G → HaveRows (insert_sorted net_cmp x G)
put_printed x [] p h = (p, tt)
put_printed x (y ∷ G) p h = by (net_cmp x y) (put_printed x G p h.1)
  where
    by : (o : Ordering) → HaveRows (insert_sorted net_cmp x G) → HaveRows (match_ordering o (x ∷ y ∷ G) (x ∷ y ∷ G) (y ∷ insert_sorted net_cmp x G))
    by Less r = (p, h)
    by Equal r = (p, h)
    by Greater r = (h.0, r)

-- ---- rows in a set

rows_into : (keys : List (Vec ℕ Global)) (x : Vec ℕ Global) → map (λ (b : Vec ℕ Global). b.items) (insert_key (λ (a b : Vec ℕ Global). slice_cmp nat_cmp a.items b.items) keys x) ≡ insert_key (slice_cmp nat_cmp) (map (λ (b : Vec ℕ Global). b.items) keys) x.items
rows_into [] x = refl
rows_into (y ∷ keys) x = by (slice_cmp nat_cmp x.items y.items) (rows_into keys x)
  where
    by : (o : Ordering) → map (λ (b : Vec ℕ Global). b.items) (insert_key (λ (a b : Vec ℕ Global). slice_cmp nat_cmp a.items b.items) keys x) ≡ insert_key (slice_cmp nat_cmp) (map (λ (b : Vec ℕ Global). b.items) keys) x.items
        → map (λ (b : Vec ℕ Global). b.items) (match_ordering o (x ∷ y ∷ keys) (y ∷ keys) (y ∷ insert_key (λ (a b : Vec ℕ Global). slice_cmp nat_cmp a.items b.items) keys x))
        ≡ match_ordering o (x.items ∷ y.items ∷ map (λ (b : Vec ℕ Global). b.items) keys) (y.items ∷ map (λ (b : Vec ℕ Global). b.items) keys) (y.items ∷ insert_key (slice_cmp nat_cmp) (map (λ (b : Vec ℕ Global). b.items) keys) x.items)
    by Less h = refl
    by Equal h = refl
    by Greater h = ap (λ (l : List (List ℕ)). y.items ∷ l) h

pub rows_inserted : (keys new : List (Vec ℕ Global)) (x : Vec ℕ Global) (bytes : List ℕ) → new ≡ insert_key (λ (a b : Vec ℕ Global). slice_cmp nat_cmp a.items b.items) keys x → x.items ≡ bytes
    → map (λ (b : Vec ℕ Global). b.items) new ≡ insert_key (slice_cmp nat_cmp) (map (λ (b : Vec ℕ Global). b.items) keys) bytes
rows_inserted keys new x bytes e is =
    ap (map (λ (b : Vec ℕ Global). b.items)) e ∙ rows_into keys x ∙ ap (insert_key (slice_cmp nat_cmp) (map (λ (b : Vec ℕ Global). b.items) keys)) is

rows_have : (q : List ℕ) (keys : List (Vec ℕ Global)) → list_any (λ (b : Vec ℕ Global). is_eq (slice_cmp nat_cmp q b.items)) keys ≡ list_any (same_text q) (map (λ (b : Vec ℕ Global). b.items) keys)
rows_have q [] = refl
rows_have q (x ∷ keys) = ap (λ b. is_eq (slice_cmp nat_cmp q x.items) || b) (rows_have q keys)

-- ---- a change that is met

-- whether the name that came is new
pub is_new : (added : Bool) (c : Change) (cs : List Change) (keys : List (Vec ℕ Global)) (name : Vec ℕ Global) → added ≡ not (list_any (λ (b : Vec ℕ Global). is_eq (slice_cmp nat_cmp name.items b.items)) keys) → name.items ≡ name_bytes c
    → map (λ (b : Vec ℕ Global). b.items) keys ≡ set_of (map name_bytes cs) → added ≡ not (is_written change_key same_key (change_key c) cs)
is_new added c cs keys name e is met =
    e ∙ ap not (rows_have name.items keys ∙ ap (λ (q : List ℕ). list_any (same_text q) (map (λ (b : Vec ℕ Global). b.items) keys)) is ∙ met_before c cs (map (λ (b : Vec ℕ Global). b.items) keys) met)

turn_false : (b : Bool) → true ≡ not b → b ≡ false
turn_false true e = absurd (true≢false e)
turn_false false e = refl

turn_true : (b : Bool) → false ≡ not b → b ≡ true
turn_true true e = refl
turn_true false e = absurd (true≢false (sym e))

pub is_first : (added b : Bool) → added ≡ true → added ≡ not b → b ≡ false
is_first added b t e = turn_false b (sym t ∙ e)

pub is_later : (added b : Bool) → added ≡ false → added ≡ not b → b ≡ true
is_later added b f e = turn_true b (sym f ∙ e)

module _ (d : Dataset) (c : Change) (cs : List Change) (g : Gathering) (met : List (Vec ℕ Global)) (met_is : map (λ (b : Vec ℕ Global). b.items) met ≡ set_of (name_bytes c ∷ map name_bytes cs)) (h : AreGathered d cs g) where
  -- nothing new is gathered
  pub still_gathered : (new : Gathering) → new.met.keys ≡ met → new.rows.keys ≡ g.rows.keys → new.direction ≡ g.direction → gathered g.direction d (c ∷ cs) ≡ gathered g.direction d cs → AreGathered d (c ∷ cs) new
  still_gathered new m r w same = record {
    met_is = ap (map (λ (b : Vec ℕ Global). b.items)) m ∙ met_is;
    rows_are = ap (map (λ (b : Vec ℕ Global). b.items)) r ∙ h.rows_are ∙ ap (map ranked_row) (sym same ∙ ap (λ (x : Direction). gathered x d (c ∷ cs)) (sym w));
    printed = subst HaveRows (sym same ∙ ap (λ (x : Direction). gathered x d (c ∷ cs)) (sym w)) h.printed;
  }

  -- one more is gathered
  pub more_gathered : (new : Gathering) → new.met.keys ≡ met → new.direction ≡ g.direction → map (λ (b : Vec ℕ Global). b.items) new.rows.keys ≡ insert_key (slice_cmp nat_cmp) (map (λ (b : Vec ℕ Global). b.items) g.rows.keys) (ranked_row (turned g.direction d c))
      → is_written change_key same_key (change_key c) cs ≡ false → alters d c ≡ true → IsPrintedRow (row.Change (turned g.direction d c)) → AreGathered d (c ∷ cs) new
  more_gathered new m w r n a p =
      let G = gathered g.direction d cs in let x = turned g.direction d c in
      let all = one_more g.direction d c cs n a in
      let way = ap (λ (y : Direction). gathered y d (c ∷ cs)) (sym w) in record {
        met_is = ap (map (λ (b : Vec ℕ Global). b.items)) m ∙ met_is;
        rows_are = r ∙ ap (λ (l : List (List ℕ)). insert_key (slice_cmp nat_cmp) l (ranked_row x)) h.rows_are ∙ put_row x G (unnamed g.direction d c cs n) p h.printed ∙ ap (map ranked_row) (sym all ∙ way);
        printed = subst HaveRows (sym all ∙ way) (put_printed x G p h.printed);
      }

pub both_ok : {T E P Q S : Type 0} (r : Result T E) → (P → Q → S) → OnOk r P → OnOk r Q → OnOk r S
both_ok (Ok t) f p q = f p q
both_ok (Err e) f p q = tt
