-- What changes do to the lines of a dataset.
use Rattle.std.proofs.Common.{◌≡◌, ℕ, Bool, true, false, cond, List, [], ◌∷◌, ◌++◌, length, take, map, Option, Some, None, refl, sym, ap, subst, ◌∙◌, append_assoc, append-nil, length-append, arith, ◌⊎◌, inl, inr}
use Rattle.std.specs.Prelude.{is_some}
use Rattle.std.specs.Ordering.{nat_cmp, match_ordering, is_eq}
use Rattle.std.specs.declared.cmp.Ordering.{Ordering}
use Rattle.std.specs.declared.cmp.Ordering.TheVariants.{Less, Equal, Greater}
use Rattle.std.specs.Cmp.Lexicographic.{slice_cmp}
use Rattle.std.specs.BTreeSet.{insert_key}
use Rattle.std.specs.Set.{remove_key}
use Rattle.std.specs.List.{flat_map}
use Rattle.std.proofs.lemmas.List.{take-append-le}
use Rattle.std.proofs.lemmas.List.Concat.{flat_map-cons}
use Rattle.std.proofs.Math.Seq.{take-length}
use Rattle.line_log.specs.Edits.{edited, made}
use Rattle.line_log.proofs.Folds.{made_append}
use Rattle.rdf_terms.specs.declared.change.Change.{Change}
use Rattle.rdf_terms.specs.declared.change.Change.TheVariants.{Add, Delete, PrefixAdd, PrefixDelete, Begin, Commit, Abort}
use Rattle.rdf_terms.specs.declared.term.Term.{Term}
use Rattle.rdf_terms.specs.Line.{line, lines}
use Rattle.rdf_terms.specs.Quad.{Statement}
use Rattle.rdf_terms.specs.Dataset.{Dataset, apply, effect, effects, kept, kept_behind}
use Rattle.row_scan.specs.Found.{change_by}
use Rattle.stream_replay.specs.Edits.{AreEditsBehind, MakesLines, edits_by}

-- ---- a key goes in where its image goes in

map-insert_key : {A B : Type 0} (f : A → B) (R : B → B → Ordering) (xs : List A) (x : A) → map f (insert_key (λ a b. R (f a) (f b)) xs x) ≡ insert_key R (map f xs) (f x)
map-insert_key f R [] x = refl
map-insert_key f R (y ∷ ys) x =
    elim (R (f x) (f y)) as (λ o. map f (match_ordering o (x ∷ y ∷ ys) (y ∷ ys) (y ∷ insert_key (λ a b. R (f a) (f b)) ys x)) ≡ match_ordering o (f x ∷ f y ∷ map f ys) (f y ∷ map f ys) (f y ∷ insert_key R (map f ys) (f x))) [
      | Less ↦ refl
      | Equal ↦ refl
      | Greater ↦ ap (λ (l : List _). f y ∷ l) (map-insert_key f R ys x)
    ]

map-remove_key : {A B : Type 0} (f : A → B) (test : B → Bool) (xs : List A) → map f (remove_key (λ a. test (f a)) xs) ≡ remove_key test (map f xs)
map-remove_key f test [] = refl
map-remove_key f test (y ∷ ys) =
    elim (test (f y)) as (λ b. map f (cond b ys (y ∷ remove_key (λ a. test (f a)) ys)) ≡ cond b (map f ys) (f y ∷ remove_key test (map f ys))) [
      | true ↦ refl
      | false ↦ ap (λ (l : List _). f y ∷ l) (map-remove_key f test ys)
    ]

-- ---- one more change

effect_edited : (c : Change) (d : Dataset) → map line (effect c d).quads ≡ edited (edits_by c) (map line d.quads)
effect_edited (Add q) d = map-insert_key line (slice_cmp nat_cmp) d.quads q
effect_edited (Delete q) d = map-remove_key line (λ l. is_eq (slice_cmp nat_cmp (line q) l)) d.quads
effect_edited _ d = refl

makes_more : (c : Change) (d : Dataset) (edits : List (Bool × List ℕ)) → MakesLines edits d → MakesLines (edits ++ edits_by c) (effect c d)
makes_more c d edits makes = made_append edits (edits_by c) ∙ ap (edited (edits_by c)) makes ∙ sym (effect_edited c d)

effects-append : (cs ds : List Change) (d : Dataset) → effects (cs ++ ds) d ≡ effects ds (effects cs d)
effects-append [] ds d = refl
effects-append (c ∷ cs) ds d = effects-append cs ds (effect c d)

-- a change that neither begins nor ends a block
abbrev IsPlain : Change → Type 0
IsPlain c = ((more : List Change) → kept (c ∷ more) ≡ c ∷ kept more) × ((held more : List Change) → kept_behind held (c ∷ more) ≡ kept_behind (held ++ c ∷ []) more)

-- outside a block it is done at once
goes_on : (cs : List Change) (c : Change) (d after : Dataset) → ((more : List Change) → kept (c ∷ more) ≡ c ∷ kept more) → ((more : List Change) → apply (cs ++ more) d ≡ apply more after)
    → (more : List Change) → apply ((cs ++ c ∷ []) ++ more) d ≡ apply more (effect c after)
goes_on cs c d after plain all more =
    ap (λ (l : List Change). apply l d) (append_assoc cs (c ∷ []) more) ∙ all (c ∷ more) ∙ ap (λ (l : List Change). effects l after) (plain more)

plain_more : (block : Option ℕ) (cs : List Change) (c : Change) (d : Dataset) (es : List (Bool × List ℕ)) → IsPlain c → AreEditsBehind block cs d es → AreEditsBehind block (cs ++ c ∷ []) d (es ++ edits_by c)
plain_more None cs c d es plain (after, all, makes) = (effect c after, goes_on cs c d after plain.0 all, makes_more c after es makes)
plain_more (Some count) cs c d es plain (after, inside, all, front, whole, within) = (
  after,
  inside ++ c ∷ [],
  λ more. ap (λ (l : List Change). apply l d) (append_assoc cs (c ∷ []) more) ∙ all (c ∷ more) ∙ ap (λ (l : List Change). effects l after) (plain.1 inside more),
  subst (λ (l : List (Bool × List ℕ)). MakesLines l after) (sym (take-append-le count es (edits_by c) within)) front,
  subst (MakesLines (es ++ edits_by c)) (sym (effects-append inside (c ∷ []) after)) (makes_more c (effects inside after) es whole),
  omega (arith, within, length-append es (edits_by c)),
)

-- a quad is added or deleted
pub quad_more : (block : Option ℕ) (cs : List Change) (d : Dataset) (es new : List (Bool × List ℕ)) (adds : Bool) (bytes : List ℕ) (quad : Statement) → new ≡ es ++ (adds, bytes) ∷ [] → bytes ≡ line quad
    → AreEditsBehind block cs d es → AreEditsBehind block (cs ++ change_by adds quad ∷ []) d new
quad_more block cs d es new true bytes quad is of are =
    subst (AreEditsBehind block (cs ++ Add quad ∷ []) d) (sym (is ∙ ap (λ (l : List ℕ). es ++ (true, l) ∷ []) of)) (plain_more block cs (Add quad) d es ((λ more. refl), λ held more. refl) are)
quad_more block cs d es new false bytes quad is of are =
    subst (AreEditsBehind block (cs ++ Delete quad ∷ []) d) (sym (is ∙ ap (λ (l : List ℕ). es ++ (false, l) ∷ []) of)) (plain_more block cs (Delete quad) d es ((λ more. refl), λ held more. refl) are)

-- a change that does nothing to lines
silent_more : (block : Option ℕ) (cs : List Change) (c : Change) (d : Dataset) (es : List (Bool × List ℕ)) → IsPlain c → edits_by c ≡ [] → AreEditsBehind block cs d es → AreEditsBehind block (cs ++ c ∷ []) d es
silent_more block cs c d es plain none are =
    subst (AreEditsBehind block (cs ++ c ∷ []) d) (ap (λ (l : List (Bool × List ℕ)). es ++ l) none ∙ append-nil es) (plain_more block cs c d es plain are)

-- a prefix does nothing to lines
pub prefix_more : (block : Option ℕ) (cs : List Change) (c : Change) (d : Dataset) (es : List (Bool × List ℕ))
    → ((prefix iri : List ℕ) × (graph : Option Term) × (c ≡ PrefixAdd prefix iri graph)) ⊎ ((prefix : List ℕ) × (graph : Option Term) × (c ≡ PrefixDelete prefix graph))
    → AreEditsBehind block cs d es → AreEditsBehind block (cs ++ c ∷ []) d es
prefix_more block cs c d es (inl (prefix, iri, graph, is)) are =
    subst (λ (e : Change). AreEditsBehind block (cs ++ e ∷ []) d es) (sym is) (silent_more block cs (PrefixAdd prefix iri graph) d es ((λ more. refl), λ held more. refl) refl are)
prefix_more block cs c d es (inr (prefix, graph, is)) are =
    subst (λ (e : Change). AreEditsBehind block (cs ++ e ∷ []) d es) (sym is) (silent_more block cs (PrefixDelete prefix graph) d es ((λ more. refl), λ held more. refl) refl are)

-- ---- blocks

pub begun : (cs : List Change) (d : Dataset) (es : List (Bool × List ℕ)) (count : ℕ) → count ≡ length es → AreEditsBehind None cs d es → AreEditsBehind (Some count) (cs ++ Begin ∷ []) d es
begun cs d es count all (after, stand, makes) = (
  after,
  [],
  λ more. ap (λ (l : List Change). apply l d) (append_assoc cs (Begin ∷ []) more) ∙ stand (Begin ∷ more),
  subst (λ (l : List (Bool × List ℕ)). MakesLines l after) (sym (ap (λ (n : ℕ). take n es) all ∙ take-length es)) makes,
  makes,
  omega (arith, all),
)

-- a block begins inside another
pub begun_again : (block : Option ℕ) (cs : List Change) (d : Dataset) (es : List (Bool × List ℕ)) → is_some block ≡ true → AreEditsBehind block cs d es → AreEditsBehind block (cs ++ Begin ∷ []) d es
begun_again None cs d es some are = absurd cc
begun_again (Some count) cs d es some (after, inside, all, front, whole, within) = (
  after,
  inside ++ Begin ∷ [],
  λ more. ap (λ (l : List Change). apply l d) (append_assoc cs (Begin ∷ []) more) ∙ all (Begin ∷ more),
  front,
  subst (MakesLines es) (sym (effects-append inside (Begin ∷ []) after)) whole,
  within,
)

pub committed : (block : Option ℕ) (cs : List Change) (d : Dataset) (es : List (Bool × List ℕ)) → AreEditsBehind block cs d es → AreEditsBehind None (cs ++ Commit ∷ []) d es
committed None cs d es (after, all, makes) = (after, goes_on cs Commit d after (λ more. refl) all, makes)
committed (Some count) cs d es (after, inside, all, front, whole, within) = (
  effects inside after,
  λ more. ap (λ (l : List Change). apply l d) (append_assoc cs (Commit ∷ []) more) ∙ all (Commit ∷ more) ∙ effects-append inside (kept more) after,
  whole,
)

pub aborted : (block : Option ℕ) (cs : List Change) (d : Dataset) (es : List (Bool × List ℕ)) (count : ℕ) → block ≡ Some count → AreEditsBehind block cs d es → AreEditsBehind None (cs ++ Abort ∷ []) d (take count es)
aborted None cs d es count is are = absurd cc
aborted (Some n) cs d es count is (after, inside, all, front, whole, within) = (
  after,
  λ more. ap (λ (l : List Change). apply l d) (append_assoc cs (Abort ∷ []) more) ∙ all (Abort ∷ more),
  subst (λ (o : Option ℕ). MakesLines (take (or_zero o) es) after) is front,
)
  where
    or_zero : Option ℕ → ℕ
    or_zero None = 0
    or_zero (Some n) = n

pub aborted_outside : (block : Option ℕ) (cs : List Change) (d : Dataset) (es : List (Bool × List ℕ)) → ((count : ℕ) → block ≡ Some count → ⊥) → AreEditsBehind block cs d es → AreEditsBehind block (cs ++ Abort ∷ []) d es
aborted_outside None cs d es none (after, all, makes) = (after, goes_on cs Abort d after (λ more. refl) all, makes)
aborted_outside (Some count) cs d es none are = absurd (none count refl)

-- ---- a patch that is complete

-- where no more changes follow, its lines are made
pub all_made : (block : Option ℕ) (cs : List Change) (d : Dataset) (es : List (Bool × List ℕ)) → AreEditsBehind block cs d es → MakesLines es (apply cs d)
all_made None cs d es (after, all, makes) = subst (MakesLines es) (sym (ap (λ (l : List Change). apply l d) (sym (append-nil cs)) ∙ all [])) makes
all_made (Some count) cs d es (after, inside, all, front, whole, within) = subst (MakesLines es) (sym (ap (λ (l : List Change). apply l d) (sym (append-nil cs)) ∙ all [])) whole

pub none_yet : (d : Dataset) (es : List (Bool × List ℕ)) → MakesLines es d → AreEditsBehind None [] d es
none_yet d es makes = (d, λ more. refl, makes)

-- ---- the lines of a dataset

flat_by_map : {X : Type 0} (f : X → List ℕ) (xs : List X) → flat_map f xs ≡ flat_map (λ (l : List ℕ). l) (map f xs)
flat_by_map f [] = refl
flat_by_map f (x ∷ xs) = flat_map-cons f x xs ∙ ap (λ (l : List ℕ). f x ++ l) (flat_by_map f xs) ∙ sym (flat_map-cons (λ (l : List ℕ). l) (f x) (map f xs))

-- the bytes of the lines are the dataset's lines
pub joined_lines : (edits : List (Bool × List ℕ)) (d : Dataset) → MakesLines edits d → flat_map (λ (l : List ℕ). l) (made edits) ≡ lines d.quads
joined_lines edits d makes = ap (flat_map (λ (l : List ℕ). l)) makes ∙ sym (flat_by_map line d.quads)
