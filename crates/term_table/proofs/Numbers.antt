-- Numbers tell terms apart, and keep naming the same ones.
use Rattle.std.proofs.Common.{◌≡◌, ℕ, zero, suc, ◌<◌, ◌-◌, ◌+◌, ◌==◌, Bool, true, false, cond, not, ◌||◌, List, [], ◌∷◌, ◌++◌, length, Option, Some, None, refl, sym, ap, subst, ◌∙◌, arith}
use Rattle.std.specs.Prelude.{slice_get, position}
use mathlib.Core.Bool.{true≢false}
use Rattle.std.specs.Prelude.{nat_lt}
use Rattle.std.specs.List.{position_or_len, list_any, IsDistinct, AllByRecursion}
use Rattle.std.specs.Option.{option_map}
use Rattle.std.proofs.lemmas.Slice.Eq.{bytes_eq-Decides}
use Rattle.std.proofs.lemmas.Bool.{and_parts, and_from}
use Rattle.rdf_terms.specs.declared.term.LiteralKind.{LiteralKind}
use Rattle.rdf_terms.specs.declared.term.LiteralKind.TheVariants.{Plain, Typed, Tagged}
use Rattle.rdf_terms.specs.declared.term.Literal.{Literal}
use Rattle.rdf_terms.specs.declared.term.Term.{Term}
use Rattle.rdf_terms.specs.declared.term.Term.TheVariants as term
use Rattle.rdf_terms.specs.contracts.term.LiteralKindPartialEq as kinds_eq
use Rattle.std.specs.Str.{bytes_eq}
use Rattle.std.specs.Cmp.{IsEquivalence, both_ways}
use Rattle.std.proofs.lemmas.Map.Keys.{IsDistinct-push}
use Rattle.std.proofs.lemmas.List.Quantifiers.{position-Some}
use Rattle.std.proofs.lemmas.Option.{slice_get-get_or}
use Rattle.std.proofs.Common.{get_or}
use Rattle.term_table.specs.Table.{same, term_numbered, number_in}

-- ---- the same parts

same_kind : (a b : LiteralKind) → kinds_eq.TheImpl.ghosts.eq a b ≡ true → a ≡ b
same_kind Plain Plain e = refl
same_kind (Typed a) (Typed b) e = ap Typed ((bytes_eq-Decides a b).0 e)
same_kind (Tagged a) (Tagged b) e = ap Tagged ((bytes_eq-Decides a b).0 e)
same_kind Plain (Typed b) e = absurd (true≢false (sym e))
same_kind Plain (Tagged b) e = absurd (true≢false (sym e))
same_kind (Typed a) Plain e = absurd (true≢false (sym e))
same_kind (Typed a) (Tagged b) e = absurd (true≢false (sym e))
same_kind (Tagged a) Plain e = absurd (true≢false (sym e))
same_kind (Tagged a) (Typed b) e = absurd (true≢false (sym e))

same_literal : (a b : Literal) → (bytes_eq a.lexical b.lexical ≡ true) × (kinds_eq.TheImpl.ghosts.eq a.kind b.kind ≡ true) → a ≡ b
same_literal a b h =
    ap (λ (l : List ℕ). record { lexical = l; kind = a.kind }) ((bytes_eq-Decides a.lexical b.lexical).0 h.0)
    ∙ ap (λ (k : LiteralKind). record { lexical = b.lexical; kind = k }) (same_kind a.kind b.kind h.1)

pub same_exact : (a b : Term) → same a b ≡ true → a ≡ b
same_exact (term.Iri a) (term.Iri b) e = ap term.Iri ((bytes_eq-Decides a b).0 e)
same_exact (term.Blank a) (term.Blank b) e = ap term.Blank ((bytes_eq-Decides a b).0 e)
same_exact (term.Literal a) (term.Literal b) e = ap term.Literal (same_literal a b (and_parts (bytes_eq a.lexical b.lexical) _ e))
same_exact (term.Iri a) (term.Blank b) e = absurd (true≢false (sym e))
same_exact (term.Iri a) (term.Literal b) e = absurd (true≢false (sym e))
same_exact (term.Blank a) (term.Iri b) e = absurd (true≢false (sym e))
same_exact (term.Blank a) (term.Literal b) e = absurd (true≢false (sym e))
same_exact (term.Literal a) (term.Iri b) e = absurd (true≢false (sym e))
same_exact (term.Literal a) (term.Blank b) e = absurd (true≢false (sym e))

pub same_refl : (a : Term) → same a a ≡ true
same_refl (term.Iri a) = (bytes_eq-Decides a a).1 refl
same_refl (term.Blank a) = (bytes_eq-Decides a a).1 refl
same_refl (term.Literal a) = and_from _ _ ((bytes_eq-Decides a.lexical a.lexical).1 refl) (kind_refl a.kind)
  where
    kind_refl : (k : LiteralKind) → kinds_eq.TheImpl.ghosts.eq k k ≡ true
    kind_refl Plain = refl
    kind_refl (Typed a) = (bytes_eq-Decides a a).1 refl
    kind_refl (Tagged a) = (bytes_eq-Decides a a).1 refl

-- ---- the term of a number

pub term_at_next : (terms : List Term) (i : ℕ) → term_numbered terms (i + 1) ≡ slice_get terms i
term_at_next terms i = let e : ((i + 1) == 0) ≡ false = grind arith in let f : (i + 1) - 1 ≡ i = omega arith in rw (e, f) refl

named_at : (terms : List Term) (t : Term) (p : Option ℕ) (n : ℕ) → position (same t) terms ≡ p → option_map (λ at. at + 1) p ≡ Some n → term_numbered terms n ≡ Some t
named_at terms t None n e f = absurd cc
named_at terms t (Some i) n e f =
    let found = position-Some (same t) terms i t e in
    let whole : Some (i + 1) ≡ Some n = f in
    let number : i + 1 ≡ n = cc in
    subst (λ (m : ℕ). term_numbered terms m ≡ Some t) number
    (term_at_next terms i ∙ slice_get-get_or terms i t found.0 ∙ ap Some (sym (same_exact t (get_or terms i t) found.1)))

-- a number names its term
pub named : (terms : List Term) (t : Term) (n : ℕ) → number_in terms t ≡ Some n → term_numbered terms n ≡ Some t
named terms t n e = named_at terms t (position (same t) terms) n refl e

-- ---- each term has one number

unlike : (x y : Term) (xs : List Term) (i : ℕ) → AllByRecursion (λ z. same x z ≡ false) xs → slice_get xs i ≡ Some y → x ≡ y → ⊥
unlike x y [] i a e same = absurd cc
unlike x y (z ∷ zs) zero a e is =
    let whole : Some z ≡ Some y = e in
    let there : z ≡ y = cc in
    true≢false (sym (same_refl x) ∙ ap (same x) (is ∙ sym there) ∙ a.0)
unlike x y (z ∷ zs) (suc i) a e is = unlike x y zs i a.1 e is

one_place : (xs : List Term) (i j : ℕ) (x : Term) → IsDistinct same xs → slice_get xs i ≡ Some x → slice_get xs j ≡ Some x → i ≡ j
unfolding IsDistinct
one_place [] i j x d e f = absurd cc
one_place (y ∷ ys) zero zero x d e f = refl
one_place (y ∷ ys) zero (suc j) x d e f = let whole : Some y ≡ Some x = e in let is : y ≡ x = cc in absurd (unlike y x ys j d.0 f is)
one_place (y ∷ ys) (suc i) zero x d e f = let whole : Some y ≡ Some x = f in let is : y ≡ x = cc in absurd (unlike y x ys i d.0 e is)
one_place (y ∷ ys) (suc i) (suc j) x d e f = ap suc (one_place ys i j x d.1 e f)

pub one_number : (terms : List Term) (m n : ℕ) (t : Term) → IsDistinct same terms → term_numbered terms m ≡ Some t → term_numbered terms n ≡ Some t → m ≡ n
one_number terms zero n t d e f = absurd cc
one_number terms (suc m) zero t d e f = absurd cc
one_number terms (suc m) (suc n) t d e f = ap suc (one_place terms m n t d (sym (at_suc terms m) ∙ e) (sym (at_suc terms n) ∙ f))
  where
    at_suc : (terms : List Term) (i : ℕ) → term_numbered terms (suc i) ≡ slice_get terms i
    at_suc terms i = let e : (suc i == 0) ≡ false = grind arith in let f : suc i - 1 ≡ i = omega arith in rw (e, f) refl

-- ---- a number names the same term when more have come

slice_grows : (xs more : List Term) (i : ℕ) (x : Term) → slice_get xs i ≡ Some x → slice_get (xs ++ more) i ≡ Some x
slice_grows [] more i x e = absurd cc
slice_grows (y ∷ ys) more zero x e = e
slice_grows (y ∷ ys) more (suc i) x e = slice_grows ys more i x e

pub stays : (xs more : List Term) (n : ℕ) (t : Term) → term_numbered xs n ≡ Some t → term_numbered (xs ++ more) n ≡ Some t
stays xs more n t e = by (n == 0) e
  where
    by : (b : Bool) → cond b None (slice_get xs (n - 1)) ≡ Some t → cond b None (slice_get (xs ++ more) (n - 1)) ≡ Some t
    by true h = absurd cc
    by false h = slice_grows xs more (n - 1) t h

-- ---- a new term joins the others

pub same_laws : IsEquivalence same
same_laws = record {
  refl = same_refl;
  symm = λ a b. both_ways _ _ (λ h. ap (same b) (same_exact a b h) ∙ same_refl b) (λ h. ap (same a) (same_exact b a h) ∙ same_refl a);
  congr = λ a b c h. ap (λ x. same x c) (same_exact a b h);
}

pub with_new : (xs : List Term) (t : Term) → IsDistinct same xs → list_any (same t) xs ≡ false → IsDistinct same (xs ++ t ∷ [])
with_new xs t d n = IsDistinct-push same_laws xs t d n

-- ---- a term without a number is new

within : (p : Term → Bool) (xs : List Term) → list_any p xs ≡ true → position_or_len p xs < length xs
within p [] h = absurd (true≢false (sym h))
within p (x ∷ xs) h = by (p x) h (within p xs)
  where
    by : (b : Bool) → (b || list_any p xs) ≡ true → (list_any p xs ≡ true → position_or_len p xs < length xs) → cond (not b) (1 + position_or_len p xs) 0 < length (x ∷ xs)
    by true g f = omega arith
    by false g f = let i = f g in omega arith

found : (p : Term → Bool) (xs : List Term) → list_any p xs ≡ true → position p xs ≡ None → ⊥
found p xs h e = let i = within p xs h in by (nat_lt (position_or_len p xs) (length xs)) refl e
  where
    by : (b : Bool) → nat_lt (position_or_len p xs) (length xs) ≡ b → cond b (Some (position_or_len p xs)) None ≡ None → ⊥
    by true g k = cc
    by false g k = let i = within p xs h in grind arith

pub is_new : (xs : List Term) (t : Term) → number_in xs t ≡ None → list_any (same t) xs ≡ false
is_new xs t e = by (list_any (same t) xs) refl
  where
    no_place : (p : Option ℕ) → option_map (λ at. at + 1) p ≡ None → p ≡ None
    no_place None h = refl
    no_place (Some i) h = absurd cc

    by : (b : Bool) → list_any (same t) xs ≡ b → b ≡ false
    by false g = refl
    by true g = absurd (found (same t) xs g (no_place (position (same t) xs) e))
