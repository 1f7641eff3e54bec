-- A label, character by character.
use Rattle.std.proofs.Common.{◌≡◌, ℕ, Bool, true, false, cond, ◌||◌, not, List, [], ◌∷◌, ◌++◌, Option, Some, None, nat_eq, refl, sym, ap, subst, ◌∙◌}
use Rattle.std.specs.List.{list_all}
use Rattle.std.specs.Option.{MatchOption}
use Rattle.std.specs.Str.{chars, IsUtf8}
use Rattle.std.proofs.lemmas.Bool.{and_parts, false≢true, eqb-true}
use Rattle.std.proofs.lemmas.List.Folds.{list_all-append}
use Rattle.std.proofs.lemmas.Str.{encodes-chars, scalars-chars}
use Rattle.rdf_terms.specs.Fit.{Begins, FirstMisfit, StopsFitting}
use Rattle.rdf_terms.specs.Names.{is_name_char, begins_name, is_name_start}
use Rattle.rdf_terms.specs.Label.{is_inner, AreInner, LabelChars, IsLabel, may_follow, may_end}
use Rattle.rdf_terms.proofs.Misfits.{misfit, spotted}

abbrev pub step : Option ℕ → ℕ → Option (Option ℕ)
step last c = cond (may_follow last c) (Some (Some c)) None

-- what was read before a last character
abbrev Front : Option ℕ → List ℕ → Type 0
Front None front = front ≡ []
Front (Some last) front = (first : ℕ) × (cs : List ℕ) × (front ≡ first ∷ cs) × (begins_name first ≡ true) × (list_all is_inner cs ≡ true)
    × (nat_eq last 46 ≡ false → AreInner cs) × (nat_eq last 46 ≡ true → AreInner cs → ⊥)

letter_begins : begins_name 97 ≡ true
unfolding is_name_start
letter_begins = refl

letter_ends : is_name_char 97 ≡ true
unfolding is_name_char
letter_ends = refl

dot_begins_none : begins_name 46 ≡ true → ⊥
unfolding is_name_start
dot_begins_none e = false≢true e

dot_ends_none : is_name_char 46 ≡ true → ⊥
unfolding is_name_char
dot_ends_none e = false≢true e

-- ---- characters behind the first

inner_pushed : (cs : List ℕ) (c : ℕ) → list_all is_inner cs ≡ true → is_inner c ≡ true → list_all is_inner (cs ++ c ∷ []) ≡ true
inner_pushed cs c all one = rw (list_all-append is_inner cs (c ∷ []), all, one) refl

ends_in : (cs : List ℕ) (c : ℕ) → list_all is_inner cs ≡ true → is_name_char c ≡ true → AreInner (cs ++ c ∷ [])
ends_in [] c all name = name
ends_in (d ∷ []) c all name = ((and_parts (is_inner d) true all).0, name)
ends_in (d ∷ e ∷ cs) c all name = let p = and_parts (is_inner d) (list_all is_inner (e ∷ cs)) all in (p.0, ends_in (e ∷ cs) c p.1 name)

last_of : (cs : List ℕ) (c : ℕ) → AreInner (cs ++ c ∷ []) → is_name_char c ≡ true
last_of [] c i = i
last_of (d ∷ []) c i = i.1
last_of (d ∷ e ∷ cs) c i = last_of (e ∷ cs) c i.1

name_is_inner : (c : ℕ) → is_name_char c ≡ true → is_inner c ≡ true
name_is_inner c e = by (nat_eq c 46) e
  where
    by : (dot : Bool) → is_name_char c ≡ true → (dot || is_name_char c) ≡ true
    by true e = refl
    by false e = e

first_of : (c : ℕ) (more : List ℕ) → AreInner (c ∷ more) → is_inner c ≡ true
first_of c [] i = name_is_inner c i
first_of c (d ∷ more) i = i.0

inside_of : (cs : List ℕ) (c : ℕ) (more : List ℕ) → AreInner ((cs ++ c ∷ []) ++ more) → is_inner c ≡ true
inside_of [] c more i = first_of c more i
inside_of (d ∷ []) c more i = first_of c more i.1
inside_of (d ∷ e ∷ cs) c more i = inside_of (e ∷ cs) c more i.1

no_dot : (c : ℕ) → (b : Bool) → nat_eq c 46 ≡ b → is_inner c ≡ true → b ≡ false → is_name_char c ≡ true
no_dot c b q i e = by (nat_eq c 46) (q ∙ e) i
  where
    by : (dot : Bool) → dot ≡ false → (dot || is_name_char c) ≡ true → is_name_char c ≡ true
    by true bad i = absurd (false≢true (sym bad))
    by false bad i = i

-- ---- the form

begins : (last : Option ℕ) (front : List ℕ) → Front last front → Begins LabelChars front
begins None front e = (97 ∷ [], subst (λ (t : List ℕ). LabelChars (t ++ 97 ∷ [])) (sym e) (letter_begins, tt))
begins (Some last) front f = (97 ∷ [], subst (λ (t : List ℕ). LabelChars (t ++ 97 ∷ [])) (sym f.2) (f.3, ends_in f.1 97 f.4 letter_ends))

taken : (last t : Option ℕ) (c : ℕ) → step last c ≡ Some t → (may_follow last c ≡ true) × (t ≡ Some c)
taken last t c e = by (may_follow last c) e
  where
    by : (b : Bool) → cond b (Some (Some c)) None ≡ Some t → (b ≡ true) × (t ≡ Some c)
    by true e = (refl, cc)
    by false e = absurd cc

refused : (last : Option ℕ) (c : ℕ) → step last c ≡ None → may_follow last c ≡ false
refused last c e = by (may_follow last c) e
  where
    by : (b : Bool) → cond b (Some (Some c)) None ≡ None → b ≡ false
    by true e = absurd cc
    by false e = refl

goes_to : (last : Option ℕ) (front : List ℕ) (c : ℕ) → Front last front → may_follow last c ≡ true → Front (Some c) (front ++ c ∷ [])
goes_to None front c f e =
    (c, [], ap (λ (t : List ℕ). t ++ c ∷ []) f, e, refl, λ _. tt, λ dot _. dot_begins_none (subst (λ (d : ℕ). begins_name d ≡ true) (eqb-true c 46 dot) e))
goes_to (Some last) front c f e = (
  f.0,
  f.1 ++ c ∷ [],
  ap (λ (t : List ℕ). t ++ c ∷ []) f.2,
  f.3,
  inner_pushed f.1 c f.4 e,
  λ other. ends_in f.1 c f.4 (no_dot c (nat_eq c 46) refl e other),
  λ dot i. dot_ends_none (subst (λ (d : ℕ). is_name_char d ≡ true) (eqb-true c 46 dot) (last_of f.1 c i)),
)

goes : (last t : Option ℕ) (front : List ℕ) (c : ℕ) → Front last front → step last c ≡ Some t → Front t (front ++ c ∷ [])
goes last t front c f e = let k = taken last t c e in subst (λ (s : Option ℕ). Front s (front ++ c ∷ [])) (sym k.1) (goes_to last front c f k.0)

stops_by : (last : Option ℕ) (front : List ℕ) (c : ℕ) → Front last front → may_follow last c ≡ false → Begins LabelChars (front ++ c ∷ []) → ⊥
stops_by None front c f e b =
    let l : LabelChars ((c ∷ []) ++ b.0) = subst (λ (t : List ℕ). LabelChars ((t ++ c ∷ []) ++ b.0)) f b.1 in false≢true (sym e ∙ l.0)
stops_by (Some last) front c f e b =
    let l : LabelChars (((f.0 ∷ f.1) ++ c ∷ []) ++ b.0) = subst (λ (t : List ℕ). LabelChars ((t ++ c ∷ []) ++ b.0)) f.2 b.1 in false≢true (sym e ∙ inside_of f.1 c b.0 l.1)

stops : (last : Option ℕ) (front : List ℕ) (c : ℕ) → Front last front → step last c ≡ None → Begins LabelChars (front ++ c ∷ []) → ⊥
stops last front c f e b = stops_by last front c f (refused last c e) b

other_way : (b : Bool) → not b ≡ true → b ≡ false
other_way true e = absurd (false≢true e)
other_way false e = refl

same_way : (b : Bool) → not b ≡ false → b ≡ true
same_way true e = refl
same_way false e = absurd (false≢true (sym e))

whole : (last : Option ℕ) (front : List ℕ) → Front last front → may_end last ≡ true → LabelChars front
whole None front f e = absurd (false≢true e)
whole (Some last) front f e = subst LabelChars (sym f.2) (f.3, f.5 (other_way (nat_eq last 46) e))

cut : (last : Option ℕ) (front : List ℕ) → Front last front → may_end last ≡ false → LabelChars front → ⊥
cut None front f e l = subst LabelChars f l
cut (Some last) front f e l = let i = subst LabelChars f.2 l in f.6 (same_way (nat_eq last 46) e) i.1

-- ---- a text

abbrev pub label_misfit : Option ℕ → ℕ → List ℕ → Option ℕ
label_misfit last at cs = misfit step may_end last at cs

pub label_decided : (text : List ℕ) (o : Option ℕ) → IsUtf8 text → label_misfit None 0 (chars text) ≡ o → MatchOption o (IsLabel text) (StopsFitting LabelChars text)
unfolding IsLabel
label_decided text o u e = by o (subst (λ (r : Option ℕ). MatchOption r (LabelChars cs) (FirstMisfit LabelChars cs)) e known)
  where
    cs : List ℕ
    cs = chars text

    known : MatchOption (label_misfit None 0 cs) (LabelChars cs) (FirstMisfit LabelChars cs)
    known = spotted step may_end LabelChars Front begins goes stops whole cut None [] cs 0 refl refl

    by : (o : Option ℕ) → MatchOption o (LabelChars cs) (FirstMisfit LabelChars cs) → MatchOption o (IsLabel text) (StopsFitting LabelChars text)
    by None is = (cs, scalars-chars text u, sym (encodes-chars text u), is)
    by (Some at) is = (cs, scalars-chars text u, sym (encodes-chars text u), is)
