-- The parts of rows are read exactly where the grammar has them, and their first faults are those that are named.
use Rattle.std.proofs.Common.{◌≡◌, ℕ, ◌<◌, Bool, true, false, ◌||◌, List, [], ◌∷◌, drop, nat_eq, Ok, Err, refl, sym, ap, subst, ◌∙◌, ◌⊎◌, inl, inr, ⊎_elim, arith}
use Rattle.std.proofs.lemmas.Bool.{false≢true, eqb-true}
use Rattle.std.proofs.lemmas.Bool.Decides.{nat_tests}
use Rattle.rdf_terms.specs.declared.term.Term.{Term}
use Rattle.nquads_text.specs.declared.fault.TextKind.TheVariants.{BadPosition}
use Rattle.nquads_text.specs.Fault.{TextRead}
use Rattle.nquads_text.specs.Grammar.{StartsWith}
use Rattle.nquads_text.specs.Faults.{begins_term}
use Rattle.nquads_text.specs.Reading.{char_at}
use Rattle.nquads_text.proofs.Fronts.{char_spelled, char_at-ascii}
use Rattle.nquads_text.proofs.Inside.{low_char}
use Rattle.nquads_text.proofs.Steps.{ok_is as text_ok_is, not_both as text_not_both}
use Rattle.nquads_text.proofs.Needed.{char_stands, char_fault, no_character}
use Rattle.patch_rows.specs.declared.fault.RowKind.{RowKind}
use Rattle.patch_rows.specs.declared.fault.RowKind.TheVariants.{Common, WrongCount}
use Rattle.patch_rows.specs.Fault.{Fault}
use Rattle.patch_rows.specs.Grammar.{RowTerm, Placed, EndAt}
use Rattle.patch_rows.specs.Faults.{is_dot, RowLacks, RowTermFault, DotFault, PlacedFault, NoDot, EndFault}
use Rattle.patch_rows.specs.Reading.{stands, fault_or, other, dot_at, end_at, skip_space}
use Rattle.patch_rows.specs.declared.cut.TextEnd.TheVariants.{Known}
use Rattle.patch_rows.specs.Rows.{placed_of}
use Rattle.patch_rows.proofs.SpaceLaws.{exact_behind}
use Rattle.patch_rows.proofs.Exact.{Exact, exact_ok, exact_err, restated, chained, choice}
use Rattle.patch_rows.proofs.TermLaws.{exact_needed, starts, started}

-- ---- tests of the first byte

pub or_none : (p q : ℕ → Bool) (text : List ℕ) → stands (λ c. p c || q c) text ≡ false → (stands p text ≡ false) × (stands q text ≡ false)
or_none p q [] e = (refl, refl)
or_none p q (b ∷ rest) e = by (p b) (q b) e
  where
    by : (x y : Bool) → (x || y) ≡ false → (x ≡ false) × (y ≡ false)
    by true y e = absurd (false≢true (sym e))
    by false y e = (refl, e)

pub none_or : (p q : ℕ → Bool) (text : List ℕ) → stands p text ≡ false → stands q text ≡ false → stands (λ c. p c || q c) text ≡ false
none_or p q [] e f = refl
none_or p q (b ∷ rest) e f = rw (e, f) refl

-- a byte that passes one test doesn't pass the other
pub apart : (p q : ℕ → Bool) (text : List ℕ) → ((c : ℕ) → p c ≡ true → q c ≡ false) → stands p text ≡ true → stands q text ≡ false
apart p q [] other e = refl
apart p q (b ∷ rest) other e = other b e

pub byte_there : (c : ℕ) (text : List ℕ) → stands (λ b. nat_eq b c) text ≡ true → text ≡ c ∷ drop 1 text
byte_there c [] e = absurd (false≢true e)
byte_there c (b ∷ rest) e = ap (λ (d : ℕ). d ∷ rest) (eqb-true b c e)

-- ---- where none of the bytes that are allowed stands

module _ (fits : ℕ → Bool) (low : (c : ℕ) → fits c ≡ true → c < 128) (text : List ℕ) where
  misfit : (x : ℕ × List ℕ) (b : Bool) → char_at text ≡ Ok x → stands fits text ≡ false → fits x.0 ≡ b → fits x.0 ≡ false
  misfit x true e none passes =
      let shape : text ≡ x.0 ∷ x.1 = low_char text x x.0 e refl (low x.0 passes) in
      absurd (false≢true (sym none ∙ ap (stands fits) shape ∙ passes))
  misfit x false e none passes = passes

  lacks_of : (kind : RowKind) (f : Fault) (r : TextRead ℕ) → stands fits text ≡ false → char_at text ≡ r → f ≡ fault_or r (kind, text) → RowLacks fits text (kind, text) f
  lacks_of kind f (Ok x) none e is = RowLacks.another x.0 x.1 (char_spelled text x.0 x.1 e) (misfit x (fits x.0) e none refl) is
  lacks_of kind f (Err g) none e is = RowLacks.nothing g (char_fault text g e) is

  is_other : (kind : RowKind) (f : Fault) → RowLacks fits text (kind, text) f → f ≡ other kind text
  unfolding other
  is_other kind f (RowLacks.nothing g n is) = is ∙ ap (λ (r : TextRead ℕ). fault_or r (kind, text)) (sym (no_character text g n))
  is_other kind f (RowLacks.another c after at bad is) = is ∙ ap (λ (r : TextRead ℕ). fault_or r (kind, text)) (sym (char_stands text c after at))

  to_lacks : (kind : RowKind) (f : Fault) → stands fits text ≡ false → f ≡ other kind text → RowLacks fits text (kind, text) f
  unfolding other
  to_lacks kind f none is = lacks_of kind f (char_at text) none refl is

  pub exact_other : (X : Type 0) (kind : RowKind) → stands fits text ≡ false → Exact {X = X} (Err (other kind text)) (λ x. ⊥) (λ f. RowLacks fits text (kind, text) f)
  exact_other X kind none = restated (exact_err X (other kind text)) (λ x bad. bad) (λ x bad. bad) (λ f is. to_lacks kind f none is) (λ f l. is_other kind f l)

lacks_apart : (fits : ℕ → Bool) (b : ℕ) (rest : List ℕ) (o f : Fault) → b < 128 → fits b ≡ true → RowLacks fits (b ∷ rest) o f → ⊥
lacks_apart fits b rest o f low passes (RowLacks.nothing g n is) = text_not_both (b, rest) g (sym (char_at-ascii b rest low) ∙ no_character (b ∷ rest) g n)
lacks_apart fits b rest o f low passes (RowLacks.another c after at bad is) =
    let same = text_ok_is (b, rest) (c, after) (sym (char_at-ascii b rest low) ∙ char_stands (b ∷ rest) c after at) in
    false≢true (sym bad ∙ ap (λ (x : ℕ × List ℕ). fits x.0) (sym same) ∙ passes)

pub lacks_stands : (fits : ℕ → Bool) → ((c : ℕ) → fits c ≡ true → c < 128) → (text : List ℕ) (o f : Fault) → RowLacks fits text o f → stands fits text ≡ false
lacks_stands fits low [] o f l = refl
lacks_stands fits low (b ∷ rest) o f l = by (fits b) refl
  where
    by : (t : Bool) → fits b ≡ t → fits b ≡ false
    by true e = absurd (lacks_apart fits b rest o f (low b e) e l)
    by false e = e

-- ---- terms in their places

abbrev PlacedShape : (Term → Bool) → List ℕ → Fault → Type 0
PlacedShape fits text f = (DotFault text f ⊎ ((StartsWith is_dot text → ⊥) × RowTermFault text f))
    ⊎ ((x : Term × List ℕ) × RowTerm text x.0 x.1 × (((fits x.0 ≡ true) × ⊥) ⊎ ((fits x.0 ≡ false) × (f ≡ (Common BadPosition, text)))))

placed_fault : (fits : Term → Bool) (text : List ℕ) (f : Fault) → PlacedShape fits text f → PlacedFault fits text f
placed_fault fits text f (inl (inl d)) = PlacedFault.dot d
placed_fault fits text f (inl (inr n)) = PlacedFault.term n.0 n.1
placed_fault fits text f (inr p) = ⊎_elim (λ a. absurd a.1) (λ b. PlacedFault.position p.0.0 p.0.1 p.1 b.0 b.1) p.2

placed_shape : (fits : Term → Bool) (text : List ℕ) (f : Fault) → PlacedFault fits text f → PlacedShape fits text f
placed_shape fits text f (PlacedFault.dot d) = inl (inl d)
placed_shape fits text f (PlacedFault.term none t) = inl (inr (none, t))
placed_shape fits text f (PlacedFault.position t after is bad e) = inr ((t, after), is, inr (bad, e))

pub exact_placed : (fits : Term → Bool) (text : List ℕ) → Exact (placed_of Known fits text) (λ x. Placed fits text x.0 x.1) (λ f. PlacedFault fits text f)
unfolding placed_of
exact_placed fits text =
    restated
    (chained (exact_needed text) (λ t. choice (fits t.0) (λ yes. exact_ok t) (λ other. exact_err (Term × List ℕ) (Common BadPosition, text))))
    (λ x t. ⊎_elim (λ a. subst (λ (v : Term × List ℕ). Placed fits text v.0 v.1) (sym a.1) (t.1, a.0)) (λ b. absurd b.1) t.2)
    (λ x t. (x, t.0, inl (t.1, refl)))
    (λ f t. placed_fault fits text f t)
    (λ f t. placed_shape fits text f t)

-- ---- the dot

dot_or_term_low : (c : ℕ) → (is_dot c || begins_term c) ≡ true → c < 128
dot_or_term_low c e = grind (arith, nat_tests)

pub term_no_dot : (c : ℕ) → begins_term c ≡ true → is_dot c ≡ false
term_no_dot c e = grind (arith, nat_tests)

abbrev NoDotShape : RowKind → List ℕ → Fault → Type 0
NoDotShape missing text f = ((stands is_dot text ≡ true) × ⊥) ⊎ ((stands is_dot text ≡ false)
    × (((stands begins_term text ≡ true) × (f ≡ (WrongCount, text))) ⊎ ((stands begins_term text ≡ false) × RowLacks (λ c. is_dot c || begins_term c) text (missing, text) f)))

no_dot : (missing : RowKind) (text : List ℕ) (f : Fault) → NoDotShape missing text f → NoDot missing text f
no_dot missing text f (inl a) = absurd a.1
no_dot missing text f (inr b) = ⊎_elim (λ t. NoDot.term (starts begins_term text t.0) t.1) (λ o. NoDot.other o.1) b.1

no_dot_shape : (missing : RowKind) (text : List ℕ) (f : Fault) → NoDot missing text f → NoDotShape missing text f
no_dot_shape missing text f (NoDot.term s is) = let t = started begins_term text s in inr (apart begins_term is_dot text term_no_dot t, inl (t, is))
no_dot_shape missing text f (NoDot.other l) =
    let n = or_none is_dot begins_term text (lacks_stands (λ c. is_dot c || begins_term c) dot_or_term_low text (missing, text) f l) in inr (n.0, inr (n.1, l))

pub exact_dot : (missing : RowKind) (text : List ℕ) → Exact (dot_at missing text) (λ after. text ≡ 46 ∷ after) (λ f. NoDot missing text f)
unfolding dot_at
exact_dot missing text =
    restated
    (choice (stands is_dot text) (λ dot. exact_ok (drop 1 text))
    (λ other. choice (stands begins_term text) (λ some. exact_err (List ℕ) (WrongCount, text))
    (λ none. exact_other (λ c. is_dot c || begins_term c) dot_or_term_low text (List ℕ) missing (none_or is_dot begins_term text other none))))
    (λ after t. ⊎_elim (λ a. byte_there 46 text a.0 ∙ ap (λ (s : List ℕ). 46 ∷ s) (sym a.1)) (λ b. absurd (⊎_elim (λ c. c.1) (λ d. d.1) b.1)) t)
    (λ after e. inl (ap (stands is_dot) e, ap (drop 1) (sym e)))
    (λ f t. no_dot missing text f t)
    (λ f t. no_dot_shape missing text f t)

pub exact_end : (missing : RowKind) (text : List ℕ) → Exact (end_at missing text) (λ after. EndAt text after) (λ f. EndFault missing text f)
exact_end missing text =
    exact_behind (dot_at missing) (λ from after. from ≡ 46 ∷ after) (λ from f. NoDot missing from f) text (exact_dot missing (skip_space text))
