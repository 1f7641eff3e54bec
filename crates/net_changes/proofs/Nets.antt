-- What net changes come to: the effect of all changes, by the fewest; and what undoes them.
use Rattle.std.proofs.Common.{◌≡◌, ℕ, ◌+◌, ◌≤◌, Bool, true, false, cond, not, List, [], ◌∷◌, ◌++◌, length, map, Option, None, Some, refl, sym, ap, subst, ◌∙◌, append_assoc, append-nil, length-append, arith}
use mathlib.Core.Bool.{true≢false}
use Rattle.std.specs.Prelude.{is_some}
use Rattle.std.specs.List.{AllByRecursion, filter}
use Rattle.std.specs.Ordering.{match_ordering}
use Rattle.std.specs.Str.{bytes_eq}
use Rattle.std.specs.declared.cmp.Ordering.{Ordering}
use Rattle.std.specs.declared.cmp.Ordering.TheVariants.{Less, Equal, Greater}
use Rattle.std.proofs.lemmas.Slice.Eq.{bytes_eq-Decides}
use Rattle.rdf_terms.specs.Dataset.{Dataset, PrefixKey, prefix_cmp, apply, effect, effects, kept, kept_behind}
use Rattle.rdf_terms.specs.Line.{line_cmp}
use Rattle.rdf_terms.specs.Quad.{Statement}
use Rattle.rdf_terms.specs.declared.term.Term.{Term}
use Rattle.rdf_terms.specs.declared.change.Change.{Change}
use Rattle.rdf_terms.specs.declared.change.Change.TheVariants.{Add, Delete, PrefixAdd, PrefixDelete, Begin, Commit, Abort}
use Rattle.net_changes.specs.Writes.{last_value, is_written, last_writes, insert_sorted, insertion_sort}
use Rattle.net_changes.specs.Keys.{ChangeKey, of_quad, of_prefix, of_nothing, change_key, same_key, has_quad, iri_of, value_at, left_by}
use Rattle.net_changes.specs.Net.{is_same_iri, alters, last_changes, altering, net_in, prefix_restored, undone, inverse_in, in_block, IsPlain}
use Rattle.net_changes.specs.Values.{IsInOrder, HasSuch, NamesSuch}
use Rattle.net_changes.proofs.Writing.{AreApart, Differ, Undoes, last_after, last_apart, kept_apart, kept_after, ordered_apart, ordered_after, all_written, no_more, undone_apart, unwritten}
use Rattle.net_changes.proofs.Writing.{undone as undone_writes}
use Rattle.net_changes.proofs.Datasets.{key_laws, stands, in_order_behind, stand_behind, stand_alike, such_behind, one_dataset}

-- ---- what all changes of a list have

module _ (P : Change → Type 0) where
  all_put : (cmp : Change → Change → Ordering) (c : Change) (cs : List Change) → P c → AllByRecursion P cs → AllByRecursion P (insert_sorted cmp c cs)
  all_put cmp c [] p a = (p, tt)
  all_put cmp c (x ∷ cs) p a = by (cmp c x) (all_put cmp c cs p a.1)
    where
      by : (o : Ordering) → AllByRecursion P (insert_sorted cmp c cs) → AllByRecursion P (match_ordering o (c ∷ x ∷ cs) (c ∷ x ∷ cs) (x ∷ insert_sorted cmp c cs))
      by Less h = (p, a)
      by Equal h = (p, a)
      by Greater h = (a.0, h)

  all_ordered : (cmp : Change → Change → Ordering) (cs : List Change) → AllByRecursion P cs → AllByRecursion P (insertion_sort cmp cs)
  all_ordered cmp [] a = tt
  all_ordered cmp (c ∷ cs) a = all_put cmp c (insertion_sort cmp cs) a.0 (all_ordered cmp cs a.1)

  all_filtered : (test : Change → Bool) (cs : List Change) → AllByRecursion P cs → AllByRecursion P (filter test cs)
  all_filtered test [] a = tt
  all_filtered test (c ∷ cs) a = by (test c) (all_filtered test cs a.1)
    where
      by : (b : Bool) → AllByRecursion P (filter test cs) → AllByRecursion P (cond b (c ∷ filter test cs) (filter test cs))
      by true h = (a.0, h)
      by false h = h

  all_last : (cs : List Change) → AllByRecursion P cs → AllByRecursion P (last_writes change_key same_key cs)
  all_last [] a = tt
  all_last (c ∷ cs) a = by (is_written change_key same_key (change_key c) cs) (all_last cs a.1)
    where
      by : (b : Bool) → AllByRecursion P (last_writes change_key same_key cs) → AllByRecursion P (cond b (last_writes change_key same_key cs) (c ∷ last_writes change_key same_key cs))
      by true h = h
      by false h = (a.0, h)

  all_joined : (cs ds : List Change) → AllByRecursion P cs → AllByRecursion P ds → AllByRecursion P (cs ++ ds)
  all_joined [] ds a b = b
  all_joined (c ∷ cs) ds a b = (a.0, all_joined cs ds a.1 b)

  mutual
    pub all_kept : (cs : List Change) → AllByRecursion P cs → AllByRecursion P (kept cs)
    all_kept [] a = tt
    all_kept (Begin ∷ cs) a = all_kept_behind [] cs tt a.1
    all_kept (Commit ∷ cs) a = (a.0, all_kept cs a.1)
    all_kept (Abort ∷ cs) a = (a.0, all_kept cs a.1)
    all_kept (Add q ∷ cs) a = (a.0, all_kept cs a.1)
    all_kept (Delete q ∷ cs) a = (a.0, all_kept cs a.1)
    all_kept (PrefixAdd p i g ∷ cs) a = (a.0, all_kept cs a.1)
    all_kept (PrefixDelete p g ∷ cs) a = (a.0, all_kept cs a.1)

    all_kept_behind : (held cs : List Change) → AllByRecursion P held → AllByRecursion P cs → AllByRecursion P (kept_behind held cs)
    all_kept_behind held [] h a = h
    all_kept_behind held (Commit ∷ cs) h a = all_joined held (kept cs) h (all_kept cs a.1)
    all_kept_behind held (Abort ∷ cs) h a = all_kept cs a.1
    all_kept_behind held (Begin ∷ cs) h a = all_kept_behind (held ++ Begin ∷ []) cs (all_joined held (Begin ∷ []) h (a.0, tt)) a.1
    all_kept_behind held (Add q ∷ cs) h a = all_kept_behind (held ++ Add q ∷ []) cs (all_joined held (Add q ∷ []) h (a.0, tt)) a.1
    all_kept_behind held (Delete q ∷ cs) h a = all_kept_behind (held ++ Delete q ∷ []) cs (all_joined held (Delete q ∷ []) h (a.0, tt)) a.1
    all_kept_behind held (PrefixAdd p i g ∷ cs) h a = all_kept_behind (held ++ PrefixAdd p i g ∷ []) cs (all_joined held (PrefixAdd p i g ∷ []) h (a.0, tt)) a.1
    all_kept_behind held (PrefixDelete p g ∷ cs) h a = all_kept_behind (held ++ PrefixDelete p g ∷ []) cs (all_joined held (PrefixDelete p g ∷ []) h (a.0, tt)) a.1

all_pass : (test : Change → Bool) (cs : List Change) → AllByRecursion (λ c. test c ≡ true) (filter test cs)
all_pass test [] = tt
all_pass test (c ∷ cs) = by (test c) refl (all_pass test cs)
  where
    by : (b : Bool) → test c ≡ b → AllByRecursion (λ x. test x ≡ true) (filter test cs) → AllByRecursion (λ x. test x ≡ true) (cond b (c ∷ filter test cs) (filter test cs))
    by true e h = (e, h)
    by false e h = h

all_from : (P S : Change → Type 0) → ((c : Change) → P c → S c) → (cs : List Change) → AllByRecursion P cs → AllByRecursion S cs
all_from P S f [] a = tt
all_from P S f (c ∷ cs) a = (f c a.0, all_from P S f cs a.1)

all_mapped : (P S : Change → Type 0) (g : Change → Change) → ((c : Change) → P c → S (g c)) → (cs : List Change) → AllByRecursion P cs → AllByRecursion S (map g cs)
all_mapped P S g f [] a = tt
all_mapped P S g f (c ∷ cs) a = (f c a.0, all_mapped P S g f cs a.1)

all_both : (P S : Change → Type 0) (cs : List Change) → AllByRecursion P cs → AllByRecursion S cs → AllByRecursion (λ c. P c × S c) cs
all_both P S [] a b = tt
all_both P S (c ∷ cs) a b = ((a.0, b.0), all_both P S cs a.1 b.1)

-- ---- blocks

plain_alters : (d : Dataset) (c : Change) → alters d c ≡ true → IsPlain c
plain_alters d (Add q) e = tt
plain_alters d (Delete q) e = tt
plain_alters d (PrefixAdd p i g) e = tt
plain_alters d (PrefixDelete p g) e = tt
plain_alters d Begin e = true≢false (sym e)
plain_alters d Commit e = true≢false (sym e)
plain_alters d Abort e = true≢false (sym e)

kept_plain : (held cs : List Change) → AllByRecursion IsPlain cs → kept_behind held (cs ++ Commit ∷ []) ≡ held ++ cs
kept_plain held [] a = refl
kept_plain held (Add q ∷ cs) a = kept_plain (held ++ Add q ∷ []) cs a.1 ∙ append_assoc held (Add q ∷ []) cs
kept_plain held (Delete q ∷ cs) a = kept_plain (held ++ Delete q ∷ []) cs a.1 ∙ append_assoc held (Delete q ∷ []) cs
kept_plain held (PrefixAdd p i g ∷ cs) a = kept_plain (held ++ PrefixAdd p i g ∷ []) cs a.1 ∙ append_assoc held (PrefixAdd p i g ∷ []) cs
kept_plain held (PrefixDelete p g ∷ cs) a = kept_plain (held ++ PrefixDelete p g ∷ []) cs a.1 ∙ append_assoc held (PrefixDelete p g ∷ []) cs
kept_plain held (Begin ∷ cs) a = absurd a.0
kept_plain held (Commit ∷ cs) a = absurd a.0
kept_plain held (Abort ∷ cs) a = absurd a.0

-- plain changes in one block are done
pub apply_block : (cs : List Change) (d : Dataset) → AllByRecursion IsPlain cs → apply (in_block cs) d ≡ effects cs d
apply_block cs d a = ap (λ (l : List Change). effects l d) (kept_plain [] cs a)

-- what stands is no longer than all
mutual
  kept_shorter : (cs : List Change) → length (kept cs) ≤ length cs
  kept_shorter [] = omega arith
  kept_shorter (Begin ∷ cs) = let h = behind_shorter [] cs in omega (arith, h)
  kept_shorter (Commit ∷ cs) = let h = kept_shorter cs in omega (arith, h)
  kept_shorter (Abort ∷ cs) = let h = kept_shorter cs in omega (arith, h)
  kept_shorter (Add q ∷ cs) = let h = kept_shorter cs in omega (arith, h)
  kept_shorter (Delete q ∷ cs) = let h = kept_shorter cs in omega (arith, h)
  kept_shorter (PrefixAdd p i g ∷ cs) = let h = kept_shorter cs in omega (arith, h)
  kept_shorter (PrefixDelete p g ∷ cs) = let h = kept_shorter cs in omega (arith, h)

  behind_shorter : (held cs : List Change) → length (kept_behind held cs) ≤ length held + length cs
  behind_shorter held [] = omega arith
  behind_shorter held (Commit ∷ cs) = let h = kept_shorter cs in omega (arith, h, length-append held (kept cs))
  behind_shorter held (Abort ∷ cs) = let h = kept_shorter cs in omega (arith, h)
  behind_shorter held (Begin ∷ cs) = let h = behind_shorter (held ++ Begin ∷ []) cs in omega (arith, h, length-append held (Begin ∷ []))
  behind_shorter held (Add q ∷ cs) = let h = behind_shorter (held ++ Add q ∷ []) cs in omega (arith, h, length-append held (Add q ∷ []))
  behind_shorter held (Delete q ∷ cs) = let h = behind_shorter (held ++ Delete q ∷ []) cs in omega (arith, h, length-append held (Delete q ∷ []))
  behind_shorter held (PrefixAdd p i g ∷ cs) = let h = behind_shorter (held ++ PrefixAdd p i g ∷ []) cs in omega (arith, h, length-append held (PrefixAdd p i g ∷ []))
  behind_shorter held (PrefixDelete p g ∷ cs) = let h = behind_shorter (held ++ PrefixDelete p g ∷ []) cs in omega (arith, h, length-append held (PrefixDelete p g ∷ []))

-- ---- what changes a dataset

not_false : (b : Bool) → not b ≡ false → b ≡ true
not_false true e = refl
not_false false e = absurd (true≢false e)

not_true : (b : Bool) → not b ≡ true → b ≡ false
not_true true e = absurd (true≢false (sym e))
not_true false e = refl

iri_is : (o : Option (List ℕ)) (iri : List ℕ) → is_same_iri o iri ≡ true → Some iri ≡ o
iri_is None iri e = absurd (true≢false (sym e))
iri_is (Some old) iri e = ap Some (sym ((bytes_eq-Decides old iri).0 e))

iri_other : (o : Option (List ℕ)) (iri : List ℕ) → is_same_iri o iri ≡ false → Some iri ≡ o → ⊥
iri_other None iri e f = cc
iri_other (Some old) iri e f =
    let same : old ≡ iri = cc in
    true≢false (sym ((bytes_eq-Decides old iri).1 same) ∙ e)

none_is : (o : Option (List ℕ)) → is_some o ≡ false → None ≡ o
none_is None e = refl
none_is (Some x) e = absurd (true≢false e)

some_other : (o : Option (List ℕ)) → is_some o ≡ true → None ≡ o → ⊥
some_other None e f = true≢false (sym e)
some_other (Some x) e f = cc

quad_held : (b : Bool) → Some [] ≡ cond {A = Option (List ℕ)} b (Some []) None → b ≡ false → ⊥
quad_held true e f = true≢false f
quad_held false e f = cc

no_quad_held : (b : Bool) → None ≡ cond {A = Option (List ℕ)} b (Some []) None → b ≡ true → ⊥
no_quad_held true e f = cc
no_quad_held false e f = true≢false (sym f)

-- a change that changes nothing leaves what stands there
pub idle : (d : Dataset) (c : Change) → alters d c ≡ false → left_by c ≡ value_at d (change_key c)
idle d (Add q) e = sym (ap (λ b. cond {A = Option (List ℕ)} b (Some []) None) (not_false (has_quad d q) e))
idle d (Delete q) e = sym (ap (λ b. cond {A = Option (List ℕ)} b (Some []) None) e)
idle d (PrefixAdd p i g) e = iri_is (iri_of d (g, p)) i (not_false (is_same_iri (iri_of d (g, p)) i) e)
idle d (PrefixDelete p g) e = none_is (iri_of d (g, p)) e
idle d Begin e = refl
idle d Commit e = refl
idle d Abort e = refl

pub differs : (d : Dataset) (c : Change) → alters d c ≡ true → left_by c ≡ value_at d (change_key c) → ⊥
differs d (Add q) e f = quad_held (has_quad d q) f (not_true (has_quad d q) e)
differs d (Delete q) e f = no_quad_held (has_quad d q) f e
differs d (PrefixAdd p i g) e f = iri_other (iri_of d (g, p)) i (not_true (is_same_iri (iri_of d (g, p)) i) e) f
differs d (PrefixDelete p g) e f = some_other (iri_of d (g, p)) e f
differs d Begin e f = true≢false (sym e)
differs d Commit e f = true≢false (sym e)
differs d Abort e f = true≢false (sym e)

-- ---- undoing

restored_key : (p : List ℕ) (g : Option Term) (o : Option (List ℕ)) → change_key (prefix_restored p g o) ≡ of_prefix (g, p)
restored_key p g None = refl
restored_key p g (Some iri) = refl

restored_left : (p : List ℕ) (g : Option Term) (o : Option (List ℕ)) → left_by (prefix_restored p g o) ≡ o
restored_left p g None = refl
restored_left p g (Some iri) = refl

restored_plain : (p : List ℕ) (g : Option Term) (o : Option (List ℕ)) → IsPlain (prefix_restored p g o)
restored_plain p g None = tt
restored_plain p g (Some iri) = tt

undoes : (d : Dataset) (c : Change) → alters d c ≡ true → (change_key (undone d c) ≡ change_key c) × (left_by (undone d c) ≡ value_at d (change_key c))
undoes d (Add q) e = (refl, sym (ap (λ b. cond {A = Option (List ℕ)} b (Some []) None) (not_true (has_quad d q) e)))
undoes d (Delete q) e = (refl, sym (ap (λ b. cond {A = Option (List ℕ)} b (Some []) None) e))
undoes d (PrefixAdd p i g) e = (restored_key p g (iri_of d (g, p)), restored_left p g (iri_of d (g, p)))
undoes d (PrefixDelete p g) e = (restored_key p g (iri_of d (g, p)), restored_left p g (iri_of d (g, p)))
undoes d Begin e = absurd (true≢false (sym e))
undoes d Commit e = absurd (true≢false (sym e))
undoes d Abort e = absurd (true≢false (sym e))

undone_plain : (d : Dataset) (c : Change) → alters d c ≡ true → IsPlain (undone d c)
undone_plain d (Add q) e = tt
undone_plain d (Delete q) e = tt
undone_plain d (PrefixAdd p i g) e = restored_plain p g (iri_of d (g, p))
undone_plain d (PrefixDelete p g) e = restored_plain p g (iri_of d (g, p))
undone_plain d Begin e = true≢false (sym e)
undone_plain d Commit e = true≢false (sym e)
undone_plain d Abort e = true≢false (sym e)

module _ (Q : Statement → Type 0) (R : PrefixKey → Type 0) where
  restored_such : (p : List ℕ) (g : Option Term) (o : Option (List ℕ)) → R (g, p) → NamesSuch Q R (prefix_restored p g o)
  restored_such p g None r = r
  restored_such p g (Some iri) r = r

  undone_such : (d : Dataset) (c : Change) → NamesSuch Q R c → NamesSuch Q R (undone d c)
  undone_such d (Add q) n = n
  undone_such d (Delete q) n = n
  undone_such d (PrefixAdd p i g) n = restored_such p g (iri_of d (g, p)) n
  undone_such d (PrefixDelete p g) n = restored_such p g (iri_of d (g, p)) n
  undone_such d Begin n = n
  undone_such d Commit n = n
  undone_such d Abort n = n

-- ---- the theorems, for any order of the changes

module _ (cmp : Change → Change → Ordering) (d : Dataset) where
  abbrev At : ChangeKey → List Change → Option (List ℕ)
  At k cs = last_value change_key left_by same_key k (value_at d k) cs

  some_alters : (cs : List Change) → AllByRecursion (λ c. alters d c ≡ true) (altering d cs)
  some_alters cs = all_pass (alters d) (last_changes cs)

  net_alters : (cs : List Change) → AllByRecursion (λ c. alters d c ≡ true) (net_in cmp d cs)
  net_alters cs = all_ordered (λ c. alters d c ≡ true) cmp (altering d cs) (some_alters cs)

  pub net_plain : (cs : List Change) → AllByRecursion IsPlain (net_in cmp d cs)
  net_plain cs = all_from (λ c. alters d c ≡ true) IsPlain (plain_alters d) (net_in cmp d cs) (net_alters cs)

  pub inverse_plain : (cs : List Change) → AllByRecursion IsPlain (inverse_in cmp d cs)
  inverse_plain cs =
      all_ordered IsPlain cmp (map (undone d) (altering d cs)) (all_mapped (λ c. alters d c ≡ true) IsPlain (undone d) (undone_plain d) (altering d cs) (some_alters cs))

  some_apart : (cs : List Change) → AreApart change_key left_by key_laws (altering d cs)
  some_apart cs = kept_apart change_key left_by key_laws (alters d) (last_changes cs) (last_apart change_key left_by key_laws (kept cs))

  net_apart : (cs : List Change) → AreApart change_key left_by key_laws (net_in cmp d cs)
  net_apart cs = ordered_apart change_key left_by key_laws cmp (altering d cs) (some_apart cs)

  -- the last changes that change anything leave at each key what all do
  some_after : (cs : List Change) (k : ChangeKey) → At k (altering d cs) ≡ At k (kept cs)
  some_after cs k =
      kept_after change_key left_by key_laws (value_at d) (alters d) (stand_alike d) (idle d) k (last_changes cs) (last_apart change_key left_by key_laws (kept cs))
      ∙ last_after change_key left_by key_laws k (value_at d k) (kept cs)

  net_after : (cs : List Change) (k : ChangeKey) → At k (net_in cmp d cs) ≡ At k (kept cs)
  net_after cs k = ordered_after change_key left_by key_laws cmp k (value_at d k) (altering d cs) (some_apart cs) ∙ some_after cs k

  -- ---- fewest

  pub net_fewest : IsInOrder d → (cs ys : List Change) → apply ys d ≡ apply cs d → length (net_in cmp d cs) ≤ length ys
  net_fewest o cs ys same =
      let net = net_in cmp d cs in
      let others : (k : ChangeKey) → is_written change_key same_key k (kept ys) ≡ false → At k net ≡ value_at d k = λ k none.
      net_after cs k ∙ sym (stand_behind (kept cs) d o k) ∙ ap (λ (e : Dataset). value_at e k) (sym same) ∙ stand_behind (kept ys) d o k
      ∙ unwritten change_key left_by key_laws k (value_at d k) (kept ys) none in
      let differ = all_from (λ c. alters d c ≡ true) (λ c. left_by c ≡ value_at d (change_key c) → ⊥) (differs d) net (net_alters cs) in
      let all = all_written change_key left_by key_laws (value_at d) net (kept ys) (net_apart cs) differ others in
      let few = no_more change_key left_by key_laws net (kept ys) (net_apart cs) all in
      let short = kept_shorter ys in
      omega (arith, few, short)

  module _ (Q : Statement → Type 0) (R : PrefixKey → Type 0) (quads_apart : (p q : Statement) → Q p → Q q → line_cmp p q ≡ Equal → p ≡ q) (prefixes_apart : (p q : PrefixKey) → R p → R q → prefix_cmp p q ≡ Equal → p ≡ q) where
    some_such : (cs : List Change) → AllByRecursion (NamesSuch Q R) cs → AllByRecursion (NamesSuch Q R) (altering d cs)
    some_such cs n = all_filtered (NamesSuch Q R) (alters d) (last_changes cs) (all_last (NamesSuch Q R) (kept cs) (all_kept (NamesSuch Q R) cs n))

    net_such : (cs : List Change) → AllByRecursion (NamesSuch Q R) cs → AllByRecursion (NamesSuch Q R) (net_in cmp d cs)
    net_such cs n = all_ordered (NamesSuch Q R) cmp (altering d cs) (some_such cs n)

    -- ---- the same effect

    pub net_same : IsInOrder d → HasSuch Q R d → (cs : List Change) → AllByRecursion (NamesSuch Q R) cs → apply (in_block (net_in cmp d cs)) d ≡ apply cs d
    net_same o h cs n =
        let net = net_in cmp d cs in
        apply_block net d (net_plain cs)
        ∙ one_dataset Q R quads_apart prefixes_apart (effects net d) (effects (kept cs) d) (in_order_behind net d o) (in_order_behind (kept cs) d o) (such_behind Q R net d (net_such cs n) h)
        (such_behind Q R (kept cs) d (all_kept (NamesSuch Q R) cs n) h) (λ k. stand_behind net d o k ∙ net_after cs k ∙ sym (stand_behind (kept cs) d o k))

    -- ---- undone

    pub inverse_undoes : IsInOrder d → HasSuch Q R d → (cs : List Change) → AllByRecursion (NamesSuch Q R) cs → apply (in_block (inverse_in cmp d cs)) (apply cs d) ≡ d
    inverse_undoes o h cs n =
        let net = altering d cs in let back = map (undone d) net in
        let undoes_all : Undoes change_key left_by key_laws (value_at d) (stand_alike d) (undone d) net =
        all_from (λ c. alters d c ≡ true) (λ c. (change_key (undone d c) ≡ change_key c) × (left_by (undone d c) ≡ value_at d (change_key c))) (undoes d) net (some_alters cs) in
        let plain = inverse_plain cs in
        let apart = undone_apart change_key left_by key_laws (value_at d) (stand_alike d) (undone d) net undoes_all (some_apart cs) in
        let such = all_ordered (NamesSuch Q R) cmp back (all_mapped (NamesSuch Q R) (NamesSuch Q R) (undone d) (undone_such Q R d) net (some_such cs n)) in
        let e = effects (kept cs) d in
        let eo = in_order_behind (kept cs) d o in
        let eh = such_behind Q R (kept cs) d (all_kept (NamesSuch Q R) cs n) h in
        apply_block (insertion_sort cmp back) e plain
        ∙ one_dataset Q R quads_apart prefixes_apart (effects (insertion_sort cmp back) e) d (in_order_behind (insertion_sort cmp back) e eo) o (such_behind Q R (insertion_sort cmp back) e such eh) h (λ k.
        stand_behind (insertion_sort cmp back) e eo k
        ∙ ordered_after change_key left_by key_laws cmp k (value_at e k) back apart
        ∙ ap (λ (v : Option (List ℕ)). last_value change_key left_by same_key k v back) (stand_behind (kept cs) d o k ∙ sym (some_after cs k))
        ∙ undone_writes change_key left_by key_laws (value_at d) (stand_alike d) (undone d) k net undoes_all)
