-- Reading a zone goes on from payload to payload.
use Rattle.std.proofs.Common.{◌≡◌, inl, inr, ⊎_elim, ℕ, ◌+◌, ◌-◌, ◌*◌, ◌^◌, ◌≤◌, Bool, true, false, List, [], ◌∷◌, ◌++◌, map, length, None, refl, sym, ◌∙◌, ap, subst, arith, length-append}
use Rattle.std.specs.List.{Contains, flat_map}
use Rattle.std.proofs.lemmas.List.{map-append, length-map, append-nil}
use Rattle.std.proofs.Math.Nat.{min-eq_left}
use Rattle.std.proofs.lemmas.Grind.{flat_map-append}
use Rattle.std.proofs.lemmas.List.Sums.{sum_by-cons}
use Rattle.std.proofs.lemmas.List.Elements.{Contains-append_left, Contains-append_right}
use Rattle.delta_base.specs.declared.id.Id.{Id}
use Rattle.log_base.specs.declared.limits.TheConstants.{PATCH_LIMIT}
use Rattle.rdf_terms.specs.declared.term.Term.{Term}
use Rattle.rdf_terms.specs.declared.change.Change.{Change}
use Rattle.rdf_terms.specs.Dataset.{Dataset, empty}
use Rattle.term_table.specs.Table.{most}
use Rattle.dataset_tx.specs.Held.{terms_of, AreMet, AreMore}
use Rattle.patch_meaning.specs.Checked.{CheckedPatch, AreChecked}
use Rattle.patch_meaning.specs.Patch.{Meaning, IsPatch}
use Rattle.patch_meaning.proofs.Settled.{one_meaning}
use Rattle.chain_core.specs.Breaks.{BreaksAt}
use Rattle.zone_state.specs.declared.opening.Reading.{Reading}
use Rattle.chain_core.specs.Ids.{last_of, version_among}
use Rattle.zone_state.specs.Log.{AreChained}
use Rattle.zone_state.specs.Brief.{Brief, brief_of, with_patch, id_taken, changes_taken}
use Rattle.zone_state.specs.Next.{IsNextPatch, AreFoundPatches}
use Rattle.zone_state.specs.Opening.{HasReadZone, AddsPatch, MeetsMore, HasReceived}
use Rattle.zone_state.specs.State.{brief_in}
use Rattle.zone_state.proofs.Broken.{breaks}
use Rattle.zone_state.proofs.Growing.{brief-push, texts-push, checked-push, chain-push}

-- ---- one text

-- a text that is a patch which doesn't go behind the others
pub not_next : (ids : List Id) (text : List ℕ) (most : ℕ) (read patch : CheckedPatch) → read.text ≡ text → IsPatch read.text read.meaning → ((read.meaning.prev ≡ last_of ids) × (version_among ids read.meaning.id ≡ None) → ⊥)
    → IsNextPatch ids text most patch → ⊥
not_next ids text limit read patch text_is is none next =
    let one = subst (λ (t : List ℕ). IsPatch t read.meaning) text_is is in
    let other = subst (λ (t : List ℕ). IsPatch t patch.meaning) next.text_is next.checked in
    let same : read.meaning ≡ patch.meaning = one_meaning text read.meaning patch.meaning one other in
    none (ap (λ (m : Meaning). m.prev) same ∙ next.follows, ap (λ (m : Meaning). version_among ids m.id) same ∙ next.new)

-- ---- terms

terms-left : (changes more : List Change) (t : Term) → Contains (flat_map terms_of changes) t → Contains (flat_map terms_of (changes ++ more)) t
terms-left changes more t has = subst (λ (ts : List Term). Contains ts t) (sym (flat_map-append terms_of changes more)) (Contains-append_left (flat_map terms_of changes) (flat_map terms_of more) t has)

terms-right : (changes more : List Change) (t : Term) → Contains (flat_map terms_of more) t → Contains (flat_map terms_of (changes ++ more)) t
terms-right changes more t has = subst (λ (ts : List Term). Contains ts t) (sym (flat_map-append terms_of changes more)) (Contains-append_right (flat_map terms_of changes) (flat_map terms_of more) t has)

pub meets_none : (changes : List Change) (terms : List Term) → AreMet changes terms terms
meets_none changes terms t has = inl has

meets_further : (changes more : List Change) (before after : List Term) → AreMet changes before after → AreMet (changes ++ more) before after
meets_further changes more before after met t has = ⊎_elim (λ (old : Contains before t). inl old) (λ (new : Contains (flat_map terms_of changes) t). inr (terms-left changes more t new)) (met t has)

pub meets_both : (changes more : List Change) (before mid after : List Term) → AreMet changes before mid → AreMet more mid after → AreMet (changes ++ more) before after
meets_both changes more before mid after one other t has = ⊎_elim
    (λ (old : Contains mid t). meets_further changes more before mid one t old)
    (λ (new : Contains (flat_map terms_of more) t). inr (terms-right changes more t new))
    (other t has)

pub overflows_still : (changes more : List Change) → AreMore most changes [] → AreMore most (changes ++ more) []
overflows_still changes more are = record { terms = are.terms; met = meets_further changes more [] are.terms are.met; each_once = are.each_once; many = are.many }

pub overflows_now : (changes more : List Change) (known : List Term) → AreMet changes [] known → AreMore most more known → AreMore most (changes ++ more) []
overflows_now changes more known met are = record { terms = are.terms; met = meets_both changes more [] known are.terms met are.met; each_once = are.each_once; many = are.many }

-- ---- one patch more

changes-push : (taken : List CheckedPatch) (patch : CheckedPatch) → changes_taken (taken ++ patch ∷ []) ≡ changes_taken taken ++ patch.meaning.changes
changes-push taken patch = flat_map-append (λ (p : CheckedPatch). p.meaning.changes) taken (patch ∷ []) ∙ ap (λ (cs : List Change). changes_taken taken ++ cs) (append-nil patch.meaning.changes)

pub true_or_false : true ≡ false → ⊥
true_or_false same = cc

pub true_and_false : (b : Bool) → b ≡ true → b ≡ false → ⊥
true_and_false b t f = true_or_false (sym t ∙ f)

pub not_full : (old new : Bool) → (old ≡ true → new ≡ true) → new ≡ false → old ≡ false
not_full false new stays is = refl
not_full true new stays is = absurd (true_and_false new (stays refl) is)

-- the texts of patches are short
pub texts_short : (taken : List CheckedPatch) → AreChecked taken → (brief_of taken).bytes ≤ PATCH_LIMIT * length taken
texts_short [] are = omega arith
texts_short (patch ∷ taken) are = omega (arith, texts_short taken are.1, are.0.short, sum_by-cons (λ (p : CheckedPatch). length p.text) patch taken)

module _ (old new : Reading) (patch : CheckedPatch) (adds : AddsPatch old new patch) (short : length patch.text ≤ PATCH_LIMIT) (taken : List CheckedPatch) (are : AreChecked taken) (read : HasReadZone old taken) where
  abbrev meets : MeetsMore old new patch.meaning.changes
  meets = adds.meets

  was_not_full : new.full ≡ false → old.full ≡ false
  was_not_full is = not_full old.full new.full meets.stays_full is

  -- the number of bytes doesn't stop
  small : old.kept.bytes + length patch.text ≤ 2 ^ 64 - 1
  small = omega (arith, texts_short taken are, read.bytes_are, short, adds.few, ap length adds.ids_are, ap length read.ids_are, length-map taken id_taken, length-append old.kept.ids.items (patch.meaning.id ∷ []))

  bytes_more : new.kept.bytes ≡ old.kept.bytes + length patch.text
  bytes_more = adds.bytes_are ∙ min-eq_left small

  brief_more : new.full ≡ false → brief_in new.kept ≡ with_patch (brief_in old.kept) patch
  brief_more is =
      let applied = (meets.applied is).0 in
      ap (λ (is : List Id). record { ids = is; bytes = new.kept.bytes; contents = new.kept.contents.contents }) adds.ids_are
      ∙ ap (λ (n : ℕ). record { ids = old.kept.ids.items ++ patch.meaning.id ∷ []; bytes = n; contents = new.kept.contents.contents }) bytes_more
      ∙ ap (λ (d : Dataset). record { ids = old.kept.ids.items ++ patch.meaning.id ∷ []; bytes = old.kept.bytes + length patch.text; contents = d }) applied

  overflow_more : (was : Bool) → old.full ≡ was → new.full ≡ true → AreMore most (changes_taken taken ++ patch.meaning.changes) []
  overflow_more true was is = overflows_still (changes_taken taken) patch.meaning.changes (read.overflow was)
  overflow_more false was is = overflows_now (changes_taken taken) patch.meaning.changes old.kept.contents.terms (read.met was) (meets.overflow was is)

  pub has_read_more : HasReadZone new (taken ++ patch ∷ [])
  has_read_more = record {
    ids_are = adds.ids_are ∙ ap (λ (is : List Id). is ++ patch.meaning.id ∷ []) read.ids_are ∙ sym (map-append id_taken taken (patch ∷ []));
    bytes_are = bytes_more ∙ ap (λ (n : ℕ). n + length patch.text) read.bytes_are ∙ sym (ap (λ (brief : Brief). brief.bytes) (brief-push taken patch));
    whole = λ is. brief_more is ∙ ap (λ (brief : Brief). with_patch brief patch) (read.whole (was_not_full is)) ∙ sym (brief-push taken patch);
    met = λ is. subst (λ (cs : List Change). AreMet cs [] new.kept.contents.terms) (sym (changes-push taken patch))
        (meets_both (changes_taken taken) patch.meaning.changes [] old.kept.contents.terms new.kept.contents.terms (read.met (was_not_full is)) (meets.applied is).1);
    overflow = λ is. subst (λ (cs : List Change). AreMore most cs []) (sym (changes-push taken patch)) (overflow_more old.full refl is);
  }

pub has_read_none : (reading : Reading) → reading.kept.ids.items ≡ [] → reading.kept.bytes ≡ 0 → reading.kept.contents ≡ record { contents = empty; staged = None; terms = [] } → reading.full ≡ false → HasReadZone reading []
has_read_none reading ids bytes contents full = record {
  ids_are = ids;
  bytes_are = bytes;
  whole = λ is.
      ap (λ (is : List Id). record { ids = is; bytes = reading.kept.bytes; contents = reading.kept.contents.contents }) ids
      ∙ ap (λ (n : ℕ). record { ids = []; bytes = n; contents = reading.kept.contents.contents }) bytes
      ∙ ap (λ (d : Dataset). record { ids = []; bytes = 0; contents = d }) (ap (λ v. v.contents) contents);
  met = λ is. subst (λ (ts : List Term). AreMet [] [] ts) (sym (ap (λ v. v.terms) contents)) (meets_none [] []);
  overflow = λ is. absurd (true_and_false reading.full is full);
}

-- ---- all payloads

pub found_none : (most : ℕ) → AreFoundPatches [] most []
found_none most = record { texts_are = refl; checked = tt; chain = record { follow = tt; differ = tt }; few = omega arith }

pub found_more : (found : List (List ℕ)) (text : List ℕ) (most : ℕ) (taken : List CheckedPatch) (patch : CheckedPatch) → AreFoundPatches found most taken → IsNextPatch (map id_taken taken) text most patch → AreFoundPatches (found ++ text ∷ []) most (taken ++ patch ∷ [])
found_more found text most taken patch are next = record {
  texts_are = texts-push taken patch ∙ ap (λ (ts : List (List ℕ)). ts ++ patch.text ∷ []) are.texts_are ∙ ap (λ (t : List ℕ). found ++ t ∷ []) next.text_is;
  checked = checked-push taken patch are.checked next.checked;
  chain = chain-push taken patch are.chain next.follows next.new;
  few = omega (arith, next.few, length-map taken id_taken, length-append taken (patch ∷ []));
}

-- ---- what was received

module _ (first old new : Reading) (payloads : List (List ℕ)) (text : List ℕ) (has : HasReceived first payloads old) where
  -- a payload that is the next patch
  pub received_more : old.broken ≡ false → new.broken ≡ old.broken → new.most ≡ old.most
      → ((patch : CheckedPatch) × IsNextPatch old.kept.ids.items text old.most patch × AddsPatch old new patch)
      → HasReceived first (payloads ++ text ∷ []) new
  received_more whole still same added =
      let found = has.found whole in
      let read = found.2 in
      let next = subst (λ (n : ℕ). IsNextPatch (map id_taken found.0) text n added.0) has.most_is (subst (λ (ids : List Id). IsNextPatch ids text old.most added.0) read.ids_are added.1) in
      record {
        most_is = same ∙ has.most_is;
        found = λ is. (found.0 ++ added.0 ∷ [], found_more payloads text first.most found.0 added.0 found.1 next, has_read_more old new added.0 added.2 next.checked.short found.0 found.1.checked read);
        breaks = λ is. absurd (true_and_false new.broken is (still ∙ whole));
      }

  -- one that isn't
  pub received_broken : old.broken ≡ false → new.broken ≡ true → new.most ≡ old.most → new.kept.ids.items ≡ old.kept.ids.items
      → ((patch : CheckedPatch) → IsNextPatch old.kept.ids.items text old.most patch → ⊥) → HasReceived first (payloads ++ text ∷ []) new
  received_broken whole broken same ids none =
      let found = has.found whole in
      let read = found.2 in
      let count : length found.0 + 1 ≡ length new.kept.ids.items + 1 = omega (arith, ap length ids, ap length read.ids_are, length-map found.0 id_taken) in
      let no_next = λ (patch : CheckedPatch) (next : IsNextPatch (map id_taken found.0) text first.most patch).
      none patch (subst (λ (n : ℕ). IsNextPatch old.kept.ids.items text n patch) (sym has.most_is) (subst (λ (is : List Id). IsNextPatch is text first.most patch) (sym read.ids_are) next)) in
      record {
        most_is = same ∙ has.most_is;
        found = λ is. absurd (true_and_false new.broken broken is);
        breaks = λ is. subst (λ (n : ℕ). BreaksAt (AreChained first.most) (payloads ++ text ∷ []) n) count (breaks payloads first.most found.0 found.1 text [] no_next);
      }
