-- Where the patches of a current file stop being a chain.
use Rattle.std.proofs.Common.{◌≡◌, ◌≢◌, ℕ, zero, suc, ◌+◌, ◌-◌, ◌<◌, ◌≤◌, List, [], ◌∷◌, ◌++◌, length, take, Option, Some, None, refl, sym, ◌∙◌, ap, subst, arith, length-append}
use Rattle.std.proofs.Math.Seq.{take-append-add}
use Rattle.std.proofs.lemmas.List.{length-map, length-take-le, take-append-le, take_all}
use Rattle.delta_base.specs.declared.id.Id.{Id}
use Rattle.chain_core.specs.Breaks.{BreaksAt}
use Rattle.chain_core.specs.Ids.{last_of, version_among}
use Rattle.chain_core.specs.Links.{AllDiffer}
use Rattle.patch_meaning.specs.Checked.{CheckedPatch, AreChecked, checked_texts}
use Rattle.patch_meaning.specs.Patch.{IsPatch}
use Rattle.checkpoint_text.specs.Brief.{Brief}
use Rattle.zone_pairs.specs.Briefs.{with_patch}
use Rattle.zone_pairs.specs.Pair.{Fits, TakeTo, start_brief}
use Rattle.zone_pairs.proofs.OneZone.{same_patches, take_once}
use Rattle.zone_state.specs.Next.{IsNextPatch}
use Rattle.paired_reading.specs.Payloads.{AreNew, AreAllChained, AreChainedTo, BreakAtVersion}
use Rattle.paired_reading.proofs.Differing.{differ-take}

-- ---- among the ids of a checkpoint

take-none : (texts : List (List ℕ)) (n : ℕ) → n ≡ 0 → [] ≡ take n texts
take-none texts n none = sym (ap (λ (k : ℕ). take k texts) none)

pub ids_break : (most : ℕ) (start : Brief) (texts : List (List ℕ)) (version : ℕ) → BreaksAt (AreNew most) start.ids version → BreakAtVersion most (Some start) texts version
ids_break most start texts version breaks = record {
  within = omega (arith, breaks.within);
  so_before = λ fewer before.
      let so = breaks.so_before fewer before in
      let whole : length (take fewer start.ids) ≡ fewer = length-take-le fewer start.ids (omega (arith, breaks.within, before)) in
      record {
        few = omega (arith, so.1, whole);
        differ = so.0;
        patches = [];
        brief = start;
        texts_are = take-none texts (fewer - length start.ids) (omega (arith, breaks.within, before));
        checked = tt;
        take_to = refl;
      };
  broken = λ chained. breaks.broken (chained.differ, omega (arith, chained.few, length-take-le version start.ids breaks.within));
}

-- ---- the first patches of a chain

pub checked-take : (patches : List CheckedPatch) (n : ℕ) → AreChecked patches → AreChecked (take n patches)
checked-take [] zero are = tt
checked-take [] (suc n) are = tt
checked-take (patch ∷ patches) zero are = tt
checked-take (patch ∷ patches) (suc n) are = (are.0, checked-take patches n are.1)

texts-take : (patches : List CheckedPatch) (n : ℕ) → checked_texts (take n patches) ≡ take n (checked_texts patches)
texts-take [] zero = refl
texts-take [] (suc n) = refl
texts-take (patch ∷ patches) zero = refl
texts-take (patch ∷ patches) (suc n) = ap (λ (ts : List (List ℕ)). patch.text ∷ ts) (texts-take patches n)

taken-front : (before after : Brief) (patches : List CheckedPatch) (n : ℕ) → TakeTo before patches after → (mid : Brief) × TakeTo before (take n patches) mid
taken-front before after [] zero taken = (before, refl)
taken-front before after [] (suc n) taken = (before, refl)
taken-front before after (patch ∷ patches) zero taken = (before, refl)
taken-front before after (patch ∷ patches) (suc n) taken =
    let rest = taken-front (with_patch before patch) after patches n taken.1 in
    (rest.0, (taken.0, rest.1))

-- how many ids there are behind patches
pub taken_count : (before after : Brief) (patches : List CheckedPatch) → TakeTo before patches after → length after.ids ≡ length before.ids + length patches
taken_count before after [] taken = omega (arith, ap (λ (b : Brief). length b.ids) taken)
taken_count before after (patch ∷ patches) taken = omega (arith, taken_count (with_patch before patch) after patches taken.1, length-append before.ids (patch.meaning.id ∷ []))

-- ---- a last patch

-- the patches whose texts these are and one more
record HasLast (before after : Brief) (patches : List CheckedPatch) (texts : List (List ℕ)) (text : List ℕ) : Type 0 where
  front : List CheckedPatch
  last : CheckedPatch
  mid : Brief
  front_texts : checked_texts front ≡ texts
  front_checked : AreChecked front
  taken : TakeTo before front mid
  text_is : last.text ≡ text
  checked : IsPatch last.text last.meaning
  fits : Fits mid last

first_is : (a b : List ℕ) (xs ys : List (List ℕ)) → a ∷ xs ≡ b ∷ ys → a ≡ b
first_is a b xs ys same = cc

others_are : (a b : List ℕ) (xs ys : List (List ℕ)) → a ∷ xs ≡ b ∷ ys → xs ≡ ys
others_are a b xs ys same = cc

has_last : (before after : Brief) (patches : List CheckedPatch) (texts : List (List ℕ)) (text : List ℕ) → AreChecked patches → TakeTo before patches after → checked_texts patches ≡ texts ++ text ∷ [] → HasLast before after patches texts text
has_last before after [] [] text are taken same = absurd (cc)
has_last before after [] (t ∷ texts) text are taken same = absurd (cc)
has_last before after (patch ∷ patches) [] text are taken same = record {
  front = [];
  last = patch;
  mid = before;
  front_texts = refl;
  front_checked = tt;
  taken = refl;
  text_is = first_is patch.text text (checked_texts patches) [] same;
  checked = are.0;
  fits = taken.0;
}
has_last before after (patch ∷ patches) (t ∷ texts) text are taken same =
    let rest = has_last (with_patch before patch) after patches texts text are.1 taken.1 (others_are patch.text t (checked_texts patches) (texts ++ text ∷ []) same) in
    record {
      front = patch ∷ rest.front;
      last = rest.last;
      mid = rest.mid;
      front_texts = ap (λ (x : List ℕ). x ∷ checked_texts rest.front) (first_is patch.text t (checked_texts patches) (texts ++ text ∷ []) same) ∙ ap (λ (xs : List (List ℕ)). t ∷ xs) rest.front_texts;
      front_checked = (are.0, rest.front_checked);
      taken = (taken.0, rest.taken);
      text_is = rest.text_is;
      checked = rest.checked;
      fits = rest.fits;
    }

-- ---- behind patches

module _ (most : ℕ) (start : Option Brief) (texts : List (List ℕ)) (patches : List CheckedPatch) (brief : Brief) (are : AreAllChained most start texts patches brief) where
  abbrev begun : ℕ
  begun = length (start_brief start).ids

  pub count : length texts ≡ length patches
  count = ap length (sym are.texts_are) ∙ length-map patches (λ (patch : CheckedPatch). patch.text)

  pub ids_count : length brief.ids ≡ begun + length patches
  ids_count = taken_count (start_brief start) brief patches are.take_to

  -- fewer of them, whatever comes behind, are a chain
  front_chained : (more : List (List ℕ)) (fewer : ℕ) → fewer ≤ length brief.ids → AreChainedTo most start (texts ++ more) fewer
  front_chained more fewer within =
      let n : ℕ = fewer - begun in
      let short : n ≤ length texts = omega (arith, within, ids_count, count) in
      let front = taken-front (start_brief start) brief patches n are.take_to in
      record {
        few = omega (arith, within, are.few);
        differ = differ-take (start_brief start).ids fewer are.differ;
        patches = take n patches;
        brief = front.0;
        texts_are = texts-take patches n ∙ ap (take n) are.texts_are ∙ sym (take-append-le n texts more short);
        checked = checked-take patches n are.checked;
        take_to = front.1;
      }

  -- where none is next, with one more they are none
  none_chained : (text : List ℕ) → ((patch : CheckedPatch) → IsNextPatch brief.ids text most patch → ⊥) → AreChainedTo most start (texts ++ text ∷ []) (length brief.ids + 1) → ⊥
  none_chained text none chained =
      let n : ℕ = length brief.ids + 1 - begun in
      let all : take n (texts ++ text ∷ []) ≡ texts ++ text ∷ [] = take_all n (texts ++ text ∷ []) (omega (arith, ids_count, count, length-append texts (text ∷ []))) in
      let last = has_last (start_brief start) chained.brief chained.patches texts text chained.checked chained.take_to (chained.texts_are ∙ all) in
      let same : last.front ≡ patches = same_patches last.front patches last.front_checked are.checked (last.front_texts ∙ sym are.texts_are) in
      let here : last.mid ≡ brief = take_once (start_brief start) patches last.mid brief (subst (λ (ps : List CheckedPatch). TakeTo (start_brief start) ps last.mid) same last.taken) are.take_to in
      none last.last (record {
        text_is = last.text_is;
        checked = last.checked;
        follows = last.fits.follows ∙ ap (λ (b : Brief). last_of b.ids) here;
        new = ap (λ (b : Brief). version_among b.ids last.last.meaning.id) (sym here) ∙ last.fits.new;
        few = omega (arith, chained.few);
      })

  pub patches_break : (text : List ℕ) → ((patch : CheckedPatch) → IsNextPatch brief.ids text most patch → ⊥) → BreakAtVersion most start (texts ++ text ∷ []) (length brief.ids + 1)
  patches_break text none = record {
    within = omega (arith, ids_count, count, length-append texts (text ∷ []));
    so_before = λ fewer before. front_chained (text ∷ []) fewer (omega (arith, before));
    broken = λ chained. none_chained text none chained;
  }

-- ---- what comes behind a break

module _ (most : ℕ) (start : Option Brief) (texts more : List (List ℕ)) where
  abbrev ids_before : ℕ
  ids_before = length (start_brief start).ids

  chained_still : (version : ℕ) → version ≤ ids_before + length texts → AreChainedTo most start texts version → AreChainedTo most start (texts ++ more) version
  chained_still version within are = record {
    few = are.few;
    differ = are.differ;
    patches = are.patches;
    brief = are.brief;
    texts_are = are.texts_are ∙ sym (take-append-le (version - ids_before) texts more (omega (arith, within)));
    checked = are.checked;
    take_to = are.take_to;
  }

  chained_without : (version : ℕ) → version ≤ ids_before + length texts → AreChainedTo most start (texts ++ more) version → AreChainedTo most start texts version
  chained_without version within are = record {
    few = are.few;
    differ = are.differ;
    patches = are.patches;
    brief = are.brief;
    texts_are = are.texts_are ∙ take-append-le (version - ids_before) texts more (omega (arith, within));
    checked = are.checked;
    take_to = are.take_to;
  }

  pub breaks_still : (version : ℕ) → BreakAtVersion most start texts version → BreakAtVersion most start (texts ++ more) version
  breaks_still version breaks = record {
    within = omega (arith, breaks.within, length-append texts more);
    so_before = λ fewer before. chained_still fewer (omega (arith, before, breaks.within)) (breaks.so_before fewer before);
    broken = λ chained. breaks.broken (chained_without version breaks.within chained);
  }
