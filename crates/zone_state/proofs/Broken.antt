-- Where the payloads of a zone's journal are no chain.
use Rattle.std.proofs.Common.{◌≡◌, ℕ, zero, suc, ◌+◌, ◌≤◌, List, [], ◌∷◌, ◌++◌, length, map, take, refl, sym, ◌∙◌, ap, subst, arith, length-append, append_assoc}
use Rattle.std.specs.List.{AllByRecursion}
use Rattle.std.proofs.lemmas.List.{length-map, take_at}
use Rattle.patch_meaning.specs.Checked.{CheckedPatch}
use Rattle.chain_core.specs.declared.chain.Patch.{Patch}
use Rattle.chain_core.specs.Breaks.{BreaksAt}
use Rattle.chain_core.specs.Links.{IsChain}
use Rattle.chain_core.specs.Patches.{links_of, texts_of, version_of, last_id}
use Rattle.chain_core.proofs.Fronts.{links-front}
use Rattle.patch_log.specs.Log.{bare, IsSound}
use Rattle.zone_state.specs.Brief.{id_taken}
use Rattle.zone_state.specs.Log.{AreChained}
use Rattle.zone_state.specs.Next.{IsNextPatch, AreFoundPatches}
use Rattle.zone_state.proofs.Growing.{bare_texts, bare_versions, bare_last}
use Rattle.zone_state.proofs.Sound.{heads, one_list, sound_checked, sound-front, chained-take}

-- the last of some patches whose texts end with a text
record HasLast (patches : List Patch) (texts : List (List ℕ)) (text : List ℕ) : Type 0 where
  front : List Patch
  last : Patch
  parts : patches ≡ front ++ last ∷ []
  front_texts : texts_of front ≡ texts
  last_text : last.text ≡ text

has_last : (patches : List Patch) (texts : List (List ℕ)) (text : List ℕ) → texts_of patches ≡ texts ++ text ∷ [] → HasLast patches texts text
has_last [] [] text same = absurd (cc)
has_last [] (t ∷ texts) text same = absurd (cc)
has_last (patch ∷ []) [] text same = record { front = []; last = patch; parts = refl; front_texts = refl; last_text = (heads patch.text text [] [] same).0 }
has_last (patch ∷ (next ∷ patches)) [] text same = let parts = heads patch.text text (texts_of (next ∷ patches)) [] same in let no : next.text ∷ texts_of patches ≡ [] = parts.1 in absurd (cc)
has_last (patch ∷ patches) (t ∷ texts) text same =
    let parts = heads patch.text t (texts_of patches) (texts ++ text ∷ []) same in
    let rest = has_last patches texts text parts.1 in
    record { front = patch ∷ rest.front; last = rest.last; parts = ap (λ (ps : List Patch). patch ∷ ps) rest.parts; front_texts = ap (λ (t : List ℕ). t ∷ texts_of rest.front) parts.0 ∙ ap (λ (ts : List (List ℕ)). t ∷ ts) rest.front_texts; last_text = rest.last_text }

module _ (found : List (List ℕ)) (most : ℕ) (taken : List CheckedPatch) (are : AreFoundPatches found most taken) where
  count : length found ≡ length taken
  count = ap length (sym are.texts_are) ∙ length-map taken (λ (patch : CheckedPatch). patch.text)

  -- where no patch is next, the texts are no chain
  no_chain : (text : List ℕ) → ((patch : CheckedPatch) → IsNextPatch (map id_taken taken) text most patch → ⊥) → AreChained most (found ++ text ∷ []) → ⊥
  no_chain text none chained =
      let last = has_last chained.patches found text chained.texts_are in
      let sound = sound-front last.front last.last (subst (λ (ps : List Patch). AllByRecursion IsSound ps) last.parts chained.sound) in
      let next = links-front last.front last.last (subst (λ (ps : List Patch). IsChain (links_of ps)) last.parts chained.chain) in
      let same : last.front ≡ map bare taken = one_list last.front (map bare taken) (last.front_texts ∙ sym (bare_texts taken ∙ are.texts_are)) sound.0 (sound_checked taken are.checked) in
      let read = sound.1 in
      none (record { text = last.last.text; meaning = record { id = last.last.id; prev = last.last.prev; changes = read.0 } }) (record {
        text_is = last.last_text;
        checked = read.1;
        follows = next.follows ∙ ap last_id same ∙ bare_last taken;
        new = sym (bare_versions taken last.last.id) ∙ ap (λ (ps : List Patch). version_of ps last.last.id) (sym same) ∙ next.new;
        few = omega (arith, chained.few, count, length-append found (text ∷ []), length-map taken id_taken);
      })

  -- what is found is a chain
  found_chained : AreChained most found
  found_chained = record {
    patches = map bare taken;
    texts_are = bare_texts taken ∙ are.texts_are;
    sound = sound_checked taken are.checked;
    chain = are.chain;
    few = omega (arith, are.few, count);
  }

  -- where no patch is the next one, the texts break there
  pub breaks : (text : List ℕ) (rest : List (List ℕ)) → ((patch : CheckedPatch) → IsNextPatch (map id_taken taken) text most patch → ⊥) → BreaksAt (AreChained most) (found ++ text ∷ rest) (length taken + 1)
  breaks text rest none =
      let here : take (length taken + 1) (found ++ text ∷ rest) ≡ found ++ text ∷ [] =
      ap (λ (ts : List (List ℕ)). take (length taken + 1) ts) (sym (append_assoc found (text ∷ []) rest)) ∙ take_at (found ++ text ∷ []) rest (length taken + 1) (omega (arith, count, length-append found (text ∷ []))) in
      record {
        within = omega (arith, count, length-append found (text ∷ rest));
        so_before = λ earlier before. subst (λ (ts : List (List ℕ)). AreChained most ts) (front found (text ∷ rest) earlier (omega (arith, before, count))) (chained-take found most earlier found_chained);
        broken = λ whole. no_chain text none (subst (λ (ts : List (List ℕ)). AreChained most ts) here whole);
      }
    where
      front : (texts more : List (List ℕ)) (n : ℕ) → n ≤ length texts → take n texts ≡ take n (texts ++ more)
      front [] more zero fits = refl
      front [] more (suc n) fits = absurd (omega (arith, fits))
      front (t ∷ texts) more zero fits = refl
      front (t ∷ texts) more (suc n) fits = ap (λ (ts : List (List ℕ)). t ∷ ts) (front texts more n (omega (arith, fits)))
