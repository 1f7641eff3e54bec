-- What `squash` and `invert` keep.
use Rattle.std.proofs.Common.{◌≡◌, ◌-◌, List, [], ◌∷◌, ◌++◌, take, drop, Some, refl, sym, ap, subst, ◌∙◌, arith}
use Rattle.std.specs.List.{AllByRecursion}
use Rattle.std.proofs.lemmas.List.{map-append}
use Rattle.chain_core.specs.Links.{IsChain}
use Rattle.net_changes.proofs.Told.{empty_value}
use Rattle.patch_algebra.specs.Laws.{IsPatchValue}
use Rattle.patch_algebra.specs.Nets.{net, run_changes}
use Rattle.patch_algebra.specs.Patches.{id_of_last, inverse_of, net_patch_of}
use Rattle.patch_algebra.specs.Squashes.{net_meaning}
use Rattle.patch_algebra.specs.Written.{patch_in_block}
use Rattle.patch_algebra.proofs.Runs.{inverses_come_to_nothing}
use Rattle.patch_algebra.proofs.Squashing.{replay_value, squashes_keep_chains, squashes_keep_replays}
use Rattle.patch_algebra.proofs.Values.{patches_are_values}
use Rattle.patch_meaning.specs.Checked.{AreChecked, CheckedPatch, meanings}
use Rattle.patch_meaning.specs.Patch.{IsPatch, Meaning}
use Rattle.patch_meaning.specs.Replay.{links_said, replay}
use Rattle.patch_meaning.proofs.Joined.{checked_by_itself}
use Rattle.rdf_terms.specs.Dataset.{empty}
use Rattle.rdf_terms.specs.declared.change.Change.{Change}
use Rattle.stream_squash.specs.Laws.{InversesAreSquashed, IsSameChain, SquashesKeepDatasets}
use Rattle.stream_squash.proofs.Texts.{checked_behind, checked_front, in_three}

are_values : (ps : List CheckedPatch) → AreChecked ps → AllByRecursion IsPatchValue (meanings ps)
are_values [] are = tt
are_values (p ∷ ps) are = (patches_are_values p.text p.meaning are.0, are_values ps are.1)

checked_more : (ps qs : List CheckedPatch) → AreChecked ps → AreChecked qs → AreChecked (ps ++ qs)
checked_more [] qs as_ bs = bs
checked_more (p ∷ ps) qs as_ bs = (as_.0, checked_more ps qs as_.1 bs)

meanings-append : (ps qs : List CheckedPatch) → meanings (ps ++ qs) ≡ meanings ps ++ meanings qs
meanings-append ps qs = map-append (λ (p : CheckedPatch). p.meaning) ps qs

-- one patch in the place of some
module _ (before run behind : List CheckedPatch) (net_ : CheckedPatch) (checked : AreChecked (before ++ (run ++ behind))) (chain : IsChain (links_said (meanings (before ++ (run ++ behind))))) (patch : IsPatch net_.text net_.meaning) where
  all_is : meanings (before ++ (run ++ behind)) ≡ meanings before ++ (meanings run ++ meanings behind)
  all_is = meanings-append before (run ++ behind) ∙ ap (λ (ms : List Meaning). meanings before ++ ms) (meanings-append run behind)

  some_is : meanings (before ++ net_ ∷ behind) ≡ meanings before ++ net_.meaning ∷ meanings behind
  some_is = meanings-append before (net_ ∷ behind)

  by_run : (ms : List Meaning) → meanings run ≡ ms → Some net_ ≡ net_patch_of (replay (meanings before)) ms → IsSameChain (before ++ (run ++ behind)) (before ++ net_ ∷ behind)
  by_run [] are is = absurd cc
  by_run (m ∷ ms) are is = record {
    checked = checked_more before (net_ ∷ behind) (checked_front before (run ++ behind) checked) (patch, checked_behind run behind (checked_behind before (run ++ behind) checked));
    chain = subst (λ (l : List Meaning). IsChain (links_said l)) (sym (some_is ∙ put))
        (squashes_keep_chains (replay (meanings before)) (meanings before) m ms (meanings behind) (subst (λ (l : List Meaning). IsChain (links_said l)) (all_is ∙ ran) chain));
    replay_is = ap replay (some_is ∙ put)
        ∙ squashes_keep_replays (meanings before) m ms (meanings behind) (are_values before (checked_front before (run ++ behind) checked))
        (subst (AllByRecursion IsPatchValue) are (are_values run (checked_front run behind (checked_behind before (run ++ behind) checked))))
        ∙ ap replay (sym (all_is ∙ ran));
  }
    where
      ran : meanings before ++ (meanings run ++ meanings behind) ≡ meanings before ++ ((m ∷ ms) ++ meanings behind)
      ran = ap (λ (l : List Meaning). meanings before ++ (l ++ meanings behind)) are

      one : net_ ≡ patch_in_block (id_of_last m ms) m.prev (net (replay (meanings before)) (run_changes (m ∷ ms)))
      one = cc

      put : meanings before ++ net_.meaning ∷ meanings behind ≡ meanings before ++ net_meaning (replay (meanings before)) m ms ∷ meanings behind
      put = ap (λ (p : CheckedPatch). meanings before ++ p.meaning ∷ meanings behind) one

same_chain : (ps before run behind : List CheckedPatch) (net_ : CheckedPatch) → before ++ (run ++ behind) ≡ ps → AreChecked ps → IsChain (links_said (meanings ps)) → IsPatch net_.text net_.meaning
    → Some net_ ≡ net_patch_of (replay (meanings before)) (meanings run) → IsSameChain ps (before ++ net_ ∷ behind)
same_chain ps before run behind net_ whole checked chain patch is =
    subst (λ (l : List CheckedPatch). IsSameChain l (before ++ net_ ∷ behind)) whole
    (by_run before run behind net_ (subst AreChecked (sym whole) checked) (subst (λ (l : List CheckedPatch). IsChain (links_said (meanings l))) (sym whole) chain) patch (meanings run) refl is)

pub squashes_keep_datasets : SquashesKeepDatasets
squashes_keep_datasets from to text result first order s =
    let ps = s.patches in
    same_chain ps (take (from - 1) ps) (drop (from - 1) (take to ps)) (drop to ps) s.net (in_three (from - 1) to ps (omega (arith, order))) (checked_by_itself text ps s.has.chained.split) s.has.chained.chain s.is_patch s.has.net_is

pub inverses_are_squashed : InversesAreSquashed
inverses_are_squashed id text p i =
    let checked = checked_by_itself text (i.before ++ i.last ∷ []) i.split in
    let d = replay (meanings i.before) in
    let value = replay_value (meanings i.before) empty (are_values i.before (checked_front i.before (i.last ∷ []) checked)) empty_value in
    let m = i.last.meaning in
    let none : net d (run_changes (m ∷ (inverse_of d m id).meaning ∷ [])) ≡ [] = inverses_come_to_nothing d m id value (patches_are_values i.last.text m (checked_behind i.before (i.last ∷ []) checked).0) in
    ap (λ (q : CheckedPatch). net_patch_of d (m ∷ q.meaning ∷ [])) i.inverse_is ∙ ap (λ (cs : List Change). Some (patch_in_block id m.prev cs)) none
