-- A zone's files that follow a chain.
use Rattle.std.proofs.Common.{◌≡◌, inl, inr, ℕ, List, [], ◌∷◌, ◌++◌, Option, None, length, map, refl, sym, subst, ap, ◌∙◌, append_assoc}
use Rattle.std.proofs.lemmas.List.{length-map}
use mathlib.Core.List.{IsPrefix}
use Rattle.chain_core.specs.Links.{IsChain}
use Rattle.chain_core.specs.Patches.{links_of}
use Rattle.patch_log.specs.Log.{bare}
use Rattle.patch_meaning.specs.Checked.{AreChecked, CheckedPatch}
use Rattle.checkpoint_text.specs.Brief.{Brief}
use Rattle.zone_pairs.specs.Briefs.{brief_of, id_taken, with_patch}
use Rattle.zone_pairs.proofs.OneZone.{one_zone}
use Rattle.http_text.proofs.NextLemmas.{no_end_before, no_fault_before, same_next}
use Rattle.rpc_answers.proofs.Readings.{one_answer}
use Rattle.delta_client.specs.Exchanges.{DialView, Exchanged}
use Rattle.follower.specs.Calls.{calls_of}
use Rattle.follower.specs.Chains.{MayEndWell, ServesRest, TextsAreOf}
use Rattle.follower.specs.Footing.{with_patches}
use Rattle.follower.specs.declared.ends.SyncEnd.{SyncEnd}
use Rattle.follower.proofs.Fronts.{began_by, checked_both, checked_front, kept_more, shorter_prefix}
use Rattle.follower.proofs.Serving.{ends_well}
use Rattle.zone_commands.specs.Files.{AreZoneFiles}
use Rattle.zone_commands.specs.Following.{AreFilesOfFront, AreLeftFiles, Followed, zone_of}

-- with one patch more
with_last : (brief : Brief) (taken : List CheckedPatch) (last : CheckedPatch) → brief ≡ brief_of taken → with_patch brief last ≡ brief_of (taken ++ last ∷ [])
with_last brief taken last same = kept_more brief (with_patch brief last) taken (last ∷ []) same refl

module _ {L : Type 0} (left sent : L → Option (List ℕ)) (tells net_tells : Type 0) (address name first second first' second' : List ℕ) (net net' : DialView L) (end : SyncEnd)
    (it : Followed left sent tells net_tells address name first second first' second' net net' end) (tell : tells) (taken : List CheckedPatch) (files : AreZoneFiles first second (brief_of taken))
  where
    -- what the zone kept is what the files hold
    had : it.brief ≡ brief_of taken
    had = one_zone first second it.brief (brief_of taken) (it.was tell).hold files.hold

    have : with_patches it.brief it.more ≡ brief_of (taken ++ it.more)
    have = kept_more it.brief (with_patches it.brief it.more) taken it.more had refl

    pub hold_front : (chain : List CheckedPatch) → AreChecked chain → IsPrefix taken chain → TextsAreOf chain (calls_of name (length taken) it.said) it.said → AreFilesOfFront chain first' second'
    hold_front chain checked begins texts = by (it.is tell)
      where
        began : IsPrefix ((taken ++ it.more) ++ it.tried) chain
        began =
            subst (λ (ps : List CheckedPatch). IsPrefix ps chain) (sym (append_assoc taken it.more it.tried))
            (began_by (zone_of it.brief it.met) (zone_of (with_patches it.brief it.more) it.met') chain taken it.more name it.said end checked begins it.checked texts it.ended it.tried it.was_tried)

        by : AreLeftFiles first' second' (with_patches it.brief it.more) it.tried end → AreFilesOfFront chain first' second'
        by (inl left_so) = (taken ++ it.more, shorter_prefix (taken ++ it.more) it.tried chain began, subst (AreZoneFiles first' second') have left_so)
        by (inr (ends, (last, tried, left_so))) = (
          (taken ++ it.more) ++ last ∷ [],
          subst (λ (ps : List CheckedPatch). IsPrefix ((taken ++ it.more) ++ ps) chain) tried began,
          subst (AreZoneFiles first' second') (with_last (with_patches it.brief it.more) (taken ++ it.more) last have) left_so,
        )

    pub ends_so : net_tells → (rest : List CheckedPatch) → AreChecked (taken ++ rest) → IsChain (links_of (map bare (taken ++ rest))) → ServesRest left name taken rest net.links.to_come → MayEndWell end
    ends_so told rest checked is_chain serves =
        let count : length it.brief.ids ≡ length taken = ap (λ (b : Brief). length b.ids) had ∙ length-map taken id_taken in
        let asked = subst (λ (n : ℕ). Exchanged left sent address (calls_of name n it.said) it.said None net net') count (it.asked told) in
        ends_well left sent address name (zone_of it.brief it.met) (zone_of (with_patches it.brief it.more) it.met') taken rest it.more it.said net net' same_next no_end_before no_fault_before one_answer checked is_chain serves had have
        (checked_both taken it.more (checked_front taken rest checked) it.checked) asked end it.ended
