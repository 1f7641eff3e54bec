-- A patch behind a chain.
use Rattle.std.proofs.Common.{◌≡◌, ℕ, List, [], ◌∷◌, ◌++◌, Option, None, Some, refl, sym, ap, subst, ◌∙◌, append_assoc}
use Rattle.std.proofs.lemmas.List.{map-append}
use Rattle.chain_core.specs.Breaks.{Breaks}
use Rattle.chain_core.specs.Ids.{last_of, version_among}
use Rattle.chain_core.specs.Links.{IsChain, link_ids}
use Rattle.chain_core.specs.Tested.{IsTested}
use Rattle.chain_core.specs.declared.testing.ChainFault.{ChainFault}
use Rattle.chain_core.specs.declared.testing.ChainFault.TheVariants as faults
use Rattle.chain_core.specs.declared.testing.ChainTest.{ChainTest}
use Rattle.chain_core.proofs.Only.{no_fault, one_fault}
use Rattle.chain_core.proofs.Tested.{follows, repeats}
use Rattle.chain_core.proofs.Versions.{last_of-push, link_ids-push}
use Rattle.delta_base.specs.declared.id.Id.{Id}
use Rattle.log_base.specs.declared.chain_link.ChainLink.{ChainLink}
use Rattle.patch_meaning.specs.Checked.{CheckedPatch, meanings}
use Rattle.patch_meaning.specs.Replay.{link_of, links_said}
use Rattle.stream_squash.specs.Links.{RepeatsId, next_link}

-- where a patch that names the last one breaks the chain, its id is repeated
pub repeats_id : (links : List ChainLink) (id : Id) (t : ChainTest) (fault : ChainFault) → IsTested links t → Breaks (links ++ next_link links id ∷ []) fault → RepeatsId links id fault
repeats_id links id t fault is breaks = by (version_among (link_ids links) id) refl
  where
    prev : last_of (link_ids links) ≡ t.head
    prev = sym is.head_is

    by : (o : Option ℕ) → version_among (link_ids links) id ≡ o → RepeatsId links id fault
    by None none = absurd (no_fault (links ++ next_link links id ∷ []) fault breaks (follows links (next_link links id) t is prev none))
    by (Some version) some =
        (version, one_fault (links ++ next_link links id ∷ []) fault (faults.Repeated id version) breaks (repeats links [] (next_link links id) t version is prev some), some)

-- the inverse of the last patch names it
pub names_last : (before : List CheckedPatch) (last : CheckedPatch) (id : Id) → next_link (links_said (meanings (before ++ last ∷ []))) id ≡ record { id = id; prev = Some last.meaning.id }
names_last before last id =
    let are : links_said (meanings (before ++ last ∷ [])) ≡ links_said (meanings before) ++ link_of last.meaning ∷ [] =
    ap links_said (map-append (λ (p : CheckedPatch). p.meaning) before (last ∷ [])) ∙ map-append link_of (meanings before) (last.meaning ∷ []) in
    let ids : last_of (link_ids (links_said (meanings (before ++ last ∷ [])))) ≡ Some last.meaning.id =
    ap (λ (ls : List ChainLink). last_of (link_ids ls)) are
    ∙ ap last_of (link_ids-push (links_said (meanings before)) (link_of last.meaning)) ∙ last_of-push (link_ids (links_said (meanings before))) last.meaning.id in
    ap (λ (o : Option Id). let l : ChainLink = record { id = id; prev = o } in l) ids

-- it goes on the chain
pub goes_on : (before : List CheckedPatch) (last p : CheckedPatch) (id : Id) → p.meaning.id ≡ id → p.meaning.prev ≡ Some last.meaning.id
    → IsChain (links_said (meanings (before ++ last ∷ [])) ++ next_link (links_said (meanings (before ++ last ∷ []))) id ∷ []) → IsChain (links_said (meanings (before ++ (last ∷ p ∷ []))))
goes_on before last p id id_is prev_is chain =
    let link : link_of p.meaning ≡ next_link (links_said (meanings (before ++ last ∷ []))) id =
    ap (λ (i : Id). let l : ChainLink = record { id = i; prev = p.meaning.prev } in l) id_is
    ∙ ap (λ (o : Option Id). let l : ChainLink = record { id = id; prev = o } in l) prev_is ∙ sym (names_last before last id) in
    let all : links_said (meanings (before ++ (last ∷ p ∷ []))) ≡ links_said (meanings (before ++ last ∷ [])) ++ link_of p.meaning ∷ [] =
    ap (λ (l : List CheckedPatch). links_said (meanings l)) (sym (append_assoc before (last ∷ []) (p ∷ [])))
    ∙ ap links_said (map-append (λ (q : CheckedPatch). q.meaning) (before ++ last ∷ []) (p ∷ []))
    ∙ map-append link_of (meanings (before ++ last ∷ [])) (p.meaning ∷ []) in
    subst IsChain (sym (all ∙ ap (λ (l : ChainLink). links_said (meanings (before ++ last ∷ [])) ++ l ∷ []) link)) chain
