-- What a test that is kept says of the patch behind the chain.
use Rattle.std.proofs.Common.{◌≡◌, ℕ, ◌+◌, List, [], ◌∷◌, ◌++◌, length, take, Option, Some, None, refl, sym, ap, subst, ◌∙◌, length-append, arith}
use Rattle.std.specs.Prelude.{slice_get}
use Rattle.std.specs.Option.{option_map}
use Rattle.std.proofs.Math.Seq.{get_or-append_seam, take-append-add}
use Rattle.std.proofs.lemmas.List.{length-map, take_at, take-append-le}
use Rattle.std.proofs.lemmas.Option.{none-some, slice_get_read}
use Rattle.delta_base.specs.declared.id.Id.{Id}
use Rattle.log_base.specs.declared.chain_link.ChainLink.{ChainLink}
use Rattle.chain_core.specs.declared.testing.ChainTest.{ChainTest}
use Rattle.chain_core.specs.Ids.{last_of, version_among}
use Rattle.chain_core.specs.Index.{HasOneMore, IsIndexOf}
use Rattle.chain_core.specs.Links.{IsChain, link_ids}
use Rattle.chain_core.specs.Breaks.{BreaksAt, DivergesAt, RepeatsAt}
use Rattle.chain_core.specs.Tested.{IsTested}
use Rattle.chain_core.proofs.Chained.{chain-push}
use Rattle.chain_core.proofs.Fronts.{chain-take, last_link}
use Rattle.chain_core.proofs.Versions.{id_of, last_of-push, link_ids-push}

abbrev prev_of : ChainLink → Option Id
prev_of l = l.prev

-- ---- the patch behind the chain

behind : (ls more : List ChainLink) (x : ChainLink) → slice_get (ls ++ x ∷ more) (length ls) ≡ Some x
behind ls more x =
    slice_get_read (ls ++ x ∷ more) (length (ls ++ x ∷ more)) (length ls) x refl (omega (arith, length-append ls (x ∷ more))) (sym (get_or-append_seam ls x more x))

before : (ls more : List ChainLink) (x : ChainLink) → take (length ls) (ls ++ x ∷ more) ≡ ls
before ls more x = take_at ls (x ∷ more) (length ls) refl

-- with it they are no chain
breaks_behind : (ls more : List ChainLink) (x : ChainLink) → IsChain ls → (IsChain (ls ++ x ∷ []) → ⊥) → BreaksAt IsChain (ls ++ x ∷ more) (length ls + 1)
breaks_behind ls more x chain none = record {
  within = omega (arith, length-append ls (x ∷ more));
  so_before = λ fewer less. subst IsChain (sym (take-append-le fewer ls (x ∷ more) (omega arith))) (chain-take ls fewer chain);
  broken = λ longer. none (subst IsChain (take-append-add ls (x ∷ more) 1) longer);
}

pub diverges : (ls more : List ChainLink) (x : ChainLink) (t : ChainTest) → IsTested ls t → (x.prev ≡ t.head → ⊥) → DivergesAt (ls ++ x ∷ more) t.version t.head x.prev
diverges ls more x t is differ =
    subst (λ (n : ℕ). DivergesAt (ls ++ x ∷ more) n t.head x.prev) (sym is.version_is)
    (record {
      breaks = breaks_behind ls more x is.chain (λ longer. differ ((last_link ls x longer).0 ∙ sym is.head_is));
      have_is = is.head_is ∙ ap (λ (front : List ChainLink). last_of (link_ids front)) (sym (before ls more x));
      found_is = ap (option_map prev_of) (behind ls more x);
      differ = differ;
    })

pub repeats : (ls more : List ChainLink) (x : ChainLink) (t : ChainTest) (version : ℕ) → IsTested ls t → x.prev ≡ t.head → version_among (link_ids ls) x.id ≡ Some version → RepeatsAt (ls ++ x ∷ more) x.id version
repeats ls more x t version is same found = record {
  taken = length ls;
  breaks = breaks_behind ls more x is.chain (λ longer. none-some version (sym (last_link ls x longer).1 ∙ found));
  follows = ap (option_map prev_of) (behind ls more x) ∙ ap Some (same ∙ is.head_is ∙ ap (λ (front : List ChainLink). last_of (link_ids front)) (sym (before ls more x)));
  id_is = ap (option_map id_of) (behind ls more x);
  version_is = ap (λ (front : List ChainLink). version_among (link_ids front) x.id) (before ls more x) ∙ found;
}

pub follows : (ls : List ChainLink) (x : ChainLink) (t : ChainTest) → IsTested ls t → x.prev ≡ t.head → version_among (link_ids ls) x.id ≡ None → IsChain (ls ++ x ∷ [])
follows ls x t is same absent = chain-push ls x is.chain (same ∙ is.head_is) absent

-- ---- one patch more

pub tested_more : (ls : List ChainLink) (x : ChainLink) (old new : ChainTest) → IsTested ls old → IsChain (ls ++ x ∷ []) → new.version ≡ old.version + 1 → new.head ≡ Some x.id
    → HasOneMore old.index x.id (old.version + 1) new.index → IsTested (ls ++ x ∷ []) new
tested_more ls x old new is chain version head more =
    let ids = link_ids ls in
    record {
      chain = chain;
      version_is = version ∙ ap (λ (n : ℕ). n + 1) is.version_is ∙ sym (length-append ls (x ∷ []));
      head_is = head ∙ sym (ap last_of (link_ids-push ls x) ∙ last_of-push ids x.id);
      index_is = subst (IsIndexOf new.index) (sym (link_ids-push ls x)) (more ids is.index_is (last_link ls x chain).1 (ap (λ (n : ℕ). n + 1) (is.version_is ∙ sym (length-map ls id_of))));
    }
