use Rattle.std.proofs.Common.{rules, ◌≡◌, ◌+◌, Option, None, Some, List, length, ap, ◌∙◌, sym, arith}
use Rattle.std.proofs.lemmas.Result.{IfOk-weaker}
use Rattle.rdf_terms.specs.Quad.{Statement}
use Rattle.quad_index.specs.declared.key.KeyPattern.{KeyPattern}
use Rattle.quad_keys.specs.Keys.{quads_of}
use Rattle.dataset_tx.specs.Pattern.{fits_key, matches}
use Rattle.dataset_tx.proofs.Finding.{none_match, both_ok, match_known, match_quads, match_count}
use Rattle.dataset_tx.proofs.store.Store.found.Goals as goal

pub returns-in_default-clause-found : goal.returns-in_default-clause-found
returns-in_default-clause-found g c =
    let none : c.key_pattern.result ≡ None = search rules in
    ap (quads_of c.args.self.now.terms) c.new.ensures
    ∙ none_match c.args.self.now.terms (matches c.args.pattern.now) _ c.requires.store.each_once c.requires.store.known (λ key h. c.key_pattern.ensures key h ∙ ap (λ (o : Option KeyPattern). fits_key o key) none)

pub returns-in_default-clause-counted : goal.returns-in_default-clause-counted
returns-in_default-clause-counted g c =
    let none : c.key_pattern.result ≡ None = search rules in
    let all = ap (λ (l : List Statement). length l) (none_match c.args.self.now.terms (matches c.args.pattern.now) _ c.requires.store.each_once c.requires.store.known (λ key h. c.key_pattern.ensures key h ∙ ap (λ (o : Option KeyPattern). fits_key o key) none)) in
    omega (arith, all)

pub returns-clause-known : goal.returns-clause-known
returns-clause-known g c =
    let some : c.key_pattern.result ≡ Some c.in-Some.pattern = search rules in
    IfOk-weaker c.matching.result _ _
    (λ found h.
    match_known _ c.args.pattern.now c.in-Some.pattern _ _ _ c.requires.store.each_once c.requires.store.known c.requires.settled.searched
    (λ key h. c.key_pattern.ensures key h ∙ ap (λ (o : Option KeyPattern). fits_key o key) some) h)
    c.matching.ensures.found

pub returns-clause-found : goal.returns-clause-found
returns-clause-found g c =
    let some : c.key_pattern.result ≡ Some c.in-Some.pattern = search rules in
    IfOk-weaker c.matching.result _ _
    (λ found h.
    match_quads _ c.args.pattern.now c.in-Some.pattern _ _ _ c.requires.store.each_once c.requires.store.known c.requires.settled.searched
    (λ key h. c.key_pattern.ensures key h ∙ ap (λ (o : Option KeyPattern). fits_key o key) some) h)
    c.matching.ensures.found

pub returns-clause-cost : goal.returns-clause-cost
returns-clause-cost g c =
    let some : c.key_pattern.result ≡ Some c.in-Some.pattern = search rules in
    both_ok c.matching.result _ _ _
    (λ found h bound.
    let count = match_count _ c.args.pattern.now c.in-Some.pattern _ _ _ c.requires.store.each_once c.requires.store.known c.requires.settled.searched
    (λ key k. c.key_pattern.ensures key k ∙ ap (λ (o : Option KeyPattern). fits_key o key) some) h
    in
    omega (arith, count, bound))
    c.matching.ensures.found c.matching.ensures.cost

pub returns-clause-counted : goal.returns-clause-counted
returns-clause-counted g c =
    let some : c.key_pattern.result ≡ Some c.in-Some.pattern = search rules in
    both_ok c.matching.result _ _ _
    (λ found h bound.
    let count = match_count _ c.args.pattern.now c.in-Some.pattern _ _ _ c.requires.store.each_once c.requires.store.known c.requires.settled.searched
    (λ key k. c.key_pattern.ensures key k ∙ ap (λ (o : Option KeyPattern). fits_key o key) some) h
    in
    omega (arith, count, bound))
    c.matching.ensures.found c.matching.ensures.counted
