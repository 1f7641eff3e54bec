use Rattle.std.proofs.Common.{rules, Option, Some, ap, subst, ◌∙◌}
use Rattle.rdf_terms.specs.declared.term.Term.{Term}
use Rattle.term_table.specs.Table.{most}
use Rattle.dataset_tx.specs.Numbering.{IsGraphNumber}
use Rattle.dataset_tx.proofs.Growing.{wider, then_grows, wider_than, keeps_number, keeps_graph, of_graph, of_subject, of_predicate, of_object}
use Rattle.dataset_tx.proofs.Numbered.{quad_is, key_is_known}
use Rattle.dataset_tx.proofs.numbering.number_quad.Goals as goal

pub returns-in_err-g-clause-grows : goal.returns-in_err-g-clause-grows
returns-in_err-g-clause-grows c = wider _ _ _ _ (of_graph c.args.quad.now _ c.graph.ensures.value) c.number_graph.ensures.grows

pub returns-in_err-g-clause-full : goal.returns-in_err-g-clause-full
returns-in_err-g-clause-full c h = wider_than most _ _ _ (of_graph c.args.quad.now _ c.graph.ensures.value) (c.number_graph.ensures.full (search rules))

pub returns-in_err-s-clause-grows : goal.returns-in_err-s-clause-grows
returns-in_err-s-clause-grows c =
    then_grows _ _ _ _ (wider _ _ _ _ (of_graph c.args.quad.now _ c.graph.ensures.value) c.number_graph.ensures.grows)
    (wider _ _ _ _ (of_subject c.args.quad.now _ c.subject.ensures.value) c.number.ensures.grows)

pub returns-in_err-p-clause-grows : goal.returns-in_err-p-clause-grows
returns-in_err-p-clause-grows c =
    then_grows _ _ _ _ (wider _ _ _ _ (of_graph c.args.quad.now _ c.graph.ensures.value) c.number_graph.ensures.grows)
    (then_grows _ _ _ _ (wider _ _ _ _ (of_subject c.args.quad.now _ c.subject.ensures.value) c.number.ensures.grows)
    (wider _ _ _ _ (of_predicate c.args.quad.now _ c.predicate.ensures.value) c.number-2.ensures.grows))

pub returns-in_err-o-clause-grows : goal.returns-in_err-o-clause-grows
returns-in_err-o-clause-grows c =
    then_grows _ _ _ _ (wider _ _ _ _ (of_graph c.args.quad.now _ c.graph.ensures.value) c.number_graph.ensures.grows)
    (then_grows _ _ _ _ (wider _ _ _ _ (of_subject c.args.quad.now _ c.subject.ensures.value) c.number.ensures.grows)
    (then_grows _ _ _ _ (wider _ _ _ _ (of_predicate c.args.quad.now _ c.predicate.ensures.value) c.number-2.ensures.grows)
    (wider _ _ _ _ (of_object c.args.quad.now _ c.object.ensures.value) c.number-3.ensures.grows)))

pub returns-in_err-s-clause-full : goal.returns-in_err-s-clause-full
returns-in_err-s-clause-full c h = wider_than most _ _ _ (of_subject c.args.quad.now _ c.subject.ensures.value) (c.in_err-s.ensures.full (search rules))

pub returns-in_err-p-clause-full : goal.returns-in_err-p-clause-full
returns-in_err-p-clause-full c h = wider_than most _ _ _ (of_predicate c.args.quad.now _ c.predicate.ensures.value) (c.in_err-p.ensures.full (search rules))

pub returns-in_err-o-clause-full : goal.returns-in_err-o-clause-full
returns-in_err-o-clause-full c h = wider_than most _ _ _ (of_object c.args.quad.now _ c.object.ensures.value) (c.number-3.ensures.full (search rules))

pub returns-clause-grows : goal.returns-clause-grows
returns-clause-grows c =
    then_grows _ _ _ _ (wider _ _ _ _ (of_graph c.args.quad.now _ c.graph.ensures.value) c.number_graph.ensures.grows)
    (then_grows _ _ _ _ (wider _ _ _ _ (of_subject c.args.quad.now _ c.subject.ensures.value) c.number.ensures.grows)
    (then_grows _ _ _ _ (wider _ _ _ _ (of_predicate c.args.quad.now _ c.predicate.ensures.value) c.number-2.ensures.grows)
    (wider _ _ _ _ (of_object c.args.quad.now _ c.object.ensures.value) c.number-3.ensures.grows)))

pub returns-clause-known : goal.returns-clause-known
returns-clause-known c v =
    let g = subst (λ (x : Option Term). IsGraphNumber c.number_graph.new.terms x c.in_ok-g.g) c.graph.ensures.value c.in_ok-g.ensures.ok in
    let s = c.in_ok-s.ensures.ok ∙ ap Some c.subject.ensures.value in
    let p = c.in_ok-p.ensures.ok ∙ ap Some c.predicate.ensures.value in
    let o = c.in_ok-o.ensures.ok ∙ ap Some c.object.ensures.value in
    key_is_known _ _ _ _ _ _ v
    (keeps_graph _ _ _ _ _ c.number-3.ensures.grows (keeps_graph _ _ _ _ _ c.number-2.ensures.grows (keeps_graph _ _ _ _ _ c.number.ensures.grows g)))
    (keeps_number _ _ _ _ _ c.number-3.ensures.grows (keeps_number _ _ _ _ _ c.number-2.ensures.grows s))
    (keeps_number _ _ _ _ _ c.number-3.ensures.grows p)
    o

pub returns-clause-quad : goal.returns-clause-quad
returns-clause-quad c =
    let g = subst (λ (x : Option Term). IsGraphNumber c.number_graph.new.terms x c.in_ok-g.g) c.graph.ensures.value c.in_ok-g.ensures.ok in
    let s = c.in_ok-s.ensures.ok ∙ ap Some c.subject.ensures.value in
    let p = c.in_ok-p.ensures.ok ∙ ap Some c.predicate.ensures.value in
    let o = c.in_ok-o.ensures.ok ∙ ap Some c.object.ensures.value in
    quad_is _ _ _ _ _ _
    (keeps_graph _ _ _ _ _ c.number-3.ensures.grows (keeps_graph _ _ _ _ _ c.number-2.ensures.grows (keeps_graph _ _ _ _ _ c.number.ensures.grows g)))
    (keeps_number _ _ _ _ _ c.number-3.ensures.grows (keeps_number _ _ _ _ _ c.number-2.ensures.grows s))
    (keeps_number _ _ _ _ _ c.number-3.ensures.grows p)
    o
