use Rattle.std.proofs.Common.{◌<◌, drop, List, Option, Some, None, Ok, sym, ap, ◌∙◌, arith}
use Rattle.std.proofs.lemmas.Result.{err_from_is_err_and}
use Rattle.std.proofs.lemmas.List.{append-nil}
use Rattle.rdf_terms.specs.Quad.{Statement}
use Rattle.nquads_documents.specs.Reading.{document_at}
use Rattle.nquads_documents.proofs.Documents.{after_quads, part_read, document_ends, document_fails_on}
use Rattle.nquads_documents.proofs.Shorter.{part_further}
use Rattle.nquads_documents.proofs.parts.read_quads.Goals as goal

pub returns-in_err-quad : goal.returns-in_err-quad
returns-in_err-quad c =
    let p = err_from_is_err_and c.from_residual.result c.from_residual.ensures.1 in
    rw (p.1, p.2) (document_fails_on c.args.text.now c.loop-at.quads.items c.loop-at.at c.in_err-quad.field-0.0 (document_at 0 c.args.text.now) c.loop-at-test.true c.in_err-quad.ensures c.loop-at.invariant.0)

pub loop-at-smaller-in_ok-push : goal.loop-at-smaller-in_ok-push
loop-at-smaller-in_ok-push c =
    let further' : c.loop-at.at < c.in_ok-quad.next = part_further c.args.text.now c.loop-at.at c.in_ok-quad.next _ c.loop-at-test.true c.in_ok-quad.ensures.1 c.in_ok-quad.ensures.0 in
    omega arith

pub loop-at-preserved-in_ok-push : goal.loop-at-preserved-in_ok-push
loop-at-preserved-in_ok-push c =
    let e = c.in_ok-quad.ensures.0 ∙ ap (λ (q : Option Statement). Ok (q, drop c.in_ok-quad.next c.args.text.now)) c.in-Some.is in
    let further' : c.loop-at.at < c.in_ok-quad.next = part_further c.args.text.now c.loop-at.at c.in_ok-quad.next _ c.loop-at-test.true c.in_ok-quad.ensures.1 c.in_ok-quad.ensures.0 in (
      ap (λ (q : List Statement). after_quads q (document_at 0 (drop c.in_ok-quad.next c.args.text.now))) c.in_ok-push.ensures.ok
          ∙ part_read c.args.text.now c.loop-at.quads.items c.loop-at.at c.in_ok-quad.next (Some c.in-Some.quad) (document_at 0 c.args.text.now) further' c.in_ok-quad.ensures.1 e c.loop-at.invariant.0,
      c.in_ok-quad.ensures.1,
    )

pub loop-at-smaller : goal.loop-at-smaller
loop-at-smaller c =
    let further' : c.loop-at.at < c.in_ok-quad.next = part_further c.args.text.now c.loop-at.at c.in_ok-quad.next _ c.loop-at-test.true c.in_ok-quad.ensures.1 c.in_ok-quad.ensures.0 in
    omega arith

pub loop-at-preserved : goal.loop-at-preserved
loop-at-preserved c =
    let e = c.in_ok-quad.ensures.0 ∙ ap (λ (q : Option Statement). Ok (q, drop c.in_ok-quad.next c.args.text.now)) c.in_default.is in
    let further' : c.loop-at.at < c.in_ok-quad.next = part_further c.args.text.now c.loop-at.at c.in_ok-quad.next _ c.loop-at-test.true c.in_ok-quad.ensures.1 c.in_ok-quad.ensures.0 in (
      ap (λ (q : List Statement). after_quads q (document_at 0 (drop c.in_ok-quad.next c.args.text.now))) (sym (append-nil c.loop-at.quads.items))
          ∙ part_read c.args.text.now c.loop-at.quads.items c.loop-at.at c.in_ok-quad.next None (document_at 0 c.args.text.now) further' c.in_ok-quad.ensures.1 e c.loop-at.invariant.0,
      c.in_ok-quad.ensures.1,
    )

pub returns : goal.returns
returns c = document_ends c.args.text.now c.loop-at.quads.items c.loop-at.at (document_at 0 c.args.text.now) c.loop-at-test.false c.loop-at.invariant.0
