use Rattle.std.proofs.Common.{◌≡◌, ◌<◌, Bool, List, ℕ, ◌++◌, ◌∷◌, [], Ok, drop, length, map, sym, ap, subst, ◌∙◌, arith}
use Rattle.std.proofs.lemmas.List.{map-append}
use Rattle.std.proofs.lemmas.Result.{err_from_is_err_and}
use Rattle.nquads_documents.specs.Reading.{document_at, document_part_at}
use Rattle.nquads_documents.specs.Shown.{PushesPart, shown}
use Rattle.nquads_documents.proofs.Documents.{document_ends, document_fails_on}
use Rattle.nquads_documents.proofs.Showing.{AreShown, goes_further, lent_more, none_more, printed_more}
use Rattle.nquads_documents.proofs.canonical.shown_lines.Goals as goal

pub loop-at-preserved-in-Some : goal.loop-at-preserved-in-Some
loop-at-preserved-in-Some c =
    subst (λ (lines : List (List ℕ)). AreShown c.args.text.now c.loop-at.printed.items lines c.loop-at.ends.items c.in-Some.end)
    (sym (ap (map shown) c.in_ok-push-in-Some.ensures.items ∙ map-append shown c.loop-at.lines.items _))
    (lent_more c.args.text.now c.loop-at.printed.items (map shown c.loop-at.lines.items) c.loop-at.ends.items c.loop-at.at c.in-Some.end c.in-Some.ensures c.loop-at.invariant)

pub returns-in_err-is_line-in-None : goal.returns-in_err-is_line-in-None
returns-in_err-is_line-in-None c =
    let p = err_from_is_err_and c.from_residual-in_err-is_line-in-None.result c.from_residual-in_err-is_line-in-None.ensures.1 in
    rw (p.1, p.2) (document_fails_on c.args.text.now c.loop-at.invariant.quads c.loop-at.at c.in_err-is_line-in-None.field-0.0 (document_at 0 c.args.text.now) c.loop-at-test.true c.in_err-is_line-in-None.ensures c.loop-at.invariant.so_far)

pub loop-at-smaller-in_ok-push-in-None : goal.loop-at-smaller-in_ok-push-in-None
loop-at-smaller-in_ok-push-in-None c =
    let further' : c.loop-at.at < c.in_ok-is_line-in-None.next = goes_further c.args.text.now c.loop-at.printed.items c.push_part.new.out.items c.loop-at.at _ c.loop-at-test.true c.in_ok-is_line-in-None.ensures in
    omega arith

pub loop-at-preserved-in_ok-push-in-None : goal.loop-at-preserved-in_ok-push-in-None
loop-at-preserved-in_ok-push-in-None c =
    let text = c.args.text.now in let new = c.push_part.new.out.items in let next = c.in_ok-is_line-in-None.next in
    let part = subst (λ (is_line : Bool). PushesPart text c.loop-at.printed.items new (Ok (is_line, next)) (document_part_at (drop c.loop-at.at text))) c.if-is_line.true c.in_ok-is_line-in-None.ensures in
    let size : c.len.result ≡ length new = c.len.ensures ∙ c.push_part.new.out.ok.0 in
    subst (λ (ends : List ℕ). AreShown text new (map shown c.loop-at.lines.items) ends next)
    (sym (c.in_ok-push-in-None.ensures.items ∙ ap (λ (end : ℕ). c.loop-at.ends.items ++ end ∷ []) size))
    (printed_more text c.loop-at.printed.items new (map shown c.loop-at.lines.items) c.loop-at.ends.items c.loop-at.at next c.loop-at-test.true part c.loop-at.invariant)

pub loop-at-smaller : goal.loop-at-smaller
loop-at-smaller c =
    let further' : c.loop-at.at < c.in_ok-is_line-in-None.next = goes_further c.args.text.now c.loop-at.printed.items c.push_part.new.out.items c.loop-at.at _ c.loop-at-test.true c.in_ok-is_line-in-None.ensures in
    omega arith

pub loop-at-preserved : goal.loop-at-preserved
loop-at-preserved c =
    let text = c.args.text.now in let new = c.push_part.new.out.items in let next = c.in_ok-is_line-in-None.next in
    let part = subst (λ (is_line : Bool). PushesPart text c.loop-at.printed.items new (Ok (is_line, next)) (document_part_at (drop c.loop-at.at text))) c.if-is_line.false c.in_ok-is_line-in-None.ensures in
    none_more text c.loop-at.printed.items new (map shown c.loop-at.lines.items) c.loop-at.ends.items c.loop-at.at next c.loop-at-test.true part c.loop-at.invariant

pub returns : goal.returns
returns c = (
  c.loop-at.invariant.quads,
  document_ends c.args.text.now c.loop-at.invariant.quads c.loop-at.at (document_at 0 c.args.text.now) c.loop-at-test.false c.loop-at.invariant.so_far,
  c.loop-at.invariant.cuts,
  c.loop-at.invariant.lines,
)
