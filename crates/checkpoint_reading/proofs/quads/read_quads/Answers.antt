use Rattle.std.proofs.Common.{ℕ, List, [], ◌∷◌, ◌++◌, refl, sym, subst, ◌∙◌}
use Rattle.std.proofs.lemmas.Result.{err_from_is_err_and}
use Rattle.rdf_terms.specs.Line.{line}
use Rattle.nquads_documents.specs.Laws.{IsQuadValue}
use Rattle.checkpoint_text.proofs.OneText.{quad_cut}
use Rattle.checkpoint_reading.specs.Front.{IsInFront, NoneInFront, IsPast}
use Rattle.checkpoint_reading.proofs.Changes.{added_none, added_more}
use Rattle.checkpoint_reading.proofs.Exits.{same_fault}
use Rattle.checkpoint_reading.proofs.Fronts.{none_rise, rise_more, rise_stops, last_push}
use Rattle.checkpoint_reading.proofs.Shown.{line_shown}
use Rattle.checkpoint_reading.proofs.quads.read_quads.Goals as goal

pub loop-place-init : goal.loop-place-init
loop-place-init c = ([], none_rise line IsQuadValue c.args.text.now, refl, added_none _ c.requires.unstaged c.requires.none, c.new-changes.ensures)

pub returns-in_err-quad-clause-broken : goal.returns-in_err-quad-clause-broken
returns-in_err-quad-clause-broken c =
    let p = err_from_is_err_and c.from_residual.result c.from_residual.ensures.1 in
    let inv = c.loop-place.invariant in
    rw (p.1, p.2) (λ broken quads rest all.
    rise_stops line IsQuadValue quad_cut c.loop-place._place c.args.count c.args.text.now c.loop-place.rest.now inv.0 line_shown inv.1 c.loop-place-test.true (subst (λ (t : List ℕ). NoneInFront line (IsPast line IsQuadValue t) c.loop-place.rest.now) inv.2 (c.in_err-quad.ensures.broken (same_fault _ _ broken))) quads rest all)

pub loop-place-preserved : goal.loop-place-preserved
loop-place-preserved c =
    let inv = c.loop-place.invariant in
    let q = c.in_ok-quad.quad in
    let here = c.in_ok-quad.ensures.ok in
    let next = subst (λ (t : List ℕ). IsInFront line (IsPast line IsQuadValue t) c.loop-place.rest.now q c.in_ok-quad.behind.now) inv.2 here in
    let rising = rise_more line IsQuadValue c.loop-place._place c.args.text.now c.loop-place.rest.now c.in_ok-quad.behind.now inv.0 q inv.1 next in (
      inv.0 ++ q ∷ [],
      rising,
      c.front_of-last.ensures (line q) here.parts ∙ sym (last_push line inv.0 q),
      added_more c.args.contents.now c.loop-place.contents c.apply.new.contents inv.0 q inv.3 c.in_ok-apply.ensures.unstaged c.in_ok-apply.ensures.contents c.in_ok-apply.ensures.met rising.rising,
      c.in_ok-apply.ensures.none,
    )
