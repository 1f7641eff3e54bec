use Rattle.std.proofs.Common.{ℕ, List, ◌++◌, map, sym, subst, arith}
use Rattle.std.specs.List.{concat}
use Rattle.std.proofs.lemmas.List.{take_rest}
use Rattle.std.proofs.lemmas.Result.{err_from_is_err_and}
use Rattle.rdf_terms.specs.Line.{line}
use Rattle.checkpoint_text.specs.Text.{line_of_id, IsIdValue, prefix_rows}
use Rattle.checkpoint_reading.specs.Front.{AreInFront}
use Rattle.checkpoint_reading.proofs.Exits.{fault_is, told}
use Rattle.checkpoint_reading.proofs.Whole.{first_of, short_first, ids_in_front, contents_in_front, whole}
use Rattle.checkpoint_reading.proofs.checkpoint.read_checkpoint.Goals as goal

pub returns-in_default-clause-checkpoint : goal.returns-in_default-clause-checkpoint
returns-in_default-clause-checkpoint c = λ g brief is. c.in_default.ensures _ (first_of c.args.text.now g brief is)

pub returns-then-at-gt-MOST_OF_FIRST-clause-checkpoint : goal.returns-then-at-gt-MOST_OF_FIRST-clause-checkpoint
returns-then-at-gt-MOST_OF_FIRST-clause-checkpoint c = λ g brief is.
    omega (arith, short_first c.args.text.now c.in-Some.first g brief c.in-Some.ensures.0 is, c.in-Some.ensures.1)

pub returns-in_err-ids-clause-checkpoint : goal.returns-in_err-ids-clause-checkpoint
returns-in_err-ids-clause-checkpoint c =
    let p = err_from_is_err_and c.from_residual.result c.from_residual.ensures.1 in
    let text = c.args.text.now in
    let first = c.in-Some.first in
    let at = c.in-Some.at in
    rw (p.1, p.2) (told text c.in_err-ids.field-0.0 (λ broken g brief is.
    let rest : List ℕ = concat (prefix_rows brief.contents) ++ concat (map line brief.contents.quads) in
    c.in_err-ids.ensures.broken (fault_is _ _ broken) brief.ids rest (subst (λ (t : List ℕ). AreInFront line_of_id IsIdValue first.patches t brief.ids rest) (sym (take_rest text at)) (ids_in_front text first at g brief c.in-Some.ensures.0 c.in-Some.ensures.1 is))))

pub returns-in-Err-clause-checkpoint : goal.returns-in-Err-clause-checkpoint
returns-in-Err-clause-checkpoint c =
    let text = c.args.text.now in
    let first = c.in-Some.first in
    let at = c.in-Some.at in
    let ids = c.in_ok-ids.ids.items in
    let rest = c.in_ok-ids.rest.now in
    let front = subst (λ (t : List ℕ). AreInFront line_of_id IsIdValue first.patches t ids rest) (take_rest text at) c.in_ok-ids.ensures.ok in
    told text c.in-Err.fault (λ broken g brief is.
    c.in-Err.ensures.broken (fault_is _ _ broken) brief.contents (contents_in_front text first at g brief ids rest c.in-Some.ensures.0 c.in-Some.ensures.1 front is))

pub returns-in-Ok-clause-checkpoint : goal.returns-in-Ok-clause-checkpoint
returns-in-Ok-clause-checkpoint c =
    let text = c.args.text.now in
    let first = c.in-Some.first in
    let at = c.in-Some.at in
    let ids = c.in_ok-ids.ids.items in
    let rest = c.in_ok-ids.rest.now in
    let front = subst (λ (t : List ℕ). AreInFront line_of_id IsIdValue first.patches t ids rest) (take_rest text at) c.in_ok-ids.ensures.ok in
    whole text first at ids rest c.read_contents.new.contents.contents c.in-Some.ensures.0 c.in-Some.ensures.1 (omega arith) front c.in-Ok.ensures.contents
