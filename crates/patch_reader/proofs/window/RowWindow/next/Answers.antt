use Rattle.std.proofs.Common.{◌+◌, ◌≤◌, List, ℕ, Option, Some, None, Ok, Err, drop, sym, ap, subst, ◌∙◌, arith}
use Rattle.patch_rows.specs.declared.cut.TextEnd.{TextEnd}
use Rattle.patch_rows.specs.declared.cut.TextEnd.TheVariants as ends
use Rattle.patch_reader.specs.declared.placed.PlacedRow.{PlacedRow}
use Rattle.patch_reader.specs.Held.{DecidesNothing}
use Rattle.patch_reader.specs.Places.{IsNotBefore}
use Rattle.patch_reader.specs.Rows.{GivesNext, StopsRows}
use Rattle.patch_reader.specs.Window.{Window}
use Rattle.patch_reader.proofs.Holding.{followed, known_now, rest_is, row_given, row_within}
use Rattle.patch_reader.proofs.window.RowWindow.next.Goals as goal

pub invariant_of-self : goal.invariant_of-self
invariant_of-self c =
    let r = c.self.inside in
    followed r.fed.text r.passed r.from r.kept.items r.feeds r.at r.region c.self.invariant c.follow_rest.new.region c.deref.result.now c.deref.ensures.value c.follow_rest.ensures.stays

pub invariant_of-self-then-is_quiet : goal.invariant_of-self-then-is_quiet
invariant_of-self-then-is_quiet c =
    let r = c.self.inside in
    followed r.fed.text r.passed r.from r.kept.items r.feeds r.at r.region c.self.invariant c.follow_rest.new.region c.deref.result.now c.deref.ensures.value c.follow_rest.ensures.stays

pub returns-then-is_quiet-clause-gives : goal.returns-then-is_quiet-clause-gives
returns-then-is_quiet-clause-gives c =
    let r = c.self.inside in
    let quiet = c.follow_rest.ensures.quiet (c.in_ok-is_quiet.was ∙ ap Ok c.if-is_quiet.true) in
    let rest = rest_is c.deref.result.now r.kept.items r.at c.deref.ensures.value in
    subst (λ (end : TextEnd). StopsRows end c.args.self.now.fed c.args.self.now.passed None) (sym quiet.0)
    (subst (λ (w : Window). StopsRows ends.Open w.fed w.passed None) c.self.view_is
    (subst (λ (t : List ℕ). DecidesNothing t r.region) rest quiet.1 r.fed.text r.passed (r.from + r.at) c.self.invariant.rest c.self.invariant.stuck))

pub invariant_of-self-in-Ok-Some : goal.invariant_of-self-in-Ok-Some
invariant_of-self-in-Ok-Some c =
    let r = c.self.inside in
    followed r.fed.text r.passed r.from r.kept.items r.feeds r.at r.region c.self.invariant c.follow_rest.new.region c.deref.result.now c.deref.ensures.value c.follow_rest.ensures.stays

pub pass_row-requires-clause-low : goal.pass_row-requires-clause-low
pass_row-requires-clause-low c =
    let r = c.self.inside in
    let x = c.in-Ok-Some.row in
    let there = row_within c.args.end r.fed.text r.passed x
    (row_given r.fed.text r.passed r.from r.kept.items r.feeds r.at r.region c.self.invariant c.args.end c.follow_rest.new.region c.deref.result.now c.deref-2.result.now (Ok (Some x)) c.deref.ensures.value c.deref-2.ensures.value
    c.follow_rest.ensures.stays (c.follow_rest.ensures.all (c.in_ok-is_quiet.was ∙ ap Ok c.if-is_quiet.false)) (λ whole keeps. subst (λ (o : Option PlacedRow). GivesNext c.args.end whole (r.from + r.at) (Ok o)) c.in-Ok-Some.field-0-is (c.in-Ok-Some.ensures.gives whole keeps))) in
    let low : r.from ≤ x.at = subst (λ (o : Option PlacedRow). IsNotBefore r.from (Ok o)) c.in-Ok-Some.field-0-is c.in-Ok-Some.ensures.from in
    omega (arith, low, there.0)

pub pass_row-requires-clause-high : goal.pass_row-requires-clause-high
pass_row-requires-clause-high c =
    let r = c.self.inside in
    let x = c.in-Ok-Some.row in
    let there = row_within c.args.end r.fed.text r.passed x
    (row_given r.fed.text r.passed r.from r.kept.items r.feeds r.at r.region c.self.invariant c.args.end c.follow_rest.new.region c.deref.result.now c.deref-2.result.now (Ok (Some x)) c.deref.ensures.value c.deref-2.ensures.value
    c.follow_rest.ensures.stays (c.follow_rest.ensures.all (c.in_ok-is_quiet.was ∙ ap Ok c.if-is_quiet.false)) (λ whole keeps. subst (λ (o : Option PlacedRow). GivesNext c.args.end whole (r.from + r.at) (Ok o)) c.in-Ok-Some.field-0-is (c.in-Ok-Some.ensures.gives whole keeps))) in
    there.1

pub returns-in-Ok-Some-clause-gives : goal.returns-in-Ok-Some-clause-gives
returns-in-Ok-Some-clause-gives c =
    let r = c.self.inside in
    let x = c.in-Ok-Some.row in
    subst (λ (w : Window). GivesNext c.args.end w.fed w.passed (Ok (Some x))) c.self.view_is
    (row_given r.fed.text r.passed r.from r.kept.items r.feeds r.at r.region c.self.invariant c.args.end c.follow_rest.new.region c.deref.result.now c.deref-2.result.now (Ok (Some x)) c.deref.ensures.value c.deref-2.ensures.value
    c.follow_rest.ensures.stays (c.follow_rest.ensures.all (c.in_ok-is_quiet.was ∙ ap Ok c.if-is_quiet.false)) (λ whole keeps. subst (λ (o : Option PlacedRow). GivesNext c.args.end whole (r.from + r.at) (Ok o)) c.in-Ok-Some.field-0-is (c.in-Ok-Some.ensures.gives whole keeps)))

pub invariant_of-self-in-Ok-None : goal.invariant_of-self-in-Ok-None
invariant_of-self-in-Ok-None c =
    let r = c.self.inside in
    known_now r.fed.text r.passed r.from r.kept.items r.feeds r.at c.follow_rest.new.region
    (followed r.fed.text r.passed r.from r.kept.items r.feeds r.at r.region c.self.invariant c.follow_rest.new.region c.deref.result.now c.deref.ensures.value c.follow_rest.ensures.stays)
    c.note_unfinished.new.region (c.note_unfinished.ensures (drop r.at r.kept.items))

pub returns-in-Ok-None-clause-gives : goal.returns-in-Ok-None-clause-gives
returns-in-Ok-None-clause-gives c =
    let r = c.self.inside in
    subst (λ (w : Window). GivesNext c.args.end w.fed w.passed (Ok None)) c.self.view_is
    (row_given r.fed.text r.passed r.from r.kept.items r.feeds r.at r.region c.self.invariant c.args.end c.follow_rest.new.region c.deref.result.now c.deref-2.result.now (Ok None) c.deref.ensures.value c.deref-2.ensures.value
    c.follow_rest.ensures.stays (c.follow_rest.ensures.all (c.in_ok-is_quiet.was ∙ ap Ok c.if-is_quiet.false)) (λ whole keeps. subst (λ (o : Option PlacedRow). GivesNext c.args.end whole (r.from + r.at) (Ok o)) c.in-Ok-None.field-0-is (c.in-Ok-None.ensures.gives whole keeps)))

pub invariant_of-self-in-Err : goal.invariant_of-self-in-Err
invariant_of-self-in-Err c =
    let r = c.self.inside in
    followed r.fed.text r.passed r.from r.kept.items r.feeds r.at r.region c.self.invariant c.follow_rest.new.region c.deref.result.now c.deref.ensures.value c.follow_rest.ensures.stays

pub returns-in-Err-clause-gives : goal.returns-in-Err-clause-gives
returns-in-Err-clause-gives c =
    let r = c.self.inside in
    subst (λ (w : Window). GivesNext c.args.end w.fed w.passed (Err c.in-Err.fault)) c.self.view_is
    (row_given r.fed.text r.passed r.from r.kept.items r.feeds r.at r.region c.self.invariant c.args.end c.follow_rest.new.region c.deref.result.now c.deref-2.result.now (Err c.in-Err.fault) c.deref.ensures.value c.deref-2.ensures.value
    c.follow_rest.ensures.stays (c.follow_rest.ensures.all (c.in_ok-is_quiet.was ∙ ap Ok c.if-is_quiet.false)) c.in-Err.ensures.gives)
