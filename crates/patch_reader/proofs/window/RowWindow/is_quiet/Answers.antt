use Rattle.std.proofs.Common.{◌+◌, ℕ, List, ap, sym, subst, ◌∙◌}
use Rattle.patch_reader.specs.Held.{DecidesNothing, IsDecided}
use Rattle.patch_reader.specs.Rows.{NothingDecided}
use Rattle.patch_reader.specs.Window.{Window}
use Rattle.patch_reader.proofs.Holding.{followed, was_read, rest_is}
use Rattle.patch_reader.proofs.window.RowWindow.is_quiet.Goals as goal

pub invariant_of-self : goal.invariant_of-self
invariant_of-self c =
    let r = c.self.inside in
    followed r.fed.text r.passed r.from r.kept.items r.feeds r.at r.region c.self.invariant c.follow_open.new.region c.deref.result.now c.deref.ensures.value c.follow_open.ensures.stays

pub returns-clause-quiet : goal.returns-clause-quiet
returns-clause-quiet c = λ yes.
    let r = c.self.inside in
    let rest = rest_is c.deref.result.now r.kept.items r.at c.deref.ensures.value in
    subst (λ (w : Window). NothingDecided w.fed w.passed) c.self.view_is
    (subst (λ (t : List ℕ). DecidesNothing t r.region) rest (c.follow_open.ensures.quiet yes) r.fed.text r.passed (r.from + r.at) c.self.invariant.rest c.self.invariant.stuck)

pub returns-clause-decided : goal.returns-clause-decided
returns-clause-decided c = λ more front none.
    let r = c.self.inside in
    let rest = rest_is c.deref.result.now r.kept.items r.at c.deref.ensures.value in
    let read = was_read (r.from + r.at) r.region (ap (λ (w : Window). w.front) c.self.view_is ∙ front) in
    subst (λ (t : List ℕ). IsDecided t r.region) rest (c.follow_open.ensures.decided more read) r.fed.text r.passed (r.from + r.at) c.self.invariant.rest
    (subst (λ (w : Window). NothingDecided w.fed w.passed) (sym c.self.view_is) none)
