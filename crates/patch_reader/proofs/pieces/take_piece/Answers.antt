use Rattle.std.proofs.Common.{ℕ, List, None, Ok, sym, ap, subst, ◌∙◌}
use Rattle.patch_rows.specs.declared.cut.TextEnd.TheVariants as ends
use Rattle.patch_reader.specs.Rows.{StopsRows}
use Rattle.patch_reader.specs.Window.{Window}
use Rattle.patch_reader.proofs.pieces.take_piece.Goals as goal

pub returns-clause-stops : goal.returns-clause-stops
returns-clause-stops c =
    let fed = ap (λ (w : Window). w.fed) c.is_quiet.ensures.same ∙ ap (λ (w : Window). w.fed) c.in_ok-push.ensures.ok in
    subst (λ (t : List ℕ). StopsRows ends.Open t c.settle-2.new.self.passed None) fed
    (subst (λ (n : ℕ). StopsRows ends.Open c.is_quiet.new.self.fed n None) (sym (ap (λ (w : Window). w.passed) c.settle-2.ensures.0)) c.in_ok-take_rows.ensures.stops)

pub returns-then-is_quiet-clause-stops : goal.returns-then-is_quiet-clause-stops
returns-then-is_quiet-clause-stops c =
    let passed = ap (λ (w : Window). w.passed) c.settle.ensures.0 ∙ ap (λ (w : Window). w.passed) c.is_quiet.ensures.same in
    subst (λ (t : List ℕ). StopsRows ends.Open t c.settle.new.self.passed None) (ap (λ (w : Window). w.fed) c.in_ok-push.ensures.ok)
    (subst (λ (n : ℕ). StopsRows ends.Open c.push.new.self.fed n None) (sym passed) (c.is_quiet.ensures.quiet (c.in_ok-is_quiet.was ∙ ap Ok c.if-is_quiet.true)))
