use Rattle.std.proofs.Common.{◌≡◌, ◌+◌, ◌-◌, ◌≤◌, ℕ, List, take, sym, ap, subst, ◌∙◌}
use Rattle.std.specs.Prelude.{count_by, ◌==◌}
use Rattle.patch_reader.specs.Places.{line_number}
use Rattle.patch_reader.specs.Window.{Window}
use Rattle.patch_reader.proofs.LineFeeds.{line_is}
use Rattle.patch_reader.proofs.window.RowWindow.line_at.Goals as goal

pub returns : goal.returns
returns c =
    let r = c.self.inside in
    subst (λ (w : Window). r.feeds + c.feeds_in.result + 1 ≡ line_number w.fed c.args.place) c.self.view_is
    (ap (λ (n : ℕ). r.feeds + n + 1) (c.feeds_in.ensures.value ∙ ap (λ (l : List ℕ). count_by (λ b. b == 10) (take (c.args.place - r.from) l)) c.deref.ensures.value)
    ∙ line_is r.fed.text r.from c.args.place r.kept.items r.feeds c.self.invariant.feeds_are c.self.invariant.keeps.0 (subst (λ (w : Window). w.kept ≤ c.args.place) (sym c.self.view_is) c.requires.low))
