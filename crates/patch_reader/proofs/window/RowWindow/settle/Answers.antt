use Rattle.std.proofs.Common.{◌≡◌, ◌+◌, List, ℕ, take, drop, sym, ap, subst, ◌∙◌}
use Rattle.std.specs.Prelude.{count_by, ◌==◌}
use Rattle.patch_reader.specs.Held.{HoldsText}
use Rattle.patch_reader.proofs.Holding.{settled}
use Rattle.patch_reader.proofs.window.RowWindow.settle.Goals as goal

pub invariant_of-self : goal.invariant_of-self
invariant_of-self c =
    let r = c.self.inside in
    let feeds : c.feeds_in.result ≡ count_by (λ b. b == 10) (take r.at r.kept.items) =
    c.feeds_in.ensures.value ∙ ap (λ (l : List ℕ). count_by (λ b. b == 10) (take r.at l)) c.deref.ensures.value in
    subst (λ (t : List ℕ). HoldsText r.fed.text r.passed (r.from + r.at) t (r.feeds + c.feeds_in.result) 0 r.region) (sym c.drop_front.ensures)
    (subst (λ (n : ℕ). HoldsText r.fed.text r.passed (r.from + r.at) (drop r.at r.kept.items) (r.feeds + n) 0 r.region) (sym feeds)
    (settled r.fed.text r.passed r.from r.kept.items r.feeds r.at r.region c.self.invariant))
