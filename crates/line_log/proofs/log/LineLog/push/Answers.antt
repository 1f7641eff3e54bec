use Rattle.std.proofs.Common.{◌≡◌, ℕ, Bool, List, [], ◌∷◌, ◌++◌, length, rules, ap, ◌∙◌, vec_len}
use Rattle.line_log.proofs.Cuts.{pushed, fill_pushed}
use Rattle.line_log.proofs.log.LineLog.push.Goals as goal

pub invariant_of-self-in-Ok-push : goal.invariant_of-self-in-Ok-push
invariant_of-self-in-Ok-push c =
    let text = c.extend_from_slice.new.self in
    let long : vec_len text ≡ length text.items = search rules in
    fill_pushed c.self.inside.edits.items _ c.args.adds c.in-Ok.end c.self.inside.text.items _ c.args.line.now c.in-Ok-push.ensures.items c.in_ok-extend_from_slice.ensures.items
    (c.in-Ok.ensures.1 ∙ c.len.ensures ∙ long) c.self.invariant

pub returns-in-Ok-push-clause-ok : goal.returns-in-Ok-push-clause-ok
returns-in-Ok-push-clause-ok c =
    let text = c.extend_from_slice.new.self in
    let long : vec_len text ≡ length text.items = search rules in
    pushed c.self.inside.edits.items _ c.args.adds c.in-Ok.end c.self.inside.text.items _ c.args.line.now c.in-Ok-push.ensures.items c.in_ok-extend_from_slice.ensures.items
    (c.in-Ok.ensures.1 ∙ c.len.ensures ∙ long) c.self.invariant
    ∙ ap (λ (l : List (Bool × List ℕ)). l ++ (c.args.adds, c.args.line.now) ∷ []) c.self.view_is
