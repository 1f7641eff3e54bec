use Rattle.std.proofs.Common.{ℕ, ◌≡◌, ◌==◌, length, rules, sym, ap, ◌∙◌, vec_len}
use Rattle.line_log.proofs.Cuts.{no_edits}
use Rattle.line_log.proofs.log.LineLog.is_empty.Goals as goal

pub returns : goal.returns
returns c =
    let edits = c.self.inside.edits in
    let all : vec_len edits ≡ length edits.items = search rules in
    let same : c.is_empty.result ≡ (length edits.items == 0) = c.is_empty.ensures ∙ ap (λ (n : ℕ). n == 0) all in
    let both = no_edits edits.items c.self.inside.text.items in
    (λ h. sym c.self.view_is ∙ both.0 (sym same ∙ h), λ e. same ∙ both.1 (c.self.view_is ∙ e))
