use Rattle.std.proofs.Common.{◌≡◌, length, rules, sym, ap, ◌∙◌, vec_len}
use Rattle.line_log.proofs.Cuts.{length-cut}
use Rattle.line_log.proofs.log.LineLog.len.Goals as goal

pub returns : goal.returns
returns c =
    let edits = c.self.inside.edits in
    let all : vec_len edits ≡ length edits.items = search rules in
    c.len.ensures ∙ all ∙ sym (length-cut 0 edits.items c.self.inside.text.items) ∙ ap length c.self.view_is
