use Rattle.std.proofs.Common.{◌≡◌, List, length, take, rules, sym, ap, ◌∙◌, arith, vec_len, take_all}
use Rattle.line_log.specs.declared.edits.Edit.{Edit}
use Rattle.line_log.specs.Held.{start_of}
use Rattle.line_log.proofs.Cuts.{length-cut, truncated, fill_truncated}
use Rattle.line_log.proofs.log.LineLog.truncate.Goals as goal

pub invariant_of-self : goal.invariant_of-self
invariant_of-self c =
    let edits = c.self.inside.edits in
    let all : vec_len edits ≡ length edits.items = search rules in
    fill_truncated edits.items _ c.self.inside.text.items _ c.args.count c.start_of.result (omega (arith, all, c.len.ensures, c.if-count-len.true)) c.truncate-then-count-len.ensures.items c.truncate.ensures.items
    (c.start_of.ensures ∙ ap (λ (l : List Edit). start_of 0 l c.args.count) c.as_slice.ensures.value) c.self.invariant

pub returns-then-count-len : goal.returns-then-count-len
returns-then-count-len c =
    let edits = c.self.inside.edits in
    let all : vec_len edits ≡ length edits.items = search rules in
    truncated edits.items _ c.self.inside.text.items _ c.args.count c.start_of.result (omega (arith, all, c.len.ensures, c.if-count-len.true)) c.truncate-then-count-len.ensures.items c.truncate.ensures.items
    (c.start_of.ensures ∙ ap (λ (l : List Edit). start_of 0 l c.args.count) c.as_slice.ensures.value) c.self.invariant ∙ ap (take c.args.count) c.self.view_is

pub returns-else-count-len : goal.returns-else-count-len
returns-else-count-len c =
    let edits = c.self.inside.edits in
    let all : vec_len edits ≡ length edits.items = search rules in
    sym (take_all c.args.count c.args.self.now (omega (arith, all, c.len.ensures, c.if-count-len.false, length-cut 0 edits.items c.self.inside.text.items, ap length c.self.view_is)))
