use Rattle.std.proofs.Common.{◌≡◌, ℕ, ◌<◌, Bool, List, length, get_or, rules, sym, ap, subst, ◌∙◌, vec_len}
use Rattle.line_log.specs.declared.edits.Edit.{Edit}
use Rattle.line_log.specs.Held.{cut_edits}
use Rattle.line_log.specs.Sorting.{adds_at}
use Rattle.line_log.proofs.Cuts.{adds-cut, length-cut}
use Rattle.line_log.proofs.log.LineLog.adds.Goals as goal

-- the edit of a number in the log
found : (es : List Edit) (text : List ℕ) (all : List (Bool × List ℕ)) (n : ℕ) (edit : Edit) → cut_edits 0 es text ≡ all → n < length all → edit ≡ get_or es n edit → adds_at all n ≡ edit.adds
found es text all n edit is within e =
    let inside = subst (λ (m : ℕ). n < m) (sym (ap length is) ∙ length-cut 0 es text) within in
    subst (λ (l : List (Bool × List ℕ)). adds_at l n ≡ edit.adds) is (adds-cut 0 es text n edit inside ∙ ap (λ (f : Edit). f.adds) (sym e))

pub index-requires : goal.index-requires
index-requires c =
    let edits = c.self.inside.edits in
    let all : vec_len edits ≡ length edits.items = search rules in
    let same : length c.args.self.now ≡ vec_len edits = sym (ap length c.self.view_is) ∙ length-cut 0 edits.items c.self.inside.text.items ∙ sym all in
    subst (λ (n : ℕ). c.args.number < n) same c.requires

pub returns : goal.returns
returns c = sym (found c.self.inside.edits.items c.self.inside.text.items c.args.self.now c.args.number c.index.result.now c.self.view_is c.requires c.index.ensures)
