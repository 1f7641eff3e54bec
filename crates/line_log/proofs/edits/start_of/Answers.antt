use Rattle.std.proofs.Common.{◌≡◌, ℕ, suc, ◌-◌, ◌≤◌, List, length, get_or, sym, ap, ◌∙◌, arith}
use Rattle.line_log.specs.declared.edits.Edit.{Edit}
use Rattle.line_log.specs.Held.{start_of}
use Rattle.line_log.proofs.Cuts.{start_next}
use Rattle.line_log.proofs.edits.start_of.Goals as goal

behind : (es : List Edit) (n m : ℕ) (d : Edit) → n ≡ suc m → n ≤ length es → (get_or es m d).end ≡ start_of 0 es n
behind es n m d e h = sym (start_next 0 es m d (omega (arith, e, h))) ∙ ap (start_of 0 es) (sym e)

pub returns : goal.returns
returns c = behind c.args.edits.now c.args.number (c.args.number - 1) _ (omega (arith, c.if-number-eq0.false)) c.requires
