use Rattle.std.proofs.Common.{ℕ, List, ◌++◌, ap, ◌∙◌}
use Rattle.std.specs.Prelude.{codes}
use Rattle.std.specs.Fmt.{decimal}
use Rattle.std.specs.Global.{Vec}
use Rattle.patch_meaning.specs.Names.{fault_name}
use Rattle.command_tables.specs.Lines.{fault_at}
use Rattle.command_tables.proofs.Pieces.{placed}
use Rattle.command_tables.proofs.lines.bad_patch_line.Goals as goal

pub returns : goal.returns
returns c =
    let text = c.into_bytes-text.result.items in
    placed (codes "rdfdelta: answer: patch ") (decimal c.args.version) (codes ": byte ") (decimal (fault_at c.args.fault)) (codes ": ") (fault_name c.args.fault) text c.extend_from_slice.new.self.items
    c.push.new.self.items
    (ap (λ (v : Vec ℕ). v.items) c.into_bytes-text.ensures.value ∙ c.in_ok-front.ensures.ok
    ∙ ap (λ (at : ℕ). codes "rdfdelta: answer: patch " ++ (decimal c.args.version ++ (codes ": byte " ++ (decimal at ++ codes ": ")))) c.fault_at-at.ensures)
    (c.in_ok-extend_from_slice.ensures.items ∙ ap (λ (l : List ℕ). text ++ l) (c.as_bytes.ensures.value ∙ c.name.ensures)) c.in_ok-push.ensures.items
