use Rattle.std.proofs.Common.{ℕ, ap, ◌∙◌}
use Rattle.std.specs.Prelude.{codes}
use Rattle.std.specs.Fmt.{decimal}
use Rattle.std.specs.Global.{Vec}
use Rattle.command_tables.proofs.Pieces.{placed}
use Rattle.command_tables.proofs.lines.place_line.Goals as goal

pub returns : goal.returns
returns c =
    placed (codes "rdfdelta: input: line ") (decimal c.args.line) (codes " byte ") (decimal c.args.at) (codes ": ") c.args.kind.now c.into_bytes-text.result.items c.extend_from_slice.new.self.items
    c.push.new.self.items (ap (λ (v : Vec ℕ). v.items) c.into_bytes-text.ensures.value ∙ c.in_ok-front.ensures.ok)
    c.in_ok-extend_from_slice.ensures.items c.in_ok-push.ensures.items
