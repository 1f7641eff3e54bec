use Rattle.std.proofs.Common.{◌≡◌, length, rules, ap, vec_len, arith}
use Rattle.line_log.specs.Edits.{bytes_of}
use Rattle.line_log.proofs.Cuts.{bytes-cut}
use Rattle.line_log.proofs.log.LineLog.bytes.Goals as goal

pub returns : goal.returns
returns c =
    let text = c.self.inside.text in
    let all : vec_len text ≡ length text.items = search rules in
    let filled = bytes-cut 0 (length text.items) c.self.inside.edits.items text.items c.self.invariant (omega arith) in
    omega (arith, c.len.ensures, all, filled, ap bytes_of c.self.view_is)
