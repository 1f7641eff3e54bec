use Rattle.std.proofs.Common.{◌∙◌, List, ℕ, ap, sym, reverse}
use Rattle.httparse.specs.Grammar.{skip_ows}
use Rattle.http_heads.proofs.FieldLemmas.{trimmed}
use Rattle.http_heads.proofs.fields.trim_blanks.Goals as goal

pub loop-left-init : goal.loop-left-init
loop-left-init c = ap (λ (t : List ℕ). reverse (skip_ows (reverse t))) c.skip_blanks-left.ensures ∙ sym (trimmed c.args.bytes.now)
