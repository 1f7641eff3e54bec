use Rattle.std.proofs.Common.{◌≡◌, reverse, length}
use Rattle.httparse.specs.Grammar.{skip_ows, trim_ows}
use Rattle.http_heads.proofs.fields.trim_blanks.Given as goal

abbrev pub invariant-loop-left : goal.invariant-loop-left
invariant-loop-left l = reverse (skip_ows (reverse l.left)) ≡ trim_ows l.bytes

abbrev pub decreases-loop-left : goal.decreases-loop-left
decreases-loop-left l = length l.left
