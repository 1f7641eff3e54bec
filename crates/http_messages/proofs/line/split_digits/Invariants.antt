use Rattle.std.proofs.Common.{take}
use Rattle.std.specs.Char.{is_ascii_hexdigit}
use Rattle.httparse.specs.Grammar.{AllPass}
use Rattle.http_messages.proofs.line.split_digits.Given as goal

abbrev pub invariant-loop-end : goal.invariant-loop-end
invariant-loop-end l = AllPass is_ascii_hexdigit (take l.end l.text)
