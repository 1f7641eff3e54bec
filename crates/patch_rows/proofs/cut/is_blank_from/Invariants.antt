use Rattle.std.proofs.Common.{◌≡◌, drop}
use Rattle.std.specs.List.{list_all}
use Rattle.nquads_text.specs.Grammar.{is_blank}
use Rattle.patch_rows.proofs.cut.is_blank_from.Given as goal

-- only blanks were passed
abbrev pub invariant-loop-at : goal.invariant-loop-at
invariant-loop-at l = list_all is_blank (drop l.at l.text) ≡ list_all is_blank (drop l.end l.text)
