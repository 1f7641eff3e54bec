use Rattle.std.proofs.Common.{◌≡◌, ◌++◌, drop, map}
use Rattle.nquads_documents.specs.Shown.{AreCuts, cut_lines, shown}
use Rattle.nquads_documents.proofs.canonical.add_printed.Given as goal

-- the lines so far and those that are still cut out are all of them
abbrev pub invariant-loop-end : goal.invariant-loop-end
invariant-loop-end l = (map shown l.lines.items ++ cut_lines l.printed l.from (drop l.end-index l.ends) ≡ map shown l.fn.lines.items ++ cut_lines l.printed 0 l.ends) × AreCuts l.printed l.from (drop l.end-index l.ends)
