use Rattle.std.proofs.Common.{◌≡◌, ◌≤◌, ◌-◌, ◌++◌, ◌∷◌, ℕ, List, length, drop}
use Rattle.std.specs.List.{flat_map}
use Rattle.rdf_terms.specs.Line.{escaped}
use Rattle.nquads_text.specs.Reading.{string_body_at, with_front}
use Rattle.nquads_text.proofs.copying.copy_string.Given as goal

-- what was read is written behind a quote, and with what reading gives of the rest it is what it gives of all
abbrev pub invariant-loop-run : goal.invariant-loop-run
invariant-loop-run l = (front : List ℕ) × (l.out.items ≡ l.fn.out.items ++ (34 ∷ flat_map escaped front)) × (with_front front (string_body_at (drop l.at l.text)) ≡ string_body_at (drop l.start l.text))
    × (l.at ≤ length l.text)

abbrev pub decreases-loop-run : goal.decreases-loop-run
decreases-loop-run l = length l.text - l.at
