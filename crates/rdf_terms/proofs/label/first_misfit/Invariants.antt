use Rattle.std.proofs.Common.{◌≡◌, ◌+◌, length, None}
use Rattle.std.specs.Str.{chars, IsUtf8}
use Rattle.std.specs.Str.Iter.{char_indices_rest, char_indices_offset}
use Rattle.rdf_terms.proofs.Labels.{label_misfit}
use Rattle.rdf_terms.proofs.label.first_misfit.Given as goal

-- what is left of the text gives the answer
abbrev pub invariant-loop-at : goal.invariant-loop-at
invariant-loop-at l =
    (label_misfit l.last (char_indices_offset l.at-iterator) (chars (char_indices_rest l.at-iterator)) ≡ label_misfit None 0 (chars l.text))
    × IsUtf8 (char_indices_rest l.at-iterator)
    × (char_indices_offset l.at-iterator + length (char_indices_rest l.at-iterator) ≡ length l.text)
