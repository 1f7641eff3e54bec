use Rattle.std.proofs.Common.{◌≡◌, ◌+◌, length, true, false}
use Rattle.std.specs.Str.{chars, IsUtf8}
use Rattle.std.specs.Str.Iter.{char_indices_rest, char_indices_offset}
use Rattle.rdf_terms.proofs.Tags.{tag_misfit}
use Rattle.rdf_terms.proofs.tag.first_misfit.Given as goal

-- what is left of the text gives the answer
abbrev pub invariant-loop-at : goal.invariant-loop-at
invariant-loop-at l =
    (tag_misfit (l.first, l.some) (char_indices_offset l.at-iterator) (chars (char_indices_rest l.at-iterator)) ≡ tag_misfit (true, false) 0 (chars l.text))
    × IsUtf8 (char_indices_rest l.at-iterator)
    × (char_indices_offset l.at-iterator + length (char_indices_rest l.at-iterator) ≡ length l.text)
