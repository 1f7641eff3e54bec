use Rattle.std.proofs.Common.{List, ℕ, length, ap, ◌∙◌}
use Rattle.std.specs.List.{flat_map}
use Rattle.std.proofs.lemmas.List.{length-map}
use Rattle.patch_meaning.proofs.Cuts.{if_ok}
use Rattle.stream_replay.proofs.Edited.{joined_lines}
use Rattle.stream_replay.proofs.edits.Edits.into_lines.Goals as goal

pub returns-clause-text : goal.returns-clause-text
returns-clause-text c = if_ok c.into_lines.result _ _ c.into_lines.ensures (λ made is d makes. ap (flat_map (λ (l : List ℕ). l)) is ∙ joined_lines c.args.self.log d makes)

pub returns-clause-count : goal.returns-clause-count
returns-clause-count c = if_ok c.into_lines.result _ _ c.into_lines.ensures (λ made is d makes. ap length (is ∙ makes) ∙ length-map d.quads _)
