use Rattle.std.proofs.Common.{◌≡◌, List, []}
use Rattle.checkpoint_text.specs.Text.{Setting, setting_line, IsSetting}
use Rattle.checkpoint_reading.specs.Front.{RiseInFront}
use Rattle.checkpoint_reading.specs.Reading.{HasSet}
use Rattle.checkpoint_reading.proofs.Fronts.{last_text}
use Rattle.checkpoint_reading.proofs.prefixes.read_prefixes.Given as goal

abbrev pub invariant-loop-place : goal.invariant-loop-place
invariant-loop-place l = (settings : List Setting)
    × RiseInFront setting_line IsSetting l._place l.text settings l.rest
    × (l.last ≡ last_text setting_line settings)
    × HasSet l.contents settings
    × (l.changes.items ≡ [])
