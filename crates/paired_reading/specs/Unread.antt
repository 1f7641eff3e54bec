-- What is kept where no payload was received.
use Rattle.std.specs.Prelude.{◌≡◌, ℕ, Bool, false, [], Option, None}
use Rattle.zone_state.specs.declared.opening.Reading.{Reading}

-- nothing is kept yet, and a checkpoint may come
abbrev pub IsUnread : Reading → Option ℕ → Bool → Type 0
IsUnread reading generation no_checkpoint = (no_checkpoint ≡ false) × (generation ≡ None)
    × (reading.broken ≡ false) × (reading.full ≡ false) × (reading.kept.ids.items ≡ [])
