use Rattle.std.proofs.Common.{false, None, refl}
use Rattle.patch_meaning.proofs.Taking.{first_stands}
use Rattle.patch_meaning.proofs.draft.Draft.new.Goals as goal

pub returns : goal.returns
returns c = first_stands (record { id = None; prev = None; has_change = false; in_block = false }) refl refl refl refl
