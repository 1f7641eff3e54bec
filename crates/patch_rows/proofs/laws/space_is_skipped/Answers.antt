use Rattle.patch_rows.proofs.SpaceLaws.{skipped, skips}
use Rattle.patch_rows.proofs.laws.space_is_skipped.Goals as goal

pub returns-clause-found : goal.returns-clause-found
returns-clause-found c = skipped

pub returns-clause-again : goal.returns-clause-again
returns-clause-again c = skips
