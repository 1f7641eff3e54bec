use Rattle.stream_squash.proofs.Kept.{inverses_are_squashed, squashes_keep_datasets}
use Rattle.stream_squash.proofs.laws.squashes_keep_datasets.Goals as goal

pub returns-clause-squash : goal.returns-clause-squash
returns-clause-squash c = squashes_keep_datasets

pub returns-clause-invert : goal.returns-clause-invert
returns-clause-invert c = inverses_are_squashed
