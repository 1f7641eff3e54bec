-- What a follower's copy keeps of the patches that it took.
use Rattle.std.specs.Prelude.{ℕ, ◌+◌, ◌*◌, List, [], length}
use Rattle.delta_base.specs.declared.id.Id.{Id}
use Rattle.log_base.specs.declared.limits.TheConstants.{EMPTY_JOURNAL, PAYLOAD_FRAME}
use Rattle.rdf_terms.specs.Dataset.{Dataset, empty}

-- the ids in their order, how many bytes the texts have, and the dataset that the patches make
pub record Brief : Type 0 where
  pub ids : List Id
  pub bytes : ℕ
  pub contents : Dataset

-- of no patches
abbrev pub empty_brief : Brief
empty_brief = record { ids = []; bytes = 0; contents = empty }

-- the length of a journal that holds patches with these ids and so many bytes
abbrev pub file_length : List Id → ℕ → ℕ
file_length ids bytes = EMPTY_JOURNAL + PAYLOAD_FRAME * length ids + bytes
