-- The dataset that patches make one after another, and what makes them a chain.
use Rattle.std.specs.Prelude.{List, [], ◌∷◌, map}
use Rattle.rdf_terms.specs.Dataset.{Dataset, apply, empty}
use Rattle.log_base.specs.declared.chain_link.ChainLink.{ChainLink}
use Rattle.patch_meaning.specs.Patch.{Meaning}

-- the patches one after another
abbrev pub replay_from : List Meaning → Dataset → Dataset
replay_from [] d = d
replay_from (m ∷ ms) d = replay_from ms (apply m.changes d)

-- the patches one after another, from the empty dataset
abbrev pub replay : List Meaning → Dataset
replay ms = replay_from ms empty

abbrev pub link_of : Meaning → ChainLink
link_of m = record { id = m.id; prev = m.prev }

-- what a chain sees of patches
abbrev pub links_said : List Meaning → List ChainLink
links_said ms = map link_of ms
