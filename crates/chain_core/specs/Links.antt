-- What makes patches a chain.
use Rattle.std.specs.Prelude.{◌≡◌, ◌≢◌, List, [], ◌∷◌, Option, None, Some, map}
use Rattle.std.specs.List.{AllByRecursion}
use Rattle.delta_base.specs.declared.id.Id.{Id}
use Rattle.log_base.specs.declared.chain_link.ChainLink.{ChainLink}

-- each names the one before it, and the first one names the head
abbrev pub Follow : Option Id → List ChainLink → Type 0
Follow head [] = Unit {0}
Follow head (l ∷ ls) = (l.prev ≡ head) × Follow (Some l.id) ls

-- no two are the same
abbrev pub AllDiffer : List Id → Type 0
AllDiffer [] = Unit {0}
AllDiffer (i ∷ is) = AllByRecursion (λ j. j ≢ i) is × AllDiffer is

abbrev pub link_ids : List ChainLink → List Id
link_ids ls = map (λ l. l.id) ls

-- the first has no previous one, each later one names the one before it, and all ids differ
pub record IsChain (ls : List ChainLink) : Type 0 where
  pub follow : Follow None ls
  pub differ : AllDiffer (link_ids ls)
