-- Where the parts of a quad's canonical line end.
use Rattle.std.specs.Prelude.{ℕ, ◌+◌, List, [], ◌∷◌}
use Rattle.canonical_scan.specs.declared.line.LinePlaces.{LinePlaces}
use Rattle.canonical_scan.specs.Parts.{Stands, HasNodeText, HasIriText, HasObject, HasGraph}

-- the line of a quad stands at a place, and its parts end at these places
pub record ArePlaces (text : List ℕ) (at : ℕ) (p : LinePlaces) : Type 0 where
  pub subject : HasNodeText text at p.subject
  pub second : Stands (32 ∷ []) text p.subject (p.subject + 1)
  pub predicate : HasIriText text (p.subject + 1) p.predicate
  pub third : Stands (32 ∷ []) text p.predicate (p.predicate + 1)
  pub object : HasObject text (p.predicate + 1) p.string p.object
  pub graph : HasGraph text p.object p.graph
  pub dot : Stands (32 ∷ 46 ∷ 10 ∷ []) text p.graph p.end
