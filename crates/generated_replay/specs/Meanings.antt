-- What the patches of the generator's stream say.
use Rattle.std.specs.Prelude.{ℕ, zero, suc, pred, ◌+◌, ◌/◌, ◌%◌, ◌==◌, List, []}
use Rattle.std.specs.Prelude.{◌∷◌, ◌++◌, Option, Some, None, codes, if◌then◌else◌}
use Rattle.std.specs.Fmt.{decimal}
use Rattle.delta_base.specs.declared.id.Id.{Id}
use Rattle.rdf_terms.specs.Quad.{Statement, statement}
use Rattle.rdf_terms.specs.declared.change.Change.{Change}
use Rattle.rdf_terms.specs.declared.change.Change.TheVariants.{Add, Delete, Begin, Commit}
use Rattle.rdf_terms.specs.declared.term.LiteralKind.TheVariants.{Plain}
use Rattle.rdf_terms.specs.declared.term.Term.TheVariants as term
use Rattle.patch_meaning.specs.Patch.{Meaning}
use Rattle.stream_generator.specs.Generator.{patch_number}

-- the quad of patch k: one of a hundred subjects, one of seven predicates, and its number
abbrev pub quad : ℕ → Statement
quad k =
    statement (term.Iri (codes "http://g/s" ++ decimal (k % 100)))
    (term.Iri (codes "http://g/p" ++ decimal (k % 7)))
    (term.Literal (record { lexical = decimal k; kind = Plain })) None

-- the id of patch k
abbrev pub patch_id : ℕ → Id
patch_id k = record { 0 = patch_number k }

-- the id of the patch before; the first one has none before it
abbrev pub prev : ℕ → Option Id
prev k = if k == 1 then None else Some (patch_id (pred k))

-- each third patch deletes the quad of an earlier one
abbrev pub deletes : ℕ → List Change
deletes k = if k % 3 == 0 then Delete (quad (k / 3)) ∷ [] else []

-- patch k adds its quad, in one block
abbrev pub meaning : ℕ → Meaning
meaning k = record {
  id = patch_id k;
  prev = prev k;
  changes = Begin ∷ Add (quad k) ∷ (deletes k ++ Commit ∷ []);
}

-- so many patches from patch k on
abbrev pub meanings_from : ℕ → ℕ → List Meaning
meanings_from k zero = []
meanings_from k (suc count) = meaning k ∷ meanings_from (k + 1) count

-- the patches of the stream of so many
abbrev pub meanings_to : ℕ → List Meaning
meanings_to count = meanings_from 1 count

-- the last patch's id, where there is one
abbrev pub head : ℕ → Option Id
head zero = None
head (suc n) = Some (patch_id (suc n))
