use Rattle.std.proofs.Common.{List, ℕ, refl, subst}
use Rattle.rdf_terms.specs.declared.change.Change.{Change}
use Rattle.patch_meaning.specs.PartRead.{meaning_of}
use Rattle.patch_meaning.specs.Patch.{IsPatch}
use Rattle.patch_log.proofs.reading.read_patch.Goals as goal

pub returns-clause-ok : goal.returns-clause-ok
returns-clause-ok c =
    let is = subst (λ (text : List ℕ). (changes : List Change) × IsPatch text (meaning_of c.in_ok-link.link changes)) c.as_slice.ensures c.in_ok-link.ensures.ok in
    record {
      patch = record { text = c.args.text; meaning = meaning_of c.in_ok-link.link is.0 };
      run_is = c.in_ok-alone.ensures;
      text_is = refl;
      is_patch = is.1;
    }
