use Rattle.std.proofs.Common.{List, ℕ, subst}
use Rattle.rdf_terms.specs.declared.change.Change.{Change}
use Rattle.patch_meaning.specs.PartRead.{meaning_of}
use Rattle.patch_meaning.specs.Patch.{IsPatch}
use Rattle.patch_log.proofs.Openings.{alone_read}
use Rattle.patch_log.proofs.reading.read_run.Goals as goal

pub alone-requires : goal.alone-requires
alone-requires c = subst (λ (text : List ℕ). (changes : List Change) × IsPatch text (meaning_of c.in-Ok.link changes)) c.as_slice.ensures c.in-Ok.ensures.ok

pub returns-in_ok-alone-in-Ok-clause-ok : goal.returns-in_ok-alone-in-Ok-clause-ok
returns-in_ok-alone-in-Ok-clause-ok c =
    let is = subst (λ (text : List ℕ). (changes : List Change) × IsPatch text (meaning_of c.in-Ok.link changes)) c.as_slice.ensures c.in-Ok.ensures.ok in
    alone_read c.args.text c.in-Ok.link c.in_ok-alone-in-Ok.field-0 is c.in_ok-alone-in-Ok.ensures
