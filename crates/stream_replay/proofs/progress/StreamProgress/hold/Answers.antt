use Rattle.std.proofs.Common.{◌++◌, List, sym, subst, ◌∙◌}
use Rattle.std.proofs.lemmas.Result.{on_ok_weaker}
use Rattle.patch_meaning.specs.declared.role.Role.{Role}
use Rattle.patch_meaning.specs.Roles.{change_of}
use Rattle.rdf_terms.specs.declared.change.Change.{Change}
use Rattle.rdf_terms.specs.Dataset.{Dataset}
use Rattle.stream_replay.specs.Edits.{HasEdits}
use Rattle.stream_replay.proofs.Held.{held_more, held_none}
use Rattle.stream_replay.proofs.progress.StreamProgress.hold.Goals as goal

pub returns-then-needs_none-clause-edits : goal.returns-then-needs_none-clause-edits
returns-then-needs_none-clause-edits c = λ ms changes has.
    let s = c.args.self.now in held_none s.replay.fault s.part ms changes c.args.says.now c.args.at s.edits (sym c.needs_none.ensures ∙ c.if-needs_none.true) has

pub returns-else-needs_none-clause-edits : goal.returns-else-needs_none-clause-edits
returns-else-needs_none-clause-edits c =
    let s = c.args.self.now in
    on_ok_weaker c.take.result
    (λ more ms changes has.
    held_more s.replay.fault s.part ms changes c.args.says.now c.args.at s.edits c.take.new.self (sym c.needs_none.ensures ∙ c.if-needs_none.false)
    (subst (λ (r : Role). (cs : List Change) (d : Dataset) → HasEdits cs d s.edits → HasEdits (cs ++ change_of r) d c.take.new.self) (sym c.in-Change.is) more) has)
    c.take.ensures.edits
