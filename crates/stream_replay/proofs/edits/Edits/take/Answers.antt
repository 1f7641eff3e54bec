use Rattle.std.proofs.Common.{None, ◌∷◌, ◌++◌, [], sym, subst}
use Rattle.rdf_terms.specs.declared.change.Change.{Change}
use Rattle.stream_replay.specs.Edits.{AreEditsBehind}
use Rattle.stream_replay.proofs.Edited.{committed, prefix_more}
use Rattle.stream_replay.proofs.edits.Edits.take.Goals as goal

pub returns-in-Commit-clause-edits : goal.returns-in-Commit-clause-edits
returns-in-Commit-clause-edits c = λ changes d has.
    let e = c.args.self.now in
    subst (λ (c : Change). AreEditsBehind None (changes ++ c ∷ []) d e.log) (sym c.in-Commit.is) (committed e.before_block changes d e.log has)

pub returns-in-PrefixAdd-clause-edits : goal.returns-in-PrefixAdd-clause-edits
returns-in-PrefixAdd-clause-edits c = λ changes d has. let e = c.args.self.now in prefix_more e.before_block changes c.args.change.now d e.log c.in-PrefixAdd.is has

pub returns-in-PrefixAdd-2-clause-edits : goal.returns-in-PrefixAdd-2-clause-edits
returns-in-PrefixAdd-2-clause-edits c = λ changes d has. let e = c.args.self.now in prefix_more e.before_block changes c.args.change.now d e.log c.in-PrefixAdd.is has
