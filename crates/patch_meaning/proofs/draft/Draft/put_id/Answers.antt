use Rattle.std.proofs.Common.{Some, refl, sym, ◌∙◌}
use Rattle.patch_meaning.proofs.Taking.{second_id, late_id, id_taken, id_stands}
use Rattle.patch_meaning.proofs.draft.Draft.put_id.Goals as goal

pub returns-then-is_some-clause-row : goal.returns-then-is_some-clause-row
returns-then-is_some-clause-row c = λ rs s. second_id rs c.args.id c.args.self.now s (sym c.is_some.ensures ∙ c.if-is_some.true)

pub returns-then-self-clause-row : goal.returns-then-self-clause-row
returns-then-self-clause-row c = λ rs s. late_id rs c.args.id c.args.self.now s (sym c.is_some.ensures ∙ c.if-is_some.false) c.if-self.true

pub returns-clause-row : goal.returns-clause-row
returns-clause-row c = λ rs s.
    let none = sym c.is_some.ensures ∙ c.if-is_some.false in
    let empty = c.if-self.false in
    id_stands rs c.args.id c.args.self.now (record c.args.self.now { id = Some c.args.id }) s empty (id_taken rs c.args.id c.args.self.now s none empty) none refl refl refl refl
