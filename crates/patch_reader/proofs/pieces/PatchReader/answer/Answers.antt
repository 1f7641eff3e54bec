use Rattle.std.proofs.Common.{◌++◌, subst}
use Rattle.patch_reader.specs.Pieces.{Reader, HasAllRows}
use Rattle.patch_reader.proofs.ReadOn.{all_rows}
use Rattle.patch_reader.proofs.pieces.PatchReader.answer.Goals as goal

pub returns-in-None-clause-rows : goal.returns-in-None-clause-rows
returns-in-None-clause-rows c =
    let r = c.self.inside in
    subst (λ (r : Reader). HasAllRows r) c.self.view_is (λ fits. all_rows r.end r.fed.text (r.taken.rows ++ r.ready.items) r.fault r.window c.self.invariant)

pub returns-in-Some-clause-rows : goal.returns-in-Some-clause-rows
returns-in-Some-clause-rows c =
    let r = c.self.inside in
    subst (λ (r : Reader). HasAllRows r) c.self.view_is (λ fits. all_rows r.end r.fed.text (r.taken.rows ++ r.ready.items) r.fault r.window c.self.invariant)
