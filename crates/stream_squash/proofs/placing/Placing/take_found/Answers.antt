use Rattle.std.proofs.Common.{refl, sym, ◌∙◌}
use Rattle.patch_meaning.proofs.Read.{word_found}
use Rattle.stream_squash.proofs.Placed.{quad_placed}
use Rattle.stream_squash.proofs.placing.Placing.take_found.Goals as goal

pub take-requires-clause-next : goal.take-requires-clause-next
take-requires-clause-next c =
    let f = c.requires.found in
    (f.0, f.1, word_found c.args.text.now f.0 c.args.at c.args.found c.in-Some.role f.2 f.3 (sym c.found_role.ensures ∙ c.in-Some.is))

pub returns-in-None-clause-ok : goal.returns-in-None-clause-ok
returns-in-None-clause-ok c =
    quad_placed c.args.text.now c.args.at c.args.found c.args.self.now _ c.requires.found (sym c.found_role.ensures ∙ c.in-None.is) c.take_quad.ensures.rows c.take_quad.ensures.from refl refl refl
