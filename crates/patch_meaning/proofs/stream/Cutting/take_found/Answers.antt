use Rattle.std.proofs.Common.{refl, sym, ◌∙◌}
use Rattle.patch_meaning.proofs.Splits.{found_next, quad_behind}
use Rattle.patch_meaning.proofs.stream.Cutting.take_found.Goals as goal

pub take-requires : goal.take-requires
take-requires c = found_next c.args.text.now c.args.at c.args.found c.args.self.now c.in-Some.role c.requires (sym c.found_role.ensures ∙ c.in-Some.is)

pub returns-in-None-clause-ok : goal.returns-in-None-clause-ok
returns-in-None-clause-ok c =
    quad_behind c.args.text.now c.args.at c.args.found c.args.self.now _ c.requires (sym c.found_role.ensures ∙ c.in-None.is) c.take_quad.ensures.rows c.take_quad.ensures.from refl
