use Rattle.rdf_terms.specs.Quad.{statement}
use Rattle.nquads_documents.proofs.Pushed.{line_pushed}
use Rattle.row_lines.proofs.Written.{quad_there, space_skipped}
use Rattle.row_lines.proofs.quad.write_quad.Goals as goal

pub returns : goal.returns
returns c =
    let s = c.in_ok-end.ensures in let p = c.in_ok-end-2.ensures in let o = c.in_ok-end-3.ensures in let g = c.in_ok-end-4.ensures in (
      statement s.0 p.0 o.0 g.0,
      quad_there _ _ _ _ _ _ _ _ _ s.0 p.0 o.0 g.0 (space_skipped _ _ c.skip_space.ensures.only) s.1 (space_skipped _ _ c.skip_space-2.ensures.only) p.1
          (space_skipped _ _ c.skip_space-3.ensures.only) o.1 (space_skipped _ _ c.skip_space-4.ensures.only) g.1,
      g.2,
      line_pushed c.args.out.now.items c.write_node.new.out.items c.push.new.self.items c.write_predicate.new.out.items c.push-2.new.self.items c.write_term.new.out.items c.write_graph.new.out.items c.extend_from_slice.new.self.items
          (statement s.0 p.0 o.0 g.0) s.3 c.in_ok-push.ensures.items p.3 c.in_ok-push-2.ensures.items o.3 g.3 c.in_ok-extend_from_slice.ensures.items,
    )
