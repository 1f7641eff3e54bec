use Rattle.std.proofs.Common.{◌<◌, ◌+◌, ◌++◌, ℕ, List, length, drop, ap, ◌∙◌, arith}
use Rattle.std.specs.List.{flat_map}
use Rattle.rdf_terms.specs.Line.{escaped}
use Rattle.nquads_text.proofs.Escaping.{run_written, byte_written}
use Rattle.nquads_text.proofs.printing.push_run.Goals as goal

pub returns-then-run-text-clause-leads : goal.returns-then-run-text-clause-leads
returns-then-run-text-clause-leads c =
    ap (λ (t : List ℕ). t ++ flat_map escaped (drop c.unescaped_end-run.result c.args.text.now)) c.in_ok-extend_from_slice.ensures.items
    ∙ run_written c.args.text.now c.args.out.now.items c.args.at c.unescaped_end-run.result c.unescaped_end-run.ensures.low c.unescaped_end-run.ensures.high c.unescaped_end-run.ensures.same

pub returns-clause-leads : goal.returns-clause-leads
returns-clause-leads c =
    let high = c.unescaped_end-run.ensures.high in let other = c.if-run-text.false in
    let lt : c.unescaped_end-run.result < length c.args.text.now = omega arith in
    ap (λ (t : List ℕ). t ++ flat_map escaped (drop (c.unescaped_end-run.result + 1) c.args.text.now)) c.in_ok-push_escaped.ensures
    ∙ byte_written c.args.text.now c.extend_from_slice.new.self.items c.unescaped_end-run.result lt
    ∙ ap (λ (t : List ℕ). t ++ flat_map escaped (drop c.unescaped_end-run.result c.args.text.now)) c.in_ok-extend_from_slice.ensures.items
    ∙ run_written c.args.text.now c.args.out.now.items c.args.at c.unescaped_end-run.result c.unescaped_end-run.ensures.low c.unescaped_end-run.ensures.high c.unescaped_end-run.ensures.same
