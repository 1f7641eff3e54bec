use Rattle.std.proofs.Common.{◌∷◌, List, ℕ, sym, ap, ◌∙◌}
use Rattle.std.specs.Prelude.{codes}
use Rattle.std.specs.Cmp.Lexicographic.{bytes_decides}
use Rattle.command_tables.proofs.Words.{first_of_words}
use Rattle.delta_server.proofs.words.read_serve.Goals as goal

pub read_positions-requires : goal.read_positions-requires
read_positions-requires c =
    let first = first_of_words c.args.words.now c.first-item.result c.in-len1-up.len_at_least c.first-item.is in (
      first.0,
      first.1 ∙ ap (λ (w : List ℕ). w ∷ first.0) (sym c.as_str.ensures.value ∙ (bytes_decides c.as_str.result.now (codes "serve")).0 (sym c.eq.ensures ∙ c.if-eq.true)),
    )
