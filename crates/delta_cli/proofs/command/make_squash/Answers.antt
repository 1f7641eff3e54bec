use Rattle.std.proofs.Common.{◌≡◌, ◌<◌, ◌^◌, sym, subst, ◌∙◌, arith}
use Rattle.std.specs.Fmt.{decimal}
use Rattle.std.proofs.lemmas.Fmt.{decimal_injective}
use Rattle.command_tables.specs.Channels.{words_of}
use Rattle.command_tables.specs.Names.{IsNumberIn}
use Rattle.delta_cli.proofs.Words.{spanless}
use Rattle.delta_cli.proofs.command.make_squash.Goals as goal

pub returns-clause-refused : goal.returns-clause-refused
returns-clause-refused c =
    let from = c.in-Some.from in
    let first = subst (IsNumberIn 1 65536 c.as_str.result.now) c.in-Some.is c.in_ok-from.ensures in
    let none = subst (IsNumberIn from 65536 c.as_str-2.result.now) c.in-None.is c.in_ok-to.ensures in (
      spanless (words_of c.args.words.now) c.requires
          (λ v w one two span.
          let read : decimal v ≡ decimal from = sym one ∙ sym c.in_ok-first.ensures ∙ sym c.as_str.ensures.value ∙ first.2 in
          let low : v < 2 ^ 64 = omega (arith, span.1, span.2) in
          let small : from < 2 ^ 64 = omega (arith, first.1) in
          let same : v ≡ from = decimal_injective v from low small read in
          none w (omega (arith, same, span.1)) span.2 (c.as_str-2.ensures.value ∙ c.in_ok-last.ensures ∙ two)),
      c.requires.0,
      tt,
    )
