use Rattle.std.proofs.Common.{refl, sym, ap, ◌∙◌}
use Rattle.std.specs.Prelude.{option_map}
use Rattle.delta_base.specs.Ids.{number_of}
use Rattle.delta_base.specs.declared.id.Id.{Id}
use Rattle.rpc_calls.specs.Routes.{version_asked}
use Rattle.command_tables.specs.Channels.{words_of}
use Rattle.command_tables.specs.declared.name.Name.TheVariants as names
use Rattle.delta_cli.proofs.Words.{three_are}
use Rattle.delta_cli.proofs.calls.make_fetch.Goals as goal

pub returns-in-Some-clause-call : goal.returns-in-Some-clause-call
returns-in-Some-clause-call c dice =
    let are = three_are (words_of c.args.words.now) names.Fetch c.requires.fits refl c.in_ok-name.name c.in_ok-which.which c.in_ok-name.ensures c.in_ok-which.ensures in
    (c.in_ok-which.which, are, ap version_asked (sym c.as_bytes.ensures.value) ∙ sym c.version_of.ensures ∙ c.in-Some.is)

pub returns-in-Some-read_id-clause-call : goal.returns-in-Some-read_id-clause-call
returns-in-Some-read_id-clause-call c dice =
    let are = three_are (words_of c.args.words.now) names.Fetch c.requires.fits refl c.in_ok-name.name c.in_ok-which.which c.in_ok-name.ensures c.in_ok-which.ensures in (
      c.in_ok-which.which,
      are,
      ap version_asked (sym c.as_bytes.ensures.value) ∙ sym c.version_of.ensures ∙ c.in-None.is,
      ap number_of (sym c.as_bytes-in-None.ensures.value) ∙ sym c.read_id.ensures ∙ ap (option_map (λ (i : Id). i.0)) c.in-Some-read_id.is,
    )
