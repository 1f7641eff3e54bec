use Rattle.std.proofs.Common.{refl, ap, subst, Some}
use Rattle.delta_base.specs.declared.id.Id.{Id}
use Rattle.command_tables.specs.Channels.{words_of}
use Rattle.command_tables.specs.Names.{FitsName}
use Rattle.command_tables.specs.declared.name.Name.TheVariants as names
use Rattle.delta_cli.proofs.Words.{three_are}
use Rattle.delta_cli.proofs.calls.make_call.Goals as goal

pub returns-in_ok-text_at-in-Create-2-clause-call : goal.returns-in_ok-text_at-in-Create-2-clause-call
returns-in_ok-text_at-in-Create-2-clause-call c =
    let words = words_of c.args.words.now in
    let first = c.in_ok-text_at-in-Create in
    let second = c.in_ok-text_at-in-Create-2 in
    (three_are words names.Create (subst (FitsName words) c.in-Create.is c.requires.fits) refl first.field-0 second.field-0 first.ensures second.ensures, ap (λ (id : Id). Some id) c.random_id.ensures)

pub returns-in_ok-text_at-in-Rename-2-clause-call : goal.returns-in_ok-text_at-in-Rename-2-clause-call
returns-in_ok-text_at-in-Rename-2-clause-call c =
    let words = words_of c.args.words.now in
    let first = c.in_ok-text_at-in-Rename in
    let second = c.in_ok-text_at-in-Rename-2 in
    three_are words names.Rename (subst (FitsName words) c.in-Rename.is c.requires.fits) refl first.field-0 second.field-0 first.ensures second.ensures
