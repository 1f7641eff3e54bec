use Rattle.std.proofs.Common.{rules, ◌≡◌, Some, None, length}
use Rattle.term_table.specs.Table.{most, number_in, interned}
use Rattle.term_table.proofs.Numbers.{named}
use Rattle.dataset_tx.proofs.Growing.{interned_grows, one_too_many}
use Rattle.dataset_tx.proofs.numbering.number.Goals as goal

pub returns-in-Ok-clause-grows : goal.returns-in-Ok-clause-grows
returns-in-Ok-clause-grows c =
    let came : c.number_copy.new.self ≡ interned c.args.terms.now c.args.term.now = search rules in
    interned_grows _ _ _ c.requires came

pub returns-in-Ok-clause-ok : goal.returns-in-Ok-clause-ok
returns-in-Ok-clause-ok c =
    let e : number_in c.number_copy.new.self c.args.term.now ≡ Some c.in-Ok.number = search rules in
    named _ _ _ e

pub returns-in-Err-Full-clause-full : goal.returns-in-Err-Full-clause-full
returns-in-Err-Full-clause-full c h =
    let none : number_in c.args.terms.now c.args.term.now ≡ None = search rules in
    let full : length c.args.terms.now ≡ most = search rules in
    let kept : c.number_copy.new.self ≡ c.args.terms.now = search rules in
    one_too_many most _ _ _ c.requires none full kept
