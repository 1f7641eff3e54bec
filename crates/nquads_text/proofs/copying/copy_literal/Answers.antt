use Rattle.std.proofs.Common.{drop}
use Rattle.std.proofs.lemmas.Result.{err_from_is_err_and}
use Rattle.nquads_text.proofs.Copied.{string_is_missing, kind_is_missing, literal_is_written}
use Rattle.nquads_text.proofs.copying.copy_literal.Goals as goal

pub returns-in_err-behind : goal.returns-in_err-behind
returns-in_err-behind c =
    let p = err_from_is_err_and c.from_residual.result c.from_residual.ensures.1 in
    let text = c.args.text.now in rw (p.1, p.2) (string_is_missing text (drop c.args.start text) (drop c.args.at text) c.in_err-behind.field-0.0 c.in_err-behind.ensures)

pub returns-in_err-kind : goal.returns-in_err-kind
returns-in_err-kind c =
    let p = err_from_is_err_and c.from_residual-in_err-kind.result c.from_residual-in_err-kind.ensures.1 in
    let text = c.args.text.now in
    rw (p.1, p.2) (kind_is_missing text c.args.out.now.items c.copy_string.new.out.items (drop c.args.start text) (drop c.args.at text) c.in_ok-behind.behind c.in_ok-behind.ensures c.in_err-kind.field-0.0 c.in_err-kind.ensures)

pub returns : goal.returns
returns c =
    let text = c.args.text.now in
    literal_is_written text c.args.out.now.items c.copy_string.new.out.items (drop c.args.start text) (drop c.args.at text) c.in_ok-behind.behind c.in_ok-behind.ensures c.push_kind.new.out.items c.in_ok-kind.end c.in_ok-kind.kind
    c.in_ok-kind.ensures.0 c.in_ok-kind.ensures.1 c.in_ok-push_kind.ensures.text
