use Rattle.std.proofs.Common.{[], ◌∷◌, Ok, Err, refl, ap}
use Rattle.rpc_answers.specs.declared.answer.Answer.{Answer}
use Rattle.rpc_answers.specs.declared.answer.Answer.TheVariants as answer
use Rattle.rpc_calls.specs.declared.call.Call.TheVariants as calls
use Rattle.delta_client.specs.Exchanges.{WasSaid, dial_view}
use Rattle.catch_up.specs.Runs.{faulty, not_asked}
use Rattle.catch_up.proofs.Chains.{asks_none, asks_call}
use Rattle.catch_up.proofs.Rest.{on_ok, on_err}
use Rattle.catch_up.proofs.catching_up.take_one.Goals as goal

pub returns-in-Err-clause-err : goal.returns-in-Err-clause-err
returns-in-Err-clause-err g c =
    let told = λ (net : g.row.N.Denot). dial_view g.N.Dial net in
    ([], not_asked refl refl refl, λ tells. asks_none g.N.L.Link.left g.N.L.Link.sent c.args.address.now c.args.line.now.open (told c.args.net.now))

pub returns-in-Ok-said-clause-ok : goal.returns-in-Ok-said-clause-ok
returns-in-Ok-said-clause-ok g c =
    let told = λ (net : g.row.N.Denot). dial_view g.N.Dial net in
    let e = c.in-Ok-said.ensures in
    let said : WasSaid = Ok c.in-Ok-said.answer in
    on_ok c.take_answer.result (λ on is. (
      is.0,
      is.2,
      λ tells. asks_call g.N.L.Link.left g.N.L.Link.sent c.args.address.now c.in-Ok.call (calls.FetchVersion c.args.name.now c.args.version) said (Ok (answer.Patch is.0)) c.args.line.now.open c.ask_again-said.new.line.open (told c.args.net.now) (told c.ask_again-said.new.net)
          c.in-Ok.ensures (ap (λ (a : Answer). Ok a) is.1) (record { over = e.over tells; kept = e.kept; tried = e.tried }),
    ))
    c.take_answer.ensures.ok

pub returns-in-Ok-said-clause-err : goal.returns-in-Ok-said-clause-err
returns-in-Ok-said-clause-err g c =
    let told = λ (net : g.row.N.Denot). dial_view g.N.Dial net in
    let e = c.in-Ok-said.ensures in
    let said : WasSaid = Ok c.in-Ok-said.answer in
    on_err c.take_answer.result (λ end is. (
      said ∷ [],
      is,
      λ tells. asks_call g.N.L.Link.left g.N.L.Link.sent c.args.address.now c.in-Ok.call (calls.FetchVersion c.args.name.now c.args.version) said said c.args.line.now.open c.ask_again-said.new.line.open (told c.args.net.now) (told c.ask_again-said.new.net)
          c.in-Ok.ensures refl (record { over = e.over tells; kept = e.kept; tried = e.tried }),
    ))
    c.take_answer.ensures.err

pub returns-in-Err-said-clause-err : goal.returns-in-Err-said-clause-err
returns-in-Err-said-clause-err g c =
    let told = λ (net : g.row.N.Denot). dial_view g.N.Dial net in
    let e = c.in-Err-said.ensures in
    let said : WasSaid = Err c.in-Err-said.fault in (
      said ∷ [],
      faulty c.in-Err-said.fault refl c.of_fault.ensures refl,
      λ tells. asks_call g.N.L.Link.left g.N.L.Link.sent c.args.address.now c.in-Ok.call (calls.FetchVersion c.args.name.now c.args.version) said said c.args.line.now.open c.ask_again-said.new.line.open (told c.args.net.now) (told c.ask_again-said.new.net)
          c.in-Ok.ensures refl (record { over = e.over tells; kept = e.kept; tried = e.tried }),
    )
