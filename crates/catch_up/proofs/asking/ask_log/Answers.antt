use Rattle.std.proofs.Common.{ℕ, [], ◌∷◌, Option, Result, Ok, Err, refl, ap}
use Rattle.delta_base.specs.declared.id.Id.{Id}
use Rattle.rpc_answers.specs.declared.answer.Answer.{Answer}
use Rattle.rpc_calls.specs.declared.call.Call.TheVariants as calls
use Rattle.catch_up.specs.declared.end.RunEnd.{RunEnd}
use Rattle.catch_up.specs.Ends.{LogSays, LogTold, answered, faulty, not_asked}
use Rattle.delta_client.specs.Exchanges.{WasSaid, dial_view}
use Rattle.catch_up.proofs.Chains.{asks_none, asks_call}
use Rattle.catch_up.proofs.asking.ask_log.Goals as goal

says : {E : Type 0} (a : Answer) (result : Result (ℕ × Option Id) (RunEnd E)) → LogTold a result → LogSays (Ok a ∷ []) result
says a (Ok told) is = ap (λ (it : Answer). Ok it ∷ []) is
says a (Err end) is = answered a refl is

pub returns-in-Err-clause-asked : goal.returns-in-Err-clause-asked
returns-in-Err-clause-asked g c =
    let told = λ (net : g.row.N.Denot). dial_view g.N.Dial net in
    ([], not_asked refl refl, λ tells. asks_none g.N.L.Link.left g.N.L.Link.sent c.args.address.now c.args.line.now.open (told c.args.net.now))

pub returns-in-Ok-said-clause-asked : goal.returns-in-Ok-said-clause-asked
returns-in-Ok-said-clause-asked g c =
    let told = λ (net : g.row.N.Denot). dial_view g.N.Dial net in
    let e = c.in-Ok-said.ensures in
    let said : WasSaid = Ok c.in-Ok-said.answer in (
      said ∷ [],
      says c.in-Ok-said.answer c.log_told.result c.log_told.ensures,
      λ tells. asks_call g.N.L.Link.left g.N.L.Link.sent c.args.address.now c.in-Ok.call (calls.Log c.args.name.now) said said c.args.line.now.open c.ask_again-said.new.line.open (told c.args.net.now) (told c.ask_again-said.new.net)
          c.in-Ok.ensures refl (record { over = e.over tells; kept = e.kept; tried = e.tried }),
    )

pub returns-in-Err-said-clause-asked : goal.returns-in-Err-said-clause-asked
returns-in-Err-said-clause-asked g c =
    let told = λ (net : g.row.N.Denot). dial_view g.N.Dial net in
    let e = c.in-Err-said.ensures in
    let said : WasSaid = Err c.in-Err-said.fault in (
      said ∷ [],
      faulty c.in-Err-said.fault refl c.of_fault.ensures,
      λ tells. asks_call g.N.L.Link.left g.N.L.Link.sent c.args.address.now c.in-Ok.call (calls.Log c.args.name.now) said said c.args.line.now.open c.ask_again-said.new.line.open (told c.args.net.now) (told c.ask_again-said.new.net)
          c.in-Ok.ensures refl (record { over = e.over tells; kept = e.kept; tried = e.tried }),
    )
