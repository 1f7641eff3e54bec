use Rattle.std.proofs.Common.{[], ◌∷◌, ◌++◌, List, Ok, refl, subst}
use Rattle.std.specs.Prelude.{map}
use Rattle.rpc_answers.specs.declared.answer.Answer.TheVariants as answer
use Rattle.rpc_calls.specs.declared.call.Call.TheVariants as calls
use Rattle.delta_client.specs.Exchanges.{WasSaid, AsksAll, dial_view}
use Rattle.catch_up.specs.Runs.{Run, fetches_in, step_texts, texts_said, unanswered, compared, followed}
use Rattle.catch_up.proofs.Chains.{asks_both}
use Rattle.catch_up.proofs.Rest.{asks_alone}
use Rattle.catch_up.proofs.catching_up.catch_up_over.Goals as goal

pub returns-in-Err-clause-run : goal.returns-in-Err-clause-run
returns-in-Err-clause-run g c =
    let told = λ (net : g.row.N.Denot). dial_view g.N.Dial net in
    let shown = c.standing-version.ensures.shows in
    let asked = c.in-Err.ensures.asked in
    let run : Run = record { log = asked.0; mine = c.standing-version.result.version; have = c.standing-version.result.head; steps = []; last = [] } in (
      run,
      unanswered shown refl refl asked.1,
      λ tells. asks_alone g.N.L.Link.left g.N.L.Link.sent c.args.address.now (λ (one : WasSaid). calls.Log c.args.name.now) asked.0 c.args.line.now.open c.ask_log.new.line.open (told c.args.net.now) (told c.ask_log.new.net) (asked.2 tells),
    )

pub returns-in-Some-clause-run : goal.returns-in-Some-clause-run
returns-in-Some-clause-run g c =
    let told = λ (net : g.row.N.Denot). dial_view g.N.Dial net in
    let shown = c.standing-version.ensures.shows in
    let asked = c.in-Ok.ensures.asked in
    let info : WasSaid = Ok (answer.Info c.in-Ok.theirs c.in-Ok.named) in
    let run : Run = record { log = info ∷ []; mine = c.standing-version.result.version; have = c.standing-version.result.head; steps = []; last = [] } in (
      run,
      compared c.in-Ok.theirs c.in-Ok.named shown refl refl refl c.in-Some.ensures.ends,
      λ tells. subst (λ (said : List WasSaid). AsksAll g.N.L.Link.left g.N.L.Link.sent c.args.address.now (map (λ (one : WasSaid). calls.Log c.args.name.now) said) said c.args.line.now.open (told c.args.net.now) (told c.ask_log.new.net) c.ask_log.new.line.open) asked.1 (asked.2 tells),
    )

pub returns-in-None-clause-run : goal.returns-in-None-clause-run
returns-in-None-clause-run g c =
    let told = λ (net : g.row.N.Denot). dial_view g.N.Dial net in
    let shown = c.standing-version.ensures.shows in
    let asked = c.in-Ok.ensures.asked in
    let rest = c.take_rest.ensures.rest in
    let mine = c.standing-version.result.version in
    let name = c.args.name.now in
    let info : WasSaid = Ok (answer.Info c.in-Ok.theirs c.in-Ok.named) in
    let run : Run = record { log = info ∷ []; mine = mine; have = c.standing-version.result.head; steps = rest.0; last = rest.1 } in
    let first = λ (tells : g.N.Dial.tells). subst (λ (said : List WasSaid). AsksAll g.N.L.Link.left g.N.L.Link.sent c.args.address.now (map (λ (one : WasSaid). calls.Log name) said) said c.args.line.now.open (told c.args.net.now) (told c.ask_log.new.net) c.ask_log.new.line.open) asked.1 (asked.2 tells) in (
      run,
      followed c.in-Ok.theirs c.in-Ok.named c.standing-version.new.state shown refl c.in-None.ensures.before rest.2,
      λ tells. asks_both g.N.L.Link.left g.N.L.Link.sent c.args.address.now (calls.Log name ∷ []) (fetches_in name mine rest.0 rest.1) (info ∷ []) (texts_said (step_texts rest.0) ++ rest.1) c.args.line.now.open c.ask_log.new.line.open c.take_rest.new.line.open
          (told c.args.net.now) (told c.ask_log.new.net) (told c.take_rest.new.net) (first tells) (rest.3 tells),
    )
