-- How fetches go on, one after another.
use Rattle.std.proofs.Common.{◌≡◌, ℕ, ◌+◌, ◌<◌, ◌≤◌, List, [], ◌∷◌, ◌++◌, Option, Result, Ok, Err, refl, sym, ◌∙◌, ap, subst}
use Rattle.std.specs.Prelude.{map, IfOk, IfErr}
use Rattle.std.proofs.lemmas.List.{append-nil, map-append}
use Rattle.rpc_answers.specs.declared.answer.Answer.TheVariants as answer
use Rattle.rpc_calls.specs.declared.call.Call.{Call}
use Rattle.rpc_calls.specs.declared.call.Call.TheVariants as calls
use Rattle.delta_client.specs.declared.line.Open.{Open}
use Rattle.catch_up.specs.declared.end.RunEnd.{RunEnd}
use Rattle.catch_up.specs.declared.end.RunEnd.TheVariants.{CaughtUp}
use Rattle.delta_client.specs.Exchanges.{WasSaid, DialView, AsksAll}
use Rattle.catch_up.specs.Runs.{TakenText, step_texts, texts_said, fetches_in, TakesAll, FetchEnds, RestIs, stopped, caught_up}
use Rattle.catch_up.proofs.Chains.{asks_none, asks_both}

-- ---- results

pub on_ok : {T E : Type 0} {P Q : T → Type 0} (result : Result T E) → ((done : T) → P done → Q done) → IfOk result P → IfOk result Q
on_ok (Ok done) then is = then done is
on_ok (Err fault) then is = tt

pub on_err : {T E : Type 0} {P Q : E → Type 0} (result : Result T E) → ((fault : E) → P fault → Q fault) → IfErr result P → IfErr result Q
on_err (Ok done) then is = tt
on_err (Err fault) then is = then fault is

-- ---- fetches

abbrev fetch : List ℕ → ℕ → Call
fetch name version = calls.FetchVersion name version

abbrev text_said : List ℕ → WasSaid
text_said text = Ok (answer.Patch text)

abbrev step_text : TakenText → List ℕ
step_text step = step.text

-- up to which version there are patches behind these
abbrev reached_by : ℕ → List TakenText → ℕ
reached_by from [] = from
reached_by from (step ∷ steps) = reached_by step.reached steps

said_push : (steps : List TakenText) (step : TakenText) → texts_said (step_texts (steps ++ step ∷ [])) ≡ texts_said (step_texts steps) ++ text_said step.text ∷ []
said_push steps step = ap (λ (texts : List (List ℕ)). texts_said texts) (map-append step_text steps (step ∷ [])) ∙ map-append text_said (step_texts steps) (step.text ∷ [])

-- what was said last was said to one fetch more
fetches_last : (name : List ℕ) (from : ℕ) (steps : List TakenText) (last : List WasSaid) → fetches_in name from steps last ≡ fetches_in name from steps [] ++ map (λ (one : WasSaid). fetch name (reached_by from steps + 1)) last
fetches_last name from [] last = refl
fetches_last name from (step ∷ steps) last = ap (λ (cs : List Call). fetch name step.version ∷ cs) (fetches_last name step.reached steps last)

fetches_push : (name : List ℕ) (from : ℕ) (steps : List TakenText) (step : TakenText) → fetches_in name from (steps ++ step ∷ []) [] ≡ fetches_in name from steps [] ++ fetch name step.version ∷ []
fetches_push name from [] step = refl
fetches_push name from (first ∷ steps) step = ap (λ (cs : List Call). fetch name first.version ∷ cs) (fetches_push name first.reached steps step)

module _ {S E : Type 0} (takes : S → ℕ → List ℕ → Result ℕ E → S → Type 0) (theirs : ℕ) where
  takes_reach : (from : ℕ) (before : S) (steps : List TakenText) (on : ℕ) (after : S) → TakesAll takes theirs from before steps on after → on ≡ reached_by from steps
  takes_reach from before [] on after all = all.0
  takes_reach from before (step ∷ steps) on after all = takes_reach step.reached all.0 steps on after all.4

  takes_push : (from : ℕ) (before : S) (steps : List TakenText) (on : ℕ) (between : S) (text : List ℕ) (further : ℕ) (after : S) → TakesAll takes theirs from before steps on between → on < theirs
      → takes between (on + 1) text (Ok further) after → TakesAll takes theirs from before (steps ++ record { version = on + 1; text = text; reached = further } ∷ []) further after
  takes_push from before [] on between text further after all less one =
      (after, subst (λ (n : ℕ). n < theirs) all.0 less, ap (λ (n : ℕ). n + 1) all.0, subst (λ (s : S). takes s (on + 1) text (Ok further) after) all.1 one, (refl, refl))
  takes_push from before (step ∷ steps) on between text further after all less one = (all.0, all.1, all.2, all.3, takes_push step.reached all.0 steps on between text further after all.4 less one)

  module _ {L : Type 0} (net_tells : Type 0) (left sent : L → Option (List ℕ)) (address name : List ℕ) (from : ℕ) (old : S) (talk : Option (Open L)) (before : DialView L) where
    -- these texts were fetched and taken, one after another
    abbrev pub Gone : List TakenText → ℕ → S → Option (Open L) → DialView L → Type 0
    Gone steps on now line after = TakesAll takes theirs from old steps on now × (net_tells → AsksAll left sent address (fetches_in name from steps []) (texts_said (step_texts steps)) talk before after line)

    pub gone_none : Gone [] from old talk before
    gone_none = ((refl, refl), λ tells. asks_none left sent address talk before)

    -- one text more
    pub gone_on : (steps : List TakenText) (on : ℕ) (now new : S) (next line : Option (Open L)) (between after : DialView L) (text : List ℕ) (further : ℕ) → on < theirs → Gone steps on now next between
        → takes now (on + 1) text (Ok further) new → (net_tells → AsksAll left sent address (fetch name (on + 1) ∷ []) (Ok (answer.Patch text) ∷ []) next between after line)
        → Gone (steps ++ record { version = on + 1; text = text; reached = further } ∷ []) further new line after
    gone_on steps on now new next line between after text further less so one asks =
        let step : TakenText = record { version = on + 1; text = text; reached = further } in (
          takes_push from old steps on now text further new so.0 less one,
          λ tells. subst (λ (cs : List Call). AsksAll left sent address cs (texts_said (step_texts (steps ++ step ∷ []))) talk before after line) (sym (fetches_push name from steps step))
              (subst (λ (said : List WasSaid). AsksAll left sent address (fetches_in name from steps [] ++ fetch name (on + 1) ∷ []) said talk before after line) (sym (said_push steps step))
              (asks_both left sent address (fetches_in name from steps []) (fetch name (on + 1) ∷ []) (texts_said (step_texts steps)) (Ok (answer.Patch text) ∷ []) talk next line before between after (so.1 tells) (asks tells))),
        )

    -- what the fetches come to
    abbrev pub Ended : List TakenText → List WasSaid → RunEnd E → S → Option (Open L) → DialView L → Type 0
    Ended steps last end new line after = RestIs takes theirs from old steps last end new
        × (net_tells → AsksAll left sent address (fetches_in name from steps last) (texts_said (step_texts steps) ++ last) talk before after line)

    -- a fetch that ends it
    pub gone_stopped : (steps : List TakenText) (on : ℕ) (now new : S) (next line : Option (Open L)) (between after : DialView L) (said : List WasSaid) (end : RunEnd E) → on < theirs → Gone steps on now next between
        → FetchEnds takes (on + 1) now said end new → (net_tells → AsksAll left sent address (map (λ (one : WasSaid). fetch name (on + 1)) said) said next between after line)
        → Ended steps said end new line after
    gone_stopped steps on now new next line between after said end less so ends asks = (
      stopped on now so.0 less ends,
      λ tells. subst (λ (cs : List Call). AsksAll left sent address cs (texts_said (step_texts steps) ++ said) talk before after line) (sym (fetches_last name from steps said))
          (asks_both left sent address (fetches_in name from steps []) (map (λ (one : WasSaid). fetch name (reached_by from steps + 1)) said) (texts_said (step_texts steps)) said talk next line before between after (so.1 tells)
          (subst (λ (n : ℕ). AsksAll left sent address (map (λ (one : WasSaid). fetch name (n + 1)) said) said next between after line) (takes_reach from old steps on now so.0) (asks tells))),
    )

    -- none is left to fetch
    pub gone_through : (steps : List TakenText) (on : ℕ) (now : S) (line : Option (Open L)) (after : DialView L) → theirs ≤ on → Gone steps on now line after → Ended steps [] (CaughtUp theirs) now line after
    gone_through steps on now line after done so = (
      caught_up on so.0 done refl refl,
      λ tells. subst (λ (said : List WasSaid). AsksAll left sent address (fetches_in name from steps []) said talk before after line) (sym (append-nil (texts_said (step_texts steps)))) (so.1 tells),
    )

-- ---- the log's call alone

module _ {L : Type 0} (left sent : L → Option (List ℕ)) (address : List ℕ) where
  pub asks_alone : (f : WasSaid → Call) (said : List WasSaid) (talk line : Option (Open L)) (before after : DialView L) → AsksAll left sent address (map f said) said talk before after line
      → AsksAll left sent address (map f said ++ []) (said ++ []) talk before after line
  asks_alone f said talk line before after asks =
      subst (λ (cs : List Call). AsksAll left sent address cs (said ++ []) talk before after line) (sym (append-nil (map f said)))
      (subst (λ (it : List WasSaid). AsksAll left sent address (map f said) it talk before after line) (sym (append-nil said)) asks)
