-- Calls one after another: how they go on.
use Rattle.std.proofs.Common.{ℕ, List, [], ◌∷◌, ◌++◌, Option, refl, subst, ◌≡◌}
use Rattle.rpc_calls.specs.declared.call.Call.{Call}
use Rattle.delta_client.specs.declared.line.Open.{Open}
use Rattle.delta_client.specs.Exchanges.{WasSaid, DialView, AsksOne, AsksAll}

module _ {L : Type 0} (left sent : L → Option (List ℕ)) (address : List ℕ) where
  pub asks_none : (talk : Option (Open L)) (net : DialView L) → AsksAll left sent address [] [] talk net net talk
  asks_none talk net = (refl, refl)

  asks_one : (call : Call) (said : WasSaid) (talk line : Option (Open L)) (before after : DialView L) → AsksOne left sent address call said talk before after line
      → AsksAll left sent address (call ∷ []) (said ∷ []) talk before after line
  asks_one call said talk line before after one = (after, line, one, (refl, refl))

  -- one call, by what it is and what was said
  pub asks_call : (call wanted : Call) (said it : WasSaid) (talk line : Option (Open L)) (before after : DialView L) → call ≡ wanted → said ≡ it → AsksOne left sent address call said talk before after line
      → AsksAll left sent address (wanted ∷ []) (it ∷ []) talk before after line
  asks_call call wanted said it talk line before after same so one =
      asks_one wanted it talk line before after (subst (λ (s : WasSaid). AsksOne left sent address wanted s talk before after line) so (subst (λ (c : Call). AsksOne left sent address c said talk before after line) same one))

  pub asks_both : (first second : List Call) (said more : List WasSaid) (talk next line : Option (Open L)) (before between after : DialView L)
      → AsksAll left sent address first said talk before between next → AsksAll left sent address second more next between after line
      → AsksAll left sent address (first ++ second) (said ++ more) talk before after line
  asks_both [] second [] more talk next line before between after one two =
      subst (λ (net : DialView L). AsksAll left sent address second more talk net after line) one.0
      (subst (λ (o : Option (Open L)). AsksAll left sent address second more o between after line) one.1 two)
  asks_both (call ∷ first) second (it ∷ said) more talk next line before between after one two =
      (one.0, one.1, one.2, asks_both first second said more one.1 next line one.0 between after one.3 two)
  asks_both [] second (it ∷ said) more talk next line before between after one two = absurd one
  asks_both (call ∷ first) second [] more talk next line before between after one two = absurd one
