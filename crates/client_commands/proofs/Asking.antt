-- One call over a line, and two.
use Rattle.std.proofs.Common.{◌≡◌, ℕ, List, [], ◌∷◌, Option, Result, Ok, Err, refl, subst}
use Rattle.rpc_calls.specs.declared.call.Call.{Call}
use Rattle.rpc_calls.specs.declared.call.Call.TheVariants as call
use Rattle.delta_client.specs.Exchanges.{WasSaid, DialView, AsksOne, AsksAll}
use Rattle.delta_client.specs.declared.line.Open.{Open}
use Rattle.client_commands.specs.Asks.{AsksOver, AsksTwo, Joins}
use Rattle.client_commands.specs.declared.fault.ClientFault.{ClientFault}
use Rattle.client_commands.specs.declared.fault.ClientFault.TheVariants as faults

module _ {L : Type 0} (left sent : L → Option (List ℕ)) (address : List ℕ) where
  pub asks_one : (c : Call) (said : WasSaid) (talk line : Option (Open L)) (before after : DialView L) → AsksOne left sent address c said talk before after line
      → AsksAll left sent address (c ∷ []) (said ∷ []) talk before after line
  asks_one c said talk line before after one = (after, line, one, (refl, refl))

  -- a call goes over what the one before it left open
  asks_next : (c other : Call) (said more : WasSaid) (talk next line : Option (Open L)) (before between after : DialView L)
      → AsksAll left sent address (c ∷ []) (said ∷ []) talk before between next → AsksAll left sent address (other ∷ []) (more ∷ []) next between after line
      → AsksAll left sent address (c ∷ other ∷ []) (said ∷ more ∷ []) talk before after line
  asks_next c other said more talk next line before between after one two = (
    one.0,
    one.1,
    one.2,
    subst (λ (net : DialView L). AsksAll left sent address (other ∷ []) (more ∷ []) one.1 net after line) one.3.0
        (subst (λ (o : Option (Open L)). AsksAll left sent address (other ∷ []) (more ∷ []) o between after line) one.3.1 two),
  )

  module _ (name : List ℕ) (talk : Option (Open L)) (before : DialView L) where
    pub none_asked : AsksTwo left sent address name talk before before talk (Err faults.OutOfMemory)
    none_asked = record { said = []; asks = (refl, refl); ends = refl }

    pub source_asked : (source : Call) → source ≡ call.Source name → (line : Option (Open L)) (after : DialView L) (fault : ClientFault) → AsksOver left sent address source talk before after line (Err fault)
        → AsksTwo left sent address name talk before after line (Err fault)
    source_asked source is line after fault asked =
        let one = subst (λ (c : Call). AsksOver left sent address c talk before after line (Err fault)) is asked in
        record { said = one.said ∷ []; asks = one.asks; ends = (fault, refl, one.ends) }

    pub both_asked : (source log : Call) → source ≡ call.Source name → log ≡ call.Log name → (next line : Option (Open L)) (between after : DialView L) (first : List ℕ) (second result : Result (List ℕ) ClientFault)
        → AsksOver left sent address source talk before between next (Ok first) → AsksOver left sent address log next between after line second → Joins first second result
        → AsksTwo left sent address name talk before after line result
    both_asked source log is_source is_log next line between after first second result asked asked_next joins =
        let one = subst (λ (c : Call). AsksOver left sent address c talk before between next (Ok first)) is_source asked in
        let two = subst (λ (c : Call). AsksOver left sent address c next between after line second) is_log asked_next in
        record {
          said = one.said ∷ two.said ∷ [];
          asks = asks_next (call.Source name) (call.Log name) one.said two.said talk next line before between after one.asks two.asks;
          ends = (first, second, one.ends, two.ends, joins);
        }
