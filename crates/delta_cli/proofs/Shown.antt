-- From how asking ended to what was printed of it, and from an address to a host.
use Rattle.std.proofs.Common.{◌≡◌, ℕ, true, List, sym, subst, rules, tests}
use Rattle.std.specs.List.{All, list_all}
use Rattle.std.proofs.lemmas.List.Sums.{list_all-from_AllPass}
use Rattle.http_text.specs.Print.{is_visible}
use Rattle.command_tables.specs.Addresses.{IsVisible}
use Rattle.delta_cli.specs.Asked.{AskedEnd, StopsAsking}
use Rattle.command_tables.specs.Channels.{Channel}
use Rattle.command_tables.specs.declared.refusal.Refusal.{Refusal}
use Rattle.command_tables.specs.declared.refusal.Refusal.TheVariants as refusals

visible_is : (b : ℕ) → IsVisible b → is_visible b ≡ true
visible_is b is = search (rules, tests)

pub all_visible : (bytes : List ℕ) → All IsVisible bytes → list_all is_visible bytes ≡ true
all_visible bytes all = list_all-from_AllPass is_visible bytes (λ k d low. visible_is _ (all k d low))

module _ (Ends : AskedEnd → Type 0) (ended : AskedEnd) (has : Ends ended) (out out' : Channel) where
  has_end : (e : AskedEnd) → e ≡ ended → Ends e
  has_end e is = subst Ends (sym is) has

  pub stops_asking : (r : Refusal) → StopsAsking (λ e. e ≡ ended) out out' r → StopsAsking Ends out out' r
  stops_asking (refusals.Refused status body) stops = (has_end _ stops.0, stops.1)
  stops_asking refusals.LinkFailed stops = (has_end _ stops.0, stops.1)
  stops_asking refusals.CutShort stops = (has_end _ stops.0, stops.1)
  stops_asking (refusals.NotUnderstood at) stops = (has_end _ stops.0, stops.1)
  stops_asking refusals.OutOfMemory stops = (has_end _ stops.0, stops.1)
  stops_asking refusals.OutputFailed stops = (stops.0, (stops.1.0, has_end _ stops.1.1, stops.1.2))
  stops_asking other stops = absurd stops
