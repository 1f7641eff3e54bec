-- What a registry keeps, call by call.
use Rattle.std.proofs.Common.{◌≡◌, ℕ, ◌+◌, ◌^◌, ◌<◌, ◌≤◌, List, [], ◌∷◌, ◌++◌, length, Option, Some, None, sym, ◌∙◌, ap, subst, arith}
use Rattle.log_base.specs.declared.limits.TheConstants.{PAYLOAD_FRAME}
use Rattle.std.proofs.lemmas.List.{map-append}
use Rattle.disk_model.specs.declared.disk.Disk.{Ghosts}
use Rattle.disk_model.specs.Past.{EveryImage}
use Rattle.log_journal.specs.declared.journal.Journal.{Journal}
use Rattle.log_journal.specs.StandsFor.{StandsFor, StandsInDoubt, length_of, limit_of, disk_of}
use Rattle.log_journal.specs.Writing.{StandsWith}
use Rattle.log_journal.proofs.Steps.{either}
use Rattle.registry_core.specs.Texts.{slots_payload}
use Rattle.registry_core.specs.declared.event.Event.{Event}
use Rattle.registry_core.specs.Events.{IsNextEvent}
use Rattle.registry_core.specs.Texts.{event_text, registry_payloads, length_with}
use Rattle.registry_core.proofs.Tables.{length-push, registry-push, has_room}
use Rattle.log_registry.specs.Stands.{MayHoldEvents, StandsForRegistry, event_payload}
use Rattle.log_registry.specs.State.{JournalKeepsEvents}

pub payloads-push : (slots : ℕ) (events : List Event) (event : Event) → registry_payloads slots (events ++ event ∷ []) ≡ registry_payloads slots events ++ event_text event ∷ []
payloads-push slots events event = ap (λ (ts : List (List ℕ)). slots_payload slots ∷ ts) (map-append event_text events (event ∷ []))

pub short_text : (slots : ℕ) (events : List Event) (event : Event) → IsNextEvent slots events event → length (event_text event) < 2 ^ 32
unfolding length_with
short_text slots events event next = let fits = has_room slots events event next.1 in omega (arith, fits)

-- ---- images

module _ {D : Type 0} {disks : Ghosts D} where
  pub each_holds : (journal : Journal D disks) (slots : ℕ) (events : List Event) (doubt : Option Event) → StandsWith journal 0 (registry_payloads slots events) (event_payload doubt) → disks.tells → EveryImage (disks.past (disk_of journal)) (MayHoldEvents slots events doubt)
  each_holds journal slots events None stands told = (stands.1 told).each
  each_holds journal slots events (Some doubt) stands told = λ image left.
      let all = stands.1 told in
      either (length_of journal) 0 (registry_payloads slots events) (event_text doubt) all.doubt_sized all.few image all.sized (all.each image left)

  pub stands_for_registry : (journal : Journal D disks) (slots : ℕ) (events : List Event) (doubt : Option Event) → JournalKeepsEvents journal slots events doubt → disks.tells → StandsForRegistry (disks.past (disk_of journal)) slots events doubt
  stands_for_registry journal slots events doubt kept told = record { each = each_holds journal slots events doubt kept.stands told; without = kept.without; having = kept.having }

  -- ---- events

  module _ (journal new : Journal D disks) (slots : ℕ) (events : List Event) (doubt : Option Event) (kept : JournalKeepsEvents journal slots events doubt) where
    module _ (event : Event) (next : IsNextEvent slots events event) (payload : List ℕ) (payload_is : payload ≡ event_text event) where
      pub room : length_of journal + PAYLOAD_FRAME + length payload ≤ limit_of journal
      unfolding length_with
      room = let fits = has_room slots events event next.1 in omega (arith, fits, kept.length_is, kept.limit_is, ap length payload_is)

      -- it was added
      pub kept_done : StandsWith new 0 (registry_payloads slots events ++ payload ∷ []) None → length_of new ≡ length_of journal + (PAYLOAD_FRAME + length payload) → limit_of new ≡ limit_of journal → JournalKeepsEvents new slots (events ++ event ∷ []) None
      unfolding length_with
      kept_done stands length_is limit_is =
          let more = registry-push slots events event kept.without next in
          let length_more = length-push slots events event in
          record {
            stands = subst (λ (ps : List (List ℕ)). StandsFor new 0 ps) (ap (λ (text : List ℕ). registry_payloads slots events ++ text ∷ []) payload_is ∙ sym (payloads-push slots events event)) stands;
            without = more;
            having = more;
            length_is = omega (arith, length_is, kept.length_is, length_more, ap length payload_is);
            limit_is = limit_is ∙ kept.limit_is;
          }

      -- the gate was left in doubt
      pub kept_in_doubt : StandsInDoubt new 0 (registry_payloads slots events) payload → length_of new ≡ length_of journal + 0 → limit_of new ≡ limit_of journal → JournalKeepsEvents new slots events (Some event)
      kept_in_doubt stands length_is limit_is = record {
        stands = subst (λ (text : List ℕ). StandsInDoubt new 0 (registry_payloads slots events) text) payload_is stands;
        without = kept.without;
        having = registry-push slots events event kept.without next;
        length_is = omega (arith, length_is, kept.length_is);
        limit_is = limit_is ∙ kept.limit_is;
      }
