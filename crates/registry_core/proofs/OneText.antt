-- Sound events with one text are one event.
use Rattle.std.proofs.Common.{◌≡◌, ℕ, suc, zero, ◌<◌, ◌^◌, List, [], ◌∷◌, ◌++◌, length, get_or, drop, Option, Some, refl, sym, ◌∙◌, ap, arith}
use Rattle.std.specs.Fmt.{decimal}
use Rattle.std.proofs.lemmas.Fmt.{decimal_injective}
use Rattle.delta_base.specs.Ids.{number_of, text_of}
use Rattle.delta_base.specs.declared.id.Id.{Id}
use Rattle.log_base.specs.declared.source_info.SourceInfo.{SourceInfo}
use Rattle.registry_core.specs.Texts.{source_text, event_text}
use Rattle.registry_core.specs.Events.{IsSlot, IsSoundEvent, IsSource}
use Rattle.registry_core.specs.declared.event.Event.{Event}
use Rattle.registry_core.specs.declared.event.Event.TheVariants.{Created, Renamed, Removed}
use Rattle.delta_base.proofs.IdLemmas.{number_of-text_of}
use Rattle.registry_core.proofs.Parts.{one_cut, slot_part, id_part, name_part, slot-no_blank, id_text-no_blank, name-no_blank}

one_slot : (a b : ℕ) → IsSlot a → IsSlot b → decimal a ≡ decimal b → a ≡ b
one_slot a b is_a is_b same = decimal_injective a b (omega arith) (omega arith) same

one_id : (a b : ℕ) → a < 2 ^ 128 → b < 2 ^ 128 → text_of a ≡ text_of b → a ≡ b
one_id a b small_a small_b same =
    let both : Some a ≡ Some b = sym (number_of-text_of a small_a) ∙ ap number_of same ∙ number_of-text_of b small_b in
    cc

pub one_source : (a b : SourceInfo) → IsSource a → IsSource b → source_text a ≡ source_text b → a ≡ b
one_source a b sound_a sound_b same =
    let names = b.name ++ 32 ∷ b.uri in
    let behind = text_of b.id.0 ++ 32 ∷ names in
    let one = slot_part a sound_a (source_text b) (decimal b.slot) behind refl (slot-no_blank b.slot sound_b.slot) same in
    let two = id_part a sound_a behind (text_of b.id.0) names refl (id_text-no_blank b.id.0) one.1 in
    let three = name_part a sound_a names b.name b.uri refl (name-no_blank b.name sound_b.name.1) two.1 in
    let slot = one_slot a.slot b.slot sound_a.slot sound_b.slot one.0 in
    let id = one_id a.id.0 b.id.0 sound_a.id sound_b.id two.0 in
    ap (λ (n : ℕ). record { slot = n; id = a.id; name = a.name; uri = a.uri }) slot
    ∙ ap (λ (n : ℕ). record { slot = b.slot; id = record { 0 = n }; name = a.name; uri = a.uri }) id
    ∙ ap (λ (t : List ℕ). record { slot = b.slot; id = b.id; name = t; uri = a.uri }) three.0
    ∙ ap (λ (t : List ℕ). record { slot = b.slot; id = b.id; name = b.name; uri = t }) three.1

other_first : (c d : ℕ) (cs ds : List ℕ) → c ∷ cs ≡ d ∷ ds → c ≡ d
other_first c d cs ds same = ap (λ (t : List ℕ). get_or t 0 0) same

rests : (c d : ℕ) (cs ds : List ℕ) → c ∷ 32 ∷ cs ≡ d ∷ 32 ∷ ds → cs ≡ ds
rests c d cs ds same = ap (drop 2) same

pub one_event : (a b : Event) → IsSoundEvent a → IsSoundEvent b → event_text a ≡ event_text b → a ≡ b
one_event (Created a) (Created b) sound_a sound_b same = ap (λ (s : SourceInfo). Created s) (one_source a b sound_a sound_b (rests 67 67 (source_text a) (source_text b) same))
one_event (Created a) (Renamed slot name) sound_a sound_b same = absurd (omega (arith, other_first 67 82 (32 ∷ source_text a) (32 ∷ (decimal slot ++ 32 ∷ name)) same))
one_event (Created a) (Removed slot) sound_a sound_b same = absurd (omega (arith, other_first 67 68 (32 ∷ source_text a) (32 ∷ decimal slot) same))
one_event (Renamed slot name) (Created b) sound_a sound_b same = absurd (omega (arith, other_first 82 67 (32 ∷ (decimal slot ++ 32 ∷ name)) (32 ∷ source_text b) same))
one_event (Renamed slot name) (Renamed slot' name') sound_a sound_b same =
    let parts = one_cut (decimal slot) name (decimal slot') name' (slot-no_blank slot sound_a.0) (slot-no_blank slot' sound_b.0) (rests 82 82 (decimal slot ++ 32 ∷ name) (decimal slot' ++ 32 ∷ name') same) in
    ap (λ (n : ℕ). Renamed n name) (one_slot slot slot' sound_a.0 sound_b.0 parts.0) ∙ ap (λ (t : List ℕ). Renamed slot' t) parts.1
one_event (Renamed slot name) (Removed slot') sound_a sound_b same = absurd (omega (arith, other_first 82 68 (32 ∷ (decimal slot ++ 32 ∷ name)) (32 ∷ decimal slot') same))
one_event (Removed slot) (Created b) sound_a sound_b same = absurd (omega (arith, other_first 68 67 (32 ∷ decimal slot) (32 ∷ source_text b) same))
one_event (Removed slot) (Renamed slot' name) sound_a sound_b same = absurd (omega (arith, other_first 68 82 (32 ∷ decimal slot) (32 ∷ (decimal slot' ++ 32 ∷ name)) same))
one_event (Removed slot) (Removed slot') sound_a sound_b same = ap (λ (n : ℕ). Removed n) (one_slot slot slot' sound_a sound_b (rests 68 68 (decimal slot) (decimal slot') same))
