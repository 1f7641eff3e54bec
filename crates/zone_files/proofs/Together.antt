-- What any two images of a zone's files hold together.
use Rattle.std.proofs.Common.{◌≡◌, ◌⊎◌, inl, inr, ℕ, ◌+◌, Bool, true, false, cond, List, [], ◌∷◌, Option, Some, sym, ◌∙◌, ap, subst, arith}
use Rattle.std.specs.Prelude.{not}
use Rattle.std.proofs.lemmas.Bool.Decides.{nat_tests}
use Rattle.log_journal.specs.File.{Holds}
use Rattle.log_journal.specs.declared.form.Form.TheVariants.{New}
use Rattle.log_journal.proofs.OneReading.{one_list}
use Rattle.zone_files.specs.Generation.{number_of, IsInGeneration, PayloadsShow, is_later}
use Rattle.zone_files.specs.Pair.{HoldTogether, IsBehind, MayBeOther, HoldByRole}
use Rattle.zone_files.proofs.Generations.{one_generation, shown_by}

pub later_next : (g : ℕ) → is_later (Some g) (Some (g + 1)) ≡ true
later_next g = grind (arith, nat_tests)

pub later_before : (g : ℕ) → is_later (Some (g + 1)) (Some g) ≡ false
later_before g = grind (arith, nat_tests)

module _ {B : Type 0} (Stands : ℕ → List (List ℕ) → B → Type 0) where
  -- the second file is current
  second_current : (first second : List ℕ) (of_first : Option ℕ) (g : ℕ) (payloads : List (List ℕ)) (held : B)
      → IsInGeneration first false of_first → IsInGeneration second true (Some g) → is_later of_first (Some g) ≡ true → Holds second (number_of true) payloads → Stands g payloads held → HoldTogether Stands first second held
  second_current first second of_first g payloads held is_first is_second later holds stands = record {
    of_first = of_first;
    of_second = Some g;
    first_is = is_first;
    second_is = is_second;
    generation = g;
    payloads = payloads;
    in_generation = ap (λ (b : Bool). cond b (Some g) of_first) later;
    holds = subst (λ (b : Bool). Holds (cond b second first) (number_of b) payloads) (sym later) holds;
    stands = stands;
  }

  -- the first is
  first_current : (first second : List ℕ) (of_second : Option ℕ) (g : ℕ) (payloads : List (List ℕ)) (held : B)
      → IsInGeneration first false (Some g) → IsInGeneration second true of_second → is_later (Some g) of_second ≡ false → Holds first (number_of false) payloads → Stands g payloads held → HoldTogether Stands first second held
  first_current first second of_second g payloads held is_first is_second earlier holds stands = record {
    of_first = Some g;
    of_second = of_second;
    first_is = is_first;
    second_is = is_second;
    generation = g;
    payloads = payloads;
    in_generation = ap (λ (b : Bool). cond b of_second (Some g)) earlier;
    holds = subst (λ (b : Bool). Holds (cond b second first) (number_of b) payloads) (sym earlier) holds;
    stands = stands;
  }

  -- where the other file is behind, the current one decides
  pub current_decides : (second : Bool) (g : ℕ) (payloads : List (List ℕ)) (held : B) (current other : List ℕ)
      → Holds current (number_of second) payloads → PayloadsShow second payloads (Some g) → Stands g payloads held → IsBehind second g other → HoldByRole Stands second current other held
  current_decides true g payloads held current other holds shows stands behind =
      second_current other current behind.0 g payloads held behind.1 (shown_by current true payloads (Some g) holds shows) behind.2 holds stands
  current_decides false g payloads held current other holds shows stands behind =
      first_current current other behind.0 g payloads held (shown_by current false payloads (Some g) holds shows) behind.1 behind.2 holds stands

  -- where the other one holds the next checkpoint alone, that decides
  pub next_decides : (second : Bool) (g : ℕ) (payloads : List (List ℕ)) (next : List ℕ) (held : B) (current other : List ℕ)
      → Holds current (number_of second) payloads → PayloadsShow second payloads (Some g) → Holds other (number_of (not second)) (next ∷ []) → PayloadsShow (not second) (next ∷ []) (Some (g + 1)) → Stands (g + 1) (next ∷ []) held → HoldByRole Stands second current other held
  next_decides true g payloads next held current other holds shows alone shows_next stands =
      first_current other current (Some g) (g + 1) (next ∷ []) held (shown_by other false (next ∷ []) (Some (g + 1)) alone shows_next) (shown_by current true payloads (Some g) holds shows) (later_before g) alone stands
  next_decides false g payloads next held current other holds shows alone shows_next stands =
      second_current current other (Some g) (g + 1) (next ∷ []) held (shown_by current false payloads (Some g) holds shows) (shown_by other true (next ∷ []) (Some (g + 1)) alone shows_next) (later_next g) alone stands

  -- any two images hold what the current one's payloads stand for, or what the next checkpoint is of
  pub any_two : (second : Bool) (g : ℕ) (payloads : List (List ℕ)) (next : List ℕ) (held before : B) (current other : List ℕ)
      → Holds current (number_of second) payloads → PayloadsShow second payloads (Some g) → Stands g payloads held → MayBeOther second g next other → PayloadsShow (not second) (next ∷ []) (Some (g + 1)) → Stands (g + 1) (next ∷ []) before
      → HoldByRole Stands second current other held ⊎ HoldByRole Stands second current other before
  any_two second g payloads next held before current other holds shows stands (inl behind) shows_next stands_next =
      inl (current_decides second g payloads held current other holds shows stands behind)
  any_two second g payloads next held before current other holds shows stands (inr alone) shows_next stands_next =
      inr (next_decides second g payloads next before current other holds shows alone shows_next stands_next)

  -- two images hold one thing
  pub one_held : (one : (g : ℕ) (payloads : List (List ℕ)) (a b : B) → Stands g payloads a → Stands g payloads b → a ≡ b)
      → (first second : List ℕ) (a b : B) → HoldTogether Stands first second a → HoldTogether Stands first second b → a ≡ b
  one_held one first second a b is_a is_b =
      let firsts = one_generation first false is_a.of_first is_b.of_first is_a.first_is is_b.first_is in
      let seconds = one_generation second true is_a.of_second is_b.of_second is_a.second_is is_b.second_is in
      let roles : is_later is_a.of_first is_a.of_second ≡ is_later is_b.of_first is_b.of_second = ap (λ (o : Option ℕ). is_later o is_a.of_second) firsts ∙ ap (λ (o : Option ℕ). is_later is_b.of_first o) seconds in
      let role : Bool = is_later is_b.of_first is_b.of_second in
      let holds_a : Holds (cond role second first) (number_of role) is_a.payloads = subst (λ (b : Bool). Holds (cond b second first) (number_of b) is_a.payloads) roles is_a.holds in
      let lists : is_a.payloads ≡ is_b.payloads = one_list New (cond role second first) (number_of role) is_a.payloads is_b.payloads holds_a is_b.holds in
      let in_a : cond role is_b.of_second is_b.of_first ≡ Some is_a.generation = subst (λ (o : Option ℕ). cond role o is_b.of_first ≡ Some is_a.generation) seconds (subst (λ (o : Option ℕ). cond role is_a.of_second o ≡ Some is_a.generation) firsts (subst (λ (b : Bool). cond b is_a.of_second is_a.of_first ≡ Some is_a.generation) roles is_a.in_generation)) in
      let somes : Some is_a.generation ≡ Some is_b.generation = sym in_a ∙ is_b.in_generation in
      let generations : is_a.generation ≡ is_b.generation = cc in
      one is_b.generation is_b.payloads a b (subst (λ (n : ℕ). Stands n is_b.payloads a) generations (subst (λ (ps : List (List ℕ)). Stands is_a.generation ps a) lists is_a.stands)) is_b.stands
