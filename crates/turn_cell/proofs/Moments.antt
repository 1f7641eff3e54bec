-- What the rule of a turn says at any moment.
use Rattle.std.proofs.Common.{◌≡◌, inl, inr, ⊎_elim, ℕ, zero, suc, ◌+◌, ◌<◌, ◌≤◌, List, [], ◌∷◌, ◌++◌, map, length, refl, sym, ◌∙◌, ap, subst, arith, Option, Some, None}
use mathlib.Core.Option as home
use mathlib.Core.Option.{some-injective}
use lib.ListN.{get_elem?}
use Rattle.atomic_table.specs.Table.{State}
use Rattle.turn_cell.specs.declared.chained.Chained.{Ghosts}
use Rattle.turn_cell.specs.declared.view.Known.{Known}
use Rattle.turn_cell.specs.declared.view.Published.{Published}
use Rattle.turn_cell.specs.declared.view.Stage.TheVariants.{Inside}
use Rattle.turn_cell.specs.declared.view.Role.{Role}
use Rattle.turn_cell.specs.declared.view.Role.TheVariants.{Pass}
use Rattle.turn_cell.specs.declared.view.View.{View}
use Rattle.turn_cell.specs.Lanes.{IsKeptAt, tickets}
use Rattle.turn_cell.specs.Turns.{IsIn, AllOf, AreFresh, FitsRole, IsKnown, Knew, Rule, HoldsRule, StandsForPublished, as_published, stage_of, HasFailed, IsFailedOf}
use Rattle.turn_cell.specs.Sights.{Sight, Made, AreAll, ComesFrom}
use Rattle.turn_cell.specs.Sharing.{HasSeen, IsClosedOf}
use Rattle.turn_cell.specs.Moments.{IsPublishedOrNone, HistoryStandsAt, ArePassesAt, LiesInTurn, lies_home, lies_inside, ValueStandsAt}
use Rattle.turn_cell.proofs.Views.{all_map, map_at}

-- ---- lists by places

pub at_mapped : {A B : Type 0} (f : A → B) (xs : List A) (j : ℕ) (a : A) → get_elem? xs j ≡ home.some a → get_elem? (map f xs) j ≡ home.some (f a)
at_mapped f [] j a e = let c = e in cc
at_mapped f (x ∷ xs) zero a e = ap (λ y. home.some (f y)) (some-injective x a e)
at_mapped f (x ∷ xs) (suc j) a e = at_mapped f xs j a e

all_at : {A : Type 0} (P : A → Type 0) (xs : List A) → ((j : ℕ) (x : A) → get_elem? xs j ≡ home.some x → P x) → AllOf P xs
all_at P [] each = tt
all_at P (x ∷ xs) each = (each zero x refl, all_at P xs (λ j y at. each (suc j) y at))

at_all : {A : Type 0} (P : A → Type 0) (xs : List A) (j : ℕ) (x : A) → AllOf P xs → get_elem? xs j ≡ home.some x → P x
at_all P [] j x all at = let c = at in cc
at_all P (y ∷ xs) zero x all at = subst P (some-injective y x at) all.0
at_all P (y ∷ xs) (suc j) x all at = at_all P xs j x all.1 at

is_in : {A : Type 0} (xs : List A) (j : ℕ) (x : A) → get_elem? xs j ≡ home.some x → IsIn x xs
is_in [] j x at = let c = at in cc
is_in (y ∷ xs) zero x at = inl (sym (some-injective y x at))
is_in (y ∷ xs) (suc j) x at = inr (is_in xs j x at)

some_at : {A : Type 0} (xs : List A) (j : ℕ) → j < length xs → (x : A) × (get_elem? xs j ≡ home.some x)
some_at [] j low = absurd (omega (arith, low))
some_at (x ∷ xs) zero low = (x, refl)
some_at (x ∷ xs) (suc j) low = some_at xs j (omega (arith, low))

-- ---- the views of a cell

module _ {C X F : Type 0} (fits : F → List (Known C) → Type 0) (part : F) (views : List (View C X F)) (log : List (Known C)) (faults : ℕ)
    (each_seat : (seat : ℕ) (v : View C X F) → get_elem? views seat ≡ home.some v → FitsRole fits part views log faults seat v v.role)
  where
    -- what the view of a pass is to the history
    pub fits_role : (seat : ℕ) (v : View C X F) → get_elem? views seat ≡ home.some v → v.role ≡ Pass → FitsRole fits part views log faults seat v Pass
    fits_role seat v at role = subst (λ (r : Role). FitsRole fits part views log faults seat v r) role (each_seat seat v at)

    -- a seat in a turn has drawn a ticket
    pub never_fresh : (seat : ℕ) (v : View C X F) → get_elem? views seat ≡ home.some v → v.role ≡ Pass → 0 < tickets v.stage + tickets v.list → AreFresh views → ⊥
    never_fresh seat v at role some fresh = let most = (fits_role seat v at role).0.6 in let none = (fresh seat v at).0 in absurd (omega (arith, some, most, none))

    -- what passes know of a value's history, its faults and its doubt
    pub history_at : (first later new : List (Known C)) (seats more_faults : ℕ) (first_doubt old_doubt doubt : Option X) → log ≡ first ++ later → AllOf (λ (e : Known C). (0 < e.by) × (e.by ≤ length views)) later → length views ≤ seats
        → IsKnown first_doubt views old_doubt → new ≡ log → faults ≤ more_faults → IsPublishedOrNone old_doubt doubt → HistoryStandsAt first first_doubt seats new more_faults doubt views
    history_at first later new seats more_faults first_doubt old_doubt doubt parts later_ones few known same most behind = record {
      continues = (later, same ∙ parts, all_map (λ (e : Known C). (0 < e.by) × (e.by ≤ length views)) (λ (e : Known C). (0 < e.by) × (e.by ≤ seats)) (λ e by. let number = by.1 in (by.0, omega (arith, number, few))) later later_ones);
      passes = λ seat v at role. let fit = fits_role seat v at role in let own = fit.0.3 in
          (subst (λ (h : List (Known C)). Knew h v.number v.seen v.mine) (sym same) (fit.0.1, fit.0.2), omega (arith, own, most));
      known = ⊎_elim (λ (e : doubt ≡ old_doubt). subst (λ (d : Option X). IsKnown first_doubt views d) (sym e) known)
          (λ (e : doubt ≡ None). subst (λ (d : Option X). IsKnown first_doubt views d) (sym e) tt) behind;
    }

pub inside_some : {C X F : Type 0} (t : ℕ) (y : Published C X) (v : View C X F) → v.stage ≡ Inside t y → 0 < tickets v.stage + tickets v.list
inside_some t y v is = let one : tickets v.stage ≡ 1 = ap tickets is in omega (arith, one)

pub some_is : {A : Type 0} (a b : A) → Some a ≡ Some b → a ≡ b
some_is a b e = cc

module _ {C X F V : Type 0} (entries : V → List (Known C)) (fault_count : V → ℕ) (doubt_of : V → Option X) (fixed : V → F) (fits : F → List (Known C) → Type 0)
    (origin : V) (seats : ℕ) (s : State (Option V) (View C X F)) (holds : HoldsRule entries fault_count doubt_of fixed fits origin seats s)
  where
    abbrev rule : Rule entries fault_count doubt_of fixed fits origin seats holds.ticket holds.serving holds.count holds.faults holds.at_home s.views
    rule = holds.rule

    abbrev log : List (Known C)
    log = entries origin ++ rule.later

    record Shows (value : V) : Type 0 where
      entries_are : entries value ≡ log
      faults_are : holds.faults ≤ fault_count value
      doubt_is : IsPublishedOrNone rule.doubt (doubt_of value)
      fixed_is : fixed value ≡ fixed origin
      untouched : AreFresh s.views → value ≡ origin

    abbrev Slot : Type 0
    Slot = home.Option (Option V)

    abbrev Kept : Slot → Type 0
    Kept at = IsKeptAt (StandsForPublished entries fault_count doubt_of fixed (fixed origin)) (map stage_of s.views) (as_published log holds.faults rule.doubt) at

    same_value : (a b : V) → ◌≡◌ {A = Slot} (home.some (Some a)) (home.some (Some b)) → a ≡ b
    same_value a b e = some_is a b (some-injective (Some a) (Some b) e)

    first_of : (a b : Slot) → get_elem? (a ∷ []) 0 ≡ home.some b → a ≡ b
    first_of a b e = some-injective a b e

    shows : (value : V) → LiesInTurn entries fault_count doubt_of fixed value s → Shows value
    shows value (lies_home is) =
        let at : holds.at_home ≡ home.some (Some value) = first_of holds.at_home (home.some (Some value)) (ap (λ (homes : List Slot). get_elem? homes 0) (sym holds.homes_are) ∙ is) in
        let kept : Kept (home.some (Some value)) = subst Kept at rule.lane.kept in
        let there = kept.0 in
        let count = there.1 in
        record {
          entries_are = there.0;
          faults_are = omega (arith, count);
          doubt_is = inl there.2;
          fixed_is = there.3;
          untouched = λ fresh. same_value value origin (sym at ∙ rule.untouched fresh);
        }
    shows value (lies_inside seat t v y at role stage same_entries more_faults doubt same_fixed) =
        let here : get_elem? (map stage_of s.views) seat ≡ home.some (Inside t y) = at_mapped stage_of s.views seat v at ∙ ap home.some stage in
        let same : y ≡ as_published log holds.faults rule.doubt = (rule.lane.in_turn seat t y here).1 in
        let count : y.faults ≡ holds.faults = ap (λ (p : Published C X). p.faults) same in
        let published : y.doubt ≡ rule.doubt = ap (λ (p : Published C X). p.doubt) same in
        record {
          entries_are = same_entries ∙ ap (λ (p : Published C X). p.entries) same;
          faults_are = omega (arith, count, more_faults);
          doubt_is = ⊎_elim (λ (e : doubt_of value ≡ y.doubt). inl (e ∙ published)) (λ (e : doubt_of value ≡ None). inr e) doubt;
          fixed_is = some_is (fixed value) (fixed origin) (sym same_fixed ∙ (fits_role fits (fixed origin) s.views log holds.faults rule.each_seat seat v at role).0.4);
          untouched = λ fresh. absurd (never_fresh fits (fixed origin) s.views log holds.faults rule.each_seat seat v at role (inside_some t y v stage) fresh);
        }

    pub at_moment : (value : V) → LiesInTurn entries fault_count doubt_of fixed value s → ValueStandsAt entries fault_count doubt_of fixed fits origin seats value s.views
    at_moment value lies =
        let w = shows value lies in
        record {
          history = history_at fits (fixed origin) s.views log holds.faults rule.each_seat (entries origin) rule.later (entries value) seats (fault_count value) (doubt_of origin) rule.doubt (doubt_of value)
              refl rule.later_ones rule.few rule.known w.entries_are w.faults_are w.doubt_is;
          same_fixed = w.fixed_is;
          test = subst (fits (fixed origin)) (sym w.entries_are) rule.test;
          untouched = w.untouched;
        }

-- ---- the passes of a cell

module _ {C X F : Type 0} (passes : List (Sight C X F)) where
  abbrev IsStill : Sight C X F → Type 0
  IsStill p = (p.view.role ≡ Pass) × (p.view.past ≡ [])

  abbrev Views : List (View C X F)
  Views = map (λ (p : Sight C X F). p.view) passes

  known_comes : (first d : Option X) → AllOf IsStill passes → IsKnown first Views d → ComesFrom first passes d
  known_comes first None are known = tt
  known_comes first (Some c) are known = ⊎_elim (λ (e : first ≡ Some c). inl e)
      (λ (z : (seat : ℕ) × (v : View C X F) × (get_elem? Views seat ≡ home.some v) × HasFailed c v).
      let p = map_at (λ (x : Sight C X F). x.view) passes z.0 z.1 z.2 in
      let is = at_all IsStill passes z.0 p.0 are p.1 in
      let left : HasFailed c p.0.view = subst (λ (w : View C X F). HasFailed c w) (sym p.2) z.3 in
      inr (
        p.0,
        is_in passes z.0 p.0 p.1,
        ⊎_elim (λ (i : IsIn c p.0.view.failed). i)
            (λ (i : IsFailedOf c p.0.view.past). absurd (subst (IsFailedOf c) is.1 i)) left,
      )) known

  -- passes that never drew a ticket
  are_fresh : AllOf IsStill passes → AllOf (λ (p : Sight C X F). p.view.turns ≡ 0) passes → AreFresh Views
  are_fresh are none = λ seat v at.
      let p = map_at (λ (x : Sight C X F). x.view) passes seat v at in
      let is = at_all IsStill passes seat p.0 are p.1 in
      let zero_turns = at_all (λ (x : Sight C X F). x.view.turns ≡ 0) passes seat p.0 none p.1 in
      let past : v.past ≡ [] = ap (λ (w : View C X F). w.past) (sym p.2) ∙ is.1 in
      (ap (λ (w : View C X F). w.turns) (sym p.2) ∙ zero_turns, subst (AllOf (λ p. p.turns ≡ 0)) (sym past) tt)

  viewed : (views : List (View C X F)) → ArePassesAt views passes → (j : ℕ) (p : Sight C X F) → get_elem? passes j ≡ home.some p → get_elem? views j ≡ home.some p.view
  viewed views are j p got = subst (λ (vs : List (View C X F)). get_elem? vs j ≡ home.some p.view) (sym are.0) (at_mapped (λ (x : Sight C X F). x.view) passes j p got)

  still : (views : List (View C X F)) → ArePassesAt views passes → (j : ℕ) (p : Sight C X F) → get_elem? passes j ≡ home.some p → p.view.role ≡ Pass
  still views are j p got = (at_all IsStill passes j p are.1 got).0

  -- where there are as many passes as seats, none is missing
  pub all_there : (seats : ℕ) (views : List (View C X F)) → ((seat : ℕ) (v : View C X F) → get_elem? views seat ≡ home.some v → v.role ≡ Pass → v.number ≡ seat + 1) → seats ≤ length passes → ArePassesAt views passes → AreAll seats passes
  all_there seats views numbered enough are = one
    where
      one : (n : ℕ) → 0 < n → n ≤ seats → (p : Sight C X F) × IsIn p passes × (p.view.number ≡ n)
      one zero positive high = absurd (omega (arith, positive))
      one (suc k) positive high =
          let p = some_at passes k (omega (arith, high, enough)) in
          let number = numbered k p.0.view (viewed views are k p.0 p.1) (still views are k p.0 p.1) in
          (p.0, is_in passes k p.0 p.1, omega (arith, number))

  -- a value and its passes at a moment are as closing would tell
  pub closed_at : {V : Type 0} (chained : Ghosts V C X F) (made : Made V) (value : V) (views : List (View C X F)) → chained.stands value
      → HistoryStandsAt (chained.entries made.origin) (chained.doubt made.origin) made.seats (chained.entries value) (chained.fault_count value) (chained.doubt value) views
      → chained.fixed value ≡ chained.fixed made.origin → (AreFresh views → value ≡ made.origin) → ArePassesAt views passes → IsClosedOf chained made passes value
  closed_at chained made value views stands at same_fixed untouched are =
      let each = λ (j : ℕ) (p : Sight C X F) (got : get_elem? passes j ≡ home.some p). at.passes j p.view (viewed views are j p got) (still views are j p got) in
      record {
        stands = stands;
        history = at.continues;
        seen = all_at (HasSeen chained value) passes (λ j p got. (each j p got).0);
        faults = all_at (λ (p : Sight C X F). p.view.own_faults ≤ chained.fault_count value) passes (λ j p got. (each j p got).1);
        doubt = known_comes (chained.doubt made.origin) (chained.doubt value) are.1 (subst (λ (vs : List (View C X F)). IsKnown (chained.doubt made.origin) vs (chained.doubt value)) are.0 at.known);
        fixed = same_fixed;
        untouched = λ none. untouched (subst (λ (vs : List (View C X F)). AreFresh vs) (sym are.0) (are_fresh are.1 none));
      }
