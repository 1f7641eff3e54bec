-- What the rule of a twin says at any moment.
use Rattle.std.proofs.Common.{◌≡◌, inl, inr, ⊎_elim, ℕ, ◌+◌, ◌<◌, ◌≤◌, List, [], ◌∷◌, ◌++◌, map, refl, sym, ◌∙◌, ap, subst, arith, Option, Some, None}
use mathlib.Core.Option as home
use mathlib.Core.Option.{some-injective}
use lib.ListN.{get_elem?}
use Rattle.atomic_table.specs.Table.{State}
use Rattle.turn_cell.specs.declared.view.Known.{Known}
use Rattle.turn_cell.specs.declared.view.Offered.{Offered}
use Rattle.turn_cell.specs.declared.view.Published.{Published}
use Rattle.turn_cell.specs.declared.view.Stage.TheVariants.{Inside}
use Rattle.turn_cell.specs.declared.view.Role.TheVariants.{Pass}
use Rattle.turn_cell.specs.declared.view.View.{View}
use Rattle.turn_cell.specs.Lanes.{IsKeptAt, tickets}
use Rattle.turn_cell.specs.Turns.{AreFresh, FitsRole, as_published, stage_of}
use Rattle.turn_cell.specs.Moments.{IsPublishedOrNone}
use Rattle.turn_cell.proofs.Moments as turn
use Rattle.turn_cell.proofs.Moments.{at_mapped, inside_some, some_is}
use Rattle.twin_cell.specs.declared.parts.Kept.{Kept}
use Rattle.twin_cell.specs.declared.parts.Kept.TheVariants.{Work, Items}
use Rattle.twin_cell.specs.Twins.{HoldsTwinRule, RuleOfTwin, IsWorkOf, IsListOf, as_offered, list_of}
use Rattle.twin_cell.specs.Moments.{WorkLiesIn, work_home, work_inside, ListLiesIn, list_home, list_inside, TwinStandsAt}

module _ {C X F W R : Type 0} (stands : W → List (Known C) → Type 0) (fault_count : W → ℕ) (doubt_of : W → Option X) (fixed : W → F) (entries : R → List (Known C)) (spare : R → ℕ) (fits : List (Known C) → Type 0)
    (first_work : W) (first_list : R) (seats : ℕ) (s : State (Kept W R) (View C X F)) (holds : HoldsTwinRule stands fault_count doubt_of fixed entries spare fits first_work first_list seats s)
  where
    abbrev rule : RuleOfTwin stands fault_count doubt_of fixed entries spare fits first_work first_list seats holds.cells s.views
    rule = holds.rule

    abbrev log : List (Known C)
    log = entries first_list ++ rule.later

    -- what the view of a pass is to the history
    fits_role : (seat : ℕ) (v : View C X F) → get_elem? s.views seat ≡ home.some v → v.role ≡ Pass → FitsRole (λ f. fits) (fixed first_work) s.views log holds.cells.faults seat v Pass
    fits_role = turn.fits_role (λ f. fits) (fixed first_work) s.views log holds.cells.faults rule.each_seat

    never_fresh : (seat : ℕ) (v : View C X F) → get_elem? s.views seat ≡ home.some v → v.role ≡ Pass → 0 < tickets v.stage + tickets v.list → AreFresh s.views → ⊥
    never_fresh = turn.never_fresh (λ f. fits) (fixed first_work) s.views log holds.cells.faults rule.each_seat

    record WorkShows (work : W) : Type 0 where
      stands_for : stands work log
      faults_are : holds.cells.faults ≤ fault_count work
      doubt_is : IsPublishedOrNone rule.doubt (doubt_of work)
      fixed_is : fixed work ≡ fixed first_work
      untouched : AreFresh s.views → work ≡ first_work

    abbrev WorkKept : home.Option (Kept W R) → Type 0
    WorkKept at = IsKeptAt (IsWorkOf stands fault_count doubt_of fixed (fixed first_work)) (map stage_of s.views) (as_published log holds.cells.faults rule.doubt) at

    abbrev ListKept : home.Option (Kept W R) → Type 0
    ListKept at = IsKeptAt (IsListOf entries spare) (map list_of s.views) (as_offered log rule.promised) at

    first_of : (a b : home.Option (Kept W R)) (rest : List (home.Option (Kept W R))) → get_elem? (a ∷ rest) 0 ≡ home.some b → a ≡ b
    first_of a b rest e = some-injective a b e

    second_of : (a b c : home.Option (Kept W R)) (rest : List (home.Option (Kept W R))) → get_elem? (a ∷ (b ∷ rest)) 1 ≡ home.some c → b ≡ c
    second_of a b c rest e = some-injective b c e

    abbrev S : Type 0
    S = Kept W R

    is_work : (a b : W) → ◌≡◌ {A = S} (Work a) (Work b) → a ≡ b
    is_work a b e = cc

    same_work : (a b : W) → ◌≡◌ {A = home.Option S} (home.some (Work a)) (home.some (Work b)) → a ≡ b
    same_work a b e = is_work a b (some-injective (Work a) (Work b) e)

    is_list : (a b : R) → ◌≡◌ {A = S} (Items a) (Items b) → a ≡ b
    is_list a b e = cc

    same_list : (a b : R) → ◌≡◌ {A = home.Option S} (home.some (Items a)) (home.some (Items b)) → a ≡ b
    same_list a b e = is_list a b (some-injective (Items a) (Items b) e)

    listed_some : (t : ℕ) (o : Offered C) (v : View C X F) → v.list ≡ Inside t o → 0 < tickets v.stage + tickets v.list
    listed_some t o v is = let one : tickets v.list ≡ 1 = ap tickets is in omega (arith, one)

    work_shows : (work : W) → WorkLiesIn stands fault_count doubt_of fixed work s → WorkShows work
    work_shows work (work_home is) =
        let at : holds.cells.work_home ≡ home.some (Work work) = first_of holds.cells.work_home (home.some (Work work)) (holds.cells.list_home ∷ []) (ap (λ (homes : List (home.Option (Kept W R))). get_elem? homes 0) (sym holds.homes_are) ∙ is) in
        let kept : WorkKept (home.some (Work work)) = subst WorkKept at rule.work_lane.kept in
        let there = kept.0 in
        let count = there.1 in
        record {
          stands_for = there.0;
          faults_are = omega (arith, count);
          doubt_is = inl there.2;
          fixed_is = there.3;
          untouched = λ fresh. same_work work first_work (sym at ∙ (rule.untouched fresh).0);
        }
    work_shows work (work_inside seat t v y at role stage stands_for more_faults doubt same_fixed) =
        let here : get_elem? (map stage_of s.views) seat ≡ home.some (Inside t y) = at_mapped stage_of s.views seat v at ∙ ap home.some stage in
        let same : y ≡ as_published log holds.cells.faults rule.doubt = (rule.work_lane.in_turn seat t y here).1 in
        let count : y.faults ≡ holds.cells.faults = ap (λ (p : Published C X). p.faults) same in
        let published : y.doubt ≡ rule.doubt = ap (λ (p : Published C X). p.doubt) same in
        record {
          stands_for = subst (λ (p : Published C X). stands work p.entries) same stands_for;
          faults_are = omega (arith, count, more_faults);
          doubt_is = ⊎_elim (λ (e : doubt_of work ≡ y.doubt). inl (e ∙ published)) (λ (e : doubt_of work ≡ None). inr e) doubt;
          fixed_is = some_is (fixed work) (fixed first_work) (sym same_fixed ∙ (fits_role seat v at role).0.4);
          untouched = λ fresh. absurd (never_fresh seat v at role (inside_some t y v stage) fresh);
        }

    record ListShows (list : R) : Type 0 where
      entries_are : entries list ≡ log
      untouched : AreFresh s.views → list ≡ first_list

    list_shows : (list : R) → ListLiesIn stands fault_count doubt_of fixed entries list s → ListShows list
    list_shows list (list_home is) =
        let at : holds.cells.list_home ≡ home.some (Items list) = second_of holds.cells.work_home holds.cells.list_home (home.some (Items list)) [] (ap (λ (homes : List (home.Option (Kept W R))). get_elem? homes 1) (sym holds.homes_are) ∙ is) in
        let kept : ListKept (home.some (Items list)) = subst ListKept at rule.list_lane.kept in
        record { entries_are = kept.0.0; untouched = λ fresh. same_list list first_list (sym at ∙ (rule.untouched fresh).1) }
    list_shows list (list_inside seat t v o at role stage same_entries) =
        let here : get_elem? (map list_of s.views) seat ≡ home.some (Inside t o) = at_mapped list_of s.views seat v at ∙ ap home.some stage in
        let same : o ≡ as_offered log rule.promised = (rule.list_lane.in_turn seat t o here).1 in
        record {
          entries_are = same_entries ∙ ap (λ (p : Offered C). p.entries) same;
          untouched = λ fresh. absurd (never_fresh seat v at role (listed_some t o v stage) fresh);
        }

    pub at_moment : (work : W) (list : R) → WorkLiesIn stands fault_count doubt_of fixed work s → ListLiesIn stands fault_count doubt_of fixed entries list s → TwinStandsAt stands fault_count doubt_of fixed entries spare fits first_work first_list seats work list s.views
    at_moment work list work_lies list_lies =
        let w = work_shows work work_lies in
        let l = list_shows list list_lies in
        record {
          stands_for = subst (stands work) (sym l.entries_are) w.stands_for;
          history = turn.history_at (λ f. fits) (fixed first_work) s.views log holds.cells.faults rule.each_seat (entries first_list) rule.later (entries list) seats (fault_count work) (doubt_of first_work) rule.doubt (doubt_of work)
              refl rule.later_ones rule.few rule.known l.entries_are w.faults_are w.doubt_is;
          same_fixed = w.fixed_is;
          test = subst fits (sym l.entries_are) rule.test;
          untouched = λ fresh. (w.untouched fresh, l.untouched fresh);
        }
