-- Each step of a twin keeps its rule, and so does a seat that is made or taken in.
use Rattle.std.proofs.Common.{◌≡◌, ◌≢◌, ℕ, ◌+◌, ◌%◌, ◌^◌, ◌<◌, ◌≤◌, ◌⊎◌, List, [], ◌∷◌, ◌++◌, map, length, get_or, set, sym, refl, ap, ◌∙◌, subst, ⊎_elim, arith, le_refl, length-set, Option, Some, None, inl, inr, append_assoc, append-nil, length-append}
use Rattle.std.proofs.lemmas.List.{length-map}
use mathlib.Core.Option as home
use mathlib.Core.Logic.{dite}
use native.Mathlib.Decide.{ℕ_discrete}
use lib.ListN.{get_elem?}
use lib.Seq.{map-set}
use mathlib.Core.List.{IsPrefix, map-append}
use Rattle.atomic_table.specs.Table.{State, Me, Act, keeps, takes, gives, step, stepped, rest, carried_after, Valid, Allows, Splits, Joins}
use Rattle.atomic_table.proofs.Lists.{at_set, set_again, at_map, at_longer, set_else}
use Rattle.turn_cell.specs.declared.view.Known.{Known}
use Rattle.turn_cell.specs.declared.view.Published.{Published}
use Rattle.turn_cell.specs.declared.view.Offered.{Offered}
use Rattle.turn_cell.specs.declared.view.Stage.{Stage}
use Rattle.turn_cell.specs.declared.view.Stage.TheVariants.{Outside, Waiting, Inside}
use Rattle.turn_cell.specs.declared.view.TakenIn.{TakenIn}
use Rattle.turn_cell.specs.declared.view.Role.{Role}
use Rattle.turn_cell.specs.declared.view.Role.TheVariants.{Pass, Spent}
use Rattle.turn_cell.specs.declared.view.View.{View}
use Rattle.turn_cell.specs.Lanes.{Lane, tickets}
use Rattle.turn_cell.specs.Turns.{IsIn, AllOf, as_published, IsFailedOf, FitsPast, Knows, Leads, FitsRole, stage_of, places_by, own_count, Adds, IsKnown, dealt, newcomer, taken_in, spent, IsSpentAt, IsFresh}
use Rattle.turn_cell.specs.Steps.{at_stage, InTurn}
use Rattle.turn_cell.proofs.LaneSteps as lanes
use Rattle.turn_cell.proofs.Doubts.{Apart, adds, own_below, known_after, same_stay}
use Rattle.turn_cell.proofs.Views.{prefix_refl, still_leads, others_fit, known_still, view_there, all_map, all_append, places_beside, same_view, no_places, not_spent, last_at, at_below}
use Rattle.twin_cell.specs.declared.parts.Kept.{Kept}
use Rattle.twin_cell.specs.declared.parts.Kept.TheVariants.{Work, Items, Nothing}
use Rattle.twin_cell.specs.Twins.{Cells, words_of, homes_of, as_offered, list_of, IsPromised, IsListOf, IsWorkOf, IsBacked, RuleOfTwin, HoldsTwinRule}
use Rattle.twin_cell.specs.Steps.{InList, Agrees, at_list, in_work, DrawsWork, DrawsList, HandsOnWork, CountsList, LooksList, published, PublishesList, HandsOnList, LooksWork, reported, ReportsWork}

module _ {C X F W R : Type 0} (stands : W → List (Known C) → Type 0) (fault_count : W → ℕ) (doubt_of : W → Option X) (fixed : W → F) (entries : R → List (Known C)) (spare : R → ℕ) (fits : List (Known C) → Type 0) (work : W) (list : R) (seats : ℕ) where
  abbrev pub V : Type 0
  V = View C X F

  abbrev pub S : Type 0
  S = Kept W R

  abbrev pub M : Type 0
  M = Me S V

  abbrev pub H : State S V → Type 0
  H = HoldsTwinRule stands fault_count doubt_of fixed entries spare fits work list seats

  abbrev pub Ruled : Cells S → List V → Type 0
  Ruled = RuleOfTwin stands fault_count doubt_of fixed entries spare fits work list seats

  abbrev pub opening : List (Known C)
  opening = entries list

  abbrev pub WorkKind : Published C X → S → Type 0
  WorkKind = IsWorkOf stands fault_count doubt_of fixed (fixed work)

  abbrev pub ListKind : Offered C → S → Type 0
  ListKind = IsListOf entries spare

  abbrev pub Backs : Option F → List (Known C) → Type 0
  Backs = IsBacked stands fixed

  abbrev pub Fit : List V → List (Known C) → ℕ → ℕ → V → Role → Type 0
  Fit vs log q = FitsRole (λ f. fits) (fixed work) vs log q

  abbrev pub Knowing : List (Known C) → ℕ → ℕ → V → Type 0
  Knowing log q = Knows (λ f. fits) (fixed work) log q

  abbrev pub state : List ℕ → List (home.Option S) → List V → State S V
  state ws hs vs = record { words = ws; homes = hs; views = vs }

  -- a step on the parts of the state
  abbrev pub Goes : ℕ → M → ℕ → (ℕ → ℕ) → (ℕ → M → Type 0) → List ℕ → List (home.Option S) → List V → Type 0
  Goes id me i f then ws hs vs = (w : V) × (a : Act S) × Valid hs me.1 a × H (stepped (state ws hs vs) i (f (get_or ws i 0)) id me.1 w a) × then (get_or ws i 0) (w, carried_after me.1 a)

  pub moves : (slots id : ℕ) (me : M) (i : ℕ) (f : ℕ → ℕ) (then : ℕ → M → Type 0)
      → ((c : Cells S) (vs : List V) → Ruled c vs → get_elem? vs id ≡ home.some me.0 → Goes id me i f then (words_of c) (homes_of c) vs)
      → Allows H slots id me i f then
  moves slots id me i f then go st k _ at _ =
      let P : List ℕ × List (home.Option S) → Type 0 = λ z. Goes id me i f then z.0 z.1 st.views in
      subst P (λ j. (sym k.words_are j, sym k.homes_are j)) (go k.cells st.views k.rule at)

  pub holds : (c : Cells S) (vs : List V) → Ruled c vs → H (state (words_of c) (homes_of c) vs)
  holds c vs r = record { cells = c; words_are = refl; homes_are = refl; rule = r }

  module _ (c : Cells S) (vs : List V) (r : Ruled c vs) (id : ℕ) (v : V) (at : get_elem? vs id ≡ home.some v) (is_pass : v.role ≡ Pass) where
    abbrev pub log : List (Known C)
    log = opening ++ r.later

    abbrev pub stages : List (Stage (Published C X))
    stages = map stage_of vs

    abbrev pub lists : List (Stage (Offered C))
    lists = map list_of vs

    abbrev pub here : Published C X
    here = as_published log c.faults r.doubt

    abbrev pub offer : Offered C
    offer = as_offered log r.promised

    abbrev pub fit : Fit vs log c.faults id v Pass
    fit = subst (Fit vs log c.faults id v) is_pass (r.each_seat id v at)

    -- a step of the seat
    goes_on : (w : V) (later : List (Known C)) (c' : Cells S) (d' : Option X) (promised : ℕ) → w.role ≡ Pass → IsPrefix log (opening ++ later) → ((k : ℕ) → k ≢ id + 1 → places_by k (opening ++ later) ≡ places_by k log)
        → AllOf (λ (e : Known C). (0 < e.by) × (e.by ≤ length vs)) later → c.faults ≤ c'.faults → Knowing (opening ++ later) c'.faults id w → w.next ≡ v.next → w.past ≡ v.past → IsKnown (doubt_of work) (set vs id w) d' → fits (opening ++ later) → Backs (Some (fixed work)) (opening ++ later) → c'.count ≡ length (opening ++ later)
        → Lane WorkKind c'.ticket c'.serving c'.work_home (set stages id w.stage) (as_published (opening ++ later) c'.faults d')
        → Lane ListKind c'.list_ticket c'.list_serving c'.list_home (set lists id w.list) (as_offered (opening ++ later) promised)
        → IsPromised promised w → ((j : ℕ) (u : V) → j ≢ id → get_elem? vs j ≡ home.some u → IsPromised promised u) → (w.turns ≡ 0 → (v.turns ≡ 0) × (c'.work_home ≡ c.work_home) × (c'.list_home ≡ c.list_home)) → Ruled c' (set vs id w)
    goes_on w later c' d' promised role longer beside those more mine next past known test back count lane list_lane own others untouched =
        let lead : Leads (set vs id w) (opening ++ later) c'.faults id w = still_leads vs id v w at is_pass (λ f. fits) (fixed work) log (opening ++ later) c.faults c'.faults longer beside more id w (subst (λ (z : ℕ × List (TakenIn C X)). (0 < z.0 → (id + 1 ≡ length vs) × (z.0 ≡ length vs + 1)) × AllOf (FitsPast vs log c.faults) z.1) (λ i. (sym next i, sym past i)) fit.1) in record {
          later = later;
          doubt = d';
          promised = promised;
          work_lane = subst (λ (l : List (Stage (Published C X))). Lane WorkKind c'.ticket c'.serving c'.work_home l (as_published (opening ++ later) c'.faults d')) (sym (map-set stage_of vs id w)) lane;
          list_lane = subst (λ (l : List (Stage (Offered C))). Lane ListKind c'.list_ticket c'.list_serving c'.list_home l (as_offered (opening ++ later) promised)) (sym (map-set list_of vs id w)) list_lane;
          count_is = count;
          first_ones = r.first_ones;
          later_ones = subst (λ (k : ℕ). AllOf (λ (e : Known C). (0 < e.by) × (e.by ≤ k)) later) (sym (length-set vs id w)) those;
          each_seat = λ j u p. ⊎_elim
              (λ (a : (j ≡ id) × (w ≡ u)). subst (λ (z : ℕ × V). Fit (set vs id w) (opening ++ later) c'.faults z.0 z.1 z.1.role) (λ i. (sym a.0 i, a.1 i)) (subst (Fit (set vs id w) (opening ++ later) c'.faults id w) (sym role) (mine, lead)))
              (λ (a : (j ≢ id) × (get_elem? vs j ≡ home.some u)). others_fit vs id v w at is_pass (λ f. fits) (fixed work) log (opening ++ later) c.faults c'.faults longer beside more j u u.role a.0 (r.each_seat j u a.1))
              (at_set vs id j w u p);
          each_promise = λ j u p. ⊎_elim
              (λ (a : (j ≡ id) × (w ≡ u)). subst (IsPromised promised) a.1 own)
              (λ (a : (j ≢ id) × (get_elem? vs j ≡ home.some u)). others j u a.0 a.1)
              (at_set vs id j w u p);
          known = known;
          test = test;
          backed = back;
          few = let f = r.few in let l = length-set vs id w in omega arith;
          untouched = λ all. let now : IsFresh w = all id w (view_there vs id v w at) in let was = untouched now.0 in
              let still = r.untouched (λ j u p. dite (ℕ_discrete j id)
              (λ e. subst IsFresh (sym (same_view vs j id u v e p at)) (was.0, subst (AllOf (λ (x : TakenIn C X). x.turns ≡ 0)) past now.1))
              (λ ne. all j u (set_else vs id j w ne ∙ p))) in
              (was.1 ∙ still.0, was.2 ∙ still.1);
        }

    -- a step of the seat that publishes neither entries nor faults
    quiet : (w : V) (t' s' lt' ls' : ℕ) (h' lh' : home.Option S) (promised : ℕ) → w.role ≡ Pass → w.failed ≡ v.failed → w.past ≡ v.past → Knowing log c.faults id w → w.next ≡ v.next
        → Lane WorkKind t' s' h' (set stages id w.stage) here → Lane ListKind lt' ls' lh' (set lists id w.list) (as_offered log promised)
        → IsPromised promised w → ((j : ℕ) (u : V) → j ≢ id → get_elem? vs j ≡ home.some u → IsPromised promised u) → (w.turns ≡ 0 → (v.turns ≡ 0) × (h' ≡ c.work_home) × (lh' ≡ c.list_home))
        → Ruled (record c { ticket = t'; serving = s'; list_ticket = lt'; list_serving = ls'; work_home = h'; list_home = lh' }) (set vs id w)
    quiet w t' s' lt' ls' h' lh' promised role failed past mine next lane list_lane own others untouched =
        let known = known_still vs id v w at is_pass (doubt_of work) r.doubt (λ d k. subst (λ (z : List X × List (TakenIn C X)). IsIn d z.0 ⊎ IsFailedOf d z.1) (λ i. (sym failed i, sym past i)) k) r.known in
        goes_on w r.later (record c { ticket = t'; serving = s'; list_ticket = lt'; list_serving = ls'; work_home = h'; list_home = lh' }) r.doubt promised role (prefix_refl log) (λ _ _. refl) r.later_ones (le_refl c.faults) mine next past known r.test r.backed r.count_is lane list_lane own others untouched

    pub stage_at : (x : Stage (Published C X)) → v.stage ≡ x → get_elem? stages id ≡ home.some x
    stage_at x e = at_map stage_of vs id v at ∙ ap home.some e

    pub list_at : (x : Stage (Offered C)) → v.list ≡ x → get_elem? lists id ≡ home.some x
    list_at x e = at_map list_of vs id v at ∙ ap home.some e

    work_still : Lane WorkKind c.ticket c.serving c.work_home (set stages id v.stage) here
    work_still = subst (λ (l : List (Stage (Published C X))). Lane WorkKind c.ticket c.serving c.work_home l here) (sym (set_again stages id v.stage (at_map stage_of vs id v at))) r.work_lane

    list_still : Lane ListKind c.list_ticket c.list_serving c.list_home (set lists id v.list) offer
    list_still = subst (λ (l : List (Stage (Offered C))). Lane ListKind c.list_ticket c.list_serving c.list_home l offer) (sym (set_again lists id v.list (at_map list_of vs id v at))) r.list_lane

    promises : (j : ℕ) (u : V) → j ≢ id → get_elem? vs j ≡ home.some u → IsPromised r.promised u
    promises j u ne p = r.each_promise j u p

    -- where the seat is in the turn of the work, no other is promised anything
    unpromised : (u : ℕ) (y : Published C X) → v.stage ≡ Inside u y → (n : ℕ) (j : ℕ) (w : V) → j ≢ id → get_elem? vs j ≡ home.some w → IsPromised n w
    unpromised u y e n j w ne p = λ t z f. absurd (ne (lanes.only_turn WorkKind c.ticket c.serving c.work_home stages here r.work_lane id u y (stage_at (Inside u y) e) j t z (at_map stage_of vs j w p ∙ ap home.some f)))

    knows_here : (u : ℕ) (y : Published C X) → v.stage ≡ Inside u y → y ≡ here
    knows_here u y e = lanes.knows WorkKind c.ticket c.serving c.work_home stages here r.work_lane id u y (stage_at (Inside u y) e)

    knows_offer : (u : ℕ) (o : Offered C) → v.list ≡ Inside u o → o ≡ offer
    knows_offer u o e = lanes.knows ListKind c.list_ticket c.list_serving c.list_home lists offer r.list_lane id u o (list_at (Inside u o) e)

    -- a seat has drawn the tickets that it has
    pub drew : (x : Stage (Published C X)) → v.stage ≡ x → tickets x + tickets v.list ≤ v.turns
    drew x e = subst (λ (z : Stage (Published C X)). tickets z + tickets v.list ≤ v.turns) e fit.0.6

    pub drew_list : (x : Stage (Offered C)) → v.list ≡ x → tickets v.stage + tickets x ≤ v.turns
    drew_list x e = subst (λ (z : Stage (Offered C)). tickets v.stage + tickets z ≤ v.turns) e fit.0.6

    -- a step on the lane of the work, of a seat that has a ticket of it
    pub on_work : (x : Stage (Published C X)) (p t' s' : ℕ) (h' : home.Option S) → tickets x ≤ 1 → 1 + tickets v.list ≤ v.turns → Lane WorkKind t' s' h' (set stages id x) here → IsPromised r.promised (record v { stage = x; spare = p })
        → Ruled (record c { ticket = t'; serving = s'; work_home = h' }) (set vs id (record v { stage = x; spare = p }))
    on_work x p t' s' h' one some lane own = let f = fit.0 in
        quiet (record v { stage = x; spare = p }) t' s' c.list_ticket c.list_serving h' c.list_home r.promised is_pass refl refl (f.0, f.1, f.2, f.3, f.4, f.5, omega (arith, f.6)) refl lane list_still own promises (λ none. absurd (omega arith))

    -- the seat draws a ticket of the work
    pub on_draw : (x : Stage (Published C X)) (t' : ℕ) → tickets x ≤ 1 → Lane WorkKind t' c.serving c.work_home (set stages id x) here → IsPromised r.promised (record v { stage = x; turns = v.turns + 1 })
        → Ruled (record c { ticket = t' }) (set vs id (record v { stage = x; turns = v.turns + 1 }))
    on_draw x t' one lane own = let f = fit.0 in
        quiet (record v { stage = x; turns = v.turns + 1 }) t' c.serving c.list_ticket c.list_serving c.work_home c.list_home r.promised is_pass refl refl (f.0, f.1, f.2, f.3, f.4, f.5, omega (arith, f.6)) refl lane list_still own promises (λ none. absurd (omega arith))

    -- a step on the lane of the list, of a seat that has a ticket of it
    pub on_list : (x : Stage (Offered C)) (p t' s' : ℕ) (h' : home.Option S) (promised : ℕ) → tickets x ≤ 1 → tickets v.stage + 1 ≤ v.turns → Lane ListKind t' s' h' (set lists id x) (as_offered log promised) → IsPromised promised (record v { list = x; spare = p })
        → ((j : ℕ) (u : V) → j ≢ id → get_elem? vs j ≡ home.some u → IsPromised promised u)
        → Ruled (record c { list_ticket = t'; list_serving = s'; list_home = h' }) (set vs id (record v { list = x; spare = p }))
    on_list x p t' s' h' promised one some lane own others = let f = fit.0 in
        quiet (record v { list = x; spare = p }) c.ticket c.serving t' s' c.work_home h' promised is_pass refl refl (f.0, f.1, f.2, f.3, f.4, f.5, omega (arith, f.6)) refl work_still lane own others (λ none. absurd (omega arith))

    -- the seat draws a ticket of the list
    pub on_draw_list : (x : Stage (Offered C)) (t' : ℕ) → tickets x ≤ 1 → Lane ListKind t' c.list_serving c.list_home (set lists id x) offer
        → Ruled (record c { list_ticket = t' }) (set vs id (record v { list = x; turns = v.turns + 1 }))
    on_draw_list x t' one lane = let f = fit.0 in
        quiet (record v { list = x; turns = v.turns + 1 }) c.ticket c.serving t' c.list_serving c.work_home c.list_home r.promised is_pass refl refl (f.0, f.1, f.2, f.3, f.4, f.5, omega (arith, f.6)) refl work_still lane (r.each_promise id v at) promises (λ none. absurd (omega arith))

    -- the seat has seen the history as it is
    in_turn : (x : Stage (Published C X)) → v.stage ≡ x → InTurn x log
    in_turn Outside e = tt
    in_turn (Waiting u) e = tt
    in_turn (Inside u y) e = sym (ap (λ (z : Published C X). z.entries) (knows_here u y e))

    in_list : (x : Stage (Offered C)) → v.list ≡ x → InList x log
    in_list Outside e = tt
    in_list (Waiting u) e = tt
    in_list (Inside u o) e = sym (ap (λ (z : Offered C). z.entries) (knows_offer u o e))

    agrees : (x : Stage (Published C X)) → v.stage ≡ x → Agrees x v.spare offer
    agrees Outside e = tt
    agrees (Waiting u) e = tt
    agrees (Inside u y) e = (sym (ap (λ (z : Published C X). z.entries) (knows_here u y e)), r.each_promise id v at u y e)

    loaded : Ruled c (set vs id (record v { seen = log; looks = v.looks + 1 }))
    loaded = quiet (record v { seen = log; looks = v.looks + 1 }) c.ticket c.serving c.list_ticket c.list_serving c.work_home c.list_home r.promised is_pass refl refl (fit.0.0, prefix_refl log, fit.0.2, fit.0.3, fit.0.4, r.test, fit.0.6) refl
        work_still list_still (r.each_promise id v at) promises (λ none. (none, refl, refl))

    idle : Ruled c (set vs id v)
    idle = subst (Ruled c) (sym (set_again vs id v at)) r

  -- the steps on the lane of the work
  pub draws : (slots id : ℕ) (me : M) → me.0.role ≡ Pass → me.0.stage ≡ Outside → Allows H slots id me 0 (λ n. (n + 1) % 2 ^ 64) (DrawsWork (step slots 0 1 0 home.none) me)
  draws slots id me is_pass stage = moves slots id me 0 (λ n. (n + 1) % 2 ^ 64) (DrawsWork (step slots 0 1 0 home.none) me) (λ c vs r at.
      let drawn = r.work_lane.drawn in
      let l = lanes.draws WorkKind c.ticket c.serving c.work_home (map stage_of vs) (here c vs r id me.0 at is_pass) r.work_lane id (stage_at c vs r id me.0 at is_pass Outside stage) in (
        record me.0 { stage = Waiting drawn; turns = me.0.turns + 1 },
        keeps,
        tt,
        holds (record c { ticket = (c.ticket + 1) % 2 ^ 64 }) (set vs id (record me.0 { stage = Waiting drawn; turns = me.0.turns + 1 })) (on_draw c vs r id me.0 at is_pass (Waiting drawn) ((c.ticket + 1) % 2 ^ 64) (le_refl 1) l (λ t y e. let q : ◌≡◌ {A = Stage (Published C X)} (Waiting drawn) (Inside t y) = e in cc)),
        (drawn, sym r.work_lane.ticket_is, refl),
      ))

  abbrev pub Looked : ℕ → M → ℕ → M → Type 0
  Looked slots me = LooksWork stands fault_count doubt_of fixed (step slots 1 0 0 home.none) me

  takes_work : (slots id : ℕ) (me : M) (u : ℕ) (c : Cells S) (vs : List V) → me.0.stage ≡ Waiting u → me.0.fixed ≡ Some (fixed work) → c.serving ≡ u % 2 ^ 64 → (y : Published C X) (o : S) → c.work_home ≡ home.some o → WorkKind y o
      → Ruled (record c { work_home = home.none }) (set vs id (in_work me.0 u y)) → Goes id me 1 (λ k. k) (Looked slots me) (words_of c) (homes_of c) vs
  takes_work slots id me u c vs stage fix hit y (Work w) is stands_here r = (
    in_work me.0 u y,
    takes 0 (Work w),
    ap home.some is,
    holds (record c { work_home = home.none }) (set vs id (in_work me.0 u y)) r,
    λ u' e. let q : Waiting u ≡ Waiting u' = sym stage ∙ e in let same : u ≡ u' = cc in
        ((λ miss. absurd (miss (hit ∙ ap (λ (k : ℕ). k % 2 ^ 64) same))), λ _. (w, y, fixed work, fix, stands_here, ap (λ (k : ℕ). (in_work me.0 k y, (0, Work w) ∷ me.1)) same)),
  )
  takes_work slots id me u c vs stage fix hit y (Items l) is k r = absurd k
  takes_work slots id me u c vs stage fix hit y Nothing is k r = absurd k

  pub looks : seats ≤ 16 → (slots id : ℕ) (me : M) (u : ℕ) → me.0.role ≡ Pass → me.0.stage ≡ Waiting u → Allows H slots id me 1 (λ k. k) (Looked slots me)
  looks few_seats slots id me u is_pass stage = moves slots id me 1 (λ k. k) (Looked slots me) (λ c vs r at.
      let y : Published C X = here c vs r id me.0 at is_pass in
      dite (ℕ_discrete c.serving (u % 2 ^ 64))
      (λ hit. let f = r.few in let count : length (map stage_of vs) ≡ length vs = length-map vs stage_of in
      let l = lanes.takes_turn WorkKind c.ticket c.serving c.work_home (map stage_of vs) y r.work_lane id u (stage_at c vs r id me.0 at is_pass (Waiting u) stage) hit (omega arith) in
      takes_work slots id me u c vs stage (fit c vs r id me.0 at is_pass).0.4 hit y l.0 l.1 l.2 (on_work c vs r id me.0 at is_pass (Inside u y) 0 c.ticket c.serving home.none (le_refl 1) (drew c vs r id me.0 at is_pass (Waiting u) stage) l.3 (λ t z e. omega arith)))
      (λ miss. (
        me.0,
        keeps,
        tt,
        holds c (set vs id me.0) (idle c vs r id me.0 at is_pass),
        λ u' e. let q : Waiting u ≡ Waiting u' = sym stage ∙ e in let same : u ≡ u' = cc in ((λ _. refl), λ hit. absurd (miss (hit ∙ ap (λ (k : ℕ). k % 2 ^ 64) (sym same)))),
      )))

  hands_on_here : (slots id : ℕ) (v : V) (w : W) (others : List (ℕ × S)) (u : ℕ) (y : Published C X) (f : F) → v.role ≡ Pass → v.stage ≡ Inside u y → v.fixed ≡ Some f → IsWorkOf {R = R} stands fault_count doubt_of fixed f y (Work w)
      → Allows H slots id (v, (0, Work w) ∷ others) 1 (λ k. (k + 1) % 2 ^ 64) (HandsOnWork (step slots 1 1 0 home.none) (v, (0, Work w) ∷ others))
  hands_on_here slots id v w others u y f is_pass stage fix stands_here = moves slots id (v, (0, Work w) ∷ others) 1 (λ k. (k + 1) % 2 ^ 64) (HandsOnWork (step slots 1 1 0 home.none) (v, (0, Work w) ∷ others)) (λ c vs r at.
      let is : v.fixed ≡ Some (fixed work) = (fit c vs r id v at is_pass).0.4 in let both : Some f ≡ Some (fixed work) = sym fix ∙ is in let same : f ≡ fixed work = cc in
      let stands_now : WorkKind y (Work w) = subst (λ (g : F). IsWorkOf {R = R} stands fault_count doubt_of fixed g y (Work w)) same stands_here in
      let l = lanes.hands_on WorkKind c.ticket c.serving c.work_home (map stage_of vs) (here c vs r id v at is_pass) r.work_lane id u y (Work w) (stage_at c vs r id v at is_pass (Inside u y) stage) stands_now in (
        at_stage v Outside,
        gives,
        tt,
        holds (record c { serving = (c.serving + 1) % 2 ^ 64; work_home = home.some (Work w) }) (set vs id (at_stage v Outside))
            (on_work c vs r id v at is_pass Outside v.spare c.ticket ((c.serving + 1) % 2 ^ 64) (home.some (Work w)) (omega arith) (drew c vs r id v at is_pass (Inside u y) stage) l (λ t z e. let q : ◌≡◌ {A = Stage (Published C X)} Outside (Inside t z) = e in cc)),
        refl,
      ))

  pub hands_on : (slots id : ℕ) (me : M) (w : W) (others : List (ℕ × S)) (u : ℕ) (y : Published C X) (f : F) → me.1 ≡ (0, Work w) ∷ others → me.0.role ≡ Pass → me.0.stage ≡ Inside u y → me.0.fixed ≡ Some f → IsWorkOf {R = R} stands fault_count doubt_of fixed f y (Work w)
      → Allows H slots id me 1 (λ k. (k + 1) % 2 ^ 64) (HandsOnWork (step slots 1 1 0 home.none) me)
  hands_on slots id me w others u y f carried is_pass stage fix stands_here =
      subst (λ (l : List (ℕ × S)). Allows H slots id (me.0, l) 1 (λ k. (k + 1) % 2 ^ 64) (HandsOnWork (step slots 1 1 0 home.none) (me.0, l))) (sym carried) (hands_on_here slots id me.0 w others u y f is_pass stage fix stands_here)

  -- the steps on the lane of the list
  pub draws_list : (slots id : ℕ) (me : M) → me.0.role ≡ Pass → me.0.list ≡ Outside → Allows H slots id me 2 (λ n. (n + 1) % 2 ^ 64) (DrawsList (step slots 2 1 0 home.none) me)
  draws_list slots id me is_pass stage = moves slots id me 2 (λ n. (n + 1) % 2 ^ 64) (DrawsList (step slots 2 1 0 home.none) me) (λ c vs r at.
      let drawn = r.list_lane.drawn in
      let l = lanes.draws ListKind c.list_ticket c.list_serving c.list_home (map list_of vs) (offer c vs r id me.0 at is_pass) r.list_lane id (list_at c vs r id me.0 at is_pass Outside stage) in (
        record me.0 { list = Waiting drawn; turns = me.0.turns + 1 },
        keeps,
        tt,
        holds (record c { list_ticket = (c.list_ticket + 1) % 2 ^ 64 }) (set vs id (record me.0 { list = Waiting drawn; turns = me.0.turns + 1 }))
            (on_draw_list c vs r id me.0 at is_pass (Waiting drawn) ((c.list_ticket + 1) % 2 ^ 64) (le_refl 1) l),
        (drawn, sym r.list_lane.ticket_is, refl),
      ))

  abbrev pub LookedList : ℕ → M → ℕ → M → Type 0
  LookedList slots me = LooksList stands fixed entries spare (step slots 3 0 0 home.none) me

  takes_list : (slots id : ℕ) (me : M) (u : ℕ) (c : Cells S) (vs : List V) → me.0.list ≡ Waiting u → c.list_serving ≡ u % 2 ^ 64 → (y : Offered C) (o : S) → c.list_home ≡ home.some o → ListKind y o → Agrees me.0.stage me.0.spare y → Backs me.0.fixed y.entries
      → Ruled (record c { list_home = home.none }) (set vs id (at_list me.0 (Inside u y))) → Goes id me 3 (λ k. k) (LookedList slots me) (words_of c) (homes_of c) vs
  takes_list slots id me u c vs stage hit y (Work w) is k agree back r = absurd k
  takes_list slots id me u c vs stage hit y (Items x) is stands_here agree back r = (
    at_list me.0 (Inside u y),
    takes 1 (Items x),
    ap home.some is,
    holds (record c { list_home = home.none }) (set vs id (at_list me.0 (Inside u y))) r,
    λ u' e. let q : Waiting u ≡ Waiting u' = sym stage ∙ e in let same : u ≡ u' = cc in
        ((λ miss. absurd (miss (hit ∙ ap (λ (k : ℕ). k % 2 ^ 64) same))), λ _. (x, y, stands_here, agree, ap (λ (k : ℕ). (at_list me.0 (Inside k y), (1, Items x) ∷ me.1)) same, back)),
  )
  takes_list slots id me u c vs stage hit y Nothing is k agree back r = absurd k

  pub looks_list : seats ≤ 16 → (slots id : ℕ) (me : M) (u : ℕ) → me.0.role ≡ Pass → me.0.list ≡ Waiting u → Allows H slots id me 3 (λ k. k) (LookedList slots me)
  looks_list few_seats slots id me u is_pass stage = moves slots id me 3 (λ k. k) (LookedList slots me) (λ c vs r at.
      let y : Offered C = offer c vs r id me.0 at is_pass in
      dite (ℕ_discrete c.list_serving (u % 2 ^ 64))
      (λ hit. let f = r.few in let count : length (map list_of vs) ≡ length vs = length-map vs list_of in
      let l = lanes.takes_turn ListKind c.list_ticket c.list_serving c.list_home (map list_of vs) y r.list_lane id u (list_at c vs r id me.0 at is_pass (Waiting u) stage) hit (omega arith) in
      let b = r.backed in
      takes_list slots id me u c vs stage hit y l.0 l.1 l.2 (agrees c vs r id me.0 at is_pass me.0.stage refl) (b.0, b.1, (fit c vs r id me.0 at is_pass).0.4 ∙ b.2)
      (on_list c vs r id me.0 at is_pass (Inside u y) me.0.spare c.list_ticket c.list_serving home.none r.promised (le_refl 1) (drew_list c vs r id me.0 at is_pass (Waiting u) stage) l.3 (r.each_promise id me.0 at) (promises c vs r id me.0 at is_pass)))
      (λ miss. (
        me.0,
        keeps,
        tt,
        holds c (set vs id me.0) (idle c vs r id me.0 at is_pass),
        λ u' e. let q : Waiting u ≡ Waiting u' = sym stage ∙ e in let same : u ≡ u' = cc in ((λ _. refl), λ hit. absurd (miss (hit ∙ ap (λ (k : ℕ). k % 2 ^ 64) (sym same)))),
      )))

  -- the seat may leave the list with this spare: it has no less than it had, or the seat has the work
  abbrev pub MayLeave : V → Offered C → ℕ → Type 0
  MayLeave v o n = (o.spare ≤ n) ⊎ ((t : ℕ) × (y : Published C X) × (v.stage ≡ Inside t y))

  others_after : (c : Cells S) (vs : List V) (r : Ruled c vs) (id : ℕ) (v : V) (at : get_elem? vs id ≡ home.some v) (is_pass : v.role ≡ Pass) (u : ℕ) (o : Offered C) (n : ℕ) → v.list ≡ Inside u o → MayLeave v o n
      → (j : ℕ) (w : V) → j ≢ id → get_elem? vs j ≡ home.some w → IsPromised n w
  others_after c vs r id v at is_pass u o n e may j w ne p = ⊎_elim
      (λ (more : o.spare ≤ n). λ t z f. let a = r.each_promise j w p t z f in let b : o.spare ≡ r.promised = ap (λ (x : Offered C). x.spare) (knows_offer c vs r id v at is_pass u o e) in omega arith)
      (λ (k : (t : ℕ) × (y : Published C X) × (v.stage ≡ Inside t y)). unpromised c vs r id v at is_pass k.0 k.1 k.2 n j w ne p) may

  same_items : (x x' : R) (others others' l : List (ℕ × S)) → l ≡ (1, Items x) ∷ others → l ≡ (1, Items x') ∷ others' → x ≡ x'
  same_items x x' others others' l e f = let g : (1, Items x) ∷ others ≡ (1, Items x') ∷ others' = sym e ∙ f in let k : ◌≡◌ {A = ℕ × S} (1, Items x) (1, Items x') = cc in let m : ◌≡◌ {A = S} (Items x) (Items x') = ap (λ (p : ℕ × S). p.1) k in cc

  same_work : (x x' : W) (others others' l : List (ℕ × S)) → l ≡ (0, Work x) ∷ others → l ≡ (0, Work x') ∷ others' → x ≡ x'
  same_work x x' others others' l e f = let g : (0, Work x) ∷ others ≡ (0, Work x') ∷ others' = sym e ∙ f in let k : ◌≡◌ {A = ℕ × S} (0, Work x) (0, Work x') = cc in let m : ◌≡◌ {A = S} (Work x) (Work x') = ap (λ (p : ℕ × S). p.1) k in cc

  hands_on_list_here : (slots id : ℕ) (v : V) (x : R) (others : List (ℕ × S)) (u : ℕ) (o : Offered C) → v.role ≡ Pass → v.list ≡ Inside u o → entries x ≡ o.entries → MayLeave v o (spare x)
      → Allows H slots id (v, (1, Items x) ∷ others) 3 (λ k. (k + 1) % 2 ^ 64) (HandsOnList entries spare (step slots 3 1 0 home.none) (v, (1, Items x) ∷ others))
  hands_on_list_here slots id v x others u o is_pass stage same may = moves slots id (v, (1, Items x) ∷ others) 3 (λ k. (k + 1) % 2 ^ 64) (HandsOnList entries spare (step slots 3 1 0 home.none) (v, (1, Items x) ∷ others)) (λ c vs r at.
      let all = log c vs r id v at is_pass in
      let o_is : o ≡ offer c vs r id v at is_pass = knows_offer c vs r id v at is_pass u o stage in
      let stands_now : ListKind (as_offered all (spare x)) (Items x) = (same ∙ ap (λ (z : Offered C). z.entries) o_is, le_refl (spare x)) in
      let l = lanes.leaves ListKind c.list_ticket c.list_serving c.list_home (map list_of vs) (offer c vs r id v at is_pass) r.list_lane id u o (list_at c vs r id v at is_pass (Inside u o) stage) (as_offered all (spare x)) (Items x) stands_now in
      let w : V = record v { list = Outside; spare = spare x } in (
        w,
        gives,
        tt,
        holds (record c { list_serving = (c.list_serving + 1) % 2 ^ 64; list_home = home.some (Items x) }) (set vs id w)
            (on_list c vs r id v at is_pass Outside (spare x) c.list_ticket ((c.list_serving + 1) % 2 ^ 64) (home.some (Items x)) (spare x) (omega arith) (drew_list c vs r id v at is_pass (Inside u o) stage) l (λ t z e. le_refl (spare x)) (others_after c vs r id v at is_pass u o (spare x) stage may)),
        λ x' e. let b = same_items x x' others others ((1, Items x) ∷ others) refl e in (λ i. (record v { list = Outside; spare = spare (b i) }, others)),
      ))

  pub hands_on_list : (slots id : ℕ) (me : M) (x : R) (others : List (ℕ × S)) (u : ℕ) (o : Offered C) → me.1 ≡ (1, Items x) ∷ others → me.0.role ≡ Pass → me.0.list ≡ Inside u o → entries x ≡ o.entries → MayLeave me.0 o (spare x)
      → Allows H slots id me 3 (λ k. (k + 1) % 2 ^ 64) (HandsOnList entries spare (step slots 3 1 0 home.none) me)
  hands_on_list slots id me x others u o carried is_pass stage same may =
      subst (λ (l : List (ℕ × S)). Allows H slots id (me.0, l) 3 (λ k. (k + 1) % 2 ^ 64) (HandsOnList entries spare (step slots 3 1 0 home.none) (me.0, l))) (sym carried) (hands_on_list_here slots id me.0 x others u o is_pass stage same may)

  -- the steps on the count and the faults
  pub counts : (slots id : ℕ) (me : M) → me.0.role ≡ Pass → Allows H slots id me 4 (λ k. k) (CountsList fits (step slots 4 0 0 home.none) me)
  counts slots id me is_pass = moves slots id me 4 (λ k. k) (CountsList fits (step slots 4 0 0 home.none) me) (λ c vs r at.
      let f = fit c vs r id me.0 at is_pass in let all = opening ++ r.later in
      let w : V = record me.0 { seen = all; looks = me.0.looks + 1 } in (
        w,
        keeps,
        tt,
        holds c (set vs id w) (loaded c vs r id me.0 at is_pass),
        (all, refl, sym r.count_is, f.0.1, f.0.2, in_turn c vs r id me.0 at is_pass me.0.stage refl, in_list c vs r id me.0 at is_pass me.0.list refl, r.test, refl),
      ))

  pub publishes : (slots id : ℕ) (me : M) (x : R) (others : List (ℕ × S)) (t u : ℕ) (y : Published C X) (o : Offered C) (new : List (Known C)) → me.1 ≡ (1, Items x) ∷ others → me.0.role ≡ Pass → me.0.stage ≡ Inside t y → me.0.list ≡ Inside u o
      → entries x ≡ y.entries ++ new → AllOf (λ (e : Known C). e.by ≡ me.0.number) new → fits (entries x) → Backs me.0.fixed (entries x) → (k : ℕ) → k ≡ length (entries x)
      → Allows H slots id me 4 (λ _. k) (PublishesList entries spare (step slots 4 k 0 home.none) me)
  publishes slots id me x others t u y o new carried is_pass stage stage_list grown own test back k k_is = moves slots id me 4 (λ _. k) (PublishesList entries spare (step slots 4 k 0 home.none) me) (λ c vs r at.
      let v : V = me.0 in let g = (fit c vs r id v at is_pass).0 in
      let in_stage = stage_at c vs r id v at is_pass (Inside t y) stage in
      let y_is : y ≡ here c vs r id v at is_pass = knows_here c vs r id v at is_pass t y stage in
      let later : List (Known C) = r.later ++ new in
      let all : entries x ≡ opening ++ later = grown ∙ (ap (λ (z : Published C X). z.entries ++ new) y_is ∙ append_assoc opening r.later new) in
      let longer : IsPrefix (opening ++ r.later) (opening ++ later) = (new, append_assoc opening r.later new) in
      let by_me : AllOf (λ (e : Known C). e.by ≡ id + 1) new = all_map (λ (e : Known C). e.by ≡ v.number) (λ (e : Known C). e.by ≡ id + 1) (λ e p. p ∙ g.0) new own in
      let inside = at_below vs id v at in
      let beside : (j : ℕ) → j ≢ id + 1 → places_by j (opening ++ later) ≡ places_by j (opening ++ r.later) = λ j ne. ap (places_by j) (sym (append_assoc opening r.later new)) ∙ places_beside j (id + 1) 1 (opening ++ r.later) new by_me ne in
      let those : AllOf (λ (e : Known C). (0 < e.by) × (e.by ≤ length vs)) later = all_append (λ (e : Known C). (0 < e.by) × (e.by ≤ length vs)) r.later new r.later_ones
      (all_map (λ (e : Known C). e.by ≡ id + 1) (λ (e : Known C). (0 < e.by) × (e.by ≤ length vs)) (λ e p. (omega arith, omega arith)) new by_me) in
      let w : V = published entries spare v x t y u in
      let c' : Cells S = record c { count = k } in
      let stay_is : record y { entries = entries x } ≡ as_published (opening ++ later) c.faults r.doubt = λ i. record { entries = all i; faults = (y_is i).faults; doubt = (y_is i).doubt } in
      let lane : Lane WorkKind c.ticket c.serving c.work_home (set (map stage_of vs) id w.stage) (as_published (opening ++ later) c.faults r.doubt) = subst (λ (z : Published C X). Lane WorkKind c.ticket c.serving c.work_home (set (map stage_of vs) id (Inside t z)) (as_published (opening ++ later) c.faults r.doubt)) (sym stay_is)
      (lanes.publishes WorkKind c.ticket c.serving c.work_home (map stage_of vs) (here c vs r id v at is_pass) r.work_lane id t y (as_published (opening ++ later) c.faults r.doubt) in_stage) in
      let list_lane : Lane ListKind c.list_ticket c.list_serving c.list_home (set (map list_of vs) id w.list) (as_offered (opening ++ later) (spare x)) = subst (λ (z : List (Known C)). Lane ListKind c.list_ticket c.list_serving c.list_home (set (map list_of vs) id (Inside u (as_offered z (spare x)))) (as_offered (opening ++ later) (spare x))) (sym all)
      (lanes.publishes ListKind c.list_ticket c.list_serving c.list_home (map list_of vs) (offer c vs r id v at is_pass) r.list_lane id u o (as_offered (opening ++ later) (spare x)) (list_at c vs r id v at is_pass (Inside u o) stage_list)) in
      let some : 1 + tickets v.list ≤ v.turns = drew c vs r id v at is_pass (Inside t y) stage in
      let both : 2 ≤ v.turns = subst (λ (z : Stage (Offered C)). 1 + tickets z ≤ v.turns) stage_list some in
      let mine : Knowing (opening ++ later) c.faults id w = (g.0, ([], append-nil (entries x) ∙ all), ap (places_by v.number) (sym all), g.3, g.4, test, both) in
      let tested : fits (opening ++ later) = subst fits all test in
      let backed : Backs (Some (fixed work)) (opening ++ later) = (back.0, subst (stands back.0) all back.1, sym g.4 ∙ back.2) in (
        w,
        keeps,
        tt,
        holds c' (set vs id w)
            (goes_on c vs r id v at is_pass w later c' r.doubt (spare x) is_pass longer beside those (le_refl c.faults) mine refl refl
            (known_still vs id v w at is_pass (doubt_of work) r.doubt (λ d z. z) r.known) tested backed (k_is ∙ ap length all) lane list_lane (λ _ _ _. le_refl (spare x)) (unpromised c vs r id v at is_pass t y stage (spare x)) (λ none. absurd (omega arith))),
        λ t' u' y' o' x' e f l. let a = same_stay t t' y y' (sym stage ∙ e) in let b = same_stay u u' o o' (sym stage_list ∙ f) in let d = same_items x x' others (rest me.1) me.1 carried l in (λ i. (published entries spare v (d i) (a.0 i) (a.1 i) (b.0 i), me.1)),
      ))

  pub reports : Apart X → (slots id : ℕ) (me : M) (x : W) (others : List (ℕ × S)) (u : ℕ) (y : Published C X) → me.1 ≡ (0, Work x) ∷ others → me.0.role ≡ Pass → me.0.stage ≡ Inside u y → y.faults ≤ fault_count x → (k : ℕ) → k ≡ fault_count x
      → Allows H slots id me 5 (λ _. k) (ReportsWork stands fault_count doubt_of fixed (step slots 5 k 0 home.none) me)
  reports apart slots id me x others u y carried is_pass stage more k k_is = moves slots id me 5 (λ _. k) (ReportsWork stands fault_count doubt_of fixed (step slots 5 k 0 home.none) me) (λ c vs r at.
      let v : V = me.0 in let g = (fit c vs r id v at is_pass).0 in let all : List (Known C) = opening ++ r.later in
      let in_stage = stage_at c vs r id v at is_pass (Inside u y) stage in
      let y_is : y ≡ here c vs r id v at is_pass = knows_here c vs r id v at is_pass u y stage in
      let q_is : y.faults ≡ c.faults = ap (λ (z : Published C X). z.faults) y_is in
      let d_is : y.doubt ≡ r.doubt = ap (λ (z : Published C X). z.doubt) y_is in
      let a = adds apart y.doubt (doubt_of x) v.failed in
      let w : V = reported fault_count doubt_of v x u y a.0 in
      let c' : Cells S = record c { faults = k } in
      let stay_is : record y { faults = fault_count x; doubt = doubt_of x } ≡ as_published all k (doubt_of x) = λ i. record { entries = (y_is i).entries; faults = sym k_is i; doubt = doubt_of x } in
      let lane : Lane WorkKind c.ticket c.serving c.work_home (set (map stage_of vs) id w.stage) (as_published all k (doubt_of x)) = subst (λ (z : Published C X). Lane WorkKind c.ticket c.serving c.work_home (set (map stage_of vs) id (Inside u z)) (as_published all k (doubt_of x))) (sym stay_is)
      (lanes.publishes WorkKind c.ticket c.serving c.work_home (map stage_of vs) (here c vs r id v at is_pass) r.work_lane id u y (as_published all k (doubt_of x)) in_stage) in
      let own : v.own_faults ≤ c.faults = g.3 in
      let below : own_count v.own_faults y.faults (fault_count x) ≤ k = let b = own_below v.own_faults y.faults (fault_count x) (omega arith) more in omega arith in
      let some : 1 + tickets v.list ≤ v.turns = drew c vs r id v at is_pass (Inside u y) stage in
      let mine : Knowing all k id w = (g.0, g.1, g.2, below, g.4, g.5, some) in (
        w,
        keeps,
        tt,
        holds c' (set vs id w)
            (goes_on c vs r id v at is_pass w r.later c' (doubt_of x) r.promised is_pass (prefix_refl all) (λ _ _. refl) r.later_ones (omega arith) mine refl refl
            (known_after (doubt_of work) vs id v w at is_pass refl y.doubt (doubt_of x) a.1 (subst (IsKnown (doubt_of work) vs) (sym d_is) r.known)) r.test r.backed r.count_is lane (list_still c vs r id v at is_pass)
            (λ t z e. r.each_promise id v at u y stage) (promises c vs r id v at is_pass) (λ none. absurd (omega arith))),
        λ u' y' x' e l. let b = same_stay u u' y y' (sym stage ∙ e) in let o = same_work x x' others (rest me.1) me.1 carried l in
            subst (λ (z : ℕ × Published C X × W). (c.faults ≡ z.1.faults) × (v.own_faults ≤ c.faults) × ((failed : List X) × Adds z.1.doubt (doubt_of z.2) v.failed failed × ◌≡◌ {A = M} (w, me.1) (reported fault_count doubt_of v z.2 z.0 z.1 failed, me.1))) (λ i. (b.0 i, b.1 i, o i))
            (sym q_is, own, (a.0, a.1, refl)),
      ))

  open_state : (P : List ℕ → List (home.Option S) → Type 0) (st : State S V) (k : H st) → P (words_of k.cells) (homes_of k.cells) → P st.words st.homes
  open_state P st k p = subst (λ (z : List ℕ × List (home.Option S)). P z.0 z.1) (λ i. (sym k.words_are i, sym k.homes_are i)) p

  module _ (c : Cells S) (vs : List V) (r : Ruled c vs) (id : ℕ) (v : V) (at : get_elem? vs id ≡ home.some v) (is_pass : v.role ≡ Pass) where
    abbrev first_part : List V
    first_part = set vs id (dealt v)

    abbrev with_new : List V
    with_new = first_part ++ newcomer v ∷ []

    abbrev all_now : List (Known C)
    all_now = opening ++ r.later

    fit_now : Fit vs all_now c.faults id v Pass
    fit_now = subst (Fit vs all_now c.faults id v) is_pass (r.each_seat id v at)

    new_length : length with_new ≡ length vs + 1
    new_length = length-append first_part (newcomer v ∷ []) ∙ ap (λ (k : ℕ). k + 1) (length-set vs id (dealt v))

    spent_with_new : (k : ℕ) → IsSpentAt vs k → IsSpentAt with_new k
    spent_with_new k z = (z.0, at_longer first_part (newcomer v ∷ []) k z.0 (set_else vs id k (dealt v) (not_spent vs id v v at is_pass k z) ∙ z.1), z.2)

    past_with_new : (p : TakenIn C X) → FitsPast vs all_now c.faults p → FitsPast with_new all_now c.faults p
    past_with_new p f = let z = f.2 in (f.0, f.1, (z.0, z.1, spent_with_new z.0 z.2), f.3)

    fresh : 0 < v.next → places_by v.next all_now ≡ []
    fresh some_next = let number : v.next ≡ length vs + 1 = (fit_now.1.0 some_next).1 in no_places v.next 1 all_now (all_append (λ (e : Known C). e.by ≢ v.next) opening r.later
        (all_map (λ (e : Known C). e.by ≡ 0) (λ (e : Known C). e.by ≢ v.next) (λ e z x. omega arith) opening r.first_ones)
        (all_map (λ (e : Known C). (0 < e.by) × (e.by ≤ length vs)) (λ (e : Known C). e.by ≢ v.next) (λ e z x. omega arith) r.later r.later_ones))

    -- a seat that does not make the new one
    other_fits : 0 < v.next → (j : ℕ) (u : V) (role : Role) → j ≢ id → Fit vs all_now c.faults j u role → Fit with_new all_now c.faults j u role
    other_fits some_next j u Pass ne f = (f.0, ((λ more. let a = (f.1.0 more).0 in let b = (fit_now.1.0 some_next).0 in absurd (ne (omega arith))), all_map (FitsPast vs all_now c.faults) (FitsPast with_new all_now c.faults) past_with_new u.past f.1.1))
    other_fits some_next j u Spent ne f = f

    known_with_new : (d : Option X) → IsKnown (doubt_of work) vs d → IsKnown (doubt_of work) with_new d
    known_with_new None k = tt
    known_with_new (Some d) k = ⊎_elim (λ (e : doubt_of work ≡ Some d). inl e)
        (λ (z : (seat : ℕ) × (x : V) × (get_elem? vs seat ≡ home.some x) × (IsIn d x.failed ⊎ IsFailedOf d x.past)). inr (dite (ℕ_discrete z.0 id)
        (λ e. (id, dealt v, at_longer first_part (newcomer v ∷ []) id (dealt v) (view_there vs id v (dealt v) at), subst (λ (x : V). IsIn d x.failed ⊎ IsFailedOf d x.past) (same_view vs z.0 id z.1 v e z.2 at) z.3))
        (λ ne. (z.0, z.1, at_longer first_part (newcomer v ∷ []) z.0 z.1 (set_else vs id z.0 (dealt v) ne ∙ z.2), z.3)))) k

    deal : 0 < v.next → v.next ≤ seats → Ruled c with_new
    deal some_next room = let g = fit_now in let lead = g.1.0 some_next in let number : v.next ≡ length vs + 1 = lead.1 in let long = new_length in record {
      later = r.later;
      doubt = r.doubt;
      promised = r.promised;
      work_lane = subst (λ (l : List (Stage (Published C X))). Lane WorkKind c.ticket c.serving c.work_home l (as_published all_now c.faults r.doubt))
          (sym (map-append stage_of first_part (newcomer v ∷ []) ∙ ap (λ (l : List (Stage (Published C X))). l ++ Outside ∷ []) (map-set stage_of vs id (dealt v) ∙ set_again (map stage_of vs) id v.stage (at_map stage_of vs id v at))))
          (lanes.seats WorkKind c.ticket c.serving c.work_home (map stage_of vs) (as_published all_now c.faults r.doubt) r.work_lane);
      list_lane = subst (λ (l : List (Stage (Offered C))). Lane ListKind c.list_ticket c.list_serving c.list_home l (as_offered all_now r.promised))
          (sym (map-append list_of first_part (newcomer v ∷ []) ∙ ap (λ (l : List (Stage (Offered C))). l ++ Outside ∷ []) (map-set list_of vs id (dealt v) ∙ set_again (map list_of vs) id v.list (at_map list_of vs id v at))))
          (lanes.seats ListKind c.list_ticket c.list_serving c.list_home (map list_of vs) (as_offered all_now r.promised) r.list_lane);
      count_is = r.count_is;
      first_ones = r.first_ones;
      later_ones = all_map (λ (e : Known C). (0 < e.by) × (e.by ≤ length vs)) (λ (e : Known C). (0 < e.by) × (e.by ≤ length with_new)) (λ e z. (z.0, omega arith)) r.later r.later_ones;
      each_seat = λ j u p. ⊎_elim
          (λ (a : get_elem? first_part j ≡ home.some u). ⊎_elim
          (λ (b : (j ≡ id) × (dealt v ≡ u)). subst (λ (z : ℕ × V). Fit with_new all_now c.faults z.0 z.1 z.1.role) (λ i. (sym b.0 i, b.1 i)) (subst (Fit with_new all_now c.faults id (dealt v)) (sym is_pass)
          (g.0, ((λ (more : 0 < 0). absurd (omega arith)), all_map (FitsPast vs all_now c.faults) (FitsPast with_new all_now c.faults) past_with_new v.past g.1.1))))
          (λ (b : (j ≢ id) × (get_elem? vs j ≡ home.some u)). other_fits some_next j u u.role b.0 (r.each_seat j u b.1)) (at_set vs id j (dealt v) u a))
          (λ (a : (j ≡ length first_part) × (newcomer v ≡ u)). let k : length first_part ≡ length vs = length-set vs id (dealt v) in subst (λ (z : V). Fit with_new all_now c.faults j z z.role) a.1
          ((omega arith, g.0.1, fresh some_next, omega arith, g.0.4, g.0.5, omega arith), ((λ _. (omega arith, omega arith)), tt)))
          (last_at first_part (newcomer v) u j p);
      each_promise = λ j u p. ⊎_elim
          (λ (a : get_elem? first_part j ≡ home.some u). ⊎_elim
          (λ (b : (j ≡ id) × (dealt v ≡ u)). subst (IsPromised r.promised) b.1 (r.each_promise id v at))
          (λ (b : (j ≢ id) × (get_elem? vs j ≡ home.some u)). r.each_promise j u b.1) (at_set vs id j (dealt v) u a))
          (λ (a : (j ≡ length first_part) × (newcomer v ≡ u)). subst (IsPromised r.promised) a.1 (λ t y e. let q : ◌≡◌ {A = Stage (Published C X)} Outside (Inside t y) = e in cc))
          (last_at first_part (newcomer v) u j p);
      known = known_with_new r.doubt r.known;
      test = r.test;
      backed = r.backed;
      few = omega arith;
      untouched = λ every. r.untouched (λ j u p. dite (ℕ_discrete j id)
          (λ e. subst IsFresh (sym (same_view vs j id u v e p at)) (every id (dealt v) (at_longer first_part (newcomer v ∷ []) id (dealt v) (view_there vs id v (dealt v) at))))
          (λ ne. every j u (at_longer first_part (newcomer v ∷ []) j u (set_else vs id j (dealt v) ne ∙ p))));
    }

  pub splits : (id : ℕ) (v : V) → v.role ≡ Pass → 0 < v.next → v.next ≤ seats → Splits H id v (dealt v) (newcomer v)
  splits id v is_pass some_next room st k at = let vs : List V = st.views in open_state (λ ws hs. H record { words = ws; homes = hs; views = set vs id (dealt v) ++ newcomer v ∷ [] }) st k
      (holds k.cells (set vs id (dealt v) ++ newcomer v ∷ []) (deal k.cells vs k.rule id v at is_pass some_next room))

  module _ (c : Cells S) (vs : List V) (r : Ruled c vs) (id : ℕ) (v : V) (at : get_elem? vs id ≡ home.some v) (is_pass : v.role ≡ Pass)
      (other : ℕ) (w : V) (apart : other ≢ id) (there : get_elem? vs other ≡ home.some w) (passes : w.role ≡ Pass) (out : w.stage ≡ Outside) (out_list : w.list ≡ Outside) (no_past : w.past ≡ []) where
    abbrev kept : List V
    kept = set vs id (taken_in v w)

    abbrev left : List V
    left = set kept other spent

    abbrev all : List (Known C)
    all = opening ++ r.later

    fit_of : Fit vs all c.faults other w Pass
    fit_of = subst (Fit vs all c.faults other w) passes (r.each_seat other w there)

    in_kept : get_elem? kept other ≡ home.some w
    in_kept = set_else vs id other (taken_in v w) apart ∙ there

    dealer_left : get_elem? left id ≡ home.some (taken_in v w)
    dealer_left = set_else kept other id spent (λ e. apart (sym e)) ∙ view_there vs id v (taken_in v w) at

    not_other : (k : ℕ) → IsSpentAt vs k → k ≢ other
    not_other k z e = let same : z.0 ≡ w = same_view vs k other z.0 w e z.1 there in let q : Pass ≡ Spent = sym passes ∙ (ap (λ (x : V). x.role) (sym same) ∙ z.2) in cc

    spent_left : (k : ℕ) → IsSpentAt vs k → IsSpentAt left k
    spent_left k z = (z.0, set_else kept other k spent (not_other k z) ∙ (set_else vs id k (taken_in v w) (not_spent vs id v v at is_pass k z) ∙ z.1), z.2)

    length_left : length left ≡ length vs
    length_left = length-set kept other spent ∙ length-set vs id (taken_in v w)

    stages_left : map stage_of left ≡ map stage_of vs
    stages_left = map-set stage_of kept other spent ∙ (ap (λ (l : List (Stage (Published C X))). set l other Outside) (map-set stage_of vs id (taken_in v w) ∙ set_again (map stage_of vs) id v.stage (at_map stage_of vs id v at))
        ∙ set_again (map stage_of vs) other Outside (at_map stage_of vs other w there ∙ ap home.some out))

    lists_left : map list_of left ≡ map list_of vs
    lists_left = map-set list_of kept other spent ∙ (ap (λ (l : List (Stage (Offered C))). set l other Outside) (map-set list_of vs id (taken_in v w) ∙ set_again (map list_of vs) id v.list (at_map list_of vs id v at))
        ∙ set_again (map list_of vs) other Outside (at_map list_of vs other w there ∙ ap home.some out_list))

    known_left : (d : Option X) → IsKnown (doubt_of work) vs d → IsKnown (doubt_of work) left d
    known_left None k = tt
    known_left (Some d) k = ⊎_elim (λ (e : doubt_of work ≡ Some d). inl e)
        (λ (z : (seat : ℕ) × (x : V) × (get_elem? vs seat ≡ home.some x) × (IsIn d x.failed ⊎ IsFailedOf d x.past)). inr (dite (ℕ_discrete z.0 id)
        (λ e. (id, taken_in v w, dealer_left, ⊎_elim (λ (a : IsIn d v.failed). inl a) (λ (a : IsFailedOf d v.past). inr (inr a)) (subst (λ (x : V). IsIn d x.failed ⊎ IsFailedOf d x.past) (same_view vs z.0 id z.1 v e z.2 at) z.3)))
        (λ ne. dite (ℕ_discrete z.0 other)
        (λ e. (id, taken_in v w, dealer_left, inr (inl (⊎_elim (λ (a : IsIn d w.failed). a) (λ (a : IsFailedOf d w.past). absurd (subst (IsFailedOf d) no_past a)) (subst (λ (x : V). IsIn d x.failed ⊎ IsFailedOf d x.past) (same_view vs z.0 other z.1 w e z.2 there) z.3)))))
        (λ ne'. (z.0, z.1, set_else kept other z.0 spent ne' ∙ (set_else vs id z.0 (taken_in v w) ne ∙ z.2), z.3))))) k

    past_left : (p : TakenIn C X) → FitsPast vs all c.faults p → FitsPast left all c.faults p
    past_left p f = let z = f.2 in (f.0, f.1, (z.0, z.1, spent_left z.0 z.2), f.3)

    leads_left : (j : ℕ) (u : V) → Leads vs all c.faults j u → Leads left all c.faults j u
    leads_left j u f = ((λ more. let g = f.0 more in (g.0 ∙ sym length_left, g.1 ∙ ap (λ (k : ℕ). k + 1) (sym length_left))), all_map (FitsPast vs all c.faults) (FitsPast left all c.faults) past_left u.past f.1)

    fits_left : (j : ℕ) (u : V) (role : Role) → Fit vs all c.faults j u role → Fit left all c.faults j u role
    fits_left j u Pass f = (f.0, leads_left j u f.1)
    fits_left j u Spent f = f

    fit_here : Fit vs all c.faults id v Pass
    fit_here = subst (Fit vs all c.faults id v) is_pass (r.each_seat id v at)

    merge : Ruled c left
    merge = let g = fit_here in let f = fit_of in let long = length_left in record {
      later = r.later;
      doubt = r.doubt;
      promised = r.promised;
      work_lane = subst (λ (l : List (Stage (Published C X))). Lane WorkKind c.ticket c.serving c.work_home l (as_published all c.faults r.doubt)) (sym stages_left) r.work_lane;
      list_lane = subst (λ (l : List (Stage (Offered C))). Lane ListKind c.list_ticket c.list_serving c.list_home l (as_offered all r.promised)) (sym lists_left) r.list_lane;
      count_is = r.count_is;
      first_ones = r.first_ones;
      later_ones = subst (λ (k : ℕ). AllOf (λ (e : Known C). (0 < e.by) × (e.by ≤ k)) r.later) (sym long) r.later_ones;
      each_seat = λ j u p. ⊎_elim
          (λ (a : (j ≡ other) × (spent ≡ u)). subst (λ (z : V). Fit left all c.faults j z z.role) a.1 (refl, refl, refl, refl, refl))
          (λ (a : (j ≢ other) × (get_elem? kept j ≡ home.some u)). ⊎_elim
          (λ (b : (j ≡ id) × (taken_in v w ≡ u)). subst (λ (z : ℕ × V). Fit left all c.faults z.0 z.1 z.1.role) (λ i. (sym b.0 i, b.1 i)) (subst (Fit left all c.faults id (taken_in v w)) (sym is_pass)
          (g.0, ((leads_left id v g.1).0, ((f.0.1, f.0.2, (other, f.0.0, (spent, view_there kept other w spent in_kept, refl)), f.0.3), all_map (FitsPast vs all c.faults) (FitsPast left all c.faults) past_left v.past g.1.1)))))
          (λ (b : (j ≢ id) × (get_elem? vs j ≡ home.some u)). fits_left j u u.role (r.each_seat j u b.1)) (at_set vs id j (taken_in v w) u a.1))
          (at_set kept other j spent u p);
      each_promise = λ j u p. ⊎_elim
          (λ (a : (j ≡ other) × (spent ≡ u)). subst (IsPromised r.promised) a.1 (λ t y e. let q : ◌≡◌ {A = Stage (Published C X)} Outside (Inside t y) = e in cc))
          (λ (a : (j ≢ other) × (get_elem? kept j ≡ home.some u)). ⊎_elim
          (λ (b : (j ≡ id) × (taken_in v w ≡ u)). subst (IsPromised r.promised) b.1 (r.each_promise id v at))
          (λ (b : (j ≢ id) × (get_elem? vs j ≡ home.some u)). r.each_promise j u b.1) (at_set vs id j (taken_in v w) u a.1))
          (at_set kept other j spent u p);
      known = known_left r.doubt r.known;
      test = r.test;
      backed = r.backed;
      few = let l = r.few in omega arith;
      untouched = λ every. let both = every id (taken_in v w) dealer_left in r.untouched (λ j u p. dite (ℕ_discrete j id)
          (λ e. subst IsFresh (sym (same_view vs j id u v e p at)) (both.0, both.1.1))
          (λ ne. dite (ℕ_discrete j other)
          (λ e. subst IsFresh (sym (same_view vs j other u w e p there)) (both.1.0, subst (AllOf (λ (x : TakenIn C X). x.turns ≡ 0)) (sym no_past) tt))
          (λ ne'. every j u (set_else kept other j spent ne' ∙ (set_else vs id j (taken_in v w) ne ∙ p)))));
    }

  pub joins : (id : ℕ) (v : V) (other : ℕ) (w : V) → v.role ≡ Pass → w.role ≡ Pass → w.stage ≡ Outside → w.list ≡ Outside → w.past ≡ [] → Joins H id v other w (taken_in v w) spent
  joins id v other w is_pass passes out out_list no_past st k at apart there = let vs : List V = st.views in
      let there' : get_elem? vs other ≡ home.some w = sym (set_else vs id other (taken_in v w) apart) ∙ there in
      open_state (λ ws hs. H record { words = ws; homes = hs; views = set (set vs id (taken_in v w)) other spent }) st k
      (holds k.cells (set (set vs id (taken_in v w)) other spent) (merge k.cells vs k.rule id v at is_pass other w apart there' passes out out_list no_past))
