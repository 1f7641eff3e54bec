-- The rule at the making, and what is known at the end.
use Rattle.std.proofs.Common.{◌≡◌, ◌≢◌, ℕ, ◌+◌, ◌<◌, ◌≤◌, ◌⊎◌, List, [], ◌∷◌, ◌++◌, map, length, sym, refl, ap, ◌∙◌, subst, ⊎_elim, inl, inr, arith, append-nil, Option, Some, None}
use mathlib.Core.Option as home
use mathlib.Core.Option.{some-injective}
use mathlib.Core.Logic.{dite}
use native.Mathlib.Decide.{ℕ_discrete}
use lib.ListN.{get_elem?}
use Rattle.atomic_table.specs.Seated.{TableId}
use Rattle.atomic_table.specs.Table.{State, opening, Final, Seen}
use Rattle.turn_cell.specs.declared.view.Known.{Known}
use Rattle.turn_cell.specs.declared.view.Published.{Published}
use Rattle.turn_cell.specs.declared.view.Offered.{Offered}
use Rattle.turn_cell.specs.declared.view.Stage.{Stage}
use Rattle.turn_cell.specs.declared.view.Stage.TheVariants.{Outside, Inside}
use Rattle.turn_cell.specs.declared.view.TakenIn.{TakenIn}
use Rattle.turn_cell.specs.declared.view.Role.TheVariants.{Pass, Spent}
use Rattle.turn_cell.specs.declared.view.View.{View}
use Rattle.turn_cell.specs.Turns.{IsIn, AllOf, places_by, as_published, first_seat, IsFailedOf, IsKnown, IsFresh, FitsPast, FitsRole, stage_of, Knew, Continues}
use Rattle.turn_cell.specs.Sights.{Sight, AreOf, AreAll, IsOutside, ComesFrom, Gathers}
use Rattle.turn_cell.proofs.LaneSteps.{lone, first_lane, home_kept}
use Rattle.turn_cell.proofs.Views.{at_below, same_view, all_map, no_places, map_at}
use Rattle.turn_cell.proofs.Ends.{all_in, EndsKnownOf}
use Rattle.turn_cell.proofs.PassLists.{all_front}
use Rattle.turn_cell.proofs.Closing.{all_in_last, all_knew, all_are_fresh, all_faults, all_come}
use Rattle.twin_cell.specs.declared.parts.Kept.{Kept}
use Rattle.twin_cell.specs.declared.parts.Kept.TheVariants.{Work, Items, Nothing}
use Rattle.twin_cell.specs.Twins.{Cells, as_offered, list_of, IsPromised, IsListOf, IsWorkOf, RuleOfTwin, HoldsTwinRule}
use Rattle.twin_cell.specs.Sights.{MadeTwin}

module _ {C X F W R : Type 0} (stands : W → List (Known C) → Type 0) (fault_count : W → ℕ) (doubt_of : W → Option X) (fixed : W → F) (entries : R → List (Known C)) (spare : R → ℕ) (fits : List (Known C) → Type 0) (work : W) (list : R) (seats : ℕ) where
  abbrev V : Type 0
  V = View C X F

  abbrev S : Type 0
  S = Kept W R

  abbrev pub H : State S V → Type 0
  H = HoldsTwinRule stands fault_count doubt_of fixed entries spare fits work list seats

  abbrev Ruled : Cells S → List V → Type 0
  Ruled = RuleOfTwin stands fault_count doubt_of fixed entries spare fits work list seats

  abbrev WorkKind : Published C X → S → Type 0
  WorkKind = IsWorkOf stands fault_count doubt_of fixed (fixed work)

  abbrev ListKind : Offered C → S → Type 0
  ListKind = IsListOf entries spare

  abbrev first : V
  first = first_seat (entries list) (fixed work)

  first_known : (d : Option X) → IsKnown d (first ∷ []) d
  first_known None = tt
  first_known (Some c) = inl refl

  no_first : (xs : List (Known C)) → AllOf (λ (e : Known C). e.by ≡ 0) xs → places_by 1 xs ≡ []
  no_first xs zeros = no_places 1 1 xs (all_map (λ (e : Known C). e.by ≡ 0) (λ (e : Known C). e.by ≢ 1) (λ e z x. omega arith) xs zeros)

  abbrev first_cells : Cells S
  first_cells = record {
    ticket = 0;
    serving = 0;
    list_ticket = 0;
    list_serving = 0;
    count = length (entries list);
    faults = fault_count work;
    work_home = home.some (Work work);
    list_home = home.some (Items list);
  }

  pub opens : 0 < seats → AllOf (λ (e : Known C). e.by ≡ 0) (entries list) → fits (entries list) → stands work (entries list)
      → H (opening (0 ∷ 0 ∷ 0 ∷ 0 ∷ length (entries list) ∷ fault_count work ∷ []) (Work work ∷ Items list ∷ []) first)
  opens some_seat zeros test stands_now = let same : entries list ≡ entries list ++ [] = sym (append-nil (entries list)) in record {
    cells = first_cells;
    words_are = refl;
    homes_are = refl;
    rule = record {
      later = [];
      doubt = doubt_of work;
      promised = 0;
      work_lane = first_lane WorkKind (as_published (entries list ++ []) (fault_count work) (doubt_of work)) (Work work) (subst (stands work) same stands_now, refl, refl, refl);
      list_lane = first_lane ListKind (as_offered (entries list ++ []) 0) (Items list) (same, omega arith);
      count_is = ap length same;
      first_ones = zeros;
      later_ones = tt;
      each_seat = λ j v p. let l = lone first v j p in subst (λ (z : ℕ × V). FitsRole (λ f. fits) (fixed work) (first ∷ []) (entries list ++ []) (fault_count work) z.0 z.1 z.1.role) (λ i. (sym l.0 i, l.1 i))
          ((refl, ([], refl), no_first (entries list ++ []) (subst (AllOf (λ (e : Known C). e.by ≡ 0)) same zeros), omega arith, refl, test, omega arith), ((λ _. (refl, refl)), tt));
      each_promise = λ j v p. let l = lone first v j p in subst (IsPromised 0) l.1 (λ t y e. let q : ◌≡◌ {A = Stage (Published C X)} Outside (Inside t y) = e in cc);
      known = first_known (doubt_of work);
      test = subst fits same test;
      backed = (work, subst (stands work) same stands_now, refl);
      few = omega arith;
      untouched = λ _. (refl, refl);
    };
  }

  -- all seats but this one were taken in
  abbrev pub AllIn : V → Type 0
  AllIn v = (n : ℕ) → 0 < n → n ≤ seats → (n ≡ v.number) ⊎ ((p : TakenIn C X) × IsIn p v.past × (p.number ≡ n))

  -- the doubt was there at the making, or one of the passes has it as failed
  abbrev pub EndsKnown : V → Option X → Type 0
  EndsKnown = EndsKnownOf {V = W} {C = C} (λ w. []) fault_count doubt_of fixed (λ f l. Unit {0}) work seats

  module _ (c : Cells S) (vs : List V) (r : Ruled c vs) (id : ℕ) (v : V) (at : get_elem? vs id ≡ home.some v) (is_pass : v.role ≡ Pass) (all_in_it : AllIn v) where
    abbrev log : List (Known C)
    log = entries list ++ r.later

    fit : FitsRole (λ f. fits) (fixed work) vs log c.faults id v Pass
    fit = subst (FitsRole (λ f. fits) (fixed work) vs log c.faults id v) is_pass (r.each_seat id v at)

    others_spent : (j : ℕ) (u : V) → get_elem? vs j ≡ home.some u → j ≢ id → u.role ≡ Spent
    others_spent j u p ne = let inside = at_below vs j u p in let few = r.few in let number : v.number ≡ id + 1 = fit.0.0 in ⊎_elim
        (λ (e : j + 1 ≡ v.number). absurd (ne (omega arith)))
        (λ (z : (p : TakenIn C X) × IsIn p v.past × (p.number ≡ j + 1)). let f = (all_in (FitsPast vs log c.faults) v.past z.0 fit.1.1 z.1).2 in let a : z.0.number ≡ f.0 + 1 = f.1 in let b : z.0.number ≡ j + 1 = z.2 in let same : f.0 ≡ j = omega arith in
        ap (λ (x : V). x.role) (same_view vs j f.0 u f.2.0 (sym same) p f.2.1) ∙ f.2.2)
        (all_in_it (j + 1) (omega arith) (omega arith))

    spent_fits : (j : ℕ) (u : V) → get_elem? vs j ≡ home.some u → j ≢ id → FitsRole (λ f. fits) (fixed work) vs log c.faults j u Spent
    spent_fits j u p ne = subst (FitsRole (λ f. fits) (fixed work) vs log c.faults j u) (others_spent j u p ne) (r.each_seat j u p)

    nobody : v.stage ≡ Outside → (j u : ℕ) (y : Published C X) → get_elem? (map stage_of vs) j ≡ home.some (Inside u y) → ⊥
    nobody out j u y p = let m = map_at stage_of vs j (Inside u y) p in dite (ℕ_discrete j id)
        (λ e. let same : m.0 ≡ v = same_view vs j id m.0 v e m.1 at in let q : Outside ≡ Inside u y = sym out ∙ (ap (λ (x : V). x.stage) (sym same) ∙ m.2) in cc)
        (λ ne. let q : Outside ≡ Inside u y = sym (spent_fits j m.0 m.1 ne).0 ∙ m.2 in cc)

    nobody_lists : v.list ≡ Outside → (j u : ℕ) (y : Offered C) → get_elem? (map list_of vs) j ≡ home.some (Inside u y) → ⊥
    nobody_lists out j u y p = let m = map_at list_of vs j (Inside u y) p in dite (ℕ_discrete j id)
        (λ e. let same : m.0 ≡ v = same_view vs j id m.0 v e m.1 at in let q : Outside ≡ Inside u y = sym out ∙ (ap (λ (x : V). x.list) (sym same) ∙ m.2) in cc)
        (λ ne. let q : Outside ≡ Inside u y = sym (spent_fits j m.0 m.1 ne).4 ∙ m.2 in cc)

    ends_known : (d : Option X) → IsKnown (doubt_of work) vs d → EndsKnown v d
    ends_known None k = tt
    ends_known (Some d) k = ⊎_elim (λ (e : doubt_of work ≡ Some d). inl e)
        (λ (z : (seat : ℕ) × (x : V) × (get_elem? vs seat ≡ home.some x) × (IsIn d x.failed ⊎ IsFailedOf d x.past)). dite (ℕ_discrete z.0 id)
        (λ e. inr (subst (λ (x : V). IsIn d x.failed ⊎ IsFailedOf d x.past) (same_view vs z.0 id z.1 v e z.2 at) z.3))
        (λ ne. let f = spent_fits z.0 z.1 z.2 ne in absurd (⊎_elim (λ (i : IsIn d z.1.failed). subst (IsIn d) f.1 i) (λ (i : IsFailedOf d z.1.past). subst (IsFailedOf d) f.2 i) z.3))) k

    all_fresh : IsFresh v → (j : ℕ) (u : V) → get_elem? vs j ≡ home.some u → IsFresh u
    all_fresh f j u p = dite (ℕ_discrete j id)
        (λ e. subst IsFresh (sym (same_view vs j id u v e p at)) f)
        (λ ne. let k = spent_fits j u p ne in (k.3, subst (AllOf (λ (x : TakenIn C X). x.turns ≡ 0)) (sym k.2) tt))

  -- what is known at the end of the work w, the list l and the view that is left
  pub record Closes (v : V) (w : W) (l : R) : Type 0 where
    pub stands_for : stands w (entries l)
    pub continues : Continues (entries list) seats (entries l)
    pub knew : Knew (entries l) v.number v.seen v.mine
    pub others : AllOf (λ (p : TakenIn C X). Knew (entries l) p.number p.seen p.mine) v.past
    pub own_faults : v.own_faults ≤ fault_count w
    pub other_faults : AllOf (λ (p : TakenIn C X). p.own_faults ≤ fault_count w) v.past
    pub doubt : EndsKnown v (doubt_of w)
    pub same_fixed : fixed w ≡ fixed work
    pub test : fits (entries l)
    pub untouched : IsFresh v → (w ≡ work) × (l ≡ list)

  -- over the history log, of which all is known
  over : (v : V) (w : W) (l : R) (later : List (Known C)) (q : ℕ) (d : Option X) (n : ℕ) → WorkKind (as_published (entries list ++ later) q d) (Work w) → ListKind (as_offered (entries list ++ later) n) (Items l) → AllOf (λ (e : Known C). (0 < e.by) × (e.by ≤ seats)) later → EndsKnown v d → fits (entries list ++ later)
      → Knew (entries list ++ later) v.number v.seen v.mine → AllOf (λ (p : TakenIn C X). Knew (entries list ++ later) p.number p.seen p.mine) v.past → v.own_faults ≤ q → AllOf (λ (p : TakenIn C X). p.own_faults ≤ q) v.past → (IsFresh v → (w ≡ work) × (l ≡ list)) → Closes v w l
  over v w l later q d n k m those known test knew others own other_own untouched = let e : entries list ++ later ≡ entries l = sym m.0 in record {
    stands_for = subst (stands w) e k.0;
    continues = (later, m.0, those);
    knew = subst (λ (x : List (Known C)). Knew x v.number v.seen v.mine) e knew;
    others = subst (λ (x : List (Known C)). AllOf (λ (p : TakenIn C X). Knew x p.number p.seen p.mine) v.past) e others;
    own_faults = subst (λ (x : ℕ). v.own_faults ≤ x) (sym k.1) own;
    other_faults = subst (λ (x : ℕ). AllOf (λ (p : TakenIn C X). p.own_faults ≤ x) v.past) (sym k.1) other_own;
    doubt = subst (EndsKnown v) (sym k.2) known;
    same_fixed = k.3;
    test = subst fits e test;
    untouched = untouched;
  }

  is_work : (f : F) (y : Published C X) (o : S) → IsWorkOf stands fault_count doubt_of fixed f y o → (w : W) × (o ≡ Work w)
  is_work f y (Work w) k = (w, refl)
  is_work f y (Items l) k = absurd k
  is_work f y Nothing k = absurd k

  is_list : (y : Offered C) (o : S) → IsListOf entries spare y o → (l : R) × (o ≡ Items l)
  is_list y (Work w) k = absurd k
  is_list y (Items l) k = (l, refl)
  is_list y Nothing k = absurd k

  pub closes : (id : ℕ) (v : V) (st : State S V) → Seen H id v st → v.role ≡ Pass → v.stage ≡ Outside → v.list ≡ Outside → AllIn v
      → (w : W) × (l : R) × (get_elem? st.homes 0 ≡ home.some (home.some (Work w))) × (get_elem? st.homes 1 ≡ home.some (home.some (Items l))) × Closes v w l
  closes id v st seen is_pass out out_list every = let k = seen.0 in let at = seen.1 in let r = k.rule in let c = k.cells in let vs : List V = st.views in
      let g = fit c vs r id v at is_pass every in
      let few = r.few in
      let y : Published C X = as_published (entries list ++ r.later) c.faults r.doubt in
      let z : Offered C = as_offered (entries list ++ r.later) r.promised in
      let o = home_kept WorkKind (map stage_of vs) y (nobody c vs r id v at is_pass every out) c.work_home r.work_lane.kept in
      let o' = home_kept ListKind (map list_of vs) z (nobody_lists c vs r id v at is_pass every out_list) c.list_home r.list_lane.kept in
      let w = is_work (fixed work) y o.0 o.2 in
      let l = is_list z o'.0 o'.2 in
      let e = over v w.0 l.0 r.later c.faults r.doubt r.promised (subst (WorkKind y) w.1 o.2) (subst (ListKind z) l.1 o'.2)
      (all_map (λ (e : Known C). (0 < e.by) × (e.by ≤ length vs)) (λ (e : Known C). (0 < e.by) × (e.by ≤ seats)) (λ e z. (z.0, omega arith)) r.later r.later_ones)
      (ends_known c vs r id v at is_pass every r.doubt r.known) r.test (g.0.1, g.0.2)
      (all_map (FitsPast vs (entries list ++ r.later) c.faults) (λ (p : TakenIn C X). Knew (entries list ++ r.later) p.number p.seen p.mine) (λ p z. (z.0, z.1)) v.past g.1.1)
      g.0.3 (all_map (FitsPast vs (entries list ++ r.later) c.faults) (λ (p : TakenIn C X). p.own_faults ≤ c.faults) (λ p z. z.3) v.past g.1.1)
      (λ f. let u = r.untouched (all_fresh c vs r id v at is_pass every f) in
      let is_w : Work w.0 ≡ Work work = sym w.1 ∙ some-injective o.0 (Work work) (sym o.1 ∙ u.0) in
      let is_l : Items l.0 ≡ Items list = sym l.1 ∙ some-injective o'.0 (Items list) (sym o'.1 ∙ u.1) in
      let same_w : w.0 ≡ work = cc in let same_l : l.0 ≡ list = cc in (same_w, same_l)) in
      (w.0, l.0, ap (λ (x : List (home.Option S)). get_elem? x 0) k.homes_are ∙ ap home.some (o.1 ∙ ap home.some w.1), ap (λ (x : List (home.Option S)). get_elem? x 1) k.homes_are ∙ ap home.some (o'.1 ∙ ap home.some l.1), e)

  pub record Closed (ps : List (Sight C X F)) (w : W) (l : R) : Type 0 where
    pub stands_for : stands w (entries l)
    pub history : Continues (entries list) seats (entries l)
    pub passes : AllOf (λ (p : Sight C X F). Knew (entries l) p.view.number p.view.seen p.view.mine) ps
    pub faults : AllOf (λ (p : Sight C X F). p.view.own_faults ≤ fault_count w) ps
    pub doubt : ComesFrom (doubt_of work) ps (doubt_of w)
    pub same_fixed : fixed w ≡ fixed work
    pub test : fits (entries l)
    pub untouched : AllOf (λ (p : Sight C X F). p.view.turns ≡ 0) ps → (w ≡ work) × (l ≡ list)

  pub closed : (id : ℕ) (v : V) (cell : TableId) (ps : List (Sight C X F)) (words : List ℕ) (slots : List S) → Gathers ps v → AreOf cell ps → AreAll seats ps → v.role ≡ Pass
      → Final (Seen H id v) words slots → (w : W) × (l : R) × (get_elem? slots 0 ≡ home.some (Work w)) × (get_elem? slots 1 ≡ home.some (Items l)) × Closed ps w l
  closed id v cell ps words slots g of all is_pass final =
      let each = all_front (λ (q : Sight C X F). (q.cell ≡ cell) × IsOutside q) g.0 g.1 (subst (AreOf cell) g.2 of) in
      let out : v.stage ≡ Outside = ap (λ (w : V). w.stage) g.3 ∙ each.1.1.0 in
      let out_list : v.list ≡ Outside = ap (λ (w : V). w.list) g.3 ∙ each.1.1.1 in
      let r = closes id v final.0 final.1 is_pass out out_list (all_in_last seats ps v g all) in let e = r.4 in (
        r.0,
        r.1,
        final.4 0 (Work r.0) r.2,
        final.4 1 (Items r.1) r.3,
        record {
          stands_for = e.stands_for;
          history = e.continues;
          passes = all_knew (entries r.1) ps v g e.knew e.others;
          faults = all_faults (fault_count r.0) ps v g e.own_faults e.other_faults;
          doubt = all_come {V = W} (λ w. []) fault_count doubt_of fixed (λ f l. Unit {0}) work seats ps v g (doubt_of r.0) e.doubt;
          same_fixed = e.same_fixed;
          test = e.test;
          untouched = λ all. e.untouched (all_are_fresh ps v g all);
        },
      )

module _ {C X F W R : Type 0} (stands : W → List (Known C) → Type 0) (fault_count : W → ℕ) (doubt_of : W → Option X) (fixed : W → F) (entries : R → List (Known C)) (spare : R → ℕ) (fits : List (Known C) → Type 0) where
  pub at_end : (made inside : MadeTwin W R) → inside ≡ made → (id : ℕ) (v : View C X F) (ps : List (Sight C X F)) (words : List ℕ) (slots : List (Kept W R)) → Gathers ps v → AreOf made.cell ps → AreAll made.seats ps → v.role ≡ Pass
      → Final (Seen (HoldsTwinRule stands fault_count doubt_of fixed entries spare fits inside.work inside.list inside.seats) id v) words slots → (o o' : Kept W R) → get_elem? slots 0 ≡ home.some o → get_elem? slots 1 ≡ home.some o'
      → (w : W) × (l : R) × (o ≡ Work w) × (o' ≡ Items l) × Closed stands fault_count doubt_of fixed entries spare fits made.work made.list made.seats ps w l
  at_end made inside same id v ps words slots g of all is_pass final o o' at at' =
      let r = closed stands fault_count doubt_of fixed entries spare fits made.work made.list made.seats id v made.cell ps words slots g of all is_pass (subst (λ (z : MadeTwin W R). Final (Seen (HoldsTwinRule stands fault_count doubt_of fixed entries spare fits z.work z.list z.seats) id v) words slots) same final) in
      (r.0, r.1, home.some-injective o (Work r.0) (sym at ∙ r.2), home.some-injective o' (Items r.1) (sym at' ∙ r.3), r.4)
