-- What a pull brings into the list.
use Rattle.std.proofs.Common.{◌≡◌, ◌≢◌, ◌⊎◌, inl, inr, ⊎_elim, ℕ, ◌+◌, ◌<◌, Bool, true, false, cond, eqb, eq-eqb, ne_eqb, List, [], ◌∷◌, ◌++◌, length, length-append, append_assoc, Option, Some, Result, Ok, Err, refl, sym, ◌∙◌, ap, subst, arith}
use Rattle.std.proofs.lemmas.List.{append-nil}
use Rattle.patch_meaning.specs.Patch.{IsPatch}
use Rattle.delta_base.specs.declared.id.Id.{Id}
use Rattle.disk_model.specs.declared.disk.Disk.{Ghosts}
use Rattle.log_base.specs.declared.limits.LogLimits.{LogLimits}
use Rattle.delta_client.specs.Exchanges.{WasSaid}
use Rattle.rpc_answers.specs.declared.answer.Answer.TheVariants as origin_says
use Rattle.chain_core.specs.declared.answer.LogAnswer.{LogAnswer}
use Rattle.chain_core.specs.declared.answer.LogAnswer.TheVariants as answers
use Rattle.chain_core.specs.declared.chain.Patch.{Patch}
use Rattle.chain_core.specs.Replies.{append, answered}
use Rattle.patch_log.specs.Log.{IsSound, bare}
use Rattle.patch_log.specs.Opening.{IsPatchRead}
use Rattle.patch_log.specs.State.{LogView}
use Rattle.turn_cell.specs.declared.view.Known.{Known}
use Rattle.turn_cell.specs.Knowing.{KnowsItsOwn, IsQuiet, SeesOn, pass_number, seen_of, mine_of, failed_of}
use Rattle.turn_cell.specs.Turns.{AllOf, IsIn, places_by, places_from}
use Rattle.turn_cell.proofs.Views.{places_append}
use Rattle.shared_log.specs.declared.value.Placed.{Placed}
use Rattle.shared_log.specs.History.{LogSight}
use Rattle.shared_log.specs.Legal.{BroughtRun, LegalOnLog}
use Rattle.catch_up.specs.declared.end.RunEnd.{RunEnd}
use Rattle.catch_up.specs.Runs as runs
use Rattle.catch_up.specs.Runs.{FetchEnds, IsRunTo, RestIs, Run, TakenText, TakesAll, said_in, step_texts, texts_said}
use Rattle.mirror.specs.declared.ends.PullEnd.{PullEnd}
use Rattle.mirror.specs.declared.ends.PullRefusal.{PullRefusal}
use Rattle.mirror.specs.Pulling.{ComesOf, ShowsLog, TakesText, unasked, asked, Pulled}
use Rattle.mirror.specs.Following.{BringsOnly, IsReadFrom}
use Rattle.mirror.proofs.Answered.{called_went, told_of, takes_went}

-- ---- lists

pub all_behind : {A : Type 0} (P : A → Type 0) (xs ys : List A) → AllOf P xs → AllOf P ys → AllOf P (xs ++ ys)
all_behind P [] ys first second = second
all_behind P (x ∷ xs) ys first second = (first.0, all_behind P xs ys first.1 second)

pub all_so : {A : Type 0} (P Q : A → Type 0) (xs : List A) → ((x : A) → P x → Q x) → AllOf P xs → AllOf Q xs
all_so P Q [] so all = tt
all_so P Q (x ∷ xs) so all = (so x all.0, all_so P Q xs so all.1)

pub in_right : {A : Type 0} (x : A) (xs ys : List A) → IsIn x ys → IsIn x (xs ++ ys)
in_right x [] ys is = is
in_right x (y ∷ xs) ys is = inr (in_right x xs ys is)

pub in_left : {A : Type 0} (x : A) (xs ys : List A) → IsIn x xs → IsIn x (xs ++ ys)
in_left x [] ys is = absurd is
in_left x (y ∷ xs) ys (inl is) = inl is
in_left x (y ∷ xs) ys (inr is) = inr (in_left x xs ys is)

-- ---- entries of one number

module _ {C : Type 0} where
  abbrev IsOther : ℕ → Known C → Type 0
  IsOther n known = known.by ≢ n

  by_test : (n k : ℕ) (known : Known C) (rest : List ℕ) (test : Bool) → eqb known.by n ≡ test → length (cond test (k ∷ rest) rest) ≡ 0 → IsOther n known × (length rest ≡ 0)
  by_test n k known rest true is none = absurd (cc)
  by_test n k known rest false is none = (λ same. let yes = eq-eqb known.by n same in absurd (cc), none)

  none_from : (n k : ℕ) (more : List (Known C)) → length (places_from k n more) ≡ 0 → AllOf (IsOther n) more
  none_from n k [] none = tt
  none_from n k (known ∷ more) none =
      let so = by_test n k known (places_from (k + 1) n more) (eqb known.by n) refl none in
      (so.0, none_from n (k + 1) more so.1)

  counted_behind : (n : ℕ) (front more : List (Known C)) → length (places_by n (front ++ more)) ≡ length (places_by n front) + length (places_from (1 + length front) n more)
  counted_behind n front more = ap length (places_append n 1 front more) ∙ length-append (places_by n front) (places_from (1 + length front) n more)

  -- where the places of a number stay the same the entries behind are of others
  pub others_behind : (n : ℕ) (front more : List (Known C)) → places_by n (front ++ more) ≡ places_by n front → AllOf (IsOther n) more
  others_behind n front more same =
      let count = counted_behind n front more in
      let still = ap length same in
      none_from n (1 + length front) more (omega (arith, count, still))

  -- where one place came and the last entry has it, those before it are of others
  others_before : (n : ℕ) (front more : List (Known C)) (last : Known C) (mine : List ℕ) (place : ℕ) → last.by ≡ n → places_by n front ≡ mine → places_by n ((front ++ more) ++ last ∷ []) ≡ mine ++ place ∷ [] → AllOf (IsOther n) more
  others_before n front more last mine place number own grown =
      let whole = counted_behind n (front ++ more) (last ∷ []) in
      let part = counted_behind n front more in
      let one : length (places_from (1 + length (front ++ more)) n (last ∷ [])) ≡ 1 = rw (eq-eqb last.by n number) refl in
      let first = ap length own in
      let all = ap length grown ∙ length-append mine (place ∷ []) in
      none_from n (1 + length front) more (omega (arith, whole, part, one, first, all))

-- there are none of a number where all are by nobody
pub none_by : {C : Type 0} (n : ℕ) (history : List (Known C)) → 0 < n → AllOf (λ known. known.by ≡ 0) history → places_by n history ≡ []
none_by {C} n history some all = from 1 history all
  where
    zero_is_not : eqb 0 n ≡ false
    zero_is_not = ne_eqb 0 n (λ (same : 0 ≡ n). omega (arith, some, same))

    from : (k : ℕ) (history : List (Known C)) → AllOf (λ known. known.by ≡ 0) history → places_from k n history ≡ []
    from k [] all = refl
    from k (known ∷ history) all = rw (ap (λ (m : ℕ). eqb m n) all.0 ∙ zero_is_not) (from (k + 1) history all.1)

-- ---- calls

module _ (Such : Patch → Type 0) where
  abbrev OtherOrSuch : ℕ → Known Placed → Type 0
  OtherOrSuch n known = (known.by ≢ n) ⊎ Such known.content.patch

  pub brings_none : (p q : LogSight) → q ≡ p → BringsOnly Such p q
  brings_none p q same = subst (λ (it : LogSight). BringsOnly Such p it) (sym same) (record { behind = []; sees = sym (append-nil (seen_of p)); brought = tt; left = []; failed = sym (append-nil (failed_of p)); doubted = tt })

  pub brings_both : (p m q : LogSight) → pass_number m ≡ pass_number p → BringsOnly Such p m → BringsOnly Such m q → BringsOnly Such p q
  brings_both p m q number first second = record {
    behind = first.behind ++ second.behind;
    sees = second.sees ∙ (ap (λ (l : List (Known Placed)). l ++ second.behind) first.sees ∙ append_assoc (seen_of p) first.behind second.behind);
    brought = all_behind (OtherOrSuch (pass_number p)) first.behind second.behind first.brought (subst (λ (n : ℕ). AllOf (OtherOrSuch n) second.behind) number second.brought);
    left = first.left ++ second.left;
    failed = second.failed ∙ (ap (λ (l : List (List Patch)). l ++ second.left) first.failed ∙ append_assoc (failed_of p) first.left second.left);
    doubted = all_behind (AllOf Such) first.left second.left first.doubted second.doubted;
  }

  -- the entries that came while its own stayed the same
  came_of_others : (p q : LogSight) → KnowsItsOwn p → (on : SeesOn p q) → mine_of q ≡ mine_of p → AllOf (OtherOrSuch (pass_number p)) on.2.0
  came_of_others p q own on mine =
      let n = pass_number p in
      let behind : List (Known Placed) = on.2.0 in
      let places : places_by n (seen_of p ++ behind) ≡ places_by n (seen_of p) =
      (λ i. places_by (sym on.0.2 i) (on.2.1 i)) ∙ (on.3 ∙ (mine ∙ sym own)) in
      all_so (IsOther n) (OtherOrSuch n) behind (λ known is. inl is) (others_behind n (seen_of p) behind places)

  pub asking_brings : (p q : LogSight) → KnowsItsOwn p → SeesOn p q → IsQuiet p q → BringsOnly Such p q
  asking_brings p q own on quiet = record {
    behind = on.2.0;
    sees = sym on.2.1;
    brought = came_of_others p q own on quiet.0;
    left = [];
    failed = quiet.2 ∙ sym (append-nil (failed_of p));
    doubted = tt;
  }

  accepted_brings : (p q : LogSight) (patch : Patch) (place : ℕ) → KnowsItsOwn p → SeesOn p q → BroughtRun (patch ∷ []) place p q → Such patch → BringsOnly Such p q
  accepted_brings p q patch place own on b such =
      let n = pass_number p in
      let others : List (Known Placed) = b.had_seen.0 in
      let last : Known Placed = record { content = record { patch = patch; rest = 0 }; by = n } in
      let sees : seen_of q ≡ (seen_of p ++ others) ++ last ∷ [] = b.sees ∙ ap (λ (l : List (Known Placed)). l ++ last ∷ []) (sym b.had_seen.1) in
      let places : places_by n ((seen_of p ++ others) ++ last ∷ []) ≡ mine_of p ++ (length b.before + 1) ∷ [] =
      (λ i. places_by (sym on.0.2 i) (sym sees i)) ∙ (on.3 ∙ b.mine) in
      record {
        behind = others ++ last ∷ [];
        sees = sees ∙ append_assoc (seen_of p) others (last ∷ []);
        brought = all_behind (OtherOrSuch n) others (last ∷ [])
            (all_so (IsOther n) (OtherOrSuch n) others (λ known is. inl is) (others_before n (seen_of p) others last (mine_of p) (length b.before + 1) refl own places))
            (inr such, tt);
        left = [];
        failed = b.failed ∙ sym (append-nil (failed_of p));
        doubted = tt;
      }

  appended_brings : (limits : LogLimits) (p q : LogSight) (patch : Patch) (answer : LogAnswer) → KnowsItsOwn p → LegalOnLog limits p (append patch) (answered answer) q → Such patch → BringsOnly Such p q
  appended_brings limits p q patch (answers.Accepted at) own legal such = accepted_brings p q patch at own legal.0 (told_of limits p q patch (answers.Accepted at) legal).0 such
  appended_brings limits p q patch (answers.AcceptedRun first last) own legal such = absurd (told_of limits p q patch (answers.AcceptedRun first last) legal)
  appended_brings limits p q patch (answers.Known at same) own legal such = asking_brings p q own legal.0 (told_of limits p q patch (answers.Known at same) legal).1
  appended_brings limits p q patch (answers.Conflict has head named) own legal such = asking_brings p q own legal.0 (told_of limits p q patch (answers.Conflict has head named) legal).1
  appended_brings limits p q patch (answers.Full what have limit) own legal such = asking_brings p q own legal.0 (told_of limits p q patch (answers.Full what have limit) legal).1
  appended_brings limits p q patch answers.DiskFault own legal such =
      let told = told_of limits p q patch answers.DiskFault legal in
      let came = came_of_others p q own legal.0 told.2 in
      ⊎_elim
      (λ (none : failed_of q ≡ failed_of p). record { behind = legal.0.2.0; sees = sym legal.0.2.1; brought = came; left = []; failed = none ∙ sym (append-nil (failed_of p)); doubted = tt })
      (λ (one : failed_of q ≡ failed_of p ++ (patch ∷ []) ∷ []). record { behind = legal.0.2.0; sees = sym legal.0.2.1; brought = came; left = (patch ∷ []) ∷ []; failed = one; doubted = ((such, tt), tt) })
      told.3
  appended_brings limits p q patch answers.OutOfMemory own legal such = asking_brings p q own legal.0 (told_of limits p q patch answers.OutOfMemory legal).1

  module _ {D : Type 0} (disks : Ghosts D) (origin : LogView D) where
    shown_brings : (p q : LogSight) (version : ℕ) (head : Option Id) → KnowsItsOwn p → ShowsLog disks origin p version head q → BringsOnly Such p q
    shown_brings p q version head own shown = asking_brings p q own shown.0.legal.0 shown.0.legal.1.1

    comes_brings : (version : ℕ) (theirs : Option Id) (answer : LogAnswer) (p q : LogSight) (result : Result ℕ PullRefusal) → KnowsItsOwn p → ComesOf disks origin version theirs answer p result q → BringsOnly Such p q
    comes_brings version theirs (answers.Accepted at) p q result own comes = brings_none p q comes.1
    comes_brings version theirs (answers.AcceptedRun first last) p q result own comes = absurd comes
    comes_brings version theirs (answers.Known at same) p q result own (inl is) = brings_none p q is.2
    comes_brings version theirs (answers.Known at same) p q result own (inr is) = shown_brings p q is.1.0 is.1.1 own is.1.3
    comes_brings version theirs (answers.Conflict has head named) p q result own comes = brings_none p q comes.1
    comes_brings version theirs (answers.Full what have limit) p q result own comes = brings_none p q comes.1
    comes_brings version theirs answers.DiskFault p q result own comes = brings_none p q comes.1
    comes_brings version theirs answers.OutOfMemory p q result own comes = brings_none p q comes.1

    takes_brings : (p q : LogSight) (version : ℕ) (text : List ℕ) (result : Result ℕ PullRefusal) → KnowsItsOwn p → ((patch : Patch) → IsPatchRead text (patch ∷ []) → Such patch) → TakesText disks origin p version text result q → BringsOnly Such p q
    takes_brings p q version text result own such (unasked refusal is ends same) = brings_none p q same
    takes_brings p q version text result own such (asked a) =
        let went = called_went disks origin p a.mid (append a.patch) (answered a.answer) a.appended in
        brings_both p a.mid q went.number (appended_brings origin.limits p a.mid a.patch a.answer own a.appended.0.legal (such a.patch a.read))
        (comes_brings version (Some a.patch.id) a.answer a.mid q result (went.own own) a.comes)

    -- ---- a run

    module _ (said : List WasSaid) (such : (text : List ℕ) → IsIn (Ok (origin_says.Patch text)) said → (patch : Patch) → IsPatchRead text (patch ∷ []) → Such patch) where
      abbrev Takes : LogSight → ℕ → List ℕ → Result ℕ PullRefusal → LogSight → Type 0
      Takes = TakesText disks origin

      abbrev WasSaidAmong : TakenText → Type 0
      WasSaidAmong step = IsIn (Ok (origin_says.Patch step.text)) said

      all_bring : (theirs from : ℕ) (before : LogSight) (steps : List TakenText) (reached : ℕ) (after : LogSight) → AllOf WasSaidAmong steps → KnowsItsOwn before → TakesAll Takes theirs from before steps reached after → BringsOnly Such before after × (pass_number after ≡ pass_number before) × KnowsItsOwn after
      all_bring theirs from before [] reached after texts own all = (brings_none before after all.1, ap pass_number all.1, subst KnowsItsOwn (sym all.1) own)
      all_bring theirs from before (step ∷ steps) reached after texts own all =
          let went = takes_went disks origin before all.0 step.version step.text (Ok step.reached) all.3 in
          let here = takes_brings before all.0 step.version step.text (Ok step.reached) own (such step.text texts.0) all.3 in
          let rest = all_bring theirs step.reached all.0 steps reached after texts.1 (went.own own) all.4 in
          (brings_both before all.0 after went.number here rest.0, rest.1 ∙ went.number, rest.2)

      ended_brings : (version : ℕ) (before : LogSight) (last : List WasSaid) (end : RunEnd PullRefusal) (after : LogSight) → ((x : WasSaid) → IsIn x last → IsIn x said) → KnowsItsOwn before → FetchEnds Takes version before last end after → BringsOnly Such before after
      ended_brings version before last end after within own (runs.refused text refusal is took ends) =
          takes_brings before after version text (Err refusal) own (such text (within (Ok (origin_says.Patch text)) (subst (λ (l : List WasSaid). IsIn (Ok (origin_says.Patch text)) l) (sym is) (inl refl)))) took
      ended_brings version before last end after within own (runs.answered a is refuses same) = brings_none before after same
      ended_brings version before last end after within own (runs.faulty fault is ends same) = brings_none before after same
      ended_brings version before last end after within own (runs.not_asked is ends same) = brings_none before after same

      rest_brings : (theirs from : ℕ) (before : LogSight) (steps : List TakenText) (last : List WasSaid) (end : RunEnd PullRefusal) (after : LogSight) → AllOf WasSaidAmong steps → ((x : WasSaid) → IsIn x last → IsIn x said) → KnowsItsOwn before → RestIs Takes theirs from before steps last end after → BringsOnly Such before after
      rest_brings theirs from before steps last end after texts within own (runs.stopped reached between all less ends) =
          let so = all_bring theirs from before steps reached between texts own all in
          brings_both before between after so.1 so.0 (ended_brings (reached + 1) between last end after within so.2 ends)
      rest_brings theirs from before steps last end after texts within own (runs.caught_up reached all done none ends) = (all_bring theirs from before steps reached after texts own all).0

      run_brings : (p q : LogSight) (it : Run) (end : RunEnd PullRefusal) → AllOf WasSaidAmong it.steps → ((x : WasSaid) → IsIn x it.last → IsIn x said) → KnowsItsOwn p → IsRunTo Takes (ShowsLog disks origin) p it end q → BringsOnly Such p q
      run_brings p q it end texts within own (runs.unanswered shown steps last ends) = shown_brings p q it.mine it.have own shown
      run_brings p q it end texts within own (runs.compared theirs head shown log steps last ends) = shown_brings p q it.mine it.have own shown
      run_brings p q it end texts within own (runs.followed theirs head between shown log before rest) =
          brings_both p between q shown.0.legal.0.0.2 (shown_brings p between it.mine it.have own shown)
          (rest_brings theirs it.mine between it.steps it.last end q texts within shown.0.legal.0.3 rest)

-- ---- texts

pub steps_said : (said : List WasSaid) (steps : List TakenText) → ((x : WasSaid) → IsIn x (texts_said (step_texts steps)) → IsIn x said) → AllOf (λ step. IsIn (Ok (origin_says.Patch step.text)) said) steps
steps_said said [] within = tt
steps_said said (step ∷ steps) within = (within (Ok (origin_says.Patch step.text)) (inl refl), steps_said said steps (λ x is. within x (inr is)))

pub pull_brings : (Such : Patch → Type 0) {D : Type 0} (disks : Ghosts D) (origin : LogView D) (p q : LogSight) (it : Run) (end : PullEnd)
    → ((text : List ℕ) → IsIn (Ok (origin_says.Patch text)) (said_in it) → (patch : Patch) → IsPatchRead text (patch ∷ []) → Such patch) → KnowsItsOwn p → Pulled disks origin p it end q → BringsOnly Such p q
pull_brings Such disks origin p q it end such own pulled =
    let texts = texts_said (step_texts it.steps) in
    run_brings Such disks origin (said_in it) such p q it pulled.run_end
    (steps_said (said_in it) it.steps (λ x is. in_right x it.log (texts ++ it.last) (in_left x texts it.last is)))
    (λ x is. in_right x it.log (texts ++ it.last) (in_right x texts it.last is)) own pulled.taken

first_is : (x y : Patch) → ◌≡◌ {A = List Patch} (x ∷ []) (y ∷ []) → x ≡ y
first_is x y same = cc

-- the patch of a text is the one that its text is
pub read_sound : (text : List ℕ) (patch : Patch) → IsPatchRead text (patch ∷ []) → (patch.text ≡ text) × IsSound patch
read_sound text patch read =
    let same : patch ≡ bare read.patch = first_is patch (bare read.patch) read.run_is in
    let sound : IsSound (bare read.patch) = (read.patch.meaning.changes, subst (λ (t : List ℕ). IsPatch t read.patch.meaning) (sym read.text_is) read.is_patch) in
    (ap (λ (it : Patch). it.text) same ∙ read.text_is, subst IsSound (sym same) sound)

pub reads_from : (said : List WasSaid) (text : List ℕ) → IsIn (Ok (origin_says.Patch text)) said → (patch : Patch) → IsPatchRead text (patch ∷ []) → IsReadFrom said patch
reads_from said text is patch read =
    let so = read_sound text patch read in
    record { was_said = subst (λ (t : List ℕ). IsIn (Ok (origin_says.Patch t)) said) (sym so.0) is; sound = so.1 }
