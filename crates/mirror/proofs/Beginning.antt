-- A log into which only pulls bring patches begins its origin's chain.
use Rattle.std.proofs.Common.{◌≡◌, ◌≢◌, ◌⊎◌, inl, inr, ⊎_elim, ℕ, ◌<◌, ◌≤◌, List, [], ◌∷◌, ◌++◌, append_assoc, Option, Some, None, Ok, refl, sym, ◌∙◌, ap, subst}
use Rattle.std.specs.Prelude.{map}
use Rattle.std.specs.List.{AllByRecursion}
use Rattle.std.proofs.lemmas.List.{append_cancel_left, map-append}
use mathlib.Core.List.{IsPrefix}
use Rattle.patch_meaning.specs.Patch.{Meaning, IsPatch}
use Rattle.patch_meaning.proofs.Settled.{one_meaning}
use Rattle.disk_model.specs.declared.disk.Disk.{Ghosts}
use Rattle.log_journal.specs.File.{Holds}
use Rattle.log_base.specs.OneMore.{with_one_more}
use Rattle.delta_client.specs.Exchanges.{WasSaid}
use Rattle.rpc_answers.specs.declared.answer.Answer.TheVariants as origin_says
use Rattle.chain_core.specs.declared.chain.Patch.{Patch}
use Rattle.chain_core.specs.Among.{AreAmong, IsAmong}
use Rattle.chain_core.specs.Links.{IsChain}
use Rattle.chain_core.specs.Patches.{links_of, patches_of}
use Rattle.chain_core.specs.Runs.{patches_in, run_text, runs_of}
use Rattle.chain_core.proofs.Among.{begins}
use Rattle.chain_core.proofs.Runs.{patches_in-push, patches_in-runs}
use Rattle.patch_log.specs.Log.{IsSound, MayHoldChain, StandsForLog}
use Rattle.patch_log.specs.Opening.{IsPatchRead}
use Rattle.patch_log.specs.State.{LogView}
use Rattle.turn_cell.specs.declared.view.Known.{Known}
use Rattle.turn_cell.specs.Knowing.{KnowsItsOwn, pass_number, seen_of, mine_of, failed_of}
use Rattle.turn_cell.specs.Sights.{Made, ComesFrom}
use Rattle.turn_cell.specs.Turns.{AllOf, IsIn, places_by}
use Rattle.turn_cell.proofs.Members.{one_of_mapped, unmapped}
use Rattle.shared_log.specs.declared.value.Placed.{Placed}
use Rattle.shared_log.specs.History.{LogSight, history_of, patches_known}
use Rattle.shared_log.proofs.Histories.{by_nobody, known_chain}
use Rattle.mirror.specs.Following.{AreActs, BeginsOrigin, BringsOnly, HoldsBeginning, IsAct, asks, pulls, IsMirrorRun, MirrorPass, OnlyMirrors, TextsAreAmong}
use Rattle.mirror.proofs.Running.{run_went}
use Rattle.mirror.proofs.Bringing.{all_behind, all_so, asking_brings, brings_both, brings_none, none_by, others_behind, pull_brings, read_sound}

-- ---- lists

all_in : {A : Type 0} (P : A → Type 0) (xs : List A) → ((x : A) → IsIn x xs → P x) → AllOf P xs
all_in P [] so = tt
all_in P (x ∷ xs) so = (so x (inl refl), all_in P xs (λ y is. so y (inr is)))

one_of : {A : Type 0} (P : A → Type 0) (xs : List A) (x : A) → AllOf P xs → IsIn x xs → P x
one_of P [] x all is = absurd is
one_of {A} P (y ∷ xs) x all (inl is) = subst P (sym is) all.0
one_of P (y ∷ xs) x all (inr is) = one_of P xs x all.1 is

-- ---- patches of the chain

among_all : (first second chain : List Patch) → AreAmong first chain → AreAmong second chain → AreAmong (first ++ second) chain
among_all [] second chain one other = other
among_all (p ∷ first) second chain one other = (one.0, among_all first second chain one.1 other)

among_more : (p : Patch) (first second : List Patch) → IsAmong p second → IsAmong p (first ++ second)
among_more p [] second is = is
among_more p (q ∷ first) second is = inr (among_more p first second is)

prefix_among : (before front rest chain : List Patch) → before ++ (front ++ rest) ≡ chain → AreAmong front chain
prefix_among before [] rest chain is = tt
prefix_among before (p ∷ front) rest chain is = (
  subst (IsAmong p) is (among_more p before (p ∷ (front ++ rest)) (inl refl)),
  prefix_among (before ++ p ∷ []) front rest chain (append_assoc before (p ∷ []) (front ++ rest) ∙ is),
)

known_among : (chain : List Patch) (history : List (Known Placed)) → AllOf (λ known. IsAmong known.content.patch chain) history → AreAmong (patches_known history) chain
known_among chain [] all = tt
known_among chain (known ∷ history) all = (all.0, known_among chain history all.1)

run_among : (chain run : List Patch) → AllOf (λ p. IsAmong p chain) run → AreAmong run chain
run_among chain [] all = tt
run_among chain (p ∷ run) all = (all.0, run_among chain run all.1)

sound_among : (chain : List Patch) (p : Patch) → AllByRecursion IsSound chain → IsAmong p chain → IsSound p
sound_among [] p sound is = absurd is
sound_among (q ∷ chain) p sound (inl is) = subst IsSound (sym is) sound.0
sound_among (q ∷ chain) p sound (inr is) = sound_among chain p sound.1 is

-- a patch is told by its text
one_patch : (p q : Patch) → IsSound p → IsSound q → p.text ≡ q.text → p ≡ q
one_patch p q first second same =
    let m : Meaning = record { id = p.id; prev = p.prev; changes = first.0 } in
    let n : Meaning = record { id = q.id; prev = q.prev; changes = second.0 } in
    let one : m ≡ n = one_meaning q.text m n (subst (λ (t : List ℕ). IsPatch t m) same first.1) second.1 in
    (λ i. record { id = (one i).id; prev = (one i).prev; text = same i })

told_among : (chain : List Patch) (said : List WasSaid) → AllByRecursion IsSound chain → TextsAreAmong chain said
    → (text : List ℕ) → IsIn (Ok (origin_says.Patch text)) said → (patch : Patch) → IsPatchRead text (patch ∷ []) → IsAmong patch chain
told_among chain said sound texts text is patch read =
    let has = texts text is in
    let so = read_sound text patch read in
    let same : has.0 ≡ patch = one_patch has.0 patch (sound_among chain has.0 sound has.1) so.1 (has.2 ∙ sym so.0) in
    subst (λ (p : Patch). IsAmong p chain) same has.1

-- ---- one pass

module _ {D : Type 0} (disks : Ghosts D) (chain : List Patch) (sound : AllByRecursion IsSound chain) where
  abbrev Such : Patch → Type 0
  Such patch = IsAmong patch chain

  -- what the acts of a pass come to
  record Acted (p q : LogSight) : Type 0 where
    brings : BringsOnly Such p q
    number : pass_number q ≡ pass_number p
    own : KnowsItsOwn q

  act_is : (origin : LogView D) (p q : LogSight) → KnowsItsOwn p → IsAct disks chain origin p q → Acted p q
  act_is origin p q own (asks wants) = record { brings = asking_brings Such p q own wants.0 wants.1; number = wants.0.0.2; own = wants.0.3 }
  act_is origin p q own (pulls it end pulled texts) =
      let went = run_went disks origin p q it pulled.run_end pulled.taken in
      record { brings = pull_brings Such disks origin p q it end (told_among chain _ sound texts) own pulled; number = went.3; own = went.2 }

  acts_are : (origin : LogView D) (p : LogSight) (acts : List LogSight) (q : LogSight) → KnowsItsOwn p → AreActs disks chain origin p acts q → Acted p q
  acts_are origin p [] q own are = record { brings = brings_none Such p q are; number = ap pass_number are; own = subst KnowsItsOwn (sym are) own }
  acts_are origin p (next ∷ acts) q own are =
      let first = act_is origin p next own are.0 in
      let rest = acts_are origin next acts q first.own are.1 in
      record { brings = brings_both Such p next q first.number first.brings rest.brings; number = rest.number ∙ first.number; own = rest.own }

  module _ (made : Made (LogView D)) (passes : List MirrorPass) (log : LogView D) (it : IsMirrorRun disks chain made passes log) where
    abbrev opening : List (Known Placed)
    opening = history_of made.origin.entries

    abbrev history : List (Known Placed)
    history = history_of log.entries

    abbrev later : List (Known Placed)
    later = it.closed.history.0

    given_own : (pass : MirrorPass) → OnlyMirrors disks chain made pass → 0 < pass.number → KnowsItsOwn pass.given
    given_own pass only some =
        let given = only.is_given in
        (λ i. places_by (given.1 i) (given.2 i)) ∙ (none_by pass.number opening some (by_nobody made.origin.entries it.by_nobody) ∙ sym given.3)

    acted : (pass : MirrorPass) → OnlyMirrors disks chain made pass → 0 < pass.number → Acted pass.given pass.at_stop
    acted pass only some = acts_are made.origin pass.given pass.acts pass.at_stop (given_own pass only some) only.acts

    -- the entries of a pass are patches of the chain
    own_such : (pass : MirrorPass) → IsIn pass passes → 0 < pass.number → (known : Known Placed) → IsIn known later → known.by ≡ pass.number → Such known.content.patch
    own_such pass of_passes some known is number =
        let only = one_of (OnlyMirrors disks chain made) passes pass it.mirror of_passes in
        let q = pass.at_stop in
        let so = acted pass only some in
        let n : pass_number pass.given ≡ pass.number = only.is_given.1 in
        let knew = one_of_mapped (λ (p : LogSight). IsPrefix (seen_of p) history × (places_by (pass_number p) history ≡ mine_of p)) (λ (pass : MirrorPass). pass.at_stop) passes pass it.closed.seen of_passes in
        let rest : List (Known Placed) = knew.0.0 in
        let seen : opening ++ (so.brings.behind ++ rest) ≡ history =
        sym (append_assoc opening so.brings.behind rest) ∙ (ap (λ (l : List (Known Placed)). l ++ rest) (sym (so.brings.sees ∙ ap (λ (l : List (Known Placed)). l ++ so.brings.behind) only.is_given.2)) ∙ knew.0.1) in
        let same : so.brings.behind ++ rest ≡ later = append_cancel_left opening (so.brings.behind ++ rest) later (seen ∙ it.closed.history.1) in
        let places : places_by (pass_number q) (seen_of q ++ rest) ≡ places_by (pass_number q) (seen_of q) =
        ap (places_by (pass_number q)) knew.0.1 ∙ (knew.1 ∙ sym so.own) in
        let others = others_behind (pass_number q) (seen_of q) rest places in
        let not_rest : AllOf (λ (k : Known Placed). (k.by ≢ pass.number) ⊎ Such k.content.patch) rest =
        all_so (λ (k : Known Placed). k.by ≢ pass_number q) (λ (k : Known Placed). (k.by ≢ pass.number) ⊎ Such k.content.patch) rest (λ k no. inl (λ e. no (e ∙ sym (so.number ∙ n)))) others in
        let came : AllOf (λ (k : Known Placed). (k.by ≢ pass.number) ⊎ Such k.content.patch) so.brings.behind =
        subst (λ (m : ℕ). AllOf (λ (k : Known Placed). (k.by ≢ m) ⊎ Such k.content.patch) so.brings.behind) n so.brings.brought in
        let all = all_behind (λ (k : Known Placed). (k.by ≢ pass.number) ⊎ Such k.content.patch) so.brings.behind rest came not_rest in
        let here = one_of (λ (k : Known Placed). (k.by ≢ pass.number) ⊎ Such k.content.patch) later known (subst (AllOf (λ (k : Known Placed). (k.by ≢ pass.number) ⊎ Such k.content.patch)) same all) is in
        ⊎_elim (λ (no : known.by ≢ pass.number). absurd (no number)) (λ (yes : Such known.content.patch). yes) here

    -- the pass with a number
    numbered : (n : ℕ) → 0 < n → n ≤ made.seats → (pass : MirrorPass) × IsIn pass passes × (pass.number ≡ n)
    numbered n some few =
        let there = it.all_there n some few in
        let pass = unmapped (λ (pass : MirrorPass). pass.at_stop) passes there.0 there.1 in
        let only = one_of (OnlyMirrors disks chain made) passes pass.0 it.mirror pass.1 in
        (pass.0, pass.1, sym only.is_given.1 ∙ (sym (went_number pass.0 only) ∙ (ap pass_number (sym pass.2) ∙ there.2)))
      where
        act_number : (origin : LogView D) (p q : LogSight) → IsAct disks chain origin p q → pass_number q ≡ pass_number p
        act_number origin p q (asks wants) = wants.0.0.2
        act_number origin p q (pulls it end pulled texts) = (run_went disks origin p q it pulled.run_end pulled.taken).3

        acts_number : (origin : LogView D) (p : LogSight) (acts : List LogSight) (q : LogSight) → AreActs disks chain origin p acts q → pass_number q ≡ pass_number p
        acts_number origin p [] q are = ap pass_number are
        acts_number origin p (next ∷ acts) q are = acts_number origin next acts q are.1 ∙ act_number origin p next are.0

        went_number : (pass : MirrorPass) → OnlyMirrors disks chain made pass → pass_number pass.at_stop ≡ pass_number pass.given
        went_number pass only = acts_number made.origin pass.given pass.acts pass.at_stop only.acts

    later_such : (known : Known Placed) → IsIn known later → Such known.content.patch
    later_such known is =
        let bounds = one_of (λ (k : Known Placed). (0 < k.by) × (k.by ≤ made.seats)) later known it.closed.history.2 is in
        let pass = numbered known.by bounds.0 bounds.1 in
        own_such pass.0 pass.1 (subst (λ (n : ℕ). 0 < n) (sym pass.2) bounds.0) known is (sym pass.2)

    entries_among : AreAmong (patches_of log.entries) chain
    entries_among =
        let first : AreAmong (patches_of made.origin.entries) chain = prefix_among [] (patches_of made.origin.entries) it.began.0 chain it.began.1 in
        let second = known_among chain later (all_in (λ (k : Known Placed). Such k.content.patch) later later_such) in
        let same : patches_of made.origin.entries ++ patches_known later ≡ patches_of log.entries =
        ap (λ (l : List Patch). l ++ patches_known later) (sym (known_chain made.origin.entries))
        ∙ (sym (map-append (λ (k : Known Placed). k.content.patch) opening later) ∙ (ap patches_known (sym it.closed.history.1) ∙ known_chain log.entries)) in
        subst (λ (l : List Patch). AreAmong l chain) same (among_all (patches_of made.origin.entries) (patches_known later) chain first second)

    -- a run that a pass left in doubt is of the chain's patches
    failed_such : (pass : MirrorPass) → IsIn pass passes → (run : List Patch) → IsIn run (failed_of pass.at_stop) → AreAmong run chain
    failed_such pass of_passes run is =
        let only = one_of (OnlyMirrors disks chain made) passes pass it.mirror of_passes in
        let so = acted pass only only.numbered in
        let left : failed_of pass.at_stop ≡ so.brings.left = so.brings.failed ∙ ap (λ (l : List (List Patch)). l ++ so.brings.left) only.is_given.6 in
        run_among chain run (one_of (AllOf Such) so.brings.left run so.brings.doubted (subst (IsIn run) left is))

    doubt_such : (run : List Patch) → ComesFrom made.origin.doubt (map (λ (pass : MirrorPass). pass.at_stop) passes) (Some run) → AreAmong run chain
    doubt_such run (inl was) = let none : None ≡ Some run = sym it.settled ∙ was in absurd (cc)
    doubt_such run (inr left) =
        let pass = unmapped (λ (pass : MirrorPass). pass.at_stop) passes left.0 left.1 in
        failed_such pass.0 pass.1 run (subst (λ (p : LogSight). IsIn run (failed_of p)) pass.2 left.2)

    module _ (tells : disks.tells) where
      abbrev runs : List (List Patch)
      runs = runs_of log.entries

      abbrev stood : StandsForLog (disks.past log.disk) log.number log.limits runs log.doubt
      stood = it.closed.stands.stands tells

      in_runs : patches_in runs ≡ patches_of log.entries
      in_runs = patches_in-runs log.entries

      runs_among : AreAmong (patches_in runs) chain
      runs_among = subst (λ (l : List Patch). AreAmong l chain) (sym in_runs) entries_among

      runs_begin : IsPrefix (patches_in runs) chain
      runs_begin = begins (patches_in runs) chain stood.without.log.chain it.is_chain runs_among

      with_doubt : (run : List Patch) → log.doubt ≡ Some run → IsPrefix (patches_in (runs ++ run ∷ [])) chain
      with_doubt run is =
          let among : AreAmong run chain = doubt_such run (subst (λ (d : Option (List Patch)). ComesFrom made.origin.doubt (map (λ (pass : MirrorPass). pass.at_stop) passes) d) is it.closed.doubt) in
          let having : IsChain (links_of (patches_in (runs ++ run ∷ []))) =
          subst (λ (d : Option (List Patch)). IsChain (links_of (patches_in (with_one_more runs d)))) is stood.having.log.chain in
          begins (patches_in (runs ++ run ∷ [])) chain having it.is_chain
          (subst (λ (l : List Patch). AreAmong l chain) (sym (patches_in-push runs run)) (among_all (patches_in runs) run chain runs_among among))

      image_begins : (doubt : Option (List Patch)) → log.doubt ≡ doubt → (image : List ℕ) → MayHoldChain log.number runs doubt image → HoldsBeginning chain log.number image
      image_begins None is image holds = (runs, holds, runs_begin)
      image_begins (Some run) is image (inl holds) = (runs, holds, runs_begin)
      image_begins (Some run) is image (inr holds) =
          (runs ++ run ∷ [], subst (Holds image log.number) (sym (map-append run_text runs (run ∷ []))) holds, with_doubt run is)

      pub begins_origin : BeginsOrigin disks chain log
      begins_origin = record {
        list = subst (λ (l : List Patch). IsPrefix l chain) in_runs runs_begin;
        images = λ image may. image_begins log.doubt refl image (stood.each image may);
      }
