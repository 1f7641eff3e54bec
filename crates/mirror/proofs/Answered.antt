-- What an answer to the text of a version tells of the pass.
use Rattle.std.proofs.Common.{◌≡◌, inl, inr, ℕ, ◌+◌, ◌≤◌, Bool, true, false, cond, eqb, ltb, not, List, [], ◌∷◌, ◌++◌, length, length-append, Option, Some, None, Result, Ok, Err, refl, sym, ◌∙◌, ap, subst, arith}
use mathlib.Core.List.{IsPrefix}
use Rattle.std.specs.Option.{option_map}
use Rattle.std.proofs.lemmas.List.{length-map}
use Rattle.delta_base.specs.Outside.{Rose}
use Rattle.delta_base.specs.declared.id.Id.{Id}
use Rattle.disk_model.specs.declared.disk.Disk.{Ghosts}
use Rattle.log_base.specs.declared.limits.FullKind.TheVariants.{Patches, Bytes}
use Rattle.log_base.specs.declared.limits.LogLimits.{LogLimits}
use Rattle.chain_core.specs.declared.answer.Decision.{Decision}
use Rattle.chain_core.specs.declared.answer.Decision.TheVariants as decide
use Rattle.chain_core.specs.declared.answer.LogAnswer.{LogAnswer}
use Rattle.chain_core.specs.declared.answer.LogAnswer.TheVariants as answers
use Rattle.chain_core.specs.declared.chain.Patch.{Patch}
use Rattle.chain_core.specs.Decision.{run_decision, decision, decision_on, version_named, first_found, same_id}
use Rattle.chain_core.specs.Ids.{version_among}
use Rattle.chain_core.specs.Patches.{patch_ids, version_of, last_id, journal_length}
use Rattle.chain_core.specs.Replies.{LogCall, append, describe, LogReply, answered, described}
use Rattle.chain_core.specs.Runs.{entries_of, prev_of_run}
use Rattle.chain_core.specs.Stay.{answer_of}
use Rattle.patch_log.specs.State.{LogView}
use Rattle.turn_cell.specs.declared.view.Known.{Known}
use Rattle.turn_cell.specs.Knowing.{KnowsItsOwn, pass_number, seen_of, own_faults_of}
use Rattle.turn_cell.proofs.Views.{prefix_trans, prefix_refl}
use Rattle.shared_log.specs.declared.value.Placed.{Placed}
use Rattle.shared_log.specs.History.{LogSight, SeesWhole, history_of, patches_known}
use Rattle.shared_log.specs.Legal.{BroughtRun, IsAppendAnswer, LegalOnLog}
use Rattle.mirror.specs.declared.ends.PullRefusal.{PullRefusal}
use Rattle.mirror.specs.declared.ends.PullRefusal.TheVariants.{BadPatch, Diverged, Full, DiskFault, OutOfMemory}
use Rattle.mirror.specs.Pulling.{CallsLog, ComesOf, IsTextRefusal, TakesText, unasked, asked}

-- ---- decisions

same_answer : (a b : LogAnswer) → answered a ≡ answered b → a ≡ b
same_answer a b is = cc

version_within : (ids : List Id) (id : Id) (version : ℕ) → version_among ids id ≡ Some version → version ≤ length ids
version_within [] id version is = absurd (cc)
version_within (first ∷ ids) id version is = by (eqb first.0 id.0) (version_among ids id) (λ found there. version_within ids id found there) is
  where
    later : (found : Option ℕ) → ((v : ℕ) → found ≡ Some v → v ≤ length ids) → option_map (λ before. before + 1) found ≡ Some version → version ≤ length (first ∷ ids)
    later None within e = absurd (cc)
    later (Some before) within e = let same : before + 1 ≡ version = cc in let less = within before refl in omega (arith, same, less)

    by : (here : Bool) (found : Option ℕ) → ((v : ℕ) → found ≡ Some v → v ≤ length ids) → cond here (Some 1) (option_map (λ before. before + 1) found) ≡ Some version → version ≤ length (first ∷ ids)
    by true found within e = let same : ◌≡◌ {A = ℕ} 1 version = cc in omega (arith, same)
    by false found within e = later found within e

module _ (chain run : List Patch) (limits : LogLimits) where
  -- the tests, as they stand in the definition
  abbrev by_tests : Bool → Bool → Bool → Decision
  by_tests follows full long =
      cond (not follows) (decide.Conflict (length chain) (last_id chain) (version_named chain (prev_of_run run)))
      (cond full (decide.Full Patches (length chain) limits.patches) (cond long (decide.Full Bytes (journal_length (chain ++ run)) limits.bytes) (decide.Accept (length chain + length run))))

  never_known : (follows full long : Bool) (at : ℕ) (same : Bool) → by_tests follows full long ≡ decide.Known at same → ⊥
  never_known false full long at same is = cc
  never_known true true long at same is = cc
  never_known true false true at same is = cc
  never_known true false false at same is = cc

known_in : (chain : List Patch) (patch : Patch) (limits : LogLimits) (found : Option ℕ) (at : ℕ) (same : Bool) → decision_on (first_found found None) chain (patch ∷ []) limits ≡ decide.Known at same → found ≡ Some at
known_in chain patch limits None at same is =
    absurd (never_known chain (patch ∷ []) limits (same_id (prev_of_run (patch ∷ [])) (last_id chain)) (ltb limits.patches (length chain + length (patch ∷ []))) (ltb limits.bytes (journal_length (chain ++ (patch ∷ [])))) at same is)
known_in chain patch limits (Some version) at same is = let one : version ≡ at = cc in ap (λ (v : ℕ). Some v) one

known_within : (chain : List Patch) (patch : Patch) (limits : LogLimits) (at : ℕ) (same : Bool) → decision chain patch limits ≡ decide.Known at same → at ≤ length chain
unfolding run_decision
known_within chain patch limits at same is =
    let within = version_within (patch_ids chain) patch.id at (known_in chain patch limits (version_of chain patch.id) at same is) in
    let long : length (patch_ids chain) ≡ length chain = length-map chain (λ (p : Patch). p.id) in
    omega (arith, within, long)

known_decided : (d : Decision) (at : ℕ) (same : Bool) → answers.Known at same ≡ answer_of d → d ≡ decide.Known at same
known_decided (decide.Accept version) at same is = absurd (cc)
known_decided (decide.Known version other) at same is = cc
known_decided (decide.Conflict version head named) at same is = absurd (cc)
known_decided (decide.Full what have limit) at same is = absurd (cc)

-- ---- one call

pub told_of : (limits : LogLimits) (p q : LogSight) (patch : Patch) (answer : LogAnswer) → LegalOnLog limits p (append patch) (answered answer) q → IsAppendAnswer limits (append patch) (patch ∷ []) answer p q
told_of limits p q patch answer legal =
    subst (λ (a : LogAnswer). IsAppendAnswer limits (append patch) (patch ∷ []) a p q) (sym (same_answer answer legal.1.0 legal.1.1)) legal.1.2

-- what was seen is longer by the run at least
brought_longer : (p q : LogSight) (patch : Patch) (place : ℕ) → BroughtRun (patch ∷ []) place p q → length (seen_of p) + 1 ≤ length (seen_of q)
brought_longer p q patch place b =
    let more = ap length b.had_seen.1 in
    let long = ap length b.sees in
    omega (arith, more, long, length-append (seen_of p) b.had_seen.0, length-append b.before (history_of (entries_of (patch ∷ []) (pass_number p))))

known_seen : (limits : LogLimits) (p q : LogSight) (patch : Patch) (at : ℕ) (same : Bool) → LegalOnLog limits p (append patch) (answered (answers.Known at same)) q → at ≤ length (seen_of q)
known_seen limits p q patch at same legal =
    let told = told_of limits p q patch (answers.Known at same) legal in
    let chain : List Patch = patches_known (seen_of q) in
    let decided = known_decided (decision chain patch limits) at same (same_answer (answers.Known at same) (answer_of (decision chain patch limits)) told.0) in
    let within = known_within chain patch limits at same decided in
    let long : length chain ≡ length (seen_of q) = length-map (seen_of q) (λ (k : Known Placed). k.content.patch) in
    omega (arith, within, long)

-- ---- what a pass goes through

-- it sees on, has no fewer faults, and knows of its own entries and of whole runs what it knew
pub record Went (p q : LogSight) : Type 0 where
  pub number : pass_number q ≡ pass_number p
  pub seen : IsPrefix (seen_of p) (seen_of q)
  pub faults : own_faults_of p ≤ own_faults_of q
  pub own : KnowsItsOwn p → KnowsItsOwn q
  pub whole : SeesWhole p → SeesWhole q

pub went_none : (p q : LogSight) → q ≡ p → Went p q
went_none p q same = subst (λ (it : LogSight). Went p it) (sym same) (record { number = refl; seen = prefix_refl (seen_of p); faults = omega arith; own = λ is. is; whole = λ is. is })

pub went_both : (p m q : LogSight) → Went p m → Went m q → Went p q
went_both p m q first second = record {
  number = second.number ∙ first.number;
  seen = prefix_trans (seen_of p) (seen_of m) (seen_of q) first.seen second.seen;
  faults = omega (arith, first.faults, second.faults);
  own = λ is. second.own (first.own is);
  whole = λ is. second.whole (first.whole is);
}

module _ {D : Type 0} (disks : Ghosts D) (origin : LogView D) where
  pub called_went : (p q : LogSight) (call : LogCall) (reply : LogReply) → CallsLog disks origin p call reply q → Went p q
  called_went p q call reply called =
      let on = called.0.legal.0 in
      record { number = on.0.2; seen = on.2; faults = on.5; own = λ is. on.3; whole = λ is. called.1 }

  pub comes_went : (version : ℕ) (theirs : Option Id) (answer : LogAnswer) (p q : LogSight) (result : Result ℕ PullRefusal) → ComesOf disks origin version theirs answer p result q → Went p q
  comes_went version theirs (answers.Accepted at) p q result comes = went_none p q comes.1
  comes_went version theirs (answers.AcceptedRun first last) p q result comes = absurd comes
  comes_went version theirs (answers.Known at same) p q result (inl is) = went_none p q is.2
  comes_went version theirs (answers.Known at same) p q result (inr is) = called_went p q describe (described is.1.0 is.1.1) is.1.3
  comes_went version theirs (answers.Conflict has head named) p q result comes = went_none p q comes.1
  comes_went version theirs (answers.Full what have limit) p q result comes = went_none p q comes.1
  comes_went version theirs answers.DiskFault p q result comes = went_none p q comes.1
  comes_went version theirs answers.OutOfMemory p q result comes = went_none p q comes.1

  pub takes_went : (p q : LogSight) (version : ℕ) (text : List ℕ) (result : Result ℕ PullRefusal) → TakesText disks origin p version text result q → Went p q
  takes_went p q version text result (unasked refusal is ends same) = went_none p q same
  takes_went p q version text result (asked a) =
      went_both p a.mid q (called_went p a.mid (append a.patch) (answered a.answer) a.appended) (comes_went version (Some a.patch.id) a.answer a.mid q result a.comes)

  -- a text that was taken is at its version in what the pass sees
  comes_within : (limits : LogLimits) (version reached from : ℕ) (patch : Patch) (answer : LogAnswer) (p m q : LogSight) → LegalOnLog limits p (append patch) (answered answer) m → ComesOf disks origin version (Some patch.id) answer m (Ok reached) q
      → version ≡ from + 1 → from ≤ length (seen_of p) → (reached ≡ version) × (reached ≤ length (seen_of q))
  comes_within limits version reached from patch (answers.Accepted at) p m q legal comes next within =
      let same : reached ≡ version = cc in
      let told = told_of limits p m patch (answers.Accepted at) legal in
      let longer = brought_longer p m patch at told.0 in
      let long : length (seen_of q) ≡ length (seen_of m) = ap (λ (it : LogSight). length (seen_of it)) comes.1 in
      (same, omega (arith, same, next, within, longer, long))
  comes_within limits version reached from patch (answers.AcceptedRun first last) p m q legal comes next within = absurd comes
  comes_within limits version reached from patch (answers.Known at known) p m q legal (inl is) next within =
      let result : Ok reached ≡ Ok version = is.1 in
      let same : reached ≡ version = cc in
      let there : at ≡ version = is.0.0 in
      let seen = known_seen limits p m patch at known legal in
      let long : length (seen_of q) ≡ length (seen_of m) = ap (λ (it : LogSight). length (seen_of it)) is.2 in
      (same, omega (arith, same, there, seen, long))
  comes_within limits version reached from patch (answers.Known at known) p m q legal (inr is) next within = let result : Ok reached ≡ Err (Diverged is.1.0 is.1.1 (Some patch.id)) = is.1.2 in absurd (cc)
  comes_within limits version reached from patch (answers.Conflict has head named) p m q legal comes next within = let result : Ok reached ≡ Err (Diverged has head (Some patch.id)) = comes.0 in absurd (cc)
  comes_within limits version reached from patch (answers.Full what have limit) p m q legal comes next within = let result : Ok reached ≡ Err (Full what have limit) = comes.0 in absurd (cc)
  comes_within limits version reached from patch answers.DiskFault p m q legal comes next within = let result : Ok reached ≡ Err DiskFault = comes.0 in absurd (cc)
  comes_within limits version reached from patch answers.OutOfMemory p m q legal comes next within = let result : Ok reached ≡ Err OutOfMemory = comes.0 in absurd (cc)

  pub takes_within : (p q : LogSight) (version reached from : ℕ) (text : List ℕ) → TakesText disks origin p version text (Ok reached) q → version ≡ from + 1 → from ≤ length (seen_of p) → (reached ≡ version) × (reached ≤ length (seen_of q))
  takes_within p q version reached from text (unasked refusal is ends same) next within = absurd (cc)
  takes_within p q version reached from text (asked a) next within = comes_within origin.limits version reached from a.patch a.answer p a.mid q a.appended.0.legal a.comes next within

  -- the disk failed in a stay of the pass
  comes_faulted : (limits : LogLimits) (version : ℕ) (patch : Patch) (answer : LogAnswer) (p m q : LogSight) → LegalOnLog limits p (append patch) (answered answer) m → ComesOf disks origin version (Some patch.id) answer m (Err DiskFault) q → Rose (own_faults_of p) (own_faults_of q)
  comes_faulted limits version patch (answers.Accepted at) p m q legal comes = let result : Err DiskFault ≡ Ok version = comes.0 in absurd (cc)
  comes_faulted limits version patch (answers.AcceptedRun first last) p m q legal comes = absurd comes
  comes_faulted limits version patch (answers.Known at known) p m q legal (inl is) = let result : Err DiskFault ≡ Ok version = is.1 in absurd (cc)
  comes_faulted limits version patch (answers.Known at known) p m q legal (inr is) = let result : ◌≡◌ {A = Result ℕ PullRefusal} (Err DiskFault) (Err (Diverged is.1.0 is.1.1 (Some patch.id))) = is.1.2 in absurd (cc)
  comes_faulted limits version patch (answers.Conflict has head named) p m q legal comes = let result : ◌≡◌ {A = Result ℕ PullRefusal} (Err DiskFault) (Err (Diverged has head (Some patch.id))) = comes.0 in absurd (cc)
  comes_faulted limits version patch (answers.Full what have limit) p m q legal comes = let result : ◌≡◌ {A = Result ℕ PullRefusal} (Err DiskFault) (Err (Full what have limit)) = comes.0 in absurd (cc)
  comes_faulted limits version patch answers.DiskFault p m q legal comes =
      subst (λ (it : LogSight). Rose (own_faults_of p) (own_faults_of it)) (sym comes.1) (told_of limits p m patch answers.DiskFault legal).1
  comes_faulted limits version patch answers.OutOfMemory p m q legal comes = let result : ◌≡◌ {A = Result ℕ PullRefusal} (Err DiskFault) (Err OutOfMemory) = comes.0 in absurd (cc)

  pub refused_so : (text : List ℕ) (version : ℕ) (refusal : PullRefusal) → IsTextRefusal text version refusal → refusal ≡ DiskFault → ⊥
  refused_so text version (BadPatch at fault) is same = cc
  refused_so text version (Diverged has head theirs) is same = cc
  refused_so text version (Full what have limit) is same = cc
  refused_so text version DiskFault is same = is
  refused_so text version OutOfMemory is same = cc

  pub takes_faulted : (p q : LogSight) (version : ℕ) (text : List ℕ) → TakesText disks origin p version text (Err DiskFault) q → Rose (own_faults_of p) (own_faults_of q)
  takes_faulted p q version text (unasked refusal is ends same) = let one : refusal ≡ DiskFault = cc in absurd (refused_so text version refusal is one)
  takes_faulted p q version text (asked a) = comes_faulted origin.limits version a.patch a.answer p a.mid q a.appended.0.legal a.comes
