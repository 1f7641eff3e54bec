-- What one call brings and leaves in doubt, and what many come to.
use Rattle.std.proofs.Common.{◌≡◌, ℕ, ◌-◌, ◌^◌, ◌<◌, List, [], ◌∷◌, ◌++◌, length, length-append, Bool, true, false, Option, Some, None, refl, sym, ap, ◌∙◌, subst, ⊎_elim, inl, inr, arith}
use Rattle.std.specs.Prelude.{if◌then◌else◌}
use Rattle.std.proofs.lemmas.List.{append-nil}
use Rattle.delta_base.specs.Outside.{Rose, RoseBy}
use Rattle.log_base.specs.declared.source_info.SourceInfo.{SourceInfo}
use Rattle.registry_core.specs.declared.event.Event.{Event}
use Rattle.registry_core.specs.declared.answer.CreateAnswer.{CreateAnswer}
use Rattle.registry_core.specs.declared.answer.CreateAnswer.TheVariants.{Made, BadName, BadUri, NameTaken, IdTaken, Full, OutOfMemory, DiskFault}
use Rattle.registry_core.specs.declared.answer.ChangeAnswer.{ChangeAnswer}
use Rattle.registry_core.specs.declared.answer.ChangeAnswer.TheVariants.{Done, NoSuchName, BadName as IsBadName, NameTaken as IsNameTaken, Full as IsFull, OutOfMemory as WantsMemory, DiskFault as Fails}
use Rattle.registry_core.specs.Answers.{Ending, made, told, failed, wanting, end_of_create, end_of_change}
use Rattle.registry_core.specs.Replies.{RegistryCall, create, rename, remove, resolve, resolve_id, resolve_uri, list, RegistryReply, answered, changed, found, listed, renaming, removal, ending, event_by}
use Rattle.turn_cell.specs.Knowing.{SeesOn, IsQuiet, Brought, mine_of, failed_of, own_faults_of}
use Rattle.turn_cell.proofs.Calling as calls
use Rattle.shared_registry.specs.History.{RegistrySight, events_seen}
use Rattle.shared_registry.specs.Legal.{IsRegistryTold, LegalOnRegistry}
use Rattle.shared_registry.specs.Lookups.{RegistryLookup, MayWantNames, IsLookupReply, AreLookups, is_registry_fault, RegistryAddsUp, EndsWith, GivesLookup}

module _ (slots : ℕ) (p q : RegistrySight) where
  abbrev one_if : Bool → ℕ
  one_if fault = if fault then 1 else 0

  -- what one call comes to, by whether it told a fault
  abbrev Comes : Bool → Type 0
  Comes fault = RoseBy (one_if fault) (own_faults_of p) (own_faults_of q) × (mine_of q ≡ mine_of p → one_if fault ≡ 0 → IsQuiet p q)

  of_quiet : IsQuiet p q → Comes false
  of_quiet quiet = (let same = quiet.1 in omega (arith, same), λ mine none. quiet)

  of_made : SeesOn p q → (event : Event) (place : ℕ) → Brought event place p q → Comes false
  of_made on event place came = (let no_less = on.5 in omega (arith, no_less), λ mine none. absurd (more mine))
    where
      more : mine_of q ≡ mine_of p → ⊥
      more mine = let one : length (mine_of p ++ place ∷ []) ≡ length (mine_of p) = ap length (sym came.mine ∙ mine) in let both = length-append (mine_of p) (place ∷ []) in omega (arith, one, both)

  of_failed : Rose (own_faults_of p) (own_faults_of q) → Comes true
  of_failed rose = (⊎_elim (λ (more : own_faults_of p < own_faults_of q). omega (arith, more)) (λ (last : own_faults_of q ≡ 2 ^ 64 - 1). omega (arith, last)) rose, λ mine none. absurd (let e : 1 ≡ 0 = none in omega (arith, e)))

  of_create : SeesOn p q → (call : RegistryCall) (answer : CreateAnswer) → IsRegistryTold (end_of_create answer) slots call (answered answer) p q → Comes (is_registry_fault (answered answer))
  of_create on call (Made source) t = of_made on _ t.0 t.1
  of_create on call (BadName at) t = of_quiet t.1
  of_create on call (BadUri at) t = of_quiet t.1
  of_create on call (NameTaken id) t = of_quiet t.1
  of_create on call (IdTaken name) t = of_quiet t.1
  of_create on call (Full what have limit) t = of_quiet t.1
  of_create on call OutOfMemory t = of_quiet t.1
  of_create on call DiskFault t = of_failed t.2

  of_change : SeesOn p q → (made_of : SourceInfo → Event) (call : RegistryCall) (answer : ChangeAnswer) → IsRegistryTold (end_of_change made_of answer) slots call (changed answer) p q → Comes (is_registry_fault (changed answer))
  of_change on made_of call (Done source) t = of_made on _ t.0 t.1
  of_change on made_of call NoSuchName t = of_quiet t.1
  of_change on made_of call (IsBadName at) t = of_quiet t.1
  of_change on made_of call (IsNameTaken id) t = of_quiet t.1
  of_change on made_of call (IsFull what have limit) t = of_quiet t.1
  of_change on made_of call WantsMemory t = of_quiet t.1
  of_change on made_of call Fails t = of_failed t.2

  of_lookup : (reply : RegistryReply) → is_registry_fault reply ≡ false → IsQuiet p q → Comes (is_registry_fault reply)
  of_lookup reply none quiet = subst Comes (sym none) (of_quiet quiet)

  comes : SeesOn p q → (call : RegistryCall) (reply : RegistryReply) → IsRegistryTold (ending call reply) slots call reply p q → Comes (is_registry_fault reply)
  comes on (create name uri id) (answered answer) t = of_create on (create name uri id) answer t
  comes on (create name uri id) (changed answer) t = absurd (let e = t.0 in cc)
  comes on (create name uri id) (found source) t = of_quiet t.1
  comes on (create name uri id) (listed sources) t = of_quiet t.1
  comes on (rename name new_name) (answered answer) t = absurd (let e = t.0 in cc)
  comes on (rename name new_name) (changed answer) t = of_change on renaming (rename name new_name) answer t
  comes on (rename name new_name) (found source) t = of_quiet t.1
  comes on (rename name new_name) (listed sources) t = of_quiet t.1
  comes on (remove name) (answered answer) t = absurd (let e = t.0 in cc)
  comes on (remove name) (changed answer) t = of_change on removal (remove name) answer t
  comes on (remove name) (found source) t = of_quiet t.1
  comes on (remove name) (listed sources) t = of_quiet t.1
  comes on (resolve name) reply t = of_lookup reply (ap is_registry_fault t.0) t.1
  comes on (resolve_id id) reply t = of_lookup reply (ap is_registry_fault t.0) t.1
  comes on (resolve_uri uri) reply t = of_lookup reply (ap is_registry_fault t.0) t.1
  comes on list reply t = of_lookup reply (ap is_registry_fault t.0) t.1

  -- what one call brings and leaves in doubt
  abbrev Gives : Ending → Option Event → Type 0
  Gives end due = (brought : List ℕ) × (doubted : List Event) × (mine_of q ≡ mine_of p ++ brought) × (failed_of q ≡ failed_of p ++ doubted) × EndsWith end due brought doubted p q

  gives_by : (end : Ending) (call : RegistryCall) (reply : RegistryReply) → IsRegistryTold end slots call reply p q → Gives end (event_by slots call (events_seen q))
  gives_by (made event) call reply t = (t.0 ∷ [], [], t.1.mine, t.1.failed ∙ sym (append-nil (failed_of p)), (t.0, t.1, refl, refl))
  gives_by told call reply t = ([], [], t.1.0 ∙ sym (append-nil (mine_of p)), t.1.2 ∙ sym (append-nil (failed_of p)), (refl, refl))
  gives_by failed call reply t = ⊎_elim (λ (none : failed_of q ≡ failed_of p). ([], [], t.3 ∙ sym (append-nil (mine_of p)), none ∙ sym (append-nil (failed_of p)), (refl, inl refl)))
      (λ (one : failed_of q ≡ failed_of p ++ t.0 ∷ []). ([], t.0 ∷ [], t.3 ∙ sym (append-nil (mine_of p)), one, (refl, inr (t.0, t.1, refl)))) t.4
  gives_by wanting call reply t = ([], [], t.1.0 ∙ sym (append-nil (mine_of p)), t.1.2 ∙ sym (append-nil (failed_of p)), (refl, refl))

pub gives : (slots : ℕ) (p q : RegistrySight) (call : RegistryCall) (reply : Option RegistryReply) → IsLookupReply slots p call reply q → GivesLookup slots p call reply q
gives slots p q call (Some reply) legal =
    let one = gives_by slots p q (ending call reply) call reply legal.1 in
    record {
      asked = record { call = call; reply = Some reply; brought = one.0; doubted = one.1 };
      call_is = refl;
      reply_is = refl;
      is = record { replied = legal; mine = one.2; failed = one.3 };
      ends = one.4;
    }
gives slots p q call None want = record {
  asked = record { call = call; reply = None; brought = []; doubted = [] };
  call_is = refl;
  reply_is = refl;
  is = record { replied = want; mine = want.1.1.0 ∙ sym (append-nil (mine_of p)); failed = want.1.1.2 ∙ sym (append-nil (failed_of p)) };
  ends = (refl, refl);
}

pub add_up : (slots : ℕ) (p q : RegistrySight) (asked : List RegistryLookup) → AreLookups slots p asked q → RegistryAddsUp p asked q
add_up slots = calls.add_up (LegalOnRegistry slots) MayWantNames is_registry_fault (λ p q call reply legal. legal.0)
    (λ p q call reply legal. (comes slots p q legal.0 call reply legal.1).0) (λ p q call reply legal. (comes slots p q legal.0 call reply legal.1).1)
