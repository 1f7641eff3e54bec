use Rattle.std.proofs.Common.{◌≡◌, ℕ, ◌+◌, Result, Ok, Err, refl, sym, ◌∙◌, ap, subst}
use Rattle.std.specs.Prelude.{IfOk, ◌≤◌}
use Rattle.delta_base.specs.declared.id.Id.{Id}
use Rattle.shared_zone.specs.History.{version_seen}
use Rattle.follower.specs.declared.ends.TextRefusal.{TextRefusal}
use Rattle.zone_follower.specs.Following.{ComesToText, IsUnaskedFor, stay_told, unasked, stayed_with}
use Rattle.zone_follower.proofs.Staying.{comes_reached, refuses_text}
use Rattle.zone_follower.proofs.taking.FollowingReplica.take.Goals as goal

pub returns-in-Err-clause-takes : goal.returns-in-Err-clause-takes
returns-in-Err-clause-takes g c =
    let why = refuses_text c.args.text.now c.args.version c.in-Err.fault c.in-Err.ensures.fault in
    unasked c.no_patch.result (subst (λ (r : TextRefusal). IsUnaskedFor c.args.text.now c.args.version r) (sym c.no_patch.ensures) why) refl refl

pub returns-clause-takes : goal.returns-clause-takes
returns-clause-takes g c = stayed_with (record {
  patch = c.in-Ok.patch;
  is_text = c.in-Ok.ensures.ok;
  stayed = c.take-stayed.result;
  legal = c.take-stayed.ensures.legal;
  stay = c.take-stayed.ensures.stay;
  told = c.told.ensures ∙ ap (λ (id : Id). stay_told c.take-stayed.result id) c.id-id.ensures;
})

if_ok : {A E : Type 0} (P : A → Type 0) (r : Result A E) → ((a : A) → r ≡ Ok a → P a) → IfOk r P
if_ok P (Ok a) all = all a refl
if_ok P (Err e) all = tt

pub returns-clause-goes_on : goal.returns-clause-goes_on
returns-clause-goes_on g c =
    let so = returns-clause-takes g c in
    if_ok (λ (reached : ℕ). reached ≡ version_seen c.args.self.now.hall.now.origin.base c.take-stayed.new.pass) c.told.result
    (λ reached is. (comes_reached g.D.Disk c.args.self.now.hall.now.origin c.args.pass.now c.take-stayed.new.pass c.args.version c.args.text.now reached
    (subst (λ (r : Result ℕ TextRefusal). ComesToText g.D.Disk c.args.self.now.hall.now.origin c.args.pass.now c.args.version c.args.text.now r c.take-stayed.new.pass) is so)).0)

pub returns-clause-further : goal.returns-clause-further
returns-clause-further g c =
    let so = returns-clause-takes g c in
    let next = c.requires.next in
    if_ok (λ (reached : ℕ). c.args.version ≤ reached) c.told.result
    (λ reached is. (comes_reached g.D.Disk c.args.self.now.hall.now.origin c.args.pass.now c.take-stayed.new.pass c.args.version c.args.text.now reached
    (subst (λ (r : Result ℕ TextRefusal). ComesToText g.D.Disk c.args.self.now.hall.now.origin c.args.pass.now c.args.version c.args.text.now r c.take-stayed.new.pass) is so)).1
    (next.2 ∙ ap (λ (n : ℕ). n + 1) next.1))
