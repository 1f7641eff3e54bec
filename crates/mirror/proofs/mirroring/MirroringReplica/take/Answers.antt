use Rattle.std.proofs.Common.{◌≡◌, ℕ, List, Option, Result, Ok, Err, refl, subst}
use Rattle.std.specs.Prelude.{IfOk, ◌≤◌, length}
use Rattle.delta_base.specs.declared.id.Id.{Id}
use Rattle.chain_core.specs.declared.chain.Patch.{Patch}
use Rattle.patch_log.specs.Log.{bare}
use Rattle.patch_log.specs.Opening.{IsPatchRead}
use Rattle.turn_cell.specs.Knowing.{seen_of}
use Rattle.mirror.specs.declared.ends.PullRefusal.{PullRefusal}
use Rattle.mirror.specs.Pulling.{ComesOf, TakesText, unasked, asked}
use Rattle.mirror.proofs.Answered.{takes_within}
use Rattle.mirror.proofs.mirroring.MirroringReplica.take.Goals as goal

pub returns-in-Err-clause-takes : goal.returns-in-Err-clause-takes
returns-in-Err-clause-takes g c = unasked c.in-Err.refusal c.in-Err.ensures.err refl refl

pub returns-clause-takes : goal.returns-clause-takes
returns-clause-takes g c =
    let read = c.in-Ok.ensures.ok in
    let patch : Patch = bare read.patch in
    let one = read.run_is in
    let text : List ℕ = c.args.text.now in
    asked (record {
      patch = patch;
      read = subst (λ (run : List Patch). IsPatchRead text run) one read;
      answer = c.append-answer.result;
      mid = c.append-answer.new.pass;
      appended = (c.append-answer.ensures.alone patch one, c.append-answer.ensures.whole);
      comes = subst (λ (theirs : Option Id). ComesOf g.D.Disk c.args.self.now.log.now.origin c.args.version theirs c.append-answer.result c.append-answer.new.pass c.told.result c.told.new.pass) (c.first_id-theirs.ensures patch one) c.told.ensures.comes;
    })

if_ok : {A E : Type 0} (P : A → Type 0) (r : Result A E) → ((a : A) → r ≡ Ok a → P a) → IfOk r P
if_ok P (Ok a) all = all a refl
if_ok P (Err e) all = tt

pub returns-clause-goes_on : goal.returns-clause-goes_on
returns-clause-goes_on g c =
    let so = returns-clause-takes g c in
    if_ok (λ (reached : ℕ). reached ≤ length (seen_of c.told.new.pass)) c.told.result
    (λ reached is. (takes_within g.D.Disk c.args.self.now.log.now.origin c.args.pass.now c.told.new.pass c.args.version reached c.requires.next.0 c.args.text.now
    (subst (λ (r : Result ℕ PullRefusal). TakesText g.D.Disk c.args.self.now.log.now.origin c.args.pass.now c.args.version c.args.text.now r c.told.new.pass) is so) c.requires.next.2 c.requires.next.1).1)
