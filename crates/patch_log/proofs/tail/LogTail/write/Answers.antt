use Rattle.std.proofs.Common.{◌≡◌, List, Err, ◌∙◌, ap, subst}
use Rattle.log_journal.specs.Payload.{payload_of}
use Rattle.log_base.specs.declared.phase.Phase.{Phase}
use Rattle.log_base.specs.declared.phase.Phase.TheVariants.{Settling, Body, Gate}
use Rattle.chain_core.specs.declared.chain.Patch.{Patch}
use Rattle.chain_core.specs.Runs.{run_text, run_texts, runs_of}
use Rattle.patch_log.specs.Log.{IsSoundRun, run_payload}
use Rattle.patch_log.specs.Ready.{ReadyView}
use Rattle.patch_log.proofs.Tails.{failed_body, failed_gate, failed_settling, write_few, write_room, wrote}
use Rattle.patch_log.proofs.tail.LogTail.write.Goals as goal

abbrev run_in : ReadyView → List Patch
run_in ready = ready.run

pub write-requires : goal.write-requires
write-requires g c =
    let run_is : c.ready.inside.run ≡ c.args.ready.run = ap run_in c.ready.view_is in
    let sound = subst IsSoundRun run_is c.ready.invariant.sound in
    let payload = payload_of c.ready.inside.block in
    let payload_is = c.ready.invariant.block_is ∙ ap run_text run_is in
    record {
      room = write_room c.args.self.now c.requires.0 c.args.ready.run c.requires.1 c.requires.2 sound payload payload_is;
      few = write_few c.args.self.now c.requires.0 c.args.ready.run c.requires.1 c.requires.2 sound payload payload_is;
    }

pub returns-in-Ok : goal.returns-in-Ok
returns-in-Ok g c = λ entries version takes.
    let old = c.args.self.now in
    let run_is : c.ready.inside.run ≡ c.args.ready.run = ap run_in c.ready.view_is in
    let texts = run_texts (runs_of entries) in
    let doubt = run_payload old.doubt in (
      run_is,
      wrote g.D.Disk old c.write.new.journal entries c.args.ready version takes (subst IsSoundRun run_is c.ready.invariant.sound) (payload_of c.ready.inside.block) (c.ready.invariant.block_is ∙ ap run_text run_is)
          c.write.result c.write.ensures.went (c.write.ensures.written old.number texts doubt takes.0.stands) (c.write.ensures.stands old.number texts doubt takes.0.stands) c.write.ensures.length c.write.ensures.limit c.in-Ok.is,
    )

pub returns-in-Err-Settling : goal.returns-in-Err-Settling
returns-in-Err-Settling g c = λ entries version takes.
    let old = c.args.self.now in
    let run_is : c.ready.inside.run ≡ c.args.ready.run = ap run_in c.ready.view_is in
    let texts = run_texts (runs_of entries) in
    let doubt = run_payload old.doubt in
    let is : c.write.result ≡ Err Settling = c.in-Err-Settling.is ∙ ap (λ (phase : Phase). Err phase) c.in-Err-Settling.field-0-is in
    failed_settling g.D.Disk old c.write.new.journal entries c.args.ready version takes (subst IsSoundRun run_is c.ready.invariant.sound) (payload_of c.ready.inside.block) (c.ready.invariant.block_is ∙ ap run_text run_is)
    c.write.result c.write.ensures.went (c.write.ensures.written old.number texts doubt takes.0.stands) (c.write.ensures.stands old.number texts doubt takes.0.stands) c.write.ensures.length c.write.ensures.limit is (c.write.ensures.settling is)

pub returns-in-Err-Body : goal.returns-in-Err-Body
returns-in-Err-Body g c = λ entries version takes.
    let old = c.args.self.now in
    let run_is : c.ready.inside.run ≡ c.args.ready.run = ap run_in c.ready.view_is in
    let texts = run_texts (runs_of entries) in
    let doubt = run_payload old.doubt in
    let is : c.write.result ≡ Err Body = c.in-Err-Body.is ∙ ap (λ (phase : Phase). Err phase) c.in-Err-Body.field-0-is in
    failed_body g.D.Disk old c.write.new.journal entries c.args.ready version takes (subst IsSoundRun run_is c.ready.invariant.sound) (payload_of c.ready.inside.block) (c.ready.invariant.block_is ∙ ap run_text run_is)
    c.write.result c.write.ensures.went (c.write.ensures.written old.number texts doubt takes.0.stands) (c.write.ensures.stands old.number texts doubt takes.0.stands) c.write.ensures.length c.write.ensures.limit is

pub returns-in-Err-Gate : goal.returns-in-Err-Gate
returns-in-Err-Gate g c = λ entries version takes.
    let old = c.args.self.now in
    let run_is : c.ready.inside.run ≡ c.args.ready.run = ap run_in c.ready.view_is in
    let texts = run_texts (runs_of entries) in
    let doubt = run_payload old.doubt in
    let is : c.write.result ≡ Err Gate = c.in-Err-Gate.is ∙ ap (λ (phase : Phase). Err phase) c.in-Err-Gate.field-0-is in
    rw run_is (failed_gate g.D.Disk old c.write.new.journal entries c.args.ready version takes (subst IsSoundRun run_is c.ready.invariant.sound) (payload_of c.ready.inside.block) (c.ready.invariant.block_is ∙ ap run_text run_is)
    c.write.result c.write.ensures.went (c.write.ensures.written old.number texts doubt takes.0.stands) (c.write.ensures.stands old.number texts doubt takes.0.stands) c.write.ensures.length c.write.ensures.limit is)
