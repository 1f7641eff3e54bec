use Rattle.std.proofs.Common.{◌∷◌, [], OnOk, subst, sym}
use Rattle.disk_model.specs.Past.{EveryImage}
use Rattle.log_journal.specs.File.{Holds}
use Rattle.log_journal.specs.Payload.{payload_of}
use Rattle.slot_files.proofs.registry.written.Goals.{in-Ok-append, in-Err-Failed}
use Rattle.slot_files.proofs.registry.written.Goals as goal

pub returns-after-append-clause-synced : goal.returns-after-append-clause-synced
returns-after-append-clause-synced g c told = elim c.match-append.branch [
  | in-Ok-append w ↦ subst (λ r. OnOk r (EveryImage (g.D.Disk.past c.close.result) (λ image. Holds image 0 (payload_of c.args.block.now ∷ [])))) (sym w.answer-is)
      (subst (λ (disk : g.row.D.Denot). EveryImage (g.D.Disk.past disk) (λ image. Holds image 0 (payload_of c.args.block.now ∷ []))) (sym c.close.ensures) ((w.in-Ok-append.ensures.ok 0 [] c.in-Ok.ensures.stands).1 told).each)
  | in-Err-Failed w ↦ subst (λ r. OnOk r (EveryImage (g.D.Disk.past c.close.result) (λ image. Holds image 0 (payload_of c.args.block.now ∷ [])))) (sym w.answer-is) tt
]
