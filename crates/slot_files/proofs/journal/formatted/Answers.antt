use Rattle.std.proofs.Common.{◌++◌, ◌∷◌, [], List, ℕ, ◌∙◌, ap, sym}
use Rattle.disk_model.specs.Past.{reads}
use Rattle.log_journal.specs.declared.form.Form.TheVariants.{New}
use Rattle.log_journal.proofs.Frames.{front-none}
use Rattle.slot_files.proofs.journal.formatted.Goals as goal

pub returns-in-Ok-clause-ok : goal.returns-in-Ok-clause-ok
returns-in-Ok-clause-ok g c told = (
  c.in-Ok.ensures.was_empty told,
  c.in-Ok.ensures.ok told (reads (g.D.Disk.past c.format.new.disk)) (g.met.D.Disk.reads_may_be_left c.format.new.disk told) ∙ ap (λ (l : List ℕ). l ++ 0 ∷ []) (sym (front-none New c.args.number)),
)

pub returns-in-Ok-clause-synced : goal.returns-in-Ok-clause-synced
returns-in-Ok-clause-synced g c told = λ image left. c.in-Ok.ensures.ok told image left ∙ ap (λ (l : List ℕ). l ++ 0 ∷ []) (sym (front-none New c.args.number))
