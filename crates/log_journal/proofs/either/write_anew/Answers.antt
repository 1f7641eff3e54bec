use Rattle.std.proofs.Common.{◌≡◌, List, ℕ, [], ◌∷◌, true, length, sym, arith}
use Rattle.std.proofs.lemmas.Bool.{eqb-true}
use Rattle.std.specs.Prelude.{◌==◌}
use Rattle.disk_model.specs.Past.{Past}
use Rattle.log_base.specs.Journals.{payloads_length}
use Rattle.log_journal.specs.Journal.{HoldsAll}
use Rattle.log_journal.proofs.Emptying.{written_over}
use Rattle.log_journal.proofs.either.write_anew.Goals as goal

-- a journal without payloads is one of no payloads
of_none : (past : Past) (number : ℕ) (payloads : List (List ℕ)) → true ≡ (length payloads == 0) → HoldsAll past 9 number [] → HoldsAll past (payloads_length payloads) number payloads
of_none past number [] empty all = all
of_none past number (p ∷ payloads) empty all = absurd (omega (arith, eqb-true (length (p ∷ payloads)) 0 (sym empty)))

pub returns-then-is_empty-clause-ok : goal.returns-then-is_empty-clause-ok
returns-then-is_empty-clause-ok g c told =
    of_none (g.D.Disk.past c.write_empty.new.disk) c.args.number c.args.payloads.now c.if-is_empty.ensures
    (written_over c.args.number (g.D.Disk.past c.args.disk.now) (g.D.Disk.past c.write_empty.new.disk) (c.in_ok-write_empty.ensures.ok told))

pub returns-clause-ok : goal.returns-clause-ok
returns-clause-ok g c told = c.fill_behind.ensures.ok told c.args.number (written_over c.args.number (g.D.Disk.past c.args.disk.now) (g.D.Disk.past c.write_empty.new.disk) (c.in_ok-write_empty.ensures.ok told))
