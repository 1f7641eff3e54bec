use Rattle.std.proofs.Common.{◌≢◌, sym, subst, List, ℕ, Option, None, Some}
use Rattle.std.specs.Prelude.{IsErr}
use Rattle.log_journal.specs.Payload.{payload_of}
use Rattle.log_journal.specs.StandsFor.{disk_of}
use Rattle.log_journal.specs.Writing.{failing}
use Rattle.paired_journal.specs.Files.{OtherStands, HasAppended}
use Rattle.paired_journal.proofs.Filed.{ended_ok, ended_err, is_failing, has_failed}
use Rattle.paired_journal.proofs.Pairs.{as_failed}
use Rattle.paired_journal.proofs.files.Files.append.Goals as goal

pub append-beside-requires-clause-beside : goal.append-beside-requires-clause-beside
append-beside-requires-clause-beside g c =
    let held = c.requires.beside in
    (held.0, subst (λ o. OtherStands (disk_of c.args.self.now.current) o held.0) (sym c.in-Some.ensures.value) held.1)

pub returns : goal.returns
returns g c =
    let e = c.append-beside.ensures in
    let result = c.append-beside.result.1 in
    let old = c.args.self.now.current in
    let new = c.append-beside.new.current in
    let payload = payload_of c.args.block.now in
    let end = failing result in
    subst (λ o. HasAppended old new o c.replace.new.dest payload end) c.in-Some.ensures.value
    (subst (λ o. HasAppended old new (Some c.in-Some.beside) o payload end) (sym c.replace.ensures.after) (record {
      second = e.second;
      generation = e.generation;
      stands = e.stands;
      on_current = e.on_current;
      on_other = e.on_other;
      ok = ended_ok result _ e.ok;
      err = λ failed doubt stands. ended_err result _ (e.err doubt stands) failed;
      went = as_failed g.D.Disk (IsErr result) (end ≢ None) _ _ _ _ (is_failing result) (has_failed result) e.went;
      length_is = e.length;
      limit_is = e.limit;
    }))
