use Rattle.std.proofs.Common.{sym, subst, List, ℕ, Option, None, Some, Result, Ok, Err}
use Rattle.std.specs.Prelude.{OnOk, OnErr}
use Rattle.log_journal.specs.StandsFor.{disk_of}
use Rattle.paired_journal.specs.Files.{OtherStands, HasRenewed}
use Rattle.paired_journal.proofs.Filed.{ok_from}
use Rattle.paired_journal.proofs.files.Files.renew.Goals as goal

pub renew-beside-requires-clause-beside : goal.renew-beside-requires-clause-beside
renew-beside-requires-clause-beside g c =
    let held = c.requires.beside in
    (held.0, subst (λ o. OtherStands (disk_of c.args.self.now.current) o held.0) (sym c.in-Some.ensures.value) held.1)

pub returns : goal.returns
returns g c =
    let e = c.renew-beside.ensures in
    let result = c.renew-beside.result.1 in
    let old = c.args.self.now.current in
    let new = c.renew-beside.new.current in
    let payload = c.args.payload.now in
    subst (λ o. HasRenewed old new o c.replace.new.dest payload result) c.in-Some.ensures.value
    (subst (λ o. HasRenewed old new (Some c.in-Some.beside) o payload result) (sym c.replace.ensures.after) (record {
      done = λ payloads doubt stands shows. ok_from result _ _ (λ renewed. record { second = renewed.second; generation = renewed.generation; stands = renewed.stands; behind = renewed.behind }) (e.done payloads doubt stands shows);
      length_is = e.length;
      limit_is = e.limit;
      stands = e.stands;
      behind = e.beside;
      second = e.second;
      generation = e.generation;
      same_length = e.same_length;
      same_limit = e.same_limit;
      on_current = e.on_current;
      on_other = e.on_other;
      went = e.went;
    }))
