use Rattle.std.proofs.Common.{◌∷◌, [], Bool, Some, sym, subst}
use Rattle.std.specs.Prelude.{not}
use Rattle.log_journal.specs.StandsFor.{StandsFor}
use Rattle.zone_files.specs.Generation.{number_of, PayloadsShow}
use Rattle.paired_journal.proofs.Pairs.{before_next, not_twice}
use Rattle.paired_journal.proofs.renewing.begin_anew.Goals as goal

pub returns-in-Ok-clause-done : goal.returns-in-Ok-clause-done
returns-in-Ok-clause-done g c = λ payloads stands shows.
    let second = c.args.beside.on_second in
    record {
      second = c.left_by.ensures.second;
      generation = c.left_by.ensures.generation;
      stands = subst (λ journal. StandsFor journal (number_of (not second)) (c.args.payload.now ∷ [])) (sym c.replace-old.ensures.after) c.in-Ok.ensures.ok;
      behind = c.left_by.ensures.stands payloads (Some c.args.beside.generation)
          (subst (λ (b : Bool). PayloadsShow b payloads (Some c.args.beside.generation)) (sym (not_twice second)) shows)
          (before_next second c.args.beside.generation)
          (subst (λ (b : Bool). StandsFor c.replace-old.result (number_of b) payloads) (sym (not_twice second)) (subst (λ journal. StandsFor journal (number_of second) payloads) (sym c.replace-old.ensures.value) stands));
    }
