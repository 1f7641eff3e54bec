use Rattle.std.proofs.Common.{◌≡◌, ℕ, List, take, Ok, sym, ◌∙◌, subst}
use Rattle.log_journal.specs.Front.{IsFront}
use Rattle.log_journal.specs.declared.at_front.Front.{Front}
use Rattle.log_journal.specs.declared.at_front.Front.TheVariants.{First}
use Rattle.checkpoint_line.specs.First.{HasFirstLine}
use Rattle.zone_files.specs.Generation.{number_of}
use Rattle.zone_files.proofs.generation.generation_of.Goals as goal

pub returns-in-None-clause-none : goal.returns-in-None-clause-none
returns-in-None-clause-none c = λ file is.
    let shown : IsFront file (number_of c.args.second) (Ok (First c.in-First.length c.in-First.bytes)) = subst (λ (f : Front). IsFront file (number_of c.args.second) (Ok f)) c.in-First.is is in
    let bytes : c.as_slice-bytes.result.now ≡ take 64 shown.0 = c.as_slice-bytes.ensures ∙ shown.3 in
    record {
      payload = shown.0;
      first = shown.1;
      marked = (_, sym bytes ∙ c.in-Some.ensures.some);
      none = λ l begins. c.in-None.ensures l (subst (λ (t : List ℕ). HasFirstLine t l) (sym bytes) begins);
    }
