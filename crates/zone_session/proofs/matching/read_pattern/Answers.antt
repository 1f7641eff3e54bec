use Rattle.std.proofs.Common.{refl, codes}
use Rattle.serde_json.specs.View.{view}
use Rattle.pattern_words.specs.Words.{IsPartWord}
use Rattle.pattern_words.specs.declared.words.Position.TheVariants as position
use Rattle.zone_session.specs.Matching.{LacksWord, wrong_object, wrong_predicate, wrong_subject}
use Rattle.zone_session.proofs.Matched.{first_wrong}
use Rattle.zone_session.proofs.matching.read_pattern.Goals as goal

pub returns-in-Err-part_in-clause-reads : goal.returns-in-Err-part_in-clause-reads
returns-in-Err-part_in-clause-reads c =
    let value = view c.args.value.now in
    first_wrong value c.in-Err-part_in.fault (codes "subject") (LacksWord value (IsPartWord position.Subject) (codes "subject"))
    (λ lacks. wrong_subject c.in-Ok.graph c.in-Ok.ensures lacks refl) c.in-Err-part_in.ensures

pub returns-in-Err-part_in-2-clause-reads : goal.returns-in-Err-part_in-2-clause-reads
returns-in-Err-part_in-2-clause-reads c =
    let value = view c.args.value.now in
    first_wrong value c.in-Err-part_in-2.fault (codes "predicate") (LacksWord value (IsPartWord position.Predicate) (codes "predicate"))
    (λ lacks. wrong_predicate c.in-Ok.graph c.in-Ok-part_in.subject c.in-Ok.ensures c.in-Ok-part_in.ensures lacks refl) c.in-Err-part_in-2.ensures

pub returns-in-Err-part_in-3-clause-reads : goal.returns-in-Err-part_in-3-clause-reads
returns-in-Err-part_in-3-clause-reads c =
    let value = view c.args.value.now in
    first_wrong value c.in-Err-part_in-3.fault (codes "object") (LacksWord value (IsPartWord position.Object) (codes "object"))
    (λ lacks. wrong_object c.in-Ok.graph c.in-Ok-part_in.subject c.in-Ok-part_in-2.predicate c.in-Ok.ensures c.in-Ok-part_in.ensures c.in-Ok-part_in-2.ensures lacks refl) c.in-Err-part_in-3.ensures
