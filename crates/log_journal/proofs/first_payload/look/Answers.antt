use Rattle.std.proofs.Common.{inr, subst, ◌∙◌, Err, ◌<◌, ◌≡◌, ◌++◌, drop, length, arith}
use Rattle.disk_model.specs.Past.{reads}
use Rattle.log_journal.specs.File.{header}
use Rattle.log_journal.specs.Front.{IsFirst}
use Rattle.log_journal.specs.Reading.{HasByte, ReadsHeader}
use Rattle.log_journal.specs.declared.form.Form.TheVariants.{New}
use Rattle.log_journal.proofs.Headers.{named}
use Rattle.log_journal.proofs.Fronts.{shut_front, front_of_first, front_of_header}
use Rattle.log_journal.proofs.first_payload.look.Goals as goal

pub returns-in-Err-clause-found : goal.returns-in-Err-clause-found
returns-in-Err-clause-found g c told =
    let file = reads (g.D.Disk.past c.args.disk.now) in
    let long : 9 < length file = omega (arith, c.in_ok-file_length.ensures.length told, c.if-file_length-le-EMPTY_JOURNAL.false) in
    let found = subst (λ p. ReadsHeader (reads p) (Err c.in-Err.fault)) c.len.ensures.past (c.in-Err.ensures.found told) in
    front_of_header file c.args.number c.in-Err.fault c.start_fault.result long found c.start_fault.ensures

pub returns-in-Ok-eq1-clause-found : goal.returns-in-Ok-eq1-clause-found
returns-in-Ok-eq1-clause-found g c told =
    let file = reads (g.D.Disk.past c.args.disk.now) in
    let before : g.D.Disk.past c.read_header.new.disk ≡ g.D.Disk.past c.args.disk.now = c.read_header.ensures.past ∙ c.len.ensures.past in
    let same : g.D.Disk.past c.read_gate.new.disk ≡ g.D.Disk.past c.args.disk.now = c.read_gate.ensures.past ∙ before in
    let begins : file ≡ header New c.args.number ++ drop 8 file = named (g.D.Disk.past c.len.new.self) (g.D.Disk.past c.args.disk.now) c.in-Ok-New-default.field-0-0 c.in-Ok-New-default.found c.args.number c.len.ensures.past c.in-Ok-New-default.field-0-0-is c.if-found-number.false (c.in-Ok-New-default.ensures.found told).1 in
    let long : 9 < length file = omega (arith, c.in_ok-file_length.ensures.length told, c.if-file_length-le-EMPTY_JOURNAL.false) in
    front_of_first file c.args.number c.first_behind.result begins long (subst (λ p. IsFirst (reads p) c.first_behind.result) same (c.first_behind.ensures.found told))

pub returns-in-Ok-clause-found : goal.returns-in-Ok-clause-found
returns-in-Ok-clause-found g c told =
    let file = reads (g.D.Disk.past c.args.disk.now) in
    let before : g.D.Disk.past c.read_header.new.disk ≡ g.D.Disk.past c.args.disk.now = c.read_header.ensures.past ∙ c.len.ensures.past in
    let begins : file ≡ header New c.args.number ++ drop 8 file = named (g.D.Disk.past c.len.new.self) (g.D.Disk.past c.args.disk.now) c.in-Ok-New-default.field-0-0 c.in-Ok-New-default.found c.args.number c.len.ensures.past c.in-Ok-New-default.field-0-0-is c.if-found-number.false (c.in-Ok-New-default.ensures.found told).1 in
    let stands = subst (λ p. HasByte (reads p) 8 c.in-Ok.field-0) before (c.in-Ok.ensures.found told) in
    inr (shut_front file c.args.number c.in-Ok.field-0 begins stands c.in-Ok.field-0-test.1)
