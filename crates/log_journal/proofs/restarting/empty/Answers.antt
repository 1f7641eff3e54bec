use Rattle.std.proofs.Common.{◌≡◌, ◌≢◌, ◌≤◌, ◌<◌, [], ◌∷◌, ◌++◌, length, get_or, sym, ◌∙◌, subst, arith}
use Rattle.std.specs.Prelude.{OnOk, OnErr}
use Rattle.std.proofs.lemmas.Result.{on_ok_weaker}
use Rattle.disk_model.specs.Past.{reads, synced, wrote}
use Rattle.disk_model.specs.Calls.{WroteSome, ReadsAt}
use Rattle.log_journal.specs.File.{header}
use Rattle.log_journal.specs.declared.form.Form.TheVariants.{New}
use Rattle.log_journal.proofs.Emptying.{stayed, short_failed, short_done, long_kept, long_failed, long_done, gate_read, either_way}
use Rattle.log_journal.proofs.restarting.empty.Goals as goal

pub returns-in_err-file_length-clause-any_moment : goal.returns-in_err-file_length-clause-any_moment
returns-in_err-file_length-clause-any_moment g c told = stayed c.args.number (g.D.Disk.past c.args.disk.now) (g.D.Disk.past c.len.new.self) c.len.ensures.past

pub returns-in_err-read_at-clause-any_moment : goal.returns-in_err-read_at-clause-any_moment
returns-in_err-read_at-clause-any_moment g c told = stayed c.args.number (g.D.Disk.past c.args.disk.now) (g.D.Disk.past c.read_at.new.self) (c.read_at.ensures.past ∙ c.len.ensures.past)

pub returns-then-file_length-le-EMPTY_JOURNAL-clause-ok : goal.returns-then-file_length-le-EMPTY_JOURNAL-clause-ok
returns-then-file_length-le-EMPTY_JOURNAL-clause-ok g c told =
    let old = g.D.Disk.past c.args.disk.now in
    let new = g.D.Disk.past c.write_empty.new.disk in
    let short : length (reads old) ≤ 9 = omega (arith, c.in_ok-file_length.ensures.length told, c.if-file_length-le-EMPTY_JOURNAL.true) in
    let ok = subst (λ p. OnOk c.write_empty.result (new ≡ synced (wrote p 0 (header New c.args.number ++ 0 ∷ [])))) c.len.ensures.past (c.write_empty.ensures.ok told) in
    on_ok_weaker c.write_empty.result (λ is. (short_done c.args.number old short new is).0) ok

pub returns-then-file_length-le-EMPTY_JOURNAL-clause-any_moment : goal.returns-then-file_length-le-EMPTY_JOURNAL-clause-any_moment
returns-then-file_length-le-EMPTY_JOURNAL-clause-any_moment g c told =
    let old = g.D.Disk.past c.args.disk.now in
    let new = g.D.Disk.past c.write_empty.new.disk in
    let short : length (reads old) ≤ 9 = omega (arith, c.in_ok-file_length.ensures.length told, c.if-file_length-le-EMPTY_JOURNAL.true) in
    let ok = subst (λ p. OnOk c.write_empty.result (new ≡ synced (wrote p 0 (header New c.args.number ++ 0 ∷ [])))) c.len.ensures.past (c.write_empty.ensures.ok told) in
    let err = subst (λ p. OnErr c.write_empty.result (WroteSome 0 9 p new)) c.len.ensures.past (c.write_empty.ensures.err told) in
    either_way c.write_empty.result ok err (λ is. (short_done c.args.number old short new is).1) (short_failed c.args.number old short new)

pub returns-then-gate-eq1-clause-ok : goal.returns-then-gate-eq1-clause-ok
returns-then-gate-eq1-clause-ok g c told =
    let old = g.D.Disk.past c.args.disk.now in
    let new = g.D.Disk.past c.write_synced.new.disk in
    let same : g.D.Disk.past c.read_at.new.self ≡ old = c.read_at.ensures.past ∙ c.len.ensures.past in
    let long : 9 < length (reads old) = omega (arith, c.in_ok-file_length.ensures.length told, c.if-file_length-le-EMPTY_JOURNAL.false) in
    let found = subst (λ p. ReadsAt (reads p) 8 (0 ∷ []) c.read_at.new.into c.in_ok-read_at.field-0) c.len.ensures.past (c.in_ok-read_at.ensures.bytes told) in
    let opened : get_or (reads old) 8 0 ≡ 1 = sym (gate_read (reads old) c.read_at.new.into c.in_ok-read_at.field-0 long found) ∙ c.if-gate-eq1.true in
    let ok = subst (λ p. OnOk c.write_synced.result (new ≡ synced (wrote p 8 (0 ∷ [])))) same (c.write_synced.ensures.ok told) in
    on_ok_weaker c.write_synced.result (λ is. (long_done c.args.number old (g.met.D.Disk.reads_may_be_left c.args.disk.now told) (c.requires told) long opened new is).0) ok

pub returns-then-gate-eq1-clause-any_moment : goal.returns-then-gate-eq1-clause-any_moment
returns-then-gate-eq1-clause-any_moment g c told =
    let old = g.D.Disk.past c.args.disk.now in
    let new = g.D.Disk.past c.write_synced.new.disk in
    let same : g.D.Disk.past c.read_at.new.self ≡ old = c.read_at.ensures.past ∙ c.len.ensures.past in
    let long : 9 < length (reads old) = omega (arith, c.in_ok-file_length.ensures.length told, c.if-file_length-le-EMPTY_JOURNAL.false) in
    let found = subst (λ p. ReadsAt (reads p) 8 (0 ∷ []) c.read_at.new.into c.in_ok-read_at.field-0) c.len.ensures.past (c.in_ok-read_at.ensures.bytes told) in
    let opened : get_or (reads old) 8 0 ≡ 1 = sym (gate_read (reads old) c.read_at.new.into c.in_ok-read_at.field-0 long found) ∙ c.if-gate-eq1.true in
    let ok = subst (λ p. OnOk c.write_synced.result (new ≡ synced (wrote p 8 (0 ∷ [])))) same (c.write_synced.ensures.ok told) in
    let err = subst (λ p. OnErr c.write_synced.result (WroteSome 8 1 p new)) same (c.write_synced.ensures.err told) in
    let here = g.met.D.Disk.reads_may_be_left c.args.disk.now told in
    either_way c.write_synced.result ok err (λ is. (long_done c.args.number old here (c.requires told) long opened new is).1) (long_failed c.args.number old here (c.requires told) long opened new)

pub returns-clause-ok : goal.returns-clause-ok
returns-clause-ok g c told =
    let old = g.D.Disk.past c.args.disk.now in
    let new = g.D.Disk.past c.sync.new.self in
    let same : g.D.Disk.past c.read_at.new.self ≡ old = c.read_at.ensures.past ∙ c.len.ensures.past in
    let long : 9 < length (reads old) = omega (arith, c.in_ok-file_length.ensures.length told, c.if-file_length-le-EMPTY_JOURNAL.false) in
    let found = subst (λ p. ReadsAt (reads p) 8 (0 ∷ []) c.read_at.new.into c.in_ok-read_at.field-0) c.len.ensures.past (c.in_ok-read_at.ensures.bytes told) in
    let shut : get_or (reads old) 8 0 ≢ 1 = λ is. c.if-gate-eq1.false (gate_read (reads old) c.read_at.new.into c.in_ok-read_at.field-0 long found ∙ is) in
    let ok = subst (λ p. OnOk c.sync.result (new ≡ synced p)) same (c.sync.ensures.ok told) in
    on_ok_weaker c.sync.result (λ is. (long_kept c.args.number old (g.met.D.Disk.reads_may_be_left c.args.disk.now told) (c.requires told) long new shut is).0) ok

pub returns-clause-any_moment : goal.returns-clause-any_moment
returns-clause-any_moment g c told =
    let old = g.D.Disk.past c.args.disk.now in
    let new = g.D.Disk.past c.sync.new.self in
    let same : g.D.Disk.past c.read_at.new.self ≡ old = c.read_at.ensures.past ∙ c.len.ensures.past in
    let long : 9 < length (reads old) = omega (arith, c.in_ok-file_length.ensures.length told, c.if-file_length-le-EMPTY_JOURNAL.false) in
    let found = subst (λ p. ReadsAt (reads p) 8 (0 ∷ []) c.read_at.new.into c.in_ok-read_at.field-0) c.len.ensures.past (c.in_ok-read_at.ensures.bytes told) in
    let shut : get_or (reads old) 8 0 ≢ 1 = λ is. c.if-gate-eq1.false (gate_read (reads old) c.read_at.new.into c.in_ok-read_at.field-0 long found ∙ is) in
    let ok = subst (λ p. OnOk c.sync.result (new ≡ synced p)) same (c.sync.ensures.ok told) in
    let err = subst (λ p. OnErr c.sync.result (new ≡ p)) same (c.sync.ensures.err told) in
    either_way c.sync.result ok err (λ is. (long_kept c.args.number old (g.met.D.Disk.reads_may_be_left c.args.disk.now told) (c.requires told) long new shut is).1) (stayed c.args.number old new)
