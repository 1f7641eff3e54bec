use Rattle.std.proofs.Common.{◌≡◌, ◌≢◌, ◌-◌, ◌^◌, min, ℕ, List, sym, ◌∙◌, ap, subst, rules}
use Rattle.std.specs.Prelude.{OnOk, IfErr}
use Rattle.std.proofs.lemmas.Result.{IfOk-at_ok, IfErr-weaker}
use Rattle.delta_base.specs.Listed.{Listed}
use Rattle.disk_model.specs.Past.{EveryImage}
use Rattle.log_journal.specs.Front.{HoldsNothing}
use Rattle.log_journal.specs.declared.form.Form.{Form}
use Rattle.journal_upgrade.specs.Copies.{AreCopied, AreWell, AreBrought, AreSynced, count_old}
use Rattle.journal_upgrade.specs.Faults.{IsUpgradeFault}
use Rattle.journal_upgrade.specs.Safe.{AreHeld, AreSafe}
use Rattle.journal_upgrade.proofs.Marker.{nothing_unmarked}
use Rattle.journal_upgrade.proofs.Safety.{held_kept, held_copied, safe_unmarked}
use Rattle.journal_upgrade.proofs.Brought.{as_it_is, upgraded_by, no_spare_fault}
use Rattle.journal_upgrade.proofs.upgrade.upgrade_unmarked.Goals as goal

pub fill_spares-set-requires-clause-unmarked : goal.fill_spares-set-requires-clause-unmarked
fill_spares-set-requires-clause-unmarked g c told image left = nothing_unmarked image c.args.set.marker_number (c.requires.nothing told image left)

pub returns-in-Ok-eq0-clause-ok : goal.returns-in-Ok-eq0-clause-ok
returns-in-Ok-eq0-clause-ok g c told =
    let past = g.D.Disk.past in
    let numbers = c.args.set.numbers.items in
    let files = c.args.set.files.items in
    let news = c.fill_spares-set.result.0.files.items in
    let none : c.in-Ok-eq0.field-0 ≡ 0 = sym c.in-Ok-eq0.field-0-is ∙ c.in-Ok-eq0.field-0-test in
    let counted = IfOk-at_ok (λ count. (forms : List Form) × AreWell past 0 numbers files forms × (count ≡ min (count_old forms) (2 ^ 32 - 1)) × (count ≢ 0 → AreBrought past 0 2000 numbers files forms c.fill_spares-set.result.0.spares.items)) c.in-Ok-eq0.is (c.fill_spares-set.ensures.counted told) in
    let synced = IfOk-at_ok (λ count. count ≡ 0 → AreSynced past news) c.in-Ok-eq0.is (c.fill_spares-set.ensures.synced told) none in
    let is_none : 0 ≡ min (count_old counted.0) (2 ^ 32 - 1) = sym none ∙ counted.2 in (
      counted.0,
      as_it_is past numbers files counted.0 news c.requires.set.as_many_files counted.1 is_none (c.fill_spares-set.ensures.files told) synced,
      is_none,
    )

pub returns-in-Ok-clause-ok : goal.returns-in-Ok-clause-ok
returns-in-Ok-clause-ok g c told =
    let past = g.D.Disk.past in
    let numbers = c.args.set.numbers.items in
    let files = c.args.set.files.items in
    let spares = c.fill_spares-set.result.0.spares.items in
    let news = c.mark_and_finish.result.0.files.items in
    let some : c.in-Ok.count ≢ 0 = search rules in
    let counted = IfOk-at_ok (λ count. (forms : List Form) × AreWell past 0 numbers files forms × (count ≡ min (count_old forms) (2 ^ 32 - 1)) × (count ≢ 0 → AreBrought past 0 2000 numbers files forms spares)) c.in-Ok.is (c.fill_spares-set.ensures.counted told) in
    let same : c.fill_spares-set.result.0.numbers.items ≡ numbers = ap (λ (l : Listed ℕ). l.items) c.fill_spares-set.ensures.same.1 in
    let back = subst (λ (n : List ℕ). OnOk c.mark_and_finish.result.1 ((others : List Form) × AreBrought past 2000 0 n spares others news)) same (c.mark_and_finish.ensures.brought told) in
    upgraded_by past numbers files c.args.set.spares.items spares counted.0 news c.in-Ok.count (λ disk. g.met.D.Disk.reads_may_be_left disk told) c.mark_and_finish.result.1 (counted.3 some) counted.2 c.mark_and_finish.ensures.done back

pub returns-in-Ok-clause-fault : goal.returns-in-Ok-clause-fault
returns-in-Ok-clause-fault g c told =
    let past = g.D.Disk.past in
    let numbers = c.args.set.numbers.items in
    let files = c.args.set.files.items in
    let spares = c.fill_spares-set.result.0.spares.items in
    let some : c.in-Ok.count ≢ 0 = search rules in
    let counted = IfOk-at_ok (λ count. (forms : List Form) × AreWell past 0 numbers files forms × (count ≡ min (count_old forms) (2 ^ 32 - 1)) × (count ≢ 0 → AreBrought past 0 2000 numbers files forms spares)) c.in-Ok.is (c.fill_spares-set.ensures.counted told) in
    let same : c.fill_spares-set.result.0.numbers.items ≡ numbers = ap (λ (l : Listed ℕ). l.items) c.fill_spares-set.ensures.same.1 in
    let fault = subst (λ (n : List ℕ). IfErr c.mark_and_finish.result.1 (IsUpgradeFault past 2000 n spares)) same (c.mark_and_finish.ensures.fault told) in
    IfErr-weaker c.mark_and_finish.result.1 (IsUpgradeFault past 2000 numbers spares) (IsUpgradeFault past 0 numbers files)
    (no_spare_fault past numbers files spares counted.0 (λ disk. g.met.D.Disk.reads_may_be_left disk told) (counted.3 some) c.requires.set.known) fault

pub returns-in-Ok-eq0-clause-safe : goal.returns-in-Ok-eq0-clause-safe
returns-in-Ok-eq0-clause-safe g c told payloads held =
    let past = g.D.Disk.past in
    let end = c.fill_spares-set.result.0 in
    safe_unmarked past c.args.set.numbers.items payloads end.files.items end.spares.items (past end.marker) c.args.set.marker_number
    (subst (λ m. EveryImage (past m) (λ image. HoldsNothing image c.args.set.marker_number)) (sym c.fill_spares-set.ensures.same.0) (c.requires.nothing told))
    (held_kept past c.args.set.numbers.items payloads 0 c.args.set.files.items end.files.items c.requires.set.as_many_files (c.fill_spares-set.ensures.files told) held)

pub returns-in-Err-clause-safe : goal.returns-in-Err-clause-safe
returns-in-Err-clause-safe g c told payloads held =
    let past = g.D.Disk.past in
    let end = c.fill_spares-set.result.0 in
    safe_unmarked past c.args.set.numbers.items payloads end.files.items end.spares.items (past end.marker) c.args.set.marker_number
    (subst (λ m. EveryImage (past m) (λ image. HoldsNothing image c.args.set.marker_number)) (sym c.fill_spares-set.ensures.same.0) (c.requires.nothing told))
    (held_kept past c.args.set.numbers.items payloads 0 c.args.set.files.items end.files.items c.requires.set.as_many_files (c.fill_spares-set.ensures.files told) held)

pub returns-in-Ok-clause-safe : goal.returns-in-Ok-clause-safe
returns-in-Ok-clause-safe g c told payloads held =
    let past = g.D.Disk.past in
    let numbers = c.args.set.numbers.items in
    let mid = c.fill_spares-set.result.0 in
    let end = c.mark_and_finish.result.0 in
    let some : c.in-Ok.count ≢ 0 = search rules in
    let copied = IfOk-at_ok (λ count. count ≢ 0 → AreCopied past numbers mid.files.items mid.spares.items) c.in-Ok.is (c.fill_spares-set.ensures.ok told) some in
    let same : mid.numbers.items ≡ numbers = ap (λ (l : Listed ℕ). l.items) c.fill_spares-set.ensures.same.1 in
    let files = held_kept past numbers payloads 0 c.args.set.files.items mid.files.items c.requires.set.as_many_files (c.fill_spares-set.ensures.files told) held in
    let spares = held_copied past numbers payloads (λ disk. g.met.D.Disk.reads_may_be_left disk told) 0 2000 mid.files.items mid.spares.items copied files in
    subst (λ (n : List ℕ). AreSafe past n end.files.items end.spares.items (past end.marker) c.args.set.marker_number payloads) same
    (subst (λ (n : ℕ). AreSafe past mid.numbers.items end.files.items end.spares.items (past end.marker) n payloads) c.fill_spares-set.ensures.same.2
    (c.mark_and_finish.ensures.safe told payloads
    (subst (λ (n : List ℕ). AreHeld past 0 n mid.files.items payloads) (sym same) files)
    (subst (λ (n : List ℕ). AreHeld past 2000 n mid.spares.items payloads) (sym same) spares)))
