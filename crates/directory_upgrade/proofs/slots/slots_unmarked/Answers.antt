use Rattle.std.proofs.Common.{◌≡◌, ◌≢◌, ◌-◌, ◌^◌, min, ℕ, List, [], ◌∷◌, length, ap, sym, subst, ◌∙◌, arith, rules}
use Rattle.std.specs.Prelude.{IfOk, IfErr, slice_index_or}
use Rattle.std.proofs.lemmas.Result.{IfOk-at_ok, IfErr-at_err}
use Rattle.disk_model.specs.Past.{reads}
use Rattle.log_journal.specs.File.{HoldsIn, Holds}
use Rattle.log_journal.specs.declared.form.Form.{Form}
use Rattle.log_journal.specs.declared.form.Form.TheVariants.{New}
use Rattle.journal_upgrade.specs.Copies.{past_at, count_old, AreBrought, AreWell}
use Rattle.journal_upgrade.specs.Faults.{IsUpgradeFault}
use Rattle.journal_upgrade.proofs.Brought.{may_read}
use Rattle.journal_upgrade.proofs.Readings.{kept_twice}
use Rattle.directory_upgrade.specs.Slots.{FileStops, FrontStops, FrontTells}
use Rattle.directory_upgrade.proofs.Told.{file_stops, only_new, stops_all, tells_all}
use Rattle.directory_upgrade.proofs.slots.slots_unmarked.Goals as goal

pub returns-in-Ok-eq0-clause-files : goal.returns-in-Ok-eq0-clause-files
returns-in-Ok-eq0-clause-files g c told =
    kept_twice g.D.Disk.past c.args.set.files.items c.fill_spares-set.result.0.files.items (c.fill_spares-set.ensures.files told) c.slots_in_first-files.result.0.items (c.slots_in_first-files.ensures.kept told)

pub returns-in-Ok-eq0-clause-tells : goal.returns-in-Ok-eq0-clause-tells
returns-in-Ok-eq0-clause-tells g c told =
    let past = g.D.Disk.past in
    let numbers = c.args.set.numbers.items in
    let files = c.args.set.files.items in
    let spares = c.fill_spares-set.result.0.spares.items in
    let file = reads (past_at past files 0) in
    let one : length files ≡ 1 = c.requires.set.as_many_files ∙ ap length c.requires.registry in
    let none : c.in-Ok-eq0.field-0 ≡ 0 = sym c.in-Ok-eq0.field-0-is ∙ c.in-Ok-eq0.field-0-test in
    let counted = IfOk-at_ok (λ count. (forms : List Form) × AreWell past 0 numbers files forms × (count ≡ min (count_old forms) (2 ^ 32 - 1)) × (count ≢ 0 → AreBrought past 0 2000 numbers files forms spares)) c.in-Ok-eq0.is (c.fill_spares-set.ensures.counted told) in
    let whole : AreWell past 0 (0 ∷ []) files counted.0 = subst (λ (l : List ℕ). AreWell past 0 l files counted.0) c.requires.registry counted.1 in
    let well = whole.each 0 (omega arith) in
    let new : slice_index_or counted.0 0 New ≡ New = only_new counted.0 whole.as_many (sym none ∙ counted.2) in
    let holds : Holds file 0 well.payloads = subst (λ (form : Form). HoldsIn form file 0 well.payloads) new well.holds in
    let mids = c.fill_spares-set.result.0.files.items in
    let same : reads (past_at past mids 0) ≡ file = ((c.fill_spares-set.ensures.files told).each 0 (omega (arith, one))).reads_same in
    let r = c.slots_in_first-files.result.1 in
    tells_all file file 0 New well.payloads (omega arith) holds holds r (subst (λ (b : List ℕ). IfOk r (FrontTells b 0)) same (c.slots_in_first-files.ensures.tells told))

pub returns-in-Ok-eq0-clause-fault : goal.returns-in-Ok-eq0-clause-fault
returns-in-Ok-eq0-clause-fault g c told =
    let past = g.D.Disk.past in
    let numbers = c.args.set.numbers.items in
    let files = c.args.set.files.items in
    let spares = c.fill_spares-set.result.0.spares.items in
    let file = reads (past_at past files 0) in
    let one : length files ≡ 1 = c.requires.set.as_many_files ∙ ap length c.requires.registry in
    let none : c.in-Ok-eq0.field-0 ≡ 0 = sym c.in-Ok-eq0.field-0-is ∙ c.in-Ok-eq0.field-0-test in
    let counted = IfOk-at_ok (λ count. (forms : List Form) × AreWell past 0 numbers files forms × (count ≡ min (count_old forms) (2 ^ 32 - 1)) × (count ≢ 0 → AreBrought past 0 2000 numbers files forms spares)) c.in-Ok-eq0.is (c.fill_spares-set.ensures.counted told) in
    let whole : AreWell past 0 (0 ∷ []) files counted.0 = subst (λ (l : List ℕ). AreWell past 0 l files counted.0) c.requires.registry counted.1 in
    let well = whole.each 0 (omega arith) in
    let new : slice_index_or counted.0 0 New ≡ New = only_new counted.0 whole.as_many (sym none ∙ counted.2) in
    let holds : Holds file 0 well.payloads = subst (λ (form : Form). HoldsIn form file 0 well.payloads) new well.holds in
    let mids = c.fill_spares-set.result.0.files.items in
    let same : reads (past_at past mids 0) ≡ file = ((c.fill_spares-set.ensures.files told).each 0 (omega (arith, one))).reads_same in
    let r = c.slots_in_first-files.result.1 in
    stops_all file file 0 New well.payloads (omega arith) holds holds r (subst (λ (b : List ℕ). IfErr r (FrontStops b 0)) same (c.slots_in_first-files.ensures.fault told))

pub returns-in-Ok-clause-tells : goal.returns-in-Ok-clause-tells
returns-in-Ok-clause-tells g c told =
    let past = g.D.Disk.past in
    let numbers = c.args.set.numbers.items in
    let files = c.args.set.files.items in
    let spares = c.fill_spares-set.result.0.spares.items in
    let file = reads (past_at past files 0) in
    let one : length files ≡ 1 = c.requires.set.as_many_files ∙ ap length c.requires.registry in
    let some : c.in-Ok.field-0 ≢ 0 = search rules in
    let counted = IfOk-at_ok (λ count. (forms : List Form) × AreWell past 0 numbers files forms × (count ≡ min (count_old forms) (2 ^ 32 - 1)) × (count ≢ 0 → AreBrought past 0 2000 numbers files forms spares)) c.in-Ok.is (c.fill_spares-set.ensures.counted told) in
    let whole : AreBrought past 0 2000 (0 ∷ []) files counted.0 spares = subst (λ (l : List ℕ). AreBrought past 0 2000 l files counted.0 spares) c.requires.registry (counted.3 some) in
    let brought = whole.each 0 (omega arith) in
    let other = reads (past_at past spares 0) in
    let holds : Holds other 2000 brought.payloads = brought.holds other (may_read past (λ disk. g.met.D.Disk.reads_may_be_left disk told) spares 0) in
    let form = slice_index_or counted.0 0 New in
    let r = c.slots_in_first-spares.result.1 in
    tells_all file other 2000 form brought.payloads (omega arith) brought.held holds r (c.slots_in_first-spares.ensures.tells told)

pub returns-in-Ok-clause-fault : goal.returns-in-Ok-clause-fault
returns-in-Ok-clause-fault g c told =
    let past = g.D.Disk.past in
    let numbers = c.args.set.numbers.items in
    let files = c.args.set.files.items in
    let spares = c.fill_spares-set.result.0.spares.items in
    let file = reads (past_at past files 0) in
    let one : length files ≡ 1 = c.requires.set.as_many_files ∙ ap length c.requires.registry in
    let some : c.in-Ok.field-0 ≢ 0 = search rules in
    let counted = IfOk-at_ok (λ count. (forms : List Form) × AreWell past 0 numbers files forms × (count ≡ min (count_old forms) (2 ^ 32 - 1)) × (count ≢ 0 → AreBrought past 0 2000 numbers files forms spares)) c.in-Ok.is (c.fill_spares-set.ensures.counted told) in
    let whole : AreBrought past 0 2000 (0 ∷ []) files counted.0 spares = subst (λ (l : List ℕ). AreBrought past 0 2000 l files counted.0 spares) c.requires.registry (counted.3 some) in
    let brought = whole.each 0 (omega arith) in
    let other = reads (past_at past spares 0) in
    let holds : Holds other 2000 brought.payloads = brought.holds other (may_read past (λ disk. g.met.D.Disk.reads_may_be_left disk told) spares 0) in
    let form = slice_index_or counted.0 0 New in
    let r = c.slots_in_first-spares.result.1 in
    stops_all file other 2000 form brought.payloads (omega arith) brought.held holds r (c.slots_in_first-spares.ensures.fault told)

pub returns-in-Err-clause-fault : goal.returns-in-Err-clause-fault
returns-in-Err-clause-fault g c told =
    let past = g.D.Disk.past in
    let files = c.args.set.files.items in
    let has = IfErr-at_err (IsUpgradeFault past 0 c.args.set.numbers.items files) c.in-Err.is (c.fill_spares-set.ensures.fault told) in
    subst (FileStops (reads (past_at past files 0))) (sym c.check_fault.ensures)
    (file_stops past files c.in-Err.fault (subst (λ (l : List ℕ). IsUpgradeFault past 0 l files c.in-Err.fault) c.requires.registry has))
