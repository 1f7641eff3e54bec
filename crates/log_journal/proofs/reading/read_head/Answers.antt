use Rattle.std.proofs.Common.{◌≡◌, ◌≤◌, ◌+◌, length, sym, subst, arith, take, drop}
use Rattle.std.specs.Int.{w32, to_be_bytes}
use Rattle.disk_model.specs.Past.{reads}
use Rattle.log_journal.specs.Reading.{ReadsHead}
use Rattle.log_journal.specs.declared.form.Form.{Form}
use Rattle.log_journal.proofs.Found.{head_new, SizeRead, SizeMissing}
use Rattle.log_journal.proofs.reading.read_head.Goals as goal

pub returns-in-Some-clause-found : goal.returns-in-Some-clause-found
returns-in-Some-clause-found g c told =
    let file = reads (g.D.Disk.past c.args.disk.now) in
    let r = c.read_size-in-Some.result in
    let fits = rw c.in-Some.is at c.in_ok-number-in-New.ensures.within in
    let spelled : to_be_bytes w32 c.in-Some.number ≡ take 4 (drop (c.args.at + 1) file) = rw c.in-Some.is at (c.in_ok-number-in-New.ensures.bytes told) in
    let next : c.in-Some.number ≡ c.args.before + 1 = omega (arith, c.from.ensures, c.if-from-before.true) in
    let within : c.args.at + 5 ≤ length file = omega (arith, c.requires.length told, fits.1) in
    let found : SizeRead file (c.args.at + 5) r = subst (λ p. SizeRead (reads p) (c.args.at + 5) r) c.fetch_number.ensures.past (c.read_size-in-Some.ensures.found told) in
    let missing : SizeMissing file (c.args.at + 5) r = subst (λ p. SizeMissing (reads p) (c.args.at + 5) r) c.fetch_number.ensures.past (c.read_size-in-Some.ensures.missing told) in
    subst (λ (f : Form). ReadsHead f file c.args.at c.args.before r) (sym c.in-New.is) (head_new file c.args.at c.args.before (c.requires.open told) c.in-Some.number fits.0 within spelled next r found missing)
