use Rattle.std.proofs.Common.{◌≡◌, ℕ, length, take, drop, min, sym, ◌∙◌, ap, arith, rules}
use Rattle.std.proofs.lemmas.List.{take_at}
use Rattle.disk_model.specs.Past.{reads}
use Rattle.log_journal.proofs.Fronts.{first_of_head, breaks_in_first, first_shown}
use Rattle.log_journal.proofs.first_payload.first_behind.Goals as goal

pub returns-in-Err-clause-found : goal.returns-in-Err-clause-found
returns-in-Err-clause-found g c told = first_of_head (reads (g.D.Disk.past c.args.disk.now)) c.in-Err.fault c.start_fault.result (c.in-Err.ensures.found told) c.start_fault.ensures

pub returns-then-file_length-from-clause-found : goal.returns-then-file_length-from-clause-found
returns-then-file_length-from-clause-found g c told =
    let file = reads (g.D.Disk.past c.args.disk.now) in
    let found = c.in-Ok.ensures.found told in
    let long : length file ≡ c.args.file_length = sym (c.requires.length told) in
    breaks_in_first file c.in-Ok.size (c.requires.open told) found.0 found.2 (omega (arith, long, c.in-Ok.ensures.within)) (omega (arith, long, c.in-Ok.ensures.within, c.if-file_length-from.true, c.from.ensures))

pub returns-clause-found : goal.returns-clause-found
returns-clause-found g c told =
    let file = reads (g.D.Disk.past c.args.disk.now) in
    let found = c.in-Ok.ensures.found told in
    let long : length file ≡ c.args.file_length = sym (c.requires.length told) in
    let size : length c.deref_mut.result.now ≡ min c.in-Ok.size 64 = search rules in
    let read : c.fetch.new.into ≡ take (min c.in-Ok.size 64) (drop 17 file) =
    c.in_ok-fetch.ensures.bytes told c.if-not-branch.false ∙ ap (λ p. take (length c.deref_mut.result.now) (drop 17 (reads p))) c.read_head.ensures.past ∙ ap (λ (n : ℕ). take n (drop 17 file)) size in
    let kept : c.from_vec.result ≡ c.fetch.new.into = c.from_vec.ensures ∙ take_at c.fetch.new.into (drop (length c.fetch.new.into) c.in_ok-bytes.bytes.items) c.in_ok-bytes.bytes.len (c.fetch.auto.into ∙ c.deref_mut.ensures.len) in
    first_shown file c.in-Ok.size (c.requires.open told) found.0 found.2 (omega (arith, long, c.in-Ok.ensures.within)) c.from_vec.result (omega (arith, long, c.in-Ok.ensures.within, c.if-file_length-from.false, c.from.ensures)) (kept ∙ read)
