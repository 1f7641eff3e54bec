use Rattle.std.proofs.Common.{◌≡◌, ℕ, List, ap, sym, subst}
use Rattle.delta_base.specs.Listed.{Listed}
use Rattle.journal_upgrade.specs.Safe.{AreHeld, AreSafe}
use Rattle.journal_upgrade.proofs.Safety.{held_same}
use Rattle.journal_upgrade.proofs.upgrade.mark_and_finish.Goals as goal

pub returns-in-Ok-clause-safe : goal.returns-in-Ok-clause-safe
returns-in-Ok-clause-safe g c told payloads in_files in_spares =
    let past = g.D.Disk.past in
    let numbers = c.args.set.numbers.items in
    let mid = c.mark-set.result.0 in
    let end = c.finish.result.0 in
    let spares = held_same past numbers payloads 2000 c.args.set.spares.items mid.spares.items (ap (λ l. l.items) c.mark-set.ensures.same.1) in_spares in
    let same : mid.numbers.items ≡ numbers = ap (λ (l : Listed ℕ). l.items) c.mark-set.ensures.same.2 in
    subst (λ (n : List ℕ). AreSafe past n end.files.items end.spares.items (past end.marker) c.args.set.marker_number payloads) same
    (subst (λ (n : ℕ). AreSafe past mid.numbers.items end.files.items end.spares.items (past end.marker) n payloads) c.mark-set.ensures.same.3
    (c.finish.ensures.safe told payloads (subst (λ (n : List ℕ). AreHeld past 2000 n mid.spares.items payloads) (sym same) spares)))
