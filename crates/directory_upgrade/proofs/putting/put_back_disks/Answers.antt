use Rattle.std.proofs.Common.{◌≡◌, ⊎_elim, ◌<◌, ◌≤◌, ◌+◌, ◌++◌, ◌∷◌, [], List, ℕ, length, map, ap, sym, subst, ◌∙◌, arith, append_assoc, append-nil, length-append}
use Rattle.std.specs.Prelude.{slice_index}
use Rattle.std.proofs.lemmas.Bool.{cases_lt}
use Rattle.directory_upgrade.proofs.Lists.{at_middle}
use Rattle.directory_upgrade.proofs.PutBack.{HaveReadFrom, none_touched, read_more, same_more, rose_before, rose_behind}
use Rattle.directory_upgrade.proofs.putting.put_back_disks.Goals as goal

pub loop-disk-init : goal.loop-disk-init
loop-disk-init g c = (
  [],
  sym (append-nil c.args.disks.items),
  (λ told dir more numbers differ many marks i from below. absurd (omega (arith, many, from, below))),
  (λ told dir more numbers many marks. none_touched dir more numbers (g.H.Shelf.files c.args.shelf.now)),
  omega arith,
  (λ i from below failed. absurd (omega (arith, from, below))),
)

pub loop-disk-preserved : goal.loop-disk-preserved
loop-disk-preserved g c =
    let l = c.loop-disk in
    let rest : List g.row.H-D.Denot = c.pop.new.self.items in
    let disk = c.in-Some.disk in
    let back : List g.row.H-D.Denot = l.invariant.0 in
    let all : List g.row.H-D.Denot = c.args.disks.items in
    let old = g.H.Shelf.files c.args.shelf.now in
    let mid = g.H.Shelf.files l.shelf in
    let new = g.H.Shelf.files c.put_back.new.self in
    let popped : l.disks.items ≡ rest ++ disk ∷ [] = c.in-Some.ensures.items in
    let count : length l.disks.items ≡ length rest + 1 = ap length popped ∙ length-append rest (disk ∷ []) in
    let whole : all ≡ rest ++ disk ∷ back =
    l.invariant.1 ∙ ap (λ (xs : List g.row.H-D.Denot). xs ++ back) popped ∙ append_assoc rest (disk ∷ []) back in (
      disk ∷ back,
      whole,
      (λ told dir more numbers differ many marks.
          read_more g.H.D.Disk dir more numbers all rest disk back whole many marks mid new (c.put_back.ensures.others told) differ (λ d n is. c.put_back.ensures.kept told d n is)
          (subst (λ (n : ℕ). HaveReadFrom n mid dir more numbers (map g.H.D.Disk.past all)) count (l.invariant.2 told dir more numbers differ many marks))),
      (λ told dir more numbers many marks.
          same_more g.H.D.Disk dir more numbers all rest disk back whole many marks mid new (c.put_back.ensures.others told) old (l.invariant.3 told dir more numbers many marks)),
      omega (arith, l.invariant.4, c.put_back.ensures.never_falls),
      (λ i from below failed. ⊎_elim
          (λ (less : i < length rest + 1).
          let same : i ≡ length rest = omega (arith, from, less) in
          let here : slice_index (map g.H.D.Disk.faults all) i ≡ g.H.D.Disk.faults disk = ap (slice_index (map g.H.D.Disk.faults all)) same ∙ ap (λ (l : List g.row.H-D.Denot). slice_index (map g.H.D.Disk.faults l) (length rest)) whole ∙ at_middle g.H.D.Disk.faults rest disk back _ in
          rose_before (g.H.Shelf.faults c.args.shelf.now) (g.H.Shelf.faults l.shelf) (g.H.Shelf.faults c.put_back.new.self) l.invariant.4
          (c.put_back.ensures.rises (subst (λ (n : ℕ). 0 < n) here failed)))
          (λ (past : length rest + 1 ≤ i). rose_behind (g.H.Shelf.faults c.args.shelf.now) (g.H.Shelf.faults l.shelf) (g.H.Shelf.faults c.put_back.new.self) l.invariant.4
          (l.invariant.5 i (omega (arith, past, count)) below failed) c.put_back.ensures.never_falls)
          (cases_lt i (length rest + 1))),
    )
