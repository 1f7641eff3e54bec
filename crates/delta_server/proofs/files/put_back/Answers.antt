use Rattle.std.proofs.Common.{◌≡◌, ⊎_elim, ◌<◌, ◌+◌, ◌++◌, ◌∷◌, [], List, ℕ, length, ap, subst, ◌∙◌, arith, append_assoc, length-append}
use Rattle.std.specs.Prelude.{Some}
use Rattle.delta_server.specs.Files.{AreMarked}
use Rattle.delta_server.proofs.Shelving.{AreBack, back_more, marked_split, rose_before, rose_behind}
use Rattle.delta_server.proofs.files.put_back.Goals as goal

pub loop-disk-preserved : goal.loop-disk-preserved
loop-disk-preserved g c =
    let l = c.loop-disk in
    let rest : List g.row.H-D.Denot = c.pop.new.self.items in
    let disk = c.in-Some.disk in
    let back : List g.row.H-D.Denot = l.invariant.0 in
    let old = g.H.Shelf.files c.args.shelf.now in
    let mid = g.H.Shelf.files l.shelf in
    let new = g.H.Shelf.files c.put_back.new.self in
    let popped : l.disks.items ≡ rest ++ disk ∷ [] = c.in-Some.ensures.items in
    let count : length l.disks.items ≡ length rest + 1 = ap length popped ∙ length-append rest (disk ∷ []) in
    let whole : c.args.disks.items ≡ rest ++ disk ∷ back =
    l.invariant.1 ∙ ap (λ (xs : List g.row.H-D.Denot). xs ++ back) popped ∙ append_assoc rest (disk ∷ []) back in (
      disk ∷ back,
      whole,
      (λ told dir marked.
          let at : g.H.D.Disk.mark disk ≡ Some (dir, length rest) =
          marked_split g.H.D.Disk dir 0 rest disk back (subst (AreMarked g.H.D.Disk dir 0) whole marked) ∙ ap (λ (n : ℕ). Some (dir, n)) (omega arith) in
          back_more g.H.D.Disk dir (length rest) disk back old mid new at
          (subst (λ (n : ℕ). AreBack g.H.D.Disk dir n back old mid) count (l.invariant.2 told dir marked))
          (c.put_back.ensures.kept told dir (length rest) at) (c.put_back.ensures.others told)),
      omega (arith, l.invariant.3, c.put_back.ensures.never_falls),
      (λ other stands failed. ⊎_elim
          (λ here. rose_before (g.H.Shelf.faults c.args.shelf.now) (g.H.Shelf.faults l.shelf) (g.H.Shelf.faults c.put_back.new.self) l.invariant.3
          (c.put_back.ensures.rises (subst (λ (d : g.row.H-D.Denot). 0 < g.H.D.Disk.faults d) here failed)))
          (λ behind. rose_behind (g.H.Shelf.faults c.args.shelf.now) (g.H.Shelf.faults l.shelf) (g.H.Shelf.faults c.put_back.new.self) l.invariant.3
          (l.invariant.4 other behind failed) c.put_back.ensures.never_falls)
          stands),
    )
