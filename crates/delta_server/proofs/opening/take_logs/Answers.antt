use Rattle.std.proofs.Common.{◌≡◌, ◌+◌, ◌∷◌, [], List, ℕ, length, sym, ap, subst, ◌∙◌, arith, length-append}
use Rattle.std.specs.Prelude.{Some}
use Rattle.std.specs.Global.{Vec}
use Rattle.disk_model.specs.Past.{began}
use Rattle.slot_checks.proofs.Steps.{opened_kept, same_bytes, visit_kept}
use Rattle.slot_files.specs.Files.{bytes_at}
use Rattle.delta_server.specs.Files.{AreMarked, HaveBegun}
use Rattle.delta_server.proofs.Shelving.{marked_more, begun_more}
use Rattle.delta_server.proofs.opening.take_logs.Goals as goal
use Rattle.delta_server.proofs.opening.take_logs.Goals.{else-loop-number-test, then-loop-number-test+in-Ok+else-number-slots}

pub loop-number-preserved : goal.loop-number-preserved
loop-number-preserved g c =
    let l = c.loop-number in
    let old = g.H.Shelf.files c.args.shelf.now in
    let mid = g.H.Shelf.files l.shelf in
    let new = g.H.Shelf.files c.disk.new.self in
    let dir = c.args.dir.now in
    let number = l.number in
    let taken : List g.row.H-D.Denot = l.disks.items in
    let opened = c.in-Ok.ensures in
    let pushed = c.push_reserved.ensures.items in
    record {
      count = ap length pushed ∙ length-append taken (c.in-Ok.disk ∷ []) ∙ ap (λ (n : ℕ). n + 1) l.invariant.count;
      marked = λ told first. subst (AreMarked g.H.D.Disk dir 0) (sym pushed)
          (marked_more g.H.D.Disk dir 0 taken c.in-Ok.disk (l.invariant.marked told first)
          (opened.mark told ∙ ap (λ (n : ℕ). Some (dir, n)) (let at : number ≡ 0 + length taken = omega (arith, l.invariant.count) in at)));
      begun = λ told first. subst (HaveBegun g.H.D.Disk old dir 0) (sym pushed)
          (begun_more g.H.D.Disk old dir 0 taken c.in-Ok.disk (l.invariant.begun told first)
          (opened.opened told ∙ ap (λ (b : List ℕ). began b) (same_bytes dir number old mid number (l.invariant.kept told)
          ∙ ap (bytes_at old dir) (let at : number ≡ 0 + length taken = omega (arith, l.invariant.count) in at))));
      kept = λ told. visit_kept dir number old mid new (l.invariant.kept told) (opened_kept (mid dir number) (new dir number) (opened.made told)) (c.disk.ensures.others told);
      faults = omega (arith, l.invariant.faults, c.disk.ensures.never_falls);
      low = omega (arith, l.invariant.low);
      high = omega (arith, c.loop-number-test.true);
      room = c.push_reserved.ensures.capacity ∙ l.invariant.room;
    }

pub returns-clause-marked : goal.returns-clause-marked
returns-clause-marked g c told first =
    let l = c.loop-number in
    let dir = c.args.dir.now in
    let items = λ (disks : Vec g.row.H-D.Denot). disks.items in
    let taken : List g.row.H-D.Denot = l.disks.items in
    elim c.loop-number-test.branch [
      | else-loop-number-test w ↦ subst (AreMarked g.H.D.Disk dir 0) (sym (ap items w.disks-is)) (l.invariant.marked told first)
      | then-loop-number-test+in-Ok+else-number-slots w ↦
          subst (AreMarked g.H.D.Disk dir 0) (sym (ap items w.disks-is ∙ w.push_reserved.ensures.items))
          (marked_more g.H.D.Disk dir 0 taken w.in-Ok.disk (l.invariant.marked told first)
          (w.in-Ok.ensures.mark told ∙ ap (λ (n : ℕ). Some (dir, n)) (let at : l.number ≡ 0 + length taken = omega (arith, l.invariant.count) in at)))
    ]

pub returns-clause-begun : goal.returns-clause-begun
returns-clause-begun g c told first =
    let l = c.loop-number in
    let old = g.H.Shelf.files c.args.shelf.now in
    let mid = g.H.Shelf.files l.shelf in
    let dir = c.args.dir.now in
    let items = λ (disks : Vec g.row.H-D.Denot). disks.items in
    let taken : List g.row.H-D.Denot = l.disks.items in
    elim c.loop-number-test.branch [
      | else-loop-number-test w ↦ subst (HaveBegun g.H.D.Disk old dir 0) (sym (ap items w.disks-is)) (l.invariant.begun told first)
      | then-loop-number-test+in-Ok+else-number-slots w ↦
          subst (HaveBegun g.H.D.Disk old dir 0) (sym (ap items w.disks-is ∙ w.push_reserved.ensures.items))
          (begun_more g.H.D.Disk old dir 0 taken w.in-Ok.disk (l.invariant.begun told first)
          (w.in-Ok.ensures.opened told ∙ ap (λ (b : List ℕ). began b) (same_bytes dir l.number old mid l.number (l.invariant.kept told)
          ∙ ap (bytes_at old dir) (let at : l.number ≡ 0 + length taken = omega (arith, l.invariant.count) in at))))
    ]
