use Rattle.std.proofs.Common.{◌+◌, ◌++◌, List, map, sym, subst, ap, ◌∙◌, arith}
use Rattle.std.specs.Prelude.{reverse}
use Rattle.patch_log.specs.State.{LogView}
use Rattle.hall_logs.specs.Files.{IsOpened, IsRefusedLog}
use Rattle.hall_logs.proofs.Opens.{Opening, opens_one, refused_here}
use Rattle.hall_logs.proofs.opening.open_files.Goals as goal

pub loop-disk-preserved : goal.loop-disk-preserved
loop-disk-preserved g c =
    let l = c.loop-disk in
    let rest : List g.row.D.Denot = c.pop.new.self.items in
    let e = c.in-Ok.ensures in
    let before = subst (λ (others : List g.row.D.Denot). Opening g.D.Disk c.args.limits c.args.disks.now.items l.opened.items others l.file) c.in-Some.ensures.items l.invariant.opening in
    let one : IsOpened g.D.Disk c.args.limits (l.file + 1) c.in-Some.disk c.in-Ok.log = record {
      file = e.payloads;
      sound = e.log;
      by_nobody = e.by_nobody;
      whole = c.chain-chain.ensures.whole;
      settled = e.settled;
      reopened = e.reopened;
    } in
    let next = opens_one g.D.Disk c.args.limits c.args.disks.now.items l.opened.items rest c.in-Some.disk l.file before c.in-Ok.log one in
    let p = c.push_reserved.ensures in
    let popped = c.in-Some.ensures.cases in record {
      opening = subst (λ (opened : List (LogView g.row.D.Denot)). Opening g.D.Disk c.args.limits c.args.disks.now.items opened rest (l.file + 1)) (sym p.items) next;
      capacity = c.pop.ensures.capacity ∙ l.invariant.capacity;
      room = omega (arith, l.invariant.room, p.len, p.capacity, popped);
      few = omega (arith, l.invariant.few, popped);
      file = omega (arith, l.invariant.file, p.len);
      back = omega (arith, l.invariant.back, p.len, popped, c.pop.ensures.capacity);
    }

pub returns-in-Err-clause-refused : goal.returns-in-Err-clause-refused
returns-in-Err-clause-refused g c =
    let l = c.loop-disk in
    let rest : List g.row.D.Denot = c.pop.new.self.items in
    let after = c.in-Err.field-0.disk in
    let fault = c.in-Err.field-0.fault in
    let e = c.in-Err.ensures in
    let before = subst (λ (others : List g.row.D.Denot). Opening g.D.Disk c.args.limits c.args.disks.now.items l.opened.items others l.file) c.in-Some.ensures.items l.invariant.opening in
    let one : IsRefusedLog g.D.Disk c.args.limits (l.file + 1) c.in-Some.disk fault after = record {
      has = e.fault;
      refused = e.refused;
    } in
    refused_here g.D.Disk c.args.limits c.args.disks.now.items l.opened.items rest c.in-Some.disk l.file before fault after c.put_back.new.disks.items one
    (c.put_back.ensures.disks ∙ ap (λ (d : List g.row.D.Denot). map (λ (log : LogView g.row.D.Denot). log.disk) l.opened.items ++ reverse d) c.push_reserved-in-Err.ensures.items)
