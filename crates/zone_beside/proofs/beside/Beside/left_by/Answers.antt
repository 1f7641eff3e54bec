use Rattle.std.proofs.Common.{refl, subst}
use Rattle.disk_model.specs.Past.{MayLeave}
use Rattle.zone_beside.proofs.Besides.{held_behind}
use Rattle.zone_beside.proofs.beside.Beside.left_by.Goals as goal

pub returns-clause-stands : goal.returns-clause-stands
returns-clause-stands g c = λ payloads shown shows earlier stands. (
  refl,
  λ told image left. held_behind c.args.on_second c.args.generation payloads shown image shows earlier ((stands.1 told).each image (subst (λ disk. MayLeave (g.D.Disk.past disk) image) c.close.ensures left)),
)
