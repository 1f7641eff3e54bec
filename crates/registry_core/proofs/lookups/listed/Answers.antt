use Rattle.std.proofs.Common.{List, ap, sym, subst, arith}
use Rattle.std.specs.Prelude.{fold}
use Rattle.std.specs.List.{AllByRecursion}
use Rattle.log_base.specs.declared.source_info.SourceInfo.{SourceInfo}
use Rattle.registry_core.specs.Sources.{put, by_name, HasSlot}
use Rattle.registry_core.proofs.Listing.{all_listed}
use Rattle.registry_core.proofs.lookups.listed.Goals as goal

pub loop-source-init : goal.loop-source-init
unfolding by_name
loop-source-init c = ap (λ (l : List SourceInfo). fold put l c.args.living.now) c.new-listed.ensures.items

pub returns-clause-slots : goal.returns-clause-slots
returns-clause-slots c slots all =
    subst (AllByRecursion (HasSlot slots)) (sym c.from_vec.ensures) (all_listed (HasSlot slots) c.loop-source.listed.items c.args.living.now c.loop-source.source-index (omega arith) c.loop-source.invariant all)
