use Rattle.std.proofs.Common.{refl}
use Rattle.std.proofs.lemmas.Result.{IfOk-weaker}
use Rattle.term_table.specs.Table.{most}
use Rattle.dataset_tx.proofs.Growing.{stays_same, named_grows, named_number, named_more}
use Rattle.dataset_tx.proofs.numbering.number_graph.Goals as goal

pub returns-in-Some-clause-grows : goal.returns-in-Some-clause-grows
returns-in-Some-clause-grows c = named_grows _ _ _ _ c.in-Some.is c.number.ensures.grows

pub returns-in-Some-clause-ok : goal.returns-in-Some-clause-ok
returns-in-Some-clause-ok c = IfOk-weaker c.number.result _ _ (λ n e. named_number _ _ _ n c.in-Some.is e) c.number.ensures.ok

pub returns-in-Some-clause-full : goal.returns-in-Some-clause-full
returns-in-Some-clause-full c h = named_more most _ _ _ c.in-Some.is (c.number.ensures.full h)

pub returns-in-None-clause-grows : goal.returns-in-None-clause-grows
returns-in-None-clause-grows c = stays_same _ _ _ c.requires refl
