use Rattle.std.proofs.Common.{◌≡◌, subst}
use Rattle.serde_json.specs.View.{view}
use Rattle.serde_json.specs.declared.value.Value.{Value}
use Rattle.log_base.specs.declared.source_info.SourceInfo.{SourceInfo}
use Rattle.rpc_answers.specs.Values.{source_data}
use Rattle.rpc_answers.specs.Answers.{IsAnsweredSource}
use Rattle.rpc_answers.proofs.SourceLemmas.{list_fails, one_more, one_fits}
use Rattle.rpc_answers.proofs.sources.sources_in.Goals as goal

pub returns-in-None-clause-none : goal.returns-in-None-clause-none
returns-in-None-clause-none c =
    let none = rw c.in-None.is at c.in_ok-source.ensures.none in
    list_fails c.args.values.now c.loop-value.value-index c.value-item.result c.loop-value-test.true
    (subst (λ (v : Value). (source : SourceInfo) → IsAnsweredSource source → view v ≡ source_data source → ⊥) c.value-item.is none)

pub loop-value-preserved : goal.loop-value-preserved
loop-value-preserved c =
    let found = rw c.in-Some.is at c.in_ok-source.ensures.found in
    record {
      values = one_more c.args.values.now c.loop-value.value-index c.value-item.result c.loop-value.sources.items c.push.new.self.items c.in-Some.source
          c.loop-value-test.true c.loop-value.invariant.values
          (subst (λ (v : Value). view v ≡ source_data c.in-Some.source) c.value-item.is found.0) c.in_ok-push-in-Some.ensures.items;
      fits = one_fits c.loop-value.sources.items c.push.new.self.items c.in-Some.source c.loop-value.invariant.fits found.1 c.in_ok-push-in-Some.ensures.items;
    }
