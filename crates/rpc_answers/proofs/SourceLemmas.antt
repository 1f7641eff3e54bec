-- Lists of sources, item by item.
use Rattle.std.proofs.Common.{◌≡◌, ℕ, zero, suc, ◌<◌, ◌+◌, List, [], ◌∷◌, ◌++◌, length, get_or, map, take, arith}
use Rattle.std.proofs.lemmas.Grind.{common_steps}
use Rattle.std.specs.List.{All}
use Rattle.std.proofs.lemmas.List.Elements.{All-head, All-tail, All-push}
use Rattle.serde_json.specs.Data.{array}
use Rattle.serde_json.specs.View.{view, items_of}
use Rattle.serde_json.specs.declared.value.Value.{Value}
use Rattle.log_base.specs.declared.source_info.SourceInfo.{SourceInfo}
use Rattle.rpc_answers.specs.Values.{source_data, sources_data}
use Rattle.rpc_answers.specs.Answers.{IsAnsweredSource}

-- where an item is no source, the items are no sources
items_fail : (values : List Value) (i : ℕ) (d : Value) → i < length values
    → ((source : SourceInfo) → IsAnsweredSource source → view (get_or values i d) ≡ source_data source → ⊥)
    → (sources : List SourceInfo) → All IsAnsweredSource sources → items_of (map view values) ≡ items_of (map source_data sources) → ⊥
items_fail [] i d within never sources fits same = absurd (omega (arith, within))
items_fail (value ∷ values) i d within never [] fits same = cc
items_fail (value ∷ values) zero d within never (source ∷ sources) fits same =
    let one : view value ≡ source_data source = cc in never source (All-head IsAnsweredSource source sources fits) one
items_fail (value ∷ values) (suc i) d within never (source ∷ sources) fits same =
    let rest : items_of (map view values) ≡ items_of (map source_data sources) = cc in
    items_fail values i d (omega (arith, within)) never sources (All-tail IsAnsweredSource source sources fits) rest

pub list_fails : (values : List Value) (i : ℕ) (d : Value) → i < length values
    → ((source : SourceInfo) → IsAnsweredSource source → view (get_or values i d) ≡ source_data source → ⊥)
    → (sources : List SourceInfo) → All IsAnsweredSource sources → array (items_of (map view values)) ≡ sources_data sources → ⊥
list_fails values i d within never sources fits same =
    let items : items_of (map view values) ≡ items_of (map source_data sources) = cc in
    items_fail values i d within never sources fits items

-- one item more, which is a source
pub one_more : (values : List Value) (i : ℕ) (d : Value) (before after : List SourceInfo) (source : SourceInfo) → i < length values
    → map view (take i values) ≡ map source_data before → view (get_or values i d) ≡ source_data source → after ≡ before ++ source ∷ []
    → map view (take (i + 1) values) ≡ map source_data after
one_more values i d before after source within same is pushed = grind (arith, common_steps)

pub one_fits : (before after : List SourceInfo) (source : SourceInfo) → All IsAnsweredSource before → IsAnsweredSource source → after ≡ before ++ source ∷ [] → All IsAnsweredSource after
one_fits before after source fits one pushed = rw pushed (All-push IsAnsweredSource before source fits one)
