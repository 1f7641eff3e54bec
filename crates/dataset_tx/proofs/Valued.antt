-- The contents are values, over plain variables.
use Rattle.std.proofs.Common.{◌≡◌, ℕ, Bool, true, false, List, [], ◌∷◌, Option, None, Some}
use Rattle.std.specs.BTreeSet.{insert_key}
use Rattle.std.specs.List.{AllByRecursion}
use Rattle.std.specs.List.Sorted.{IsStrictlySortedBy}
use Rattle.std.specs.Map.{keys_of}
use Rattle.std.specs.declared.cmp.Ordering.TheVariants.{Less}
use Rattle.net_changes.proofs.Datasets.{line_total}
use Rattle.net_changes.proofs.Sets.{rising-insert}
use Rattle.net_changes.specs.Values.{IsPrefixValue, IsDatasetValue}
use Rattle.quad_index.specs.declared.key.QuadKey.{QuadKey}
use Rattle.quad_keys.proofs.Quads.{all_values}
use Rattle.quad_keys.specs.Keys.{quad_of_key, quads_of}
use Rattle.rdf_terms.specs.Dataset.{PrefixKey, prefix_cmp}
use Rattle.rdf_terms.specs.Line.{line_cmp}
use Rattle.rdf_terms.specs.declared.term.Term.{Term}
use Rattle.dataset_tx.specs.Prefixes.{PrefixRow, row_cmp, StandsAt, AreRows, setting, with_entry, settings}
use Rattle.dataset_tx.specs.Stores.{contents_of, IsStore, IsStoreAfter}
use Rattle.dataset_tx.specs.declared.prefixes.PrefixEntry.{PrefixEntry}
use Rattle.dataset_tx.specs.declared.store.Store.{Store}
use Rattle.dataset_tx.proofs.Rows.{above}

-- ---- prefixes

pub prefixes_are : (rows : List PrefixRow) → AreRows rows → AllByRecursion IsPrefixValue (keys_of (settings rows))
prefixes_are [] st = tt
prefixes_are (row ∷ rows) st = by row.1 st.0 (prefixes_are rows st.1)
  where
    by : (o : Option PrefixEntry) → StandsAt row.0.items o → AllByRecursion IsPrefixValue (keys_of (settings rows)) → AllByRecursion IsPrefixValue (keys_of (with_entry o (settings rows)))
    by None at r = r
    by (Some entry) at r = (at.1, r)

all_keys : (P : PrefixKey → Type 0) (l : List (PrefixKey × List ℕ)) → AllByRecursion (λ s. P s.0) l → AllByRecursion P (keys_of l)
all_keys P [] a = tt
all_keys P (s ∷ l) a = (a.0, all_keys P l a.1)

pub prefixes_rise : (rows : List PrefixRow) → AreRows rows → IsStrictlySortedBy row_cmp (keys_of rows) → IsStrictlySortedBy prefix_cmp (keys_of (settings rows))
unfolding IsStrictlySortedBy
prefixes_rise [] st s = tt
prefixes_rise (row ∷ rows) st s = by row.1 st.0 (prefixes_rise rows st.1 s.1)
  where
    by : (o : Option PrefixEntry) → StandsAt row.0.items o → IsStrictlySortedBy prefix_cmp (keys_of (settings rows)) → IsStrictlySortedBy prefix_cmp (keys_of (with_entry o (settings rows)))
    by None at r = r
    by (Some entry) at r =
        (all_keys (λ k. prefix_cmp (setting entry).0 k ≡ Less) (settings rows) (above row.0.items (setting entry).0 at.0 (λ x. x.1) rows st.1 s.0), r)

-- ---- quads

pub quads_rise : (terms : List Term) (keys : List QuadKey) → IsStrictlySortedBy line_cmp (quads_of terms keys)
unfolding IsStrictlySortedBy
quads_rise terms [] = tt
quads_rise terms (key ∷ keys) = rising-insert line_total (quad_of_key terms key) (quads_of terms keys) (quads_rise terms keys)

-- ---- datasets

pub store_value : (s : Store) → IsStore s → AllByRecursion IsPrefixValue (keys_of s.prefixes.contents) → IsStrictlySortedBy prefix_cmp (keys_of s.prefixes.contents) → IsDatasetValue (contents_of s)
store_value s is each rise = record {
  order = record { quads_rise = quads_rise s.terms s.quads.contents; prefixes_rise = rise };
  values = record { quads_are = all_values s.terms s.quads.contents is.known; prefixes_are = each };
}

pub is_store : (s : Store) (staged : Bool) → IsStoreAfter s staged → IsStore s
is_store s true h = h
is_store s false h = h.0
