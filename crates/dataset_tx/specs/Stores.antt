-- The dataset that a store stands for, and the one that is staged in it.
use Rattle.std.specs.Prelude.{◌≡◌, Bool, true, false, None, Some, if◌then◌else◌}
use Rattle.std.specs.List.{IsDistinct}
use Rattle.std.specs.List.Sorted.{IsStrictlySortedBy}
use Rattle.rdf_terms.specs.Dataset.{Dataset}
use Rattle.quad_index.specs.Key.{key_cmp}
use Rattle.quad_keys.specs.Keys.{quads_of, AreKnown}
use Rattle.term_table.specs.Table.{same}
use Rattle.dataset_tx.specs.declared.store.Store.{Store}
use Rattle.dataset_tx.specs.Held.{Held}

abbrev pub contents_of : Store → Dataset
contents_of s = record { quads = quads_of s.terms s.quads.contents; prefixes = s.prefixes.contents }

abbrev pub next_of : Store → Dataset
next_of s = record { quads = quads_of s.terms s.quads.next; prefixes = s.prefixes.next }

-- each term has one number, and the keys are those of quads
pub record IsStore (s : Store) : Type 0 where
  pub each_once : IsDistinct same s.terms
  pub known : AreKnown s.terms s.quads.contents
  pub next_known : AreKnown s.terms s.quads.next
  pub sorted : IsStrictlySortedBy key_cmp s.quads.contents
  pub next_sorted : IsStrictlySortedBy key_cmp s.quads.next

-- nothing is staged: a search goes over the contents
pub record IsSettled (s : Store) : Type 0 where
  pub searched : s.quads.searched ≡ s.quads.contents
  pub next : s.quads.next ≡ s.quads.contents
  pub prefixes : s.prefixes.next ≡ s.prefixes.contents

abbrev pub held : Store → Bool → Held
held s staged = record {
  contents = contents_of s;
  staged = if staged then Some (next_of s) else None;
  terms = s.terms;
}

abbrev pub IsStoreAfter : Store → Bool → Type 0
IsStoreAfter s true = IsStore s
IsStoreAfter s false = IsStore s × IsSettled s
