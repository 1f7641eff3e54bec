-- The prefixes of a zone's dataset are such that rows can set.
use Rattle.std.proofs.Common.{ℕ, Bool, true, false, cond, List, [], ◌∷◌, Option, Some, None, sym, subst}
use Rattle.std.specs.List.{AllByRecursion}
use Rattle.std.specs.BTreeMap.{is_at, insert_entry}
use Rattle.std.specs.Map.{remove_entry}
use Rattle.std.specs.Ordering.{match_ordering}
use Rattle.std.specs.declared.cmp.Ordering.{Ordering}
use Rattle.std.specs.declared.cmp.Ordering.TheVariants.{Less, Equal, Greater}
use Rattle.std.proofs.lemmas.List.Elements.{recursion_from_All}
use Rattle.rdf_terms.specs.Dataset.{Dataset, PrefixKey, prefix_cmp, effect, effects, kept}
use Rattle.rdf_terms.specs.declared.change.Change.{Change}
use Rattle.rdf_terms.specs.declared.change.Change.TheVariants.{Add, Delete, PrefixAdd, PrefixDelete, Begin, Commit, Abort}
use Rattle.patch_rows.specs.declared.row.Row.TheVariants as row
use Rattle.printed_rows.specs.Printed.{IsPrintedRow}
use Rattle.net_changes.proofs.Nets.{all_kept}
use Rattle.patch_algebra.proofs.Values.{patches_have_rows}
use Rattle.patch_meaning.specs.Checked.{CheckedPatch, AreChecked}
use Rattle.checkpoint_text.specs.Brief.{Brief}
use Rattle.checkpoint_text.specs.Text.{Setting, IsSetting}
use Rattle.zone_pairs.specs.Briefs.{with_patch}
use Rattle.zone_pairs.specs.Pair.{IsStart, start_brief, TakeTo}

abbrev HasRow : Change → Type 0
HasRow c = IsPrintedRow (row.Change c)

-- a prefix keeps its place, and takes another IRI
mixed : (a b : Setting) → IsSetting a → IsSetting b → IsSetting (a.0, b.1)
mixed a b p q = ((p.0.0, q.0.1, q.0.2, p.0.3), p.1)

set_more : (ss : List Setting) (key : PrefixKey) (iri : List ℕ) → AllByRecursion IsSetting ss → IsSetting (key, iri) → AllByRecursion IsSetting (insert_entry prefix_cmp ss key iri)
set_more [] key iri are is = (is, tt)
set_more (s ∷ ss) key iri are is = by (prefix_cmp key s.0) (set_more ss key iri are.1 is)
  where
    by : (r : Ordering) → AllByRecursion IsSetting (insert_entry prefix_cmp ss key iri) → AllByRecursion IsSetting (match_ordering r ((key, iri) ∷ s ∷ ss) ((s.0, iri) ∷ ss) (s ∷ insert_entry prefix_cmp ss key iri))
    by Less more = (is, are)
    by Equal more = (mixed s (key, iri) are.0 is, are.1)
    by Greater more = (are.0, more)

set_less : (test : PrefixKey → Bool) (ss : List Setting) → AllByRecursion IsSetting ss → AllByRecursion IsSetting (remove_entry test ss)
set_less test [] are = tt
set_less test (s ∷ ss) are = by (test s.0) (set_less test ss are.1)
  where
    by : (b : Bool) → AllByRecursion IsSetting (remove_entry test ss) → AllByRecursion IsSetting (cond b ss (s ∷ remove_entry test ss))
    by true less = are.1
    by false less = (are.0, less)

set_still : (c : Change) (d : Dataset) → HasRow c → AllByRecursion IsSetting d.prefixes → AllByRecursion IsSetting (effect c d).prefixes
set_still (Add q) d has are = are
set_still (Delete q) d has are = are
set_still (PrefixAdd prefix iri graph) d has are = set_more d.prefixes (graph, prefix) iri are (has.value, has.writable)
set_still (PrefixDelete prefix graph) d has are = set_less (is_at (prefix_cmp (graph, prefix))) d.prefixes are
set_still Begin d has are = are
set_still Commit d has are = are
set_still Abort d has are = are

set_behind : (cs : List Change) (d : Dataset) → AllByRecursion HasRow cs → AllByRecursion IsSetting d.prefixes → AllByRecursion IsSetting (effects cs d).prefixes
set_behind [] d have are = are
set_behind (c ∷ cs) d have are = set_behind cs (effect c d) have.1 (set_still c d have.0 are)

-- of patches behind a brief
set_taken : (before after : Brief) (patches : List CheckedPatch) → TakeTo before patches after → AreChecked patches → AllByRecursion IsSetting before.contents.prefixes → AllByRecursion IsSetting after.contents.prefixes
set_taken before after [] taken checked are = subst (λ (b : Brief). AllByRecursion IsSetting b.contents.prefixes) (sym taken) are
set_taken before after (patch ∷ patches) taken checked are =
    let rows = patches_have_rows patch.text patch.meaning checked.0 in
    set_taken (with_patch before patch) after patches taken.1 checked.1
    (set_behind (kept patch.meaning.changes) before.contents (all_kept HasRow patch.meaning.changes rows) are)

set_first : (generation : ℕ) (start : Option Brief) → IsStart generation start → AllByRecursion IsSetting (start_brief start).contents.prefixes
set_first generation None is = tt
set_first generation (Some start) is = recursion_from_All IsSetting start.contents.prefixes is.contents_are.prefixes_are.are

pub are_settings : (generation : ℕ) (start : Option Brief) (patches : List CheckedPatch) (brief : Brief) → IsStart generation start → AreChecked patches → TakeTo (start_brief start) patches brief → AllByRecursion IsSetting brief.contents.prefixes
are_settings generation start patches brief is checked taken = set_taken (start_brief start) brief patches taken checked (set_first generation start is)
