-- What a zone keeps of the patches that it took.
use Rattle.std.specs.Prelude.{◌+◌, List, [], ◌∷◌, ◌++◌, length, map, sum_by}
use Rattle.std.specs.List.{flat_map}
use Rattle.delta_base.specs.declared.id.Id.{Id}
use Rattle.rdf_terms.specs.declared.change.Change.{Change}
use Rattle.rdf_terms.specs.Dataset.{apply}
use Rattle.patch_meaning.specs.Checked.{CheckedPatch, meanings}
use Rattle.patch_meaning.specs.Replay.{replay}
use Rattle.checkpoint_text.specs.Brief.{Brief}

abbrev pub id_taken : CheckedPatch → Id
id_taken patch = patch.meaning.id

abbrev pub brief_of : List CheckedPatch → Brief
brief_of taken = record {
  ids = map id_taken taken;
  bytes = sum_by (λ patch. length patch.text) taken;
  contents = replay (meanings taken);
}

-- what is kept with one patch more
abbrev pub with_patch : Brief → CheckedPatch → Brief
with_patch brief patch = record {
  ids = brief.ids ++ patch.meaning.id ∷ [];
  bytes = brief.bytes + length patch.text;
  contents = apply patch.meaning.changes brief.contents;
}

-- the changes of patches, one after another
abbrev pub changes_taken : List CheckedPatch → List Change
changes_taken taken = flat_map (λ patch. patch.meaning.changes) taken
