-- What a zone keeps of the patches that it took, with the names that it has in these crates.
pub use Rattle.checkpoint_text.specs.Brief.{Brief, file_length}
pub use Rattle.zone_pairs.specs.Briefs.{id_taken, brief_of, with_patch, changes_taken}
