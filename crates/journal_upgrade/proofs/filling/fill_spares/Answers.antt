use Rattle.std.proofs.Common.{◌≡◌, ◌≢◌, ℕ, List, sym, ◌∙◌, subst}
use Rattle.std.specs.Prelude.{Result, IfOk}
use Rattle.std.proofs.lemmas.List.{take_at}
use Rattle.std.proofs.lemmas.Result.{IfOk-weaker}
use Rattle.disk_model.specs.Past.{Past}
use Rattle.journal_upgrade.specs.Copies.{AreCopied, AreSynced}
use Rattle.journal_upgrade.proofs.filling.fill_spares.Goals as goal

module _ {E D : Type 0} (past : D → Past) (result : Result ℕ E) where
  copied : (numbers shown : List ℕ) (files files_now spares spares_now : List D) → shown ≡ numbers → files_now ≡ files → spares_now ≡ spares → IfOk result (λ count. count ≢ 0 → AreCopied past shown files spares) → IfOk result (λ count. count ≢ 0 → AreCopied past numbers files_now spares_now)
  copied numbers shown files files_now spares spares_now same same_files same_spares =
      IfOk-weaker result (λ count. count ≢ 0 → AreCopied past shown files spares) (λ count. count ≢ 0 → AreCopied past numbers files_now spares_now)
      (λ count all some. subst (λ (l : List ℕ). AreCopied past l files_now spares_now) same (subst (λ (l : List D). AreCopied past shown l spares_now) (sym same_files) (subst (λ (l : List D). AreCopied past shown files l) (sym same_spares) (all some))))

  are_synced : (files files_now : List D) → files_now ≡ files → IfOk result (λ count. count ≡ 0 → AreSynced past files) → IfOk result (λ count. count ≡ 0 → AreSynced past files_now)
  are_synced files files_now same = IfOk-weaker result (λ count. count ≡ 0 → AreSynced past files) (λ count. count ≡ 0 → AreSynced past files_now) (λ count all none. subst (λ (l : List D). AreSynced past l) (sym same) (all none))

pub returns-clause-ok : goal.returns-clause-ok
returns-clause-ok g c told =
    let written = c.copy_unless_new-answer in
    copied g.D.Disk.past written.result c.args.set.numbers.items c.as_slice.result.now written.new.files c.from_vec.result.items written.new.spares c.from_vec-2.result.items c.as_slice.ensures
    (c.from_vec.ensures ∙ take_at written.new.files _ c.into_vec-files.result.len (written.ensures.as_many.0 ∙ c.deref_mut.ensures.len))
    (c.from_vec-2.ensures ∙ take_at written.new.spares _ c.into_vec-spares.result.len (written.ensures.as_many.1 ∙ c.deref_mut-2.ensures.len))
    (written.ensures.ok told)

pub returns-clause-synced : goal.returns-clause-synced
returns-clause-synced g c told =
    let written = c.copy_unless_new-answer in
    are_synced g.D.Disk.past written.result written.new.files c.from_vec.result.items
    (c.from_vec.ensures ∙ take_at written.new.files _ c.into_vec-files.result.len (written.ensures.as_many.0 ∙ c.deref_mut.ensures.len))
    (written.ensures.synced told)
