-- A prefix that is set twice.
use Rattle.std.proofs.Common.{◌≡◌, ◌↔◌, ℕ, ◌<◌, true, List, ◌∷◌, ◌++◌, sym, ap, subst, ◌∙◌}
use Rattle.std.specs.Cmp.Lexicographic.{nat_list_cmp_total}
use Rattle.std.specs.List.{Contains}
use Rattle.std.specs.List.Sorted.{IsStrictlySortedBy}
use Rattle.std.specs.declared.cmp.Ordering.TheVariants.{Less, Equal}
use Rattle.std.proofs.lemmas.Cmp.{tied_itself}
use Rattle.std.proofs.lemmas.List.Elements.{Contains-append_left, Contains-append_right}
use Rattle.rdf_terms.specs.Dataset.{prefix_cmp}
use Rattle.dataset_tx.specs.Prefixes.{has_prefix}
use Rattle.checkpoint_text.specs.Text.{Setting, setting_line, IsSetting}
use Rattle.checkpoint_text.proofs.OneText.{setting_cut}
use Rattle.checkpoint_text.proofs.Ordered.{begins}
use Rattle.checkpoint_reading.specs.Front.{IsInFront, IsPast, RiseInFront, shown_cmp}
use Rattle.checkpoint_reading.specs.Reading.{HaveOneEach}
use Rattle.checkpoint_reading.proofs.Fronts.{before, goes_on}
use Rattle.checkpoint_reading.proofs.Inserting.{entry_at}

pub set_twice : (i n : ℕ) (text rest behind last r : List ℕ) (prefixes xs ys : List Setting) (s : Setting) → RiseInFront setting_line IsSetting i text xs rest → IsInFront setting_line (IsPast setting_line IsSetting last) rest s behind → i < n → ((z : Setting) → Contains prefixes z ↔ Contains xs z) → has_prefix prefixes s.0 ≡ true → RiseInFront setting_line IsSetting n text ys r → HaveOneEach ys → ⊥
set_twice i n text rest behind last r prefixes xs ys s some next less same has all one =
    let more = goes_on setting_line IsSetting setting_cut i n text rest behind r xs ys s some.front (record { is = next.is.0; parts = next.parts }) all.front less in
    let found = entry_at prefix_cmp s.0 prefixes has in
    let there : Contains xs found.0 = (same found.0).0 found.1 in
    let in_all : (z : Setting) → Contains (xs ++ s ∷ more.0) z → Contains ys z = λ z c. subst (λ (l : List Setting). Contains l z) (sym more.1) c in
    let here : s ≡ found.0 = one s found.0 (in_all s (Contains-append_right xs (s ∷ more.0) s (begins s more.0))) (in_all found.0 (Contains-append_left xs (s ∷ more.0) found.0 there)) found.2 in
    let rising : IsStrictlySortedBy (shown_cmp setting_line) (xs ++ s ∷ more.0) = subst (IsStrictlySortedBy (shown_cmp setting_line)) more.1 all.rising in
    let earlier : shown_cmp setting_line found.0 s ≡ Less = before setting_line xs s more.0 found.0 rising there in
    let tied : shown_cmp setting_line found.0 s ≡ Equal = ap (shown_cmp setting_line found.0) here ∙ tied_itself nat_list_cmp_total (setting_line found.0) in
    let bad : Less ≡ Equal = sym earlier ∙ tied in
    absurd cc
