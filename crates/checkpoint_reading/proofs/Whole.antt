-- The parts of a whole checkpoint.
use Rattle.std.proofs.Common.{◌≡◌, ◌≤◌, ◌↔◌, ℕ, List, [], ◌++◌, length, drop, map, sym, ap, subst, ◌∙◌}
use Rattle.std.specs.List.{All, Contains, concat, flat_map}
use Rattle.std.proofs.lemmas.List.{append-nil, drop_at, length-map}
use Rattle.std.proofs.lemmas.List.Elements.{All-contains}
use Rattle.delta_base.specs.declared.id.Id.{Id}
use Rattle.rdf_terms.specs.Dataset.{Dataset}
use Rattle.rdf_terms.specs.Line.{line}
use Rattle.rdf_terms.specs.Quad.{Statement}
use Rattle.nquads_documents.specs.Laws.{IsQuadValue}
use Rattle.net_changes.specs.Values.{IsDatasetValue}
use Rattle.dataset_tx.specs.Held.{Held}
use Rattle.checkpoint_line.specs.declared.first.FirstLine.{FirstLine}
use Rattle.checkpoint_line.specs.First.{first_line, AreCounts, HasFirstLine}
use Rattle.checkpoint_line.proofs.Cuts.{one_first}
use Rattle.checkpoint_text.specs.Brief.{Brief}
use Rattle.checkpoint_text.specs.Text.{line_of_id, IsIdValue, prefix_rows, first_line_of, most_of_first, Setting, setting_line, IsSetting, IsCheckpoint}
use Rattle.checkpoint_text.proofs.Items.{once, concat_mapped, All-from_contains}
use Rattle.checkpoint_text.proofs.OneText.{id_cut, setting_cut, quad_cut}
use Rattle.checkpoint_reading.specs.Front.{AreInFront, RiseInFront}
use Rattle.checkpoint_reading.specs.Reading.{HasSet, HasNewQuads, HaveOneEach, IsContentsOf}
use Rattle.checkpoint_reading.proofs.Settings.{settings_of, rows_of}

-- ---- what was read is the contents

pub contents_read : (first : FirstLine) (text middle rest : List ℕ) (before held : Held) (settings : List Setting) (quads : List Statement) → RiseInFront setting_line IsSetting first.prefixes text settings middle → HasSet before settings → RiseInFront line IsQuadValue first.quads middle quads rest → HasNewQuads before held quads → rest ≡ [] → IsDatasetValue held.contents → IsContentsOf first text held.contents
contents_read first text middle rest before held settings quads rows set lines added end value =
    let same : (s : Setting) → Contains held.contents.prefixes s ↔ Contains settings s = λ s. subst (λ (l : List Setting). Contains l s ↔ Contains settings s) (sym added.prefixes_are) (set.same s) in
    let shown : prefix_rows held.contents ≡ map setting_line settings = rows_of held.contents.prefixes settings same rows.rising in
    record {
      are = record {
        quads_in_order = value.order.quads_rise;
        quads_are = subst (All IsQuadValue) (sym added.quads_are) lines.front.are;
        prefixes_are = record {
          in_order = value.order.prefixes_rise;
          are = All-from_contains IsSetting held.contents.prefixes (λ s c. All-contains IsSetting settings s rows.front.are ((same s).0 c));
        };
      };
      text_is = rows.front.parts
          ∙ ap (λ (t : List ℕ). flat_map setting_line settings ++ t) (lines.front.parts ∙ ap (λ (t : List ℕ). flat_map line quads ++ t) end ∙ append-nil (flat_map line quads))
          ∙ ap (λ (t : List ℕ). t ++ flat_map line quads) (sym (concat_mapped setting_line settings) ∙ ap concat (sym shown))
          ∙ ap (λ (t : List ℕ). concat (prefix_rows held.contents) ++ t) (sym (concat_mapped line quads) ∙ ap (λ (l : List Statement). concat (map line l)) (sym added.quads_are));
      prefixes = ap length shown ∙ length-map settings setting_line ∙ rows.front.many;
      quads = ap length added.quads_are ∙ lines.front.many;
    }

-- ---- what stands in front where the text is the contents

pub rows_in_front : (first : FirstLine) (text : List ℕ) (d : Dataset) → IsContentsOf first text d → (settings : List Setting) × RiseInFront setting_line IsSetting first.prefixes text settings (flat_map line d.quads) × HaveOneEach settings
rows_in_front first text d is =
    let has = settings_of d.prefixes is.are.prefixes_are in (
      has.0,
      record {
        front = record {
          are = has.1.are;
          many = sym (length-map has.0 setting_line) ∙ ap length has.1.rows ∙ is.prefixes;
          parts = is.text_is
              ∙ ap (λ (t : List ℕ). t ++ concat (map line d.quads)) (ap concat (sym has.1.rows) ∙ concat_mapped setting_line has.0)
              ∙ ap (λ (t : List ℕ). flat_map setting_line has.0 ++ t) (concat_mapped line d.quads);
        };
        rising = has.1.rising;
      },
      has.1.one_each,
    )

pub lines_in_front : (first : FirstLine) (text middle : List ℕ) (d : Dataset) (settings : List Setting) → IsContentsOf first text d → RiseInFront setting_line IsSetting first.prefixes text settings middle → RiseInFront line IsQuadValue first.quads middle d.quads []
lines_in_front first text middle d settings is rows =
    let has = rows_in_front first text d is in
    let parts = once setting_line IsSetting setting_cut settings has.0 middle (flat_map line d.quads) (rows.front.many ∙ sym has.1.front.many) rows.front.are has.1.front.are (sym rows.front.parts ∙ has.1.front.parts) in
    record {
      front = record {
        are = is.are.quads_are;
        many = is.quads;
        parts = parts.1 ∙ sym (append-nil (flat_map line d.quads));
      };
      rising = is.are.quads_in_order;
    }

pub nothing_behind : (first : FirstLine) (text middle rest : List ℕ) (d : Dataset) (settings : List Setting) (quads : List Statement) → IsContentsOf first text d → RiseInFront setting_line IsSetting first.prefixes text settings middle → RiseInFront line IsQuadValue first.quads middle quads rest → rest ≡ []
nothing_behind first text middle rest d settings quads is rows lines =
    let has = lines_in_front first text middle d settings is rows in
    let parts = once line IsQuadValue quad_cut quads d.quads rest [] (lines.front.many ∙ sym has.front.many) lines.front.are has.front.are (sym lines.front.parts ∙ has.front.parts) in
    parts.1

-- ---- the first line, and the ids

pub first_of : (text : List ℕ) (g : ℕ) (brief : Brief) → IsCheckpoint text g brief → HasFirstLine text (first_line_of g brief)
first_of text g brief is =
    (is.counts, (flat_map line_of_id brief.ids ++ (concat (prefix_rows brief.contents) ++ concat (map line brief.contents.quads)), is.text_is))

pub same_first : (text : List ℕ) (first : FirstLine) (g : ℕ) (brief : Brief) → HasFirstLine text first → IsCheckpoint text g brief → first ≡ first_line_of g brief
same_first text first g brief has is = one_first text first (first_line_of g brief) has (first_of text g brief is)

pub short_first : (text : List ℕ) (first : FirstLine) (g : ℕ) (brief : Brief) → HasFirstLine text first → IsCheckpoint text g brief → length (first_line first) ≤ most_of_first
short_first text first g brief has is =
    subst (λ (l : FirstLine). length (first_line l) ≤ most_of_first) (sym (same_first text first g brief has is)) is.in_front

behind_first : (text : List ℕ) (first : FirstLine) (at : ℕ) (behind : List ℕ) → text ≡ first_line first ++ behind → at ≡ length (first_line first) → drop at text ≡ behind
behind_first text first at behind parts count =
    ap (drop at) parts ∙ drop_at (first_line first) behind at (sym count)

pub ids_in_front : (text : List ℕ) (first : FirstLine) (at g : ℕ) (brief : Brief) → HasFirstLine text first → at ≡ length (first_line first) → IsCheckpoint text g brief → AreInFront line_of_id IsIdValue first.patches (drop at text) brief.ids (concat (prefix_rows brief.contents) ++ concat (map line brief.contents.quads))
ids_in_front text first at g brief has count is =
    let same = same_first text first g brief has is in
    record {
      are = is.ids_are;
      many = ap (λ (l : FirstLine). l.patches) (sym same);
      parts = behind_first text (first_line_of g brief) at (flat_map line_of_id brief.ids ++ (concat (prefix_rows brief.contents) ++ concat (map line brief.contents.quads))) is.text_is (count ∙ ap (λ (l : FirstLine). length (first_line l)) same);
    }

pub contents_in_front : (text : List ℕ) (first : FirstLine) (at g : ℕ) (brief : Brief) (ids : List Id) (rest : List ℕ) → HasFirstLine text first → at ≡ length (first_line first) → AreInFront line_of_id IsIdValue first.patches (drop at text) ids rest → IsCheckpoint text g brief → IsContentsOf first rest brief.contents
contents_in_front text first at g brief ids rest has count front is =
    let same = same_first text first g brief has is in
    let all = ids_in_front text first at g brief has count is in
    let parts = once line_of_id IsIdValue id_cut ids brief.ids rest (concat (prefix_rows brief.contents) ++ concat (map line brief.contents.quads)) (front.many ∙ sym all.many) front.are all.are (sym front.parts ∙ all.parts) in
    record {
      are = is.contents_are;
      text_is = parts.1;
      prefixes = ap (λ (l : FirstLine). l.prefixes) (sym same);
      quads = ap (λ (l : FirstLine). l.quads) (sym same);
    }

-- ---- the whole

pub whole : (text : List ℕ) (first : FirstLine) (at : ℕ) (ids : List Id) (rest : List ℕ) (d : Dataset) → HasFirstLine text first → at ≡ length (first_line first) → at ≤ most_of_first → AreInFront line_of_id IsIdValue first.patches (drop at text) ids rest → IsContentsOf first rest d → IsCheckpoint text first.generation (record { ids = ids; bytes = first.bytes; contents = d })
whole text first at ids rest d has count short front is =
    let brief : Brief = record { ids = ids; bytes = first.bytes; contents = d } in
    let behind : List ℕ = flat_map line_of_id ids ++ (concat (prefix_rows d) ++ concat (map line d.quads)) in
    let same : first_line_of first.generation brief ≡ first = ap (λ (n : ℕ). record { generation = first.generation; patches = n; bytes = first.bytes; prefixes = length (prefix_rows d); quads = length d.quads }) front.many
    ∙ ap (λ (n : ℕ). record { generation = first.generation; patches = first.patches; bytes = first.bytes; prefixes = n; quads = length d.quads }) is.prefixes
    ∙ ap (λ (n : ℕ). record { generation = first.generation; patches = first.patches; bytes = first.bytes; prefixes = first.prefixes; quads = n }) is.quads in
    let there : has.1.0 ≡ behind = sym (behind_first text first at has.1.0 has.1.1 count) ∙ front.parts ∙ ap (λ (t : List ℕ). flat_map line_of_id ids ++ t) is.text_is in
    record {
      text_is = has.1.1
          ∙ ap (λ (t : List ℕ). first_line first ++ t) there
          ∙ ap (λ (l : FirstLine). first_line l ++ behind) (sym same);
      counts = subst AreCounts (sym same) has.0;
      in_front = subst (λ (n : ℕ). n ≤ most_of_first) (count ∙ ap (λ (l : FirstLine). length (first_line l)) (sym same)) short;
      ids_are = front.are;
      contents_are = is.are;
    }
