-- White space and comments of a text that goes on, one step further.
use Rattle.std.proofs.Common.{◌≡◌, ℕ, ◌+◌, ◌<◌, ◌≤◌, Bool, true, false, List, ◌++◌, [], length, drop, get_or, IsTrue, Ok, Err, not, inl, inr, refl, sym, ap, subst, ◌∙◌, arith, append_assoc, append-nil}
use Rattle.std.specs.Char.{encode_utf8}
use Rattle.std.specs.List.{list_all, slice_range}
use Rattle.std.specs.Str.{IsUtf8}
use Rattle.std.proofs.lemmas.Bool.{cases_lt}
use Rattle.std.proofs.lemmas.List.{drop_all, length-append, drop-append-le, get_or_append_left}
use Rattle.std.proofs.lemmas.List.Folds.{drop_split}
use Rattle.nquads_text.specs.declared.fault.TextKind.TheVariants.{NotUtf8, Truncated}
use Rattle.nquads_text.specs.Fault.{TextFault}
use Rattle.nquads_text.specs.Faults.{IsIllFormed, NoCharacter}
use Rattle.nquads_text.specs.Reading.{char_at}
use Rattle.nquads_text.specs.Grammar.{is_line_end}
use Rattle.patch_rows.specs.Grammar.{is_space}
use Rattle.patch_rows.specs.Reading.{skip_space, space_behind}
use Rattle.patch_rows.proofs.SpaceSteps.{in_comment, no_char, at_hash as hash_there, past_blank as blank_there, at_other as other_there}
use Rattle.nquads_text.proofs.CommentBodies.{line_end_low}
use Rattle.nquads_text.proofs.Fronts.{char_spelled, char_again, char_ascii, char_ends}
use Rattle.nquads_text.proofs.Needed.{no_character as char_fails}
use Rattle.patch_rows.proofs.SpaceLaws.{behind_body}

pub ok_char : (rest : List ℕ) (c : ℕ) (after more : List ℕ) → char_at rest ≡ Ok (c, after) → char_at (rest ++ more) ≡ Ok (c, after ++ more)
ok_char rest c after more e =
    let s = char_spelled rest c after e in
    ap (λ (t : List ℕ). char_at (t ++ more)) s.1 ∙ ap char_at (append_assoc (encode_utf8 c) after more) ∙ char_again c (after ++ more) s.0

-- a character of the text is one of each longer text
pub char_longer : (text more : List ℕ) (at next c : ℕ) → at ≤ length text → next ≤ length text → char_at (drop at text) ≡ Ok (c, drop next text) → char_at (drop at (text ++ more)) ≡ Ok (c, drop next (text ++ more))
char_longer text more at next c low high e =
    ap char_at (drop-append-le at text more low) ∙ ok_char (drop at text) c (drop next text) more e ∙ ap (λ (t : List ℕ). Ok (c, t)) (sym (drop-append-le next text more high))

module _ (comment : Bool) (from : ℕ) (text : List ℕ) where
  -- what is left behind the place is what was left at the start
  abbrev pub Passed : Bool → ℕ → Type 0
  Passed now at = (more : List ℕ) → space_behind comment 0 (drop from (text ++ more)) ≡ space_behind now 0 (drop at (text ++ more))

  pub over_body : (at next : ℕ) → Passed true at → at ≤ next → next ≤ length text → IsUtf8 (slice_range text at next) → IsTrue (list_all (λ b. not (is_line_end b)) (slice_range text at next)) → Passed true next
  over_body at next so_far low high utf8 inside = λ more.
      let body = slice_range text at next in
      let parts : drop at (text ++ more) ≡ body ++ drop next (text ++ more) =
      drop-append-le at text more (omega arith) ∙ ap (λ (t : List ℕ). t ++ more) (drop_split text at next low)
      ∙ append_assoc body (drop next text) more ∙ ap (λ (t : List ℕ). body ++ t) (sym (drop-append-le next text more high)) in
      so_far more ∙ ap (space_behind true 0) parts ∙ behind_body body (drop next (text ++ more)) utf8 inside

  pub over_line_end : (at next : ℕ) → Passed true at → at ≤ next → next < length text → IsUtf8 (slice_range text at next) → IsTrue (list_all (λ b. not (is_line_end b)) (slice_range text at next))
      → is_line_end (get_or text next 0) ≡ true → Passed false (next + 1)
  over_line_end at next so_far low lt utf8 inside is = λ more.
      let b = get_or text next 0 in
      let after = drop (next + 1) (text ++ more) in
      over_body at next so_far low (omega arith) utf8 inside more
      ∙ in_comment (drop next (text ++ more)) b after (char_longer text more next (next + 1) b (omega arith) (omega arith) (char_ascii text next lt (line_end_low b is)))
      ∙ ap (λ (ends : Bool). space_behind (not ends) 0 after) is

  pub over_hash : (at : ℕ) → Passed false at → at < length text → get_or text at 0 ≡ 35 → Passed true (at + 1)
  over_hash at so_far lt e = λ more.
      so_far more ∙ hash_there (text ++ more) at (omega (arith, lt, length-append text more)) (get_or_append_left text more 0 at lt ∙ e)

  pub over_blank : (at : ℕ) → Passed false at → at < length text → is_space (get_or text at 0) ≡ true → Passed false (at + 1)
  over_blank at so_far lt e = λ more.
      so_far more ∙ blank_there (text ++ more) at (omega (arith, lt, length-append text more)) (ap is_space (get_or_append_left text more 0 at lt) ∙ e)

pub stops_there : (text : List ℕ) (at : ℕ) → at < length text → (get_or text at 0 ≡ 35 → ⊥) → is_space (get_or text at 0) ≡ false → (more : List ℕ) → space_behind false 0 (drop at (text ++ more)) ≡ drop at (text ++ more)
stops_there text at lt ne e = λ more.
    let same = get_or_append_left text more 0 at lt in
    other_there (text ++ more) at (omega (arith, lt, length-append text more)) (λ is. ne (sym same ∙ is)) (ap is_space same ∙ e)

pub no_more : (text : List ℕ) (at : ℕ) → at ≡ length text → (fault : TextFault) × (char_at (drop at text) ≡ Err fault)
no_more text at e = ((Truncated, drop at text), char_ends text at e)

pub no_character : (text : List ℕ) (at : ℕ) → IsIllFormed (drop at text) → (fault : TextFault) × (char_at (drop at text) ≡ Err fault)
no_character text at bad = let fault : TextFault = (NotUtf8, drop at text) in (fault, char_fails (drop at text) fault (NoCharacter.ill_formed bad refl))

pub ruleset gap_steps = (over_body, over_line_end, over_hash, over_blank, no_more, no_character, stops_there)

nothing_there : (rest : List ℕ) → rest ≡ [] → space_behind false 0 rest ≡ rest
unfolding space_behind
nothing_there rest e = rw e refl

-- where the text ends, what was passed is what is skipped
pub gap_is_space : (text : List ℕ) (from at : ℕ) (comment : Bool) → Passed false from text comment at
    → (comment ≡ true → (fault : TextFault) × (char_at (drop at text) ≡ Err fault))
    → (comment ≡ false → at < length text → (more : List ℕ) → space_behind false 0 (drop at (text ++ more)) ≡ drop at (text ++ more))
    → at ≤ length text → drop at text ≡ skip_space (drop from text)
gap_is_space text from at true passed stuck stops high =
    let all = subst (λ (t : List ℕ). space_behind false 0 (drop from t) ≡ space_behind true 0 (drop at t)) (append-nil text) (passed []) in
    let fault = stuck refl in
    sym (all ∙ no_char (drop at text) fault.0 fault.1)
gap_is_space text from at false passed stuck stops high =
    let all = subst (λ (t : List ℕ). space_behind false 0 (drop from t) ≡ space_behind false 0 (drop at t)) (append-nil text) (passed []) in
    sym (all ∙ elim (cases_lt at (length text)) [
      | inl lt ↦ subst (λ (t : List ℕ). space_behind false 0 (drop at t) ≡ drop at t) (append-nil text) (stops refl lt [])
      | inr le ↦ nothing_there (drop at text) (drop_all at text (omega arith))
    ])
