-- Where a comment's body ends, its reading does.
use Rattle.std.proofs.Common.{◌≡◌, ℕ, ◌<◌, ◌≤◌, true, List, length, drop, get_or, IsTrue, not, Ok, Err, refl, sym, ap, subst, ◌∙◌, arith}
use Rattle.std.specs.List.{list_all, slice_range}
use Rattle.std.specs.Str.{IsUtf8}
use Rattle.std.proofs.lemmas.List.{drop_all, drop_more}
use Rattle.std.proofs.lemmas.List.Folds.{drop_split}
use Rattle.nquads_text.specs.declared.fault.TextKind.TheVariants.{NotUtf8}
use Rattle.nquads_text.specs.Grammar.{is_line_end}
use Rattle.nquads_text.specs.Faults.{IsIllFormed}
use Rattle.nquads_documents.specs.Reading.{comment_at}
use Rattle.nquads_documents.proofs.LineEnds.{Closes, body_again}
use Rattle.nquads_documents.proofs.LineFaults.{comment_fails}

module _ (text : List ℕ) (from at : ℕ) (low : from ≤ at) (utf8 : IsUtf8 (slice_range text from at)) (inside : IsTrue (list_all (λ b. not (is_line_end b)) (slice_range text from at))) where
  closed : Closes (drop at text) → comment_at 0 (drop from text) ≡ Ok (tt, drop at text)
  closed closes = ap (comment_at 0) (drop_split text from at low) ∙ body_again (slice_range text from at) (drop at text) utf8 inside closes

  pub comment_none : at ≡ length text → comment_at 0 (drop from text) ≡ Ok (tt, drop at text)
  comment_none e = closed (subst Closes (sym (drop_all at text (omega arith))) tt)

  pub comment_line : at < length text → is_line_end (get_or text at 0) ≡ true → comment_at 0 (drop from text) ≡ Ok (tt, drop at text)
  comment_line lt is = closed (subst Closes (sym (drop_more text at 0 lt)) is)

  pub comment_fault : IsIllFormed (drop at text) → comment_at 0 (drop from text) ≡ Err (NotUtf8, drop at text)
  comment_fault bad =
      comment_fails (drop from text) (NotUtf8, drop at text) (slice_range text from at, drop at text, drop_split text from at low, utf8, inside, bad, refl)

pub ruleset comment_steps = (comment_none, comment_line, comment_fault)
