use Rattle.std.proofs.Common.{◌∙◌, sym, true≢false}
use Rattle.http_heads.proofs.HeadLemmas.{cut_parts, no_cut, ends_by_cut}
use Rattle.http_heads.proofs.heads.ends_in_target.Goals as goal

pub returns-then-is_token : goal.returns-then-is_token
returns-then-is_token c =
    let blank = c.without_blank_lines.ensures.blank in
    let cut = c.in-Some.ensures in (
      λ passes. ends_by_cut _ _ blank.0 _ _ blank.1 cut.some (sym c.is_token.ensures ∙ c.if-is_token.true) (sym c.all_go_on.ensures ∙ passes),
      λ ends. c.all_go_on.ensures ∙ (cut_parts _ _ _ _ c.without_blank_lines.ensures.all cut.some cut.first ends).1,
    )

pub returns-else-is_token : goal.returns-else-is_token
returns-else-is_token c = (
  λ token. absurd (true≢false (sym token ∙ c.if-is_token.false)),
  λ ends. c.is_token.ensures ∙ (cut_parts _ _ _ _ c.without_blank_lines.ensures.all c.in-Some.ensures.some c.in-Some.ensures.first ends).0,
)

pub returns-in-None : goal.returns-in-None
returns-in-None c = (
  λ never. absurd (true≢false (sym never)),
  λ ends. absurd (no_cut _ _ c.without_blank_lines.ensures.all c.in-None.ensures.none ends),
)
