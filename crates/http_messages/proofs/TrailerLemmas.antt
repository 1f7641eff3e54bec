-- Facts about trailers that are followed as the fields behind a status line.
use Rattle.std.proofs.Common.{◌≡◌, ℕ, ◌-◌, ◌<◌, ◌≤◌, List, [], ◌∷◌, ◌++◌, length, take, drop, true, None, Some, Option, Ok, sym, ap, ◌∙◌, subst, inr, arith, append_assoc}
use Rattle.std.specs.Prelude.{codes}
use Rattle.std.proofs.lemmas.List.{append-nil, take_all}
use Rattle.std.specs.List.{All}
use Rattle.httparse.specs.Grammar.{LineEnd, crlf, lf, print_end, print_blank, print_version, print_reason, Field, IsField, print_section, ReadsSection, HasNoSection, NeverHasSection, ResponseHead, IsResponseHead, print_response}
use Rattle.httparse.proofs.GrammarLemmas.{print_response-append}
use Rattle.http_heads.specs.Heads.{Head, request, reply, ReadsHead}
use Rattle.http_messages.specs.Chunks.{most_trailers, AreBadTrailers}
use Rattle.http_heads.specs.Follow.{Follows, is_known, TakesFields}
use Rattle.http_messages.specs.Stages.{AreOpenTrailers, HoldsTrailers, FollowsTrailers, some_status_line, PartStepIs}
use Rattle.http_heads.specs.declared.progress.HeadProgress.{HeadProgress}
use Rattle.http_heads.specs.declared.framing.Framing.{Framing}
use Rattle.http_heads.specs.declared.message.Kind.TheVariants.{Replies}
use Rattle.http_messages.specs.declared.stage.BodyPart.TheVariants as parts
use Rattle.http_messages.proofs.ChunkLemmas.{trailers_more}
use Rattle.http_heads.proofs.HeadLaws.{some_reply, reply_reads}
use Rattle.http_heads.proofs.OpenHeads.{follows_open}
use Rattle.http_messages.proofs.PieceLemmas.{IsMost}
use Rattle.http_heads.proofs.HeadLaws.{same_parts}
use Rattle.http_messages.proofs.StepLemmas.{kept_length, piece_length, all_used}

-- ---- a section behind the status line is a head, and what makes it one is a section

with_fields : List Field → LineEnd → ResponseHead
with_fields fields last = record (some_reply []) { fields = fields; last = last }

status_reads : (fields : List Field) (last : LineEnd) (rest : List ℕ) → All IsField fields
    → ReadsHead Replies (some_status_line ++ (print_section fields last ++ rest)) (reply (with_fields fields last)) rest
unfolding with_fields some_reply
status_reads fields last rest all =
    let some = (reply_reads []).0 in
    (record { minor = some.minor; digits = some.digits; reason = some.reason; fields = all }, sym (print_response-append (with_fields fields last) rest))

pub status_line_takes : TakesFields Replies (some_status_line ++ [])
status_line_takes = λ fields last all.
    let reads = status_reads fields last [] all in
    (reply (with_fields fields last), subst (λ (t : List ℕ). ReadsHead Replies (some_status_line ++ t) (reply (with_fields fields last)) []) (append-nil (print_section fields last)) reads)

clash : (x y : ℕ) (a b : List ℕ) → x ∷ a ≡ y ∷ b → x ≡ y
clash x y a b is = cc

behind_reason : (text section : List ℕ) (reason : Option (List ℕ)) (end : LineEnd) → 10 ∷ text ≡ print_reason reason ++ (print_end end ++ section) → text ≡ section
behind_reason text section (Some phrase) end is = let bytes = clash 10 32 text _ is in absurd (omega (arith, bytes))
behind_reason text section None crlf is = let bytes = clash 10 13 text _ is in absurd (omega (arith, bytes))
behind_reason text section None lf is = ap (drop 1) is

behind_status : (text section digits : List ℕ) (blank : List LineEnd) (minor : ℕ) (reason : Option (List ℕ)) (end : LineEnd) → length digits ≡ 3
    → some_status_line ++ text ≡ print_blank blank ++ (print_version minor ++ 32 ∷ (digits ++ (print_reason reason ++ (print_end end ++ section)))) → text ≡ section
behind_status text section digits (crlf ∷ blank) minor reason end three is = let bytes = clash 72 13 _ _ is in absurd (omega (arith, bytes))
behind_status text section digits (lf ∷ blank) minor reason end three is = let bytes = clash 72 10 _ _ is in absurd (omega (arith, bytes))
behind_status text section digits [] minor reason end three is =
    let parts = same_parts (codes "200") digits (10 ∷ text) (print_reason reason ++ (print_end end ++ section)) (sym three) (ap (drop 9) is) in
    behind_reason text section reason end parts.1

section_behind : (text more rest : List ℕ) (h : ResponseHead) → IsResponseHead h → (some_status_line ++ text) ++ more ≡ print_response h ++ rest
    → ReadsSection (text ++ more) h.fields h.last rest
section_behind text more rest h is reads =
    (is.fields, behind_status (text ++ more) (print_section h.fields h.last ++ rest) h.digits h.blank h.minor h.reason h.line_end is.digits.0 (reads ∙ print_response-append h rest))

-- ---- trailers that are followed are open

pub trailers_none : (text : List ℕ) (progress : HeadProgress) → is_known progress ≡ true → FollowsTrailers text progress → HasNoSection text
trailers_none text progress known follows = λ fields last rest reads.
    (follows_open Replies (some_status_line ++ text) progress known follows).0 (reply (with_fields fields last)) rest
    (subst (λ (t : List ℕ). ReadsHead Replies (some_status_line ++ t) (reply (with_fields fields last)) rest) (sym reads.1) (status_reads fields last rest reads.0))

pub trailers_good : (text : List ℕ) (progress : HeadProgress) → is_known progress ≡ true → FollowsTrailers text progress → NeverHasSection text → ⊥
trailers_good text progress known follows never =
    (follows_open Replies (some_status_line ++ text) progress known follows).1 (λ ends. ends, no_reply)
  where
    no_reply : (more : List ℕ) (head : Head) (rest : List ℕ) → ReadsHead Replies ((some_status_line ++ text) ++ more) head rest → ⊥
    no_reply more (reply h) rest reads = never more h.fields h.last rest (section_behind text more rest h reads.0 reads.1)
    no_reply more (request h) rest reads = reads.0

pub trailers_open : (text : List ℕ) (progress : HeadProgress) → is_known progress ≡ true → length text < most_trailers → FollowsTrailers text progress → AreOpenTrailers text
trailers_open text progress known short follows =
    record { short = short; none = trailers_none text progress known follows; good = trailers_good text progress known follows }

-- open trailers that fill their limit are too long
pub full_trailers : (text : List ℕ) → length text ≡ 16384 → HasNoSection text → AreBadTrailers text
full_trailers text full none = inr (omega arith, subst HasNoSection (sym (take_all 16384 text (omega arith))) none)

-- bytes that were followed are kept
pub kept_trailers : (framing : Framing) (body behind old new bytes : List ℕ) (used : ℕ) (progress : HeadProgress) → HoldsTrailers framing body behind old → new ≡ old ++ bytes
    → used ≡ length bytes → 0 < length bytes → length new < 16384 → is_known progress ≡ true → FollowsTrailers (old ++ bytes) progress
    → PartStepIs framing behind bytes body new (Ok (used, Some (parts.Trailers progress)))
kept_trailers framing body behind old new bytes used progress (chunked, at) is used_is some fits known follows =
    let here = subst (λ (t : List ℕ). FollowsTrailers t progress) (sym is) follows in
    let all : old ++ take used bytes ≡ new = ap (λ (t : List ℕ). old ++ t) (take_all used bytes (omega arith)) ∙ sym is in
    ((omega arith, omega arith), ((chunked, trailers_more body behind old (take used bytes) new at all), trailers_open new progress known fits here, here))

-- the trailers that have come, of which so many bytes were kept before
module _ (kept : ℕ) (text : List ℕ) (within : kept < length text) (fits : length text ≤ 16384) where
  pub most_here : IsMost (take kept text) (drop kept text) most_trailers (length text - kept)
  most_here =
      let before = kept_length Replies kept text within in
      let piece = piece_length Replies kept text within in
      record { short = omega arith; most_is = omega arith }

  pub text_here : text ≡ take kept text ++ take (length text - kept) (drop kept text)
  text_here = all_used Replies kept text within

-- the status line stands before what was kept
pub follows_piece : (old front : List ℕ) (passed : ℕ) (progress : HeadProgress) → passed ≡ length front → Follows Replies ((some_status_line ++ old) ++ take passed front) progress
    → FollowsTrailers (old ++ front) progress
follows_piece old front passed progress all follows =
    subst (λ (t : List ℕ). Follows Replies t progress)
    (append_assoc some_status_line old (take passed front) ∙ ap (λ (t : List ℕ). some_status_line ++ (old ++ t)) (take_all passed front (omega arith))) follows
