-- Facts about empty lines, targets and the room that a head needs.
use Rattle.std.proofs.Common.{◌≡◌, ℕ, ◌+◌, ◌<◌, ◌≤◌, inl, inr, List, [], ◌∷◌, ◌++◌, length, take, drop, get_or, Bool, true, false, not, ◌&&◌, nat_lt, ◌≢◌, eqb, ne_eqb, ltb-true, lt-ltb, true≢false, refl, ap₂, sym, ap, ◌∙◌, append_assoc, arith, length-append}
use Rattle.std.proofs.Math.Seq.{get_or-append_seam}
use Rattle.std.proofs.lemmas.Bool.Decides.{nat_tests}
use Rattle.std.specs.Prelude.{IsTrue}
use Rattle.std.proofs.lemmas.List.Elements.{All-weaker}
use Rattle.std.specs.Char.{is_ascii_digit}
use Rattle.std.specs.List.{All, list_all}
use Rattle.std.proofs.lemmas.List.{flat_map_more}
use Rattle.std.proofs.lemmas.List.Sums.{AllPass-from_list_all, list_all-from_AllPass}
use Rattle.httparse.proofs.GrammarLemmas.{ReadsRequest-append, print_request-append}
use Rattle.httparse.proofs.RunLemmas.{run_unique}
use Rattle.http_heads.specs.Follow.{IsToReason}
use Rattle.http_heads.specs.Heads.{request, reply, EndsInTarget, HasNoHead, NeverHasHead, IsBadHead, goes_on}
use Rattle.http_heads.specs.declared.message.Kind.TheVariants.{Requests, Replies}
use Rattle.httparse.specs.Grammar.{AllPass, IsToken, is_token, is_token_byte, LineEnd, crlf, lf, print_end, print_blank, HasNoRequest, NeverHasRequest, MayBecomeRequest, HasNoResponse, NeverHasResponse, MayBecomeResponse, is_uri_byte, is_value_byte, print_version, print_section}
use Rattle.httparse.specs.Pieces.{Stops, is_newline}
use Rattle.httparse.proofs.PieceLemmas.{print_end_unique, newline_not_stopped, Stops_token, space_ends_token}

-- a line end has a byte
pub length-print_end : (end : LineEnd) → 0 < length (print_end end)
length-print_end crlf = omega arith
length-print_end lf = omega arith

-- what follows the first of a text's line ends
pub blank_tail : (text after rest : List ℕ) (end : LineEnd) (blank : List LineEnd) → text ≡ print_end end ++ after
    → Stops is_newline rest → text ≡ print_blank blank ++ rest
    → (others : List LineEnd) × (after ≡ print_blank others ++ rest)
blank_tail text after rest end [] begins stops is = absurd (newline_not_stopped end after rest (sym begins ∙ is) stops)
blank_tail text after rest end (first ∷ blank) begins stops is = (
  blank,
  (print_end_unique end first after (print_blank blank ++ rest)
      (sym begins ∙ is ∙ append_assoc (print_end first) (print_blank blank) rest)).1,
)

-- one more empty line
pub blank_more : (text middle after : List ℕ) (blank : List LineEnd) (end : LineEnd) → text ≡ print_blank blank ++ middle
    → middle ≡ print_end end ++ after → text ≡ print_blank (blank ++ end ∷ []) ++ after
blank_more text middle after blank end is begins =
    is ∙ ap (λ (t : List ℕ). print_blank blank ++ t) begins ∙ sym (append_assoc (print_blank blank) (print_end end) after)
    ∙ ap (λ (t : List ℕ). t ++ after) (flat_map_more print_end [] blank end)

-- where no line end begins the text, no empty line does
pub no_blank : (text rest : List ℕ) (blank : List LineEnd) → ((end : LineEnd) (after : List ℕ) → text ≡ print_end end ++ after → ⊥)
    → text ≡ print_blank blank ++ rest → text ≡ rest
no_blank text rest [] never is = is
no_blank text rest (end ∷ blank) never is =
    absurd (never end (print_blank blank ++ rest) (is ∙ append_assoc (print_end end) (print_blank blank) rest))

-- the parts of a test of two
both : (x y : Bool) → (x && y) ≡ true → (x ≡ true) × (y ≡ true)
both true y holds = (refl, holds)
both false y holds = absurd (true≢false (sym holds))

-- the list has no space
abbrev pub HasNoSpace : List ℕ → Type 0
HasNoSpace word = All (λ byte. byte ≢ 32) word

-- a method has no space
token_has_no_space : (word : List ℕ) → AllPass is_token_byte word → HasNoSpace word
token_has_no_space word token = λ k d within is.
    true≢false (sym (token k d within) ∙ ap is_token_byte is ∙ space_ends_token)

-- a text is cut at its first space in one way
same_cut : (a b c d : List ℕ) → HasNoSpace a → HasNoSpace c → a ++ 32 ∷ b ≡ c ++ 32 ∷ d → (a ≡ c) × (b ≡ d)
same_cut a b c d clean_a clean_c is =
    let same = run_unique (λ byte. not (eqb byte 32)) a c (32 ∷ b) (32 ∷ d)
    (λ k x within. ap not (ne_eqb _ 32 (clean_a k x within))) (λ k x within. ap not (ne_eqb _ 32 (clean_c k x within)))
    refl refl is in
    (same.0, cc)

-- a list with a space has one
space_inside : (line word rest : List ℕ) → HasNoSpace line → line ≡ word ++ 32 ∷ rest → ⊥
space_inside line word rest clean is =
    let long : length line ≡ length word + length (32 ∷ rest) = rw is (length-append word (32 ∷ rest)) in
    let within : length word < length line = omega arith in
    clean (length word) 0 within
    (ap (λ (l : List ℕ). get_or l (length word) 0) is ∙ get_or-append_seam word 32 rest 0)

-- a target has no space
target_has_no_space : (target : List ℕ) → AllPass goes_on target → HasNoSpace target
target_has_no_space target passes = λ k d within is. true≢false (sym (passes k d within) ∙ ap goes_on is)

-- what stands behind empty lines is one text
blank_same : (a b : List LineEnd) (r q : List ℕ) → Stops is_newline r → Stops is_newline q → print_blank a ++ r ≡ print_blank b ++ q → r ≡ q
blank_same [] [] r q stops ends is = is
blank_same [] (e ∷ b) r q stops ends is = absurd (newline_not_stopped e (print_blank b ++ q) r (sym (append_assoc (print_end e) (print_blank b) q) ∙ sym is) stops)
blank_same (e ∷ a) [] r q stops ends is = absurd (newline_not_stopped e (print_blank a ++ r) q (sym (append_assoc (print_end e) (print_blank a) r) ∙ is) ends)
blank_same (e ∷ a) (f ∷ b) r q stops ends is =
    blank_same a b r q stops ends
    (print_end_unique e f (print_blank a ++ r) (print_blank b ++ q) (sym (append_assoc (print_end e) (print_blank a) r) ∙ is ∙ append_assoc (print_end f) (print_blank b) q)).1

-- a text that ends in its target has no head
pub target_no_head : (text : List ℕ) → EndsInTarget Requests text → HasNoHead Requests text
target_no_head text ends (reply head) rest reads = reads.0
target_no_head text (blank, method, target, token, passes, is) (request head) rest reads =
    let tail : List ℕ = head.target ++ 32 ∷ (print_version head.minor ++ (print_end head.line_end ++ (print_section head.fields head.last ++ rest))) in
    let lines = blank_same blank head.blank (method ++ 32 ∷ target) (head.method ++ 32 ∷ tail) (Stops_token method (32 ∷ target) token.0 token.1)
    (Stops_token head.method (32 ∷ tail) reads.0.method.0 reads.0.method.1)
    (sym (append_assoc (print_blank blank) method (32 ∷ target)) ∙ sym is ∙ reads.1 ∙ print_request-append head rest) in
    let same = same_cut method target head.method tail (token_has_no_space method token.1) (token_has_no_space head.method reads.0.method.1) lines in
    space_inside target head.target _ (target_has_no_space target passes) same.1

module _ (text line : List ℕ) where
  -- what stands behind the empty lines of the text is the line
  abbrev pub IsBehindBlank : Type 0
  IsBehindBlank = (blank : List LineEnd) (rest : List ℕ) → Stops is_newline rest → text ≡ print_blank blank ++ rest → line ≡ rest

  -- a text that ends in its target has a line with a method, a space and a target
  cut_of : IsBehindBlank → EndsInTarget Requests text
      → (method : List ℕ) × (target : List ℕ) × IsToken method × AllPass goes_on target × (line ≡ method ++ 32 ∷ target)
  cut_of behind (blank, method, target, token, passes, is) = (
    method,
    target,
    token,
    passes,
    behind blank (method ++ 32 ∷ target) (Stops_token method (32 ∷ target) token.0 token.1)
        (is ∙ append_assoc (print_blank blank) method (32 ∷ target)),
  )

  -- the parts before and behind the first space are the method and the target
  pub cut_parts : (before behind : List ℕ) → IsBehindBlank → line ≡ before ++ 32 ∷ behind → HasNoSpace before
      → EndsInTarget Requests text → (is_token before ≡ true) × (list_all goes_on behind ≡ true)
  cut_parts before behind unique is clean ends =
      let cut = cut_of unique ends in
      let same = same_cut before behind cut.0 cut.1 clean (token_has_no_space cut.0 cut.2.1) (sym is ∙ cut.4) in (
        ap is_token same.0 ∙ ap₂ ◌&&◌ (lt-ltb 0 (length cut.0) cut.2.0) (list_all-from_AllPass is_token_byte cut.0 cut.2.1),
        ap (list_all goes_on) same.1 ∙ list_all-from_AllPass goes_on cut.1 cut.3,
      )

  -- a line without a space has no target
  pub no_cut : IsBehindBlank → HasNoSpace line → EndsInTarget Requests text → ⊥
  no_cut unique clean ends = let cut = cut_of unique ends in space_inside line cut.0 cut.1 clean cut.4

  -- a line with a method, a space and a target
  pub ends_by_cut : (blank : List LineEnd) (method target : List ℕ) → text ≡ print_blank blank ++ line
      → line ≡ method ++ 32 ∷ target → is_token method ≡ true → list_all goes_on target ≡ true → EndsInTarget Requests text
  ends_by_cut blank method target behind is token passes =
      let parts = both (nat_lt 0 (length method)) (list_all is_token_byte method) token in (
        blank,
        method,
        target,
        (ltb-true 0 (length method) parts.0, AllPass-from_list_all is_token_byte method parts.1),
        AllPass-from_list_all goes_on target passes,
        behind ∙ ap (λ (t : List ℕ). print_blank blank ++ t) is ∙ sym (append_assoc (print_blank blank) method (32 ∷ target)),
      )

-- a version, three digits, a space and a phrase are a status line up to its reason
split_three : (rest : List ℕ) → 4 ≤ length rest → get_or rest 3 0 ≡ 32 → (length (take 3 rest) ≡ 3) × (rest ≡ take 3 rest ++ 32 ∷ drop 4 rest)
split_three (a ∷ b ∷ c ∷ d ∷ rest) long space = (refl, ap (λ e. a ∷ b ∷ c ∷ e ∷ rest) space)
split_three [] long space = absurd (omega arith)
split_three (a ∷ []) long space = absurd (omega arith)
split_three (a ∷ b ∷ []) long space = absurd (omega arith)
split_three (a ∷ b ∷ c ∷ []) long space = absurd (omega arith)

pub to_reason : (line rest : List ℕ) (minor : ℕ) → minor ≤ 1 → line ≡ print_version minor ++ 32 ∷ rest → 4 ≤ length rest → get_or rest 3 0 ≡ 32
    → list_all is_ascii_digit (take 3 rest) ≡ true → list_all is_value_byte (drop 4 rest) ≡ true → IsToReason line
to_reason line rest minor version is long space digits phrase =
    let parts = split_three rest long space in (
      minor,
      take 3 rest,
      drop 4 rest,
      version,
      parts.0,
      AllPass-from_list_all is_ascii_digit (take 3 rest) digits,
      AllPass-from_list_all is_value_byte (drop 4 rest) phrase,
      is ∙ ap (λ (t : List ℕ). print_version minor ++ 32 ∷ t) parts.1,
    )

-- ---- what the grammar says of requests and replies, over heads of both

pub no_request_head : (text : List ℕ) → HasNoRequest text → HasNoHead Requests text
no_request_head text none (request head) rest reads = none head rest reads
no_request_head text none (reply head) rest reads = reads.0

pub never_request_head : (text : List ℕ) → NeverHasRequest text → NeverHasHead Requests text
never_request_head text never = λ more. no_request_head (text ++ more) (never more)

pub no_reply_head : (text : List ℕ) → HasNoResponse text → HasNoHead Replies text
no_reply_head text none (reply head) rest reads = none head rest reads
no_reply_head text none (request head) rest reads = reads.0

pub never_reply_head : (text : List ℕ) → NeverHasResponse text → NeverHasHead Replies text
never_reply_head text never = λ more. no_reply_head (text ++ more) (never more)

uri_goes_on : (b : ℕ) → is_uri_byte b ≡ true → goes_on b ≡ true
uri_goes_on b uri = grind (arith, nat_tests)

pub may_be_request : (text : List ℕ) → MayBecomeRequest text → ¬ (IsBadHead Requests text)
may_be_request text (inl (more, head, reads)) bad = bad.1 more (request head) [] reads
may_be_request text (inr (blank, method, target, token, passes, is)) bad =
    bad.0 (blank, method, target, token, All-weaker (λ b. IsTrue (is_uri_byte b)) (λ b. IsTrue (goes_on b)) uri_goes_on target passes, is)

pub may_be_reply : (text : List ℕ) → MayBecomeResponse text → ¬ (IsBadHead Replies text)
may_be_reply text (more, head, reads) bad = bad.1 more (reply head) [] reads

-- a text that never has a head has none
pub never_has_none : (text : List ℕ) → NeverHasRequest text → HasNoRequest text
never_has_none text never head rest reads = never [] head (rest ++ []) (ReadsRequest-append text head rest [] reads)
