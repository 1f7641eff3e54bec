-- A text begins with one head at most, and some texts are heads.
use Rattle.std.proofs.Common.{◌≡◌, ℕ, ◌+◌, ◌<◌, List, [], ◌∷◌, ◌++◌, length, None, refl, ap, ◌∙◌, sym, arith, append_assoc, length-append}
use Rattle.std.specs.Prelude.{codes, IsTrue}
use Rattle.std.proofs.lemmas.List.Elements.{All-nil, All-cons}
use Rattle.std.specs.Char.{is_ascii_digit}
use Rattle.httparse.specs.Grammar.{RequestHead, ResponseHead, print_request, print_response, LineEnd, lf, print_end, print_blank, print_version, print_reason, print_section, IsToken, is_uri_byte, is_value_byte, is_token_byte, IsField}
use Rattle.httparse.proofs.OpenLemmas.{letter_is_token}
use Rattle.httparse.proofs.GrammarLemmas.{print_request-append, print_response-append, request_unique, response_unique}
use Rattle.http_heads.specs.Heads.{Head, request, reply, print_head, ReadsHead, HasNoHead, NeverHasHead}
use Rattle.http_heads.specs.declared.message.Kind.{Kind}
use Rattle.http_heads.specs.declared.message.Kind.TheVariants.{Requests, Replies}

-- two heads at the front of a text are one
pub head_unique : (kind : Kind) (text : List ℕ) (one two : Head) (r q : List ℕ) → ReadsHead kind text one r → ReadsHead kind text two q → (one ≡ two) × (r ≡ q)
head_unique Requests text (request h) (request k) r q x y = let same = request_unique text h k r q x y in (ap request same.0, same.1)
head_unique Replies text (reply h) (reply k) r q x y = let same = response_unique text h k r q x y in (ap reply same.0, same.1)
head_unique Requests text (reply h) two r q x y = absurd x.0
head_unique Requests text (request h) (reply k) r q x y = absurd y.0
head_unique Replies text (request h) two r q x y = absurd x.0
head_unique Replies text (reply h) (request k) r q x y = absurd y.0

-- more bytes join what follows
pub head_grows : (kind : Kind) (text : List ℕ) (head : Head) (rest more : List ℕ) → ReadsHead kind text head rest → ReadsHead kind (text ++ more) head (rest ++ more)
head_grows kind text head rest more reads = (reads.0, ap (λ (t : List ℕ). t ++ more) reads.1 ∙ append_assoc (print_head head) rest more)

-- the head of a text is that of each longer one
pub head_prefix_free : (kind : Kind) (text more : List ℕ) (one two : Head) (r q : List ℕ) → ReadsHead kind text one r → ReadsHead kind (text ++ more) two q
    → (one ≡ two) × (r ++ more ≡ q)
head_prefix_free kind text more one two r q x y = head_unique kind (text ++ more) one two (r ++ more) q (head_grows kind text one r more x) y

-- a head has bytes
pub head_not_empty : (head : Head) → 0 < length (print_head head)
unfolding print_request print_response
head_not_empty (request head) = simp length-append (omega arith)
head_not_empty (reply head) = simp length-append (omega arith)

pub no_head : (head : Head) (rest : List ℕ) → [] ≡ print_head head ++ rest → ⊥
no_head head rest is =
    let long : 0 ≡ length (print_head head) + length rest = ap length is ∙ length-append (print_head head) rest in
    let some = head_not_empty head in
    omega arith

-- a target, and what makes the text up to it a head
pub ending : List ℕ
ending = codes "/ HTTP/1.1" ++ 10 ∷ 10 ∷ []

module _ (blank : List LineEnd) (method : List ℕ) where
  pub head_to_target : RequestHead
  head_to_target = record { blank = blank; method = method; target = 47 ∷ []; minor = 1; line_end = lf; fields = []; last = lf }

  -- a method and a space begin a head
  pub method_begins : IsToken method → ReadsHead Requests ((print_blank blank ++ method ++ 32 ∷ []) ++ ending) (request head_to_target) []
  unfolding ending head_to_target lib.Utf8.encode
  method_begins token = (
    record {
      method = token;
      target = (omega arith, All-cons (λ b. IsTrue (is_uri_byte b)) 47 [] refl (All-nil _));
      target_text = (47 ∷ [], (refl, refl));
      minor = omega arith;
      fields = All-nil _;
    },
    append_assoc (print_blank blank ++ method) (32 ∷ []) ending ∙ append_assoc (print_blank blank) method (32 ∷ ending) ∙ sym (print_request-append head_to_target []),
  )

unfoldable pub some_reply : List LineEnd → ResponseHead
some_reply blank = record { blank = blank; minor = 1; digits = codes "200"; reason = None; line_end = lf; fields = []; last = lf }

is_digit : ℕ → Type 0
is_digit b = IsTrue (is_ascii_digit b)

-- what makes empty lines a reply's head
abbrev pub reply_tail : List ℕ
reply_tail = print_version 1 ++ 32 ∷ (codes "200" ++ (print_reason None ++ (print_end lf ++ (print_section [] lf ++ []))))

pub reply_reads : (blank : List LineEnd) → ReadsHead Replies (print_blank blank ++ reply_tail) (reply (some_reply blank)) []
unfolding some_reply is_digit
reply_reads blank = (
  record {
    minor = omega arith;
    digits = (refl, All-cons is_digit 50 (48 ∷ 48 ∷ []) refl (All-cons is_digit 48 (48 ∷ []) refl (All-cons is_digit 48 [] refl (All-nil is_digit))));
    reason = All-nil (λ b. IsTrue (is_value_byte b));
    fields = All-nil IsField;
  },
  sym (print_response-append (some_reply blank) []),
)

-- some bytes are a head
pub some_head : (kind : Kind) → NeverHasHead kind [] → ⊥
some_head Requests never =
    let token : IsToken (65 ∷ []) = (omega arith, All-cons (λ b. IsTrue (is_token_byte b)) 65 [] letter_is_token (All-nil _)) in
    never _ (request (head_to_target [] (65 ∷ []))) [] (method_begins [] (65 ∷ []) token)
some_head Replies never = never _ (reply (some_reply [])) [] (reply_reads [])

pub nothing_read : (kind : Kind) → HasNoHead kind []
nothing_read kind head rest reads = no_head head rest reads.1

-- lists with equal fronts of one length
pub same_parts : (a b c d : List ℕ) → length a ≡ length b → a ++ c ≡ b ++ d → (a ≡ b) × (c ≡ d)
same_parts [] [] c d len is = (refl, is)
same_parts [] (y ∷ b) c d len is = absurd (omega arith)
same_parts (x ∷ a) [] c d len is = absurd (omega arith)
same_parts (x ∷ a) (y ∷ b) c d len is =
    let rest = same_parts a b c d (omega arith) (cc) in
    (cc (rest.0), rest.1)
