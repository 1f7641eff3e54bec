-- What is followed of a head is open.
use Rattle.std.proofs.Common.{◌≡◌, ℕ, ◌+◌, true, List, [], ◌∷◌, ◌++◌, length, Some, refl, sym, ap, ◌∙◌, subst, arith, append_assoc, length-append}
use Rattle.std.specs.Prelude.{IsTrue}
use Rattle.std.specs.List.{flat_map}
use Rattle.std.proofs.lemmas.Grind.{flat_map-append}
use Rattle.std.proofs.lemmas.List.{append-nil}
use Rattle.std.proofs.lemmas.List.Elements.{All-nil, All-cons, All-append}
use Rattle.httparse.specs.Grammar.{LineEnd, crlf, lf, print_end, print_blank, IsToken, is_token_byte, Field, IsField, print_field, print_section, RequestHead, print_request, ResponseHead, print_response, print_version, print_reason}
use Rattle.httparse.proofs.GrammarLemmas.{cons-append, print_response-append}
use Rattle.httparse.proofs.OpenLemmas.{letter_is_token}
use Rattle.http_heads.specs.Heads.{Head, request, reply, ReadsHead, HasNoHead, IsBadHead, EndsInTarget}
use Rattle.http_heads.specs.Follow.{Follows, TakesFields, IsInName, is_known}
use Rattle.http_heads.specs.declared.message.Kind.{Kind}
use Rattle.http_heads.specs.declared.message.Kind.TheVariants.{Requests, Replies}
use Rattle.http_heads.specs.declared.progress.HeadProgress.{HeadProgress}
use Rattle.http_heads.specs.declared.progress.HeadProgress.TheVariants as at
use Rattle.http_heads.proofs.HeadLaws.{head_prefix_free, ending, head_to_target, method_begins, reply_tail, some_reply, reply_reads}
use Rattle.http_heads.proofs.HeadLemmas.{target_no_head}
use Rattle.http_heads.proofs.HeadLaws.{same_parts}
use Rattle.http_heads.proofs.FollowLemmas.{name_value, blank_crlf, value_crlf, value_line}

-- no head stands here, and one may come
abbrev pub IsOpen : Kind → List ℕ → Type 0
IsOpen kind text = HasNoHead kind text × ¬ (IsBadHead kind text)

-- a text that goes on to a head is open
goes_on_open : (kind : Kind) (text : List ℕ) (byte : ℕ) (more : List ℕ) (head : Head) → ReadsHead kind (text ++ byte ∷ more) head [] → IsOpen kind text
goes_on_open kind text byte more head reads = (
  λ other rest it.
      let same = head_prefix_free kind text (byte ∷ more) other head rest [] it reads in
      let long : length rest + length (byte ∷ more) ≡ 0 = sym (length-append rest (byte ∷ more)) ∙ ap length same.1 in
      omega arith,
  λ bad. bad.1 (byte ∷ more) head [] reads,
)

-- the same where some bytes follow first
goes_on_behind : (kind : Kind) (text : List ℕ) (byte : ℕ) (middle more : List ℕ) (head : Head) → ReadsHead kind ((text ++ byte ∷ middle) ++ more) head [] → IsOpen kind text
goes_on_behind kind text byte middle more head reads =
    goes_on_open kind text byte (middle ++ more) head (subst (λ (t : List ℕ). ReadsHead kind t head []) (append_assoc text (byte ∷ middle) more) reads)

line_opens : (kind : Kind) (text : List ℕ) → TakesFields kind text → IsOpen kind text
line_opens kind text takes = let made = takes [] lf (All-nil IsField) in goes_on_open kind text 10 [] made.0 made.1

line_behind_opens : (kind : Kind) (text : List ℕ) (byte : ℕ) (middle : List ℕ) → TakesFields kind (text ++ byte ∷ middle) → IsOpen kind text
line_behind_opens kind text byte middle takes = let made = takes [] lf (All-nil IsField) in goes_on_behind kind text byte middle (10 ∷ []) made.0 made.1

name_opens : (kind : Kind) (text : List ℕ) → IsInName kind text → IsOpen kind text
name_opens kind text name =
    line_behind_opens kind text 58 (10 ∷ [])
    (subst (TakesFields kind) (append_assoc text (58 ∷ []) (10 ∷ [])) (value_line kind (text ++ 58 ∷ []) lf (name_value kind text 58 refl name)))

-- behind empty lines a head begins
blank_reads : (kind : Kind) (text : List ℕ) → Follows kind text at.Blank → (byte : ℕ) × (more : List ℕ) × (head : Head) × ReadsHead kind (text ++ byte ∷ more) head []
blank_reads Requests text (blank, is) =
    let token : IsToken (65 ∷ []) = (omega arith, All-cons (λ b. IsTrue (is_token_byte b)) 65 [] letter_is_token (All-nil _)) in
    let same : (print_blank blank ++ (65 ∷ []) ++ 32 ∷ []) ++ ending ≡ text ++ 65 ∷ 32 ∷ ending =
    append_assoc (print_blank blank ++ 65 ∷ []) (32 ∷ []) ending ∙ append_assoc (print_blank blank) (65 ∷ []) (32 ∷ ending) ∙ ap (λ (t : List ℕ). t ++ 65 ∷ 32 ∷ ending) (sym is) in
    (65, 32 ∷ ending, request (head_to_target blank (65 ∷ [])), subst (λ (t : List ℕ). ReadsHead Requests t (request (head_to_target blank (65 ∷ []))) []) same (method_begins blank (65 ∷ []) token))
blank_reads Replies text (blank, is) =
    (72, _, reply (some_reply blank), subst (λ (t : List ℕ). ReadsHead Replies (t ++ reply_tail) (reply (some_reply blank)) []) (sym is) (reply_reads blank))

blank_opens : (kind : Kind) (text : List ℕ) → Follows kind text at.Blank → IsOpen kind text
blank_opens kind text blank = let made = blank_reads kind text blank in goes_on_open kind text made.0 made.1 made.2 made.3

blank_end_opens : (kind : Kind) (text : List ℕ) → Follows kind text at.BlankEnd → IsOpen kind text
blank_end_opens kind text blank =
    let made = blank_reads kind (text ++ 10 ∷ []) (blank_crlf kind text 10 refl blank) in
    goes_on_behind kind text 10 [] (made.0 ∷ made.1) made.2 made.3

method_opens : (kind : Kind) (text : List ℕ) → Follows kind text at.Method → IsOpen kind text
method_opens kind text (same, (blank, method, token, is)) =
    subst (λ (k : Kind). IsOpen k text) (sym same)
    (goes_on_open Requests text 32 ending (request (head_to_target blank method))
    (subst (λ (t : List ℕ). ReadsHead Requests t (request (head_to_target blank method)) [])
    (append_assoc (print_blank blank ++ method) (32 ∷ []) ending ∙ ap (λ (t : List ℕ). t ++ 32 ∷ ending) (sym is)) (method_begins blank method token)))

target_opens : (kind : Kind) (text : List ℕ) → EndsInTarget kind text → IsOpen kind text
target_opens Requests text ends = (target_no_head text ends, λ bad. bad.0 ends)
target_opens Replies text ends = absurd ends

-- a reason phrase and two line ends make a head
reason_opens : (kind : Kind) (text : List ℕ) → Follows kind text at.Reason → IsOpen kind text
reason_opens kind text (same, (blank, line, (minor, digits, phrase, version, three, are_digits, passes, line_is), text_is)) =
    let head : ResponseHead = record { blank = blank; minor = minor; digits = digits; reason = Some phrase; line_end = lf; fields = []; last = lf } in
    let whole : text ++ 10 ∷ 10 ∷ [] ≡ print_response head ++ [] =
    ap (λ (t : List ℕ). t ++ 10 ∷ 10 ∷ []) (text_is ∙ ap (λ (t : List ℕ). print_blank blank ++ t) line_is)
    ∙ regroup (print_blank blank) (print_version minor) digits phrase (10 ∷ 10 ∷ []) ∙ sym (print_response-append head []) in
    subst (λ (k : Kind). IsOpen k text) (sym same)
    (goes_on_open Replies text 10 (10 ∷ []) (reply head) (record { minor = version; digits = (three, are_digits); reason = passes; fields = All-nil IsField }, whole))
  where
    regroup : (a b c d e : List ℕ) → (a ++ (b ++ 32 ∷ (c ++ 32 ∷ d))) ++ e ≡ a ++ (b ++ 32 ∷ (c ++ ((32 ∷ d) ++ e)))
    regroup a b c d e = simp (append_assoc, cons-append)

-- what is followed is open
pub follows_open : (kind : Kind) (text : List ℕ) (progress : HeadProgress) → is_known progress ≡ true → Follows kind text progress → IsOpen kind text
follows_open kind text at.Blank known follows = blank_opens kind text follows
follows_open kind text at.BlankEnd known follows = blank_end_opens kind text follows
follows_open kind text at.Method known follows = method_opens kind text follows
follows_open kind text at.Target known follows = target_opens kind text follows
follows_open kind text at.Reason known follows = reason_opens kind text follows
follows_open kind text at.Line known follows = line_opens kind text follows
follows_open kind text at.Name known follows = name_opens kind text follows
follows_open kind text at.Value known follows = line_behind_opens kind text 10 [] (value_line kind text lf follows)
follows_open kind text at.ValueEnd known follows = line_behind_opens kind text 10 [] (value_crlf kind text 10 refl follows)
follows_open kind text at.Unknown known follows = cc

-- ---- a text that a line feed makes a head ends where a field may begin

one_longer : (a b : List ℕ) (x y : ℕ) → a ++ x ∷ [] ≡ b ++ y ∷ [] → (a ≡ b) × (x ∷ [] ≡ y ∷ [])
one_longer a b x y is =
    let long : length a + 1 ≡ length b + 1 = sym (length-append a (x ∷ [])) ∙ ap length is ∙ length-append b (y ∷ []) in
    same_parts a b (x ∷ []) (y ∷ []) (omega arith) is

same_byte : (x y : ℕ) → x ∷ [] ≡ y ∷ [] → x ≡ y
same_byte x y same = cc

lines_of : (begin text front : List ℕ) (fields : List Field) (last : LineEnd) → text ++ 10 ∷ [] ≡ begin ++ print_section fields last → text ≡ front ++ 10 ∷ []
    → text ≡ begin ++ flat_map print_field fields
lines_of begin text front fields lf is ends =
    (one_longer text (begin ++ flat_map print_field fields) 10 10 (is ∙ sym (append_assoc begin (flat_map print_field fields) (10 ∷ [])))).0
lines_of begin text front fields crlf is ends =
    let lines : List ℕ = begin ++ flat_map print_field fields in
    let whole : text ++ 10 ∷ [] ≡ (lines ++ 13 ∷ []) ++ 10 ∷ [] =
    is ∙ sym (append_assoc begin (flat_map print_field fields) (13 ∷ 10 ∷ [])) ∙ sym (append_assoc lines (13 ∷ []) (10 ∷ [])) in
    let last = one_longer front lines 10 13 (sym ends ∙ (one_longer text (lines ++ 13 ∷ []) 10 10 whole).0) in
    let same = same_byte 10 13 last.1 in
    absurd (omega arith)

-- fields join the lines
lines_more : (begin text : List ℕ) (fields more : List Field) (last : LineEnd) → text ≡ begin ++ flat_map print_field fields
    → text ++ print_section more last ≡ (begin ++ print_section (fields ++ more) last) ++ []
lines_more begin text fields more last is =
    ap (λ (t : List ℕ). t ++ print_section more last) is ∙ append_assoc begin (flat_map print_field fields) (print_section more last)
    ∙ ap (λ (t : List ℕ). begin ++ t) (sym (append_assoc (flat_map print_field fields) (flat_map print_field more) (print_end last)) ∙ ap (λ (t : List ℕ). t ++ print_end last) (sym (flat_map-append print_field fields more)))
    ∙ sym (append-nil (begin ++ print_section (fields ++ more) last))

pub request_start : RequestHead → List ℕ
request_start h = print_blank h.blank ++ h.method ++ 32 ∷ h.target ++ 32 ∷ print_version h.minor ++ print_end h.line_end

pub reply_start : ResponseHead → List ℕ
reply_start h = print_blank h.blank ++ print_version h.minor ++ 32 ∷ h.digits ++ print_reason h.reason ++ print_end h.line_end

pub request_parts : (h : RequestHead) → print_request h ≡ request_start h ++ print_section h.fields h.last
unfolding request_start print_request
request_parts h = refl

pub reply_parts : (h : ResponseHead) → print_response h ≡ reply_start h ++ print_section h.fields h.last
unfolding reply_start print_response
reply_parts h = refl

request_again : (h : RequestHead) (fields : List Field) (last : LineEnd) → print_request (record h { fields = fields; last = last }) ≡ request_start h ++ print_section fields last
unfolding request_start print_request
request_again h fields last = refl

reply_again : (h : ResponseHead) (fields : List Field) (last : LineEnd) → print_response (record h { fields = fields; last = last }) ≡ reply_start h ++ print_section fields last
unfolding reply_start print_response
reply_again h fields last = refl

pub takes_fields : (kind : Kind) (text front : List ℕ) (head : Head) → ReadsHead kind (text ++ 10 ∷ []) head [] → text ≡ front ++ 10 ∷ [] → TakesFields kind text
takes_fields Requests text front (request h) reads ends = λ more last all.
    let lines = lines_of (request_start h) text front h.fields h.last (reads.1 ∙ append-nil (print_request h) ∙ request_parts h) ends in (
      request (record h { fields = h.fields ++ more; last = last }),
      (
        record { method = reads.0.method; target = reads.0.target; target_text = reads.0.target_text; minor = reads.0.minor; fields = All-append IsField h.fields more reads.0.fields all },
        lines_more (request_start h) text h.fields more last lines ∙ ap (λ (t : List ℕ). t ++ []) (sym (request_again h (h.fields ++ more) last)),
      ),
    )
takes_fields Replies text front (reply h) reads ends = λ more last all.
    let lines = lines_of (reply_start h) text front h.fields h.last (reads.1 ∙ append-nil (print_response h) ∙ reply_parts h) ends in (
      reply (record h { fields = h.fields ++ more; last = last }),
      (
        record { minor = reads.0.minor; digits = reads.0.digits; reason = reads.0.reason; fields = All-append IsField h.fields more reads.0.fields all },
        lines_more (reply_start h) text h.fields more last lines ∙ ap (λ (t : List ℕ). t ++ []) (sym (reply_again h (h.fields ++ more) last)),
      ),
    )
takes_fields Requests text front (reply h) reads ends = absurd reads.0
takes_fields Replies text front (request h) reads ends = absurd reads.0
