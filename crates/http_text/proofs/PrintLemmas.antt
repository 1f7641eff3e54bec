-- What is printed is read again.
use Rattle.std.proofs.Common.{◌≡◌, ℕ, ◌<◌, ◌≤◌, List, [], ◌∷◌, ◌++◌, length, drop, reverse, true, false, ◌&&◌, cond, Option, Some, None, Ok, Err, refl, sym, ap, ap₂, ◌∙◌, subst, arith, append_assoc, All, le-leb}
use Rattle.std.specs.Prelude.{codes, IsTrue, IsUtf8, ◌==◌, nat_eq}
use Rattle.std.specs.Fmt.{decimal}
use Rattle.std.specs.Char.{is_ascii_digit, digit_value}
use Rattle.std.specs.List.{list_all, starts_with}
use Rattle.std.specs.Str.Parse.{digits_value, AllDigits}
use Rattle.std.proofs.lemmas.List.Sums.{AllPass-from_list_all}
use Rattle.std.proofs.lemmas.Bool.Decides.{nat_tests}
use Rattle.std.proofs.lemmas.Fmt.{decimal_is_IsNumeral, length-decimal-le}
use Rattle.std.proofs.lemmas.List.Elements.{All-head, All-tail, All-nil, All-cons, All-weaker}
use Rattle.std.proofs.lemmas.Str.{IsUtf8-from_ascii}
use Rattle.std.proofs.lemmas.Str.Ascii.{IsAscii-from_all}
use Rattle.httparse.specs.Grammar.{AllPass, IsToken, is_token_byte, is_uri_byte, is_value_byte, is_ows, skip_ows, trim_ows, Field, IsField, print_field, print_version, print_request}
use Rattle.std.proofs.lemmas.List.{append-nil}
use Rattle.std.specs.List.{flat_map}
use Rattle.httparse.specs.Ascii.{crlf_bytes}
use Rattle.httparse.proofs.GrammarLemmas.{print_request-append}
use Rattle.httparse.proofs.TrimLemmas.{AllPass-reverse, trim_ows_space}
use Rattle.http_heads.specs.Framing.{most_body, sized, length_value, is_length}
use Rattle.http_heads.specs.Heads.{request as request_head}
use Rattle.http_messages.specs.Messages.{before_query, from_slash, path_of, IsMessage}
use Rattle.http_text.proofs.PassLemmas.{passes_none}
use Rattle.http_heads.specs.declared.message.Kind.TheVariants.{Requests}
use Rattle.http_heads.specs.declared.message.Message.TheVariants as forms
use Rattle.http_heads.specs.declared.message.RawRequest.{RawRequest}
use Rattle.http_text.specs.Print.{field, body_fields, head_for, request_text, is_visible, is_path_byte, IsPrintable, FitsReader}
use Rattle.http_heads.specs.declared.framing.FrameFault.TheVariants.{BodyTooLong}
use Rattle.http_heads.specs.declared.framing.Framing.TheVariants.{Sized}

visible_is : (b : ℕ) → is_visible b ≡ true → (33 ≤ b) × (b ≤ 126)
visible_is b visible = (grind (arith, nat_tests), grind (arith, nat_tests))

no_blank : (b : ℕ) → is_visible b ≡ true → is_ows b ≡ false
no_blank b visible = let range = visible_is b visible in grind (arith, nat_tests)

skip_visible : (v : List ℕ) → AllPass is_visible v → skip_ows v ≡ v
skip_visible [] all = refl
skip_visible (b ∷ v) all = ap (λ t. cond t (skip_ows v) (b ∷ v)) (no_blank b (All-head (λ x. IsTrue (is_visible x)) b v all))

-- a space before a word isn't part of it
pub trim_word : (v : List ℕ) → AllPass is_visible v → trim_ows (32 ∷ v) ≡ v
trim_word v all = trim_ows_space v (skip_visible v all) (skip_visible (reverse v) (AllPass-reverse is_visible v all))

value_byte : (b : ℕ) → is_visible b ≡ true → is_value_byte b ≡ true
value_byte b visible = let range = visible_is b visible in grind (arith, nat_tests)

pub word_value : (v : List ℕ) → AllPass is_visible v → AllPass is_value_byte (32 ∷ v)
word_value v all = All-cons (λ b. IsTrue (is_value_byte b)) 32 v refl (All-weaker (λ b. IsTrue (is_visible b)) (λ b. IsTrue (is_value_byte b)) value_byte v all)

-- ---- digits

digit_visible : (c : ℕ) → digit_value c < 10 → (is_visible c ≡ true) × (is_ascii_digit c ≡ true)
digit_visible c small = (grind (arith, nat_tests), grind (arith, nat_tests))

digits_visible : (ds : List ℕ) → AllDigits 10 ds → AllPass is_visible ds × (list_all is_ascii_digit ds ≡ true)
digits_visible [] all = (All-nil _, refl)
digits_visible (c ∷ ds) all =
    let one = digit_visible c all.0 in
    let others = digits_visible ds all.1 in
    (All-cons (λ b. IsTrue (is_visible b)) c ds one.0 others.0, ap₂ ◌&&◌ one.1 others.1)

module _ (n : ℕ) (small : n ≤ most_body) where
  numeral_is : (0 < length (decimal n)) × AllDigits 10 (decimal n) × (digits_value 10 (decimal n) ≡ n)
  numeral_is = let numeral = decimal_is_IsNumeral n (omega arith) in (numeral.0.0, numeral.0.1, numeral.1)

  pub decimal_word : AllPass is_visible (decimal n)
  decimal_word = (digits_visible (decimal n) numeral_is.1).0

  is_decimal : is_length (decimal n) ≡ true
  is_decimal =
      let short = length-decimal-le 18 n (omega arith) (omega arith) (omega arith) in
      ap₂ ◌&&◌ (le-leb 1 (length (decimal n)) numeral_is.0) (ap₂ ◌&&◌ (le-leb (length (decimal n)) 18 short) (digits_visible (decimal n) numeral_is.1).1)

  length_again : length_value (decimal n) ≡ Some n
  length_again = ap (λ t. cond t (Some (digits_value 10 (decimal n))) None) is_decimal ∙ ap Some numeral_is.2

  pub size_again : sized (length_value (trim_ows (32 ∷ decimal n))) ≡ Ok (Sized n)
  size_again = ap (λ (v : List ℕ). sized (length_value v)) (trim_word (decimal n) decimal_word) ∙ ap sized length_again
      ∙ ap (λ t. cond t (Ok (Sized n)) (Err (BodyTooLong n most_body))) (le-leb n most_body small)

-- a path has no query
no_query : (path : List ℕ) → AllPass is_path_byte path → before_query path ≡ path
no_query [] all = refl
no_query (b ∷ path) all =
    ap (λ t. cond t [] (b ∷ before_query path)) (not_query b (All-head (λ x. IsTrue (is_path_byte x)) b path all))
    ∙ ap (λ (t : List ℕ). b ∷ t) (no_query path (All-tail (λ x. IsTrue (is_path_byte x)) b path all))
  where
    not_query : (c : ℕ) → is_path_byte c ≡ true → (c == 63) ≡ false
    not_query c passes = grind (arith, nat_tests)

-- a path that begins with a slash is that of the target
path_again : (path rest : List ℕ) → path ≡ 47 ∷ rest → AllPass is_path_byte path → path_of path ≡ path
path_again path rest is all =
    ap (λ (w : List ℕ). cond (starts_with nat_eq w (codes "http://")) (from_slash (drop 7 w)) w) (no_query path all ∙ is) ∙ sym is

path_byte : (b : ℕ) → is_path_byte b ≡ true → (is_uri_byte b ≡ true) × (b < 128)
path_byte b passes = (grind (arith, nat_tests), grind (arith, nat_tests))

pub token_of : (word : List ℕ) → 0 < length word → list_all is_token_byte word ≡ true → IsToken word
token_of word some all = (some, AllPass-from_list_all is_token_byte word all)

pub field_is : (name value : List ℕ) → IsToken name → AllPass is_visible value → IsField (field name value)
field_is name value token visible = record { name = token; raw = word_value value visible }

-- ---- the head

path_of_head : (path : List ℕ) → AllPass is_path_byte path → AllPass is_uri_byte path × IsUtf8 path
path_of_head path all = (
  All-weaker (λ b. IsTrue (is_path_byte b)) (λ b. IsTrue (is_uri_byte b)) (λ b passes. (path_byte b passes).0) path all,
  IsUtf8-from_ascii path (IsAscii-from_all path (All-weaker (λ b. IsTrue (is_path_byte b)) (λ b. b < 128) (λ b passes. (path_byte b passes).1) path all)),
)

path_not_empty : (path rest : List ℕ) → path ≡ 47 ∷ rest → 0 < length path
path_not_empty path rest is = let long = ap length is in omega arith

request_with : List ℕ → List ℕ → List ℕ → Option (List ℕ) → RawRequest
request_with method path body kind = record { method = method; path = path; http10 = false; close = false; expects = false; content_type = kind; encoding = None; body = body }

again : (method path body host : List ℕ) (kind : Option (List ℕ)) → IsPrintable (request_with method path body kind) host
    → FitsReader (print_request (head_for (request_with method path body kind) host)) body → IsMessage Requests (request_text (request_with method path body kind) host) (forms.Request (request_with method path body kind))
unfolding request_with is_token_byte
again method path body host None p fits =
    let plain = AllPass-from_list_all is_path_byte path p.path.2 in
    let hosts = AllPass-from_list_all is_visible host p.host_bytes in
    let target = path_of_head path plain in
    let get : IsToken method = subst IsToken (sym p.method.0) (token_of (codes "GET") (omega arith) refl) in
    let fields : All IsField (field (codes "Host") host ∷ []) =
    All-cons IsField (field (codes "Host") host) [] (field_is (codes "Host") host (token_of (codes "Host") (omega arith) refl) hosts) (All-nil IsField) in
    record {
      passed = [];
      from = request_text (request_with method path body None) host;
      passes = passes_none Requests (request_text (request_with method path body None) host);
      head = request_head (head_for (request_with method path body None) host);
      behind = body;
      begins = record {
        reads = (record { method = get; target = (path_not_empty path p.path.0 p.path.1, target.0); target_text = target.1; minor = omega arith; fields = fields }, refl);
        short = fits.head_fits;
        few = omega arith;
        final = refl;
      };
      framing = Sized 0;
      faultless = refl;
      body = body;
      is_body = (ap length p.method.1, refl);
      is_message = λ i. forms.Request (record { method = method; path = sym (path_again path p.path.0 p.path.1 plain) i; http10 = false; close = false; expects = false; content_type = None; encoding = None; body = body });
    }
again method path body host (Some kind) p fits =
    let kinds = AllPass-from_list_all is_visible kind p.method.1 in
    let plain = AllPass-from_list_all is_path_byte path p.path.2 in
    let hosts = AllPass-from_list_all is_visible host p.host_bytes in
    let target = path_of_head path plain in
    let size = decimal_word (length body) fits.body_fits in
    let post : IsToken method = subst IsToken (sym p.method.0) (token_of (codes "POST") (omega arith) refl) in
    let fields : All IsField (field (codes "Host") host ∷ body_fields (Some kind) (length body)) =
    All-cons IsField (field (codes "Host") host) (body_fields (Some kind) (length body)) (field_is (codes "Host") host (token_of (codes "Host") (omega arith) refl) hosts)
    (All-cons IsField (field (codes "Content-Type") kind) (field (codes "Content-Length") (decimal (length body)) ∷ []) (field_is (codes "Content-Type") kind (token_of (codes "Content-Type") (omega arith) refl) kinds)
    (All-cons IsField (field (codes "Content-Length") (decimal (length body))) [] (field_is (codes "Content-Length") (decimal (length body)) (token_of (codes "Content-Length") (omega arith) refl) size) (All-nil IsField))) in
    record {
      passed = [];
      from = request_text (request_with method path body (Some kind)) host;
      passes = passes_none Requests (request_text (request_with method path body (Some kind)) host);
      head = request_head (head_for (request_with method path body (Some kind)) host);
      behind = body;
      begins = record {
        reads = (record { method = post; target = (path_not_empty path p.path.0 p.path.1, target.0); target_text = target.1; minor = omega arith; fields = fields }, refl);
        short = fits.head_fits;
        few = omega arith;
        final = refl;
      };
      framing = Sized (length body);
      faultless = size_again (length body) fits.body_fits;
      body = body;
      is_body = (refl, refl);
      is_message = λ i. forms.Request (record {
        method = method;
        path = sym (path_again path p.path.0 p.path.1 plain) i;
        http10 = false;
        close = false;
        expects = false;
        content_type = Some (sym (trim_word kind kinds) i);
        encoding = None;
        body = body;
      });
    }

-- what is printed is that request
pub printed_again : (r : RawRequest) (host : List ℕ) → IsPrintable r host → FitsReader (print_request (head_for r host)) r.body → IsMessage Requests (request_text r host) (forms.Request r)
unfolding request_with
printed_again r host p fits =
    let same : request_with r.method r.path r.body r.content_type ≡ r =
    λ i. record { method = r.method; path = r.path; http10 = sym p.http11 i; close = sym p.stays i; expects = sym p.asks_nothing i; content_type = r.content_type; encoding = sym p.encoding i; body = r.body } in
    let plain : IsPrintable (request_with r.method r.path r.body r.content_type) host = record {
      method = p.method;
      path = p.path;
      host_bytes = p.host_bytes;
      http11 = refl;
      stays = refl;
      asks_nothing = refl;
      encoding = refl;
    } in
    subst (λ (q : RawRequest). IsMessage Requests (request_text r host) (forms.Request q)) same (again r.method r.path r.body host r.content_type plain (record { head_fits = fits.head_fits; body_fits = fits.body_fits }))

-- ---- the text

two_fields : (old : List ℕ) (a b : Field) → (old ++ print_field a) ++ print_field b ≡ old ++ flat_map print_field (a ∷ (b ∷ []))
two_fields old a b = append_assoc old (print_field a) (print_field b) ∙ ap (λ (t : List ℕ). old ++ (print_field a ++ t)) (sym (append-nil (print_field b)))

pub kind_fields : (old middle new kind digits : List ℕ) (given : Option (List ℕ)) (size : ℕ) → given ≡ Some kind → digits ≡ decimal size
    → middle ≡ old ++ print_field (field (codes "Content-Type") kind) → new ≡ middle ++ print_field (field (codes "Content-Length") digits)
    → new ≡ old ++ flat_map print_field (body_fields given size)
kind_fields old middle new kind digits given size some is_size first second =
    second ∙ ap₂ (λ (t u : List ℕ). t ++ print_field (field (codes "Content-Length") u)) first is_size
    ∙ two_fields old (field (codes "Content-Type") kind) (field (codes "Content-Length") (decimal size))
    ∙ ap (λ (k : Option (List ℕ)). old ++ flat_map print_field (body_fields k size)) (sym some)

pub all_text : (request : RawRequest) (host a b d e f : List ℕ) → a ≡ [] ++ (request.method ++ 32 ∷ (request.path ++ 32 ∷ (print_version 1 ++ crlf_bytes)))
    → b ≡ a ++ print_field (field (codes "Host") host)
    → d ≡ b ++ flat_map print_field (body_fields request.content_type (length request.body)) → e ≡ d ++ crlf_bytes → f ≡ e ++ request.body
    → f ≡ request_text request host
all_text request host a b d e f a_is b_is d_is e_is f_is =
    let fields : List ℕ = flat_map print_field (body_fields request.content_type (length request.body)) in
    let line : List ℕ = print_field (field (codes "Host") host) in
    f_is ∙ ap (λ (t : List ℕ). t ++ request.body) (e_is ∙ ap (λ (t : List ℕ). t ++ crlf_bytes) (d_is ∙ ap (λ (t : List ℕ). t ++ fields) (b_is ∙ ap (λ (t : List ℕ). t ++ line) a_is)))
    ∙ regroup request.method request.path (print_version 1) crlf_bytes line fields request.body ∙ sym (print_request-append (head_for request host) request.body)
  where
    regroup : (m p v c l fs body : List ℕ) → (((([] ++ (m ++ 32 ∷ (p ++ 32 ∷ (v ++ c)))) ++ l) ++ fs) ++ c) ++ body
        ≡ [] ++ (m ++ 32 ∷ (p ++ 32 ∷ (v ++ (c ++ (((l ++ fs) ++ c) ++ body)))))
    regroup m p v c l fs body = simp append_assoc
