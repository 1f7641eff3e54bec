-- What is printed of a reply is read again.
use Rattle.std.proofs.Common.{◌≡◌, ℕ, ◌≤◌, List, [], ◌∷◌, ◌++◌, length, Bool, true, false, not, ◌&&◌, ◌||◌, ◌==◌, Option, Some, None, Ok, refl, sym, ap, ◌∙◌, subst, arith, append_assoc, All, eqb-true}
use Rattle.std.specs.Prelude.{codes, IsTrue}
use Rattle.std.specs.Fmt.{decimal}
use Rattle.std.specs.Char.{is_ascii_digit}
use Rattle.std.specs.List.{list_all, list_any, flat_map}
use Rattle.std.specs.Str.Parse.{digits_value}
use Rattle.std.proofs.lemmas.Grind.{flat_map-append}
use Rattle.std.proofs.lemmas.List.Sums.{AllPass-from_list_all}
use Rattle.std.proofs.lemmas.List.Elements.{All-nil, All-cons, All-append}
use Rattle.http.specs.StatusCode.{code_digits}
use Rattle.httparse.specs.Ascii.{crlf_bytes}
use Rattle.httparse.specs.Grammar.{AllPass, is_token_byte, is_value_byte, trim_ows, IsField, print_field, print_version, print_response}
use Rattle.httparse.proofs.GrammarLemmas.{print_response-append}
use Rattle.http_heads.specs.Heads.{reply}
use Rattle.http_messages.specs.Messages.{reply_of, IsMessage, framing_behind}
use Rattle.http_text.specs.Print.{field, is_visible, body_fields, phrase_of, statuses, status_line, allow_fields, close_fields, reply_fields, reply_head, reply_text, HasContentType, IsAllow, IsPrintableReply, FitsReader}
use Rattle.http_heads.specs.declared.framing.Framing.TheVariants.{Sized}
use Rattle.http_heads.specs.declared.message.Kind.TheVariants.{Replies}
use Rattle.http_heads.specs.declared.message.Message.TheVariants as forms
use Rattle.http_heads.specs.declared.message.RawReply.{RawReply}
use Rattle.http_text.proofs.PassLemmas.{passes_none}
use Rattle.http_text.proofs.PrintLemmas.{trim_word, decimal_word, size_again, token_of, field_is}

-- ---- the statuses

-- what a status has to be for its line to be read again
abbrev is_good : ℕ → Bool
is_good n = (length (code_digits n) == 3) && (list_all is_ascii_digit (code_digits n) && ((digits_value 10 (code_digits n) == n) && (not (n == 100) && list_all is_value_byte (phrase_of n))))

all_good : list_all is_good statuses ≡ true
unfolding phrase_of
all_good = refl

both : (a b : Bool) → (a && b) ≡ true → (a ≡ true) × (b ≡ true)
both true b is = (refl, is)
both false b is = cc

good_here : {P : Bool} (s n : ℕ) (b : Bool) → (s == n) ≡ b → is_good s ≡ true → (P ≡ true → is_good n ≡ true) → (b || P) ≡ true → is_good n ≡ true
good_here s n true same here later any = subst (λ m. is_good m ≡ true) (eqb-true s n same) here
good_here s n false same here later any = later any

-- a status of the list has what all of them have
good_of : (list : List ℕ) (n : ℕ) → list_all is_good list ≡ true → list_any (λ s. s == n) list ≡ true → is_good n ≡ true
good_of [] n all any = cc
good_of (s ∷ list) n all any =
    let parts = both (is_good s) (list_all is_good list) all in
    good_here s n (s == n) refl parts.0 (λ later. good_of list n parts.1 later) any

record GoodStatus (n : ℕ) : Type 0 where
  three : length (code_digits n) ≡ 3
  digits : AllPass is_ascii_digit (code_digits n)
  value : digits_value 10 (code_digits n) ≡ n
  final : (n == 100) ≡ false
  phrase : AllPass is_value_byte (phrase_of n)

good_status : (n : ℕ) → list_any (λ s. s == n) statuses ≡ true → GoodStatus n
good_status n listed =
    let one = both _ _ (good_of statuses n all_good listed) in
    let two = both _ _ one.1 in
    let three = both _ _ two.1 in
    let four = both _ _ three.1 in
    record {
      three = eqb-true (length (code_digits n)) 3 one.0;
      digits = AllPass-from_list_all is_ascii_digit (code_digits n) two.0;
      value = eqb-true (digits_value 10 (code_digits n)) n three.0;
      final = not_true (n == 100) four.0;
      phrase = AllPass-from_list_all is_value_byte (phrase_of n) four.1;
    }
  where
    not_true : (b : Bool) → not b ≡ true → b ≡ false
    not_true true is = cc
    not_true false is = refl

-- ---- the fields

allow_is : (allow : Option (List ℕ)) → IsAllow allow → All IsField (allow_fields allow)
unfolding is_token_byte
allow_is None bytes = All-nil IsField
allow_is (Some methods) bytes =
    All-cons IsField (field (codes "Allow") methods) [] (record { name = token_of (codes "Allow") (omega arith) refl; raw = All-cons (λ b. IsTrue (is_value_byte b)) 32 methods refl (AllPass-from_list_all is_value_byte methods bytes) }) (All-nil IsField)

close_is : (close : Bool) → All IsField (close_fields close)
unfolding is_token_byte
close_is true =
    All-cons IsField (field (codes "Connection") (codes "close")) []
    (field_is (codes "Connection") (codes "close") (token_of (codes "Connection") (omega arith) refl) (AllPass-from_list_all is_visible (codes "close") refl)) (All-nil IsField)
close_is false = All-nil IsField

body_is : (kind : List ℕ) (size : ℕ) → AllPass is_visible kind → size ≤ 4194304 → All IsField (body_fields (Some kind) size)
unfolding is_token_byte
body_is kind size visible small =
    All-cons IsField (field (codes "Content-Type") kind) (field (codes "Content-Length") (decimal size) ∷ []) (field_is (codes "Content-Type") kind (token_of (codes "Content-Type") (omega arith) refl) visible)
    (All-cons IsField (field (codes "Content-Length") (decimal size)) [] (field_is (codes "Content-Length") (decimal size) (token_of (codes "Content-Length") (omega arith) refl) (decimal_word size small)) (All-nil IsField))

reply_with : ℕ → Bool → List ℕ → List ℕ → RawReply
reply_with status close kind body = record { status = status; close = close; content_type = Some kind; body = body }

-- the framing of the body is its length
framing_again : (status : ℕ) (close : Bool) (kind body : List ℕ) (allow : Option (List ℕ)) → length body ≤ 4194304
    → framing_behind (reply (reply_head (reply_with status close kind body) allow)) ≡ Ok (Sized (length body))
unfolding reply_with
framing_again status true kind body None small = size_again (length body) small
framing_again status false kind body None small = size_again (length body) small
framing_again status true kind body (Some methods) small = size_again (length body) small
framing_again status false kind body (Some methods) small = size_again (length body) small

-- the reply of the head is the one that was printed
reply_again : (status : ℕ) (close : Bool) (kind body : List ℕ) (allow : Option (List ℕ)) → AllPass is_visible kind → digits_value 10 (code_digits status) ≡ status
    → reply_with status close kind body ≡ reply_of (reply_head (reply_with status close kind body) allow) body
unfolding reply_with trim_ows
reply_again status true kind body None visible value = λ i. record { status = sym value i; close = true; content_type = Some (sym (trim_word kind visible) i); body = body }
reply_again status false kind body None visible value = λ i. record { status = sym value i; close = false; content_type = Some (sym (trim_word kind visible) i); body = body }
reply_again status true kind body (Some methods) visible value = λ i. record { status = sym value i; close = true; content_type = Some (sym (trim_word kind visible) i); body = body }
reply_again status false kind body (Some methods) visible value = λ i. record { status = sym value i; close = false; content_type = Some (sym (trim_word kind visible) i); body = body }

again : (status : ℕ) (close : Bool) (kind body : List ℕ) (allow : Option (List ℕ)) → IsPrintableReply (reply_with status close kind body) allow
    → FitsReader (print_response (reply_head (reply_with status close kind body) allow)) body
    → IsMessage Replies (reply_text (reply_with status close kind body) allow) (forms.Reply (reply_with status close kind body))
unfolding reply_with
again status close kind body allow p fits =
    let good = good_status status p.status in
    record {
      passed = [];
      from = reply_text (reply_with status close kind body) allow;
      passes = passes_none Replies (reply_text (reply_with status close kind body) allow);
      head = reply (reply_head (reply_with status close kind body) allow);
      behind = body;
      begins = record {
        reads = (
          record {
            minor = omega arith;
            digits = (refl, good.digits);
            reason = good.phrase;
            fields = All-append IsField (allow_fields allow) (close_fields close ++ body_fields (Some kind) (length body)) (allow_is allow p.allow_bytes)
                (All-append IsField (close_fields close) (body_fields (Some kind) (length body)) (close_is close) (body_is kind (length body) (AllPass-from_list_all is_visible kind p.kind) fits.body_fits));
          },
          refl,
        );
        short = fits.head_fits;
        few = few_fields allow close kind (length body);
        final = ap (λ n. n == 100) good.value ∙ good.final;
      };
      framing = Sized (length body);
      faultless = framing_again status close kind body allow fits.body_fits;
      body = body;
      is_body = (refl, refl);
      is_message = ap forms.Reply (reply_again status close kind body allow (AllPass-from_list_all is_visible kind p.kind) good.value);
    }
  where
    few_fields : (allow : Option (List ℕ)) (close : Bool) (kind : List ℕ) (size : ℕ) → length (allow_fields allow ++ (close_fields close ++ body_fields (Some kind) size)) ≤ 64
    few_fields None true kind size = omega arith
    few_fields None false kind size = omega arith
    few_fields (Some methods) true kind size = omega arith
    few_fields (Some methods) false kind size = omega arith

-- what is printed is that reply
printed : (status : ℕ) (close : Bool) (given : Option (List ℕ)) (body : List ℕ) (allow : Option (List ℕ)) (r : RawReply)
    → r ≡ record { status = status; close = close; content_type = given; body = body } → IsPrintableReply r allow → FitsReader (print_response (reply_head r allow)) r.body
    → HasContentType given → IsMessage Replies (reply_text r allow) (forms.Reply r)
unfolding reply_with
printed status close None body allow r is p fits has = absurd has
printed status close (Some kind) body allow r is p fits has =
    let P : RawReply → Type 0 = λ q. IsMessage Replies (reply_text q allow) (forms.Reply q) in
    subst P (sym is)
    (again status close kind body allow (subst (λ (q : RawReply). IsPrintableReply q allow) is p) (subst (λ (q : RawReply). FitsReader (print_response (reply_head q allow)) q.body) is fits))

pub reply_printed_again : (r : RawReply) (allow : Option (List ℕ)) → IsPrintableReply r allow → FitsReader (print_response (reply_head r allow)) r.body
    → IsMessage Replies (reply_text r allow) (forms.Reply r)
reply_printed_again r allow p fits = printed r.status r.close r.content_type r.body allow r refl p fits p.kind

-- ---- the text

pub all_reply_text : (r : RawReply) (allow : Option (List ℕ)) (a b d e f g : List ℕ) → a ≡ [] ++ status_line r.status → b ≡ a ++ flat_map print_field (allow_fields allow)
    → d ≡ b ++ flat_map print_field (close_fields r.close) → e ≡ d ++ flat_map print_field (body_fields r.content_type (length r.body)) → f ≡ e ++ crlf_bytes → g ≡ f ++ r.body
    → g ≡ reply_text r allow
all_reply_text r allow a b d e f g a_is b_is d_is e_is f_is g_is =
    let allows : List ℕ = flat_map print_field (allow_fields allow) in
    let closes : List ℕ = flat_map print_field (close_fields r.close) in
    let bodies : List ℕ = flat_map print_field (body_fields r.content_type (length r.body)) in
    let fields : flat_map print_field (reply_fields r allow) ≡ allows ++ (closes ++ bodies) =
    flat_map-append print_field (allow_fields allow) (close_fields r.close ++ body_fields r.content_type (length r.body))
    ∙ ap (λ (t : List ℕ). allows ++ t) (flat_map-append print_field (close_fields r.close) (body_fields r.content_type (length r.body))) in
    g_is ∙ ap (λ (t : List ℕ). t ++ r.body) (f_is ∙ ap (λ (t : List ℕ). t ++ crlf_bytes) (e_is ∙ ap (λ (t : List ℕ). t ++ bodies) (d_is ∙ ap (λ (t : List ℕ). t ++ closes) (b_is ∙ ap (λ (t : List ℕ). t ++ allows) a_is))))
    ∙ regroup (print_version 1) (code_digits r.status) (32 ∷ phrase_of r.status) crlf_bytes allows closes bodies r.body
    ∙ ap (λ (t : List ℕ). print_version 1 ++ 32 ∷ (code_digits r.status ++ ((32 ∷ phrase_of r.status) ++ (crlf_bytes ++ ((t ++ crlf_bytes) ++ r.body))))) (sym fields)
    ∙ sym (print_response-append (reply_head r allow) r.body)
  where
    regroup : (v s q c al cl bo body : List ℕ) → ((((([] ++ (v ++ 32 ∷ (s ++ (q ++ c)))) ++ al) ++ cl) ++ bo) ++ c) ++ body
        ≡ v ++ 32 ∷ (s ++ (q ++ (c ++ (((al ++ (cl ++ bo)) ++ c) ++ body))))
    regroup v s q c al cl bo body = simp append_assoc
