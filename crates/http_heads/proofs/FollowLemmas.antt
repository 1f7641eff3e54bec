-- Facts about a head that is followed byte by byte.
use Rattle.std.proofs.Common.{◌≡◌, ℕ, true, false, ◌&&◌, List, [], ◌∷◌, ◌++◌, refl, sym, ap, ◌∙◌, subst, arith, append_assoc, length-append}
use Rattle.std.specs.Prelude.{IsTrue}
use Rattle.std.proofs.lemmas.List.{flat_map_more}
use Rattle.std.proofs.lemmas.List.Elements.{All-nil, All-cons, All-append}
use Rattle.std.specs.List.{flat_map}
use Rattle.httparse.specs.Grammar.{LineEnd, crlf, lf, print_end, print_blank, print_version, IsToken, is_token, is_token_byte, is_value_byte, Field, IsField, print_field, print_section}
use Rattle.http_heads.specs.Heads.{ReadsHead, EndsInTarget, goes_on}
use Rattle.http_heads.specs.Follow.{Follows, TakesFields, IsInValue}
use Rattle.http_heads.specs.declared.message.Kind.{Kind}
use Rattle.http_heads.specs.declared.message.Kind.TheVariants.{Requests, Replies}
use Rattle.http_heads.specs.declared.progress.HeadProgress.TheVariants as at

-- a byte of a token
pub token_byte : (byte : ℕ) → is_token (byte ∷ []) ≡ is_token_byte byte
token_byte byte = elim (is_token_byte byte) as (λ b. (b && true) ≡ b) [ true ↦ refl | false ↦ refl ]

-- ---- one byte more

-- a byte joins a list at its end
joined : (front middle : List ℕ) (byte : ℕ) → (front ++ middle) ++ byte ∷ [] ≡ front ++ (middle ++ byte ∷ [])
joined front middle byte = append_assoc front middle (byte ∷ [])

token_more : (word : List ℕ) (byte : ℕ) → IsToken word → is_token_byte byte ≡ true → IsToken (word ++ byte ∷ [])
token_more word byte token is =
    let P : ℕ → Type 0 = λ b. IsTrue (is_token_byte b) in
    let long = length-append word (byte ∷ []) in
    let some = token.0 in
    (omega arith, All-append P word (byte ∷ []) token.1 (All-cons P byte [] is (All-nil P)))

token_one : (byte : ℕ) → is_token_byte byte ≡ true → IsToken (byte ∷ [])
token_one byte is = let P : ℕ → Type 0 = λ b. IsTrue (is_token_byte b) in (omega arith, All-cons P byte [] is (All-nil P))

blank_more : (text : List ℕ) (blank : List LineEnd) (end : LineEnd) (more : List ℕ) → text ≡ print_blank blank ++ more → more ≡ print_end end → text ≡ print_blank (blank ++ end ∷ [])
blank_more text blank end more is more_is = is ∙ ap (λ (t : List ℕ). print_blank blank ++ t) more_is ∙ flat_map_more print_end [] blank end

module _ (kind : Kind) (text : List ℕ) (byte : ℕ) where
  pub blank_lf : byte ≡ 10 → Follows kind text at.Blank → Follows kind (text ++ byte ∷ []) at.Blank
  blank_lf is (blank, text_is) = (blank ++ lf ∷ [], blank_more (text ++ byte ∷ []) blank lf (byte ∷ []) (ap (λ (t : List ℕ). t ++ byte ∷ []) text_is) (ap (λ b. b ∷ []) is))

  pub blank_cr : byte ≡ 13 → Follows kind text at.Blank → Follows kind (text ++ byte ∷ []) at.BlankEnd
  blank_cr is (blank, text_is) = (blank, ap (λ (t : List ℕ). t ++ byte ∷ []) text_is ∙ ap (λ b. print_blank blank ++ b ∷ []) is)

  pub blank_crlf : byte ≡ 10 → Follows kind text at.BlankEnd → Follows kind (text ++ byte ∷ []) at.Blank
  blank_crlf is (blank, text_is) = (
    blank ++ crlf ∷ [],
    blank_more (text ++ byte ∷ []) blank crlf (13 ∷ byte ∷ []) (ap (λ (t : List ℕ). t ++ byte ∷ []) text_is ∙ joined (print_blank blank) (13 ∷ []) byte) (ap (λ b. 13 ∷ b ∷ []) is),
  )

  pub blank_method : kind ≡ Requests → is_token_byte byte ≡ true → Follows kind text at.Blank → Follows kind (text ++ byte ∷ []) at.Method
  blank_method same is (blank, text_is) = (same, (blank, byte ∷ [], token_one byte is, ap (λ (t : List ℕ). t ++ byte ∷ []) text_is))

  pub method_more : is_token_byte byte ≡ true → Follows kind text at.Method → Follows kind (text ++ byte ∷ []) at.Method
  method_more is (same, (blank, method, token, text_is)) =
      (same, (blank, method ++ byte ∷ [], token_more method byte token is, ap (λ (t : List ℕ). t ++ byte ∷ []) text_is ∙ joined (print_blank blank) method byte))

  pub method_target : byte ≡ 32 → Follows kind text at.Method → Follows kind (text ++ byte ∷ []) at.Target
  method_target is (same, (blank, method, token, text_is)) =
      subst (λ (k : Kind). EndsInTarget k (text ++ byte ∷ [])) (sym same) (
        blank,
        method,
        [],
        token,
        All-nil _,
        ap (λ (t : List ℕ). t ++ byte ∷ []) text_is ∙ ap (λ b. (print_blank blank ++ method) ++ b ∷ []) is,
      )

  target_of_request : goes_on byte ≡ true → EndsInTarget Requests text → EndsInTarget Requests (text ++ byte ∷ [])
  target_of_request is (blank, method, target, token, passes, text_is) =
      let P : ℕ → Type 0 = λ b. IsTrue (goes_on b) in (
        blank,
        method,
        target ++ byte ∷ [],
        token,
        All-append P target (byte ∷ []) passes (All-cons P byte [] is (All-nil P)),
        ap (λ (t : List ℕ). t ++ byte ∷ []) text_is ∙ joined (print_blank blank ++ method) (32 ∷ target) byte,
      )

  pub reason_more : is_value_byte byte ≡ true → Follows kind text at.Reason → Follows kind (text ++ byte ∷ []) at.Reason
  reason_more is (same, (blank, line, (minor, digits, phrase, version, three, are_digits, passes, line_is), text_is)) =
      let P : ℕ → Type 0 = λ b. IsTrue (is_value_byte b) in (
        same,
        (
          blank,
          line ++ byte ∷ [],
          (
            minor,
            digits,
            phrase ++ byte ∷ [],
            version,
            three,
            are_digits,
            All-append P phrase (byte ∷ []) passes (All-cons P byte [] is (All-nil P)),
            ap (λ (t : List ℕ). t ++ byte ∷ []) line_is ∙ joined (print_version minor) (32 ∷ (digits ++ 32 ∷ phrase)) byte
                ∙ ap (λ (t : List ℕ). print_version minor ++ 32 ∷ t) (joined digits (32 ∷ phrase) byte),
          ),
          ap (λ (t : List ℕ). t ++ byte ∷ []) text_is ∙ joined (print_blank blank) line byte,
        ),
      )

  pub line_name : is_token_byte byte ≡ true → Follows kind text at.Line → Follows kind (text ++ byte ∷ []) at.Name
  line_name is takes = (text, byte ∷ [], takes, token_one byte is, refl)

  pub name_more : is_token_byte byte ≡ true → Follows kind text at.Name → Follows kind (text ++ byte ∷ []) at.Name
  name_more is (lines, name, takes, token, text_is) =
      (lines, name ++ byte ∷ [], takes, token_more name byte token is, ap (λ (t : List ℕ). t ++ byte ∷ []) text_is ∙ joined lines name byte)

  pub name_value : byte ≡ 58 → Follows kind text at.Name → Follows kind (text ++ byte ∷ []) at.Value
  name_value is (lines, name, takes, token, text_is) = (
    lines,
    name,
    [],
    takes,
    token,
    All-nil _,
    ap (λ (t : List ℕ). t ++ byte ∷ []) text_is ∙ joined lines name byte ∙ ap (λ b. lines ++ (name ++ b ∷ [])) is,
  )

  value_text : (lines name raw : List ℕ) → text ≡ lines ++ (name ++ 58 ∷ raw) → text ++ byte ∷ [] ≡ lines ++ (name ++ 58 ∷ (raw ++ byte ∷ []))
  value_text lines name raw text_is =
      ap (λ (t : List ℕ). t ++ byte ∷ []) text_is ∙ joined lines (name ++ 58 ∷ raw) byte ∙ ap (λ (t : List ℕ). lines ++ t) (joined name (58 ∷ raw) byte)

  pub value_more : is_value_byte byte ≡ true → Follows kind text at.Value → Follows kind (text ++ byte ∷ []) at.Value
  value_more is (lines, name, raw, takes, token, passes, text_is) =
      let P : ℕ → Type 0 = λ b. IsTrue (is_value_byte b) in
      (lines, name, raw ++ byte ∷ [], takes, token, All-append P raw (byte ∷ []) passes (All-cons P byte [] is (All-nil P)), value_text lines name raw text_is)

  pub value_cr : byte ≡ 13 → Follows kind text at.Value → Follows kind (text ++ byte ∷ []) at.ValueEnd
  value_cr is value = (text, value, ap (λ b. text ++ b ∷ []) is)

-- a field behind the lines makes one more line
field_line : (kind : Kind) (lines : List ℕ) (field : Field) (text : List ℕ) → TakesFields kind lines → IsField field → text ≡ lines ++ print_field field → TakesFields kind text
field_line kind lines field text takes is_field is = λ fields last all.
    let made = takes (field ∷ fields) last (All-cons IsField field fields is_field all) in
    let same : lines ++ print_section (field ∷ fields) last ≡ text ++ print_section fields last =
    ap (λ (t : List ℕ). lines ++ t) (append_assoc (print_field field) (flat_map print_field fields) (print_end last)) ∙ sym (append_assoc lines (print_field field) (print_section fields last))
    ∙ ap (λ (t : List ℕ). t ++ print_section fields last) (sym is) in
    (made.0, subst (λ (t : List ℕ). ReadsHead kind t made.0 []) same made.1)

pub value_line : (kind : Kind) (text : List ℕ) (end : LineEnd) → IsInValue kind text → TakesFields kind (text ++ print_end end)
value_line kind text end (lines, name, raw, takes, token, passes, text_is) =
    field_line kind lines (record { name = name; raw = raw; end = end }) (text ++ print_end end) takes (record { name = token; raw = passes })
    (ap (λ (t : List ℕ). t ++ print_end end) text_is ∙ append_assoc lines (name ++ 58 ∷ raw) (print_end end))

module _ (kind : Kind) (text : List ℕ) (byte : ℕ) (is : byte ≡ 10) where
  pub value_lf : Follows kind text at.Value → Follows kind (text ++ byte ∷ []) at.Line
  value_lf value = subst (λ b. TakesFields kind (text ++ b ∷ [])) (sym is) (value_line kind text lf value)

  pub value_crlf : Follows kind text at.ValueEnd → Follows kind (text ++ byte ∷ []) at.Line
  value_crlf (value, in_value, text_is) =
      let same : value ++ print_end crlf ≡ text ++ byte ∷ [] =
      sym (append_assoc value (13 ∷ []) (10 ∷ [])) ∙ ap (λ (t : List ℕ). t ++ 10 ∷ []) (sym text_is) ∙ ap (λ b. text ++ b ∷ []) (sym is) in
      subst (TakesFields kind) same (value_line kind value crlf in_value)

pub target_more : (kind : Kind) (text : List ℕ) (byte : ℕ) → goes_on byte ≡ true → Follows kind text at.Target → Follows kind (text ++ byte ∷ []) at.Target
target_more Requests text byte is ends = target_of_request Requests text byte is ends
target_more Replies text byte is ends = ends
