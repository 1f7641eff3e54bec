-- The texts of ends in JSON, and replies of them as they are said.
use Rattle.std.proofs.Common.{◌≡◌, ℕ, ◌≤◌, ◌∙◌, List, [], ◌∷◌, ◌++◌, ◌==◌, not, true, false, Bool, codes, None, Result, Ok, Err, IfOk, IsErr, refl, sym, subst, ap, append_assoc, arith}
use Rattle.std.specs.Prelude.{nat_le}
use Rattle.std.specs.Fmt.{decimal}
use Rattle.serde_json.specs.Data.{Data}
use Rattle.http_heads.specs.declared.message.RawReply.{RawReply}
use Rattle.http_session.specs.declared.answerer.Said.{Said}
use Rattle.http_session.specs.declared.answerer.Said.TheVariants.{Reply, OutOfMemory}
use Rattle.rpc_answers.specs.Answers.{json}
use Rattle.rpc_answers.specs.Prints.{IsBodyText}
use Rattle.call_replies.specs.Says.{SaysReply}
use Rattle.std.proofs.lemmas.Bool.{and_parts, eqb-false, leb-true, not-true}
use Rattle.json.specs.Print.{escape, escape_byte}
use Rattle.json.proofs.Printed.Strings.{escape_byte_plain}
use Rattle.serde_json.proofs.OnLiterals.{serde_json_on_literals}
use Rattle.serde_json.specs.Written.{compact_text}
use Rattle.http_text.specs.Print.{is_visible}
use Rattle.rpc_answers.specs.Values.{object_of}
use Rattle.call_replies.specs.Ends.{IsEndName, SaysObject, is_name_byte, caught_up_members, end_members}

escaped_byte : (byte : ℕ) → is_name_byte byte ≡ true → escape_byte byte ≡ byte ∷ []
escaped_byte byte is =
    let parts = and_parts (is_visible byte) _ is in
    let low = leb-true 33 byte (and_parts (nat_le 33 byte) _ parts.0).0 in
    let others = and_parts (not (byte == 34)) _ parts.1 in
    escape_byte_plain byte (eqb-false byte 34 (not-true (byte == 34) others.0)) (eqb-false byte 92 (not-true (byte == 92) others.1)) (omega (arith, low))

-- a name is written as it is
escaped_name : (name : List ℕ) → IsEndName name → escape name ≡ name
escaped_name [] is = refl
escaped_name (byte ∷ name) is =
    let parts = and_parts (is_name_byte byte) _ is in
    λ i. escaped_byte byte parts.0 i ++ escaped_name name parts.1 i

pub caught_up_text : (version : ℕ) → compact_text (object_of (caught_up_members version)) ≡ codes "{\"end\":\"CaughtUp\",\"version\":" ++ (decimal version ++ codes "}")
unfolding serde_json_on_literals
caught_up_text version = refl

pub end_text : (name : List ℕ) → IsEndName name → compact_text (object_of (end_members name)) ≡ codes "{\"end\":\"" ++ (name ++ codes "\"}")
unfolding serde_json_on_literals
end_text name is =
    ap (λ (l : List ℕ). codes "{\"end\":\"" ++ l) (append_assoc (escape name) (34 ∷ []) (125 ∷ []) ∙ ap (λ (l : List ℕ). l ++ codes "\"}") (escaped_name name is))

-- ---- what is said of a reply that was made, or that memory was wanting for

pub says_made : {E : Type 0} (of : Bool → RawReply) (made : Result RawReply E) (said : Said) → (of false).close ≡ false → IfOk made (λ reply. reply ≡ of false)
    → IfOk made (λ reply. said ≡ Reply reply None) → (IsErr made → said ≡ OutOfMemory) → SaysReply of said
says_made of (Ok reply) said stays is says want = subst (λ (s : Said). SaysReply of s) (sym says) (is ∙ ap of (sym (ap (λ (r : RawReply). r.close) is ∙ stays)), refl)
says_made of (Err e) said stays is says want = subst (λ (s : Said). SaysReply of s) (sym (want refl)) tt

pub object_made : {E : Type 0} (members : List (List ℕ × Data)) (made : Result RawReply E) (said : Said) → IfOk made (λ reply. IsBodyText reply.body (json (object_of members)))
    → IfOk made (λ reply. said ≡ Reply reply None) → (IsErr made → said ≡ OutOfMemory) → SaysObject members said
object_made members (Ok reply) said reads says want = subst (λ (s : Said). SaysObject members s) (sym says) reads
object_made members (Err e) said reads says want = subst (λ (s : Said). SaysObject members s) (sym (want refl)) tt
