use Rattle.std.proofs.Common.{◌≡◌, ◌∙◌, ◌++◌, sym, ap, ap₂, subst, refl, take, drop, length, append_assoc, Option, List, ℕ, arith, rules}
use Rattle.std.specs.List.{flat_map}
use Rattle.std.specs.Option.{option_copied}
use Rattle.std.proofs.lemmas.List.{take-append-drop}
use Rattle.httparse.specs.Grammar.{print_field}
use Rattle.http_text.specs.Print.{allow_fields, body_fields, reply_text}
use Rattle.http_messages.specs.Messages.{IsMessage}
use Rattle.http_heads.specs.declared.message.Kind.TheVariants.{Replies}
use Rattle.http_heads.specs.declared.message.Message.TheVariants as forms
use Rattle.http_text.proofs.ReplyLemmas.{reply_printed_again, all_reply_text}
use Rattle.http_text.proofs.print.print_reply.Goals as goal

pub returns : goal.returns
returns c =
    let status : c.unwrap-status.result ≡ c.args.reply.now.status = search rules in
    let body : List ℕ = c.args.reply.now.body in
    let slice : c.as_slice-body.result.now ≡ body = c.as_slice-body.ensures in
    let head : List ℕ = c.extend_from_slice.new.self.items in
    let whole = all_reply_text c.args.reply.now (option_copied c.args.allow) c.push_status_line.new.text.items c.push_allow.new.text.items c.push_close.new.text.items
    c.push_body_fields.new.text.items head (head ++ body)
    (rw (c.in_ok-push_status_line.ensures, c.in_ok-text.ensures.items, status) refl)
    (c.in_ok-push_allow.ensures ∙ ap (λ (m : Option (List ℕ)). c.push_status_line.new.text.items ++ flat_map print_field (allow_fields m)) c.bytes_of-methods.ensures)
    c.in_ok-push_close.ensures
    (c.in_ok-push_body_fields.ensures
    ∙ ap₂ (λ (k : Option (List ℕ)) n. c.push_close.new.text.items ++ flat_map print_field (body_fields k n)) c.slice_of-kind.ensures (ap length slice))
    c.in_ok-extend_from_slice.ensures.items
    refl in
    let text : c.from_vec.result ++ drop c.min-of_body.result body ≡ reply_text c.args.reply.now (option_copied c.args.allow) =
    ap (λ (t : List ℕ). t ++ drop c.min-of_body.result body) (c.from_vec.ensures ∙ c.in_ok-extend_from_slice-2.ensures.items ∙ ap (λ (b : List ℕ). head ++ take c.min-of_body.result b) slice)
    ∙ append_assoc head (take c.min-of_body.result body) (drop c.min-of_body.result body)
    ∙ ap (λ (t : List ℕ). head ++ t) (take-append-drop c.min-of_body.result body)
    ∙ whole in
    record {
      text = text;
      within = omega (arith, ap length slice);
      again = λ fits. subst (λ (t : List ℕ). IsMessage Replies t (forms.Reply c.args.reply.now)) (sym text)
          (reply_printed_again c.args.reply.now (option_copied c.args.allow) c.requires fits);
    }
