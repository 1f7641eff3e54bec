use Rattle.std.proofs.Common.{◌≡◌, ◌∙◌, ◌++◌, sym, ap₂, subst, refl, length, Option, List, ℕ, arith}
use Rattle.std.specs.List.{flat_map}
use Rattle.httparse.specs.Grammar.{print_field}
use Rattle.http_text.specs.Print.{body_fields}
use Rattle.http_messages.specs.Messages.{IsMessage}
use Rattle.http_heads.specs.declared.message.Kind.TheVariants.{Requests}
use Rattle.http_heads.specs.declared.message.Message.TheVariants as forms
use Rattle.http_text.proofs.PrintLemmas.{printed_again, all_text}
use Rattle.http_text.proofs.print.print_request.Goals as goal

pub returns : goal.returns
returns c =
    let size : c.len.result ≡ length c.args.request.now.body = omega arith in
    let text = all_text c.args.request.now c.args.host.now c.push_line.new.text.items c.push_field.new.text.items _ _ _
    (rw (c.in_ok-push_line.ensures, c.new-text.ensures.items, c.as_slice.ensures, c.as_slice-2.ensures) refl)
    (rw (c.in_ok-push_field.ensures, c.as_bytes.ensures.value) refl)
    (c.in_ok-push_body_fields.ensures
    ∙ ap₂ (λ (k : Option (List ℕ)) n. c.push_field.new.text.items ++ flat_map print_field (body_fields k n)) c.slice_of-kind.ensures size)
    c.in_ok-extend_from_slice.ensures.items
    (rw (c.in_ok-extend_from_slice-2.ensures.items, c.as_slice-3.ensures) refl) in
    record {
      text = c.from_vec.ensures ∙ text;
      again = λ fits. subst (λ (t : List ℕ). IsMessage Requests t (forms.Request c.args.request.now)) (sym (c.from_vec.ensures ∙ text)) (printed_again c.args.request.now c.args.host.now c.requires fits);
    }
