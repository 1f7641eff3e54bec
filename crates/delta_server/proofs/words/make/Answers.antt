use Rattle.std.proofs.Common.{◌≡◌, ◌∷◌, [], sym, subst, ◌∙◌, arith}
use Rattle.std.specs.Prelude.{Some, codes, string_bytes}
use Rattle.std.specs.Fmt.{decimal}
use Rattle.command_tables.specs.Positions.{IsPlainWord}
use Rattle.command_tables.specs.Addresses.{IsAddress}
use Rattle.command_tables.specs.Names.{IsNumberIn}
use Rattle.delta_server.proofs.Asking.{four_words}
use Rattle.delta_server.proofs.words.make.Goals as goal

pub returns-in_ok-from_str-in-Some-clause-asks : goal.returns-in_ok-from_str-in-Some-clause-asks
returns-in_ok-from_str-in-Some-clause-asks c =
    let four = four_words c.args.words.now c.dir-item.result c.address-item.result c.workers-item.result
    (omega (arith, c.in-len4.len_at_least, c.in-len4.len_below)) c.dir-item.is c.address-item.is c.workers-item.is c.requires in
    let dir : c.in_ok-from_str-in-Some.field-0 ≡ string_bytes c.dir-item.result = c.in_ok-from_str-in-Some.ensures ∙ c.as_str-in-Some.ensures.value in
    let number : IsNumberIn 1 16 c.as_str-2.result.now (Some c.in-Some.workers) = subst (IsNumberIn 1 16 c.as_str-2.result.now) c.in-Some.is c.in_ok-workers.ensures in
    let address : c.as_str.result.now ≡ string_bytes c.address-item.result = c.as_str.ensures.value in
    let text : string_bytes c.workers-item.result ≡ decimal c.in-Some.workers = sym c.as_str-2.ensures.value ∙ number.2 in (
      string_bytes c.address-item.result,
      (
        four.words_are ∙ (λ i. codes "serve" ∷ sym dir i ∷ string_bytes c.address-item.result ∷ text i ∷ []),
        subst IsPlainWord (sym dir) four.plain_dir,
        four.plain_address,
        subst IsAddress address (c.is_address.ensures.0 c.if-not-is_address.false),
        number.0,
        number.1,
      ),
    )
