use Rattle.std.proofs.Common.{◌≡◌, ◌+◌, ◌-◌, ◌≤◌, List, ℕ, None, length, drop, take, sym, subst, ◌∙◌, ap, arith, true≢false, length-drop}
use Rattle.std.specs.List.{All}
use Rattle.std.proofs.lemmas.Str.Pattern.{rfind_char}
use Rattle.std.proofs.lemmas.Bool.{leb-true}
use Rattle.std.proofs.lemmas.List.{take_all}
use Rattle.command_tables.specs.Addresses.{IsPort, IsVisible}
use Rattle.command_tables.proofs.Addresses.{colon_at, is_address, port_is, no_address}
use Rattle.command_tables.proofs.address.is_address.Goals as goal
use Rattle.command_tables.proofs.address.is_address.Goals.{then-bytes-le-MOST_CHARACTERS, else-bytes-le-MOST_CHARACTERS}

pub returns-in_default : goal.returns-in_default
returns-in_default c =
    let lacks = rfind_char 58 c.args.word.now None c.in_default.ensures.cases (omega arith) in
    ((λ yes. absurd (true≢false (sym yes))), (λ a. absurd (no_address c.args.word.now lacks a)))

pub returns-then-are_visible : goal.returns-then-are_visible
returns-then-are_visible c =
    let word : List ℕ = c.args.word.now in
    let last = colon_at word c.rfind.result c.in-Some.colon c.in-Some.is (rfind_char 58 word c.rfind.result c.rfind.ensures.cases (omega arith)) in
    let bytes : List ℕ = c.as_bytes-bytes.result.now in
    let port : List ℕ = drop (c.in-Some.colon + 1) bytes in
    let whole : take (length bytes - (c.in-Some.colon + 1)) port ≡ port = take_all (length bytes - (c.in-Some.colon + 1)) port (omega (arith, length-drop (c.in-Some.colon + 1) bytes)) in
    let behind : take (length bytes - (c.in-Some.colon + 1)) port ≡ drop (c.in-Some.colon + 1) word = whole ∙ ap (λ (b : List ℕ). drop (c.in-Some.colon + 1) b) c.as_bytes-bytes.ensures.value in
    let fits : (length word ≤ 255) × All IsVisible word =
    elim c.if-bytes-le-MOST_CHARACTERS.branch [
      | then-bytes-le-MOST_CHARACTERS w ↦ (
        omega (arith, w.if-bytes-le-MOST_CHARACTERS.true, ap length c.as_bytes-bytes.ensures.value),
        subst (All IsVisible) c.as_bytes-bytes.ensures.value (w.are_visible.ensures.0 (sym w.value-is ∙ c.if-are_visible.true)),
      )
      | else-bytes-le-MOST_CHARACTERS w ↦ absurd (omega (arith, w.if-bytes-le-MOST_CHARACTERS.false, leb-true (length bytes) 255 (sym w.value-is ∙ c.if-are_visible.true)))
    ] in (
      (λ yes. is_address word c.in-Some.colon last fits.0 fits.1 (subst IsPort behind (c.is_port.ensures.0 yes))),
      (λ a. c.is_port.ensures.1 (subst IsPort (sym behind) (port_is word c.in-Some.colon last a))),
    )
