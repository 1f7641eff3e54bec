-- Each status that a server answers with is that of an answer in JSON.
use Rattle.std.proofs.Common.{◌≡◌, ◌∙◌, ℕ, ◌==◌, ◌||◌, List, [], ◌∷◌, Bool, true, false, true≢false, Some, codes, refl, ap, sym, subst, arith}
use Rattle.std.specs.List.{list_any}
use Rattle.std.proofs.lemmas.Bool.{eqb-true}
use Rattle.http_text.specs.Print.{statuses}
use Rattle.log_base.specs.declared.limits.FullKind.TheVariants.{Patches}
use Rattle.http_heads.specs.declared.message.RawReply.{RawReply}
use Rattle.rpc_answers.specs.declared.answer.Answer.{Answer}
use Rattle.rpc_answers.specs.declared.answer.Answer.TheVariants as answer
use Rattle.rpc_answers.specs.Answers.{status_of, body_of, media_type, CanStand}
use Rattle.rpc_answers.specs.Parts.{is_listed}
use Rattle.rpc_answers.specs.Prints.{HasHead}

abbrev Each : (ℕ → Type 0) → List ℕ → Type 0
Each P [] = Unit {0}
Each P (x ∷ xs) = P x × Each P xs

each_any : (P : ℕ → Type 0) (xs : List ℕ) → Each P xs → (status : ℕ) → list_any (λ x. x == status) xs ≡ true → P status
each_any P [] each status any = absurd (true≢false (sym any))
each_any P (x ∷ xs) each status any = step (x == status) refl (each_any P xs each.1 status) any
  where
    step : (b : Bool) → (x == status) ≡ b → (list_any (λ x. x == status) xs ≡ true → P status) → (b || list_any (λ x. x == status) xs) ≡ true → P status
    step true is more any = subst P (eqb-true x status is) each.0
    step false is more any = more any

abbrev HasStatus : ℕ → Type 0
HasStatus status = (a : Answer) × CanStand a × (status ≡ status_of a) × (media_type (body_of a) ≡ codes "application/json")

witness : (a : Answer) → CanStand a → media_type (body_of a) ≡ codes "application/json" → HasStatus (status_of a)
witness a fits media = (a, fits, refl, media)

listed_status : (status : ℕ) → is_listed status ≡ true → HasStatus status
listed_status status listed = each_any HasStatus statuses (
  witness answer.Pong tt refl,
  (
    witness answer.BadJson tt refl,
    (
      witness answer.NoRoute tt refl,
      (
        witness answer.BadMethod tt refl,
        (
          witness (answer.NameTaken (record { 0 = 0 })) (omega arith) refl,
          (
            witness (answer.BadRequest (codes "BodyTooLong")) refl refl,
            (
              witness answer.Media tt refl,
              (
                witness (answer.BadRequest (codes "HeadTooLong")) refl refl,
                (
                  witness answer.DiskFault tt refl,
                  (
                    witness answer.OutOfMemory tt refl,
                    (witness (answer.Full Patches 0 0) (omega arith, omega arith) refl, tt),
                  ),
                ),
              ),
            ),
          ),
        ),
      ),
    ),
  ),
) status listed

-- a reply in JSON with such a status has the head of an answer
pub json_head : (reply : RawReply) → reply.content_type ≡ Some (codes "application/json") → is_listed reply.status ≡ true → HasHead reply
json_head reply media listed =
    let has = listed_status reply.status listed in
    (has.0, has.1, has.2, media ∙ ap (λ (m : List ℕ). Some m) (sym has.3))
