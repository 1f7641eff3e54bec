-- The members of an object, in their order.
use Rattle.std.proofs.Common.{◌≡◌, ◌∙◌, sym, subst, List, ℕ, Some, None, Err}
use Rattle.serde_json.specs.Data.{Data}
use Rattle.rpc_calls.specs.Operations.{text_member}
use Rattle.rpc_calls.specs.Outcomes.{IsWrong, TellsMethods}
use Rattle.rpc_calls.specs.declared.call.CallFault.{CallFault}
use Rattle.rpc_calls.specs.declared.call.CallFault.TheVariants as fault
use Rattle.zone_session.specs.Matching.{LacksWord, ReadsMatch, TellsLack}
use Rattle.zone_session.specs.Matching.{IsFirstWrong}

pub lack_methods : (why : CallFault) (name : List ℕ) (Lacks : Type 0) → TellsLack why name Lacks → TellsMethods why
lack_methods fault.NoRoute name Lacks is = tt
lack_methods (fault.BadMethod methods) name Lacks is = absurd is
lack_methods fault.Media name Lacks is = tt
lack_methods fault.BadJson name Lacks is = tt
lack_methods (fault.BadCall wrong) name Lacks is = tt
lack_methods fault.OutOfMemory name Lacks is = tt

-- a member that is wrong is the first one
pub first_wrong : (value : Data) (why : CallFault) (name : List ℕ) (Lacks : Type 0) → (Lacks → IsFirstWrong value name) → TellsLack why name Lacks → ReadsMatch value (Err why)
first_wrong value fault.NoRoute name Lacks first is = is
first_wrong value (fault.BadMethod methods) name Lacks first is = is
first_wrong value fault.Media name Lacks first is = is
first_wrong value fault.BadJson name Lacks first is = is
first_wrong value (fault.BadCall wrong) name Lacks first is = subst (IsFirstWrong value) (sym is.0) (first is.1)
first_wrong value fault.OutOfMemory name Lacks first is = tt

module _ {A : Type 0} (value : Data) (IsWord : List ℕ → A → Type 0) (name : List ℕ) where
  -- a member that is no string has no word
  pub no_text : (why : CallFault) → IsWrong why name (text_member name value) → TellsLack why name (LacksWord value IsWord name)
  no_text fault.NoRoute is = is
  no_text (fault.BadMethod methods) is = is
  no_text fault.Media is = is
  no_text fault.BadJson is = is
  no_text (fault.BadCall wrong) is = (is.0, λ part has. let same : Some has.0 ≡ None = sym has.1 ∙ is.1 in absurd (cc))
  no_text fault.OutOfMemory is = tt

  -- nor has one whose string is none
  pub no_word : (text : List ℕ) → text_member name value ≡ Some text → ((part : A) → IsWord text part → ⊥) → LacksWord value IsWord name
  no_word text is none part has =
      let same : Some has.0 ≡ Some text = sym has.1 ∙ is in
      let word : has.0 ≡ text = cc in
      none part (subst (λ (w : List ℕ). IsWord w part) word has.2)
