-- A step in a body over the front of a piece is one over the piece.
use Rattle.std.proofs.Common.{◌≡◌, ℕ, ◌≤◌, List, ◌++◌, length, take, drop, None, Some, Option, Result, Ok, Err, sym, ap, ◌∙◌, subst, arith, append_assoc}
use Rattle.std.proofs.lemmas.List.{take-append-le, take-append-drop, length-take-le}
use Rattle.http_messages.specs.Messages.{IsBody}
use Rattle.http_messages.specs.Stages.{HoldsPart, PartStepIs, TellsBodyFault}
use Rattle.http_heads.specs.declared.framing.FrameFault.{FrameFault}
use Rattle.http_heads.specs.declared.framing.FrameFault.TheVariants as faults
use Rattle.http_heads.specs.declared.framing.Framing.{Framing}
use Rattle.http_messages.specs.declared.stage.BodyPart.{BodyPart}
use Rattle.http_messages.proofs.GrowLemmas.{body_fault_grows}

tells_grows : (framing : Framing) (behind more : List ℕ) (fault : FrameFault) → TellsBodyFault framing behind fault → TellsBodyFault framing (behind ++ more) fault
tells_grows framing behind more faults.OutOfMemory tells = tt
tells_grows framing behind more faults.BadHead tells = body_fault_grows framing behind more faults.BadHead tells
tells_grows framing behind more faults.TooManyFields tells = body_fault_grows framing behind more faults.TooManyFields tells
tells_grows framing behind more faults.HeadTooLong tells = body_fault_grows framing behind more faults.HeadTooLong tells
tells_grows framing behind more faults.BadHost tells = body_fault_grows framing behind more faults.BadHost tells
tells_grows framing behind more faults.TwoLengths tells = body_fault_grows framing behind more faults.TwoLengths tells
tells_grows framing behind more faults.BadLength tells = body_fault_grows framing behind more faults.BadLength tells
tells_grows framing behind more (faults.BodyTooLong size limit) tells = body_fault_grows framing behind more (faults.BodyTooLong size limit) tells
tells_grows framing behind more faults.BadChunk tells = body_fault_grows framing behind more faults.BadChunk tells

module _ (framing : Framing) (behind piece body pending : List ℕ) (end : ℕ) (within : end ≤ length piece) where
  front_used : (used : ℕ) → used ≤ length (take end piece) → take used (take end piece) ≡ take used piece
  front_used used fits = sym (take-append-le used (take end piece) (drop end piece) fits) ∙ ap (take used) (take-append-drop end piece)

  front_fits : (used : ℕ) → used ≤ length (take end piece) → used ≤ length piece
  front_fits used fits = let long = length-take-le end piece within in omega arith

  pub part_lifts : (r : Result (ℕ × Option BodyPart) FrameFault) → PartStepIs framing behind (take end piece) body pending r → PartStepIs framing behind piece body pending r
  part_lifts (Ok (used, None)) (some, is, empty) =
      ((some.0, front_fits used some.1), subst (λ (t : List ℕ). IsBody framing (behind ++ t) body) (front_used used some.1) is, empty)
  part_lifts (Ok (used, Some part)) (some, holds) =
      ((some.0, front_fits used some.1), subst (λ (t : List ℕ). HoldsPart part body pending framing (behind ++ t)) (front_used used some.1) holds)
  part_lifts (Err fault) tells =
      let whole : (behind ++ take end piece) ++ drop end piece ≡ behind ++ piece = append_assoc behind (take end piece) (drop end piece) ∙ ap (λ (t : List ℕ). behind ++ t) (take-append-drop end piece) in
      subst (λ (t : List ℕ). TellsBodyFault framing t fault) whole (tells_grows framing (behind ++ take end piece) (drop end piece) fault tells)
