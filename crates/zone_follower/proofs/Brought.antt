-- What following brings into the zone.
use Rattle.std.proofs.Common.{◌≡◌, ◌≢◌, ◌⊎◌, inl, inr, ℕ, List, [], ◌∷◌, ◌++◌, length, append_assoc, Result, Ok, refl, sym, ◌∙◌, ap, subst}
use Rattle.std.proofs.lemmas.List.{append-nil}
use Rattle.disk_model.specs.declared.disk.Disk.{Ghosts}
use Rattle.checkpoint_text.specs.Brief.{Brief}
use Rattle.log_base.specs.declared.limits.LogLimits.{LogLimits}
use Rattle.chain_core.specs.declared.chain.Patch.{Patch}
use Rattle.patch_log.specs.Log.{bare}
use Rattle.patch_meaning.specs.Checked.{CheckedPatch}
use Rattle.patch_meaning.specs.Patch.{IsPatch}
use Rattle.delta_client.specs.Exchanges.{WasSaid}
use Rattle.rpc_answers.specs.declared.answer.Answer.TheVariants as answer
use Rattle.zone_state.specs.declared.answer.TakeAnswer.{TakeAnswer}
use Rattle.zone_state.specs.declared.answer.TakeAnswer.TheVariants as take
use Rattle.turn_cell.specs.declared.view.Known.{Known}
use Rattle.turn_cell.specs.Knowing.{Brought, KnowsItsOwn, IsQuiet, SeesOn, pass_number, seen_of, mine_of, failed_of}
use Rattle.turn_cell.specs.Turns.{AllOf, IsIn, places_by}
use Rattle.turn_cell.proofs.Views.{all_append, all_map}
use Rattle.shared_zone.specs.declared.answers.Stayed.{Stayed}
use Rattle.shared_zone.specs.declared.answers.Stayed.TheVariants.{Ahead, Asked}
use Rattle.shared_zone.specs.History.{SharedZone, ZoneSight, taken_entry}
use Rattle.shared_zone.specs.Legal.{IsTakenSo, LegalStay}
use Rattle.catch_up.specs.Runs.{Run, said_in}
use Rattle.follower.specs.declared.ends.SyncEnd.{SyncEnd}
use Rattle.follower.specs.declared.ends.TextRefusal.{TextRefusal}
use Rattle.follower.specs.Grown.{IsText}
use Rattle.zone_follower.specs.Following.{ComesToText, Followed, ShowsZone, unasked, stayed_with}
use Rattle.zone_follower.specs.Bringing.{BringsRead, WasRead, WasReadBare}
use Rattle.zone_follower.proofs.Running.{began}
use Rattle.zone_follower.proofs.Staying.{shown_on}
use Rattle.zone_follower.proofs.Others.{IsOther, others_behind, others_before}

module _ (said : List WasSaid) where
  abbrev OtherOrRead : ℕ → Known CheckedPatch → Type 0
  OtherOrRead n known = (known.by ≢ n) ⊎ WasRead said known.content

  brings_none : (p q : ZoneSight) → q ≡ p → BringsRead said p q
  brings_none p q same = subst (λ (it : ZoneSight). BringsRead said p it) (sym same) (record { behind = []; sees = sym (append-nil (seen_of p)); brought = tt; left = []; failed = sym (append-nil (failed_of p)); doubted = tt })

  brings_both : (p m q : ZoneSight) → pass_number m ≡ pass_number p → BringsRead said p m → BringsRead said m q → BringsRead said p q
  brings_both p m q number first second = record {
    behind = first.behind ++ second.behind;
    sees = second.sees ∙ (ap (λ (l : List (Known CheckedPatch)). l ++ second.behind) first.sees ∙ append_assoc (seen_of p) first.behind second.behind);
    brought = all_append (OtherOrRead (pass_number p)) first.behind second.behind first.brought (subst (λ (n : ℕ). AllOf (OtherOrRead n) second.behind) number second.brought);
    left = first.left ++ second.left;
    failed = second.failed ∙ (ap (λ (l : List Patch). l ++ second.left) first.failed ∙ append_assoc (failed_of p) first.left second.left);
    doubted = all_append (WasReadBare said) first.left second.left first.doubted second.doubted;
  }

  -- the entries that came while its own stayed the same
  came_of_others : (p q : ZoneSight) → KnowsItsOwn p → (on : SeesOn p q) → mine_of q ≡ mine_of p → AllOf (OtherOrRead (pass_number p)) on.2.0
  came_of_others p q own on mine =
      let n = pass_number p in
      let behind : List (Known CheckedPatch) = on.2.0 in
      let places : places_by n (seen_of p ++ behind) ≡ places_by n (seen_of p) =
      (λ i. places_by (sym on.0.2 i) (on.2.1 i)) ∙ (on.3 ∙ (mine ∙ sym own)) in
      all_map (IsOther n) (OtherOrRead n) (λ known is. inl is) behind (others_behind n (seen_of p) behind places)

  quiet_brings : (p q : ZoneSight) → KnowsItsOwn p → SeesOn p q → IsQuiet p q → BringsRead said p q
  quiet_brings p q own on quiet = record {
    behind = on.2.0;
    sees = sym on.2.1;
    brought = came_of_others p q own on quiet.0;
    left = [];
    failed = quiet.2 ∙ sym (append-nil (failed_of p));
    doubted = tt;
  }

  taken_brings : (p q : ZoneSight) (patch : CheckedPatch) (place : ℕ) → KnowsItsOwn p → SeesOn p q → Brought patch place p q → WasRead said patch → BringsRead said p q
  taken_brings p q patch place own on b read =
      let n = pass_number p in
      let others : List (Known CheckedPatch) = b.had_seen.0 in
      let last : Known CheckedPatch = taken_entry patch n in
      let sees : seen_of q ≡ (seen_of p ++ others) ++ last ∷ [] = b.sees ∙ ap (λ (l : List (Known CheckedPatch)). l ++ last ∷ []) (sym b.had_seen.1) in
      let places : places_by n ((seen_of p ++ others) ++ last ∷ []) ≡ mine_of p ++ place ∷ [] =
      (λ i. places_by (sym on.0.2 i) (sym sees i)) ∙ (on.3 ∙ b.mine) in
      record {
        behind = others ++ last ∷ [];
        sees = sees ∙ append_assoc (seen_of p) others (last ∷ []);
        brought = all_append (OtherOrRead n) others (last ∷ [])
            (all_map (IsOther n) (OtherOrRead n) (λ known is. inl is) others (others_before n (seen_of p) others last (mine_of p) place refl own places))
            (inr read, tt);
        left = [];
        failed = b.failed ∙ sym (append-nil (failed_of p));
        doubted = tt;
      }

  doubt_brings : (p q : ZoneSight) (patch : CheckedPatch) → KnowsItsOwn p → SeesOn p q → mine_of q ≡ mine_of p → (failed_of q ≡ failed_of p) ⊎ (failed_of q ≡ failed_of p ++ bare patch ∷ []) → WasRead said patch → BringsRead said p q
  doubt_brings p q patch own on mine (inl none) read =
      record { behind = on.2.0; sees = sym on.2.1; brought = came_of_others p q own on mine; left = []; failed = none ∙ sym (append-nil (failed_of p)); doubted = tt }
  doubt_brings p q patch own on mine (inr one) read =
      record { behind = on.2.0; sees = sym on.2.1; brought = came_of_others p q own on mine; left = bare patch ∷ []; failed = one; doubted = ((patch, read, refl), tt) }

  module _ (base : Brief) (limits : LogLimits) (patch : CheckedPatch) (read : WasRead said patch) (p q : ZoneSight) (own : KnowsItsOwn p) (on : SeesOn p q) where
    answered_brings : (had : ℕ) (told : TakeAnswer) → IsTakenSo base limits patch had told p q → BringsRead said p q
    answered_brings had (take.Applied version) taken = taken_brings p q patch (length (seen_of q)) own on taken.0 read
    answered_brings had (take.Diverged have prev) taken = quiet_brings p q own on taken.2
    answered_brings had (take.Repeated version) taken = quiet_brings p q own on taken.2
    answered_brings had (take.Full what have limit) taken = quiet_brings p q own on taken.2
    answered_brings had take.TermsFull taken = quiet_brings p q own on taken.2
    answered_brings had take.OutOfMemory taken = quiet_brings p q own on taken.2
    answered_brings had take.DiskFault taken = doubt_brings p q patch own on taken.3 taken.4 read

  stay_brings : (base : Brief) (limits : LogLimits) (patch : CheckedPatch) (version : ℕ) (stayed : Stayed) (p q : ZoneSight) → WasRead said patch → KnowsItsOwn p → LegalStay base limits patch version p stayed q → BringsRead said p q
  stay_brings base limits patch version (Ahead found) p q read own legal = quiet_brings p q own legal.0 legal.1.2
  stay_brings base limits patch version (Asked had told) p q read own legal = answered_brings base limits patch read p q own legal.0 had told legal.1.1

  read_from : (text : List ℕ) → IsIn (Ok (answer.Patch text)) said → (patch : CheckedPatch) → IsText text patch → WasRead said patch
  read_from text is patch is_text = record {
    was_said = subst (λ (t : List ℕ). IsIn (Ok (answer.Patch t)) said) (sym is_text.0) is;
    is_patch = subst (λ (t : List ℕ). IsPatch t patch.meaning) (sym is_text.0) is_text.1;
  }

  -- a pass that knows its own brings only what was read, and knows its own then
  abbrev Brings : ZoneSight → ZoneSight → Type 0
  Brings p q = KnowsItsOwn p → BringsRead said p q × (pass_number q ≡ pass_number p) × KnowsItsOwn q

  still_brings : (p q : ZoneSight) → q ≡ p → Brings p q
  still_brings p q same own = (brings_none p q same, ap pass_number same, subst KnowsItsOwn (sym same) own)

  then_brings : (p m q : ZoneSight) → Brings p m → Brings m q → Brings p q
  then_brings p m q first second own =
      let a = first own in
      let b = second a.2 in
      (brings_both p m q a.1 a.0 b.0, b.1 ∙ a.1, b.2)

  module _ {D : Type 0} (disks : Ghosts D) (origin : SharedZone D) where
    comes_brings : (text : List ℕ) → IsIn (Ok (answer.Patch text)) said → (p q : ZoneSight) (version : ℕ) (result : Result ℕ TextRefusal) → ComesToText disks origin p version text result q → Brings p q
    comes_brings text is p q version result (unasked refusal by ends same) own = still_brings p q same own
    comes_brings text is p q version result (stayed_with s) own =
        (stay_brings origin.base origin.zone.limits s.patch version s.stayed p q (read_from text is s.patch s.is_text) own s.legal, s.legal.0.0.2, s.legal.0.3)

pub follow_brings : {D : Type 0} (disks : Ghosts D) (origin : SharedZone D) (p q : ZoneSight) (it : Run) (end : SyncEnd) → KnowsItsOwn p → Followed disks origin p it end q → BringsRead (said_in it) p q
follow_brings disks origin p q it end own is =
    let b = began (ComesToText disks origin) (ShowsZone disks origin) (Brings (said_in it)) (still_brings (said_in it)) (then_brings (said_in it)) p q it is.run_end (comes_brings (said_in it) disks origin) is.taken in
    let on = shown_on disks origin p b.mid it.mine it.have b.shown in
    let rest = b.goes on.3 in
    brings_both (said_in it) p b.mid q on.0.2 (quiet_brings (said_in it) p b.mid own on b.shown.0.0.1) rest.0
