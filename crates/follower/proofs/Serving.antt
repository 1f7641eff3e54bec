-- A zone that catches up over connections that answer as a server does whose log its patches begin.
use Rattle.std.proofs.Common.{◌≡◌, ℕ, suc, ◌+◌, ◌<◌, ◌≤◌, List, [], ◌∷◌, ◌++◌, length, map, Option, None, Ok, Err, refl, sym, ◌∙◌, ap, subst, arith}
use Rattle.std.proofs.lemmas.List.{length-append, length-map}
use Rattle.delta_base.specs.declared.id.Id.{Id}
use Rattle.chain_core.specs.Links.{IsChain}
use Rattle.chain_core.specs.Patches.{links_of}
use Rattle.patch_log.specs.Log.{bare}
use Rattle.patch_meaning.specs.Checked.{AreChecked, CheckedPatch, checked_texts}
use Rattle.rpc_answers.specs.declared.answer.Answer.{Answer}
use Rattle.rpc_answers.specs.declared.answer.Answer.TheVariants as answer
use Rattle.rpc_answers.specs.Prints.{without_spare}
use Rattle.rpc_calls.specs.declared.call.Call.{Call}
use Rattle.rpc_calls.specs.declared.call.Call.TheVariants as calls
use Rattle.delta_client.specs.declared.fault.AskFault.TheVariants as ask
use Rattle.delta_client.specs.Exchanges.{DialView, Exchanged, WasSaid}
use Rattle.delta_client.specs.Kinds.{MayAnswer}
use Rattle.delta_client.specs.Serving.{AllSaid, EndsAtFault, IsSaidBy, Serves}
use Rattle.delta_client.proofs.Served.{NoEnd, NoFault, OneAnswer, OneNext, all_answered, fewer_served, first_answered}
use Rattle.zone_state.specs.Brief.{Brief, brief_of, id_taken}
use Rattle.zone_state.specs.Zone.{ZoneView}
use Rattle.catch_up.specs.declared.end.RunEnd.{RunEnd}
use Rattle.catch_up.specs.Ends as peer
use Rattle.catch_up.specs.Runs.{texts_said}
use Rattle.follower.specs.declared.ends.SyncEnd.{SyncEnd}
use Rattle.follower.specs.declared.ends.TextRefusal.{TextRefusal}
use Rattle.follower.specs.Calls.{calls_of, came, fetches}
use Rattle.follower.specs.Chains.{IsAnswerBehind, IsNoShorter, IsSaidOf, MayEndWell, ServesRest}
use Rattle.follower.specs.Syncing.{NextEnds, refused, answered, faulty, not_asked, RunEnds, unanswered, compared, stopped, caught_up, EndIs}
use Rattle.follower.proofs.Completing.{completes}

-- ---- answers of a log

-- an answer but for the room of its list is that answer, unless it is a list
plain : (a : Answer) → ((sources : _) → a ≡ answer.Sources sources → ⊥) → without_spare a ≡ a
plain answer.Pong other = refl
plain (answer.Sources sources) other = absurd (other sources refl)
plain (answer.Source source) other = refl
plain (answer.Info version head) other = refl
plain (answer.Version version) other = refl
plain (answer.Run first version) other = refl
plain (answer.Patch text) other = refl
plain answer.NoRoute other = refl
plain answer.NoSource other = refl
plain (answer.NoPatch version) other = refl
plain answer.BadMethod other = refl
plain answer.Media other = refl
plain answer.BadJson other = refl
plain (answer.BadCall member) other = refl
plain (answer.BadPatch at kind) other = refl
plain (answer.BadRun at) other = refl
plain (answer.BadName at) other = refl
plain (answer.BadUri at) other = refl
plain (answer.Known version same) other = refl
plain (answer.Conflict version head prev_version) other = refl
plain (answer.NameTaken id) other = refl
plain (answer.IdTaken name) other = refl
plain (answer.Full what have limit) other = refl
plain answer.DiskFault other = refl
plain answer.OutOfMemory other = refl
plain (answer.BadRequest kind) other = refl

same_info : (a : Answer) (version : ℕ) (head : Option Id) → without_spare a ≡ answer.Info version head → a ≡ answer.Info version head
same_info a version head is = sym (plain a (λ sources listed. let both : without_spare (answer.Sources sources) ≡ answer.Info version head = ap without_spare (sym listed) ∙ is in cc)) ∙ is

same_patch : (a : Answer) (text : List ℕ) → without_spare a ≡ answer.Patch text → a ≡ answer.Patch text
same_patch a text is = sym (plain a (λ sources listed. let both : without_spare (answer.Sources sources) ≡ answer.Patch text = ap without_spare (sym listed) ∙ is in cc)) ∙ is

module _ (mine : ℕ) (chain : List CheckedPatch) where
  abbrev IsSuch : Call → Answer → Type 0
  IsSuch = IsAnswerBehind mine chain

  fits_log : (name : List ℕ) (a : Answer) → (version : ℕ) × (head : Option Id) × (a ≡ answer.Info version head) → MayAnswer (calls.Log name) a
  fits_log name a it = subst (λ (b : Answer). MayAnswer (calls.Log name) b) (sym it.2) (λ well. refl)

  fits : (call : Call) (a : Answer) → IsSuch call a → MayAnswer call a
  fits (calls.Log name) a is = fits_log name a (_, _, is.0.2)
  fits (calls.FetchVersion name version) a is = subst (λ (b : Answer). MayAnswer (calls.FetchVersion name version) b) (sym is.0.1) (λ well. refl)
  fits calls.Ping a is = absurd is.0
  fits calls.List a is = absurd is.0
  fits (calls.Source name) a is = absurd is.0
  fits (calls.SourceById id) a is = absurd is.0
  fits (calls.SourceByUri uri) a is = absurd is.0
  fits (calls.Version name) a is = absurd is.0
  fits (calls.Remove name) a is = absurd is.0
  fits (calls.Create name uri id) a is = absurd is.0
  fits (calls.Rename name new_name) a is = absurd is.0
  fits (calls.Append name patch) a is = absurd is.0
  fits (calls.AppendRun name patches) a is = absurd is.0
  fits (calls.FetchId name id) a is = absurd is.0

  alike : (call : Call) (a b : Answer) → without_spare a ≡ without_spare b → IsSuch call b → IsSuch call a
  alike (calls.Log name) a b same is =
      let same_answer : a ≡ b = same_info a _ _ (same ∙ ap without_spare is.0.2) ∙ sym is.0.2 in
      subst (λ (c : Answer). IsSuch (calls.Log name) c) (sym same_answer) is
  alike (calls.FetchVersion name version) a b same is =
      let same_answer : a ≡ b = same_patch a is.0.0 (same ∙ ap without_spare is.0.1) ∙ sym is.0.1 in
      subst (λ (c : Answer). IsSuch (calls.FetchVersion name version) c) (sym same_answer) is
  alike calls.Ping a b same is = absurd is.0
  alike calls.List a b same is = absurd is.0
  alike (calls.Source name) a b same is = absurd is.0
  alike (calls.SourceById id) a b same is = absurd is.0
  alike (calls.SourceByUri uri) a b same is = absurd is.0
  alike (calls.Version name) a b same is = absurd is.0
  alike (calls.Remove name) a b same is = absurd is.0
  alike (calls.Create name uri id) a b same is = absurd is.0
  alike (calls.Rename name new_name) a b same is = absurd is.0
  alike (calls.Append name patch) a b same is = absurd is.0
  alike (calls.AppendRun name patches) a b same is = absurd is.0
  alike (calls.FetchId name id) a b same is = absurd is.0

  -- what was said by a log that tells no fewer
  said_of : (call : Call) (one : WasSaid) → IsSaidBy IsSuch call one → IsSaidOf chain call one
  said_of call (Ok a) is = is.0
  said_of call (Err ask.LinkFault) is = tt
  said_of call (Err ask.OutOfMemory) is = tt
  said_of call (Err ask.CutShort) is = absurd is
  said_of call (Err (ask.NotUnderstood at)) is = absurd is

  all_of : (asked : List Call) (said : List WasSaid) → AllSaid (IsSaidBy IsSuch) asked said → AllSaid (IsSaidOf chain) asked said
  all_of [] said are = tt
  all_of (call ∷ asked) [] are = tt
  all_of (call ∷ asked) (one ∷ said) are = (said_of call one are.0, all_of asked said are.1)

  no_shorter : (name : List ℕ) (said : List WasSaid) → AllSaid (IsSaidBy IsSuch) (calls_of name mine said) said → IsNoShorter mine said
  no_shorter name [] are = tt
  no_shorter name (Ok a ∷ said) are = are.0.1
  no_shorter name (Err fault ∷ said) are = tt

-- ---- calls

-- fewer fetches begin more
fetches_front : {A B : Type 0} (name : List ℕ) (from : ℕ) (xs : List A) (ys : List B) → length xs ≤ length ys → (more : List Call) × (fetches name from ys ≡ fetches name from xs ++ more)
fetches_front name from [] ys short = (fetches name from ys, refl)
fetches_front name from (x ∷ xs) [] short = absurd (omega (arith, short))
fetches_front name from (x ∷ xs) (y ∷ ys) short =
    let rest = fetches_front name (from + 1) xs ys (omega (arith, short)) in (rest.0, ap (λ (asked : List Call). calls.FetchVersion name from ∷ asked) rest.1)

ends_texts : (texts : List (List ℕ)) (last : List WasSaid) → EndsAtFault last → EndsAtFault (texts_said texts ++ last)
ends_texts [] last ends = ends
ends_texts (text ∷ texts) last ends = ends_texts texts last ends

module _ {D L : Type 0} (left sent : L → Option (List ℕ)) (address name : List ℕ) (old new : ZoneView D) (taken rest more : List CheckedPatch) (said : List WasSaid) (before after : DialView L) (one_next : OneNext) (no_end : NoEnd)
    (no_fault : NoFault) (one_answer : OneAnswer) (checked : AreChecked (taken ++ rest)) (is_chain : IsChain (links_of (map bare (taken ++ rest)))) (serves : ServesRest left name taken rest before.links.to_come)
    (was : old.brief ≡ brief_of taken) (now : new.brief ≡ brief_of (taken ++ more)) (are_checked : AreChecked (taken ++ more)) (asked : Exchanged left sent address (calls_of name (length taken) said) said None before after)
  where
    abbrev mine : ℕ
    mine = length taken

    abbrev chain : List CheckedPatch
    chain = taken ++ rest

    had_now : length new.brief.ids ≡ mine + length more
    had_now = ap (λ (b : Brief). length b.ids) now ∙ length-map (taken ++ more) id_taken ∙ length-append taken more

    -- the log's version that was told is one of the chain
    within : (theirs : ℕ) (head : Option Id) (behind : List WasSaid) → said ≡ Ok (answer.Info theirs head) ∷ behind → theirs ≤ mine + length rest
    within theirs head behind is =
        let talked : Exchanged left sent address (calls_of name mine (Ok (answer.Info theirs head) ∷ behind)) (Ok (answer.Info theirs head) ∷ behind) None before after =
        subst (λ (it : List WasSaid). Exchanged left sent address (calls_of name mine it) it None before after) is asked in
        let served = fewer_served left (IsAnswerBehind mine chain) (calls.Log name ∷ []) (fetches name (mine + 1) rest) None before.links.to_come serves in
        let info = first_answered left sent address (IsAnswerBehind mine chain) (fits mine chain) (alike mine chain) one_next no_end no_fault one_answer (calls.Log name) (fetches name (mine + 1) behind) behind (answer.Info theirs head) None before after served talked in
        let same : theirs ≡ length info.0.0 = version_of info.0.2 in
        omega (arith, same, ap length info.0.1.1, length-append info.0.0 info.0.1.0, length-append taken rest)
      where
        version_of : {a b : ℕ} {x y : Option Id} → answer.Info a x ≡ answer.Info b y → a ≡ b
        version_of same = cc

    -- there is no fetch behind the chain, and nothing was said behind a fault
    pub record IsShort : Type 0 where
      pub few : length said ≤ suc (length rest)
      pub ends : EndsAtFault said

    short_one : (one : WasSaid) → said ≡ one ∷ [] → IsShort
    short_one one is = record { few = omega (arith, ap length is); ends = subst EndsAtFault (sym is) (alone one) }
      where
        alone : (one : WasSaid) → EndsAtFault (one ∷ [])
        alone (Ok a) = tt
        alone (Err fault) = refl

    short_none : said ≡ [] → IsShort
    short_none is = record { few = omega (arith, ap length is); ends = subst EndsAtFault (sym is) tt }

    short_log : (end : RunEnd TextRefusal) → peer.LogEnds said end → IsShort
    short_log end (peer.answered a is ends) = short_one (Ok a) is
    short_log end (peer.faulty fault is ends) = short_one (Err fault) is
    short_log end (peer.not_asked is ends) = short_none is

    texts_long : length (texts_said (checked_texts more)) ≡ length more
    texts_long = length-map (checked_texts more) _ ∙ length-map more _

    short_came : (theirs : ℕ) (head : Option Id) (last : List WasSaid) → said ≡ came theirs head more last → length more + length last ≤ length rest → EndsAtFault last → IsShort
    short_came theirs head last is few ends = record {
      few = omega (arith, ap length is, length-append (texts_said (checked_texts more)) last, texts_long, few);
      ends = subst EndsAtFault (sym is) (ends_texts (checked_texts more) last ends);
    }

    short_next : (theirs : ℕ) (head : Option Id) (last : List WasSaid) → said ≡ came theirs head more last → length new.brief.ids < theirs → (end : RunEnd TextRefusal) → NextEnds old.terms more new last end → IsShort
    short_next theirs head last is less end ends = by ends
      where
        room : length more < length rest
        room = omega (arith, less, had_now, within theirs head (texts_said (checked_texts more) ++ last) is)

        one : (it : WasSaid) → last ≡ it ∷ [] → IsShort
        one (Ok a) same = short_came theirs head last is (omega (arith, room, ap length same)) (subst EndsAtFault (sym same) tt)
        one (Err fault) same = short_came theirs head last is (omega (arith, room, ap length same)) (subst EndsAtFault (sym same) refl)

        by : NextEnds old.terms more new last end → IsShort
        by (refused text refusal same why ends) = one (Ok (answer.Patch text)) same
        by (answered a same ends) = one (Ok a) same
        by (faulty fault same ends) = one (Err fault) same
        by (not_asked same ends) = short_came theirs head last is (omega (arith, room, ap length same)) (subst EndsAtFault (sym same) tt)

    short_run : (end : RunEnd TextRefusal) → RunEnds old new said more end → IsShort
    short_run end (unanswered none same ends) = short_log end ends
    short_run end (compared theirs head is none same by) = short_one (Ok (answer.Info theirs head)) is
    short_run end (stopped theirs head last is before less ends) = short_next theirs head last is less end ends
    short_run end (caught_up theirs head is before all ends) = short_came theirs head [] is (omega (arith, all, had_now, within theirs head (texts_said (checked_texts more) ++ []) is)) tt

    served_said : (it : List WasSaid) → length it ≤ suc (length rest) → Serves left (IsAnswerBehind mine chain) (calls_of name mine it) None before.links.to_come
    served_said [] few = tt
    served_said (one ∷ it) few =
        let front = fetches_front name (mine + 1) it rest (omega (arith, few)) in
        fewer_served left (IsAnswerBehind mine chain) (calls.Log name ∷ fetches name (mine + 1) it) front.0 None before.links.to_come
        (subst (λ (asked : List Call). Serves left (IsAnswerBehind mine chain) (calls.Log name ∷ asked) None before.links.to_come) front.1 serves)

    pub ends_well : (end : SyncEnd) → EndIs old new said more end → MayEndWell end
    ends_well end is =
        let short = short_run is.0 is.2 in
        let said_so = all_answered left sent address (IsAnswerBehind mine chain) (fits mine chain) (alike mine chain) one_next no_end no_fault one_answer (calls_of name mine said) said None before after (served_said said short.few) asked short.ends in
        (completes old new chain taken more name said
        (record {
          checked = checked;
          is_chain = is_chain;
          begins = (rest, refl);
          was = was;
          is = now;
          are_checked = are_checked;
          answers = all_of mine chain (calls_of name mine said) said said_so;
          no_shorter = no_shorter mine chain name said said_so;
        })
        end is).one_of
