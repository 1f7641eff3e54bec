-- Canonical rows in one block are a patch that says this.
use Rattle.std.proofs.Common.{◌≡◌, ℕ, ◌+◌, ◌-◌, ◌^◌, ◌<◌, ◌≤◌, List, [], ◌∷◌, ◌++◌, drop, length, map, min, true, Option, Some, None, refl, sym, ap, subst, ◌∙◌, ⊎_elim, arith, append_assoc, append-nil}
use Rattle.std.specs.Prelude.{codes, nat_lt, Vec}
use Rattle.std.specs.List.{AllByRecursion, flat_map, list_all}
use Rattle.std.specs.declared.alloc.Global.{Global}
use Rattle.std.proofs.lemmas.Grind.{flat_map-append}
use Rattle.std.proofs.Math.Nat.{min-eq_left, min-eq_right, min-le_left}
use Rattle.std.proofs.lemmas.Bool.{cases_lt}
use Rattle.std.proofs.lemmas.List.{length-append, map-append}
use Rattle.std.proofs.lemmas.List.Concat.{flat_map-cons}
use Rattle.delta_base.specs.declared.id.Id.{Id}
use Rattle.log_base.specs.declared.limits.TheConstants.{PATCH_LIMIT}
use Rattle.delta_base.specs.Ids.{text_of}
use Rattle.delta_base.proofs.IdLemmas.{number_of-text_of}
use Rattle.rdf_terms.specs.declared.change.Change.{Change}
use Rattle.rdf_terms.specs.declared.change.Change.TheVariants.{Add, Delete, PrefixAdd, PrefixDelete, Begin, Commit, Abort}
use Rattle.rdf_terms.specs.declared.term.Term.TheVariants as term
use Rattle.patch_rows.specs.declared.row.Row.{Row}
use Rattle.patch_rows.specs.declared.row.Row.TheVariants as row
use Rattle.patch_rows.specs.Grammar.{IsKey}
use Rattle.patch_rows.specs.Printing.{row_text}
use Rattle.patch_meaning.specs.declared.role.Role.{Role}
use Rattle.patch_meaning.specs.declared.role.Role.TheVariants as roles
use Rattle.patch_meaning.proofs.Settled.{one_meaning}
use Rattle.patch_meaning.specs.Checked.{CheckedPatch}
use Rattle.patch_meaning.specs.Patch.{Meaning, IsWell, IsPatch, AreInside, prev_list}
use Rattle.patch_meaning.specs.Roles.{header_role, value_id, ids_of, prevs_of, changes_of, id_said, prev_of, change_of, role, said}
use Rattle.net_changes.specs.Net.{in_block, IsPlain}
use Rattle.printed_rows.proofs.Ids.{ascii_text, header_line, id_printed}
use Rattle.printed_rows.proofs.Lines.{each_within, lines_read}
use Rattle.printed_rows.specs.Printed.{ArePrintedRows, IsPrintedRow, id_header, placed_from, printed_line, printed_lines}
use Rattle.patch_algebra.specs.Laws.{WrittenAreRead}
use Rattle.patch_algebra.specs.Nets.{ranked_row}
use Rattle.patch_algebra.specs.Patches.{RefusesWritten}
use Rattle.patch_algebra.specs.declared.fault.NetFault.TheVariants as faults
use Rattle.patch_algebra.specs.Written.{AreIds, HaveRows, HasIdText, HaveIdTexts, prev_rows, rows_in_front, rows_in_block, text_in_block, patch_in_block}

-- ---- roles

said_placed : (at : ℕ) (rs : List Row) → said (placed_from at rs) ≡ map role rs
said_placed at [] = refl
said_placed at (r ∷ rs) = ap (λ (l : List Role). role r ∷ l) (said_placed (at + length (printed_line r)) rs)

roles_of : (rs : List Row) (cs : List Change) → map role (rs ++ map row.Change cs) ≡ map role rs ++ map roles.Change cs
roles_of [] [] = refl
roles_of [] (c ∷ cs) = ap (λ (l : List Role). roles.Change c ∷ l) (roles_of [] cs)
roles_of (r ∷ rs) cs = ap (λ (l : List Role). role r ∷ l) (roles_of rs cs)

no_ids : (cs : List Change) → ids_of (map roles.Change cs) ≡ []
no_ids [] = refl
no_ids (c ∷ cs) = no_ids cs

no_prevs : (cs : List Change) → prevs_of (map roles.Change cs) ≡ []
no_prevs [] = refl
no_prevs (c ∷ cs) = no_prevs cs

all_changes : (cs : List Change) → changes_of (map roles.Change cs) ≡ cs
all_changes [] = refl
all_changes (c ∷ cs) = ap (λ (l : List Change). c ∷ l) (all_changes cs)

-- ---- headers

id_named : (id : Id) → HasIdText id → value_id (term.Iri (codes "uuid:" ++ text_of id.0)) ≡ Some id
unfolding value_id
id_named id named = rw named refl

header_ids : (id : Id) → HasIdText id → (prev : Option Id) → ids_of (map role (id_header (codes "id") id ∷ prev_rows prev)) ≡ Some id ∷ []
unfolding header_role
header_ids id small None = ap (λ (i : Option Id). i ∷ []) (id_named id small)
header_ids id small (Some before) = ap (λ (i : Option Id). i ∷ []) (id_named id small)

header_prevs : (id : Id) (prev : Option Id) → HaveIdTexts prev → prevs_of (map role (id_header (codes "id") id ∷ prev_rows prev)) ≡ prev_list prev
unfolding header_role
header_prevs id None small = refl
header_prevs id (Some before) small = ap (λ (i : Option Id). i ∷ []) (id_named before small)

no_change : (id : Id) (prev : Option Id) → changes_of (map role (id_header (codes "id") id ∷ prev_rows prev)) ≡ []
unfolding header_role
no_change id None = refl
no_change id (Some before) = refl

-- ---- the block

inside : (cs : List Change) → AllByRecursion IsPlain cs → AreInside (cs ++ Commit ∷ [])
inside [] a = tt
inside (Add q ∷ cs) a = inside cs a.1
inside (Delete q ∷ cs) a = inside cs a.1
inside (PrefixAdd p i g ∷ cs) a = inside cs a.1
inside (PrefixDelete p g ∷ cs) a = inside cs a.1
inside (Begin ∷ cs) a = absurd a.0
inside (Commit ∷ cs) a = absurd a.0
inside (Abort ∷ cs) a = absurd a.0

-- ---- the rows are those of a patch

well : (id : Id) (prev : Option Id) (cs : List Change) → HasIdText id → HaveIdTexts prev → AllByRecursion IsPlain cs
    → IsWell (said (placed_from 0 (rows_in_block id prev cs))) (record { id = id; prev = prev; changes = in_block cs })
well id prev cs small smalls plain =
    let headers = id_header (codes "id") id ∷ prev_rows prev in
    let block = in_block cs in
    let parts : said (placed_from 0 (rows_in_block id prev cs)) ≡ map role headers ++ map roles.Change block = said_placed 0 (headers ++ map row.Change block) ∙ roles_of headers block in
    record {
      parted = record { headers = map role headers; changes = block; parts = parts; no_change = no_change id prev };
      one_id = ap ids_of parts ∙ flat_map-append id_said (map role headers) (map roles.Change block) ∙ ap (λ (l : List (Option Id)). ids_of (map role headers) ++ l) (no_ids block) ∙ append-nil (ids_of (map role headers)) ∙ header_ids id small prev;
      prev_is = ap prevs_of parts ∙ flat_map-append prev_of (map role headers) (map roles.Change block) ∙ ap (λ (l : List (Option Id)). prevs_of (map role headers) ++ l) (no_prevs block) ∙ append-nil (prevs_of (map role headers)) ∙ header_prevs id prev smalls;
      changes_are = ap changes_of parts ∙ flat_map-append change_of (map role headers) (map roles.Change block) ∙ ap (λ (l : List Change). l ++ changes_of (map roles.Change block)) (no_change id prev) ∙ all_changes block;
      blocks = inside cs plain;
    }

-- ---- the rows have texts

key_printed : (key : List ℕ) (id : Id) → IsKey key → list_all (λ b. nat_lt b 128) key ≡ true → IsPrintedRow (id_header key id)
key_printed key id is low = id_printed key id (ascii_text key low) is

changes_printed : (cs : List Change) → HaveRows cs → ArePrintedRows (map row.Change (cs ++ Commit ∷ []))
changes_printed [] h = (record { value = tt; writable = tt }, tt)
changes_printed (c ∷ cs) h = (h.0, changes_printed cs h.1)

rows_printed : (id : Id) (prev : Option Id) (cs : List Change) → HaveRows cs → ArePrintedRows (rows_in_block id prev cs)
rows_printed id prev cs h = (key_printed (codes "id") id (refl, refl) refl, by prev)
  where
    block : ArePrintedRows (map row.Change (in_block cs))
    block = (record { value = tt; writable = tt }, changes_printed cs h)

    by : (prev : Option Id) → ArePrintedRows (prev_rows prev ++ map row.Change (in_block cs))
    by None = block
    by (Some before) = (key_printed (codes "prev") before (refl, refl) refl, block)

-- the text of such rows is a patch, where all are within the limit
pub written : (id : Id) (prev : Option Id) (cs : List Change) → HasIdText id → HaveIdTexts prev → AllByRecursion IsPlain cs → HaveRows cs → length (text_in_block id prev cs) ≤ PATCH_LIMIT
    → IsPatch (text_in_block id prev cs) (record { id = id; prev = prev; changes = in_block cs })
written id prev cs named others plain rows short = record {
  short = short;
  rows_ = placed_from 0 (rows_in_block id prev cs);
  reads = lines_read (rows_in_block id prev cs) (rows_printed id prev cs rows) (each_within _ (rows_in_block id prev cs) short);
  well = well id prev cs named others plain;
}

id_texts : (prev : Option Id) → AreIds prev → HaveIdTexts prev
id_texts None a = tt
id_texts (Some id) a = number_of-text_of id.0 a

pub written_are_read : WrittenAreRead
written_are_read id prev cs small smalls plain rows short = written id prev cs (number_of-text_of id.0 small) (id_texts prev smalls) plain rows short

-- ---- the text as it is written

begun_line : printed_line (row.Change Begin) ≡ codes "TX .\n"
unfolding row_text
begun_line = refl

committed_line : printed_line (row.Change Commit) ≡ codes "TC .\n"
unfolding row_text
committed_line = refl

pub front_is : (id : Id) (prev : Option Id) (none one two all : List ℕ) → none ≡ [] → one ≡ none ++ (codes "H id <uuid:" ++ (text_of id.0 ++ codes "> .\n")) → two ≡ one ++ printed_lines (prev_rows prev) → all ≡ two ++ codes "TX .\n" → all ≡ printed_lines (rows_in_front id prev)
front_is id prev none one two all n o t a =
    a ∙ ap (λ (l : List ℕ). l ++ codes "TX .\n") (t ∙ ap (λ (l : List ℕ). l ++ printed_lines (prev_rows prev)) (o ∙ ap (λ (l : List ℕ). l ++ (codes "H id <uuid:" ++ (text_of id.0 ++ codes "> .\n"))) n ∙ header_line (codes "id") (codes "H id <uuid:") (text_of id.0) refl))
    ∙ append_assoc (printed_line (id_header (codes "id") id)) (printed_lines (prev_rows prev)) (codes "TX .\n")
    ∙ ap (λ (l : List ℕ). printed_line (id_header (codes "id") id) ++ l)
    (ap (λ (l : List ℕ). printed_lines (prev_rows prev) ++ l) (sym begun_line ∙ sym (append-nil (printed_line (row.Change Begin)))) ∙ sym (flat_map-append printed_line (prev_rows prev) (row.Change Begin ∷ [])))

-- the keys of a set of bytes, without the first byte of each
abbrev pub without_ranks : List (Vec ℕ Global) → List ℕ
without_ranks keys = flat_map (λ (r : Vec ℕ Global). drop 1 r.items) keys

lines_are : (keys : List (Vec ℕ Global)) (cs : List Change) → map (λ (r : Vec ℕ Global). r.items) keys ≡ map ranked_row cs → without_ranks keys ≡ printed_lines (map row.Change cs)
lines_are [] [] e = refl
lines_are [] (c ∷ cs) e = absurd cc
lines_are (k ∷ keys) [] e = absurd cc
lines_are (k ∷ keys) (c ∷ cs) e =
    let here : k.items ≡ ranked_row c = cc in
    let others : map (λ (r : Vec ℕ Global). r.items) keys ≡ map ranked_row cs = cc in
    flat_map-cons (λ (r : Vec ℕ Global). drop 1 r.items) k keys
    ∙ ap (λ (l : List ℕ). drop 1 l ++ without_ranks keys) here
    ∙ ap (λ (l : List ℕ). printed_line (row.Change c) ++ l) (lines_are keys cs others)

rows_split : (id : Id) (prev : Option Id) (cs : List Change) → rows_in_block id prev cs ≡ rows_in_front id prev ++ (map row.Change cs ++ row.Change Commit ∷ [])
rows_split id prev cs =
    ap (λ (l : List Row). id_header (codes "id") id ∷ (prev_rows prev ++ row.Change Begin ∷ l)) (map-append row.Change cs (Commit ∷ []))
    ∙ ap (λ (l : List Row). id_header (codes "id") id ∷ l) (sym (append_assoc (prev_rows prev) (row.Change Begin ∷ []) (map row.Change cs ++ row.Change Commit ∷ [])))

-- what was written is the text of the patch
pub text_is : (id : Id) (prev : Option Id) (keys : List (Vec ℕ Global)) (cs : List Change) (front rows all : List ℕ) → map (λ (r : Vec ℕ Global). r.items) keys ≡ map ranked_row cs
    → front ≡ printed_lines (rows_in_front id prev) → rows ≡ front ++ without_ranks keys → all ≡ rows ++ codes "TC .\n" → all ≡ text_in_block id prev cs
text_is id prev keys cs front rows all e f r a =
    a ∙ ap (λ (l : List ℕ). l ++ codes "TC .\n") (r ∙ ap (λ (l : List ℕ). l ++ without_ranks keys) f ∙ ap (λ (l : List ℕ). printed_lines (rows_in_front id prev) ++ l) (lines_are keys cs e))
    ∙ append_assoc (printed_lines (rows_in_front id prev)) (printed_lines (map row.Change cs)) (codes "TC .\n")
    ∙ ap (λ (l : List ℕ). printed_lines (rows_in_front id prev) ++ (printed_lines (map row.Change cs) ++ l)) (sym committed_line ∙ sym (append-nil (printed_line (row.Change Commit))))
    ∙ ap (λ (l : List ℕ). printed_lines (rows_in_front id prev) ++ l) (sym (flat_map-append printed_line (map row.Change cs) (row.Change Commit ∷ [])))
    ∙ sym (flat_map-append printed_line (rows_in_front id prev) (map row.Change cs ++ row.Change Commit ∷ []))
    ∙ ap printed_lines (sym (rows_split id prev cs))

-- a checked patch with this text is it
pub patch_is : (id : Id) (prev : Option Id) (cs : List Change) (p : CheckedPatch) (text : List ℕ) → p.text ≡ text → IsPatch text p.meaning → text ≡ text_in_block id prev cs
    → HasIdText id → HaveIdTexts prev → AllByRecursion IsPlain cs → HaveRows cs → p ≡ patch_in_block id prev cs
patch_is id prev cs p text is says e named others plain rows =
    let there = subst (λ (l : List ℕ). IsPatch l p.meaning) e says in
    let same = one_meaning (text_in_block id prev cs) p.meaning (record { id = id; prev = prev; changes = in_block cs }) there (written id prev cs named others plain rows there.short) in
    let one : p ≡ record { text = text_in_block id prev cs; meaning = p.meaning } = ap (λ (l : List ℕ). let q : CheckedPatch = record { text = l; meaning = p.meaning } in q) (is ∙ e) in
    one ∙ ap (λ (m : Meaning). let q : CheckedPatch = record { text = text_in_block id prev cs; meaning = m } in q) same

-- ---- how long it is

pub long_text : (id : Id) (prev : Option Id) (keys : List (Vec ℕ Global)) (cs : List Change) (front : List ℕ) (size : ℕ) → map (λ (r : Vec ℕ Global). r.items) keys ≡ map ranked_row cs
    → front ≡ printed_lines (rows_in_front id prev) → size ≡ min (length front + 5 + length (without_ranks keys)) (2 ^ 64 - 1) → PATCH_LIMIT < size
    → RefusesWritten (patch_in_block id prev cs) (faults.TooLong size PATCH_LIMIT)
long_text id prev keys cs front size e f is long =
    let text = text_is id prev keys cs front (front ++ without_ranks keys) ((front ++ without_ranks keys) ++ codes "TC .\n") e f refl refl in
    let all : length (text_in_block id prev cs) ≡ length front + 5 + length (without_ranks keys) =
    omega (arith, ap length text, length-append (front ++ without_ranks keys) (codes "TC .\n"), length-append front (without_ranks keys)) in
    let less = min-le_left (length front + 5 + length (without_ranks keys)) (2 ^ 64 - 1) in
    (is ∙ ap (λ (n : ℕ). min n (2 ^ 64 - 1)) (sym all), refl, omega (arith, all, is, long, less))

capped : (a b most : ℕ) → min (min a most + b) most ≡ min (a + b) most
capped a b most =
    ⊎_elim (λ less. ap (λ (n : ℕ). min (n + b) most) (min-eq_left (omega (arith, less))))
    (λ no_less.
    let all : most ≤ most + b = omega arith in
    let more : most ≤ a + b = omega (arith, no_less) in
    ap (λ (n : ℕ). min (n + b) most) (min-eq_right no_less) ∙ min-eq_right all ∙ sym (min-eq_right more))
    (cases_lt a most)

one_less : (l : List ℕ) → length (drop 1 l) ≡ length l - 1
one_less [] = refl
one_less (b ∷ l) = omega arith

-- with one row more
pub one_longer : (others size new added : ℕ) (rows : List (Vec ℕ Global)) (x : Vec ℕ Global) → size ≡ min (others + length (without_ranks rows)) (2 ^ 64 - 1) → added ≡ length x.items - 1 → new ≡ min (size + added) (2 ^ 64 - 1)
    → new ≡ min (others + length (without_ranks (rows ++ x ∷ []))) (2 ^ 64 - 1)
one_longer others size new added rows x is one more =
    let split : without_ranks (rows ++ x ∷ []) ≡ without_ranks rows ++ (drop 1 x.items ++ []) = flat_map-append (λ (r : Vec ℕ Global). drop 1 r.items) rows (x ∷ []) in
    let count : length (without_ranks (rows ++ x ∷ [])) ≡ length (without_ranks rows) + added =
    omega (arith, ap length split, length-append (without_ranks rows) (drop 1 x.items ++ []), length-append (drop 1 x.items) [], one_less x.items, one) in
    more ∙ ap (λ (n : ℕ). min (n + added) (2 ^ 64 - 1)) is ∙ capped (others + length (without_ranks rows)) added (2 ^ 64 - 1)
    ∙ ap (λ (n : ℕ). min n (2 ^ 64 - 1)) (omega (arith, count))
