-- The walk over the words of a command with positions alone.
use Rattle.std.proofs.Common.{◌≡◌, ℕ, ◌+◌, ◌<◌, ◌≤◌, List, [], ◌∷◌, ◌++◌, length, map, Bool, true, false, not, ◌&&◌, ◌==◌, Option, Some, None, option_map, refl, sym, ap, ap₂, ◌∙◌, arith, append_assoc, append-nil, length-append, get_or, take, add-one, Bor, true≢false, min, fold, if◌then◌else◌}
use Rattle.std.proofs.lemmas.List.{map-append, length-map}
use Rattle.std.proofs.Math.Seq.{take-suc}
use Rattle.std.proofs.lemmas.Option.{none-some}
use Rattle.std.proofs.lemmas.Slice.Eq.{bytes_eq-Decides}
use Rattle.std.specs.List.{list_all}
use Rattle.std.specs.Str.{bytes_eq}
use Rattle.std.proofs.Common.{eq-eqb, ne_eqb}
use Rattle.clap.specs.Lexer.{usize_max, long_of, short_of}
use Rattle.clap.specs.Walk.{Rule, Row, Text, Held, Walk, idle, value, walked, word_met, positional_held, arg_by_index, arg_by_id, is_pending, settled, used, used_by_id, without, at_row, pushed, reading_by}
use Rattle.clap.specs.Walk.{has_row}
use Rattle.clap.specs.Faults.{settle_fault, turn_fault, word_fault, walk_fault}
use Rattle.clap.specs.declared.error.kind.ErrorKind.TheVariants as kind
use Rattle.clap.specs.Simple.{Shape, new_shape, with_rule, filled_from, with_index, filled}
use Rattle.clap.specs.declared.parser.matches.ValueSource.TheVariants.{CommandLine}
use Rattle.command_tables.specs.Positions.{IsPlainWord, all_differ, position_rule, positions_app}

-- what building makes of the name at a place
abbrev pub placed : ℕ → Text → Rule
placed i name = with_index i (filled (position_rule name))

-- the place behind a place
abbrev pub next_of : ℕ → ℕ
next_of i = min (i + 1) usize_max

-- and of the names from a place on
abbrev pub placed_from : ℕ → List Text → List Rule
placed_from i names = filled_from i (map position_rule names)

-- none of the texts is the name
abbrev pub Lacks : Text → List Text → Type 0
Lacks name [] = Unit {0}
Lacks name (other ∷ others) = (bytes_eq other name ≡ false) × Lacks name others

-- a name and its word
abbrev pub Pair : Type 0
Pair = Text × Text

abbrev pub names_in : List Pair → List Text
names_in = map (λ p. p.0)

-- what is found of a name with its word
abbrev pub row_for : Pair → Row
row_for p = record {
  id = p.0;
  values = p.1 ∷ [];
  count = None;
  source = Some CommandLine;
  reading = reading_by (placed 0 p.0);
}

-- ---- look-ups

pub both : (x y : Bool) → (x && y) ≡ true → (x ≡ true) × (y ≡ true)
both true y holds = (refl, holds)
both false y holds = absurd (true≢false (sym holds))

pub is_false : (x : Bool) → not x ≡ true → x ≡ false
is_false true holds = absurd (true≢false (sym holds))
is_false false holds = refl

next_place : (i : ℕ) → i < usize_max → min (i + 1) usize_max ≡ i + 1
next_place i small = omega arith

pub same_text : (text : Text) → bytes_eq text text ≡ true
same_text text = (bytes_eq-Decides text text).1 refl

pub at_place : (i k : ℕ) (before after : List Text) (name : Text) → k ≡ i + length before → k < usize_max
    → arg_by_index (placed_from i (before ++ name ∷ after)) k ≡ Some (placed k name)
at_place i k [] after name is small =
    let here : i ≡ k = omega arith in
    let same : (i == k) ≡ true = eq-eqb i k here in
    rw same (ap (λ n. Some (placed n name)) here)
at_place i k (b ∷ before) after name is small =
    let apart : (i == k) ≡ false = ne_eqb i k (λ e. omega arith) in
    let more = at_place (i + 1) k before after name (omega arith) small in
    rw (apart, next_place i (omega arith)) more

pub past_places : (i k : ℕ) (names : List Text) → i + length names ≤ k → k < usize_max → arg_by_index (placed_from i names) k ≡ None
past_places i k [] past small = refl
past_places i k (n ∷ names) past small =
    let apart : (i == k) ≡ false = ne_eqb i k (λ e. omega arith) in
    let more = past_places (i + 1) k names (omega arith) small in
    rw (apart, next_place i (omega arith)) more

pub by_name : (i k : ℕ) (before after : List Text) (name : Text) → Lacks name before → k ≡ i + length before → k < usize_max
    → arg_by_id (placed_from i (before ++ name ∷ after)) name ≡ Some (placed k name)
by_name i k [] after name lacks is small =
    let here : i ≡ k = omega arith in
    rw (same_text name) (ap (λ n. Some (placed n name)) here)
by_name i k (b ∷ before) after name lacks is small =
    let more = by_name (i + 1) k before after name lacks.1 (omega arith) small in
    rw (lacks.0, next_place i (omega arith)) more

-- ---- rows

-- a change at a name that no row has adds what is missing
pub at_row_lacking : (name : Text) (change : Row → List Row) (missing : List Row) (pairs : List Pair) → Lacks name (names_in pairs)
    → at_row name change missing (map row_for pairs) ≡ map row_for pairs ++ missing
at_row_lacking name change missing [] lacks = refl
at_row_lacking name change missing (p ∷ pairs) lacks =
    rw lacks.0 (ap (λ rows. row_for p ∷ rows) (at_row_lacking name change missing pairs lacks.1))

-- a use of a name that no row has adds its row
pub used_once : (k : ℕ) (name word : Text) (pairs : List Pair) → Lacks name (names_in pairs)
    → used (placed k name) (word ∷ []) (map row_for pairs) ≡ map row_for pairs ++ row_for (name, word) ∷ []
used_once k name word pairs lacks =
    let none : without name (map row_for pairs) ≡ map row_for pairs =
    at_row_lacking name (λ _. []) [] pairs lacks ∙ append-nil (map row_for pairs) in
    rw (none, at_row_lacking name _ _ pairs lacks) refl

-- ---- the walk

-- the words met so far, of which the last still waits
abbrev pub waiting : Option Pair → List Pair
waiting None = []
waiting (Some p) = p ∷ []

abbrev pub pending_for : Option Pair → Option (Text × List Text)
pending_for = option_map (λ p. (p.0, p.1 ∷ []))

abbrev pub held_at : List Pair → Option Pair → Held
held_at pairs last = record { rows = map row_for pairs; pending = pending_for last; skip = 0 }

abbrev pub walk_at : List Pair → Option Pair → Walk
walk_at pairs last = record {
  held = held_at pairs last;
  waiting = idle;
  position = 1 + length (pairs ++ waiting last);
  is_trailing = false;
  stopped = None;
}

-- what a word that is plain is
pub long_of_plain : (word : Text) → IsPlainWord word → long_of word ≡ None
long_of_plain word plain = rw plain refl

pub short_of_plain : (word : Text) → IsPlainWord word → short_of word ≡ None
short_of_plain word plain = rw plain refl

pub no_dashes : (word : Text) → IsPlainWord word → bytes_eq word (45 ∷ 45 ∷ []) ≡ false
no_dashes [] plain = refl
no_dashes (b ∷ word) plain = by_test (b == 45) refl
  where
    by_test : (test : Bool) → (b == 45) ≡ test → bytes_eq (b ∷ word) (45 ∷ 45 ∷ []) ≡ false
    by_test true is = absurd (none-some word (sym plain ∙ ap (λ t. if t then Some word else None) is))
    by_test false is = rw is refl

-- a plain word that a position waits for is its value
pub word_met_plain : (c : List Rule) (position : ℕ) (word : Text) (h : Held) → IsPlainWord word
    → word_met c [] false idle position word h ≡ (h, value)
word_met_plain c position word h plain =
    rw (no_dashes word plain, long_of_plain word plain, short_of_plain word plain) refl

-- the pending word is used
pub settled_at : (c : List Rule) (k : ℕ) (pairs : List Pair) (p : Pair) → arg_by_id c p.0 ≡ Some (placed k p.0)
    → Lacks p.0 (names_in pairs) → settled c (held_at pairs (Some p)) ≡ held_at (pairs ++ p ∷ []) None
settled_at c k pairs p found lacks =
    ap (λ rows. record { rows = rows; pending = None; skip = 0 })
    (ap (λ a. used_by_id a (p.1 ∷ []) (map row_for pairs)) found ∙ used_once k p.0 p.1 pairs lacks ∙ sym (map-append row_for pairs (p ∷ [])))

-- what is known of the word that still waits
abbrev pub Known : List Rule → List Pair → Option Pair → Type 0
Known c pairs None = Unit {0}
Known c pairs (Some p) = (k : ℕ) × (arg_by_id c p.0 ≡ Some (placed k p.0)) × Lacks p.0 (names_in pairs)

pub settled_any : (c : List Rule) (pairs : List Pair) (last : Option Pair) → Known c pairs last
    → settled c (held_at pairs last) ≡ held_at (pairs ++ waiting last) None
settled_any c pairs None known = ap (λ ps. held_at ps None) (sym (append-nil pairs))
settled_any c pairs (Some p) known = settled_at c known.0 pairs p known.1 known.2

-- a position takes the word
takes_word : (c : List Rule) (k : ℕ) (name word : Text) (h : Held)
    → positional_held c (placed k name) word h ≡ pushed name word (settled c h)
takes_word c k name word h = by_test (is_pending (placed k name) h.pending)
  where
    by_test : (b : Bool) → pushed name word (if b && false then h else settled c h) ≡ pushed name word (settled c h)
    by_test true = refl
    by_test false = refl

-- one more word
pub walked_at : (c : List Rule) (pairs : List Pair) (last : Option Pair) (name word : Text) → IsPlainWord word
    → Known c pairs last → length (pairs ++ waiting last) + 1 < usize_max
    → arg_by_index c (1 + length (pairs ++ waiting last)) ≡ Some (placed (1 + length (pairs ++ waiting last)) name)
    → walked c [] (walk_at pairs last) word ≡ walk_at (pairs ++ waiting last) (Some (name, word))
unfolding walked
walked_at c pairs last name word plain known small found =
    let place = 1 + length (pairs ++ waiting last) in
    let longer : length ((pairs ++ waiting last) ++ (name, word) ∷ []) ≡ length (pairs ++ waiting last) + 1 =
    length-append (pairs ++ waiting last) ((name, word) ∷ []) in
    let next : min (place + 1) usize_max ≡ 1 + length ((pairs ++ waiting last) ++ (name, word) ∷ []) = omega arith in
    let held : positional_held c (placed place name) word (held_at pairs last) ≡ held_at (pairs ++ waiting last) (Some (name, word)) =
    takes_word c place name word (held_at pairs last) ∙ ap (pushed name word) (settled_any c pairs last known) in
    rw (word_met_plain c place word (held_at pairs last) plain, found)
    (ap₂ (λ h position. record { held = h; waiting = idle; position = position; is_trailing = false; stopped = None }) held next)

-- ---- faults

-- a name that no row has is not repeated
no_row : (name : Text) (pairs : List Pair) → Lacks name (names_in pairs) → has_row name (map row_for pairs) ≡ false
no_row name [] lacks = refl
no_row name (p ∷ pairs) lacks = rw (lacks.0, no_row name pairs lacks.1) refl

-- the use of the word that waits has no fault
pub settle_fault_at : (c : List Rule) (pairs : List Pair) (last : Option Pair) → Known c pairs last
    → settle_fault c false (held_at pairs last) ≡ []
settle_fault_at c pairs None known = refl
settle_fault_at c pairs (Some p) known = rw (known.1, no_row p.0 pairs known.2) refl

-- a shape whose words are positions
pub record IsPositional (s : Shape) : Type 0 where
  pub once : s.args_override_self ≡ false
  pub leaf : s.is_leaf ≡ true

module _ (s : Shape) (positional : IsPositional s) (pairs : List Pair) (last : Option Pair) (word : Text)
    (plain : IsPlainWord word) (known : Known s.rules pairs last) where
  word_fault_at : (h : Held) → word_fault s [] false idle word h ≡ []
  word_fault_at h = rw (no_dashes word plain, long_of_plain word plain, short_of_plain word plain) refl

  -- a word for a position has no fault
  pub turn_taken : (k : ℕ) (name : Text) → arg_by_index s.rules (1 + length (pairs ++ waiting last)) ≡ Some (placed k name)
      → turn_fault s [] (walk_at pairs last) word ≡ []
  turn_taken k name found =
      rw (word_met_plain s.rules _ word (held_at pairs last) plain, word_fault_at (held_at pairs last), found, positional.once)
      (by_test (is_pending (placed k name) (held_at pairs last).pending))
    where
      by_test : (b : Bool) → (if b && false then [] else settle_fault s.rules false (held_at pairs last)) ≡ []
      by_test true = settle_fault_at s.rules pairs last known
      by_test false = settle_fault_at s.rules pairs last known

  -- a word past the last position is unknown
  pub turn_stray : arg_by_index s.rules (1 + length (pairs ++ waiting last)) ≡ None
      → turn_fault s [] (walk_at pairs last) word ≡ kind.UnknownArgument ∷ []
  turn_stray none =
      rw (word_met_plain s.rules _ word (held_at pairs last) plain, word_fault_at (held_at pairs last), none, positional.leaf) refl

-- ---- the whole walk

-- each word is plain
abbrev pub EachPlain : List Text → Type 0
EachPlain [] = Unit {0}
EachPlain (word ∷ words) = IsPlainWord word × EachPlain words

abbrev pub words_in : List Pair → List Text
words_in = map (λ p. p.1)

list_all_at : (test : Text → Bool) (before after : List Text) (text : Text) → list_all test (before ++ text ∷ after) ≡ true
    → test text ≡ true
list_all_at test [] after text all = (both _ _ all).0
list_all_at test (b ∷ before) after text all = list_all_at test before after text (both (test b) _ all).1

-- names that are apart
pub apart_lacks : (before after : List Text) (name : Text) → all_differ (before ++ name ∷ after) ≡ true → Lacks name before
apart_lacks [] after name apart = tt
apart_lacks (b ∷ before) after name apart =
    let parts = both _ (all_differ (before ++ name ∷ after)) apart in
    (is_false _ (list_all_at (λ other. not (bytes_eq b other)) before after name parts.0), apart_lacks before after name parts.1)

module _ (names : List Text) (apart : all_differ names ≡ true) (few : length names + 1 < usize_max) (s : Shape)
    (is_positional : IsPositional s) (rules : s.rules ≡ placed_from 1 names) where
  -- where the walk stands: the names of the words met, and those that are left
  abbrev pub Stands : List Pair → Option Pair → List Text → Type 0
  Stands pairs last left = names ≡ names_in (pairs ++ waiting last) ++ left

  count_is : (pairs : List Pair) (last : Option Pair) (left : List Text) → Stands pairs last left
      → length (pairs ++ waiting last) + length left ≡ length names
  count_is pairs last left stands =
      sym (ap length stands ∙ length-append (names_in (pairs ++ waiting last)) left ∙ ap (λ n. n + length left) (length-map (pairs ++ waiting last) (λ p. p.0)))

  -- the next name is found by its place and by its text
  next_found : (pairs : List Pair) (last : Option Pair) (name : Text) (left : List Text) → Stands pairs last (name ∷ left)
      → arg_by_index s.rules (1 + length (pairs ++ waiting last)) ≡ Some (placed (1 + length (pairs ++ waiting last)) name)
  next_found pairs last name left stands =
      let place : 1 + length (pairs ++ waiting last) ≡ 1 + length (names_in (pairs ++ waiting last)) = ap (λ n. 1 + n) (sym (length-map (pairs ++ waiting last) (λ p. p.0))) in
      let count = count_is pairs last (name ∷ left) stands in
      ap (λ c. arg_by_index c (1 + length (pairs ++ waiting last))) (rules ∙ ap (placed_from 1) stands)
      ∙ at_place 1 _ (names_in (pairs ++ waiting last)) left name place (omega arith)

  next_known : (pairs : List Pair) (last : Option Pair) (name word : Text) (left : List Text) → Stands pairs last (name ∷ left)
      → Known s.rules (pairs ++ waiting last) (Some (name, word))
  next_known pairs last name word left stands =
      let place : 1 + length (pairs ++ waiting last) ≡ 1 + length (names_in (pairs ++ waiting last)) = ap (λ n. 1 + n) (sym (length-map (pairs ++ waiting last) (λ p. p.0))) in
      let count = count_is pairs last (name ∷ left) stands in
      let lacks = apart_lacks (names_in (pairs ++ waiting last)) left name (ap all_differ (sym stands) ∙ apart) in (
        1 + length (pairs ++ waiting last),
        ap (λ c. arg_by_id c name) (rules ∙ ap (placed_from 1) stands)
            ∙ by_name 1 _ (names_in (pairs ++ waiting last)) left name lacks place (omega arith),
        lacks,
      )

  next_stands : (pairs : List Pair) (last : Option Pair) (name word : Text) (left : List Text) → Stands pairs last (name ∷ left)
      → Stands (pairs ++ waiting last) (Some (name, word)) left
  next_stands pairs last name word left stands =
      stands ∙ sym (append_assoc (names_in (pairs ++ waiting last)) (name ∷ []) left)
      ∙ ap (λ (ns : List Text). ns ++ left) (sym (map-append (λ p. p.0) (pairs ++ waiting last) ((name, word) ∷ [])))

  -- the end of a walk over words for which there are positions
  pub record Walked (pairs : List Pair) (last : Option Pair) (words : List Text) : Type 0 where
    pub met : List Pair
    pub still : Option Pair
    pub left : List Text
    pub walk : fold (walked s.rules []) (walk_at pairs last) words ≡ walk_at met still
    pub clean : walk_fault s [] (walk_at pairs last) words ≡ []
    pub known : Known s.rules met still
    pub stands : Stands met still left
    pub taken : words_in (met ++ waiting still) ≡ words_in (pairs ++ waiting last) ++ words

  pub walk_on : (pairs : List Pair) (last : Option Pair) (left words : List Text) → Stands pairs last left → Known s.rules pairs last
      → EachPlain words → length words ≤ length left → Walked pairs last words
  unfolding walk_fault
  walk_on pairs last left [] stands known plain room = record {
    met = pairs;
    still = last;
    left = left;
    walk = refl;
    clean = refl;
    known = known;
    stands = stands;
    taken = sym (append-nil _);
  }
  walk_on pairs last [] (word ∷ words) stands known plain room = absurd (omega arith)
  walk_on pairs last (name ∷ left) (word ∷ words) stands known plain room =
      let found = next_found pairs last name left stands in
      let count = count_is pairs last (name ∷ left) stands in
      let step = walked_at s.rules pairs last name word plain.0 known (omega arith) found in
      let turn = turn_taken s is_positional pairs last word plain.0 known _ name found in
      let more = walk_on (pairs ++ waiting last) (Some (name, word)) left words (next_stands pairs last name word left stands)
      (next_known pairs last name word left stands) plain.1 (omega arith) in
      record {
        met = more.met;
        still = more.still;
        left = more.left;
        walk = ap (λ w. fold (walked s.rules []) w words) step ∙ more.walk;
        clean = rw (turn, step) more.clean;
        known = more.known;
        stands = more.stands;
        taken = more.taken ∙ ap (λ (ws : List Text). ws ++ words) (map-append (λ p. p.1) (pairs ++ waiting last) ((name, word) ∷ []))
            ∙ append_assoc (words_in (pairs ++ waiting last)) (word ∷ []) words;
      }

  -- one word too many
  pub walk_past : (pairs : List Pair) (last : Option Pair) (left words : List Text) → Stands pairs last left → Known s.rules pairs last
      → EachPlain words → length left < length words → walk_fault s [] (walk_at pairs last) words ≡ kind.UnknownArgument ∷ []
  unfolding walk_fault
  walk_past pairs last left [] stands known plain over = absurd (omega arith)
  walk_past pairs last [] (word ∷ words) stands known plain over =
      let count = count_is pairs last [] stands in
      let none : arg_by_index s.rules (1 + length (pairs ++ waiting last)) ≡ None =
      ap (λ c. arg_by_index c (1 + length (pairs ++ waiting last))) rules
      ∙ past_places 1 _ names (omega arith) (omega arith) in
      rw (turn_stray s is_positional pairs last word plain.0 known none) refl
  walk_past pairs last (name ∷ left) (word ∷ words) stands known plain over =
      let found = next_found pairs last name left stands in
      let count = count_is pairs last (name ∷ left) stands in
      let step = walked_at s.rules pairs last name word plain.0 known (omega arith) found in
      let turn = turn_taken s is_positional pairs last word plain.0 known _ name found in
      rw (turn, step) (walk_past (pairs ++ waiting last) (Some (name, word)) left words (next_stands pairs last name word left stands)
      (next_known pairs last name word left stands) plain.1 (omega arith))

-- ---- building

pub positions_more : (command : Text) (names : List (Bor Text)) (i : ℕ) (d : Bor Text) → i < length names
    → with_rule (positions_app command (map (λ s. s.now) (take i names))) (position_rule (get_or names i d).now)
    ≡ positions_app command (map (λ s. s.now) (take (i + 1) names))
positions_more command names i d within =
    let more : map (λ s. s.now) (take (i + 1) names) ≡ map (λ s. s.now) (take i names) ++ (get_or names i d).now ∷ [] =
    ap (λ n. map (λ s. s.now) (take n names)) (add-one i)
    ∙ ap (map (λ s. s.now)) (take-suc names i d within) ∙ map-append (λ s. s.now) (take i names) (get_or names i d ∷ []) in
    ap (λ rules. record { top = record (new_shape command) { rules = rules; disable_help_flag = true }; subs = [] })
    (sym (map-append position_rule (map (λ s. s.now) (take i names)) ((get_or names i d).now ∷ []))
    ∙ ap (map position_rule) (sym more))
