-- What a parse of a command with positions alone gives, and when it fails.
use Rattle.std.proofs.Common.{◌≡◌, ℕ, ◌+◌, ◌<◌, ◌≤◌, List, [], ◌∷◌, ◌++◌, length, map, Bool, true, false, not, ◌&&◌, ◌||◌, Option, Some, None, refl, sym, ap, ap₂, ◌∙◌, arith, append_assoc, append-nil, length-append, find, fold, drop, ⊎_elim, unwrap_or, is_some, Bor, subst, ◌-◌, length-drop, slice_range, if◌then◌else◌}
use Rattle.std.proofs.lemmas.List.{map-append, length-map, drop-map, take_all}
use Rattle.std.proofs.lemmas.Bool.{cases_order}
use Rattle.std.proofs.lemmas.List.Elements.{All-head, All-tail, All-nil, All-cons}
use Rattle.std.specs.List.{All, list_all, list_any}
use Rattle.std.specs.Str.{bytes_eq}
use Rattle.clap.specs.Lexer.{usize_max}
use Rattle.clap.specs.Walk.{Rule, Row, Text, Held, Walk, settled_rows, with_default, default_rows, reading_by, finished, has_row, rows_of, first_of, is_early_multiple}
use Rattle.clap.specs.Simple.{App, Shape, HasMatchesOf, built, is_simple, matches_of, new_shape}
use Rattle.clap.specs.Matches.{found_of, first_value}
use Rattle.clap.specs.Values.{kind_of}
use Rattle.clap.specs.declared.error.Error.{Error}
use Rattle.clap.specs.declared.parser.matches.ArgMatches.{ArgMatches}
use Rattle.clap.proofs.WalkLemmas.{first_value-rows}
use Rattle.clap.specs.Takes.{is_given}
use Rattle.clap.specs.Kinds.{HasKind, IsAmong}
use Rattle.clap.specs.Faults.{default_fault, given_default_fault, defaults_fault, fault_of, is_simple_and_free}
use Rattle.clap.specs.declared.error.kind.ErrorKind.TheVariants as kind
use Rattle.command_tables.specs.Positions.{IsPlainWord, ArePlain, FitPositions, all_differ, position_rule, positions_app}
use Rattle.command_tables.proofs.WalkOfPositions.{placed, placed_from, next_of, Lacks, Pair, names_in, words_in, row_for, waiting, pending_for, IsPositional, EachPlain, Walked, walk_on, walk_past, settled_any, settle_fault_at, apart_lacks, same_text}

-- ---- the command is simple

-- what building makes of the command
abbrev pub built_top : Text → List Text → Shape
built_top command names = record (new_shape command) {
  rules = placed_from 1 names;
  disable_help_flag = true;
  disable_help_subcommand = true;
  is_built = true;
}

pub built_is : (command : Text) (names : List Text) → built (positions_app command names) ≡ record { top = built_top command names; subs = [] }
built_is command names = refl

simple_before : (names : List Text) → list_all (λ a. a.is_simple) (map position_rule names) ≡ true
simple_before [] = refl
simple_before (n ∷ names) = simple_before names

simple_after : (i : ℕ) (names : List Text) → list_all (λ a. a.is_simple) (placed_from i names) ≡ true
simple_after i [] = refl
simple_after i (n ∷ names) = simple_after (next_of i) names

free_after : (i : ℕ) (names : List Text) → list_all (λ a. a.is_free) (placed_from i names) ≡ true
free_after i [] = refl
free_after i (n ∷ names) = free_after (next_of i) names

none_early : (count i : ℕ) (names : List Text) → list_any (is_early_multiple count) (placed_from i names) ≡ false
none_early count i [] = refl
none_early count i (n ∷ names) = none_early count (next_of i) names

pub simple_is : (command : Text) (names : List Text) → is_simple (positions_app command names) ≡ true
simple_is command names = rw (simple_before names, simple_after 1 names, none_early _ 1 names) refl

pub free_is : (command : Text) (names : List Text) → is_simple_and_free (positions_app command names) ≡ true
free_is command names = rw (simple_is command names, free_after 1 names) refl

-- ---- lists

is_nil : {X : Type 0} (xs : List X) → length xs ≡ 0 → xs ≡ []
is_nil [] none = refl
is_nil (x ∷ xs) none = absurd (omega arith)

cons_not_nil : {X : Type 0} (x : X) (xs : List X) → x ∷ xs ≡ [] → ⊥
cons_not_nil x xs e = let long : length (x ∷ xs) ≡ 0 = ap length e in omega arith

-- ---- rows

-- the row of a name
pub row_found : (before after : List Pair) (p : Pair) → Lacks p.0 (names_in before)
    → find (λ r. bytes_eq r.id p.0) (map row_for (before ++ p ∷ after)) ≡ Some (row_for p)
row_found [] after p lacks = rw (same_text p.0) refl
row_found (b ∷ before) after p lacks = rw lacks.0 (row_found before after p lacks.1)

row_lost : (pairs : List Pair) (name : Text) → Lacks name (names_in pairs) → find (λ r. bytes_eq r.id name) (map row_for pairs) ≡ None
row_lost [] name lacks = refl
row_lost (p ∷ pairs) name lacks = rw lacks.0 (row_lost pairs name lacks.1)

-- a default changes nothing
no_default : (i : ℕ) (name : Text) (rows : List Row) → with_default rows (placed i name) ≡ rows
no_default i name rows = by_test (has_row name rows)
  where
    by_test : (b : Bool) → (if b then rows else default_rows name (reading_by (placed i name)) [] rows) ≡ rows
    by_test true = refl
    by_test false = refl

no_defaults : (i : ℕ) (names : List Text) (rows : List Row) → fold with_default rows (placed_from i names) ≡ rows
no_defaults i [] rows = refl
no_defaults i (n ∷ names) rows =
    ap (λ r. fold with_default r (placed_from (next_of i) names)) (no_default i n rows) ∙ no_defaults (next_of i) names rows

no_default_fault : (i : ℕ) (name : Text) (rows : List Row) → default_fault rows (placed i name) ≡ []
no_default_fault i name rows = by_test (has_row name rows)
  where
    by_test : (b : Bool) → (if b || true then [] else given_default_fault (placed i name) []) ≡ []
    by_test true = refl
    by_test false = refl

no_defaults_fault : (i : ℕ) (names : List Text) (rows : List Row) → defaults_fault rows (placed_from i names) ≡ []
unfolding defaults_fault
no_defaults_fault i [] rows = refl
no_defaults_fault i (n ∷ names) rows =
    rw (no_default_fault i n rows, no_default i n rows) (no_defaults_fault (next_of i) names rows)

-- ---- what is missing

-- the argument is required, and no row has it
abbrev pub is_missing : List Row → Rule → Bool
is_missing rows a = a.required && not (is_given a.id rows)

none_missing : (i : ℕ) (before after : List Pair) → all_differ (names_in (before ++ after)) ≡ true
    → list_any (is_missing (map row_for (before ++ after))) (placed_from i (names_in after)) ≡ false
none_missing i before [] apart = refl
none_missing i before (p ∷ after) apart =
    let lacks = apart_lacks (names_in before) (names_in after) p.0 (ap all_differ (sym (map-append (λ q. q.0) before (p ∷ after))) ∙ apart) in
    let shift : (before ++ p ∷ []) ++ after ≡ before ++ p ∷ after = append_assoc before (p ∷ []) after in
    let more = none_missing (next_of i) (before ++ p ∷ []) after (ap (λ ps. all_differ (names_in ps)) shift ∙ apart) in
    rw (row_found before after p lacks) (ap (λ ps. list_any (is_missing (map row_for ps)) (placed_from (next_of i) (names_in after))) (sym shift) ∙ more)

one_missing : (i : ℕ) (before after : List Text) (name : Text) (pairs : List Pair) → Lacks name (names_in pairs)
    → list_any (is_missing (map row_for pairs)) (placed_from i (before ++ name ∷ after)) ≡ true
one_missing i [] after name pairs lacks = rw (row_lost pairs name lacks) refl
one_missing i (b ∷ before) after name pairs lacks =
    rw (one_missing (next_of i) before after name pairs lacks) (by_test _)
  where
    by_test : (b : Bool) → (b || true) ≡ true
    by_test true = refl
    by_test false = refl

-- ---- the whole parse

module _ (command : Text) (names : List Text) (apart : all_differ names ≡ true) (few : length names + 1 < usize_max)
    (first : Text) (words : List Text) (plain : EachPlain words) where
  is_positional : IsPositional (built_top command names)
  is_positional = record { once = refl; leaf = refl }

  -- with a word for each name at most
  module _ (room : length words ≤ length names) where
    walked_all : Walked names apart few (built_top command names) is_positional refl [] None words
    walked_all = walk_on names apart few (built_top command names) is_positional refl [] None names words refl tt plain room

    pub all_pairs : List Pair
    all_pairs = walked_all.met ++ waiting walked_all.still

    names_are : names ≡ names_in all_pairs ++ walked_all.left
    unfolding all_pairs
    names_are = walked_all.stands

    pub words_are : words_in all_pairs ≡ words
    unfolding all_pairs
    words_are = walked_all.taken

    pairs_apart : all_differ (names_in all_pairs ++ walked_all.left) ≡ true
    pairs_apart = ap all_differ (sym names_are) ∙ apart

    -- the rows of the matches are the pairs
    pub rows_are : matches_of (positions_app command names) (first ∷ words) ≡ map row_for all_pairs
    unfolding all_pairs
    rows_are =
        let w = walked_all in
        ap (λ (x : Walk). finished (placed_from 1 names) x.held) w.walk
        ∙ ap (λ (h : Held). fold with_default h.rows (placed_from 1 names)) (settled_any (placed_from 1 names) w.met w.still w.known)
        ∙ no_defaults 1 names (map row_for (w.met ++ waiting w.still))

    -- the fault is that of what is missing
    pub fault_is : fault_of (positions_app command names) (first ∷ words)
        ≡ (if list_any (is_missing (map row_for all_pairs)) (placed_from 1 names) then kind.MissingRequiredArgument ∷ [] else [])
    unfolding all_pairs
    fault_is =
        let w = walked_all in
        let rows : settled_rows (placed_from 1 names) (pending_for w.still) (map row_for w.met) ≡ map row_for (w.met ++ waiting w.still) =
        ap (λ (h : Held). h.rows) (settled_any (placed_from 1 names) w.met w.still w.known) in
        rw (
          w.clean,
          w.walk,
          settle_fault_at (placed_from 1 names) w.met w.still w.known,
          rows,
          no_defaults_fault 1 names (map row_for (w.met ++ waiting w.still)),
          no_defaults 1 names (map row_for (w.met ++ waiting w.still)),
        )
        refl

    count_is : length words + length walked_all.left ≡ length names
    count_is =
        let counted : length (words_in all_pairs) ≡ length all_pairs = length-map all_pairs (λ p. p.1) in
        let named : length (names_in all_pairs) ≡ length all_pairs = length-map all_pairs (λ p. p.0) in
        let both_long : length names ≡ length (names_in all_pairs) + length walked_all.left =
        ap length names_are ∙ length-append (names_in all_pairs) walked_all.left in
        let long : length words ≡ length all_pairs = ap length (sym words_are) ∙ counted in
        omega arith

    -- as many words as names
    pub names_are_pairs : length words ≡ length names → names_in all_pairs ≡ names
    names_are_pairs same =
        sym (names_are ∙ ap (λ (l : List Text). names_in all_pairs ++ l) (is_nil walked_all.left (omega (arith, count_is))) ∙ append-nil _)

    pub no_fault : length words ≡ length names → fault_of (positions_app command names) (first ∷ words) ≡ []
    no_fault same =
        let named = names_are_pairs same in
        let none = none_missing 1 [] all_pairs (ap all_differ named ∙ apart) in
        let none_named : list_any (is_missing (map row_for all_pairs)) (placed_from 1 names) ≡ false =
        ap (λ ns. list_any (is_missing (map row_for all_pairs)) (placed_from 1 ns)) (sym named) ∙ none in
        fault_is ∙ ap (λ b. if b then kind.MissingRequiredArgument ∷ [] else []) none_named

    -- fewer words
    pub short_fault : length words < length names → fault_of (positions_app command names) (first ∷ words) ≡ kind.MissingRequiredArgument ∷ []
    short_fault fewer = by_left walked_all.left names_are (omega (arith, count_is))
      where
        by_left : (left : List Text) → names ≡ names_in all_pairs ++ left → 0 < length left
            → fault_of (positions_app command names) (first ∷ words) ≡ kind.MissingRequiredArgument ∷ []
        by_left [] is some = absurd (omega arith)
        by_left (name ∷ left) is some =
            let lacks = apart_lacks (names_in all_pairs) left name (ap all_differ (sym is) ∙ apart) in
            let missing : list_any (is_missing (map row_for all_pairs)) (placed_from 1 names) ≡ true =
            ap (λ ns. list_any (is_missing (map row_for all_pairs)) (placed_from 1 ns)) is
            ∙ one_missing 1 (names_in all_pairs) left name all_pairs lacks in
            fault_is ∙ ap (λ b. if b then kind.MissingRequiredArgument ∷ [] else []) missing

  -- more words
  pub long_fault : length names < length words → fault_of (positions_app command names) (first ∷ words) ≡ kind.UnknownArgument ∷ []
  long_fault more =
      rw (walk_past names apart few (built_top command names) is_positional refl [] None names words refl tt plain more) refl

  -- a parse has no fault exactly at as many words as names
  pub fault_tells : fault_of (positions_app command names) (first ∷ words) ≡ [] → length words ≡ length names
  fault_tells clean = ⊎_elim
      (λ same. same)
      (λ others. ⊎_elim
      (λ fewer. absurd (cons_not_nil _ _ (sym (short_fault (omega arith) fewer) ∙ clean)))
      (λ more. absurd (cons_not_nil _ _ (sym (long_fault more) ∙ clean))) others)
      (cases_order (length words) (length names))

-- ---- values

-- the value of each name is its word
pub values_are : (before after : List Pair) → all_differ (names_in (before ++ after)) ≡ true
    → map (λ name. first_of name (map row_for (before ++ after))) (names_in after) ≡ map (λ word. Some word) (words_in after)
values_are before [] apart = refl
values_are before (p ∷ after) apart =
    let lacks = apart_lacks (names_in before) (names_in after) p.0 (ap all_differ (sym (map-append (λ q. q.0) before (p ∷ after))) ∙ apart) in
    let shift : (before ++ p ∷ []) ++ after ≡ before ++ p ∷ after = append_assoc before (p ∷ []) after in
    let more = values_are (before ++ p ∷ []) after (ap (λ ps. all_differ (names_in ps)) shift ∙ apart) in
    ap₂ ◌∷◌ (rw (row_found before after p lacks) refl)
    (ap (λ ps. map (λ name. first_of name (map row_for ps)) (names_in after)) (sym shift) ∙ more)

-- a list under `Some` is known
pub some_words : (xs ys : List Text) → map (λ x. Some x) xs ≡ map (λ y. Some y) ys → xs ≡ ys
some_words xs ys same = sym (opened xs) ∙ ap (map (λ (o : Option Text). unwrap_or o [])) same ∙ opened ys
  where
    opened : (zs : List Text) → map (λ (o : Option Text). unwrap_or o []) (map (λ z. Some z) zs) ≡ zs
    opened [] = refl
    opened (z ∷ zs) = ap (λ (t : List Text). z ∷ t) (opened zs)

-- ---- over words with the command's own

each_plain : (words : List Text) → ArePlain words → EachPlain words
each_plain [] all = tt
each_plain (word ∷ words) all = (All-head IsPlainWord word words all, each_plain words (All-tail IsPlainWord word words all))

module _ (command : Text) (names : List Text) (apart : all_differ names ≡ true) (few : length names < 1000) where
  pub whole_tells : (words : List Text) → 0 < length words → ArePlain (drop 1 words)
      → fault_of (positions_app command names) words ≡ [] → length words ≡ length names + 1
  whole_tells [] some plain clean = absurd (omega arith)
  whole_tells (first ∷ words) some plain clean =
      let same = fault_tells command names apart (omega arith) first words (each_plain words plain) clean in
      omega arith

  pub whole_clean : (words : List Text) → 0 < length words → ArePlain (drop 1 words) → length words ≡ length names + 1
      → fault_of (positions_app command names) words ≡ []
  whole_clean [] some plain same = absurd (omega arith)
  whole_clean (first ∷ words) some plain same =
      let equal : length words ≡ length names = omega arith in
      no_fault command names apart (omega arith) first words (each_plain words plain) (omega arith) equal

  pub whole_values : (words : List Text) → 0 < length words → ArePlain (drop 1 words) → length words ≡ length names + 1
      → map (λ name. first_of name (matches_of (positions_app command names) words)) names ≡ map (λ word. Some word) (drop 1 words)
  whole_values [] some plain same = absurd (omega arith)
  whole_values (first ∷ words) some plain same =
      let equal : length words ≡ length names = omega arith in
      let small : length names + 1 < usize_max = omega arith in
      let room : length words ≤ length names = omega arith in
      let pairs = all_pairs command names apart small first words (each_plain words plain) room in
      let named : names_in pairs ≡ names = names_are_pairs command names apart small first words (each_plain words plain) room equal in
      let worded : words_in pairs ≡ words = words_are command names apart small first words (each_plain words plain) room in
      let rows : matches_of (positions_app command names) (first ∷ words) ≡ map row_for pairs = rows_are command names apart small first words (each_plain words plain) room in
      ap₂ (λ r ns. map (λ name. first_of name r) ns) rows (sym named)
      ∙ values_are [] pairs (ap all_differ named ∙ apart) ∙ ap (map (λ word. Some word)) worded

-- each name has a value where the values are those
pub each_some : {X : Type 0} (f : X → Option Text) (xs : List X) (words : List Text) → map f xs ≡ map (λ word. Some word) words
    → All (λ x. is_some (f x) ≡ true) xs
each_some f [] words same = All-nil (λ x. is_some (f x) ≡ true)
each_some f (x ∷ xs) [] same = absurd (cons_not_nil _ _ same)
each_some f (x ∷ xs) (word ∷ words) same =
    let head : f x ≡ Some word = cc in
    let tail : map f xs ≡ map (λ w. Some w) words = cc in
    All-cons (λ y. is_some (f y) ≡ true) x xs (ap is_some head) (each_some f xs words tail)

-- ---- what a parse tells

module _ {W : Type 0} (text_of : W → Text) (a : App) (command : Text) (names : List (Bor Text)) (words : List W) (is : a ≡ positions_app command (map (λ s. s.now) names))
    (apart : all_differ (map (λ s. s.now) names) ≡ true) (few : length names < 1000) (some : 0 < length words)
    (plain : ArePlain (drop 1 (map text_of words))) where
  few_texts : length (map (λ s. s.now) names) < 1000
  few_texts = rw (length-map names (λ s. s.now)) few

  some_texts : 0 < length (map text_of words)
  some_texts = rw (length-map words text_of) some

  free : is_simple_and_free a ≡ true
  free = ap is_simple_and_free is ∙ free_is command (map (λ s. s.now) names)

  pub parse_count : (is_simple_and_free a ≡ true → fault_of a (map text_of words) ≡ []) → length words ≡ length names + 1
  parse_count kinds =
      let clean = ap (λ b. fault_of b (map text_of words)) (sym is) ∙ kinds free in
      let same = whole_tells command (map (λ s. s.now) names) apart few_texts (map text_of words) some_texts plain clean in
      let names_long : length (map (λ s. s.now) names) ≡ length names = length-map names (λ s. s.now) in
      let words_long : length (map text_of words) ≡ length words = length-map words text_of in
      omega arith

  same_texts : length words ≡ length names + 1 → length (map text_of words) ≡ length (map (λ s. s.now) names) + 1
  same_texts same = rw (length-map names (λ s. s.now), length-map words text_of) same

  pub parse_values : (m : ArgMatches) → HasMatchesOf a (map text_of words) m
      → (is_simple_and_free a ≡ true → fault_of a (map text_of words) ≡ [])
      → map (λ name. first_value (found_of m) name.now) names ≡ map (λ word. Some word) (drop 1 (map text_of words))
  parse_values m matches kinds =
      let same = same_texts (parse_count kinds) in
      let rows : rows_of (found_of m) ≡ matches_of (positions_app command (map (λ s. s.now) names)) (map text_of words) =
      (matches (ap is_simple is ∙ simple_is command (map (λ s. s.now) names))).0 ∙ ap (λ b. matches_of b (map text_of words)) is in
      let by_rows : (name : Text) → first_value (found_of m) name ≡ first_of name (matches_of (positions_app command (map (λ s. s.now) names)) (map text_of words)) =
      λ name. first_value-rows (found_of m) name ∙ ap (first_of name) rows in
      by_each (λ name. first_value (found_of m) name) (λ name. first_of name (matches_of (positions_app command (map (λ s. s.now) names)) (map text_of words))) by_rows names
      ∙ whole_values command (map (λ s. s.now) names) apart few_texts (map text_of words) some_texts plain same
    where
      by_each : (f g : Text → Option Text) → ((t : Text) → f t ≡ g t) → (xs : List (Bor Text)) → map (λ x. f x.now) xs ≡ map g (map (λ x. x.now) xs)
      by_each f g same [] = refl
      by_each f g same (x ∷ xs) = ap₂ ◌∷◌ (same x.now) (by_each f g same xs)

  pub parse_usage : (e : Error) → (is_simple_and_free a ≡ true → HasKind (fault_of a (map text_of words)) e)
      → (kind_of e ≡ kind.OutOfMemory → ⊥) → length words ≡ length names + 1 → ⊥
  parse_usage e kinds ample same =
      let clean : fault_of a (map text_of words) ≡ [] =
      ap (λ b. fault_of b (map text_of words)) is
      ∙ whole_clean command (map (λ s. s.now) names) apart few_texts (map text_of words) some_texts plain (same_texts same) in
      ⊎_elim ample (λ among. absurd (subst (λ ks. IsAmong (kind_of e) ks) clean among)) (kinds free)

-- references whose texts are known under `Some`
pub some_texts_are : (refs : List (Bor Text)) (texts : List Text) → map (λ r. Some r.now) refs ≡ map (λ t. Some t) texts
    → map (λ r. r.now) refs ≡ texts
some_texts_are refs texts same = some_words (map (λ r. r.now) refs) texts (sym (each refs) ∙ same)
  where
    each : (rs : List (Bor Text)) → map (λ r. Some r.now) rs ≡ map (λ t. Some t) (map (λ r. r.now) rs)
    each [] = refl
    each (r ∷ rs) = ap (λ (os : List (Option Text)). Some r.now ∷ os) (each rs)

-- ---- plain words

module _ {W : Type 0} (text_of : W → Text) where
  plain_texts : (words : List W) → All (λ w. IsPlainWord (text_of w)) words → ArePlain (map text_of words)
  plain_texts [] all = All-nil IsPlainWord
  plain_texts (w ∷ words) all = All-cons IsPlainWord (text_of w) (map text_of words)
      (All-head (λ v. IsPlainWord (text_of v)) w words all) (plain_texts words (All-tail (λ v. IsPlainWord (text_of v)) w words all))

  texts_plain : (words : List W) → ArePlain (map text_of words) → All (λ w. IsPlainWord (text_of w)) words
  texts_plain [] all = All-nil (λ w. IsPlainWord (text_of w))
  texts_plain (w ∷ words) all = All-cons (λ v. IsPlainWord (text_of v)) w words
      (All-head IsPlainWord (text_of w) (map text_of words) all) (texts_plain words (All-tail IsPlainWord (text_of w) (map text_of words) all))

  -- the words behind the first, as a range of the slice
  rest_is : (words : List W) → slice_range words 1 (length words) ≡ drop 1 words
  rest_is words = take_all (length words - 1) (drop 1 words) (rw length-drop (omega arith))

  pub plain_rest : (words : List W) → All (λ w. IsPlainWord (text_of w)) (slice_range words 1 (length words)) → ArePlain (drop 1 (map text_of words))
  plain_rest words all = rw (drop-map text_of 1 words) (plain_texts (drop 1 words) (subst (λ ws. All (λ w. IsPlainWord (text_of w)) ws) (rest_is words) all))

  pub rest_plain : (words : List W) → ArePlain (drop 1 (map text_of words)) → All (λ w. IsPlainWord (text_of w)) (slice_range words 1 (length words))
  rest_plain words all =
      subst (λ ws. All (λ w. IsPlainWord (text_of w)) ws) (sym (rest_is words))
      (texts_plain (drop 1 words) (subst ArePlain (drop-map text_of 1 words) all))

  pub fit_positions : (names : List (Bor Text)) (words : List W) → ArePlain (drop 1 (map text_of words))
      → length words ≡ length names + 1 → FitPositions (map (λ s. s.now) names) (map text_of words)
  fit_positions names words plain same = (plain, rw (length-map names (λ s. s.now), length-map words text_of) same)
