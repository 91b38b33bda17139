-- Where no step of a command line has a fault, the values that its matches have passed the parsers of their arguments. The
-- arguments are such that take values, have no short name and no default.
use Rattle.std.proofs.Common.{◌≡◌, ◌⊎◌, ℕ, zero, suc, Bool, true, false, cond, ◌&&◌, List, [], ◌∷◌, ◌++◌, Option, Some, None, is_some, refl, sym, subst, inl, inr}
use Rattle.std.specs.List.{find, fold}
use Rattle.std.specs.Option.{option_map_or}
use Rattle.std.specs.Prelude.{drop, encode_utf8, length, option_and_then, slice_get, ⊤}
use Rattle.std.specs.Str.{bytes_eq, chars}
use Rattle.std.proofs.lemmas.Slice.Eq.{bytes_eq-Decides}
use Rattle.clap.proofs.ValueTestLemmas.{accepts-Accepts}
use Rattle.clap.specs.Facts.{parser_of_value}
use Rattle.clap.specs.Faults.{action_fault, built_fault, flag_word_fault, long_fault, option_fault, other_fault, positional_fault, react_fault, set_fault, settle_fault, step_fault, stray_fault, turn_fault, use_fault, walk_fault, word_fault}
use Rattle.clap.specs.Kinds.{Kinds, or_else, value_kinds, values_kinds}
use Rattle.clap.specs.Lexer.{long_of, short_of}
use Rattle.clap.specs.Simple.{App, Shape, names_of}
use Rattle.clap.specs.Values.{Accepts}
use Rattle.clap.specs.Walk.{Held, Names, Outcome, Row, Rule, Step, Text, Waiting, Walk, action_of, after_flag, after_step, arg_by_id, arg_by_index, arg_by_long, arg_by_short, at_row, bundle, bundle_met, bundle_step, default_rows, done, first_of, flag_met, has_row, idle, is_pending, long_met, long_or_other, more_values, next, nothing_held, option, option_met, option_word, plain, plain_word, positional, reacted, reading_by, refused, rows_after, settled, settled_rows, short_met, short_or_plain, subcommand, subcommand_met, subcommand_or_other, takes_several, takes_values, to_positional, trailing, used, used_as, used_by_id, value, values_or_missing, waits, walk, walk_from, walked, walked_from, with_default, with_values, without, word_met}
use Rattle.clap.specs.declared.builder.action.ArgAction.{ArgAction}
use Rattle.clap.specs.declared.builder.action.ArgAction.TheVariants.{Set}
use Rattle.clap.specs.declared.builder.value_parser.Reading.{Reading}
use Rattle.clap.specs.declared.error.kind.ErrorKind.{ErrorKind}
use Rattle.clap.specs.declared.error.kind.ErrorKind.TheVariants.{TooManyValues}
use Rattle.clap.specs.declared.parser.matches.ValueSource.{ValueSource}

-- ---- kinds of fault

or_none : (a b : Kinds) → or_else a b ≡ [] → (a ≡ []) × (b ≡ [])
or_none [] b e = (refl, e)
or_none (k ∷ ks) b e = cc

passed : (b : Bool) (k : ErrorKind) → cond b [] (k ∷ []) ≡ [] → b ≡ true
passed true k e = refl
passed false k e = cc

-- ---- the rules, and the parser of an id

-- a value of the id, where this rule has it
abbrev or_taken : Bool → Type 0 → Type 0 → Type 0
or_taken true Here Later = Here ⊎ Later
or_taken false Here Later = Later

-- one of the rules has the id, and its parser takes the value
abbrev pub IsTaken : List ℕ → List ℕ → List Rule → Type 0
IsTaken id text [] = ⊥
IsTaken id text (r ∷ rs) = or_taken (bytes_eq r.id id) (Accepts r.ignore_case (parser_of_value r.parser) text) (IsTaken id text rs)

taken_here : (b : Bool) (Here Later : Type 0) → b ≡ true → Here → or_taken b Here Later
taken_here true Here Later e h = inl h
taken_here false Here Later e h = cc

taken_later : (b : Bool) (Here Later : Type 0) → Later → or_taken b Here Later
taken_later true Here Later h = inr h
taken_later false Here Later h = h

taken_by : (p : Rule → Bool) (a : Rule) (text : List ℕ) (c : List Rule) → find p c ≡ Some a → Accepts a.ignore_case (parser_of_value a.parser) text
    → IsTaken a.id text c
taken_by p a text [] e h = cc
taken_by p a text (r ∷ rs) e h = go (p r) (λ later. taken_by p a text rs later h) e
  where
    go : (b : Bool) → (find p rs ≡ Some a → IsTaken a.id text rs) → cond b (Some r) (find p rs) ≡ Some a → IsTaken a.id text (r ∷ rs)
    go true rec same =
        let is : r ≡ a = cc in
        subst (λ (x : Rule). IsTaken a.id text (x ∷ rs)) (sym is) (taken_here (bytes_eq a.id a.id) _ _ ((bytes_eq-Decides a.id a.id).1 refl) h)
    go false rec later = taken_later (bytes_eq r.id a.id) _ _ (rec later)

-- each rule sets its values
abbrev pub AllSet : List Rule → Type 0
AllSet [] = ⊤
AllSet (r ∷ rs) = (action_of r ≡ Set) × AllSet rs

set_by : (p : Rule → Bool) (a : Rule) (c : List Rule) → AllSet c → find p c ≡ Some a → action_of a ≡ Set
set_by p a [] all e = cc
set_by p a (r ∷ rs) all e = go (p r) (λ later. set_by p a rs all.1 later) e
  where
    go : (b : Bool) → (find p rs ≡ Some a → action_of a ≡ Set) → cond b (Some r) (find p rs) ≡ Some a → action_of a ≡ Set
    go true rec same = let is : r ≡ a = cc in subst (λ (x : Rule). action_of x ≡ Set) is all.0
    go false rec later = rec later

-- no rule has a default
abbrev pub NoDefault : List Rule → Type 0
NoDefault [] = ⊤
NoDefault (r ∷ rs) = (r.defaults ≡ []) × NoDefault rs

-- ---- rows whose values passed

abbrev ValuesPass : List Rule → List ℕ → List Text → Type 0
ValuesPass c id [] = ⊤
ValuesPass c id (v ∷ vs) = IsTaken id v c × ValuesPass c id vs

abbrev RowsPass : List Rule → List Row → Type 0
RowsPass c [] = ⊤
RowsPass c (r ∷ rs) = ValuesPass c r.id r.values × RowsPass c rs

values_join : (c : List Rule) (id : List ℕ) (xs ys : List Text) → ValuesPass c id xs → ValuesPass c id ys → ValuesPass c id (xs ++ ys)
values_join c id [] ys p q = q
values_join c id (x ∷ xs) ys p q = (p.0, values_join c id xs ys p.1 q)

rows_join : (c : List Rule) (xs ys : List Row) → RowsPass c xs → RowsPass c ys → RowsPass c (xs ++ ys)
rows_join c [] ys p q = q
rows_join c (x ∷ xs) ys p q = (p.0, rows_join c xs ys p.1 q)

rows_at : (c : List Rule) (id : List ℕ) (change : Row → List Row) (missing rows : List Row)
    → ((r : Row) → bytes_eq r.id id ≡ true → ValuesPass c r.id r.values → RowsPass c (change r))
    → RowsPass c missing → RowsPass c rows → RowsPass c (at_row id change missing rows)
rows_at c id change missing [] step miss ok = miss
rows_at c id change missing (r ∷ rs) step miss ok = go (bytes_eq r.id id) refl (rows_at c id change missing rs step miss ok.1)
  where
    go : (b : Bool) → bytes_eq r.id id ≡ b → RowsPass c (at_row id change missing rs)
        → RowsPass c (cond b (change r ++ rs) (r ∷ at_row id change missing rs))
    go true e rec = rows_join c (change r) rs (step r e ok.0) ok.1
    go false e rec = (ok.0, rec)

with_pass : (c : List Rule) (id : List ℕ) (how : Reading) (s : ValueSource) (values : List Text) (rows : List Row) → ValuesPass c id values
    → RowsPass c rows → RowsPass c (with_values id how s values rows)
with_pass c id how s values rows new ok =
    rows_at c id (more_values s values) _ rows
    (λ r same old. (values_join c r.id r.values values old (subst (λ (i : List ℕ). ValuesPass c i values) (sym ((bytes_eq-Decides r.id id).0 same)) new), tt))
    (new, tt) ok

without_pass : (c : List Rule) (id : List ℕ) (rows : List Row) → RowsPass c rows → RowsPass c (without id rows)
without_pass c id rows ok = rows_at c id (λ r. []) [] rows (λ r same old. tt) tt ok

-- ---- one use of an argument

values_by : (p : Rule → Bool) (a : Rule) (c : List Rule) (vs : List Text) → find p c ≡ Some a → values_kinds a.ignore_case (parser_of_value a.parser) vs ≡ []
    → ValuesPass c a.id vs
values_by p a c [] found e = tt
values_by p a c (v ∷ vs) found e =
    let parts = or_none (value_kinds a.ignore_case (parser_of_value a.parser) v) _ e in
    (taken_by p a v c found (accepts-Accepts a.ignore_case (parser_of_value a.parser) v (passed _ _ parts.0)), values_by p a c vs found parts.1)

module _ (c : List Rule) (again : Bool) (sets : AllSet c) where
  use_pass : (p : Rule → Bool) (a : Rule) (values : List Text) (rows : List Row) → find p c ≡ Some a → use_fault again a values rows ≡ []
      → RowsPass c rows → RowsPass c (used a values rows)
  use_pass p a values rows found e ok =
      let set = set_by p a c sets found in
      let action : action_fault (action_of a) again a (values_or_missing a values) rows ≡ [] = (or_none _ _ e).1 in
      let as_set : set_fault again a (values_or_missing a values) rows ≡ [] =
      subst (λ (x : ArgAction). action_fault x again a (values_or_missing a values) rows ≡ []) set action in
      let new = values_by p a c (values_or_missing a values) found (or_none _ _ as_set).1 in
      subst (λ (x : ArgAction). RowsPass c (used_as x a.id (reading_by a) (values_or_missing a values) rows)) (sym set)
      (with_pass c a.id (reading_by a) _ (values_or_missing a values) (without a.id rows) new (without_pass c a.id rows ok))

  by_id_pass : (p : Rule → Bool) (o : Option Rule) (values : List Text) (rows : List Row) → find p c ≡ o
      → option_map_or (λ a. use_fault again a values rows) o [] ≡ [] → RowsPass c rows → RowsPass c (used_by_id o values rows)
  by_id_pass p None values rows found e ok = ok
  by_id_pass p (Some a) values rows found e ok = use_pass p a values rows found e ok

  settle_rows : (o : Option (Text × List Text)) (rows : List Row)
      → option_map_or (λ p. option_map_or (λ a. use_fault again a p.1 rows) (arg_by_id c p.0) []) o [] ≡ []
      → RowsPass c rows → RowsPass c (settled_rows c o rows)
  settle_rows None rows e ok = ok
  settle_rows (Some p) rows e ok = by_id_pass _ (arg_by_id c p.0) p.1 rows refl e ok

  settle_pass : (h : Held) → settle_fault c again h ≡ [] → RowsPass c h.rows → RowsPass c (settled c h).rows
  settle_pass h e ok = settle_rows h.pending h.rows e ok

  react_pass : (p : Rule → Bool) (a : Rule) (values : List Text) (h : Held) → find p c ≡ Some a → react_fault c again a values h ≡ []
      → RowsPass c h.rows → RowsPass c (reacted c a values h).rows
  react_pass p a values h found e ok =
      let parts = or_none (settle_fault c again h) _ e in
      use_pass p a values (settled c h).rows found parts.1 (settle_pass h parts.0 ok)

  option_pass : (p : Rule → Bool) (a : Rule) (v : Option Text) (h : Held) → find p c ≡ Some a → option_fault c again a v h ≡ []
      → RowsPass c h.rows → RowsPass c (option_met c a v h).0.rows
  option_pass p a None h found e ok = settle_pass h e ok
  option_pass p a (Some v) h found e ok = react_pass p a (v ∷ []) h found e ok

  flag_pass : (p : Rule → Bool) (a : Rule) (v : Option Text) (k : ErrorKind) (h : Held) → find p c ≡ Some a
      → cond (is_some v) (k ∷ []) (react_fault c again a [] h) ≡ [] → RowsPass c h.rows → RowsPass c (flag_met c a v h).0.rows
  flag_pass p a None k h found e ok = react_pass p a [] h found e ok
  flag_pass p a (Some v) k h found e ok = ok

  long_pass : (p : Rule → Bool) (o : Option Rule) (v : Option Text) (h : Held) → find p c ≡ o → long_fault c again o v h ≡ []
      → RowsPass c h.rows → RowsPass c (long_met c o v h).0.rows
  long_pass p None v h found e ok = ok
  long_pass p (Some a) v h found e ok = go (takes_values a) e
    where
      go : (b : Bool) → cond b (option_fault c again a v h) (cond (is_some v) (TooManyValues ∷ []) (react_fault c again a [] h)) ≡ []
          → RowsPass c (cond b (option_met c a v h) (flag_met c a v h)).0.rows
      go true e = option_pass p a v h found e ok
      go false e = flag_pass p a v TooManyValues h found e ok

-- ---- one word

-- no argument has a short name
abbrev pub NoShort : List Rule → Type 0
NoShort c = (x : ℕ) → arg_by_short c x ≡ None

module _ (c : List Rule) where
  bundle_step_pass : (o : Option ℕ) (flags : Text) (skip : ℕ) (so_far : Outcome) (h : Held) (after : Text → ℕ → Outcome → Held → Held × Outcome) → NoShort c
      → ((rest : Text) (less : ℕ) → RowsPass c (after rest less so_far h).0.rows) → RowsPass c h.rows
      → RowsPass c (bundle_step c o flags skip so_far h after).0.rows
  bundle_step_pass None flags skip so_far h after short rec ok = ok
  bundle_step_pass (Some x) flags zero so_far h after short rec ok =
      subst (λ (o : Option Rule). RowsPass c (short_met c o (drop (length (encode_utf8 x)) flags) h (after (drop (length (encode_utf8 x)) flags) 0 done)).0.rows) (sym (short x)) ok
  bundle_step_pass (Some x) flags (suc skip) so_far h after short rec ok = rec (drop (length (encode_utf8 x)) flags) skip

  bundle_pass : (k : ℕ) (flags : Text) (skip : ℕ) (so_far : Outcome) (h : Held) → NoShort c → RowsPass c h.rows
      → RowsPass c (bundle_met c k flags skip so_far h).0.rows
  unfolding bundle_met
  bundle_pass zero flags skip so_far h short ok = ok
  bundle_pass (suc k) flags skip so_far h short ok =
      bundle_step_pass (slice_get (chars flags) 0) flags skip so_far h (bundle_met c k) short
      (λ rest less. bundle_pass k rest less so_far h short ok) ok

  option_word_pass : (o : Option Rule) (id word : Text) (h : Held) → RowsPass c h.rows → RowsPass c (option_word o id word h).0.rows
  option_word_pass None id word h ok = ok
  option_word_pass (Some a) id word h ok = ok

  plain_pass : (waiting : Waiting) (word : Text) (h : Held) → RowsPass c h.rows → RowsPass c (plain_word c waiting word h).0.rows
  plain_pass idle word h ok = ok
  plain_pass (option id) word h ok = option_word_pass (arg_by_id c id) id word h ok
  plain_pass positional word h ok = ok

  after_pass : (waiting : Waiting) (word : Text) (h : Held) (outcome : Outcome) → RowsPass c h.rows → RowsPass c (after_flag c waiting word h outcome).0.rows
  after_pass waiting word h done ok = ok
  after_pass waiting word h (waits id) ok = ok
  after_pass waiting word h plain ok = plain_pass waiting word h ok
  after_pass waiting word h refused ok = plain_pass waiting word h ok

  short_word_pass : (waiting : Waiting) (word : Text) (o : Option Text) (h : Held) → NoShort c → RowsPass c h.rows
      → RowsPass c (short_or_plain c waiting word o h).0.rows
  short_word_pass waiting word (Some flags) h short ok =
      after_pass waiting word (bundle c flags h).0 (bundle c flags h).1 (bundle_pass (length flags) flags h.skip plain (record h { skip = 0 }) short ok)
  short_word_pass waiting word None h short ok = plain_pass waiting word h ok

module _ (s : Shape) (names : Names) (sets : AllSet s.rules) (short : NoShort s.rules) where
  flag_word_pass : (waiting : Waiting) (word : Text) (o : Option (Text × Option Text)) (h : Held)
      → flag_word_fault s.rules s.args_override_self o word h ≡ [] → RowsPass s.rules h.rows
      → RowsPass s.rules (long_or_other s.rules waiting word o h).0.rows
  flag_word_pass waiting word (Some p) h e ok =
      after_pass s.rules waiting word (long_met s.rules (arg_by_long s.rules p.0) p.1 h).0 (long_met s.rules (arg_by_long s.rules p.0) p.1 h).1
      (long_pass s.rules s.args_override_self sets _ (arg_by_long s.rules p.0) p.1 h refl e ok)
  flag_word_pass waiting word None h e ok = short_word_pass s.rules waiting word (short_of word) h short ok

  other_pass : (o : Option Text) (waiting : Waiting) (position : ℕ) (word : Text) (h : Held) → other_fault s o word h ≡ []
      → RowsPass s.rules h.rows → RowsPass s.rules (subcommand_or_other s.rules o waiting position word h).0.rows
  other_pass (Some name) waiting position word h e ok = ok
  other_pass None waiting position word h e ok = go (bytes_eq word (45 ∷ 45 ∷ [])) e
    where
      go : (b : Bool) → cond b [] (flag_word_fault s.rules s.args_override_self (long_of word) word h) ≡ []
          → RowsPass s.rules (cond b (h, trailing position) (long_or_other s.rules waiting word (long_of word) h)).0.rows
      go true e = ok
      go false e = flag_word_pass waiting word (long_of word) h e ok

  word_pass : (is_trailing : Bool) (waiting : Waiting) (position : ℕ) (word : Text) (h : Held) → word_fault s names is_trailing waiting word h ≡ []
      → RowsPass s.rules h.rows → RowsPass s.rules (word_met s.rules names is_trailing waiting position word h).0.rows
  word_pass true waiting position word h e ok = ok
  word_pass false waiting position word h e ok = other_pass (subcommand_met names waiting word) waiting position word h e ok

  positional_pass : (o : Option Rule) (word : Text) (w : Walk) (h : Held)
      → option_map_or (λ a. positional_fault s.rules s.args_override_self a h) o (stray_fault s) ≡ [] → RowsPass s.rules h.rows
      → RowsPass s.rules (to_positional s.rules o word w h).held.rows
  positional_pass None word w h e ok = ok
  positional_pass (Some a) word w h e ok = go (is_pending a h.pending && takes_several a) e
    where
      go : (b : Bool) → cond b [] (settle_fault s.rules s.args_override_self h) ≡ [] → RowsPass s.rules (cond b h (settled s.rules h)).rows
      go true e = ok
      go false e = settle_pass s.rules s.args_override_self sets h e ok

  step_pass : (word : Text) (w : Walk) (h : Held) (step : Step) → step_fault s w.position h step ≡ [] → RowsPass s.rules h.rows
      → RowsPass s.rules (after_step s.rules word w h step).held.rows
  step_pass word w h (next waiting) e ok = ok
  step_pass word w h (trailing position) e ok = ok
  step_pass word w h (subcommand name) e ok = ok
  step_pass word w h value e ok = positional_pass (arg_by_index s.rules w.position) word w h e ok

  turn_pass : (stop : Option (Text × List Text)) (w : Walk) (word : Text)
      → cond (is_some stop) [] (or_else (word_fault s names w.is_trailing w.waiting word w.held)
      (step_fault s w.position (word_met s.rules names w.is_trailing w.waiting w.position word w.held).0 (word_met s.rules names w.is_trailing w.waiting w.position word w.held).1)) ≡ []
      → RowsPass s.rules w.held.rows → RowsPass s.rules (walked_from s.rules names stop w word).held.rows
  turn_pass (Some p) w word e ok = ok
  turn_pass None w word e ok =
      let parts = or_none (word_fault s names w.is_trailing w.waiting word w.held) _ e in
      step_pass word w _ (word_met s.rules names w.is_trailing w.waiting w.position word w.held).1 parts.1
      (word_pass w.is_trailing w.waiting w.position word w.held parts.0 ok)

  walk_pass : (words : List Text) (w : Walk) → walk_fault s names w words ≡ [] → RowsPass s.rules w.held.rows
      → RowsPass s.rules (fold (walked s.rules names) w words).held.rows
  unfolding walk_fault walked
  walk_pass [] w e ok = ok
  walk_pass (word ∷ words) w e ok =
      let parts = or_none (turn_fault s names w word) _ e in
      walk_pass words (walked s.rules names w word) parts.1 (turn_pass w.stopped w word parts.0 ok)

-- ---- the matches

default_pass : (c : List Rule) (rows : List Row) (a : Rule) → a.defaults ≡ [] → RowsPass c rows → RowsPass c (with_default rows a)
default_pass c rows a none ok = go (has_row a.id rows)
  where
    kept : RowsPass c (default_rows a.id (reading_by a) a.defaults rows)
    kept = subst (λ (values : List Text). RowsPass c (default_rows a.id (reading_by a) values rows)) (sym none) ok

    go : (b : Bool) → RowsPass c (cond b rows (default_rows a.id (reading_by a) a.defaults rows))
    go true = ok
    go false = kept

defaults_pass : (c xs : List Rule) (rows : List Row) → NoDefault xs → RowsPass c rows → RowsPass c (fold with_default rows xs)
defaults_pass c [] rows none ok = ok
defaults_pass c (a ∷ xs) rows none ok = defaults_pass c xs (with_default rows a) none.1 (default_pass c rows a none.0 ok)

matches_pass : (a : App) (words : List Text) → AllSet a.top.rules → NoShort a.top.rules → NoDefault a.top.rules → built_fault a nothing_held words ≡ []
    → RowsPass a.top.rules (rows_after a.top.rules (names_of a) words)
matches_pass a words sets short none e =
    let end = (walk a.top.rules (names_of a) nothing_held words).held in
    let first = or_none (walk_fault a.top (names_of a) (walk_from nothing_held) words) _ e in
    let later = or_none _ _ first.1 in
    let settling = or_none (settle_fault a.top.rules a.top.args_override_self end) _ later.1 in
    let walked_rows = walk_pass a.top (names_of a) sets short words (walk_from nothing_held) first.0 tt in
    defaults_pass a.top.rules a.top.rules (settled a.top.rules end).rows none
    (settle_pass a.top.rules a.top.args_override_self sets end settling.0 walked_rows)

value_passes : (c : List Rule) (id text : List ℕ) (values : List Text) → slice_get values 0 ≡ Some text → ValuesPass c id values → IsTaken id text c
value_passes c id text [] e ok = cc
value_passes c id text (v ∷ vs) e ok = let is : v ≡ text = cc in subst (λ (t : List ℕ). IsTaken id t c) is ok.0

first_passes : (c : List Rule) (id text : List ℕ) (rows : List Row) → first_of id rows ≡ Some text → RowsPass c rows → IsTaken id text c
first_passes c id text [] e ok = cc
first_passes c id text (r ∷ rs) e ok = go (bytes_eq r.id id) refl (λ later. first_passes c id text rs later ok.1) e
  where
    go : (b : Bool) → bytes_eq r.id id ≡ b → (first_of id rs ≡ Some text → IsTaken id text c)
        → option_and_then (λ r. slice_get r.values 0) (cond b (Some r) (find (λ r. bytes_eq r.id id) rs)) ≡ Some text → IsTaken id text c
    go true same rec e =
        subst (λ (i : List ℕ). IsTaken i text c) ((bytes_eq-Decides r.id id).0 same) (value_passes c r.id text r.values e ok.0)
    go false other rec e = rec e

-- the first value of an id among the matches passed the parser of an argument with the id
pub value_taken : (a : App) (words : List Text) → AllSet a.top.rules → NoShort a.top.rules → NoDefault a.top.rules → built_fault a nothing_held words ≡ []
    → (id text : List ℕ) → first_of id (rows_after a.top.rules (names_of a) words) ≡ Some text → IsTaken id text a.top.rules
value_taken a words sets short none e = λ id text first.
    first_passes a.top.rules id text _ first (matches_pass a words sets short none e)
