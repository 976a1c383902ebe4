-- One word of clap's walk over the words of two options, where the word is no fault.
use Rattle.std.proofs.Common.{◌≡◌, ℕ, zero, suc, Bool, true, false, cond, ◌&&◌, Option, Some, None, List, [], ◌∷◌, option_map, length, codes, refl, sym, ap, subst, ◌∙◌}
use Rattle.std.specs.Prelude.{slice_get, ⊤}
use Rattle.std.specs.Option.{option_map_or}
use Rattle.std.specs.Str.{bytes_eq, chars}
use Rattle.std.proofs.lemmas.Slice.Eq.{bytes_eq-Decides}
use Rattle.clap.specs.Lexer.{long_of, short_of}
use Rattle.clap.specs.Walk.{Held, Outcome, Row, Rule, Step, Text, Waiting, Walk, after_flag, after_step, bundle_met, bundle_step, plain_word, short_or_plain, has_row, idle, long_met, long_or_other, option, plain, settled, used, value, walked, trailing}
use Rattle.clap.specs.Kinds.{Kinds, or_else}
use Rattle.clap.specs.Faults.{bundle_fault, bundle_step_fault, settle_fault, flag_word_fault, flags_fault, long_fault, step_fault, turn_fault, use_fault}
use Rattle.hp_command.proofs.Reading.{Word}
use Rattle.hp_command.proofs.ClapWords.{joined, long_is}
use Rattle.hp_view.proofs.ClapRules.{Flag, start, stop, name, rule, rules, top, by_tests, flag_named, found}
use Rattle.clap.specs.declared.error.kind.ErrorKind.TheVariants as kind

abbrev pub Use : Type 0
Use = Flag × Word

-- ---- where the walk stands

-- the rows so far, and a use whose value has been read but which isn't in the rows
abbrev pub held_at : Option Use → List Row → Held
held_at None rows = record { rows = rows; pending = None; skip = 0 }
held_at (Some u) rows = record { rows = rows; pending = Some (name u.0, u.1 ∷ []); skip = 0 }

abbrev pub at_rest : Option Use → List Row → Walk
at_rest p rows = record { held = held_at p rows; waiting = idle; position = 1; is_trailing = false; stopped = None }

-- an option waits for its value
abbrev pub at_value : Flag → List Row → Walk
at_value f rows = record {
  held = record { rows = rows; pending = Some (name f, []); skip = 0 };
  waiting = option (name f);
  position = 1;
  is_trailing = false;
  stopped = None;
}

abbrev pub with_use : Flag → Word → List Row → List Row
with_use f text rows = used (rule f) (text ∷ []) rows

abbrev pub rows_at : Option Use → List Row → List Row
rows_at None rows = rows
rows_at (Some u) rows = with_use u.0 u.1 rows

-- the option wasn't used before
abbrev pub IsNew : Flag → List Row → Type 0
IsNew f rows = has_row (name f) rows ≡ false

abbrev pub IsNewUse : Option Use → List Row → Type 0
IsNewUse None rows = ⊤
IsNewUse (Some u) rows = IsNew u.0 rows

-- ---- no faults

pub record Both (a b : Kinds) : Type 0 where
  pub first : a ≡ []
  pub second : b ≡ []

pub none_of_both : (a b : Kinds) → or_else a b ≡ [] → Both a b
none_of_both [] b e = record { first = refl; second = e }
none_of_both (k ∷ ks) b e = absurd cc

new_by : (b : Bool) → or_else (cond (b && true) (kind.ArgumentConflict ∷ []) []) [] ≡ [] → b ≡ false
new_by true e = absurd cc
new_by false e = refl

pub new_use : (f : Flag) (text : Word) (rows : List Row) → use_fault false (rule f) (text ∷ []) rows ≡ [] → IsNew f rows
new_use f text rows e = new_by (has_row (name f) rows) e

-- an option without its value is a fault
pub no_value : (f : Flag) (rows : List Row) → use_fault false (rule f) [] rows ≡ [] → ⊥
no_value f rows e = absurd cc

-- what a word of one dash comes to
pub bundle_ends : (k : ℕ) (flags : Word) (h : Held) → flags_fault rules false k flags 0 h ≡ [] → bundle_met rules k flags 0 plain h ≡ (h, plain)
unfolding flags_fault bundle_met
bundle_ends zero flags h e = refl
bundle_ends (suc k) flags h e = go (slice_get (chars flags) 0) refl e
  where
    go : (o : Option ℕ) → slice_get (chars flags) 0 ≡ o →
        bundle_step_fault rules false o flags 0 h (flags_fault rules false k) ≡ [] → bundle_met rules (suc k) flags 0 plain h ≡ (h, plain)
    go None is e = ap (λ (o : Option ℕ). bundle_step rules o flags 0 plain h (bundle_met rules k)) is
    go (Some x) is e = absurd cc

-- a word with no long name, which is no fault, is a plain one
pub plain_met : (waiting : Waiting) (word : Word) (rows : List Row) (pending : Option (Text × List Text)) →
    flag_word_fault rules false None word (record { rows = rows; pending = pending; skip = 0 }) ≡ [] →
    long_or_other rules waiting word None (record { rows = rows; pending = pending; skip = 0 })
    ≡ plain_word rules waiting word (record { rows = rows; pending = pending; skip = 0 })
plain_met waiting word rows pending e = go (short_of word) refl e
  where
    h : Held
    h = record { rows = rows; pending = pending; skip = 0 }

    go : (s : Option Word) → short_of word ≡ s → option_map_or (λ flags. bundle_fault rules false flags h) s [] ≡ [] →
        long_or_other rules waiting word None h ≡ plain_word rules waiting word h
    go None is e = ap (λ (s : Option Word). short_or_plain rules waiting word s h) is
    go (Some flags) is e =
        ap (λ (s : Option Word). short_or_plain rules waiting word s h) is
        ∙ ap (λ (b : Held × Outcome). after_flag rules waiting word b.0 b.1) (bundle_ends (length flags) flags h e)

-- ---- one word

abbrev pub met_at : Bool → Option (Text × Option Text) → Word → Walk → Held × Step
met_at dashes long word w = cond dashes (w.held, trailing w.position) (long_or_other rules w.waiting word long w.held)

abbrev pub turn_at : Bool → Option (Text × Option Text) → Word → Walk → Kinds
turn_at dashes long word w =
    or_else (cond dashes [] (flag_word_fault rules false long word w.held)) (step_fault top w.position (met_at dashes long word w).0 (met_at dashes long word w).1)

abbrev pub walked_at : Bool → Option (Text × Option Text) → Word → Walk → Walk
walked_at dashes long word w = after_step rules word w (met_at dashes long word w).0 (met_at dashes long word w).1

abbrev pub dashes : Word
dashes = 45 ∷ 45 ∷ []

turn_rest : (p : Option Use) (rows : List Row) (word : Word) → turn_fault top [] (at_rest p rows) word ≡ turn_at (bytes_eq word dashes) (long_of word) word (at_rest p rows)
turn_rest p rows word = refl

pub turn_value : (f : Flag) (rows : List Row) (word : Word) → turn_fault top [] (at_value f rows) word ≡ turn_at (bytes_eq word dashes) (long_of word) word (at_value f rows)
turn_value f rows word = refl

walked_rest : (p : Option Use) (rows : List Row) (word : Word) → walked rules [] (at_rest p rows) word ≡ walked_at (bytes_eq word dashes) (long_of word) word (at_rest p rows)
unfolding walked
walked_rest p rows word = refl

pub walked_value : (f : Flag) (rows : List Row) (word : Word) → walked rules [] (at_value f rows) word ≡ walked_at (bytes_eq word dashes) (long_of word) word (at_value f rows)
unfolding walked
walked_value f rows word = refl

-- ---- the pending use is settled

pub settle_new : (p : Option Use) (rows : List Row) → settle_fault rules false (held_at p rows) ≡ [] → IsNewUse p rows
settle_new None rows e = tt
settle_new (Some (start, text)) rows e = new_use start text rows e
settle_new (Some (stop, text)) rows e = new_use stop text rows e

pub settled_is : (p : Option Use) (rows : List Row) → settled rules (held_at p rows) ≡ held_at None (rows_at p rows)
settled_is None rows = refl
settled_is (Some (start, text)) rows = refl
settled_is (Some (stop, text)) rows = refl

pub unsettled : (f : Flag) (rows : List Row) → settle_fault rules false (at_value f rows).held ≡ [] → ⊥
unsettled start rows e = no_value start rows e
unsettled stop rows e = no_value stop rows e

-- ---- an option that is found

abbrev pub met_found : Option Rule → Option Text → Word → Walk → Held × Step
met_found found text word w =
    after_flag rules w.waiting word (long_met rules found text w.held).0 (long_met rules found text w.held).1

abbrev pub walked_found : Option Rule → Option Text → Word → Walk → Walk
walked_found found text word w = after_step rules word w (met_found found text word w).0 (met_found found text word w).1

-- what a word at rest does, which is no fault
pub data AtRest (p : Option Use) (rows : List Row) (word : Word) : Type 0 where
  alone : (f : Flag) → word ≡ 45 ∷ 45 ∷ name f → IsNewUse p rows → walked rules [] (at_rest p rows) word ≡ at_value f (rows_at p rows) → AtRest p rows word
  whole : (f : Flag) (text : Word) → word ≡ 45 ∷ 45 ∷ joined (name f) (Some text) → IsNewUse p rows → IsNew f (rows_at p rows) →
      walked rules [] (at_rest p rows) word ≡ at_rest None (with_use f text (rows_at p rows)) → AtRest p rows word

flag_is : (n : Word) (f : Flag) → flag_named n ≡ Some f → n ≡ name f
flag_is n f e = go (bytes_eq (codes "from") n) (bytes_eq (codes "to") n) refl refl e
  where
    go : (a b : Bool) → bytes_eq (codes "from") n ≡ a → bytes_eq (codes "to") n ≡ b → by_tests a b ≡ Some f → n ≡ name f
    go true b ea eb e = let same : start ≡ f = cc in sym ((bytes_eq-Decides (codes "from") n).0 ea) ∙ ap name same
    go false true ea eb e = let same : stop ≡ f = cc in sym ((bytes_eq-Decides (codes "to") n).0 eb) ∙ ap name same
    go false false ea eb e = absurd cc

rest_found : (p : Option Use) (rows : List Row) (word : Word) (f : Flag) (text : Option Text) → word ≡ 45 ∷ 45 ∷ joined (name f) text →
    long_fault rules false (Some (rule f)) text (held_at p rows) ≡ [] →
    walked rules [] (at_rest p rows) word ≡ walked_found (Some (rule f)) text word (at_rest p rows) → AtRest p rows word
rest_found p rows word f None is e by =
    alone f is (settle_new p rows e)
    (by ∙ ap (λ (h : Held). record {
      held = record h { pending = Some (name f, []) };
      waiting = option (name f);
      position = 1;
      is_trailing = false;
      stopped = None;
    }) (settled_is p rows))
rest_found p rows word f (Some text) is e by =
    let parts = none_of_both (settle_fault rules false (held_at p rows)) (use_fault false (rule f) (text ∷ []) (settled rules (held_at p rows)).rows) e in
    let second : use_fault false (rule f) (text ∷ []) (rows_at p rows) ≡ [] =
    subst (λ (h : Held). use_fault false (rule f) (text ∷ []) h.rows ≡ []) (settled_is p rows) parts.second in
    whole f text is (settle_new p rows parts.first) (new_use f text (rows_at p rows) second)
    (by ∙ ap (λ (h : Held). record {
      held = record h { rows = with_use f text h.rows; pending = None };
      waiting = idle;
      position = 1;
      is_trailing = false;
      stopped = None;
    }) (settled_is p rows))

rest_named : (p : Option Use) (rows : List Row) (word n : Word) (text : Option Text) (o : Option Flag) → flag_named n ≡ o → word ≡ 45 ∷ 45 ∷ joined n text →
    long_fault rules false (option_map rule o) text (held_at p rows) ≡ [] →
    walked rules [] (at_rest p rows) word ≡ walked_found (option_map rule o) text word (at_rest p rows) → AtRest p rows word
rest_named p rows word n text None named is e by = absurd cc
rest_named p rows word n text (Some f) named is e by =
    rest_found p rows word f text (is ∙ ap (λ (m : Word). 45 ∷ 45 ∷ joined m text) (flag_is n f named)) e by

plain_rest : (p : Option Use) (rows : List Row) (word : Word) → flag_word_fault rules false None word (held_at p rows) ≡ [] →
    long_or_other rules idle word None (held_at p rows) ≡ plain_word rules idle word (held_at p rows)
plain_rest None rows word e = plain_met idle word rows None e
plain_rest (Some u) rows word e = plain_met idle word rows (Some (name u.0, u.1 ∷ [])) e

rest_long : (p : Option Use) (rows : List Row) (word : Word) (long : Option (Text × Option Text)) → bytes_eq word dashes ≡ false → long_of word ≡ long →
    turn_at false long word (at_rest p rows) ≡ [] → walked rules [] (at_rest p rows) word ≡ walked_at false long word (at_rest p rows) → AtRest p rows word
rest_long p rows word None other is e by =
    let parts = none_of_both (flag_word_fault rules false None word (held_at p rows)) (step_fault top 1 (met_at false None word (at_rest p rows)).0 (met_at false None word (at_rest p rows)).1) e in
    let met = plain_rest p rows word parts.first in
    let stray : step_fault top 1 (held_at p rows) value ≡ [] = ap (λ (m : Held × Step). step_fault top 1 m.0 m.1) (sym met) ∙ parts.second in
    absurd cc
rest_long p rows word (Some (n, text)) other is e by =
    let parts = none_of_both (flag_word_fault rules false (Some (n, text)) word (held_at p rows)) (step_fault top 1 (met_at false (Some (n, text)) word (at_rest p rows)).0 (met_at false (Some (n, text)) word (at_rest p rows)).1) e in
    rest_named p rows word n text (flag_named n) refl (long_is word (n, text) is)
    (subst (λ (o : Option Rule). long_fault rules false o text (held_at p rows) ≡ []) (found n) parts.first)
    (by ∙ ap (λ (o : Option Rule). walked_found o text word (at_rest p rows)) (found n))

pub at_rest_step : (p : Option Use) (rows : List Row) (word : Word) → bytes_eq word dashes ≡ false → turn_fault top [] (at_rest p rows) word ≡ [] → AtRest p rows word
at_rest_step p rows word other e =
    rest_long p rows word (long_of word) other refl
    (ap (λ (b : Bool). turn_at b (long_of word) word (at_rest p rows)) (sym other) ∙ sym (turn_rest p rows word) ∙ e)
    (walked_rest p rows word ∙ ap (λ (b : Bool). walked_at b (long_of word) word (at_rest p rows)) other)

-- ---- a word where an option waits for its value

value_named : (f : Flag) (rows : List Row) (o : Option Flag) (text : Option Text) → long_fault rules false (option_map rule o) text (at_value f rows).held ≡ [] → ⊥
value_named f rows None text e = absurd cc
value_named f rows (Some g) None e = unsettled f rows e
value_named f rows (Some g) (Some text) e =
    unsettled f rows (none_of_both (settle_fault rules false (at_value f rows).held) (use_fault false (rule g) (text ∷ []) (settled rules (at_value f rows).held).rows) e).first

value_plain : (f : Flag) (rows : List Row) (word : Word) → after_step rules word (at_value f rows) (plain_word rules (option (name f)) word (at_value f rows).held).0
    (plain_word rules (option (name f)) word (at_value f rows).held).1 ≡ at_rest (Some (f, word)) rows
value_plain start rows word = refl
value_plain stop rows word = refl

value_long : (f : Flag) (rows : List Row) (word : Word) (long : Option (Text × Option Text)) → long_of word ≡ long →
    turn_at false long word (at_value f rows) ≡ [] → walked rules [] (at_value f rows) word ≡ walked_at false long word (at_value f rows) →
    walked rules [] (at_value f rows) word ≡ at_rest (Some (f, word)) rows
value_long f rows word None is e by =
    let w = at_value f rows in
    let parts = none_of_both (flag_word_fault rules false None word w.held) (step_fault top 1 (met_at false None word w).0 (met_at false None word w).1) e in
    by ∙ ap (λ (m : Held × Step). after_step rules word w m.0 m.1) (plain_met (option (name f)) word rows (Some (name f, [])) parts.first) ∙ value_plain f rows word
value_long f rows word (Some (n, text)) is e by =
    let w = at_value f rows in
    let parts = none_of_both (flag_word_fault rules false (Some (n, text)) word w.held) (step_fault top 1 (met_at false (Some (n, text)) word w).0 (met_at false (Some (n, text)) word w).1) e in
    absurd (value_named f rows (flag_named n) text (subst (λ (o : Option Rule). long_fault rules false o text w.held ≡ []) (found n) parts.first))

pub at_value_step : (f : Flag) (rows : List Row) (word : Word) → bytes_eq word dashes ≡ false → turn_fault top [] (at_value f rows) word ≡ [] →
    walked rules [] (at_value f rows) word ≡ at_rest (Some (f, word)) rows
at_value_step f rows word other e =
    value_long f rows word (long_of word) refl
    (ap (λ (b : Bool). turn_at b (long_of word) word (at_value f rows)) (sym other) ∙ sym (turn_value f rows word) ∙ e)
    (walked_value f rows word ∙ ap (λ (b : Bool). walked_at b (long_of word) word (at_value f rows)) other)
