-- How far the words of a line go on to a line of its form, or to one whose numbers are in their ranges too. This project's
-- own.
use Rattle.std.specs.Prelude.{◌≡◌, ℕ, ◌+◌, ◌-◌, ◌^◌, ◌<◌, ◌≤◌, nat_le, nat_lt, Bool, true, false, not, ◌&&◌, List, [], ◌∷◌, ◌++◌, length, take, Option, Some, None, Ok, Err, codes}
use Rattle.std.specs.List.{list_all}
use Rattle.std.specs.Str.{bytes_eq}
use Rattle.hp_states.specs.declared.limits.TheConstants.{MAX_CPUS, MAX_SUBS, MAX_INSTANCE, MAX_SEATS, MAX_RULE_CPU, MAX_EVENTS, MAX_CODE}
use Rattle.hp_model.specs.Lists.{is_empty}
use Rattle.hp_text.specs.declared.unread.Unread.TheVariants.{NotOfForm, OutOfRange}
use Rattle.hp_text.specs.Readings.{Reading}
use Rattle.hp_text.specs.Numbers.{is_number, value, number, long_number, integer, number_from}
use Rattle.hp_text.specs.Choices.{dir_of, calls_of, kind_of, name_of, is_name, any_from}
use Rattle.hp_text.specs.Flags.{form}
use Rattle.hp_script.specs.declared.limits.TheConstants.{MAX_NAMED_CPU, MAX_NAMED_STATE, MAX_MIXED, MAX_SEED, MAX_I32, MIN_I32}
use Rattle.hp_script.specs.Ranges.{is_within, is_signed_within}
use Rattle.hp_hint.specs.declared.measure.Measure.{Measure}
use Rattle.hp_hint.specs.declared.measure.Measure.TheVariants as measure
use Rattle.hp_hint.specs.declared.field.Field.{Field}
use Rattle.hp_hint.specs.declared.field.Field.TheVariants as field
use Rattle.hp_hint.specs.declared.form.Ending.{Ending}
use Rattle.hp_hint.specs.declared.form.Ending.TheVariants as ending

-- ---- the notion

-- words are of a form, be their numbers in range or not
abbrev pub is_formed : {A : Type 0} → Reading A → Bool
is_formed (Ok a) = true
is_formed (Err OutOfRange) = true
is_formed (Err NotOfForm) = false

-- they are, and what they say passes the test
abbrev pub says : {A : Type 0} → (test : A → Bool) → Reading A → Bool
says test (Ok a) = test a
says test (Err unread) = false

-- something can stand behind these words, so that all of them are of the form
abbrev pub CanGoOn : (is_form : List (List ℕ) → Bool) → (front : List (List ℕ)) → Type 0
CanGoOn is_form front = (rest : List (List ℕ)) × (is_form (front ++ rest) ≡ true)

-- whatever stands behind these words, they aren't of the form
abbrev pub IsLost : (is_form : List (List ℕ) → Bool) → (front : List (List ℕ)) → Type 0
IsLost is_form front = (rest : List (List ℕ)) → is_form (front ++ rest) ≡ false

-- So many of the words go on to the form, and with the next one they don't, where there is one. That one is the first bad
-- word; where there is none, words are wanting, or all is of the form.
pub record IsGood (is_form : List (List ℕ) → Bool) (words : List (List ℕ)) (good : ℕ) : Type 0 where
  pub few : good ≤ length words
  pub goes_on : CanGoOn is_form (take good words)
  pub lost : good < length words → IsLost is_form (take (good + 1) words)

-- as few words as a line has
abbrev pub AreFew : List (List ℕ) → Type 0
AreFew words = length words ≤ 2 ^ 32

-- ---- what the code asks of one word, and of words

-- how many processors are possible
abbrev pub possible_of : Measure → ℕ
possible_of measure.Form = 0
possible_of (measure.Ranges possible) = possible

-- the form alone, or the test too
abbrev pub measured : {A : Type 0} → Measure → (test : A → Bool) → Reading A → Bool
measured measure.Form test read = is_formed read
measured (measure.Ranges possible) test read = says test read

abbrev pub is_any : {A : Type 0} → A → Bool
is_any a = true

abbrev pub is_there : {A : Type 0} → Option A → Bool
is_there None = false
is_there (Some a) = true

abbrev pub fits : Measure → Field → (word : List ℕ) → Bool
fits m field.Possible w = measured m (is_within 1 MAX_CPUS) (number w)
fits m field.Cpu w = measured m (is_within 0 MAX_NAMED_CPU) (number w)
fits m field.State w = measured m (is_within 0 MAX_NAMED_STATE) (number w)
fits m field.Sub w = measured m (is_within 1 MAX_SUBS) (number w)
fits m field.Instance w = measured m (is_within 0 MAX_INSTANCE) (number w)
fits m field.Value w = measured m (is_signed_within MIN_I32 MAX_I32) (integer w)
fits m field.Primary w = measured m (is_signed_within 1 MAX_NAMED_CPU) (integer w)
fits m field.Seed w = measured m (is_within 0 MAX_SEED) (long_number w)
fits m field.Turns w = measured m (is_within 0 MAX_MIXED) (number w)
fits m field.Seat w = measured m (is_within 0 (MAX_SEATS - 1)) (number w)
fits m field.RuleCpu w = measured m is_any (any_from 0 (MAX_RULE_CPU + 1) w)
fits m field.RuleInstance w = measured m is_any (any_from 0 (MAX_INSTANCE + 1) w)
fits m field.RuleCall w = measured m is_any (any_from 1 (MAX_EVENTS + 1) w)
fits m field.Code w = measured m is_any (number_from 1 (MAX_CODE + 1) w)
fits m field.Label w = is_name w
fits m field.Name w = is_there (name_of w)
fits m field.Calls w = is_there (calls_of w)
fits m field.Kind w = is_there (kind_of w)
fits m field.Dir w = is_there (dir_of w)

-- one word or more, each of a field
abbrev pub are_several : Measure → Field → List (List ℕ) → Bool
are_several m f words = not (is_empty words) && list_all (fits m f) words

-- a number from `low`, below a limit
abbrev pub is_between : (low limit : ℕ) → (word : List ℕ) → Bool
is_between low limit w = is_number w && (nat_le low (value w) && nat_lt (value w) limit)

-- numbers of which the first is at least as high as this, each is above the one before it, and all are below a limit
abbrev pub are_rising : (low limit : ℕ) → List (List ℕ) → Bool
are_rising low limit [] = true
are_rising low limit (w ∷ ws) = is_between low limit w && are_rising (value w + 1) limit ws

-- one number or more, which rise so where that is asked
abbrev pub risen : Measure → (low limit : ℕ) → List (List ℕ) → Bool
risen measure.Form low limit words = are_several measure.Form field.Cpu words
risen (measure.Ranges possible) low limit words = not (is_empty words) && are_rising low limit words

-- there is such a number
abbrev pub can_rise : Measure → (limit : ℕ) → Bool
can_rise measure.Form limit = true
can_rise (measure.Ranges possible) limit = nat_lt 1 limit

-- the flag `locked`, or nothing
abbrev pub locked_or_none : List (List ℕ) → Bool
locked_or_none [] = true
locked_or_none (w ∷ ws) = bytes_eq w (codes "locked") && is_empty ws

-- what stands behind the fields of a line
abbrev pub ends : Measure → Ending → List (List ℕ) → Bool
ends m ending.Nothing words = is_empty words
ends m ending.Flags words = is_formed (form words)
ends m (ending.Several f) words = are_several m f words

-- a word for each field, and behind them such an ending
abbrev pub are_fields : Measure → List Field → Ending → List (List ℕ) → Bool
are_fields m [] ending words = ends m ending words
are_fields m (f ∷ fs) ending [] = false
are_fields m (f ∷ fs) ending (w ∷ ws) = fits m f w && are_fields m fs ending ws
