-- How many of the words go on to a form: word by word.
use Rattle.std.proofs.Common.{◌≡◌, ℕ, suc, ◌+◌, Bool, true, false, ◌&&◌, List, [], ◌∷◌, ◌++◌, Option, take, Some, None, refl, sym, ap, ◌∙◌, subst, add-one, arith, lit≤}
use Rattle.std.specs.Prelude.{codes}
use Rattle.std.specs.List.{list_all}
use Rattle.std.specs.Str.{bytes_eq}
use Rattle.std.proofs.lemmas.Slice.Eq.{bytes_eq-Decides}
use Rattle.hp_states.proofs.Basics.{and_false}
use Rattle.hp_text.specs.Numbers.{number_below, integer}
use Rattle.hp_text.specs.Choices.{dir_of, calls_of, kind_of, name_of, any_from}
use Rattle.hp_text.specs.Flags.{form}
use Rattle.hp_text.specs.FirstWords.{file_of}
use Rattle.hp_event.specs.declared.event.File.{File}
use Rattle.hp_event.specs.declared.event.File.TheVariants as file
use Rattle.hp_hint.specs.declared.measure.Measure.{Measure}
use Rattle.hp_hint.specs.declared.measure.Measure.TheVariants as measure
use Rattle.hp_hint.specs.declared.field.Field.{Field}
use Rattle.hp_hint.specs.declared.field.Field.TheVariants as field
use Rattle.hp_hint.specs.declared.form.Ending.{Ending}
use Rattle.hp_hint.specs.declared.form.Ending.TheVariants as ending
use Rattle.hp_hint.specs.Forms.{CanGoOn, IsGood, locked_or_none, fits, ends, are_several, are_fields}
use Rattle.hp_hint.specs.LineForms.{Form, shown_form, show_form, schedule_form}

-- ---- texts

pub as_text : (w u t : List ℕ) (b : Bool) → u ≡ t → bytes_eq w u ≡ b → bytes_eq w t ≡ b
as_text w u t b e h = subst (λ (x : List ℕ). bytes_eq w x ≡ b) e h

-- ---- of any form

-- no word is there
pub short : (g : Form) → CanGoOn g [] → IsGood g [] 0
short g can = record { few = omega arith; goes_on = can; lost = λ below. absurd (omega (arith, below)) }

-- the first word is bad
pub bad : (g : Form) (w : List ℕ) (ws : List (List ℕ)) → ((vs : List (List ℕ)) → g (w ∷ vs) ≡ false) → CanGoOn g [] → IsGood g (w ∷ ws) 0
bad g w ws never can = record { few = omega arith; goes_on = can; lost = λ below rest. never rest }

-- the first word is good, and so many behind it
pub onto : (g h : Form) (w : List ℕ) (ws : List (List ℕ)) (n : ℕ) → ((vs : List (List ℕ)) → g (w ∷ vs) ≡ h vs) → IsGood h ws n → IsGood g (w ∷ ws) (suc n)
onto g h w ws n same good =
    record {
      few = let few = good.few in omega (arith, few);
      goes_on = (good.goes_on.0, same (take n ws ++ good.goes_on.0) ∙ good.goes_on.1);
      lost = λ below rest. rw add-one (same (take (suc n) ws ++ rest) ∙ subst (λ (k : ℕ). h (take k ws ++ rest) ≡ false) (add-one n) (good.lost (omega (arith, below)) rest));
    }

-- a form that is the same of all words
pub alike : (g h : Form) (ws : List (List ℕ)) (n : ℕ) → ((vs : List (List ℕ)) → g vs ≡ h vs) → IsGood h ws n → IsGood g ws n
alike g h ws n same good =
    record {
      few = good.few;
      goes_on = (good.goes_on.0, same (take n ws ++ good.goes_on.0) ∙ good.goes_on.1);
      lost = λ below rest. same (take (n + 1) ws ++ rest) ∙ good.lost below rest;
    }

-- ---- words that fit

abbrev sample : Field → List ℕ
sample field.Label = codes "a"
sample field.Name = codes "a"
sample field.Calls = codes "both"
sample field.Kind = codes "multi"
sample field.Dir = codes "up"
sample _ = codes "1"

sample_fits : (m : Measure) (f : Field) → fits m f (sample f) ≡ true
unfolding number_below integer name_of calls_of kind_of dir_of any_from
sample_fits measure.Form field.Possible = refl
sample_fits measure.Form field.Cpu = refl
sample_fits measure.Form field.State = refl
sample_fits measure.Form field.Sub = refl
sample_fits measure.Form field.Instance = refl
sample_fits measure.Form field.Value = refl
sample_fits measure.Form field.Primary = refl
sample_fits measure.Form field.Seed = refl
sample_fits measure.Form field.Turns = refl
sample_fits measure.Form field.Seat = refl
sample_fits measure.Form field.RuleCpu = refl
sample_fits measure.Form field.RuleInstance = refl
sample_fits measure.Form field.RuleCall = refl
sample_fits measure.Form field.Code = refl
sample_fits (measure.Ranges p) field.Possible = refl
sample_fits (measure.Ranges p) field.Cpu = refl
sample_fits (measure.Ranges p) field.State = refl
sample_fits (measure.Ranges p) field.Sub = refl
sample_fits (measure.Ranges p) field.Instance = refl
sample_fits (measure.Ranges p) field.Value = refl
sample_fits (measure.Ranges p) field.Primary = refl
sample_fits (measure.Ranges p) field.Seed = refl
sample_fits (measure.Ranges p) field.Turns = refl
sample_fits (measure.Ranges p) field.Seat = refl
sample_fits (measure.Ranges p) field.RuleCpu = refl
sample_fits (measure.Ranges p) field.RuleInstance = refl
sample_fits (measure.Ranges p) field.RuleCall = refl
sample_fits (measure.Ranges p) field.Code = refl
sample_fits m field.Label = refl
sample_fits m field.Name = refl
sample_fits m field.Calls = refl
sample_fits m field.Kind = refl
sample_fits m field.Dir = refl

pub several_can : (m : Measure) (f : Field) → CanGoOn (are_several m f) []
several_can m f = (sample f ∷ [], rw (sample_fits m f) refl)

pub ending_can : (m : Measure) (e : Ending) → CanGoOn (ends m e) []
unfolding form
ending_can m ending.Nothing = ([], refl)
ending_can m ending.Flags = ([], refl)
ending_can m (ending.Several f) = several_can m f

pub fields_can : (m : Measure) (fs : List Field) (e : Ending) → CanGoOn (are_fields m fs e) []
fields_can m [] e = ending_can m e
fields_can m (f ∷ fs) e = let more = fields_can m fs e in (sample f ∷ more.0, rw (sample_fits m f) more.1)

-- ---- flags

-- a form of one word, behind which nothing stands
pub one_alone : (g : Form) (w : List ℕ) (ws : List (List ℕ)) → g (w ∷ []) ≡ true → ((v : List ℕ) (rest : List (List ℕ)) → g (w ∷ v ∷ rest) ≡ false) → IsGood g (w ∷ ws) 1
one_alone g w [] goes lost = record { few = lit≤ tt; goes_on = ([], goes); lost = λ below. absurd (omega (arith, below)) }
one_alone g w (v ∷ vs) goes lost = record { few = omega arith; goes_on = ([], goes); lost = λ below rest. lost v rest }

pub locked_one : (w : List ℕ) (ws : List (List ℕ)) → bytes_eq w (codes "locked") ≡ true → IsGood locked_or_none (w ∷ ws) 1
locked_one w ws e = one_alone locked_or_none w ws (rw e refl) (λ v rest. and_false (bytes_eq w (codes "locked")))

pub locked_bad : (w : List ℕ) (ws : List (List ℕ)) → bytes_eq w (codes "locked") ≡ false → IsGood locked_or_none (w ∷ ws) 0
locked_bad w ws e = bad locked_or_none w ws (λ vs. rw e refl) ([], refl)

-- the two flags are two words
apart : bytes_eq (codes "locked") (codes "nocalls") ≡ false
apart = refl

not_nocalls : (w : List ℕ) → bytes_eq w (codes "locked") ≡ true → bytes_eq w (codes "nocalls") ≡ false
not_nocalls w e = subst (λ (x : List ℕ). bytes_eq x (codes "nocalls") ≡ false) (sym ((bytes_eq-Decides w (codes "locked")).0 e)) apart

locked_goes : (m : Measure) (w : List ℕ) → bytes_eq w (codes "nocalls") ≡ false → bytes_eq w (codes "locked") ≡ true → ends m ending.Flags (w ∷ []) ≡ true
unfolding form
locked_goes m w n l = rw (n, l) refl

locked_lost : (m : Measure) (w v : List ℕ) (rest : List (List ℕ)) → bytes_eq w (codes "nocalls") ≡ false → ends m ending.Flags (w ∷ v ∷ rest) ≡ false
unfolding form
locked_lost m w v [] n = rw n refl
locked_lost m w v (u ∷ rest) n = refl

pub flags_locked : (m : Measure) (w : List ℕ) (ws : List (List ℕ)) → bytes_eq w (codes "locked") ≡ true → IsGood (ends m ending.Flags) (w ∷ ws) 1
flags_locked m w ws l = let n = not_nocalls w l in one_alone (ends m ending.Flags) w ws (locked_goes m w n l) (λ v rest. locked_lost m w v rest n)

flags_lost : (m : Measure) (w : List ℕ) (rest : List (List ℕ)) → bytes_eq w (codes "nocalls") ≡ false → bytes_eq w (codes "locked") ≡ false
    → ends m ending.Flags (w ∷ rest) ≡ false
unfolding form
flags_lost m w [] n l = rw (n, l) refl
flags_lost m w (v ∷ []) n l = rw n refl
flags_lost m w (v ∷ u ∷ rest) n l = refl

pub flags_bad : (m : Measure) (w : List ℕ) (ws : List (List ℕ)) → bytes_eq w (codes "nocalls") ≡ false → bytes_eq w (codes "locked") ≡ false → IsGood (ends m ending.Flags) (w ∷ ws) 0
flags_bad m w ws n l = bad (ends m ending.Flags) w ws (λ rest. flags_lost m w rest n l) (ending_can m ending.Flags)

by_second : (m : Measure) (w v : List ℕ) (t : Bool) → bytes_eq w (codes "nocalls") ≡ true → bytes_eq v (codes "locked") ≡ t → ends m ending.Flags (w ∷ v ∷ []) ≡ (t && true)
unfolding form
by_second m w v true n l = rw (n, l) refl
by_second m w v false n l = rw (n, l) refl

behind_nocalls : (m : Measure) (w : List ℕ) (vs : List (List ℕ)) → bytes_eq w (codes "nocalls") ≡ true → ends m ending.Flags (w ∷ vs) ≡ locked_or_none vs
unfolding form
behind_nocalls m w [] n = rw n refl
behind_nocalls m w (v ∷ []) n = by_second m w v (bytes_eq v (codes "locked")) n refl
behind_nocalls m w (v ∷ u ∷ vs) n = sym (and_false (bytes_eq v (codes "locked")))

pub flags_nocalls : (m : Measure) (w : List ℕ) (ws : List (List ℕ)) (n : ℕ) → bytes_eq w (codes "nocalls") ≡ true → IsGood locked_or_none ws n → IsGood (ends m ending.Flags) (w ∷ ws) (suc n)
flags_nocalls m w ws n e good = onto (ends m ending.Flags) locked_or_none w ws n (λ vs. behind_nocalls m w vs e) good

-- ---- several words of a field

pub more_can : (m : Measure) (f : Field) → CanGoOn (list_all (fits m f)) []
more_can m f = ([], refl)

pub more_none : (m : Measure) (f : Field) → IsGood (list_all (fits m f)) [] 0
more_none m f = short (list_all (fits m f)) (more_can m f)

pub more_bad : (m : Measure) (f : Field) (w : List ℕ) (ws : List (List ℕ)) → fits m f w ≡ false → IsGood (list_all (fits m f)) (w ∷ ws) 0
more_bad m f w ws e = bad (list_all (fits m f)) w ws (λ vs. rw e refl) (more_can m f)

pub more_onto : (m : Measure) (f : Field) (w : List ℕ) (ws : List (List ℕ)) (n : ℕ) → fits m f w ≡ true → IsGood (list_all (fits m f)) ws n
    → IsGood (list_all (fits m f)) (w ∷ ws) (suc n)
more_onto m f w ws n e good = onto (list_all (fits m f)) (list_all (fits m f)) w ws n (λ vs. rw e refl) good

pub several_onto : (m : Measure) (f : Field) (w : List ℕ) (ws : List (List ℕ)) (n : ℕ) → fits m f w ≡ true → IsGood (list_all (fits m f)) ws n
    → IsGood (are_several m f) (w ∷ ws) (suc n)
several_onto m f w ws n e good = onto (are_several m f) (list_all (fits m f)) w ws n (λ vs. rw e refl) good

pub several_bad : (m : Measure) (f : Field) (w : List ℕ) (ws : List (List ℕ)) → fits m f w ≡ false → IsGood (are_several m f) (w ∷ ws) 0
several_bad m f w ws e = bad (are_several m f) w ws (λ vs. rw e refl) (several_can m f)

-- ---- fields

pub field_onto : (m : Measure) (f : Field) (fs : List Field) (e : Ending) (w : List ℕ) (ws : List (List ℕ)) (n : ℕ) → fits m f w ≡ true → IsGood (are_fields m fs e) ws n
    → IsGood (are_fields m (f ∷ fs) e) (w ∷ ws) (suc n)
field_onto m f fs e w ws n t good = onto (are_fields m (f ∷ fs) e) (are_fields m fs e) w ws n (λ vs. rw t refl) good

pub field_bad : (m : Measure) (f : Field) (fs : List Field) (e : Ending) (w : List ℕ) (ws : List (List ℕ)) → fits m f w ≡ false → IsGood (are_fields m (f ∷ fs) e) (w ∷ ws) 0
field_bad m f fs e w ws t = bad (are_fields m (f ∷ fs) e) w ws (λ vs. rw t refl) (fields_can m (f ∷ fs) e)

-- ---- `show` and `schedule`

pub show_can : (m : Measure) → CanGoOn (show_form m) []
unfolding file_of
show_can m = (codes "states" ∷ [], refl)

pub show_bad : (m : Measure) (w : List ℕ) (ws : List (List ℕ)) → file_of w ≡ None → IsGood (show_form m) (w ∷ ws) 0
show_bad m w ws e = bad (show_form m) w ws (λ vs. ap (λ (f : Option File). shown_form m f vs) e) (show_can m)

pub show_onto : (m : Measure) (w : List ℕ) (ws : List (List ℕ)) (f : Option File) (n : ℕ) → file_of w ≡ f → IsGood (shown_form m f) ws n → IsGood (show_form m) (w ∷ ws) (suc n)
show_onto m w ws f n e good = onto (show_form m) (shown_form m f) w ws n (λ vs. ap (λ (f : Option File). shown_form m f vs) e) good

pub states_good : (m : Measure) (ws : List (List ℕ)) → IsGood (shown_form m (Some file.States)) ws 0
states_good m [] = short (shown_form m (Some file.States)) ([], refl)
states_good m (w ∷ ws) = bad (shown_form m (Some file.States)) w ws (λ vs. refl) ([], refl)

pub schedule_can : (m : Measure) → CanGoOn (schedule_form m) []
schedule_can m = (codes "rounds" ∷ [], refl)

pub rounds_good : (m : Measure) (w : List ℕ) (ws : List (List ℕ)) → bytes_eq w (codes "rounds") ≡ true → IsGood (schedule_form m) (w ∷ ws) 1
rounds_good m w ws e = one_alone (schedule_form m) w ws (rw e refl) (λ v rest. rw e refl)

pub turns_good : (m : Measure) (w : List ℕ) (ws : List (List ℕ)) (n : ℕ) → bytes_eq w (codes "rounds") ≡ false → bytes_eq w (codes "turns") ≡ true
    → IsGood (are_several m field.Seat) ws n → IsGood (schedule_form m) (w ∷ ws) (suc n)
turns_good m w ws n r t good = onto (schedule_form m) (are_several m field.Seat) w ws n (λ vs. rw (r, t) refl) good

pub mix_good : (m : Measure) (w : List ℕ) (ws : List (List ℕ)) (n : ℕ) → bytes_eq w (codes "rounds") ≡ false → bytes_eq w (codes "turns") ≡ false → bytes_eq w (codes "mix") ≡ true
    → IsGood (are_fields m (field.Seed ∷ field.Turns ∷ []) ending.Nothing) ws n → IsGood (schedule_form m) (w ∷ ws) (suc n)
mix_good m w ws n r t x good = onto (schedule_form m) (are_fields m (field.Seed ∷ field.Turns ∷ []) ending.Nothing) w ws n (λ vs. rw (r, t, x) refl) good

pub schedule_bad : (m : Measure) (w : List ℕ) (ws : List (List ℕ)) → bytes_eq w (codes "rounds") ≡ false → bytes_eq w (codes "turns") ≡ false → bytes_eq w (codes "mix") ≡ false
    → IsGood (schedule_form m) (w ∷ ws) 0
schedule_bad m w ws r t x = bad (schedule_form m) w ws (λ vs. rw (r, t, x) refl) (schedule_can m)

-- one word more, as the code counts it
pub counted : (g : Form) (all : List (List ℕ)) (w : List ℕ) (ws : List (List ℕ)) (n : ℕ) → all ≡ w ∷ ws → IsGood g (w ∷ ws) (suc n) → IsGood g all (1 + n)
counted g all w ws n is good =
    let count : suc n ≡ 1 + n = omega arith in
    subst (λ (x : List (List ℕ)). IsGood g x (1 + n)) (sym is) (subst (λ (k : ℕ). IsGood g (w ∷ ws) k) count good)
