-- Words that are of their form, and go on to a line whose numbers are in their ranges, are such a line.
use Rattle.std.proofs.Common.{◌≡◌, ℕ, suc, ◌+◌, ◌^◌, ◌<◌, Bool, true, false, cond, not, ◌&&◌, ltb, leb, List, [], ◌∷◌, ◌++◌, Option, Some, None, Ok, Err, length, take, refl, sym, ap, ◌∙◌, subst, arith}
use Rattle.std.specs.Prelude.{codes}
use Rattle.std.specs.Str.{bytes_eq}
use Rattle.std.proofs.lemmas.Bool.{and_from, and_parts, both_ways, ltb-true, ltb-false, leb-true}
use Rattle.std.proofs.lemmas.List.{take_all}
use Rattle.std.proofs.lemmas.List.Folds.{list_all-append}
use Rattle.hp_event.specs.declared.event.File.{File}
use Rattle.hp_event.specs.declared.event.File.TheVariants as file
use Rattle.hp_text.specs.declared.unread.Unread.TheVariants.{NotOfForm, OutOfRange}
use Rattle.hp_text.specs.declared.first_word.OpWord.{OpWord}
use Rattle.hp_text.specs.declared.first_word.OpWord.TheVariants as op
use Rattle.hp_text.specs.Readings.{Reading}
use Rattle.hp_text.specs.FirstWords.{file_of}
use Rattle.hp_text.specs.Numbers.{is_number, value}
use Rattle.hp_script.specs.declared.verb.Verb.{Verb as ReadVerb}
use Rattle.hp_script.specs.declared.statement.Statement.{Statement}
use Rattle.hp_script.specs.Verbs.{verb_of}
use Rattle.hp_script.specs.Ranges.{is_in_range}
use Rattle.hp_script.specs.Refusals.{is_out_of_range}
use Rattle.hp_script.specs.Statements.{statement_in, statement_behind}
use Rattle.hp_hint.specs.declared.measure.Measure.{Measure}
use Rattle.hp_hint.specs.declared.measure.Measure.TheVariants as measure
use Rattle.hp_hint.specs.declared.field.Field.{Field}
use Rattle.hp_hint.specs.declared.field.Field.TheVariants.{Possible, Cpu, State, Sub, Instance, Value, Primary, Seed, Turns, Seat, RuleCpu, RuleInstance, RuleCall, Code, Label, Name, Calls, Kind, Dir}
use Rattle.hp_hint.specs.declared.form.Ending.{Ending}
use Rattle.hp_hint.specs.declared.form.Ending.TheVariants.{Nothing, Flags, Several}
use Rattle.hp_hint.specs.declared.verb.Verb.{Verb}
use Rattle.hp_hint.specs.declared.verb.Verb.TheVariants as verb
use Rattle.hp_hint.specs.Verbs.{read_as}
use Rattle.hp_hint.specs.Forms.{IsGood, is_formed, says, fits, are_several, is_between, are_rising, risen, ends, are_fields}
use Rattle.hp_hint.specs.LineForms.{Form, shown_form, show_form, scheduled_form, schedule_form, op_form, line_form, has_lines}
use Rattle.hp_hint.specs.Faults.{IsFirstOutOfRange}
use Rattle.hp_hint.proofs.LineWords.{range_known, range_same}

-- words of one form that go on to another are of that
abbrev Closed : (form range : Form) → Type 0
Closed form range = (ws rest : List (List ℕ)) → form ws ≡ true → range (ws ++ rest) ≡ true → range ws ≡ true

none_closed : (range : Form) → Closed (λ ws. false) range
none_closed range ws rest f r = absurd cc

several_closed : (p : ℕ) (f : Field) → Closed (are_several measure.Form f) (are_several (measure.Ranges p) f)
several_closed p f [] rest t r = absurd cc
several_closed p f (w ∷ ws) rest t r = (and_parts _ _ (sym (list_all-append (fits (measure.Ranges p) f) (w ∷ ws) rest) ∙ r)).0

ends_closed : (p : ℕ) (e : Ending) → Closed (ends measure.Form e) (ends (measure.Ranges p) e)
ends_closed p Nothing ws rest t r = t
ends_closed p Flags ws rest t r = t
ends_closed p (Several f) ws rest t r = several_closed p f ws rest t r

fields_closed : (p : ℕ) (fs : List Field) (e : Ending) → Closed (are_fields measure.Form fs e) (are_fields (measure.Ranges p) fs e)
fields_closed p [] e ws rest t r = ends_closed p e ws rest t r
fields_closed p (f ∷ fs) e [] rest t r = absurd cc
fields_closed p (f ∷ fs) e (w ∷ ws) rest t r =
    let form = and_parts (fits measure.Form f w) (are_fields measure.Form fs e ws) t in
    let range = and_parts (fits (measure.Ranges p) f w) (are_fields (measure.Ranges p) fs e (ws ++ rest)) r in
    and_from (fits (measure.Ranges p) f w) (are_fields (measure.Ranges p) fs e ws) range.0 (fields_closed p fs e ws rest form.1 range.1)

rising_closed : (low limit : ℕ) (ws rest : List (List ℕ)) → are_rising low limit (ws ++ rest) ≡ true → are_rising low limit ws ≡ true
rising_closed low limit [] rest r = refl
rising_closed low limit (w ∷ ws) rest r =
    let parts = and_parts (is_between low limit w) (are_rising (value w + 1) limit (ws ++ rest)) r in
    and_from (is_between low limit w) (are_rising (value w + 1) limit ws) parts.0 (rising_closed (value w + 1) limit ws rest parts.1)

risen_closed : (p low limit : ℕ) → Closed (risen measure.Form low limit) (risen (measure.Ranges p) low limit)
risen_closed p low limit [] rest t r = absurd cc
risen_closed p low limit (w ∷ ws) rest t r = rising_closed low limit (w ∷ ws) rest r

shown_closed : (p : ℕ) (f : Option File) → Closed (shown_form measure.Form f) (shown_form (measure.Ranges p) f)
shown_closed p None ws rest t r = absurd cc
shown_closed p (Some file.State) ws rest t r = fields_closed p (Cpu ∷ []) Nothing ws rest t r
shown_closed p (Some file.Target) ws rest t r = fields_closed p (Cpu ∷ []) Nothing ws rest t r
shown_closed p (Some file.Fail) ws rest t r = fields_closed p (Cpu ∷ []) Nothing ws rest t r
shown_closed p (Some file.States) ws rest t r = fields_closed p [] Nothing ws rest t r

show_closed : (p : ℕ) → Closed (show_form measure.Form) (show_form (measure.Ranges p))
show_closed p [] rest t r = absurd cc
show_closed p (w ∷ ws) rest t r = shown_closed p (file_of w) ws rest t r

scheduled_closed : (p : ℕ) (name : List ℕ) → Closed (scheduled_form measure.Form name) (scheduled_form (measure.Ranges p) name)
scheduled_closed p name ws rest = by (bytes_eq name (codes "rounds")) (bytes_eq name (codes "turns")) (bytes_eq name (codes "mix"))
  where
    chosen : (r t x : Bool) → Measure → Form
    chosen r t x m vs = cond r (are_fields m [] Nothing vs) (cond t (are_fields m [] (Several Seat) vs) (cond x (are_fields m (Seed ∷ Turns ∷ []) Nothing vs) false))

    by : (r t x : Bool) → chosen r t x measure.Form ws ≡ true → chosen r t x (measure.Ranges p) (ws ++ rest) ≡ true → chosen r t x (measure.Ranges p) ws ≡ true
    by true t x f g = fields_closed p [] Nothing ws rest f g
    by false true x f g = fields_closed p [] (Several Seat) ws rest f g
    by false false true f g = fields_closed p (Seed ∷ Turns ∷ []) Nothing ws rest f g
    by false false false f g = absurd cc

schedule_closed : (p : ℕ) → Closed (schedule_form measure.Form) (schedule_form (measure.Ranges p))
schedule_closed p [] rest t r = absurd cc
schedule_closed p (w ∷ ws) rest t r = scheduled_closed p w ws rest t r

op_closed : (p : ℕ) (first : OpWord) → Closed (op_form measure.Form first) (op_form (measure.Ranges p) first)
op_closed p op.Up ws rest t r = fields_closed p (Cpu ∷ []) Nothing ws rest t r
op_closed p op.Down ws rest t r = fields_closed p (Cpu ∷ []) Nothing ws rest t r
op_closed p op.Target ws rest t r = fields_closed p (Cpu ∷ Value ∷ []) Nothing ws rest t r
op_closed p op.Fail ws rest t r = fields_closed p (Cpu ∷ Value ∷ []) Nothing ws rest t r
op_closed p op.Show ws rest t r = show_closed p ws rest t r
op_closed p op.Setup ws rest t r = fields_closed p (State ∷ Sub ∷ []) Flags ws rest t r
op_closed p op.Remove ws rest t r = fields_closed p (State ∷ []) Flags ws rest t r
op_closed p op.Add ws rest t r = fields_closed p (State ∷ Instance ∷ []) Flags ws rest t r
op_closed p op.Del ws rest t r = fields_closed p (State ∷ Instance ∷ []) Flags ws rest t r
op_closed p op.Lock ws rest t r = fields_closed p [] Nothing ws rest t r
op_closed p op.Unlock ws rest t r = fields_closed p [] Nothing ws rest t r
op_closed p op.Boot ws rest t r = fields_closed p (Cpu ∷ []) Nothing ws rest t r
op_closed p op.Disable ws rest t r = fields_closed p [] Nothing ws rest t r
op_closed p op.Enable ws rest t r = fields_closed p [] Nothing ws rest t r
op_closed p op.Freeze ws rest t r = fields_closed p (Primary ∷ []) Nothing ws rest t r
op_closed p op.Thaw ws rest t r = fields_closed p [] Nothing ws rest t r
op_closed p op.Wakeup ws rest t r = fields_closed p [] Nothing ws rest t r
op_closed p op.UpMany ws rest t r = risen_closed p 0 256 ws rest t r

line_closed : (p : ℕ) (v : Verb) (ws rest : List (List ℕ)) → line_form measure.Form v ws ≡ true → line_form (measure.Ranges p) v (ws ++ rest) ≡ true → line_form (measure.Ranges p) v ws ≡ true
line_closed p verb.Cpus ws rest t r = fields_closed p (Possible ∷ []) Nothing ws rest t r
line_closed p verb.Absent [] rest t r = absurd cc
line_closed p verb.Absent (w ∷ ws) rest t r = rising_closed 1 p (w ∷ ws) rest r
line_closed p verb.Sub ws rest t r = fields_closed p (Name ∷ Calls ∷ Kind ∷ []) Nothing ws rest t r
line_closed p verb.Rule ws rest t r = fields_closed p (Dir ∷ RuleCpu ∷ RuleInstance ∷ RuleCall ∷ Code ∷ []) Nothing ws rest t r
line_closed p verb.Schedule ws rest t r = schedule_closed p ws rest t r
line_closed p verb.Actor ws rest t r = fields_closed p (Label ∷ []) Nothing ws rest t r
line_closed p (verb.Operation first) ws rest t r = op_closed p first ws rest t r

-- ---- so one of their numbers is out of its range

pub formed_out : (p : ℕ) (said : Reading Statement) → is_out_of_range p said ≡ true → (is_formed said ≡ true) × (says (is_in_range p) said ≡ false)
formed_out p (Ok s) e = (refl, by (is_in_range p s) e)
  where
    by : (t : Bool) → not t ≡ true → t ≡ false
    by true e = absurd cc
    by false e = refl
formed_out p (Err OutOfRange) e = (refl, refl)
formed_out p (Err NotOfForm) e = absurd cc

one_is_out : (p : ℕ) (v : Verb) (ws : List (List ℕ)) (n : ℕ) → line_form measure.Form v ws ≡ true → line_form (measure.Ranges p) v ws ≡ false
    → IsGood (line_form (measure.Ranges p) v) ws n → n < length ws
one_is_out p v ws n form range good = by (ltb n (length ws)) refl
  where
    by : (t : Bool) → ltb n (length ws) ≡ t → n < length ws
    by true e = ltb-true n (length ws) e
    by false e =
        let all : take n ws ≡ ws = take_all n ws (ltb-false n (length ws) e) in
        let goes : line_form (measure.Ranges p) v (ws ++ good.goes_on.0) ≡ true = subst (λ (x : List (List ℕ)). line_form (measure.Ranges p) v (x ++ good.goes_on.0) ≡ true) all good.goes_on.1 in
        absurd (both_ways (line_form (measure.Ranges p) v ws) range (line_closed p v ws good.goes_on.0 form goes))

pub first_out : (p : ℕ) (w : List ℕ) (ws : List (List ℕ)) (v : Verb) (n : ℕ) → p < 2 ^ 32 → verb_of w ≡ Some (read_as v) → is_out_of_range p (statement_in (w ∷ ws)) ≡ true
    → IsGood (line_form (measure.Ranges p) v) ws n → IsFirstOutOfRange p (w ∷ ws) (1 + n)
first_out p w ws v n small is out good =
    let both = formed_out p (statement_in (w ∷ ws)) out in
    let form : line_form measure.Form v ws ≡ true = sym (range_same measure.Form w ws v (omega arith) is) ∙ both.0 in
    let range : line_form (measure.Ranges p) v ws ≡ false = sym (range_same (measure.Ranges p) w ws v small is) ∙ both.1 in
    let below = one_is_out p v ws n form range good in
    let all = range_known p w ws v n small is good in
    let count : suc n ≡ 1 + n = omega arith in
    subst (λ (k : ℕ). IsFirstOutOfRange p (w ∷ ws) k) count (record {
      is_number = omega arith;
      is_there = omega (arith, below);
      goes_on = λ more. all.goes_on;
      lost = all.lost (omega (arith, below));
    })

none_between : (p : ℕ) (u : List ℕ) → ltb 1 p ≡ false → is_between 1 p u ≡ false
none_between p u few = by (is_number u) (leb 1 (value u)) (ltb (value u) p) refl refl refl
  where
    by : (t a b : Bool) → is_number u ≡ t → leb 1 (value u) ≡ a → ltb (value u) p ≡ b → is_between 1 p u ≡ false
    by true true true e f g =
        let least = leb-true 1 (value u) f in
        let below = ltb-true (value u) p g in
        let most = ltb-false 1 p few in
        absurd (omega (arith, least, below, most))
    by true true false e f g = rw (e, f, g) refl
    by true false b e f g = rw (e, f) refl
    by false a b e f g = rw e refl

-- where no number is in range behind the first word, the one behind it is at fault
pub second_out : (p : ℕ) (w : List ℕ) (ws : List (List ℕ)) (v : Verb) → p < 2 ^ 32 → verb_of w ≡ Some (read_as v) → is_out_of_range p (statement_in (w ∷ ws)) ≡ true
    → has_lines (measure.Ranges p) v ≡ false → IsFirstOutOfRange p (w ∷ ws) 1
second_out p w [] verb.Absent small is out none =
    let both = formed_out p (statement_in (w ∷ [])) out in
    let form : line_form measure.Form verb.Absent [] ≡ true = sym (range_same measure.Form w [] verb.Absent (omega arith) is) ∙ both.0 in
    absurd cc
second_out p w (u ∷ us) verb.Absent small is out none =
    record {
      is_number = omega arith;
      is_there = omega arith;
      goes_on = λ more. absurd (omega (arith, more));
      lost = λ rest. range_same (measure.Ranges p) w (u ∷ rest) verb.Absent small is ∙ ap (λ t. t && are_rising (value u + 1) p rest) (none_between p u none);
    }
second_out p w ws verb.Cpus small is out none = absurd cc
second_out p w ws verb.Sub small is out none = absurd cc
second_out p w ws verb.Rule small is out none = absurd cc
second_out p w ws verb.Schedule small is out none = absurd cc
second_out p w ws verb.Actor small is out none = absurd cc
second_out p w ws (verb.Operation first) small is out none = absurd cc

-- a line without a first word, or of one that none has, isn't of a form
pub none_out : (p : ℕ) → is_out_of_range p (statement_in []) ≡ true → ⊥
none_out p e = absurd cc

pub unknown_out : (p : ℕ) (w : List ℕ) (ws : List (List ℕ)) → verb_of w ≡ None → is_out_of_range p (statement_in (w ∷ ws)) ≡ true → ⊥
unknown_out p w ws is e =
    let other : is_out_of_range p (statement_in (w ∷ ws)) ≡ false = ap (λ (u : Option ReadVerb). is_out_of_range p (statement_behind u ws)) is in
    both_ways (is_out_of_range p (statement_in (w ∷ ws))) other e
