-- The forms of lines, and those of lines whose numbers are in their ranges, are those by which hp_script reads them.
use Rattle.std.proofs.Common.{◌≡◌, ℕ, ◌+◌, ◌^◌, ◌<◌, Bool, true, false, ◌&&◌, List, [], ◌∷◌, Option, Some, None, Ok, Err, refl, sym, ap, ◌∙◌}
use Rattle.std.specs.Prelude.{codes}
use Rattle.std.specs.List.{list_all}
use Rattle.std.specs.Str.{bytes_eq}
use Rattle.hp_states.proofs.Basics.{and_false, and_true}
use Rattle.hp_states.specs.declared.limits.TheConstants.{MAX_RULE_CPU, MAX_INSTANCE, MAX_EVENTS, MAX_CODE}
use Rattle.hp_model.specs.Lists.{is_empty}
use Rattle.hp_event.specs.declared.event.File.{File}
use Rattle.hp_event.specs.declared.event.File.TheVariants as file
use Rattle.hp_text.specs.declared.unread.Unread.TheVariants.{NotOfForm, OutOfRange}
use Rattle.hp_text.specs.declared.first_word.OpWord.{OpWord}
use Rattle.hp_text.specs.declared.first_word.OpWord.TheVariants as op
use Rattle.hp_text.specs.Readings as reading
use Rattle.hp_text.specs.Readings.{Reading, Tail, said, both, done, alone, in_front, of_form, each}
use Rattle.hp_text.specs.Numbers.{number_from, number, long_number, integer}
use Rattle.hp_text.specs.Choices.{dir_of, calls_of, kind_of, name_of, is_name, any_from}
use Rattle.hp_text.specs.Flags.{form, one_flag, two_flags}
use Rattle.hp_text.specs.Lists.{number_list}
use Rattle.hp_text.specs.Sets.{set}
use Rattle.hp_text.specs.FirstWords.{file_of}
use Rattle.hp_text.specs.OpAt.{shown_tail, show_tail, op_tail}
use Rattle.hp_text.specs.Subs as subs
use Rattle.hp_script.specs.Statements as read
use Rattle.hp_script.specs.Statements.{statement_by}
use Rattle.hp_script.specs.Ranges.{is_schedule, is_op, is_in_range}
use Rattle.hp_hint.specs.declared.measure.Measure.{Measure}
use Rattle.hp_hint.specs.declared.measure.Measure.TheVariants as measure
use Rattle.hp_hint.specs.declared.field.Field.{Field}
use Rattle.hp_hint.specs.declared.field.Field.TheVariants.{Possible, Cpu, State, Sub, Instance, Value, Primary, Seed, Turns, Seat, RuleCpu, RuleInstance, RuleCall, Code, Label, Name, Calls, Kind, Dir}
use Rattle.hp_hint.specs.declared.form.Ending.{Ending}
use Rattle.hp_hint.specs.declared.form.Ending.TheVariants.{Nothing, Flags}
use Rattle.hp_hint.specs.declared.verb.Verb.{Verb}
use Rattle.hp_hint.specs.declared.verb.Verb.TheVariants as verb
use Rattle.hp_hint.specs.Verbs.{read_as}
use Rattle.hp_hint.specs.Forms.{is_formed, says, possible_of, measured, is_any, is_there, fits, are_several, are_fields}
use Rattle.hp_hint.specs.LineForms.{shown_form, show_form, scheduled_form, schedule_form, op_form, line_form}
use Rattle.hp_hint.proofs.Risen.{absent_same, set_same}

-- ---- readings

none_same : {A : Type 0} (m : Measure) (test : A → Bool) → measured m test (Err NotOfForm) ≡ false
none_same measure.Form test = refl
none_same (measure.Ranges p) test = refl

said_same : {A B : Type 0} (m : Measure) (test : B → Bool) (make : A → B) (r : Reading A) → measured m test (said make r) ≡ measured m (λ a. test (make a)) r
said_same measure.Form test make (Ok a) = refl
said_same measure.Form test make (Err NotOfForm) = refl
said_same measure.Form test make (Err OutOfRange) = refl
said_same (measure.Ranges p) test make (Ok a) = refl
said_same (measure.Ranges p) test make (Err NotOfForm) = refl
said_same (measure.Ranges p) test make (Err OutOfRange) = refl

both_same : {A B : Type 0} (m : Measure) (test : A × B → Bool) (one : A → Bool) (two : B → Bool) → ((a : A) (b : B) → test (a, b) ≡ (one a && two b)) → (a : Reading A) (b : Reading B)
    → measured m test (both a b) ≡ (measured m one a && measured m two b)
both_same measure.Form test one two same (Ok a) (Ok b) = refl
both_same measure.Form test one two same (Ok a) (Err NotOfForm) = refl
both_same measure.Form test one two same (Ok a) (Err OutOfRange) = refl
both_same measure.Form test one two same (Err NotOfForm) b = refl
both_same measure.Form test one two same (Err OutOfRange) (Ok b) = refl
both_same measure.Form test one two same (Err OutOfRange) (Err NotOfForm) = refl
both_same measure.Form test one two same (Err OutOfRange) (Err OutOfRange) = refl
both_same (measure.Ranges p) test one two same (Ok a) (Ok b) = same a b
both_same (measure.Ranges p) test one two same (Ok a) (Err unread) = sym (and_false (one a))
both_same (measure.Ranges p) test one two same (Err NotOfForm) b = refl
both_same (measure.Ranges p) test one two same (Err OutOfRange) (Ok b) = refl
both_same (measure.Ranges p) test one two same (Err OutOfRange) (Err unread) = refl

there_same : {A : Type 0} (m : Measure) (o : Option A) → measured m is_any (of_form o) ≡ is_there o
there_same measure.Form None = refl
there_same measure.Form (Some a) = refl
there_same (measure.Ranges p) None = refl
there_same (measure.Ranges p) (Some a) = refl

done_same : {A : Type 0} (m : Measure) (test : A → Bool) (a : A) → test a ≡ true → (ws : List (List ℕ)) → measured m test (done a ws) ≡ is_empty ws
done_same measure.Form test a passes [] = refl
done_same (measure.Ranges p) test a passes [] = passes
done_same m test a passes (w ∷ ws) = none_same m test

label_same : (m : Measure) (test : Unit {0} → Bool) → test tt ≡ true → (w : List ℕ) → measured m test (read.label w) ≡ fits m Label w
label_same m test passes w = by m (is_name w) refl
  where
    by : (n : Measure) (t : Bool) → is_name w ≡ t → measured n test (read.label w) ≡ is_name w
    by measure.Form true e = rw e refl
    by measure.Form false e = rw e refl
    by (measure.Ranges p) true e = rw e passes
    by (measure.Ranges p) false e = rw e refl

-- ---- tails

alone_same : {A : Type 0} (m : Measure) (f : Field) (test : A → Bool) (field : reading.Field A) → ((w : List ℕ) → measured m test (field w) ≡ fits m f w) → (ws : List (List ℕ))
    → measured m test (alone field ws) ≡ are_fields m (f ∷ []) Nothing ws
alone_same m f test field same [] = none_same m test
alone_same m f test field same (w ∷ []) = same w ∙ sym (and_true (fits m f w))
alone_same m f test field same (w ∷ v ∷ ws) = none_same m test ∙ sym (and_false (fits m f w))

front_same : {A B : Type 0} (m : Measure) (f : Field) (test : A × B → Bool) (one : A → Bool) (two : B → Bool) (field : reading.Field A) (tail : Tail B) (fs : List Field) (e : Ending)
    → ((a : A) (b : B) → test (a, b) ≡ (one a && two b)) → ((w : List ℕ) → measured m one (field w) ≡ fits m f w)
    → ((ws : List (List ℕ)) → measured m two (tail ws) ≡ are_fields m fs e ws) → (ws : List (List ℕ)) → measured m test (in_front field tail ws) ≡ are_fields m (f ∷ fs) e ws
front_same m f test one two field tail fs e parts same more [] = none_same m test
front_same m f test one two field tail fs e parts same more (w ∷ ws) =
    both_same m test one two parts (field w) (tail ws) ∙ ap (λ t. t && measured m two (tail ws)) (same w) ∙ ap (λ t. fits m f w && t) (more ws)

form_same : (m : Measure) (ws : List (List ℕ)) → measured m is_any (form ws) ≡ are_fields m [] Flags ws
unfolding form
form_same measure.Form ws = refl
form_same (measure.Ranges p) [] = refl
form_same (measure.Ranges p) (w ∷ []) = by (bytes_eq w (codes "nocalls")) (bytes_eq w (codes "locked")) refl refl
  where
    by : (t u : Bool) → bytes_eq w (codes "nocalls") ≡ t → bytes_eq w (codes "locked") ≡ u → says is_any (one_flag w) ≡ is_formed (one_flag w)
    by true u e f = rw e refl
    by false true e f = rw (e, f) refl
    by false false e f = rw (e, f) refl
form_same (measure.Ranges p) (w ∷ v ∷ []) = by (bytes_eq w (codes "nocalls") && bytes_eq v (codes "locked")) refl
  where
    by : (t : Bool) → (bytes_eq w (codes "nocalls") && bytes_eq v (codes "locked")) ≡ t → says is_any (two_flags w v) ≡ is_formed (two_flags w v)
    by true e = rw e refl
    by false e = rw e refl
form_same (measure.Ranges p) (w ∷ v ∷ u ∷ ws) = refl

each_same : (m : Measure) (f : Field) (test : ℕ → Bool) → ((w : List ℕ) → measured m test (number w) ≡ fits m f w) → (ws : List (List ℕ))
    → measured m (list_all test) (each number ws) ≡ list_all (fits m f) ws
each_same measure.Form f test same [] = refl
each_same (measure.Ranges p) f test same [] = refl
each_same m f test same (w ∷ ws) =
    said_same m (list_all test) (λ x. x.0 ∷ x.1) (both (number w) (each number ws))
    ∙ both_same m (λ x. list_all test (x.0 ∷ x.1)) test (list_all test) (λ a b. refl) (number w) (each number ws)
    ∙ ap (λ t. t && measured m (list_all test) (each number ws)) (same w) ∙ ap (λ t. fits m f w && t) (each_same m f test same ws)

list_same : (m : Measure) (f : Field) (test : ℕ → Bool) → ((w : List ℕ) → measured m test (number w) ≡ fits m f w) → (ws : List (List ℕ))
    → measured m (list_all test) (number_list ws) ≡ are_several m f ws
list_same m f test same [] = none_same m (list_all test)
list_same m f test same (w ∷ ws) = each_same m f test same (w ∷ ws)

-- ---- operations

shown_same : (m : Measure) (f : Option File) (ws : List (List ℕ)) → measured m is_op (shown_tail f ws) ≡ shown_form m f ws
shown_same m None ws = none_same m is_op
shown_same m (Some file.State) ws = said_same m is_op _ (alone number ws) ∙ alone_same m Cpu _ number (λ w. refl) ws
shown_same m (Some file.Target) ws = said_same m is_op _ (alone number ws) ∙ alone_same m Cpu _ number (λ w. refl) ws
shown_same m (Some file.Fail) ws = said_same m is_op _ (alone number ws) ∙ alone_same m Cpu _ number (λ w. refl) ws
shown_same m (Some file.States) ws = done_same m is_op _ refl ws

show_same : (m : Measure) (ws : List (List ℕ)) → measured m is_op (show_tail ws) ≡ show_form m ws
show_same m [] = none_same m is_op
show_same m (w ∷ ws) = shown_same m (file_of w) ws

op_same : (m : Measure) (first : OpWord) (ws : List (List ℕ)) → measured m is_op (op_tail first ws) ≡ op_form m first ws
unfolding op_tail
op_same m op.Up ws = said_same m is_op _ (alone number ws) ∙ alone_same m Cpu _ number (λ w. refl) ws
op_same m op.Down ws = said_same m is_op _ (alone number ws) ∙ alone_same m Cpu _ number (λ w. refl) ws
op_same m op.Target ws =
    said_same m is_op _ (in_front number (alone integer) ws)
    ∙ front_same m Cpu _ _ _ number (alone integer) (Value ∷ []) Nothing (λ a b. refl) (λ w. refl) (alone_same m Value _ integer (λ w. refl)) ws
op_same m op.Fail ws =
    said_same m is_op _ (in_front number (alone integer) ws)
    ∙ front_same m Cpu _ _ _ number (alone integer) (Value ∷ []) Nothing (λ a b. refl) (λ w. refl) (alone_same m Value _ integer (λ w. refl)) ws
op_same m op.Show ws = show_same m ws
op_same m op.Setup ws =
    said_same m is_op _ (in_front number (in_front number form) ws)
    ∙ front_same m State _ _ _ number (in_front number form) (Sub ∷ []) Flags (λ a b. refl) (λ w. refl)
    (front_same m Sub _ _ is_any number form [] Flags (λ a b. sym (and_true _)) (λ w. refl) (form_same m)) ws
op_same m op.Remove ws =
    said_same m is_op _ (in_front number form ws)
    ∙ front_same m State _ _ is_any number form [] Flags (λ a b. sym (and_true _)) (λ w. refl) (form_same m) ws
op_same m op.Add ws =
    said_same m is_op _ (in_front number (in_front number form) ws)
    ∙ front_same m State _ _ _ number (in_front number form) (Instance ∷ []) Flags (λ a b. refl) (λ w. refl)
    (front_same m Instance _ _ is_any number form [] Flags (λ a b. sym (and_true _)) (λ w. refl) (form_same m)) ws
op_same m op.Del ws =
    said_same m is_op _ (in_front number (in_front number form) ws)
    ∙ front_same m State _ _ _ number (in_front number form) (Instance ∷ []) Flags (λ a b. refl) (λ w. refl)
    (front_same m Instance _ _ is_any number form [] Flags (λ a b. sym (and_true _)) (λ w. refl) (form_same m)) ws
op_same m op.Lock ws = done_same m is_op _ refl ws
op_same m op.Unlock ws = done_same m is_op _ refl ws
op_same m op.Boot ws = said_same m is_op _ (alone number ws) ∙ alone_same m Cpu _ number (λ w. refl) ws
op_same m op.Disable ws = done_same m is_op _ refl ws
op_same m op.Enable ws = done_same m is_op _ refl ws
op_same m op.Freeze ws = said_same m is_op _ (alone integer ws) ∙ alone_same m Primary _ integer (λ w. refl) ws
op_same m op.Thaw ws = done_same m is_op _ refl ws
op_same m op.Wakeup ws = done_same m is_op _ refl ws
op_same m op.UpMany ws = said_same m is_op _ (set ws) ∙ set_same m ws

-- ---- lines

mix_same : (m : Measure) (ws : List (List ℕ)) → measured m is_schedule (read.mix ws) ≡ are_fields m (Seed ∷ Turns ∷ []) Nothing ws
mix_same m ws =
    said_same m is_schedule _ (in_front long_number (alone number) ws)
    ∙ front_same m Seed _ _ _ long_number (alone number) (Turns ∷ []) Nothing (λ a b. refl) (λ w. refl) (alone_same m Turns _ number (λ w. refl)) ws

scheduled_same : (m : Measure) (name : List ℕ) (ws : List (List ℕ)) → measured m is_schedule (read.schedule_of_kind name ws) ≡ scheduled_form m name ws
unfolding read.schedule_of_kind
scheduled_same m name ws = by (bytes_eq name (codes "rounds")) (bytes_eq name (codes "turns")) (bytes_eq name (codes "mix")) refl refl refl
  where
    by : (r t x : Bool) → bytes_eq name (codes "rounds") ≡ r → bytes_eq name (codes "turns") ≡ t → bytes_eq name (codes "mix") ≡ x
        → measured m is_schedule (read.schedule_of_kind name ws) ≡ scheduled_form m name ws
    by true t x e f h = rw e (done_same m is_schedule _ refl ws)
    by false true x e f h = rw (e, f) (said_same m is_schedule _ (number_list ws) ∙ list_same m Seat _ (λ w. refl) ws)
    by false false true e f h = rw (e, f, h) (mix_same m ws)
    by false false false e f h = rw (e, f, h) (none_same m is_schedule)

schedule_same : (m : Measure) (ws : List (List ℕ)) → measured m is_schedule (read.schedule ws) ≡ schedule_form m ws
unfolding read.schedule
schedule_same m [] = none_same m is_schedule
schedule_same m (w ∷ ws) = scheduled_same m w ws

sub_same : (m : Measure) (ws : List (List ℕ)) → measured m is_any (subs.sub ws) ≡ are_fields m (Name ∷ Calls ∷ Kind ∷ []) Nothing ws
unfolding subs.sub
sub_same m ws =
    said_same m is_any _ (in_front subs.name subs.calls_and_kind ws)
    ∙ front_same m Name _ is_any is_any subs.name subs.calls_and_kind (Calls ∷ Kind ∷ []) Nothing (λ a b. refl) (λ w. there_same m (name_of w))
    (front_same m Calls _ is_any is_any subs.calls (alone subs.kind) (Kind ∷ []) Nothing (λ a b. refl) (λ w. there_same m (calls_of w))
    (alone_same m Kind is_any subs.kind (λ w. there_same m (kind_of w)))) ws

rule_same : (m : Measure) (ws : List (List ℕ)) → measured m is_any (subs.rule ws) ≡ are_fields m (Dir ∷ RuleCpu ∷ RuleInstance ∷ RuleCall ∷ Code ∷ []) Nothing ws
unfolding subs.rule
rule_same m ws =
    said_same m is_any _ (in_front subs.dir subs.cpu_and_call ws)
    ∙ front_same m Dir _ is_any is_any subs.dir subs.cpu_and_call (RuleCpu ∷ RuleInstance ∷ RuleCall ∷ Code ∷ []) Nothing (λ a b. refl) (λ w. there_same m (dir_of w)) cpu ws
  where
    code : (ws : List (List ℕ)) → measured m is_any (alone (number_from 1 (MAX_CODE + 1)) ws) ≡ are_fields m (Code ∷ []) Nothing ws
    code ws = alone_same m Code is_any (number_from 1 (MAX_CODE + 1)) (λ w. refl) ws

    nth : (ws : List (List ℕ)) → measured m is_any (subs.nth_and_code ws) ≡ are_fields m (RuleCall ∷ Code ∷ []) Nothing ws
    nth ws = front_same m RuleCall _ is_any is_any (any_from 1 (MAX_EVENTS + 1)) (alone (number_from 1 (MAX_CODE + 1))) (Code ∷ []) Nothing (λ a b. refl) (λ w. refl) code ws

    inst : (ws : List (List ℕ)) → measured m is_any (subs.inst_and_call ws) ≡ are_fields m (RuleInstance ∷ RuleCall ∷ Code ∷ []) Nothing ws
    inst ws = front_same m RuleInstance _ is_any is_any (any_from 0 (MAX_INSTANCE + 1)) subs.nth_and_code (RuleCall ∷ Code ∷ []) Nothing (λ a b. refl) (λ w. refl) nth ws

    cpu : (ws : List (List ℕ)) → measured m is_any (subs.cpu_and_call ws) ≡ are_fields m (RuleCpu ∷ RuleInstance ∷ RuleCall ∷ Code ∷ []) Nothing ws
    cpu ws = front_same m RuleCpu _ is_any is_any (any_from 0 (MAX_RULE_CPU + 1)) subs.inst_and_call (RuleInstance ∷ RuleCall ∷ Code ∷ []) Nothing (λ a b. refl) (λ w. refl) inst ws

-- a line is of the form by which it is read
pub same_form : (m : Measure) (v : Verb) (ws : List (List ℕ)) → possible_of m < 2 ^ 32 → measured m (is_in_range (possible_of m)) (statement_by (read_as v) ws) ≡ line_form m v ws
same_form m verb.Cpus ws few = said_same m (is_in_range (possible_of m)) _ (alone number ws) ∙ alone_same m Possible _ number (λ w. refl) ws
same_form m verb.Absent ws few = said_same m (is_in_range (possible_of m)) _ (number_list ws) ∙ absent_same m (possible_of m) few ws
same_form m verb.Sub ws few = said_same m (is_in_range (possible_of m)) _ (subs.sub ws) ∙ sub_same m ws
same_form m verb.Rule ws few = said_same m (is_in_range (possible_of m)) _ (subs.rule ws) ∙ rule_same m ws
same_form m verb.Schedule ws few = said_same m (is_in_range (possible_of m)) _ (read.schedule ws) ∙ schedule_same m ws
same_form m verb.Actor ws few = said_same m (is_in_range (possible_of m)) _ (alone read.label ws) ∙ alone_same m Label _ read.label (label_same m _ refl) ws
same_form m (verb.Operation first) ws few = said_same m (is_in_range (possible_of m)) _ (op_tail first ws) ∙ op_same m first ws
