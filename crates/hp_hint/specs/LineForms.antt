-- The forms of lines, by the word of each at a time. That hp_script reads them so, `SameForms.antt` of proofs/ shows.
-- This project's own.
use Rattle.std.specs.Prelude.{ℕ, Bool, true, false, List, [], ◌∷◌, Option, Some, None, codes, if◌then◌else◌}
use Rattle.std.specs.Str.{bytes_eq}
use Rattle.hp_states.specs.declared.limits.TheConstants.{MAX_CPU_SET}
use Rattle.hp_event.specs.declared.event.File.{File}
use Rattle.hp_event.specs.declared.event.File.TheVariants as file
use Rattle.hp_text.specs.declared.first_word.OpWord.{OpWord}
use Rattle.hp_text.specs.declared.first_word.OpWord.TheVariants as op
use Rattle.hp_text.specs.FirstWords.{file_of}
use Rattle.hp_hint.specs.declared.measure.Measure.{Measure}
use Rattle.hp_hint.specs.declared.field.Field.TheVariants.{Possible, Cpu, State, Sub, Instance, Value, Primary, Seed, Turns, Seat, RuleCpu, RuleInstance, RuleCall, Code, Label, Name, Calls, Kind, Dir}
use Rattle.hp_hint.specs.declared.form.Ending.TheVariants.{Nothing, Flags, Several}
use Rattle.hp_hint.specs.declared.verb.Verb.{Verb}
use Rattle.hp_hint.specs.declared.verb.Verb.TheVariants as verb
use Rattle.hp_hint.specs.Forms.{possible_of, are_fields, risen, can_rise}

-- words by which a line is, or isn't, of the form
abbrev pub Form : Type 0
Form = List (List ℕ) → Bool

-- behind the name of a file that is shown
abbrev pub shown_form : Measure → Option File → Form
shown_form m None ws = false
shown_form m (Some file.State) ws = are_fields m (Cpu ∷ []) Nothing ws
shown_form m (Some file.Target) ws = are_fields m (Cpu ∷ []) Nothing ws
shown_form m (Some file.Fail) ws = are_fields m (Cpu ∷ []) Nothing ws
shown_form m (Some file.States) ws = are_fields m [] Nothing ws

-- behind `show`
abbrev pub show_form : Measure → Form
show_form m [] = false
show_form m (w ∷ ws) = shown_form m (file_of w) ws

-- behind the name of a kind of schedule
abbrev pub scheduled_form : Measure → (name : List ℕ) → Form
scheduled_form m name ws =
    if bytes_eq name (codes "rounds") then are_fields m [] Nothing ws
    else (if bytes_eq name (codes "turns") then are_fields m [] (Several Seat) ws
    else (if bytes_eq name (codes "mix") then are_fields m (Seed ∷ Turns ∷ []) Nothing ws else false))

-- behind `schedule`
abbrev pub schedule_form : Measure → Form
schedule_form m [] = false
schedule_form m (w ∷ ws) = scheduled_form m w ws

-- behind the first word of an operation
abbrev pub op_form : Measure → OpWord → Form
op_form m op.Up ws = are_fields m (Cpu ∷ []) Nothing ws
op_form m op.Down ws = are_fields m (Cpu ∷ []) Nothing ws
op_form m op.Target ws = are_fields m (Cpu ∷ Value ∷ []) Nothing ws
op_form m op.Fail ws = are_fields m (Cpu ∷ Value ∷ []) Nothing ws
op_form m op.Show ws = show_form m ws
op_form m op.Setup ws = are_fields m (State ∷ Sub ∷ []) Flags ws
op_form m op.Remove ws = are_fields m (State ∷ []) Flags ws
op_form m op.Add ws = are_fields m (State ∷ Instance ∷ []) Flags ws
op_form m op.Del ws = are_fields m (State ∷ Instance ∷ []) Flags ws
op_form m op.Lock ws = are_fields m [] Nothing ws
op_form m op.Unlock ws = are_fields m [] Nothing ws
op_form m op.Boot ws = are_fields m (Cpu ∷ []) Nothing ws
op_form m op.Disable ws = are_fields m [] Nothing ws
op_form m op.Enable ws = are_fields m [] Nothing ws
op_form m op.Freeze ws = are_fields m (Primary ∷ []) Nothing ws
op_form m op.Thaw ws = are_fields m [] Nothing ws
op_form m op.Wakeup ws = are_fields m [] Nothing ws
op_form m op.UpMany ws = risen m 0 MAX_CPU_SET ws

-- behind the first word of a line
abbrev pub line_form : Measure → Verb → Form
line_form m verb.Cpus ws = are_fields m (Possible ∷ []) Nothing ws
line_form m verb.Absent ws = risen m 1 (possible_of m) ws
line_form m verb.Sub ws = are_fields m (Name ∷ Calls ∷ Kind ∷ []) Nothing ws
line_form m verb.Rule ws = are_fields m (Dir ∷ RuleCpu ∷ RuleInstance ∷ RuleCall ∷ Code ∷ []) Nothing ws
line_form m verb.Schedule ws = schedule_form m ws
line_form m verb.Actor ws = are_fields m (Label ∷ []) Nothing ws
line_form m (verb.Operation first) ws = op_form m first ws

-- There can be words behind this first one: of `absent` where one processor is possible no number is in range.
abbrev pub has_lines : Measure → Verb → Bool
has_lines m verb.Absent = can_rise m (possible_of m)
has_lines m verb = true
