-- The ranges of the numbers that a line says, and what is answered by them. This project's own.
use Rattle.std.specs.Prelude.{ℕ, suc, ℤ, pos, negsuc, ◌-◌, Bool, true, not, ◌&&◌, nat_le, Result, Ok, Err, List, if◌then◌else◌}
use Rattle.std.specs.List.{list_all}
use Rattle.hp_states.specs.declared.limits.TheConstants.{MAX_CPUS, MAX_SUBS, MAX_INSTANCE, MAX_SEATS}
use Rattle.hp_event.specs.declared.op.Op.{Op}
use Rattle.hp_event.specs.declared.op.Op.TheVariants as op
use Rattle.hp_model.specs.Lists.{is_empty}
use Rattle.hp_model.specs.Listed.{listed}
use Rattle.hp_text.specs.declared.unread.Unread.{Unread}
use Rattle.hp_text.specs.declared.unread.Unread.TheVariants.{NotOfForm, OutOfRange}
use Rattle.hp_text.specs.Readings.{Reading}
use Rattle.hp_text.specs.Sets.{rise_from}
use Rattle.hp_script.specs.declared.error.ScriptKind.{ScriptKind}
use Rattle.hp_script.specs.declared.error.ScriptKind.TheVariants.{BadForm, BadNumber}
use Rattle.hp_script.specs.declared.limits.TheConstants.{MAX_NAMED_CPU, MAX_NAMED_STATE, MAX_MIXED, MAX_SEED, MAX_I32, MIN_I32}
use Rattle.hp_script.specs.declared.schedule.Schedule.{Schedule}
use Rattle.hp_script.specs.declared.schedule.Schedule.TheVariants.{Rounds, Turns, Mix}
use Rattle.hp_script.specs.declared.statement.Statement.{Statement}
use Rattle.hp_script.specs.declared.statement.Statement.TheVariants as says

abbrev pub is_within : (low high n : ℕ) → Bool
is_within low high n = nat_le low n && nat_le n high

-- from -least to most
abbrev pub is_signed_within : (least most : ℕ) → ℤ → Bool
is_signed_within least most (pos n) = nat_le n most
is_signed_within least most (negsuc n) = nat_le (suc n) least

abbrev pub are_seats : List ℕ → Bool
are_seats ns = list_all (is_within 0 (MAX_SEATS - 1)) ns

abbrev pub is_schedule : Schedule → Bool
is_schedule Rounds = true
is_schedule (Turns seats) = are_seats seats
is_schedule (Mix seed turns) = is_within 0 MAX_SEED seed && is_within 0 MAX_MIXED turns

abbrev pub is_op : Op → Bool
is_op (op.Up cpu) = is_within 0 MAX_NAMED_CPU cpu
is_op (op.Down cpu) = is_within 0 MAX_NAMED_CPU cpu
is_op (op.Target cpu value) = is_within 0 MAX_NAMED_CPU cpu && is_signed_within MIN_I32 MAX_I32 value
is_op (op.Arm cpu value) = is_within 0 MAX_NAMED_CPU cpu && is_signed_within MIN_I32 MAX_I32 value
is_op (op.ShowState cpu) = is_within 0 MAX_NAMED_CPU cpu
is_op (op.ShowTarget cpu) = is_within 0 MAX_NAMED_CPU cpu
is_op (op.ShowFail cpu) = is_within 0 MAX_NAMED_CPU cpu
is_op op.ShowStates = true
is_op (op.Setup state sub form) = is_within 0 MAX_NAMED_STATE state && is_within 1 MAX_SUBS sub
is_op (op.Remove state form) = is_within 0 MAX_NAMED_STATE state
is_op (op.Add state inst form) = is_within 0 MAX_NAMED_STATE state && is_within 0 MAX_INSTANCE inst
is_op (op.Del state inst form) = is_within 0 MAX_NAMED_STATE state && is_within 0 MAX_INSTANCE inst
is_op op.Lock = true
is_op op.Unlock = true
is_op (op.Boot most) = is_within 0 MAX_NAMED_CPU most
is_op op.Disable = true
is_op op.Enable = true
is_op (op.Freeze primary) = is_signed_within 1 MAX_NAMED_CPU primary
is_op op.Thaw = true
is_op op.Wakeup = true
is_op (op.UpMany set) = not (is_empty (listed set))

-- Each number of the line is in its range, where so many processors are possible; those of a rule are where it is read.
-- The absent processors rise, from 1 to the last possible one.
abbrev pub is_in_range : (possible : ℕ) → Statement → Bool
is_in_range possible (says.Cpus n) = is_within 1 MAX_CPUS n
is_in_range possible (says.Absent ns) = rise_from 1 possible ns
is_in_range possible (says.Sub sub) = true
is_in_range possible (says.Rule rule) = true
is_in_range possible (says.Schedule schedule) = is_schedule schedule
is_in_range possible says.Actor = true
is_in_range possible (says.Operation op) = is_op op

abbrev pub kind_of : Unread → ScriptKind
kind_of NotOfForm = BadForm
kind_of OutOfRange = BadNumber

-- what is read, with the kind of what isn't
abbrev pub judged : {A : Type 0} → Reading A → Result A ScriptKind
judged (Ok a) = Ok a
judged (Err unread) = Err (kind_of unread)

-- what is read, where its numbers are in their ranges
abbrev pub by_range : {A : Type 0} (fits : A → Bool) → Reading A → Result A ScriptKind
by_range fits (Ok a) = if fits a then Ok a else Err BadNumber
by_range fits (Err unread) = Err (kind_of unread)
