-- What an event says that shows a file: of `state`, `target` and `fail` the number that the file has for a processor, and
-- of `states` how many lines it has. After `state_show`, `target_show`, `fail_show` and `states_show` of `kernel/cpu.c`;
-- what `state` and `target` show in flight, `target` after a stuck walk and before the boot processor's first, and the
-- number for `states`, are this project's own.
use Rattle.std.specs.Prelude.{ℕ, ◌+◌, ℤ, pos, negsuc, ◌≡◌, Option, Some, None, List, count_by}
use Rattle.hp_states.specs.declared.limits.TheConstants.{ONLINE}
use Rattle.hp_event.specs.declared.event.File.{File}
use Rattle.hp_event.specs.declared.event.File.TheVariants.{State, Target, Fail, States}
use Rattle.hp_event.specs.declared.head.Head.{Head}
use Rattle.hp_event.specs.declared.event.Event.{Event}
use Rattle.hp_model.specs.Lists.{numbers}
use Rattle.hp_model.specs.Registered.{is_named}
use Rattle.hp_model.specs.Shown.{shown, shown_target}
use Rattle.hp_model.specs.Armed.{armed}

-- -1 where the processor isn't armed
abbrev pub shown_fail : (armed : Option ℕ) → ℤ
shown_fail None = negsuc 0
shown_fail (Some s) = pos s

-- how many states have names
unfoldable pub named_states : Head → List Event → ℕ
named_states head events = count_by (λ s. is_named head s events) (numbers (ONLINE + 1))

abbrev pub file_value : Head → List Event → File → (cpu : ℕ) → ℤ
file_value head events State c = pos (shown head c events)
file_value head events Target c = pos (shown_target c events)
file_value head events Fail c = shown_fail (armed c events)
file_value head events States c = pos (named_states head events)

-- `states` is one file, and stands at processor 0
abbrev pub HasFile : File → (cpu : ℕ) → Type 0
HasFile State c = Unit {0}
HasFile Target c = Unit {0}
HasFile Fail c = Unit {0}
HasFile States c = c ≡ 0
