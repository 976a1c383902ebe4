-- Entries that come next: how each is made, by what it is made by, and its event. After `cpuhp_invoke_callback` of
-- `kernel/cpu.c`; that an entry is known before it is made is this project's own.
use Rattle.std.specs.Prelude.{ℕ, List}
use Rattle.hp_states.specs.Sections.{can_fail}
use Rattle.hp_event.specs.declared.how.How.{How}
use Rattle.hp_event.specs.declared.how.How.TheVariants as how
use Rattle.hp_event.specs.declared.head.Head.{Head}
use Rattle.hp_event.specs.declared.event.Event.{Event}
use Rattle.hp_event.specs.declared.event.Event.TheVariants.{Call}
use Rattle.hp_model.specs.How.{how_answered, answer_at}
use Rattle.hp_account.specs.declared.under_way.MadeBy.{MadeBy}
use Rattle.hp_account.specs.declared.under_way.MadeBy.TheVariants.{Presumed, Empty, Injected, Hook}
use Rattle.hp_account.specs.declared.under_way.Entry.{Entry}

abbrev pub how_made_by : MadeBy → (answered : How) → How
how_made_by Presumed answered = how.Presumed
how_made_by Empty answered = how.Empty
how_made_by Injected answered = how.Injected
how_made_by Hook answered = answered

-- how it is made where its hook answers a code
abbrev pub how_by : Entry → (code : ℕ) → How
how_by x code = how_made_by x.made_by (how_answered (can_fail x.dir x.key.state x.place) code)

-- the event, made so
abbrev pub entry_made : Entry → How → Event
entry_made x made = Call x.seat x.cpu x.key.state x.key.inst x.dir made

-- the event, where the state's hook answers by its plan and the calls of the journal
abbrev pub entry_event : Head → List Event → Entry → Event
entry_event head events x = entry_made x (how_by x (answer_at head events x.cpu x.key.state x.key.inst x.dir))
