-- What an event, a put and a run change of queues. After `kernel/workqueue.c`; which entries open and close a processor, and
-- where its queue moves, is this project's own.
use Rattle.std.specs.Prelude.{ℕ, ◌+◌, Bool, true, false, ◌&&◌, ◌==◌, if◌then◌else◌, Option, Some, None, List, [], ◌∷◌, ◌++◌, slice_set}
use Rattle.hp_states.specs.declared.dir.Dir.{Dir}
use Rattle.hp_states.specs.declared.dir.Dir.TheVariants.{Up, Down}
use Rattle.hp_event.specs.declared.how.How.{How}
use Rattle.hp_event.specs.declared.event.Event.{Event}
use Rattle.hp_event.specs.declared.event.Event.TheVariants.{Call}
use Rattle.hp_model.specs.Entries.{is_done}
use Rattle.hp_work.specs.declared.chains.TheConstants.{UNBOUND}
use Rattle.hp_work.specs.Lists.{pushed, popped, moved}
use Rattle.hp_work.specs.Work.{Work, queue}

-- the number of the lowest open processor, where the first of these has a number
abbrev pub lowest_from : (number : ℕ) → (opened : List Bool) → Option ℕ
lowest_from k [] = None
lowest_from k (o ∷ more) = if o then Some k else lowest_from (k + 1) more

-- where the queue of a processor goes that closes: to the lowest open one, or to the unbound list
abbrev pub goes_to : Option ℕ → ℕ
goes_to None = UNBOUND
goes_to (Some c) = c

-- a processor opens, and takes the unbound list; or it closes, and its queue goes on
abbrev pub moves : Dir → (cpu : ℕ) → Work → Work
moves Up c w = record w { opened = slice_set w.opened c true; lists = moved UNBOUND c w.lists }
moves Down c w = record w {
  opened = slice_set w.opened c false;
  lists = moved c (goes_to (lowest_from 0 (slice_set w.opened c false))) w.lists;
}

-- whether an entry is a done one of the state, without an instance
abbrev pub is_followed : Work → (state inst : ℕ) → How → Bool
is_followed w s i how = (s == w.state && i == 0) && is_done how

-- A done upward entry of the state opens its processor; a done downward entry closes it. Other events change nothing.
abbrev pub followed : Event → Work → Work
followed (Call seat cpu state inst dir how) w = if is_followed w state inst how then moves dir cpu w else w
followed _ w = w

-- an item more is put on a processor
abbrev pub put_on : (cpu : ℕ) → Work → Work
put_on c w = record w { lists = pushed c w.put w.lists; put = w.put + 1 }

-- the front of a queue runs, if it has one
abbrev pub with_front : List ℕ → List ℕ → List ℕ
with_front [] ran = ran
with_front (n ∷ ns) ran = ran ++ n ∷ []

abbrev pub ran_on : (cpu : ℕ) → Work → Work
ran_on c w = record w { lists = popped c w.lists; ran = with_front (queue w c) w.ran }
