-- The processor of an entry that can come has a place in a set: it is a possible one, of which there are few.
use Rattle.std.proofs.Common.{ℕ, ◌<◌, List, arith}
use Rattle.hp_states.specs.declared.dir.Dir.{Dir}
use Rattle.hp_states.specs.declared.limits.TheConstants.{MAX_CPU_SET}
use Rattle.hp_event.specs.declared.head.Head.{Head}
use Rattle.hp_event.specs.declared.how.How.{How}
use Rattle.hp_event.specs.declared.event.Event.{Event}
use Rattle.hp_model.specs.Lawful.{IsLawful}
use Rattle.hp_model.specs.StandsCalls.{Calls}
use Rattle.hp_model.proofs.EntryProcessors.{call_below}

pub call_in_set : (head : Head) (xs : List Event) (k c s i : ℕ) (d : Dir) (how : How) → IsLawful head xs → Calls head xs k c s i d how →
    c < MAX_CPU_SET
call_in_set head xs k c s i d how lawful h =
    let below = call_below head xs k c s i d how lawful h in
    let few = lawful.0.few_possible in
    omega (arith, below, few)
