-- The processor of an entry that can come is present, and so it is possible: it is below the number of processors.
use Rattle.std.proofs.Common.{◌≡◌, ℕ, ◌<◌, true, not, ltb, List, inl, inr, subst, sym}
use Rattle.std.proofs.lemmas.Bool.{and_parts, ltb-true}
use Rattle.hp_states.specs.declared.dir.Dir.{Dir}
use Rattle.hp_event.specs.declared.how.How.{How}
use Rattle.hp_event.specs.declared.head.Head.{Head}
use Rattle.hp_event.specs.declared.event.Event.{Event}
use Rattle.hp_model.specs.Lists.{among}
use Rattle.hp_model.specs.Processors.{is_present, processors}
use Rattle.hp_model.specs.Registrations.{registration_entries}
use Rattle.hp_model.specs.RegistrationShape.{key_of, is_adding}
use Rattle.hp_model.specs.Trees.{step, registration_tree}
use Rattle.hp_model.specs.StandsCalls.{Calls}
use Rattle.hp_model.specs.Lawful.{IsLawful}
use Rattle.hp_model.proofs.Induction.{kept}
use Rattle.hp_model.proofs.Kept.{WalkKept}
use Rattle.hp_model.proofs.Remains.{runs_of}
use Rattle.hp_model.proofs.NextOfRegistration.{registration_entry}
use Rattle.hp_model.proofs.RegistrationGives.{registration_is_entry}

pub call_present : (head : Head) (xs : List Event) (k c s i : ℕ) (d : Dir) (how : How) → IsLawful head xs →
    Calls head xs k c s i d how → is_present head c ≡ true
call_present head xs k c s i d how lawful (inl w) =
    let at = w.entry.in_flight in
    let p : WalkKept head c w.entry.of xs = rw at at ((kept head xs lawful).at c).kept in
    p.present
call_present head xs k c s i d how lawful (inr h) =
    let r = h.entry.of in
    let e = registration_is_entry head xs c s i d how h.entry in
    let runs = runs_of (registration_tree (is_adding r.op) r.state (key_of head r) (processors head r.state r.before))
    (registration_entries xs) (step e.slot e.done_tree e.fault_tree) e.left_is tt in
    subst (λ z. is_present head z ≡ true) (sym e.cpu_is)
    (registration_entry head xs r e.slot e.done_tree e.fault_tree h.entry.in_flight runs).0

pub present_below : (head : Head) (c : ℕ) → is_present head c ≡ true → c < head.possible
present_below head c h = ltb-true c head.possible (and_parts (ltb c head.possible) (not (among c head.absent)) h).0

pub call_below : (head : Head) (xs : List Event) (k c s i : ℕ) (d : Dir) (how : How) → IsLawful head xs →
    Calls head xs k c s i d how → c < head.possible
call_below head xs k c s i d how lawful h = present_below head c (call_present head xs k c s i d how lawful h)
