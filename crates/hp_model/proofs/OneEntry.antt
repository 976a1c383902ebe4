-- Of the walk of a processor at most one event can come next: key, direction, how and seat of an entry are determined, and a walk that
-- can end can't go on.
use Rattle.std.proofs.Common.{◌≡◌, ℕ, List, ap, sym, ◌∙◌, subst}
use Rattle.hp_states.proofs.Basics.{same_some}
use Rattle.hp_states.specs.declared.dir.Dir.{Dir}
use Rattle.hp_event.specs.declared.answer.Answer.{Answer}
use Rattle.hp_event.specs.declared.how.How.{How}
use Rattle.hp_event.specs.declared.head.Head.{Head}
use Rattle.hp_event.specs.declared.event.Event.{Event}
use Rattle.hp_event.specs.declared.event.Event.TheVariants.{Call}
use Rattle.hp_model.specs.StandsCalls.{WalkEntry, InWalk}
use Rattle.hp_model.specs.StandsOperations.{WalkEnds}
use Rattle.hp_model.specs.NextInWalk.{walk_errand}
pub use Rattle.hp_model.proofs.Errands.{SameEntry}
use Rattle.hp_model.proofs.Errands.{IsEntry, same_entry, no_entry}
use Rattle.hp_model.proofs.WalkGives.{walk_is_entry, walk_is_over, gives_entry}

pub one_walk_entry : (head : Head) (xs : List Event) (cpu state state' inst inst' : ℕ) (dir dir' : Dir) (how how' : How)
    (h : WalkEntry head xs cpu state inst dir how) (k : WalkEntry head xs cpu state' inst' dir' how') →
    SameEntry state state' inst inst' dir dir' how how' h.of.seat k.of.seat
one_walk_entry head xs cpu state state' inst inst' dir dir' how how' h k =
    (same_entry (walk_errand head xs cpu h.of) (walk_errand head xs cpu k.of) cpu cpu state state' inst inst' dir dir' how how'
    (ap (walk_errand head xs cpu) (same_some h.of k.of (sym h.in_flight ∙ k.in_flight)))
    (walk_is_entry head xs cpu state inst dir how h) (walk_is_entry head xs cpu state' inst' dir' how' k)).1

pub one_entry : (head : Head) (xs : List Event) (seat seat' cpu state state' inst inst' : ℕ) (dir dir' : Dir) (how how' : How) →
    InWalk head xs seat cpu state inst dir how → InWalk head xs seat' cpu state' inst' dir' how' →
    Call seat cpu state inst dir how ≡ Call seat' cpu state' inst' dir' how'
one_entry head xs seat seat' cpu state state' inst inst' dir dir' how how' h k =
    same_some _ _ (sym (gives_entry head xs seat cpu state inst dir how h) ∙ gives_entry head xs seat' cpu state' inst' dir' how' k)

-- by whatever seat
pub walk_ended : (head : Head) (xs : List Event) (j c state inst : ℕ) (dir : Dir) (how : How) (answer : Answer) →
    WalkEntry head xs c state inst dir how → WalkEnds head xs j c answer → ⊥
walk_ended head xs j c state inst dir how answer h w =
    no_entry (walk_errand head xs c w.of) c state inst dir how (walk_is_over head xs c w.of answer w.whole)
    (subst (λ z. IsEntry (walk_errand head xs c z) c state inst dir how) (same_some h.of w.of (sym h.in_flight ∙ w.in_flight))
    (walk_is_entry head xs c state inst dir how h))
