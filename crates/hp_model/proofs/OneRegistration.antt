-- Of the registration in flight at most one event can come next: an entry is determined, and a registration that can end can't go on.
use Rattle.std.proofs.Common.{◌≡◌, ℕ, List, ap, sym, ◌∙◌, subst}
use Rattle.hp_states.proofs.Basics.{same_some}
use Rattle.hp_states.specs.declared.dir.Dir.{Dir}
use Rattle.hp_event.specs.declared.answer.Answer.{Answer}
use Rattle.hp_event.specs.declared.how.How.{How}
use Rattle.hp_event.specs.declared.head.Head.{Head}
use Rattle.hp_event.specs.declared.event.Event.{Event}
use Rattle.hp_event.specs.declared.event.Event.TheVariants.{Call}
use Rattle.hp_model.specs.StandsCalls.{RegistrationEntry, InRegistration}
use Rattle.hp_model.specs.StandsRegistrations.{RegEnds}
use Rattle.hp_model.specs.UnderWay.{registration_errand}
use Rattle.hp_model.proofs.Errands.{IsEntry, SameEntry, same_entry, no_entry}
use Rattle.hp_model.proofs.RegistrationGives.{registration_is_entry, registration_is_over, gives_entry}

pub same_registration_entry : (head : Head) (xs : List Event) (cpu cpu' state state' inst inst' : ℕ) (dir dir' : Dir) (how how' : How)
    (h : RegistrationEntry head xs cpu state inst dir how) (k : RegistrationEntry head xs cpu' state' inst' dir' how') →
    (cpu ≡ cpu') × SameEntry state state' inst inst' dir dir' how how' h.of.seat k.of.seat
same_registration_entry head xs cpu cpu' state state' inst inst' dir dir' how how' h k =
    same_entry (registration_errand head xs h.of) (registration_errand head xs k.of) cpu cpu' state state' inst inst' dir dir' how how'
    (ap (registration_errand head xs) (same_some h.of k.of (sym h.in_flight ∙ k.in_flight)))
    (registration_is_entry head xs cpu state inst dir how h) (registration_is_entry head xs cpu' state' inst' dir' how' k)

pub one_registration_entry : (head : Head) (xs : List Event) (seat seat' cpu cpu' state state' inst inst' : ℕ) (dir dir' : Dir)
    (how how' : How) → InRegistration head xs seat cpu state inst dir how → InRegistration head xs seat' cpu' state' inst' dir' how' →
    Call seat cpu state inst dir how ≡ Call seat' cpu' state' inst' dir' how'
one_registration_entry head xs seat seat' cpu cpu' state state' inst inst' dir dir' how how' h k =
    same_some _ _ (sym (gives_entry head xs seat cpu state inst dir how h) ∙ gives_entry head xs seat' cpu' state' inst' dir' how' k)

-- by whatever seat
pub registration_ended : (head : Head) (xs : List Event) (seat cpu state inst : ℕ) (dir : Dir) (how : How) (answer : Answer) →
    RegistrationEntry head xs cpu state inst dir how → RegEnds head xs seat answer → ⊥
registration_ended head xs seat cpu state inst dir how answer h k =
    no_entry (registration_errand head xs k.of) cpu state inst dir how (registration_is_over head xs k.of answer k.whole)
    (subst (λ z. IsEntry (registration_errand head xs z) cpu state inst dir how) (same_some h.of k.of (sym h.in_flight ∙ k.in_flight))
    (registration_is_entry head xs cpu state inst dir how h))
