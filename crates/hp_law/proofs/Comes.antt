-- What comes next of a seat and an operation decides whether an event of it can stand.
use Rattle.std.proofs.Common.{◌≡◌, ℕ, Bool, true, false, IsTrue, ◌↔◌, Some, None, List, refl, sym, ap, ◌∙◌, subst}
use Rattle.std.proofs.lemmas.Bool.{true≢false}
use Rattle.hp_states.proofs.Basics.{none_some, same_some}
use Rattle.hp_states.specs.declared.dir.Dir.{Dir}
use Rattle.hp_event.specs.declared.how.How.{How}
use Rattle.hp_event.specs.declared.event.Role.{Role}
use Rattle.hp_event.specs.declared.op.Op.{Op}
use Rattle.hp_event.specs.declared.head.Head.{Head}
use Rattle.hp_event.specs.declared.event.Event.{Event}
use Rattle.hp_event.specs.declared.event.Event.TheVariants as event
use Rattle.hp_model.specs.Events.{seat_of, is_call}
use Rattle.hp_model.specs.Lawful.{Stands, IsLawful}
use Rattle.hp_model.specs.FirstEvent.{is_client}
use Rattle.hp_model.specs.NextEvent.{next_event, due_entry}
use Rattle.hp_model.specs.Seats.{role_of}
use Rattle.hp_model.proofs.DueGives.{due_exactly}
use Rattle.hp_machine.specs.declared.next.Next.{Next}
use Rattle.hp_machine.specs.declared.next.Next.TheVariants as answer
use Rattle.hp_machine.proofs.FullNone.{full_none}
use Rattle.std.specs.Bool.{then_some}
use Rattle.hp_account.specs.declared.under_way.Entry.{Entry}
use Rattle.hp_account.specs.Entries.{entry_event}
use Rattle.hp_machine.specs.Next.{IsNext}
use Rattle.hp_model.specs.Subsystems.{names_sub}
use Rattle.hp_model.proofs.NextStands.{next_stands}
use Rattle.hp_law.specs.Asked.{asked_by, IsOfOperation}
use Rattle.hp_law.specs.EntryOf.{IsEntryOf}
use Rattle.hp_law.proofs.ClientEvents.{asked_for}

-- what comes next is no event of the operation's own, where it is answered otherwise
pub no_event : (head : Head) (es : List Event) (k : ℕ) (op : Op) (n : Next) (e : Event) → IsNext head es k op n →
    ((next : Event) (takes : ℕ) → n ≡ answer.Event next takes → ⊥) → IsOfOperation e → next_event head es k op ≡ Some e → ⊥
no_event head es k op (answer.Event next takes) e is other of at = other next takes refl
no_event head es k op (answer.Entry x) e is other of at =
    subst IsOfOperation (sym (same_some (entry_event head es x) e (sym is ∙ at))) of
no_event head es k op answer.Full e is other of at = none_some e (sym (full_none head es k op is) ∙ at)
no_event head es k op (answer.Wait why) e is other of at = none_some e (sym is.no_event ∙ at)

-- an event that is no seat's coming or leaving and no entry is an operation's
pub of_operation : (e : Event) → ((seat : ℕ) (role : Role) → e ≡ event.Admit seat role → ⊥) → ((seat : ℕ) → e ≡ event.Leave seat → ⊥) →
    ((seat cpu state inst : ℕ) (dir : Dir) (how : How) → e ≡ event.Call seat cpu state inst dir how → ⊥) → IsOfOperation e
of_operation (event.Admit seat role) a l c = absurd (a seat role refl)
of_operation (event.Leave seat) a l c = absurd (l seat refl)
of_operation (event.Call seat cpu state inst dir how) a l c = absurd (c seat cpu state inst dir how refl)
of_operation e a l c = tt

-- an entry that is due from a seat is of that seat
pub of_seat : (head : Head) (es : List Event) (k : ℕ) (e entry : Event) → IsLawful head es → seat_of e ≡ k →
    due_entry head es k ≡ Some entry → seat_of e ≡ seat_of entry
of_seat head es k e entry lawful by due = by ∙ sym ((due_exactly head es k entry lawful).0 due).2

-- a call stands where it is the one that is due from its seat
pub by_due : (head : Head) (es : List Event) (k : ℕ) (e : Event) → IsLawful head es → is_call e ≡ true → seat_of e ≡ k →
    (due_entry head es k ≡ Some e) ↔ Stands head es e
by_due head es k e lawful call by =
    let x = due_exactly head es k e lawful in (λ h. (x.0 h).0, λ s. x.1 (s, call, by))

-- so its entry is the one that is due, where a test decides that it is that one's event
pub entry_by : (head : Head) (es : List Event) (k : ℕ) (e : Event) (entry : Entry) (same : Bool) → IsLawful head es → is_call e ≡ true →
    seat_of e ≡ k → due_entry head es k ≡ Some (entry_event head es entry) → IsTrue same ↔ (entry_event head es entry ≡ e) →
    IsEntryOf head es e (then_some same entry)
entry_by head es k e entry true lawful call by due decides =
    let is = decides.0 refl in ((by_due head es k e lawful call by).0 (due ∙ ap Some is), is)
entry_by head es k e entry false lawful call by due decides = λ s.
    true≢false (sym (decides.1 (same_some (entry_event head es entry) e (sym due ∙ (by_due head es k e lawful call by).1 s))))

pub no_entry : (head : Head) (es : List Event) (k : ℕ) (e : Event) → IsLawful head es → is_call e ≡ true → seat_of e ≡ k →
    due_entry head es k ≡ None → Stands head es e → ⊥
no_entry head es k e lawful call by due stands = none_some e (sym due ∙ (by_due head es k e lawful call by).1 stands)

-- what the machine says comes next decides
pub comes_event : (head : Head) (es : List Event) (k : ℕ) (op : Op) (e next : Event) (takes : ℕ) (same : Bool) → IsLawful head es →
    IsOfOperation e → k ≡ seat_of e → op ≡ asked_by e → IsNext head es k op (answer.Event next takes) → IsTrue same ↔ (next ≡ e) →
    IsTrue same ↔ Stands head es e
comes_event head es k op e next takes same lawful of k_is op_is is decides = (
  λ h. (next_stands head es k op e (is.0 ∙ ap Some (decides.0 h))).0,
  λ s. decides.1
      (same_some next e
      (sym is.0 ∙ (ap (λ n. next_event head es n op) k_is ∙ ap (next_event head es (seat_of e)) op_is)
      ∙ (asked_for head es e lawful of s).next)),
)

pub comes_other : (head : Head) (es : List Event) (k : ℕ) (op : Op) (e : Event) (n : Next) → IsLawful head es →
    IsOfOperation e → k ≡ seat_of e → op ≡ asked_by e → IsNext head es k op n →
    ((next : Event) (takes : ℕ) → n ≡ answer.Event next takes → ⊥) → IsTrue false ↔ Stands head es e
comes_other head es k op e n lawful of k_is op_is is other = (
  λ h. absurd (true≢false (sym h)),
  λ s. absurd
      (no_event head es k op n e is other of
      ((ap (λ m. next_event head es m op) k_is ∙ ap (next_event head es (seat_of e)) op_is) ∙ (asked_for head es e lawful of s).next)),
)

pub not_client : (head : Head) (es : List Event) (k : ℕ) (e : Event) → IsLawful head es → IsOfOperation e → k ≡ seat_of e →
    is_client (role_of k es) ≡ false → IsTrue false ↔ Stands head es e
not_client head es k e lawful of k_is other = (
  λ h. absurd (true≢false (sym h)),
  λ s. absurd (true≢false (sym (asked_for head es e lawful of s).client ∙ ap (λ n. is_client (role_of n es)) (sym k_is) ∙ other)),
)

pub not_named : (head : Head) (es : List Event) (op : Op) (e : Event) → IsLawful head es → IsOfOperation e → op ≡ asked_by e →
    names_sub head op ≡ false → IsTrue false ↔ Stands head es e
not_named head es op e lawful of op_is other = (
  λ h. absurd (true≢false (sym h)),
  λ s. absurd (true≢false (sym (asked_for head es e lawful of s).names ∙ ap (names_sub head) (sym op_is) ∙ other)),
)
