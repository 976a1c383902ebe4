-- A journal and its account with one event more.
use Rattle.std.proofs.Common.{◌≡◌, ℕ, ◌-◌, ◌<◌, ◌≤◌, Option, List, [], ◌∷◌, ◌++◌, length, refl, sym, ◌∙◌, subst, arith}
use Rattle.hp_event.specs.Story.{Story}
use Rattle.hp_event.specs.declared.op.Op.TheVariants as op
use Rattle.hp_event.specs.declared.event.Role.{Role}
use Rattle.hp_event.specs.declared.event.Role.TheVariants.{Client, Ap}
use Rattle.hp_event.specs.declared.event.Event.{Event}
use Rattle.hp_event.specs.declared.event.Event.TheVariants.{Admit}
use Rattle.hp_event.specs.declared.head.Head.{Head}
use Rattle.hp_model.specs.Heads.{IsHead}
use Rattle.hp_model.specs.Lawful.{Stands, IsLawful}
use Rattle.hp_model.specs.Needs.{need, taken}
use Rattle.hp_model.specs.Seats.{admits}
use Rattle.hp_model.specs.StandsSeats.{CanSit}
use Rattle.hp_model.proofs.HeadlineProof.{lawful_more}
use Rattle.hp_model.proofs.Induction.{held_from, held_none}
use Rattle.hp_model.proofs.Laws.{operation_push}
use Rattle.hp_model.proofs.OneNext.{owners}
use Rattle.hp_model.proofs.Promises.{Uses, uses, promised_none}
use Rattle.hp_model.proofs.EntryProcessors.{present_below}
use Rattle.hp_table.specs.Step.{Step}
use Rattle.hp_walk.specs.Keys.{keys_by}
use Rattle.hp_account.specs.declared.account.Account.{Account}
use Rattle.hp_account.specs.Account.{IsAccount}
use Rattle.hp_account.specs.Appending.{Appended, Admitted, CanAdmit}
use Rattle.hp_account.specs.BatchTurns.{IsTurns}
use Rattle.hp_account.specs.Flights.{IsFlights}
use Rattle.hp_account.specs.Accounted.{IsAccounted}
use Rattle.hp_account.specs.Locks.{IsLocks}
use Rattle.hp_account.specs.Operations.{IsHeldBy}
use Rattle.hp_account.specs.Processors.{IsStanding}
use Rattle.hp_account.specs.Registering.{IsRegisteringOf}
use Rattle.hp_account.specs.Seats.{IsRoll, HasPlace, HasNoThread}
use Rattle.hp_account.specs.Suspended.{IsSuspended}
use Rattle.hp_account.specs.Table.{IsTableOf}
use Rattle.hp_account.proofs.AppendedAccount.{account_after}
use Rattle.hp_account.proofs.FlightSteps.{flights_stay}
use Rattle.hp_account.proofs.LocksMore.{locks_more}
use Rattle.hp_account.proofs.OperationMore.{held_stays}
use Rattle.hp_account.proofs.RegistrationMore.{registration_stays}
use Rattle.hp_account.proofs.RollMore.{roll_more}
use Rattle.hp_account.proofs.StandingMore.{standing_more}
use Rattle.hp_account.proofs.SuspensionMore.{suspension_more}
use Rattle.hp_account.proofs.AwaitedMore.{awaited_stay}
use Rattle.hp_account.proofs.TurnsMore.{turns_stay}

-- an event uses what it took, and what it gives back is left
used : (head : Head) (es : List Event) (e : Event) → IsLawful head es → Stands head es e → Uses head es e
used head es e lawful stands =
    let k = held_from head [] es (held_none head lawful.0) lawful.1 in
    uses head es e stands.0 (owners head es lawful) k.operations k.kept

pub record GoesOn (old : Story) (freed : ℕ) (e : Event) (new : Account) : Type 0 where
  pub room : 0 < old.promised
  pub freed_fits : freed ≤ old.promised - 1
  pub kept :
      IsAccounted (record { head = old.head; events = old.events ++ e ∷ []; promised = (old.promised - 1) - freed }) 0 new

pub goes_on : (old : Story) (reserved freed : ℕ) (parts new : Account) (places : List (Option Step)) (e : Event) → IsAccounted old reserved parts →
    Stands old.head old.events e → reserved ≡ taken (need old.head old.events e) → IsTableOf old.head (old.events ++ e ∷ []) places →
    Appended (keys_by places) reserved freed e parts new → GoesOn old freed e new
goes_on old reserved freed parts new places e k stands room t h =
    let u = used old.head old.events e k.lawful stands in
    let a = account_after old.head old.events places parts new reserved freed e k.lawful stands room t k.account h in
    let p = k.promises in
    let back = a.1 in
    record {
      room = omega (arith, u, p, room);
      freed_fits = omega (arith, u, p, room, back);
      kept = record {
        lawful = lawful_more old.head old.events e k.lawful stands;
        account = a.0;
        promises = omega (arith, u, p, room, back);
      };
    }

-- the account of a journal into which a seat came
admitted_account : (head : Head) (es : List Event) (p new : Account) (seat : ℕ) (role : Role) → IsLawful head es →
    Stands head es (Admit seat role) → IsAccount head es p → Admitted role p new → IsAccount head (es ++ Admit seat role ∷ []) new
admitted_account head es p new seat role lawful stands is h =
    let e : Event = Admit seat role in
    let comes = stands.0 in
    let own = owners head es lawful in
    let flies = flights_stay head es e p.flights lawful comes is.flights tt in
    record {
      seats = subst (IsRoll head (es ++ e ∷ [])) (sym h.seats) (roll_more head es p.seats e own comes is.seats);
      locks = subst (IsLocks (es ++ e ∷ [])) (sym h.locks) (locks_more head es p.locks e lawful comes is.locks);
      processors =
          subst (IsStanding head (es ++ e ∷ [])) (sym h.processors) (standing_more head es p.processors 0 e tt is.processors);
      operation =
          subst (IsHeldBy head (es ++ e ∷ [])) (sym h.operation)
          (held_stays head es e p.operation (λ k o n. absurd (cc)) (λ k c a b n. absurd (cc)) (λ k c a n. absurd (cc)) (λ k a n. absurd (cc)) is.operation);
      flights = subst (IsFlights head (es ++ e ∷ [])) (sym h.flights) flies;
      registration =
          subst (IsRegisteringOf head (es ++ e ∷ [])) (sym h.registration) (registration_stays head es p.registration e own comes tt is.registration);
      suspended =
          subst (IsSuspended head (es ++ e ∷ [])) (sym h.suspended) (suspension_more head es p.suspended op.Disable e tt is.suspended);
      turns = subst (IsTurns head (es ++ e ∷ [])) (sym h.turns) (turns_stay head es e p.turns lawful stands is.turns (λ own. refl) (operation_push es e));
      awaited =
          awaited_stay p.operation new.operation p.flights new.flights p.turns new.turns p.awaited new.awaited h.operation h.flights h.turns
          h.awaited is.awaited;
    }

pub admits_seat : (old : Story) (reserved seat : ℕ) (parts new : Account) (role : Role) → IsAccounted old reserved parts →
    Stands old.head old.events (Admit (admits old.events) role) → reserved ≡ 2 → seat ≡ length parts.seats.roles → Admitted role parts new →
    (0 < old.promised)
    × (seat ≡ admits old.events)
    × IsAccounted (record { head = old.head; events = old.events ++ Admit seat role ∷ []; promised = old.promised - 1 }) 0 new
admits_seat old reserved seat parts new role k stands room given h =
    let at : seat ≡ admits old.events = given ∙ k.account.seats.admitted in
    let stands_so : Stands old.head old.events (Admit seat role) =
    subst (λ (n : ℕ). Stands old.head old.events (Admit n role)) (sym at) stands in
    let u = used old.head old.events (Admit seat role) k.lawful stands_so in
    let p = k.promises in (
      omega (arith, p, room),
      at,
      record {
        lawful = lawful_more old.head old.events (Admit seat role) k.lawful stands_so;
        account = admitted_account old.head old.events parts new seat role k.lawful stands_so k.account h;
        promises = omega (arith, u, p, room);
      },
    )

-- a seat can come in where its admission stands
pub can_admit : (old : Story) (reserved : ℕ) (parts : Account) (role : Role) → IsAccounted old reserved parts →
    Stands old.head old.events (Admit (admits old.events) role) → CanAdmit role parts
can_admit old reserved parts role k stands =
    let all = k.account.seats.admitted in
    let seats = k.account.locks.seats in
    let below = stands.0.below in
    record {
      few = omega (arith, all, below);
      place = place role stands.0.can_sit;
      no_thread = free role stands.0.can_sit;
      locks = omega (arith, seats, below);
    }
  where
    place : (role : Role) → CanSit old.head old.events role → HasPlace role (length parts.seats.threads)
    place Client can = tt
    place (Ap cpu) can =
        let inside = present_below old.head cpu can.0 in
        let all = k.account.seats.cpus in
        omega (arith, inside, all)

    free : (role : Role) → CanSit old.head old.events role → HasNoThread role parts.seats.threads
    free Client can = tt
    free (Ap cpu) can = sym (k.account.seats.threads_are cpu) ∙ can.1

pub begins_kept : (head : Head) (parts : Account) → IsHead head → IsAccount head [] parts →
    IsAccounted (record { head = head; events = []; promised = 0 }) 0 parts
begins_kept head parts h is =
    let none = promised_none head in
    record { lawful = (h, tt); account = is; promises = omega (arith, none) }
