-- A section in which a seat comes in.
use Rattle.std.proofs.Common.{◌≡◌, ◌≢◌, ℕ, All, Result, Ok, Err, IfOk, IfErr, OnOk, OnErr, Option, Some, None, true, List, [], ◌∷◌, ◌++◌, inl, inr, refl, sym, ap, ◌∙◌, subst, arith}
use Rattle.std.proofs.lemmas.List.{append-nil}
use Rattle.std.proofs.lemmas.List.Elements.{All-nil, All-weaker}
use Rattle.hp_states.proofs.Basics.{same_some}
use Rattle.hp_event.specs.declared.event.Role.{Role}
use Rattle.hp_event.specs.declared.head.Head.{Head}
use Rattle.hp_event.specs.declared.event.Event.{Event}
use Rattle.hp_event.specs.declared.event.Event.TheVariants.{Admit}
use Rattle.hp_model.specs.Events.{seat_of}
use Rattle.hp_model.specs.Front.{IsOther, StandsFor}
use Rattle.hp_model.specs.Lawful.{IsLawful}
use Rattle.hp_model.specs.Seats.{admits}
use Rattle.hp_model.proofs.Fronts.{none_above}
use Rattle.hp_machine.specs.Admission.{refusal_of}
use Rattle.hp_machine.specs.declared.admission.AdmitError.{AdmitError}
use Rattle.hp_machine.specs.declared.admission.AdmitError.TheVariants.{NoMemory}
use Rattle.hp_turn.specs.declared.view.Held.{Held}
use Rattle.hp_turn.specs.Pass.{Pass, Knew}
use Rattle.hp_turn.specs.Story.{IsOwn, Knows, new_seat}
use Rattle.hp_turn.specs.Views.{held_of}
use Rattle.hp_turn.proofs.Stories.{all_right, gets_seat, keeps_seat}
use Rattle.hp_board.specs.Contents.{Contents, with_event}
use Rattle.hp_board.specs.Loans.{loan}
use Rattle.hp_live.specs.Known.{IsRoot}
use Rattle.hp_live.specs.Lending.{lent_pairs}
use Rattle.hp_live.specs.Sections.{AdmitsIn, RefusesIn}
use Rattle.hp_live.specs.Steps.{CanPut, Finds, IsInside, IsPut}
use Rattle.hp_live.proofs.Growing.{grew_on, grew_seen, grew_event}
use Rattle.hp_live.proofs.Pairs.{loan_above}

pub is_new : (head : Head) (events : List Event) → IsLawful head events → All (λ e. seat_of e ≢ admits events) events
is_new head events lawful = none_above head events (admits events) lawful (omega arith)

pub admit_puts : (p : Pass) (role : Role) (old new : Contents) (r : Result ℕ AdmitError) → IsRoot p → IsInside p old →
    IsLawful old.head old.events → OnOk r (new ≡ with_event old (Admit (admits old.events) role)) → OnErr r (new ≡ old) →
    ((k : ℕ) → loan new k ≡ loan old k) → CanPut p new
admit_puts p role old new (Ok seat) root inside lawful ok err stays =
    record {
      found = old;
      took = inside.took;
      lawful = lawful;
      head_is = ap (λ (b : Contents). b.head) ok ∙ inside.head_is;
      added = Admit (admits old.events) role ∷ [];
      whole = sym (ap (λ (b : Contents). b.events) ok);
      may =
          inr (record {
            new = admits old.events;
            role = role;
            is_one = refl;
            has_right = root.right;
            no_seat = root.no_seat;
            is_new = is_new old.head old.events lawful;
          });
      others = λ k apart. stays k;
    }
admit_puts p role old new (Err e) root inside lawful ok err stays =
    record {
      found = old;
      took = inside.took;
      lawful = lawful;
      head_is = ap (λ (b : Contents). b.head) err ∙ inside.head_is;
      added = [];
      whole = append-nil old.events ∙ sym (ap (λ (b : Contents). b.events) err);
      may = inl (All-nil (IsOwn p.seat));
      others = λ k apart. stays k;
    }

-- the seat of the pass afterwards
pub admit_seat : (p after : Pass) (role : Role) (old new : Contents) (r : Result ℕ AdmitError) → IsInside p old →
    OnOk r (new ≡ with_event old (Admit (admits old.events) role)) → IfOk r (λ seat. seat ≡ admits old.events) →
    IsPut p after new → IfOk r (λ seat. after.seat ≡ Some seat)
admit_seat p after role old new (Ok seat) inside ok is put =
    put.seat ∙ ap (λ (h : Option Held). new_seat p.seat h new.events) inside.took
    ∙ gets_seat p.seat (admits old.events) role (held_of old.events (lent_pairs old)) new.events
    (sym (ap (λ (b : Contents). b.events) ok))
    ∙ ap (λ (n : ℕ). Some n) (sym is)
admit_seat p after role old new (Err e) inside ok is put = tt

pub admit_no_seat : (p after : Pass) (old new : Contents) (r : Result ℕ AdmitError) → IsRoot p → IsInside p old →
    OnErr r (new ≡ old) → IsPut p after new → OnErr r (after.seat ≡ None)
admit_no_seat p after old new (Ok seat) root inside err put = tt
admit_no_seat p after old new (Err e) root inside err put =
    put.seat ∙ ap (λ (h : Option Held). new_seat p.seat h new.events) inside.took
    ∙ keeps_seat p.seat (held_of old.events (lent_pairs old)) [] new.events
    (append-nil old.events ∙ sym (ap (λ (b : Contents). b.events) err)) (All-nil (IsOwn p.seat))
    ∙ root.no_seat

-- nothing is lent to it
pub admit_lends : (p after : Pass) (role : Role) (old new : Contents) (r : Result ℕ AdmitError) → IsRoot p → IsInside p old →
    IsLawful old.head old.events → OnOk r (new ≡ with_event old (Admit (admits old.events) role)) → OnErr r (new ≡ old) →
    IfOk r (λ seat. seat ≡ admits old.events) → ((k : ℕ) → loan new k ≡ loan old k) → IsPut p after new → after.aside ≡ None
admit_lends p after role old new (Ok seat) root inside lawful ok err is stays put =
    put.lent seat (admit_seat p after role old new (Ok seat) inside ok is put) ∙ stays seat ∙ ap (λ (n : ℕ). loan old n) is
    ∙ loan_above old (admits old.events) lawful (omega arith)
admit_lends p after role old new (Err e) root inside lawful ok err is stays put =
    put.nothing (admit_no_seat p after old new (Err e) root inside err put)

knew_root : (p : Pass) (found : List Event) → IsRoot p → Knew p found → Knows None true p.front found
knew_root p found root knew =
    subst (λ (s : Option ℕ). Knows s true p.front found) root.no_seat
    (subst (λ b. Knows p.seat b p.front found) root.right knew)

-- a seat that is new has no event past the front either
seen_new : (k : ℕ) (front found : List Event) → Knows None true front found → All (λ e. seat_of e ≢ k) found →
    StandsFor (Some k) front found
seen_new k front found knew none =
    record {
      rest = knew.seen.rest;
      whole = knew.seen.whole;
      others =
          All-weaker (λ e. seat_of e ≢ k) (IsOther (Some k)) (λ e other j is. subst (λ (n : ℕ). seat_of e ≢ n) (same_some k j is) other)
          knew.seen.rest
          (all_right (λ e. seat_of e ≢ k) front knew.seen.rest (subst (All (λ e. seat_of e ≢ k)) (sym knew.seen.whole) none));
    }

pub admits_in : (p after : Pass) (role : Role) (old new : Contents) (r : Result ℕ AdmitError) → IsRoot p → Finds p old →
    OnOk r (new ≡ with_event old (Admit (admits old.events) role)) → IfOk r (λ seat. seat ≡ admits old.events) →
    OnOk r (refusal_of old.head old.events role ≡ None) → after.front ≡ new.events →
    IfOk r (AdmitsIn p.head role p.front after.front)
admits_in p after role old new (Ok seat) root f ok is free now =
    subst (λ (h : Head). AdmitsIn h role p.front after.front seat) f.head_is
    (subst (λ (n : ℕ). AdmitsIn old.head role p.front after.front n) (sym is)
    (subst (λ (w : List Event). AdmitsIn old.head role p.front w (admits old.events)) (sym (now ∙ ap (λ (b : Contents). b.events) ok))
    (record {
      found = old.events;
      knew = knew_root p old.events root f.knew;
      lawful = f.board.lawful;
      seat_is = refl;
      free = free;
      new_is = refl;
      grew =
          grew_on (admits old.events) p.front old.events (old.events ++ Admit (admits old.events) role ∷ []) []
          (Admit (admits old.events) role ∷ [])
          (grew_seen (admits old.events) p.front old.events
          (seen_new (admits old.events) p.front old.events (knew_root p old.events root f.knew) (is_new old.head old.events f.board.lawful)))
          (grew_event (admits old.events) old.events (Admit (admits old.events) role) refl);
    })))
admits_in p after role old new (Err e) root f ok is free now = tt

pub refuses_in : (p after : Pass) (role : Role) (old new : Contents) (r : Result ℕ AdmitError) → IsRoot p → Finds p old →
    OnErr r (new ≡ old) → IfErr r (λ error. error ≢ NoMemory → refusal_of old.head old.events role ≡ Some error) →
    IfErr r (λ error. error ≡ NoMemory → refusal_of old.head old.events role ≡ None) → after.front ≡ new.events →
    IfErr r (RefusesIn p.head role p.front after.front)
refuses_in p after role old new (Ok seat) root f err refused none now = tt
refuses_in p after role old new (Err e) root f err refused none now =
    subst (λ (h : Head). RefusesIn h role p.front after.front e) f.head_is
    (subst (λ (w : List Event). RefusesIn old.head role p.front w e) (sym (now ∙ ap (λ (b : Contents). b.events) err))
    (record { knew = knew_root p old.events root f.knew; refused = refused; no_memory = none }))
