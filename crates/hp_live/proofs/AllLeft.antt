-- Where every seat has left, every hook is home.
use Rattle.std.proofs.Common.{◌≡◌, ⊎_elim, ℕ, Bool, true, false, cond, eqb, All, Option, None, List, [], ◌∷◌, ◌++◌, refl, sym, ◌∙◌, subst, append_assoc}
use Rattle.std.proofs.lemmas.Bool.{true≢false}
use Rattle.std.proofs.lemmas.List.{append-nil}
use Rattle.std.proofs.lemmas.List.Elements.{All-head, All-tail}
use Rattle.hp_states.proofs.Basics.{some_none}
use Rattle.hp_event.specs.declared.event.Event.{Event}
use Rattle.hp_event.specs.declared.event.Event.TheVariants.{Admit, Call, Leave}
use Rattle.hp_event.specs.declared.event.Role.{Role}
use Rattle.hp_event.specs.declared.event.Role.TheVariants.{Client}
use Rattle.hp_event.specs.declared.head.Head.{Head}
use Rattle.hp_model.specs.Lawful.{IsLawful}
use Rattle.hp_model.specs.NextEvent.{due_entry}
use Rattle.hp_model.specs.Seats.{role_of, role_step}
use Rattle.hp_model.specs.StandsCalls.{InWalk, InRegistration, IsIdle}
use Rattle.hp_model.proofs.DueGives.{due_nothing}
use Rattle.hp_model.proofs.Laws.{role_push}
use Rattle.hp_model.proofs.OneNext.{owners}
use Rattle.hp_model.proofs.Owners.{Owners}
use Rattle.hp_table.specs.Step.{AllHome, is_home, step_at}
use Rattle.hp_turn.specs.Pass.{Pass, Knew}
use Rattle.hp_turn.specs.Story.{IsNoAdmit, Knows}
use Rattle.hp_board.specs.Contents.{Contents}
use Rattle.hp_board.specs.Loans.{AreOut}
use Rattle.hp_live.specs.Known.{IsRoot}

-- no seat is in
abbrev pub NoneIn : List Event → Type 0
NoneIn xs = (k : ℕ) → role_of k xs ≡ None

out_cleared : (b : Bool) (o : Option Role) → o ≡ None → cond b None o ≡ None
out_cleared true o none = refl
out_cleared false o none = none

-- nobody comes in without an Admit
none_after : (xs : List Event) (e : Event) (k : ℕ) → IsNoAdmit e → role_of k xs ≡ None → role_step k (role_of k xs) xs e ≡ None
none_after xs (Admit seat role) k not none = absurd (true≢false not)
none_after xs (Leave seat) k not none = out_cleared (eqb seat k) (role_of k xs) none
none_after xs e k not none = none

none_later : (front rest : List Event) → All IsNoAdmit rest → NoneIn front → NoneIn (front ++ rest)
none_later front [] not none = subst NoneIn (sym (append-nil front)) none
none_later front (e ∷ es) not none =
    subst NoneIn (append_assoc front (e ∷ []) es)
    (none_later (front ++ e ∷ []) es (All-tail IsNoAdmit e es not)
    (λ k. role_push k front e ∙ none_after front e k (All-head IsNoAdmit e es not) (none k)))

-- of nobody an entry is due
none_calls : (head : Head) (xs : List Event) (k : ℕ) → Owners xs → NoneIn xs → IsIdle head xs k
none_calls head xs k o none cpu s i dir how calls = ⊎_elim in_walk in_registration calls
  where
    in_walk : InWalk head xs k cpu s i dir how → ⊥
    in_walk w =
        let held = o.walk_op cpu w.entry.of w.entry.in_flight in
        some_none Client (sym (o.op_client held.0 held.1) ∙ none held.0.seat)

    in_registration : InRegistration head xs k cpu s i dir how → ⊥
    in_registration r = some_none Client (sym (o.reg_client r.entry.of r.entry.in_flight) ∙ none r.entry.of.seat)

none_due : (head : Head) (xs : List Event) (k : ℕ) → IsLawful head xs → NoneIn xs → due_entry head xs k ≡ None
none_due head xs k lawful none = (due_nothing head xs k).1 (none_calls head xs k (owners head xs lawful) none)

pub all_home : (b : Contents) → IsLawful b.head b.events → AreOut b → NoneIn b.events → AllHome b.places
all_home b lawful out none s = home (is_home (step_at b.places s)) refl
  where
    home : (h : Bool) → is_home (step_at b.places s) ≡ h → h ≡ true
    home true is = refl
    home false is =
        let away = out.only s is in
        absurd (some_none (Call away.seat away.cpu s away.inst away.dir away.how) (sym away.due ∙ none_due b.head b.events away.seat lawful none))

-- so it is where they have left by a front that the journal begins with, with no Admit past it
pub home_at_end : (b : Contents) (front : List Event) → IsLawful b.head b.events → AreOut b → Knows None true front b.events →
    NoneIn front → AllHome b.places
home_at_end b front lawful out knows none =
    all_home b lawful out (subst NoneIn knows.seen.whole (none_later front knows.seen.rest (knows.admitted refl) none))

-- what the root's front knows of the story that it takes
pub root_knows : (p : Pass) (story : List Event) → IsRoot p → Knew p story → Knows None true p.front story
root_knows p story root knew =
    subst (λ (seat : Option ℕ). Knows seat true p.front story) root.no_seat
    (subst (λ (b : Bool). Knows p.seat b p.front story) root.right knew)
