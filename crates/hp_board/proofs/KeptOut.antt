-- A write of `fail` is kept out exactly while a hook is lent for an entry of the walk of its processor.
use Rattle.std.proofs.Common.{◌≡◌, ℕ, ℤ, Bool, true, false, ◌&&◌, not, eqb, is_some, is_none, Option, Some, None, refl, ap, sym, ◌∙◌}
use Rattle.std.specs.Prelude.{option_map}
use Rattle.std.proofs.lemmas.Bool.{true≢false, false≢true, eqb-true, eq-eqb}
use Rattle.hp_event.specs.declared.event.Event.{Event}
use Rattle.hp_event.specs.declared.event.Event.TheVariants.{Armed, Call}
use Rattle.hp_model.specs.Events.{is_call}
use Rattle.hp_model.specs.Lawful.{IsLawful}
use Rattle.hp_model.specs.Lent.{arms, arms_walker, calls_at}
use Rattle.hp_model.specs.Walks.{walk}
use Rattle.hp_model.specs.Registrations.{Registration, registration}
use Rattle.hp_model.proofs.EntryStays.{due_calls, walk_or_registration}
use Rattle.hp_board.specs.Contents.{Contents}
use Rattle.hp_board.proofs.Loans.{disarms_not}
use Rattle.hp_board.specs.Loans.{ArmsNone, CallsHome, IsCalm, IsOutFor}

-- an entry that is lent for is one of a walk where no registration is in flight
pub walks_where : (b : Contents) (s : ℕ) (o : IsOutFor b s) → IsLawful b.head b.events →
    is_some (walk o.cpu b.events) ≡ not (is_some (option_map (λ (r : Registration). r.seat) (registration b.events)))
walks_where b s o lawful =
    let h = due_calls b.head b.events o.seat o.seat o.cpu s o.inst o.dir o.how o.due in
    walk_or_registration b.head b.events o.seat o.cpu s o.inst o.dir o.how lawful h.0 ∙ mapped (registration b.events)
  where
    mapped : (r : Option Registration) → is_none r ≡ not (is_some (option_map (λ (r : Registration). r.seat) r))
    mapped None = refl
    mapped (Some r) = refl

-- a write of `fail` of a processor that walks
pub arms_it : (b : Contents) (seat c : ℕ) (value : ℤ) (s : ℕ) (o : IsOutFor b s) → o.cpu ≡ c → is_some (walk c b.events) ≡ true →
    arms_walker b.events (Call o.seat o.cpu s o.inst o.dir o.how) (Armed seat c value) ≡ true
arms_it b seat c value s o same walks =
    ap (λ z. is_some (walk z b.events) && eqb c z) same ∙ (ap (λ w. w && eqb c c) walks ∙ eq-eqb c c refl)

-- an event that is no entry calls no hook
no_call : (s : ℕ) (e : Event) → is_call e ≡ false → calls_at s e ≡ false
no_call s (Call k c t i d how) h = absurd (true≢false h)
no_call s e h = refl

pub calls_none : (b : Contents) (e : Event) → is_call e ≡ false → CallsHome b e
calls_none b e h s calls = absurd (false≢true (sym (no_call s e h) ∙ calls))

-- a write of `fail` of a processor that no hook is lent for in a walk
pub arms_nobody : (b : Contents) (seat c : ℕ) (value : ℤ) → ((s : ℕ) (o : IsOutFor b s) → o.cpu ≡ c → is_some (walk c b.events) ≡ false) →
    ArmsNone b (Armed seat c value)
arms_nobody b seat c value none s o = go (eqb c o.cpu) refl
  where
    both : (w x : Bool) → x ≡ false → (w && x) ≡ false
    both true x h = h
    both false x h = refl

    go : (x : Bool) → eqb c o.cpu ≡ x → (is_some (walk o.cpu b.events) && eqb c o.cpu) ≡ false
    go true e =
        let same = sym (eqb-true c o.cpu e) in
        ap (λ w. w && eqb c o.cpu) (ap (λ z. is_some (walk z b.events)) same ∙ none s o same)
    go false e = both (is_some (walk o.cpu b.events)) (eqb c o.cpu) e

-- any other event arms nobody
pub arms_not : (b : Contents) (e : Event) → ((seat c : ℕ) (value : ℤ) → e ≡ Armed seat c value → ⊥) → ArmsNone b e
arms_not b e other s o = and_none (is_some (walk o.cpu b.events)) (arms o.cpu e) (none e other)
  where
    and_none : (w x : Bool) → x ≡ false → (w && x) ≡ false
    and_none true x h = h
    and_none false x h = refl

    none : (e : Event) → ((seat c : ℕ) (value : ℤ) → e ≡ Armed seat c value → ⊥) → arms o.cpu e ≡ false
    none (Armed seat c value) other = absurd (other seat c value refl)
    none e other = refl

-- a seat that comes in or goes does neither
pub calm_seat : (b : Contents) (e : Event) → is_call e ≡ false → ((c : ℕ) → arms c e ≡ false) → IsCalm b e
calm_seat b e no_call arms_none = (
  λ s o. disarms_not b.events o.seat o.cpu s o.inst o.dir o.how e (arms_none o.cpu),
  calls_none b e no_call,
)
