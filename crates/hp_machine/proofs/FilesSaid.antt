-- The numbers that files show are states, or how many states have names.
use Rattle.std.proofs.Common.{◌≡◌, ℕ, ◌<◌, ◌≤◌, ◌+◌, Bool, true, false, cond, Option, Some, None, List, [], ◌∷◌, add-one, refl, sym, ap, ◌∙◌, subst, arith, rules, SFits, w32, to_z, of_z, to_z-of_z}
use Rattle.std.specs.Prelude.{ℤ, pos}
use Rattle.std.specs.List.{count_by}
use Rattle.std.proofs.lemmas.List.Sums.{sum_by-cons, sum_by-append}
use Rattle.hp_states.specs.declared.limits.TheConstants.{ONLINE}
use Rattle.hp_event.specs.declared.head.Head.{Head}
use Rattle.hp_event.specs.declared.event.Event.{Event}
use Rattle.hp_event.specs.Story.{Story}
use Rattle.hp_model.specs.Entries.{codes_of_faults}
use Rattle.hp_model.specs.Armed.{armed}
use Rattle.hp_model.specs.Lists.{is_empty, numbers}
use Rattle.hp_model.specs.Files.{named_states}
use Rattle.hp_model.specs.Registrations.{registration}
use Rattle.hp_model.specs.Registered.{is_named, keys, insts_of}
use Rattle.hp_table.specs.Named.{is_named as is_named_in}
use Rattle.hp_table.specs.Step.{Step}
use Rattle.hp_account.specs.Table.{IsTableOf}
use Rattle.hp_model.specs.Settled.{settled}
use Rattle.hp_model.specs.Shown.{shown, shown_target}
use Rattle.hp_model.specs.Walks.{walk_entries}
use Rattle.hp_account.specs.declared.flights.Flight.{Flight}
use Rattle.hp_account.specs.declared.account.Account.{Account}
use Rattle.hp_account.specs.Account.{IsAccount}
use Rattle.hp_account.specs.Accounted.{IsAccounted}
use Rattle.hp_account.specs.Flights.{IsFlight, IsFlightOf}
use Rattle.hp_machine.specs.NamedIn.{named_in}
use Rattle.hp_account.specs.Places.{at_place}
use Rattle.hp_account.proofs.FlightFacts.{no_flight_at}
use Rattle.hp_machine.proofs.FileBounds.{states, shown_low}
use Rattle.hp_account.proofs.TableSays.{named_alike}

-- a number that a file shows is the same as an `i32`
pub shows : (n found : ℕ) (r : ℤ) → n ≡ found → found ≤ ONLINE + 1 → (n ≤ ONLINE + 1 → r ≡ pos n) → to_z w32 (of_z w32 r) ≡ pos found
shows n found r is low said =
    let most : n ≤ ONLINE + 1 = omega (arith, is, low) in
    let fits : SFits w32 (pos n) = search rules in
    ap (λ z. to_z w32 (of_z w32 z)) (said most) ∙ to_z-of_z fits ∙ ap pos is

settled_low : (j : Story) (p : Account) (c : ℕ) → IsAccounted j 0 p → c < j.head.possible → settled c j.events ≤ ONLINE
settled_low j p c kept below =
    let stands = kept.account.processors in subst (λ n. n ≤ ONLINE) (stands.settled_is c below) (stands.highest c)

-- a walk in flight is between states
from_low : (head : Head) (es : List Event) (c : ℕ) (f : Flight) (b : IsFlight head es c f) → b.of.from ≤ ONLINE
from_low head es c f b = subst (λ n. n ≤ ONLINE) b.walk_is.1 b.after.within.from_most

to_low : (head : Head) (es : List Event) (c : ℕ) (f : Flight) (b : IsFlight head es c f) → b.of.to ≤ ONLINE
to_low head es c f b = subst (λ n. n ≤ ONLINE) b.walk_is.2 b.after.within.to_most

-- a processor that doesn't walk shows where it stands
pub shown_at_rest : (head : Head) (es : List Event) (p : Account) (c : ℕ) → IsAccount head es p → at_place p.flights.by_cpu.items c ≡ None →
    (shown head c es ≡ settled c es) × (shown_target c es ≡ settled c es)
shown_at_rest head es p c account is =
    let none = no_flight_at head es p.flights c account.flights is in (rw none refl, rw none refl)

-- what `state` shows
pub state_low : (j : Story) (p : Account) (c : ℕ) → IsAccounted j 0 p → c < j.head.possible → shown j.head c j.events ≤ ONLINE
state_low j p c kept below = go (at_place p.flights.by_cpu.items c) (kept.account.flights.each c)
  where
    go : (o : Option Flight) → IsFlightOf j.head j.events c o → shown j.head c j.events ≤ ONLINE
    go None none = rw none (settled_low j p c kept below)
    go (Some f) b =
        rw b.in_flight
        (shown_low (keys j.head b.of.before) b.of.from (walk_entries c j.events) (from_low j.head j.events c f b)
        (λ s above. ap insts_of (b.registered_same s ∙ (states j.head j.events kept.lawful).none_above s above)))

-- what `target` shows
pub target_low : (j : Story) (p : Account) (c : ℕ) → IsAccounted j 0 p → c < j.head.possible → shown_target c j.events ≤ ONLINE
target_low j p c kept below = go (at_place p.flights.by_cpu.items c) (kept.account.flights.each c)
  where
    either : (b : Bool) (x y : ℕ) → x ≤ ONLINE → y ≤ ONLINE → cond b x y ≤ ONLINE
    either true x y h k = h
    either false x y h k = k

    go : (o : Option Flight) → IsFlightOf j.head j.events c o → shown_target c j.events ≤ ONLINE
    go None none = rw none (settled_low j p c kept below)
    go (Some f) b =
        rw b.in_flight
        (either (is_empty (codes_of_faults (walk_entries c j.events))) b.of.to b.of.from (to_low j.head j.events c f b)
        (from_low j.head j.events c f b))

-- what `fail` shows
pub fail_low : (j : Story) (p : Account) (c s : ℕ) → IsAccounted j 0 p → c < j.head.possible →
    at_place p.processors.armed c ≡ Some s → (armed c j.events ≡ Some s) × (s ≤ ONLINE)
fail_low j p c s kept below is =
    let at : armed c j.events ≡ Some s = sym (kept.account.processors.armed_is c below) ∙ is in
    (at, (states j.head j.events kept.lawful).armed_low c s at)

-- what `states` shows
abbrev pub one : Bool → ℕ
one b = cond b 1 0

agree : (p q : ℕ → Bool) → ((s : ℕ) → p s ≡ q s) → (xs : List ℕ) → count_by p xs ≡ count_by q xs
agree p q same [] = refl
agree p q same (x ∷ xs) =
    let a = sum_by-cons (λ s. one (p s)) x xs in
    let b = sum_by-cons (λ s. one (q s)) x xs in
    let here = ap one (same x) in
    let rest = agree p q same xs in
    omega (arith, a, b, here, rest)

pub named_said : (head : Head) (es : List Event) (places : List (Option Step)) → registration es ≡ None → IsTableOf head es places →
    named_in places (ONLINE + 1) ≡ named_states head es
unfolding named_states named_in
named_said head es places idle t =
    agree (λ s. is_named_in places s) (λ s. is_named head s es) (λ s. sym (named_alike head es places s idle t)) (numbers (ONLINE + 1))

-- one state more is counted where it has a name
pub named_none : (places : List (Option Step)) → named_in places 0 ≡ 0
unfolding named_in
named_none places = refl

pub named_more : (places : List (Option Step)) (n : ℕ) → named_in places (n + 1) ≡ named_in places n + one (is_named_in places n)
unfolding named_in
named_more places n =
    let p : ℕ → Bool = λ s. is_named_in places s in
    let more = sum_by-append (λ s. one (p s)) (numbers n) (n ∷ []) in
    let last = sum_by-cons (λ s. one (p s)) n [] in
    ap (λ k. count_by p (numbers k)) (add-one n) ∙ omega (arith, more, last)
