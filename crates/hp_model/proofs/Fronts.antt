-- No event of a seat that is still to be admitted stands in a lawful journal.
use Rattle.std.proofs.Common.{◌≡◌, ◌≢◌, ℕ, ◌<◌, ◌≤◌, Bool, true, false, cond, Some, All, List, [], ◌∷◌, ◌++◌, arith, inl, inr, ◌⊎◌, append_assoc}
use Rattle.std.proofs.lemmas.List.{append-nil}
use Rattle.std.proofs.lemmas.List.Elements.{All-nil, All-cons}
use Rattle.hp_states.proofs.Basics.{same_some}
use Rattle.hp_event.specs.declared.head.Head.{Head}
use Rattle.hp_event.specs.declared.how.How.{How}
use Rattle.hp_event.specs.declared.event.Role.TheVariants.{Client, Ap}
use Rattle.hp_event.specs.declared.event.Event.{Event}
use Rattle.hp_event.specs.declared.event.Event.TheVariants.{Admit, Leave, WalkBegin, Call, WalkEnd, OpEnd, RegEnd}
use Rattle.hp_model.specs.Journal.{EachAfter}
use Rattle.hp_model.specs.Events.{seat_of}
use Rattle.hp_model.specs.Seats.{admits, ap_seat}
use Rattle.hp_model.specs.Walks.{Walk, walk}
use Rattle.hp_model.specs.Caller.{caller, is_made_by_ap}
use Rattle.hp_model.specs.StandsCalls.{InWalk, InRegistration}
use Rattle.hp_model.specs.StandsOperations.{IsOver, IsCut}
use Rattle.hp_model.specs.Lawful.{Comes, Stands, IsLawful}
use Rattle.hp_model.proofs.Laws.{admits_push}
use Rattle.hp_model.proofs.Owners.{Owners, owners_none, owners_step}

-- the seat of an operation with a walk in flight was admitted
walker_below : (xs : List Event) (c : ℕ) (w : Walk) → Owners xs → walk c xs ≡ Some w → w.seat < admits xs
walker_below xs c w o h =
    let op = o.walk_op c w h in
    let b = o.seats_below op.0.seat Client (o.op_client op.0 op.1) in
    let s = op.2 in omega arith

-- so was the seat that makes an entry
caller_below : (xs : List Event) (c state client seat : ℕ) (how : How) → Owners xs → client < admits xs →
    caller xs c state how client ≡ Some seat → seat < admits xs
caller_below xs c state client seat how o h = go (is_made_by_ap state how)
  where
    go : (b : Bool) → cond b (ap_seat c xs) (Some client) ≡ Some seat → seat < admits xs
    go true e = o.seats_below seat (Ap c) (o.ap_role c seat e)
    go false e = let s = same_some client seat e in omega arith

-- an event that can come next is of a seat that was admitted, or admits it
event_below : (head : Head) (xs : List Event) (e : Event) → Comes head xs e → Owners xs → seat_of e < admits (xs ++ e ∷ [])
event_below head xs (Admit seat role) h o = let s = h.seat_is in let a = admits_push xs (Admit seat role) in omega arith
event_below head xs (Leave seat) h o = rw (admits_push xs (Leave seat)) (o.seats_below seat h.is_in.0 h.is_in.1)
event_below head xs (WalkBegin seat cpu from to) h o =
    let b = o.seats_below h.of.seat Client (o.op_client h.of h.held) in
    let s = h.seat_is in
    let a = admits_push xs (WalkBegin seat cpu from to) in omega arith
event_below head xs (Call seat cpu state inst dir how) h o =
    rw (admits_push xs (Call seat cpu state inst dir how)) (go h)
  where
    go : InWalk head xs seat cpu state inst dir how ⊎ InRegistration head xs seat cpu state inst dir how →
        seat < admits xs
    go (inl w) =
        caller_below xs cpu state w.entry.of.seat seat how o (walker_below xs cpu w.entry.of o w.entry.in_flight) w.caller_is
    go (inr r) =
        caller_below xs cpu state r.entry.of.seat seat how o
        (o.seats_below r.entry.of.seat Client (o.reg_client r.entry.of r.entry.in_flight))
        r.caller_is
event_below head xs (WalkEnd seat cpu answer) h o =
    let b = walker_below xs cpu h.of o h.in_flight in
    let s = h.seat_is in
    let a = admits_push xs (WalkEnd seat cpu answer) in omega arith
event_below head xs (OpEnd seat answer) h o = rw (admits_push xs (OpEnd seat answer)) (go h)
  where
    go : IsOver head xs seat answer ⊎ IsCut head xs seat answer → seat < admits xs
    go (inl v) = let b = o.seats_below v.of.seat Client (o.op_client v.of v.held) in let s = v.seat_is in omega arith
    go (inr c) =
        let w = c.begins in
        let b = o.seats_below w.of.seat Client (o.op_client w.of w.held) in
        let s = w.seat_is in omega arith
event_below head xs (RegEnd seat answer) h o =
    let b = o.seats_below h.of.seat Client (o.reg_client h.of h.in_flight) in
    let s = h.seat_is in
    let a = admits_push xs (RegEnd seat answer) in omega arith
event_below head xs e h o = rw (admits_push xs e) (o.seats_below (seat_of e) Client h.free.client)

-- one event more admits no fewer
more_by_one : (xs : List Event) (e : Event) → admits xs ≤ admits (xs ++ e ∷ [])
more_by_one xs (Admit seat role) = let a = admits_push xs (Admit seat role) in omega arith
more_by_one xs e = let a = admits_push xs e in omega arith

more_admits : (xs es : List Event) → admits xs ≤ admits (xs ++ es)
more_admits xs [] = rw append-nil omega arith
more_admits xs (e ∷ es) =
    let one = more_by_one xs e in
    let rest = rw (append_assoc xs (e ∷ []) es) at (more_admits (xs ++ e ∷ []) es) in omega arith

none_above_from : (head : Head) (before es : List Event) (n : ℕ) → Owners before → EachAfter (Stands head) before es →
    admits (before ++ es) ≤ n → All (λ e. seat_of e ≢ n) es
none_above_from head before [] n o h le = All-nil (λ e. seat_of e ≢ n)
none_above_from head before (e ∷ es) n o h le =
    let whole : admits ((before ++ e ∷ []) ++ es) ≤ n = rw (append_assoc before (e ∷ []) es) le in
    let below = event_below head before e h.0.0 o in
    let more = more_admits (before ++ e ∷ []) es in
    All-cons (λ e. seat_of e ≢ n) e es (λ same. absurd (omega arith))
    (none_above_from head (before ++ e ∷ []) es n (owners_step head before e h.0.0 o) h.1 whole)

pub none_above : (head : Head) (events : List Event) (n : ℕ) → IsLawful head events → admits events ≤ n →
    All (λ e. seat_of e ≢ n) events
none_above head events n h le = none_above_from head [] events n owners_none h.1 le
