-- After its leave no event of a seat stands any more.
use Rattle.std.proofs.Common.{◌≡◌, ◌≢◌, ℕ, ◌<◌, ◌≤◌, Bool, true, false, cond, ◌⊎◌, ⊎_elim, inl, inr, All, Some, None, List, [], ◌∷◌, ◌++◌, refl, sym, ap, ◌∙◌, subst, append_assoc, arith}
use Rattle.std.proofs.lemmas.Bool.{eq-eqb, ne_eqb, true≢false}
use Rattle.std.proofs.lemmas.List.Elements.{All-nil, All-cons}
use Rattle.hp_event.specs.declared.event.Role.{Role}
use Rattle.hp_event.specs.declared.event.Role.TheVariants.{Client, Ap}
use Rattle.hp_event.specs.declared.head.Head.{Head}
use Rattle.hp_event.specs.declared.how.How.{How}
use Rattle.hp_event.specs.declared.event.Event.{Event}
use Rattle.hp_event.specs.declared.event.Event.TheVariants.{Admit, Leave, Enter, Refused, WalkBegin, Call, WalkEnd, OpEnd, RegBegin, RegEnd, ReadLock, ReadUnlock, Armed, Shown, Wakeup}
use Rattle.hp_model.specs.Caller.{caller, is_made_by_ap}
use Rattle.hp_model.specs.Events.{seat_of, is_call}
use Rattle.hp_model.specs.Journal.{EachAfter}
use Rattle.hp_model.specs.Lawful.{Comes, IsLawful, Stands}
use Rattle.hp_model.specs.Seats.{admits, ap_seat, role_of, role_step}
use Rattle.hp_model.specs.StandsCalls.{InWalk, InRegistration}
use Rattle.hp_model.specs.StandsOperations.{IsOver, IsCut}
use Rattle.hp_model.specs.Walks.{Walk, walk}
use Rattle.hp_model.proofs.Laws.{admits_push, role_push}
use Rattle.hp_model.proofs.OneNext.{owners}
use Rattle.hp_states.proofs.Basics.{none_some, same_some}
use Rattle.hp_model.proofs.Owners.{Owners, owners_step}
use Rattle.hp_live.specs.Sections.{LeavesIn}
use Rattle.hp_live.proofs.Others.{lawful_rest}

-- a seat that is in
abbrev pub IsIn : ℕ → List Event → Type 0
IsIn k xs = (role : Role) × (role_of k xs ≡ Some role)

abbrev IsInAs : (xs : List Event) (own k : ℕ) → own ≡ k → role_of own xs ≡ Some Client → IsIn k xs
IsInAs xs own k is role = (Client, subst (λ (n : ℕ). role_of n xs ≡ Some Client) is role)

walker_in : (xs : List Event) (c : ℕ) (w : Walk) → Owners xs → walk c xs ≡ Some w → role_of w.seat xs ≡ Some Client
walker_in xs c w o h =
    let op = o.walk_op c w h in subst (λ (n : ℕ). role_of n xs ≡ Some Client) op.2 (o.op_client op.0 op.1)

caller_in : (xs : List Event) (c state client seat : ℕ) (how : How) → Owners xs → role_of client xs ≡ Some Client →
    caller xs c state how client ≡ Some seat → IsIn seat xs
caller_in xs c state client seat how o h = go (is_made_by_ap state how)
  where
    go : (b : Bool) → cond b (ap_seat c xs) (Some client) ≡ Some seat → IsIn seat xs
    go true e = (Ap c, o.ap_role c seat e)
    go false e = IsInAs xs client seat (same_some client seat e) h

-- an entry that can come next is of a seat that is in
pub call_in : (head : Head) (xs : List Event) (e : Event) → is_call e ≡ true → Comes head xs e → Owners xs → IsIn (seat_of e) xs
call_in head xs (Call seat cpu state inst dir how) call h o = go h
  where
    go : InWalk head xs seat cpu state inst dir how ⊎ InRegistration head xs seat cpu state inst dir how → IsIn seat xs
    go (inl w) =
        caller_in xs cpu state w.entry.of.seat seat how o (walker_in xs cpu w.entry.of o w.entry.in_flight) w.caller_is
    go (inr r) = caller_in xs cpu state r.entry.of.seat seat how o (o.reg_client r.entry.of r.entry.in_flight) r.caller_is
call_in head xs e call h o = absurd (true≢false (sym call))

-- an event that can come next is of a seat that is in, or admits it
event_in : (head : Head) (xs : List Event) (e : Event) → Comes head xs e → Owners xs →
    (seat_of e ≡ admits xs) ⊎ IsIn (seat_of e) xs
event_in head xs (Admit seat role) h o = inl h.seat_is
event_in head xs (Leave seat) h o = inr h.is_in
event_in head xs (Enter seat op) h o = inr (Client, h.free.client)
event_in head xs (Refused seat errno op) h o = inr (Client, h.free.client)
event_in head xs (WalkBegin seat cpu from to) h o = inr (IsInAs xs h.of.seat seat h.seat_is (o.op_client h.of h.held))
event_in head xs (Call seat cpu state inst dir how) h o = inr (call_in head xs (Call seat cpu state inst dir how) refl h o)
event_in head xs (WalkEnd seat cpu answer) h o = inr (IsInAs xs h.of.seat seat h.seat_is (walker_in xs cpu h.of o h.in_flight))
event_in head xs (OpEnd seat answer) h o = inr (go h)
  where
    go : IsOver head xs seat answer ⊎ IsCut head xs seat answer → IsIn seat xs
    go (inl v) = IsInAs xs v.of.seat seat v.seat_is (o.op_client v.of v.held)
    go (inr c) = IsInAs xs c.begins.of.seat seat c.begins.seat_is (o.op_client c.begins.of c.begins.held)
event_in head xs (RegBegin seat state op) h o = inr (Client, h.free.client)
event_in head xs (RegEnd seat answer) h o = inr (IsInAs xs h.of.seat seat h.seat_is (o.reg_client h.of h.in_flight))
event_in head xs (ReadLock seat) h o = inr (Client, h.free.client)
event_in head xs (ReadUnlock seat) h o = inr (Client, h.free.client)
event_in head xs (Armed seat cpu value) h o = inr (Client, h.free.client)
event_in head xs (Shown seat file cpu value) h o = inr (Client, h.free.client)
event_in head xs (Wakeup seat) h o = inr (Client, h.free.client)

-- a seat that was admitted and is out
record IsGone (k : ℕ) (xs : List Event) : Type 0 where
  below : k < admits xs
  none : role_of k xs ≡ None

not_own : (head : Head) (xs : List Event) (e : Event) (k : ℕ) → Comes head xs e → Owners xs → IsGone k xs → seat_of e ≢ k
not_own head xs e k h o g is =
    let low = g.below in
    ⊎_elim (λ (new : seat_of e ≡ admits xs). absurd (omega (arith, sym is ∙ new)))
    (λ (there : IsIn (seat_of e) xs). absurd (none_some there.0 (sym g.none ∙ ap (λ (n : ℕ). role_of n xs) (sym is) ∙ there.1)))
    (event_in head xs e h o)

role_out : (xs : List Event) (e : Event) (k : ℕ) → seat_of e ≢ k → role_of k xs ≡ None → role_step k (role_of k xs) xs e ≡ None
role_out xs (Admit seat role) k other none = let apart = ne_eqb seat k other in rw apart none
role_out xs (Leave seat) k other none = let apart = ne_eqb seat k other in rw apart none
role_out xs e k other none = none

more_seats : (xs : List Event) (e : Event) → admits xs ≤ admits (xs ++ e ∷ [])
more_seats xs (Admit seat role) = let a = admits_push xs (Admit seat role) in omega arith
more_seats xs e = let a = admits_push xs e in omega arith

gone_on : (xs : List Event) (e : Event) (k : ℕ) → seat_of e ≢ k → IsGone k xs → IsGone k (xs ++ e ∷ [])
gone_on xs e k other g =
    record {
      below = let low = g.below in let more = more_seats xs e in omega arith;
      none = role_push k xs e ∙ role_out xs e k other g.none;
    }

silent : (head : Head) (k : ℕ) (before es : List Event) → Owners before → IsGone k before → EachAfter (Stands head) before es →
    All (λ e. seat_of e ≢ k) es
silent head k before [] o g h = All-nil (λ e. seat_of e ≢ k)
silent head k before (e ∷ es) o g h =
    let other = not_own head before e k h.0.0 o g in
    All-cons (λ x. seat_of x ≢ k) e es other
    (silent head k (before ++ e ∷ []) es (owners_step head before e h.0.0 o) (gone_on before e k other g) h.1)

left : (head : Head) (found : List Event) (k : ℕ) → IsLawful head found → Stands head found (Leave k) → IsGone k (found ++ Leave k ∷ [])
left head found k lawful stands =
    let there = stands.0.is_in in
    let own = eq-eqb k k refl in
    record {
      below =
          let low = (owners head found lawful).seats_below k there.0 there.1 in
          let more = more_seats found (Leave k) in omega arith;
      none = role_push k found (Leave k) ∙ rw own refl;
    }

-- past what a seat that left has seen there is no event of it
pub no_more : (head : Head) (k : ℕ) (old front rest : List Event) → LeavesIn head k old front → IsLawful head (front ++ rest) →
    All (λ e. seat_of e ≢ k) rest
no_more head k old front rest l lawful =
    let whole = subst (λ (w : List Event). IsLawful head (w ++ rest)) l.new_is lawful in
    let after = lawful_rest head (l.found ++ Leave k ∷ []) rest whole in
    let leave = lawful_rest head l.found (Leave k ∷ rest) (subst (IsLawful head) (append_assoc l.found (Leave k ∷ []) rest) whole) in
    silent head k (l.found ++ Leave k ∷ []) rest (owners_step head l.found (Leave k) leave.0.0 (owners head l.found l.lawful))
    (left head l.found k l.lawful leave.0) after
