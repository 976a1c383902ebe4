-- From which thread an event makes an entry due: that of the processor whose walk it goes on with; and in a registration nothing else
-- is due.
use Rattle.std.proofs.Common.{◌≡◌, ◌≢◌, ℕ, ◌<◌, Bool, true, false, ◌&&◌, cond, eqb, is_some, Option, Some, None, List, [], ◌∷◌, ◌++◌, refl, ap, sym, ◌∙◌, subst, inl, inr, ◌⊎◌}
use Rattle.std.specs.Prelude.{option_map}
use Rattle.std.proofs.lemmas.Bool.{false≢true, eqb-true, eq-eqb, ne_eqb}
use Rattle.hp_states.proofs.Basics.{none_some}
use Rattle.hp_states.specs.Sections.{is_ap_state}
use Rattle.hp_states.specs.declared.dir.Dir.{Dir}
use Rattle.hp_event.specs.declared.answer.Answer.{Answer}
use Rattle.hp_event.specs.declared.how.How.{How}
use Rattle.hp_event.specs.declared.head.Head.{Head}
use Rattle.hp_event.specs.declared.event.Event.{Event}
use Rattle.hp_event.specs.declared.event.Event.TheVariants.{Admit, Leave, WalkBegin, Call, WalkEnd}
use Rattle.hp_event.specs.declared.event.Role.{Role}
use Rattle.hp_event.specs.declared.event.Role.TheVariants.{Client, Ap}
use Rattle.hp_model.specs.Caller.{is_presumed}
use Rattle.hp_model.specs.Errands.{made_by}
use Rattle.hp_model.specs.Events.{seat_of, is_call}
use Rattle.hp_model.specs.How.{how_in_walk}
use Rattle.hp_model.specs.Lawful.{Comes, Stands, IsLawful}
use Rattle.hp_model.specs.Lent.{cpu_of}
use Rattle.hp_model.specs.NextEvent.{due_entry}
use Rattle.hp_model.specs.NextInWalk.{next_of_walk, event_of_walk, walk_left}
use Rattle.hp_model.specs.Plan.{direction, plan}
use Rattle.hp_model.specs.Registered.{keys}
use Rattle.hp_model.specs.Registrations.{Registration, registration}
use Rattle.hp_model.specs.Remaining.{remaining}
use Rattle.hp_model.specs.SeatNext.{call_by}
use Rattle.hp_model.specs.Seats.{ap_seat, ap_step, role_of, seated, unseated}
use Rattle.hp_model.specs.StandsCalls.{InWalk, InRegistration}
use Rattle.hp_model.specs.StandsSeats.{CanSit}
use Rattle.hp_model.specs.Trees.{Tree, stop, dead, step, walk_tree}
use Rattle.hp_live.specs.Freed.{moves}
use Rattle.hp_model.specs.Walks.{Walk, walk, walk_step, walk_entries, entries_step}
use Rattle.hp_model.proofs.DueGives.{due_stands}
use Rattle.hp_model.proofs.EntryProcessors.{call_below}
use Rattle.hp_model.proofs.HeadlineProof.{lawful_more}
use Rattle.hp_model.proofs.Induction.{kept}
use Rattle.hp_model.proofs.Kept.{RegistrationKept, WalkKept}
use Rattle.hp_model.proofs.Laws.{ap_push, walk_push, walk_entries_push}
use Rattle.hp_model.proofs.OneNext.{owners}
use Rattle.hp_model.proofs.OneRegistration.{one_registration_entry}
use Rattle.hp_model.proofs.Owners.{Owners}
use Rattle.hp_model.proofs.SeatNext.{threads_due}
use Rattle.hp_model.proofs.Stages.{ap_no_client, called_by}
use Rattle.hp_model.proofs.TurnStays.{not_presumed}

-- ---- whether the next entry of a walk is a thread's, by the walk, its entries, and where the thread is in

abbrev is_seat : (seat : ℕ) → Option ℕ → Bool
is_seat k None = false
is_seat k (Some j) = eqb j k

abbrev served_of : (sits : ℕ → Bool) → (client : Bool) → Tree → Bool
served_of sits b stop = false
served_of sits b dead = false
served_of sits b (step x t u) = cond (is_ap_state x.state) (sits x.cpu) b

abbrev served_at : Head → (k c : ℕ) → (sits : ℕ → Bool) → Option Walk → List Event → Bool
served_at head k c sits None es = false
served_at head k c sits (Some w) es =
    served_of sits (eqb w.seat k)
    (remaining (walk_tree c (keys head w.before) (direction w.from w.to) [] (plan (keys head w.before) w.from w.to)) es)

served_left : (head : Head) (xs : List Event) (k c : ℕ) (w : Walk) (t : Tree) →
    is_some (call_by k (event_of_walk head xs c w t)) ≡ served_of (λ d. is_seat k (ap_seat d xs)) (eqb w.seat k) t
served_left head xs k c w stop = go _
  where
    go : (v : Option Answer) → is_some (call_by k (option_map (λ answer. WalkEnd w.seat c answer) v)) ≡ false
    go None = refl
    go (Some a) = refl
served_left head xs k c w dead = refl
served_left head xs k c w (step x t u) = rw p (go (is_ap_state x.state))
  where
    how : How
    how = how_in_walk head xs x.cpu x.state x.inst x.dir x.place x.first

    p : is_presumed how ≡ false
    p = not_presumed head xs x.cpu x.state x.inst x.dir x.place x.first

    found : (b : Bool) (e : Event) → is_some (cond b (Some e) None) ≡ b
    found true e = refl
    found false e = refl

    by : (v : Option ℕ) → is_some (call_by k (made_by x how v)) ≡ is_seat k v
    by None = refl
    by (Some j) = found (eqb j k) (Call j x.cpu x.state x.inst x.dir how)

    go : (b : Bool) → is_some (call_by k (made_by x how (cond (b && true) (ap_seat x.cpu xs) (Some w.seat))))
        ≡ cond b (is_seat k (ap_seat x.cpu xs)) (eqb w.seat k)
    go true = by (ap_seat x.cpu xs)
    go false = by (Some w.seat)

served : (head : Head) (xs : List Event) (k c : ℕ) →
    is_some (call_by k (next_of_walk head xs c (walk c xs)))
    ≡ served_at head k c (λ d. is_seat k (ap_seat d xs)) (walk c xs) (walk_entries c xs)
served head xs k c = go (walk c xs)
  where
    go : (v : Option Walk) → is_some (call_by k (next_of_walk head xs c v))
        ≡ served_at head k c (λ d. is_seat k (ap_seat d xs)) v (walk_entries c xs)
    go None = refl
    go (Some w) = served_left head xs k c w (walk_left head xs c w)

served_same : (head : Head) (k c : ℕ) (one other : ℕ → Bool) (v : Option Walk) (es : List Event) → ((d : ℕ) → one d ≡ other d) →
    served_at head k c one v es ≡ served_at head k c other v es
served_same head k c one other None es h = refl
served_same head k c one other (Some w) es h =
    go (remaining (walk_tree c (keys head w.before) (direction w.from w.to) [] (plan (keys head w.before) w.from w.to)) es)
  where
    go : (t : Tree) → served_of one (eqb w.seat k) t ≡ served_of other (eqb w.seat k) t
    go stop = refl
    go dead = refl
    go (step x t u) = rw (h x.cpu) refl

-- ---- an event of another seat

-- a thread is where it was
sits_on : (head : Head) (xs : List Event) (e : Event) (k d : ℕ) → Comes head xs e → seat_of e ≢ k →
    is_seat k (ap_seat d (xs ++ e ∷ [])) ≡ is_seat k (ap_seat d xs)
sits_on head xs e k d comes other = ap (is_seat k) (ap_push d xs e) ∙ go e comes other
  where
    joins : (seat : ℕ) (role : Role) → CanSit head xs role → seat ≢ k → is_seat k (seated d seat role (ap_seat d xs)) ≡ is_seat k (ap_seat d xs)
    joins seat Client can other = refl
    joins seat (Ap c) can other = at (eqb c d) refl
      where
        at : (b : Bool) → eqb c d ≡ b → is_seat k (cond b (Some seat) (ap_seat d xs)) ≡ is_seat k (ap_seat d xs)
        at true q =
            let none : ap_seat d xs ≡ None = subst (λ z. ap_seat z xs ≡ None) (eqb-true c d q) can.1 in
            ne_eqb seat k other ∙ sym (ap (is_seat k) none)
        at false q = refl

    leaves : (seat : ℕ) (v : Option ℕ) → seat ≢ k → is_seat k (unseated seat v) ≡ is_seat k v
    leaves seat None other = refl
    leaves seat (Some j) other = at (eqb j seat) refl
      where
        at : (b : Bool) → eqb j seat ≡ b → is_seat k (cond b None (Some j)) ≡ eqb j k
        at true q = sym (ne_eqb j k (λ s. other (sym (eqb-true j seat q) ∙ s)))
        at false q = refl

    go : (x : Event) → Comes head xs x → seat_of x ≢ k → is_seat k (ap_step d (ap_seat d xs) xs x) ≡ is_seat k (ap_seat d xs)
    go (Admit seat role) h other = joins seat role h.can_sit other
    go (Leave seat) h other = leaves seat (ap_seat d xs) other
    go x h other = refl

pub thread_on : (head : Head) (xs : List Event) (e : Event) (c k : ℕ) → Comes head xs e → seat_of e ≢ k → ap_seat c xs ≡ Some k →
    ap_seat c (xs ++ e ∷ []) ≡ Some k
thread_on head xs e c k comes other a =
    go (ap_seat c (xs ++ e ∷ [])) refl (sits_on head xs e k c comes other ∙ (ap (is_seat k) a ∙ eq-eqb k k refl))
  where
    go : (v : Option ℕ) → ap_seat c (xs ++ e ∷ []) ≡ v → is_seat k v ≡ true → v ≡ Some k
    go None at h = absurd (false≢true h)
    go (Some j) at h = ap Some (eqb-true j k h)

-- of a processor that walks then, what its thread has to make is as it was, but for these
walk_due : (head : Head) (xs : List Event) (e : Event) (c k : ℕ) (w : Walk) → IsLawful head xs → Stands head xs e → seat_of e ≢ k →
    ap_seat c xs ≡ Some k → walk c (xs ++ e ∷ []) ≡ Some w → moves c e ≡ false →
    is_some (due_entry head (xs ++ e ∷ []) k) ≡ is_some (due_entry head xs k)
walk_due head xs e c k w lawful stands other a at m =
    ap is_some (threads_due head ys (lawful_more head xs e lawful stands) c k w (thread_on head xs e c k stands.0 other a) at)
    ∙ (served head ys k c
    ∙ (served_same head k c (λ d. is_seat k (ap_seat d ys)) (λ d. is_seat k (ap_seat d xs)) (walk c ys) (walk_entries c ys)
    (λ d. sits_on head xs e k d stands.0 other)
    ∙ ((λ i. served_at head k c (λ d. is_seat k (ap_seat d xs)) (walks i) (entries i))
    ∙ (sym (served head xs k c) ∙ sym (ap is_some (threads_due head xs lawful c k w a (sym walks ∙ at)))))))
  where
    ys : List Event
    ys = xs ++ e ∷ []

    walks : walk c ys ≡ walk c xs
    walks = walk_push c xs e ∙ go e m (sym (walk_push c xs e) ∙ at)
      where
        go : (x : Event) → moves c x ≡ false → walk_step c (walk c xs) xs x ≡ Some w → walk_step c (walk c xs) xs x ≡ walk c xs
        go (WalkBegin seat cpu from to) m h = rw m refl
        go (WalkEnd seat cpu answer) m h = ended (eqb cpu c) h
          where
            ended : (b : Bool) → cond b None (walk c xs) ≡ Some w → cond b None (walk c xs) ≡ walk c xs
            ended true h = absurd (none_some w h)
            ended false h = refl
        go x m h = refl

    entries : walk_entries c ys ≡ walk_entries c xs
    entries = walk_entries_push c xs e ∙ go e m
      where
        go : (x : Event) → moves c x ≡ false → entries_step c (walk_entries c xs) xs x ≡ walk_entries c xs
        go (WalkBegin seat cpu from to) m = rw m refl
        go (Call seat cpu state inst dir how) m = rw m refl
        go x m = refl

-- ---- where an entry is due from a thread

same_cpu : (c d : ℕ) → Some (Ap c) ≡ Some (Ap d) → c ≡ d
same_cpu c d h = cc

-- it is all that is due, in a registration
pub record IsAllDue (head : Head) (xs : List Event) (entry : Event) : Type 0 where
  pub of : Registration
  pub in_flight : registration xs ≡ Some of
  pub alone : (j : ℕ) (d : Event) → due_entry head xs j ≡ Some d → d ≡ entry

pub record IsInWalk (xs : List Event) (cpu : ℕ) : Type 0 where
  pub of : Walk
  pub in_flight : walk cpu xs ≡ Some of
  pub no_registration : registration xs ≡ None

pub record ThreadsEntry (head : Head) (xs : List Event) (cpu seat : ℕ) (entry : Event) : Type 0 where
  pub on : cpu_of entry ≡ cpu
  pub below : cpu < head.possible
  pub either : IsInWalk xs cpu ⊎ IsAllDue head xs entry

-- an entry that is due from a thread is of its processor, which walks; or it is all that is due
pub threads_entry : (head : Head) (xs : List Event) (c k : ℕ) (x : Event) → IsLawful head xs → ap_seat c xs ≡ Some k →
    due_entry head xs k ≡ Some x → ThreadsEntry head xs c k x
threads_entry head xs c k x lawful a due = go x (due_stands head xs k x due)
  where
    own : Owners xs
    own = owners head xs lawful

    no_walks : (r : Registration) → registration xs ≡ Some r → (d : ℕ) → walk d xs ≡ None
    no_walks r at = (registered (rw at at (kept head xs lawful).registration_kept)).no_walk
      where
        registered : RegistrationKept head r xs → RegistrationKept head r xs
        registered q = q

    no_registration : (d : ℕ) (w : Walk) → walk d xs ≡ Some w → registration xs ≡ None
    no_registration d w at = (walks (rw at at ((kept head xs lawful).at d).kept)).no_registration
      where
        walks : WalkKept head d w xs → WalkKept head d w xs
        walks q = q

    role : role_of k xs ≡ Some (Ap c)
    role = own.ap_role c k a

    not_client : role_of k xs ≡ Some Client → ⊥
    not_client = ap_no_client xs c k own a

    here : (d : ℕ) → ap_seat d xs ≡ Some k → d ≡ c
    here d b = same_cpu d c (sym (own.ap_role d k b) ∙ role)

    by_walk : (seat d s i : ℕ) (dir : Dir) (how : How) → seat ≡ k → InWalk head xs seat d s i dir how → d ≡ c
    by_walk seat d s i dir how same h = at (called_by _ (ap_seat d xs) h.entry.of.seat seat h.caller_is)
      where
        at : (h.entry.of.seat ≡ seat) ⊎ (ap_seat d xs ≡ Some seat) → d ≡ c
        at (inl q) =
            let p = own.walk_op d h.entry.of h.entry.in_flight in
            absurd (not_client (subst (λ z. role_of z xs ≡ Some Client) (p.2 ∙ (q ∙ same)) (own.op_client p.0 p.1)))
        at (inr b) = here d (b ∙ ap Some same)

    by_registration : (seat d s i : ℕ) (dir : Dir) (how : How) → seat ≡ k → InRegistration head xs seat d s i dir how → d ≡ c
    by_registration seat d s i dir how same h = at (called_by _ (ap_seat d xs) h.entry.of.seat seat h.caller_is)
      where
        at : (h.entry.of.seat ≡ seat) ⊎ (ap_seat d xs ≡ Some seat) → d ≡ c
        at (inl q) =
            absurd (not_client (subst (λ z. role_of z xs ≡ Some Client) (q ∙ same) (own.reg_client h.entry.of h.entry.in_flight)))
        at (inr b) = here d (b ∙ ap Some same)

    alone : (seat d s i : ℕ) (dir : Dir) (how : How) → InRegistration head xs seat d s i dir how → (j : ℕ) (y : Event) →
        due_entry head xs j ≡ Some y → y ≡ Call seat d s i dir how
    alone seat d s i dir how h j y due = one y (due_stands head xs j y due)
      where
        one : (y : Event) → Stands head xs y × (is_call y ≡ true) × (seat_of y ≡ j) → y ≡ Call seat d s i dir how
        one (Call seat' d' s' i' dir' how') p = which p.0.0
          where
            which : InWalk head xs seat' d' s' i' dir' how' ⊎ InRegistration head xs seat' d' s' i' dir' how' →
                Call seat' d' s' i' dir' how' ≡ Call seat d s i dir how
            which (inl w) =
                absurd (none_some w.entry.of (sym (no_walks h.entry.of h.entry.in_flight d') ∙ w.entry.in_flight))
            which (inr r) = one_registration_entry head xs seat' seat d' d s' s i' i dir' dir how' how r h
        one y p = absurd (false≢true p.1)

    go : (x : Event) → Stands head xs x × (is_call x ≡ true) × (seat_of x ≡ k) → ThreadsEntry head xs c k x
    go (Call seat d s i dir how) p = which p.0.0
      where
        below : d ≡ c → c < head.possible
        below same = subst (λ z. z < head.possible) same (call_below head xs seat d s i dir how lawful p.0.0)

        which : InWalk head xs seat d s i dir how ⊎ InRegistration head xs seat d s i dir how →
            ThreadsEntry head xs c k (Call seat d s i dir how)
        which (inl w) =
            let same = by_walk seat d s i dir how p.2 w in
            record {
              on = same;
              below = below same;
              either =
                  inl (record {
                    of = w.entry.of;
                    in_flight = subst (λ z. walk z xs ≡ Some w.entry.of) same w.entry.in_flight;
                    no_registration = no_registration d w.entry.of w.entry.in_flight;
                  });
            }
        which (inr r) =
            let same = by_registration seat d s i dir how p.2 r in
            record {
              on = same;
              below = below same;
              either = inr (record { of = r.entry.of; in_flight = r.entry.in_flight; alone = alone seat d s i dir how r });
            }
    go x p = absurd (false≢true p.1)

-- what an event of another seat makes due from a thread is of the processor whose walk it goes on with; or it is all that is due
pub thread_freed : (head : Head) (xs : List Event) (e : Event) (c k : ℕ) (x : Event) → IsLawful head xs → Stands head xs e →
    seat_of e ≢ k → ap_seat c xs ≡ Some k → due_entry head xs k ≡ None → due_entry head (xs ++ e ∷ []) k ≡ Some x →
    ((registration (xs ++ e ∷ []) ≡ None) × (moves c e ≡ true)) ⊎ IsAllDue head (xs ++ e ∷ []) x
thread_freed head xs e c k x lawful stands other a none due =
    go (threads_entry head ys c k x (lawful_more head xs e lawful stands) (thread_on head xs e c k stands.0 other a) due).either
  where
    ys : List Event
    ys = xs ++ e ∷ []

    moved : (w : Walk) → walk c ys ≡ Some w → (b : Bool) → moves c e ≡ b → b ≡ true
    moved w at true m = refl
    moved w at false m =
        absurd (false≢true (sym (ap is_some none) ∙ (sym (walk_due head xs e c k w lawful stands other a at m) ∙ ap is_some due)))

    go : IsInWalk ys c ⊎ IsAllDue head ys x → ((registration ys ≡ None) × (moves c e ≡ true)) ⊎ IsAllDue head ys x
    go (inl p) = inl (p.no_registration, moved p.of p.in_flight (moves c e) refl)
    go (inr alone) = inr alone
