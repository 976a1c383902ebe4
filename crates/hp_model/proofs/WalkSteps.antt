-- One event more of a walk, or one that moves nothing.
use Rattle.std.proofs.Common.{◌≡◌, ℕ, Bool, true, false, eqb, Option, Some, None, List, [], ◌∷◌, ◌++◌, refl, sym, ◌∙◌, subst, arith}
use Rattle.std.proofs.lemmas.Bool.{true≢false, eqb-true, eq-eqb}
use Rattle.hp_states.specs.declared.dir.Dir.{Dir}
use Rattle.hp_states.specs.declared.dir.Dir.TheVariants.{Up, Down}
use Rattle.hp_states.specs.declared.place.Place.TheVariants.{Forward}
use Rattle.hp_event.specs.declared.how.How.{How}
use Rattle.hp_event.specs.declared.answer.Answer.{Answer}
use Rattle.hp_event.specs.declared.head.Head.{Head}
use Rattle.hp_event.specs.declared.event.Event.{Event}
use Rattle.hp_event.specs.declared.event.Event.TheVariants.{WalkBegin, Call, WalkEnd}
use Rattle.hp_model.specs.InForce.{is_done_entry}
use Rattle.hp_model.specs.Crossing.{Slot, Fits, Fill, Begin}
use Rattle.hp_model.specs.Plan.{direction, plan}
use Rattle.hp_model.specs.WalkShape.{Outcome, went, returned, stopped, crossed, IsAnswer}
use Rattle.hp_model.specs.Walks.{Walk, walk_step, walk, entries_step, walk_entries}
use Rattle.hp_model.specs.Registrations.{Registration, registration_step, registration, registration_entries_step, registration_entries}
use Rattle.hp_model.specs.Registered.{Registered, registered_step, registered, keys}
use Rattle.hp_model.specs.Settled.{settled_step, settled, left_at}
use Rattle.hp_model.specs.Processors.{is_present}
use Rattle.hp_model.specs.StandsCalls.{IsOfWalk, InWalk}
use Rattle.hp_model.specs.StandsOperations.{WalkBegins, WalkEnds}
use Rattle.hp_model.proofs.Counts.{done_entries-none, done_entries_push}
use Rattle.hp_model.proofs.Path.{path_nets, plan_path, shape_path, end_of}
use Rattle.hp_model.proofs.Laws.{walk_push, walk_entries_push, registration_push, registration_entries_push, registered_push, settled_push}
use Rattle.hp_model.proofs.Kept.{Balanced, WalkKept, KeptAt, Kept, Unmoved, unmoved, quiet}

pub unmoved_event : (head : Head) (c : ℕ) (xs : List Event) (e : Event) →
    ((w : Option Walk) → walk_step c w xs e ≡ w) →
    ((es : List Event) → entries_step c es xs e ≡ es) →
    ((r : Option Registration) → registration_step r xs e ≡ r) →
    ((n : ℕ) → settled_step c n xs e ≡ n) →
    ((s : ℕ) (f : Option Registered) → registered_step head s f xs e ≡ f) →
    ((s i : ℕ) (d : Dir) → is_done_entry c s i d e ≡ false) →
    Unmoved head c xs (xs ++ e ∷ [])
unmoved_event head c xs e w es r n f k = record {
  walk_same = walk_push c xs e ∙ w (walk c xs);
  entries_same = walk_entries_push c xs e ∙ es (walk_entries c xs);
  registration_same = registration_push xs e ∙ r (registration xs);
  settled_same = settled_push c xs e ∙ n (settled c xs);
  registered_same = λ s. registered_push head s xs e ∙ f s (registered head s xs);
  counts_same = λ s i d. rw (done_entries_push c s i d xs e, k s i d) (omega arith);
}

-- the events that move nothing
pub record IsQuiet (head : Head) (xs : List Event) (e : Event) : Type 0 where
  pub walks : (c : ℕ) (w : Option Walk) → walk_step c w xs e ≡ w
  pub entries : (c : ℕ) (es : List Event) → entries_step c es xs e ≡ es
  pub registrations : (r : Option Registration) → registration_step r xs e ≡ r
  pub registration_entries : (es : List Event) → registration_entries_step es xs e ≡ es
  pub settles : (c n : ℕ) → settled_step c n xs e ≡ n
  pub registers : (s : ℕ) (f : Option Registered) → registered_step head s f xs e ≡ f
  pub counts : (c s i : ℕ) (d : Dir) → is_done_entry c s i d e ≡ false

pub quiet_event : (head : Head) (xs : List Event) (e : Event) → IsQuiet head xs e → Kept head xs → Kept head (xs ++ e ∷ [])
quiet_event head xs e q k =
    quiet head xs (xs ++ e ∷ [])
    (λ c. unmoved_event head c xs e (q.walks c) (q.entries c) q.registrations (q.settles c) q.registers (q.counts c))
    (registration_entries_push xs e ∙ q.registration_entries (registration_entries xs))
    (registration_push xs e ∙ q.registrations (registration xs))
    (λ s. registered_push head s xs e ∙ q.registers s (registered head s xs))
    k

pub begin_unmoved : (head : Head) (c : ℕ) (xs : List Event) (seat cpu from to : ℕ) → eqb cpu c ≡ false →
    Unmoved head c xs (xs ++ WalkBegin seat cpu from to ∷ [])
begin_unmoved head c xs seat cpu from to f =
    unmoved_event head c xs (WalkBegin seat cpu from to) (λ w. rw f refl) (λ es. rw f refl) (λ r. refl) (λ n. refl)
    (λ s g. refl) (λ s i d. refl)

-- an entry at the next slot
pub Begin_next : (front : List Slot) (slot : Slot) (rest : List Slot) (es : List Event) (e : Event) → Fill front es → Fits slot e →
    Begin (front ++ slot ∷ rest) (es ++ e ∷ [])
Begin_next [] slot rest [] e h f = (f, tt)
Begin_next [] slot rest (x ∷ es) e h f = elim h [ ]
Begin_next (y ∷ front) slot rest [] e h f = elim h [ ]
Begin_next (y ∷ front) slot rest (x ∷ es) e h f = (h.0, Begin_next front slot rest es e h.1 f)

pub walk_so_far : (head : Head) (xs : List Event) (seat cpu state inst : ℕ) (dir : Dir) (how : How) →
    (b : InWalk head xs seat cpu state inst dir how) →
    IsOfWalk head cpu b.entry.of (walk_entries cpu xs ++ Call seat cpu state inst dir how ∷ [])
walk_so_far head xs seat cpu state inst dir how b = record {
  outcome = b.entry.outcome;
  crossings = b.entry.crossings;
  shape = b.entry.shape;
  begun =
      rw b.entry.is_next.slots_are
      (Begin_next b.entry.is_next.front b.entry.slot b.entry.is_next.rest (walk_entries cpu xs) (Call seat cpu state inst dir how)
      b.entry.is_next.filled b.entry.fits);
}

pub begin_at : (head : Head) (xs : List Event) (seat cpu from to : ℕ) → WalkBegins head xs seat cpu from to →
    is_present head cpu ≡ true → walk cpu xs ≡ None → registration xs ≡ None → KeptAt head cpu xs → KeptAt head cpu (xs ++ WalkBegin seat cpu from to ∷ [])
begin_at head xs seat cpu from to b present still none k =
    let self : eqb cpu cpu ≡ true = eq-eqb cpu cpu refl in
    let e : Event = WalkBegin seat cpu from to in
    let w : Walk = record { seat = seat; from = from; to = to; before = xs } in
    let at_walk : walk cpu (xs ++ e ∷ []) ≡ Some w = walk_push cpu xs e ∙ rw self refl in
    let no_entries : walk_entries cpu (xs ++ e ∷ []) ≡ [] = walk_entries_push cpu xs e ∙ rw self refl in
    let balanced : Balanced head cpu xs = rw (still, none) at k.kept in
    let kept : WalkKept head cpu w (xs ++ e ∷ []) = record {
      present = present;
      no_registration = registration_push xs e ∙ none;
      from_is = b.from_is;
      settled_same = settled_push cpu xs e;
      registered_same = λ s. registered_push head s xs e;
      balanced = balanced;
      counts = λ s i d. rw (done_entries_push cpu s i d xs e, no_entries, done_entries-none cpu s i d) refl;
      so_far = record {
        outcome = went;
        crossings = crossed Forward (direction from to) (plan (keys head xs) from to);
        shape = refl;
        begun = rw no_entries tt;
      };
    } in
    record { kept = rw at_walk kept; away = λ h. settled_push cpu xs e ∙ k.away h }

-- an event of the walk of one processor
step_on : (head : Head) (xs : List Event) (e : Event) (cpu : ℕ) → KeptAt head cpu (xs ++ e ∷ []) →
    ((c : ℕ) → eqb cpu c ≡ false → Unmoved head c xs (xs ++ e ∷ [])) → registration (xs ++ e ∷ []) ≡ None →
    ((s : ℕ) → registered head s (xs ++ e ∷ []) ≡ registered head s xs) → Kept head xs → Kept head (xs ++ e ∷ [])
step_on head xs e cpu here others none same k = record {
  at = λ c. go c (eqb cpu c) refl;
  registration_kept = rw none tt;
  once = λ s i. rw (same s) (k.once s i);
  none_at_0 = same 0 ∙ k.none_at_0;
}
  where
    go : (c : ℕ) (b : Bool) → eqb cpu c ≡ b → KeptAt head c (xs ++ e ∷ [])
    go c true f = subst (λ z. KeptAt head z (xs ++ e ∷ [])) (eqb-true cpu c f) here
    go c false f = unmoved head c xs (xs ++ e ∷ []) (others c f) (k.at c)

pub begin_step : (head : Head) (xs : List Event) (seat cpu from to : ℕ) → WalkBegins head xs seat cpu from to →
    is_present head cpu ≡ true → walk cpu xs ≡ None → registration xs ≡ None → Kept head xs →
    Kept head (xs ++ WalkBegin seat cpu from to ∷ [])
begin_step head xs seat cpu from to b present still none k =
    let e : Event = WalkBegin seat cpu from to in
    step_on head xs e cpu (begin_at head xs seat cpu from to b present still none (k.at cpu))
    (λ c f. begin_unmoved head c xs seat cpu from to f) (registration_push xs e ∙ none) (λ s. registered_push head s xs e) k

pub call_unmoved : (head : Head) (c : ℕ) (xs : List Event) (seat cpu state inst : ℕ) (dir : Dir) (how : How) → eqb cpu c ≡ false →
    Unmoved head c xs (xs ++ Call seat cpu state inst dir how ∷ [])
call_unmoved head c xs seat cpu state inst dir how f =
    unmoved_event head c xs (Call seat cpu state inst dir how) (λ w. refl) (λ es. rw f refl) (λ r. refl) (λ n. refl)
    (λ s g. refl) (λ s i d. rw f refl)

pub call_at : (head : Head) (xs : List Event) (seat cpu state inst : ℕ) (dir : Dir) (how : How) →
    InWalk head xs seat cpu state inst dir how →
    KeptAt head cpu xs → KeptAt head cpu (xs ++ Call seat cpu state inst dir how ∷ [])
call_at head xs seat cpu state inst dir how b k =
    let self : eqb cpu cpu ≡ true = eq-eqb cpu cpu refl in
    let e : Event = Call seat cpu state inst dir how in
    let w : Walk = b.entry.of in
    let h : WalkKept head cpu w xs = rw b.entry.in_flight at k.kept in
    let at_walk : walk cpu (xs ++ e ∷ []) ≡ Some w = walk_push cpu xs e ∙ b.entry.in_flight in
    let entries : walk_entries cpu (xs ++ e ∷ []) ≡ walk_entries cpu xs ++ e ∷ [] = walk_entries_push cpu xs e ∙ rw self refl in
    let kept : WalkKept head cpu w (xs ++ e ∷ []) = record {
      present = h.present;
      no_registration = registration_push xs e ∙ h.no_registration;
      from_is = h.from_is;
      settled_same = settled_push cpu xs e ∙ h.settled_same;
      registered_same = λ s. registered_push head s xs e ∙ h.registered_same s;
      balanced = h.balanced;
      counts = λ s i d.
          let n = h.counts s i d in
          rw (done_entries_push cpu s i d xs e, entries, done_entries_push cpu s i d (walk_entries cpu xs) e) (omega arith);
      so_far = rw entries (walk_so_far head xs seat cpu state inst dir how b);
    } in
    record { kept = rw at_walk kept; away = λ h. settled_push cpu xs e ∙ k.away h }

pub call_step : (head : Head) (xs : List Event) (seat cpu state inst : ℕ) (dir : Dir) (how : How) →
    InWalk head xs seat cpu state inst dir how →
    Kept head xs → Kept head (xs ++ Call seat cpu state inst dir how ∷ [])
call_step head xs seat cpu state inst dir how b k =
    let e : Event = Call seat cpu state inst dir how in
    let h : WalkKept head cpu b.entry.of xs = rw b.entry.in_flight at (k.at cpu).kept in
    step_on head xs e cpu (call_at head xs seat cpu state inst dir how b (k.at cpu))
    (λ c f. call_unmoved head c xs seat cpu state inst dir how f) (registration_push xs e ∙ h.no_registration)
    (λ s. registered_push head s xs e) k

pub end_unmoved : (head : Head) (c : ℕ) (xs : List Event) (seat cpu : ℕ) (answer : Answer) → eqb cpu c ≡ false →
    Unmoved head c xs (xs ++ WalkEnd seat cpu answer ∷ [])
end_unmoved head c xs seat cpu answer f =
    unmoved_event head c xs (WalkEnd seat cpu answer) (λ w. rw f refl) (λ es. refl) (λ r. refl) (λ n. rw f refl)
    (λ s g. refl) (λ s i d. refl)

-- where an answer leaves a processor is where its walk's outcome does
pub left_at_end : (o : Outcome) (w : Walk) (entries : List Event) (answer : Answer) (n : ℕ) → IsAnswer o entries answer →
    w.from ≡ n → left_at answer (Some w) n ≡ end_of o w.from w.to
left_at_end went w entries answer n h f = rw h refl
left_at_end returned w entries answer n h f = rw h.2 (sym f)
left_at_end (stopped at) w entries answer n h f = rw h.3 refl

pub end_at : (head : Head) (xs : List Event) (seat cpu : ℕ) (answer : Answer) → WalkEnds head xs seat cpu answer →
    KeptAt head cpu xs → KeptAt head cpu (xs ++ WalkEnd seat cpu answer ∷ [])
end_at head xs seat cpu answer b k =
    let self : eqb cpu cpu ≡ true = eq-eqb cpu cpu refl in
    let e : Event = WalkEnd seat cpu answer in
    let w : Walk = b.of in
    let h : WalkKept head cpu w xs = rw b.in_flight at k.kept in
    let from_now : w.from ≡ settled cpu xs = h.from_is ∙ sym h.settled_same in
    let at_rest : walk cpu (xs ++ e ∷ []) ≡ None = walk_push cpu xs e ∙ rw self refl in
    let no_registration : registration (xs ++ e ∷ []) ≡ None = registration_push xs e ∙ h.no_registration in
    let now : settled cpu (xs ++ e ∷ []) ≡ end_of b.whole.outcome w.from w.to =
    settled_push cpu xs e
    ∙ rw (self, b.in_flight)
    (left_at_end b.whole.outcome w (walk_entries cpu xs) answer (settled cpu xs) b.whole.answered from_now)
    in
    let K : ℕ → List ℕ = keys head w.before in
    let path = shape_path K (direction w.from w.to) (plan K w.from w.to) w.from w.to b.whole.crossings b.whole.outcome
    (plan_path K w.from w.to) b.whole.shape
    in
    let balanced : Balanced head cpu (xs ++ e ∷ []) = record {
      at = λ s i.
          let net = path_nets cpu K w.from (end_of b.whole.outcome w.from w.to) b.whole.crossings (walk_entries cpu xs) s i
          path b.whole.filled
          in
          let before = rw (← h.from_is) at (h.balanced.at s i) in
          let up = h.counts s i Up in
          let down = h.counts s i Down in
          rw (
            done_entries_push cpu s i Up xs e,
            done_entries_push cpu s i Down xs e,
            now,
            registered_push head s xs e,
            h.registered_same s,
          )
          (omega arith);
    } in
    record { kept = rw (at_rest, no_registration) balanced; away = λ a. absurd (true≢false (sym h.present ∙ a)) }

pub end_step : (head : Head) (xs : List Event) (seat cpu : ℕ) (answer : Answer) → WalkEnds head xs seat cpu answer →
    Kept head xs → Kept head (xs ++ WalkEnd seat cpu answer ∷ [])
end_step head xs seat cpu answer b k =
    let e : Event = WalkEnd seat cpu answer in
    let h : WalkKept head cpu b.of xs = rw b.in_flight at (k.at cpu).kept in
    step_on head xs e cpu (end_at head xs seat cpu answer b (k.at cpu)) (λ c f. end_unmoved head c xs seat cpu answer f)
    (registration_push xs e ∙ h.no_registration) (λ s. registered_push head s xs e) k
