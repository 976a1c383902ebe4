-- One event more keeps what a sequence has done and has still to do.
use Rattle.std.proofs.Common.{◌≡◌, ℕ, ◌+◌, ◌<◌, ◌≤◌, Bool, true, false, cond, not, ◌&&◌, eqb, ltb, is_some, Some, None, List, [], ◌∷◌, ◌++◌, refl, ap, sym, ◌∙◌, subst, arith, append_assoc}
use Rattle.std.specs.Prelude.{pos}
use Rattle.std.proofs.lemmas.List.{append-nil}
use Rattle.std.proofs.lemmas.List.Elements.{filter-append}
use Rattle.std.proofs.lemmas.Bool.{false≢true, eqb-true, eq-eqb, lt-ltb, ltb-true, ltb-false}
use Rattle.hp_states.proofs.Basics.{none_some, same_some}
use Rattle.hp_event.specs.Leaves.{leaves_at}
use Rattle.hp_event.specs.declared.op.Op.{Op}
use Rattle.hp_event.specs.declared.op.Op.TheVariants.{Boot, Freeze, Thaw}
use Rattle.hp_event.specs.declared.answer.Answer.{Answer}
use Rattle.hp_event.specs.declared.answer.Answer.TheVariants.{Ok, Fault, Stuck}
use Rattle.hp_event.specs.declared.head.Head.{Head}
use Rattle.hp_event.specs.declared.event.Event.{Event}
use Rattle.hp_event.specs.declared.event.Event.TheVariants.{Enter, WalkBegin, WalkEnd}
use Rattle.hp_model.specs.Lists.{occurs, among, without}
use Rattle.hp_model.specs.Walks.{Walk, walk, walk_entries, walking, is_walking}
use Rattle.hp_model.specs.Batch.{is_upmany}
use Rattle.hp_model.specs.MapLock.{Operation, operation}
use Rattle.hp_model.specs.Registered.{keys}
use Rattle.hp_model.specs.Plan.{direction, plan}
use Rattle.hp_model.specs.WalkShape.{Outcome, went, returned, stopped, IsWalkShape, IsAnswer}
use Rattle.hp_model.specs.Settled.{settled, left_at}
use Rattle.hp_model.specs.Suspend.{is_ok, is_freeze, held_by, frozen}
use Rattle.hp_model.specs.Sequence.{begun, answers, failures}
use Rattle.hp_model.specs.StandsOperations.{WalkBegins, WalkEnds}
use Rattle.hp_model.proofs.Counts.{occurs-append}
use Rattle.hp_model.proofs.Laws.{walking_push, begun_push, answers_push, frozen_push, settled_push, walk_push}
use Rattle.hp_model.proofs.InFlight.{empty_of, walking_is}
use Rattle.hp_model.proofs.Kept.{WalkKept, Kept}
use Rattle.hp_model.proofs.Operations.{once_in, in_filter}
use Rattle.hp_model.proofs.Owners.{alone_at}
use Rattle.hp_suspend.proofs.Rows.{Once, zip_push, zip_in, apart}
use Rattle.hp_suspend.proofs.Stuck.{FaultsCome, stuck_between}
use Rattle.hp_suspend.proofs.Sequenced.{walks_many, walks_from, aim, concerned, task, Left, Recording, InSequence, IsSingle}
use Rattle.hp_suspend.proofs.Todo.{undone_is, todo_is, Gives, gives}

-- an event that leaves a sequence alone
pub record Calm (xs ys : List Event) : Type 0 where
  pub walking_same : walking ys ≡ walking xs
  pub begun_same : begun ys ≡ begun xs
  pub answers_same : answers ys ≡ answers xs
  pub frozen_same : frozen ys ≡ frozen xs
  pub settled_same : (c : ℕ) → settled c ys ≡ settled c xs
  pub walk_same : (c : ℕ) → walk c ys ≡ walk c xs

recording_same : (t d : List ℕ) (xs ys : List Event) → frozen ys ≡ frozen xs → answers ys ≡ answers xs →
    ((c : ℕ) (w : Walk) → walk c ys ≡ Some w → failures (answers xs) ≡ []) → Recording t d xs → Recording t d ys
recording_same t d xs ys f a going r = record {
  more = r.more;
  front = rw f r.front;
  whole = λ h. f ∙ r.whole (rw a at h);
  going = λ c w q. ap failures a ∙ going c w q;
}

pub calm_in : (head : Head) (op : Op) (entered xs ys : List Event) → Calm xs ys → InSequence head op entered xs →
    InSequence head op entered ys
calm_in head op entered xs ys m k = record {
  done = k.done;
  rest = k.rest;
  task_is = rw m.walking_same k.task_is;
  begun_is = rw (m.begun_same, m.walking_same) k.begun_is;
  unchanged = λ c h. m.settled_same c ∙ k.unchanged c h;
  left =
      rw m.answers_same
      (zip_in (λ c answer. Left op (walks_from op (settled c xs)) answer) (λ c answer. Left op (walks_from op (settled c ys)) answer)
      k.done (answers xs) (λ c answer h l. rw (m.settled_same c) l) k.left);
  aimed = λ c w q. k.aimed c w (rw (m.walk_same c) at q);
  recorded = λ f.
      let r = k.recorded f in
      recording_same (task head op entered) k.done xs ys m.frozen_same m.answers_same
      (λ c w q. r.going c w (rw (m.walk_same c) at q)) r;
  kept = λ f. m.frozen_same ∙ k.kept f;
}

-- where an operation enters, nothing of it is done
pub enter_in : (head : Head) (xs : List Event) (seat : ℕ) (op : Op) → walking xs ≡ [] → ((c : ℕ) → walk c xs ≡ None) →
    InSequence head op xs (xs ++ Enter seat op ∷ [])
enter_in head xs seat op rests still = record {
  done = [];
  rest = task head op xs;
  task_is = rw now refl;
  begun_is = begun_push xs e ∙ sym now;
  unchanged = λ c h. settled_push c xs e;
  left = rw (answers_push xs e) tt;
  aimed = λ c w q. absurd (none_some w (no_walk c w q));
  recorded = λ f. record {
    more = task head op xs;
    front = rw (empties f) refl;
    whole = λ h. empties f;
    going = λ c w q. ap failures (answers_push xs e);
  };
  kept = λ f. frozen_push xs e ∙ ap (λ b. cond b [] (frozen xs)) f;
}
  where
    e : Event
    e = Enter seat op

    now : walking (xs ++ Enter seat op ∷ []) ≡ []
    now = walking_push xs (Enter seat op) ∙ rests

    no_walk : (c : ℕ) (w : Walk) → walk c (xs ++ Enter seat op ∷ []) ≡ Some w → None ≡ Some w
    no_walk c w q = sym (walk_push c xs (Enter seat op) ∙ still c) ∙ q

    empties : is_freeze op ≡ true → frozen (xs ++ Enter seat op ∷ []) ≡ []
    empties f = frozen_push xs (Enter seat op) ∙ ap (λ b. cond b [] (frozen xs)) f

-- an operation that walks several one after another isn't an upmany
pub many_single : (op : Op) → walks_many op ≡ true → is_upmany op ≡ false
many_single (Op.UpMany set) m = absurd (false≢true m)
many_single op m = refl

-- where a walk begins, it is that of the first that is left
pub begin_in : (head : Head) (xs : List Event) (seat cpu from to : ℕ) (h : WalkBegins head xs seat cpu from to) →
    walks_many h.of.op ≡ true → Once (task head h.of.op h.of.before) → InSequence head h.of.op h.of.before xs →
    InSequence head h.of.op h.of.before (xs ++ WalkBegin seat cpu from to ∷ [])
begin_in head xs seat cpu from to h many once k =
    let op : Op = h.of.op in
    let entered : List Event = h.of.before in
    let e : Event = WalkBegin seat cpu from to in
    let rests : walking xs ≡ [] = empty_of (walking xs) (alone_at (is_upmany h.of.op) (is_walking xs) h.between (many_single h.of.op many)) in
    let u = undone_is head op entered xs once rests k in
    let g : Gives op k.rest xs cpu to =
    gives head op entered xs k.rest cpu to many (todo_is head op entered xs once rests k) h.gives
    in
    let now : walking (xs ++ e ∷ []) ≡ cpu ∷ [] = walking_push xs e ∙ ap (λ z. without cpu z ++ cpu ∷ []) rests in
    record {
      done = k.done;
      rest = g.tail;
      task_is = rw now (u.1 ∙ ap (λ z. k.done ++ z) g.rest_is);
      begun_is = begun_push xs e ∙ rw now (ap (λ z. z ++ cpu ∷ []) u.0);
      unchanged = λ c h. settled_push c xs e ∙ k.unchanged c h;
      left =
          rw (answers_push xs e)
          (zip_in (λ c answer. Left op (walks_from op (settled c xs)) answer)
          (λ c answer. Left op (walks_from op (settled c (xs ++ e ∷ []))) answer) k.done (answers xs)
          (λ c answer h l. rw (settled_push c xs e) l) k.left);
      aimed = λ c w q. aims op g.to_is k.aimed c w (eqb cpu c) (rw (walk_push c xs e) at q);
      recorded = λ f.
          recording_same (task head op entered) k.done xs (xs ++ e ∷ []) (frozen_push xs e) (answers_push xs e)
          (λ c w q. g.no_failure f) (k.recorded f);
      kept = λ f. frozen_push xs e ∙ k.kept f;
    }
  where
    n : Walk
    n = record { seat = seat; from = from; to = to; before = xs }

    aims : (op : Op) → to ≡ aim op → ((c : ℕ) (w : Walk) → walk c xs ≡ Some w → w.to ≡ aim op) → (c : ℕ) (w : Walk) (b : Bool) →
        cond b (Some n) (walk c xs) ≡ Some w → w.to ≡ aim op
    aims op t k c w true q = sym (ap (λ z. z.to) (same_some n w q)) ∙ t
    aims op t k c w false q = k c w q

-- how a walk of a sequence ends
data Ending (answer : Answer) (from to : ℕ) : Type 0 where
  there : answer ≡ Ok (pos 0) → Ending answer from to
  again : (code : ℕ) → answer ≡ Fault code → Ending answer from to
  between : (first second at : ℕ) → answer ≡ Stuck first second at → (from < to → (100 < at) × (at < to)) → Ending answer from to

ending : (head : Head) (xs : List Event) (seat cpu : ℕ) (answer : Answer) (h : WalkEnds head xs seat cpu answer) → FaultsCome xs →
    Ending answer h.of.from h.of.to
ending head xs seat cpu answer h come = go h.whole.outcome h.whole.answered h.whole.shape
  where
    K : ℕ → List ℕ
    K = keys head h.of.before

    go : (o : Outcome) → IsAnswer o (walk_entries cpu xs) answer →
        IsWalkShape K (direction h.of.from h.of.to) (plan K h.of.from h.of.to) h.whole.crossings o → Ending answer h.of.from h.of.to
    go went a s = there a
    go returned a s = again a.0 a.2
    go (stopped at) a s =
        between a.0 a.1 at a.3
        (λ l. stuck_between cpu K h.of.from h.of.to at h.whole.crossings (walk_entries cpu xs) l s h.whole.filled
        (λ e m. come cpu h.of h.in_flight e m))

-- and where it leaves its processor
leaves : (op : Op) (answer : Answer) (from to : ℕ) → walks_many op ≡ true → to ≡ aim op → walks_from op from ≡ true →
    Ending answer from to → Left op (walks_from op (leaves_at answer to from)) answer
leaves (Freeze p) answer from to m t w (there a) = rw (a, t) (λ h. refl)
leaves (Freeze p) answer from to m t w (again code a) = rw a (λ h. absurd (false≢true h))
leaves (Freeze p) answer from to m t w (between e s at a b) = rw a (λ h. absurd (false≢true h))
leaves Thaw answer from to m t w (there a) = rw (a, t) refl
leaves Thaw answer from to m t w (again code a) = rw a w
leaves Thaw answer from to m t w (between e s at a b) =
    let l : from < 200 = ltb-true from 200 w in
    let r = b (rw t l) in
    let below : at < 200 = rw t at r.1 in
    rw a (lt-ltb at 200 below)
leaves (Boot n) answer from to m t w (there a) = rw (a, t) refl
leaves (Boot n) answer from to m t w (again code a) = rw a w
leaves (Boot n) answer from to m t w (between e s at a b) =
    let l : from ≤ 100 = ltb-false 100 from (off (ltb 100 from) w) in
    let r = b (rw t (omega arith)) in
    rw (a, lt-ltb 100 at r.0) refl
  where
    off : (b : Bool) → not b ≡ true → b ≡ false
    off true h = absurd (false≢true h)
    off false h = refl
leaves op answer from to m t w h = absurd (false≢true m)

-- the one processor that walks
single_of : (cpu : ℕ) (ws : List ℕ) → IsSingle ws → among cpu ws ≡ true → ws ≡ cpu ∷ []
single_of cpu [] s h = absurd (false≢true h)
single_of cpu (c ∷ []) s h = go (eqb c cpu) refl h
  where
    go : (b : Bool) → eqb c cpu ≡ b → ltb 0 (cond b 1 0 + 0) ≡ true → c ∷ [] ≡ cpu ∷ []
    go true e h = ap (λ z. z ∷ []) (eqb-true c cpu e)
    go false e h = absurd (false≢true h)
single_of cpu (c ∷ (d ∷ ws)) s h = absurd s

not_in_flight : (ys : List Event) → walking ys ≡ [] → (c : ℕ) (w : Walk) → walk c ys ≡ Some w → ⊥
not_in_flight ys e c w q = false≢true (sym (ap (among c) e) ∙ walking_is c ys ∙ ap is_some q)

failures_more : (xs : List Event) (seat cpu : ℕ) (answer : Answer) → is_ok answer ≡ false →
    failures (answers (xs ++ WalkEnd seat cpu answer ∷ [])) ≡ [] → ⊥
failures_more xs seat cpu answer bad h =
    go (failures (answers xs))
    (sym (filter-append (λ x. not (is_ok x)) (answers xs) (answer ∷ []) ∙ (rw bad refl))
    ∙ (sym (ap failures (answers_push xs (WalkEnd seat cpu answer))) ∙ h))
  where
    go : (zs : List Answer) → zs ++ answer ∷ [] ≡ [] → ⊥
    go [] e = cc
    go (z ∷ zs) e = cc

-- where a walk ends, its processor is done
pub end_in : (head : Head) (xs : List Event) (seat cpu : ℕ) (answer : Answer) (o : Operation) → WalkEnds head xs seat cpu answer →
    operation xs ≡ Some o → walks_many o.op ≡ true → Once (task head o.op o.before) → Kept head xs → IsSingle (walking xs) →
    FaultsCome xs → InSequence head o.op o.before xs →
    InSequence head o.op o.before (xs ++ WalkEnd seat cpu answer ∷ [])
end_in head xs seat cpu answer o h held many once kept single come k =
    let e : Event = WalkEnd seat cpu answer in
    let kw : WalkKept head cpu h.of xs = rw h.in_flight at (kept.at cpu).kept in
    let walks : walking xs ≡ cpu ∷ [] =
    single_of cpu (walking xs) single (walking_is cpu xs ∙ ap is_some h.in_flight)
    in
    let now : walking (xs ++ e ∷ []) ≡ [] = walking_push xs e ∙ (ap (without cpu) walks ∙ rw self refl) in
    let t : task head o.op o.before ≡ k.done ++ cpu ∷ k.rest = rw walks at k.task_is in
    let t2 : task head o.op o.before ≡ (k.done ++ cpu ∷ []) ++ k.rest = t ∙ sym (append_assoc k.done (cpu ∷ []) k.rest) in
    let fresh : occurs cpu k.done ≡ 0 = apart k.done (cpu ∷ k.rest) cpu (subst Once t once) (once_in cpu k.rest) in
    let stands : settled cpu xs ≡ settled cpu o.before = k.unchanged cpu fresh in
    let inside : 0 < occurs cpu (task head o.op o.before) =
    rw (t, occurs-append cpu k.done (cpu ∷ k.rest)) (let i = once_in cpu k.rest in omega arith)
    in
    let was : walks_from o.op (settled cpu o.before) ≡ true =
    (in_filter (λ c. walks_from o.op (settled c o.before)) cpu (concerned head o.op o.before) inside).0
    in
    let from_now : h.of.from ≡ settled cpu xs = kw.from_is ∙ sym kw.settled_same in
    let to_is : h.of.to ≡ aim o.op = k.aimed cpu h.of h.in_flight in
    let leaving : settled cpu (xs ++ e ∷ []) ≡ leaves_at answer h.of.to h.of.from =
    settled_push cpu xs e ∙ (rw (self, h.in_flight) (ap (leaves_at answer h.of.to) (sym from_now)))
    in
    let last : Left o.op (walks_from o.op (settled cpu (xs ++ e ∷ []))) answer =
    rw leaving
    (leaves o.op answer h.of.from h.of.to many to_is (rw (from_now, stands) was) (ending head xs seat cpu answer h come))
    in
    record {
      done = k.done ++ cpu ∷ [];
      rest = k.rest;
      task_is = rw now t2;
      begun_is = begun_push xs e ∙ (k.begun_is ∙ (rw (walks, now) (sym (append-nil (k.done ++ cpu ∷ [])))));
      unchanged = λ c z.
          let n = rw (occurs-append c k.done (cpu ∷ [])) at z in
          settled_push c xs e
          ∙ (other c (eqb cpu c) (settled c xs) n ∙ k.unchanged c (omega arith));
      left =
          rw (answers_push xs e)
          (zip_push (λ c answer. Left o.op (walks_from o.op (settled c (xs ++ e ∷ []))) answer) k.done (answers xs) cpu answer
          (zip_in (λ c answer. Left o.op (walks_from o.op (settled c xs)) answer)
          (λ c answer. Left o.op (walks_from o.op (settled c (xs ++ e ∷ []))) answer) k.done (answers xs)
          (λ c answer z l. rw (same c fresh z) l) k.left)
          last);
      aimed = λ c w q. absurd (not_in_flight (xs ++ e ∷ []) now c w q);
      recorded = λ f. records o.op f t t2 now (k.recorded f) (ap (held_by is_freeze) held);
      kept = λ f.
          frozen_push xs e
          ∙ (ap (λ b. cond (b && is_ok answer) (frozen xs ++ cpu ∷ []) (frozen xs)) (ap (held_by is_freeze) held ∙ f) ∙ k.kept f);
    }
  where
    self : eqb cpu cpu ≡ true
    self = eq-eqb cpu cpu refl

    other : (c : ℕ) (b : Bool) (n : ℕ) → occurs c k.done + (cond b 1 0 + 0) ≡ 0 →
        ◌≡◌ {A = ℕ} (cond b (left_at answer (walk c xs) n) n) n
    other c true n z = absurd (omega arith)
    other c false n z = refl

    same : (c : ℕ) → occurs cpu k.done ≡ 0 → 0 < occurs c k.done → settled c (xs ++ WalkEnd seat cpu answer ∷ []) ≡ settled c xs
    same c fresh z = settled_push c xs (WalkEnd seat cpu answer) ∙ go (eqb cpu c) refl
      where
        go : (b : Bool) → eqb cpu c ≡ b → ◌≡◌ {A = ℕ} (cond b (left_at answer (walk c xs) (settled c xs)) (settled c xs)) (settled c xs)
        go true e = let z2 : 0 < occurs cpu k.done = rw (eqb-true cpu c e) z in absurd (omega arith)
        go false e = refl

    records : (op : Op) → is_freeze op ≡ true → task head o.op o.before ≡ k.done ++ cpu ∷ k.rest →
        task head o.op o.before ≡ (k.done ++ cpu ∷ []) ++ k.rest → walking (xs ++ WalkEnd seat cpu answer ∷ []) ≡ [] →
        Recording (task head o.op o.before) k.done xs → held_by is_freeze (operation xs) ≡ is_freeze op →
        Recording (task head o.op o.before) (k.done ++ cpu ∷ []) (xs ++ WalkEnd seat cpu answer ∷ [])
    records op f t t2 now r held = go (is_ok answer) refl
      where
        all : frozen xs ≡ k.done
        all = r.whole (r.going cpu h.of h.in_flight)

        after : (b : Bool) → is_ok answer ≡ b →
            frozen (xs ++ WalkEnd seat cpu answer ∷ []) ≡ cond b (k.done ++ cpu ∷ []) k.done
        after b g =
            frozen_push xs (WalkEnd seat cpu answer)
            ∙ (rw (held ∙ f, g, all) refl)

        go : (b : Bool) → is_ok answer ≡ b →
            Recording (task head o.op o.before) (k.done ++ cpu ∷ []) (xs ++ WalkEnd seat cpu answer ∷ [])
        go true g = record {
          more = k.rest;
          front = rw (after true g) t2;
          whole = λ z. after true g;
          going = λ c w q. absurd (not_in_flight (xs ++ WalkEnd seat cpu answer ∷ []) now c w q);
        }
        go false g = record {
          more = cpu ∷ k.rest;
          front = rw (after false g) t;
          whole = λ z. absurd (failures_more xs seat cpu answer g z);
          going = λ c w q. absurd (not_in_flight (xs ++ WalkEnd seat cpu answer ∷ []) now c w q);
        }
