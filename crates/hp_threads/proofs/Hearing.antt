-- The passes of a run hear of all that came in: each has seen just the admissions then.
use Rattle.std.proofs.Common.{◌≡◌, ℕ, suc, ◌+◌, true, false, ◌||◌, All, is_some, Some, List, [], ◌∷◌, ◌++◌, map, length, refl, sym, ap, ◌∙◌, subst, arith, append_assoc, length-append}
use Rattle.std.proofs.lemmas.List.{append-nil, length-map, map-append}
use Rattle.std.proofs.lemmas.List.Elements.{All-nil, All-cons, All-head, All-tail, All-append, All-weaker}
use mathlib.Core.List.{IsPrefix}
use Rattle.atomic_table.specs.Seated.{TableId}
use Rattle.hp_account.specs.TableChanges.{is_setup}
use Rattle.hp_actors.specs.Actors.{AreLoaded}
use Rattle.hp_actors.specs.Positions.{op_of}
use Rattle.hp_board.specs.declared.turn.Ask.{Ask}
use Rattle.hp_event.specs.declared.event.Event.{Event}
use Rattle.hp_event.specs.declared.event.Role.{Role}
use Rattle.hp_event.specs.declared.event.Role.TheVariants.{Ap}
use Rattle.hp_event.specs.declared.head.Head.{Head}
use Rattle.hp_event.specs.declared.op.Op.{Op}
use Rattle.hp_model.specs.Admissions.{admissions}
use Rattle.hp_model.specs.Front.{StandsFor}
use Rattle.hp_model.specs.Lawful.{IsLawful}
use Rattle.hp_model.specs.Processors.{present}
use Rattle.hp_model.specs.Registrations.{registration}
use Rattle.hp_model.specs.Scripts.{IsScript, is_locked}
use Rattle.hp_model.specs.Seats.{admits, holds_map, is_busy, registers}
use Rattle.hp_model.specs.Subsystems.{names_sub}
use Rattle.hp_model.proofs.Roster.{operation_first, registration_first}
use Rattle.hp_script.specs.Script.{Contents}
use Rattle.hp_turn.proofs.Prefixes.{prefix_trans}
use Rattle.hp_live.specs.Known.{IsOf, Known, Seated}
use Rattle.hp_live.specs.declared.hotplug.Hotplug.{Hotplug}
use Rattle.hp_live.proofs.Fronts.{longer_prefix}
use Rattle.hp_threads.specs.declared.job.Job.{Job}
use Rattle.hp_threads.specs.Admitting.{CameIn, HasHeard, HaveEntered, HaveHeard, IsSeated, asks_in, client_of, pass_in}
use Rattle.hp_threads.specs.Jobs.{CanAct, CanServe, IsReady}
use Rattle.hp_threads.specs.Journals.{first_of, threads_of}
use Rattle.hp_threads.specs.Loaded.{IsLoaded, ops_in}
use Rattle.hp_threads.specs.Opened.{AreSeatedFrom, IsOpened}
use Rattle.hp_threads.proofs.Opening.{IsOpening, SeatsFrom, admits_from, came_append, came_each, came_prefix, from_zero, opening, script_admissions}

-- ---- they hear

heard_more : (front : List Event) (before after : List Seated) (b a : Seated) → HaveHeard front before after → HasHeard front b a →
    HaveHeard front (before ++ b ∷ []) (after ++ a ∷ [])
heard_more front [] [] b a all one = (one, tt)
heard_more front (x ∷ before) (y ∷ after) b a all one = (all.0, heard_more front before after b a all.1 one)
heard_more front [] (y ∷ after) b a all one = absurd all
heard_more front (x ∷ before) [] b a all one = absurd all

pub record Telling (front : List Event) (all left told : List Seated) : Type 0 where
  pub done : List Seated
  pub whole : done ++ left ≡ all
  pub have : HaveHeard front done told

pub telling_none : (front : List Event) (all left : List Seated) → left ≡ all → Telling front all left []
telling_none front all left is = record { done = []; whole = is; have = tt }

pub telling_one : (front : List Event) (all before after told more : List Seated) (b a : Seated) → before ≡ b ∷ after →
    more ≡ told ++ a ∷ [] → Telling front all before told → HasHeard front b a → Telling front all after more
telling_one front all before after told more b a is grown t one =
    record {
      done = t.done ++ b ∷ [];
      whole = append_assoc t.done (b ∷ []) after ∙ ap (λ (w : List Seated). t.done ++ w) (sym is) ∙ t.whole;
      have = subst (HaveHeard front (t.done ++ b ∷ [])) (sym grown) (heard_more front t.done told b a t.have one);
    }

pub telling_all : (front : List Event) (all left told : List Seated) → left ≡ [] → Telling front all left told → HaveHeard front all told
telling_all front all left told none t =
    subst (λ (w : List Seated). HaveHeard front w told)
    (sym (append-nil t.done) ∙ ap (λ (w : List Seated). t.done ++ w) (sym none) ∙ t.whole) t.have

-- their operations stay with them
pub asks_one : {H : Type 0} (all before after told more : List (Job H)) (job heard : Job H) → before ≡ job ∷ after →
    more ≡ told ++ heard ∷ [] → heard.asks.items ≡ job.asks.items → (map asks_in told ++ map asks_in before) ≡ map asks_in all →
    (map asks_in more ++ map asks_in after) ≡ map asks_in all
asks_one {H} all before after told more job heard is grown same whole =
    ap (λ (w : List (Job H)). map asks_in w ++ map asks_in after) grown
    ∙ ap (λ (w : List (List (Ask H))). w ++ map asks_in after) (map-append asks_in told (heard ∷ []))
    ∙ append_assoc (map asks_in told) (heard.asks.items ∷ []) (map asks_in after)
    ∙ ap (λ (w : List (Ask H)). map asks_in told ++ w ∷ map asks_in after) same
    ∙ ap (λ (w : List (Job H)). map asks_in told ++ map asks_in w) (sym is) ∙ whole

pub asks_all : {H : Type 0} (all left told : List (Job H)) → left ≡ [] → (map asks_in told ++ map asks_in left) ≡ map asks_in all →
    map asks_in told ≡ map asks_in all
asks_all {H} all left told none whole =
    sym (append-nil (map asks_in told)) ∙ ap (λ (w : List (Job H)). map asks_in told ++ map asks_in w) (sym none) ∙ whole

-- ---- what each has seen then

abbrev Begins : List Event → Seated → Type 0
Begins front pass = IsPrefix pass.front front

abbrev StandsAt : List Event → Seated → Type 0
StandsAt front pass = StandsFor (Some pass.seat) pass.front front

heard_front : (front : List Event) (b a : Seated) → IsPrefix b.front front → HasHeard front b a → a.front ≡ front
heard_front front b a p h = h.front_is ∙ longer_prefix b.front front p

heard_stands : (front : List Event) (before after : List Seated) → All (Begins front) before → HaveHeard front before after →
    All (StandsAt front) before
heard_stands front [] [] begin heard = All-nil (StandsAt front)
heard_stands front (b ∷ before) (a ∷ after) begin heard =
    All-cons (StandsAt front) b before
    (subst (λ (w : List Event). StandsFor (Some b.seat) b.front w) (heard_front front b a (All-head (Begins front) b before begin) heard.0)
    heard.0.knew)
    (heard_stands front before after (All-tail (Begins front) b before begin) heard.1)
heard_stands front [] (a ∷ after) begin heard = absurd heard
heard_stands front (b ∷ before) [] begin heard = absurd heard

-- what is known of the root, as the passes come from it
pub record IsHeld (script : Contents) (lock : TableId) (head : Head) (front : List Event) : Type 0 where
  pub head_is : head ≡ script.head
  pub front_is : front ≡ first_of script

all_seated : (script : Contents) (lock : TableId) (head : Head) (front : List Event) (k : ℕ) (before after : List Seated) →
    IsHeld script lock head front → All (IsSeated lock head) before → All (Begins front) before → SeatsFrom k before →
    HaveHeard front before after → AreSeatedFrom script k after
all_seated script lock head front k [] [] held seated begin seats heard = tt
all_seated script lock head front k (b ∷ before) (a ∷ after) held seated begin seats heard = (
  record {
    seat_is = heard.0.same.seat ∙ seats.0;
    head_is = heard.0.same.head ∙ (All-head (IsSeated lock head) b before seated).head_is ∙ held.head_is;
    front_is = heard_front front b a (All-head (Begins front) b before begin) heard.0 ∙ held.front_is;
  },
  all_seated script lock head front (k + 1) before after held (All-tail (IsSeated lock head) b before seated)
      (All-tail (Begins front) b before begin) seats.1 heard.1,
)
all_seated script lock head front k [] (a ∷ after) held seated begin seats heard = absurd heard
all_seated script lock head front k (b ∷ before) [] held seated begin seats heard = absurd heard

all_serve : {H : Type 0} (machine : Hotplug H) (lock : TableId) (head : Head) (front : List Event) (before after : List Seated) →
    IsOf machine lock → All (IsSeated lock head) before → HaveHeard front before after → All (CanServe machine) after
all_serve machine lock head front [] [] own seated heard = All-nil (CanServe machine)
all_serve machine lock head front (b ∷ before) (a ∷ after) own seated heard =
    All-cons (CanServe machine) a after
    (record {
      own = heard.0.same.lock ∙ (All-head (IsSeated lock head) b before seated).lock_is ∙ own;
      nothing = heard.0.nothing;
    })
    (all_serve machine lock head front before after own (All-tail (IsSeated lock head) b before seated) heard.1)
all_serve machine lock head front [] (a ∷ after) own seated heard = absurd heard
all_serve machine lock head front (b ∷ before) [] own seated heard = absurd heard

-- ---- the actors

first_same : {A : Type 0} (x y : A) (xs ys : List A) → (x ∷ xs) ≡ (y ∷ ys) → x ≡ y
first_same x y xs ys e = cc e

rest_same : {A : Type 0} (x y : A) (xs ys : List A) → (x ∷ xs) ≡ (y ∷ ys) → xs ≡ ys
rest_same x y xs ys e = cc e

-- nothing is in flight after the admissions
idle_first : (head : Head) (actors : List (List Op)) (k : ℕ) → is_busy k (admissions head actors) ≡ false
idle_first head actors k =
    ap (λ o. holds_map k o || registers k (registration (admissions head actors))) (operation_first head actors)
    ∙ ap (registers k) (registration_first head actors)

abbrev HasSubs : Head → List Op → Type 0
HasSubs head ops = All (λ op. names_sub head op ≡ true) ops

abbrev EndsOut : List Op → Type 0
EndsOut ops = is_locked ops ≡ false

all_ready : {H : Type 0} (head : Head) (asks : List (Ask H)) → HasSubs head (map op_of asks) → AreLoaded asks → All (IsReady head) asks
all_ready head [] subs loaded = All-nil (IsReady head)
all_ready {H} head (ask ∷ asks) subs loaded =
    All-cons (IsReady head) ask asks
    (record {
      has_sub = All-head (λ op. names_sub head op ≡ true) ask.op (map op_of asks) subs;
      loaded = All-head (λ (a : Ask H). is_some a.hook ≡ is_setup a.op) ask asks loaded;
    })
    (all_ready head asks (All-tail (λ op. names_sub head op ≡ true) ask.op (map op_of asks) subs)
    (All-tail (λ (a : Ask H). is_some a.hook ≡ is_setup a.op) ask asks loaded))

-- what is so of an actor's operations
record Plays {H : Type 0} (head : Head) (asks : List (Ask H)) : Type 0 where
  subs : HasSubs head (map op_of asks)
  loaded : AreLoaded asks
  out : EndsOut (map op_of asks)

all_act : {H : Type 0} (machine : Hotplug H) (script : Contents) (lock : TableId) (head : Head) (front : List Event) (k : ℕ)
    (before : List Seated) (jobs : List (Job H)) → IsOf machine lock → All (IsSeated lock head) before →
    HaveHeard front before (map pass_in jobs) → AreSeatedFrom script k (map pass_in jobs) →
    All (λ job. Plays script.head job.asks.items) jobs → All (CanAct machine) jobs
all_act machine script lock head front k [] [] own seated heard at plays = All-nil (CanAct machine)
all_act {H} machine script lock head front k (b ∷ before) (job ∷ jobs) own seated heard at plays =
    let p = All-head (λ (j : Job H). Plays script.head j.asks.items) job jobs plays in
    All-cons (CanAct machine) job jobs
    (record {
      own = heard.0.same.lock ∙ (All-head (IsSeated lock head) b before seated).lock_is ∙ own;
      idle =
          subst (λ (w : List Event). is_busy job.pass.seat w ≡ false) (sym at.0.front_is)
          (idle_first script.head script.actors job.pass.seat);
      nothing = heard.0.nothing;
      ready =
          subst (λ (h : Head). All (IsReady h) job.asks.items) (sym at.0.head_is)
          (all_ready script.head job.asks.items p.subs p.loaded);
      unlocked = p.out;
    })
    (all_act machine script lock head front (k + 1) before jobs own (All-tail (IsSeated lock head) b before seated) heard.1 at.1
    (All-tail (λ (j : Job H). Plays script.head j.asks.items) job jobs plays))
all_act machine script lock head front k [] (job ∷ jobs) own seated heard at plays = absurd heard
all_act machine script lock head front k (b ∷ before) [] own seated heard at plays = absurd heard

-- the jobs that heard have the operations of those that came in
all_play : {H : Type 0} (head : Head) (heard jobs : List (Job H)) → map asks_in heard ≡ map asks_in jobs → All IsLoaded jobs →
    All (HasSubs head) (map ops_in jobs) → All EndsOut (map ops_in jobs) → All (λ job. Plays head job.asks.items) heard
all_play {H} head [] jobs same loaded subs out = All-nil (λ (j : Job H). Plays head j.asks.items)
all_play head (job ∷ heard) [] same loaded subs out = absurd (cc same)
all_play {H} head (job ∷ heard) (had ∷ jobs) same loaded subs out =
    let one : job.asks.items ≡ had.asks.items =
    first_same job.asks.items had.asks.items (map asks_in heard) (map asks_in jobs) same in
    All-cons (λ (j : Job H). Plays head j.asks.items) job heard
    (subst (λ (w : List (Ask H)). Plays head w) (sym one)
    (record {
      subs = All-head (HasSubs head) (ops_in had) (map ops_in jobs) subs;
      loaded = All-head IsLoaded had jobs loaded;
      out = All-head EndsOut (ops_in had) (map ops_in jobs) out;
    }))
    (all_play head heard jobs (rest_same job.asks.items had.asks.items (map asks_in heard) (map asks_in jobs) same)
    (All-tail IsLoaded had jobs loaded) (All-tail (HasSubs head) (ops_in had) (map ops_in jobs) subs)
    (All-tail EndsOut (ops_in had) (map ops_in jobs) out))

same_ops : {H : Type 0} (heard jobs : List (Job H)) → map asks_in heard ≡ map asks_in jobs → map ops_in heard ≡ map ops_in jobs
same_ops [] [] same = refl
same_ops [] (had ∷ jobs) same = absurd (cc same)
same_ops (job ∷ heard) [] same = absurd (cc same)
same_ops {H} (job ∷ heard) (had ∷ jobs) same =
    ap (λ (w : List (Ask H)). map op_of w ∷ map ops_in heard)
    (first_same job.asks.items had.asks.items (map asks_in heard) (map asks_in jobs) same)
    ∙ ap (λ (w : List (List Op)). ops_in had ∷ w)
    (same_ops heard jobs (rest_same job.asks.items had.asks.items (map asks_in heard) (map asks_in jobs) same))

-- ---- all of it

seats_left : (k : ℕ) (xs ys : List Seated) → SeatsFrom k (xs ++ ys) → SeatsFrom k xs
seats_left k [] ys s = tt
seats_left k (x ∷ xs) ys s = (s.0, seats_left (k + 1) xs ys s.1)

seats_right : (k : ℕ) (xs ys : List Seated) → SeatsFrom k (xs ++ ys) → SeatsFrom (k + length xs) ys
seats_right k [] ys s = let e : k ≡ k + 0 = omega arith in subst (λ (n : ℕ). SeatsFrom n ys) e s
seats_right k (x ∷ xs) ys s =
    let e : (k + 1) + length xs ≡ k + suc (length xs) = omega arith in
    subst (λ (n : ℕ). SeatsFrom n ys) e (seats_right (k + 1) xs ys s.1)

came_length : (head : Head) (roles : List Role) (passes : List Seated) (old new : List Event) → CameIn head roles passes old new →
    length passes ≡ length roles
came_length head [] [] old new came = refl
came_length head (role ∷ roles) (pass ∷ passes) old new came = ap suc (came_length head roles passes pass.front new came.1)
came_length head [] (pass ∷ passes) old new came = absurd came
came_length head (role ∷ roles) [] old new came = absurd came

admits_none : admits [] ≡ 0
unfolding admits
admits_none = refl

-- the machine's root before the admissions and after them, what came in, and what heard of it
pub record Opens {H : Type 0} (machine : Hotplug H) (script : Contents) (old mid new : Known) (passes told : List Seated)
    (jobs heard : List (Job H)) : Type 0 where
  pub script_is : IsScript script.head script.actors
  pub own : IsOf machine old.lock
  pub head : old.head ≡ script.head
  pub front : old.front ≡ []
  pub threads : HaveEntered old mid (map Ap (present script.head)) passes
  pub clients : HaveEntered mid new (map client_of script.actors) (map pass_in jobs)
  pub threads_heard : HaveHeard new.front passes told
  pub clients_heard : HaveHeard new.front (map pass_in jobs) (map pass_in heard)
  pub asks : map asks_in heard ≡ map asks_in jobs
  pub ops : map ops_in jobs ≡ script.actors
  pub loaded : All IsLoaded jobs
  pub lawful : IsLawful new.head new.front

pub opened : {H : Type 0} (machine : Hotplug H) (script : Contents) (old mid new : Known) (passes told : List Seated)
    (jobs heard : List (Job H)) → Opens machine script old mid new passes told jobs heard →
    IsOpened machine script new.front told heard
opened {H} machine script old mid new passes told jobs heard o = record {
  front_is = first;
  count = told_count ∙ thread_count;
  seats =
      let c = all.count in
      let n = length-append (map Ap (present script.head)) (map client_of script.actors) in
      let a = length-map (present script.head) Ap in
      let b = length-map script.actors client_of in
      let f = ap admits first in
      let j = job_count in
      let z = admits_none in
      omega (arith, c, n, a, b, f, j, z);
  threads =
      all_seated script old.lock old.head new.front 0 passes told held o.threads.seated begin_threads thread_seats o.threads_heard;
  clients = clients;
  serve = all_serve machine old.lock old.head new.front passes told o.own o.threads.seated o.threads_heard;
  act =
      all_act machine script mid.lock mid.head new.front (threads_of script) (map pass_in jobs) heard (o.threads.lock ∙ o.own)
      o.clients.seated o.clients_heard clients
      (all_play script.head heard jobs o.asks o.loaded
      (subst (All (HasSubs script.head)) (sym o.ops) o.script_is.has_subs) (subst (All EndsOut) (sym o.ops) o.script_is.end_unlocked));
  ops = same_ops heard jobs o.asks ∙ o.ops;
}
  where
    begin_threads : All (Begins new.front) passes
    begin_threads =
        All-weaker (Begins mid.front) (Begins new.front)
        (λ p q. prefix_trans p.front mid.front new.front q
        (came_prefix mid.head (map client_of script.actors) (map pass_in jobs) mid.front new.front o.clients.came))
        passes (came_each old.head (map Ap (present script.head)) passes old.front mid.front o.threads.came)

    begin_clients : All (Begins new.front) (map pass_in jobs)
    begin_clients = came_each mid.head (map client_of script.actors) (map pass_in jobs) mid.front new.front o.clients.came

    came : CameIn script.head (map Ap (present script.head) ++ map client_of script.actors) (passes ++ map pass_in jobs) [] new.front
    came =
        came_append script.head (map Ap (present script.head)) (map client_of script.actors) passes (map pass_in jobs) [] mid.front new.front
        (subst (λ (w : List Event). CameIn script.head (map Ap (present script.head)) passes w mid.front) o.front
        (subst (λ (h : Head). CameIn h (map Ap (present script.head)) passes old.front mid.front) o.head o.threads.came))
        (subst (λ (h : Head). CameIn h (map client_of script.actors) (map pass_in jobs) mid.front new.front) (o.threads.head ∙ o.head)
        o.clients.came)

    head_at : new.head ≡ script.head
    head_at = o.clients.head ∙ o.threads.head ∙ o.head

    all : IsOpening [] new.front (map Ap (present script.head) ++ map client_of script.actors) (passes ++ map pass_in jobs)
    all =
        opening script.head (map Ap (present script.head) ++ map client_of script.actors) (passes ++ map pass_in jobs) [] new.front
        (subst (λ (h : Head). IsLawful h new.front) head_at o.lawful) came
        (λ k below. absurd (omega (arith, admits_none, below)))
        (All-append (StandsAt new.front) passes (map pass_in jobs)
        (heard_stands new.front passes told begin_threads o.threads_heard)
        (heard_stands new.front (map pass_in jobs) (map pass_in heard) begin_clients o.clients_heard))

    first : new.front ≡ first_of script
    first =
        all.events
        ∙ ap (λ (n : ℕ). admits_from n (map Ap (present script.head) ++ map client_of script.actors)) admits_none
        ∙ script_admissions script.head script.actors

    held : IsHeld script old.lock old.head new.front
    held = record { head_is = o.head; front_is = first }

    thread_count : length passes ≡ threads_of script
    thread_count =
        came_length old.head (map Ap (present script.head)) passes old.front mid.front o.threads.came
        ∙ length-map (present script.head) Ap

    heard_length : (front : List Event) (before after : List Seated) → HaveHeard front before after → length after ≡ length before
    heard_length front [] [] h = refl
    heard_length front (b ∷ before) (a ∷ after) h = ap suc (heard_length front before after h.1)
    heard_length front [] (a ∷ after) h = absurd h
    heard_length front (b ∷ before) [] h = absurd h

    told_count : length told ≡ length passes
    told_count = heard_length new.front passes told o.threads_heard

    job_count : length heard ≡ length script.actors
    job_count = sym (length-map heard ops_in) ∙ ap length (same_ops heard jobs o.asks ∙ o.ops)

    seats : SeatsFrom 0 (passes ++ map pass_in jobs)
    seats = subst (λ (n : ℕ). SeatsFrom n (passes ++ map pass_in jobs)) admits_none all.seats

    thread_seats : SeatsFrom 0 passes
    thread_seats = seats_left 0 passes (map pass_in jobs) seats

    clients : AreSeatedFrom script (threads_of script) (map pass_in heard)
    clients =
        all_seated script mid.lock mid.head new.front (threads_of script) (map pass_in jobs) (map pass_in heard)
        (record { head_is = o.threads.head ∙ o.head; front_is = first }) o.clients.seated begin_clients
        (subst (λ (n : ℕ). SeatsFrom n (map pass_in jobs)) (from_zero (length passes) ∙ thread_count) (seats_right 0 passes (map pass_in jobs) seats))
        o.clients_heard

-- the same of the root as it stands after all have heard
pub opened_at : {H : Type 0} (machine : Hotplug H) (script : Contents) (old mid new last : Known) (passes told : List Seated)
    (jobs heard : List (Job H)) → last ≡ new → Opens machine script old mid new passes told jobs heard →
    IsOpened machine script last.front told heard
opened_at machine script old mid new last passes told jobs heard is o =
    subst (λ (k : Known). IsOpened machine script k.front told heard) (sym is)
    (opened machine script old mid new passes told jobs heard o)

pub seated_as : (l m : TableId) (h i : Head) (passes : List Seated) → m ≡ l → i ≡ h → All (IsSeated l h) passes →
    All (IsSeated m i) passes
seated_as l m h i passes same head all =
    subst (λ (x : TableId). All (IsSeated x i) passes) (sym same) (subst (λ (x : Head). All (IsSeated l x) passes) (sym head) all)
