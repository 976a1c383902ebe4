-- What is so of the journal at the end of a run.
use Rattle.std.proofs.Common.{◌≡◌, ◌⊎◌, inl, inr, ⊎_elim, ℕ, zero, suc, ◌+◌, ◌<◌, ◌≤◌, All, true, Option, Some, None, List, [], ◌∷◌, map, length, refl, sym, ◌∙◌, subst, arith}
use Rattle.std.specs.Prelude.{slice_get}
use Rattle.std.proofs.lemmas.List.Elements.{All-head, All-tail, All-weaker}
use mathlib.Core.List.{IsPrefix}
use Rattle.hp_states.proofs.Basics.{none_some, some_none, same_some}
use Rattle.hp_event.specs.declared.answer.Answer.{Answer}
use Rattle.hp_event.specs.declared.event.Event.{Event}
use Rattle.hp_event.specs.declared.event.Event.TheVariants.{Leave}
use Rattle.hp_event.specs.declared.event.Role.{Role}
use Rattle.hp_event.specs.declared.event.Role.TheVariants.{Client}
use Rattle.hp_event.specs.declared.head.Head.{Head}
use Rattle.hp_event.specs.declared.op.Op.{Op}
use Rattle.hp_model.specs.Lawful.{IsLawful}
use Rattle.hp_model.specs.MapLock.{Operation, operation}
use Rattle.hp_model.specs.Registrations.{Registration, registration}
use Rattle.hp_model.specs.Seats.{admits, role_of}
use Rattle.hp_model.specs.Walks.{Walk, walk}
use Rattle.hp_model.proofs.CompletesProof.{completes_of_front}
use Rattle.hp_model.proofs.HeadlineProof.{headline_of_front}
use Rattle.hp_model.proofs.KeyLaw.{keys_at_rest}
use Rattle.hp_model.proofs.OneNext.{owners}
use Rattle.hp_model.proofs.OneWalkProof.{one_walk_of_front}
use Rattle.hp_script.specs.Script.{Contents}
use Rattle.hp_turn.specs.Story.{Knows}
use Rattle.hp_turn.proofs.Prefixes.{prefix_self, prefix_trans}
use Rattle.hp_turn.proofs.Stories.{knows_later, knows_prefix}
use Rattle.hp_live.specs.Known.{Gone, Seated}
use Rattle.hp_live.specs.Runs.{IsAnswered}
use Rattle.hp_threads.specs.declared.job.Job.{Job}
use Rattle.hp_threads.specs.Acting.{Acts, HasActed, HasServed, Plays}
use Rattle.hp_threads.specs.Admitting.{pass_in}
use Rattle.hp_threads.specs.Ending.{HaveGone}
use Rattle.hp_threads.specs.Jobs.{HasRun, HaveRun, HaveStayed}
use Rattle.hp_threads.specs.Journals.{IsJournalOf, first_of, threads_of}
use Rattle.hp_threads.specs.Opened.{AreSeatedFrom, IsSeatedAt}
use Rattle.hp_threads.specs.Loaded.{ops_in}
use Rattle.hp_threads.proofs.Opening.{from_zero}
use Rattle.hp_threads.proofs.Parting.{IsEnd, LeftBefore, all_gone, all_served, gone_grows}
use Rattle.hp_threads.proofs.Numbers.{below_or, same_or}
use Rattle.hp_threads.proofs.Staying.{ends_by, knows_on, lawful_front, out_left, out_stays}

-- ---- the actors

acted_one : {H : Type 0} (script : Contents) (k : ℕ) (job : Job H) (left : Gone) (ops : List Op) (journal : List Event) →
    IsSeatedAt script k job.pass → HasRun job left → ops_in job ≡ ops → IsPrefix left.front journal → IsLawful script.head journal →
    HasActed script.head k ops (first_of script) journal
acted_one script k job left ops journal at run same begins lawful =
    let acts : Acts script.head k ops (first_of script) left.front =
    subst (λ (w : List Op). Acts script.head k w (first_of script) left.front) same
    (subst (λ (f : List Event). Acts script.head k (ops_in job) f left.front) at.front_is
    (subst (λ (n : ℕ). Acts script.head n (ops_in job) job.pass.front left.front) at.seat_is
    (subst (λ (h : Head). Acts h job.pass.seat (ops_in job) job.pass.front left.front) at.head_is run.acts))) in
    record {
      ended = left.front;
      acts = acts;
      no_more = ends_by script.head k acts.last left.front journal acts.leaves begins lawful;
    }

abbrev Begins : List Event → Gone → Type 0
Begins journal left = IsPrefix left.front journal

first_same : {A : Type 0} (x y : A) (xs ys : List A) → (x ∷ xs) ≡ (y ∷ ys) → x ≡ y
first_same x y xs ys e = cc e

rest_same : {A : Type 0} (x y : A) (xs ys : List A) → (x ∷ xs) ≡ (y ∷ ys) → xs ≡ ys
rest_same x y xs ys e = cc e

pub all_acted : {H : Type 0} (script : Contents) (k : ℕ) (jobs : List (Job H)) (lefts : List Gone) (actors : List (List Op))
    (journal : List Event) → AreSeatedFrom script k (map pass_in jobs) → HaveRun jobs lefts → map ops_in jobs ≡ actors →
    All (Begins journal) lefts → IsLawful script.head journal →
    (i : ℕ) (ops : List Op) → slice_get actors i ≡ Some ops → HasActed script.head (k + i) ops (first_of script) journal
all_acted script k jobs lefts [] journal at run same begin lawful i ops is = absurd (none_some ops is)
all_acted script k [] lefts (a ∷ actors) journal at run same begin lawful i ops is = absurd (cc same)
all_acted script k (job ∷ jobs) [] (a ∷ actors) journal at run same begin lawful i ops is = absurd run
all_acted script k (job ∷ jobs) (left ∷ lefts) (a ∷ actors) journal at run same begin lawful zero ops is =
    let e : k ≡ k + 0 = omega arith in
    subst (λ (n : ℕ). HasActed script.head n ops (first_of script) journal) e
    (acted_one script k job left ops journal at.0 run.0
    (first_same (ops_in job) a (map ops_in jobs) actors same ∙ same_some a ops is) (All-head (Begins journal) left lefts begin) lawful)
all_acted script k (job ∷ jobs) (left ∷ lefts) (a ∷ actors) journal at run same begin lawful (suc i) ops is =
    let e : (k + 1) + i ≡ k + suc i = omega arith in
    subst (λ (n : ℕ). HasActed script.head n ops (first_of script) journal) e
    (all_acted script (k + 1) jobs lefts actors journal at.1 run.1 (rest_same (ops_in job) a (map ops_in jobs) actors same)
    (All-tail (Begins journal) left lefts begin) lawful i ops is)

-- ---- who has left

answered_prefix : (head : Head) (k : ℕ) (op : Op) (old new : List Event) (answer : Answer) → IsAnswered head k op old new answer →
    IsPrefix old new
answered_prefix head k op old new answer (inl a) =
    prefix_trans old a.before new (a.grew.rest, a.grew.whole) (a.event ∷ [], sym a.new_is)
answered_prefix head k op old new answer (inr f) = (f.grew.rest, f.grew.whole)

-- the operations of an actor and its leave are past its first front
plays_prefix : (head : Head) (k : ℕ) (ops : List Op) (old new : List Event) → Plays head k ops old new → IsPrefix old new
plays_prefix head k [] old new p = subst (IsPrefix old) (sym p) (prefix_self old)
plays_prefix head k (op ∷ ops) old new p =
    prefix_trans old p.0 new (answered_prefix head k op old p.0 p.1.answer p.1.answered) (plays_prefix head k ops p.0 new p.2)

acts_prefix : (head : Head) (k : ℕ) (ops : List Op) (old new : List Event) → Acts head k ops old new → IsPrefix old new
acts_prefix head k ops old new a =
    prefix_trans old a.last new (plays_prefix head k ops old a.last a.plays)
    (prefix_trans a.last a.leaves.found new (a.leaves.seen.rest, a.leaves.seen.whole) (Leave k ∷ [], sym a.leaves.new_is))

client_out : {H : Type 0} (script : Contents) (k : ℕ) (job : Job H) (left : Gone) (front : List Event) → IsSeatedAt script k job.pass →
    HasRun job left → IsPrefix left.front front → Knows None true (first_of script) front → role_of k front ≡ None
client_out script k job left front at run begins knows =
    let own = out_left job.pass.head job.pass.seat run.acts.last left.front run.acts.leaves in
    out_stays k left.front front
    (knows_later None true (first_of script) left.front front knows
    (subst (λ (f : List Event). IsPrefix f left.front) at.front_is
    (acts_prefix job.pass.head job.pass.seat (ops_in job) job.pass.front left.front run.acts)) begins)
    (subst (λ (n : ℕ). role_of n left.front ≡ None) at.seat_is own)

clients_out : {H : Type 0} (script : Contents) (k : ℕ) (jobs : List (Job H)) (lefts : List Gone) (front : List Event) →
    AreSeatedFrom script k (map pass_in jobs) → HaveRun jobs lefts → All (Begins front) lefts → Knows None true (first_of script) front →
    (other : ℕ) → k ≤ other → other < k + length jobs → role_of other front ≡ None
clients_out script k [] lefts front at run begin knows other low high = absurd (omega (arith, low, high))
clients_out script k (job ∷ jobs) [] front at run begin knows other low high = absurd run
clients_out script k (job ∷ jobs) (left ∷ lefts) front at run begin knows other low high =
    ⊎_elim
    (λ (same : other ≡ k). subst (λ (n : ℕ). role_of n front ≡ None) (sym same)
    (client_out script k job left front at.0 run.0 (All-head (Begins front) left lefts begin) knows))
    (λ (more : k + 1 ≤ other).
    clients_out script (k + 1) jobs lefts front at.1 run.1 (All-tail (Begins front) left lefts begin) knows other more
    (omega (arith, high)))
    (same_or k other low)

-- a seat that never came in isn't there
above_out : (head : Head) (front : List Event) (k : ℕ) → IsLawful head front → admits front ≤ k → role_of k front ≡ None
above_out head front k lawful high = go (role_of k front) refl
  where
    go : (o : Option Role) → role_of k front ≡ o → o ≡ None
    go None is = refl
    go (Some role) is =
        let below = (owners head front lawful).seats_below k role is in absurd (omega (arith, below, high))

all_clients_out : {H : Type 0} (script : Contents) (jobs : List (Job H)) (lefts : List Gone) (front : List Event) →
    IsLawful script.head front → admits (first_of script) ≡ threads_of script + length jobs →
    AreSeatedFrom script (threads_of script) (map pass_in jobs) → HaveRun jobs lefts → All (Begins front) lefts →
    Knows None true (first_of script) front → LeftBefore (threads_of script) 0 front
all_clients_out script jobs lefts front lawful count at run begin knows other which =
    ⊎_elim (λ (none : other < 0). absurd (omega (arith, none)))
    (λ (client : threads_of script ≤ other).
    ⊎_elim
    (λ (below : other < threads_of script + length jobs).
    clients_out script (threads_of script) jobs lefts front at run begin knows other client below)
    (λ (above : threads_of script + length jobs ≤ other).
    out_stays other (first_of script) front knows
    (above_out script.head (first_of script) other
    (lawful_front script.head (first_of script) front (knows_prefix None true (first_of script) front knows) lawful)
    (omega (arith, count, above))))
    (below_or other (threads_of script + length jobs))) which

-- ---- at rest

no_operation : (head : Head) (events : List Event) → IsLawful head events → ((k : ℕ) → role_of k events ≡ None) → operation events ≡ None
no_operation head events lawful none = go (operation events) refl
  where
    go : (o : Option Operation) → operation events ≡ o → o ≡ None
    go None is = refl
    go (Some o) is = absurd (some_none Client (sym ((owners head events lawful).op_client o is) ∙ none o.seat))

no_registration : (head : Head) (events : List Event) → IsLawful head events → ((k : ℕ) → role_of k events ≡ None) →
    registration events ≡ None
no_registration head events lawful none = go (registration events) refl
  where
    go : (r : Option Registration) → registration events ≡ r → r ≡ None
    go None is = refl
    go (Some r) is = absurd (some_none Client (sym ((owners head events lawful).reg_client r is) ∙ none r.seat))

no_walk : (head : Head) (events : List Event) (cpu : ℕ) → IsLawful head events → operation events ≡ None → walk cpu events ≡ None
no_walk head events cpu lawful free = go (walk cpu events) refl
  where
    go : (w : Option Walk) → walk cpu events ≡ w → w ≡ None
    go None f = refl
    go (Some w) f =
        let p = (owners head events lawful).walk_op cpu w f in absurd (none_some p.0 (sym free ∙ p.1))

-- ---- the journal

-- the fronts of the root: with just the admissions, after the actors, after the threads, and the journal at the end
pub record IsWhole {H : Type 0} (script : Contents) (jobs : List (Job H)) (lefts : List Gone) (passes backs : List Seated)
    (met left journal : List Event) : Type 0 where
  pub lawful : IsLawful script.head journal
  pub count : admits (first_of script) ≡ threads_of script + length jobs
  pub threads : AreSeatedFrom script 0 passes
  pub how_many : length passes ≡ threads_of script
  pub clients : AreSeatedFrom script (threads_of script) (map pass_in jobs)
  pub ops : map ops_in jobs ≡ script.actors
  pub ran : HaveRun jobs lefts
  pub stayed : HaveStayed passes backs
  pub heard : Knows None true (first_of script) met
  pub have_met : All (λ l. IsPrefix l.front met) lefts
  pub gone : HaveGone backs met left
  pub ends : Knows None true left journal

pub journal_of : {H : Type 0} (script : Contents) (jobs : List (Job H)) (lefts : List Gone) (passes backs : List Seated)
    (met left journal : List Event) → IsWhole script jobs lefts passes backs met left journal → IsJournalOf script journal
journal_of script jobs lefts passes backs met left journal w = record {
  lawful = w.lawful;
  begins = record { rest = whole.seen.rest; whole = whole.seen.whole; no_admit = whole.admitted refl };
  actors = λ i ops is.
      all_acted script (threads_of script) jobs lefts script.actors journal w.clients w.ran w.ops begun w.lawful i ops is;
  threads = λ k below.
      subst (λ (n : ℕ). HasServed script.head n (first_of script) journal) (from_zero k)
      (all_served script 0 passes backs met left journal w.threads w.stayed w.gone (knows_prefix None true left journal w.ends) w.lawful
      k (omega (arith, w.how_many, below)));
  threads_last = λ k before rest below is.
      end.in_turn k before rest (omega arith) (omega (arith, w.how_many, below)) is;
  all_left = none;
  headline = λ front rest is.
      headline_of_front script.head front rest (subst (λ es. IsLawful script.head es) (sym is) w.lawful);
  one_walk = λ front rest is.
      one_walk_of_front script.head front rest (subst (λ es. IsLawful script.head es) (sym is) w.lawful);
  completes = λ front rest is.
      completes_of_front script.head front rest (subst (λ es. IsLawful script.head es) (sym is) w.lawful);
  no_operation = free;
  no_registration = quiet;
  keys = λ cpu. keys_at_rest script.head journal cpu w.lawful (no_walk script.head journal cpu w.lawful free) quiet;
}
  where
    onward : Knows None true met journal
    onward = knows_on met left journal (gone_grows backs met left w.gone) w.ends

    whole : Knows None true (first_of script) journal
    whole = knows_on (first_of script) met journal w.heard onward

    grow : (front : List Event) (xs : List Gone) → IsPrefix front journal → All (Begins front) xs → All (Begins journal) xs
    grow front xs p all =
        All-weaker (Begins front) (Begins journal) (λ l q. prefix_trans l.front front journal q p) xs all

    begun : All (Begins journal) lefts
    begun = grow met lefts (knows_prefix None true met journal onward) w.have_met

    out : LeftBefore (threads_of script) 0 met
    out =
        all_clients_out script jobs lefts met
        (lawful_front script.head met journal (knows_prefix None true met journal onward) w.lawful) w.count w.clients w.ran w.have_met w.heard

    end : IsEnd (threads_of script) 0 (0 + length passes) left journal
    end = all_gone script 0 passes backs met left journal w.threads w.stayed w.gone w.ends w.lawful out

    which : (k : ℕ) → (k < 0 + length passes) ⊎ (threads_of script ≤ k)
    which k = ⊎_elim (λ (b : k < threads_of script). inl (omega (arith, w.how_many, b))) (λ c. inr c) (below_or k (threads_of script))

    none : (k : ℕ) → role_of k journal ≡ None
    none k = out_stays k left journal w.ends (end.left k (which k))

    free : operation journal ≡ None
    free = no_operation script.head journal w.lawful none

    quiet : registration journal ≡ None
    quiet = no_registration script.head journal w.lawful none
