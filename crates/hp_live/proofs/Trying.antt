-- A section of a try, from the board that it found to what contracts see of the pass.
use Rattle.std.proofs.Common.{◌≡◌, ℕ, Bool, true, false, Option, Some, None, Result, Ok, Err, List, refl, sym, ap, ◌∙◌, subst, is_some}
use Rattle.atomic_table.specs.Seated.{TableId}
use Rattle.hp_states.specs.declared.no_memory.NoMemory.{NoMemory}
use Rattle.hp_event.specs.declared.aside.Aside.{Aside}
use Rattle.hp_event.specs.declared.event.Event.{Event}
use Rattle.hp_event.specs.declared.head.Head.{Head}
use Rattle.hp_event.specs.declared.op.Op.{Op}
use Rattle.hp_hook.specs.Counted.{Counts}
use Rattle.hp_locks.specs.declared.why.Why.{Why}
use Rattle.hp_model.specs.Lawful.{IsLawful}
use Rattle.hp_model.specs.NextEvent.{next_event, due_entry}
use Rattle.hp_turn.specs.Asides.{aside_of}
use Rattle.hp_turn.specs.Pass.{Pass, IsSame}
use Rattle.hp_board.specs.Contents.{Contents}
use Rattle.hp_board.specs.Hooks.{has_hook, has_hook_after}
use Rattle.hp_board.specs.Loans.{loan, can_lend, AreLoans, CanLendTo, IsLoan}
use Rattle.hp_board.specs.Turns.{IsNotYet, IsTurn, TakesRoom}
use Rattle.hp_board.specs.declared.turn.Ask.{Ask}
use Rattle.hp_board.specs.declared.turn.Turn.{Turn}
use Rattle.hp_board.specs.declared.turn.Turn.TheVariants.{Made, NotYet}
use Rattle.hp_live.specs.HeldSteps.{KeepsAsk, Keeps, ServesOut, ServiceTried, StepTried, WaitsOut, seated}
use Rattle.hp_live.specs.Hooks.{TurnsHook}
use Rattle.hp_live.specs.Known.{IsSight, IsStill, Seated}
use Rattle.hp_live.specs.Lending.{lent_pairs}
use Rattle.hp_live.specs.Sections.{CanAsk, LentIn, ServedOn, TurnOn, WantedIn}
use Rattle.hp_live.specs.Steps.{Finds, GivesTo, IsInside, IsPut, ServesTo, StepsTo, lent_by, lent_of}
use Rattle.hp_live.specs.Tries.{CallsLent, GaveBack, HadLock, IsHookOutBy, IsNotYetBy, TookLoan, TookService, TookTurn, WantedOnce, lends_over, lent_beside, missed}
use Rattle.hp_live.specs.declared.step.Step.{Step}
use Rattle.hp_live.specs.declared.step.Step.TheVariants.{Turned, Lent}
use Rattle.hp_live.proofs.Entries.{served_on}
use Rattle.hp_live.proofs.Finding.{Puts, lawful_found, seat_kept, seen_by}
use Rattle.hp_live.proofs.HooksBack.{ask_same}
use Rattle.hp_live.proofs.HooksTurned.{turns_hook, waits_quietly}
use Rattle.hp_live.proofs.LentPairs.{calls_by, by_calls, by_hook_out, lends_is, not_yet_by}
use Rattle.hp_live.proofs.Pairs.{aside_pairs}
use Rattle.hp_live.proofs.Turning.{turn_on}

-- ---- a pass that put its board back

pub keeps_put : (p after : Pass) (k seen : ℕ) (old new : Contents) → p.seat ≡ Some k → IsInside p old → Puts k old.events new.events →
    new.head ≡ old.head → IsPut p after new → IsSight after seen → AreLoans new → Keeps k p after
keeps_put p after k seen old new own inside puts same put sight loans =
    record {
      misses = put.misses;
      own = ap (aside_of k) put.seen.kept_is ∙ aside_pairs new k lawful ∙ sym carries;
      loans = λ a is.
          subst (λ (h : Head). IsLoan h after.front k a) (sym head)
          (subst (λ (w : List Event). IsLoan new.head w k a) (sym put.seen.front_is) (loans k a (sym carries ∙ is)));
    }
  where
    head : after.head ≡ new.head
    head = put.head ∙ sym inside.head_is ∙ sym same

    carries : after.aside ≡ loan new k
    carries = put.lent k (put.seat ∙ seat_kept p k old new own inside puts ∙ own)

    lawful : IsLawful new.head new.events
    lawful =
        subst (λ (h : Head). IsLawful h new.events) head
        (subst (λ (w : List Event). IsLawful after.head w) put.seen.front_is sight.lawful)

-- ---- a try that found the lock held

abbrev seated_as : TableId → Head → List Event → ℕ → ℕ → Option Aside → List (ℕ × Aside) → Seated
seated_as l h f k m a ps = record { lock = l; head = h; front = f; seat = k; misses = m; lent = a; kept = ps }

-- the pass as it was handed in, as it stands in its struct, and as the try left it
pub missed_by : (given inside after : Pass) (k : ℕ) → inside ≡ given → IsSame inside after → after.misses ≡ (missed (seated k inside)).misses →
    seated k after ≡ missed (seated k given)
missed_by given inside after k is same misses =
    subst (λ (p : Pass). seated k after ≡ missed (seated k p)) is
    (ap (λ (l : TableId). seated_as l after.head after.front k after.misses after.aside after.kept) same.lock
    ∙ ap (λ (h : Head). seated_as inside.lock h after.front k after.misses after.aside after.kept) same.head
    ∙ ap (λ (f : List Event). seated_as inside.lock inside.head f k after.misses after.aside after.kept) same.front
    ∙ ap (λ (m : ℕ). seated_as inside.lock inside.head inside.front k m after.aside after.kept) misses
    ∙ ap (λ (a : Option Aside). seated_as inside.lock inside.head inside.front k (missed (seated k inside)).misses a after.kept) same.aside
    ∙ ap (λ (ps : List (ℕ × Aside)). seated_as inside.lock inside.head inside.front k (missed (seated k inside)).misses inside.aside ps) same.kept)

pub still_missed : (given inside after : Pass) → inside ≡ given → IsSame inside after → IsStill given after
still_missed given inside after is same =
    subst (λ (p : Pass). IsStill p after) is
    (record { lock = same.lock; head = same.head; seat = same.seat; admits = same.admits })

-- ---- one that took it

pub had_lock : (p held after : Pass) (k : ℕ) → held.misses ≡ p.misses → Keeps k held after → HadLock (seated k p) (seated k after)
had_lock p held after k misses keeps = record { misses = keeps.misses ∙ misses; own = keeps.own }

not_true : (b : Bool) → (b ≡ true → ⊥) → b ≡ false
not_true true never = absurd (never refl)
not_true false never = refl

-- what is so of the board that was found is so by what the pass sees of it
by_pass : (P : Head → List (ℕ × Aside) → Type 0) (p after : Pass) (k : ℕ) (found : Contents) → Finds p found →
    lent_beside k after.kept ≡ lent_pairs found → P found.head (lent_pairs found) → P p.head (lent_beside k after.kept)
by_pass P p after k found finds others is =
    subst (λ (h : Head). P h (lent_beside k after.kept)) finds.head_is (subst (P found.head) (sym others) is)

by_found : (P : Head → List (ℕ × Aside) → Type 0) (p after : Pass) (k : ℕ) (found : Contents) → Finds p found →
    lent_beside k after.kept ≡ lent_pairs found → P p.head (lent_beside k after.kept) → P found.head (lent_pairs found)
by_found P p after k found finds others is =
    subst (P found.head) others (subst (λ (h : Head). P h (lent_beside k after.kept)) (sym finds.head_is) is)

-- none could be lent
lends_none : (p after : Pass) (k : ℕ) (found : Contents) → Finds p found → lent_beside k after.kept ≡ lent_pairs found →
    (CanLendTo found k → ⊥) → lends_over p.head found.events (lent_beside k after.kept) k ≡ false
lends_none p after k found finds others none =
    by_pass (λ h ps. lends_over h found.events ps k ≡ false) p after k found finds others
    (lends_is found k finds.board ∙ not_true (can_lend (due_entry found.head found.events k) found.places) none)

lends_one : (p after : Pass) (k : ℕ) (found : Contents) → Finds p found → lent_beside k after.kept ≡ lent_pairs found →
    CanLendTo found k → lends_over p.head found.events (lent_beside k after.kept) k ≡ true
lends_one p after k found finds others can =
    by_pass (λ h ps. lends_over h found.events ps k ≡ true) p after k found finds others (lends_is found k finds.board ∙ can)

-- ---- a client's

turn_taken : {H : Type 0} (seen : H → Counts) (p held after : Pass) (k : ℕ) (before asked : Ask H) (found : Contents) (turn : Turn) → p.seat ≡ Some k →
    Finds p found → p.aside ≡ None → held.misses ≡ p.misses → Keeps k held after → lent_beside k after.kept ≡ lent_pairs found →
    CanAsk found.head found.events k before.op (is_some before.hook) →
    (to : StepsTo {H = H} k before.op (is_some before.hook) (is_some asked.hook) found after (Ok (Turned turn))) →
    WaitsOut {H = H} found k before.op (Ok (Turned turn)) → KeepsAsk seen found k before asked (Ok (Turned turn)) → asked.op ≡ before.op →
    after.aside ≡ None → TookTurn seen (seated k p) (seated k after) before asked turn
turn_taken seen p held after k before asked found turn own finds none misses keeps others can to out hook op nothing =
    let on = to.steps in
    let had = is_some before.hook in
    let has = is_some asked.hook in
    let turned : TurnOn found.head k before.op found.events after.front turn =
    subst (λ (w : List Event). TurnOn found.head k before.op found.events w turn) (sym to.seen.front_is)
    (turn_on k before.op found to.new turn on.1) in
    record {
      had_lock = had_lock p held after k misses keeps;
      carried = none;
      nothing = nothing;
      turned =
          record {
            found = found.events;
            seen = seen_by p k found.events own finds.knew;
            lawful = lawful_found p found finds;
            asked = subst (λ (h : Head). CanAsk h found.events k before.op had) finds.head_is can;
            turned = subst (λ (h : Head). TurnOn h k before.op found.events after.front turn) finds.head_is turned;
            hook =
                subst (λ (h : Head). has ≡ has_hook_after found.events (next_event h found.events k before.op) had) finds.head_is on.3;
            again = λ goes. on.4 goes ∙ ap (λ (w : List Event). has_hook w k before.op) (sym to.seen.front_is);
          };
      lends = lends_none p after k found finds others on.0;
      waits = λ why is.
          by_pass (λ h ps. IsNotYetBy h found.events ps k before.op why) p after k found finds others
          (not_yet_by found k before.op why finds.board (waits_for why is));
      hook_out = λ s h.
          out s
          (by_hook_out found s k before.op finds.board
          (by_found (λ h ps. IsHookOutBy h found.events ps s k before.op) p after k found finds others h));
      hook =
          subst (λ (h : Head). TurnsHook seen h found.events k before.op before.hook asked.hook turn) finds.head_is
          (turns_hook seen found to.new k before asked turn finds.board.table on.1 on.3 hook.0 hook.1);
      same_ask = λ why is. ask_same before asked op (hook.0 (waits_quietly found k before.op why (waits_for why is)));
    }
  where
    waits_for : (why : Why) → turn ≡ NotYet why → IsNotYet k before.op found why
    waits_for why is = (subst (IsTurn k before.op found to.new) is to.steps.1).0

wanted_once : {H : Type 0} (p held after : Pass) (k : ℕ) (before asked : Ask H) (found : Contents) (e : NoMemory) → p.seat ≡ Some k → Finds p found →
    p.aside ≡ None → held.misses ≡ p.misses → Keeps k held after → lent_beside k after.kept ≡ lent_pairs found →
    (to : StepsTo {H = H} k before.op (is_some before.hook) (is_some asked.hook) found after (Err e)) → WaitsOut {H = H} found k before.op (Err e) →
    after.aside ≡ None → WantedOnce (seated k p) (seated k after) before
wanted_once p held after k before asked found e own finds none misses keeps others to out nothing =
    let on = to.steps in
    let front : found.events ≡ after.front = sym (ap (λ (b : Contents). b.events) on.1) ∙ sym to.seen.front_is in
    record {
      had_lock = had_lock p held after k misses keeps;
      carried = none;
      nothing = nothing;
      wanted =
          subst (λ (w : List Event). WantedIn p.head k before.op p.front w) front
          (record {
            seen = seen_by p k found.events own finds.knew;
            lawful = lawful_found p found finds;
            takes_room =
                subst (λ (h : Head). TakesRoom h found.events (next_event h found.events k before.op)) finds.head_is on.2;
          });
      lends =
          subst (λ (w : List Event). lends_over p.head w (lent_beside k after.kept) k ≡ false) front
          (lends_none p after k found finds others on.0);
      no_wait = λ s h.
          out s
          (by_hook_out found s k before.op finds.board
          (by_found (λ h ps. IsHookOutBy h found.events ps s k before.op) p after k found finds others
          (subst (λ (w : List Event). IsHookOutBy p.head w (lent_beside k after.kept) s k before.op) (sym front) h)));
    }

loan_taken : (p held after : Pass) (k : ℕ) (found : Contents) (a : Aside) → p.seat ≡ Some k → Finds p found → p.aside ≡ None →
    held.misses ≡ p.misses → Keeps k held after → lent_beside k after.kept ≡ lent_pairs found → after.head ≡ p.head →
    after.front ≡ found.events → CanLendTo found k → after.aside ≡ Some a → TookLoan (seated k p) (seated k after) a.key.state
loan_taken p held after k found a own finds none misses keeps others head front can carries =
    record {
      had_lock = had_lock p held after k misses keeps;
      carried = none;
      found =
          subst (λ (w : List Event). LentIn p.head k p.front w) (sym front)
          (record { seen = seen_by p k found.events own finds.knew; lawful = lawful_found p found finds });
      lends =
          subst (λ (w : List Event). lends_over p.head w (lent_beside k after.kept) k ≡ true) (sym front)
          (lends_one p after k found finds others can);
      loan = a;
      carries = carries;
      state_is = refl;
      is_loan = subst (λ (h : Head). IsLoan h after.front k a) head (keeps.loans a carries);
    }

pub step_tried : {H : Type 0} (seen : H → Counts) (p held after : Pass) (k : ℕ) (before asked : Ask H) (found : Contents)
    (step : Result (Step H) NoMemory) → p.seat ≡ Some k →
    Finds p found → p.aside ≡ None → held.misses ≡ p.misses → IsStill p after → Keeps k held after →
    lent_beside k after.kept ≡ lent_pairs found → CanAsk found.head found.events k before.op (is_some before.hook) →
    StepsTo k before.op (is_some before.hook) (is_some asked.hook) found after step → WaitsOut found k before.op step →
    KeepsAsk seen found k before asked step → asked.op ≡ before.op → after.aside ≡ lent_of step →
    StepTried seen (seated k p) (seated k after) before asked step
step_tried seen p held after k before asked found (Ok (Turned turn)) own finds none misses still keeps others can to out hook op nothing =
    turn_taken seen p held after k before asked found turn own finds none misses keeps others can to out hook op nothing
step_tried seen p held after k before asked found (Err e) own finds none misses still keeps others can to out hook op nothing =
    (wanted_once p held after k before asked found e own finds none misses keeps others to out nothing, hook)
step_tried seen p held after k before asked found (Ok (Lent a)) own finds none misses still keeps others can to out hook op carries = (
  loan_taken p held after k found a own finds none misses keeps others still.head (to.seen.front_is ∙ to.steps.2) to.steps.0 carries,
  carries,
  hook,
)

-- ---- a thread's

service_taken : {H : Type 0} (p held after : Pass) (k : ℕ) (found : Contents) (turn : Turn) → p.seat ≡ Some k → Finds p found →
    p.aside ≡ None → held.misses ≡ p.misses → Keeps k held after → lent_beside k after.kept ≡ lent_pairs found →
    ServesTo {H = H} k found after (Turned turn) → ServesOut {H = H} found k (Turned turn) → after.aside ≡ None →
    TookService (seated k p) (seated k after) turn
service_taken p held after k found turn own finds none misses keeps others to out nothing =
    let on = to.serves in
    record {
      had_lock = had_lock p held after k misses keeps;
      carried = none;
      nothing = nothing;
      served =
          record {
            found = found.events;
            seen = seen_by p k found.events own finds.knew;
            lawful = lawful_found p found finds;
            served =
                subst (λ (h : Head). ServedOn h k found.events after.front turn) finds.head_is
                (subst (λ (w : List Event). ServedOn found.head k found.events w turn) (sym to.seen.front_is)
                (served_on k found to.new turn on.1));
          };
      lends = lends_none p after k found finds others on.0;
      hook_out = λ s. (
        λ c. (out s).0
            (by_calls found s k finds.board (by_found (λ h ps. CallsLent h found.events ps s k) p after k found finds others c)),
        λ is.
            by_pass (λ h ps. CallsLent h found.events ps s k) p after k found finds others
            (calls_by found s k finds.board ((out s).1 is)),
      );
    }

pub service_tried : {H : Type 0} (p held after : Pass) (k : ℕ) (found : Contents) (step : Step H) → p.seat ≡ Some k → Finds p found →
    p.aside ≡ None → held.misses ≡ p.misses → IsStill p after → Keeps k held after → lent_beside k after.kept ≡ lent_pairs found →
    ServesTo k found after step → ServesOut found k step → after.aside ≡ lent_by step → ServiceTried (seated k p) (seated k after) step
service_tried p held after k found (Turned turn) own finds none misses still keeps others to out nothing =
    service_taken p held after k found turn own finds none misses keeps others to out nothing
service_tried p held after k found (Lent a) own finds none misses still keeps others to out carries = (
  loan_taken p held after k found a own finds none misses keeps others still.head (to.seen.front_is ∙ to.serves.2) to.serves.0 carries,
  carries,
)

-- ---- a hook that comes home

pub gave_back : (p held after : Pass) (k at : ℕ) (found : Contents) (a : Aside) → p.seat ≡ Some k → Finds p found → p.aside ≡ Some a →
    loan found k ≡ Some a → AreLoans found → held.misses ≡ p.misses → Keeps k held after → GivesTo k found after at → after.aside ≡ None →
    GaveBack (seated k p) (seated k after) (Made at)
gave_back p held after k at found a own finds carried lent loans misses keeps to nothing =
    let m = to.served in
    record {
      had_lock = had_lock p held after k misses keeps;
      loan = a;
      carried = carried;
      nothing = nothing;
      at = at;
      turn_is = refl;
      enters =
          record {
            found = found.events;
            seen = seen_by p k found.events own finds.knew;
            lawful = lawful_found p found finds;
            entered =
                record {
                  event = m.event;
                  next_is = ap (λ (h : Head). due_entry h found.events k) (sym finds.head_is) ∙ m.next_is;
                  new_is = to.seen.front_is ∙ ap (λ (b : Contents). b.events) m.new_is;
                  place_is = m.place_is;
                  answer_is = m.answer_is;
                };
          };
      is_loan = subst (λ (h : Head). IsLoan h found.events k a) finds.head_is (loans k a lent);
    }
