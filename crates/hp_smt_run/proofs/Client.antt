-- The client that writes in a run under SMT control: an actor more, whose operation is the one that its write has in flight. What is kept
-- of that, and that turns of threads and of actors keep it.
use Rattle.std.proofs.Common.{◌≡◌, ℕ, ◌+◌, ◌-◌, ◌<◌, ◌≤◌, Bool, true, false, cond, not, ◌&&◌, ltb, Option, Some, None, List, [], ◌∷◌, ◌++◌, length, length-append, refl, ap, sym, ◌∙◌, subst, arith}
use Rattle.std.specs.Prelude.{slice_get, option_to_list}
use Rattle.std.proofs.lemmas.Bool.{true≢false, and_parts}
use Rattle.hp_states.proofs.Basics.{not_below}
use Rattle.hp_states.specs.declared.limits.TheConstants.{MAX_SEATS}
use Rattle.hp_event.specs.declared.op.Op.{Op}
use Rattle.hp_event.specs.declared.op.Op.TheVariants as op
use Rattle.hp_event.specs.declared.head.Head.{Head}
use Rattle.hp_event.specs.declared.event.Event.{Event}
use Rattle.hp_model.specs.Events.{is_answer}
use Rattle.hp_model.specs.NextEvent.{due_entry, next_event, is_full}
use Rattle.hp_model.specs.Processors.{present}
use Rattle.hp_model.specs.Scripts.{IsScript, lock_step, is_locked}
use Rattle.hp_model.specs.ScriptTurns.{RunState, unanswered, counted, after_entry, after_event, turn}
use Rattle.hp_model.specs.ScriptTurns as plain
use Rattle.hp_model.specs.Seats.{is_busy, IsFree}
use Rattle.hp_model.specs.Subsystems.{names_sub}
use Rattle.hp_model.proofs.AnswerCounts.{nth_of, counted_long}
use Rattle.hp_model.proofs.DueGives.{due_stands}
use Rattle.hp_model.proofs.Going.{Going, going_entry, turn_going}
use Rattle.hp_smt.specs.Modes.{is_on, own_op}
use Rattle.hp_smt.specs.Siblings.{is_up_of_sibling}
use Rattle.hp_smt.specs.Run.{SmtState, with_run, without, after_asking, writes}
use Rattle.hp_smt.specs.Turns.{is_denied_by}
use Rattle.hp_smt.specs.declared.mode.Control.{Control}
use Rattle.hp_smt.specs.declared.mode.Control.TheVariants as want
use Rattle.hp_smt.specs.declared.setting.Write.{Write}
use Rattle.hp_smt_run.proofs.Beside.{beside, with_none, all_none, all_one, asking_beside, counted_left, going_without, script_beside, un_left}

-- the operation that a write has in flight
abbrev pub op_for : Control → Option ℕ → Option Op
op_for want None = None
op_for want (Some c) = Some (own_op want c)

abbrev pub op_of_write : Option Write → Option Op
op_of_write None = None
op_of_write (Some w) = op_for w.want w.taking

abbrev pub IsWriterOf : (seat : ℕ) → (next : Option Control) → Option Write → Type 0
IsWriterOf k next None = Unit {0}
IsWriterOf k next (Some w) = (w.seat ≡ k) × (next ≡ Some w.want)

pub record Kept (head : Head) (ops : List (List Op)) (want : Control) (at : SmtState) : Type 0 where
  pub going : Going head (beside ops (op_of_write at.setting.write)) at.run.events (at.run.answers ++ 0 ∷ [])
  pub long : length at.run.answers ≡ length ops
  pub writer : IsWriterOf (length (present head) + length ops) (slice_get (writes want) (length at.written)) at.setting.write
  pub few : length at.written ≤ 2

-- a script with a seat more
pub record Fits (head : Head) (ops : List (List Op)) : Type 0 where
  pub script : IsScript head ops
  pub seats : length (present head) + length ops + 1 ≤ MAX_SEATS

-- ---- an own operation

own_names : (head : Head) (want : Control) (c : ℕ) → names_sub head (own_op want c) ≡ true
own_names head want.On c = refl
own_names head want c = refl

pub own_unlocked : (want : Control) (c : ℕ) → is_locked (own_op want c ∷ []) ≡ false
own_unlocked want.On c = refl
own_unlocked want c = refl

pub own_script : (head : Head) (ops : List (List Op)) (want : Control) (c : ℕ) → Fits head ops →
    IsScript head (beside ops (Some (own_op want c)))
own_script head ops want c f =
    script_beside head ops (Some (own_op want c)) f.script f.seats
    (all_one (λ op. names_sub head op ≡ true) (own_op want c) (own_names head want c)) (own_unlocked want c)

pub none_script : (head : Head) (ops : List (List Op)) → Fits head ops → IsScript head (beside ops None)
none_script head ops f = script_beside head ops None f.script f.seats (all_none (λ op. names_sub head op ≡ true)) refl

pub script_of : (head : Head) (ops : List (List Op)) (o : Option Write) → Fits head ops → IsScript head (beside ops (op_of_write o))
script_of head ops None f = none_script head ops f
script_of head ops (Some w) f = go w.taking
  where
    go : (o : Option ℕ) → IsScript head (beside ops (op_for w.want o))
    go None = none_script head ops f
    go (Some c) = own_script head ops w.want c f

-- ---- turns of threads and of actors

pub kept_entry : (head : Head) (ops : List (List Op)) (want : Control) (k : ℕ) (at : SmtState) → Kept head ops want at →
    (o : Option Event) → due_entry head at.run.events k ≡ o → Kept head ops want (with_run at (after_entry o at.run))
kept_entry head ops want k at g None f = g
kept_entry head ops want k at g (Some e) f =
    let d = due_stands head at.run.events k e f in
    record {
      going =
          going_entry head (beside ops (op_of_write at.setting.write)) at.run.events (at.run.answers ++ 0 ∷ []) e g.going d.0 d.1;
      long = g.long;
      writer = g.writer;
      few = g.few;
    }

-- what is denied locks nothing
denied_plain : (n : ℕ) (op : Op) → is_up_of_sibling n op ≡ true → (b : Bool) → lock_step b op ≡ b
denied_plain n op.Lock h b = absurd (true≢false (sym h))
denied_plain n op.Unlock h b = absurd (true≢false (sym h))
denied_plain n op h b = refl

not_true : (b : Bool) → not b ≡ true → b ≡ false
not_true true h = absurd (true≢false (sym h))
not_true false h = refl

kept_denied : (head : Head) (n : ℕ) (ops : List (List Op)) (want : Control) (seat i : ℕ) (op : Op) (at : SmtState) →
    Kept head ops want at → unanswered ops at.run.answers i ≡ Some op →
    is_denied_by at.run.events n at.setting.mode (length (present head) + i) op ≡ true → Kept head ops want (without seat i at)
kept_denied head n ops want seat i op at g u denied =
    let k = length (present head) + i in
    let xs = at.run.events in
    let own = op_of_write at.setting.write in
    let nth = nth_of ops at.run.answers i op u in
    let below = nth.within in
    let l = g.long in
    let few : i < length at.run.answers = omega (arith, below, l) in
    let idle = and_parts (not (is_busy k xs)) (not (is_on at.setting.mode) && is_up_of_sibling n op) denied in
    let up = and_parts (not (is_on at.setting.mode)) (is_up_of_sibling n op) idle.1 in
    let seats = length-append ops (option_to_list own ∷ []) in
    let free : IsFree xs k = record { client = g.going.roster.clients i (omega (arith, below, seats)); idle = not_true (is_busy k xs) idle.0 } in
    record {
      going =
          subst (λ ns. Going head (beside ops own) xs ns) (counted_left i true at.run.answers (0 ∷ []) few)
          (going_without head (beside ops own) xs (at.run.answers ++ 0 ∷ []) i op g.going
          (un_left ops (option_to_list own) at.run.answers 0 i g.long below ∙ u) free (denied_plain n op up.1));
      long = counted_long i true at.run.answers ∙ g.long;
      writer = g.writer;
      few = g.few;
    }

kept_asked : (head : Head) (ops : List (List Op)) (want : Control) (k i : ℕ) (op : Op) (at : SmtState) → Fits head ops →
    Kept head ops want at → k ≡ length (present head) + i → unanswered ops at.run.answers i ≡ Some op →
    Kept head ops want (with_run at (after_event i (next_event head at.run.events k op) (is_full head at.run.events k op) at.run))
kept_asked head ops want k i op at fits g is u =
    let own = op_of_write at.setting.write in
    let V = beside ops own in
    let P = length (present head) in
    let nth = nth_of ops at.run.answers i op u in
    let below = nth.within in
    let past : ltb k P ≡ false = not_below k P (omega (arith, is)) in
    let place : k - P ≡ i = omega (arith, is) in
    let turned = turn_going head V (with_none at.run) k (script_of head ops at.setting.write fits) g.going in
    let is_turn : turn head V (with_none at.run) k ≡ with_none (plain.after_asking head k i (unanswered ops at.run.answers i) at.run) =
    rw (past, place) (asking_beside head ops own k i at.run g.long below) in
    let asked : plain.after_asking head k i (unanswered ops at.run.answers i) at.run
    ≡ after_event i (next_event head at.run.events k op) (is_full head at.run.events k op) at.run =
    ap (λ o. plain.after_asking head k i o at.run) u in
    record {
      going = subst (λ (z : RunState). Going head V z.events z.answers) (is_turn ∙ ap with_none asked) turned;
      long = answers_long i (next_event head at.run.events k op) (is_full head at.run.events k op) at.run ∙ g.long;
      writer = g.writer;
      few = g.few;
    }
  where
    answers_long : (i : ℕ) (o : Option Event) (full : Bool) (at : RunState) → length (after_event i o full at).answers ≡ length at.answers
    answers_long i None full at = counted_long i full at.answers
    answers_long i (Some e) full at = counted_long i (is_answer e) at.answers

pub kept_asking : (head : Head) (n : ℕ) (ops : List (List Op)) (want : Control) (k i : ℕ) (at : SmtState) → Fits head ops →
    Kept head ops want at → k ≡ length (present head) + i → (o : Option Op) → unanswered ops at.run.answers i ≡ o →
    Kept head ops want (after_asking head n k i o at)
kept_asking head n ops want k i at fits g is None u = g
kept_asking head n ops want k i at fits g is (Some op) u = go (is_denied_by at.run.events n at.setting.mode k op) refl
  where
    go : (b : Bool) → is_denied_by at.run.events n at.setting.mode k op ≡ b →
        Kept head ops want
        (cond b (without k i at)
        (with_run at (after_event i (next_event head at.run.events k op) (is_full head at.run.events k op) at.run)))
    go true e =
        kept_denied head n ops want k i op at g u
        (subst (λ z. is_denied_by at.run.events n at.setting.mode z op ≡ true) is e)
    go false e = kept_asked head ops want k i op at fits g is u
