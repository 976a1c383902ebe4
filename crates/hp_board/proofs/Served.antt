-- An entry that is due: whether it calls a hook that is away, and what stays lent after it.
use Rattle.std.proofs.Common.{◌≡◌, ℕ, true, false, ◌&&◌, eqb, Some, None, refl, ap, sym, ◌∙◌, subst}
use Rattle.std.proofs.lemmas.Bool.{true≢false, eqb-true, eq-eqb, and_parts}
use Rattle.hp_states.proofs.Basics.{same_some, none_some}
use Rattle.hp_event.specs.Hows.{is_called}
use Rattle.hp_event.specs.declared.how.How.{How}
use Rattle.hp_model.specs.How.{answer_at}
use Rattle.hp_model.specs.Lent.{calls_at}
use Rattle.hp_model.specs.NextEvent.{due_entry}
use Rattle.hp_account.specs.declared.under_way.Entry.{Entry}
use Rattle.hp_account.specs.declared.under_way.MadeBy.TheVariants.{Hook}
use Rattle.hp_account.specs.Entries.{entry_event, how_by}
use Rattle.hp_table.specs.Step.{step_at, is_home}
use Rattle.hp_board.specs.Contents.{Contents}
use Rattle.hp_board.specs.Loans.{is_hook, CallsAway, IsCalm}
use Rattle.hp_board.proofs.Loans.{asks_hook, called_by_hook, disarms_not}

abbrev how_of : Contents → Entry → How
how_of b x = how_by x (answer_at b.head b.events x.cpu x.key.state x.key.inst x.dir)

abbrev HomeIfCalled : Contents → Entry → Type 0
HomeIfCalled b x = x.made_by ≡ Hook → is_home (step_at b.places x.key.state) ≡ true

pub calls_away : (b : Contents) (by : ℕ) (x : Entry) → due_entry b.head b.events by ≡ Some (entry_event b.head b.events x) → x.made_by ≡ Hook →
    is_home (step_at b.places x.key.state) ≡ false → CallsAway b x.key.state (due_entry b.head b.events by)
calls_away b by x due made_by away =
    let called = asks_hook b.head b.events x ∙ ap is_hook made_by in
    record {
      event = entry_event b.head b.events x;
      next_is = due;
      calls = ap (λ z. z && is_called (how_of b x)) (eq-eqb x.key.state x.key.state refl) ∙ called;
      away = away;
    }

pub one_away : (b : Contents) (by s : ℕ) (x : Entry) → due_entry b.head b.events by ≡ Some (entry_event b.head b.events x) →
    CallsAway b s (due_entry b.head b.events by) → x.key.state ≡ s
one_away b by s x due w =
    let same = same_some w.event (entry_event b.head b.events x) (sym w.next_is ∙ due) in
    let calls : calls_at s (entry_event b.head b.events x) ≡ true = ap (calls_at s) (sym same) ∙ w.calls in
    eqb-true x.key.state s (and_parts (eqb x.key.state s) (is_called (how_of b x)) calls).0

-- an entry that calls no hook but one that is home
home_at : (b : Contents) (x : Entry) → HomeIfCalled b x → (s : ℕ) → calls_at s (entry_event b.head b.events x) ≡ true →
    is_home (step_at b.places s) ≡ true
home_at b x home s calls =
    let p = and_parts (eqb x.key.state s) (is_called (how_of b x)) calls in
    subst (λ z. is_home (step_at b.places z) ≡ true) (eqb-true x.key.state s p.0) (home (called_by_hook b.head b.events x p.1))

pub none_away : (b : Contents) (by s : ℕ) (x : Entry) → due_entry b.head b.events by ≡ Some (entry_event b.head b.events x) →
    HomeIfCalled b x → CallsAway b s (due_entry b.head b.events by) → ⊥
none_away b by s x due home w =
    let same = same_some w.event (entry_event b.head b.events x) (sym w.next_is ∙ due) in
    true≢false (sym (home_at b x home s (ap (calls_at s) (sym same) ∙ w.calls)) ∙ w.away)

pub calm_entry : (b : Contents) (x : Entry) → HomeIfCalled b x → IsCalm b (entry_event b.head b.events x)
calm_entry b x home = (
  λ s o. disarms_not b.events o.seat o.cpu s o.inst o.dir o.how (entry_event b.head b.events x) refl,
  home_at b x home,
)

-- where nothing is due nothing is called
pub idle_calls : (b : Contents) (by s : ℕ) → due_entry b.head b.events by ≡ None → CallsAway b s (due_entry b.head b.events by) → ⊥
idle_calls b by s none w = none_some w.event (sym none ∙ w.next_is)
