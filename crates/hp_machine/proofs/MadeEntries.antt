-- How an entry is made that is due, by the hook that stands there or without it.
use Rattle.std.proofs.Common.{◌≡◌, ℕ, ◌<◌, true, false, cond, Option, Some, List, [], ◌∷◌, ◌++◌, refl, sym, ap, ◌∙◌, subst}
use Rattle.hp_states.specs.declared.limits.TheConstants.{MAX_EVENTS}
use Rattle.hp_states.specs.Rules.{site_at}
use Rattle.hp_states.specs.Sections.{can_fail}
use Rattle.hp_event.specs.declared.how.How.{How}
use Rattle.hp_event.specs.declared.head.Head.{Head}
use Rattle.hp_event.specs.declared.event.Event.{Event}
use Rattle.hp_event.specs.Hows.{is_called, how_answered}
use Rattle.hp_model.specs.How.{answer_at as answer_of_plan}
use Rattle.hp_model.specs.Lawful.{Stands, IsLawful}
use Rattle.hp_table.specs.Kept.{answer_at}
use Rattle.hp_table.specs.Step.{Step, step_at, changed_at, called_step}
use Rattle.hp_account.specs.declared.under_way.Entry.{Entry}
use Rattle.hp_account.specs.declared.under_way.MadeBy.{MadeBy}
use Rattle.hp_account.specs.declared.under_way.MadeBy.TheVariants.{Presumed, Empty, Injected, Hook}
use Rattle.hp_account.specs.Entries.{entry_event, entry_made, how_by, how_made_by}
use Rattle.hp_account.specs.Table.{IsTableOf}
use Rattle.hp_account.specs.TableChanges.{table_after}
use Rattle.hp_machine.proofs.EventTables.{calls_hook}
use Rattle.hp_machine.proofs.HookAnswers.{answers_there}
use Rattle.hp_account.proofs.TableMore.{table_same, answered_called}

-- the state's hook stands there, can be called, and its answer decides
pub record IsByHook (head : Head) (es : List Event) (places : List (Option Step)) (x : Entry) : Type 0 where
  pub step : Step
  pub there : step_at places x.key.state ≡ Some step
  pub few : step.kept.counts.made < MAX_EVENTS
  pub event_is : entry_made x (how_by x (answer_at step.kept (site_at x.cpu x.key.inst x.dir))) ≡ entry_event head es x
  pub changed_is :
      table_after head es (entry_event head es x) places
      ≡ changed_at places x.key.state (called_step (site_at x.cpu x.key.inst x.dir))
  pub after : IsTableOf head (es ++ entry_event head es x ∷ []) (table_after head es (entry_event head es x) places)

called_by_hook : (x : Entry) (code : ℕ) → x.made_by ≡ Hook → is_called (how_by x code) ≡ true
called_by_hook x code is =
    ap (λ m. is_called (how_made_by m (how_answered (can_fail x.dir x.key.state x.place) code))) is
    ∙ answered_called (can_fail x.dir x.key.state x.place) code

pub by_hook : (head : Head) (es : List Event) (places : List (Option Step)) (x : Entry) → IsLawful head es → IsTableOf head es places →
    Stands head es (entry_event head es x) → x.made_by ≡ Hook → IsByHook head es places x
by_hook head es places x lawful t stands is =
    let code = answer_of_plan head es x.cpu x.key.state x.key.inst x.dir in
    let called = called_by_hook x code is in
    let h = calls_hook head es places x.seat x.cpu x.key.state x.key.inst x.dir (how_by x code) lawful t stands called in
    let changed : table_after head es (entry_event head es x) places
    ≡ changed_at places x.key.state (called_step (site_at x.cpu x.key.inst x.dir)) =
    ap (λ b. cond b (changed_at places x.key.state (called_step (site_at x.cpu x.key.inst x.dir))) places) called in
    record {
      step = h.step;
      there = h.there;
      few = h.few;
      event_is =
          ap (λ n. entry_made x (how_by x n)) (answers_there head es places x.cpu x.key.state x.key.inst x.dir h.step t h.there);
      changed_is = changed;
      after = subst (IsTableOf head (es ++ entry_event head es x ∷ [])) (sym changed) h.after;
    }

-- no hook is called, whatever it would answer
pub record IsWithoutHook (head : Head) (es : List Event) (places : List (Option Step)) (x : Entry) (code : ℕ) : Type 0 where
  pub event_is : entry_made x (how_by x code) ≡ entry_event head es x
  pub changed_is : table_after head es (entry_event head es x) places ≡ places
  pub after : IsTableOf head (es ++ entry_event head es x ∷ []) places

without : (m : MadeBy) (a b : How) → (m ≡ Hook → ⊥) → (how_made_by m a ≡ how_made_by m b) × (is_called (how_made_by m b) ≡ false)
without Presumed a b other = (refl, refl)
without Empty a b other = (refl, refl)
without Injected a b other = (refl, refl)
without Hook a b other = absurd (other refl)

pub without_hook : (head : Head) (es : List Event) (places : List (Option Step)) (x : Entry) (code : ℕ) → IsTableOf head es places →
    (x.made_by ≡ Hook → ⊥) → IsWithoutHook head es places x code
without_hook head es places x code t other =
    let may = can_fail x.dir x.key.state x.place in
    let other_code = answer_of_plan head es x.cpu x.key.state x.key.inst x.dir in
    let w = without x.made_by (how_answered may code) (how_answered may other_code) other in
    let e = entry_event head es x in
    record {
      event_is = ap (entry_made x) w.0;
      changed_is = ap (λ b. cond b (changed_at places x.key.state (called_step (site_at x.cpu x.key.inst x.dir))) places) w.1;
      after = table_same head es places e w.1 t;
    }
