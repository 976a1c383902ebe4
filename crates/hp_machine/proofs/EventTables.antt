-- What an event that stands changes in the table: what it asks of the table is there, and what the table then has is of the journal
-- with the event.
use Rattle.std.proofs.Common.{◌≡◌, ℕ, ◌+◌, ◌<◌, ◌≤◌, Bool, true, false, cond, Option, Some, None, List, [], ◌∷◌, ◌++◌, length, inl, inr, refl, sym, ap, ◌∙◌, subst, arith}
use Rattle.std.proofs.lemmas.Bool.{true≢false}
use Rattle.hp_states.specs.declared.limits.TheConstants.{MAX_EVENTS}
use Rattle.hp_states.specs.declared.dir.Dir.{Dir}
use Rattle.hp_states.specs.declared.dir.Dir.TheVariants.{Up, Down}
use Rattle.hp_states.specs.Rules.{site_at}
use Rattle.hp_states.specs.Sections.{can_fail}
use Rattle.hp_event.specs.declared.head.Head.{Head}
use Rattle.hp_event.specs.declared.how.How.{How}
use Rattle.hp_event.specs.declared.how.How.TheVariants as how
use Rattle.hp_event.specs.declared.event.Event.{Event}
use Rattle.hp_event.specs.declared.event.Event.TheVariants.{Call}
use Rattle.hp_model.specs.Calls.{sub_at, is_called}
use Rattle.hp_model.specs.How.{how_answered, answer_at as answer_of_plan, takes_fault, is_nocalls}
use Rattle.hp_model.specs.Lawful.{Stands, IsLawful}
use Rattle.hp_model.specs.StandsCalls.{Calls}
use Rattle.hp_model.specs.Subsystems.{has_callback}
use Rattle.hp_model.proofs.RoomKept.{event_fits}
use Rattle.hp_model.proofs.Laws.{sites_few}
use Rattle.hp_hook.specs.Counted.{Counts}
use Rattle.hp_table.specs.Kept.{answer_at}
use Rattle.hp_table.specs.Step.{Step, step_at, called_step, changed_at}
use Rattle.hp_account.specs.Table.{IsTableOf, IsStepOf}
use Rattle.hp_machine.proofs.HookAnswers.{none_there, answers_there}
use Rattle.hp_account.proofs.TableMore.{table_called}

-- an entry that called a hook is made by what the subsystem's plan answers
pub record IsAnswered (head : Head) (es : List Event) (c s i : ℕ) (d : Dir) (made : How) : Type 0 where
  pub may_fail : Bool
  pub has : has_callback (sub_at head s es) d ≡ true
  pub how_is : made ≡ how_answered may_fail (answer_of_plan head es c s i d)

walk_answered : (has injected : Bool) (answered : How) → is_called (cond has (cond injected how.Injected answered) how.Empty) ≡ true →
    (has ≡ true) × (cond has (cond injected how.Injected answered) how.Empty ≡ answered)
walk_answered true true answered h = absurd (true≢false (sym h))
walk_answered true false answered h = (refl, refl)
walk_answered false injected answered h = absurd (true≢false (sym h))

registration_answered : (none has : Bool) (answered : How) → is_called (cond none how.Presumed (cond has answered how.Empty)) ≡ true →
    (has ≡ true) × (cond none how.Presumed (cond has answered how.Empty) ≡ answered)
registration_answered true has answered h = absurd (true≢false (sym h))
registration_answered false true answered h = (refl, refl)
registration_answered false false answered h = absurd (true≢false (sym h))

pub is_answered : (head : Head) (es : List Event) (seat c s i : ℕ) (d : Dir) (made : How) → Calls head es seat c s i d made →
    is_called made ≡ true → IsAnswered head es c s i d made
is_answered head es seat c s i d made (inl b) called =
    let e = b.entry in
    let w =
    walk_answered (has_callback (sub_at head s es) d) (takes_fault es c s d e.slot.place e.slot.first)
    (how_answered (can_fail d s e.slot.place) (answer_of_plan head es c s i d)) (ap is_called (sym e.how_is) ∙ called) in
    record { may_fail = can_fail d s e.slot.place; has = w.0; how_is = e.how_is ∙ w.1 }
is_answered head es seat c s i d made (inr b) called =
    let e = b.entry in
    let w =
    registration_answered (is_nocalls e.of.op) (has_callback (sub_at head s es) d)
    (how_answered (can_fail d s e.slot.place) (answer_of_plan head es c s i d)) (ap is_called (sym e.how_is) ∙ called) in
    record { may_fail = can_fail d s e.slot.place; has = w.0; how_is = e.how_is ∙ w.1 }

no_callback : (d : Dir) → has_callback None d ≡ false
no_callback Up = refl
no_callback Down = refl

-- its state stands in the table, its hook can be called once more, and has then counted the call
pub record CallsHook (head : Head) (es : List Event) (places : List (Option Step)) (seat c s i : ℕ) (d : Dir) (made : How) : Type 0 where
  pub step : Step
  pub there : step_at places s ≡ Some step
  pub few : step.kept.counts.made < MAX_EVENTS
  pub after : IsTableOf head (es ++ Call seat c s i d made ∷ []) (changed_at places s (called_step (site_at c i d)))

pub calls_hook : (head : Head) (es : List Event) (places : List (Option Step)) (seat c s i : ℕ) (d : Dir) (made : How) → IsLawful head es →
    IsTableOf head es places → Stands head es (Call seat c s i d made) → is_called made ≡ true → CallsHook head es places seat c s i d made
calls_hook head es places seat c s i d made lawful t stands called = go (step_at places s) refl
  where
    a : IsAnswered head es c s i d made
    a = is_answered head es seat c s i d made stands.0 called

    room : length es + 1 ≤ MAX_EVENTS
    room = event_fits head es (Call seat c s i d made) lawful stands

    go : (o : Option Step) → step_at places s ≡ o → CallsHook head es places seat c s i d made
    go None is =
        absurd (true≢false (sym a.has ∙ ap (λ o. has_callback o d) (none_there head es places s t is) ∙ no_callback d))
    go (Some step) is =
        let k : IsStepOf head es s step = rw is at (t.steps s) in
        let few = sites_few s es in
        let made_is = ap (λ (x : Counts). x.made) k.counts_are in
        let how_is : made ≡ how_answered a.may_fail (answer_at step.kept (site_at c i d)) =
        a.how_is ∙ ap (how_answered a.may_fail) (sym (answers_there head es places c s i d step t is)) in
        record {
          step = step;
          there = is;
          few = omega (arith, few, made_is, room);
          after =
              subst (λ h. IsTableOf head (es ++ Call seat c s i d h ∷ []) (changed_at places s (called_step (site_at c i d)))) (sym how_is)
              (table_called head es places seat c s i d a.may_fail step is t);
        }
