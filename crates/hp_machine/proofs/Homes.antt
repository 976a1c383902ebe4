-- Where every hook is there, it is so after any event.
use Rattle.std.proofs.Common.{◌≡◌, ℕ, zero, suc, Bool, true, false, cond, Option, Some, None, List, [], ◌∷◌, refl}
use Rattle.std.specs.Prelude.{slice_set}
use Rattle.hp_event.specs.declared.answer.Answer.{Answer}
use Rattle.hp_event.specs.declared.head.Head.{Head}
use Rattle.hp_event.specs.declared.head.Sub.{Sub}
use Rattle.hp_event.specs.declared.op.Op.{Op}
use Rattle.hp_event.specs.declared.op.Op.TheVariants.{Setup, Add, Del}
use Rattle.hp_event.specs.declared.event.Event.{Event}
use Rattle.hp_event.specs.declared.event.Event.TheVariants.{Call, RegBegin, RegEnd}
use Rattle.hp_event.specs.Heads.{sub_numbered}
use Rattle.hp_event.specs.Hows.{is_called}
use Rattle.hp_states.specs.Rules.{site_at}
use Rattle.hp_model.specs.Registrations.{Registration, registration}
use Rattle.hp_table.specs.Instances.{with_instance, without_instance}
use Rattle.hp_table.specs.Step.{Step, step_at, changed, changed_at, called_step, is_home, AllHome}
use Rattle.hp_account.specs.TableChanges.{with_record, with_added, takes_out, taken_out, without_left, left_at_end, table_after}

pub home_set : (places : List (Option Step)) (s : ℕ) (place : Option Step) → is_home place ≡ true → AllHome places →
    AllHome (slice_set places s place)
home_set [] s place h all t = all t
home_set (x ∷ xs) zero place h all zero = h
home_set (x ∷ xs) zero place h all (suc t) = all (suc t)
home_set (x ∷ xs) (suc s) place h all zero = all zero
home_set (x ∷ xs) (suc s) place h all (suc t) = home_set xs s place h (λ u. all (suc u)) t

pub home_changed : (places : List (Option Step)) (s : ℕ) (f : Step → Step) →
    ((step : Step) → step.kept.home ≡ true → (f step).kept.home ≡ true) → AllHome places → AllHome (changed_at places s f)
home_changed places s f keeps all = home_set places s (changed f (step_at places s)) (go (step_at places s) (all s)) all
  where
    go : (place : Option Step) → is_home place ≡ true → is_home (changed f place) ≡ true
    go None h = refl
    go (Some step) h = keeps step h

home_added : (head : Head) (op : Op) (s : ℕ) (places : List (Option Step)) → AllHome places → AllHome (with_added head op s places)
home_added head (Setup asked sub form) s places all = go (sub_numbered head sub)
  where
    go : (found : Option Sub) → AllHome (with_record places s sub found)
    go None = all
    go (Some found) = home_set places s _ refl all
home_added head (Add state inst form) s places all = home_changed places s (with_instance inst) (λ step h. h) all
home_added head op s places all = all

home_out : (op : Op) (s : ℕ) (places : List (Option Step)) → AllHome places → AllHome (taken_out op s places)
home_out (Add state inst form) s places all = home_changed places s (without_instance inst) (λ step h. h) all
home_out (Del state inst form) s places all = home_changed places s (without_instance inst) (λ step h. h) all
home_out op s places all = home_set places s None refl all

home_left : (op : Op) (answer : Answer) (s : ℕ) (places : List (Option Step)) → AllHome places → AllHome (without_left op answer s places)
home_left op answer s places all = go (takes_out op answer)
  where
    go : (b : Bool) → AllHome (cond b (taken_out op s places) places)
    go true = home_out op s places all
    go false = all

home_end : (r : Option Registration) (answer : Answer) (places : List (Option Step)) → AllHome places →
    AllHome (left_at_end r answer places)
home_end None answer places all = all
home_end (Some r) answer places all = home_left r.op answer r.state places all

pub home_after : (head : Head) (es : List Event) (e : Event) (places : List (Option Step)) → AllHome places →
    AllHome (table_after head es e places)
home_after head es (RegBegin seat state op) places all = home_added head op state places all
home_after head es (RegEnd seat answer) places all = home_end (registration es) answer places all
home_after head es (Call seat cpu state inst dir how) places all = go (is_called how)
  where
    go : (b : Bool) → AllHome (cond b (changed_at places state (called_step (site_at cpu inst dir))) places)
    go true = home_changed places state (called_step (site_at cpu inst dir)) (λ step h. refl) all
    go false = all
home_after head es e places all = all
