-- What a freeze, a thaw or a boot in flight has done and has still to do.
use Rattle.std.proofs.Common.{◌≡◌, ℕ, Bool, true, false, not, eqb, ltb, Some, List, [], ◌∷◌, ◌++◌}
use Rattle.std.specs.Prelude.{filter}
use Rattle.std.specs.List.{AllZip}
use Rattle.hp_states.specs.Sections.{is_online_state}
use Rattle.hp_event.specs.declared.op.Op.{Op}
use Rattle.hp_event.specs.declared.op.Op.TheVariants.{Boot, Freeze, Thaw}
use Rattle.hp_event.specs.declared.answer.Answer.{Answer}
use Rattle.hp_event.specs.declared.head.Head.{Head}
use Rattle.hp_event.specs.declared.event.Event.{Event}
use Rattle.hp_model.specs.Lists.{occurs, among, numbers}
use Rattle.hp_model.specs.Walks.{Walk, walk, walking}
use Rattle.hp_model.specs.MapLock.{Operation, operation}
use Rattle.hp_model.specs.Settled.{settled}
use Rattle.hp_model.specs.Processors.{is_present, online}
use Rattle.hp_model.specs.Suspend.{is_ok, is_freeze, held_by, frozen}
use Rattle.hp_model.specs.Batch.{is_upmany}
use Rattle.hp_model.specs.Sequence.{begun, answers, failures, primary_of}
use Rattle.hp_suspend.specs.Booting.{is_fault}

abbrev pub walks_many : Op → Bool
walks_many (Freeze p) = true
walks_many Thaw = true
walks_many (Boot n) = true
walks_many _ = false

-- the states from which it walks a processor
abbrev pub walks_from : Op → (state : ℕ) → Bool
walks_from (Freeze p) s = is_online_state s
walks_from Thaw s = ltb s 200
walks_from (Boot n) s = not (is_online_state s)
walks_from _ s = false

-- and the state to which it does
abbrev pub aim : Op → ℕ
aim (Freeze p) = 0
aim Thaw = 200
aim (Boot n) = 200
aim _ = 0

-- the processors of which it walks those that stand so
abbrev pub concerned : Head → Op → (entered : List Event) → List ℕ
concerned head (Freeze p) entered = filter (λ c. not (eqb c (primary_of p (online head entered)))) (numbers head.possible)
concerned head Thaw entered = frozen entered
concerned head (Boot n) entered = filter (λ c. is_present head c) (numbers head.possible)
concerned head _ entered = []

-- all that it would walk, in rising number
abbrev pub task : Head → Op → (entered : List Event) → List ℕ
task head op entered = filter (λ c. walks_from op (settled c entered)) (concerned head op entered)

-- whether a processor still stands where it would be walked from, by the answer of its walk
abbrev pub Left : Op → (stands : Bool) → Answer → Type 0
Left (Freeze p) stands answer = is_ok answer ≡ true → stands ≡ false
Left Thaw stands answer = stands ≡ not (is_ok answer)
Left (Boot n) stands answer = stands ≡ is_fault answer
Left _ stands answer = Unit {0}

abbrev pub AreLeft : Op → List Event → List ℕ → List Answer → Type 0
AreLeft op events cpus given = AllZip (λ c answer. Left op (walks_from op (settled c events)) answer) cpus given

-- what a freeze has recorded so far
pub record Recording (task done : List ℕ) (events : List Event) : Type 0 where
  pub more : List ℕ
  pub front : task ≡ frozen events ++ more
  pub whole : failures (answers events) ≡ [] → frozen events ≡ done
  pub going : (c : ℕ) (w : Walk) → walk c events ≡ Some w → failures (answers events) ≡ []

pub record InSequence (head : Head) (op : Op) (entered events : List Event) : Type 0 where
  pub done : List ℕ
  pub rest : List ℕ
  pub task_is : task head op entered ≡ done ++ (walking events ++ rest)
  pub begun_is : begun events ≡ done ++ walking events
  pub unchanged : (c : ℕ) → occurs c done ≡ 0 → settled c events ≡ settled c entered
  pub left : AreLeft op events done (answers events)
  pub aimed : (c : ℕ) (w : Walk) → walk c events ≡ Some w → w.to ≡ aim op
  pub recorded : is_freeze op ≡ true → Recording (task head op entered) done events
  pub kept : is_freeze op ≡ false → frozen events ≡ frozen entered

-- at most one
abbrev pub IsSingle : List ℕ → Type 0
IsSingle [] = Unit {0}
IsSingle (c ∷ []) = Unit {0}
IsSingle (c ∷ (d ∷ cs)) = ⊥

-- what every lawful journal keeps of it
pub record Sequenced (head : Head) (events : List Event) : Type 0 where
  pub listed : frozen events ≡ filter (λ c. among c (frozen events)) (numbers head.possible)
  pub single : held_by is_upmany (operation events) ≡ false → IsSingle (walking events)
  pub at : (o : Operation) → operation events ≡ Some o → walks_many o.op ≡ true → InSequence head o.op o.before events
