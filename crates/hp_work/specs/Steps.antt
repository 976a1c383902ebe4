-- Queues among the events of a journal: any puts and runs stand between its events; and the order of two items. This
-- project's own.
use Rattle.std.specs.Prelude.{◌≡◌, ◌⊎◌, ℕ, ◌<◌, Bool, true, false, ◌&&◌, nat_lt, if◌then◌else◌, List, ◌∷◌, ◌++◌, fold, All}
use Rattle.hp_states.specs.declared.limits.TheConstants.{MAX_CPU_SET}
use Rattle.hp_states.specs.declared.dir.Dir.TheVariants.{Down}
use Rattle.hp_model.specs.InForce.{is_done_entry}
use Rattle.hp_work.specs.declared.limits.TheConstants.{MAX_ITEMS}
use Rattle.hp_work.specs.declared.law.Step.{Step}
use Rattle.hp_work.specs.declared.law.Step.TheVariants.{Follow, Put, Run}
use Rattle.hp_work.specs.Lists.{times, list}
use Rattle.hp_work.specs.Work.{Work, is_open, none_put}
use Rattle.hp_work.specs.Changes.{followed, put_on, ran_on}
use Rattle.hp_work.specs.Follows.{HasQueue}

-- an item is put on a processor: it is open, and there is room
abbrev pub takes : (cpu : ℕ) → Work → Bool
takes c w = is_open w c && nat_lt w.put MAX_ITEMS

-- what a step makes of queues
abbrev pub after_step : Work → Step → Work
after_step w (Follow event) = followed event w
after_step w (Put cpu) = if takes cpu w then put_on cpu w else w
after_step w (Run cpu) = ran_on cpu w

-- and what some steps do, in order
abbrev pub after : List Step → Work → Work
after steps w = fold after_step w steps

-- there is a queue for the processor of a step, if it has one
abbrev pub HasQueueOf : Step → Type 0
HasQueueOf (Follow event) = HasQueue event
HasQueueOf (Put cpu) = cpu < MAX_CPU_SET
HasQueueOf (Run cpu) = cpu < MAX_CPU_SET

-- a step moves the queue of a processor nowhere: it follows no done downward entry of the state there
abbrev pub IsNoMove : (state cpu : ℕ) → Step → Type 0
IsNoMove s c (Follow event) = is_done_entry c s 0 Down event ≡ false
IsNoMove s c _ = Unit {0}

-- an item stands before another in a list
pub record IsBefore (xs : List ℕ) (one other : ℕ) : Type 0 where
  pub front : List ℕ
  pub between : List ℕ
  pub behind : List ℕ
  pub is : xs ≡ front ++ one ∷ (between ++ other ∷ behind)

-- both stand in one queue or in the unbound list, the one before the other
pub record WaitsBefore (w : Work) (one other : ℕ) : Type 0 where
  pub place : ℕ
  pub there : IsBefore (list w.lists place) one other

-- the one has run, and the other hasn't
abbrev pub RanAlone : Work → (one other : ℕ) → Type 0
RanAlone w one other = (0 < times one w.ran) × (times other w.ran ≡ 0)

-- the one comes before the other
abbrev pub ComesBefore : Work → (one other : ℕ) → Type 0
ComesBefore w one other = IsBefore w.ran one other ⊎ (WaitsBefore w one other ⊎ RanAlone w one other)

-- Two items are put on one processor, and no step between the two puts moves its queue: after any steps the first comes
-- before the second.
abbrev pub KeepsOrder : (state cpu : ℕ) → (before between behind : List Step) → Type 0
KeepsOrder s c before between behind =
    let first : Work = after before (none_put s) in
    let second : Work = after between (put_on c first) in
    c < MAX_CPU_SET → All HasQueueOf before → All HasQueueOf between → All HasQueueOf behind → All (IsNoMove s c) between →
    takes c first ≡ true → takes c second ≡ true →
    ComesBefore (after behind (put_on c second)) first.put second.put
