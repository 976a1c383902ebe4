-- What is said where a reader of a version went over some of the lines: one stage leads to another over those that it took; or, from
-- a stage, one of them is refused. Memory may be wanting anywhere. This project's own.
use Rattle.std.specs.Prelude.{◌≡◌, ℕ, ◌+◌, List, [], ◌∷◌, ◌++◌, length, Option, Some, None}
use Rattle.hp_event.specs.declared.head.Sub.{Sub}
use Rattle.hp_event.specs.declared.head.Head.{Head}
use Rattle.hp_event.specs.declared.version.Version.{Version}
use Rattle.hp_replay.specs.declared.error.ReplayError.{ReplayError}
use Rattle.hp_replay.specs.declared.error.ReplayError.TheVariants.{Bad, NoMemory}
use Rattle.hp_replay.specs.Stages.{Stage, headed, ruled, Step, with_sub, headed_step, ruled_step, step}
use Rattle.hp_replay.specs.HeadLines.{HeadLine}
use Rattle.hp_replay.specs.Judged.{refused, Leads, Refuses, Judged}
use Rattle.hp_replay.specs.LinesLeft.{LinesLeft}

-- from one stage to another over these lines
abbrev pub Passes : Version → Stage → List (List ℕ) → Stage → Type 0
Passes v s [] t = s ≡ t
Passes v s (l ∷ ls) t = (m : Stage) × Leads (step v s l) m × Passes v m ls t

-- some lines were taken, and over them one stage leads to the other
pub record GoesOver (v : Version) (before : LinesLeft) (from : Stage) (after : LinesLeft) (to : Stage) : Type 0 where
  pub taken : List (List ℕ)
  pub lines_are : before.lines ≡ taken ++ after.lines
  pub number_is : after.number ≡ before.number + length taken
  pub passes : Passes v from taken to

-- the line of this number is refused for what it does
abbrev pub RefusesLine : Step → (number : ℕ) → ReplayError → Type 0
RefusesLine step n (Bad line kind) = (line ≡ n) × Refuses step kind
RefusesLine step n NoMemory = Unit {0}

-- of the lines that are left, a first one is refused, or one is missing, from this stage
abbrev pub RefusedFrom : Version → Stage → LinesLeft → ReplayError → Type 0
RefusedFrom v stage left (Bad line kind) = Judged v stage left.number left.lines (refused line kind)
RefusedFrom v stage left NoMemory = Unit {0}

-- ---- the head so far, and the last subsystem with its rules so far

abbrev pub head_stage : Head → (last : Option Sub) → Stage
head_stage head None = headed head
head_stage head (Some sub) = ruled head sub

abbrev pub ended_head : Head → (last : Option Sub) → Head
ended_head head None = head
ended_head head (Some sub) = with_sub head sub

-- what a line behind those of the processors does
abbrev pub head_step : Head → (last : Option Sub) → HeadLine → Step
head_step head None said = headed_step head (Some said)
head_step head (Some sub) said = ruled_step head sub (Some said)
