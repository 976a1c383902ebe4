-- The lines that are written of the walks of a trace. This project's own.
use Rattle.std.specs.Prelude.{ℕ, List, [], ◌∷◌, ◌++◌, codes, decimal}
use Rattle.hp_trace_walk.specs.declared.walk.Wrong.{Wrong}
use Rattle.hp_trace_walk.specs.declared.walk.Wrong.TheVariants.{OutOfOrder, OutOfWalk, AfterFault, AfterSecondFault, NotDone, PartNotUndone, NoFault, NoStop, NoAnswer, NotThere, Starting, Shows}
use Rattle.hp_trace_judge.specs.declared.place.Way.{Way}
use Rattle.hp_trace_judge.specs.declared.place.Way.TheVariants.{Startup, Teardown, Registration, Begin, Answer}
use Rattle.hp_trace_judge.specs.declared.place.Misfit.{Misfit}
use Rattle.hp_trace_judge.specs.declared.walks.Walks.{Walks}
use Rattle.hp_trace_judge.specs.declared.walks.Walks.TheVariants as walks

abbrev pub way_word : Way → List ℕ
way_word Startup = codes "startup"
way_word Teardown = codes "teardown"
way_word Registration = codes "registration"
way_word Begin = codes "begin of a walk"
way_word Answer = codes "answer"

abbrev pub wrong_words : Wrong → List ℕ
wrong_words OutOfOrder = codes "out of order: its walk has passed that step"
wrong_words OutOfWalk = codes "not between where its walk begins and where it goes"
wrong_words AfterFault = codes "its walk goes on after a fault"
wrong_words AfterSecondFault = codes "its walk goes on after a second fault"
wrong_words NotDone = codes "undone, but not done"
wrong_words PartNotUndone = codes "of the instances that were called before a fault not all are undone"
wrong_words NoFault = codes "its walk goes back, and no step is left that can have failed"
wrong_words NoStop = codes "no walk stops where this one is to go"
wrong_words NoAnswer = codes "0 after a fault"
wrong_words NotThere = codes "0, and it isn't where it was to go"
wrong_words Starting = codes "no line shows a callback of this step"
wrong_words (Shows step) =
    codes "step "
    ++ (decimal step ++ codes " was called otherwise before, or it isn't undone, unless no line shows that it was registered again")

-- why a line can't be one of lawful walks
abbrev pub misfit_line : Misfit → List ℕ
misfit_line m =
    codes "error: line "
    ++ (decimal m.named.line
    ++ (codes ": "
    ++ (way_word m.named.way
    ++ (codes " of cpu "
    ++ (decimal m.named.cpu ++ (codes " at step " ++ (decimal m.named.step ++ (codes ": " ++ (wrong_words m.wrong ++ 10 ∷ [])))))))))

-- what stands before the counts
abbrev pub heading : Walks → List ℕ
heading walks.Lawful = codes "lawful"
heading (walks.Misfit m) = codes "lawful by its lines"
heading (walks.Far line) = codes "lawful by its lines"
heading walks.NoBorders = codes "lawful by its lines"

-- what of the walks isn't judged; where all are, there is no line
abbrev pub unjudged_line : Walks → List ℕ
unjudged_line walks.Lawful = []
unjudged_line (walks.Misfit m) = []
unjudged_line (walks.Far line) =
    codes "not judged: walks from line " ++ (decimal line ++ (codes " on, which has a step or a state above 511" ++ 10 ∷ []))
unjudged_line walks.NoBorders = codes "not judged: walks, since no line shows where a cpu is booted and taken down" ++ 10 ∷ []
