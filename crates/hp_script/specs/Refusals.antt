-- Why a line is refused, after what stood before it; and what is refused at the end of the input. This project's own.
use Rattle.std.specs.Prelude.{ℕ, Bool, true, false, not, ◌&&◌, ◌||◌, nat_le, nat_lt, List, [], ◌∷◌, Option, Some, None, Ok, Err, if◌then◌else◌}
use Rattle.hp_states.specs.declared.limits.TheConstants.{MAX_SUBS, MAX_RULES, MAX_ACTORS, MAX_OPERATIONS}
use Rattle.hp_event.specs.declared.op.Op.TheVariants as op
use Rattle.hp_event.specs.Ops.{is_setup}
use Rattle.hp_text.specs.declared.unread.Unread.TheVariants.{NotOfForm, OutOfRange}
use Rattle.hp_text.specs.Readings.{Reading}
use Rattle.hp_script.specs.declared.error.ScriptKind.{ScriptKind}
use Rattle.hp_script.specs.declared.error.ScriptKind.TheVariants.{BadByte, NoCpus, BadWord, BadOrder, StillLocked, BadForm, BadNumber, NoSub, TooMany, NoActor}
use Rattle.hp_script.specs.declared.verb.Verb.{Verb}
use Rattle.hp_script.specs.declared.verb.Verb.TheVariants as verb
use Rattle.hp_script.specs.declared.before.Group.{Group}
use Rattle.hp_script.specs.declared.before.Group.TheVariants as group
use Rattle.hp_script.specs.declared.before.Before.{Before}
use Rattle.hp_script.specs.declared.statement.Statement.{Statement}
use Rattle.hp_script.specs.declared.statement.Statement.TheVariants as says
use Rattle.hp_script.specs.Words.{words, has_bad_byte, is_skipped}
use Rattle.hp_script.specs.Verbs.{verb_of}
use Rattle.hp_script.specs.Statements.{statement_behind}
use Rattle.hp_script.specs.Ranges.{is_in_range}

-- ---- the conditions

-- a first word of no line
abbrev pub is_unknown : Option Verb → Bool
is_unknown None = true
is_unknown (Some verb) = false

abbrev pub is_cpus : Option Verb → Bool
is_cpus (Some verb.Cpus) = true
is_cpus _ = false

abbrev pub is_actor : Option Verb → Bool
is_actor (Some verb.Actor) = true
is_actor _ = false

-- no line that isn't skipped stood before
abbrev pub is_first : Group → Bool
is_first group.Nothing = true
is_first _ = false

abbrev pub is_behind_cpus : Group → Bool
is_behind_cpus group.Cpus = true
is_behind_cpus _ = false

abbrev pub is_among_subs : Group → Bool
is_among_subs group.Subs = true
is_among_subs _ = false

abbrev pub is_among_actors : Group → Bool
is_among_actors group.Actors = true
is_among_actors _ = false

-- no schedule and no actor stood before
abbrev pub is_before_schedule : Group → Bool
is_before_schedule group.Cpus = true
is_before_schedule group.Absent = true
is_before_schedule group.Subs = true
is_before_schedule _ = false

-- The lines stand in this order: one `cpus`; at most one `absent`; any number of `sub` lines, each followed by its
-- `rule` lines; at most one `schedule`; `actor` lines, each followed by its operations.
abbrev pub can_stand : Group → Verb → Bool
can_stand g verb.Cpus = is_first g
can_stand g verb.Absent = is_behind_cpus g
can_stand g verb.Sub = is_before_schedule g
can_stand g verb.Rule = is_among_subs g
can_stand g verb.Schedule = is_before_schedule g
can_stand g verb.Actor = not (is_first g)
can_stand g operation = is_among_actors g

abbrev pub stands : Group → Option Verb → Bool
stands g None = false
stands g (Some verb) = can_stand g verb

-- the words aren't of the form
abbrev pub is_unformed : Reading Statement → Bool
is_unformed (Err NotOfForm) = true
is_unformed _ = false

-- they are, and a number is out of its range
abbrev pub is_out_of_range : (possible : ℕ) → Reading Statement → Bool
is_out_of_range possible (Ok statement) = not (is_in_range possible statement)
is_out_of_range possible (Err OutOfRange) = true
is_out_of_range possible (Err NotOfForm) = false

-- whether this is said, and passes the test
abbrev pub says_one_that : (test : Statement → Bool) → Reading Statement → Bool
says_one_that test (Ok statement) = test statement
says_one_that test (Err unread) = false

-- a setup of a subsystem above the number of those that stood before
abbrev pub names_no_sub : (subs : ℕ) → Statement → Bool
names_no_sub subs (says.Operation (op.Setup state sub form)) = nat_lt subs sub
names_no_sub subs _ = false

-- the 129th `sub`, the 9th `rule` of a sub, the 33rd `actor`, the 4,097th operation of an actor, or a setup that
-- would be one more than there are hooks
abbrev pub is_too_many : (hooks : ℕ) → Before → Statement → Bool
is_too_many hooks b (says.Sub sub) = nat_le MAX_SUBS b.subs
is_too_many hooks b (says.Rule rule) = nat_le MAX_RULES b.rules
is_too_many hooks b says.Actor = nat_le MAX_ACTORS b.actors
is_too_many hooks b (says.Operation op) = nat_le MAX_OPERATIONS b.ops || (is_setup op && nat_le hooks b.setups)
is_too_many hooks b _ = false

-- ---- of one line

-- the first kind whose condition holds
abbrev pub first_of : List (Bool × ScriptKind) → Option ScriptKind
first_of [] = None
first_of (row ∷ rows) = if row.0 then Some row.1 else first_of rows

-- what is wrong with a line of this first word, after what stood before: the conditions in their order
abbrev pub wrongs : (hooks : ℕ) → Before → Option Verb → Reading Statement → List (Bool × ScriptKind)
wrongs hooks b verb said =
    (is_first b.group && not (is_cpus verb), NoCpus)
    ∷ (is_unknown verb, BadWord)
    ∷ (not (stands b.group verb), BadOrder)
    ∷ (is_actor verb && b.locked, StillLocked)
    ∷ (is_unformed said, BadForm)
    ∷ (is_out_of_range b.possible said, BadNumber)
    ∷ (says_one_that (names_no_sub b.subs) said, NoSub)
    ∷ (says_one_that (is_too_many hooks b) said, TooMany)
    ∷ []

abbrev pub refusal_of_words : (hooks : ℕ) → Before → (words : List (List ℕ)) → Option ScriptKind
refusal_of_words hooks b [] = None
refusal_of_words hooks b (first ∷ rest) =
    first_of (wrongs hooks b (verb_of first) (statement_behind (verb_of first) rest))

-- the first kind that holds of the line; of a line that is skipped, a bad byte alone
abbrev pub refusal : (hooks : ℕ) → Before → (line : List ℕ) → Option ScriptKind
refusal hooks b line =
    if has_bad_byte line then Some BadByte
    else (if is_skipped (words line) then None else refusal_of_words hooks b (words line))

-- ---- at the end

abbrev pub refusal_at_end : Before → Option ScriptKind
refusal_at_end b =
    first_of ((is_first b.group, NoCpus) ∷ (not (is_among_actors b.group), NoActor) ∷ (b.locked, StillLocked) ∷ [])
