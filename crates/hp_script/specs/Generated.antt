-- The script that is generated of a seed and a size: twelve subsystems, a schedule of ten thousand drawn turns, and
-- six actors on eight processors. Its numbers are drawn from the seed, in the order of the lines. This project's own.
use Rattle.std.specs.Prelude.{◌≡◌, ℕ, zero, suc, ◌+◌, ◌%◌, ◌==◌, nat_lt, false, if◌then◌else◌, List, Vec, [], ◌∷◌, ◌++◌, map, codes, decimal}
use Rattle.std.specs.List.{flat_map}
use Rattle.hp_event.specs.declared.op.Form.{Form}
use Rattle.hp_event.specs.declared.op.Op.{Op}
use Rattle.hp_event.specs.declared.op.Op.TheVariants as op
use Rattle.hp_model.specs.Draws.{state_after, draw_of}
use Rattle.hp_model.specs.Words.{line, kind_word}
use Rattle.hp_model.specs.EventLine.{op_words}
use Rattle.hp_script.specs.declared.drawn.Drawn.{Drawn}
use Rattle.hp_script.specs.declared.drawn.Drawn.TheVariants as drawn

-- the state behind so many draws
abbrev pub state_behind : (draws state : ℕ) → ℕ
state_behind zero x = x
state_behind (suc n) x = state_behind n (state_after x)

-- the first draw below m from a state on, and the second
abbrev pub first_draw : (m state : ℕ) → ℕ
first_draw m x = draw_of m (state_behind 1 x)

abbrev pub second_draw : (m state : ℕ) → ℕ
second_draw m x = draw_of m (state_behind 2 x)

-- ---- what is drawn for an actor

-- the state with instances at this place of three
abbrev pub instanced_state : (place : ℕ) → ℕ
instanced_state place = if place == 0 then 42 else (if place == 1 then 120 else 180)

-- a state with instances, and an instance, drawn from a state on
abbrev pub instance_drawn : (state : ℕ) → ℕ × ℕ
instance_drawn x = (instanced_state (first_draw 3 x), 1 + second_draw 4 x)

-- by a draw below 8, and by those that follow it from a state on
abbrev pub drawn_by : (draw state : ℕ) → Drawn
drawn_by k x =
    if nat_lt k 2 then drawn.Up (first_draw 8 x)
    else (if nat_lt k 4 then drawn.Down (first_draw 8 x)
    else (if k == 4 then drawn.Section
    else (if k == 5 then drawn.Add (instanced_state (first_draw 3 x)) (1 + second_draw 4 x)
    else (if k == 6 then drawn.Del (instanced_state (first_draw 3 x)) (1 + second_draw 4 x)
    else drawn.Show (first_draw 8 x)))))

-- how many draws follow the first
abbrev pub draws_behind : Drawn → ℕ
draws_behind drawn.Section = 0
draws_behind (drawn.Add state inst) = 2
draws_behind (drawn.Del state inst) = 2
draws_behind other = 1

-- what is drawn from a state on, and the state behind it
abbrev pub one_drawn : (state : ℕ) → Drawn
one_drawn x = drawn_by (first_draw 8 x) (state_after x)

abbrev pub state_behind_one : (state : ℕ) → ℕ
state_behind_one x = state_behind (draws_behind (one_drawn x)) (state_after x)

-- so often, one behind the other, and the state behind all
abbrev pub all_drawn : (count state : ℕ) → List Drawn
all_drawn zero x = []
all_drawn (suc n) x = one_drawn x ∷ all_drawn n (state_behind_one x)

abbrev pub state_behind_all : (count state : ℕ) → ℕ
state_behind_all zero x = x
state_behind_all (suc n) x = state_behind_all n (state_behind_one x)

-- no flags
abbrev pub plain : Form
plain = record { nocalls = false; locked = false }

-- its operations: a read section is two
abbrev pub ops_drawn : Drawn → List Op
ops_drawn (drawn.Up cpu) = op.Up cpu ∷ []
ops_drawn (drawn.Down cpu) = op.Down cpu ∷ []
ops_drawn drawn.Section = op.Lock ∷ op.Unlock ∷ []
ops_drawn (drawn.Add state inst) = op.Add state inst plain ∷ []
ops_drawn (drawn.Del state inst) = op.Del state inst plain ∷ []
ops_drawn (drawn.Show cpu) = op.ShowState cpu ∷ []

-- ---- lines as bytes

-- a line of which the last word ends with a number
abbrev pub numbered_line : (front : List ℕ) (number : ℕ) → List ℕ
numbered_line front number = front ++ (decimal number ++ 10 ∷ [])

-- a line of a word, a state and an instance
abbrev pub instance_line : (front : List ℕ) (state inst : ℕ) → List ℕ
instance_line front state inst = front ++ (decimal state ++ 32 ∷ (decimal inst ++ 10 ∷ []))

-- the buffer has these lines behind what it had
abbrev pub AppendsLines : {A : Type 0} → (old new : Vec ℕ A) → (lines : List (List (List ℕ))) → Type 0
AppendsLines old new lines = new.items ≡ old.items ++ flat_map line lines

-- ---- the lines, each as its words

-- a subsystem with both callbacks; one in four has instances
unfoldable pub sub_words : (number : ℕ) → List (List ℕ)
sub_words n = codes "sub" ∷ (codes "gen:" ++ decimal n) ∷ codes "both" ∷ kind_word (n % 4 == 0) ∷ []

-- the startup of the subsystem above fails with 5 at the call of this number
unfoldable pub rule_words : (nth : ℕ) → List (List ℕ)
rule_words nth = codes "rule" ∷ codes "up" ∷ codes "*" ∷ codes "*" ∷ decimal nth ∷ codes "5" ∷ []

-- three subsystems from this number on, and a rule of the third
unfoldable pub three_subs : (number state : ℕ) → List (List (List ℕ))
three_subs n x = sub_words n ∷ sub_words (n + 1) ∷ sub_words (n + 2) ∷ rule_words (20 + first_draw 20 x) ∷ []

unfoldable pub schedule_words : (seed : ℕ) → List (List ℕ)
schedule_words seed = codes "schedule" ∷ codes "mix" ∷ decimal seed ∷ decimal 10000 ∷ []

-- the lines before the actors; they take four draws
unfoldable pub heading : (seed : ℕ) → List (List (List ℕ))
heading seed =
    (codes "cpus" ∷ codes "8" ∷ [])
    ∷ (three_subs 1 seed
    ++ (three_subs 4 (state_behind 1 seed)
    ++ (three_subs 7 (state_behind 2 seed) ++ (three_subs 10 (state_behind 3 seed) ++ (schedule_words seed ∷ [])))))

unfoldable pub actor_words : (number : ℕ) → List (List ℕ)
actor_words n = codes "actor" ∷ (codes "g" ++ decimal n) ∷ []

-- a setup of a subsystem
unfoldable pub setup_words : (state sub : ℕ) → List (List ℕ)
setup_words state sub = op_words (op.Setup state sub plain)

-- the setups that the first actor begins with, one of each subsystem
unfoldable pub setup_lines : List (List (List ℕ))
setup_lines =
    setup_words 10 1 ∷ setup_words 30 2 ∷ setup_words 41 3 ∷ setup_words 42 4 ∷ setup_words 70 5 ∷ setup_words 80 6
    ∷ setup_words 110 7 ∷ setup_words 120 8 ∷ setup_words 141 9 ∷ setup_words 150 10 ∷ setup_words 160 11
    ∷ setup_words 180 12 ∷ []

-- what is drawn of this size, from a state on
unfoldable pub drawn_lines : (size state : ℕ) → List (List (List ℕ))
drawn_lines size x = map op_words (flat_map ops_drawn (all_drawn size x))

-- so many further actors from this number on, each with as much that is drawn
abbrev pub actors_from : (count number size state : ℕ) → List (List (List ℕ))
actors_from zero n size x = []
actors_from (suc count) n size x =
    actor_words n ∷ (drawn_lines size x ++ actors_from count (n + 1) size (state_behind_all size x))

-- six actors, the first of which begins with the setups
unfoldable pub actors : (size state : ℕ) → List (List (List ℕ))
actors size x =
    actor_words 1 ∷ (setup_lines ++ (drawn_lines size x ++ actors_from 5 2 size (state_behind_all size x)))

abbrev pub generated_lines : (seed size : ℕ) → List (List (List ℕ))
generated_lines seed size = heading seed ++ actors size (state_behind 4 seed)

unfoldable pub generated : (seed size : ℕ) → List ℕ
generated seed size = flat_map line (generated_lines seed size)
