-- None of the lines of a generated script is refused where there are hooks enough.
use Rattle.std.proofs.Common.{◌≡◌, ℕ, zero, suc, ◌+◌, ◌*◌, ◌^◌, ◌<◌, ◌≤◌, Bool, true, false, cond, ◌&&◌, eqb, leb, ltb, List, [], ◌∷◌, ◌++◌, map, Some, refl, sym, subst, arith}
use Rattle.std.specs.Prelude.{◌/◌, ◌%◌, ◌==◌, codes, decimal}
use Rattle.std.proofs.Math.Nat.{mod-lt}
use Rattle.std.proofs.lemmas.Bool.{and_from, and_left, or_from, le-leb, lt-leb}
use Rattle.hp_states.specs.declared.limits.TheConstants.{MAX_SUBS, MAX_ACTORS, MAX_OPERATIONS, MAX_EVENTS, MAX_INSTANCE}
use Rattle.hp_event.specs.declared.op.Op.{Op}
use Rattle.hp_event.specs.declared.op.Op.TheVariants as op
use Rattle.hp_model.specs.Draws.{state_after}
use Rattle.hp_model.specs.Words.{kind_word}
use Rattle.hp_model.specs.EventLine.{op_words}
use Rattle.hp_text.specs.declared.first_word.OpWord.TheVariants as word
use Rattle.hp_script.specs.declared.limits.TheConstants.{MAX_NAMED_CPU, MAX_NAMED_STATE, MAX_SEED}
use Rattle.hp_script.specs.declared.drawn.Drawn.{Drawn}
use Rattle.hp_script.specs.declared.drawn.Drawn.TheVariants as drawn
use Rattle.hp_script.specs.declared.verb.Verb.{Verb}
use Rattle.hp_script.specs.declared.verb.Verb.TheVariants as verb
use Rattle.hp_script.specs.declared.before.Group.{Group}
use Rattle.hp_script.specs.declared.before.Group.TheVariants as group
use Rattle.hp_script.specs.declared.before.Before.{Before}
use Rattle.hp_script.specs.declared.schedule.Schedule.TheVariants.{Mix}
use Rattle.hp_script.specs.declared.statement.Statement.TheVariants as says
use Rattle.hp_script.specs.Ranges.{is_within, is_op}
use Rattle.hp_event.specs.Ops.{is_setup}
use Rattle.hp_script.specs.Before.{start, after}
use Rattle.hp_script.specs.Refusals.{is_first, is_actor, is_before_schedule, can_stand, names_no_sub}
use Rattle.hp_script.specs.Generated.{first_draw, second_draw, instanced_state, drawn_by, one_drawn, state_behind, state_behind_one, state_behind_all, ops_drawn, plain, sub_words, rule_words, three_subs, schedule_words, heading, actor_words, drawn_lines, actors_from}
use Rattle.hp_script.proofs.FineLines.{Says, FineTo, none, one, both, longer}
use Rattle.hp_script.proofs.GeneratedSays.{named_sub, failing_rule, cpus_line, sub_line, rule_line, schedule_line, actor_line, up_line, down_line, show_line, lock_line, unlock_line, add_line, del_line}
use Rattle.hp_script.proofs.GeneratedLoops.{drawn_more}

pub within : (low high n : ℕ) → low ≤ n → n ≤ high → is_within low high n ≡ true
within low high n le less = and_from (leb low n) (leb n high) (le-leb low n le) (le-leb n high less)

-- ---- the lines before the actors

-- what stands before a line there
abbrev pub upper : (g : Group) (subs rules : ℕ) → Before
upper g subs rules = record { group = g; possible = 8; subs = subs; rules = rules; actors = 0; ops = 0; setups = 0; locked = false }

cpus_fine : (hooks : ℕ) → FineTo hooks start ((codes "cpus" ∷ codes "8" ∷ []) ∷ []) 64 (upper group.Cpus 0 0)
cpus_fine hooks =
    one hooks start (codes "cpus") (codes "8" ∷ []) verb.Cpus (says.Cpus 8) cpus_line
    (record { first = refl; stands = refl; unlocked = refl; range = refl; sub = refl }) refl

sub_fine : (hooks n : ℕ) (g : Group) (subs rules : ℕ) → is_first g ≡ false → is_before_schedule g ≡ true → subs < 100 → n < 100
    → FineTo hooks (upper g subs rules) (sub_words n ∷ []) 64 (upper group.Subs (subs + 1) 0)
unfolding sub_words
sub_fine hooks n g subs rules not_first early few lt =
    one hooks (upper g subs rules) (codes "sub") ((codes "gen:" ++ decimal n) ∷ codes "both" ∷ kind_word (n % 4 == 0) ∷ []) verb.Sub
    (says.Sub (named_sub (codes "gen:" ++ decimal n) (n % 4 == 0))) (sub_line n (n % 4 == 0) lt)
    (record { first = and_left (is_first g) true not_first; stands = early; unlocked = refl; range = refl; sub = refl })
    (lt-leb MAX_SUBS subs (omega (arith, few)))

rule_fine : (hooks nth subs : ℕ) → 1 ≤ nth → nth < 100000 → FineTo hooks (upper group.Subs subs 0) (rule_words nth ∷ []) 64 (upper group.Subs subs 1)
unfolding rule_words
rule_fine hooks nth subs some small =
    one hooks (upper group.Subs subs 0) (codes "rule") (codes "up" ∷ codes "*" ∷ codes "*" ∷ decimal nth ∷ codes "5" ∷ []) verb.Rule (says.Rule (failing_rule nth)) (rule_line nth some small)
    (record { first = refl; stands = refl; unlocked = refl; range = refl; sub = refl })
    refl

draw_below : (m x : ℕ) → 0 < m → first_draw m x < m
draw_below m x some = mod-lt (state_after x / 2 ^ 33) some

second_below : (m x : ℕ) → 0 < m → second_draw m x < m
second_below m x some = mod-lt (state_after (state_after x) / 2 ^ 33) some

three_fine : (hooks n x : ℕ) (g : Group) (subs rules : ℕ) → is_first g ≡ false → is_before_schedule g ≡ true → subs < 90 → n < 90
    → FineTo hooks (upper g subs rules) (three_subs n x) 256 (upper group.Subs (subs + 1 + 1 + 1) 1)
unfolding three_subs
three_fine hooks n x g subs rules not_first early few lt =
    both hooks (upper g subs rules) (upper group.Subs (subs + 1) 0) (upper group.Subs (subs + 1 + 1 + 1) 1) (sub_words n ∷ []) _ 64 192
    (sub_fine hooks n g subs rules not_first early (omega (arith, few)) (omega (arith, lt)))
    (both hooks (upper group.Subs (subs + 1) 0) (upper group.Subs (subs + 1 + 1) 0) (upper group.Subs (subs + 1 + 1 + 1) 1) (sub_words (n + 1) ∷ []) _ 64 128
    (sub_fine hooks (n + 1) group.Subs (subs + 1) 0 refl refl (omega (arith, few)) (omega (arith, lt)))
    (both hooks (upper group.Subs (subs + 1 + 1) 0) (upper group.Subs (subs + 1 + 1 + 1) 0) (upper group.Subs (subs + 1 + 1 + 1) 1) (sub_words (n + 2) ∷ []) (rule_words (20 + first_draw 20 x) ∷ []) 64 64
    (sub_fine hooks (n + 2) group.Subs (subs + 1 + 1) 0 refl refl (omega (arith, few)) (omega (arith, lt)))
    (rule_fine hooks (20 + first_draw 20 x) (subs + 1 + 1 + 1) (omega arith) (omega (arith, draw_below 20 x (omega arith))))))

schedule_fine : (hooks seed subs rules : ℕ) → seed < 2 ^ 64 → FineTo hooks (upper group.Subs subs rules) (schedule_words seed ∷ []) 64 (upper group.Schedule subs rules)
unfolding schedule_words
schedule_fine hooks seed subs rules lt =
    one hooks (upper group.Subs subs rules) (codes "schedule") (codes "mix" ∷ decimal seed ∷ decimal 10000 ∷ []) verb.Schedule (says.Schedule (Mix seed 10000)) (schedule_line seed lt)
    (record {
      first = refl;
      stands = refl;
      unlocked = refl;
      range = and_from (is_within 0 MAX_SEED seed) true (within 0 MAX_SEED seed (omega arith) (omega (arith, lt))) refl;
      sub = refl;
    })
    refl

pub heading_fine : (hooks seed : ℕ) → seed < 2 ^ 64 → FineTo hooks start (heading seed) 1152 (upper group.Schedule 12 1)
unfolding heading
heading_fine hooks seed lt =
    both hooks start (upper group.Cpus 0 0) (upper group.Schedule 12 1) ((codes "cpus" ∷ codes "8" ∷ []) ∷ []) _ 64 1088 (cpus_fine hooks)
    (both hooks (upper group.Cpus 0 0) (upper group.Subs 3 1) (upper group.Schedule 12 1) (three_subs 1 seed) _ 256 832
    (three_fine hooks 1 seed group.Cpus 0 0 refl refl (omega arith) (omega arith))
    (both hooks (upper group.Subs 3 1) (upper group.Subs 6 1) (upper group.Schedule 12 1) (three_subs 4 (state_behind 1 seed)) _ 256 576
    (three_fine hooks 4 (state_behind 1 seed) group.Subs 3 1 refl refl (omega arith) (omega arith))
    (both hooks (upper group.Subs 6 1) (upper group.Subs 9 1) (upper group.Schedule 12 1) (three_subs 7 (state_behind 2 seed)) _ 256 320
    (three_fine hooks 7 (state_behind 2 seed) group.Subs 6 1 refl refl (omega arith) (omega arith))
    (both hooks (upper group.Subs 9 1) (upper group.Subs 12 1) (upper group.Schedule 12 1) (three_subs 10 (state_behind 3 seed)) (schedule_words seed ∷ []) 256 64
    (three_fine hooks 10 (state_behind 3 seed) group.Subs 9 1 refl refl (omega arith) (omega arith))
    (schedule_fine hooks seed 12 1 lt)))))

-- ---- among the actors

abbrev pub among : (actors ops setups : ℕ) (locked : Bool) → Before
among actors ops setups locked =
    record { group = group.Actors; possible = 8; subs = 12; rules = 1; actors = actors; ops = ops; setups = setups; locked = locked }

op_fine : (hooks a m u : ℕ) (l : Bool) (first : List ℕ) (rest : List (List ℕ)) (v : Verb) (o : Op) → Says first rest v (says.Operation o)
    → can_stand group.Actors v ≡ true → is_actor (Some v) ≡ false → is_op o ≡ true → names_no_sub 12 (says.Operation o) ≡ false → is_setup o ≡ false → m < MAX_OPERATIONS
    → FineTo hooks (among a m u l) ((first ∷ rest) ∷ []) 64 (after (among a m u l) (says.Operation o))
op_fine hooks a m u l first rest v o h stands no_actor range sub no_setup few =
    one hooks (among a m u l) first rest v (says.Operation o) h
    (record { first = refl; stands = stands; unlocked = and_left (is_actor (Some v)) l no_actor; range = range; sub = sub })
    (or_from (leb MAX_OPERATIONS m) (is_setup o && leb hooks u) (lt-leb MAX_OPERATIONS m few) (and_left (is_setup o) (leb hooks u) no_setup))

-- the numbers that are drawn are these
abbrev IsDrawn : Drawn → Type 0
IsDrawn (drawn.Up cpu) = cpu < 8
IsDrawn (drawn.Down cpu) = cpu < 8
IsDrawn drawn.Section = Unit {0}
IsDrawn (drawn.Add state inst) = (state < 1000) × (inst < 10)
IsDrawn (drawn.Del state inst) = (state < 1000) × (inst < 10)
IsDrawn (drawn.Show cpu) = cpu < 8

either : (t : Bool) (d e : Drawn) → IsDrawn d → IsDrawn e → IsDrawn (cond t d e)
either true d e p q = p
either false d e p q = q

state_small : (place : ℕ) → instanced_state place < 1000
state_small place = by_tests (eqb place 0) (eqb place 1)
  where
    by_tests : (s t : Bool) → cond s 42 (cond t 120 180) < 1000
    by_tests true t = omega arith
    by_tests false true = omega arith
    by_tests false false = omega arith

drawn_is : (k x : ℕ) → IsDrawn (drawn_by k x)
drawn_is k x =
    let cpu = draw_below 8 x (omega arith) in
    let pair : (instanced_state (first_draw 3 x) < 1000) × (1 + second_draw 4 x < 10) = (state_small (first_draw 3 x), omega (arith, second_below 4 x (omega arith))) in
    either (ltb k 2) (drawn.Up (first_draw 8 x)) _ cpu
    (either (ltb k 4) (drawn.Down (first_draw 8 x)) _ cpu
    (either (eqb k 4) drawn.Section _ tt
    (either (eqb k 5) (drawn.Add (instanced_state (first_draw 3 x)) (1 + second_draw 4 x)) _ pair
    (either (eqb k 6) (drawn.Del (instanced_state (first_draw 3 x)) (1 + second_draw 4 x)) (drawn.Show (first_draw 8 x)) pair cpu))))

-- so many operations at most are more than stood before, and the lines are so long
unfoldable pub Goes : (hooks a m more : ℕ) (ls : List (List (List ℕ))) (most : ℕ) → Type 0
Goes hooks a m more ls most = (k : ℕ) × (k ≤ m + more) × FineTo hooks (among a m 12 false) ls most (among a k 12 false)

cpu_named : (cpu : ℕ) → cpu < 8 → is_within 0 MAX_NAMED_CPU cpu ≡ true
cpu_named cpu lt = within 0 MAX_NAMED_CPU cpu (omega arith) (omega (arith, lt))

place_named : (state inst : ℕ) → state < 1000 → inst < 10 → (is_within 0 MAX_NAMED_STATE state && is_within 0 MAX_INSTANCE inst) ≡ true
place_named state inst lt few =
    and_from (is_within 0 MAX_NAMED_STATE state) (is_within 0 MAX_INSTANCE inst)
    (within 0 MAX_NAMED_STATE state (omega arith) (omega (arith, lt)))
    (within 0 MAX_INSTANCE inst (omega arith) (omega (arith, few)))

drawn_fine : (hooks a m : ℕ) (d : Drawn) → IsDrawn d → m + 2 ≤ MAX_OPERATIONS → Goes hooks a m 2 (map op_words (ops_drawn d)) 128
unfolding Goes
drawn_fine hooks a m (drawn.Up cpu) lt few = (
  m + 1,
  omega arith,
  longer hooks _ _ _ 64 128 (omega arith)
      (op_fine hooks a m 12 false (codes "up") (decimal cpu ∷ []) (verb.Operation word.Up) (op.Up cpu) (up_line cpu (omega (arith, lt))) refl refl (cpu_named cpu lt) refl refl (omega (arith, few))),
)
drawn_fine hooks a m (drawn.Down cpu) lt few = (
  m + 1,
  omega arith,
  longer hooks _ _ _ 64 128 (omega arith)
      (op_fine hooks a m 12 false (codes "down") (decimal cpu ∷ []) (verb.Operation word.Down) (op.Down cpu) (down_line cpu (omega (arith, lt))) refl refl (cpu_named cpu lt) refl refl (omega (arith, few))),
)
drawn_fine hooks a m drawn.Section lt few = (
  m + 1 + 1,
  omega arith,
  both hooks (among a m 12 false) (among a (m + 1) 12 true) (among a (m + 1 + 1) 12 false) (op_words op.Lock ∷ []) (op_words op.Unlock ∷ []) 64 64
      (op_fine hooks a m 12 false (codes "lock") [] (verb.Operation word.Lock) op.Lock lock_line refl refl refl refl refl (omega (arith, few)))
      (op_fine hooks a (m + 1) 12 true (codes "unlock") [] (verb.Operation word.Unlock) op.Unlock unlock_line refl refl refl refl refl (omega (arith, few))),
)
drawn_fine hooks a m (drawn.Add state inst) p few = (
  m + 1,
  omega arith,
  longer hooks _ _ _ 64 128 (omega arith)
      (op_fine hooks a m 12 false (codes "add") (decimal state ∷ decimal inst ∷ []) (verb.Operation word.Add) (op.Add state inst plain) (add_line state inst (omega (arith, p.0)) (omega (arith, p.1))) refl refl
      (place_named state inst p.0 p.1) refl refl (omega (arith, few))),
)
drawn_fine hooks a m (drawn.Del state inst) p few = (
  m + 1,
  omega arith,
  longer hooks _ _ _ 64 128 (omega arith)
      (op_fine hooks a m 12 false (codes "del") (decimal state ∷ decimal inst ∷ []) (verb.Operation word.Del) (op.Del state inst plain) (del_line state inst (omega (arith, p.0)) (omega (arith, p.1))) refl refl
      (place_named state inst p.0 p.1) refl refl (omega (arith, few))),
)
drawn_fine hooks a m (drawn.Show cpu) lt few = (
  m + 1,
  omega arith,
  longer hooks _ _ _ 64 128 (omega arith)
      (op_fine hooks a m 12 false (codes "show") (codes "state" ∷ decimal cpu ∷ []) (verb.Operation word.Show) (op.ShowState cpu) (show_line cpu (omega (arith, lt))) refl refl (cpu_named cpu lt) refl refl (omega (arith, few))),
)

none_drawn : (x : ℕ) → drawn_lines 0 x ≡ []
unfolding drawn_lines
none_drawn x = refl

pub all_fine : (hooks a m n x : ℕ) → m + 2 * n ≤ MAX_OPERATIONS → Goes hooks a m (2 * n) (drawn_lines n x) (128 * n)
unfolding Goes
all_fine hooks a m zero x few =
    (m, omega arith, subst (λ (ls : List (List (List ℕ))). FineTo hooks (among a m 12 false) ls 0 (among a m 12 false)) (sym (none_drawn x)) (none hooks (among a m 12 false)))
all_fine hooks a m (suc n) x few =
    let first = drawn_fine hooks a m (one_drawn x) (drawn_is (first_draw 8 x) (state_after x)) (omega (arith, few)) in
    let more = all_fine hooks a first.0 n (state_behind_one x) (omega (arith, few, first.1)) in (
      more.0,
      omega (arith, more.1, first.1),
      subst (λ (ls : List (List (List ℕ))). FineTo hooks (among a m 12 false) ls (128 * suc n) (among a more.0 12 false)) (sym (drawn_more n x))
          (longer hooks _ _ _ (128 + 128 * n) (128 * suc n) (omega arith)
          (both hooks (among a m 12 false) (among a first.0 12 false) (among a more.0 12 false) (map op_words (ops_drawn (one_drawn x))) (drawn_lines n (state_behind_one x)) 128 (128 * n) first.2 more.2)),
    )

pub actor_fine : (hooks a m u n : ℕ) → a < MAX_ACTORS → n < 100 → FineTo hooks (among a m u false) (actor_words n ∷ []) 64 (among (a + 1) 0 u false)
unfolding actor_words
actor_fine hooks a m u n few lt =
    one hooks (among a m u false) (codes "actor") ((codes "g" ++ decimal n) ∷ []) verb.Actor says.Actor (actor_line n lt)
    (record { first = refl; stands = refl; unlocked = refl; range = refl; sub = refl })
    (lt-leb MAX_ACTORS a few)

pub first_actor_fine : (hooks : ℕ) → FineTo hooks (upper group.Schedule 12 1) (actor_words 1 ∷ []) 64 (among 1 0 0 false)
unfolding actor_words
first_actor_fine hooks =
    one hooks (upper group.Schedule 12 1) (codes "actor") ((codes "g" ++ decimal 1) ∷ []) verb.Actor says.Actor (actor_line 1 (omega arith))
    (record { first = refl; stands = refl; unlocked = refl; range = refl; sub = refl })
    refl

-- how long so many actors are at most
abbrev pub most_of : (count size : ℕ) → ℕ
most_of zero size = 0
most_of (suc count) size = 64 + (128 * size + most_of count size)

-- they end among the actors, unlocked
unfoldable pub Ends : (hooks : ℕ) (b : Before) (ls : List (List (List ℕ))) (most : ℕ) → Type 0
Ends hooks b ls most = (a : ℕ) × (k : ℕ) × FineTo hooks b ls most (among a k 12 false)

pub actors_fine : (count hooks a m n size x : ℕ) → a + count ≤ MAX_ACTORS → n + count ≤ 100 → 2 * size ≤ MAX_OPERATIONS
    → Ends hooks (among a m 12 false) (actors_from count n size x) (most_of count size)
unfolding Ends Goes
actors_fine zero hooks a m n size x few names short = (a, m, none hooks (among a m 12 false))
actors_fine (suc count) hooks a m n size x few names short =
    let ops = all_fine hooks (a + 1) 0 size x (omega (arith, short)) in
    let more = actors_fine count hooks (a + 1) ops.0 (n + 1) size (state_behind_all size x) (omega (arith, few)) (omega (arith, names)) short in (
      more.0,
      more.1,
      both hooks (among a m 12 false) (among (a + 1) 0 12 false) (among more.0 more.1 12 false) (actor_words n ∷ []) _ 64 (128 * size + most_of count size)
          (actor_fine hooks a m 12 n (omega (arith, few)) (omega (arith, names)))
          (both hooks (among (a + 1) 0 12 false) (among (a + 1) ops.0 12 false) (among more.0 more.1 12 false) (drawn_lines size x) (actors_from count (n + 1) size (state_behind_all size x))
          (128 * size) (most_of count size) ops.2 more.2),
    )
