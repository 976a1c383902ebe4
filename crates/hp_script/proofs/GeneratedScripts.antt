-- A generated script is read where there are twelve hooks, and refused for want of them where there are fewer.
use Rattle.std.proofs.Common.{◌≡◌, ℕ, ◌+◌, ◌*◌, ◌^◌, ◌<◌, ◌≤◌, Bool, true, false, ◌&&◌, leb, List, [], ◌∷◌, length, map, None, refl, sym, ap, subst, ◌∙◌, arith}
use Rattle.std.specs.Prelude.{codes, decimal}
use Rattle.std.specs.List.{flat_map, list_all}
use Rattle.std.proofs.lemmas.Bool.{and_parts, and_from, or_from, leb-true, lt-leb, le-ltb}
use Rattle.hp_states.specs.declared.limits.TheConstants.{MAX_OPERATIONS, MAX_SUBS, MAX_SCRIPT_BYTES, MAX_GENERATED_SIZE}
use Rattle.hp_event.specs.declared.op.Op.TheVariants as op
use Rattle.hp_model.specs.Words.{joined, line}
use Rattle.hp_text.specs.declared.first_word.OpWord.TheVariants as word
use Rattle.hp_script.specs.declared.limits.TheConstants.{MAX_NAMED_STATE}
use Rattle.hp_script.specs.declared.error.ScriptKind.{ScriptKind}
use Rattle.hp_script.specs.declared.verb.Verb.TheVariants as verb
use Rattle.hp_script.specs.declared.before.Group.TheVariants as group
use Rattle.hp_script.specs.declared.statement.Statement.TheVariants as says
use Rattle.hp_script.specs.Pieces.{lines}
use Rattle.hp_script.specs.Ranges.{is_within}
use Rattle.hp_script.specs.Before.{start, before}
use Rattle.hp_script.specs.Refusals.{refusal_at_end}
use Rattle.hp_script.specs.Judged.{AreFine, IsRefused, too_long, at_line, at_end}
use Rattle.hp_script.specs.Generated.{state_behind, state_behind_all, plain, heading, actor_words, setup_words, setup_lines, drawn_lines, actors_from, actors, generated_lines, generated}
use Rattle.hp_script.proofs.ReadLoop.{some_none, fine_at}
use Rattle.hp_script.proofs.FineLines.{Says, Stands, FineTo, none, one, both, longer, lines_are}
use Rattle.hp_script.proofs.GeneratedSays.{setup_line}
use Rattle.hp_script.proofs.GeneratedFine.{within, upper, among, heading_fine, first_actor_fine, Goes, all_fine, Ends, actors_fine, most_of}

-- ---- setups: each its state and its subsystem

abbrev pub Pair : Type 0
Pair = ℕ × ℕ

abbrev pub setups_of : List Pair → List (List (List ℕ))
setups_of [] = []
setups_of (p ∷ ps) = setup_words p.0 p.1 ∷ setups_of ps

abbrev pub twelve : List Pair
twelve = (10, 1) ∷ (30, 2) ∷ (41, 3) ∷ (42, 4) ∷ (70, 5) ∷ (80, 6) ∷ (110, 7) ∷ (120, 8) ∷ (141, 9) ∷ (150, 10) ∷ (160, 11) ∷ (180, 12) ∷ []

pub twelve_are : setup_lines ≡ setups_of twelve
unfolding setup_lines
twelve_are = refl

abbrev pub is_setup_pair : Pair → Bool
is_setup_pair p = leb p.0 1000 && (leb 1 p.1 && leb p.1 12)

abbrev pub Goods : Pair → Type 0
Goods p = (p.0 ≤ 1000) × (1 ≤ p.1) × (p.1 ≤ 12)

pub goods : (p : Pair) → is_setup_pair p ≡ true → Goods p
goods p good =
    let t = and_parts (leb p.0 1000) (leb 1 p.1 && leb p.1 12) good in
    let u = and_parts (leb 1 p.1) (leb p.1 12) t.1 in
    (leb-true p.0 1000 t.0, leb-true 1 p.1 u.0, leb-true p.1 12 u.1)

pub setup_says : (s u : ℕ) → s ≤ 1000 → u ≤ 12 → Says (codes "setup") (decimal s ∷ decimal u ∷ []) (verb.Operation word.Setup) (says.Operation (op.Setup s u plain))
setup_says s u le few = setup_line s u (omega (arith, le)) (omega (arith, few))

pub setup_stands : (i s u : ℕ) → s ≤ 1000 → 1 ≤ u → u ≤ 12 → Stands (among 1 i i false) (verb.Operation word.Setup) (says.Operation (op.Setup s u plain))
setup_stands i s u le some few =
    let state : is_within 0 MAX_NAMED_STATE s ≡ true = within 0 MAX_NAMED_STATE s (omega arith) (omega (arith, le)) in
    let sub : is_within 1 MAX_SUBS u ≡ true = within 1 MAX_SUBS u some (omega (arith, few)) in
    record {
      first = refl;
      stands = refl;
      unlocked = refl;
      range = and_from (is_within 0 MAX_NAMED_STATE s) (is_within 1 MAX_SUBS u) state sub;
      sub = le-ltb 12 u few;
    }

pub setup_fine : (hooks i s u : ℕ) → i < hooks → i < MAX_OPERATIONS → s ≤ 1000 → 1 ≤ u → u ≤ 12
    → FineTo hooks (among 1 i i false) (setup_words s u ∷ []) 64 (among 1 (i + 1) (i + 1) false)
unfolding setup_words
setup_fine hooks i s u hook few le some sub =
    one hooks (among 1 i i false) (codes "setup") (decimal s ∷ decimal u ∷ []) (verb.Operation word.Setup) (says.Operation (op.Setup s u plain)) (setup_says s u le sub) (setup_stands i s u le some sub)
    (or_from (leb MAX_OPERATIONS i) (leb hooks i) (lt-leb MAX_OPERATIONS i few) (lt-leb hooks i hook))

setups_fine : (hooks i : ℕ) (ps : List Pair) → list_all is_setup_pair ps ≡ true → i + length ps ≤ hooks → i + length ps < MAX_OPERATIONS
    → FineTo hooks (among 1 i i false) (setups_of ps) (64 * length ps) (among 1 (i + length ps) (i + length ps) false)
setups_fine hooks i [] good enough few =
    subst (λ (k : ℕ). FineTo hooks (among 1 i i false) [] 0 (among 1 k k false)) (all_of i) (none hooks (among 1 i i false))
  where
    all_of : (i : ℕ) → i ≡ i + 0
    all_of i = omega arith
setups_fine hooks i (p ∷ ps) good enough few =
    let g = and_parts (is_setup_pair p) (list_all is_setup_pair ps) good in
    let t = goods p g.0 in
    let moved : i + 1 + length ps ≡ i + length (p ∷ ps) = omega arith in
    subst (λ (k : ℕ). FineTo hooks (among 1 i i false) (setups_of (p ∷ ps)) (64 * length (p ∷ ps)) (among 1 k k false)) moved
    (longer hooks _ _ _ (64 + 64 * length ps) (64 * length (p ∷ ps)) (omega arith)
    (both hooks (among 1 i i false) (among 1 (i + 1) (i + 1) false) (among 1 (i + 1 + length ps) (i + 1 + length ps) false) (setup_words p.0 p.1 ∷ []) (setups_of ps) 64 (64 * length ps)
    (setup_fine hooks i p.0 p.1 (omega (arith, enough)) (omega (arith, few)) t.0 t.1 t.2)
    (setups_fine hooks (i + 1) ps g.1 (omega (arith, enough)) (omega (arith, few)))))

-- ---- the whole script

twelve_fine : (hooks : ℕ) → 12 ≤ hooks → FineTo hooks (among 1 0 0 false) setup_lines 768 (among 1 12 12 false)
twelve_fine hooks enough =
    subst (λ (ls : List (List (List ℕ))). FineTo hooks (among 1 0 0 false) ls 768 (among 1 12 12 false)) (sym twelve_are)
    (setups_fine hooks 0 twelve refl enough (omega arith))

six_fine : (hooks size x : ℕ) → 12 ≤ hooks → size ≤ MAX_GENERATED_SIZE → Ends hooks (upper group.Schedule 12 1) (actors size x) (64 + (768 + (128 * size + most_of 5 size)))
unfolding actors Goes Ends
six_fine hooks size x enough few =
    let ops = all_fine hooks 1 12 size x (omega (arith, few)) in
    let more = actors_fine 5 hooks 1 ops.0 2 size (state_behind_all size x) (omega arith) (omega arith) (omega (arith, few)) in (
      more.0,
      more.1,
      both hooks (upper group.Schedule 12 1) (among 1 0 0 false) (among more.0 more.1 12 false) (actor_words 1 ∷ []) _ 64 (768 + (128 * size + most_of 5 size)) (first_actor_fine hooks)
          (both hooks (among 1 0 0 false) (among 1 12 12 false) (among more.0 more.1 12 false) setup_lines _ 768 (128 * size + most_of 5 size) (twelve_fine hooks enough)
          (both hooks (among 1 12 12 false) (among 1 ops.0 12 false) (among more.0 more.1 12 false) (drawn_lines size x) (actors_from 5 2 size (state_behind_all size x)) (128 * size) (most_of 5 size) ops.2 more.2)),
    )

pub whole : (hooks seed size : ℕ) → 12 ≤ hooks → seed < 2 ^ 64 → size ≤ MAX_GENERATED_SIZE → Ends hooks start (generated_lines seed size) MAX_SCRIPT_BYTES
unfolding Ends
whole hooks seed size enough lt few =
    let six = six_fine hooks size (state_behind 4 seed) enough few in (
      six.0,
      six.1,
      longer hooks _ _ _ (1152 + (64 + (768 + (128 * size + most_of 5 size)))) MAX_SCRIPT_BYTES (omega (arith, few))
          (both hooks start (upper group.Schedule 12 1) (among six.0 six.1 12 false) (heading seed) (actors size (state_behind 4 seed)) 1152 (64 + (768 + (128 * size + most_of 5 size)))
          (heading_fine hooks seed lt) six.2),
    )

never : (hooks : ℕ) (bytes : List ℕ) (number : ℕ) (kind : ScriptKind) → AreFine hooks start (lines bytes) → refusal_at_end (before (lines bytes)) ≡ None → length bytes ≤ MAX_SCRIPT_BYTES
    → IsRefused hooks bytes number kind → ⊥
never hooks bytes number kind fine ended short (too_long h bs long) = omega (arith, long, short)
never hooks bytes number kind fine ended short (at_line h bs n k s bad) =
    some_none kind (sym bad.refused ∙ fine_at hooks start bad.front bad.line bad.back (subst (AreFine hooks start) bad.parts fine))
never hooks bytes number kind fine ended short (at_end h bs n k s bad) = some_none kind (sym bad.refused ∙ ended)

pub is_read : (hooks seed size : ℕ) → 12 ≤ hooks → seed < 2 ^ 64 → size ≤ MAX_GENERATED_SIZE → (number : ℕ) (kind : ScriptKind) → IsRefused hooks (generated seed size) number kind → ⊥
unfolding generated Ends
is_read hooks seed size enough lt few number kind refused =
    let all = whole hooks seed size enough lt few in
    let are : lines (flat_map line (generated_lines seed size)) ≡ map joined (generated_lines seed size) = lines_are hooks start (among all.0 all.1 12 false) (generated_lines seed size) MAX_SCRIPT_BYTES all.2 in
    never hooks (flat_map line (generated_lines seed size)) number kind
    (subst (AreFine hooks start) (sym are) all.2.fine)
    (ap (λ (ls : List (List ℕ)). refusal_at_end (before ls)) are ∙ ap refusal_at_end all.2.ends)
    all.2.short
    refused
