-- A generated script is refused where there are fewer than twelve hooks: at the first setup that finds none.
use Rattle.std.proofs.Common.{◌≡◌, ℕ, ◌+◌, ◌^◌, ◌<◌, ◌≤◌, ◌⊎◌, inl, inr, true, false, ◌&&◌, leb, List, [], ◌∷◌, ◌++◌, length, map, Some, refl, sym, ap, subst, ◌∙◌, append_assoc, arith}
use Rattle.std.specs.Prelude.{codes, decimal}
use Rattle.std.specs.List.{flat_map, list_all}
use Rattle.std.proofs.lemmas.Bool.{and_parts, or_right, leb-true, le-leb, cases_lt}
use Rattle.std.proofs.lemmas.List.{length-append, length-map, map-append}
use Rattle.hp_states.specs.declared.limits.TheConstants.{MAX_OPERATIONS, MAX_SCRIPT_BYTES, MAX_GENERATED_SIZE}
use Rattle.hp_event.specs.declared.op.Op.TheVariants as op
use Rattle.hp_model.specs.Words.{joined, line}
use Rattle.hp_text.specs.declared.first_word.OpWord.TheVariants as word
use Rattle.hp_script.specs.declared.error.ScriptKind.TheVariants.{TooMany}
use Rattle.hp_script.specs.declared.verb.Verb.TheVariants as verb
use Rattle.hp_script.specs.declared.before.Group.TheVariants as group
use Rattle.hp_script.specs.declared.before.Before.{Before}
use Rattle.hp_script.specs.declared.statement.Statement.TheVariants as says
use Rattle.hp_script.specs.Pieces.{lines}
use Rattle.hp_script.specs.Before.{start}
use Rattle.hp_script.specs.Refusals.{refusal}
use Rattle.hp_script.specs.Judged.{IsRefused, at_line}
use Rattle.hp_script.specs.Generated.{state_behind, state_behind_all, plain, three_subs, heading, actor_words, setup_words, setup_lines, drawn_lines, actors_from, actors, generated_lines, generated}
use Rattle.hp_script.proofs.FineLines.{FineTo, none, both, lines_are, line_too_many}
use Rattle.hp_script.proofs.GeneratedFine.{upper, among, heading_fine, first_actor_fine, Ends}
use Rattle.hp_script.proofs.GeneratedScripts.{Pair, setups_of, twelve, twelve_are, is_setup_pair, Goods, goods, setup_says, setup_stands, setup_fine, whole}

-- the first setup of some that finds no hook, where so many stood before them
record FirstWithout (hooks i : ℕ) (ps : List Pair) : Type 0 where
  front : List Pair
  pair : Pair
  back : List Pair
  most : ℕ
  parts : setups_of ps ≡ setups_of front ++ setup_words pair.0 pair.1 ∷ setups_of back
  count : length (setups_of front) + i ≡ hooks
  fine : FineTo hooks (among 1 i i false) (setups_of front) most (among 1 hooks hooks false)
  refused : refusal hooks (among 1 hooks hooks false) (joined (setup_words pair.0 pair.1)) ≡ Some TooMany

without : (hooks s u : ℕ) → s ≤ 1000 → 1 ≤ u → u ≤ 12 → refusal hooks (among 1 hooks hooks false) (joined (setup_words s u)) ≡ Some TooMany
unfolding setup_words
without hooks s u le some few =
    line_too_many hooks (among 1 hooks hooks false) (codes "setup") (decimal s ∷ decimal u ∷ []) (verb.Operation word.Setup) (says.Operation (op.Setup s u plain)) (setup_says s u le few) (setup_stands hooks s u le some few)
    (or_right (leb MAX_OPERATIONS hooks) (leb hooks hooks) (le-leb hooks hooks (omega arith)))

here : (hooks i : ℕ) (p : Pair) (ps : List Pair) → Goods p → i ≡ hooks → FirstWithout hooks i (p ∷ ps)
here hooks i p ps good same = record {
  front = [];
  pair = p;
  back = ps;
  most = 0;
  parts = refl;
  count = omega (arith, same);
  fine = subst (λ (k : ℕ). FineTo hooks (among 1 i i false) [] 0 (among 1 k k false)) same (none hooks (among 1 i i false));
  refused = without hooks p.0 p.1 good.0 good.1 good.2;
}

behind : (hooks i : ℕ) (p : Pair) (ps : List Pair) → Goods p → i < hooks → i < MAX_OPERATIONS → FirstWithout hooks (i + 1) ps → FirstWithout hooks i (p ∷ ps)
behind hooks i p ps good lt few f = record {
  front = p ∷ f.front;
  pair = f.pair;
  back = f.back;
  most = 64 + f.most;
  parts = ap (λ (ls : List (List (List ℕ))). setup_words p.0 p.1 ∷ ls) f.parts;
  count = omega (arith, f.count);
  fine = both hooks (among 1 i i false) (among 1 (i + 1) (i + 1) false) (among 1 hooks hooks false) (setup_words p.0 p.1 ∷ []) (setups_of f.front) 64 f.most
      (setup_fine hooks i p.0 p.1 lt few good.0 good.1 good.2) f.fine;
  refused = f.refused;
}

first_without : (hooks i : ℕ) (ps : List Pair) → list_all is_setup_pair ps ≡ true → i ≤ hooks → hooks < i + length ps → i + length ps < MAX_OPERATIONS → FirstWithout hooks i ps
first_without hooks i [] good le lt few = absurd (omega (arith, le, lt))
first_without hooks i (p ∷ ps) good le lt few =
    by_cases (and_parts (is_setup_pair p) (list_all is_setup_pair ps) good) (λ next less. first_without hooks (i + 1) ps next less (omega (arith, lt)) (omega (arith, few))) (cases_lt i hooks)
  where
    by_cases : (is_setup_pair p ≡ true) × (list_all is_setup_pair ps ≡ true) → (list_all is_setup_pair ps ≡ true → i + 1 ≤ hooks → FirstWithout hooks (i + 1) ps)
        → (i < hooks) ⊎ (hooks ≤ i) → FirstWithout hooks i (p ∷ ps)
    by_cases g next (inl more) = behind hooks i p ps (goods p g.0) more (omega (arith, few)) (next g.1 (omega (arith, more)))
    by_cases g next (inr done) = here hooks i p ps (goods p g.0) (omega (arith, le, done))

-- ---- the whole script

abbrev Lines : Type 0
Lines = List (List (List ℕ))

-- what stands behind the setups
abbrev behind_setups : (size x : ℕ) → Lines
behind_setups size x = drawn_lines size x ++ actors_from 5 2 size (state_behind_all size x)

split : (seed size : ℕ) (front : Lines) (w : List (List ℕ)) (back : Lines) → setup_lines ≡ front ++ w ∷ back
    → generated_lines seed size ≡ (heading seed ++ actor_words 1 ∷ front) ++ w ∷ (back ++ behind_setups size (state_behind 4 seed))
unfolding actors
split seed size front w back e =
    let rest = behind_setups size (state_behind 4 seed) in
    ap (λ (ls : Lines). heading seed ++ actor_words 1 ∷ (ls ++ rest)) e
    ∙ ap (λ (ls : Lines). heading seed ++ actor_words 1 ∷ ls) (append_assoc front (w ∷ back) rest)
    ∙ sym (append_assoc (heading seed) (actor_words 1 ∷ front) (w ∷ (back ++ rest)))

heading_length : (seed : ℕ) → length (heading seed) ≡ 18
unfolding heading three_subs
heading_length seed = refl

pub wants_hooks : (hooks seed size : ℕ) → hooks < 12 → seed < 2 ^ 64 → size ≤ MAX_GENERATED_SIZE → IsRefused hooks (generated seed size) (20 + hooks) TooMany
unfolding generated Ends
wants_hooks hooks seed size less lt few =
    let all = whole 12 seed size (omega arith) lt few in
    let f = first_without hooks 0 twelve refl (omega arith) less (omega arith) in
    let front = heading seed ++ actor_words 1 ∷ setups_of f.front in
    let back = setups_of f.back ++ behind_setups size (state_behind 4 seed) in
    let fine = both hooks start (upper group.Schedule 12 1) (among 1 hooks hooks false) (heading seed) (actor_words 1 ∷ setups_of f.front) 1152 (64 + f.most) (heading_fine hooks seed lt)
    (both hooks (upper group.Schedule 12 1) (among 1 0 0 false) (among 1 hooks hooks false) (actor_words 1 ∷ []) (setups_of f.front) 64 f.most (first_actor_fine hooks) f.fine) in
    let are : lines (flat_map line (generated_lines seed size)) ≡ map joined (generated_lines seed size) = lines_are 12 start (among all.0 all.1 12 false) (generated_lines seed size) MAX_SCRIPT_BYTES all.2 in
    at_line hooks (flat_map line (generated_lines seed size)) (20 + hooks) TooMany all.2.short (record {
      front = map joined front;
      line = joined (setup_words f.pair.0 f.pair.1);
      back = map joined back;
      parts = are
          ∙ ap (map joined) (split seed size (setups_of f.front) (setup_words f.pair.0 f.pair.1) (setups_of f.back) (twelve_are ∙ f.parts))
          ∙ map-append joined front (setup_words f.pair.0 f.pair.1 ∷ back);
      count = omega (arith, length-map front joined, length-append (heading seed) (actor_words 1 ∷ setups_of f.front), heading_length seed, f.count);
      fine = fine.fine;
      refused = ap (λ (b : Before). refusal hooks b (joined (setup_words f.pair.0 f.pair.1))) fine.ends ∙ f.refused;
    })
