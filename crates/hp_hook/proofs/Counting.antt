-- Counting from the last rule to the first: what holds once the rules from `i` on have counted.
use Rattle.std.specs.Prelude.{All}
use Rattle.std.proofs.Common.{◌≡◌, ℕ, ◌+◌, ◌-◌, ◌<◌, ◌≤◌, ◌&&◌, Bool, if◌then◌else◌, List, ◌∷◌, take, drop, set, length, get_or, refl, ap, subst, sym, ◌∙◌, arith}
use Rattle.std.proofs.Math.Seq.{take-set-lt}
use Rattle.std.proofs.lemmas.List.{get_or-take, take-take, take-set, drop-set, length-take-le, drop_all}
use Rattle.hp_states.proofs.Basics.{drop_at}
use Rattle.hp_states.specs.declared.plan.Rule.{Rule}
use Rattle.hp_states.specs.Rules.{Site, matches, allows, raised, counted_answer}

-- the counts before `i` are the old ones, those from `i` on are raised, and `answer` is that of the rules from `i` on
pub record HasCounted (rules : List Rule) (old : List ℕ) (site : Site) (i : ℕ) (seen : List ℕ) (answer : ℕ) : Type 0 where
  pub low : i ≤ length rules
  pub before : take i seen ≡ take i old
  pub after : drop i seen ≡ raised (drop i rules) (drop i old) site
  pub answers : answer ≡ counted_answer (drop i rules) (drop i seen) site

same_cons : (m n : ℕ) (ms ns : List ℕ) → m ≡ n → ms ≡ ns → m ∷ ms ≡ n ∷ ns
same_cons m n ms ns e es = cc

-- a count that is not raised yet is the old one
kept_at : (seen old : List ℕ) (i d : ℕ) → take (i + 1) seen ≡ take (i + 1) old → get_or seen i d ≡ get_or old i d
kept_at seen old i d same =
    let below : i < i + 1 = omega arith in
    sym (get_or-take (i + 1) seen i d below) ∙ ap (λ (l : List ℕ). get_or l i d) same ∙ get_or-take (i + 1) old i d below

-- the rule at `i` counts too
counted_at : (rules : List Rule) (old : List ℕ) (site : Site) (i : ℕ) (seen : List ℕ) (answer : ℕ) (d : Rule) (v a : ℕ)
    → i < length rules → length old ≡ length rules → length seen ≡ length rules
    → v ≡ (if matches (get_or rules i d) site then get_or seen i 0 + 1 else get_or seen i 0)
    → a ≡ (if matches (get_or rules i d) site && allows (get_or rules i d).nth v then (get_or rules i d).code else answer)
    → HasCounted rules old site (i + 1) seen answer
    → HasCounted rules old site i (set seen i v) a
counted_at rules old site i seen answer d v a within old_len seen_len count says h =
    let in_old : i < length old = omega arith in
    let in_seen : i < length seen = omega arith in
    let le : i ≤ i + 1 = omega arith in
    let kept : get_or seen i 0 ≡ get_or old i 0 = kept_at seen old i 0 h.before in
    let raise : ℕ → ℕ = λ (n : ℕ). if matches (get_or rules i d) site then n + 1 else n in
    record {
      low = omega arith;
      before = take-set seen i v ∙ sym (take-take i (i + 1) seen le) ∙ ap (take i) h.before ∙ take-take i (i + 1) old le;
      after =
          rw (drop-set seen i v in_seen, drop_at rules i d within, drop_at old i 0 in_old)
          (same_cons _ _ _ _ (count ∙ ap raise kept) h.after);
      answers =
          rw (drop-set seen i v in_seen, drop_at rules i d within)
          (says ∙ ap (λ (n : ℕ). if matches (get_or rules i d) site && allows (get_or rules i d).nth v then (get_or rules i d).code else n) h.answers);
    }

-- before the first rule counts, the old counts stand
pub none_counted : (rules : List Rule) (old : List ℕ) (site : Site) → length rules ≤ length old
    → HasCounted rules (take (length rules) old) site (length rules) (take (length rules) old) 0
none_counted rules old site enough =
    let there : length (take (length rules) old) ≤ length rules = omega (arith, length-take-le (length rules) old enough) in
    record {
      low = omega arith;
      before = refl;
      after = rw (drop_all (length rules) rules (omega arith), drop_all (length rules) (take (length rules) old) there) refl;
      answers = rw (drop_all (length rules) rules (omega arith)) refl;
    }

-- one rule more counts, among all the places of a hook
pub one_counted : (rules : List Rule) (old seen : List ℕ) (site : Site) (i answer : ℕ) (d : Rule) (v : ℕ) (answers : Bool)
    → 0 < i → length rules ≤ length old → length seen ≡ length old
    → v ≡ (if matches (get_or rules (i - 1) d) site then get_or seen (i - 1) 0 + 1 else get_or seen (i - 1) 0)
    → answers ≡ (matches (get_or rules (i - 1) d) site && allows (get_or rules (i - 1) d).nth v)
    → HasCounted rules (take (length rules) old) site i (take (length rules) seen) answer
    → HasCounted rules (take (length rules) old) site (i - 1) (take (length rules) (set seen (i - 1) v)) (if answers then (get_or rules (i - 1) d).code else answer)
one_counted rules old seen site i answer d v answers some enough same count says h =
    let within : i - 1 < length rules = omega (arith, h.low) in
    let back : i ≡ i - 1 + 1 = omega arith in
    let old_len : length (take (length rules) old) ≡ length rules = length-take-le (length rules) old enough in
    let seen_len : length (take (length rules) seen) ≡ length rules = length-take-le (length rules) seen (omega arith) in
    let here : get_or seen (i - 1) 0 ≡ get_or (take (length rules) seen) (i - 1) 0 = sym (get_or-take (length rules) seen (i - 1) 0 within) in
    let raise : ℕ → ℕ = λ (n : ℕ). if matches (get_or rules (i - 1) d) site then n + 1 else n in
    let choose : Bool → ℕ = λ (b : Bool). if b then (get_or rules (i - 1) d).code else answer in
    let before : HasCounted rules (take (length rules) old) site (i - 1 + 1) (take (length rules) seen) answer =
    subst (λ (k : ℕ). HasCounted rules (take (length rules) old) site k (take (length rules) seen) answer) back h in
    rw (take-set-lt (length rules) seen (i - 1) v within)
    (counted_at rules (take (length rules) old) site (i - 1) (take (length rules) seen) answer d v _ within old_len seen_len (count ∙ ap raise here) (ap choose says) before)

-- the count of the next rule has room
pub room_there : (rules : List Rule) (old seen : List ℕ) (site : Site) (i answer most : ℕ)
    → 0 < i → length rules ≤ length old → All (λ n. n < most) (take (length rules) old)
    → HasCounted rules (take (length rules) old) site i (take (length rules) seen) answer
    → get_or seen (i - 1) 0 < most
room_there rules old seen site i answer most some enough room h =
    let within : i - 1 < length rules = omega (arith, h.low) in
    let back : i ≡ i - 1 + 1 = omega arith in
    let old_len : length (take (length rules) old) ≡ length rules = length-take-le (length rules) old enough in
    let in_old : i - 1 < length (take (length rules) old) = omega arith in
    let same : take (i - 1 + 1) (take (length rules) seen) ≡ take (i - 1 + 1) (take (length rules) old) =
    subst (λ (k : ℕ). take k (take (length rules) seen) ≡ take k (take (length rules) old)) back h.before in
    let kept : get_or (take (length rules) seen) (i - 1) 0 ≡ get_or (take (length rules) old) (i - 1) 0 =
    kept_at (take (length rules) seen) (take (length rules) old) (i - 1) 0 same in
    let here : get_or (take (length rules) seen) (i - 1) 0 ≡ get_or seen (i - 1) 0 = get_or-take (length rules) seen (i - 1) 0 within in
    let below : get_or (take (length rules) old) (i - 1) 0 < most = room (i - 1) 0 in_old in
    omega arith

-- once all rules have counted, the counts are raised and the answer is theirs
pub all_counted : (rules : List Rule) (old : List ℕ) (site : Site) (i : ℕ) (seen : List ℕ) (answer : ℕ) → i ≤ 0 → HasCounted rules old site i seen answer
    → (seen ≡ raised rules old site) × (answer ≡ counted_answer rules (raised rules old site) site)
all_counted rules old site i seen answer none h =
    let end : i ≡ 0 = omega arith in
    let last : HasCounted rules old site 0 seen answer = subst (λ (k : ℕ). HasCounted rules old site k seen answer) end h in
    let counts : seen ≡ raised rules old site = last.after in
    (counts, last.answers ∙ ap (λ (ns : List ℕ). counted_answer rules ns site) counts)
