-- One event more, for where processors stand and what their keys count.
use Rattle.std.proofs.Common.{◌≡◌, ℕ, zero, suc, ◌+◌, ◌<◌, ◌≤◌, ◌^◌, Bool, true, false, ◌&&◌, ◌==◌, if◌then◌else◌, Option, Some, None, List, [], ◌∷◌, ◌++◌, map, length, get_or, set, refl, ap, sym, ◌∙◌, arith, cond}
use Rattle.std.proofs.lemmas.List.{length-set, get_or-set_same, get_or-set_other, append-nil, append_assoc}
use Rattle.std.proofs.lemmas.List.Sums.{count_by-le-length, fold-append}
use Rattle.std.proofs.lemmas.Bool.Decides.{nat_tests}
use Rattle.hp_states.proofs.Basics.{and_false, and_true}
use Rattle.hp_states.specs.declared.dir.Dir.{Dir}
use Rattle.hp_states.specs.declared.dir.Dir.TheVariants.{Up, Down}
use Rattle.hp_states.specs.Rules.{same_dir}
use Rattle.hp_event.specs.declared.key.Key.{Key}
use Rattle.hp_event.specs.declared.how.How.{How}
use Rattle.hp_event.specs.declared.answer.Answer.{Answer}
use Rattle.hp_event.specs.declared.answer.Answer.TheVariants.{Ok, Refused, Fault, Stuck, LogFull}
use Rattle.hp_event.specs.declared.event.Event.{Event}
use Rattle.hp_event.specs.declared.event.Event.TheVariants.{WalkBegin, Call, WalkEnd}
use Rattle.hp_model.specs.Entries.{is_done}
use Rattle.hp_model.specs.InForce.{done_entries, ups, downs, is_done_entry}
use Rattle.hp_model.specs.Walks.{Walk, walk, walk_step}
use Rattle.hp_model.specs.Settled.{settled, settled_step, left_at}
use Rattle.hp_model.specs.Net.{is_before, with_key, entered, entered_step}
use Rattle.hp_model.proofs.Laws.{walk_push, settled_push}
use Rattle.hp_model.proofs.Counts.{done_entries_push}
use Rattle.hp_print.specs.declared.processor_tally.ProcessorTally.{ProcessorTally}
use Rattle.hp_print.specs.declared.keys.KeyCount.{KeyCount}
use Rattle.hp_print.specs.Counts.{one_more, is_key, no_count, with_count, raised, raised_at, counted, AreInOrder}
use Rattle.hp_print.specs.Steps.{targets_after, settled_after, keys_after, stands_after}
use Rattle.hp_print.specs.Tallies.{target_of, count_of, counts_of, IsProcessorTally}
use Rattle.hp_model.proofs.KeyOrder.{before_after, before_not_after}
use Rattle.hp_print.proofs.KeyOrder.{counted_in_order, before_not_key, after_not_key, neither, same_before, key_apart, key_other}
use Rattle.hp_print.proofs.SuspendTallyStep.{one_more_is}

-- a list after a write, at a place that it has
pub get_or-set : {X : Type 0} (xs : List X) (i c : ℕ) (x d : X) → c < length xs →
    get_or (set xs i x) c d ≡ (if i == c then x else get_or xs c d)
get_or-set xs i c x d h = go (i == c) refl where
  go : (b : Bool) → (i == c) ≡ b → get_or (set xs i x) c d ≡ (if b then x else get_or xs c d)
  go true p = let same : i ≡ c = grind (arith, nat_tests) in rw same (get_or-set_same xs c x d h)
  go false p = get_or-set_other xs i c x d (λ e. grind (arith, nat_tests))

targets_as : (c : ℕ) (ts : List (Option ℕ)) (xs : List Event) (e : Event) → c < length ts →
    get_or ts c None ≡ target_of (walk c xs) → get_or (targets_after ts e) c None ≡ target_of (walk_step c (walk c xs) xs e)
targets_as c ts xs (WalkBegin seat cpu from to) h p = rw (get_or-set ts cpu c (Some to) None h) (go (cpu == c)) where
  go : (b : Bool) → (if b then Some to else get_or ts c None)
      ≡ target_of (if b then Some (record { seat = seat; from = from; to = to; before = xs }) else walk c xs)
  go true = refl
  go false = p
targets_as c ts xs (WalkEnd seat cpu given) h p = rw (get_or-set ts cpu c None None h) (go (cpu == c)) where
  go : (b : Bool) → (if b then None else get_or ts c None) ≡ target_of (if b then None else walk c xs)
  go true = refl
  go false = p
targets_as c ts xs e h p = p

stands_as : (given : Answer) (w : Option Walk) (at : ℕ) → stands_after given (target_of w) at ≡ left_at given w at
stands_as (Ok value) None at = refl
stands_as (Ok value) (Some w) at = refl
stands_as (Refused errno) w at = refl
stands_as (Fault code) w at = refl
stands_as (Stuck first second stuck_at) w at = refl
stands_as LogFull w at = refl

settled_as : (c : ℕ) (ts : List (Option ℕ)) (ss : List ℕ) (xs : List Event) (e : Event) → c < length ss →
    get_or ts c None ≡ target_of (walk c xs) → get_or ss c 0 ≡ settled c xs →
    get_or (settled_after ts ss e) c 0 ≡ settled_step c (settled c xs) xs e
settled_as c ts ss xs (WalkEnd seat cpu given) h p q =
    rw (get_or-set ss cpu c (stands_after given (get_or ts cpu None) (get_or ss cpu 0)) 0 h) (go (cpu == c) refl) where
      go : (b : Bool) → (cpu == c) ≡ b → (if b then stands_after given (get_or ts cpu None) (get_or ss cpu 0) else get_or ss c 0)
          ≡ (if b then left_at given (walk c xs) (settled c xs) else settled c xs)
      go true e = let same : cpu ≡ c = grind (arith, nat_tests) in rw (same, p, q) (stands_as given (walk c xs) (settled c xs))
      go false e = q
settled_as c ts ss xs e h p q = q

-- keys and their counts
entered_push : (c : ℕ) (xs : List Event) (e : Event) → entered c (xs ++ e ∷ []) ≡ entered_step c (entered c xs) e
unfolding entered
entered_push c xs e = fold-append (entered_step c) [] xs (e ∷ [])

abbrev found : Key → List Key → Bool
found k [] = false
found k (x ∷ xs) = if is_before x k then found k xs else (if is_before k x then false else true)

abbrev with_counts : (u v : Key → ℕ) → Key → KeyCount
with_counts u v k = record { key = k; ups = u k; downs = v k }

with_map : (u v : Key → ℕ) (k : Key) (ks : List Key) → (found k ks ≡ false → with_counts u v k ≡ no_count k) →
    with_count k (map (with_counts u v) ks) ≡ map (with_counts u v) (with_key k ks)
with_map u v k [] none = rw (none refl) refl
with_map u v k (x ∷ xs) none = go (with_map u v k xs) (is_before x k) (is_before k x) none where
  go : ((found k xs ≡ false → with_counts u v k ≡ no_count k) →
      with_count k (map (with_counts u v) xs) ≡ map (with_counts u v) (with_key k xs)) →
      (b d : Bool) → ((if b then found k xs else (if d then false else true)) ≡ false → with_counts u v k ≡ no_count k) →
      (if b
      then with_counts u v x ∷ with_count k (map (with_counts u v) xs)
      else (if d
      then no_count k ∷ with_counts u v x ∷ map (with_counts u v) xs
      else with_counts u v x ∷ map (with_counts u v) xs))
      ≡ map (with_counts u v) (if b then x ∷ with_key k xs else (if d then k ∷ x ∷ xs else x ∷ xs))
  go rest true d none = ap (λ ys. with_counts u v x ∷ ys) (rest none)
  go rest false true none = ap (λ y. y ∷ with_counts u v x ∷ map (with_counts u v) xs) (sym (none refl))
  go rest false false none = refl

-- a key that isn't found after another was added wasn't there before, and is no such key
found_with : (j k : Key) (ks : List Key) → found j (with_key k ks) ≡ false → (found j ks ≡ false) × (is_key j k ≡ false)
found_with j k [] h = go (is_before k j) refl (is_before j k) refl h where
  go : (b : Bool) → is_before k j ≡ b → (d : Bool) → is_before j k ≡ d →
      (if b then false else (if d then false else true)) ≡ false → (false ≡ false) × (is_key j k ≡ false)
  go true p d q h = (refl, after_not_key j k p)
  go false p true q h = (refl, before_not_key j k q)
  go false p false q h = cc
found_with j k (x ∷ xs) h = go (found_with j k xs) (is_before x k) refl (is_before k x) refl h where
  go : (found j (with_key k xs) ≡ false → (found j xs ≡ false) × (is_key j k ≡ false)) →
      (b : Bool) → is_before x k ≡ b → (d : Bool) → is_before k x ≡ d →
      found j (if b then x ∷ with_key k xs else (if d then k ∷ x ∷ xs else x ∷ xs)) ≡ false →
      (found j (x ∷ xs) ≡ false) × (is_key j k ≡ false)
  go rest true p d q h = within (is_before x j) refl (is_before j x) refl h where
    within : (b : Bool) → is_before x j ≡ b → (d : Bool) → is_before j x ≡ d →
        (if b then found j (with_key k xs) else (if d then false else true)) ≡ false →
        ((if b then found j xs else (if d then false else true)) ≡ false) × (is_key j k ≡ false)
    within true r d s h = rest h
    within false r true s h = (refl, before_not_key j k (before_after j x k s p))
    within false r false s h = cc
  go rest false p true q h = before (is_before k j) refl (is_before j k) refl h where
    before : (b : Bool) → is_before k j ≡ b → (d : Bool) → is_before j k ≡ d →
        (if b then found j (x ∷ xs) else (if d then false else true)) ≡ false →
        (found j (x ∷ xs) ≡ false) × (is_key j k ≡ false)
    before true r d s h = (h, after_not_key j k r)
    before false r true s h =
        let front : is_before j x ≡ true = before_after j k x s q in
        let behind : is_before x j ≡ false = before_not_after j x front in
        (rw (behind, front) refl, before_not_key j k s)
    before false r false s h = cc
  go rest false p false q h =
      let same : is_key k x ≡ true = neither k x q p in
      (h, others (is_before x j) refl (is_before j x) refl h)
    where
      others : (b : Bool) → is_before x j ≡ b → (d : Bool) → is_before j x ≡ d →
          (if b then found j xs else (if d then false else true)) ≡ false → is_key j k ≡ false
      others true r d s h = after_not_key j k (same_before k x j (neither k x q p) r)
      others false r true s h = key_apart j k x (neither k x q p) (before_not_key j x s)
      others false r false s h = cc

counts_as : (c : ℕ) (events : List Event) →
    counts_of c events ≡ map (with_counts (λ k. ups c k.state k.inst events) (λ k. downs c k.state k.inst events)) (entered c events)
unfolding counts_of
counts_as c events = refl

-- the keys that were never entered count nothing
abbrev Uncounted : (c : ℕ) → List Event → Type 0
Uncounted c xs = (k : Key) → found k (entered c xs) ≡ false → count_of c xs k ≡ no_count k

done_few : (c s i : ℕ) (d : Dir) (xs : List Event) → done_entries c s i d xs ≤ length xs
unfolding done_entries
done_few c s i d xs = count_by-le-length (is_done_entry c s i d) xs

same_counts : (x : Key) (u u' v v' : ℕ) → u ≡ u' → v ≡ v' →
    with_counts (λ k. u) (λ k. v) x ≡ with_counts (λ k. u') (λ k. v') x
same_counts x u u' v v' p q = rw (p, q) refl

-- an entry of a key counts there once, where it is done
grown : (dir : Dir) (a b : Bool) (u v : ℕ) (x : Key) → one_more u ≡ u + 1 → one_more v ≡ v + 1 →
    with_counts (λ k. u + cond ((true && same_dir dir Up) && (a && b)) 1 0)
    (λ k. v + cond ((true && same_dir dir Down) && (a && b)) 1 0) x
    ≡ (if a && b then raised dir (with_counts (λ k. u) (λ k. v) x) else with_counts (λ k. u) (λ k. v) x)
grown Up true true u v x p q = same_counts x (u + 1) (one_more u) (v + 0) v (sym p) (omega arith)
grown Down true true u v x p q = same_counts x (u + 0) u (v + 1) (one_more v) (omega arith) (sym q)
grown Up true false u v x p q = same_counts x (u + 0) u (v + 0) v (omega arith) (omega arith)
grown Down true false u v x p q = same_counts x (u + 0) u (v + 0) v (omega arith) (omega arith)
grown Up false b u v x p q = same_counts x (u + 0) u (v + 0) v (omega arith) (omega arith)
grown Down false b u v x p q = same_counts x (u + 0) u (v + 0) v (omega arith) (omega arith)

count_push : (c : ℕ) (xs : List Event) (seat cpu state inst : ℕ) (dir : Dir) (how : How) (x : Key) →
    (cpu == c) ≡ true → length xs < 2 ^ 63 →
    count_of c (xs ++ Call seat cpu state inst dir how ∷ []) x
    ≡ (if is_key (record { state = state; inst = inst }) x && is_done how then raised dir (count_of c xs x) else count_of c xs x)
count_push c xs seat cpu state inst dir how x here l =
    let e : Event = Call seat cpu state inst dir how in
    let up = done_entries_push c x.state x.inst Up xs e in
    let down = done_entries_push c x.state x.inst Down xs e in
    rw (up, down, here)
    (grown dir (state == x.state && inst == x.inst) (is_done how) (ups c x.state x.inst xs) (downs c x.state x.inst xs) x
    (one_more_is (ups c x.state x.inst xs) (length xs) (done_few c x.state x.inst Up xs) l)
    (one_more_is (downs c x.state x.inst xs) (length xs) (done_few c x.state x.inst Down xs) l))

-- an entry of another key or another processor counts nothing here
none_counts : (a b d f : Bool) → (a && b) ≡ false → ◌≡◌ {A = ℕ} (cond ((a && d) && (b && f)) 1 0) 0
none_counts true true d f h = cc
none_counts true false true f h = refl
none_counts true false false f h = refl
none_counts false b d f h = refl

count_same : (c : ℕ) (xs : List Event) (seat cpu state inst : ℕ) (dir : Dir) (how : How) (x : Key) →
    ((cpu == c) && is_key (record { state = state; inst = inst }) x) ≡ false →
    count_of c (xs ++ Call seat cpu state inst dir how ∷ []) x ≡ count_of c xs x
count_same c xs seat cpu state inst dir how x apart =
    let e : Event = Call seat cpu state inst dir how in
    let up = done_entries_push c x.state x.inst Up xs e in
    let down = done_entries_push c x.state x.inst Down xs e in
    rw (up, down)
    (same_counts x
    (ups c x.state x.inst xs + cond (((cpu == c) && same_dir dir Up) && ((state == x.state && inst == x.inst) && is_done how)) 1 0)
    (ups c x.state x.inst xs)
    (downs c x.state x.inst xs + cond (((cpu == c) && same_dir dir Down) && ((state == x.state && inst == x.inst) && is_done how)) 1 0)
    (downs c x.state x.inst xs)
    (grind (arith, none_counts (cpu == c) (state == x.state && inst == x.inst) (same_dir dir Up) (is_done how) apart))
    (grind (arith, none_counts (cpu == c) (state == x.state && inst == x.inst) (same_dir dir Down) (is_done how) apart)))

map_same : (u v u' v' : Key → ℕ) (ks : List Key) → ((x : Key) → with_counts u v x ≡ with_counts u' v' x) →
    map (with_counts u v) ks ≡ map (with_counts u' v') ks
map_same u v u' v' [] h = refl
map_same u v u' v' (x ∷ xs) h =
    ap (λ y. y ∷ map (with_counts u v) xs) (h x) ∙ ap (λ ys. with_counts u' v' x ∷ ys) (map_same u v u' v' xs h)

map_raised : (u v u' v' : Key → ℕ) (k : Key) (d : Dir) (ks : List Key) →
    ((x : Key) → with_counts u' v' x ≡ (if is_key k x then raised d (with_counts u v x) else with_counts u v x)) →
    map (with_counts u' v') ks ≡ raised_at k d (map (with_counts u v) ks)
map_raised u v u' v' k d [] h = refl
map_raised u v u' v' k d (x ∷ xs) h =
    ap (λ y. y ∷ map (with_counts u' v') xs) (h x)
    ∙ ap (λ ys. (if is_key k x then raised d (with_counts u v x) else with_counts u v x) ∷ ys) (map_raised u v u' v' k d xs h)

-- an entry of the processor
counts_push : (c : ℕ) (xs : List Event) (seat cpu state inst : ℕ) (dir : Dir) (how : How) → (cpu == c) ≡ true →
    length xs < 2 ^ 63 → Uncounted c xs →
    counts_of c (xs ++ Call seat cpu state inst dir how ∷ [])
    ≡ counted (record { state = state; inst = inst }) dir (is_done how) (counts_of c xs)
unfolding counts_of
counts_push c xs seat cpu state inst dir how here l none = rw (entered_push, here) (go (is_done how) refl) where
  go : (b : Bool) → is_done how ≡ b →
      map (count_of c (xs ++ Call seat cpu state inst dir how ∷ [])) (with_key (record { state = state; inst = inst }) (entered c xs))
      ≡ counted (record { state = state; inst = inst }) dir b (map (count_of c xs) (entered c xs))
  go true p =
      let k : Key = record { state = state; inst = inst } in
      let e : Event = Call seat cpu state inst dir how in
      let u : Key → ℕ = λ x. ups c x.state x.inst xs in
      let v : Key → ℕ = λ x. downs c x.state x.inst xs in
      map_raised u v (λ x. ups c x.state x.inst (xs ++ e ∷ [])) (λ x. downs c x.state x.inst (xs ++ e ∷ [])) k dir
      (with_key k (entered c xs))
      (λ x. count_push c xs seat cpu state inst dir how x here l
      ∙ ap (λ b. if b then raised dir (count_of c xs x) else count_of c xs x)
      (ap (λ b. is_key k x && b) p ∙ and_true (is_key k x)))
      ∙ ap (raised_at k dir) (sym (with_map u v k (entered c xs) (none k)))
  go false p =
      let k : Key = record { state = state; inst = inst } in
      let e : Event = Call seat cpu state inst dir how in
      let u : Key → ℕ = λ x. ups c x.state x.inst xs in
      let v : Key → ℕ = λ x. downs c x.state x.inst xs in
      map_same (λ x. ups c x.state x.inst (xs ++ e ∷ [])) (λ x. downs c x.state x.inst (xs ++ e ∷ [])) u v
      (with_key k (entered c xs))
      (λ x. count_push c xs seat cpu state inst dir how x here l
      ∙ ap (λ b. if b then raised dir (count_of c xs x) else count_of c xs x)
      (ap (λ b. is_key k x && b) p ∙ and_false (is_key k x)))
      ∙ sym (with_map u v k (entered c xs) (none k))

-- an entry of another processor
counts_apart : (c : ℕ) (xs : List Event) (seat cpu state inst : ℕ) (dir : Dir) (how : How) → (cpu == c) ≡ false →
    counts_of c (xs ++ Call seat cpu state inst dir how ∷ []) ≡ counts_of c xs
unfolding counts_of
counts_apart c xs seat cpu state inst dir how apart =
    let e : Event = Call seat cpu state inst dir how in
    rw (entered_push, apart)
    (map_same (λ x. ups c x.state x.inst (xs ++ e ∷ [])) (λ x. downs c x.state x.inst (xs ++ e ∷ []))
    (λ x. ups c x.state x.inst xs) (λ x. downs c x.state x.inst xs) (entered c xs)
    (λ x. count_same c xs seat cpu state inst dir how x (rw apart refl)))

-- an event that is no entry
count_quiet : (c : ℕ) (xs : List Event) (e : Event) (x : Key) → is_done_entry c x.state x.inst Up e ≡ false →
    is_done_entry c x.state x.inst Down e ≡ false → count_of c (xs ++ e ∷ []) x ≡ count_of c xs x
count_quiet c xs e x p q =
    rw (done_entries_push c x.state x.inst Up xs e, done_entries_push c x.state x.inst Down xs e, p, q)
    (same_counts x (ups c x.state x.inst xs + 0) (ups c x.state x.inst xs) (downs c x.state x.inst xs + 0)
    (downs c x.state x.inst xs) (omega arith) (omega arith))

counts_quiet : (c : ℕ) (xs : List Event) (e : Event) → entered_step c (entered c xs) e ≡ entered c xs →
    ((x : Key) → is_done_entry c x.state x.inst Up e ≡ false) →
    ((x : Key) → is_done_entry c x.state x.inst Down e ≡ false) → counts_of c (xs ++ e ∷ []) ≡ counts_of c xs
unfolding counts_of
counts_quiet c xs e same p q =
    rw (entered_push, same)
    (map_same (λ x. ups c x.state x.inst (xs ++ e ∷ [])) (λ x. downs c x.state x.inst (xs ++ e ∷ []))
    (λ x. ups c x.state x.inst xs) (λ x. downs c x.state x.inst xs) (entered c xs) (λ x. count_quiet c xs e x (p x) (q x)))

uncounted_push : (c : ℕ) (xs : List Event) (e : Event) → Uncounted c xs → Uncounted c (xs ++ e ∷ [])
uncounted_push c xs (Call seat cpu state inst dir how) h k miss = go (cpu == c) refl (rw entered_push at miss) where
  go : (b : Bool) → (cpu == c) ≡ b →
      found k (if b then with_key (record { state = state; inst = inst }) (entered c xs) else entered c xs) ≡ false →
      count_of c (xs ++ Call seat cpu state inst dir how ∷ []) k ≡ no_count k
  go true here miss =
      let f = found_with k (record { state = state; inst = inst }) (entered c xs) miss in
      count_same c xs seat cpu state inst dir how k (rw here (key_other k (record { state = state; inst = inst }) f.1))
      ∙ h k f.0
  go false here miss = count_same c xs seat cpu state inst dir how k (rw here refl) ∙ h k miss
uncounted_push c xs e h k miss = count_quiet c xs e k refl refl ∙ h k (rw entered_push at miss)

-- what holds of no events and with one event more holds of all
grow : (P : List Event → Type 0) → ((xs : List Event) (e : Event) → P xs → P (xs ++ e ∷ [])) → (before es : List Event) →
    P before → P (before ++ es)
grow P more before [] h = rw append-nil h
grow P more before (e ∷ es) h =
    let all = grow P more (before ++ e ∷ []) es (more before e h) in rw append_assoc at all

uncounted_none : (c : ℕ) → Uncounted c []
unfolding done_entries
uncounted_none c k miss = refl

uncounted : (c : ℕ) (xs : List Event) → Uncounted c xs
uncounted c xs = grow (λ ys. Uncounted c ys) (λ ys e h. uncounted_push c ys e h) [] xs (uncounted_none c)

keys_as : (c : ℕ) (ks : List (List KeyCount)) (xs : List Event) (e : Event) → c < length ks → length xs < 2 ^ 63 →
    get_or ks c [] ≡ counts_of c xs → get_or (keys_after ks e) c [] ≡ counts_of c (xs ++ e ∷ [])
keys_as c ks xs (Call seat cpu state inst dir how) h l p =
    rw (get_or-set ks cpu c (counted (record { state = state; inst = inst }) dir (is_done how) (get_or ks cpu [])) [] h)
    (go (cpu == c) refl)
  where
    go : (b : Bool) → (cpu == c) ≡ b →
        (if b then counted (record { state = state; inst = inst }) dir (is_done how) (get_or ks cpu []) else get_or ks c [])
        ≡ counts_of c (xs ++ Call seat cpu state inst dir how ∷ [])
    go true here =
        let same : cpu ≡ c = grind (arith, nat_tests) in
        let now : get_or ks cpu [] ≡ counts_of c xs = rw same p in
        rw now (sym (counts_push c xs seat cpu state inst dir how here l (uncounted c xs)))
    go false here = p ∙ sym (counts_apart c xs seat cpu state inst dir how here)
keys_as c ks xs e h l p = p ∙ sym (counts_quiet c xs e refl (λ x. refl) (λ x. refl))

set_keeps : {X : Type 0} (P : X → Type 0) (xs : List X) (i c : ℕ) (x d : X) → P x → P (get_or xs c d) →
    P (get_or (set xs i x) c d)
set_keeps P [] i c x d p q = q
set_keeps P (y ∷ ys) zero zero x d p q = p
set_keeps P (y ∷ ys) zero (suc c) x d p q = q
set_keeps P (y ∷ ys) (suc i) zero x d p q = q
set_keeps P (y ∷ ys) (suc i) (suc c) x d p q = set_keeps P ys i c x d p q

order_as : (ks : List (List KeyCount)) (e : Event) → ((c : ℕ) → AreInOrder (get_or ks c [])) → (c : ℕ) →
    AreInOrder (get_or (keys_after ks e) c [])
order_as ks (Call seat cpu state inst dir how) o c =
    let k : Key = record { state = state; inst = inst } in
    set_keeps AreInOrder ks cpu c (counted k dir (is_done how) (get_or ks cpu [])) []
    (counted_in_order k dir (is_done how) (get_or ks cpu []) (o cpu)) (o c)
order_as ks e o c = o c

targets_many : (ts : List (Option ℕ)) (e : Event) → length (targets_after ts e) ≡ length ts
targets_many ts (WalkBegin seat cpu from to) = length-set ts cpu (Some to)
targets_many ts (WalkEnd seat cpu given) = length-set ts cpu None
targets_many ts e = refl

settled_many : (ts : List (Option ℕ)) (ss : List ℕ) (e : Event) → length (settled_after ts ss e) ≡ length ss
settled_many ts ss (WalkEnd seat cpu given) =
    length-set ss cpu (stands_after given (get_or ts cpu None) (get_or ss cpu 0))
settled_many ts ss e = refl

keys_many : (ks : List (List KeyCount)) (e : Event) → length (keys_after ks e) ≡ length ks
keys_many ks (Call seat cpu state inst dir how) =
    length-set ks cpu (counted (record { state = state; inst = inst }) dir (is_done how) (get_or ks cpu []))
keys_many ks e = refl

pub processors_step : (n : ℕ) (xs : List Event) (e : Event) (w v : ProcessorTally) → length xs < 2 ^ 63 → IsProcessorTally n xs w →
    v.targets.items ≡ targets_after w.targets.items e →
    v.settled.items ≡ settled_after w.targets.items w.settled.items e →
    v.keys.items ≡ keys_after w.keys.items e → IsProcessorTally n (xs ++ e ∷ []) v
processors_step n xs e w v l h p q r = record {
  as_many_settled = rw q (settled_many w.targets.items w.settled.items e ∙ h.as_many_settled);
  as_many_targets = rw p (targets_many w.targets.items e ∙ h.as_many_targets);
  as_many_keys = rw r (keys_many w.keys.items e ∙ h.as_many_keys);
  settled_is = λ c b. rw (q, settled_push)
      (settled_as c w.targets.items w.settled.items xs e (rw h.as_many_settled b) (h.target_is c b) (h.settled_is c b));
  target_is = λ c b. rw (p, walk_push) (targets_as c w.targets.items xs e (rw h.as_many_targets b) (h.target_is c b));
  keys_is = λ c b. rw r (keys_as c w.keys.items xs e (rw h.as_many_keys b) l (h.keys_is c b));
  order = λ c. rw r (order_as w.keys.items e h.order c);
}
