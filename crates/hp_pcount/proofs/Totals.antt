-- The total of a journal that was counted: on how many processors the state is in force, over all fronts.
use Rattle.std.proofs.Common.{◌≡◌, ℕ, zero, suc, ◌+◌, ◌<◌, ◌≤◌, add-one, Bool, true, false, cond, List, [], ◌∷◌, ◌++◌, length, take, drop, get_or, All, refl, ap, ◌∙◌, arith}
use Rattle.std.specs.Prelude.{ℤ, pos, ◌+ℤ◌, fold, filter, sum_by}
use Rattle.std.proofs.lemmas.Int.{ints}
use Rattle.std.proofs.lemmas.Bool.{ne_eqb}
use Rattle.std.proofs.lemmas.List.{append-nil, take_more, take_all, take-append-drop}
use Rattle.std.proofs.lemmas.List.Sums.{fold_push, sum_by_push, length-filter}
use Rattle.std.proofs.lemmas.List.Elements.{All-nil, All-cons, All-head, All-tail, All-push, All-get_or, All-weaker, filter-append}
use Rattle.hp_states.specs.declared.dir.Dir.{Dir}
use Rattle.hp_states.specs.declared.dir.Dir.TheVariants.{Up, Down}
use Rattle.hp_states.specs.declared.limits.TheConstants.{MAX_CPU_SET}
use Rattle.hp_event.specs.declared.head.Head.{Head}
use Rattle.hp_event.specs.declared.event.Event.{Event}
use Rattle.hp_event.specs.declared.event.Event.TheVariants.{Call, Leave}
use Rattle.hp_model.specs.InForce.{is_done_entry, done_entries}
use Rattle.hp_model.specs.Journal.{EachAfter}
use Rattle.hp_model.specs.Lists.{numbers, rising}
use Rattle.hp_model.specs.Lawful.{Stands, IsLawful}
use Rattle.hp_model.proofs.Counts.{done_entries-none, done_entries-cons}
use Rattle.hp_model.proofs.HeadlineProof.{lawful_front, lawful_more}
use Rattle.hp_model.proofs.EntryProcessors.{call_below}
use Rattle.hp_model.proofs.ListLemmas.{filter_agree}
use Rattle.hp_pcount.specs.Tally.{Tally, is_open, total, none_added}
use Rattle.hp_pcount.specs.Changes.{followed, raised, batched, added}
use Rattle.hp_pcount.specs.Places.{HasPart}
use Rattle.hp_pcount.specs.Stands.{StandsAt}
use Rattle.hp_pcount.specs.Steps.{is_in_force}
use Rattle.hp_pcount.specs.Counted.{open_processors, one_on_each, counted_step, counted, in_force_on, in_force_over}
use Rattle.hp_pcount.proofs.Tallies.{Wide}
use Rattle.hp_pcount.proofs.Standing.{stands_none, follows, rises_batched}
use Rattle.hp_pcount.proofs.Stepping.{parts_lawful, wide_followed, wide_batched, wide_none, state_followed, state_batched, state_none, open_is_force}
use Rattle.hp_pcount.proofs.Additions.{passed_upto, opened_batched}

-- ---- a state is in force on no processor that isn't possible

abbrev IsBelow : ℕ → Event → Type 0
IsBelow n (Call seat cpu state inst dir how) = cpu < n
IsBelow n _ = Unit {0}

below_of_event : (head : Head) (xs : List Event) (e : Event) → IsLawful head xs → Stands head xs e → IsBelow head.possible e
below_of_event head xs (Call seat cpu state inst dir how) lawful s = call_below head xs seat cpu state inst dir how lawful s.0
below_of_event head xs e lawful s = tt

below_after : (head : Head) (before rest : List Event) → IsLawful head before → EachAfter (Stands head) before rest →
    All (IsBelow head.possible) rest
below_after head before [] lawful h = All-nil (IsBelow head.possible)
below_after head before (e ∷ es) lawful h =
    All-cons (IsBelow head.possible) e es (below_of_event head before e lawful h.0)
    (below_after head (before ++ e ∷ []) es (lawful_more head before e lawful h.0) h.1)

not_there : (n c s : ℕ) (d : Dir) (e : Event) → IsBelow n e → n ≤ c → is_done_entry c s 0 d e ≡ false
not_there n c s d (Call seat cpu state inst dir how) b l = rw (ne_eqb cpu c (λ e. omega arith)) refl
not_there n c s d e b l = refl

none_done : (n c s : ℕ) (d : Dir) (xs : List Event) → All (IsBelow n) xs → n ≤ c → done_entries c s 0 d xs ≡ 0
none_done n c s d [] h l = done_entries-none c s 0 d
none_done n c s d (x ∷ xs) h l =
    let r = none_done n c s d xs (All-tail (IsBelow n) x xs h) l in
    rw (done_entries-cons c s 0 d x xs, not_there n c s d x (All-head (IsBelow n) x xs h) l, r) refl

none_force : (head : Head) (xs : List Event) (c s : ℕ) → IsLawful head xs → head.possible ≤ c → is_in_force c s xs ≡ false
none_force head xs c s lawful l =
    let below = below_after head [] xs (lawful.0, tt) lawful.1 in
    rw (none_done head.possible c s Down xs below l, none_done head.possible c s Up xs below l) refl

-- ---- as many are open as it is in force on

pub open_count : (head : Head) (t : Tally) (xs : List Event) (sum : ℤ) → IsLawful head xs → StandsAt xs sum t →
    length (open_processors t) ≡ in_force_on head t.state xs
unfolding open_processors in_force_on
open_count head t xs sum lawful st =
    let few = lawful.0.few_possible in
    ap length
    (filter_agree (is_open t) (λ c. is_in_force c t.state xs) MAX_CPU_SET (λ c b. open_is_force t xs sum c b st)
    ∙ passed_upto (λ c. is_in_force c t.state xs) head.possible MAX_CPU_SET (omega arith) (λ c a b. none_force head xs c t.state lawful a))
    ∙ length-filter (λ c. is_in_force c t.state xs) (numbers head.possible)

-- ---- 1 on each of them

abbrev Open : Tally → ℕ → Type 0
Open t c = (c < MAX_CPU_SET) × (is_open t c ≡ true)

open_among : (t : Tally) (n : ℕ) → n ≤ MAX_CPU_SET → All (Open t) (filter (is_open t) (numbers n))
open_among t zero l = All-nil (Open t)
open_among t (suc n) l =
    rw (filter-append (is_open t) (numbers n) (n ∷ [])) (go (open_among t n (omega arith)) (is_open t n) refl)
  where
    go : All (Open t) (filter (is_open t) (numbers n)) → (o : Bool) → is_open t n ≡ o →
        All (Open t) (filter (is_open t) (numbers n) ++ cond o (n ∷ []) [])
    go h true e = All-push (Open t) (filter (is_open t) (numbers n)) n h (omega arith, e)
    go h false e = rw append-nil h

one_more : (sum : ℤ) (n : ℕ) → (sum +ℤ pos 1) +ℤ pos n ≡ sum +ℤ pos (suc n)
one_more sum n = omega (arith, ints)

none_added_yet : (sum : ℤ) → sum +ℤ pos 0 ≡ sum
none_added_yet sum = omega (arith, ints)

pub record Went (xs : List Event) (sum : ℤ) (s : ℕ) (t : Tally) : Type 0 where
  pub stands : StandsAt xs sum t
  pub is_wide : Wide t
  pub state_is : t.state ≡ s

ones_stand : (xs : List Event) (sum : ℤ) (s : ℕ) (cs : List ℕ) (t : Tally) → All (Open t) cs → Went xs sum s t →
    Went xs (sum +ℤ pos (length cs)) s (fold (λ u cpu. added cpu (pos 1) u) t cs)
ones_stand xs sum s [] t h w = rw none_added_yet w
ones_stand xs sum s (c ∷ cs) t h w =
    let o = All-head (Open t) c cs h in
    let u : Tally = batched c (raised c (pos 1) t) in
    let same : (k : ℕ) → is_open u k ≡ is_open t k = λ k. ap (λ os. get_or os k false) (opened_batched t c (pos 1)) in
    rw (o.1, ← one_more sum (length cs))
    (ones_stand xs (sum +ℤ pos 1) s cs u
    (All-weaker (Open t) (Open u) (λ k p. (p.0, same k ∙ p.1)) cs (All-tail (Open t) c cs h))
    record {
      stands = rises_batched t c (pos 1) w.is_wide o.0 o.1 xs sum w.stands;
      is_wide = wide_batched t c (pos 1) w.is_wide;
      state_is = state_batched t c (pos 1) ∙ w.state_is;
    })

-- ---- a journal, front by front

pub counted_none : (s b : ℕ) → counted s b [] ≡ none_added s b
unfolding counted
counted_none s b = refl

pub counted_more : (s b : ℕ) (events : List Event) (i : ℕ) (d : Event) → i < length events →
    counted s b (take (i + 1) events) ≡ one_on_each (followed (get_or events i d) (counted s b (take i events)))
unfolding counted
counted_more s b events i d h =
    rw (take_more events i d h) (fold_push counted_step (none_added s b) (take i events) (get_or events i d))

rising_more : (a n : ℕ) → rising a (suc n) ≡ rising a n ++ suc (a + n) ∷ []
rising_more a zero = let e : suc a ≡ suc (a + 0) = omega arith in ap (λ (k : ℕ). k ∷ []) e
rising_more a (suc n) =
    let e : suc (suc a + n) ≡ suc (a + suc n) = omega arith in
    ap (λ ks. suc a ∷ ks) (rising_more (suc a) n ∙ ap (λ (k : ℕ). rising (suc a) n ++ k ∷ []) e)

-- the sum over the first fronts
over_first : Head → (s : ℕ) → List Event → (i : ℕ) → ℕ
over_first head s events i = sum_by (λ k. in_force_on head s (take k events)) (rising 0 i)

over_more : (head : Head) (s : ℕ) (events : List Event) (i : ℕ) →
    over_first head s events (i + 1) ≡ over_first head s events i + in_force_on head s (take (i + 1) events)
unfolding over_first
over_more head s events i =
    let e : suc (0 + i) ≡ suc i = omega arith in
    rw (add-one i, rising_more 0 i, sum_by_push (λ k. in_force_on head s (take k events)) (rising 0 i) (suc (0 + i)), e) refl

all_ones : (xs : List Event) (sum s : ℕ) (u : Tally) → Went xs (pos sum) s u →
    Went xs (pos (sum + length (open_processors u))) s (one_on_each u)
unfolding open_processors
all_ones xs sum s u went =
    ones_stand xs (pos sum) s (filter (is_open u) (numbers MAX_CPU_SET)) u (open_among u MAX_CPU_SET (omega arith)) went

went_none : (head : Head) (s b : ℕ) (events : List Event) → Went [] (pos (over_first head s events 0)) s (counted s b [])
unfolding over_first counted
went_none head s b events = record { stands = stands_none s b; is_wide = wide_none s b; state_is = state_none s b }

module _ (head : Head) (s b : ℕ) (events : List Event) (lawful : IsLawful head events) where
  step : (i : ℕ) (d : Event) → i < length events → Went (take i events) (pos (over_first head s events i)) s (counted s b (take i events)) →
      Went (take (i + 1) events) (pos (over_first head s events (i + 1))) s (counted s b (take (i + 1) events))
  step i d h w =
      let e = get_or events i d in
      let t : Tally = counted s b (take i events) in
      let u : Tally = followed e t in
      let sum : ℕ = over_first head s events i in
      let cut = take_more events i d h in
      let whole : IsLawful head (take (i + 1) events) =
      lawful_front head (take (i + 1) events) (drop (i + 1) events) (rw (take-append-drop (i + 1) events) lawful) in
      let part = All-get_or HasPart events i d h (parts_lawful head events lawful) in
      let here : StandsAt (take (i + 1) events) (pos sum) u =
      rw cut (follows t e w.is_wide part head (take i events) (pos sum) (rw cut at whole) w.stands) in
      let went : Went (take (i + 1) events) (pos sum) s u = record {
        stands = here;
        is_wide = wide_followed t e w.is_wide;
        state_is = state_followed t e ∙ w.state_is;
      } in
      let n = rw went.state_is at (open_count head u (take (i + 1) events) (pos sum) whole here) in
      rw (counted_more s b events i d h, over_more head s events i, ← n) (all_ones (take (i + 1) events) sum s u went)

  went : (i : ℕ) → i ≤ length events → Went (take i events) (pos (over_first head s events i)) s (counted s b (take i events))
  went zero l = went_none head s b events
  went (suc i) l =
      rw (← add-one i)
      (step i (Leave 0) (omega arith) (went i (omega arith)))

  pub total_counted : total (counted s b events) ≡ pos (in_force_over head s events)
  unfolding over_first in_force_over
  total_counted =
      let w = went (length events) (omega arith) in
      rw (take_all (length events) events (omega arith)) at w.stands.total_is
