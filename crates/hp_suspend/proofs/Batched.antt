-- The batch of an upmany: what is left of it is a set, which loses a processor where its walk begins.
use Rattle.std.proofs.Common.{◌≡◌, ℕ, zero, suc, ◌+◌, ◌<◌, Bool, true, false, not, cond, ◌&&◌, ◌||◌, eqb, ltb, get_or, Option, Some, None, List, [], ◌∷◌, ◌++◌, length, refl, ap, sym, ◌∙◌, subst, inl, inr, ◌⊎◌, arith}
use Rattle.std.specs.Prelude.{filter, slice_get, IfSome, IfNone}
use Rattle.std.proofs.lemmas.Bool.{true≢false, false≢true, ltb-true, ltb-false, lt-ltb, eqb-true, eqb-false}
use Rattle.std.proofs.lemmas.Bool.Decides.{nat_tests}
use Rattle.std.proofs.lemmas.List.Elements.{filter-append}
use Rattle.hp_model.proofs.QueueMoves.{among_filter}
use Rattle.hp_states.proofs.Basics.{none_some, same_some}
use Rattle.hp_states.specs.declared.cpu_set.CpuSet.{CpuSet}
use Rattle.hp_states.specs.CpuSets.{has, IsLowestFrom, HasNoneFrom}
use Rattle.hp_event.specs.declared.answer.Answer.{Answer}
use Rattle.hp_event.specs.declared.op.Op.TheVariants.{UpMany}
use Rattle.hp_event.specs.declared.head.Head.{Head}
use Rattle.hp_event.specs.declared.event.Event.{Event}
use Rattle.hp_event.specs.declared.event.Event.TheVariants.{Enter, WalkBegin, WalkEnd}
use Rattle.hp_model.specs.Batch.{begun, batch, to_begin}
use Rattle.hp_model.specs.Lists.{is_empty, occurs, among, numbers}
use Rattle.hp_model.specs.MapLock.{Operation, operation}
use Rattle.hp_model.specs.Sequence.{failures}
use Rattle.hp_model.specs.Settled.{settled}
use Rattle.hp_model.specs.Suspend.{is_ok}
use Rattle.hp_model.proofs.Laws.{begun_push, answers_push}
use Rattle.hp_model.proofs.Counts.{occurs-append}
use Rattle.hp_model.proofs.ListLemmas.{filter_both}
use Rattle.hp_suspend.specs.Batching.{IsBatching}
use Rattle.hp_suspend.specs.Tables.{AreSettled}
use Rattle.hp_suspend.specs.declared.batch.Batch.{Batch}
use Rattle.hp_suspend.proofs.Places.{among_places, said_at}
use Rattle.hp_suspend.proofs.Taking.{failed_more}

-- whether one is of the batch
abbrev pub is_of : CpuSet → (state : ℕ → ℕ) → ℕ → Bool
is_of set state c = has set c && ltb (state c) 200

first_here : (xs ys : List ℕ) (c : ℕ) → slice_get (xs ++ ys) 0 ≡ Some c →
    ((slice_get xs 0 ≡ Some c) × (0 < length xs))
    ⊎ ((xs ≡ []) × (slice_get ys 0 ≡ Some c))
first_here [] ys c h = inr (refl, h)
first_here (x ∷ xs) ys c h = inl (h, omega arith)

-- the first number that passes
pub record IsFirst (p : ℕ → Bool) (c : ℕ) : Type 0 where
  pub passes : p c ≡ true
  pub none_below : (d : ℕ) → d < c → p d ≡ false

pub first_is : (p : ℕ → Bool) (n c : ℕ) → slice_get (filter p (numbers n)) 0 ≡ Some c → IsFirst p c × (c < n)
first_is p zero c h = absurd (none_some c h)
first_is p (suc n) c h =
    go (first_here (filter p (numbers n)) (filter p (n ∷ [])) c (ap (λ xs. slice_get xs 0) (sym (filter-append p (numbers n) (n ∷ []))) ∙ h))
    (first_is p n c)
  where
    one : (b : Bool) → p n ≡ b → slice_get (cond b (n ∷ []) []) 0 ≡ Some c → (p n ≡ true) × (n ≡ c)
    one true e k = (e, same_some n c k)
    one false e k = absurd (none_some c k)

    empty : filter p (numbers n) ≡ [] → (d : ℕ) → d < n → p d ≡ false
    empty e d below = pick (p d) refl
      where
        pick : (b : Bool) → p d ≡ b → b ≡ false
        pick false q = refl
        pick true q =
            let l = lt-ltb d n below in
            absurd (false≢true (ap (among d) (sym e) ∙ (among_places p n d ∙ rw (l, q) refl)))

    go : ((slice_get (filter p (numbers n)) 0 ≡ Some c) × (0 < length (filter p (numbers n))))
        ⊎ ((filter p (numbers n) ≡ []) × (slice_get (filter p (n ∷ [])) 0 ≡ Some c)) →
        (slice_get (filter p (numbers n)) 0 ≡ Some c → IsFirst p c × (c < n)) → IsFirst p c × (c < suc n)
    go (inl k) more = let m = more k.0 in let l = m.1 in (m.0, omega (arith, l))
    go (inr k) more =
        let o = one (p n) refl k.1 in
        let s = o.1 in (
          record { passes = subst (λ z. p z ≡ true) s o.0; none_below = λ d below. empty k.0 d (omega (arith, s, below)) },
          omega (arith, s),
        )

-- of a set that is a filter of the first numbers the lowest is the filter's first
same_first : (p : ℕ → Bool) (n : ℕ) (set : CpuSet) (found : Option ℕ) → ((c : ℕ) → has set c ≡ among c (filter p (numbers n))) →
    IfSome found (λ c. IsLowestFrom set 0 c) → IfNone found (HasNoneFrom set 0) → found ≡ slice_get (filter p (numbers n)) 0
same_first p n set found are some none = go found (slice_get (filter p (numbers n)) 0) refl some none
  where
    passes : (c : ℕ) → has set c ≡ (ltb c n && p c)
    passes c = are c ∙ among_places p n c

    there : (c : ℕ) → slice_get (filter p (numbers n)) 0 ≡ Some c → has set c ≡ true
    there c q = let f = first_is p n c q in let l = lt-ltb c n f.1 in let t = f.0.passes in passes c ∙ rw (l, t) refl

    both : (b q : Bool) → (b && q) ≡ true → (b ≡ true) × (q ≡ true)
    both true true h = (refl, refl)
    both true false h = absurd (false≢true h)
    both false q h = absurd (false≢true h)

    not_empty : (c : ℕ) (xs : List ℕ) → among c xs ≡ true → slice_get xs 0 ≡ None → ⊥
    not_empty c [] h e = false≢true h
    not_empty c (x ∷ xs) h e = none_some x (sym e)

    go : (v w : Option ℕ) → slice_get (filter p (numbers n)) 0 ≡ w → IfSome v (λ c. IsLowestFrom set 0 c) →
        IfNone v (HasNoneFrom set 0) → v ≡ w
    go None None q s k = refl
    go None (Some d) q s k = absurd (true≢false (sym (there d q) ∙ k d (omega arith)))
    go (Some c) None q s k = absurd (not_empty c (filter p (numbers n)) (sym (are c) ∙ s.is_in) q)
    go (Some c) (Some d) q s k =
        let f = first_is p n d q in
        let b = both (ltb c n) (p c) (sym (passes c) ∙ s.is_in) in
        let no_less : c < d → ⊥ = λ l. true≢false (sym b.1 ∙ f.0.none_below c l) in
        let no_more : d < c → ⊥ = λ l. true≢false (sym (there d q) ∙ s.none_below d (omega arith) l) in
        ap Some (same c d no_less no_more)
      where
        same : (a b : ℕ) → (a < b → ⊥) → (b < a → ⊥) → a ≡ b
        same a b x y = less (ltb a b) refl (ltb b a) refl
          where
            less : (s : Bool) → ltb a b ≡ s → (t : Bool) → ltb b a ≡ t → a ≡ b
            less true e t f = absurd (x (ltb-true a b e))
            less false e true f = absurd (y (ltb-true b a f))
            less false e false f = let g = ltb-false a b e in let h = ltb-false b a f in omega (arith, g, h)

-- what is found is the first that is to begin
pub next_left : (b : Batch) (found : Option ℕ) (head : Head) (events : List Event) (o : Operation) (set : CpuSet) →
    operation events ≡ Some o → o.op ≡ UpMany set → IsBatching head o.before events set b →
    IfSome found (λ c. IsLowestFrom b.left 0 c) → IfNone found (HasNoneFrom b.left 0) → found ≡ slice_get (to_begin head events) 0
next_left b found head events o set held asked h some none =
    let p : ℕ → Bool = λ c. not (among c (begun events)) && is_of set (λ d. settled d o.before) c in
    let both = filter_both (λ c. not (among c (begun events))) (is_of set (λ d. settled d o.before)) (numbers head.possible) in
    same_first p head.possible b.left found (λ c. h.left_is c ∙ ap (among c) both) some none
    ∙ rw (held, asked) (ap (λ xs. slice_get xs 0) (sym both))

-- all of it is left at the Enter
pub batch_begins : (b : Batch) (set : CpuSet) (states : List ℕ) (head : Head) (before : List Event) (seat : ℕ) →
    ((c : ℕ) → has b.left c ≡ (ltb c (length states) && is_of set (λ d. get_or states d 0) c)) → b.begun ≡ false → b.failed ≡ 0 →
    AreSettled head before states → IsBatching head before (before ++ Enter seat (UpMany set) ∷ []) set b
batch_begins b set states head before seat left begun_none n are = record {
  left_is = λ c.
      left c
      ∙ (same c (ltb c head.possible) refl
      ∙ sym (among_filter (λ d. not (among d (begun (before ++ e ∷ [])))) c (batch head before (UpMany set))
      ∙ rw none (among_places (is_of set (λ d. settled d before)) head.possible c)));
  begun_is = begun_none ∙ rw none refl;
  failed_is = rw (answers_push before e) n;
}
  where
    e : Event
    e = Enter seat (UpMany set)

    none : begun (before ++ e ∷ []) ≡ []
    none = begun_push before e

    same : (c : ℕ) (l : Bool) → ltb c head.possible ≡ l →
        (ltb c (length states) && is_of set (λ d. get_or states d 0) c) ≡ (l && is_of set (λ d. settled d before) c)
    same c true l =
        let below = ltb-true c head.possible l in
        let len = are.length_is in
        rw (len, l) (ap (λ k. has set c && ltb k 200) (said_at head (λ d. settled d before) states c 0 are below))
    same c false l = let len = are.length_is in rw (len, l) refl

turned : (a b : ℕ) → eqb a b ≡ eqb b a
turned a b = go (eqb a b) refl (eqb b a) refl
  where
    go : (s : Bool) → eqb a b ≡ s → (t : Bool) → eqb b a ≡ t → s ≡ t
    go true p true q = refl
    go false p false q = refl
    go true p false q = absurd (eqb-false b a q (sym (eqb-true a b p)))
    go false p true q = absurd (eqb-false a b p (sym (eqb-true b a q)))

-- of the numbers up to one more, where that one passes, and where it doesn't
pub taken_one : (q : ℕ → Bool) (k n : ℕ) (old : Bool) → q k ≡ true → old ≡ (ltb n k && q n) → (eqb n k || old) ≡ (ltb n (k + 1) && q n)
taken_one q k n old passes is = go (eqb n k) refl
  where
    go : (b : Bool) → eqb n k ≡ b → (b || old) ≡ (ltb n (k + 1) && q n)
    go true e =
        let same = eqb-true n k e in
        let l : ltb n (k + 1) ≡ true = lt-ltb n (k + 1) (omega (arith, same)) in
        let p : q n ≡ true = subst (λ z. q z ≡ true) (sym same) passes in
        rw (l, p) refl
    go false e = is ∙ ap (λ z. z && q n) (below_more e)
      where
        below_more : eqb n k ≡ false → ltb n k ≡ ltb n (k + 1)
        below_more h = grind (arith, nat_tests)

pub left_one : (q : ℕ → Bool) (k n : ℕ) (old : Bool) → q k ≡ false → old ≡ (ltb n k && q n) → old ≡ (ltb n (k + 1) && q n)
left_one q k n old fails is = is ∙ go (eqb n k) refl
  where
    go : (b : Bool) → eqb n k ≡ b → (ltb n k && q n) ≡ (ltb n (k + 1) && q n)
    go true e =
        let same = eqb-true n k e in
        let p : q n ≡ false = subst (λ z. q z ≡ false) (sym same) fails in
        rw p (both_false (ltb n k) (ltb n (k + 1)))
      where
        both_false : (a b : Bool) → (a && false) ≡ (b && false)
        both_false true true = refl
        both_false true false = refl
        both_false false true = refl
        both_false false false = refl
    go false e = ap (λ z. z && q n) (below_more e)
      where
        below_more : eqb n k ≡ false → ltb n k ≡ ltb n (k + 1)
        below_more h = grind (arith, nat_tests)

among_one : (c d : ℕ) (xs : List ℕ) → among c (xs ++ d ∷ []) ≡ (among c xs || eqb d c)
among_one c d xs = ap (ltb 0) (occurs-append c xs (d ∷ [])) ∙ go (eqb d c)
  where
    go : (b : Bool) → ltb 0 (occurs c xs + (cond b 1 0 + 0)) ≡ (ltb 0 (occurs c xs) || b)
    go true = positive (ltb 0 (occurs c xs)) refl
      where
        positive : (t : Bool) → ltb 0 (occurs c xs) ≡ t → ltb 0 (occurs c xs + 1) ≡ (t || true)
        positive true e = lt-ltb 0 (occurs c xs + 1) (omega arith)
        positive false e = lt-ltb 0 (occurs c xs + 1) (omega arith)
    go false = ap (ltb 0) (zero_more (occurs c xs)) ∙ or_false (ltb 0 (occurs c xs))
      where
        zero_more : (n : ℕ) → n + 0 ≡ n
        zero_more n = omega arith

        or_false : (t : Bool) → t ≡ (t || false)
        or_false true = refl
        or_false false = refl

-- one begins
pub batch_began : (b new : Batch) (cpu : ℕ) → ((c : ℕ) → has new.left c ≡ (not (eqb c cpu) && has b.left c)) → new.begun ≡ true →
    new.failed ≡ b.failed → (head : Head) (entered events : List Event) (set : CpuSet) (seat stood to : ℕ) →
    IsBatching head entered events set b → IsBatching head entered (events ++ WalkBegin seat cpu stood to ∷ []) set new
batch_began b new cpu left begun_one n head entered events set seat stood to h = record {
  left_is = λ c.
      left c
      ∙ (ap (λ z. not (eqb c cpu) && z) (h.left_is c ∙ among_filter (λ d. not (among d (begun events))) c cs)
      ∙ (without c (eqb c cpu) refl (among c (begun events)) refl (among c cs)
      ∙ sym (among_filter (λ d. not (among d (begun (events ++ e ∷ [])))) c cs ∙ rw (begun_push events e) refl)));
  begun_is = begun_one ∙ rw (begun_push events e) (one_more (begun events));
  failed_is = n ∙ (h.failed_is ∙ ap (λ xs. length (failures xs)) (sym (answers_push events e)));
}
  where
    e : Event
    e = WalkBegin seat cpu stood to

    cs : List ℕ
    cs = batch head entered (UpMany set)

    one_more : (xs : List ℕ) → true ≡ not (is_empty (xs ++ cpu ∷ []))
    one_more [] = refl
    one_more (x ∷ xs) = refl

    without : (c : ℕ) (s : Bool) → eqb c cpu ≡ s → (t : Bool) → among c (begun events) ≡ t → (m : Bool) →
        (not s && (not t && m)) ≡ (not (among c (begun events ++ cpu ∷ [])) && m)
    without c s p t q m = rw (among_one c cpu (begun events), q, turned cpu c, p) (go s t m)
      where
        go : (s t m : Bool) → (not s && (not t && m)) ≡ (not (t || s) && m)
        go true true m = refl
        go true false m = refl
        go false true m = refl
        go false false m = refl

-- an answer more
pub batch_took : (b new : Batch) (answer : Answer) → new.left ≡ b.left → new.begun ≡ b.begun →
    new.failed ≡ b.failed + cond (is_ok answer) 0 1 → (head : Head) (entered events : List Event) (set : CpuSet) (seat cpu : ℕ) →
    IsBatching head entered events set b → IsBatching head entered (events ++ WalkEnd seat cpu answer ∷ []) set new
batch_took b new answer s f n head entered events set seat cpu h = record {
  left_is = λ c. ap (λ z. has z c) s ∙ rw (begun_push events (WalkEnd seat cpu answer)) (h.left_is c);
  begun_is = f ∙ rw (begun_push events (WalkEnd seat cpu answer)) h.begun_is;
  failed_is = n ∙ (ap (λ k. k + cond (is_ok answer) 0 1) h.failed_is ∙ sym (failed_more events seat cpu answer));
}
