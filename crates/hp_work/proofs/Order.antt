-- An item that comes before another still does after any step.
use Rattle.std.proofs.Common.{◌≡◌, ◌≢◌, ◌⊎◌, inl, inr, ℕ, ◌+◌, ◌<◌, ◌≤◌, Bool, true, false, cond, eqb, List, [], ◌∷◌, ◌++◌, length, refl, sym, ap, subst, ◌∙◌, append_assoc, arith}
use Rattle.std.specs.Prelude.{All}
use Rattle.std.proofs.Math.ListN.{set}
use Rattle.std.proofs.lemmas.Bool.{eqb-true, eq-eqb, cases_eq}
use Rattle.std.proofs.lemmas.List.Elements.{All-head, All-tail}
use Rattle.std.proofs.lemmas.List.{get_or-set_other, get_or-set_same, length-set}
use Rattle.hp_work.specs.Lists.{list, times, times_in, rest, moved}
use Rattle.hp_work.specs.Work.{Work, queue}
use Rattle.hp_states.specs.declared.dir.Dir.{Dir}
use Rattle.hp_states.specs.declared.dir.Dir.TheVariants.{Up, Down}
use Rattle.hp_states.specs.declared.limits.TheConstants.{MAX_CPU_SET}
use Rattle.hp_event.specs.declared.event.Event.{Event}
use Rattle.hp_event.specs.declared.event.Event.TheVariants.{Call}
use Rattle.hp_work.specs.declared.chains.TheConstants.{UNBOUND}
use Rattle.hp_work.specs.declared.law.Step.{Step}
use Rattle.hp_work.specs.declared.law.Step.TheVariants.{Follow, Put, Run}
use Rattle.hp_work.specs.Changes.{lowest_from, goes_to, moves, is_followed, followed, put_on, with_front, ran_on}
use Rattle.hp_work.specs.Follows.{HasQueue}
use Rattle.hp_work.specs.Steps.{takes, after_step, after, HasQueueOf, IsBefore, WaitsBefore, RanAlone, ComesBefore}
use Rattle.hp_work.proofs.Counting.{one_if, times_append, times_cons, in_set}
use Rattle.hp_work.proofs.Standing.{goes_elsewhere, Reached, reached_followed, reached_put, reached_run}

-- ---- one list

pub before_behind : (a b : ℕ) (xs ys : List ℕ) → IsBefore xs a b → IsBefore (xs ++ ys) a b
before_behind a b xs ys h = record {
  front = h.front;
  between = h.between;
  behind = h.behind ++ ys;
  is = ap (λ zs. zs ++ ys) h.is
      ∙ (append_assoc h.front (a ∷ (h.between ++ b ∷ h.behind)) ys
      ∙ ap (λ zs. h.front ++ a ∷ zs) (append_assoc h.between (b ∷ h.behind) ys));
}

pub before_front : (a b : ℕ) (xs ys : List ℕ) → IsBefore ys a b → IsBefore (xs ++ ys) a b
before_front a b xs ys h = record {
  front = xs ++ h.front;
  between = h.between;
  behind = h.behind;
  is = ap (λ zs. xs ++ zs) h.is ∙ sym (append_assoc xs h.front (a ∷ (h.between ++ b ∷ h.behind)));
}

pub record Holds (xs : List ℕ) (a : ℕ) : Type 0 where
  pub front : List ℕ
  pub behind : List ℕ
  pub is : xs ≡ front ++ a ∷ behind

pub holds : (a : ℕ) (xs : List ℕ) → 0 < times a xs → Holds xs a
holds a [] h = absurd (omega (arith, h))
holds a (x ∷ xs) h = go (eqb x a) refl (let c = times_cons a x xs in omega (arith, c, h)) (holds a xs)
  where
    go : (t : Bool) → eqb x a ≡ t → 0 < one_if (eqb x a) + times a xs → (0 < times a xs → Holds xs a) → Holds (x ∷ xs) a
    go true e l more = record { front = []; behind = xs; is = ap (λ y. y ∷ xs) (eqb-true x a e) }
    go false e l more =
        let none : one_if (eqb x a) ≡ 0 = ap one_if e in
        let r = more (omega (arith, l, none)) in
        record { front = x ∷ r.front; behind = r.behind; is = ap (λ ys. x ∷ ys) r.is }

-- what is put behind a list comes after all that it has
pub before_last : (a b : ℕ) (xs : List ℕ) → 0 < times a xs → IsBefore (xs ++ b ∷ []) a b
before_last a b xs h =
    let r = holds a xs h in
    record {
      front = r.front;
      between = r.behind;
      behind = [];
      is = ap (λ ys. ys ++ b ∷ []) r.is ∙ append_assoc r.front (a ∷ r.behind) (b ∷ []);
    }

pub one : (a : ℕ) (xs : List ℕ) → times a (a ∷ xs) ≡ 1 + times a xs
one a xs =
    let c = times_cons a a xs in
    let o : one_if (eqb a a) ≡ 1 = ap one_if (eq-eqb a a refl) in
    omega (arith, c, o)

-- the later one stands in the list too, and behind the first
pub later_there : (a b : ℕ) (xs : List ℕ) → IsBefore xs a b → 0 < times b xs
later_there a b xs h =
    let e = ap (times b) h.is in
    let f = times_append b h.front (a ∷ (h.between ++ b ∷ h.behind)) in
    let g = times_append b (a ∷ h.between) (b ∷ h.behind) in
    let o = one b h.behind in
    omega (arith, e, f, g, o)

-- the front of a list goes: it is the first of the two, or both stay
pub front_goes : (a b x : ℕ) (xs : List ℕ) → IsBefore (x ∷ xs) a b → (x ≡ a × 0 < times b xs) ⊎ IsBefore xs a b
front_goes a b x xs h = go h.front h.is
  where
    head : List ℕ → ℕ
    head [] = 0
    head (y ∷ ys) = y

    tail : List ℕ → List ℕ
    tail [] = []
    tail (y ∷ ys) = ys

    go : (front : List ℕ) → x ∷ xs ≡ front ++ a ∷ (h.between ++ b ∷ h.behind) → (x ≡ a × 0 < times b xs) ⊎ IsBefore xs a b
    go [] e =
        let t : xs ≡ h.between ++ b ∷ h.behind = ap tail e in
        let c = ap (times b) t in
        let f = times_append b h.between (b ∷ h.behind) in
        let o = one b h.behind in
        inl (ap head e, omega (arith, c, f, o))
    go (y ∷ front) e = inr (record { front = front; between = h.between; behind = h.behind; is = ap tail e })

-- ---- the lists

pub kept_at : (ls : List (List ℕ)) (p : ℕ) (ys : List ℕ) (q : ℕ) → q ≢ p → list (set ls p ys) q ≡ list ls q
kept_at ls p ys q ne = get_or-set_other ls p q ys [] ne

pub set_at : (ls : List (List ℕ)) (p : ℕ) (ys : List ℕ) → p < length ls → list (set ls p ys) p ≡ ys
set_at ls p ys h = get_or-set_same ls p ys [] h

record Waits (ls : List (List ℕ)) (a b : ℕ) : Type 0 where
  place : ℕ
  there : IsBefore (list ls place) a b

waits_moved : (x y : ℕ) (ls : List (List ℕ)) (a b : ℕ) → x ≢ y → x < length ls → y < length ls → Waits ls a b → Waits (moved x y ls) a b
waits_moved x y ls a b ne hx hy w = go (cases_eq w.place y) (cases_eq w.place x)
  where
    at_y : list (moved x y ls) y ≡ list ls y ++ list ls x
    at_y = set_at (set ls x []) y (list ls y ++ list ls x) (let l = length-set ls x [] in omega (arith, l, hy))

    go : (w.place ≡ y) ⊎ (w.place ≢ y) → (w.place ≡ x) ⊎ (w.place ≢ x) → Waits (moved x y ls) a b
    go (inl e) f = record {
      place = y;
      there = subst (λ zs. IsBefore zs a b) (sym at_y)
          (before_behind a b (list ls y) (list ls x) (subst (λ p. IsBefore (list ls p) a b) e w.there));
    }
    go (inr e) (inl f) = record {
      place = y;
      there = subst (λ zs. IsBefore zs a b) (sym at_y)
          (before_front a b (list ls y) (list ls x) (subst (λ p. IsBefore (list ls p) a b) f w.there));
    }
    go (inr e) (inr f) = record {
      place = w.place;
      there = subst (λ zs. IsBefore zs a b)
          (sym (kept_at (set ls x []) y (list ls y ++ list ls x) w.place e ∙ kept_at ls x [] w.place f)) w.there;
    }

abbrev as_waits : (w : Work) (a b : ℕ) → Waits w.lists a b → WaitsBefore w a b
as_waits w a b x = record { place = x.place; there = x.there }

abbrev of_waits : (w : Work) (a b : ℕ) → WaitsBefore w a b → Waits w.lists a b
of_waits w a b x = record { place = x.place; there = x.there }

-- ---- moves

pub comes_moved : (d : Dir) (c : ℕ) (w : Work) (a b : ℕ) → c < MAX_CPU_SET → Reached w → ComesBefore w a b → ComesBefore (moves d c w) a b
comes_moved d c w a b h r (inl x) = inl (go d)
  where
    go : (d : Dir) → IsBefore (moves d c w).ran a b
    go Up = x
    go Down = x
comes_moved Up c w a b h r (inr (inl x)) =
    inr (inl (as_waits (moves Up c w) a b
    (waits_moved UNBOUND c w.lists a b (λ e. omega (arith, e, h)) (omega (arith, r.lists_are)) (omega (arith, r.lists_are, h)) (of_waits w a b x))))
comes_moved Down c w a b h r (inr (inl x)) =
    let place = goes_elsewhere w.opened c r.opened_are h in
    inr (inl (as_waits (moves Down c w) a b
    (waits_moved c (goes_to (lowest_from 0 (set w.opened c false))) w.lists a b place.0 (omega (arith, r.lists_are, h))
    (omega (arith, r.lists_are, place.1)) (of_waits w a b x))))
comes_moved d c w a b h r (inr (inr x)) = inr (inr (go d))
  where
    go : (d : Dir) → RanAlone (moves d c w) a b
    go Up = x
    go Down = x

comes_followed : (e : Event) (w : Work) (a b : ℕ) → HasQueue e → Reached w → ComesBefore w a b → ComesBefore (followed e w) a b
comes_followed (Call seat c state inst dir how) w a b h r x = go (is_followed w state inst how)
  where
    go : (f : Bool) → ComesBefore (cond f (moves dir c w) w) a b
    go true = comes_moved dir c w a b h r x
    go false = x
comes_followed e w a b h r x = x

-- ---- puts

comes_put : (c : ℕ) (w : Work) (a b : ℕ) → c < MAX_CPU_SET → Reached w → ComesBefore w a b → ComesBefore (put_on c w) a b
comes_put c w a b h r (inl x) = inl x
comes_put c w a b h r (inr (inl x)) = inr (inl (go (cases_eq x.place c)))
  where
    go : (x.place ≡ c) ⊎ (x.place ≢ c) → WaitsBefore (put_on c w) a b
    go (inl e) = record {
      place = c;
      there = subst (λ zs. IsBefore zs a b) (sym (set_at w.lists c (queue w c ++ w.put ∷ []) (omega (arith, r.lists_are, h))))
          (before_behind a b (queue w c) (w.put ∷ []) (subst (λ p. IsBefore (list w.lists p) a b) e x.there));
    }
    go (inr e) = record {
      place = x.place;
      there = subst (λ zs. IsBefore zs a b) (sym (kept_at w.lists c (queue w c ++ w.put ∷ []) x.place e)) x.there;
    }
comes_put c w a b h r (inr (inr x)) = inr (inr x)

-- ---- runs

some_of_all : (n p : ℕ) (ls : List (List ℕ)) → p < length ls → times n (list ls p) ≤ times_in n ls
some_of_all n p ls h = let s = in_set n p [] ls h in omega (arith, s)

comes_run : (c : ℕ) (w : Work) (a b : ℕ) → c < MAX_CPU_SET → b < w.put → Reached w → ComesBefore w a b → ComesBefore (ran_on c w) a b
comes_run c w a b h few r x = go (queue w c) refl
  where
    below : c < length w.lists
    below = omega (arith, r.lists_are, h)

    after : List ℕ → Work
    after q = record w { lists = set w.lists c (rest q); ran = with_front q w.ran }

    elsewhere : (q : List ℕ) (y : WaitsBefore w a b) → y.place ≢ c → ComesBefore (after q) a b
    elsewhere q y ne = inr (inl (record {
      place = y.place;
      there = subst (λ zs. IsBefore zs a b) (sym (kept_at w.lists c (rest q) y.place ne)) y.there;
    }))

    front : (n : ℕ) (ns : List ℕ) → queue w c ≡ n ∷ ns → (n ≡ a × 0 < times b ns) ⊎ IsBefore ns a b → ComesBefore (after (n ∷ ns)) a b
    front n ns e (inl f) =
        let stands_once = r.stand.once b few in
        let part = some_of_all b c w.lists below in
        let same : times b (queue w c) ≡ times b (n ∷ ns) = ap (times b) e in
        let more = times_append b w.ran (n ∷ []) in
        let first = times_append a w.ran (n ∷ []) in
        let is : eqb n a ≡ true = eq-eqb n a f.0 in
        let one_more : one_if (eqb n a) ≡ 1 = ap one_if is in
        let first_one = times_cons a n [] in
        let other_one = times_cons b n [] in
        let whole = times_cons b n ns in
        inr (inr (omega (arith, first, one_more, first_one), omega (arith, stands_once, part, same, more, other_one, whole, f.1)))
    front n ns e (inr f) = inr (inl (record {
      place = c;
      there = subst (λ zs. IsBefore zs a b) (sym (set_at w.lists c ns below)) f;
    }))

    alone : (n : ℕ) (ns : List ℕ) (t : Bool) → eqb n b ≡ t → RanAlone w a b → ComesBefore (after (n ∷ ns)) a b
    alone n ns true e f = inl (subst (λ m. IsBefore (w.ran ++ m ∷ []) a b) (sym (eqb-true n b e)) (before_last a b w.ran f.0))
    alone n ns false e f =
        let first = times_append a w.ran (n ∷ []) in
        let other = times_append b w.ran (n ∷ []) in
        let other_one = times_cons b n [] in
        let none : one_if (eqb n b) ≡ 0 = ap one_if e in
        inr (inr (omega (arith, first, f.0), omega (arith, other, other_one, none, f.1)))

    go : (q : List ℕ) → queue w c ≡ q → ComesBefore (after q) a b
    go [] e = empty x
      where
        empty : ComesBefore w a b → ComesBefore (after []) a b
        empty (inl y) = inl y
        empty (inr (inl y)) = at (cases_eq y.place c)
          where
            at : (y.place ≡ c) ⊎ (y.place ≢ c) → ComesBefore (after []) a b
            at (inl f) =
                let some = later_there a b (list w.lists y.place) y.there in
                let none : times b (list w.lists y.place) ≡ 0 = ap (λ p. times b (list w.lists p)) f ∙ ap (times b) e in
                absurd (omega (arith, some, none))
            at (inr f) = elsewhere [] y f
        empty (inr (inr y)) = inr (inr y)
    go (n ∷ ns) e = some x
      where
        some : ComesBefore w a b → ComesBefore (after (n ∷ ns)) a b
        some (inl y) = inl (before_behind a b w.ran (n ∷ []) y)
        some (inr (inl y)) = at (cases_eq y.place c)
          where
            at : (y.place ≡ c) ⊎ (y.place ≢ c) → ComesBefore (after (n ∷ ns)) a b
            at (inl f) = front n ns e (front_goes a b n ns
                (subst (λ zs. IsBefore zs a b) (ap (list w.lists) f ∙ e) y.there))
            at (inr f) = elsewhere (n ∷ ns) y f
        some (inr (inr y)) = alone n ns (eqb n b) refl y

-- ---- any step

pub reached_step : (s : Step) (w : Work) → HasQueueOf s → Reached w → Reached (after_step w s)
reached_step (Follow e) w h r = reached_followed e w h r
reached_step (Put c) w h r = go (takes c w)
  where
    go : (t : Bool) → Reached (cond t (put_on c w) w)
    go true = reached_put c w h r
    go false = r
reached_step (Run c) w h r = reached_run c w h r

put_moved : (d : Dir) (c : ℕ) (w : Work) → (moves d c w).put ≡ w.put
put_moved Up c w = refl
put_moved Down c w = refl

put_followed : (e : Event) (w : Work) → (followed e w).put ≡ w.put
put_followed (Call seat c state inst dir how) w = go (is_followed w state inst how)
  where
    go : (f : Bool) → (cond f (moves dir c w) w).put ≡ w.put
    go true = put_moved dir c w
    go false = refl
put_followed e w = refl

put_grows : (s : Step) (w : Work) → w.put ≤ (after_step w s).put
put_grows (Follow e) w = let p = put_followed e w in omega (arith, p)
put_grows (Put c) w = go (takes c w)
  where
    go : (t : Bool) → w.put ≤ (cond t (put_on c w) w).put
    go true = omega arith
    go false = omega arith
put_grows (Run c) w = omega arith

comes_step : (s : Step) (w : Work) (a b : ℕ) → HasQueueOf s → b < w.put → Reached w → ComesBefore w a b → ComesBefore (after_step w s) a b
comes_step (Follow e) w a b h l r x = comes_followed e w a b h r x
comes_step (Put c) w a b h l r x = go (takes c w)
  where
    go : (t : Bool) → ComesBefore (cond t (put_on c w) w) a b
    go true = comes_put c w a b h r x
    go false = x
comes_step (Run c) w a b h l r x = comes_run c w a b h l r x

-- ---- some steps

pub reached_after : (ss : List Step) (w : Work) → All HasQueueOf ss → Reached w → Reached (after ss w)
reached_after [] w h r = r
reached_after (s ∷ ss) w h r =
    reached_after ss (after_step w s) (All-tail HasQueueOf s ss h) (reached_step s w (All-head HasQueueOf s ss h) r)

pub comes_after : (ss : List Step) (w : Work) (a b : ℕ) → All HasQueueOf ss → b < w.put → Reached w → ComesBefore w a b →
    ComesBefore (after ss w) a b
comes_after [] w a b h l r x = x
comes_after (s ∷ ss) w a b h l r x =
    let one = All-head HasQueueOf s ss h in
    let grows = put_grows s w in
    comes_after ss (after_step w s) a b (All-tail HasQueueOf s ss h) (omega (arith, l, grows)) (reached_step s w one r) (comes_step s w a b one l r x)
