-- What comes next of a freeze, a thaw and a boot, from what each keeps and the lists of the moment.
use Rattle.std.proofs.Common.{◌≡◌, ℕ, ◌+◌, ◌<◌, ◌≤◌, Bool, true, false, cond, not, ◌&&◌, eqb, ltb, leb, Option, Some, None, List, [], ◌∷◌, ◌++◌, length, refl, ap, sym, ◌∙◌, subst, arith}
use Rattle.std.specs.Prelude.{ℤ, pos, filter, slice_get}
use Rattle.std.specs.List.{AllZip}
use Rattle.std.proofs.lemmas.List.Elements.{filter-append, filter_agree}
use Rattle.std.proofs.lemmas.Bool.{eqb-true, ltb-true, ltb-false}
use Rattle.hp_states.specs.Sections.{is_online_state}
use Rattle.hp_event.specs.declared.op.Op.{Op}
use Rattle.hp_event.specs.declared.op.Op.TheVariants.{Boot, Freeze, Thaw}
use Rattle.hp_event.specs.declared.answer.Answer.{Answer}
use Rattle.hp_event.specs.declared.answer.Answer.TheVariants.{Ok, Refused}
use Rattle.hp_event.specs.declared.head.Head.{Head}
use Rattle.hp_event.specs.declared.event.Event.{Event}
use Rattle.hp_model.specs.Lists.{occurs, among, numbers}
use Rattle.hp_model.specs.Walks.{walking}
use Rattle.hp_model.specs.MapLock.{Operation, operation}
use Rattle.hp_model.specs.Settled.{settled, is_online}
use Rattle.hp_model.specs.Processors.{is_present, online}
use Rattle.hp_model.specs.Suspend.{is_ok, frozen, wakeup_pending}
use Rattle.hp_model.specs.Sequence.{Next, walks, ends, begun, answers, failures, primary_of, first_next, boot_next, freeze_next, to_boot, to_freeze, to_thaw, next}
use Rattle.hp_model.specs.Lawful.{IsLawful}
use Rattle.hp_model.proofs.Counts.{occurs-append}
use Rattle.hp_model.proofs.Operations.{in_filter}
use Rattle.hp_model.proofs.ListLemmas.{filter_both}
use Rattle.hp_suspend.specs.Booting.{is_fault, faults}
use Rattle.hp_suspend.proofs.Places.{slice_get-seam}
use Rattle.hp_suspend.proofs.Rows.{Once, apart, all_pass}
use Rattle.hp_suspend.proofs.Sequenced.{walks_many, walks_from, concerned, task, InSequence, Sequenced}
use Rattle.hp_suspend.proofs.Todo.{once_of, undone_is, stands_same, freeze_is, todo_is}
use Rattle.hp_suspend.proofs.SequenceKept.{sequenced}

-- an operation of many walks that is in flight, where nothing walks
pub record Between (head : Head) (op : Op) (entered events : List Event) : Type 0 where
  pub rests : walking events ≡ []
  pub listed : frozen events ≡ filter (λ c. among c (frozen events)) (numbers head.possible)
  pub once : Once (task head op entered)
  pub k : InSequence head op entered events
  pub begun_is : begun events ≡ k.done
  pub task_is : task head op entered ≡ k.done ++ k.rest

pub between : (head : Head) (events : List Event) (o : Operation) (op : Op) → IsLawful head events → operation events ≡ Some o →
    o.op ≡ op → walks_many op ≡ true → walking events ≡ [] → Between head op o.before events
between head events o op l held is many rests =
    let s : Sequenced head events = sequenced head events l in
    let k : InSequence head op o.before events =
    subst (λ z. InSequence head z o.before events) is (s.at o held (ap walks_many is ∙ many))
    in
    let once = once_of head op o.before events s.listed k in
    let u = undone_is head op o.before events once rests k in
    record { rests = rests; listed = s.listed; once = once; k = k; begun_is = u.0; task_is = u.1 }

-- where all its walks answered Ok, a freeze has left offline what it walked
all_down : (stands : ℕ → Bool) (cs : List ℕ) (given : List Answer) →
    AllZip (λ c answer. is_ok answer ≡ true → stands c ≡ false) cs given → failures given ≡ [] → (c : ℕ) → 0 < occurs c cs →
    stands c ≡ false
all_down stands [] given h none c i = absurd (omega arith)
all_down stands (x ∷ cs) [] h none c i = absurd h
all_down stands (x ∷ cs) (a ∷ given) h none c i =
    go (is_ok a) refl none (λ rest j. all_down stands cs given h.1 rest c j)
  where
    here : is_ok a ≡ true → (b : Bool) → eqb x c ≡ b → 0 < cond b 1 0 + occurs c cs → (0 < occurs c cs → stands c ≡ false) →
        stands c ≡ false
    here good true e i more = ap stands (sym (eqb-true x c e)) ∙ h.0 good
    here good false e i more = more (omega arith)

    some_none : a ∷ failures given ≡ [] → ⊥
    some_none q = cc

    go : (b : Bool) → is_ok a ≡ b → cond (not b) (a ∷ failures given) (failures given) ≡ [] →
        (failures given ≡ [] → 0 < occurs c cs → stands c ≡ false) → stands c ≡ false
    go true e none more = here e (eqb x c) refl i (more none)
    go false e none more = absurd (some_none none)

pub freeze_todo : (head : Head) (p : ℤ) (entered events : List Event) → Between head (Freeze p) entered events →
    failures (answers events) ≡ [] →
    to_freeze head p entered events
    ≡ filter (λ c. is_online c events && not (eqb c (primary_of p (online head entered)))) (numbers head.possible)
freeze_todo head p entered events b none =
    freeze_is head p entered events
    ∙ (ap (filter (λ c. not (among c (begun events)))) (filter_both (λ c. is_online c entered) (λ c. not (eqb c first)) (numbers head.possible))
    ∙ (filter_both (λ c. not (among c (begun events))) (λ c. is_online c entered && not (eqb c first)) (numbers head.possible)
    ∙ filter_agree (λ c. not (among c (begun events)) && (is_online c entered && not (eqb c first)))
    (λ c. is_online c events && not (eqb c first)) (λ c. go c (among c (begun events)) refl) (numbers head.possible)))
  where
    first : ℕ
    first = primary_of p (online head entered)

    go : (c : ℕ) (t : Bool) → among c (begun events) ≡ t →
        (not t && (is_online c entered && not (eqb c first))) ≡ (is_online c events && not (eqb c first))
    go c true e =
        let i : 0 < occurs c b.k.done = ltb-true 0 (occurs c b.k.done) (rw b.begun_is at e) in
        let off = all_down (λ d. is_online d events) b.k.done (answers events) b.k.left none c i in
        rw off refl
    go c false e =
        ap (λ n. is_online_state n && not (eqb c first)) (sym (stands_same head (Freeze p) entered events b.rests b.k c e))

-- those concerned that stand where they would be walked from: some that were walked, and then those that are left
pub standing : (head : Head) (op : Op) (entered events : List Event) (b : Between head op entered events) →
    filter (λ c. walks_from op (settled c events)) (concerned head op entered)
    ≡ filter (λ c. walks_from op (settled c events)) b.k.done ++ b.k.rest
standing head op entered events b =
    filter_agree now (λ c. now c && was c) (λ c. both c) (concerned head op entered)
    ∙ (sym (filter_both now was (concerned head op entered))
    ∙ (ap (filter now) b.task_is
    ∙ (filter-append now b.k.done b.k.rest
    ∙ ap (λ z. filter now b.k.done ++ z) (all_pass now b.k.rest left))))
  where
    now : ℕ → Bool
    now c = walks_from op (settled c events)

    was : ℕ → Bool
    was c = walks_from op (settled c entered)

    inside : (c : ℕ) → 0 < occurs c (b.k.done ++ b.k.rest) → was c ≡ true
    inside c i = (in_filter was c (concerned head op entered) (rw b.task_is i)).0

    both : (c : ℕ) → now c ≡ (now c && was c)
    both c = go (ltb 0 (occurs c b.k.done)) refl
      where
        twice : (x : Bool) → x ≡ (x && x)
        twice true = refl
        twice false = refl

        always : (x : Bool) → x ≡ (x && true)
        always true = refl
        always false = refl

        go : (t : Bool) → ltb 0 (occurs c b.k.done) ≡ t → now c ≡ (now c && was c)
        go true e =
            let i : 0 < occurs c b.k.done = ltb-true 0 (occurs c b.k.done) e in
            rw (inside c (rw (occurs-append c b.k.done b.k.rest) (omega arith))) (always (now c))
        go false e =
            let z : occurs c b.k.done ≤ 0 = ltb-false 0 (occurs c b.k.done) e in
            let same : now c ≡ was c = ap (walks_from op) (b.k.unchanged c (omega arith)) in
            twice (now c) ∙ ap (λ x. now c && x) same

    left : (c : ℕ) → 0 < occurs c b.k.rest → now c ≡ true
    left c i =
        let z = apart b.k.done b.k.rest c (subst Once b.task_is b.once) i in
        ap (walks_from op) (b.k.unchanged c z) ∙ inside c (rw (occurs-append c b.k.done b.k.rest) (omega arith))

-- how many of those that were walked stand so
zip_count : (p : ℕ → Bool) (q : Answer → Bool) (cs : List ℕ) (given : List Answer) → AllZip (λ c answer. p c ≡ q answer) cs given →
    length (filter p cs) ≡ length (filter q given)
zip_count p q [] [] h = refl
zip_count p q [] (a ∷ given) h = absurd h
zip_count p q (c ∷ cs) [] h = absurd h
zip_count p q (c ∷ cs) (a ∷ given) h = rw h.0 (go (q a) (zip_count p q cs given h.1))
  where
    go : (b : Bool) → length (filter p cs) ≡ length (filter q given) →
        length (cond b (c ∷ filter p cs) (filter p cs)) ≡ length (cond b (a ∷ filter q given) (filter q given))
    go true e = omega (arith, e)
    go false e = e

flipped : (p q : ℕ → Bool) (xs : List ℕ) → filter p (filter q xs) ≡ filter (λ c. q c && p c) xs
flipped p q xs = filter_both p q xs ∙ filter_agree (λ c. p c && q c) (λ c. q c && p c) (λ c. go (p c) (q c)) xs
  where
    go : (a b : Bool) → (a && b) ≡ (b && a)
    go true true = refl
    go true false = refl
    go false true = refl
    go false false = refl

pub thaw_todo : (head : Head) (entered events : List Event) → Between head Thaw entered events →
    slice_get (filter (λ c. among c (frozen events) && ltb (settled c events) 200) (numbers head.possible))
    (length (failures (answers events)))
    ≡ slice_get (to_thaw events) 0
thaw_todo head entered events b =
    let row : filter (λ c. among c (frozen events) && ltb (settled c events) 200) (numbers head.possible)
    ≡ filter (λ c. ltb (settled c events) 200) b.k.done ++ b.k.rest =
    sym (flipped (λ c. ltb (settled c events) 200) (λ c. among c (frozen events)) (numbers head.possible))
    ∙ (ap (filter (λ c. ltb (settled c events) 200)) (sym b.listed ∙ b.k.kept refl) ∙ standing head Thaw entered events b)
    in
    let count = zip_count (λ c. ltb (settled c events) 200) (λ a. not (is_ok a)) b.k.done (answers events) b.k.left in
    rw (row, ← count)
    (slice_get-seam (filter (λ c. ltb (settled c events) 200) b.k.done) b.k.rest
    ∙ ap (λ z. slice_get z 0) (sym (todo_is head Thaw entered events b.once b.rests b.k)))

pub boot_todo : (head : Head) (n : ℕ) (entered events : List Event) → Between head (Boot n) entered events →
    slice_get (filter (λ c. is_present head c && not (is_online c events)) (numbers head.possible)) (length (faults (answers events)))
    ≡ slice_get (to_boot head events) 0
boot_todo head n entered events b =
    let row : filter (λ c. is_present head c && not (is_online c events)) (numbers head.possible)
    ≡ filter (λ c. not (is_online c events)) b.k.done ++ b.k.rest =
    sym (flipped (λ c. not (is_online c events)) (λ c. is_present head c) (numbers head.possible))
    ∙ standing head (Boot n) entered events b
    in
    let count = zip_count (λ c. not (is_online c events)) is_fault b.k.done (answers events) b.k.left in
    rw (row, ← count)
    (slice_get-seam (filter (λ c. not (is_online c events)) b.k.done) b.k.rest
    ∙ ap (λ z. slice_get z 0) (sym (todo_is head (Boot n) entered events b.once b.rests b.k)))

-- what a freeze asks for, by what it keeps, the lowest that is left and whether a wakeup is pending
abbrev pub freeze_says : Option Answer → Option ℕ → (waking : Bool) → Next
freeze_says (Some answer) found waking = ends answer
freeze_says None None waking = ends (Ok (pos 0))
freeze_says None (Some c) waking = cond waking (ends (Refused 16)) (walks c 0)

pub freeze_next_is : (head : Head) (p : ℤ) (entered events : List Event) → Between head (Freeze p) entered events →
    next head events entered (Freeze p)
    ≡ freeze_says (slice_get (failures (answers events)) 0)
    (slice_get (filter (λ c. is_online c events && not (eqb c (primary_of p (online head entered)))) (numbers head.possible)) 0)
    (wakeup_pending events)
freeze_next_is head p entered events b = go (failures (answers events)) refl
  where
    by_todo : (todo : List ℕ) → freeze_next (wakeup_pending events) [] todo ≡ freeze_says None (slice_get todo 0) (wakeup_pending events)
    by_todo [] = refl
    by_todo (c ∷ cs) = refl

    go : (failed : List Answer) → failures (answers events) ≡ failed →
        freeze_next (wakeup_pending events) failed (to_freeze head p entered events)
        ≡ freeze_says (slice_get failed 0)
        (slice_get (filter (λ c. is_online c events && not (eqb c (primary_of p (online head entered)))) (numbers head.possible)) 0)
        (wakeup_pending events)
    go (a ∷ failed) e = refl
    go [] e =
        by_todo (to_freeze head p entered events)
        ∙ ap (λ z. freeze_says None (slice_get z 0) (wakeup_pending events)) (freeze_todo head p entered events b e)

-- what a thaw and a boot ask for, by the first that is left and how many walks failed
abbrev pub rising_says : Option ℕ → (failed : ℕ) → Next
rising_says None failed = ends (Ok (pos failed))
rising_says (Some c) failed = walks c 200

first_says : (todo : List ℕ) (failed : ℕ) → first_next 200 todo (Ok (pos failed)) ≡ rising_says (slice_get todo 0) failed
first_says [] failed = refl
first_says (c ∷ cs) failed = refl

pub thaw_next_is : (head : Head) (entered events : List Event) → Between head Thaw entered events →
    next head events entered Thaw
    ≡ rising_says
    (slice_get (filter (λ c. among c (frozen events) && ltb (settled c events) 200) (numbers head.possible))
    (length (failures (answers events))))
    (length (failures (answers events)))
thaw_next_is head entered events b =
    first_says (to_thaw events) (length (failures (answers events)))
    ∙ ap (λ z. rising_says z (length (failures (answers events)))) (sym (thaw_todo head entered events b))

pub boot_next_is : (head : Head) (n : ℕ) (entered events : List Event) → Between head (Boot n) entered events →
    next head events entered (Boot n)
    ≡ cond (leb n (length (online head events))) (ends (Ok (pos (length (failures (answers events))))))
    (rising_says
    (slice_get (filter (λ c. is_present head c && not (is_online c events)) (numbers head.possible)) (length (faults (answers events))))
    (length (failures (answers events))))
boot_next_is head n entered events b = go (leb n (length (online head events)))
  where
    go : (enough : Bool) →
        boot_next enough (to_boot head events) (length (failures (answers events)))
        ≡ cond enough (ends (Ok (pos (length (failures (answers events))))))
        (rising_says
        (slice_get (filter (λ c. is_present head c && not (is_online c events)) (numbers head.possible)) (length (faults (answers events))))
        (length (failures (answers events))))
    go true = refl
    go false =
        first_says (to_boot head events) (length (failures (answers events)))
        ∙ ap (λ z. rising_says z (length (failures (answers events)))) (sym (boot_todo head n entered events b))
