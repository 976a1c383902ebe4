-- What a sequence walks next is the first of what is left of its task.
use Rattle.std.proofs.Common.{◌≡◌, ℕ, ◌≤◌, Bool, true, false, not, ◌&&◌, eqb, ltb, leb, List, [], ◌∷◌, ◌++◌, length, refl, ap, sym, ◌∙◌, subst, arith}
use Rattle.std.specs.Prelude.{ℤ, pos, filter}
use Rattle.std.proofs.lemmas.List.{append-nil}
use Rattle.std.proofs.lemmas.List.Elements.{filter_agree}
use Rattle.std.proofs.lemmas.Bool.{false≢true, ltb-false}
use Rattle.hp_states.specs.Sections.{is_online_state}
use Rattle.hp_event.specs.declared.op.Op.{Op}
use Rattle.hp_event.specs.declared.op.Op.TheVariants.{Boot, Freeze, Thaw}
use Rattle.hp_event.specs.declared.answer.Answer.{Answer}
use Rattle.hp_event.specs.declared.answer.Answer.TheVariants.{Ok, Refused}
use Rattle.hp_event.specs.declared.head.Head.{Head}
use Rattle.hp_event.specs.declared.event.Event.{Event}
use Rattle.hp_model.specs.Lists.{occurs, among, numbers}
use Rattle.hp_model.specs.Walks.{walking}
use Rattle.hp_model.specs.Settled.{settled, is_online}
use Rattle.hp_model.specs.Processors.{is_present, online}
use Rattle.hp_model.specs.Suspend.{is_freeze, is_thaw, frozen, wakeup_pending}
use Rattle.hp_model.specs.Sequence.{begun, answers, failures, primary_of, walks, first_next, boot_next, freeze_next, to_boot, to_freeze, to_thaw, next}
use Rattle.hp_model.proofs.Operations.{not_walk, same_cpu}
use Rattle.hp_model.proofs.ListLemmas.{filter_both}
use Rattle.hp_suspend.proofs.Rows.{Once, once_filter, once_numbers, left_over}
use Rattle.hp_suspend.proofs.Sequenced.{walks_many, walks_from, aim, concerned, task, InSequence}

-- no processor comes twice
once_task : (head : Head) (op : Op) (entered : List Event) →
    (is_thaw op ≡ true → frozen entered ≡ filter (λ c. among c (frozen entered)) (numbers head.possible)) →
    Once (task head op entered)
once_task head op entered listed = once_filter (λ c. walks_from op (settled c entered)) (concerned head op entered) (go op listed)
  where
    go : (op : Op) → (is_thaw op ≡ true → frozen entered ≡ filter (λ c. among c (frozen entered)) (numbers head.possible)) →
        Once (concerned head op entered)
    go (Freeze p) l c =
        once_filter (λ c. not (eqb c (primary_of p (online head entered)))) (numbers head.possible) (once_numbers head.possible) c
    go Thaw l c =
        let o : Once (frozen entered) =
        subst Once (sym (l refl)) (once_filter (λ c. among c (frozen entered)) (numbers head.possible) (once_numbers head.possible))
        in
        o c
    go (Boot n) l c = once_filter (λ c. is_present head c) (numbers head.possible) (once_numbers head.possible) c
    go op l c = omega arith

pub once_of : (head : Head) (op : Op) (entered events : List Event) →
    frozen events ≡ filter (λ c. among c (frozen events)) (numbers head.possible) → InSequence head op entered events →
    Once (task head op entered)
once_of head op entered events listed k =
    once_task head op entered
    (λ t.
    subst (λ xs. xs ≡ filter (λ c. among c xs) (numbers head.possible)) (k.kept (other op t)) listed)
  where
    other : (op : Op) → is_thaw op ≡ true → is_freeze op ≡ false
    other (Freeze p) t = absurd (false≢true t)
    other op t = refl

-- what is left of a task
abbrev pub undone : Head → Op → (entered events : List Event) → List ℕ
undone head op entered events = filter (λ c. not (among c (begun events))) (task head op entered)

pub undone_is : (head : Head) (op : Op) (entered events : List Event) → Once (task head op entered) → walking events ≡ [] →
    (k : InSequence head op entered events) → (begun events ≡ k.done) × (task head op entered ≡ k.done ++ k.rest)
    × (undone head op entered events ≡ k.rest)
undone_is head op entered events once rests k =
    let b : begun events ≡ k.done = k.begun_is ∙ (rw rests (append-nil k.done)) in
    let t : task head op entered ≡ k.done ++ k.rest = k.task_is ∙ (rw rests refl) in
    (b, t, rw (b, t) (left_over k.done k.rest (rw t at once)))

-- one that hasn't begun stands as at the Enter
pub stands_same : (head : Head) (op : Op) (entered events : List Event) → walking events ≡ [] →
    (k : InSequence head op entered events) → (c : ℕ) → among c (begun events) ≡ false → settled c events ≡ settled c entered
stands_same head op entered events rests k c h =
    let b : begun events ≡ k.done = k.begun_is ∙ (rw rests (append-nil k.done)) in
    let z : occurs c k.done ≤ 0 = ltb-false 0 (occurs c k.done) (rw b at h) in
    k.unchanged c (omega arith)

pub freeze_is : (head : Head) (p : ℤ) (entered events : List Event) →
    to_freeze head p entered events ≡ undone head (Freeze p) entered events
freeze_is head p entered events =
    filter_both (λ c. not (eqb c first) && not (among c (begun events))) (λ c. is_online c entered) (numbers head.possible)
    ∙ (filter_agree (λ c. (not (eqb c first) && not (among c (begun events))) && is_online c entered)
    (λ c. not (among c (begun events)) && (is_online c entered && not (eqb c first)))
    (λ c. swap (not (eqb c first)) (not (among c (begun events))) (is_online c entered)) (numbers head.possible)
    ∙ sym (ap (filter (λ c. not (among c (begun events)))) (filter_both (λ c. is_online c entered) (λ c. not (eqb c first)) (numbers head.possible))
    ∙ filter_both (λ c. not (among c (begun events))) (λ c. is_online c entered && not (eqb c first)) (numbers head.possible)))
  where
    first : ℕ
    first = primary_of p (online head entered)

    swap : (a b o : Bool) → ((a && b) && o) ≡ (b && (o && a))
    swap true true true = refl
    swap true true false = refl
    swap true false o = refl
    swap false true true = refl
    swap false true false = refl
    swap false false o = refl

thaw_is : (head : Head) (entered events : List Event) → frozen events ≡ frozen entered →
    ((c : ℕ) → among c (begun events) ≡ false → settled c events ≡ settled c entered) →
    to_thaw events ≡ undone head Thaw entered events
thaw_is head entered events kept same =
    filter_agree (λ c. ltb (settled c events) 200 && not (among c (begun events)))
    (λ c. not (among c (begun events)) && ltb (settled c entered) 200) (λ c. go c (among c (begun events)) refl) (frozen events)
    ∙ (ap (filter (λ c. not (among c (begun events)) && ltb (settled c entered) 200)) kept
    ∙ sym (filter_both (λ c. not (among c (begun events))) (λ c. ltb (settled c entered) 200) (frozen entered)))
  where
    last : (b : Bool) → (b && true) ≡ b
    last true = refl
    last false = refl

    never : (b : Bool) → (b && false) ≡ false
    never true = refl
    never false = refl

    go : (c : ℕ) (b : Bool) → among c (begun events) ≡ b →
        (ltb (settled c events) 200 && not b) ≡ (not b && ltb (settled c entered) 200)
    go c true e = never (ltb (settled c events) 200)
    go c false e = last (ltb (settled c events) 200) ∙ ap (λ n. ltb n 200) (same c e)

boot_is : (head : Head) (n : ℕ) (entered events : List Event) →
    ((c : ℕ) → among c (begun events) ≡ false → settled c events ≡ settled c entered) →
    to_boot head events ≡ undone head (Boot n) entered events
boot_is head n entered events same =
    filter_agree (λ c. is_present head c && (not (is_online c events) && not (among c (begun events))))
    (λ c. not (among c (begun events)) && (not (is_online c entered) && is_present head c))
    (λ c. go c (is_present head c) (among c (begun events)) refl) (numbers head.possible)
    ∙ sym (ap (filter (λ c. not (among c (begun events)))) (filter_both (λ c. not (is_online c entered)) (λ c. is_present head c) (numbers head.possible))
    ∙ filter_both (λ c. not (among c (begun events))) (λ c. not (is_online c entered) && is_present head c) (numbers head.possible))
  where
    swap : (a o : Bool) → (a && (o && true)) ≡ (true && (o && a))
    swap true true = refl
    swap true false = refl
    swap false true = refl
    swap false false = refl

    never : (a o : Bool) → (a && (o && false)) ≡ false
    never true true = refl
    never true false = refl
    never false o = refl

    go : (c : ℕ) (a b : Bool) → among c (begun events) ≡ b →
        (a && (not (is_online c events) && not b)) ≡ (not b && (not (is_online c entered) && a))
    go c a true e = never a (not (is_online c events))
    go c a false e =
        swap a (not (is_online c events)) ∙ ap (λ n. not (is_online_state n) && a) (same c e)

-- what an operation still has to walk
abbrev pub IsTodo : Head → Op → (entered events : List Event) → (rest : List ℕ) → Type 0
IsTodo head (Freeze p) entered events rest = to_freeze head p entered events ≡ rest
IsTodo head Thaw entered events rest = to_thaw events ≡ rest
IsTodo head (Boot n) entered events rest = to_boot head events ≡ rest
IsTodo head _ entered events rest = Unit {0}

pub todo_is : (head : Head) (op : Op) (entered events : List Event) → Once (task head op entered) → walking events ≡ [] →
    (k : InSequence head op entered events) → IsTodo head op entered events k.rest
todo_is head (Freeze p) entered events once rests k =
    freeze_is head p entered events ∙ (undone_is head (Freeze p) entered events once rests k).2
todo_is head Thaw entered events once rests k =
    thaw_is head entered events (k.kept refl) (stands_same head Thaw entered events rests k)
    ∙ (undone_is head Thaw entered events once rests k).2
todo_is head (Boot n) entered events once rests k =
    boot_is head n entered events (stands_same head (Boot n) entered events rests k)
    ∙ (undone_is head (Boot n) entered events once rests k).2
todo_is head op entered events once rests k = tt

-- a walk that comes next
pub record Gives (op : Op) (rest : List ℕ) (events : List Event) (cpu to : ℕ) : Type 0 where
  pub tail : List ℕ
  pub rest_is : rest ≡ cpu ∷ tail
  pub to_is : to ≡ aim op
  pub no_failure : is_freeze op ≡ true → failures (answers events) ≡ []

pub same_to : (c to c' to' : ℕ) → walks c to ≡ walks c' to' → to ≡ to'
same_to c to c' to' h = cc

first_gives : (to : ℕ) (todo : List ℕ) (answer : Answer) (cpu to' : ℕ) → first_next to todo answer ≡ walks cpu to' →
    (tail : List ℕ) × ((todo ≡ cpu ∷ tail) × (to' ≡ to))
first_gives to [] answer cpu to' h = absurd (not_walk answer cpu to' h)
first_gives to (c ∷ cs) answer cpu to' h =
    (cs, (ap (λ z. z ∷ cs) (same_cpu c to cpu to' h), sym (same_to c to cpu to' h)))

boot_gives : (enough : Bool) (todo : List ℕ) (n cpu to : ℕ) → boot_next enough todo n ≡ walks cpu to →
    (tail : List ℕ) × ((todo ≡ cpu ∷ tail) × (to ≡ 200))
boot_gives true todo n cpu to h = absurd (not_walk (Ok (pos n)) cpu to h)
boot_gives false todo n cpu to h = first_gives 200 todo (Ok (pos n)) cpu to h

freeze_gives : (waking : Bool) (failed : List Answer) (todo : List ℕ) (cpu to : ℕ) → freeze_next waking failed todo ≡ walks cpu to →
    (tail : List ℕ) × ((todo ≡ cpu ∷ tail) × ((to ≡ 0) × (failed ≡ [])))
freeze_gives waking (answer ∷ failed) todo cpu to h = absurd (not_walk answer cpu to h)
freeze_gives waking [] [] cpu to h = absurd (not_walk (Ok (pos 0)) cpu to h)
freeze_gives true [] (c ∷ cs) cpu to h = absurd (not_walk (Refused 16) cpu to h)
freeze_gives false [] (c ∷ cs) cpu to h =
    (cs, (ap (λ z. z ∷ cs) (same_cpu c 0 cpu to h), (sym (same_to c 0 cpu to h), refl)))

pub gives : (head : Head) (op : Op) (entered events : List Event) (rest : List ℕ) (cpu to : ℕ) → walks_many op ≡ true →
    IsTodo head op entered events rest → next head events entered op ≡ walks cpu to → Gives op rest events cpu to
gives head (Freeze p) entered events rest cpu to m t h =
    let r = freeze_gives (wakeup_pending events) (failures (answers events)) (to_freeze head p entered events) cpu to h in
    record { tail = r.0; rest_is = sym t ∙ r.1.0; to_is = r.1.1.0; no_failure = λ f. r.1.1.1 }
gives head Thaw entered events rest cpu to m t h =
    let r = first_gives 200 (to_thaw events) (Ok (pos (length (failures (answers events))))) cpu to h in
    record { tail = r.0; rest_is = sym t ∙ r.1.0; to_is = r.1.1; no_failure = λ f. absurd (false≢true f) }
gives head (Boot n) entered events rest cpu to m t h =
    let r = boot_gives (leb n (length (online head events))) (to_boot head events) (length (failures (answers events))) cpu to h in
    record { tail = r.0; rest_is = sym t ∙ r.1.0; to_is = r.1.1; no_failure = λ f. absurd (false≢true f) }
gives head op entered events rest cpu to m t h = absurd (false≢true m)
