-- One event more of those that a loop over a journal has read.
use Rattle.std.proofs.Common.{◌≡◌, ℕ, ◌+◌, ◌<◌, Bool, cond, Option, Some, None, List, [], ◌∷◌, ◌++◌, length, take, get_or, refl, ap, sym, ◌∙◌, add-one, append_assoc}
use Rattle.std.specs.Prelude.{option_map}
use Rattle.std.specs.Prelude.{flat_map}
use Rattle.std.proofs.lemmas.List.{append-nil}
use Rattle.hp_states.proofs.Basics.{take_at}
use Rattle.hp_states.specs.declared.limits.TheConstants.{ONLINE}
use Rattle.hp_event.specs.declared.head.Head.{Head}
use Rattle.hp_model.specs.Lists.{numbers}
use Rattle.hp_model.specs.Registrations.{Registration, registration, registration_step}
use Rattle.hp_model.specs.Registered.{Registered, registered, registered_step, after_answer}
use Rattle.hp_states.specs.declared.dir.Dir.{Dir}
use Rattle.hp_event.specs.declared.key.Key.{Key}
use Rattle.hp_event.specs.declared.op.Op.{Op}
use Rattle.hp_event.specs.declared.answer.Answer.{Answer}
use Rattle.hp_event.specs.declared.event.Event.{Event}
use Rattle.hp_event.specs.declared.event.Event.TheVariants.{RegBegin, RegEnd}
use Rattle.hp_model.specs.InForce.{is_done_entry, done_entries}
use Rattle.hp_model.specs.Walks.{walk, walk_step}
use Rattle.hp_model.specs.Settled.{settled, settled_step}
use Rattle.hp_model.specs.Net.{keys_at, registered_keys}
use Rattle.hp_model.proofs.Counts.{done_entries_push}
use Rattle.hp_model.proofs.Laws.{settled_push, walk_push, registered_push, registration_push}

pub counted : (c s i : ℕ) (d : Dir) (xs : List Event) (j : ℕ) (x : Event) (b : Bool) → j < length xs →
    b ≡ is_done_entry c s i d (get_or xs j x) →
    done_entries c s i d (take (j + 1) xs) ≡ done_entries c s i d (take j xs) + cond b 1 0
counted c s i d xs j x b h e =
    rw (take_at xs j x h, e) (done_entries_push c s i d (take j xs) (get_or xs j x))

pub settled_next : (c : ℕ) (xs : List Event) (j : ℕ) (x : Event) (at now : ℕ) → j < length xs → at ≡ settled c (take j xs) →
    now ≡ settled_step c at (take j xs) (get_or xs j x) → now ≡ settled c (take (j + 1) xs)
settled_next c xs j x at now h e n =
    rw (take_at xs j x h, settled_push c (take j xs) (get_or xs j x), ← e) n

pub walk_next : (c : ℕ) (xs : List Event) (j : ℕ) (x : Event) (to : Option ℕ) → j < length xs →
    to ≡ option_map (λ w. w.to) (walk_step c (walk c (take j xs)) (take j xs) (get_or xs j x)) →
    to ≡ option_map (λ w. w.to) (walk c (take (j + 1) xs))
walk_next c xs j x to h n = rw (take_at xs j x h, walk_push c (take j xs) (get_or xs j x)) n

-- what the loops over states and events keep
pub registered_next : (head : Head) (s : ℕ) (xs : List Event) (j : ℕ) (x : Event) → j < length xs →
    registered head s (take (j + 1) xs)
    ≡ registered_step head s (registered head s (take j xs)) (take j xs) (get_or xs j x)
registered_next head s xs j x h = rw (take_at xs j x h) (registered_push head s (take j xs) (get_or xs j x))

pub registration_next : (xs : List Event) (j : ℕ) (x : Event) → j < length xs →
    registration (take (j + 1) xs) ≡ registration_step (registration (take j xs)) (take j xs) (get_or xs j x)
registration_next xs j x h = rw (take_at xs j x h) (registration_push (take j xs) (get_or xs j x))

flat_map_push : {A B : Type 0} (f : A → List B) (xs : List A) (x : A) → flat_map f (xs ++ x ∷ []) ≡ flat_map f xs ++ f x
flat_map_push f [] x = append-nil (f x)
flat_map_push f (y ∷ ys) x =
    ap (λ z. f y ++ z) (flat_map_push f ys x) ∙ sym (append_assoc (f y) (flat_map f ys) (f x))

pub keys_next : (head : Head) (events : List Event) (n : ℕ) →
    flat_map (keys_at head events) (numbers (n + 1)) ≡ flat_map (keys_at head events) (numbers n) ++ keys_at head events n
keys_next head events n = rw (add-one n) (flat_map_push (keys_at head events) (numbers n) n)

pub keys_all : (head : Head) (events : List Event) (n : ℕ) (found : List Key) → n ≡ ONLINE + 1 →
    found ≡ flat_map (keys_at head events) (numbers n) → found ≡ registered_keys head events
unfolding registered_keys
keys_all head events n found e h = rw e at h

pub at_begin : (head : Head) (s : ℕ) (xs : List Event) (j : ℕ) (x : Event) (seat at : ℕ) (op : Op) → j < length xs →
    get_or xs j x ≡ RegBegin seat at op →
    (registered head s (take (j + 1) xs) ≡ registered head s (take j xs))
    × (registration (take (j + 1) xs) ≡ Some (record { seat = seat; state = at; op = op; before = take j xs }))
at_begin head s xs j x seat at op h e = (
  registered_next head s xs j x h ∙ rw e refl,
  registration_next xs j x h ∙ rw e refl,
)

pub at_end : (head : Head) (s : ℕ) (xs : List Event) (j : ℕ) (x : Event) (seat : ℕ) (answer : Answer) → j < length xs →
    get_or xs j x ≡ RegEnd seat answer →
    (registered head s (take (j + 1) xs)
    ≡ after_answer head s answer (registration (take j xs)) (registered head s (take j xs)))
    × (registration (take (j + 1) xs) ≡ None)
at_end head s xs j x seat answer h e = (
  registered_next head s xs j x h ∙ rw e refl,
  registration_next xs j x h ∙ rw e refl,
)

other_step : (head : Head) (s : ℕ) (found : Option Registered) (r : Option Registration) (before : List Event) (e : Event) →
    ((k at : ℕ) (op : Op) → e ≡ RegBegin k at op → ⊥) → ((k : ℕ) (answer : Answer) → e ≡ RegEnd k answer → ⊥) →
    (registered_step head s found before e ≡ found) × (registration_step r before e ≡ r)
other_step head s found r before (RegBegin k at op) h g = absurd (h k at op refl)
other_step head s found r before (RegEnd k answer) h g = absurd (g k answer refl)
other_step head s found r before e h g = (refl, refl)

pub at_other : (head : Head) (s : ℕ) (xs : List Event) (j : ℕ) (x : Event) → j < length xs →
    ((k at : ℕ) (op : Op) → get_or xs j x ≡ RegBegin k at op → ⊥) →
    ((k : ℕ) (answer : Answer) → get_or xs j x ≡ RegEnd k answer → ⊥) →
    (registered head s (take (j + 1) xs) ≡ registered head s (take j xs))
    × (registration (take (j + 1) xs) ≡ registration (take j xs))
at_other head s xs j x h b e =
    let o = other_step head s (registered head s (take j xs)) (registration (take j xs)) (take j xs) (get_or xs j x) b e in
    (registered_next head s xs j x h ∙ o.0, registration_next xs j x h ∙ o.1)
