-- What is so of every actor stays so.
use Rattle.std.proofs.Common.{◌≡◌, ◌↔◌, ℕ, zero, suc, ◌+◌, ◌<◌, ◌≤◌, Bool, true, false, cond, ltb, IfSome, IfNone, Option, Some, None, List, [], ◌∷◌, length, drop, get_or, is_some, refl, subst, arith}
use Rattle.std.specs.Prelude.{IsSome, slice_get}
use Rattle.std.specs.Borrow.{MutBor}
use Rattle.std.proofs.lemmas.Bool.{false≢true, ltb-true, ltb-false}
use Rattle.std.proofs.lemmas.List.Elements.{All-tail}
use Rattle.std.proofs.lemmas.Option.{slice_get_past, slice_get_read}
use Rattle.hp_board.specs.declared.turn.Ask.{Ask}
use Rattle.hp_account.specs.TableChanges.{is_setup}
use Rattle.hp_actors.specs.Actors.{AreLoaded, IsAgenda, agenda_at, wait_at}
use Rattle.hp_actors.specs.declared.actor.Waits.TheVariants.{Unknown, Forever}

-- those behind one more
later_suc : {H : Type 0} (asks : List (Ask H)) (n : ℕ) → AreLoaded (drop n asks) → AreLoaded (drop (suc n) asks)
later_suc [] zero loaded = loaded
later_suc [] (suc n) loaded = loaded
later_suc {H} (a ∷ asks) zero loaded = All-tail (λ (ask : Ask H). is_some ask.hook ≡ is_setup ask.op) a asks loaded
later_suc (a ∷ asks) (suc n) loaded = later_suc asks n loaded

later_more : {H : Type 0} (asks : List (Ask H)) (n m : ℕ) → m ≡ n + 1 → AreLoaded (drop n asks) → AreLoaded (drop m asks)
later_more asks n m is loaded =
    let e : suc n ≡ m = omega (arith, is) in subst (λ k. AreLoaded (drop k asks)) e (later_suc asks n loaded)

pub later_behind : {H : Type 0} (asks : List (Ask H)) → AreLoaded asks → AreLoaded (drop (0 + 1) asks)
later_behind asks loaded = later_more asks 0 (0 + 1) refl loaded

not_forever : Unknown ≡ Forever → ⊥
not_forever h = cc

-- an actor waits for ever exactly where all is answered
wait_over : (n count : ℕ) → n ≤ count → (wait_at n count ≡ Forever) ↔ (n ≡ count)
wait_over n count few = go (ltb n count) refl
  where
    go : (b : Bool) → ltb n count ≡ b → ((cond b Unknown Forever) ≡ Forever) ↔ (n ≡ count)
    go true f = let less = ltb-true n count f in ((λ is. absurd (not_forever is)), (λ is. absurd (omega (arith, less, is))))
    go false f = let past = ltb-false n count f in ((λ is. omega (arith, past, few)), (λ is. refl))

-- before the operation that comes next is asked for
pub same_place : {H : Type 0} (asks : List (Ask H)) (n : ℕ) → n ≤ length asks → AreLoaded (drop (n + 1) asks) → IsAgenda (agenda_at asks n)
same_place asks n within later = record { within = within; later = later; over = wait_over n (length asks) within }

pub next_place : {H : Type 0} (asks : List (Ask H)) (n : ℕ) → n ≤ length asks → AreLoaded (drop (n + 1) asks) → n < length asks →
    IsAgenda (agenda_at asks (n + 1))
next_place asks n within later pending =
    let few : n + 1 ≤ length asks = omega (arith, pending) in
    same_place asks (n + 1) few (later_more asks (n + 1) (n + 1 + 1) refl later)

-- ---- the operation that is lent

pub lent_some : {A : Type 0} (xs : List A) (n i : ℕ) (r : Option (MutBor A)) → n ≡ length xs → (IsSome r → i < n) →
    IfSome r (λ x. x.now ≡ get_or xs i x.now) → IfSome r (λ x. slice_get xs i ≡ Some x.now)
lent_some xs n i None is within value = tt
lent_some xs n i (Some x) is within value = slice_get_read xs n i x.now is (within refl) value

pub lent_none : {A : Type 0} (xs : List A) (n i : ℕ) (r : Option (MutBor A)) → n ≡ length xs → (i < n → IsSome r) →
    IfNone r (slice_get xs i ≡ None)
lent_none xs n i (Some x) is there = tt
lent_none xs n i None is there = go (ltb i n) refl
  where
    go : (b : Bool) → ltb i n ≡ b → slice_get xs i ≡ None
    go true f = absurd (false≢true (there (ltb-true i n f)))
    go false f = let past = ltb-false i n f in slice_get_past xs i (omega (arith, past, is))
