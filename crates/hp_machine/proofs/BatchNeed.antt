-- What the begin of a walk takes, as the account finds it: the first of an upmany what all its walks take together.
use Rattle.std.proofs.Common.{◌≡◌, ℕ, suc, ◌+◌, ◌*◌, ◌<◌, Bool, true, false, not, cond, ltb, get_or, Option, Some, None, List, length, refl, ap, sym, ◌∙◌, arith}
use Rattle.std.specs.Prelude.{sum_by, ◌&&◌}
use Rattle.std.proofs.lemmas.Bool.{true≢false, ltb-true}
use Rattle.std.proofs.lemmas.List.Sums.{sum_by_push}
use Rattle.hp_states.specs.CpuSets.{has}
use Rattle.hp_states.specs.declared.limits.TheConstants.{ONLINE}
use Rattle.hp_event.specs.declared.head.Head.{Head}
use Rattle.hp_event.specs.declared.event.Event.{Event}
use Rattle.hp_event.specs.declared.event.Event.TheVariants.{WalkBegin}
use Rattle.hp_event.specs.declared.op.Op.TheVariants.{UpMany}
use Rattle.hp_model.specs.Batch.{begun, batch, unbegun}
use Rattle.hp_model.specs.Lists.{is_empty, occurs, among, numbers}
use Rattle.hp_model.specs.Needs.{need, taken, walk_need, batch_need}
use Rattle.hp_model.specs.Plan.{keys_on}
use Rattle.hp_model.specs.Registered.{keys as registered_keys}
use Rattle.hp_model.specs.Settled.{settled}
use Rattle.hp_model.proofs.ListLemmas.{occurs-numbers}
use Rattle.hp_model.proofs.SumLemmas.{sum_same_in, sum_among}
use Rattle.hp_suspend.specs.declared.batch.Batch.{Batch}
use Rattle.hp_suspend.specs.Tables.{AreSettled}
use Rattle.hp_suspend.proofs.Places.{said_at}
use Rattle.hp_table.specs.Keys.{keys_by}
use Rattle.hp_table.specs.Step.{Step}
use Rattle.hp_account.specs.declared.operation.MapOperation.{MapOperation}
use Rattle.hp_account.specs.Batches.{batch_of, IsUpmanyAt}
use Rattle.hp_account.specs.Operations.{IsHeldBy}
use Rattle.hp_account.proofs.InBatch.{not_batch}
use Rattle.hp_machine.specs.Room.{CountsKeys}

-- what the walk of a processor to the top takes, from where it stands
abbrev pub room_at : (keys : ℕ → List ℕ) → (stands : List ℕ) → (cpu : ℕ) → ℕ
room_at keys stands c = 3 * keys_on keys (get_or stands c 0) ONLINE + 4

-- and if it is one of these
abbrev pub room_if : (keys : ℕ → List ℕ) → (left : ℕ → Bool) → (stands : List ℕ) → (cpu : ℕ) → ℕ
room_if keys left stands c = cond (left c) (room_at keys stands c) 0

-- those below a number together
abbrev pub summed : (keys : ℕ → List ℕ) → (left : ℕ → Bool) → (stands : List ℕ) → (n : ℕ) → ℕ
summed keys left stands n = sum_by (room_if keys left stands) (numbers n)

pub one_more : (keys : ℕ → List ℕ) (left : ℕ → Bool) (stands : List ℕ) (n : ℕ) →
    summed keys left stands (n + 1) ≡ summed keys left stands n + room_if keys left stands n
one_more keys left stands n =
    let more : n + 1 ≡ suc n = omega arith in
    ap (λ m. summed keys left stands m) more ∙ sum_by_push (room_if keys left stands) (numbers n) n

-- that is what the first walk of an upmany takes
pub batch_room : (head : Head) (es : List Event) (b : Batch) (keys : ℕ → List ℕ) (stands : List ℕ) (k seat cpu from to : ℕ) →
    IsUpmanyAt head es k b → b.begun ≡ false → AreSettled head es stands →
    ((low high : ℕ) → keys_on keys low high ≡ keys_on (registered_keys head es) low high) →
    summed keys (λ c. has b.left c) stands (length stands) ≡ taken (need head es (WalkBegin seat cpu from to))
batch_room head es b keys stands k seat cpu from to at rest are same =
    ap (λ n. summed keys (λ c. has b.left c) stands n) are.length_is
    ∙ (sum_same_in (room_if keys (λ c. has b.left c) stands) (λ c. cond (among c left) (room c) 0) (numbers head.possible) each
    ∙ (sym whole ∙ sym (ap taken needs)))
  where
    left : List ℕ
    left = unbegun (batch head at.of.before (UpMany at.set)) es

    room : ℕ → ℕ
    room c = walk_need head es (settled c es) ONLINE

    whole : batch_need head es left ≡ sum_by (λ c. cond (among c left) (room c) 0) (numbers head.possible)
    whole =
        sum_among room (λ c. not (among c (begun es))) (λ c. has at.set c && ltb (settled c at.of.before) ONLINE) (numbers head.possible)

    none : is_empty (begun es) ≡ true
    none = go (is_empty (begun es)) refl
      where
        go : (e : Bool) → is_empty (begun es) ≡ e → e ≡ true
        go true e = refl
        go false e = absurd (true≢false (sym (at.batching.begun_is ∙ ap not e) ∙ rest))

    needs : need head es (WalkBegin seat cpu from to) ≡ Some (batch_need head es left)
    needs = rw (at.held, at.op_is, none) refl

    below : (c : ℕ) → 0 < occurs c (numbers head.possible) → c < head.possible
    below c i = go (ltb c head.possible) refl (occurs-numbers c head.possible)
      where
        go : (l : Bool) → ltb c head.possible ≡ l → occurs c (numbers head.possible) ≡ cond l 1 0 → c < head.possible
        go true l n = ltb-true c head.possible l
        go false l n = absurd (omega (arith, n, i))

    each : (c : ℕ) → 0 < occurs c (numbers head.possible) →
        room_if keys (λ d. has b.left d) stands c ≡ cond (among c left) (room c) 0
    each c i =
        let stood = said_at head (λ d. settled d es) stands c 0 are (below c i) in
        let mine : room_at keys stands c ≡ room c =
        ap (λ s. 3 * keys_on keys s ONLINE + 4) stood ∙ ap (λ n. 3 * n + 4) (same (settled c es) ONLINE) in
        ap (λ t. cond t (room_at keys stands c) 0) (at.batching.left_is c) ∙ ap (λ n. cond (among c left) n 0) mine

-- a walk of another operation takes what it crosses
pub walk_room : (head : Head) (es : List Event) (held : Option MapOperation) (places : List (Option Step)) (seat cpu from to : ℕ) →
    IsHeldBy head es held → batch_of held ≡ None → CountsKeys head es places (WalkBegin seat cpu from to) →
    3 * keys_on (keys_by places) from to + 4 ≡ taken (need head es (WalkBegin seat cpu from to))
walk_room head es held places seat cpu from to is none same =
    let single = not_batch head es held is none in
    rw single (ap (λ n. 3 * n + 4) (same from to))
