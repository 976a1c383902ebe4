-- Queues stay sound: each item that was put stands once, whatever opens, closes, is put and runs.
use Rattle.std.proofs.Common.{◌≡◌, ℕ, ◌+◌, ◌<◌, Bool, true, false, not, eqb, ◌&&◌, ◌||◌, List, [], length, get_or, replicate, refl, sym, ap, subst, ◌∙◌, arith}
use Rattle.std.specs.List.{sum_by}
use Rattle.std.proofs.Math.ListN.{set}
use Rattle.std.proofs.lemmas.Bool.{eq-eqb}
use Rattle.hp_states.specs.declared.dir.Dir.{Dir}
use Rattle.hp_states.specs.declared.dir.Dir.TheVariants.{Up, Down}
use Rattle.hp_states.specs.declared.limits.TheConstants.{MAX_CPU_SET}
use Rattle.hp_states.specs.declared.cpu_set.CpuSet.{CpuSet}
use Rattle.hp_states.specs.CpuSets.{has}
use Rattle.hp_work.specs.declared.chains.TheConstants.{LISTS, UNBOUND}
use Rattle.hp_work.specs.declared.limits.TheConstants.{MAX_ITEMS}
use Rattle.hp_work.specs.declared.queues.Queues.TheInside.{Inside}
use Rattle.hp_work.specs.Lists.{pushed, moved}
use Rattle.hp_work.specs.Work.{Work, is_open, none_put, StandOnce}
use Rattle.hp_work.specs.Changes.{lowest_from, goes_to, moves}
use Rattle.hp_work.specs.Inside.{places, work, IsSound}
use Rattle.hp_work.proofs.Counting.{many_pushed, many_moved}
use Rattle.hp_work.proofs.Sets.{length-places, place_is, places_put, places_taken}
use Rattle.hp_work.proofs.Standing.{Reached, goes_elsewhere, reached_moves, reached_put}

pub reached : (q : Inside) → IsSound q → Reached (work q)
reached q h = record { lists_are = h.lists_are; opened_are = length-places q.opened; stand = h.stand }

many_moves : (d : Dir) (c : ℕ) (w : Work) → c < MAX_CPU_SET → Reached w → sum_by length (moves d c w).lists ≡ sum_by length w.lists
many_moves Up c w h r =
    let l = r.lists_are in
    many_moved UNBOUND c w.lists (λ e. omega (arith, e, h)) (omega (arith, l)) (omega (arith, l, h))
many_moves Down c w h r =
    let place = goes_elsewhere w.opened c r.opened_are h in
    let l = r.lists_are in
    many_moved c (goes_to (lowest_from 0 (set w.opened c false))) w.lists place.0 (omega (arith, l, h)) (omega (arith, l, place.1))

-- a processor opens or closes
pub sound_moved : (q : Inside) (d : Dir) (c : ℕ) (o : CpuSet) (ls : List (List ℕ)) → work (record q { opened = o; lists = ls }) ≡ moves d c (work q) →
    c < MAX_CPU_SET → IsSound q → IsSound (record q { opened = o; lists = ls })
sound_moved q d c o ls e h is =
    let r = reached_moves d c (work q) h (reached q is) in
    let m = many_moves d c (work q) h (reached q is) in
    let same : sum_by length ls ≡ sum_by length (moves d c (work q)).lists = ap (λ (w : Work). sum_by length w.lists) e in
    let all = is.all_put in
    record {
      state_is = is.state_is;
      lists_are = ap (λ (w : Work). length w.lists) e ∙ r.lists_are;
      stand = subst (λ w. StandOnce w) (sym e) r.stand;
      all_put = omega (arith, m, same, all);
      few = is.few;
      room = is.room;
    }

pub opens_is : (q : Inside) (c : ℕ) (o : CpuSet) (ls : List (List ℕ)) → c < MAX_CPU_SET → ((k : ℕ) → has o k ≡ (eqb k c || has q.opened k)) →
    ls ≡ moved UNBOUND c q.lists → work (record q { opened = o; lists = ls }) ≡ moves Up c (work q)
opens_is q c o ls h put e =
    ap (λ os. record (work q) { opened = os; lists = ls }) (places_put q.opened o c h put)
    ∙ ap (λ xs. record (work q) { opened = set (places q.opened) c true; lists = xs }) e

pub closes_is : (q : Inside) (c to : ℕ) (o : CpuSet) (ls : List (List ℕ)) → c < MAX_CPU_SET →
    ((k : ℕ) → has o k ≡ (not (eqb k c) && has q.opened k)) → to ≡ goes_to (lowest_from 0 (places o)) → ls ≡ moved c to q.lists →
    work (record q { opened = o; lists = ls }) ≡ moves Down c (work q)
closes_is q c to o ls h taken goes e =
    let closed = places_taken q.opened o c h taken in
    ap (λ xs. record (work q) { opened = places o; lists = xs }) (e ∙ ap (λ t. moved c t q.lists) goes)
    ∙ ap (λ os. record (work q) { opened = os; lists = moved c (goes_to (lowest_from 0 os)) q.lists }) closed

-- the processor that closes isn't in the set
pub not_there : (s o : CpuSet) (c : ℕ) → ((k : ℕ) → has o k ≡ (not (eqb k c) && has s k)) → has o c ≡ false
not_there s o c taken = taken c ∙ ap (λ t. not t && has s c) (eq-eqb c c refl)

-- an item more is put
pub sound_put : (q : Inside) (c : ℕ) (ls : List (List ℕ)) → ls ≡ pushed c q.put q.lists → c < MAX_CPU_SET → q.put < MAX_ITEMS → IsSound q →
    IsSound (record q { lists = ls; put = q.put + 1 })
sound_put q c ls e h room is =
    let r = reached_put c (work q) h (reached q is) in
    let l = is.lists_are in
    let m = many_pushed c q.put q.lists (omega (arith, l, h)) in
    let same : sum_by length ls ≡ sum_by length (pushed c q.put q.lists) = ap (sum_by length) e in
    let all = is.all_put in
    record {
      state_is = is.state_is;
      lists_are = ap length e ∙ r.lists_are;
      stand = subst (λ xs. StandOnce (record (work q) { lists = xs; put = q.put + 1 })) (sym e) r.stand;
      all_put = omega (arith, m, same, all);
      few = omega (arith, room);
      room = is.room;
    }

-- whether a processor is open is what the set says of it
pub open_is : (s : CpuSet) (w : Work) (c : ℕ) (b : Bool) → places s ≡ w.opened → c < MAX_CPU_SET → b ≡ has s c → is_open w c ≡ b
open_is s w c b e l h = ap (λ os. get_or os c false) (sym e) ∙ (place_is s c l ∙ sym h)

-- at the start
abbrev pub made : (s : ℕ) → List Bool → List (List ℕ) → List ℕ → Work
made s os ls ran = record { state = s; opened = os; lists = ls; ran = ran; put = 0 }

pub none_is : (s : ℕ) (os : List Bool) (ls : List (List ℕ)) (ran : List ℕ) → os ≡ replicate MAX_CPU_SET false → ls ≡ replicate LISTS [] → ran ≡ [] →
    made s os ls ran ≡ none_put s
unfolding none_put
none_is s os ls ran e f g =
    ap (λ x. made s x ls ran) e
    ∙ (ap (λ x. made s (replicate MAX_CPU_SET false) x ran) f ∙ ap (made s (replicate MAX_CPU_SET false) (replicate LISTS [])) g)
