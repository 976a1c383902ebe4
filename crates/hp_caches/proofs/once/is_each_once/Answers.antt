use Rattle.std.proofs.Common.{◌≡◌, ◌⊎◌, ◌≤◌, Bool, true, false, List, length, get_or, refl, subst, arith}
use Rattle.std.proofs.Math.Bool.{beq}
use Rattle.std.specs.List.{list_any}
use Rattle.std.proofs.lemmas.Bool.{false≢true}
use Rattle.hp_caches.proofs.Marking.{not_once, each_marked}
use Rattle.hp_caches.proofs.once.is_each_once.Goals as goal

pub returns-then-not-mark : goal.returns-then-not-mark
returns-then-not-mark c = (
  λ no. absurd (false≢true no),
  λ once.
      let item = get_or c.args.items.now c.loop-place.place 0 in
      let refused =
      subst (λ (w : List Bool). (length w ≤ item) ⊎ (get_or w item false ≡ true)) c.deref_mut.ensures.value
      (c.mark.ensures.refused c.if-not-mark.true) in
      absurd (not_once c.args.items.now c.loop-place.place item c.args.count c.loop-place.seen.items (omega arith) refl
      c.loop-place.invariant.all c.loop-place.invariant.marks refused once),
)

pub returns : goal.returns
returns c =
    each_marked c.args.items.now c.loop-place.place c.args.count c.loop-place.seen.items c.contains.result (omega arith)
    c.loop-place.invariant.all c.loop-place.invariant.marks
    (subst (λ (w : List Bool). c.contains.result ≡ list_any (λ y. beq y false) w) c.deref.ensures.value c.contains.ensures.value)
