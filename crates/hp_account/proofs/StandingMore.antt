-- Where processors stand, and where they are armed, after one event more.
use Rattle.std.proofs.Common.{◌≡◌, ◌≢◌, ℕ, ◌<◌, ◌≤◌, Bool, true, false, cond, eqb, Option, None, List, [], ◌∷◌, ◌++◌, length, refl, sym, ap, ◌∙◌, subst, arith, get_or-set_same, get_or-set_other}
use Rattle.std.specs.Prelude.{slice_index}
use Rattle.std.proofs.Math.ListN.{set}
use Rattle.std.proofs.lemmas.Bool.{eqb-true, eqb-false}
use Rattle.std.proofs.lemmas.List.{length-set}
use Rattle.hp_states.specs.declared.limits.TheConstants.{ONLINE}
use Rattle.hp_states.specs.declared.dir.Dir.{Dir}
use Rattle.hp_event.specs.Leaves.{leaves_at}
use Rattle.hp_event.specs.declared.answer.Answer.{Answer}
use Rattle.hp_event.specs.declared.how.How.{How}
use Rattle.hp_event.specs.declared.how.How.TheVariants.{RanOk, RanFault, Injected, Empty, Presumed, Overruled}
use Rattle.hp_event.specs.declared.head.Head.{Head}
use Rattle.hp_event.specs.declared.event.Event.{Event}
use Rattle.hp_event.specs.declared.event.Event.TheVariants.{Call, WalkEnd, Armed}
use Rattle.hp_model.specs.Walks.{walk}
use Rattle.hp_model.specs.Settled.{settled, left_at}
use Rattle.hp_model.specs.Armed.{armed, armed_by, disarmed_by}
use Rattle.hp_model.proofs.Laws.{settled_push, armed_push}
use Rattle.hp_account.specs.Processors.{ProcessorsView, IsStanding, with_settled, with_armed}
use Rattle.hp_account.specs.After.{standing_after, disarmed_after}
use Rattle.hp_account.proofs.PlaceLemmas.{at_place-set}

-- what an event needs, so that the account of the processors stays one of the journal: its processor is one of the possible ones, and
-- a walk that ends went there, and leaves it at a state
pub record EndsAt (head : Head) (es : List Event) (c to : ℕ) (answer : Answer) : Type 0 where
  pub below : c < head.possible
  pub walk_is : (at : ℕ) → left_at answer (walk c es) at ≡ leaves_at answer to at
  pub most : (at : ℕ) → at ≤ ONLINE → leaves_at answer to at ≤ ONLINE

abbrev pub IsOnProcessor : Head → List Event → (to : ℕ) → Event → Type 0
IsOnProcessor head es to (Call seat c s i d how) = c < head.possible
IsOnProcessor head es to (WalkEnd seat c answer) = EndsAt head es c to answer
IsOnProcessor head es to (Armed seat c value) = c < head.possible
IsOnProcessor head es to _ = Unit {0}

read_set : (xs : List ℕ) (c v d : ℕ) → c < length xs → slice_index (set xs c v) d ≡ cond (eqb c d) v (slice_index xs d)
read_set xs c v d below = go (eqb c d) refl
  where
    go : (b : Bool) → eqb c d ≡ b → slice_index (set xs c v) d ≡ cond b v (slice_index xs d)
    go true e = let at : c ≡ d = eqb-true c d e in subst (λ k. slice_index (set xs c v) k ≡ v) at (get_or-set_same xs c v 0 below)
    go false e =
        let other : d ≢ c = λ same. eqb-false c d e (sym same) in get_or-set_other xs c d v 0 other

-- the settled states after a walk
walk_ends : (head : Head) (es : List Event) (p : ProcessorsView) (seat c to : ℕ) (answer : Answer) → EndsAt head es c to answer →
    IsStanding head es p → IsStanding head (es ++ WalkEnd seat c answer ∷ []) (with_settled c (leaves_at answer to (slice_index p.settled c)) p)
walk_ends head es p seat c to answer ends is =
    let e : Event = WalkEnd seat c answer in
    let v = leaves_at answer to (slice_index p.settled c) in
    let b = ends.below in
    let all = is.cpus in
    let below : c < length p.settled = omega (arith, b, all) in
    record {
      cpus = length-set p.settled c v ∙ is.cpus;
      settled_is = λ d there.
          read_set p.settled c v d below ∙ here d there (eqb c d) refl ∙ sym (settled_push d es e);
      highest = λ d.
          subst (λ n. n ≤ ONLINE) (sym (read_set p.settled c v d below)) (most d (eqb c d));
      armed_cpus = is.armed_cpus;
      armed_is = λ d there. is.armed_is d there ∙ sym (armed_push d es e);
      present_is = is.present_is;
    }
  where
    here : (d : ℕ) → d < head.possible → (b : Bool) → eqb c d ≡ b →
        cond b (leaves_at answer to (slice_index p.settled c)) (slice_index p.settled d) ≡ cond b (left_at answer (walk d es) (settled d es)) (settled d es)
    here d there true e =
        let at : c ≡ d = eqb-true c d e in
        subst (λ k. leaves_at answer to (slice_index p.settled c) ≡ left_at answer (walk k es) (settled k es)) at
        (ap (leaves_at answer to) (is.settled_is c ends.below) ∙ sym (ends.walk_is (settled c es)))
    here d there false e = is.settled_is d there

    most : (d : ℕ) (b : Bool) → cond b (leaves_at answer to (slice_index p.settled c)) (slice_index p.settled d) ≤ ONLINE
    most d true = ends.most (slice_index p.settled c) (is.highest c)
    most d false = is.highest d

-- a processor is armed, or not any more
arms : (head : Head) (es : List Event) (p : ProcessorsView) (c : ℕ) (at : Option ℕ) (e : Event) → c < head.possible →
    ((d : ℕ) → armed d (es ++ e ∷ []) ≡ cond (eqb c d) at (armed d es)) → ((d : ℕ) → settled d (es ++ e ∷ []) ≡ settled d es) →
    IsStanding head es p → IsStanding head (es ++ e ∷ []) (with_armed c at p)
arms head es p c at e inside armed_now same is =
    let all = is.armed_cpus in
    let below : c < length p.armed = omega (arith, inside, all) in
    record {
      cpus = is.cpus;
      settled_is = λ d there. is.settled_is d there ∙ sym (same d);
      highest = is.highest;
      armed_cpus = length-set p.armed c at ∙ is.armed_cpus;
      armed_is = λ d there.
          at_place-set p.armed c at d below ∙ ap (cond (eqb c d) at) (is.armed_is d there) ∙ sym (armed_now d);
      present_is = is.present_is;
    }

unarmed : (b : Bool) (how : How) (found : Option ℕ) → disarmed_by how found ≡ found → cond b (disarmed_by how found) found ≡ found
unarmed true how found h = h
unarmed false how found h = refl

-- nothing changes
stays : (head : Head) (es : List Event) (p : ProcessorsView) (e : Event) → ((d : ℕ) → armed d (es ++ e ∷ []) ≡ armed d es) →
    ((d : ℕ) → settled d (es ++ e ∷ []) ≡ settled d es) → IsStanding head es p → IsStanding head (es ++ e ∷ []) p
stays head es p e armed_same same is = record {
  cpus = is.cpus;
  settled_is = λ d there. is.settled_is d there ∙ sym (same d);
  highest = is.highest;
  armed_cpus = is.armed_cpus;
  armed_is = λ d there. is.armed_is d there ∙ sym (armed_same d);
  present_is = is.present_is;
}

unchanged : (head : Head) (es : List Event) (p : ProcessorsView) (seat c s i : ℕ) (d : Dir) (how : How) →
    ((found : Option ℕ) → disarmed_by how found ≡ found) → IsStanding head es p → IsStanding head (es ++ Call seat c s i d how ∷ []) p
unchanged head es p seat c s i d how same is =
    let e : Event = Call seat c s i d how in
    stays head es p e (λ x. armed_push x es e ∙ unarmed (eqb c x) how (armed x es) (same (armed x es))) (λ x. settled_push x es e) is

called : (head : Head) (es : List Event) (p : ProcessorsView) (seat c s i : ℕ) (d : Dir) (how : How) → c < head.possible → IsStanding head es p →
    IsStanding head (es ++ Call seat c s i d how ∷ []) (disarmed_after how c p)
called head es p seat c s i d Injected below is =
    let e : Event = Call seat c s i d Injected in
    arms head es p c None e below (λ x. armed_push x es e) (λ x. settled_push x es e) is
called head es p seat c s i d RanOk below is = unchanged head es p seat c s i d RanOk (λ f. refl) is
called head es p seat c s i d (RanFault code) below is = unchanged head es p seat c s i d (RanFault code) (λ f. refl) is
called head es p seat c s i d Empty below is = unchanged head es p seat c s i d Empty (λ f. refl) is
called head es p seat c s i d Presumed below is = unchanged head es p seat c s i d Presumed (λ f. refl) is
called head es p seat c s i d (Overruled code) below is = unchanged head es p seat c s i d (Overruled code) (λ f. refl) is

pub standing_more : (head : Head) (es : List Event) (p : ProcessorsView) (to : ℕ) (e : Event) → IsOnProcessor head es to e → IsStanding head es p →
    IsStanding head (es ++ e ∷ []) (standing_after to e p)
standing_more head es p to (Call seat c s i d how) on is = called head es p seat c s i d how on is
standing_more head es p to (WalkEnd seat c answer) on is = walk_ends head es p seat c to answer on is
standing_more head es p to (Armed seat c value) on is =
    let e : Event = Armed seat c value in
    arms head es p c (armed_by value) e on (λ x. armed_push x es e) (λ x. settled_push x es e) is
standing_more head es p to e on is = stays head es p e (λ d. armed_push d es e) (λ d. settled_push d es e) is
