-- The seats of the processors' threads leave last, in rising number.
use Rattle.std.proofs.Common.{◌≡◌, ◌⊎◌, inl, inr, ⊎_elim, ℕ, zero, suc, ◌+◌, ◌<◌, ◌≤◌, true, Some, None, List, [], ◌∷◌, ◌++◌, length, sym, ap, ◌∙◌, subst, arith, append_assoc}
use Rattle.std.proofs.lemmas.List.{append-nil}
use Rattle.std.proofs.lemmas.List.Elements.{All-append}
use mathlib.Core.List.{IsPrefix}
use Rattle.hp_event.specs.declared.event.Event.{Event}
use Rattle.hp_event.specs.declared.event.Event.TheVariants.{Leave}
use Rattle.hp_event.specs.declared.head.Head.{Head}
use Rattle.hp_model.specs.Front.{StandsFor}
use Rattle.hp_model.specs.Lawful.{IsLawful}
use Rattle.hp_model.specs.Seats.{role_of}
use Rattle.hp_script.specs.Script.{Contents}
use Rattle.hp_turn.specs.Story.{Knows}
use Rattle.hp_turn.proofs.Prefixes.{prefix_trans}
use Rattle.hp_turn.proofs.Stories.{knows_prefix, knows_self, knows_later, knows_until}
use Rattle.hp_live.specs.Grew.{Grew}
use Rattle.hp_live.specs.Known.{Seated}
use Rattle.hp_live.specs.Threads.{Enters, IsCall, LeavesAfter}
use Rattle.hp_live.proofs.Growing.{grew_on, grew_seen}
use Rattle.hp_threads.specs.Acting.{HasServed}
use Rattle.hp_threads.specs.Ending.{HasGone, HaveGone}
use Rattle.hp_threads.specs.Jobs.{HasStayed, HaveStayed}
use Rattle.hp_threads.specs.Journals.{first_of, threads_of}
use Rattle.hp_threads.specs.Opened.{AreSeatedFrom, IsSeatedAt}
use Rattle.hp_threads.proofs.Numbers.{less_or, same_or}
use Rattle.hp_threads.proofs.Staying.{ends_by, knows_on, leaves_once, out_left, out_stays}

-- ---- fronts one after another

pub gone_grows : (passes : List Seated) (old new : List Event) → HaveGone passes old new → Knows None true old new
gone_grows [] old new gone = subst (λ (w : List Event). Knows None true old w) (sym gone) (knows_self None true old)
gone_grows (pass ∷ passes) old new gone = knows_on old gone.0 new gone.1.grown (gone_grows passes gone.0 new gone.2)

enters_prefix : (k : ℕ) (old new : List Event) → Enters k old new → IsPrefix old new
enters_prefix k old new e = (e.grew.rest, e.grew.whole)

-- the front before the leave, past which it stands
found_at : (head : Head) (k : ℕ) (told ended : List Event) → (l : LeavesAfter head k told ended) → IsPrefix told l.leaves.found
found_at head k told ended l =
    prefix_trans told l.last l.leaves.found (enters_prefix k told l.last l.enters) (l.leaves.seen.rest, l.leaves.seen.whole)

-- ---- one of them

-- what a thread did, as of the script's seat: it served, heard of more, and left
record HasParted (head : Head) (seat : ℕ) (first old new : List Event) : Type 0 where
  told : List Event
  past : IsPrefix old told
  ended : List Event
  leaves : LeavesAfter head seat told ended
  from_first : Enters seat first told
  met : IsPrefix ended new
  grown : Knows None true old new

same_enters : (k j : ℕ) (f g new : List Event) → k ≡ j → f ≡ g → Enters k f new → Enters j g new
same_enters k j f g new s e x = subst (λ (w : List Event). Enters j w new) e (subst (λ (n : ℕ). Enters n f new) s x)

parted : (script : Contents) (k : ℕ) (pass back : Seated) (old new : List Event) → IsSeatedAt script k pass → HasStayed pass back →
    HasGone back old new → HasParted script.head k (first_of script) old new
parted script k pass back old new at stayed gone =
    let seat : back.seat ≡ k = stayed.same.seat ∙ at.seat_is in
    let head : back.head ≡ script.head = stayed.same.head ∙ at.head_is in
    let served = stayed.serves.enters in
    record {
      told = gone.told;
      past = gone.past;
      ended = gone.ended;
      leaves =
          subst (λ (n : ℕ). LeavesAfter script.head n gone.told gone.ended) seat
          (subst (λ (h : Head). LeavesAfter h back.seat gone.told gone.ended) head gone.leaves);
      from_first =
          enters_seen k (first_of script) back.front gone.told
          (same_enters pass.seat k pass.front (first_of script) back.front at.seat_is at.front_is served)
          (subst (λ (n : ℕ). StandsFor (Some n) back.front gone.told) seat gone.heard);
      met = gone.met;
      grown = gone.grown;
    }
  where
    enters_seen : (k : ℕ) (a b c : List Event) → Enters k a b → StandsFor (Some k) b c → Enters k a c
    enters_seen k a b c x seen =
        record {
          entries = x.entries;
          grew = subst (Grew k a c) (append-nil x.entries) (grew_on k a b c x.entries [] x.grew (grew_seen k b c seen));
          are_calls = x.are_calls;
        }

-- its seat has entries and a leave past the first front, and nothing more
served_one : (head : Head) (k : ℕ) (first old new journal : List Event) → HasParted head k first old new → IsPrefix new journal →
    IsLawful head journal → HasServed head k first journal
served_one head k first old new journal p begins lawful =
    let l = p.leaves in
    record {
      ended = p.ended;
      leaves =
          record {
            last = l.last;
            enters =
                record {
                  entries = p.from_first.entries ++ l.enters.entries;
                  grew =
                      grew_on k first p.told l.last p.from_first.entries l.enters.entries p.from_first.grew l.enters.grew;
                  are_calls =
                      All-append IsCall p.from_first.entries l.enters.entries p.from_first.are_calls l.enters.are_calls;
                };
            leaves = l.leaves;
          };
      no_more = ends_by head k l.last p.ended journal l.leaves (prefix_trans p.ended new journal p.met begins) lawful;
    }

-- ---- all of them

pub all_served : (script : Contents) (k : ℕ) (passes backs : List Seated) (old new journal : List Event) →
    AreSeatedFrom script k passes → HaveStayed passes backs → HaveGone backs old new → IsPrefix new journal →
    IsLawful script.head journal → (i : ℕ) → i < length passes → HasServed script.head (k + i) (first_of script) journal
all_served script k [] backs old new journal at stayed gone begins lawful i below = absurd (omega (arith, below))
all_served script k (pass ∷ passes) [] old new journal at stayed gone begins lawful i below = absurd stayed
all_served script k (pass ∷ passes) (back ∷ backs) old new journal at stayed gone begins lawful zero below =
    let e : k ≡ k + 0 = omega arith in
    let later = prefix_trans gone.0 new journal (knows_prefix None true gone.0 new (gone_grows backs gone.0 new gone.2)) begins in
    subst (λ (n : ℕ). HasServed script.head n (first_of script) journal) e
    (served_one script.head k (first_of script) old gone.0 journal (parted script k pass back old gone.0 at.0 stayed.0 gone.1) later
    lawful)
all_served script k (pass ∷ passes) (back ∷ backs) old new journal at stayed gone begins lawful (suc i) below =
    let e : (k + 1) + i ≡ k + suc i = omega arith in
    subst (λ (n : ℕ). HasServed script.head n (first_of script) journal) e
    (all_served script (k + 1) passes backs gone.0 new journal at.1 stayed.1 gone.2 begins lawful i (omega (arith, below)))

-- who has left where the seat with this number is next: every client, and every thread with a lower number
abbrev pub LeftBefore : (threads seat : ℕ) → List Event → Type 0
LeftBefore threads k events = (other : ℕ) → (other < k) ⊎ (threads ≤ other) → role_of other events ≡ None

left_on : (threads k : ℕ) (old new : List Event) → Knows None true old new → LeftBefore threads k old → LeftBefore threads k new
left_on threads k old new grown left other which = out_stays other old new grown (left other which)

-- and after its leave
left_more : (head : Head) (threads k : ℕ) (first old new : List Event) → HasParted head k first old new → LeftBefore threads k old →
    LeftBefore threads (k + 1) new
left_more head threads k first old new p left other which = ⊎_elim lower (λ client. left_on threads k old new p.grown left other (inr client)) which
  where
    ended_at : IsPrefix old p.ended
    ended_at =
        prefix_trans old p.leaves.leaves.found p.ended
        (prefix_trans old p.told p.leaves.leaves.found p.past (found_at head k p.told p.ended p.leaves))
        (Leave k ∷ [], sym p.leaves.leaves.new_is)

    own : role_of k new ≡ None
    own =
        out_stays k p.ended new (knows_later None true old p.ended new p.grown ended_at p.met)
        (out_left head k p.leaves.last p.ended p.leaves.leaves)

    lower : other < k + 1 → role_of other new ≡ None
    lower below =
        ⊎_elim (λ (less : other < k). left_on threads k old new p.grown left other (inl less))
        (λ (same : other ≡ k). subst (λ (n : ℕ). role_of n new ≡ None) (sym same) own) (less_or other k below)

-- where its leave stands, they have left
left_at : (head : Head) (threads k : ℕ) (first old new journal before rest : List Event) → HasParted head k first old new →
    Knows None true old journal → IsPrefix new journal → IsLawful head journal → LeftBefore threads k old →
    (before ++ Leave k ∷ rest) ≡ journal → LeftBefore threads k before
left_at head threads k first old new journal before rest p grows begins lawful left is =
    subst (LeftBefore threads k) (sym same) (left_on threads k old p.leaves.leaves.found grown left)
  where
    found : List Event
    found = p.leaves.leaves.found

    at : IsPrefix p.ended journal
    at = prefix_trans p.ended new journal p.met begins

    whole : (found ++ Leave k ∷ at.0) ≡ journal
    whole = sym (append_assoc found (Leave k ∷ []) at.0) ∙ ap (λ (w : List Event). w ++ at.0) (sym p.leaves.leaves.new_is) ∙ at.1

    same : before ≡ found
    same = leaves_once head k before found rest at.0 journal is whole lawful

    grown : Knows None true old found
    grown =
        knows_until None true old found journal grows
        (prefix_trans old p.told found p.past (found_at head k p.told p.ended p.leaves)) (Leave k ∷ at.0, whole)

abbrev pub LeaveInTurn : (threads from to : ℕ) → List Event → Type 0
LeaveInTurn threads from to journal =
    (m : ℕ) (before rest : List Event) → from ≤ m → m < to → (before ++ Leave m ∷ rest) ≡ journal → LeftBefore threads m before

pub record IsEnd (threads from to : ℕ) (new journal : List Event) : Type 0 where
  pub in_turn : LeaveInTurn threads from to journal
  pub left : LeftBefore threads to new

-- one more before those that leave in turn
end_more : (script : Contents) (k n : ℕ) (old mid new journal : List Event) → HasParted script.head k (first_of script) old mid →
    Knows None true mid journal → IsLawful script.head journal → LeftBefore (threads_of script) k old →
    IsEnd (threads_of script) (k + 1) ((k + 1) + n) new journal → IsEnd (threads_of script) k (k + suc n) new journal
end_more script k n old mid new journal one onward lawful left rest =
    record {
      in_turn = λ m before after low high is.
          ⊎_elim
          (λ (same : m ≡ k). subst (λ (j : ℕ). LeftBefore (threads_of script) j before) (sym same)
          (left_at script.head (threads_of script) k (first_of script) old mid journal before after one
          (knows_on old mid journal one.grown onward) (knows_prefix None true mid journal onward) lawful left
          (subst (λ (j : ℕ). (before ++ Leave j ∷ after) ≡ journal) same is)))
          (λ (more : k + 1 ≤ m). rest.in_turn m before after more (omega (arith, high)) is) (same_or k m low);
      left =
          let e : (k + 1) + n ≡ k + suc n = omega arith in
          subst (λ (j : ℕ). LeftBefore (threads_of script) j new) e rest.left;
    }

pub all_gone : (script : Contents) (k : ℕ) (passes backs : List Seated) (old new journal : List Event) →
    AreSeatedFrom script k passes → HaveStayed passes backs → HaveGone backs old new → Knows None true new journal →
    IsLawful script.head journal → LeftBefore (threads_of script) k old →
    IsEnd (threads_of script) k (k + length passes) new journal
all_gone script k [] [] old new journal at stayed gone begins lawful left =
    record {
      in_turn = λ m before rest low high. absurd (omega (arith, low, high));
      left =
          let e : k ≡ k + 0 = omega arith in
          subst (λ (n : ℕ). LeftBefore (threads_of script) n new) e (subst (LeftBefore (threads_of script) k) (sym gone) left);
    }
all_gone script k (pass ∷ passes) (back ∷ backs) old new journal at stayed gone begins lawful left =
    let one = parted script k pass back old gone.0 at.0 stayed.0 gone.1 in
    let onward = knows_on gone.0 new journal (gone_grows backs gone.0 new gone.2) begins in
    end_more script k (length passes) old gone.0 new journal one onward lawful left
    (all_gone script (k + 1) passes backs gone.0 new journal at.1 stayed.1 gone.2 begins lawful
    (left_more script.head (threads_of script) k (first_of script) old gone.0 one left))
all_gone script k [] (back ∷ backs) old new journal at stayed gone begins lawful left = absurd stayed
all_gone script k (pass ∷ passes) [] old new journal at stayed gone begins lawful left = absurd stayed
