-- One event more, for all that is kept.
use Rattle.std.proofs.Common.{◌≡◌, ℕ, zero, suc, ◌<◌, ◌≤◌, ◌^◌, Bool, true, false, ◌==◌, if◌then◌else◌, Option, Some, None, List, [], ◌∷◌, ◌++◌, length, get_or, set, refl, ap, ◌∙◌, ⊎_elim, arith}
use Rattle.std.proofs.lemmas.List.{length-set}
use Rattle.std.proofs.lemmas.Bool.{cases_lt}
use Rattle.hp_states.specs.declared.limits.TheConstants.{ONLINE}
use Rattle.hp_states.specs.declared.dir.Dir.{Dir}
use Rattle.hp_event.specs.declared.how.How.{How}
use Rattle.hp_event.specs.declared.head.Head.{Head}
use Rattle.hp_event.specs.declared.event.Event.{Event}
use Rattle.hp_event.specs.declared.event.Event.TheVariants.{Enter, WalkBegin, Call, WalkEnd, OpEnd, RegBegin, RegEnd, ReadLock, ReadUnlock}
use Rattle.hp_model.specs.Crossing.{far}
use Rattle.hp_model.specs.Lawful.{IsLawful}
use Rattle.hp_model.specs.MapLock.{Operation, operation, operation_step}
use Rattle.hp_model.specs.Readers.{reading_since, reading_since_step}
use Rattle.hp_model.specs.Registered.{Registered, registered, keys, insts_of, instances}
use Rattle.hp_model.specs.Registrations.{Registration, registration, registration_step}
use Rattle.hp_model.specs.Shown.{is_last}
use Rattle.hp_model.specs.Subsystems.{is_multi}
use Rattle.hp_model.proofs.Laws.{operation_push, registration_push, reading_since_push}
use Rattle.hp_print.specs.declared.state_tally.StateTally.{StateTally}
use Rattle.hp_print.specs.Steps.{asked_after, subs_after, all_insts_after}
use Rattle.hp_print.specs.Tallies.{sub_of}
use Rattle.hp_timeline.specs.declared.scene.Lane.{Lane}
use Rattle.hp_timeline.specs.declared.scene.Scene.{Scene}
use Rattle.hp_timeline.specs.Scenes.{operation_begun, registration_begun, section_begun, section_at, lane_at, KnowsStates, IsScene, crosses, crossed, set_out, arrived, is_last_of, is_last_key, lanes_after, operation_after, registration_after, section_after}
use Rattle.hp_timeline.proofs.Sections.{past_end}
use Rattle.hp_timeline.proofs.StateSteps.{states_go}
use Rattle.hp_timeline.proofs.StatesKept.{none_above, has_list, stays_in_walk}
use Rattle.hp_timeline.proofs.LaneSteps.{KnowsLast, lane_as}

-- ---- the last key of a state

last_as : (head : Head) (r : Option Registered) (insts : List ℕ) (i : ℕ) →
    ((x : Registered) → r ≡ Some x → is_multi head x.sub ≡ x.multi) → insts ≡ instances r →
    is_last_of head (sub_of r) insts i ≡ is_last (insts_of r) i
last_as head None insts i m e = refl
last_as head (Some r) insts i m e = rw (m r refl, e) (go r.multi)
  where
    go : (b : Bool) → (if b then is_last r.insts i else 0 == i) ≡ is_last (if b then r.insts else 0 ∷ []) i
    go true = refl
    go false = refl

last_key_as : (head : Head) (xs : List Event) (t : StateTally) (s i : ℕ) → IsLawful head xs → KnowsStates head xs t →
    is_last_key head t s i ≡ is_last (keys head xs s) i
last_key_as head xs t s i lawful h = ⊎_elim high low (cases_lt ONLINE s)
  where
    high : ONLINE < s → is_last_key head t s i ≡ is_last (keys head xs s) i
    high above =
        rw (past_end t.subs.items s None (rw h.many_subs (omega (arith, above))), none_above head xs lawful s above) refl

    low : s ≤ ONLINE → is_last_key head t s i ≡ is_last (keys head xs s) i
    low below =
        let b : s < 201 = omega (arith, below) in
        rw (h.sub_is s b)
        (last_as head (registered head s xs) (get_or t.insts.items s []) i (λ r is. has_list head s xs r is) (h.insts_is s b))

knows_last : (head : Head) (c : ℕ) (xs : List Event) (s : Scene) → IsLawful head xs → KnowsStates head xs s.states →
    KnowsLast head c xs s
knows_last head c xs s lawful h w is state inst =
    last_key_as head xs s.states state inst lawful h ∙ ap (λ r. is_last (insts_of r) inst) (stays_in_walk head c xs w lawful is state)

-- ---- the parts

operation_as : (o : Option Operation) (xs : List Event) (e : Event) →
    operation_after (length xs) (operation_begun o) e ≡ operation_begun (operation_step o xs e)
operation_as o xs (Enter seat op) = refl
operation_as o xs (OpEnd seat answer) = refl
operation_as o xs e = refl

registration_as : (r : Option Registration) (xs : List Event) (e : Event) →
    registration_after (length xs) (registration_begun r) e ≡ registration_begun (registration_step r xs e)
registration_as r xs (RegBegin seat state op) = refl
registration_as r xs (RegEnd seat answer) = refl
registration_as r xs e = refl

sections_as : (k : ℕ) (sections : List (Option ℕ)) (xs : List Event) (e : Event) →
    section_at sections k ≡ section_begun (reading_since k xs) →
    section_after (length xs) sections e k ≡ section_begun (reading_since_step k (reading_since k xs) xs e)
sections_as k sections xs (ReadLock seat) p = go (seat == k)
  where
    go : (b : Bool) → (if b then Some (length xs) else section_at sections k) ≡ section_begun (if b then Some xs else reading_since k xs)
    go true = refl
    go false = p
sections_as k sections xs (ReadUnlock seat) p = go (seat == k)
  where
    go : (b : Bool) → (if b then None else section_at sections k) ≡ section_begun (if b then None else reading_since k xs)
    go true = refl
    go false = p
sections_as k sections xs e p = p

crossed_same : (b : Bool) (c s : ℕ) (dir : Dir) (how : How) (lanes : List Lane) → length (crossed b c s dir how lanes) ≡ length lanes
crossed_same b c s dir how lanes = go (crosses b how (lane_at lanes c))
  where
    go : (t : Bool) → length (if t then set lanes c (record (lane_at lanes c) { shown = far dir s }) else lanes) ≡ length lanes
    go true = length-set lanes c (record (lane_at lanes c) { shown = far dir s })
    go false = refl

lanes_same : (head : Head) (k : ℕ) (s : Scene) (e : Event) → length (lanes_after head k s e) ≡ length s.lanes.items
lanes_same head k s (WalkBegin seat cpu from to) =
    length-set s.lanes.items cpu (set_out k from to (lane_at s.lanes.items cpu))
lanes_same head k s (Call seat cpu state inst dir how) =
    crossed_same (is_last_key head s.states state inst) cpu state dir how s.lanes.items
lanes_same head k s (WalkEnd seat cpu answer) = length-set s.lanes.items cpu (arrived answer (lane_at s.lanes.items cpu))
lanes_same head k s e = refl

-- ---- all of it

pub scene_step : (head : Head) (xs : List Event) (e : Event) (s u : Scene) → IsLawful head xs → length xs < 2 ^ 63 → IsScene head xs s →
    u.lanes.items ≡ lanes_after head (length xs) s e →
    u.operation ≡ operation_after (length xs) s.operation e →
    u.registration ≡ registration_after (length xs) s.registration e →
    ((k : ℕ) → section_at u.sections.items k ≡ section_after (length xs) s.sections.items e k) →
    u.states.asked ≡ asked_after s.states.asked e →
    u.states.subs.items ≡ subs_after s.states.asked s.states.subs.items e →
    u.states.insts.items ≡ all_insts_after s.states.asked s.states.subs.items s.states.insts.items e → IsScene head (xs ++ e ∷ []) u
scene_step head xs e s u lawful few h lanes operation registration sections asked subs insts = record {
  lanes_many = rw lanes (lanes_same head (length xs) s e ∙ h.lanes_many);
  lanes_are = λ c b.
      rw lanes
      (lane_as head c xs e s (rw h.lanes_many b) (h.lanes_are c b) (knows_last head c xs s lawful h.states_are));
  states_are = states_go head xs e s.states u.states few h.states_are asked subs insts;
  operation_is = rw operation_push (operation ∙ ap (λ o. operation_after (length xs) o e) h.operation_is ∙ operation_as _ xs e);
  registration_is =
      rw registration_push (registration ∙ ap (λ r. registration_after (length xs) r e) h.registration_is ∙ registration_as _ xs e);
  sections_are = λ k. rw reading_since_push (sections k ∙ sections_as k s.sections.items xs e (h.sections_are k));
}
