-- One event more, for what is registered and what hooks did.
use Rattle.std.proofs.Common.{◌≡◌, ℕ, ◌+◌, ◌<◌, ◌≤◌, ◌^◌, Bool, true, false, ◌&&◌, ◌==◌, if◌then◌else◌, Option, Some, None, List, [], ◌∷◌, ◌++◌, length, get_or, set, refl, ap, ◌∙◌, arith}
use Rattle.std.proofs.lemmas.List.{length-set, length_push}
use Rattle.std.proofs.lemmas.Bool.Decides.{nat_tests}
use Rattle.hp_event.specs.declared.op.Op.{Op}
use Rattle.hp_event.specs.declared.op.Op.TheVariants.{Setup, Remove, Add, Del}
use Rattle.hp_event.specs.declared.how.How.{How}
use Rattle.hp_event.specs.declared.answer.Answer.TheVariants.{Ok, Refused, Fault, Stuck, LogFull}
use Rattle.hp_event.specs.declared.head.Head.{Head}
use Rattle.hp_event.specs.declared.event.Event.{Event}
use Rattle.hp_event.specs.declared.event.Event.TheVariants.{RegBegin, RegEnd, Call}
use Rattle.hp_model.specs.Journal.{over_from}
use Rattle.hp_model.specs.Suspend.{is_ok}
use Rattle.hp_model.specs.Registrations.{Registration, registration, registration_step}
use Rattle.hp_model.specs.Registered.{Registered, registered, registered_step, applied, after_ok, instances}
use Rattle.hp_model.specs.Calls.{is_called, sites, sites_step}
use Rattle.hp_model.specs.Summary.{is_hook_fault, hook_faults, faults_step}
use Rattle.hp_model.proofs.Laws.{registration_push, registered_push, sites_push, hook_faults_push, sites_few}
use Rattle.hp_print.specs.declared.state_tally.Asked.{Asked}
use Rattle.hp_print.specs.declared.state_tally.StateTally.{StateTally}
use Rattle.hp_print.specs.Counts.{one_more}
use Rattle.hp_print.specs.Steps.{asked_after, sub_after, insts_after, subs_applied, all_insts_applied, subs_after, all_insts_after, calls_after}
use Rattle.hp_print.specs.Tallies.{asked_of, sub_of, IsStateTally}
use Rattle.hp_print.proofs.SuspendTallyStep.{one_more_is}
use Rattle.hp_print.proofs.ProcessorTallyStep.{get_or-set}

asked_as : (r : Option Registration) (xs : List Event) (e : Event) →
    asked_after (asked_of r) e ≡ asked_of (registration_step r xs e)
asked_as r xs (RegBegin seat state op) = refl
asked_as r xs (RegEnd seat given) = refl
asked_as r xs e = refl

-- what an operation that is done makes of the subsystem, and of the instances
all_applied : (head : Head) (op : Op) (found : Option Registered) →
    (sub_after op (sub_of found) ≡ sub_of (applied head op found))
    × (insts_after op (sub_of found) (instances found) ≡ instances (applied head op found))
all_applied head (Setup state sub form) found = (refl, refl)
all_applied head (Remove state form) found = (refl, refl)
all_applied head (Add state inst form) None = (refl, refl)
all_applied head (Add state inst form) (Some r) = (refl, refl)
all_applied head (Del state inst form) None = (refl, refl)
all_applied head (Del state inst form) (Some r) = (refl, refl)
all_applied head op found = (refl, refl)

-- a registration that is done, at each state
subs_ok : (head : Head) (s : ℕ) (r : Option Registration) (subs : List (Option ℕ)) (found : Option Registered) →
    s < length subs → get_or subs s None ≡ sub_of found →
    get_or (subs_applied (asked_of r) subs) s None ≡ sub_of (after_ok head s r found)
subs_ok head s None subs found h p = p
subs_ok head s (Some r) subs found h p =
    rw (get_or-set subs r.state s (sub_after r.op (get_or subs r.state None)) None h) (go (r.state == s) refl) where
      go : (b : Bool) → (r.state == s) ≡ b → (if b then sub_after r.op (get_or subs r.state None) else get_or subs s None)
          ≡ sub_of (if b then applied head r.op found else found)
      go true here = let same : r.state ≡ s = grind (arith, nat_tests) in rw (same, p) (all_applied head r.op found).0
      go false here = p

insts_ok : (head : Head) (s : ℕ) (r : Option Registration) (subs : List (Option ℕ)) (insts : List (List ℕ))
    (found : Option Registered) → s < length insts → get_or subs s None ≡ sub_of found →
    get_or insts s [] ≡ instances found →
    get_or (all_insts_applied (asked_of r) subs insts) s [] ≡ instances (after_ok head s r found)
insts_ok head s None subs insts found h p q = q
insts_ok head s (Some r) subs insts found h p q =
    rw (get_or-set insts r.state s (insts_after r.op (get_or subs r.state None) (get_or insts r.state [])) [] h)
    (go (r.state == s) refl)
  where
    go : (b : Bool) → (r.state == s) ≡ b →
        (if b then insts_after r.op (get_or subs r.state None) (get_or insts r.state []) else get_or insts s [])
        ≡ instances (if b then applied head r.op found else found)
    go true here = let same : r.state ≡ s = grind (arith, nat_tests) in rw (same, p, q) (all_applied head r.op found).1
    go false here = q

subs_as : (head : Head) (s : ℕ) (subs : List (Option ℕ)) (xs : List Event) (e : Event) → s < length subs →
    get_or subs s None ≡ sub_of (registered head s xs) →
    get_or (subs_after (asked_of (registration xs)) subs e) s None
    ≡ sub_of (registered_step head s (registered head s xs) xs e)
subs_as head s subs xs (RegEnd seat (Ok value)) h p = subs_ok head s (registration xs) subs (registered head s xs) h p
subs_as head s subs xs (RegEnd seat (Refused errno)) h p = p
subs_as head s subs xs (RegEnd seat (Fault code)) h p = p
subs_as head s subs xs (RegEnd seat (Stuck first second at)) h p = p
subs_as head s subs xs (RegEnd seat LogFull) h p = p
subs_as head s subs xs e h p = p

insts_as : (head : Head) (s : ℕ) (subs : List (Option ℕ)) (insts : List (List ℕ)) (xs : List Event) (e : Event) →
    s < length insts → get_or subs s None ≡ sub_of (registered head s xs) →
    get_or insts s [] ≡ instances (registered head s xs) →
    get_or (all_insts_after (asked_of (registration xs)) subs insts e) s []
    ≡ instances (registered_step head s (registered head s xs) xs e)
insts_as head s subs insts xs (RegEnd seat (Ok value)) h p q =
    insts_ok head s (registration xs) subs insts (registered head s xs) h p q
insts_as head s subs insts xs (RegEnd seat (Refused errno)) h p q = q
insts_as head s subs insts xs (RegEnd seat (Fault code)) h p q = q
insts_as head s subs insts xs (RegEnd seat (Stuck first second at)) h p q = q
insts_as head s subs insts xs (RegEnd seat LogFull) h p q = q
insts_as head s subs insts xs e h p q = q

faults_grow : (s n : ℕ) (xs : List Event) (e : Event) → faults_step s n xs e ≤ n + 1
faults_grow s n xs (RegBegin seat state (Setup asked sub form)) = grind arith
faults_grow s n xs (RegBegin seat state op) = omega arith
faults_grow s n xs (Call seat cpu state inst dir how) = grind arith
faults_grow s n xs e = omega arith

faults_from : (s n : ℕ) (before es : List Event) → over_from (faults_step s) n before es ≤ n + length es
faults_from s n before [] = omega arith
faults_from s n before (e ∷ es) =
    let h = faults_from s (faults_step s n before e) (before ++ e ∷ []) es in
    let g = faults_grow s n before e in
    omega arith

faults_few : (s : ℕ) (xs : List Event) → hook_faults s xs ≤ length xs
unfolding hook_faults
faults_few s xs = omega (arith, faults_from s 0 [] xs)

made_as : (s : ℕ) (made : List ℕ) (xs : List Event) (e : Event) → s < length made → length xs < 2 ^ 63 →
    get_or made s 0 ≡ length (sites s xs) →
    get_or (calls_after is_called made e) s 0 ≡ length (sites_step s (sites s xs) xs e)
made_as s made xs (RegBegin seat state (Setup asked sub form)) h l p = rw (get_or-set made state s 0 0 h) (go (state == s)) where
  go : (b : Bool) → (if b then 0 else get_or made s 0) ≡ length (if b then [] else sites s xs)
  go true = refl
  go false = p
made_as s made xs (RegBegin seat state op) h l p = p
made_as s made xs (Call seat cpu state inst dir how) h l p = go (is_called how) where
  go : (called : Bool) →
      get_or (if called then set made state (one_more (get_or made state 0)) else made) s 0
      ≡ length (if (state == s) && called then sites s xs ++ record { cpu = cpu; inst = inst; dir = dir } ∷ [] else sites s xs)
  go false = whether (state == s) where
    whether : (b : Bool) → get_or made s 0
        ≡ length (if b && false then sites s xs ++ record { cpu = cpu; inst = inst; dir = dir } ∷ [] else sites s xs)
    whether true = p
    whether false = p
  go true = rw (get_or-set made state s (one_more (get_or made state 0)) 0 h) (whether (state == s) refl) where
    whether : (b : Bool) → (state == s) ≡ b → (if b then one_more (get_or made state 0) else get_or made s 0)
        ≡ length (if b && true then sites s xs ++ record { cpu = cpu; inst = inst; dir = dir } ∷ [] else sites s xs)
    whether true here =
        let same : state ≡ s = grind (arith, nat_tests) in
        rw (same, p, length_push) (one_more_is (length (sites s xs)) (length xs) (sites_few s xs) l)
    whether false here = p
made_as s made xs e h l p = p

faults_as : (s : ℕ) (faults : List ℕ) (xs : List Event) (e : Event) → s < length faults → length xs < 2 ^ 63 →
    get_or faults s 0 ≡ hook_faults s xs →
    get_or (calls_after is_hook_fault faults e) s 0 ≡ faults_step s (hook_faults s xs) xs e
faults_as s faults xs (RegBegin seat state (Setup asked sub form)) h l p =
    rw (get_or-set faults state s 0 0 h) (go (state == s)) where
      go : (b : Bool) → (if b then 0 else get_or faults s 0) ≡ (if b then 0 else hook_faults s xs)
      go true = refl
      go false = p
faults_as s faults xs (RegBegin seat state op) h l p = p
faults_as s faults xs (Call seat cpu state inst dir how) h l p = go (is_hook_fault how) where
  go : (hit : Bool) →
      get_or (if hit then set faults state (one_more (get_or faults state 0)) else faults) s 0
      ≡ (if (state == s) && hit then hook_faults s xs + 1 else hook_faults s xs)
  go false = whether (state == s) where
    whether : (b : Bool) → get_or faults s 0 ≡ (if b && false then hook_faults s xs + 1 else hook_faults s xs)
    whether true = p
    whether false = p
  go true = rw (get_or-set faults state s (one_more (get_or faults state 0)) 0 h) (whether (state == s) refl) where
    whether : (b : Bool) → (state == s) ≡ b → (if b then one_more (get_or faults state 0) else get_or faults s 0)
        ≡ (if b && true then hook_faults s xs + 1 else hook_faults s xs)
    whether true here =
        let same : state ≡ s = grind (arith, nat_tests) in
        rw (same, p) (one_more_is (hook_faults s xs) (length xs) (faults_few s xs) l)
    whether false here = p
faults_as s faults xs e h l p = p

subs_many : (asked : Option Asked) (subs : List (Option ℕ)) (e : Event) → length (subs_after asked subs e) ≡ length subs
subs_many asked subs (RegEnd seat given) = go (is_ok given) asked where
  go : (b : Bool) (asked : Option Asked) → length (if b then subs_applied asked subs else subs) ≡ length subs
  go true None = refl
  go true (Some a) = length-set subs a.state (sub_after a.op (get_or subs a.state None))
  go false asked = refl
subs_many asked subs e = refl

insts_many : (asked : Option Asked) (subs : List (Option ℕ)) (insts : List (List ℕ)) (e : Event) →
    length (all_insts_after asked subs insts e) ≡ length insts
insts_many asked subs insts (RegEnd seat given) = go (is_ok given) asked where
  go : (b : Bool) (asked : Option Asked) → length (if b then all_insts_applied asked subs insts else insts) ≡ length insts
  go true None = refl
  go true (Some a) = length-set insts a.state (insts_after a.op (get_or subs a.state None) (get_or insts a.state []))
  go false asked = refl
insts_many asked subs insts e = refl

calls_many : (test : How → Bool) (counts : List ℕ) (e : Event) → length (calls_after test counts e) ≡ length counts
calls_many test counts (RegBegin seat state (Setup asked sub form)) = length-set counts state 0
calls_many test counts (RegBegin seat state op) = refl
calls_many test counts (Call seat cpu state inst dir how) = go (test how) where
  go : (b : Bool) → length (if b then set counts state (one_more (get_or counts state 0)) else counts) ≡ length counts
  go true = length-set counts state (one_more (get_or counts state 0))
  go false = refl
calls_many test counts e = refl

pub states_step : (head : Head) (n : ℕ) (xs : List Event) (e : Event) (t u : StateTally) → length xs < 2 ^ 63 →
    IsStateTally head n xs t → u.asked ≡ asked_after t.asked e → u.subs.items ≡ subs_after t.asked t.subs.items e →
    u.insts.items ≡ all_insts_after t.asked t.subs.items t.insts.items e →
    u.made.items ≡ calls_after is_called t.made.items e → u.faults.items ≡ calls_after is_hook_fault t.faults.items e →
    IsStateTally head n (xs ++ e ∷ []) u
states_step head n xs e t u l h a p q r k = record {
  as_many_subs = rw p (subs_many t.asked t.subs.items e ∙ h.as_many_subs);
  as_many_insts = rw q (insts_many t.asked t.subs.items t.insts.items e ∙ h.as_many_insts);
  as_many_made = rw r (calls_many is_called t.made.items e ∙ h.as_many_made);
  as_many_faults = rw k (calls_many is_hook_fault t.faults.items e ∙ h.as_many_faults);
  asked = rw registration_push (a ∙ ap (λ o. asked_after o e) h.asked ∙ asked_as (registration xs) xs e);
  sub_is = λ s b. rw (p, registered_push, h.asked)
      (subs_as head s t.subs.items xs e (rw h.as_many_subs b) (h.sub_is s b));
  insts_is = λ s b. rw (q, registered_push, h.asked)
      (insts_as head s t.subs.items t.insts.items xs e (rw h.as_many_insts b) (h.sub_is s b) (h.insts_is s b));
  made_is = λ s b. rw (r, sites_push) (made_as s t.made.items xs e (rw h.as_many_made b) l (h.made_is s b));
  faults_is = λ s b. rw (k, hook_faults_push) (faults_as s t.faults.items xs e (rw h.as_many_faults b) l (h.faults_is s b));
}
