-- What the root hears of the seats that left.
use Rattle.std.proofs.Common.{◌≡◌, All, List, [], ◌∷◌, ◌++◌, refl, sym, ap, ◌∙◌, subst, append_assoc}
use Rattle.std.proofs.lemmas.List.{append-nil}
use Rattle.std.proofs.lemmas.List.Elements.{All-head, All-tail, All-cons, All-nil, All-push, All-weaker}
use mathlib.Core.List.{IsPrefix}
use Rattle.hp_event.specs.declared.event.Event.{Event}
use Rattle.hp_live.specs.Known.{Gone, IsOf, Seated}
use Rattle.hp_live.specs.declared.hotplug.Hotplug.{Hotplug}
use Rattle.hp_turn.proofs.Prefixes.{prefix_trans}
use Rattle.hp_threads.specs.declared.job.Job.{Job}
use Rattle.hp_threads.specs.Ending.{HasGone, HaveGone}
use Rattle.hp_threads.specs.Jobs.{CanAct, CanServe, HaveRun, HaveStayed}

-- what was left is of the machine
abbrev pub IsHeld : {H : Type 0} → Hotplug H → Gone → Type 0
IsHeld machine left = IsOf machine left.lock

abbrev pub IsMet : List Event → Gone → Type 0
IsMet front left = IsPrefix left.front front

-- of all these are left, and the root has met the others
pub record Met (all left : List Gone) (front : List Event) : Type 0 where
  pub done : List Gone
  pub whole : done ++ left ≡ all
  pub have : All (IsMet front) done

pub met_none : (all left : List Gone) (front : List Event) → left ≡ all → Met all left front
met_none all left front is = record { done = []; whole = is; have = All-nil (IsMet front) }

pub met_one : (all before rest : List Gone) (left : Gone) (old new : List Event) → before ≡ left ∷ rest → IsPrefix old new →
    IsPrefix left.front new → Met all before old → Met all rest new
met_one all before rest left old new is grown one m =
    record {
      done = m.done ++ left ∷ [];
      whole = append_assoc m.done (left ∷ []) rest ∙ ap (λ (w : List Gone). m.done ++ w) (sym is) ∙ m.whole;
      have =
          All-push (IsMet new) m.done left
          (All-weaker (IsMet old) (IsMet new) (λ l p. prefix_trans l.front old new p grown) m.done m.have) one;
    }

pub met_all : (all left : List Gone) (front : List Event) → left ≡ [] → Met all left front → All (IsMet front) all
met_all all left front none m =
    subst (λ (w : List Gone). All (IsMet front) w)
    (sym (append-nil m.done) ∙ ap (λ (w : List Gone). m.done ++ w) (sym none) ∙ m.whole) m.have

-- of all passes these are left, and the seats of the others left
pub record Leaving (all left : List Seated) (old now : List Event) : Type 0 where
  pub done : List Seated
  pub whole : done ++ left ≡ all
  pub have : HaveGone done old now

pub leaving_none : (all left : List Seated) (front : List Event) → left ≡ all → Leaving all left front front
leaving_none all left front is = record { done = []; whole = is; have = refl }

gone_more : (passes : List Seated) (pass : Seated) (old mid new : List Event) → HaveGone passes old mid → HasGone pass mid new →
    HaveGone (passes ++ pass ∷ []) old new
gone_more [] pass old mid new all one = (new, subst (λ (w : List Event). HasGone pass w new) all one, refl)
gone_more (p ∷ passes) pass old mid new all one = (all.0, all.1, gone_more passes pass all.0 mid new all.2 one)

pub leaving_one : (all before rest : List Seated) (pass : Seated) (old now new : List Event) → before ≡ pass ∷ rest →
    HasGone pass now new → Leaving all before old now → Leaving all rest old new
leaving_one all before rest pass old now new is one l =
    record {
      done = l.done ++ pass ∷ [];
      whole = append_assoc l.done (pass ∷ []) rest ∙ ap (λ (w : List Seated). l.done ++ w) (sym is) ∙ l.whole;
      have = gone_more l.done pass old now new l.have one;
    }

pub leaving_all : (all left : List Seated) (old now : List Event) → left ≡ [] → Leaving all left old now → HaveGone all old now
leaving_all all left old now none l =
    subst (λ (w : List Seated). HaveGone w old now)
    (sym (append-nil l.done) ∙ ap (λ (w : List Seated). l.done ++ w) (sym none) ∙ l.whole) l.have

-- ---- what the threads gave back is of the machine

pub lefts_held : {H : Type 0} (machine : Hotplug H) (jobs : List (Job H)) (lefts : List Gone) → All (CanAct machine) jobs →
    HaveRun jobs lefts → All (IsHeld machine) lefts
lefts_held machine [] [] can h = All-nil (IsHeld machine)
lefts_held machine (j ∷ jobs) (l ∷ lefts) can h =
    All-cons (IsHeld machine) l lefts (h.0.lock ∙ (All-head (CanAct machine) j jobs can).own)
    (lefts_held machine jobs lefts (All-tail (CanAct machine) j jobs can) h.1)
lefts_held machine [] (l ∷ lefts) can h = absurd h
lefts_held machine (j ∷ jobs) [] can h = absurd h

pub backs_held : {H : Type 0} (machine : Hotplug H) (before after : List Seated) → All (CanServe machine) before →
    HaveStayed before after → All (CanServe machine) after
backs_held machine [] [] can h = All-nil (CanServe machine)
backs_held machine (b ∷ before) (a ∷ after) can h =
    All-cons (CanServe machine) a after
    (record { own = h.0.same.lock ∙ (All-head (CanServe machine) b before can).own; nothing = h.0.nothing })
    (backs_held machine before after (All-tail (CanServe machine) b before can) h.1)
backs_held machine [] (a ∷ after) can h = absurd h
backs_held machine (b ∷ before) [] can h = absurd h
