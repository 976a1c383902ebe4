-- Where every hook is home, nothing is lent to any seat, and turns leave it so.
use Rattle.std.proofs.Common.{◌≡◌, ℕ, Bool, false, zero, suc, ◌+◌, true, cond, is_some, Option, Some, None, List, [], ◌∷◌, refl, ap, sym, subst, arith}
use Rattle.std.proofs.lemmas.List.Sums.{sum_by-cons}
use Rattle.hp_states.specs.CpuSets.{has}
use Rattle.hp_states.specs.declared.dir.Dir.{Dir}
use Rattle.hp_event.specs.declared.aside.Aside.{Aside}
use Rattle.hp_event.specs.declared.event.Event.{Event}
use Rattle.hp_event.specs.declared.event.Event.TheVariants.{Call}
use Rattle.hp_event.specs.declared.op.Op.{Op}
use Rattle.hp_model.specs.NextEvent.{due_entry}
use Rattle.hp_table.specs.Step.{Step, step_at, is_home, AllHome}
use Rattle.hp_machine.proofs.Homes.{home_after}
use Rattle.hp_board.specs.Contents.{Contents}
use Rattle.hp_board.specs.HookCount.{hook_count, held}
use Rattle.hp_board.specs.Answered.{aside_of}
use Rattle.hp_board.specs.Loans.{aside_at, loan_of, loan}
use Rattle.hp_board.specs.declared.turn.Turn.{Turn}
use Rattle.hp_board.specs.declared.turn.Turn.TheVariants.{Made, Answered, NotYet}
use Rattle.hp_locks.specs.declared.why.Why.TheVariants.{HookOut, Idle}
use Rattle.hp_board.specs.Turns.{IsTurn, IsServed}

at_home : (c i s : ℕ) (d : Dir) (place : Option Step) → is_home place ≡ true → aside_at c s i d place ≡ None
at_home c i s d None h = refl
at_home c i s d (Some step) h = ap (λ b. cond b None (Some (aside_of c (record { state = s; inst = i }) d step.kept.counts))) h

pub idle_home : (b : Contents) (k : ℕ) → AllHome b.places → loan b k ≡ None
idle_home b k home = go (due_entry b.head b.events k)
  where
    if_home : (h : Bool) (o : Option Aside) → o ≡ None → cond h o None ≡ None
    if_home true o e = e
    if_home false o e = refl

    go : (o : Option Event) → loan_of o b.lent b.places ≡ None
    go (Some (Call j c s i d how)) =
        if_home (has b.lent c) (aside_at c s i d (step_at b.places s)) (at_home c i s d (step_at b.places s) (home s))
    go (Some e) = refl
    go None = refl

pub served_home : (k : ℕ) (old new : Contents) (t : Turn) → IsServed k old new t → AllHome old.places → AllHome new.places
served_home k old new (Made at) s home =
    subst (λ (b : Contents). AllHome b.places) (sym s.new_is) (home_after old.head old.events s.event old.places home)
served_home k old new (NotYet (HookOut t)) s home = subst (λ (b : Contents). AllHome b.places) (sym s.1) home
served_home k old new (NotYet Idle) s home = subst (λ (b : Contents). AllHome b.places) (sym s.1) home
served_home k old new t s home = absurd s

pub turn_home : (k : ℕ) (op : Op) (old new : Contents) (t : Turn) → IsTurn k op old new t → AllHome old.places → AllHome new.places
turn_home k op old new (Made at) s home =
    subst (λ (b : Contents). AllHome b.places) (sym s.new_is) (home_after old.head old.events s.event old.places home)
turn_home k op old new (Answered (Some at) answer) s home =
    subst (λ (b : Contents). AllHome b.places) (sym s.new_is) (home_after old.head old.events s.event old.places home)
turn_home k op old new (Answered None answer) s home = subst (λ (b : Contents). AllHome b.places) (sym s.same) home
turn_home k op old new (NotYet why) s home = subst (λ (b : Contents). AllHome b.places) (sym s.1) home

-- a board without hooks lacks none
pub none_home : (places : List (Option Step)) → hook_count places ≡ 0 → AllHome places
none_home [] none s = refl
none_home (Some step ∷ ps) none s =
    let c : hook_count (Some step ∷ ps) ≡ 1 + hook_count ps = sum_by-cons (λ (p : Option Step). held (is_some p)) (Some step) ps in
    absurd (omega (arith, c, none))
none_home (None ∷ ps) none zero = refl
none_home (None ∷ ps) none (suc s) =
    let c : hook_count (None ∷ ps) ≡ 0 + hook_count ps = sum_by-cons (λ (p : Option Step). held (is_some p)) None ps in
    none_home ps (omega (arith, c, none)) s
