-- A hook that is lent: what is out then, and what is lent.
use Rattle.std.proofs.Common.{◌≡◌, ◌≢◌, ℕ, Bool, true, false, ◌||◌, ◌&&◌, eqb, IsSome, cond, Option, Some, None, refl, ap, sym, ◌∙◌, subst}
use Rattle.std.proofs.lemmas.Bool.{true≢false, eq-eqb, ne_eqb, and_parts}
use Rattle.hp_states.proofs.Basics.{or_true}
use mathlib.Core.Logic.{dite}
use native.Mathlib.Decide.{ℕ_discrete}
use Rattle.hp_states.specs.CpuSets.{has}
use Rattle.hp_states.specs.declared.cpu_set.CpuSet.{CpuSet}
use Rattle.hp_states.specs.declared.dir.Dir.{Dir}
use Rattle.hp_event.specs.declared.how.How.{How}
use Rattle.hp_event.specs.declared.event.Event.{Event}
use Rattle.hp_event.specs.declared.event.Event.TheVariants.{Call}
use Rattle.hp_event.specs.Hows.{is_called}
use Rattle.hp_model.specs.Events.{seat_of}
use Rattle.hp_model.specs.Lawful.{IsLawful}
use Rattle.hp_model.specs.NextEvent.{due_entry}
use Rattle.hp_model.specs.How.{answer_at as answer_of_plan}
use Rattle.hp_model.proofs.DueGives.{due_stands}
use Rattle.hp_model.proofs.EntryStays.{due_one}
use Rattle.hp_table.specs.Step.{Step, step_at, changed, changed_at, lent_step, is_home}
use Rattle.hp_table.proofs.Places.{step_at-changed_same, step_at-set_other}
use Rattle.hp_account.specs.declared.under_way.Entry.{Entry}
use Rattle.hp_account.specs.declared.under_way.MadeBy.TheVariants.{Hook}
use Rattle.hp_account.specs.Entries.{entry_event, how_by}
use Rattle.hp_account.specs.Table.{IsTableOf}
use Rattle.hp_machine.proofs.MadeEntries.{by_hook}
use Rattle.hp_board.specs.Answered.{aside_of}
use Rattle.hp_board.specs.Contents.{Contents}
use Rattle.hp_board.specs.Loans.{aside_at, can_lend, is_hook, loan_of, loan, IsOutFor, IsOutOn, AreOut}
use Rattle.hp_board.proofs.Loans.{asks_hook, out_there, state_in}

abbrev code_of : Contents → Entry → ℕ
code_of b x = answer_of_plan b.head b.events x.cpu x.key.state x.key.inst x.dir

-- with one processor more
abbrev pub PutInto : (old new : CpuSet) → (cpu : ℕ) → Type 0
PutInto old new c = (d : ℕ) → has new d ≡ (eqb d c || has old d)

abbrev pub lent_for : Contents → Entry → CpuSet → Contents
lent_for b x lent = record b { places = changed_at b.places x.key.state lent_step; lent = lent }

-- an entry that is due and that a hook makes, whose hook is home
pub record CanLend (b : Contents) (by : ℕ) (x : Entry) : Type 0 where
  pub lawful : IsLawful b.head b.events
  pub out : AreOut b
  pub due : due_entry b.head b.events by ≡ Some (entry_event b.head b.events x)
  pub made_by : x.made_by ≡ Hook
  pub step : Step
  pub there : step_at b.places x.key.state ≡ Some step
  pub home : step.kept.home ≡ true

pub can_lend_it : (b : Contents) (by : ℕ) (x : Entry) → IsLawful b.head b.events → AreOut b → IsTableOf b.head b.events b.places →
    due_entry b.head b.events by ≡ Some (entry_event b.head b.events x) → x.made_by ≡ Hook → is_home (step_at b.places x.key.state) ≡ true →
    CanLend b by x
can_lend_it b by x lawful out table due made_by home =
    let stands = (due_stands b.head b.events by (entry_event b.head b.events x) due).0 in
    let h = by_hook b.head b.events b.places x lawful table stands made_by in
    record {
      lawful = lawful;
      out = out;
      due = due;
      made_by = made_by;
      step = h.step;
      there = h.there;
      home = sym (ap is_home h.there) ∙ home;
    }

-- an entry that is due and can't be lent: its hook is none, or away
pub cannot_lend : (b : Contents) (by : ℕ) (x : Entry) → IsLawful b.head b.events → IsTableOf b.head b.events b.places →
    due_entry b.head b.events by ≡ Some (entry_event b.head b.events x) → x.made_by ≡ Hook →
    (IsSome (step_at b.places x.key.state) × (is_home (step_at b.places x.key.state) ≡ true) → ⊥) →
    can_lend (due_entry b.head b.events by) b.places ≡ true → ⊥
cannot_lend b by x lawful table due made_by never can =
    let stands = (due_stands b.head b.events by (entry_event b.head b.events x) due).0 in
    let h = by_hook b.head b.events b.places x lawful table stands made_by in
    let p = and_parts (is_called (how_by x (code_of b x))) (is_home (step_at b.places x.key.state))
    (sym (ap (λ e. can_lend e b.places) due) ∙ can) in
    never (subst (λ o. IsSome o) (sym h.there) refl, p.1)

put_old : (old new : CpuSet) (c d : ℕ) → PutInto old new c → has old d ≡ true → has new d ≡ true
put_old old new c d put is = put d ∙ (ap (λ z. eqb d c || z) is ∙ or_true (eqb d c))

put_new : (old new : CpuSet) (c : ℕ) → PutInto old new c → has new c ≡ true
put_new old new c put = put c ∙ ap (λ z. z || has old c) (eq-eqb c c refl)

put_other : (old new : CpuSet) (c d : ℕ) → PutInto old new c → d ≢ c → has new d ≡ has old d
put_other old new c d put apart = put d ∙ ap (λ z. z || has old d) (ne_eqb d c apart)

home_here : (b : Contents) (by : ℕ) (x : Entry) → CanLend b by x → is_home (step_at b.places x.key.state) ≡ true
home_here b by x can = ap is_home can.there ∙ can.home

-- so it is lent where it is asked for
pub can_lend_to : (b : Contents) (by : ℕ) (x : Entry) → CanLend b by x → can_lend (due_entry b.head b.events by) b.places ≡ true
can_lend_to b by x can =
    ap (λ e. can_lend e b.places) can.due
    ∙ (ap (λ t. t && is_home (step_at b.places x.key.state)) (asks_hook b.head b.events x ∙ ap is_hook can.made_by) ∙ home_here b by x can)

-- a hook that is away is at another state
apart_from : (b : Contents) (by : ℕ) (x : Entry) (s : ℕ) → CanLend b by x → is_home (step_at b.places s) ≡ false → x.key.state ≢ s
apart_from b by x s can away same =
    true≢false (sym (home_here b by x can) ∙ (ap (λ z. is_home (step_at b.places z)) same ∙ away))

same_at : (b : Contents) (x : Entry) (lent : CpuSet) (s : ℕ) → x.key.state ≢ s → step_at (lent_for b x lent).places s ≡ step_at b.places s
same_at b x lent s apart = step_at-set_other b.places x.key.state (changed lent_step (step_at b.places x.key.state)) s apart

lent_here : (b : Contents) (by : ℕ) (x : Entry) (lent : CpuSet) → (can : CanLend b by x) →
    step_at (lent_for b x lent).places x.key.state ≡ Some (lent_step can.step)
lent_here b by x lent can = step_at-changed_same b.places x.key.state lent_step ∙ ap (changed lent_step) can.there

seat_is : (b : Contents) (by : ℕ) (x : Entry) → CanLend b by x → x.seat ≡ by
seat_is b by x can = (due_stands b.head b.events by (entry_event b.head b.events x) can.due).2

abbrev mine : (b : Contents) (by : ℕ) (x : Entry) (lent : CpuSet) → CanLend b by x → PutInto b.lent lent x.cpu →
    IsOutFor (lent_for b x lent) x.key.state
mine b by x lent can put =
    record {
      seat = x.seat;
      cpu = x.cpu;
      inst = x.key.inst;
      dir = x.dir;
      how = how_by x (code_of b x);
      due = ap (due_entry b.head b.events) (seat_is b by x can) ∙ can.due;
      called = asks_hook b.head b.events x ∙ ap is_hook can.made_by;
      lent = put_new b.lent lent x.cpu put;
      away = ap is_home (lent_here b by x lent can);
    }

abbrev carried : (b : Contents) (by : ℕ) (x : Entry) (lent : CpuSet) (s : ℕ) → CanLend b by x → PutInto b.lent lent x.cpu → IsOutFor b s →
    IsOutFor (lent_for b x lent) s
carried b by x lent s can put o =
    record {
      seat = o.seat;
      cpu = o.cpu;
      inst = o.inst;
      dir = o.dir;
      how = o.how;
      due = o.due;
      called = o.called;
      lent = put_old b.lent lent x.cpu o.cpu put o.lent;
      away = ap is_home (same_at b x lent s (apart_from b by x s can o.away)) ∙ o.away;
    }

was_out : (b : Contents) (by : ℕ) (x : Entry) (lent : CpuSet) (s : ℕ) (p : IsOutFor (lent_for b x lent) s) → CanLend b by x →
    PutInto b.lent lent x.cpu → p.cpu ≢ x.cpu → (o : IsOutFor b s) × (o.cpu ≡ p.cpu)
was_out b by x lent s p can put apart =
    let lent_before = sym (put_other b.lent lent x.cpu p.cpu put apart) ∙ p.lent in (
      record {
        seat = p.seat;
        cpu = p.cpu;
        inst = p.inst;
        dir = p.dir;
        how = p.how;
        due = p.due;
        called = p.called;
        lent = lent_before;
        away = (out_there b p.seat p.seat p.cpu s p.inst p.dir p.how can.lawful can.out p.due lent_before).0;
      },
      refl,
    )

-- what is lent for the entry's processor is for its state
state_is : (b : Contents) (by : ℕ) (x : Entry) (lent : CpuSet) (s : ℕ) (p : IsOutFor (lent_for b x lent) s) → CanLend b by x →
    p.cpu ≡ x.cpu → s ≡ x.key.state
state_is b by x lent s p can same =
    ap state_in
    (due_one b.head b.events p.seat by (Call p.seat p.cpu s p.inst p.dir p.how) (entry_event b.head b.events x) can.lawful p.due can.due same)

-- no other processor has the hook of the entry's state
only_mine : (b : Contents) (by : ℕ) (x : Entry) (lent : CpuSet) (s : ℕ) (p : IsOutFor (lent_for b x lent) s) → CanLend b by x →
    PutInto b.lent lent x.cpu → p.cpu ≢ x.cpu → s ≡ x.key.state → ⊥
only_mine b by x lent s p can put apart same =
    let o = was_out b by x lent s p can put apart in apart_from b by x s can o.0.away (sym same)

pub lent_out : (b : Contents) (by : ℕ) (x : Entry) (lent : CpuSet) → CanLend b by x → PutInto b.lent lent x.cpu → AreOut (lent_for b x lent)
lent_out b by x lent can put =
    record {
      each = λ c is. dite (ℕ_discrete c x.cpu) (λ same. here c same) (λ apart. there c (sym (put_other b.lent lent x.cpu c put apart) ∙ is));
      only = λ s away. dite (ℕ_discrete x.key.state s) (λ same. subst (IsOutFor (lent_for b x lent)) same (mine b by x lent can put))
          (λ apart. carried b by x lent s can put (can.out.only s (ap is_home (sym (same_at b x lent s apart)) ∙ away)));
      apart = λ s one other. dite (ℕ_discrete one.cpu x.cpu)
          (λ same. dite (ℕ_discrete other.cpu x.cpu) (λ also. same ∙ sym also)
          (λ unlike. absurd (only_mine b by x lent s other can put unlike (state_is b by x lent s one can same))))
          (λ unlike. dite (ℕ_discrete other.cpu x.cpu)
          (λ same. absurd (only_mine b by x lent s one can put unlike (state_is b by x lent s other can same)))
          (λ nor. both s one other unlike nor));
    }
  where
    here : (c : ℕ) → c ≡ x.cpu → IsOutOn (lent_for b x lent) c
    here c same =
        record { state = x.key.state; out = mine b by x lent can put; cpu_is = sym same }

    there : (c : ℕ) → has b.lent c ≡ true → IsOutOn (lent_for b x lent) c
    there c is =
        let w = can.out.each c is in
        record { state = w.state; out = carried b by x lent w.state can put w.out; cpu_is = w.cpu_is }

    both : (s : ℕ) (one other : IsOutFor (lent_for b x lent) s) → one.cpu ≢ x.cpu → other.cpu ≢ x.cpu → one.cpu ≡ other.cpu
    both s one other unlike nor =
        let p = was_out b by x lent s one can put unlike in
        let q = was_out b by x lent s other can put nor in
        sym p.1 ∙ (can.out.apart s p.0 q.0 ∙ q.1)

-- what is lent to the seat
pub lent_aside : (b : Contents) (by : ℕ) (x : Entry) (lent : CpuSet) (can : CanLend b by x) → PutInto b.lent lent x.cpu →
    loan (lent_for b x lent) by ≡ Some (aside_of x.cpu x.key x.dir can.step.kept.counts)
lent_aside b by x lent can put =
    ap (λ e. loan_of e lent (lent_for b x lent).places) can.due
    ∙ (ap (λ h. cond h (aside_at x.cpu x.key.state x.key.inst x.dir (step_at (lent_for b x lent).places x.key.state)) None)
    (put_new b.lent lent x.cpu put)
    ∙ ap (aside_at x.cpu x.key.state x.key.inst x.dir) (lent_here b by x lent can))

-- and to the others
pub lent_others : (b : Contents) (by k : ℕ) (x : Entry) (lent : CpuSet) → CanLend b by x → PutInto b.lent lent x.cpu → k ≢ by →
    loan (lent_for b x lent) k ≡ loan b k
lent_others b by k x lent can put other = go (due_entry b.head b.events k) refl
  where
    apart : (j c s i : ℕ) (d : Dir) (how : How) → due_entry b.head b.events k ≡ Some (Call j c s i d how) → c ≢ x.cpu
    apart j c s i d how due same =
        let e = due_one b.head b.events k by (Call j c s i d how) (entry_event b.head b.events x) can.lawful due can.due same in
        let seat : j ≡ k = (due_stands b.head b.events k (Call j c s i d how) due).2 in
        other (sym seat ∙ (ap seat_of e ∙ seat_is b by x can))

    at : (j c s i : ℕ) (d : Dir) (how : How) → due_entry b.head b.events k ≡ Some (Call j c s i d how) → (h : Bool) → has b.lent c ≡ h →
        cond h (aside_at c s i d (step_at (lent_for b x lent).places s)) None ≡ cond h (aside_at c s i d (step_at b.places s)) None
    at j c s i d how due true is =
        let away = (out_there b k j c s i d how can.lawful can.out due is).0 in
        ap (aside_at c s i d) (same_at b x lent s (apart_from b by x s can away))
    at j c s i d how due false is = refl

    go : (o : Option Event) → due_entry b.head b.events k ≡ o → loan_of o lent (lent_for b x lent).places ≡ loan_of o b.lent b.places
    go (Some (Call j c s i d how)) due =
        ap (λ h. cond h (aside_at c s i d (step_at (lent_for b x lent).places s)) None)
        (put_other b.lent lent x.cpu c put (apart j c s i d how due))
        ∙ at j c s i d how due (has b.lent c) refl
    go (Some e) due = refl
    go None due = refl
