-- What is lent, and for which entries: hooks are lent for entries that are due, each of another processor and for another state.
use Rattle.std.proofs.Common.{◌≡◌, ℕ, Bool, true, false, ◌&&◌, not, is_some, cond, Option, Some, None, IfSome, List, refl, ap, sym, ◌∙◌, subst, ◌⊎◌, ⊎_elim, arith}
use Rattle.std.proofs.lemmas.Bool.{true≢false, false≢true}
use Rattle.hp_states.proofs.Basics.{cases_bool, none_some, same_some}
use Rattle.hp_states.specs.CpuSets.{has}
use Rattle.hp_states.specs.declared.dir.Dir.{Dir}
use Rattle.hp_states.specs.Rules.{counts_of}
use Rattle.hp_states.specs.Sections.{can_fail}
use Rattle.hp_model.specs.Calls.{sites}
use Rattle.hp_model.specs.How.{answer_at as answer_of_plan}
use Rattle.hp_model.specs.Subsystems.{plan_of}
use Rattle.hp_account.specs.Table.{IsTableOf, IsStepOf}
use Rattle.hp_machine.proofs.HookAnswers.{sub_there, answers_there}
use Rattle.hp_account.proofs.TableMore.{answered_called}
use Rattle.hp_event.specs.declared.aside.Aside.{Aside}
use Rattle.hp_event.specs.declared.how.How.{How}
use Rattle.hp_event.specs.declared.head.Head.{Head}
use Rattle.hp_event.specs.declared.event.Event.{Event}
use Rattle.hp_event.specs.declared.event.Event.TheVariants.{Call, RegBegin, RegEnd}
use Rattle.hp_event.specs.Hows.{is_called, how_answered}
use Rattle.hp_model.specs.Lawful.{Stands, IsLawful}
use Rattle.hp_model.specs.Lent.{arms, arms_walker}
use Rattle.hp_model.specs.Walks.{walk}
use Rattle.hp_model.specs.NextEvent.{due_entry}
use Rattle.hp_model.specs.Seats.{admits}
use Rattle.hp_model.proofs.DueGives.{due_stands}
use Rattle.hp_model.proofs.EntryStays.{due_one, due_calls, caller_below, no_registration_begins, no_registration_ends}
use Rattle.hp_hook.specs.Counted.{Counts}
use Rattle.hp_table.specs.Step.{Step, step_at, is_home, AllHome}
use Rattle.hp_account.specs.TableChanges.{is_registering}
use Rattle.hp_account.specs.declared.under_way.Entry.{Entry}
use Rattle.hp_account.specs.declared.under_way.MadeBy.{MadeBy}
use Rattle.hp_account.specs.declared.under_way.MadeBy.TheVariants.{Presumed, Empty, Injected, Hook}
use Rattle.hp_account.specs.Entries.{entry_event, how_by, how_made_by}
use Rattle.hp_board.specs.Contents.{Contents}
use Rattle.hp_board.specs.Answered.{aside_of}
use Rattle.hp_board.specs.Loans.{IsLoan, is_hook, aside_at, loan_of, loan, IsOutFor, AreOut}

abbrev pub called_in : Event → Bool
called_in (Call seat cpu state inst dir how) = is_called how
called_in _ = false

abbrev pub state_in : Event → ℕ
state_in (Call seat cpu state inst dir how) = state
state_in _ = 0

-- where every hook is there and none is lent, none is out
pub none_out : (b : Contents) → AllHome b.places → ((c : ℕ) → has b.lent c ≡ false) → AreOut b
none_out b all none =
    record {
      each = λ c lent. absurd (true≢false (sym lent ∙ none c));
      only = λ s away. absurd (true≢false (sym (all s) ∙ away));
      apart = λ s one other. absurd (true≢false (sym one.lent ∙ none one.cpu));
    }

-- hooks are lent for no processor exactly where all are home
pub home_of_none : (b : Contents) → AreOut b → ((c : ℕ) → has b.lent c ≡ false) → AllHome b.places
home_of_none b out none s = ⊎_elim (λ is. is)
    (λ away. let o = out.only s away in absurd (true≢false (sym o.lent ∙ none o.cpu))) (cases_bool (is_home (step_at b.places s)))

pub none_of_home : (b : Contents) → AreOut b → AllHome b.places → (c : ℕ) → has b.lent c ≡ false
none_of_home b out all c = ⊎_elim
    (λ lent. let w = out.each c lent in absurd (true≢false (sym (all w.state) ∙ w.out.away))) (λ is. is) (cases_bool (has b.lent c))

-- the entry of a processor that a hook is lent for
pub out_there : (b : Contents) (k j c s i : ℕ) (d : Dir) (how : How) → IsLawful b.head b.events → AreOut b →
    due_entry b.head b.events k ≡ Some (Call j c s i d how) → has b.lent c ≡ true →
    (is_home (step_at b.places s) ≡ false) × (is_called how ≡ true)
out_there b k j c s i d how lawful out due lent =
    let w = out.each c lent in
    let o = w.out in
    let same = due_one b.head b.events o.seat k (Call o.seat o.cpu w.state o.inst o.dir o.how) (Call j c s i d how) lawful o.due due w.cpu_is in (
      ap (λ z. is_home (step_at b.places z)) (sym (ap state_in same)) ∙ o.away,
      sym (ap called_in same) ∙ o.called,
    )

-- a state whose hook is away has it lent to the seat of its entry
lent_at : (c i s : ℕ) (d : Dir) (place : Option Step) → is_home place ≡ false → aside_at c s i d place ≡ None → ⊥
lent_at c i s d None away none = true≢false away
lent_at c i s d (Some step) away none = go step.kept.home away none
  where
    go : (b : Bool) → b ≡ false → cond b None (Some (aside_of c (record { state = s; inst = i }) d step.kept.counts)) ≡ None → ⊥
    go true away none = true≢false away
    go false away none = none_some _ (sym none)

pub some_lent : (b : Contents) (k j c s i : ℕ) (d : Dir) (how : How) → due_entry b.head b.events k ≡ Some (Call j c s i d how) →
    has b.lent c ≡ true → is_home (step_at b.places s) ≡ false → loan b k ≡ None → ⊥
some_lent b k j c s i d how due lent away nothing =
    lent_at c i s d (step_at b.places s) away
    (sym (ap (λ h. cond h (aside_at c s i d (step_at b.places s)) None) lent)
    ∙ (sym (ap (λ e. loan_of e b.lent b.places) due) ∙ nothing))

pub not_mine : (b : Contents) (by s : ℕ) (o : IsOutFor b s) → loan b by ≡ None → o.seat ≡ by → ⊥
not_mine b by s o nothing same =
    let due = subst (λ k. due_entry b.head b.events k ≡ Some (Call o.seat o.cpu s o.inst o.dir o.how)) same o.due in
    some_lent b by o.seat o.cpu s o.inst o.dir o.how due o.lent o.away nothing

-- no registration begins or ends
pub home_beside_begin : (b : Contents) (k t : ℕ) (op : _) → AreOut b → Stands b.head b.events (RegBegin k t op) → AllHome b.places
home_beside_begin b k t op out stands s = ⊎_elim (λ is. is)
    (λ away. let o = out.only s away in
    let calls = due_calls b.head b.events o.seat o.seat o.cpu s o.inst o.dir o.how o.due in
    absurd (no_registration_begins b.head b.events o.seat o.cpu s o.inst o.dir o.how k t op calls.0 stands.0))
    (cases_bool (is_home (step_at b.places s)))

pub home_beside_end : (b : Contents) (k : ℕ) (answer : _) → IsLawful b.head b.events → AreOut b → Stands b.head b.events (RegEnd k answer) →
    AllHome b.places
home_beside_end b k answer lawful out stands s = ⊎_elim (λ is. is)
    (λ away. let o = out.only s away in
    let calls = due_calls b.head b.events o.seat o.seat o.cpu s o.inst o.dir o.how o.due in
    absurd (no_registration_ends b.head b.events o.seat o.cpu s o.inst o.dir o.how k answer lawful calls.0 stands.0))
    (cases_bool (is_home (step_at b.places s)))

pub home_beside : (b : Contents) (e : Event) → IsLawful b.head b.events → AreOut b → Stands b.head b.events e → is_registering e ≡ true →
    AllHome b.places
home_beside b (RegBegin k t op) lawful out stands is = home_beside_begin b k t op out stands
home_beside b (RegEnd k answer) lawful out stands is = home_beside_end b k answer lawful out stands
home_beside b e lawful out stands is = absurd (true≢false (sym is))

-- a seat that comes in has nothing lent
pub next_idle : (b : Contents) → IsLawful b.head b.events → loan b (admits b.events) ≡ None
next_idle b lawful = go (due_entry b.head b.events (admits b.events)) refl
  where
    go : (o : Option Event) → due_entry b.head b.events (admits b.events) ≡ o → loan_of o b.lent b.places ≡ None
    go (Some (Call k c s i d how)) is =
        let h = due_calls b.head b.events (admits b.events) k c s i d how is in
        let below = caller_below b.head b.events k c s i d how lawful h.0 in
        let same : k ≡ admits b.events = h.1 in
        absurd (omega (arith, below, same))
    go (Some e) is = refl
    go None is = refl

-- what is lent to a seat is of the entry that is due from it, and of the step of its state
pub record IsLent (b : Contents) (seat : ℕ) (a : Aside) : Type 0 where
  pub state : ℕ
  pub inst : ℕ
  pub how : How
  pub due : due_entry b.head b.events seat ≡ Some (Call seat a.cpu state inst a.dir how)
  pub lent : has b.lent a.cpu ≡ true
  pub step : Step
  pub there : step_at b.places state ≡ Some step
  pub away : step.kept.home ≡ false
  pub aside_is : a ≡ aside_of a.cpu (record { state = state; inst = inst }) a.dir step.kept.counts

record AtStep (c i s : ℕ) (d : Dir) (place : Option Step) (a : Aside) : Type 0 where
  step : Step
  there : place ≡ Some step
  away : step.kept.home ≡ false
  aside_is : a ≡ aside_of c (record { state = s; inst = i }) d step.kept.counts

at_step : (c i s : ℕ) (d : Dir) (place : Option Step) (a : Aside) → aside_at c s i d place ≡ Some a → AtStep c i s d place a
at_step c i s d None a is = absurd (none_some a is)
at_step c i s d (Some step) a is = go step.kept.home refl is
  where
    go : (b : Bool) → step.kept.home ≡ b → cond b None (Some (aside_of c (record { state = s; inst = i }) d step.kept.counts)) ≡ Some a →
        AtStep c i s d (Some step) a
    go true e is = absurd (none_some a is)
    go false e is =
        record {
          step = step;
          there = refl;
          away = e;
          aside_is = sym (same_some (aside_of c (record { state = s; inst = i }) d step.kept.counts) a is);
        }

if_lent : (h : Bool) (o : Option Aside) (a : Aside) → cond h o None ≡ Some a → (h ≡ true) × (o ≡ Some a)
if_lent true o a is = (refl, is)
if_lent false o a is = absurd (none_some a is)

pub lent_to : (b : Contents) (k : ℕ) (a : Aside) → loan b k ≡ Some a → IsLent b k a
lent_to b k a is = go (due_entry b.head b.events k) refl is
  where
    go : (o : Option Event) → due_entry b.head b.events k ≡ o → loan_of o b.lent b.places ≡ Some a → IsLent b k a
    go (Some (Call j c s i d how)) due is =
        let h = if_lent (has b.lent c) (aside_at c s i d (step_at b.places s)) a is in
        let l = at_step c i s d (step_at b.places s) a h.1 in
        let seat : j ≡ k = (due_stands b.head b.events k (Call j c s i d how) due).2 in
        let cpu : c ≡ a.cpu = sym (ap (λ (x : Aside). x.cpu) l.aside_is) in
        let dir : d ≡ a.dir = sym (ap (λ (x : Aside). x.dir) l.aside_is) in
        record {
          state = s;
          inst = i;
          how = how;
          due = due ∙ (ap (λ z. Some (Call z c s i d how)) seat ∙ (ap (λ z. Some (Call k z s i d how)) cpu ∙ ap (λ z. Some (Call k a.cpu s i z how)) dir));
          lent = subst (λ z. has b.lent z ≡ true) cpu h.0;
          step = l.step;
          there = l.there;
          away = l.away;
          aside_is =
              l.aside_is
              ∙ (ap (λ z. aside_of z (record { state = s; inst = i }) d l.step.kept.counts) cpu
              ∙ ap (λ z. aside_of a.cpu (record { state = s; inst = i }) z l.step.kept.counts) dir);
        }
    go (Some e) due is = absurd (none_some a is)
    go None due is = absurd (none_some a is)

-- so its hook is out for that
abbrev pub out_of : (b : Contents) (k : ℕ) (a : Aside) (l : IsLent b k a) → IsLawful b.head b.events → AreOut b → IsOutFor b l.state
out_of b k a l lawful out =
    record {
      seat = k;
      cpu = a.cpu;
      inst = l.inst;
      dir = a.dir;
      how = l.how;
      due = l.due;
      called = (out_there b k k a.cpu l.state l.inst a.dir l.how lawful out l.due l.lent).1;
      lent = l.lent;
      away = ap is_home l.there ∙ l.away;
    }

-- an event that arms nobody
pub disarms_not : (es : List Event) (k c s i : ℕ) (d : Dir) (how : How) (e : Event) → arms c e ≡ false →
    arms_walker es (Call k c s i d how) e ≡ false
disarms_not es k c s i d how e h = go (is_some (walk c es))
  where
    go : (b : Bool) → (b && arms c e) ≡ false
    go true = h
    go false = refl

-- an entry by its hook, and not
means_hook : (m : MadeBy) (answered : How) → is_called answered ≡ true → is_called (how_made_by m answered) ≡ true → m ≡ Hook
means_hook Presumed answered a is = absurd (false≢true is)
means_hook Empty answered a is = absurd (false≢true is)
means_hook Injected answered a is = absurd (false≢true is)
means_hook Hook answered a is = refl

-- whether an entry asks its hook
asks_by : (m : MadeBy) (answered : How) → is_called answered ≡ true → is_called (how_made_by m answered) ≡ is_hook m
asks_by Presumed answered a = refl
asks_by Empty answered a = refl
asks_by Injected answered a = refl
asks_by Hook answered a = a

pub hook_is : (m : MadeBy) → is_hook m ≡ true → m ≡ Hook
hook_is Hook h = refl
hook_is m h = absurd (false≢true h)

pub asks_hook : (head : Head) (es : List Event) (x : Entry) →
    is_called (how_by x (answer_of_plan head es x.cpu x.key.state x.key.inst x.dir)) ≡ is_hook x.made_by
asks_hook head es x =
    let code = answer_of_plan head es x.cpu x.key.state x.key.inst x.dir in
    asks_by x.made_by (how_answered (can_fail x.dir x.key.state x.place) code) (answered_called (can_fail x.dir x.key.state x.place) code)

pub called_by_hook : (head : Head) (es : List Event) (x : Entry) →
    is_called (how_by x (answer_of_plan head es x.cpu x.key.state x.key.inst x.dir)) ≡ true → x.made_by ≡ Hook
called_by_hook head es x called = hook_is x.made_by (sym (asks_hook head es x) ∙ called)

-- the entry that is due, where something is lent for it
pub record IsLentBy (b : Contents) (x : Entry) (a : Aside) : Type 0 where
  pub step : Step
  pub there : step_at b.places x.key.state ≡ Some step
  pub away : step.kept.home ≡ false
  pub lent : has b.lent x.cpu ≡ true
  pub made_by : x.made_by ≡ Hook
  pub cpu_is : a.cpu ≡ x.cpu
  pub aside_is : a ≡ aside_of x.cpu x.key x.dir step.kept.counts

pub lent_by : (b : Contents) (by : ℕ) (x : Entry) (a : Aside) → IsLawful b.head b.events → AreOut b →
    due_entry b.head b.events by ≡ Some (entry_event b.head b.events x) → loan b by ≡ Some a → IsLentBy b x a
lent_by b by x a lawful out due is =
    let code = answer_of_plan b.head b.events x.cpu x.key.state x.key.inst x.dir in
    let at = sym (ap (λ e. loan_of e b.lent b.places) due) ∙ is in
    let h = if_lent (has b.lent x.cpu) (aside_at x.cpu x.key.state x.key.inst x.dir (step_at b.places x.key.state)) a at in
    let l = at_step x.cpu x.key.inst x.key.state x.dir (step_at b.places x.key.state) a h.1 in
    let o = out_there b by x.seat x.cpu x.key.state x.key.inst x.dir (how_by x code) lawful out due h.0 in
    record {
      step = l.step;
      there = l.there;
      away = l.away;
      lent = h.0;
      made_by = called_by_hook b.head b.events x o.1;
      cpu_is = ap (λ (z : Aside). z.cpu) l.aside_is;
      aside_is = l.aside_is;
    }

-- what is lent is of an entry that is due
pub nothing_due : (b : Contents) (by : ℕ) (a : Aside) → due_entry b.head b.events by ≡ None → loan b by ≡ Some a → ⊥
nothing_due b by a none is = none_some a (sym (ap (λ e. loan_of e b.lent b.places) none) ∙ is)

pub none_lent : (b : Contents) (by : ℕ) → due_entry b.head b.events by ≡ None → loan b by ≡ None
none_lent b by none = ap (λ e. loan_of e b.lent b.places) none

-- where hooks are lent for no processor, nothing is lent
pub unlent : (b : Contents) (by : ℕ) → ((c : ℕ) → has b.lent c ≡ false) → loan b by ≡ None
unlent b by none = go (due_entry b.head b.events by)
  where
    go : (o : Option Event) → loan_of o b.lent b.places ≡ None
    go (Some (Call k c s i d how)) = ap (λ h. cond h (aside_at c s i d (step_at b.places s)) None) (none c)
    go (Some e) = refl
    go None = refl

-- the five facts of what is lent
pub loan_facts : (b : Contents) (by : ℕ) (a : Aside) → IsLawful b.head b.events → IsTableOf b.head b.events b.places →
    AreOut b → loan b by ≡ Some a → IsLoan b.head b.events by a
loan_facts b by a lawful t out is =
    let l = lent_to b by a is in
    let of = subst (λ p. IfSome p (IsStepOf b.head b.events l.state)) l.there (t.steps l.state) in
    let sub = sub_there b.head b.events b.places l.state l.step t l.there ∙ of.sub_is in
    let plan = ap (λ (x : Counts). x.plan) of.counts_are in
    let facts : IsLoan b.head b.events by (aside_of a.cpu (record { state = l.state; inst = l.inst }) a.dir l.step.kept.counts) = record {
      how = l.how;
      due = l.due;
      called = (out_there b by by a.cpu l.state l.inst a.dir l.how lawful out l.due l.lent).1;
      plan_is = plan ∙ ap plan_of (sym sub);
      seen_is = ap (λ (x : Counts). x.seen) of.counts_are ∙ ap (λ p. counts_of p (sites l.state b.events)) (sym plan);
      base_is = ap (λ (x : Counts). x.made) of.counts_are;
      answer_is = answers_there b.head b.events b.places a.cpu l.state l.inst a.dir l.step t l.there;
    } in
    subst (IsLoan b.head b.events by) (sym l.aside_is) facts

-- whether something is lent to a seat
lent_or_home : (c i s : ℕ) (d : Dir) (place : Option Step) → is_some (aside_at c s i d place) ≡ not (is_home place)
lent_or_home c i s d None = refl
lent_or_home c i s d (Some step) = go step.kept.home
  where
    go : (b : Bool) → is_some (cond b None (Some (aside_of c (record { state = s; inst = i }) d step.kept.counts))) ≡ not b
    go true = refl
    go false = refl

pub has_lent_by : (b : Contents) (by : ℕ) (x : Entry) → IsLawful b.head b.events → AreOut b →
    due_entry b.head b.events by ≡ Some (entry_event b.head b.events x) → is_some (loan b by) ≡ has b.lent x.cpu
has_lent_by b by x lawful out due =
    ap (λ e. is_some (loan_of e b.lent b.places)) due ∙ go (has b.lent x.cpu) refl
  where
    code : ℕ
    code = answer_of_plan b.head b.events x.cpu x.key.state x.key.inst x.dir

    go : (h : Bool) → has b.lent x.cpu ≡ h →
        is_some (cond h (aside_at x.cpu x.key.state x.key.inst x.dir (step_at b.places x.key.state)) None) ≡ h
    go true lent =
        let o = out_there b by x.seat x.cpu x.key.state x.key.inst x.dir (how_by x code) lawful out due lent in
        lent_or_home x.cpu x.key.inst x.key.state x.dir (step_at b.places x.key.state) ∙ ap not o.0
    go false lent = refl
