-- What is lent stays so where a board goes on: after an event of a seat that nothing is lent to, and where one hook comes home.
use Rattle.std.proofs.Common.{◌≡◌, ◌≢◌, ℕ, Bool, true, false, ◌&&◌, not, eqb, cond, Option, Some, None, List, [], ◌∷◌, ◌++◌, refl, ap, sym, ◌∙◌, subst}
use Rattle.std.proofs.lemmas.Bool.{true≢false, false≢true, eqb-true, eq-eqb, ne_eqb, and_parts}
use Rattle.hp_states.proofs.Basics.{none_some, same_some}
use Rattle.hp_states.specs.CpuSets.{has}
use Rattle.hp_states.specs.Rules.{site_at}
use Rattle.hp_states.specs.Sections.{is_ap_state}
use Rattle.hp_states.specs.declared.cpu_set.CpuSet.{CpuSet}
use Rattle.hp_states.specs.declared.dir.Dir.{Dir}
use Rattle.hp_event.specs.declared.aside.Aside.{Aside}
use Rattle.hp_event.specs.declared.how.How.{How}
use Rattle.hp_event.specs.declared.event.Event.{Event}
use Rattle.hp_event.specs.declared.event.Event.TheVariants.{Call, RegBegin, RegEnd}
use Rattle.hp_event.specs.Hows.{is_called}
use Rattle.hp_model.specs.Events.{seat_of}
use Rattle.hp_model.specs.Lawful.{Stands, IsLawful}
use Rattle.hp_model.specs.Lent.{calls_at, calls_beside, cpu_of}
use Rattle.hp_model.specs.NextEvent.{due_entry}
use Rattle.hp_model.proofs.EntryStays.{due_stays, due_one, due_calls, no_registration_begins, no_registration_ends}
use Rattle.hp_model.proofs.HeadlineProof.{lawful_more}
use Rattle.hp_table.specs.Step.{Step, step_at, changed, changed_at, called_step, is_home}
use Rattle.hp_table.proofs.Places.{step_at-changed_same, step_at-set_other}
use Rattle.hp_account.specs.TableChanges.{table_after}
use Rattle.hp_machine.proofs.Homes.{home_after}
use Rattle.hp_board.specs.Answered.{aside_of}
use Rattle.hp_board.specs.Contents.{Contents, with_event}
use Rattle.hp_board.specs.Loans.{aside_at, loan_of, loan, IsOutFor, AreOut, IsCalm}
use Rattle.hp_board.proofs.Loans.{IsLent, lent_to, out_of, not_mine, disarms_not, called_in, state_in, home_beside_begin, home_beside_end}

-- A board goes on: hooks are lent for fewer processors or the same, whose entries stay due, at states that stay as they are; and each hook
-- that is away is one of these.
pub record Goes (b n : Contents) : Type 0 where
  pub lawful : IsLawful b.head b.events
  pub lawful_then : IsLawful n.head n.events
  pub fewer : (c : ℕ) → has n.lent c ≡ true → has b.lent c ≡ true
  pub due_stays : (s : ℕ) (o : IsOutFor b s) → has n.lent o.cpu ≡ true →
      due_entry n.head n.events o.seat ≡ Some (Call o.seat o.cpu s o.inst o.dir o.how)
  pub place_stays : (s : ℕ) (o : IsOutFor b s) → has n.lent o.cpu ≡ true → step_at n.places s ≡ step_at b.places s
  pub away_back : (s : ℕ) → is_home (step_at n.places s) ≡ false → (o : IsOutFor b s) × (has n.lent o.cpu ≡ true)

abbrev carried : (b n : Contents) (s : ℕ) (o : IsOutFor b s) → Goes b n → has n.lent o.cpu ≡ true → IsOutFor n s
carried b n s o g lent =
    record {
      seat = o.seat;
      cpu = o.cpu;
      inst = o.inst;
      dir = o.dir;
      how = o.how;
      due = g.due_stays s o lent;
      called = o.called;
      lent = lent;
      away = ap is_home (g.place_stays s o lent) ∙ o.away;
    }

-- what is due then of such a processor was due before
back : (b n : Contents) (k j c s i : ℕ) (d : Dir) (how : How) → AreOut b → Goes b n →
    due_entry n.head n.events k ≡ Some (Call j c s i d how) → has n.lent c ≡ true →
    (due_entry b.head b.events j ≡ Some (Call j c s i d how)) × (is_called how ≡ true) × (is_home (step_at b.places s) ≡ false)
back b n k j c s i d how out g due lent =
    let w = out.each c (g.fewer c lent) in
    let o = w.out in
    let here : has n.lent o.cpu ≡ true = subst (λ z. has n.lent z ≡ true) (sym w.cpu_is) lent in
    let same = due_one n.head n.events o.seat k (Call o.seat o.cpu w.state o.inst o.dir o.how) (Call j c s i d how) g.lawful_then
    (g.due_stays w.state o here) due w.cpu_is in (
      ap (due_entry b.head b.events) (sym (ap seat_of same)) ∙ (o.due ∙ ap Some same),
      sym (ap called_in same) ∙ o.called,
      ap (λ z. is_home (step_at b.places z)) (sym (ap state_in same)) ∙ o.away,
    )

was : (b n : Contents) (s : ℕ) (p : IsOutFor n s) → AreOut b → Goes b n → (o : IsOutFor b s) × (o.cpu ≡ p.cpu)
was b n s p out g =
    let h = back b n p.seat p.seat p.cpu s p.inst p.dir p.how out g p.due p.lent in (
      record {
        seat = p.seat;
        cpu = p.cpu;
        inst = p.inst;
        dir = p.dir;
        how = p.how;
        due = h.0;
        called = p.called;
        lent = g.fewer p.cpu p.lent;
        away = h.2;
      },
      refl,
    )

pub out_stays : (b n : Contents) → AreOut b → Goes b n → AreOut n
out_stays b n out g =
    record {
      each = λ c lent.
          let w = out.each c (g.fewer c lent) in
          let here : has n.lent w.out.cpu ≡ true = subst (λ z. has n.lent z ≡ true) (sym w.cpu_is) lent in
          record {
            state = w.state;
            out = carried b n w.state w.out g here;
            cpu_is = w.cpu_is;
          };
      only = λ s away. let r = g.away_back s away in carried b n s r.0 g r.1;
      apart = λ s one other.
          let p = was b n s one out g in
          let q = was b n s other out g in
          sym p.1 ∙ (out.apart s p.0 q.0 ∙ q.1);
    }

-- what is lent
there_lent : (c i s : ℕ) (d : Dir) (place : Option Step) (step : Step) → place ≡ Some step → step.kept.home ≡ false →
    aside_at c s i d place ≡ Some (aside_of c (record { state = s; inst = i }) d step.kept.counts)
there_lent c i s d place step there away =
    ap (aside_at c s i d) there
    ∙ ap (λ h. cond h None (Some (aside_of c (record { state = s; inst = i }) d step.kept.counts))) away

loan_so : (b : Contents) (k c s i : ℕ) (d : Dir) (how : How) (step : Step) (a : Aside) →
    due_entry b.head b.events k ≡ Some (Call k c s i d how) → has b.lent c ≡ true → step_at b.places s ≡ Some step →
    step.kept.home ≡ false → a ≡ aside_of c (record { state = s; inst = i }) d step.kept.counts → loan b k ≡ Some a
loan_so b k c s i d how step a due lent there away is =
    ap (λ e. loan_of e b.lent b.places) due
    ∙ (ap (λ h. cond h (aside_at c s i d (step_at b.places s)) None) lent
    ∙ (there_lent c i s d (step_at b.places s) step there away ∙ ap Some (sym is)))

-- stays lent while its processor is among those that hooks are lent for
pub loan_on : (b n : Contents) (k : ℕ) (a : Aside) → AreOut b → Goes b n → loan b k ≡ Some a → has n.lent a.cpu ≡ true →
    loan n k ≡ Some a
loan_on b n k a out g is lent =
    let l = lent_to b k a is in
    let o = out_of b k a l g.lawful out in
    loan_so n k a.cpu l.state l.inst a.dir l.how l.step a (g.due_stays l.state o lent) lent (g.place_stays l.state o lent ∙ l.there)
    l.away l.aside_is

-- and what is lent then was so before
pub loan_back : (b n : Contents) (k : ℕ) (a : Aside) → AreOut b → Goes b n → loan n k ≡ Some a → loan b k ≡ Some a
loan_back b n k a out g is =
    let l = lent_to n k a is in
    let h = back b n k k a.cpu l.state l.inst a.dir l.how out g l.due l.lent in
    let o : IsOutFor b l.state = record {
      seat = k;
      cpu = a.cpu;
      inst = l.inst;
      dir = a.dir;
      how = l.how;
      due = h.0;
      called = h.1;
      lent = g.fewer a.cpu l.lent;
      away = h.2;
    } in
    loan_so b k a.cpu l.state l.inst a.dir l.how l.step a h.0 (g.fewer a.cpu l.lent) (sym (g.place_stays l.state o l.lent) ∙ l.there)
    l.away l.aside_is

pub loan_same : (b n : Contents) (k : ℕ) → AreOut b → Goes b n → ((a : Aside) → loan b k ≡ Some a → has n.lent a.cpu ≡ true) →
    loan n k ≡ loan b k
loan_same b n k out g still = go (loan b k) refl
  where
    none : (o : Option Aside) → loan n k ≡ o → loan b k ≡ None → loan n k ≡ None
    none None e is = e
    none (Some a) e is = absurd (none_some a (sym is ∙ loan_back b n k a out g e))

    go : (o : Option Aside) → loan b k ≡ o → loan n k ≡ o
    go None is = none (loan n k) refl is
    go (Some a) is = loan_on b n k a out g is (still a is)

-- a table whose called hook is home has away what it had, but there
away_before : (places : List (Option Step)) (t s : ℕ) (f : Step → Step) → ((step : Step) → (f step).kept.home ≡ true) →
    is_home (step_at (changed_at places t f) s) ≡ false → (t ≢ s) × (is_home (step_at places s) ≡ false)
away_before places t s f comes away =
    let apart : t ≢ s = λ same.
    let here : is_home (step_at (changed_at places t f) t) ≡ false =
    subst (λ z. is_home (step_at (changed_at places t f) z) ≡ false) (sym same) away in
    go (step_at places t) (sym (ap is_home (step_at-changed_same places t f)) ∙ here) in
    (apart, ap is_home (sym (step_at-set_other places t (changed f (step_at places t)) s apart)) ∙ away)
  where
    go : (place : Option Step) → is_home (changed f place) ≡ false → ⊥
    go None h = true≢false h
    go (Some step) h = true≢false (sym (comes step) ∙ h)

-- an event that calls no hook but one that is home leaves the table as it is where a hook is away
calls_here : (s i c : ℕ) (how : How) → is_called how ≡ true → (eqb s s && is_called how) ≡ true
calls_here s i c how called = let e = eq-eqb s s refl in rw (e, called) refl

place_after : (b : Contents) (s : ℕ) (o : IsOutFor b s) (e : Event) → IsLawful b.head b.events → AreOut b → Stands b.head b.events e →
    (calls_at s e ≡ true → is_home (step_at b.places s) ≡ true) →
    step_at (table_after b.head b.events e b.places) s ≡ step_at b.places s
place_after b s o (RegBegin k t op) lawful out stands calm =
    let calls = due_calls b.head b.events o.seat o.seat o.cpu s o.inst o.dir o.how o.due in
    absurd (no_registration_begins b.head b.events o.seat o.cpu s o.inst o.dir o.how k t op calls.0 stands.0)
place_after b s o (RegEnd k answer) lawful out stands calm =
    let calls = due_calls b.head b.events o.seat o.seat o.cpu s o.inst o.dir o.how o.due in
    absurd (no_registration_ends b.head b.events o.seat o.cpu s o.inst o.dir o.how k answer lawful calls.0 stands.0)
place_after b s o (Call k c t i d how) lawful out stands calm = go (is_called how) refl
  where
    apart : is_called how ≡ true → t ≢ s
    apart called same =
        let home = calm (ap (λ z. eqb z s && is_called how) same ∙ calls_here s i c how called) in
        true≢false (sym home ∙ o.away)

    go : (called : Bool) → is_called how ≡ called →
        step_at (cond called (changed_at b.places t (called_step (site_at c i d))) b.places) s ≡ step_at b.places s
    go true e = step_at-set_other b.places t (changed (called_step (site_at c i d)) (step_at b.places t)) s (apart e)
    go false e = refl
place_after b s o e lawful out stands calm = refl

not_home : (b : Bool) → b ≡ true → b ≡ false → ⊥
not_home true h a = true≢false a
not_home false h a = false≢true h

-- a hook that is away after an event was so before
away_back : (b : Contents) (s : ℕ) (e : Event) → IsLawful b.head b.events → AreOut b → Stands b.head b.events e →
    is_home (step_at (table_after b.head b.events e b.places) s) ≡ false → is_home (step_at b.places s) ≡ false
away_back b s (RegBegin k t op) lawful out stands away =
    absurd (not_home (is_home (step_at (table_after b.head b.events (RegBegin k t op) b.places) s))
    (home_after b.head b.events (RegBegin k t op) b.places (home_beside_begin b k t op out stands) s) away)
away_back b s (RegEnd k answer) lawful out stands away =
    absurd (not_home (is_home (step_at (table_after b.head b.events (RegEnd k answer) b.places) s))
    (home_after b.head b.events (RegEnd k answer) b.places (home_beside_end b k answer lawful out stands) s) away)
away_back b s (Call k c t i d how) lawful out stands away = go (is_called how) away
  where
    go : (called : Bool) → is_home (step_at (cond called (changed_at b.places t (called_step (site_at c i d))) b.places) s) ≡ false →
        is_home (step_at b.places s) ≡ false
    go true away = (away_before b.places t s (called_step (site_at c i d)) (λ step. refl) away).1
    go false away = away
away_back b s e lawful out stands away = away

lone : (s : ℕ) (k c i : ℕ) (d : Dir) (how : How) (e : Event) → calls_at s e ≡ false → calls_beside (Call k c s i d how) e ≡ false
lone s k c i d how e none = go (is_ap_state s)
  where
    go : (b : Bool) → (b && calls_at s e) ≡ false
    go true = none
    go false = refl

-- an event of a seat that nothing is lent to
pub goes_on : (b : Contents) (by : ℕ) (e : Event) → IsLawful b.head b.events → AreOut b → Stands b.head b.events e → seat_of e ≡ by →
    loan b by ≡ None → IsCalm b e → Goes b (with_event b e)
goes_on b by e lawful out stands by_is nothing calm =
    record {
      lawful = lawful;
      lawful_then = lawful_more b.head b.events e lawful stands;
      fewer = λ c lent. lent;
      due_stays = λ s o lent. stays s o;
      place_stays = λ s o lent. place_after b s o e lawful out stands (calm.1 s);
      away_back = λ s away. let o = out.only s (away_back b s e lawful out stands away) in (o, o.lent);
    }
  where
    not_beside : (s : ℕ) (o : IsOutFor b s) (c : Bool) → calls_at s e ≡ c → c ≡ false
    not_beside s o true is = absurd (true≢false (sym (calm.1 s is) ∙ o.away))
    not_beside s o false is = refl

    stays : (s : ℕ) (o : IsOutFor b s) →
        due_entry b.head (b.events ++ e ∷ []) o.seat ≡ Some (Call o.seat o.cpu s o.inst o.dir o.how)
    stays s o =
        let apart : seat_of e ≢ o.seat = λ same. not_mine b by s o nothing (sym same ∙ by_is) in
        due_stays b.head b.events o.seat (Call o.seat o.cpu s o.inst o.dir o.how) e lawful o.due stands apart (calm.0 s o)
        (lone s o.seat o.cpu o.inst o.dir o.how e (not_beside s o (calls_at s e) refl))

pub loans_stay : (b : Contents) (by : ℕ) (e : Event) → IsLawful b.head b.events → AreOut b → Stands b.head b.events e →
    seat_of e ≡ by → loan b by ≡ None → IsCalm b e → (k : ℕ) → loan (with_event b e) k ≡ loan b k
loans_stay b by e lawful out stands by_is nothing calm k =
    loan_same b (with_event b e) k out (goes_on b by e lawful out stands by_is nothing calm) (λ a is. (lent_to b k a is).lent)

-- without one processor
abbrev pub TakenFrom : (old new : CpuSet) → (cpu : ℕ) → Type 0
TakenFrom old new c = (d : ℕ) → has new d ≡ (not (eqb d c) && has old d)

still_in : (old new : CpuSet) (c d : ℕ) → TakenFrom old new c → d ≢ c → has old d ≡ true → has new d ≡ true
still_in old new c d taken apart is = let e = ne_eqb d c apart in taken d ∙ rw (e, is) refl

was_in : (old new : CpuSet) (c d : ℕ) → TakenFrom old new c → has new d ≡ true → (d ≢ c) × (has old d ≡ true)
was_in old new c d taken is =
    let p = and_parts (not (eqb d c)) (has old d) (sym (taken d) ∙ is) in
    (λ same. true≢false (sym p.0 ∙ ap not (eq-eqb d c same)), p.1)

pub taken_out : (old new : CpuSet) (c : ℕ) → TakenFrom old new c → has new c ≡ true → ⊥
taken_out old new c taken is = (was_in old new c c taken is).0 refl

-- the hook of a seat comes home, and the entry is made by its answer
given_lent : (b : Contents) (by : ℕ) (a : Aside) (lent : CpuSet) → IsLawful b.head b.events → AreOut b → (l : IsLent b by a) →
    Stands b.head b.events (Call by a.cpu l.state l.inst a.dir l.how) → TakenFrom b.lent lent a.cpu →
    Goes b (with_event (record b { lent = lent }) (Call by a.cpu l.state l.inst a.dir l.how))
given_lent b by a lent lawful out l stands taken =
    record {
      lawful = lawful;
      lawful_then = lawful_more b.head b.events (Call by a.cpu l.state l.inst a.dir l.how) lawful stands;
      fewer = λ c still. (was_in b.lent lent a.cpu c taken still).1;
      due_stays = λ s o still.
          let e = Call by a.cpu l.state l.inst a.dir l.how in
          let other = (was_in b.lent lent a.cpu o.cpu taken still).0 in
          let apart : by ≢ o.seat = λ same. other (other_seat s o same) in
          due_stays b.head b.events o.seat (Call o.seat o.cpu s o.inst o.dir o.how) e lawful o.due stands apart
          (disarms_not b.events o.seat o.cpu s o.inst o.dir o.how e refl)
          (lone s o.seat o.cpu o.inst o.dir o.how e (not_here s o other (eqb l.state s) refl));
      place_stays = λ s o still. at_other s (λ same. (was_in b.lent lent a.cpu o.cpu taken still).0 (here s o same));
      away_back = λ s away.
          let w = before s away in
          let o = out.only s w.1 in
          (o, still_in b.lent lent a.cpu o.cpu taken (λ same. w.0 (state_is s o same)) o.lent);
    }
  where
    called : is_called l.how ≡ true
    called = (out_of b by a l lawful out).called

    other_seat : (s : ℕ) (o : IsOutFor b s) → by ≡ o.seat → o.cpu ≡ a.cpu
    other_seat s o same =
        let both = sym o.due ∙ (ap (due_entry b.head b.events) (sym same) ∙ l.due) in
        ap cpu_of (same_some (Call o.seat o.cpu s o.inst o.dir o.how) (Call by a.cpu l.state l.inst a.dir l.how) both)

    here : (s : ℕ) (o : IsOutFor b s) → l.state ≡ s → o.cpu ≡ a.cpu
    here s o same =
        out.apart s o
        (record {
          seat = by;
          cpu = a.cpu;
          inst = l.inst;
          dir = a.dir;
          how = l.how;
          due = l.due ∙ ap (λ z. Some (Call by a.cpu z l.inst a.dir l.how)) same;
          called = called;
          lent = l.lent;
          away = ap (λ z. is_home (step_at b.places z)) (sym same) ∙ (ap is_home l.there ∙ l.away);
        })

    not_here : (s : ℕ) (o : IsOutFor b s) → o.cpu ≢ a.cpu → (x : Bool) → eqb l.state s ≡ x → (eqb l.state s && is_called l.how) ≡ false
    not_here s o other true is = absurd (other (here s o (eqb-true l.state s is)))
    not_here s o other false is = ap (λ x. x && is_called l.how) is

    table : table_after b.head b.events (Call by a.cpu l.state l.inst a.dir l.how) b.places
        ≡ changed_at b.places l.state (called_step (site_at a.cpu l.inst a.dir))
    table = ap (λ z. cond z (changed_at b.places l.state (called_step (site_at a.cpu l.inst a.dir))) b.places) called

    at_other : (s : ℕ) → l.state ≢ s →
        step_at (table_after b.head b.events (Call by a.cpu l.state l.inst a.dir l.how) b.places) s ≡ step_at b.places s
    at_other s apart =
        ap (λ p. step_at p s) table
        ∙ step_at-set_other b.places l.state (changed (called_step (site_at a.cpu l.inst a.dir)) (step_at b.places l.state)) s apart

    before : (s : ℕ) → is_home (step_at (table_after b.head b.events (Call by a.cpu l.state l.inst a.dir l.how) b.places) s) ≡ false →
        (l.state ≢ s) × (is_home (step_at b.places s) ≡ false)
    before s away =
        away_before b.places l.state s (called_step (site_at a.cpu l.inst a.dir)) (λ step. refl)
        (sym (ap (λ p. is_home (step_at p s)) table) ∙ away)

    state_is : (s : ℕ) (o : IsOutFor b s) → o.cpu ≡ a.cpu → l.state ≡ s
    state_is s o same =
        ap state_in
        (due_one b.head b.events by o.seat (Call by a.cpu l.state l.inst a.dir l.how) (Call o.seat o.cpu s o.inst o.dir o.how) lawful l.due
        o.due (sym same))

pub given : (b : Contents) (by : ℕ) (a : Aside) (e : Event) (lent : CpuSet) → IsLawful b.head b.events → AreOut b → loan b by ≡ Some a →
    due_entry b.head b.events by ≡ Some e → Stands b.head b.events e → TakenFrom b.lent lent a.cpu →
    Goes b (with_event (record b { lent = lent }) e)
given b by a e lent lawful out is due stands taken =
    let l = lent_to b by a is in
    let same = same_some (Call by a.cpu l.state l.inst a.dir l.how) e (sym l.due ∙ due) in
    subst (λ x. Goes b (with_event (record b { lent = lent }) x)) same
    (given_lent b by a lent lawful out l (subst (Stands b.head b.events) (sym same) stands) taken)

-- nothing is lent to it then, and what is lent to others stays so
pub given_home : (b n : Contents) (by : ℕ) (a : Aside) → AreOut b → Goes b n → loan b by ≡ Some a → TakenFrom b.lent n.lent a.cpu →
    loan n by ≡ None
given_home b n by a out g is taken = go (loan n by) refl
  where
    go : (o : Option Aside) → loan n by ≡ o → o ≡ None
    go None e = refl
    go (Some x) e =
        let was = loan_back b n by x out g e in
        let same = same_some x a (sym was ∙ is) in
        absurd (taken_out b.lent n.lent a.cpu taken (subst (λ (z : Aside). has n.lent z.cpu ≡ true) same (lent_to n by x e).lent))

pub given_others : (b n : Contents) (by k : ℕ) (a : Aside) → AreOut b → Goes b n → loan b by ≡ Some a → TakenFrom b.lent n.lent a.cpu →
    k ≢ by → loan n k ≡ loan b k
given_others b n by k a out g is taken other = loan_same b n k out g still
  where
    still : (x : Aside) → loan b k ≡ Some x → has n.lent x.cpu ≡ true
    still x at =
        let l = lent_to b k x at in
        let m = lent_to b by a is in
        still_in b.lent n.lent a.cpu x.cpu taken
        (λ same. other
        (ap seat_of
        (due_one b.head b.events k by (Call k x.cpu l.state l.inst x.dir l.how) (Call by a.cpu m.state m.inst a.dir m.how) g.lawful l.due m.due same)))
        l.lent
