-- The entry of a processor that a hook is lent for, by what the machine says of the entries that are due.
use Rattle.std.proofs.Common.{◌≡◌, ℕ, ◌<◌, ◌≤◌, true, Option, Some, None, IfSome, IfNone, ap, sym, ◌∙◌, arith}
use Rattle.hp_states.proofs.Basics.{same_some, some_none}
use mathlib.Core.Logic.{dite}
use native.Mathlib.Decide.{ℕ_discrete}
use Rattle.hp_states.specs.CpuSets.{has}
use Rattle.hp_event.specs.declared.event.Event.TheVariants.{Call}
use Rattle.hp_model.specs.How.{answer_at}
use Rattle.hp_model.specs.Lawful.{IsLawful}
use Rattle.hp_model.specs.Lent.{cpu_of}
use Rattle.hp_model.specs.NextEvent.{due_entry}
use Rattle.hp_model.proofs.DueGives.{due_stands}
use Rattle.hp_account.specs.declared.under_way.Entry.{Entry}
use Rattle.hp_account.specs.Entries.{entry_event, how_by}
use Rattle.hp_account.specs.UnderWay.{IsDueOn, NoneDue}
use Rattle.hp_board.specs.Contents.{Contents}
use Rattle.hp_board.specs.Loans.{AreOut, IsOutFor}
use Rattle.hp_board.proofs.Below.{lent_possible}
use Rattle.hp_board.proofs.Loans.{out_there}

-- an entry of it is due
is_due : (b : Contents) (c : ℕ) → AreOut b → has b.lent c ≡ true → (seat : ℕ) × IsDueOn b.head b.events c seat
is_due b c out lent =
    let w = out.each c lent in
    let o = w.out in
    (o.seat, record { entry = Call o.seat o.cpu w.state o.inst o.dir o.how; due = o.due; cpu_is = w.cpu_is })

pub never_none : (b : Contents) (c : ℕ) → IsLawful b.head b.events → AreOut b → has b.lent c ≡ true →
    NoneDue b.head b.events c b.head.possible → ⊥
never_none b c lawful out lent none =
    let d = is_due b c out lent in
    let here : c ≤ c = omega arith in
    none c d.0 here (lent_possible b c lawful out lent) d.1

first_is : (b : Contents) (c d : ℕ) → AreOut b → has b.lent c ≡ true → c ≤ d → NoneDue b.head b.events c d → d ≡ c
first_is b c d out lent from none = dite (ℕ_discrete d c) (λ same. same)
    (λ other. let at = is_due b c out lent in
    let here : c ≤ c = omega arith in
    let below : c < d = omega (arith, from, other) in
    absurd (none c at.0 here below at.1))

-- the first that is due from it on is that
pub entry_found : (b : Contents) (c d k : ℕ) (x : Entry) → AreOut b → has b.lent c ≡ true →
    (c ≤ d) × IsDueOn b.head b.events d k × NoneDue b.head b.events c d →
    due_entry b.head b.events k ≡ Some (entry_event b.head b.events x) →
    (due_entry b.head b.events x.seat ≡ Some (entry_event b.head b.events x)) × (x.cpu ≡ c)
entry_found b c d k x out lent found due =
    let e = entry_event b.head b.events x in
    let seat : x.seat ≡ k = (due_stands b.head b.events k e due).2 in
    let same = same_some e found.1.entry (sym due ∙ found.1.due) in (
      ap (due_entry b.head b.events) seat ∙ due,
      ap cpu_of same ∙ (found.1.cpu_is ∙ first_is b c d out lent found.0 found.2),
    )

pub entry_there : (b : Contents) (c d k : ℕ) → (c ≤ d) × IsDueOn b.head b.events d k × NoneDue b.head b.events c d →
    due_entry b.head b.events k ≡ None → ⊥
entry_there b c d k found none = some_none found.1.entry (sym found.1.due ∙ none)

-- its hook is out for it
pub out_entry : (b : Contents) (c : ℕ) (x : Entry) → IsLawful b.head b.events → AreOut b → has b.lent c ≡ true →
    due_entry b.head b.events x.seat ≡ Some (entry_event b.head b.events x) → x.cpu ≡ c → (o : IsOutFor b x.key.state) × (o.cpu ≡ c)
out_entry b c x lawful out lent due same =
    let how = how_by x (answer_at b.head b.events x.cpu x.key.state x.key.inst x.dir) in
    let here : has b.lent x.cpu ≡ true = ap (has b.lent) same ∙ lent in
    let h = out_there b x.seat x.seat x.cpu x.key.state x.key.inst x.dir how lawful out due here in (
      record {
        seat = x.seat;
        cpu = x.cpu;
        inst = x.key.inst;
        dir = x.dir;
        how = how;
        due = due;
        called = h.1;
        lent = here;
        away = h.0;
      },
      same,
    )

pub on_some : (P Q : ℕ → Type 0) (o : Option ℕ) → ((s : ℕ) → P s → Q s) → IfSome o P → IfSome o Q
on_some P Q None f h = tt
on_some P Q (Some s) f h = f s h

pub on_none : {A : Type 0} (P Q : Type 0) (o : Option A) → (P → Q) → IfNone o P → IfNone o Q
on_none P Q None f h = f h
on_none P Q (Some s) f h = tt
