-- The value that a tally makes is the report.
use Rattle.std.proofs.Common.{◌≡◌, ℕ, zero, suc, ◌+◌, ◌<◌, Bool, true, false, if◌then◌else◌, Option, Some, None, List, [], ◌∷◌, ◌++◌, map, length, refl, ap, sym, ◌∙◌, arith}
use Rattle.std.specs.List.{flat_map}
use Rattle.std.proofs.lemmas.List.{map-append, append-nil}
use Rattle.std.proofs.lemmas.List.Elements.{filter-append}
use Rattle.serde_json.specs.Data.{Data, array}
use Rattle.serde_json.specs.View.{items_of, view}
use Rattle.serde_json.specs.declared.value.Value.{Value}
use Rattle.hp_states.specs.declared.limits.TheConstants.{ONLINE}
use Rattle.hp_event.specs.declared.event.Event.{Event}
use Rattle.hp_event.specs.declared.head.Head.{Head}
use Rattle.hp_model.specs.Heads.{IsHead}
use Rattle.hp_model.specs.Lists.{among, numbers}
use Rattle.hp_model.specs.Registered.{Registered, registered}
use Rattle.hp_model.specs.Summary.{recorded}
use Rattle.hp_model.specs.Suspend.{frozen}
use Rattle.hp_print.specs.declared.tally.Tally.{Tally}
use Rattle.hp_print.specs.declared.processor_tally.ProcessorTally.{ProcessorTally}
use Rattle.hp_print.specs.declared.state_tally.StateTally.{StateTally}
use Rattle.hp_print.specs.Report.{whole, array_of, cpu_report, registered_report, sub_report, report}
use Rattle.hp_print.specs.Tallies.{sub_of, IsProcessorTally, IsStateTally, IsTally}
use Rattle.hp_print.specs.TallyReport.{cpu_tallied, frozen_tallied, registered_tallied, sub_tallied, subs_tallied, tallied}
use Rattle.hp_print.proofs.NameText.{name_text}
use Rattle.hp_print.proofs.SummaryText.{keys_same, below}

-- what functions that agree below a number make of the numbers below it
each_below : {X : Type 0} (f g : ℕ → X) (n : ℕ) → ((k : ℕ) → k < n → f k ≡ g k) → map f (numbers n) ≡ map g (numbers n)
each_below f g zero h = refl
each_below f g (suc n) h =
    map-append f (numbers n) (n ∷ [])
    ∙ ap (λ ys. ys ++ f n ∷ []) (each_below f g n (λ k b. h k (omega arith)))
    ∙ ap (λ y. map g (numbers n) ++ y ∷ []) (h n (omega arith))
    ∙ sym (map-append g (numbers n) (n ∷ []))

cpu_same : (head : Head) (events : List Event) (w : ProcessorTally) (c : ℕ) → IsProcessorTally head.possible events w →
    c < head.possible → cpu_tallied head w c ≡ cpu_report head events c
unfolding cpu_tallied cpu_report
cpu_same head events w c h b = rw (h.settled_is c b, h.keys_is c b, keys_same c events) refl

cpus_same : (head : Head) (events : List Event) (w : ProcessorTally) → IsProcessorTally head.possible events w →
    array_of (cpu_tallied head w) (numbers head.possible) ≡ array_of (cpu_report head events) (numbers head.possible)
cpus_same head events w h =
    ap (λ (ds : List Data). array (items_of ds))
    (each_below (cpu_tallied head w) (cpu_report head events) head.possible (λ c b. cpu_same head events w c h b))

sub_same : (head : Head) (events : List Event) (t : StateTally) (n s : ℕ) → IsHead head → IsStateTally head n events t →
    s < n → sub_tallied head t s ≡ sub_report head events s
unfolding sub_tallied
sub_same head events t n s is h b = rw (h.sub_is s b) (go (registered head s events) refl) where
  go : (r : Option Registered) → registered head s events ≡ r →
      registered_tallied head t s (sub_of r) ≡ registered_report head events s r
  go None e = refl
  go (Some r) e = rw (h.made_is s b, h.faults_is s b, h.insts_is s b, e, name_text head r.sub is) refl

subs_same : (head : Head) (events : List Event) (t : StateTally) (n : ℕ) → IsHead head → IsStateTally head n events t →
    subs_tallied head t n ≡ array (items_of (flat_map (sub_report head events) (numbers n)))
unfolding subs_tallied
subs_same head events t n is h =
    ap (λ (ds : List Data). array (items_of ds))
    (below (sub_tallied head t) (sub_report head events) n (λ s b. sub_same head events t n s is h b))

frozen_same : (head : Head) (events : List Event) (xs : List ℕ) → xs ≡ frozen events →
    frozen_tallied head.possible xs ≡ recorded head events
unfolding recorded
frozen_same head events xs e = ap (frozen_tallied head.possible) e

pub report_same : (head : Head) (events : List Event) (t : Tally) → IsHead head → IsTally head events t →
    tallied head t (length events) ≡ report head events
unfolding tallied report
report_same head events t is h =
    let p = cpus_same head events t.processors h.processors_is in
    let q = h.suspended_is.disabled_is in
    let r = frozen_same head events t.suspended.frozen.items h.suspended_is.frozen_is in
    let s = subs_same head events t.states (ONLINE + 1) is h.states_is in
    cc

-- one processor more is looked at
frozen_more : (frozen : List ℕ) (k : ℕ) → frozen_tallied (k + 1) frozen ≡ frozen_tallied k frozen ++ (if among k frozen then k ∷ [] else [])
frozen_more frozen k = ap (λ n. frozen_tallied n frozen) next ∙ filter-append (λ c. among c frozen) (numbers k) (k ∷ [])
  where
    next : k + 1 ≡ suc k
    next = omega arith

-- and is frozen, or isn't
pub one_more_frozen : (frozen : List ℕ) (k : ℕ) (values more : List Value) (value : Value) → among k frozen ≡ true →
    map view values ≡ map whole (frozen_tallied k frozen) → more ≡ values ++ value ∷ [] → view value ≡ whole k →
    map view more ≡ map whole (frozen_tallied (k + 1) frozen)
one_more_frozen frozen k values more value there h grown is =
    ap (map view) grown
    ∙ map-append view values (value ∷ [])
    ∙ ap (λ ds. ds ++ view value ∷ []) h
    ∙ ap (λ d. map whole (frozen_tallied k frozen) ++ d ∷ []) is
    ∙ sym (map-append whole (frozen_tallied k frozen) (k ∷ []))
    ∙ ap (map whole) (sym (frozen_more frozen k ∙ ap (λ (b : Bool). frozen_tallied k frozen ++ (if b then k ∷ [] else [])) there))

pub none_more_frozen : (frozen : List ℕ) (k : ℕ) → among k frozen ≡ false → frozen_tallied k frozen ≡ frozen_tallied (k + 1) frozen
none_more_frozen frozen k away =
    sym
    (frozen_more frozen k
    ∙ ap (λ (b : Bool). frozen_tallied k frozen ++ (if b then k ∷ [] else [])) away
    ∙ append-nil (frozen_tallied k frozen))
