-- The text that a tally makes is the summary.
use Rattle.std.proofs.Common.{◌≡◌, ℕ, zero, suc, Bool, true, false, if◌then◌else◌, ◌+◌, ◌<◌, Option, Some, None, List, [], ◌∷◌, ◌++◌, map, filter, length, refl, ap, sym, ◌∙◌, arith}
use Rattle.std.specs.List.{flat_map}
use Rattle.std.proofs.lemmas.List.{flat_map_more}
use Rattle.hp_states.specs.declared.limits.TheConstants.{ONLINE}
use Rattle.hp_event.specs.declared.key.Key.{Key}
use Rattle.hp_event.specs.declared.event.Event.{Event}
use Rattle.hp_event.specs.declared.head.Head.{Head}
use Rattle.hp_model.specs.Lists.{numbers}
use Rattle.hp_model.specs.Registered.{Registered, registered}
use Rattle.hp_model.specs.Suspend.{disabled, frozen}
use Rattle.hp_model.specs.Net.{is_key_in_force, entered, keys_in_force}
use Rattle.hp_model.specs.Summary.{cpu_line, cpu_lines, disabled_line, recorded, frozen_line, sub_line, sub_line_at, sub_lines_below, ops_line, events_line, summary}
use Rattle.hp_print.specs.declared.tally.Tally.{Tally}
use Rattle.hp_print.specs.declared.processor_tally.ProcessorTally.{ProcessorTally}
use Rattle.hp_print.specs.declared.state_tally.StateTally.{StateTally}
use Rattle.hp_print.specs.declared.answer_counts.AnswerCounts.{AnswerCounts}
use Rattle.hp_print.specs.Tallies.{count_of, counts_of, sub_of, IsProcessorTally, IsStateTally, IsAnswerCounts, IsTally}
use Rattle.hp_print.specs.TallyText.{is_counted, keys_of, cpu_text, cpus_text, disabled_text, frozen_text, sub_text, registered_text, subs_text, ops_text, events_text, tally_text}

keys_counted : (c : ℕ) (events : List Event) (ks : List Key) →
    keys_of (map (count_of c events) ks) ≡ filter (is_key_in_force c events) ks
keys_counted c events [] = refl
keys_counted c events (k ∷ ks) = go (is_key_in_force c events k) (keys_counted c events ks) where
  go : (b : Bool) → keys_of (map (count_of c events) ks) ≡ filter (is_key_in_force c events) ks →
      map (λ x. x.key)
      (if b
      then count_of c events k ∷ filter is_counted (map (count_of c events) ks)
      else filter is_counted (map (count_of c events) ks))
      ≡ (if b then k ∷ filter (is_key_in_force c events) ks else filter (is_key_in_force c events) ks)
  go true h = ap (λ ys. k ∷ ys) h
  go false h = h

pub keys_same : (c : ℕ) (events : List Event) → keys_of (counts_of c events) ≡ keys_in_force c events
unfolding counts_of keys_in_force
keys_same c events = keys_counted c events (entered c events)

-- what functions that agree below a number make of the numbers below it, one behind the other
pub below : {X : Type 0} (f g : ℕ → List X) (n : ℕ) → ((k : ℕ) → k < n → f k ≡ g k) → flat_map f (numbers n) ≡ flat_map g (numbers n)
below f g zero h = refl
below f g (suc n) h =
    let rest : flat_map f (numbers n) ≡ flat_map g (numbers n) = below f g n (λ k b. h k (omega arith)) in
    sym (flat_map_more f [] (numbers n) n)
    ∙ ap (λ ys. ys ++ f n) rest
    ∙ ap (λ ys. flat_map g (numbers n) ++ ys) (h n (omega arith))
    ∙ flat_map_more g [] (numbers n) n

cpu_same : (head : Head) (events : List Event) (w : ProcessorTally) (c : ℕ) → IsProcessorTally head.possible events w →
    c < head.possible → cpu_text head w c ≡ cpu_line head events c
unfolding cpu_text cpu_line
cpu_same head events w c h b = rw (h.settled_is c b, h.keys_is c b, keys_same c events) refl

cpus_same : (head : Head) (events : List Event) (w : ProcessorTally) → IsProcessorTally head.possible events w →
    cpus_text head w ≡ cpu_lines head events
unfolding cpus_text cpu_lines
cpus_same head events w h =
    below (cpu_text head w) (cpu_line head events) head.possible (λ c b. cpu_same head events w c h b)

sub_same : (head : Head) (events : List Event) (t : StateTally) (n s : ℕ) → IsStateTally head n events t → s < n →
    sub_text head t s ≡ sub_line_at head events s
unfolding sub_text
sub_same head events t n s h b = rw (h.sub_is s b) (go (registered head s events) refl) where
  go : (r : Option Registered) → registered head s events ≡ r → registered_text head t s (sub_of r) ≡ sub_line head events s r
  go None e = refl
  go (Some r) e = rw (h.made_is s b, h.faults_is s b, h.insts_is s b, e) refl

subs_same : (head : Head) (events : List Event) (t : StateTally) (n : ℕ) → IsStateTally head n events t →
    subs_text head t n ≡ sub_lines_below head events n
unfolding subs_text sub_lines_below
subs_same head events t n h =
    below (sub_text head t) (sub_line_at head events) n (λ s b. sub_same head events t n s h b)

ops_same : (events : List Event) (a : AnswerCounts) → IsAnswerCounts events a → ops_text a ≡ ops_line events
unfolding ops_text ops_line
ops_same events a h = rw (h.ok_is, h.refused_is, h.fault_is, h.stuck_is, h.full_is) refl

disabled_same : (events : List Event) (n : ℕ) → n ≡ disabled events → disabled_text n ≡ disabled_line events
unfolding disabled_text disabled_line
disabled_same events n e = ap disabled_text e

frozen_same : (head : Head) (events : List Event) (xs : List ℕ) → xs ≡ frozen events →
    frozen_text head.possible xs ≡ frozen_line head events
unfolding frozen_text frozen_line recorded
frozen_same head events xs e = ap (frozen_text head.possible) e

events_same : (events : List Event) → events_text (length events) ≡ events_line events
unfolding events_text events_line
events_same events = refl

pub tally_same : (head : Head) (events : List Event) (t : Tally) → IsTally head events t →
    tally_text head t (length events) ≡ summary head events
unfolding tally_text summary
tally_same head events t h =
    let p = cpus_same head events t.processors h.processors_is in
    let q = disabled_same events t.suspended.disabled h.suspended_is.disabled_is in
    let r = frozen_same head events t.suspended.frozen.items h.suspended_is.frozen_is in
    let s = subs_same head events t.states (ONLINE + 1) h.states_is in
    let u = ops_same events t.answers h.answers_is in
    let v = events_same events in
    cc
