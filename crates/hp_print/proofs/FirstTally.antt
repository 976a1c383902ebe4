-- The tally of no events.
use Rattle.std.proofs.Common.{◌≡◌, ℕ, zero, suc, ◌<◌, ◌==◌, if◌then◌else◌, None, [], get_or, set, replicate, refl, sym, ◌∙◌, arith}
use Rattle.std.proofs.lemmas.List.{length-set, length-replicate, get_or-replicate}
use Rattle.std.proofs.lemmas.Bool.Decides.{nat_tests}
use Rattle.hp_event.specs.declared.head.Head.{Head}
use Rattle.hp_model.specs.Settled.{settled}
use Rattle.hp_model.specs.Walks.{walk}
use Rattle.hp_model.specs.Registrations.{registration}
use Rattle.hp_model.specs.Registered.{registered}
use Rattle.hp_model.specs.Calls.{sites}
use Rattle.hp_model.specs.Net.{entered}
use Rattle.hp_model.specs.Summary.{hook_faults}
use Rattle.hp_print.specs.declared.processor_tally.ProcessorTally.{ProcessorTally}
use Rattle.hp_print.specs.declared.state_tally.StateTally.{StateTally}
use Rattle.hp_print.specs.Counts.{AreInOrder}
use Rattle.hp_print.specs.Tallies.{counts_of, IsProcessorTally, IsStateTally}
use Rattle.hp_print.proofs.ProcessorTallyStep.{get_or-set}

no_counts : (c : ℕ) → counts_of c [] ≡ []
unfolding counts_of entered
no_counts c = refl

settled_first : (n c : ℕ) → c < n → get_or (set (replicate n 0) 0 200) c 0 ≡ settled c []
unfolding settled
settled_first n c h =
    rw (get_or-set {X = ℕ} (replicate n 0) 0 c 200 0 (rw (length-replicate {A = ℕ} n 0) h), get_or-replicate {A = ℕ} n c 0 0 h) (go c) where
      go : (c : ℕ) → ◌≡◌ {A = ℕ} (if 0 == c then 200 else 0) (if c == 0 then 200 else 0)
      go zero = refl
      go (suc c) = grind (arith, nat_tests)

in_order_first : (n c : ℕ) → AreInOrder (get_or (replicate n []) c [])
in_order_first zero c = tt
in_order_first (suc n) zero = tt
in_order_first (suc n) (suc c) = in_order_first n c

pub first_processors : (n : ℕ) (w : ProcessorTally) → w.settled.items ≡ set (replicate n 0) 0 200 →
    w.targets.items ≡ replicate n None → w.keys.items ≡ replicate n [] → IsProcessorTally n [] w
unfolding walk
first_processors n w p q r = record {
  as_many_settled = rw p (length-set {A = ℕ} (replicate n 0) 0 200 ∙ length-replicate {A = ℕ} n 0);
  as_many_targets = rw q (length-replicate n None);
  as_many_keys = rw r (length-replicate n []);
  settled_is = λ c h. rw p (settled_first n c h);
  target_is = λ c h. rw q (get_or-replicate n c None None h);
  keys_is = λ c h. rw r (get_or-replicate n c [] [] h ∙ sym (no_counts c));
  order = λ c. rw r (in_order_first n c);
}

pub first_states : (head : Head) (n : ℕ) (t : StateTally) → t.asked ≡ None → t.subs.items ≡ replicate n None →
    t.insts.items ≡ replicate n [] → t.made.items ≡ replicate n 0 → t.faults.items ≡ replicate n 0 →
    IsStateTally head n [] t
unfolding registration registered sites hook_faults
first_states head n t a p q r k = record {
  as_many_subs = rw p (length-replicate n None);
  as_many_insts = rw q (length-replicate n []);
  as_many_made = rw r (length-replicate {A = ℕ} n 0);
  as_many_faults = rw k (length-replicate {A = ℕ} n 0);
  asked = a;
  sub_is = λ s h. rw p (get_or-replicate n s None None h);
  insts_is = λ s h. rw q (get_or-replicate n s [] [] h);
  made_is = λ s h. rw r (get_or-replicate {A = ℕ} n s 0 0 h);
  faults_is = λ s h. rw k (get_or-replicate {A = ℕ} n s 0 0 h);
}
