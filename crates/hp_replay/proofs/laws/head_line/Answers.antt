use Rattle.std.proofs.Common.{◌≡◌, ℕ, List, [], ◌∷◌, Some, ap, sym, ◌∙◌}
use Rattle.std.specs.Prelude.{codes}
use Rattle.hp_states.specs.declared.plan.Rule.{Rule}
use Rattle.hp_event.specs.declared.head.Sub.{Sub}
use Rattle.hp_model.specs.Words.{line, name_word, calls_word, kind_word}
use Rattle.hp_model.specs.Heads.{IsName, IsRule}
use Rattle.hp_model.specs.JournalText.{rule_line}
use Rattle.hp_replay.specs.HeadLines.{a_sub, a_rule, the_events, head_line_at}
use Rattle.hp_replay.proofs.HeadLaws.{head_takes, sub_again, rule_again, events_again}
use Rattle.hp_replay.proofs.laws.head_line.Goals as goal

abbrev spelling : Sub → List ℕ
spelling sub = line (codes "sub" ∷ name_word sub.name ∷ calls_word sub.up sub.down ∷ kind_word sub.multi ∷ [])

sub_takes : (l : List ℕ) (sub : Sub) → head_line_at l ≡ Some (a_sub sub) → IsName sub.name × (sub.plan ≡ []) × (l ≡ spelling sub)
sub_takes l sub h = let t = head_takes l (a_sub sub) h in (t.1.0, t.1.1, t.0)

sub_reads : (l : List ℕ) (sub : Sub) → IsName sub.name × (sub.plan ≡ []) × (l ≡ spelling sub) → head_line_at l ≡ Some (a_sub sub)
sub_reads l sub h = ap head_line_at h.2 ∙ sub_again sub h.0 ∙ ap (λ (p : List Rule). Some (a_sub (record sub { plan = p }))) (sym h.1)

rule_takes : (l : List ℕ) (rule : Rule) → head_line_at l ≡ Some (a_rule rule) → IsRule rule × (l ≡ rule_line rule)
rule_takes l rule h = let t = head_takes l (a_rule rule) h in (t.1, t.0)

rule_reads : (l : List ℕ) (rule : Rule) → IsRule rule × (l ≡ rule_line rule) → head_line_at l ≡ Some (a_rule rule)
rule_reads l rule h = ap head_line_at h.1 ∙ rule_again rule h.0

events_reads : (l : List ℕ) → l ≡ line (codes "events" ∷ []) → head_line_at l ≡ Some the_events
events_reads l h = ap head_line_at h ∙ events_again

pub returns-clause-sub : goal.returns-clause-sub
returns-clause-sub c = λ sub. (λ h. sub_takes c.args.bytes.now sub h, λ h. sub_reads c.args.bytes.now sub h)

pub returns-clause-rule : goal.returns-clause-rule
returns-clause-rule c = λ rule. (λ h. rule_takes c.args.bytes.now rule h, λ h. rule_reads c.args.bytes.now rule h)

pub returns-clause-events : goal.returns-clause-events
returns-clause-events c = (λ h. (head_takes c.args.bytes.now the_events h).0, λ h. events_reads c.args.bytes.now h)
