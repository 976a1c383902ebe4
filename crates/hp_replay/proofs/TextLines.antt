-- The lines of a journal's text.
use Rattle.std.proofs.Common.{◌≡◌, ℕ, ◌+◌, ◌^◌, ◌≤◌, true, not, ltb, List, [], ◌∷◌, ◌++◌, length, refl, sym, ap, subst, ◌∙◌, append_assoc, arith}
use Rattle.std.specs.Prelude.{codes}
use Rattle.std.specs.List.{flat_map, AllByRecursion, All}
use Rattle.std.proofs.lemmas.Bool.{and_parts, not-true}
use Rattle.std.proofs.lemmas.List.{append-nil, length-append}
use Rattle.std.proofs.lemmas.List.Elements.{recursion_from_All}
use Rattle.hp_states.specs.declared.plan.Rule.{Rule}
use Rattle.hp_event.specs.declared.head.Sub.{Sub}
use Rattle.hp_event.specs.declared.head.Head.{Head}
use Rattle.hp_event.specs.declared.event.Event.{Event}
use Rattle.hp_model.specs.Lists.{among}
use Rattle.hp_model.specs.Words.{line}
use Rattle.hp_model.specs.Heads.{IsHead, IsSub, IsRule}
use Rattle.hp_model.specs.EventLine.{event_words, event_line}
use Rattle.hp_model.specs.JournalText.{rule_line, sub_lines, processor_lines, version_word, title_line, head_text, event_lines, journal_text}
use Rattle.hp_model.proofs.Rising.{Rise}
use Rattle.hp_event.specs.declared.version.Version.{Version}
use Rattle.hp_event.specs.declared.version.Version.TheVariants.{One, Two}
use Rattle.hp_model.specs.OperationNumber.{operation_number}
use Rattle.hp_print.proofs.OperationNumbersLaws.{operations_few}
use Rattle.hp_event.specs.Events.{seat_of}
use Rattle.hp_states.specs.declared.limits.TheConstants.{MAX_EVENTS}
use Rattle.hp_replay.specs.Versions.{most_cpus}
use Rattle.hp_replay.specs.Fits.{EventFits}
use Rattle.hp_replay.specs.InputLines.{lines_of}
use Rattle.hp_replay.specs.HeadLines.{a_sub, a_rule}
use Rattle.hp_replay.proofs.LineLaws.{all_free}
use Rattle.hp_replay.proofs.InputLaws.{line_first}
use Rattle.hp_replay.proofs.EventAgain.{event_free}
use Rattle.hp_replay.proofs.AbsentLaws.{absent_rise}
use Rattle.hp_replay.proofs.HeadLaws.{cpus_words, IsCount, cpus_free, absent_words, absent_free, head_words, sub_free, rule_free, end_words, end_free}

-- a text's lines, whatever follows it
pub record IsLines (x : List ℕ) (ls : List (List ℕ)) : Type 0 where
  pub before : (rest : List ℕ) → lines_of (x ++ rest) ≡ ls ++ lines_of rest

no_lines : IsLines [] []
no_lines = record { before = λ rest. refl }

one_line : (ws : List (List ℕ)) → all_free ws ≡ true → IsLines (line ws) (line ws ∷ [])
one_line ws h = record { before = λ rest. line_first ws rest h }

lines-append : (x y : List ℕ) (ls ms : List (List ℕ)) → IsLines x ls → IsLines y ms → IsLines (x ++ y) (ls ++ ms)
lines-append x y ls ms p q = record {
  before = λ rest.
      ap lines_of (append_assoc x y rest) ∙ p.before (y ++ rest) ∙ ap (λ (z : List (List ℕ)). ls ++ z) (q.before rest) ∙ sym (append_assoc ls ms (lines_of rest));
}

lines-each : {X : Type 0} (f : X → List ℕ) (g : X → List (List ℕ)) (xs : List X) → AllByRecursion (λ x. IsLines (f x) (g x)) xs → IsLines (flat_map f xs) (flat_map g xs)
lines-each f g [] all = no_lines
lines-each f g (x ∷ xs) all = lines-append (f x) (flat_map f xs) (g x) (flat_map g xs) all.0 (lines-each f g xs all.1)

each : {X : Type 0} (P Q : X → Type 0) → ((x : X) → P x → Q x) → (xs : List X) → AllByRecursion P xs → AllByRecursion Q xs
each P Q f [] all = tt
each P Q f (x ∷ xs) all = (f x all.0, each P Q f xs all.1)

-- ---- the parts

abbrev pub rule_lines : List Rule → List (List ℕ)
rule_lines rules = flat_map (λ r. rule_line r ∷ []) rules

abbrev pub lines_of_sub : Sub → List (List ℕ)
lines_of_sub sub = line (head_words (a_sub sub)) ∷ rule_lines sub.plan

abbrev pub front_lines : Version → Head → List (List ℕ)
front_lines v head = title_line v ∷ line (cpus_words head.possible) ∷ line (absent_words head.absent) ∷ flat_map lines_of_sub head.subs

abbrev pub events_line : List ℕ
events_line = line (codes "events" ∷ [])

-- the lines of events that follow others
abbrev pub lines_after : Version → (before : List Event) → List Event → List (List ℕ)
lines_after v before [] = []
lines_after v before (e ∷ es) = event_line v (operation_number before e) e ∷ lines_after v (before ++ e ∷ []) es

pub lines_after_push : (v : Version) (before xs : List Event) (e : Event) →
    lines_after v before (xs ++ e ∷ []) ≡ lines_after v before xs ++ event_line v (operation_number (before ++ xs) e) e ∷ []
lines_after_push v before [] e = ap (λ (z : List Event). event_line v (operation_number z e) e ∷ []) (sym (append-nil before))
lines_after_push v before (x ∷ xs) e =
    ap (λ (z : List (List ℕ)). event_line v (operation_number before x) x ∷ z)
    (lines_after_push v (before ++ x ∷ []) xs e
    ∙ ap (λ (z : List Event). lines_after v (before ++ x ∷ []) xs ++ event_line v (operation_number z e) e ∷ []) (append_assoc before (x ∷ []) xs))

abbrev pub text_lines : Version → Head → List Event → List (List ℕ)
text_lines v head events = front_lines v head ++ events_line ∷ (lines_after v [] events ++ line (end_words (length events)) ∷ [])

sub_has : (sub : Sub) → IsSub sub → IsLines (sub_lines sub) (lines_of_sub sub)
sub_has sub h =
    lines-append (line (head_words (a_sub sub))) (flat_map rule_line sub.plan) (line (head_words (a_sub sub)) ∷ []) (rule_lines sub.plan)
    (one_line (head_words (a_sub sub)) (sub_free sub h.name_is))
    (lines-each rule_line (λ r. rule_line r ∷ []) sub.plan
    (each IsRule (λ r. IsLines (rule_line r) (rule_line r ∷ [])) (λ r i. one_line (head_words (a_rule r)) (rule_free r i)) sub.plan (recursion_from_All IsRule sub.plan h.rules_are)))

pub head_count : (v : Version) (head : Head) → IsHead head → head.possible ≤ most_cpus v → IsCount v head.possible
head_count v head h c = (omega (arith, h.some_possible), omega (arith, c))

pub head_rise : (head : Head) → IsHead head → Rise 1 head.possible head.absent
head_rise head h =
    let p = and_parts (ltb 0 head.possible) (not (among 0 head.absent)) h.first_present in
    absent_rise head.possible head.absent h.absent_rising h.absent_possible (not-true (among 0 head.absent) p.1)

pub head_small : (head : Head) → IsHead head → head.possible ≤ 2 ^ 32
head_small head h = omega (arith, h.few_possible)

title_free : (v : Version) → all_free (codes "cpuhp" ∷ codes "journal" ∷ version_word v ∷ []) ≡ true
title_free One = refl
title_free Two = refl

title_has : (v : Version) → IsLines (title_line v) (title_line v ∷ [])
unfolding title_line
title_has v = one_line (codes "cpuhp" ∷ codes "journal" ∷ version_word v ∷ []) (title_free v)

processors_have : (v : Version) (head : Head) → IsHead head → head.possible ≤ most_cpus v → IsLines (processor_lines head) (line (cpus_words head.possible) ∷ line (absent_words head.absent) ∷ [])
unfolding processor_lines
processors_have v head h c =
    lines-append (line (cpus_words head.possible)) (line (absent_words head.absent)) _ _
    (one_line (cpus_words head.possible) (cpus_free v head.possible (head_count v head h c)))
    (one_line (absent_words head.absent) (absent_free head.possible head.absent (head_small head h) (head_rise head h)))

subs_have : (head : Head) → IsHead head → IsLines (flat_map sub_lines head.subs) (flat_map lines_of_sub head.subs)
subs_have head h =
    lines-each sub_lines lines_of_sub head.subs
    (each IsSub (λ s. IsLines (sub_lines s) (lines_of_sub s)) sub_has head.subs (recursion_from_All IsSub head.subs h.subs_are))

head_has : (v : Version) (head : Head) → IsHead head → head.possible ≤ most_cpus v → IsLines (head_text v head) (front_lines v head ++ events_line ∷ [])
unfolding head_text
head_has v head h c =
    lines-append (title_line v ++ processor_lines head ++ flat_map sub_lines head.subs) events_line (front_lines v head) (events_line ∷ [])
    (lines-append (title_line v ++ processor_lines head) (flat_map sub_lines head.subs) (title_line v ∷ line (cpus_words head.possible) ∷ line (absent_words head.absent) ∷ []) (flat_map lines_of_sub head.subs)
    (lines-append (title_line v) (processor_lines head) (title_line v ∷ []) _ (title_has v) (processors_have v head h c)) (subs_have head h))
    (one_line (codes "events" ∷ []) refl)

events_have : (v : Version) (before es : List Event) → AllByRecursion EventFits es → length before + length es ≤ MAX_EVENTS →
    IsLines (event_lines v before es) (lines_after v before es)
events_have v before [] f few = no_lines
events_have v before (e ∷ es) f few =
    let n = operation_number before e in
    let small = operations_few (seat_of e) (before ++ e ∷ []) in
    let count = length-append before (e ∷ []) in
    lines-append (event_line v n e) (event_lines v (before ++ e ∷ []) es) (event_line v n e ∷ []) (lines_after v (before ++ e ∷ []) es)
    (one_line (event_words v n e) (event_free v n e (omega (arith, few)) f.0))
    (events_have v (before ++ e ∷ []) es f.1 (omega (arith, few)))

regroup : (v : Version) (head : Head) (events : List Event) →
    ((front_lines v head ++ events_line ∷ []) ++ lines_after v [] events) ++ line (end_words (length events)) ∷ [] ≡ text_lines v head events
regroup v head events =
    append_assoc (front_lines v head ++ events_line ∷ []) (lines_after v [] events) (line (end_words (length events)) ∷ [])
    ∙ append_assoc (front_lines v head) (events_line ∷ []) (lines_after v [] events ++ line (end_words (length events)) ∷ [])

text_has : (v : Version) (head : Head) (events : List Event) → IsHead head → head.possible ≤ most_cpus v → All EventFits events → length events ≤ MAX_EVENTS → IsLines (journal_text v head events) (text_lines v head events)
unfolding journal_text
text_has v head events h c f few =
    subst (IsLines (head_text v head ++ event_lines v [] events ++ line (end_words (length events)))) (regroup v head events)
    (lines-append (head_text v head ++ event_lines v [] events) (line (end_words (length events))) ((front_lines v head ++ events_line ∷ []) ++ lines_after v [] events) (line (end_words (length events)) ∷ [])
    (lines-append (head_text v head) (event_lines v [] events) (front_lines v head ++ events_line ∷ []) (lines_after v [] events) (head_has v head h c) (events_have v [] events (recursion_from_All EventFits events f) (omega (arith, few))))
    (one_line (end_words (length events)) (end_free (length events) (omega (arith, few)))))

-- the lines of a text, and of what follows it
pub text_lines_are : (v : Version) (head : Head) (events : List Event) (rest : List ℕ) → IsHead head → head.possible ≤ most_cpus v → All EventFits events → length events ≤ MAX_EVENTS →
    lines_of (journal_text v head events ++ rest) ≡ text_lines v head events ++ lines_of rest
text_lines_are v head events rest h c f few = (text_has v head events h c f few).before rest
