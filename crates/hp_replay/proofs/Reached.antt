-- What has come where a stage is reached: so its lines can stand.
use Rattle.std.proofs.Common.{◌≡◌, ℕ, ◌^◌, ◌<◌, ◌≤◌, Bool, true, false, cond, eqb, ltb, List, [], ◌∷◌, ◌++◌, length, Option, Some, None, refl, sym, ap, subst, ◌∙◌, append_assoc, arith}
use Rattle.std.specs.Str.{bytes_eq}
use Rattle.std.specs.List.{flat_map, All}
use Rattle.std.proofs.lemmas.Bool.{and_parts, eqb-true, ltb-true, lt-ltb}
use Rattle.std.proofs.lemmas.List.{append-nil, length-append}
use Rattle.std.proofs.lemmas.List.Concat.{flat_map-append}
use Rattle.std.proofs.lemmas.List.Elements.{All-nil, All-push, All-pop}
use Rattle.hp_states.specs.declared.limits.TheConstants.{MAX_SUBS, MAX_RULES}
use Rattle.hp_states.specs.declared.plan.Rule.{Rule}
use Rattle.hp_event.specs.declared.head.Sub.{Sub}
use Rattle.hp_event.specs.declared.head.Head.{Head}
use Rattle.hp_event.specs.declared.event.Event.{Event}
use Rattle.hp_model.specs.Lists.{occurs}
use Rattle.hp_model.specs.Words.{line}
use Rattle.hp_model.specs.Heads.{IsHead, IsSub, IsRule, IsName}
use Rattle.hp_model.specs.EventLine.{event_line}
use Rattle.hp_model.specs.OperationNumber.{operation_number}
use Rattle.hp_model.specs.JournalText.{rule_line, title_line, journal_text}
use Rattle.hp_model.specs.Summary.{summary}
use Rattle.hp_model.proofs.HeadlineProof.{lawful_more}
use Rattle.hp_model.proofs.Rising.{Rise, rise_below, rise_increases}
use Rattle.hp_event.specs.declared.version.Version.{Version}
use Rattle.hp_replay.specs.Fits.{EventFits}
use Rattle.hp_replay.specs.declared.error.ReplayKind.TheVariants.{Header, Count, Trailing}
use Rattle.hp_replay.specs.InputLines.{lines_of}
use Rattle.hp_replay.specs.HeadLines.{HeadLine, a_sub, a_rule, the_events, cpus_at, absent_at, head_line_at}
use Rattle.hp_replay.specs.declared.event.NumberedEvent.{NumberedEvent}
use Rattle.hp_replay.specs.Versions.{most_cpus, has_seat, is_its_number, named_number}
use Rattle.hp_replay.proofs.VersionLaws.{most_small, most_some, cpus_within, within_none, within_more, same_line}
use Rattle.hp_replay.proofs.KindLaws.{GoesTo, said_goes}
use Rattle.hp_replay.specs.EventAt.{event_at}
use Rattle.hp_replay.specs.EndAt.{end_at}
use Rattle.hp_replay.specs.CanStand.{IsJournal, CanStand}
use Rattle.hp_replay.specs.Stages.{Stage, begins, titled, counted, headed, ruled, among_events, whole, among_summary, goes, stops, with_sub, cpus_step, absent_step, headed_step, ruled_step, event_step, end_step, summary_step, step}
use Rattle.hp_replay.proofs.ReaderLaws.{same_word}
use Rattle.hp_replay.proofs.EventTakes.{event_at_takes}
use Rattle.hp_replay.proofs.AbsentLaws.{zero_not_among}
use Rattle.hp_replay.proofs.HeadLaws.{cpus_words, IsCount, cpus_takes, absent_words, absent_takes, head_words, head_takes, end_words, end_takes}
use Rattle.hp_replay.proofs.TextLines.{lines_of_sub, rule_lines, front_lines, events_line, lines_after, lines_after_push, text_lines, text_lines_are}
use Rattle.hp_replay.specs.Judged.{Leads}
use Rattle.hp_replay.proofs.TextPasses.{not_many}

pub record AtHead (v : Version) (head : Head) (before : List (List ℕ)) : Type 0 where
  pub is_head : IsHead head
  pub few : head.possible ≤ most_cpus v
  pub lines_are : before ≡ front_lines v head

pub record AtEvents (v : Version) (head : Head) (events : List Event) (before : List (List ℕ)) : Type 0 where
  pub journal : IsJournal v head events
  pub lines_are : before ≡ front_lines v head ++ events_line ∷ lines_after v [] events

pub record AtWhole (v : Version) (head : Head) (events : List Event) (before : List (List ℕ)) : Type 0 where
  pub journal : IsJournal v head events
  pub lines_are : before ≡ text_lines v head events

pub record AtSummary (v : Version) (head : Head) (events : List Event) (left before : List (List ℕ)) : Type 0 where
  pub journal : IsJournal v head events
  pub lines_are : before ++ left ≡ text_lines v head events ++ lines_of (summary head events)

abbrev pub Reached : Version → Stage → (before : List (List ℕ)) → Type 0
Reached v begins before = before ≡ []
Reached v titled before = before ≡ title_line v ∷ []
Reached v (counted possible) before = IsCount v possible × (before ≡ title_line v ∷ line (cpus_words possible) ∷ [])
Reached v (headed head) before = AtHead v head before
Reached v (ruled head sub) before = AtHead v (with_sub head sub) before
Reached v (among_events head events) before = AtEvents v head events before
Reached v (whole head events) before = AtWhole v head events before
Reached v (among_summary head events left) before = AtSummary v head events left before

-- ---- they can stand

pub all_lines_are : (v : Version) (head : Head) (events : List Event) → IsJournal v head events → lines_of (journal_text v head events ++ summary head events) ≡ text_lines v head events ++ lines_of (summary head events)
all_lines_are v head events j = text_lines_are v head events (summary head events) j.lawful.0 (cpus_within v head events j.lawful.0 j.within) j.fit (not_many head events j.lawful)

stands_of : (v : Version) (head : Head) (events : List Event) (before rest : List (List ℕ)) → IsJournal v head events → before ++ rest ≡ text_lines v head events ++ lines_of (summary head events) → CanStand v before
stands_of v head events before rest j e = record { head = head; events = events; journal = j; rest = rest; is_front = e ∙ sym (all_lines_are v head events j) }

pub no_events : (v : Version) (head : Head) → IsHead head → head.possible ≤ most_cpus v → IsJournal v head []
no_events v head h c = record { lawful = (h, tt); fit = All-nil EventFits; within = within_none v head c }

abbrev first_head : (possible : ℕ) → Head
first_head possible = record { possible = possible; absent = []; subs = [] }

pub first_is_head : (v : Version) (possible : ℕ) → IsCount v possible → IsHead (first_head possible)
first_is_head v possible c =
    let small = most_small v in
    record {
      some_possible = omega (arith, c.0);
      few_possible = omega (arith, c.1);
      absent_rising = λ k inside. absurd (omega (arith, inside));
      absent_possible = All-nil (λ n. n < possible);
      first_present = let some : ltb 0 possible ≡ true = lt-ltb _ _ (omega (arith, c.0)) in rw some refl;
      few_subs = omega arith;
      subs_are = All-nil IsSub;
    }

one_processor : (v : Version) → IsCount v 1
one_processor v = (omega arith, omega (arith, most_some v))

front_stands : (v : Version) (head : Head) (before : List (List ℕ)) → AtHead v head before → CanStand v before
front_stands v head before a =
    stands_of v head [] before (events_line ∷ (line (end_words 0) ∷ []) ++ lines_of (summary head [])) (no_events v head a.is_head a.few)
    (ap (λ (b : List (List ℕ)). b ++ (events_line ∷ (line (end_words 0) ∷ []) ++ lines_of (summary head []))) a.lines_are
    ∙ sym (append_assoc (front_lines v head) (events_line ∷ line (end_words 0) ∷ []) (lines_of (summary head []))))

events_stand : (v : Version) (head : Head) (events : List Event) (before : List (List ℕ)) → AtEvents v head events before → CanStand v before
events_stand v head events before a =
    let end = line (end_words (length events)) ∷ [] in
    stands_of v head events before (end ++ lines_of (summary head events)) a.journal
    (ap (λ (b : List (List ℕ)). b ++ (end ++ lines_of (summary head events))) a.lines_are
    ∙ sym (append_assoc (front_lines v head ++ events_line ∷ lines_after v [] events) end (lines_of (summary head events)))
    ∙ ap (λ (b : List (List ℕ)). b ++ lines_of (summary head events)) (append_assoc (front_lines v head) (events_line ∷ lines_after v [] events) end))

pub reached_stands : (v : Version) (s : Stage) (before : List (List ℕ)) → Reached v s before → CanStand v before
reached_stands v begins before r = stands_of v (first_head 1) [] before (text_lines v (first_head 1) [] ++ lines_of (summary (first_head 1) [])) (no_events v (first_head 1) (first_is_head v 1 (one_processor v)) (most_some v))
    (ap (λ (b : List (List ℕ)). b ++ (text_lines v (first_head 1) [] ++ lines_of (summary (first_head 1) []))) r)
reached_stands v titled before r = stands_of v (first_head 1) [] before _ (no_events v (first_head 1) (first_is_head v 1 (one_processor v)) (most_some v))
    (ap (λ (b : List (List ℕ)). b ++ (line (cpus_words 1) ∷ line (absent_words []) ∷ events_line ∷ line (end_words 0) ∷ lines_of (summary (first_head 1) []))) r)
reached_stands v (counted possible) before r = stands_of v (first_head possible) [] before _ (no_events v (first_head possible) (first_is_head v possible r.0) (omega (arith, r.0.1)))
    (ap (λ (b : List (List ℕ)). b ++ (line (absent_words []) ∷ events_line ∷ line (end_words 0) ∷ lines_of (summary (first_head possible) []))) r.1)
reached_stands v (headed head) before r = front_stands v head before r
reached_stands v (ruled head sub) before r = front_stands v (with_sub head sub) before r
reached_stands v (among_events head events) before r = events_stand v head events before r
reached_stands v (whole head events) before r = stands_of v head events before (lines_of (summary head events)) r.journal (ap (λ (b : List (List ℕ)). b ++ lines_of (summary head events)) r.lines_are)
reached_stands v (among_summary head events left) before r = stands_of v head events before left r.journal r.lines_are

-- ---- one line more

title_more : (v : Version) (before : List (List ℕ)) (l : List ℕ) (t : Bool) (m : Stage) → before ≡ [] → bytes_eq l (title_line v) ≡ t → Leads (cond t (goes titled) (stops Header)) m → Reached v m (before ++ l ∷ [])
title_more v before l true m r t h =
    subst (λ (s : Stage). Reached v s (before ++ l ∷ [])) h
    (ap (λ (b : List (List ℕ)). b ++ l ∷ []) r ∙ ap (λ (x : List ℕ). x ∷ []) (same_word l (title_line v) t))
title_more v before l false m r t h = absurd h

cpus_more : (v : Version) (before : List (List ℕ)) (l : List ℕ) (o : Option ℕ) (m : Stage) → before ≡ title_line v ∷ [] → cpus_at v l ≡ o → Leads (cpus_step o) m → Reached v m (before ++ l ∷ [])
cpus_more v before l (Some n) m r t h =
    let c = cpus_takes v l n t in
    subst (λ (s : Stage). Reached v s (before ++ l ∷ [])) h
    (c.1, ap (λ (b : List (List ℕ)). b ++ l ∷ []) r ∙ ap (λ (x : List ℕ). title_line v ∷ x ∷ []) c.0)
cpus_more v before l None m r t h = absurd h

bare_is_head : (v : Version) (possible : ℕ) (absent : List ℕ) → IsCount v possible → Rise 1 possible absent → IsHead (record { possible = possible; absent = absent; subs = [] })
bare_is_head v possible absent c a =
    let small = most_small v in
    record {
      some_possible = omega (arith, c.0);
      few_possible = omega (arith, c.1);
      absent_rising = rise_increases 1 possible absent a;
      absent_possible = rise_below 1 possible absent a;
      first_present =
          let some : ltb 0 possible ≡ true = lt-ltb _ _ (omega (arith, c.0)) in
          let none : occurs 0 absent ≡ 0 = zero_not_among 1 possible absent (omega arith) a in
          rw (some, none) refl;
      few_subs = omega arith;
      subs_are = All-nil IsSub;
    }

absent_more : (v : Version) (possible : ℕ) (before : List (List ℕ)) (l : List ℕ) (o : Option (List ℕ)) (m : Stage) → Reached v (counted possible) before → absent_at possible l ≡ o → Leads (absent_step possible o) m → Reached v m (before ++ l ∷ [])
absent_more v possible before l (Some absent) m r t h =
    let a = absent_takes possible l absent t in
    subst (λ (s : Stage). Reached v s (before ++ l ∷ [])) h
    (record {
      is_head = bare_is_head v possible absent r.0 a.1;
      few = omega (arith, r.0.1);
      lines_are = ap (λ (b : List (List ℕ)). b ++ l ∷ []) r.1 ∙ ap (λ (x : List ℕ). title_line v ∷ line (cpus_words possible) ∷ x ∷ []) a.0;
    })
absent_more v possible before l None m r t h = absurd h

-- a head with one subsystem more
more_front : (v : Version) (head : Head) (sub : Sub) → front_lines v (with_sub head sub) ≡ front_lines v head ++ lines_of_sub sub
more_front v head sub =
    ap (λ (x : List (List ℕ)). title_line v ∷ line (cpus_words head.possible) ∷ line (absent_words head.absent) ∷ x)
    (flat_map-append lines_of_sub head.subs (sub ∷ []) ∙ ap (λ (x : List (List ℕ)). flat_map lines_of_sub head.subs ++ x) (append-nil (lines_of_sub sub)))

more_head : (head : Head) (sub : Sub) → IsHead head → IsSub sub → length head.subs < MAX_SUBS → IsHead (with_sub head sub)
more_head head sub h i lt = record {
  some_possible = h.some_possible;
  few_possible = h.few_possible;
  absent_rising = h.absent_rising;
  absent_possible = h.absent_possible;
  first_present = h.first_present;
  few_subs = omega (arith, length-append head.subs (sub ∷ []), lt);
  subs_are = All-push IsSub head.subs sub h.subs_are i;
}

fresh_sub : (sub : Sub) → IsName sub.name → sub.plan ≡ [] → IsSub sub
fresh_sub sub n e = record {
  name_is = n;
  few_rules = omega (arith, ap length e);
  rules_are = subst (λ (p : List Rule). All IsRule p) (sym e) (All-nil IsRule);
}

next_sub_more : (v : Version) (head : Head) (sub : Sub) (before : List (List ℕ)) (l : List ℕ) (t : Bool) (m : Stage) → AtHead v head before → head_line_at l ≡ Some (a_sub sub) → ltb (length head.subs) MAX_SUBS ≡ t →
    Leads (cond t (goes (ruled head sub)) (stops Header)) m → Reached v m (before ++ l ∷ [])
next_sub_more v head sub before l true m r e t h =
    let x = head_takes l (a_sub sub) e in
    let lines : lines_of_sub sub ≡ l ∷ [] = ap (λ (p : List Rule). line (head_words (a_sub sub)) ∷ rule_lines p) x.1.1 ∙ ap (λ (y : List ℕ). y ∷ []) (sym x.0) in
    subst (λ (s : Stage). Reached v s (before ++ l ∷ [])) h
    (record {
      is_head = more_head head sub r.is_head (fresh_sub sub x.1.0 x.1.1) (ltb-true _ _ t);
      few = r.few;
      lines_are = ap (λ (b : List (List ℕ)). b ++ l ∷ []) r.lines_are ∙ ap (λ (y : List (List ℕ)). front_lines v head ++ y) (sym lines) ∙ sym (more_front v head sub);
    })
next_sub_more v head sub before l false m r e t h = absurd h

events_more : (v : Version) (head : Head) (before : List (List ℕ)) (l : List ℕ) (m : Stage) → AtHead v head before → head_line_at l ≡ Some the_events → among_events head [] ≡ m → Reached v m (before ++ l ∷ [])
events_more v head before l m r e h =
    let x = head_takes l the_events e in
    subst (λ (s : Stage). Reached v s (before ++ l ∷ [])) h
    (record {
      journal = no_events v head r.is_head r.few;
      lines_are = ap (λ (b : List (List ℕ)). b ++ l ∷ []) r.lines_are ∙ ap (λ (y : List ℕ). front_lines v head ++ y ∷ []) x.0;
    })

headed_more : (v : Version) (head : Head) (before : List (List ℕ)) (l : List ℕ) (o : Option HeadLine) (m : Stage) → AtHead v head before → head_line_at l ≡ o → Leads (headed_step head o) m → Reached v m (before ++ l ∷ [])
headed_more v head before l None m r e h = absurd h
headed_more v head before l (Some (a_sub sub)) m r e h = next_sub_more v head sub before l (ltb (length head.subs) MAX_SUBS) m r e refl h
headed_more v head before l (Some (a_rule rule)) m r e h = absurd h
headed_more v head before l (Some the_events) m r e h = events_more v head before l m r e h

-- a rule more of the last subsystem
last_sub : (head : Head) (sub : Sub) → IsHead (with_sub head sub) → All IsSub head.subs × IsSub sub
last_sub head sub h = All-pop IsSub (head.subs ++ sub ∷ []) head.subs (Some sub) refl h.subs_are

abbrev with_rule : Sub → Rule → Sub
with_rule sub rule = record sub { plan = sub.plan ++ rule ∷ [] }

ruled_head : (head : Head) (sub : Sub) (rule : Rule) → IsHead (with_sub head sub) → IsRule rule → length sub.plan < MAX_RULES → IsHead (with_sub head (with_rule sub rule))
ruled_head head sub rule h i lt =
    let p = last_sub head sub h in
    record {
      some_possible = h.some_possible;
      few_possible = h.few_possible;
      absent_rising = h.absent_rising;
      absent_possible = h.absent_possible;
      first_present = h.first_present;
      few_subs = omega (arith, length-append head.subs (sub ∷ []), length-append head.subs (with_rule sub rule ∷ []), h.few_subs);
      subs_are = All-push IsSub head.subs (with_rule sub rule) p.0 (record {
        name_is = p.1.name_is;
        few_rules = omega (arith, length-append sub.plan (rule ∷ []), lt);
        rules_are = All-push IsRule sub.plan rule p.1.rules_are i;
      });
    }

rule_front : (v : Version) (head : Head) (sub : Sub) (rule : Rule) → front_lines v (with_sub head (with_rule sub rule)) ≡ front_lines v (with_sub head sub) ++ rule_line rule ∷ []
rule_front v head sub rule =
    more_front v head (with_rule sub rule)
    ∙ ap (λ (x : List (List ℕ)). front_lines v head ++ (line (head_words (a_sub sub)) ∷ x)) (flat_map-append (λ r. rule_line r ∷ []) sub.plan (rule ∷ []))
    ∙ sym (append_assoc (front_lines v head) (lines_of_sub sub) (rule_line rule ∷ []))
    ∙ ap (λ (x : List (List ℕ)). x ++ rule_line rule ∷ []) (sym (more_front v head sub))

next_rule_more : (v : Version) (head : Head) (sub : Sub) (rule : Rule) (before : List (List ℕ)) (l : List ℕ) (t : Bool) (m : Stage) → AtHead v (with_sub head sub) before → head_line_at l ≡ Some (a_rule rule) → ltb (length sub.plan) MAX_RULES ≡ t →
    Leads (cond t (goes (ruled head (with_rule sub rule))) (stops Header)) m → Reached v m (before ++ l ∷ [])
next_rule_more v head sub rule before l true m r e t h =
    let x = head_takes l (a_rule rule) e in
    subst (λ (s : Stage). Reached v s (before ++ l ∷ [])) h
    (record {
      is_head = ruled_head head sub rule r.is_head x.1 (ltb-true _ _ t);
      few = r.few;
      lines_are = ap (λ (b : List (List ℕ)). b ++ l ∷ []) r.lines_are ∙ ap (λ (y : List ℕ). front_lines v (with_sub head sub) ++ y ∷ []) x.0 ∙ sym (rule_front v head sub rule);
    })
next_rule_more v head sub rule before l false m r e t h = absurd h

ruled_more : (v : Version) (head : Head) (sub : Sub) (before : List (List ℕ)) (l : List ℕ) (o : Option HeadLine) (m : Stage) → AtHead v (with_sub head sub) before → head_line_at l ≡ o → Leads (ruled_step head sub o) m → Reached v m (before ++ l ∷ [])
ruled_more v head sub before l None m r e h = absurd h
ruled_more v head sub before l (Some (a_sub other)) m r e h = next_sub_more v (with_sub head sub) other before l (ltb (length (head.subs ++ sub ∷ [])) MAX_SUBS) m r e refl h
ruled_more v head sub before l (Some (a_rule rule)) m r e h = next_rule_more v head sub rule before l (ltb (length sub.plan) MAX_RULES) m r e refl h
ruled_more v head sub before l (Some the_events) m r e h = events_more v (with_sub head sub) before l m r e h

-- ---- an event more, and the end

event_more : (v : Version) (head : Head) (events : List Event) (before : List (List ℕ)) (l : List ℕ) (said : NumberedEvent) (m : Stage) → AtEvents v head events before → event_at v l ≡ Some said →
    GoesTo v head events said m → Reached v m (before ++ l ∷ [])
event_more v head events before l said m r t g =
    let e = said.event in
    let x = event_at_takes v l said t in
    let lawful = lawful_more head events e r.journal.lawful g.stands in
    let right = and_parts (is_its_number (operation_number events e) said.number) (has_seat v e) g.right in
    let named : is_its_number (operation_number events e) (named_number v x.number e) ≡ true = subst (λ (o : Option ℕ). is_its_number (operation_number events e) o ≡ true) x.named right.0 in
    let is : l ≡ event_line v (operation_number events e) e = x.bytes_are ∙ same_line v x.number (operation_number events e) e named in
    subst (λ (g : Stage). Reached v g (before ++ l ∷ [])) g.next
    (record {
      journal = record {
        lawful = lawful;
        fit = All-push EventFits events e r.journal.fit x.fits;
        within = within_more v head events e r.journal.within g.stands right.1;
      };
      lines_are =
          ap (λ (b : List (List ℕ)). b ++ l ∷ []) r.lines_are
          ∙ append_assoc (front_lines v head) (events_line ∷ lines_after v [] events) (l ∷ [])
          ∙ ap (λ (y : List ℕ). front_lines v head ++ (events_line ∷ (lines_after v [] events ++ y ∷ []))) is
          ∙ ap (λ (y : List (List ℕ)). front_lines v head ++ (events_line ∷ y)) (sym (lines_after_push v [] events e));
    })

count_more : (v : Version) (head : Head) (events : List Event) (before : List (List ℕ)) (l : List ℕ) (n : ℕ) (t : Bool) (m : Stage) → AtEvents v head events before → end_at l ≡ Some n → eqb n (length events) ≡ t →
    Leads (cond t (goes (whole head events)) (stops Count)) m → Reached v m (before ++ l ∷ [])
count_more v head events before l n true m r e t h =
    let same : n ≡ length events = eqb-true n (length events) t in
    let small : length events < 2 ^ 64 = omega (arith, not_many head events r.journal.lawful) in
    let is : l ≡ line (end_words n) = end_takes l n (omega (arith, same, small)) e in
    subst (λ (g : Stage). Reached v g (before ++ l ∷ [])) h
    (record {
      journal = r.journal;
      lines_are =
          ap (λ (b : List (List ℕ)). b ++ l ∷ []) r.lines_are
          ∙ append_assoc (front_lines v head) (events_line ∷ lines_after v [] events) (l ∷ [])
          ∙ ap (λ (y : List ℕ). front_lines v head ++ (events_line ∷ (lines_after v [] events ++ y ∷ []))) (is ∙ ap (λ (k : ℕ). line (end_words k)) same);
    })
count_more v head events before l n false m r e t h = absurd h

end_more : (v : Version) (head : Head) (events : List Event) (before : List (List ℕ)) (l : List ℕ) (o : Option ℕ) (m : Stage) → AtEvents v head events before → end_at l ≡ o → Leads (end_step head events o) m → Reached v m (before ++ l ∷ [])
end_more v head events before l None m r e h = absurd h
end_more v head events before l (Some n) m r e h = count_more v head events before l n (eqb n (length events)) m r e refl h

among_more : (v : Version) (head : Head) (events : List Event) (before : List (List ℕ)) (l : List ℕ) (o : Option NumberedEvent) (m : Stage) → AtEvents v head events before → event_at v l ≡ o → Leads (event_step v head events o (end_step head events (end_at l))) m → Reached v m (before ++ l ∷ [])
among_more v head events before l None m r e h = end_more v head events before l (end_at l) m r refl h
among_more v head events before l (Some x) m r e h = event_more v head events before l x m r e (said_goes v head events x m h)

-- ---- a line of the summary more

summary_line_more : (v : Version) (head : Head) (events : List Event) (x : List ℕ) (left before : List (List ℕ)) (l : List ℕ) (t : Bool) (m : Stage) → IsJournal v head events → before ++ x ∷ left ≡ text_lines v head events ++ lines_of (summary head events) → bytes_eq l x ≡ t →
    Leads (cond t (goes (among_summary head events left)) (stops Trailing)) m → Reached v m (before ++ l ∷ [])
summary_line_more v head events x left before l true m j r t h =
    subst (λ (g : Stage). Reached v g (before ++ l ∷ [])) h
    (record {
      journal = j;
      lines_are = append_assoc before (l ∷ []) left ∙ ap (λ (y : List ℕ). before ++ y ∷ left) (same_word l x t) ∙ r;
    })
summary_line_more v head events x left before l false m j r t h = absurd h

summary_more : (v : Version) (head : Head) (events : List Event) (left before : List (List ℕ)) (l : List ℕ) (m : Stage) → IsJournal v head events → before ++ left ≡ text_lines v head events ++ lines_of (summary head events) →
    Leads (summary_step head events left l) m → Reached v m (before ++ l ∷ [])
summary_more v head events [] before l m j r h = absurd h
summary_more v head events (x ∷ left) before l m j r h = summary_line_more v head events x left before l (bytes_eq l x) m j r refl h

pub reached_more : (v : Version) (s : Stage) (before : List (List ℕ)) (l : List ℕ) (m : Stage) → Reached v s before → Leads (step v s l) m → Reached v m (before ++ l ∷ [])
unfolding step
reached_more v begins before l m r h = title_more v before l (bytes_eq l (title_line v)) m r refl h
reached_more v titled before l m r h = cpus_more v before l (cpus_at v l) m r refl h
reached_more v (counted possible) before l m r h = absent_more v possible before l (absent_at possible l) m r refl h
reached_more v (headed head) before l m r h = headed_more v head before l (head_line_at l) m r refl h
reached_more v (ruled head sub) before l m r h = ruled_more v head sub before l (head_line_at l) m r refl h
reached_more v (among_events head events) before l m r h = among_more v head events before l (event_at v l) m r refl h
reached_more v (whole head events) before l m r h = summary_more v head events (lines_of (summary head events)) before l m r.journal (ap (λ (b : List (List ℕ)). b ++ lines_of (summary head events)) r.lines_are) h
reached_more v (among_summary head events left) before l m r h = summary_more v head events left before l m r.journal r.lines_are h
