-- The lines of a lawful journal's text and summary pass.
use Rattle.std.proofs.Common.{◌≡◌, ℕ, ◌+◌, ◌^◌, ◌<◌, ◌≤◌, Bool, true, cond, eqb, ltb, List, [], ◌∷◌, ◌++◌, length, Option, Some, None, refl, sym, ap, subst, ◌∙◌, append_assoc, arith}
use Rattle.std.specs.Prelude.{codes}
use Rattle.std.specs.Str.{bytes_eq}
use Rattle.std.specs.Option.{option_and_then}
use Rattle.std.specs.List.{flat_map, AllByRecursion}
use Rattle.std.proofs.lemmas.Bool.{eq-eqb, lt-ltb}
use Rattle.std.proofs.lemmas.List.{append-nil, length-append}
use Rattle.std.proofs.lemmas.Slice.Eq.{bytes_eq-Decides}
use Rattle.std.proofs.lemmas.List.Elements.{recursion_from_All}
use Rattle.hp_states.specs.declared.limits.TheConstants.{MAX_SUBS, MAX_RULES, MAX_EVENTS}
use Rattle.hp_states.specs.declared.plan.Rule.{Rule}
use Rattle.hp_event.specs.declared.head.Sub.{Sub}
use Rattle.hp_event.specs.declared.head.Head.{Head}
use Rattle.hp_event.specs.declared.event.Event.{Event}
use Rattle.hp_model.specs.Journal.{EachAfter}
use Rattle.hp_model.specs.Words.{line}
use Rattle.hp_model.specs.Heads.{IsHead, IsSub, IsRule}
use Rattle.hp_model.specs.EventLine.{event_line}
use Rattle.hp_model.specs.JournalText.{rule_line, title_line}
use Rattle.hp_model.specs.Summary.{summary}
use Rattle.hp_model.specs.Lawful.{Stands, IsLawful}
use Rattle.hp_model.proofs.RoomKept.{promises_fit}
use Rattle.hp_event.specs.declared.version.Version.{Version}
use Rattle.hp_replay.specs.Fits.{IsU32, EventFits}
use Rattle.hp_model.specs.OperationNumber.{operation_number}
use Rattle.hp_print.proofs.OperationNumbersLaws.{operations_few}
use Rattle.hp_event.specs.Events.{seat_of}
use Rattle.hp_replay.specs.declared.error.ReplayKind.TheVariants.{Unlawful}
use Rattle.hp_replay.specs.declared.event.NumberedEvent.{NumberedEvent}
use Rattle.hp_replay.specs.Versions.{most_cpus, IsWithin, has_seat}
use Rattle.hp_replay.proofs.VersionLaws.{cpus_within, has_its_seat, rightly_numbered}
use Rattle.hp_replay.specs.InputLines.{lines_of}
use Rattle.hp_replay.specs.HeadLines.{a_sub}
use Rattle.hp_replay.specs.EventAt.{event, event_at}
use Rattle.hp_replay.specs.EndAt.{end_at}
use Rattle.hp_replay.specs.CanStand.{IsJournal}
use Rattle.hp_replay.specs.Stages.{Stage, begins, titled, counted, headed, ruled, among_events, whole, among_summary, Step, goes, asks, stops, with_sub, cpus_step, absent_step, headed_step, ruled_step, event_step, end_step, summary_step, step}
use Rattle.hp_replay.specs.Judged.{accepted, at_end, Leads}
use Rattle.hp_replay.proofs.SpelledLaws.{stands_spelled}
use Rattle.hp_replay.proofs.EventAgain.{event_at_again}
use Rattle.hp_replay.proofs.HeadLaws.{cpus_words, cpus_again, absent_words, absent_again, head_words, sub_again, rule_again, events_again, end_words, end_again, end_says}
use Rattle.hp_replay.proofs.TextLines.{lines_of_sub, rule_lines, front_lines, events_line, lines_after, text_lines, head_count, head_rise, head_small}
use Rattle.hp_replay.proofs.Passes.{Passes, passes-append, passes_line}

pub same_bytes : (w : List ℕ) → bytes_eq w w ≡ true
same_bytes w = (bytes_eq-Decides w w).1 refl

pub not_many : (head : Head) (events : List Event) → IsLawful head events → length events ≤ MAX_EVENTS
not_many head events h = omega (arith, promises_fit head events h)

-- ---- the head

title_step : (v : Version) → step v begins (title_line v) ≡ goes titled
unfolding step
title_step v = let same : bytes_eq (title_line v) (title_line v) ≡ true = same_bytes (title_line v) in rw same refl

cpus_goes : (v : Version) (head : Head) → IsHead head → head.possible ≤ most_cpus v → step v titled (line (cpus_words head.possible)) ≡ goes (counted head.possible)
unfolding step
cpus_goes v head h c = ap cpus_step (cpus_again v head.possible (head_count v head h c))

abbrev bare : Head → Head
bare head = record head { subs = [] }

absent_goes : (v : Version) (head : Head) → IsHead head → step v (counted head.possible) (line (absent_words head.absent)) ≡ goes (headed (bare head))
unfolding step
absent_goes v head h = ap (absent_step head.possible) (absent_again head.possible head.absent (head_small head h) (head_rise head h))

sub_goes : (v : Version) (head : Head) (sub other : Sub) → IsSub other → length head.subs + 1 < MAX_SUBS → step v (ruled head sub) (line (head_words (a_sub other))) ≡ goes (ruled (with_sub head sub) (record other { plan = [] }))
unfolding step
sub_goes v head sub other i lt =
    let few : ltb (length (head.subs ++ sub ∷ [])) MAX_SUBS ≡ true = lt-ltb _ _ (omega (arith, length-append head.subs (sub ∷ []))) in
    ap (ruled_step head sub) (sub_again other i.name_is) ∙ rw few refl

first_goes : (v : Version) (head : Head) (other : Sub) → IsSub other → length head.subs < MAX_SUBS → step v (headed head) (line (head_words (a_sub other))) ≡ goes (ruled head (record other { plan = [] }))
unfolding step
first_goes v head other i lt =
    let few : ltb (length head.subs) MAX_SUBS ≡ true = lt-ltb _ _ lt in
    ap (headed_step head) (sub_again other i.name_is) ∙ rw few refl

rule_goes : (v : Version) (head : Head) (sub : Sub) (rule : Rule) → IsRule rule → length sub.plan < MAX_RULES → step v (ruled head sub) (rule_line rule) ≡ goes (ruled head (record sub { plan = sub.plan ++ rule ∷ [] }))
unfolding step
rule_goes v head sub rule i lt =
    let few : ltb (length sub.plan) MAX_RULES ≡ true = lt-ltb _ _ lt in
    ap (ruled_step head sub) (rule_again rule i) ∙ rw few refl

events_go : (v : Version) (head : Head) (sub : Sub) → step v (ruled head sub) events_line ≡ goes (among_events (with_sub head sub) [])
unfolding step
events_go v head sub = ap (ruled_step head sub) events_again

no_subs_go : (v : Version) (head : Head) → step v (headed head) events_line ≡ goes (among_events head [])
unfolding step
no_subs_go v head = ap (headed_step head) events_again

-- the rules of a subsystem
rules_pass : (v : Version) (head : Head) (sub : Sub) (rules : List Rule) → AllByRecursion IsRule rules → length sub.plan + length rules ≤ MAX_RULES →
    Passes v (ruled head sub) (rule_lines rules) (ruled head (record sub { plan = sub.plan ++ rules }))
rules_pass v head sub [] all few = ap (λ (p : List Rule). ruled head (record sub { plan = p })) (sym (append-nil sub.plan))
rules_pass v head sub (r ∷ rs) all few =
    let more = rules_pass v head (record sub { plan = sub.plan ++ r ∷ [] }) rs all.1 (omega (arith, length-append sub.plan (r ∷ []))) in
    let same : (sub.plan ++ r ∷ []) ++ rs ≡ sub.plan ++ r ∷ rs = append_assoc sub.plan (r ∷ []) rs in
    passes_line v (ruled head sub) (rule_line r) (rule_lines rs) (ruled head (record sub { plan = sub.plan ++ r ∷ [] })) _ (rule_goes v head sub r all.0 (omega arith))
    (subst (λ (p : List Rule). Passes v (ruled head (record sub { plan = sub.plan ++ r ∷ [] })) (rule_lines rs) (ruled head (record sub { plan = p }))) same more)

-- the subsystems behind one that has its rules, and that the events follow
subs_pass : (v : Version) (head : Head) (sub : Sub) (subs : List Sub) → AllByRecursion IsSub subs → length head.subs + 1 + length subs ≤ MAX_SUBS →
    Passes v (ruled head sub) (flat_map lines_of_sub subs ++ events_line ∷ []) (among_events (record head { subs = head.subs ++ sub ∷ subs }) [])
subs_pass v head sub [] all few = passes_line v (ruled head sub) events_line [] (among_events (with_sub head sub) []) _ (events_go v head sub) refl
subs_pass v head sub (s ∷ ss) all few =
    let more = subs_pass v (with_sub head sub) s ss all.1 (omega (arith, length-append head.subs (sub ∷ []))) in
    let same : (head.subs ++ sub ∷ []) ++ s ∷ ss ≡ head.subs ++ sub ∷ s ∷ ss = append_assoc head.subs (sub ∷ []) (s ∷ ss) in
    let rules = rules_pass v (with_sub head sub) (record s { plan = [] }) s.plan (recursion_from_All IsRule s.plan all.0.rules_are) (omega (arith, all.0.few_rules)) in
    let both = passes-append v _ (rule_lines s.plan) (ruled (with_sub head sub) s) (flat_map lines_of_sub ss ++ events_line ∷ []) _ rules more in
    let lines : rule_lines s.plan ++ (flat_map lines_of_sub ss ++ events_line ∷ []) ≡ (rule_lines s.plan ++ flat_map lines_of_sub ss) ++ events_line ∷ [] = sym (append_assoc (rule_lines s.plan) (flat_map lines_of_sub ss) (events_line ∷ [])) in
    let start = subst (λ (ls : List (List ℕ)). Passes v (ruled (with_sub head sub) (record s { plan = [] })) ls (among_events (record head { subs = (head.subs ++ sub ∷ []) ++ s ∷ ss }) [])) lines both in
    passes_line v (ruled head sub) (line (head_words (a_sub s))) ((rule_lines s.plan ++ flat_map lines_of_sub ss) ++ events_line ∷ []) (ruled (with_sub head sub) (record s { plan = [] })) _
    (sub_goes v head sub s all.0 (omega (arith, few)))
    (subst (λ (xs : List Sub). Passes v (ruled (with_sub head sub) (record s { plan = [] })) ((rule_lines s.plan ++ flat_map lines_of_sub ss) ++ events_line ∷ []) (among_events (record head { subs = xs }) [])) same start)

-- from a head without subsystems
all_subs_pass : (v : Version) (head : Head) (subs : List Sub) → AllByRecursion IsSub subs → length subs ≤ MAX_SUBS → head.subs ≡ [] →
    Passes v (headed head) (flat_map lines_of_sub subs ++ events_line ∷ []) (among_events (record head { subs = subs }) [])
all_subs_pass v head [] all few none = passes_line v (headed head) events_line [] (among_events head []) _ (no_subs_go v head) (ap (λ (xs : List Sub). among_events (record head { subs = xs }) []) none)
all_subs_pass v head (s ∷ ss) all few none =
    let more = subs_pass v head s ss all.1 (omega (arith, few, ap length none)) in
    let rules = rules_pass v head (record s { plan = [] }) s.plan (recursion_from_All IsRule s.plan all.0.rules_are) (omega (arith, all.0.few_rules)) in
    let both = passes-append v _ (rule_lines s.plan) (ruled head s) (flat_map lines_of_sub ss ++ events_line ∷ []) _ rules more in
    let lines : rule_lines s.plan ++ (flat_map lines_of_sub ss ++ events_line ∷ []) ≡ (rule_lines s.plan ++ flat_map lines_of_sub ss) ++ events_line ∷ [] = sym (append_assoc (rule_lines s.plan) (flat_map lines_of_sub ss) (events_line ∷ [])) in
    let start = subst (λ (ls : List (List ℕ)). Passes v (ruled head (record s { plan = [] })) ls (among_events (record head { subs = head.subs ++ s ∷ ss }) [])) lines both in
    passes_line v (headed head) (line (head_words (a_sub s))) ((rule_lines s.plan ++ flat_map lines_of_sub ss) ++ events_line ∷ []) (ruled head (record s { plan = [] })) _
    (first_goes v head s all.0 (omega (arith, few, ap length none)))
    (subst (λ (xs : List Sub). Passes v (ruled head (record s { plan = [] })) ((rule_lines s.plan ++ flat_map lines_of_sub ss) ++ events_line ∷ []) (among_events (record head { subs = xs ++ s ∷ ss }) [])) none start)

pub head_passes : (v : Version) (head : Head) → IsHead head → head.possible ≤ most_cpus v → Passes v begins (front_lines v head ++ events_line ∷ []) (among_events head [])
head_passes v head h c =
    let end = among_events head [] in
    let subs = flat_map lines_of_sub head.subs ++ events_line ∷ [] in
    let absent = line (absent_words head.absent) ∷ subs in
    let cpus = line (cpus_words head.possible) ∷ absent in
    passes_line v begins (title_line v) cpus titled end (title_step v)
    (passes_line v titled (line (cpus_words head.possible)) absent (counted head.possible) end (cpus_goes v head h c)
    (passes_line v (counted head.possible) (line (absent_words head.absent)) subs (headed (bare head)) end (absent_goes v head h)
    (all_subs_pass v (bare head) head.subs (recursion_from_All IsSub head.subs h.subs_are) h.few_subs refl)))

-- ---- the events

event_asks : (v : Version) (head : Head) (before : List Event) (e : Event) → IsU32 (operation_number before e) → EventFits e → Stands head before e → has_seat v e ≡ true →
    step v (among_events head before) (event_line v (operation_number before e) e) ≡ asks head before e
unfolding step
event_asks v head before e u f s seat =
    let n = operation_number before e in
    let l = event_line v n e in
    ap (λ (o : Option NumberedEvent). event_step v head before o (end_step head before (end_at l))) (event_at_again v n e u f (stands_spelled head before e s))
    ∙ ap (λ (b : Bool). cond b (asks head before e) (stops Unlawful)) (rightly_numbered v before e seat)

pub events_pass : (v : Version) (head : Head) (before events : List Event) → AllByRecursion EventFits events → EachAfter (Stands head) before events →
    IsWithin v head (before ++ events) → length before + length events ≤ MAX_EVENTS →
    Passes v (among_events head before) (lines_after v before events) (among_events head (before ++ events))
events_pass v head before [] f h w few = ap (among_events head) (sym (append-nil before))
events_pass v head before (e ∷ es) f h w few =
    let same : (before ++ e ∷ []) ++ es ≡ before ++ e ∷ es = append_assoc before (e ∷ []) es in
    let count = length-append before (e ∷ []) in
    let small = operations_few (seat_of e) (before ++ e ∷ []) in
    let asked = event_asks v head before e (omega (arith, few)) f.0 h.0 (has_its_seat v head before e es w h.0) in
    let more = events_pass v head (before ++ e ∷ []) es f.1 h.1 (subst (λ (xs : List Event). IsWithin v head xs) (sym same) w) (omega (arith, few)) in (
      among_events head (before ++ e ∷ []),
      subst (λ (x : Step). Leads x (among_events head (before ++ e ∷ []))) (sym asked) (h.0, refl),
      subst (λ (x : List Event). Passes v (among_events head (before ++ e ∷ [])) (lines_after v (before ++ e ∷ []) es) (among_events head x)) same more,
    )

-- no event's line is an end line
no_event : (v : Version) (w : List ℕ) → event v (codes "end" ∷ w ∷ []) ≡ None
unfolding event
no_event v w = refl

pub end_no_event : (v : Version) (l : List ℕ) (n : ℕ) → end_at l ≡ Some n → event_at v l ≡ None
unfolding event_at
end_no_event v l n h = let s = end_says l n h in ap (option_and_then (event v)) s.1 ∙ no_event v s.0

end_goes : (v : Version) (head : Head) (events : List Event) → length events < 2 ^ 64 → step v (among_events head events) (line (end_words (length events))) ≡ goes (whole head events)
unfolding step
end_goes v head events lt =
    let end : end_at (line (end_words (length events))) ≡ Some (length events) = end_again (length events) lt in
    let none : event_at v (line (end_words (length events))) ≡ None = end_no_event v _ (length events) end in
    let same : eqb (length events) (length events) ≡ true = eq-eqb (length events) (length events) refl in
    let first : step v (among_events head events) (line (end_words (length events))) ≡ end_step head events (end_at (line (end_words (length events)))) =
    ap (λ (o : Option NumberedEvent). event_step v head events o (end_step head events (end_at (line (end_words (length events)))))) none in
    first ∙ ap (end_step head events) end ∙ rw same refl

pub text_passes : (v : Version) (head : Head) (events : List Event) → IsJournal v head events → Passes v begins (text_lines v head events) (whole head events)
text_passes v head events j =
    let end = passes_line v (among_events head events) (line (end_words (length events))) [] (whole head events) (whole head events) (end_goes v head events (omega (arith, not_many head events j.lawful))) refl in
    let all = passes-append v _ (lines_after v [] events) (among_events head events) (line (end_words (length events)) ∷ []) (whole head events) (events_pass v head [] events (recursion_from_All EventFits events j.fit) j.lawful.1 j.within (omega (arith, not_many head events j.lawful))) end in
    let both = passes-append v begins (front_lines v head ++ events_line ∷ []) (among_events head []) (lines_after v [] events ++ line (end_words (length events)) ∷ []) (whole head events) (head_passes v head j.lawful.0 (cpus_within v head events j.lawful.0 j.within)) all in
    subst (λ (ls : List (List ℕ)). Passes v begins ls (whole head events)) (append_assoc (front_lines v head) (events_line ∷ []) (lines_after v [] events ++ line (end_words (length events)) ∷ [])) both

-- ---- the summary

summary_goes : (v : Version) (head : Head) (events : List Event) (l : List ℕ) (ls : List (List ℕ)) → step v (among_summary head events (l ∷ ls)) l ≡ goes (among_summary head events ls)
unfolding step
summary_goes v head events l ls = rw (same_bytes l) refl

summary_passes : (v : Version) (head : Head) (events : List Event) (ls : List (List ℕ)) → Passes v (among_summary head events ls) ls (among_summary head events [])
summary_passes v head events [] = refl
summary_passes v head events (l ∷ ls) = passes_line v (among_summary head events (l ∷ ls)) l ls (among_summary head events ls) _ (summary_goes v head events l ls) (summary_passes v head events ls)

first_of_summary : (v : Version) (head : Head) (events : List Event) (l : List ℕ) (ls : List (List ℕ)) → lines_of (summary head events) ≡ l ∷ ls → step v (whole head events) l ≡ goes (among_summary head events ls)
unfolding step
first_of_summary v head events l ls h = ap (λ (left : List (List ℕ)). summary_step head events left l) h ∙ rw (same_bytes l) refl

-- the summary's lines, from the whole text, to where the journal is accepted
pub all_passes : (v : Version) (head : Head) (events : List Event) (ls : List (List ℕ)) → lines_of (summary head events) ≡ ls → (t : Stage) × Passes v (whole head events) ls t × ((n : ℕ) → at_end t n ≡ accepted head events)
all_passes v head events [] h = (whole head events, refl, λ n. refl)
all_passes v head events (l ∷ ls) h = (
  among_summary head events [],
  passes_line v (whole head events) l ls (among_summary head events ls) _ (first_of_summary v head events l ls h) (summary_passes v head events ls),
  λ n. refl,
)
