-- Of which kind a line is that stops, by the lines before it.
use Rattle.std.proofs.Common.{◌≡◌, ◌≢◌, ℕ, Bool, true, false, cond, eqb, ltb, ◌||◌, List, [], ◌∷◌, ◌++◌, length, Option, Some, None, refl, sym, ap, subst, ◌∙◌}
use Rattle.std.specs.Str.{bytes_eq}
use Rattle.std.specs.Option.{option_and_then}
use Rattle.std.specs.List.{list_any}
use Rattle.std.proofs.lemmas.List.Folds.{list_any-append}
use Rattle.hp_states.proofs.Basics.{same_some}
use Rattle.hp_states.specs.declared.limits.TheConstants.{MAX_SUBS, MAX_RULES}
use Rattle.hp_event.specs.declared.head.Sub.{Sub}
use Rattle.hp_event.specs.declared.head.Head.{Head}
use Rattle.hp_event.specs.declared.event.Event.{Event}
use Rattle.hp_model.specs.JournalText.{title_line}
use Rattle.hp_model.specs.Summary.{summary}
use Rattle.hp_text.proofs.SubLaws.{other_word}
use Rattle.hp_event.specs.declared.version.Version.{Version}
use Rattle.hp_replay.specs.declared.error.ReplayKind.{ReplayKind}
use Rattle.hp_replay.specs.declared.error.ReplayKind.TheVariants.{Header, Syntax, Unlawful, Count, Trailing}
use Rattle.hp_replay.specs.InputLines.{lines_of}
use Rattle.hp_replay.specs.LineWords.{words_at}
use Rattle.hp_replay.specs.Readers.{one_of}
use Rattle.hp_replay.specs.HeadLines.{HeadLine, a_sub, a_rule, the_events, cpus_rows, cpus_at, absent_rows, absent_at, head_rows, head_line_at}
use Rattle.hp_model.specs.Lawful.{Stands}
use Rattle.hp_event.specs.declared.version.Version.TheVariants.{One, Two}
use Rattle.hp_replay.specs.declared.event.NumberedEvent.{NumberedEvent}
use Rattle.hp_replay.specs.Versions.{is_numbered}
use Rattle.hp_replay.specs.EventAt.{event_at}
use Rattle.hp_replay.specs.EndAt.{end_at}
use Rattle.hp_replay.specs.Kinds.{is_there, is_events_line, is_end_line, kind_among_events, kind_of}
use Rattle.hp_replay.specs.Stages.{Stage, begins, titled, counted, headed, ruled, among_events, whole, among_summary, Step, goes, asks, stops, with_sub, cpus_step, absent_step, headed_step, ruled_step, said_step, event_step, end_step, summary_step, step}
use Rattle.hp_replay.proofs.ReaderLaws.{same_word}
use Rattle.hp_replay.proofs.HeadLaws.{head_takes, events_again, end_says}
use Rattle.hp_replay.proofs.TextLines.{events_line}
use Rattle.hp_replay.specs.Judged.{Leads}
use Rattle.hp_replay.proofs.TextPasses.{same_bytes, end_no_event}

-- whether an `events` line and an `end` line stand among these
pub record Seen (before : List (List ℕ)) (events ended : Bool) : Type 0 where
  pub events_is : list_any is_events_line before ≡ events
  pub end_is : list_any is_end_line before ≡ ended

abbrev pub Parted : Stage → (before : List (List ℕ)) → Type 0
Parted begins before = Seen before false false
Parted titled before = Seen before false false
Parted (counted possible) before = Seen before false false
Parted (headed head) before = Seen before false false
Parted (ruled head sub) before = Seen before false false
Parted (among_events head events) before = Seen before true false
Parted (whole head events) before = Seen before true true
Parted (among_summary head events left) before = Seen before true true

pub parted_none : Parted begins []
parted_none = record { events_is = refl; end_is = refl }

any_more : (p : List ℕ → Bool) (before : List (List ℕ)) (l : List ℕ) (s t : Bool) → list_any p before ≡ s → p l ≡ t → list_any p (before ++ l ∷ []) ≡ (s || (t || false))
any_more p before l s t h e = list_any-append p before (l ∷ []) ∙ rw (h, e) refl

seen_more : (before : List (List ℕ)) (l : List ℕ) (events ended e f : Bool) → Seen before events ended → is_events_line l ≡ e → is_end_line l ≡ f → Seen (before ++ l ∷ []) (events || (e || false)) (ended || (f || false))
seen_more before l events ended e f s a b = record { events_is = any_more is_events_line before l events e s.events_is a; end_is = any_more is_end_line before l ended f s.end_is b }

-- a line that another reader reads is no end line
no_end : {A : Type 0} (l : List ℕ) (o : Option A) (a : A) → o ≡ Some a → ((n : ℕ) → end_at l ≡ Some n → o ≡ None) → is_end_line l ≡ false
no_end l o a h none = is (end_at l) refl
  where
    is : (e : Option ℕ) → end_at l ≡ e → is_there e ≡ false
    is None t = refl
    is (Some n) t = let x = none n t in absurd cc

no_events : (l : List ℕ) → l ≢ events_line → is_events_line l ≡ false
no_events l h = other_word l events_line (bytes_eq l events_line) refl h

cpus_no_end : (v : Version) (l : List ℕ) (n : ℕ) → end_at l ≡ Some n → cpus_at v l ≡ None
unfolding cpus_at
cpus_no_end v l n h = let s = end_says l n h in ap (option_and_then (one_of (cpus_rows v))) s.1

absent_no_end : (possible : ℕ) (l : List ℕ) (n : ℕ) → end_at l ≡ Some n → absent_at possible l ≡ None
unfolding absent_at
absent_no_end possible l n h = let s = end_says l n h in ap (option_and_then (one_of (absent_rows possible))) s.1

head_no_end : (l : List ℕ) (n : ℕ) → end_at l ≡ Some n → head_line_at l ≡ None
unfolding head_line_at
head_no_end l n h = let s = end_says l n h in ap (option_and_then (one_of head_rows)) s.1

cpus_no_events : (v : Version) → cpus_at v events_line ≡ None
unfolding cpus_at words_at
cpus_no_events v = refl

absent_no_events : (possible : ℕ) → absent_at possible events_line ≡ None
unfolding absent_at words_at
absent_no_events possible = refl

title_no_events : (v : Version) → is_events_line (title_line v) ≡ false
unfolding title_line
title_no_events v = refl

title_words : (v : Version) → end_at (title_line v) ≡ None
unfolding title_line end_at words_at
title_words One = refl
title_words Two = refl

-- ---- one line more

title_parts : (v : Version) (before : List (List ℕ)) (l : List ℕ) (t : Bool) (m : Stage) → Seen before false false → bytes_eq l (title_line v) ≡ t → Leads (cond t (goes titled) (stops Header)) m → Parted m (before ++ l ∷ [])
title_parts v before l true m r t h =
    let same : l ≡ title_line v = same_word l (title_line v) t in
    subst (λ (s : Stage). Parted s (before ++ l ∷ [])) h
    (seen_more before l false false false false r (ap is_events_line same ∙ title_no_events v) (ap is_end_line same ∙ ap is_there (title_words v)))
title_parts v before l false m r t h = absurd h

cpus_parts : (v : Version) (before : List (List ℕ)) (l : List ℕ) (o : Option ℕ) (m : Stage) → Seen before false false → cpus_at v l ≡ o → Leads (cpus_step o) m → Parted m (before ++ l ∷ [])
cpus_parts v before l (Some n) m r t h =
    subst (λ (s : Stage). Parted s (before ++ l ∷ [])) h
    (seen_more before l false false false false r
    (no_events l (λ same. let x : cpus_at v l ≡ None = ap (cpus_at v) same ∙ cpus_no_events v in cc))
    (no_end l (cpus_at v l) n t (λ k e. cpus_no_end v l k e)))
cpus_parts v before l None m r t h = absurd h

absent_parts : (possible : ℕ) (before : List (List ℕ)) (l : List ℕ) (o : Option (List ℕ)) (m : Stage) → Seen before false false → absent_at possible l ≡ o → Leads (absent_step possible o) m → Parted m (before ++ l ∷ [])
absent_parts possible before l (Some absent) m r t h =
    subst (λ (s : Stage). Parted s (before ++ l ∷ [])) h
    (seen_more before l false false false false r
    (no_events l (λ same. let x : absent_at possible l ≡ None = ap (absent_at possible) same ∙ absent_no_events possible in cc))
    (no_end l (absent_at possible l) absent t (λ k e. absent_no_end possible l k e)))
absent_parts possible before l None m r t h = absurd h

head_parts : (before : List (List ℕ)) (l : List ℕ) (x : HeadLine) → Seen before false false → head_line_at l ≡ Some x → x ≢ the_events → Seen (before ++ l ∷ []) false false
head_parts before l x r t other =
    seen_more before l false false false false r
    (no_events l (λ same. other (same_some x the_events (sym t ∙ ap head_line_at same ∙ events_again))))
    (no_end l (head_line_at l) x t (λ k e. head_no_end l k e))

next_parts : (before : List (List ℕ)) (l : List ℕ) (x : HeadLine) (s : Stage) (t : Bool) (m : Stage) → Seen before false false → head_line_at l ≡ Some x → x ≢ the_events → (Seen (before ++ l ∷ []) false false → Parted s (before ++ l ∷ [])) →
    Leads (cond t (goes s) (stops Header)) m → Parted m (before ++ l ∷ [])
next_parts before l x s true m r e other f h = subst (λ (g : Stage). Parted g (before ++ l ∷ [])) h (f (head_parts before l x r e other))
next_parts before l x s false m r e other f h = absurd h

events_parts : (head : Head) (before : List (List ℕ)) (l : List ℕ) (m : Stage) → Seen before false false → head_line_at l ≡ Some the_events → among_events head [] ≡ m → Parted m (before ++ l ∷ [])
events_parts head before l m r e h =
    let same : l ≡ events_line = (head_takes l the_events e).0 in
    subst (λ (s : Stage). Parted s (before ++ l ∷ [])) h
    (seen_more before l false false true false r (ap is_events_line same ∙ same_bytes events_line) (no_end l (head_line_at l) the_events e (λ k x. head_no_end l k x)))

headed_parts : (head : Head) (before : List (List ℕ)) (l : List ℕ) (o : Option HeadLine) (m : Stage) → Seen before false false → head_line_at l ≡ o → Leads (headed_step head o) m → Parted m (before ++ l ∷ [])
headed_parts head before l None m r e h = absurd h
headed_parts head before l (Some (a_sub sub)) m r e h = next_parts before l (a_sub sub) (ruled head sub) (ltb (length head.subs) MAX_SUBS) m r e (λ x. cc) (λ s. s) h
headed_parts head before l (Some (a_rule rule)) m r e h = absurd h
headed_parts head before l (Some the_events) m r e h = events_parts head before l m r e h

ruled_parts : (head : Head) (sub : Sub) (before : List (List ℕ)) (l : List ℕ) (o : Option HeadLine) (m : Stage) → Seen before false false → head_line_at l ≡ o → Leads (ruled_step head sub o) m → Parted m (before ++ l ∷ [])
ruled_parts head sub before l None m r e h = absurd h
ruled_parts head sub before l (Some (a_sub other)) m r e h = next_parts before l (a_sub other) (ruled (with_sub head sub) other) (ltb (length (head.subs ++ sub ∷ [])) MAX_SUBS) m r e (λ x. cc) (λ s. s) h
ruled_parts head sub before l (Some (a_rule rule)) m r e h = next_parts before l (a_rule rule) (ruled head (record sub { plan = sub.plan ++ rule ∷ [] })) (ltb (length sub.plan) MAX_RULES) m r e (λ x. cc) (λ s. s) h
ruled_parts head sub before l (Some the_events) m r e h = events_parts (with_sub head sub) before l m r e h

count_parts : (head : Head) (events : List Event) (before : List (List ℕ)) (l : List ℕ) (n : ℕ) (t : Bool) (m : Stage) → Seen before true false → end_at l ≡ Some n → Leads (cond t (goes (whole head events)) (stops Count)) m → Parted m (before ++ l ∷ [])
count_parts head events before l n true m r e h = subst (λ (s : Stage). Parted s (before ++ l ∷ [])) h (seen_more before l true false (is_events_line l) true r refl (ap is_there e))
count_parts head events before l n false m r e h = absurd h

end_parts : (head : Head) (events : List Event) (before : List (List ℕ)) (l : List ℕ) (o : Option ℕ) (m : Stage) → Seen before true false → end_at l ≡ o → Leads (end_step head events o) m → Parted m (before ++ l ∷ [])
end_parts head events before l None m r e h = absurd h
end_parts head events before l (Some n) m r e h = count_parts head events before l n (eqb n (length events)) m r e h

-- an event's line that leads on: the event stands, and its number and its seat are right
pub record GoesTo (v : Version) (head : Head) (events : List Event) (said : NumberedEvent) (m : Stage) : Type 0 where
  pub right : is_numbered v events said ≡ true
  pub stands : Stands head events said.event
  pub next : among_events head (events ++ said.event ∷ []) ≡ m

pub said_goes : (v : Version) (head : Head) (events : List Event) (said : NumberedEvent) (m : Stage) → Leads (said_step v head events said) m → GoesTo v head events said m
said_goes v head events said m h = go (is_numbered v events said) refl h
  where
    go : (b : Bool) → is_numbered v events said ≡ b → Leads (cond b (asks head events said.event) (stops Unlawful)) m → GoesTo v head events said m
    go true e g = record { right = e; stands = g.0; next = g.1 }
    go false e g = absurd g

among_parts : (v : Version) (head : Head) (events : List Event) (before : List (List ℕ)) (l : List ℕ) (o : Option NumberedEvent) (m : Stage) → Seen before true false → event_at v l ≡ o → Leads (event_step v head events o (end_step head events (end_at l))) m → Parted m (before ++ l ∷ [])
among_parts v head events before l None m r e h = end_parts head events before l (end_at l) m r refl h
among_parts v head events before l (Some x) m r e h =
    subst (λ (s : Stage). Parted s (before ++ l ∷ [])) (said_goes v head events x m h).next
    (seen_more before l true false (is_events_line l) false r refl (no_end l (event_at v l) x e (λ k y. end_no_event v l k y)))

summary_parts : (head : Head) (events : List Event) (left before : List (List ℕ)) (l : List ℕ) (m : Stage) → Seen before true true → Leads (summary_step head events left l) m → Parted m (before ++ l ∷ [])
summary_parts head events [] before l m r h = absurd h
summary_parts head events (x ∷ left) before l m r h = same (bytes_eq l x) h
  where
    same : (t : Bool) → Leads (cond t (goes (among_summary head events left)) (stops Trailing)) m → Parted m (before ++ l ∷ [])
    same true g = subst (λ (s : Stage). Parted s (before ++ l ∷ [])) g (seen_more before l true true (is_events_line l) (is_end_line l) r refl refl)
    same false g = absurd g

pub parted_more : (v : Version) (s : Stage) (before : List (List ℕ)) (l : List ℕ) (m : Stage) → Parted s before → Leads (step v s l) m → Parted m (before ++ l ∷ [])
unfolding step
parted_more v begins before l m r h = title_parts v before l (bytes_eq l (title_line v)) m r refl h
parted_more v titled before l m r h = cpus_parts v before l (cpus_at v l) m r refl h
parted_more v (counted possible) before l m r h = absent_parts possible before l (absent_at possible l) m r refl h
parted_more v (headed head) before l m r h = headed_parts head before l (head_line_at l) m r refl h
parted_more v (ruled head sub) before l m r h = ruled_parts head sub before l (head_line_at l) m r refl h
parted_more v (among_events head events) before l m r h = among_parts v head events before l (event_at v l) m r refl h
parted_more v (whole head events) before l m r h = summary_parts head events (lines_of (summary head events)) before l m r h
parted_more v (among_summary head events left) before l m r h = summary_parts head events left before l m r h

-- ---- the kind of a line that stops, or whose event doesn't stand

abbrev pub HasKind : Step → ReplayKind → Type 0
HasKind (goes s) k = Unit {0}
HasKind (stops j) k = k ≡ j
HasKind (asks head events e) k = k ≡ Unlawful

kind_by : (v : Version) (before : List (List ℕ)) (l : List ℕ) (events ended : Bool) → Seen before events ended → kind_of v before l ≡ cond events (cond ended Trailing (kind_among_events v l)) Header
kind_by v before l events ended s = rw (s.events_is, s.end_is) refl

header_cond : (t : Bool) (s : Stage) → HasKind (cond t (goes s) (stops Header)) Header
header_cond true s = tt
header_cond false s = refl

header_title : (v : Version) (l : List ℕ) → HasKind (step v begins l) Header
unfolding step
header_title v l = header_cond (bytes_eq l (title_line v)) titled

header_cpus : (o : Option ℕ) → HasKind (cpus_step o) Header
header_cpus None = refl
header_cpus (Some n) = tt

header_absent : (possible : ℕ) (o : Option (List ℕ)) → HasKind (absent_step possible o) Header
header_absent possible None = refl
header_absent possible (Some absent) = tt

header_headed : (head : Head) (o : Option HeadLine) → HasKind (headed_step head o) Header
header_headed head None = refl
header_headed head (Some (a_sub sub)) = header_cond (ltb (length head.subs) MAX_SUBS) (ruled head sub)
header_headed head (Some (a_rule rule)) = refl
header_headed head (Some the_events) = tt

header_ruled : (head : Head) (sub : Sub) (o : Option HeadLine) → HasKind (ruled_step head sub o) Header
header_ruled head sub None = refl
header_ruled head sub (Some (a_sub other)) = header_cond (ltb (length (head.subs ++ sub ∷ [])) MAX_SUBS) (ruled (with_sub head sub) other)
header_ruled head sub (Some (a_rule rule)) = header_cond (ltb (length sub.plan) MAX_RULES) (ruled head (record sub { plan = sub.plan ++ rule ∷ [] }))
header_ruled head sub (Some the_events) = tt

kind_end : (head : Head) (events : List Event) (o : Option ℕ) → HasKind (end_step head events o) (cond (is_there o) Count Syntax)
kind_end head events None = refl
kind_end head events (Some n) = count (eqb n (length events))
  where
    count : (t : Bool) → HasKind (cond t (goes (whole head events)) (stops Count)) Count
    count true = tt
    count false = refl

kind_event : (v : Version) (head : Head) (events : List Event) (l : List ℕ) (o : Option NumberedEvent) → HasKind (event_step v head events o (end_step head events (end_at l))) (cond (is_there o) Unlawful (cond (is_there (end_at l)) Count Syntax))
kind_event v head events l None = kind_end head events (end_at l)
kind_event v head events l (Some x) = kind_said (is_numbered v events x)
  where
    kind_said : (b : Bool) → HasKind (cond b (asks head events x.event) (stops Unlawful)) Unlawful
    kind_said true = refl
    kind_said false = refl

kind_summary : (head : Head) (events : List Event) (left : List (List ℕ)) (l : List ℕ) → HasKind (summary_step head events left l) Trailing
kind_summary head events [] l = refl
kind_summary head events (x ∷ left) l = same (bytes_eq l x)
  where
    same : (t : Bool) → HasKind (cond t (goes (among_summary head events left)) (stops Trailing)) Trailing
    same true = tt
    same false = refl

kind_step : (v : Version) (s : Stage) (before : List (List ℕ)) (l : List ℕ) → Parted s before → (k : ReplayKind) × (kind_of v before l ≡ k) × HasKind (step v s l) k
unfolding step
kind_step v begins before l r = (Header, kind_by v before l false false r, header_title v l)
kind_step v titled before l r = (Header, kind_by v before l false false r, header_cpus (cpus_at v l))
kind_step v (counted possible) before l r = (Header, kind_by v before l false false r, header_absent possible (absent_at possible l))
kind_step v (headed head) before l r = (Header, kind_by v before l false false r, header_headed head (head_line_at l))
kind_step v (ruled head sub) before l r = (Header, kind_by v before l false false r, header_ruled head sub (head_line_at l))
kind_step v (among_events head events) before l r = (kind_among_events v l, kind_by v before l true false r, kind_event v head events l (event_at v l))
kind_step v (whole head events) before l r = (Trailing, kind_by v before l true true r, kind_summary head events (lines_of (summary head events)) l)
kind_step v (among_summary head events left) before l r = (Trailing, kind_by v before l true true r, kind_summary head events left l)

pub kind_is : (v : Version) (s : Stage) (before : List (List ℕ)) (l : List ℕ) → Parted s before → HasKind (step v s l) (kind_of v before l)
kind_is v s before l r = let k = kind_step v s before l r in subst (HasKind (step v s l)) (sym k.1) k.2

-- ---- what is asked is asked among the events

abbrev AsksOnly : Step → Stage → Type 0
AsksOnly (goes m) s = Unit {0}
AsksOnly (stops k) s = Unit {0}
AsksOnly (asks head events e) s = s ≡ among_events head events

asks_cond : (t : Bool) (m s : Stage) (k : ReplayKind) → AsksOnly (cond t (goes m) (stops k)) s
asks_cond true m s k = tt
asks_cond false m s k = tt

asks_cpus : (s : Stage) (o : Option ℕ) → AsksOnly (cpus_step o) s
asks_cpus s None = tt
asks_cpus s (Some n) = tt

asks_absent : (s : Stage) (possible : ℕ) (o : Option (List ℕ)) → AsksOnly (absent_step possible o) s
asks_absent s possible None = tt
asks_absent s possible (Some absent) = tt

asks_headed : (s : Stage) (head : Head) (o : Option HeadLine) → AsksOnly (headed_step head o) s
asks_headed s head None = tt
asks_headed s head (Some (a_sub sub)) = asks_cond (ltb (length head.subs) MAX_SUBS) (ruled head sub) s Header
asks_headed s head (Some (a_rule rule)) = tt
asks_headed s head (Some the_events) = tt

asks_ruled : (s : Stage) (head : Head) (sub : Sub) (o : Option HeadLine) → AsksOnly (ruled_step head sub o) s
asks_ruled s head sub None = tt
asks_ruled s head sub (Some (a_sub other)) = asks_cond (ltb (length (head.subs ++ sub ∷ [])) MAX_SUBS) (ruled (with_sub head sub) other) s Header
asks_ruled s head sub (Some (a_rule rule)) = asks_cond (ltb (length sub.plan) MAX_RULES) (ruled head (record sub { plan = sub.plan ++ rule ∷ [] })) s Header
asks_ruled s head sub (Some the_events) = tt

asks_end : (s : Stage) (head : Head) (events : List Event) (o : Option ℕ) → AsksOnly (end_step head events o) s
asks_end s head events None = tt
asks_end s head events (Some n) = asks_cond (eqb n (length events)) (whole head events) s Count

asks_event : (v : Version) (head : Head) (events : List Event) (l : List ℕ) (o : Option NumberedEvent) → AsksOnly (event_step v head events o (end_step head events (end_at l))) (among_events head events)
asks_event v head events l None = asks_end (among_events head events) head events (end_at l)
asks_event v head events l (Some x) = asks_said (is_numbered v events x)
  where
    asks_said : (b : Bool) → AsksOnly (cond b (asks head events x.event) (stops Unlawful)) (among_events head events)
    asks_said true = refl
    asks_said false = tt

asks_summary : (s : Stage) (head : Head) (events : List Event) (left : List (List ℕ)) (l : List ℕ) → AsksOnly (summary_step head events left l) s
asks_summary s head events [] l = tt
asks_summary s head events (x ∷ left) l = asks_cond (bytes_eq l x) (among_summary head events left) s Trailing

asks_step : (v : Version) (s : Stage) (l : List ℕ) → AsksOnly (step v s l) s
unfolding step
asks_step v begins l = asks_cond (bytes_eq l (title_line v)) titled begins Header
asks_step v titled l = asks_cpus titled (cpus_at v l)
asks_step v (counted possible) l = asks_absent (counted possible) possible (absent_at possible l)
asks_step v (headed head) l = asks_headed (headed head) head (head_line_at l)
asks_step v (ruled head sub) l = asks_ruled (ruled head sub) head sub (head_line_at l)
asks_step v (among_events head events) l = asks_event v head events l (event_at v l)
asks_step v (whole head events) l = asks_summary (whole head events) head events (lines_of (summary head events)) l
asks_step v (among_summary head events left) l = asks_summary (among_summary head events left) head events left l

pub asked_of : (v : Version) (s : Stage) (l : List ℕ) (head : Head) (events : List Event) (e : Event) → step v s l ≡ asks head events e → s ≡ among_events head events
asked_of v s l head events e h = subst (λ (x : Step). AsksOnly x s) h (asks_step v s l)
