-- Lines of events and the `end` line, at the stage of the events so far.
use Rattle.std.proofs.Common.{◌≡◌, ℕ, Bool, true, false, cond, List, [], ◌∷◌, ◌++◌, Option, Some, None, refl, sym, ap, subst}
use Rattle.hp_event.specs.declared.head.Head.{Head}
use Rattle.hp_event.specs.declared.event.Event.{Event}
use Rattle.hp_model.specs.Lawful.{Stands}
use Rattle.hp_law.specs.Law.{Taken}
use Rattle.hp_event.specs.declared.version.Version.{Version}
use Rattle.hp_replay.specs.declared.error.ReplayKind.TheVariants.{Unlawful, Missing}
use Rattle.hp_replay.specs.declared.error.ReplayError.{ReplayError}
use Rattle.hp_replay.specs.declared.error.ReplayError.TheVariants.{Bad}
use Rattle.hp_replay.specs.EventAt.{event_at}
use Rattle.hp_replay.specs.EndAt.{end_at}
use Rattle.hp_replay.specs.LinesLeft.{LinesLeft, Takes}
pub use Rattle.hp_replay.specs.LawStages.{stage_of, with_event}
use Rattle.hp_replay.specs.declared.event.NumberedEvent.{NumberedEvent}
use Rattle.hp_replay.specs.Versions.{is_numbered}
use Rattle.hp_replay.specs.Stages.{Stage, among_events, Step, asks, stops, end_step, said_step, event_step, step}
use Rattle.hp_replay.specs.Judged.{Leads, Refuses}
use Rattle.hp_replay.specs.Reading.{GoesOver, RefusesLine, RefusedFrom}
use Rattle.hp_replay.proofs.ReadingLaws.{goes_one, refused_here, none_here}

among_told : (v : Version) (head : Head) (events : List Event) (l : List ℕ) (said : NumberedEvent) → Some said ≡ event_at v l →
    said_step v head events said ≡ step v (among_events head events) l
unfolding step
among_told v head events l said h = ap (λ (o : Option NumberedEvent). event_step v head events o (end_step head events (end_at l))) h

among_end : (v : Version) (head : Head) (events : List Event) (l : List ℕ) → None ≡ event_at v l → end_step head events (end_at l) ≡ step v (among_events head events) l
unfolding step
among_end v head events l h = ap (λ (o : Option NumberedEvent). event_step v head events o (end_step head events (end_at l))) h

-- ---- what a line does that says an event

-- the event stands, its number is right and the version has its seat
pub said_leads : (v : Version) (head : Head) (events : List Event) (said : NumberedEvent) → is_numbered v events said ≡ true → Stands head events said.event →
    Leads (said_step v head events said) (among_events head (events ++ said.event ∷ []))
said_leads v head events said right stands = rw right (stands, refl)

-- it doesn't stand
pub unlawful : (v : Version) (head : Head) (events : List Event) (said : NumberedEvent) → (Stands head events said.event → ⊥) → Refuses (said_step v head events said) Unlawful
unlawful v head events said falls = go (is_numbered v events said)
  where
    go : (b : Bool) → Refuses (cond b (asks head events said.event) (stops Unlawful)) Unlawful
    go true = (falls, refl)
    go false = refl

-- its number or its seat is wrong
pub wrong : (v : Version) (head : Head) (events : List Event) (said : NumberedEvent) → is_numbered v events said ≡ false → Refuses (said_step v head events said) Unlawful
wrong v head events said not = rw not refl

-- ---- of the lines that were gone over, and one line more

pub reads_event : (v : Version) (a b c : LinesLeft) (n : ℕ) (l : List ℕ) (s : Stage) (taken after : Taken) (said : NumberedEvent) →
    GoesOver v a s b (stage_of taken) → Takes b n l c → Some said ≡ event_at v l → Stands taken.head taken.events said.event → is_numbered v taken.events said ≡ true →
    after ≡ with_event taken said.event → GoesOver v a s c (stage_of after)
reads_event v a b c n l s taken after said p q told stands right is =
    subst (λ (j : Taken). GoesOver v a s c (stage_of j)) (sym is)
    (goes_one v a b c n l s (stage_of taken) (stage_of (with_event taken said.event)) p q
    (subst (λ (x : Step). Leads x (stage_of (with_event taken said.event))) (among_told v taken.head taken.events l said told)
    (said_leads v taken.head taken.events said right stands)))

pub refuses_event : (v : Version) (a b c : LinesLeft) (n : ℕ) (l : List ℕ) (s : Stage) (taken : Taken) (said : NumberedEvent) (x : ReplayError) →
    GoesOver v a s b (stage_of taken) → Takes b n l c → Some said ≡ event_at v l → RefusesLine (said_step v taken.head taken.events said) n x → RefusedFrom v s a x
refuses_event v a b c n l s taken said x p q told h =
    refused_here v a b c n l s (stage_of taken) x p q (subst (λ (y : Step). RefusesLine y n x) (among_told v taken.head taken.events l said told) h)

pub reads_end : (v : Version) (a b c : LinesLeft) (n : ℕ) (l : List ℕ) (s : Stage) (taken : Taken) (t : Stage) →
    GoesOver v a s b (stage_of taken) → Takes b n l c → None ≡ event_at v l → Leads (end_step taken.head taken.events (end_at l)) t → GoesOver v a s c t
reads_end v a b c n l s taken t p q said h =
    goes_one v a b c n l s (stage_of taken) t p q (subst (λ (y : Step). Leads y t) (among_end v taken.head taken.events l said) h)

pub refuses_end : (v : Version) (a b c : LinesLeft) (n : ℕ) (l : List ℕ) (s : Stage) (taken : Taken) (x : ReplayError) →
    GoesOver v a s b (stage_of taken) → Takes b n l c → None ≡ event_at v l → RefusesLine (end_step taken.head taken.events (end_at l)) n x → RefusedFrom v s a x
refuses_end v a b c n l s taken x p q said h =
    refused_here v a b c n l s (stage_of taken) x p q (subst (λ (y : Step). RefusesLine y n x) (among_end v taken.head taken.events l said) h)

pub misses_event : (v : Version) (a b : LinesLeft) (s : Stage) (taken : Taken) (x : ReplayError) → GoesOver v a s b (stage_of taken) → b.lines ≡ [] → x ≡ Bad b.number Missing → RefusedFrom v s a x
misses_event v a b s taken x p none is = none_here v a b s (stage_of taken) x p none is refl
