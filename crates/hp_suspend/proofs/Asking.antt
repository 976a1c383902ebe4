-- What is asked for by the lists of the moment is what comes next of the journal.
use Rattle.std.proofs.Common.{◌≡◌, ℕ, zero, suc, Bool, true, false, cond, not, ◌&&◌, eqb, ltb, leb, Option, Some, None, List, [], ◌∷◌, length, drop, get_or, refl, ap, sym, ◌∙◌}
use Rattle.std.specs.Prelude.{ℤ, pos, filter, slice_get}
use Rattle.hp_model.proofs.ListLemmas.{filter_agree}
use Rattle.hp_event.specs.declared.op.Op.TheVariants.{Boot, Freeze, Thaw}
use Rattle.hp_event.specs.declared.answer.Answer.{Answer}
use Rattle.hp_event.specs.declared.answer.Answer.TheVariants.{Ok}
use Rattle.hp_event.specs.declared.head.Head.{Head}
use Rattle.hp_event.specs.declared.event.Event.{Event}
use Rattle.hp_model.specs.Lists.{among, numbers}
use Rattle.hp_model.specs.Walks.{walking}
use Rattle.hp_model.specs.MapLock.{Operation, operation}
use Rattle.hp_model.specs.Settled.{settled, is_online}
use Rattle.hp_model.specs.Processors.{is_present, online}
use Rattle.hp_model.specs.Suspend.{frozen, wakeup_pending}
use Rattle.hp_model.specs.Sequence.{Next, ends, primary_of, first_next, boot_next, next}
use Rattle.hp_model.specs.Lawful.{IsLawful}
use Rattle.hp_suspend.specs.declared.freeze.Freeze.{Freeze as AFreeze}
use Rattle.hp_suspend.specs.Tables.{AreOnline, ArePresent, AreFrozen, AreSettled}
use Rattle.hp_suspend.specs.Freezing.{IsFreezing}
use Rattle.hp_suspend.specs.Thawing.{IsThawing}
use Rattle.hp_suspend.specs.Booting.{IsBooting}
use Rattle.hp_suspend.specs.declared.thaw.Thaw.{Thaw as AThaw}
use Rattle.hp_suspend.specs.declared.boot.Boot.{Boot as ABoot}
use Rattle.hp_suspend.specs.ByLists.{online_but, frozen_below, present_offline, online_count, freeze_by, next_of_freeze, next_of_thaw, next_of_boot}
use Rattle.hp_suspend.proofs.Places.{said_at, tested_places, count_places}
use Rattle.hp_suspend.proofs.NextIs.{between, freeze_says, freeze_next_is, rising_says, thaw_next_is, boot_next_is}

-- the lowest online processor but the primary
abbrev pub first_to_freeze : AFreeze → (online : List Bool) → Option ℕ
first_to_freeze f on = slice_get (online_but f.primary on) 0

-- what a freeze asks for, by the lists
pub freeze_said : (f : AFreeze) (on : List Bool) (waking : Bool) (said : Next) →
    said ≡ freeze_says f.ended (first_to_freeze f on) waking → said ≡ next_of_freeze f on waking
freeze_said f on waking said is = is ∙ go f.ended (online_but f.primary on)
  where
    go : (ended : Option Answer) (xs : List ℕ) → freeze_says ended (slice_get xs 0) waking ≡ freeze_by ended waking xs
    go (Some answer) xs = refl
    go None [] = refl
    go None (c ∷ cs) = refl

-- what a thaw and a boot ask for: the first that is left of a list, of which so many were walked
rising_said : (xs : List ℕ) (walked failed : ℕ) →
    rising_says (slice_get xs walked) failed ≡ first_next 200 (drop walked xs) (Ok (pos failed))
rising_said [] zero failed = refl
rising_said [] (suc walked) failed = refl
rising_said (c ∷ cs) zero failed = refl
rising_said (c ∷ cs) (suc walked) failed = rising_said cs walked failed

pub freeze_asks : (f : AFreeze) (on : List Bool) (waking : Bool) (said : Next) → said ≡ freeze_says f.ended (first_to_freeze f on) waking →
    (head : Head) (events : List Event) (o : Operation) (primary : ℤ) → IsLawful head events → operation events ≡ Some o →
    o.op ≡ Freeze primary → walking events ≡ [] → IsFreezing head o.before events primary f → AreOnline head events on →
    waking ≡ wakeup_pending events → said ≡ next head events o.before o.op
freeze_asks f on waking said is head events o primary l held asked rests k lists w =
    let found : first_to_freeze f on
    ≡ slice_get (filter (λ c. is_online c events && not (eqb c (primary_of primary (online head o.before)))) (numbers head.possible)) 0 =
    ap (λ z. slice_get z 0)
    (tested_places head (λ c. is_online c events) on false (λ c b. b && not (eqb c f.primary)) lists
    ∙ ap (λ n. filter (λ c. is_online c events && not (eqb c n)) (numbers head.possible)) k.primary_is)
    in
    is
    ∙ (rw (k.ended_is, found, w) refl
    ∙ (sym (freeze_next_is head primary o.before events (between head events o (Freeze primary) l held asked refl rests))
    ∙ ap (next head events o.before) (sym asked)))

-- of the frozen processors that aren't up, the one that has so many below it as walks failed
abbrev pub first_to_thaw : AThaw → (record_of : List Bool) → (states : List ℕ) → Option ℕ
first_to_thaw t fs ss = slice_get (frozen_below fs ss) t.failed

pub thaw_said : (t : AThaw) (fs : List Bool) (ss : List ℕ) (said : Next) →
    said ≡ rising_says (first_to_thaw t fs ss) t.failed → said ≡ next_of_thaw t fs ss
thaw_said t fs ss said is = is ∙ rising_said (frozen_below fs ss) t.failed t.failed

pub thaw_asks : (t : AThaw) (fs : List Bool) (ss : List ℕ) (said : Next) → said ≡ rising_says (first_to_thaw t fs ss) t.failed →
    (head : Head) (events : List Event) (o : Operation) → IsLawful head events → operation events ≡ Some o →
    o.op ≡ Thaw → walking events ≡ [] → IsThawing events t → AreFrozen head events fs → AreSettled head events ss →
    said ≡ next head events o.before o.op
thaw_asks t fs ss said is head events o l held asked rests k frozen_are settled_are =
    let row : filter (λ c. get_or fs c false && ltb (get_or ss c 0) 200) (numbers (length fs))
    ≡ filter (λ c. among c (frozen events) && ltb (settled c events) 200) (numbers head.possible) =
    rw frozen_are.length_is
    (filter_agree (λ c. get_or fs c false && ltb (get_or ss c 0) 200)
    (λ c. among c (frozen events) && ltb (settled c events) 200) head.possible
    (λ c b.
    rw (
      said_at head (λ d. among d (frozen events)) fs c false frozen_are b,
      said_at head (λ d. settled d events) ss c 0 settled_are b,
    )
    refl))
    in
    is
    ∙ (rw (row, k.failed_is) refl
    ∙ (sym (thaw_next_is head o.before events (between head events o Thaw l held asked refl rests))
    ∙ ap (next head events o.before) (sym asked)))

-- of the present processors that are offline, the one that has so many below it as walks turned back
abbrev pub first_to_boot : ABoot → (present_are online_are : List Bool) → Option ℕ
first_to_boot b ps on = slice_get (present_offline ps on) b.turned_back

abbrev pub boot_says : ABoot → (present_are online_are : List Bool) → Next
boot_says b ps on =
    cond (leb b.max (online_count on)) (ends (Ok (pos b.failed))) (rising_says (first_to_boot b ps on) b.failed)

pub boot_said : (b : ABoot) (ps on : List Bool) (said : Next) → said ≡ boot_says b ps on → said ≡ next_of_boot b ps on
boot_said b ps on said is = is ∙ go (leb b.max (online_count on))
  where
    go : (enough : Bool) →
        cond enough (ends (Ok (pos b.failed))) (rising_says (first_to_boot b ps on) b.failed)
        ≡ boot_next enough (drop b.turned_back (present_offline ps on)) b.failed
    go true = refl
    go false = rising_said (present_offline ps on) b.turned_back b.failed

pub boot_asks : (b : ABoot) (ps on : List Bool) (said : Next) → said ≡ boot_says b ps on →
    (head : Head) (events : List Event) (o : Operation) (max : ℕ) → IsLawful head events → operation events ≡ Some o →
    o.op ≡ Boot max → walking events ≡ [] → IsBooting max events b → ArePresent head ps → AreOnline head events on →
    said ≡ next head events o.before o.op
boot_asks b ps on said is head events o max l held asked rests k present_are online_are =
    let row : filter (λ c. get_or ps c false && not (get_or on c false)) (numbers (length ps))
    ≡ filter (λ c. is_present head c && not (is_online c events)) (numbers head.possible) =
    rw present_are.length_is
    (filter_agree (λ c. get_or ps c false && not (get_or on c false))
    (λ c. is_present head c && not (is_online c events)) head.possible
    (λ c b.
    rw (
      said_at head (λ d. is_present head d) ps c false present_are b,
      said_at head (λ d. is_online d events) on c false online_are b,
    )
    refl))
    in
    let count : length (filter (λ x. x) on) ≡ length (online head events) =
    count_places on ∙ ap length (tested_places head (λ c. is_online c events) on false (λ c x. x) online_are)
    in
    is
    ∙ (rw (row, count, k.max_is, k.failed_is, k.turned_back_is) refl
    ∙ (sym (boot_next_is head max o.before events (between head events o (Boot max) l held asked refl rests))
    ∙ ap (next head events o.before) (sym asked)))
