-- What is so of SMT control at any time, after a turn of a write.
use Rattle.std.proofs.Common.{◌≡◌, ℕ, ◌<◌, ◌≤◌, Bool, true, false, cond, not, ◌&&◌, ◌||◌, eqb, ltb, is_some, Option, Some, None, List, [], ◌∷◌, ◌++◌, length, refl, sym, ap, ◌∙◌, subst, inl, inr, ◌⊎◌, arith}
use Rattle.std.specs.Prelude.{zero, suc, pos, negsuc}
use Rattle.std.proofs.lemmas.Bool.{true≢false, false≢true, eqb-true, and_parts, or_parts, ltb-true}
use Rattle.std.proofs.lemmas.List.{length_push}
use Rattle.hp_states.proofs.Basics.{none_some, same_some, none_of, not_equal}
use Rattle.hp_states.specs.declared.cpu_set.CpuSet.{CpuSet}
use Rattle.hp_states.specs.CpuSets.{has}
use Rattle.hp_event.specs.declared.answer.Answer.{Answer}
use Rattle.hp_event.specs.declared.answer.Answer.TheVariants.{Ok, Refused as refused, Fault, Stuck, LogFull}
use Rattle.hp_event.specs.declared.head.Head.{Head}
use Rattle.hp_event.specs.declared.event.Event.{Event}
use Rattle.hp_event.specs.declared.event.Event.TheVariants.{Enter, Call}
use Rattle.hp_event.specs.declared.event.Role.TheVariants.{Client}
use Rattle.hp_event.specs.declared.op.Op.{Op}
use Rattle.hp_locks.specs.declared.why.Why.TheVariants.{HookOut, Idle}
use Rattle.hp_model.specs.Events.{seat_of, answer_by, is_call, BelongsTo}
use Rattle.hp_model.specs.Lawful.{Stands, IsLawful}
use Rattle.hp_model.specs.Lists.{occurs, numbers, is_empty}
use Rattle.hp_model.specs.MapLock.{operation, is_map_held}
use Rattle.hp_model.specs.NextEvent.{next_event}
use Rattle.hp_model.specs.Pending.{IsAllowed}
use Rattle.hp_model.specs.Registrations.{registration}
use Rattle.hp_model.specs.StandsCalls.{Calls}
use Rattle.hp_model.specs.Processors.{is_present}
use Rattle.hp_model.specs.Seats.{is_busy, role_of}
use Rattle.hp_model.specs.SetOf.{IsSet}
use Rattle.hp_model.specs.Settled.{settled, is_online}
use Rattle.hp_model.specs.Suspend.{is_disabled, frozen}
use Rattle.hp_model.proofs.Induction.{kept, held}
use Rattle.hp_model.proofs.DueGives.{due_stands}
use Rattle.hp_model.proofs.NextStands.{next_stands, next_belongs}
use Rattle.hp_model.proofs.OneNext.{owners}
use Rattle.hp_model.proofs.RoundsEnd.{in_numbers}
use Rattle.hp_table.specs.Step.{AllHome, is_home, step_at}
use Rattle.hp_board.specs.Loans.{AreOut, IsOutFor}
use Rattle.hp_board.specs.Contents.{Contents, with_event}
use Rattle.hp_board.specs.Turns.{IsTurn, IsServed, Makes}
use Rattle.hp_board.specs.declared.turn.Turn.{Turn}
use Rattle.hp_board.specs.declared.turn.Turn.TheVariants.{Made, Answered, NotYet}
use Rattle.hp_board.proofs.Homes.{turn_home, served_home}
use Rattle.hp_smt.specs.Brought.{IsBroughtUp}
use Rattle.hp_smt.specs.Gone.{gone_by}
use Rattle.hp_smt.specs.Modes.{is_off, is_closing, is_on, wants_on, begun_mode, ended_mode, own_op}
use Rattle.hp_smt.specs.Shut.{AreOffline, IsShut}
use Rattle.hp_smt.specs.Siblings.{is_sibling, is_up_of_sibling, sibling_online, lowest_of}
use Rattle.hp_smt.specs.Sound.{falls_back_off, may_fall_back_off, is_shut, IsOwnFlight, OwnFlight, AreOnTheirWay, IsUnderWay, HasWrite, IsSmt, CanGoOn}
use Rattle.hp_smt.specs.Writes.{under, at_rest, taking_of, fallen_back, mode_before, recorded_after, is_done, finished, goes_on, answers, write_by, own_cpu, or_chosen}
use Rattle.hp_smt.specs.declared.mode.Control.{Control}
use Rattle.hp_smt.specs.declared.mode.Control.TheVariants.{On, Off, ForceOff}
use Rattle.hp_smt.specs.declared.mode.Mode.{Mode}
use Rattle.hp_smt.specs.declared.mode.Mode.TheVariants as mode
use Rattle.hp_smt.specs.declared.setting.Gone.{Gone}
use Rattle.hp_smt.specs.declared.setting.Setting.{Setting}
use Rattle.hp_smt.specs.declared.setting.Write.{Write}
use Rattle.hp_smt.proofs.Finding.{find_there}
use Rattle.hp_smt.proofs.Shutting.{LetsNoneUp, shut_step, shut_now}
use Rattle.hp_smt.proofs.OwnOps.{MayGoOn, own_allowed, own_goes_on, own_answered, own_brought, brought_more, own_past_call, own_past_other}
use Rattle.hp_smt.proofs.Sets.{stays_in, lowest_in, online_is}

-- ---- small facts on modes

begun_not_off : (want : Control) (b : Bool) → (is_off (begun_mode want) || b) ≡ b
begun_not_off On b = refl
begun_not_off Off b = refl
begun_not_off ForceOff b = refl

back_by : (want : Control) (was : Mode) → (is_off (fallen_back want was) || false) ≡ true → (not (wants_on want) && is_off was) ≡ true
back_by On was h = absurd (false≢true h)
back_by Off was h = off (is_off was) h
  where
    off : (b : Bool) → (b || false) ≡ true → b ≡ true
    off true h = refl
    off false h = absurd (false≢true h)
back_by ForceOff was h = off (is_off was) h
  where
    off : (b : Bool) → (b || false) ≡ true → b ≡ true
    off true h = refl
    off false h = absurd (false≢true h)

settled_back : (want : Control) (was : Mode) → is_closing was ≡ false → is_closing (fallen_back want was) ≡ false
settled_back On was h = refl
settled_back Off was h = h
settled_back ForceOff was h = h

ended_settled : (want : Control) → is_closing (ended_mode want) ≡ false
ended_settled On = refl
ended_settled Off = refl
ended_settled ForceOff = refl

ended_on : (want : Control) → wants_on want ≡ true → ended_mode want ≡ mode.On
ended_on On h = refl
ended_on Off h = absurd (false≢true h)
ended_on ForceOff h = absurd (false≢true h)

-- a write that falls back to Off takes processors down
own_down : (want : Control) (b : Bool) (n c : ℕ) → (not (wants_on want) && b) ≡ true → is_up_of_sibling n (own_op want c) ≡ false
own_down On b n c h = absurd (false≢true h)
own_down Off b n c h = refl
own_down ForceOff b n c h = refl

-- ---- what stays so after an event of the write's own

pub lets_own : (n : ℕ) (op : Op) (e : Event) → BelongsTo op e → is_up_of_sibling n op ≡ false → LetsNoneUp n e
lets_own n op (Enter seat asked) of none = ap (is_up_of_sibling n) of ∙ none
lets_own n op e of none = tt

-- an event of the write's own leaves the siblings off
shut_own : (b : Contents) (n : ℕ) (w : Write) (c : ℕ) (e : Event) → IsLawful b.head b.events → role_of w.seat b.events ≡ Some Client →
    MayGoOn b.events w c → next_event b.head b.events w.seat (own_op w.want c) ≡ Some e → falls_back_off w ≡ true → IsShut n b.events →
    IsShut n (b.events ++ e ∷ [])
shut_own b n w c e lawful client may next back s =
    let stands = (next_stands b.head b.events w.seat (own_op w.want c) e next).0 in
    let of = next_belongs b.head b.events (record { seat = w.seat; op = own_op w.want c }) e lawful (own_allowed b.head b.events w c lawful client may) next in
    shut_step n b.head b.events e lawful.0 (owners b.head b.events lawful) stands.0
    (lets_own n (own_op w.want c) e of (own_down w.want (is_off w.was) n c back)) s

way_on : (xs : List Event) (e : Event) (recorded : CpuSet) (w : Write) → AreOnTheirWay xs recorded w → AreOnTheirWay (xs ++ e ∷ []) recorded w
way_on xs e recorded w way on c there = go (way on c there)
  where
    go : (has recorded c ≡ true) ⊎ IsBroughtUp xs w.since w.seat c →
        (has recorded c ≡ true) ⊎ IsBroughtUp (xs ++ e ∷ []) w.since w.seat c
    go (inl still) = inl still
    go (inr b) = inr (brought_more xs e w.since w.seat c b)

-- where its operation on a processor is done a write of On has brought that one up
way_done : (head : Head) (xs : List Event) (e : Event) (recorded : CpuSet) (w : Write) (c : ℕ) (want : Control) → w.want ≡ want →
    IsLawful head xs → IsSet recorded → MayGoOn xs w c → next_event head xs w.seat (own_op w.want c) ≡ Some e →
    answer_by e ≡ Some (Ok (pos 0)) → AreOnTheirWay xs recorded w → AreOnTheirWay (xs ++ e ∷ []) (recorded_after want recorded c) w
way_done head xs e recorded w c On is lawful fits may next answer way on d there = go (way on d there) (eqb d c) refl
  where
    go : (has recorded d ≡ true) ⊎ IsBroughtUp xs w.since w.seat d → (b : Bool) → eqb d c ≡ b →
        (has (recorded_after On recorded c) d ≡ true) ⊎ IsBroughtUp (xs ++ e ∷ []) w.since w.seat d
    go (inr brought) b same = inr (brought_more xs e w.since w.seat d brought)
    go (inl still) true same =
        inr (subst (λ (z : ℕ). IsBroughtUp (xs ++ e ∷ []) w.since w.seat z) (sym (eqb-true d c same))
        (own_brought head xs w c e lawful may on next answer))
    go (inl still) false same = inl (stays_in recorded c d fits same still)
way_done head xs e recorded w c Off is lawful fits may next answer way on d there = absurd (apart (sym is ∙ on))
  where
    apart : Off ≡ On → ⊥
    apart e = cc
way_done head xs e recorded w c ForceOff is lawful fits may next answer way on d there = absurd (apart (sym is ∙ on))
  where
    apart : ForceOff ≡ On → ⊥
    apart e = cc

-- Ok(0) is what it says
pub done_is : (a : Answer) → is_done a ≡ true → a ≡ Ok (pos 0)
done_is (Ok (pos zero)) h = refl
done_is (Ok (pos (suc n))) h = absurd (false≢true h)
done_is (Ok (negsuc n)) h = absurd (false≢true h)
done_is (refused n) h = absurd (false≢true h)
done_is (Fault n) h = absurd (false≢true h)
done_is (Stuck a b c) h = absurd (false≢true h)
done_is LogFull h = absurd (false≢true h)

-- the board, the threads and what is so of them beside the setting
pub record IsBase (board : Contents) (threads : ℕ) : Type 0 where
  pub at_least_two : 2 ≤ threads
  pub at_most_eight : threads ≤ 8
  pub home : AllHome board.places

-- a write in flight makes a setting sound
under_sound : (b : Contents) (n : ℕ) (recorded : CpuSet) (w : Write) → IsBase b n → IsUnderWay b.events recorded w →
    (falls_back_off w ≡ true → IsShut n b.events) → IsSmt b n (under recorded w)
under_sound b n recorded w base going back = record {
  at_least_two = base.at_least_two;
  at_most_eight = base.at_most_eight;
  home = base.home;
  shut = λ h. back (sym (begun_not_off w.want (falls_back_off w)) ∙ h);
  write = record { mode_is = refl; going = going };
}

-- so does one that was answered otherwise than Ok(0)
fallen_sound : (b : Contents) (n : ℕ) (recorded : CpuSet) (w : Write) → IsBase b n → is_closing w.was ≡ false →
    (falls_back_off w ≡ true → IsShut n b.events) → IsSmt b n (at_rest (mode_before w) recorded)
fallen_sound b n recorded w base was back = record {
  at_least_two = base.at_least_two;
  at_most_eight = base.at_most_eight;
  home = base.home;
  shut = λ h. back (back_by w.want w.was h);
  write = settled_back w.want w.was was;
}

moved : (old new : Contents) (n : ℕ) (e : Event) → new ≡ with_event old e → IsLawful old.head old.events → (w : Write) (c : ℕ) →
    role_of w.seat old.events ≡ Some Client → MayGoOn old.events w c → next_event old.head old.events w.seat (own_op w.want c) ≡ Some e →
    (falls_back_off w ≡ true → IsShut n old.events) → falls_back_off w ≡ true → IsShut n new.events
moved old new n e is lawful w c client may next back h =
    subst (λ (b : Contents). IsShut n b.events) (sym is) (shut_own old n w c e lawful client may next h (back h))

longer : (xs : List Event) (e : Event) (n : ℕ) → n ≤ length xs → n ≤ length (xs ++ e ∷ [])
longer xs e n h = let l = length_push xs e in omega (arith, h, l)

pub gone_sound : (old new : Contents) (n : ℕ) (recorded : CpuSet) (w : Write) (c : ℕ) (turn : Turn) → IsLawful old.head old.events →
    IsSet recorded → c < 256 → IsBase old n → IsBase new n → CanGoOn old n recorded w → MayGoOn old.events w c →
    IsTurn w.seat (own_op w.want c) old new turn → IsSmt new n (gone_by recorded w c turn).setting
gone_sound old new n recorded w c (Made at) lawful fits within was base can may t =
    under_sound new n recorded (taking_of w (Some c)) base
    (subst (λ (b : Contents). IsUnderWay b.events recorded (taking_of w (Some c))) (sym t.new_is)
    (record {
      was_settled = can.going.was_settled;
      since_made = longer old.events t.event w.since can.going.since_made;
      own = flown (old.events ++ t.event ∷ []) (own_goes_on old.head old.events w c t.event may can.going.since_made within t.next_is t.answer_is);
      way = way_on old.events t.event recorded w can.going.way;
    }))
    (moved old new n t.event t.new_is lawful w c can.client may t.next_is can.back)
  where
    flown : (xs : List Event) → IsOwnFlight xs w c → IsOwnFlight xs (taking_of w (Some c)) c
    flown xs f = record { of = f.of; held = f.held; seat_is = f.seat_is; op_is = f.op_is; since_is = f.since_is; fits = f.fits }
gone_sound old new n recorded w c (NotYet why) lawful fits within was base can may t =
    subst (λ (b : Contents). IsSmt b n (under recorded w)) (sym t.1) (under_sound old n recorded w was can.going can.back)
gone_sound old new n recorded w c (Answered None a) lawful fits within was base can may t =
    subst (λ (b : Contents). IsSmt b n (at_rest (mode_before w) recorded)) (sym t.same)
    (fallen_sound old n recorded w was can.going.was_settled can.back)
gone_sound old new n recorded w c (Answered (Some at) a) lawful fits within was base can may t = go (is_done a) refl
  where
    off : falls_back_off w ≡ true → IsShut n new.events
    off = moved old new n t.event t.new_is lawful w c can.client may t.next_is can.back

    go : (b : Bool) → is_done a ≡ b →
        IsSmt new n
        (cond {A = Gone} b (record { setting = under (recorded_after w.want recorded c) (taking_of w None); turn = Made at })
        (record { setting = at_rest (mode_before w) recorded; turn = Answered (Some at) a })).setting
    go true done =
        under_sound new n (recorded_after w.want recorded c) (taking_of w None) base
        (subst (λ (b : Contents). IsUnderWay b.events (recorded_after w.want recorded c) (taking_of w None)) (sym t.new_is)
        (record {
          was_settled = can.going.was_settled;
          since_made = longer old.events t.event w.since can.going.since_made;
          own = own_answered old.head old.events w.seat (own_op w.want c) t.event a lawful t.next_is t.answer_is;
          way =
              way_done old.head old.events t.event recorded w c w.want refl lawful fits may t.next_is (t.answer_is ∙ ap Some (done_is a done))
              can.going.way;
        }))
        off
    go false other = fallen_sound new n recorded w base can.going.was_settled off

-- ---- a write that has no processor left to take

none_online : (n : ℕ) (head : Head) (xs : List Event) → IsLawful head xs → is_some (sibling_online n head xs) ≡ false → AreOffline n xs
unfolding sibling_online
none_online n head xs lawful none c sib = go (is_online c xs) refl
  where
    possible : is_online c xs ≡ true → (b : Bool) → is_present head c ≡ b → c < head.possible
    possible on true there = ltb-true c head.possible (and_parts (ltb c head.possible) _ there).0
    possible on false away =
        let above = ltb-true 100 (settled c xs) on in
        let z : settled c xs ≡ 0 = ((kept head xs lawful).at c).away away in
        absurd (omega (arith, above, z))

    go : (b : Bool) → is_online c xs ≡ b → b ≡ false
    go true on =
        let both : (is_online c xs && is_sibling n c) ≡ true = rw (on, sib) refl in
        absurd (true≢false
        (sym (find_there (λ d. is_online d xs && is_sibling n d) c (numbers head.possible) both
        (in_numbers c head.possible (possible on (is_present head c) refl))) ∙ none))
    go false off = refl

emptied : (xs : List ℕ) → not (is_empty xs) ≡ false → xs ≡ []
emptied [] h = refl
emptied (x ∷ xs) h = absurd (true≢false h)

pub finished_sound : (b : Contents) (n : ℕ) (recorded : CpuSet) (w : Write) → IsLawful b.head b.events → IsBase b n → CanGoOn b n recorded w →
    w.taking ≡ None → (wants_on w.want ≡ false → is_some (sibling_online n b.head b.events) ≡ false) →
    IsSmt b n (finished b.events recorded w (wants_on w.want)).setting
finished_sound b n recorded w lawful base can idle none = by (wants_on w.want) refl
  where
    on_sound : IsSmt b n (at_rest mode.On recorded)
    on_sound = record {
      at_least_two = base.at_least_two;
      at_most_eight = base.at_most_eight;
      home = base.home;
      shut = λ h. absurd (false≢true h);
      write = refl;
    }

    ended : operation b.events ≡ None → frozen b.events ≡ [] → wants_on w.want ≡ false → IsSmt b n (at_rest (ended_mode w.want) recorded)
    ended free nothing off = record {
      at_least_two = base.at_least_two;
      at_most_eight = base.at_most_eight;
      home = base.home;
      shut = λ h. shut_now n b.head b.events lawful free (none_online n b.head b.events lawful (none off)) nothing;
      write = ended_settled w.want;
    }

    by_frozen : operation b.events ≡ None → wants_on w.want ≡ false → (d : Bool) →
        (is_disabled b.events || not (is_empty (frozen b.events))) ≡ d →
        IsSmt b n
        (cond d (answers None (at_rest (mode_before w) recorded) (refused 16))
        (answers None (at_rest (ended_mode w.want) recorded) (Ok (pos 0)))).setting
    by_frozen free off true is = fallen_sound b n recorded w base can.going.was_settled can.back
    by_frozen free off false is =
        ended free (emptied (frozen b.events) (or_parts (is_disabled b.events) (not (is_empty (frozen b.events))) is).1) off

    by_held : wants_on w.want ≡ false → (h : Bool) → is_map_held b.events ≡ h →
        IsSmt b n
        (cond h (goes_on None (under recorded w))
        (cond (is_disabled b.events || not (is_empty (frozen b.events)))
        (answers None (at_rest (mode_before w) recorded) (refused 16))
        (answers None (at_rest (ended_mode w.want) recorded) (Ok (pos 0))))).setting
    by_held off true is = under_sound b n recorded w base can.going can.back
    by_held off false is =
        by_frozen (none_of (operation b.events) is) off (is_disabled b.events || not (is_empty (frozen b.events))) refl

    by : (on : Bool) → wants_on w.want ≡ on → IsSmt b n (finished b.events recorded w on).setting
    by true is = subst (λ (m : Mode). IsSmt b n (at_rest m recorded)) (sym (ended_on w.want is)) on_sound
    by false is = by_held is (is_map_held b.events) refl

-- ---- what a turn takes

online_below : (n : ℕ) (head : Head) (xs : List Event) (c : ℕ) → IsLawful head xs → is_online c xs ≡ true → c < 256
online_below n head xs c lawful on = go (is_present head c) refl
  where
    go : (b : Bool) → is_present head c ≡ b → c < 256
    go true there =
        let few = lawful.0.few_possible in
        let below = ltb-true c head.possible (and_parts (ltb c head.possible) _ there).0 in
        omega (arith, few, below)
    go false away =
        let above = ltb-true 100 (settled c xs) on in
        let z : settled c xs ≡ 0 = ((kept head xs lawful).at c).away away in
        absurd (omega (arith, above, z))

-- what is frozen is possible
pub frozen_possible : (head : Head) (xs : List Event) → IsLawful head xs → (c : ℕ) → 0 < occurs c (frozen xs) → c < head.possible
frozen_possible head xs lawful c there =
    ltb-true c head.possible (and_parts (ltb c head.possible) _ ((held head xs lawful).operations.frozen_present c there)).0

pub may_go_on : (head : Head) (xs : List Event) (n : ℕ) (recorded : CpuSet) (w : Write) (c : ℕ) → IsLawful head xs → IsSet recorded →
    IsUnderWay xs recorded w → Some c ≡ own_cpu head xs n recorded w → MayGoOn xs w c × (c < 256)
may_go_on head xs n recorded w c lawful fits going is = go w.taking going.own is
  where
    chosen : (on : Bool) → Some c ≡ cond on (lowest_of recorded) (sibling_online n head xs) → c < 256
    chosen true is = lowest_in recorded c fits is
    chosen false is = online_below n head xs c lawful (online_is n head xs c (sym is))

    go : (t : Option ℕ) → OwnFlight xs w t → Some c ≡ or_chosen t (cond (wants_on w.want) (lowest_of recorded) (sibling_online n head xs)) →
        MayGoOn xs w c × (c < 256)
    go None idle is = (inl idle, chosen (wants_on w.want) is)
    go (Some d) own is =
        let same : d ≡ c = sym (same_some c d is) in
        let f : IsOwnFlight xs w c = subst (λ (z : ℕ). IsOwnFlight xs w z) same own in
        (inr f, f.fits)

-- with none to take the write is between two operations, and there is none
pub none_left : (taking chosen : Option ℕ) → None ≡ or_chosen taking chosen → (taking ≡ None) × (chosen ≡ None)
none_left None chosen is = (refl, sym is)
none_left (Some c) chosen is = absurd (none_some c is)

pub none_of_way : (on : Bool) (lowest sibling : Option ℕ) → cond on lowest sibling ≡ None → on ≡ false → is_some sibling ≡ false
none_of_way true lowest sibling none off = absurd (true≢false off)
none_of_way false lowest sibling none off = ap is_some none

pub none_recorded : (on : Bool) (lowest sibling : Option ℕ) → cond on lowest sibling ≡ None → on ≡ true → is_some lowest ≡ false
none_recorded true lowest sibling none on = ap is_some none
none_recorded false lowest sibling none on = absurd (false≢true on)

-- ---- after a turn of a thread, and of a seat for an operation

lets_call : (n : ℕ) (e : Event) → is_call e ≡ true → LetsNoneUp n e
lets_call n (Enter seat op) h = absurd (false≢true h)
lets_call n e h = tt

has_write_on : (xs : List Event) (e : Event) (m : Mode) (recorded : CpuSet) (write : Option Write) →
    ((w : Write) → write ≡ Some w → OwnFlight xs w w.taking → OwnFlight (xs ++ e ∷ []) w w.taking) → HasWrite xs m recorded write →
    HasWrite (xs ++ e ∷ []) m recorded write
has_write_on xs e m recorded None keeps h = h
has_write_on xs e m recorded (Some w) keeps h = record {
  mode_is = h.mode_is;
  going = record {
    was_settled = h.going.was_settled;
    since_made = longer xs e w.since h.going.since_made;
    own = keeps w refl h.going.own;
    way = way_on xs e recorded w h.going.way;
  };
}

pub base_of : (b : Contents) (n : ℕ) (s : Setting) → IsSmt b n s → IsBase b n
base_of b n s h = record { at_least_two = h.at_least_two; at_most_eight = h.at_most_eight; home = h.home }

event_sound : (old new : Contents) (n : ℕ) (s : Setting) (e : Event) → new ≡ with_event old e → IsLawful old.head old.events →
    Stands old.head old.events e → AllHome new.places → (is_shut s ≡ true → LetsNoneUp n e) →
    ((w : Write) → s.write ≡ Some w → OwnFlight old.events w w.taking → OwnFlight (old.events ++ e ∷ []) w w.taking) → IsSmt old n s →
    IsSmt new n s
event_sound old new n s e is lawful stands home lets keeps h = record {
  at_least_two = h.at_least_two;
  at_most_eight = h.at_most_eight;
  home = home;
  shut = λ off.
      subst (λ (b : Contents). IsShut n b.events) (sym is)
      (shut_step n old.head old.events e lawful.0 (owners old.head old.events lawful) stands.0 (lets off) (h.shut off));
  write =
      subst (λ (b : Contents). HasWrite b.events s.mode s.recorded s.write) (sym is)
      (has_write_on old.events e s.mode s.recorded s.write keeps h.write);
}

pub serve_sound : (old new : Contents) (n : ℕ) (s : Setting) (k : ℕ) (turn : Turn) → IsLawful old.head old.events →
    IsServed k old new turn → IsSmt old n s → IsSmt new n s
serve_sound old new n s k (Made at) lawful t h =
    let d = due_stands old.head old.events k t.event t.next_is in
    event_sound old new n s t.event t.new_is lawful d.0 (served_home k old new (Made at) t h.home) (λ off. lets_call n t.event d.1)
    (λ w is own. own_past_call old.events t.event w d.1 own) h
serve_sound old new n s k (NotYet (HookOut state)) lawful t h = subst (λ (b : Contents). IsSmt b n s) (sym t.1) h
serve_sound old new n s k (NotYet Idle) lawful t h = subst (λ (b : Contents). IsSmt b n s) (sym t.1) h
serve_sound old new n s k turn lawful t h = absurd t

-- while the siblings are kept off the mode isn't On
not_on_off : (m : Mode) → is_off m ≡ true → is_on m ≡ false
not_on_off mode.Off h = refl
not_on_off mode.ForceOff h = refl
not_on_off m h = absurd (false≢true h)

not_on_begun : (want : Control) (b : Bool) → (not (wants_on want) && b) ≡ true → is_on (begun_mode want) ≡ false
not_on_begun On b h = absurd (false≢true h)
not_on_begun Off b h = refl
not_on_begun ForceOff b h = refl

pub shut_not_on : (xs : List Event) (m : Mode) (recorded : CpuSet) (write : Option Write) → HasWrite xs m recorded write →
    (is_off m || may_fall_back_off write) ≡ true → is_on m ≡ false
shut_not_on xs m recorded write h off = go (is_off m) refl write h off
  where
    go : (b : Bool) → is_off m ≡ b → (write : Option Write) → HasWrite xs m recorded write → (b || may_fall_back_off write) ≡ true →
        is_on m ≡ false
    go true e write h off = not_on_off m e
    go false e None h off = absurd (false≢true off)
    go false e (Some w) h off = ap is_on h.mode_is ∙ not_on_begun w.want (is_off w.was) off

third_of : (a b c : Bool) → a ≡ false → b ≡ false → (not a && (not b && c)) ≡ false → c ≡ false
third_of true b c h k d = absurd (true≢false h)
third_of false true c h k d = absurd (true≢false k)
third_of false false c h k d = d

lets_turn : (n : ℕ) (head : Head) (xs : List Event) (k : ℕ) (op : Op) (on : Bool) (e : Event) → Stands head xs e → seat_of e ≡ k →
    BelongsTo op e → (not (is_busy k xs) && (not on && is_up_of_sibling n op)) ≡ false → on ≡ false → LetsNoneUp n e
lets_turn n head xs k op on (Enter seat asked) stands by of denied off =
    ap (is_up_of_sibling n) of
    ∙ third_of (is_busy k xs) on (is_up_of_sibling n op) (subst (λ (z : ℕ). is_busy z xs ≡ false) by stands.0.free.idle) off denied
lets_turn n head xs k op on e stands by of denied off = tt

not_writer : (k : ℕ) (write : Option Write) (w : Write) → write_by k write ≡ None → write ≡ Some w → k ≡ w.seat → ⊥
not_writer k None w none is same = none_some w is
not_writer k (Some v) w none is same = go (eqb v.seat k) refl none
  where
    go : (b : Bool) → eqb v.seat k ≡ b → cond b (Some v) None ≡ None → ⊥
    go true e h = none_some v (sym h)
    go false e h = not_equal v.seat k e (ap (λ (z : Write). z.seat) (same_some v w is) ∙ sym same)

asked_sound : (old new : Contents) (n : ℕ) (s : Setting) (k : ℕ) (op : Op) (next : Option Event) (at : ℕ) (answer : Option Answer) →
    IsLawful old.head old.events → IsAllowed old.head old.events (record { seat = k; op = op }) →
    next ≡ next_event old.head old.events k op → Makes next at answer old new → AllHome new.places → write_by k s.write ≡ None →
    (not (is_busy k old.events) && (not (is_on s.mode) && is_up_of_sibling n op)) ≡ false → IsSmt old n s → IsSmt new n s
asked_sound old new n s k op next at answer lawful allowed is t home none denied h =
    let comes : next_event old.head old.events k op ≡ Some t.event = sym is ∙ t.next_is in
    let stands = next_stands old.head old.events k op t.event comes in
    let of = next_belongs old.head old.events (record { seat = k; op = op }) t.event lawful allowed comes in
    event_sound old new n s t.event t.new_is lawful stands.0 home
    (λ off.
    lets_turn n old.head old.events k op (is_on s.mode) t.event stands.0 stands.1 of denied
    (shut_not_on old.events s.mode s.recorded s.write h.write off))
    (λ w writes own.
    own_past_other old.head old.events t.event w stands.0 (λ same. not_writer k s.write w none writes (sym stands.1 ∙ same)) own)
    h

pub turn_sound : (old new : Contents) (n : ℕ) (s : Setting) (k : ℕ) (op : Op) (turn : Turn) → IsLawful old.head old.events →
    IsAllowed old.head old.events (record { seat = k; op = op }) → IsTurn k op old new turn → write_by k s.write ≡ None →
    (not (is_busy k old.events) && (not (is_on s.mode) && is_up_of_sibling n op)) ≡ false → IsSmt old n s → IsSmt new n s
turn_sound old new n s k op (Made at) lawful allowed t none denied h =
    asked_sound old new n s k op (next_event old.head old.events k op) at None lawful allowed refl t
    (turn_home k op old new (Made at) t h.home) none denied h
turn_sound old new n s k op (Answered (Some at) a) lawful allowed t none denied h =
    asked_sound old new n s k op (next_event old.head old.events k op) at (Some a) lawful allowed refl t
    (turn_home k op old new (Answered (Some at) a) t h.home) none denied h
turn_sound old new n s k op (Answered None a) lawful allowed t none denied h = subst (λ (b : Contents). IsSmt b n s) (sym t.same) h
turn_sound old new n s k op (NotYet why) lawful allowed t none denied h = subst (λ (b : Contents). IsSmt b n s) (sym t.1) h

-- ---- where nothing is in flight every hook is home

pub rest_home : (b : Contents) → IsLawful b.head b.events → AreOut b → operation b.events ≡ None → registration b.events ≡ None →
    AllHome b.places
rest_home b lawful out no_op no_reg s = go (is_home (step_at b.places s)) refl
  where
    none_due : (o : IsOutFor b s) → Calls b.head b.events o.seat o.cpu s o.inst o.dir o.how → ⊥
    none_due o (inl i) =
        let f = (owners b.head b.events lawful).walk_op o.cpu i.entry.of i.entry.in_flight in none_some f.0 (sym no_op ∙ f.1)
    none_due o (inr i) = none_some i.entry.of (sym no_reg ∙ i.entry.in_flight)

    go : (h : Bool) → is_home (step_at b.places s) ≡ h → h ≡ true
    go true e = refl
    go false e =
        let o = out.only s e in
        let d = due_stands b.head b.events o.seat (Call o.seat o.cpu s o.inst o.dir o.how) o.due in absurd (none_due o d.0.0)
