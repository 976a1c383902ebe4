-- A turn of a write: what its seat may be asked, what is so after it, and what it says.
use Rattle.std.proofs.Common.{◌≡◌, ℕ, ◌<◌, Bool, true, false, cond, not, ◌&&◌, ◌||◌, eqb, is_some, Option, Some, None, List, length, refl, sym, ap, ◌∙◌, subst, inl, inr, ◌⊎◌, arith}
use Rattle.std.specs.Prelude.{pos}
use Rattle.std.proofs.lemmas.Bool.{true≢false, false≢true, eqb-true}
use Rattle.hp_states.proofs.Basics.{none_some, same_some}
use Rattle.hp_states.specs.declared.cpu_set.CpuSet.{CpuSet}
use Rattle.hp_states.specs.CpuSets.{has}
use Rattle.hp_event.specs.declared.answer.Answer.{Answer}
use Rattle.hp_event.specs.declared.answer.Answer.TheVariants.{Ok, Refused}
use Rattle.hp_event.specs.declared.event.Role.TheVariants.{Client}
use Rattle.hp_event.specs.declared.event.Event.{Event}
use Rattle.hp_event.specs.declared.head.Head.{Head}
use Rattle.hp_event.specs.declared.op.Op.{Op}
use Rattle.hp_event.specs.declared.op.Op.TheVariants.{Wakeup}
use Rattle.hp_account.specs.TableChanges.{is_setup}
use Rattle.hp_model.specs.Lawful.{IsLawful}
use Rattle.hp_model.specs.Pending.{IsAllowed}
use Rattle.hp_model.specs.Seats.{role_of, is_busy}
use Rattle.hp_model.specs.SetOf.{IsSet}
use Rattle.hp_board.specs.Contents.{Contents}
use Rattle.hp_board.specs.Hooks.{has_hook}
use Rattle.hp_board.specs.Turns.{IsTurn}
use Rattle.hp_board.specs.declared.turn.Turn.{Turn}
use Rattle.hp_board.specs.declared.turn.Turn.TheVariants.{Made, Answered, NotYet}
use Rattle.hp_board.proofs.Homes.{turn_home}
use Rattle.hp_smt.specs.Brought.{IsBroughtUp, BroughtAllUp, BringsAllUp}
use Rattle.hp_smt.specs.Contents.{Controlled, after_event}
use Rattle.hp_smt.specs.Gone.{gone_by}
use Rattle.hp_smt.specs.Modes.{is_off, is_force_off, is_mode_of, wants_on, own_op}
use Rattle.hp_smt.specs.Siblings.{lowest_of, sibling_online}
use Rattle.hp_smt.specs.Sound.{may_fall_back_off, HasWrite, IsSmt, CanGoOn, MayWrite, OwnFlight}
use Rattle.hp_smt.specs.Turns.{IsGoneOn, finished_step, current_of}
use Rattle.hp_smt.specs.Writes.{gone_on_with, finished, own_cpu, write_by, or_begun, begun, decided, is_of_other, op_taking, op_flying, flying_op}
use Rattle.hp_smt.specs.declared.mode.Control.{Control}
use Rattle.hp_smt.specs.declared.mode.Control.TheVariants.{On, Off, ForceOff}
use Rattle.hp_smt.specs.declared.setting.Gone.{Gone}
use Rattle.hp_smt.specs.declared.setting.Setting.{Setting}
use Rattle.hp_smt.specs.declared.setting.Write.{Write}
use Rattle.hp_smt.proofs.OwnOps.{MayGoOn, own_allowed, not_busy_none}
use Rattle.hp_smt.proofs.OwnTurns.{own_turned}
use Rattle.hp_smt.proofs.Going.{IsBase, base_of, gone_sound, finished_sound, may_go_on, none_left, none_of_way, none_recorded}
use Rattle.hp_smt.proofs.Sets.{none_in_set}

-- ---- by its own operation

-- what a turn by its own operation on a processor finds
pub record Ready (z : Controlled) (w : Write) (c : ℕ) : Type 0 where
  pub can : CanGoOn z.board z.threads z.setting.recorded w
  pub may : MayGoOn z.board.events w c
  pub within : c < 256

pub ready : (inside now : Controlled) (w : Write) (c : ℕ) → inside ≡ now → IsLawful inside.board.head inside.board.events →
    IsSet inside.setting.recorded → CanGoOn now.board now.threads now.setting.recorded w →
    Some c ≡ own_cpu now.board.head now.board.events now.threads now.setting.recorded w → Ready inside w c
ready inside now w c same lawful fits can own =
    let here : CanGoOn inside.board inside.threads inside.setting.recorded w =
    subst (λ (z : Controlled). CanGoOn z.board z.threads z.setting.recorded w) (sym same) can in
    let m =
    may_go_on inside.board.head inside.board.events inside.threads inside.setting.recorded w c lawful fits here.going
    (subst (λ (z : Controlled). Some c ≡ own_cpu z.board.head z.board.events z.threads z.setting.recorded w) (sym same) own) in
    record { can = here; may = m.0; within = m.1 }

pub ready_allowed : (z : Controlled) (w : Write) (c : ℕ) (op : Op) → IsLawful z.board.head z.board.events → Ready z w c →
    op ≡ own_op w.want c → IsAllowed z.board.head z.board.events (record { seat = w.seat; op = op })
ready_allowed z w c op lawful r is =
    subst (λ (o : Op). IsAllowed z.board.head z.board.events (record { seat = w.seat; op = o })) (sym is)
    (own_allowed z.board.head z.board.events w c lawful r.can.client r.may)

pub take_sound : (z : Controlled) (new : Contents) (w : Write) (c : ℕ) (op : Op) (turn : Turn) (gone : Gone) →
    IsLawful z.board.head z.board.events → IsSet z.setting.recorded → Ready z w c → IsSmt z.board z.threads z.setting →
    op ≡ own_op w.want c → IsTurn w.seat op z.board new turn → gone ≡ gone_by z.setting.recorded w c turn →
    IsSmt new z.threads gone.setting
take_sound z new w c op turn gone lawful fits r h is t said =
    let own : IsTurn w.seat (own_op w.want c) z.board new turn = subst (λ (o : Op). IsTurn w.seat o z.board new turn) is t in
    let base = base_of z.board z.threads z.setting h in
    let after : IsBase new z.threads = record {
      at_least_two = h.at_least_two;
      at_most_eight = h.at_most_eight;
      home = turn_home w.seat (own_op w.want c) z.board new turn own h.home;
    } in
    subst (λ (g : Gone). IsSmt new z.threads g.setting) (sym said)
    (gone_sound z.board new z.threads z.setting.recorded w c turn lawful fits r.within base after r.can r.may own)

gone_so : (z : Controlled) (new : Contents) (w : Write) (c : ℕ) (turn : Turn) (gone : Gone) → IsSmt z.board z.threads z.setting →
    IsTurn w.seat (own_op w.want c) z.board new turn → gone ≡ gone_by z.setting.recorded w c turn →
    IsGoneOn (gone_on_with z.board.head z.board.events z.setting.recorded w (Some c)) (Some c) w z
    (record { board = new; threads = z.threads; setting = gone.setting }) gone.turn
gone_so z new w c turn gone h own said =
    subst (λ (g : Gone).
    IsGoneOn (gone_on_with z.board.head z.board.events z.setting.recorded w (Some c)) (Some c) w z
    (record { board = new; threads = z.threads; setting = g.setting }) g.turn) (sym said)
    (let t = own_turned z.setting.recorded w c z.board new turn h.home own in
    record {
      new_is =
          ap (λ (b : Contents).
          let r : Controlled = record { board = b; threads = z.threads; setting = (gone_by z.setting.recorded w c turn).setting } in r) t.new_is
          ∙ ap (λ (s : Setting).
          let r : Controlled = record {
            board =
                after_event z.board (gone_on_with z.board.head z.board.events z.setting.recorded w (Some c)).event;
            threads = z.threads;
            setting = s;
          } in r) t.setting_is;
      says = t.says;
      waits = t.waits;
    })

pub take_gone : (inside now : Controlled) (new : Contents) (w : Write) (c : ℕ) (op : Op) (turn : Turn) (gone : Gone) → inside ≡ now →
    IsSmt inside.board inside.threads inside.setting → op ≡ own_op w.want c → IsTurn w.seat op inside.board new turn →
    gone ≡ gone_by inside.setting.recorded w c turn →
    IsGoneOn (gone_on_with now.board.head now.board.events now.setting.recorded w (Some c)) (Some c) w now
    (record { board = new; threads = inside.threads; setting = gone.setting }) gone.turn
take_gone inside now new w c op turn gone same h is t said =
    subst (λ (z : Controlled).
    IsGoneOn (gone_on_with z.board.head z.board.events z.setting.recorded w (Some c)) (Some c) w z
    (record { board = new; threads = inside.threads; setting = gone.setting }) gone.turn) same
    (gone_so inside new w c turn gone h (subst (λ (o : Op). IsTurn w.seat o inside.board new turn) is t) said)

-- ---- with none to take

pub finish_sound : (inside now : Controlled) (w : Write) (gone : Gone) → inside ≡ now → IsLawful inside.board.head inside.board.events →
    IsSmt inside.board inside.threads inside.setting → CanGoOn now.board now.threads now.setting.recorded w →
    None ≡ own_cpu now.board.head now.board.events now.threads now.setting.recorded w →
    gone.setting ≡ (finished_step now w).setting → IsSmt inside.board inside.threads gone.setting
finish_sound inside now w gone same lawful h can own said =
    let here : CanGoOn inside.board inside.threads inside.setting.recorded w =
    subst (λ (z : Controlled). CanGoOn z.board z.threads z.setting.recorded w) (sym same) can in
    let mine : None ≡ own_cpu inside.board.head inside.board.events inside.threads inside.setting.recorded w =
    subst (λ (z : Controlled). None ≡ own_cpu z.board.head z.board.events z.threads z.setting.recorded w) (sym same) own in
    let says : gone.setting ≡ (finished_step inside w).setting =
    subst (λ (z : Controlled). gone.setting ≡ (finished_step z w).setting) (sym same) said in
    let n = none_left w.taking (cond (wants_on w.want) (lowest_of inside.setting.recorded)
    (sibling_online inside.threads inside.board.head inside.board.events)) mine in
    subst (λ (s : Setting). IsSmt inside.board inside.threads s) (sym says)
    (finished_sound inside.board inside.threads inside.setting.recorded w lawful (base_of inside.board inside.threads inside.setting h) here n.0
    (none_of_way (wants_on w.want) (lowest_of inside.setting.recorded)
    (sibling_online inside.threads inside.board.head inside.board.events) n.1))

pub finish_brings : (inside now : Controlled) (w : Write) (gone : Gone) → inside ≡ now → IsSet inside.setting.recorded →
    CanGoOn now.board now.threads now.setting.recorded w →
    None ≡ own_cpu now.board.head now.board.events now.threads now.setting.recorded w →
    gone.setting ≡ (finished_step now w).setting →
    BringsAllUp w (record { board = inside.board; threads = inside.threads; setting = gone.setting }) gone.turn
finish_brings inside now w gone same fits can own said = by gone.turn
  where
    here : CanGoOn inside.board inside.threads inside.setting.recorded w
    here = subst (λ (z : Controlled). CanGoOn z.board z.threads z.setting.recorded w) (sym same) can

    mine : None ≡ own_cpu inside.board.head inside.board.events inside.threads inside.setting.recorded w
    mine = subst (λ (z : Controlled). None ≡ own_cpu z.board.head z.board.events z.threads z.setting.recorded w) (sym same) own

    emptied : w.want ≡ On → is_some (lowest_of inside.setting.recorded) ≡ false
    emptied on =
        none_recorded (wants_on w.want) (lowest_of inside.setting.recorded)
        (sibling_online inside.threads inside.board.head inside.board.events)
        (none_left w.taking (cond (wants_on w.want) (lowest_of inside.setting.recorded)
        (sibling_online inside.threads inside.board.head inside.board.events)) mine).1 (ap wants_on on)

    record_is : w.want ≡ On → gone.setting.recorded ≡ inside.setting.recorded
    record_is on =
        ap (λ (s : Setting). s.recorded) (subst (λ (z : Controlled). gone.setting ≡ (finished_step z w).setting) (sym same) said)
        ∙ ap (λ (b : Bool). (finished inside.board.events inside.setting.recorded w b).setting.recorded) (ap wants_on on)

    all_up : w.want ≡ On → BroughtAllUp w (record { board = inside.board; threads = inside.threads; setting = gone.setting })
    all_up on = record {
      each = λ c there. go c (here.going.way on c there);
      none_recorded = λ c there.
          none_in_set inside.setting.recorded c fits (emptied on) (ap (λ (s : CpuSet). has s c) (sym (record_is on)) ∙ there);
    }
      where
        go : (c : ℕ) → (has inside.setting.recorded c ≡ true) ⊎ IsBroughtUp inside.board.events w.since w.seat c →
            IsBroughtUp inside.board.events w.since w.seat c
        go c (inl still) = absurd (none_in_set inside.setting.recorded c fits (emptied on) still)
        go c (inr b) = b

    by : (turn : Turn) → BringsAllUp w (record { board = inside.board; threads = inside.threads; setting = gone.setting }) turn
    by (Answered at a) = λ on is. all_up on
    by (Made at) = tt
    by (NotYet why) = tt

-- ---- the write in flight, and one that begins

is_write : (k : ℕ) (write : Option Write) (w : Write) → Some w ≡ write_by k write → (write ≡ Some w) × (w.seat ≡ k)
is_write k None w is = absurd (none_some w (sym is))
is_write k (Some v) w is = go (eqb v.seat k) refl is
  where
    go : (b : Bool) → eqb v.seat k ≡ b → Some w ≡ cond b (Some v) None → (Some v ≡ Some w) × (w.seat ≡ k)
    go true e is = (sym is, ap (λ (z : Write). z.seat) (same_some w v is) ∙ eqb-true v.seat k e)
    go false e is = absurd (none_some w (sym is))

or_shut : (a b : Bool) → b ≡ true → (a || b) ≡ true
or_shut true b h = refl
or_shut false b h = h

or_first : (a b : Bool) → a ≡ true → (a || b) ≡ true
or_first a b h = ap (λ (z : Bool). z || b) h

pub flying_can : (inside now : Controlled) (k : ℕ) (want : Control) (w : Write) → inside ≡ now →
    IsSmt inside.board inside.threads inside.setting → MayWrite now.board now.setting k want → Some w ≡ write_by k inside.setting.write →
    CanGoOn now.board now.threads now.setting.recorded w
flying_can inside now k want w same h may is =
    let here : IsSmt now.board now.threads now.setting = subst (λ (z : Controlled). IsSmt z.board z.threads z.setting) same h in
    let writes = is_write k now.setting.write w (subst (λ (z : Controlled). Some w ≡ write_by k z.setting.write) same is) in
    let flies = subst (λ (o : Option Write). HasWrite now.board.events now.setting.mode now.setting.recorded o) writes.0 here.write in
    record {
      client = subst (λ (j : ℕ). role_of j now.board.events ≡ Some Client) (sym writes.1) may.client;
      going = flies.going;
      back = λ off.
          here.shut
          (or_shut (is_off now.setting.mode) (may_fall_back_off now.setting.write) (ap may_fall_back_off writes.0 ∙ off));
    }

first_of : (a b : Bool) → (not a && b) ≡ true → b ≡ true
first_of true b h = absurd (false≢true h)
first_of false b h = h

-- another's write in flight decides
no_write : (k : ℕ) (write : Option Write) → None ≡ write_by k write → is_of_other k write ≡ false → write ≡ None
no_write k None none other = refl
no_write k (Some v) none other = go (eqb v.seat k) refl none other
  where
    go : (b : Bool) → eqb v.seat k ≡ b → None ≡ cond b (Some v) None → not b ≡ false → Some v ≡ None
    go true e none other = absurd (none_some v none)
    go false e none other = absurd (true≢false other)

undecided : (s : Setting) (k : ℕ) (want : Control) → None ≡ decided s k want → is_of_other k s.write ≡ false
undecided s k want none = go (is_of_other k s.write) _ none
  where
    go : (b : Bool) (o : Option Answer) → None ≡ cond b (Some (Refused 16)) o → b ≡ false
    go true o is = absurd (none_some (Refused 16) is)
    go false o is = refl

pub begun_can : (inside now : Controlled) (k : ℕ) (want : Control) (since : ℕ) → inside ≡ now →
    IsSmt inside.board inside.threads inside.setting → MayWrite now.board now.setting k want → None ≡ write_by k now.setting.write →
    None ≡ decided now.setting k want → since ≡ length now.board.events →
    CanGoOn now.board now.threads now.setting.recorded (begun now.setting k want since)
begun_can inside now k want since same h may none undone count =
    let here : IsSmt now.board now.threads now.setting = subst (λ (z : Controlled). IsSmt z.board z.threads z.setting) same h in
    let free = no_write k now.setting.write none (undecided now.setting k want undone) in
    record {
      client = may.client;
      going = record {
        was_settled = subst (λ (o : Option Write). HasWrite now.board.events now.setting.mode now.setting.recorded o) free here.write;
        since_made = omega (arith, count);
        own = may.free (sym none);
        way = λ on c there. inl there;
      };
      back = λ off.
          here.shut
          (or_first (is_off now.setting.mode) (may_fall_back_off now.setting.write)
          (first_of (wants_on want) (is_off now.setting.mode) off));
    }

not_refused : (n : ℕ) (a : Answer) → Some a ≡ Some (Refused n) → a ≡ Ok (pos 0) → ⊥
not_refused n a is ok = cc

-- a write of On that is answered Ok(0) at once finds nothing recorded
pub decided_empty : (s : Setting) (k : ℕ) (want : Control) (a : Answer) → Some a ≡ decided s k want → want ≡ On → a ≡ Ok (pos 0) →
    is_some (lowest_of s.recorded) ≡ false
decided_empty s k want a is on ok = first (is_of_other k s.write) is
  where
    third : (m r : Bool) → Some a ≡ cond (m && not (wants_on want && r)) (Some (Ok (pos 0))) None → r ≡ false
    third m false is = refl
    third true true is =
        let w : wants_on want ≡ true = ap wants_on on in absurd (none_some a (sym (rw w at is)))
    third false true is = absurd (none_some a (sym is))

    second : (b : Bool) →
        Some a
        ≡ cond b (Some (Refused 1))
        (cond (is_mode_of want s.mode && not (wants_on want && is_some (lowest_of s.recorded))) (Some (Ok (pos 0))) None) →
        is_some (lowest_of s.recorded) ≡ false
    second true is = absurd (not_refused 1 a is ok)
    second false is = third (is_mode_of want s.mode) (is_some (lowest_of s.recorded)) is

    first : (b : Bool) →
        Some a
        ≡ cond b (Some (Refused 16))
        (cond (is_force_off s.mode) (Some (Refused 1))
        (cond (is_mode_of want s.mode && not (wants_on want && is_some (lowest_of s.recorded))) (Some (Ok (pos 0))) None)) →
        is_some (lowest_of s.recorded) ≡ false
    first true is = absurd (not_refused 16 a is ok)
    first false is = second (is_force_off s.mode) is

pub decided_brings : (inside now : Controlled) (k : ℕ) (want : Control) (a : Answer) → inside ≡ now → IsSet inside.setting.recorded →
    None ≡ write_by k now.setting.write → Some a ≡ decided inside.setting k want → (current_of now k want).want ≡ On → a ≡ Ok (pos 0) →
    BroughtAllUp (current_of now k want) now
decided_brings inside now k want a same fits none is on ok =
    subst (λ (w : Write). BroughtAllUp w now) current
    (record {
      each = λ c there. absurd (none_in_set now.setting.recorded c here empty there);
      none_recorded = λ c there. none_in_set now.setting.recorded c here empty there;
    })
  where
    current : begun now.setting k want (length now.board.events) ≡ current_of now k want
    current = ap (λ (o : Option Write). or_begun o (begun now.setting k want (length now.board.events))) none

    here : IsSet now.setting.recorded
    here = subst (λ (z : Controlled). IsSet z.setting.recorded) same fits

    empty : is_some (lowest_of now.setting.recorded) ≡ false
    empty = decided_empty now.setting k want a (subst (λ (z : Controlled). Some a ≡ decided z.setting k want) same is) (ap (λ (w : Write). w.want) current ∙ on) ok

-- ---- whether a turn may be asked for

wake_allowed : (head : Head) (xs : List Event) (k : ℕ) → role_of k xs ≡ Some Client → is_busy k xs ≡ false →
    IsAllowed head xs (record { seat = k; op = Wakeup })
wake_allowed head xs k client idle = record {
  client = client;
  same = λ op flies. absurd (not_busy_none xs k op idle flies);
  has_sub = refl;
}

-- a seat that may write may ask for what it has in flight, or for what no seat is refused
pub flying_allowed : (z : Controlled) (k : ℕ) (want : Control) → IsLawful z.board.head z.board.events → IsSmt z.board z.threads z.setting →
    MayWrite z.board z.setting k want → IsAllowed z.board.head z.board.events (record { seat = k; op = flying_op k z.setting.write })
flying_allowed z k want lawful h may = go (write_by k z.setting.write) refl
  where
    by_taking : (w : Write) → w.seat ≡ k → (t : Option ℕ) → OwnFlight z.board.events w t →
        IsAllowed z.board.head z.board.events (record { seat = k; op = op_taking w.want t })
    by_taking w same None idle =
        wake_allowed z.board.head z.board.events k may.client (subst (λ (j : ℕ). is_busy j z.board.events ≡ false) same idle)
    by_taking w same (Some c) own =
        subst (λ (j : ℕ). IsAllowed z.board.head z.board.events (record { seat = j; op = own_op w.want c })) same
        (own_allowed z.board.head z.board.events w c lawful
        (subst (λ (j : ℕ). role_of j z.board.events ≡ Some Client) (sym same) may.client) (inr own))

    go : (o : Option Write) → write_by k z.setting.write ≡ o →
        IsAllowed z.board.head z.board.events (record { seat = k; op = op_flying o })
    go None is = wake_allowed z.board.head z.board.events k may.client (may.free is)
    go (Some w) is =
        let writes = is_write k z.setting.write w (sym is) in
        let flies = subst (λ (o : Option Write). HasWrite z.board.events z.setting.mode z.setting.recorded o) writes.0 h.write in
        by_taking w writes.1 w.taking flies.going.own

-- it brings no hook
pub flying_hook : (b : Contents) (k : ℕ) (write : Option Write) → false ≡ has_hook b.events k (flying_op k write)
flying_hook b k write = go (write_by k write)
  where
    by_want : (want : Control) (c : ℕ) → false ≡ (is_setup (own_op want c) && not (is_busy k b.events))
    by_want On c = refl
    by_want Off c = refl
    by_want ForceOff c = refl

    by_taking : (want : Control) (t : Option ℕ) → false ≡ (is_setup (op_taking want t) && not (is_busy k b.events))
    by_taking want None = refl
    by_taking want (Some c) = by_want want c

    go : (o : Option Write) → false ≡ (is_setup (op_flying o) && not (is_busy k b.events))
    go None = refl
    go (Some w) = by_taking w.want w.taking
