-- Errands, which walks and registrations are: at most one entry comes next in one, and none at its end; what comes next is given by the
-- function, and nothing else is.
use Rattle.std.proofs.Common.{◌≡◌, ℕ, Bool, true, false, not, cond, Option, Some, None, List, refl, ap, sym, ◌∙◌, inl, inr, ◌⊎◌}
use Rattle.std.specs.Prelude.{option_map}
use Rattle.hp_states.proofs.Basics.{none_some, same_some}
use Rattle.hp_states.specs.declared.dir.Dir.{Dir}
use Rattle.hp_states.specs.declared.place.Place.{Place}
use Rattle.hp_states.specs.Sections.{can_fail}
use Rattle.hp_event.specs.declared.answer.Answer.{Answer}
use Rattle.hp_event.specs.declared.how.How.{How}
use Rattle.hp_event.specs.declared.op.Op.{Op}
use Rattle.hp_event.specs.declared.head.Head.{Head}
use Rattle.hp_event.specs.declared.event.Event.{Event}
use Rattle.hp_event.specs.declared.event.Event.TheVariants.{Call}
use Rattle.hp_model.specs.Events.{seat_of, BelongsTo}
use Rattle.hp_model.specs.Seats.{ap_seat}
use Rattle.hp_model.specs.Entries.{is_done}
use Rattle.hp_model.specs.Caller.{is_made_by_ap, caller}
use Rattle.hp_model.specs.Faults.{faults}
use Rattle.hp_model.specs.Crossing.{Slot, FitsAt, Fill}
use Rattle.hp_model.specs.StandsCalls.{IsNext}
use Rattle.hp_model.specs.Needs.{need}
use Rattle.hp_model.specs.Lawful.{Comes}
use Rattle.hp_model.specs.Moves.{IsOfThread}
use Rattle.hp_model.specs.Trees.{Tree, stop, dead, step}
use Rattle.hp_model.specs.Errands.{Errand, made_by, entry, how_at, left_of, event_of, next_of}
use Rattle.hp_model.proofs.NextSlot.{with_fails, Follow}
use Rattle.hp_model.proofs.Cursor.{Runs, IsLive, Sound, sound_below, IsNextIn, next_in}
use Rattle.hp_model.proofs.TreeSteps.{EachStep, IsSafe, steps_below}
use Rattle.hp_model.proofs.Remains.{remains, step_at, stop_at, IsAt, at_end, at_step}
use Rattle.hp_model.proofs.Stages.{called_by}

-- an entry that comes next, whoever makes it
pub record IsEntry (a : Errand) (cpu state inst : ℕ) (dir : Dir) (how : How) : Type 0 where
  pub slot : Slot
  pub done_tree : Tree
  pub fault_tree : Tree
  pub left_is : left_of a ≡ step slot done_tree fault_tree
  pub cpu_is : cpu ≡ slot.cpu
  pub state_is : state ≡ slot.state
  pub inst_is : inst ≡ slot.inst
  pub dir_is : dir ≡ slot.dir
  pub how_is : how ≡ how_at a slot

how_same : (a : Errand) (x : Slot) (c s i : ℕ) (d : Dir) (place : Place) (first : Bool) → c ≡ x.cpu → s ≡ x.state → i ≡ x.inst →
    d ≡ x.dir → place ≡ x.place → first ≡ x.first → a.how c s i d place first ≡ how_at a x
how_same a x c s i d place first f g h j k l = rw (f, g, h, j, k, l) refl

-- so does that of a slot that comes next in something which follows the tree
pub is_entry : (a : Errand) (xs : List Slot) (x : Slot) (c s i : ℕ) (d : Dir) (how : How) → Follow a.tree xs →
    IsNext xs a.entries x → FitsAt x c s i d how → how ≡ a.how c s i d x.place x.first → IsEntry a c s i d how
is_entry a xs x c s i d how f n fits h =
    let t = step_at a.tree n.front x n.rest a.entries (rw n.slots_are at f) n.filled in
    let e = t.slot_is in
    let cpu = fits.0 ∙ ap (λ z. z.cpu) e in
    let state = fits.1 ∙ ap (λ z. z.state) e in
    let inst = fits.2 ∙ ap (λ z. z.inst) e in
    let dir = fits.3 ∙ ap (λ z. z.dir) e in
    record {
      slot = t.slot;
      done_tree = t.done_tree;
      fault_tree = t.fault_tree;
      left_is = remains a.tree a.entries (step t.slot t.done_tree t.fault_tree) t.runs;
      cpu_is = cpu;
      state_is = state;
      inst_is = inst;
      dir_is = dir;
      how_is = h ∙ how_same a t.slot c s i d x.place x.first cpu state inst dir (ap (λ z. z.place) e) (ap (λ z. z.first) e);
    }

pub is_over : (a : Errand) (xs : List Slot) → Follow a.tree xs → Fill xs a.entries → left_of a ≡ stop
is_over a xs f g = remains a.tree a.entries stop (stop_at a.tree xs a.entries f g)

-- at most one entry comes next
pub record SameEntry (state state' inst inst' : ℕ) (dir dir' : Dir) (how how' : How) (client client' : ℕ) : Type 0 where
  pub state_same : state ≡ state'
  pub inst_same : inst ≡ inst'
  pub dir_same : dir ≡ dir'
  pub how_same : how ≡ how'
  pub client_same : client ≡ client'

slot_same : (x y : Slot) (t u v w : Tree) → step x t u ≡ step y v w → x ≡ y
slot_same x y t u v w h = cc

pub same_entry : (a b : Errand) (c c' s s' i i' : ℕ) (d d' : Dir) (how how' : How) → a ≡ b → IsEntry a c s i d how →
    IsEntry b c' s' i' d' how' → (c ≡ c') × SameEntry s s' i i' d d' how how' a.seat b.seat
same_entry a b c c' s s' i i' d d' how how' same h k =
    let e = slot_same h.slot k.slot h.done_tree h.fault_tree k.done_tree k.fault_tree (sym h.left_is ∙ (ap left_of same ∙ k.left_is)) in (
      h.cpu_is ∙ (ap (λ z. z.cpu) e ∙ sym k.cpu_is),
      record {
        state_same = h.state_is ∙ (ap (λ z. z.state) e ∙ sym k.state_is);
        inst_same = h.inst_is ∙ (ap (λ z. z.inst) e ∙ sym k.inst_is);
        dir_same = h.dir_is ∙ (ap (λ z. z.dir) e ∙ sym k.dir_is);
        how_same = h.how_is ∙ (rw (same, e) refl ∙ sym k.how_is);
        client_same = ap (λ z. z.seat) same;
      },
    )

-- and none where it is over
pub no_entry : (a : Errand) (c s i : ℕ) (d : Dir) (how : How) → left_of a ≡ stop → IsEntry a c s i d how → ⊥
no_entry a c s i d how over h = differ h.slot h.done_tree h.fault_tree (sym over ∙ h.left_is)
  where
    differ : (x : Slot) (t u : Tree) → stop ≡ step x t u → ⊥
    differ x t u e = cc

-- an event that comes next in what is under way: by whose operation it is, or by a thread
pub record Given (head : Head) (xs : List Event) (client : ℕ) (is_own : Op → Bool) (e : Event) : Type 0 where
  pub comes : Comes head xs e
  pub takes_none : need head xs e ≡ None
  pub by : ((seat_of e ≡ client) × ((op : Op) → is_own op ≡ true → BelongsTo op e)) ⊎ IsOfThread xs e

pub entry_by : (head : Head) (xs : List Event) (client : ℕ) (is_own : Op → Bool) (k cpu state inst : ℕ) (dir : Dir) (how : How) →
    Comes head xs (Call k cpu state inst dir how) → caller xs cpu state how client ≡ Some k →
    Given head xs client is_own (Call k cpu state inst dir how)
entry_by head xs client is_own k cpu state inst dir how h f =
    record { comes = h; takes_none = refl; by = go (called_by (is_made_by_ap state how) (ap_seat cpu xs) client k f) }
  where
    go : (client ≡ k) ⊎ (ap_seat cpu xs ≡ Some k) →
        ((k ≡ client) × ((op : Op) → is_own op ≡ true → Unit {0})) ⊎ IsOfThread xs (Call k cpu state inst dir how)
    go (inl s) = inl (sym s, λ op m. tt)
    go (inr a) = inr (cpu, a, refl)

-- an entry that comes next is given, by who makes it
entry_is : (xs : List Event) (client : ℕ) (x : Slot) (made : How) (c s i : ℕ) (d : Dir) (how : How) → c ≡ x.cpu → s ≡ x.state →
    i ≡ x.inst → d ≡ x.dir → how ≡ made →
    entry xs client x made ≡ option_map (λ k. Call k c s i d how) (caller xs c s how client)
entry_is xs client x made c s i d how f g h j k = rw (f, g, h, j, k) refl

pub entry_next : (xs : List Event) (a : Errand) (c s i : ℕ) (d : Dir) (how : How) → IsEntry a c s i d how →
    next_of xs a ≡ option_map (λ k. Call k c s i d how) (caller xs c s how a.seat)
entry_next xs a c s i d how h =
    ap (event_of xs a) h.left_is ∙ entry_is xs a.seat h.slot (how_at a h.slot) c s i d how h.cpu_is h.state_is h.inst_is h.dir_is h.how_is

-- and so is the end
pub end_next : (xs : List Event) (a : Errand) (answer : Answer) → left_of a ≡ stop → a.answer (faults a.entries) ≡ Some answer →
    next_of xs a ≡ Some (a.end answer)
end_next xs a answer h k = ap (event_of xs a) h ∙ ap (option_map a.end) k

-- what is given is the end, or such an entry
pub record IsEnd (a : Errand) (e : Event) : Type 0 where
  pub answer : Answer
  pub left_is : left_of a ≡ stop
  pub answer_is : a.answer (faults a.entries) ≡ Some answer
  pub event_is : e ≡ a.end answer

pub record IsMade (xs : List Event) (a : Errand) (e : Event) : Type 0 where
  pub slot : Slot
  pub done_tree : Tree
  pub fault_tree : Tree
  pub left_is : left_of a ≡ step slot done_tree fault_tree
  pub seat : ℕ
  pub caller_is : caller xs slot.cpu slot.state (how_at a slot) a.seat ≡ Some seat
  pub event_is : e ≡ Call seat slot.cpu slot.state slot.inst slot.dir (how_at a slot)

pub given_by : (xs : List Event) (a : Errand) (e : Event) → next_of xs a ≡ Some e → IsEnd a e ⊎ IsMade xs a e
given_by xs a e h = go (left_of a) refl h
  where
    ended : left_of a ≡ stop → (o : Option Answer) → a.answer (faults a.entries) ≡ o → option_map a.end o ≡ Some e → IsEnd a e
    ended f None g h = absurd (none_some e h)
    ended f (Some answer) g h = record { answer = answer; left_is = f; answer_is = g; event_is = sym (same_some _ _ h) }

    made : (x : Slot) (t u : Tree) → left_of a ≡ step x t u → (o : Option ℕ) → caller xs x.cpu x.state (how_at a x) a.seat ≡ o →
        made_by x (how_at a x) o ≡ Some e → IsMade xs a e
    made x t u f None g h = absurd (none_some e h)
    made x t u f (Some k) g h = record {
      slot = x;
      done_tree = t;
      fault_tree = u;
      left_is = f;
      seat = k;
      caller_is = g;
      event_is = sym (same_some _ _ h);
    }

    go : (t : Tree) → left_of a ≡ t → event_of xs a t ≡ Some e → IsEnd a e ⊎ IsMade xs a e
    go stop f g = inl (ended f (a.answer (faults a.entries)) refl g)
    go dead f g = absurd (none_some e g)
    go (step x t u) f g = inr (made x t u f (caller xs x.cpu x.state (how_at a x) a.seat) refl g)

-- the slot at which its entries stand comes next, done or a fault as it is made
pub record IsSound (Rule : Slot → Type 0) (a : Errand) : Type 0 where
  pub sound : Sound a.tree
  pub steps : EachStep (IsSafe Rule) a.tree
  pub fails :
      (c s i : ℕ) (d : Dir) (place : Place) (first : Bool) → is_done (a.how c s i d place first) ≡ false →
      can_fail d s place ≡ true

live_branch : (done : Bool) (t u : Tree) → IsLive t → (done ≡ false → IsLive u) → IsLive (cond (not done) u t)
live_branch true t u h k = h
live_branch false t u h k = k refl

pub entry_at : (Rule : Slot → Type 0) (a : Errand) (x : Slot) (t u : Tree) → IsSound Rule a → Runs a.tree a.entries (step x t u) →
    Rule x × IsNextIn a.tree a.entries (with_fails x (not (is_done (how_at a x))))
entry_at Rule a x t u s r =
    let sound = sound_below a.tree a.entries (step x t u) r s.sound in
    let is = steps_below (IsSafe Rule) a.tree a.entries (step x t u) r s.steps in
    let live = live_branch (is_done (how_at a x)) t u sound.0 (λ h. is.0.1 (s.fails x.cpu x.state x.inst x.dir x.place x.first h)) in
    (is.0.0, next_in a.tree a.entries x t u (not (is_done (how_at a x))) s.sound r live)

-- and so something comes next, where the thread of its processor is in
called_by_some : (b : Bool) (a : Option ℕ) (k client : ℕ) → a ≡ Some k → (seat : ℕ) × (cond b a (Some client) ≡ Some seat)
called_by_some true a k client h = (k, h)
called_by_some false a k client h = (client, refl)

pub goes : (xs : List Event) (Rule : Slot → Type 0) (a : Errand) → IsSound Rule a → IsAt a.tree a.entries →
    (Runs a.tree a.entries stop → (answer : Answer) × (a.answer (faults a.entries) ≡ Some answer)) →
    ((x : Slot) → Rule x → (k : ℕ) × (ap_seat x.cpu xs ≡ Some k)) → (e : Event) × (next_of xs a ≡ Some e)
goes xs Rule a s at answers threads = go at
  where
    go : IsAt a.tree a.entries → (e : Event) × (next_of xs a ≡ Some e)
    go (at_end r) = let e = answers r in (a.end e.0, end_next xs a e.0 (remains a.tree a.entries stop r) e.1)
    go (at_step x t u r) =
        let k = threads x (steps_below (IsSafe Rule) a.tree a.entries (step x t u) r s.steps).0.0 in
        let by = called_by_some (is_made_by_ap x.state (how_at a x)) (ap_seat x.cpu xs) k.0 a.seat k.1 in
        (_, ap (event_of xs a) (remains a.tree a.entries (step x t u) r) ∙ ap (made_by x (how_at a x)) by.1)
