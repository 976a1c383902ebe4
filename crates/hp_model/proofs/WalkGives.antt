-- What comes next in a walk, as a function gives it: each entry of it that can come, and its end, and nothing else.
use Rattle.std.proofs.Common.{◌≡◌, ℕ, true, Some, List, [], refl, ap, sym, ◌∙◌, subst, inl, inr, ◌⊎◌}
use Rattle.std.specs.Prelude.{option_map}
use Rattle.hp_states.specs.declared.dir.Dir.{Dir}
use Rattle.hp_event.specs.declared.how.How.{How}
use Rattle.hp_event.specs.declared.answer.Answer.{Answer}
use Rattle.hp_event.specs.declared.head.Head.{Head}
use Rattle.hp_event.specs.declared.event.Event.{Event}
use Rattle.hp_event.specs.declared.event.Event.TheVariants.{Call, WalkEnd}
use Rattle.hp_model.specs.Events.{seat_of}
use Rattle.hp_model.specs.MapLock.{is_map_op}
use Rattle.hp_model.specs.Walks.{Walk, walk, walk_entries}
use Rattle.hp_model.specs.Registered.{keys}
use Rattle.hp_model.specs.Plan.{direction, plan}
use Rattle.hp_model.specs.Caller.{caller}
use Rattle.hp_model.specs.StandsCalls.{WalkEntry, InWalk}
use Rattle.hp_model.specs.BatchTurn.{has_turn}
use Rattle.hp_model.specs.StandsOperations.{WalkEnds}
use Rattle.hp_model.specs.How.{how_in_walk}
use Rattle.hp_model.specs.Crossing.{Slot, slots}
use Rattle.hp_model.specs.WalkShape.{IsWholeWalk}
use Rattle.hp_model.specs.Trees.{Tree, stop, step, walk_tree}
use Rattle.hp_model.specs.Errands.{how_at}
use Rattle.hp_model.specs.NextInWalk.{walk_errand, walk_left, next_of_walk}
use Rattle.hp_model.proofs.NextSlot.{shape_follows}
use Rattle.hp_model.proofs.Cursor.{Runs}
use Rattle.hp_model.proofs.WalkEnd.{whole_walk, walk_answered}
use Rattle.hp_model.proofs.Errands.{IsEntry, is_entry, is_over, Given, entry_by, entry_next, end_next, IsEnd, IsMade, given_by}
use Rattle.hp_model.proofs.NextOfWalk.{walk_entry}
use Rattle.hp_model.proofs.Stages.{WalkEvent}
use Rattle.hp_model.proofs.Remains.{runs_of}

-- each entry that comes next is given, by who makes it, whether it is its turn or not
pub walk_is_entry : (head : Head) (xs : List Event) (c state inst : ℕ) (dir : Dir) (how : How)
    (h : WalkEntry head xs c state inst dir how) → IsEntry (walk_errand head xs c h.of) c state inst dir how
walk_is_entry head xs c state inst dir how h =
    let w = h.of in
    let K = keys head w.before in
    is_entry (walk_errand head xs c w) (slots c K h.crossings) h.slot c state inst dir how
    (shape_follows c K (direction w.from w.to) (plan K w.from w.to) h.crossings h.outcome h.shape) h.is_next h.fits h.how_is

pub gives_by_caller : (head : Head) (xs : List Event) (c state inst : ℕ) (dir : Dir) (how : How)
    (h : WalkEntry head xs c state inst dir how) →
    next_of_walk head xs c (walk c xs) ≡ option_map (λ k. Call k c state inst dir how) (caller xs c state how h.of.seat)
gives_by_caller head xs c state inst dir how h =
    ap (next_of_walk head xs c) h.in_flight
    ∙ entry_next xs (walk_errand head xs c h.of) c state inst dir how (walk_is_entry head xs c state inst dir how h)

pub gives_call : (head : Head) (xs : List Event) (k c state inst : ℕ) (dir : Dir) (how : How)
    (h : WalkEntry head xs c state inst dir how) → caller xs c state how h.of.seat ≡ Some k →
    next_of_walk head xs c (walk c xs) ≡ Some (Call k c state inst dir how)
gives_call head xs k c state inst dir how h by =
    gives_by_caller head xs c state inst dir how h ∙ ap (option_map (λ j. Call j c state inst dir how)) by

pub gives_entry : (head : Head) (xs : List Event) (k c state inst : ℕ) (dir : Dir) (how : How) →
    InWalk head xs k c state inst dir how → next_of_walk head xs c (walk c xs) ≡ Some (Call k c state inst dir how)
gives_entry head xs k c state inst dir how h = gives_call head xs k c state inst dir how h.entry h.caller_is

-- and so is the end
pub walk_is_over : (head : Head) (xs : List Event) (c : ℕ) (w : Walk) (answer : Answer) →
    IsWholeWalk c (keys head w.before) (direction w.from w.to) (plan (keys head w.before) w.from w.to) (walk_entries c xs) answer →
    walk_left head xs c w ≡ stop
walk_is_over head xs c w answer h =
    let K = keys head w.before in
    is_over (walk_errand head xs c w) (slots c K h.crossings)
    (shape_follows c K (direction w.from w.to) (plan K w.from w.to) h.crossings h.outcome h.shape) h.filled

pub gives_whole : (head : Head) (xs : List Event) (c : ℕ) (w : Walk) (answer : Answer) → walk c xs ≡ Some w →
    IsWholeWalk c (keys head w.before) (direction w.from w.to) (plan (keys head w.before) w.from w.to) (walk_entries c xs) answer →
    next_of_walk head xs c (walk c xs) ≡ Some (WalkEnd w.seat c answer)
gives_whole head xs c w answer at h =
    let K = keys head w.before in
    ap (next_of_walk head xs c) at
    ∙ end_next xs (walk_errand head xs c w) answer (walk_is_over head xs c w answer h)
    (walk_answered c K (direction w.from w.to) (plan K w.from w.to) (walk_entries c xs) answer h)

pub gives_end : (head : Head) (xs : List Event) (k c : ℕ) (answer : Answer) → WalkEnds head xs k c answer →
    next_of_walk head xs c (walk c xs) ≡ Some (WalkEnd k c answer)
gives_end head xs k c answer h =
    gives_whole head xs c h.of answer h.in_flight h.whole ∙ ap (λ z. Some (WalkEnd z c answer)) h.seat_is

pub gives : (head : Head) (xs : List Event) (k c : ℕ) (e : Event) → WalkEvent head xs k c e →
    next_of_walk head xs c (walk c xs) ≡ Some e
gives head xs k c (Call seat cpu state inst dir how) h = rw (h.0, h.1) (gives_entry head xs k c state inst dir how h.2)
gives head xs k c (WalkEnd seat cpu answer) h = rw (h.0, h.1) (gives_end head xs k c answer h.2)
gives head xs k c e h = elim h [ ]

-- what is given can come
entry_comes : (head : Head) (xs : List Event) (c : ℕ) (w : Walk) (s : Slot) (a b : Tree) → walk c xs ≡ Some w →
    Runs (walk_tree c (keys head w.before) (direction w.from w.to) [] (plan (keys head w.before) w.from w.to)) (walk_entries c xs) (step s a b) →
    (k : ℕ) → has_turn head xs k c ≡ true →
    caller xs s.cpu s.state (how_in_walk head xs s.cpu s.state s.inst s.dir s.place s.first) w.seat ≡ Some k →
    InWalk head xs k s.cpu s.state s.inst s.dir (how_in_walk head xs s.cpu s.state s.inst s.dir s.place s.first)
entry_comes head xs c w s a b at r k turn by =
    let e = walk_entry head xs c w s a b at r in
    let Made : ℕ → Type 0 = λ z. caller xs z s.state (how_in_walk head xs z s.state s.inst s.dir s.place s.first) w.seat ≡ Some k in
    let by' : Made c = subst Made e.0 by in
    subst (λ z. InWalk head xs k z s.state s.inst s.dir (how_in_walk head xs z s.state s.inst s.dir s.place s.first)) (sym e.0)
    (record { entry = e.1; caller_is = rw e.2 by'; turn = turn })

pub walk_given : (head : Head) (xs : List Event) (c : ℕ) (w : Walk) (e : Event) → walk c xs ≡ Some w →
    has_turn head xs (seat_of e) c ≡ true → next_of_walk head xs c (Some w) ≡ Some e → Given head xs w.seat is_map_op e
walk_given head xs c w e at turn h = go (given_by xs (walk_errand head xs c w) e h)
  where
    tree : Tree
    tree = walk_tree c (keys head w.before) (direction w.from w.to) [] (plan (keys head w.before) w.from w.to)

    go : IsEnd (walk_errand head xs c w) e ⊎ IsMade xs (walk_errand head xs c w) e → Given head xs w.seat is_map_op e
    go (inl n) =
        let K = keys head w.before in
        let r = runs_of tree (walk_entries c xs) stop n.left_is tt in
        let whole = whole_walk c K (direction w.from w.to) (plan K w.from w.to) (walk_entries c xs) n.answer (record { runs = r }) n.answer_is in
        let turns = subst (λ z. has_turn head xs (seat_of z) c ≡ true) n.event_is turn in
        subst (λ z. Given head xs w.seat is_map_op z) (sym n.event_is)
        (record {
          comes = record { of = w; in_flight = at; seat_is = refl; turn = turns; whole = whole };
          takes_none = refl;
          by = inl (refl, λ op m. m);
        })
    go (inr n) =
        let x = n.slot in
        let r = runs_of tree (walk_entries c xs) (step x n.done_tree n.fault_tree) n.left_is tt in
        let turns = subst (λ z. has_turn head xs (seat_of z) c ≡ true) n.event_is turn in
        subst (λ z. Given head xs w.seat is_map_op z) (sym n.event_is)
        (entry_by head xs w.seat is_map_op n.seat x.cpu x.state x.inst x.dir (how_at (walk_errand head xs c w) x)
        (inl (entry_comes head xs c w x n.done_tree n.fault_tree at r n.seat turns n.caller_is)) n.caller_is)
