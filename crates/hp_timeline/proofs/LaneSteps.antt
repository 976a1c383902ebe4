-- One event more, for where a processor stands.
use Rattle.std.proofs.Common.{◌≡◌, ℕ, ◌+◌, ◌<◌, Bool, true, false, ◌&&◌, ◌==◌, if◌then◌else◌, Option, Some, None, List, [], ◌∷◌, ◌++◌, length, get_or, set, refl, ap, sym, ◌∙◌, arith}
use Rattle.std.proofs.lemmas.Bool.Decides.{nat_tests}
use Rattle.std.proofs.lemmas.List.Sums.{fold-append}
use Rattle.hp_states.specs.declared.dir.Dir.{Dir}
use Rattle.hp_event.specs.declared.how.How.{How}
use Rattle.hp_event.specs.declared.answer.Answer.{Answer}
use Rattle.hp_event.specs.Leaves.{leaves_at}
use Rattle.hp_event.specs.declared.head.Head.{Head}
use Rattle.hp_event.specs.declared.event.Event.{Event}
use Rattle.hp_event.specs.declared.event.Event.TheVariants.{WalkBegin, Call, WalkEnd}
use Rattle.hp_model.specs.Crossing.{far}
use Rattle.hp_model.specs.Entries.{is_done}
use Rattle.hp_model.specs.Registered.{keys}
use Rattle.hp_model.specs.Settled.{settled, settled_step, left_at}
use Rattle.hp_model.specs.Shown.{shown, shown_in, shown_after, is_last}
use Rattle.hp_model.specs.Walks.{Walk, walk, walk_step, walk_entries, entries_step}
use Rattle.hp_model.proofs.Laws.{walk_push, walk_entries_push, settled_push}
use Rattle.hp_print.proofs.ProcessorTallyStep.{get_or-set}
use Rattle.hp_timeline.specs.declared.scene.Lane.{Lane}
use Rattle.hp_timeline.specs.declared.scene.Scene.{Scene}
use Rattle.hp_timeline.specs.Scenes.{walking_of, lane_of, lane_at, no_lane, set_out, target_of, stood, arrived, crosses, crossed, is_last_key, lanes_after}

-- a lane, by the walk of its processor, its entries and the settled state
abbrev lane_by : Head → Option Walk → List Event → (settled : ℕ) → Lane
lane_by head w es at = record { settled = at; shown = shown_in head w es at; walk = walking_of w }

lane_push : (head : Head) (c : ℕ) (xs : List Event) (e : Event) →
    lane_of head (xs ++ e ∷ []) c
    ≡ lane_by head (walk_step c (walk c xs) xs e) (entries_step c (walk_entries c xs) xs e) (settled_step c (settled c xs) xs e)
lane_push head c xs e = rw (walk_push, walk_entries_push, settled_push) refl

-- the key of an entry in a walk is the last of its state where it was as the walk began
abbrev pub KnowsLast : Head → (cpu : ℕ) → List Event → Scene → Type 0
KnowsLast head c xs s = (w : Walk) → walk c xs ≡ Some w → (state inst : ℕ) →
    is_last_key head s.states state inst ≡ is_last (keys head w.before state) inst

arrives : (answer : Answer) (w : Option Walk) (at : ℕ) → leaves_at answer (target_of (walking_of w) at) at ≡ left_at answer w at
arrives answer None at = refl
arrives answer (Some w) at = refl

-- the entry of a walk, of this processor
crosses_as : (head : Head) (b : Bool) (w : Option Walk) (es : List Event) (at seat c state inst : ℕ) (dir : Dir) (how : How) →
    ((v : Walk) → w ≡ Some v → b ≡ is_last (keys head v.before state) inst) →
    (if crosses b how (lane_by head w es at) then record (lane_by head w es at) { shown = far dir state } else lane_by head w es at)
    ≡ lane_by head w (es ++ Call seat c state inst dir how ∷ []) at
crosses_as head b None es at seat c state inst dir how h = refl
crosses_as head b (Some w) es at seat c state inst dir how h =
    rw (h w refl, fold-append (shown_after (keys head w.before)) w.from es (Call seat c state inst dir how ∷ []))
    (go (is_done how && is_last (keys head w.before state) inst))
  where
    go : (t : Bool) →
        (if t then record (lane_by head (Some w) es at) { shown = far dir state } else lane_by head (Some w) es at)
        ≡ record { settled = at; shown = (if t then far dir state else shown_in head (Some w) es at); walk = walking_of (Some w) }
    go true = refl
    go false = refl

crossed_here : (lanes : List Lane) (c state : ℕ) (b : Bool) (dir : Dir) (how : How) → c < length lanes →
    lane_at (crossed b c state dir how lanes) c
    ≡ (if crosses b how (lane_at lanes c) then record (lane_at lanes c) { shown = far dir state } else lane_at lanes c)
crossed_here lanes c state b dir how h = go (crosses b how (lane_at lanes c))
  where
    go : (t : Bool) → lane_at (if t then set lanes c (record (lane_at lanes c) { shown = far dir state }) else lanes) c
        ≡ (if t then record (lane_at lanes c) { shown = far dir state } else lane_at lanes c)
    go true = get_or-set lanes c c (record (lane_at lanes c) { shown = far dir state }) no_lane h ∙ rw (same c) refl
      where
        same : (n : ℕ) → (n == n) ≡ true
        same n = grind (arith, nat_tests)
    go false = refl

crossed_apart : (lanes : List Lane) (d c state : ℕ) (b : Bool) (dir : Dir) (how : How) → c < length lanes → (d == c) ≡ false →
    lane_at (crossed b d state dir how lanes) c ≡ lane_at lanes c
crossed_apart lanes d c state b dir how h apart = go (crosses b how (lane_at lanes d))
  where
    go : (t : Bool) → lane_at (if t then set lanes d (record (lane_at lanes d) { shown = far dir state }) else lanes) c ≡ lane_at lanes c
    go true = get_or-set lanes d c (record (lane_at lanes d) { shown = far dir state }) no_lane h ∙ rw apart refl
    go false = refl

begun_as : (head : Head) (c : ℕ) (xs : List Event) (lanes : List Lane) (seat cpu from to : ℕ) → c < length lanes →
    lane_at lanes c ≡ lane_of head xs c →
    lane_at (set lanes cpu (set_out (length xs) from to (lane_at lanes cpu))) c
    ≡ lane_by head (walk_step c (walk c xs) xs (WalkBegin seat cpu from to)) (entries_step c (walk_entries c xs) xs (WalkBegin seat cpu from to)) (settled c xs)
begun_as head c xs lanes seat cpu from to h p =
    rw (get_or-set lanes cpu c (set_out (length xs) from to (lane_at lanes cpu)) no_lane h) (go (cpu == c) refl)
  where
    go : (b : Bool) → (cpu == c) ≡ b →
        (if b then set_out (length xs) from to (lane_at lanes cpu) else lane_at lanes c)
        ≡ lane_by head (if b then Some (record { seat = seat; from = from; to = to; before = xs }) else walk c xs)
        (if b then [] else walk_entries c xs) (settled c xs)
    go true e = let same : cpu ≡ c = grind (arith, nat_tests) in rw (same, p) refl
    go false e = p

ended_as : (head : Head) (c : ℕ) (xs : List Event) (lanes : List Lane) (seat cpu : ℕ) (answer : Answer) → c < length lanes →
    lane_at lanes c ≡ lane_of head xs c →
    lane_at (set lanes cpu (arrived answer (lane_at lanes cpu))) c
    ≡ lane_by head (walk_step c (walk c xs) xs (WalkEnd seat cpu answer)) (walk_entries c xs) (settled_step c (settled c xs) xs (WalkEnd seat cpu answer))
ended_as head c xs lanes seat cpu answer h p =
    rw (get_or-set lanes cpu c (arrived answer (lane_at lanes cpu)) no_lane h) (go (cpu == c) refl)
  where
    go : (b : Bool) → (cpu == c) ≡ b →
        (if b then arrived answer (lane_at lanes cpu) else lane_at lanes c)
        ≡ lane_by head (if b then None else walk c xs) (walk_entries c xs) (if b then left_at answer (walk c xs) (settled c xs) else settled c xs)
    go true e =
        let same : cpu ≡ c = grind (arith, nat_tests) in rw (same, p) (ap (λ n. stood n) (arrives answer (walk c xs) (settled c xs)))
    go false e = p

called_as : (head : Head) (c : ℕ) (xs : List Event) (s : Scene) (seat cpu state inst : ℕ) (dir : Dir) (how : How) → c < length s.lanes.items →
    lane_at s.lanes.items c ≡ lane_of head xs c → KnowsLast head c xs s →
    lane_at (crossed (is_last_key head s.states state inst) cpu state dir how s.lanes.items) c
    ≡ lane_by head (walk c xs) (entries_step c (walk_entries c xs) xs (Call seat cpu state inst dir how)) (settled c xs)
called_as head c xs s seat cpu state inst dir how h p last = go (cpu == c) refl
  where
    go : (b : Bool) → (cpu == c) ≡ b →
        lane_at (crossed (is_last_key head s.states state inst) cpu state dir how s.lanes.items) c
        ≡ lane_by head (walk c xs) (if b then walk_entries c xs ++ Call seat cpu state inst dir how ∷ [] else walk_entries c xs) (settled c xs)
    go true e =
        let same : cpu ≡ c = grind (arith, nat_tests) in
        rw same
        (crossed_here s.lanes.items c state (is_last_key head s.states state inst) dir how h
        ∙ rw p
        (crosses_as head (is_last_key head s.states state inst) (walk c xs) (walk_entries c xs) (settled c xs) seat c state inst dir how
        (λ w is. last w is state inst)))
    go false e = crossed_apart s.lanes.items cpu c state (is_last_key head s.states state inst) dir how h e ∙ p

pub lane_as : (head : Head) (c : ℕ) (xs : List Event) (e : Event) (s : Scene) → c < length s.lanes.items →
    lane_at s.lanes.items c ≡ lane_of head xs c → KnowsLast head c xs s →
    lane_at (lanes_after head (length xs) s e) c ≡ lane_of head (xs ++ e ∷ []) c
lane_as head c xs e s h p last = go e ∙ sym (lane_push head c xs e)
  where
    go : (e : Event) → lane_at (lanes_after head (length xs) s e) c
        ≡ lane_by head (walk_step c (walk c xs) xs e) (entries_step c (walk_entries c xs) xs e) (settled_step c (settled c xs) xs e)
    go (WalkBegin seat cpu from to) = begun_as head c xs s.lanes.items seat cpu from to h p
    go (Call seat cpu state inst dir how) = called_as head c xs s seat cpu state inst dir how h p last
    go (WalkEnd seat cpu answer) = ended_as head c xs s.lanes.items seat cpu answer h p
    go e = p
