-- A pass that takes the lock, and gives the board back: `given` is the pass as it was handed in, `inside` the same as it stands in
-- its struct, `held` as it holds the lock, and `after` as it has put the board back.
use Rattle.std.proofs.Common.{◌≡◌, ◌≢◌, ◌≤◌, ℕ, All, Option, Some, None, List, [], ◌∷◌, ◌++◌, length, inl, sym, ap, ◌∙◌, subst, arith}
use Rattle.std.proofs.lemmas.List.{append-nil}
use Rattle.std.proofs.lemmas.List.Elements.{All-nil, All-cons}
use Rattle.hp_states.specs.declared.limits.TheConstants.{MAX_EVENTS}
use Rattle.hp_event.specs.declared.head.Head.{Head}
use Rattle.hp_event.specs.declared.event.Event.{Event}
use Rattle.hp_model.specs.Front.{StandsFor}
use Rattle.hp_model.specs.Lawful.{IsLawful}
use Rattle.hp_model.proofs.RoomKept.{promises_fit}
use Rattle.hp_account.specs.Table.{IsTableOf}
use Rattle.hp_turn.specs.declared.view.Held.{Held}
use Rattle.hp_turn.specs.Asides.{seat_aside}
use Rattle.hp_turn.specs.Pass.{Pass, IsSame, Knew, MayPutBack}
use Rattle.hp_turn.specs.Story.{IsOwn, new_seat}
use Rattle.hp_turn.specs.Views.{held_of}
use Rattle.hp_turn.proofs.Stories.{keeps_seat}
use Rattle.hp_board.specs.Contents.{Contents}
use Rattle.hp_board.specs.Loans.{loan, AreOut}
use Rattle.hp_live.specs.Known.{IsSight, IsStill, IsRoot}
use Rattle.hp_live.specs.Lending.{lent_pairs}
use Rattle.hp_live.specs.Steps.{IsInside, IsBoard, Finds, CanPut, IsPut}
use Rattle.hp_live.proofs.Pairs.{aside_pairs}

-- ---- what the lock gave

pub room : (head : Head) (events : List Event) → IsLawful head events → length events ≤ MAX_EVENTS
room head events lawful = let fits = promises_fit head events lawful in omega arith

pub is_board : (b : Contents) → IsLawful b.head b.events → IsTableOf b.head b.events b.places → AreOut b → IsBoard b
is_board b lawful table out = record { lawful = lawful; table = table; out = out }

pub finds : (given inside : Pass) (found : Contents) → inside ≡ given → found.head ≡ inside.head → Knew inside found.events →
    seat_aside inside.seat (lent_pairs found) ≡ inside.aside → IsBoard found → Finds given found
finds given inside found is head knew lent board =
    subst (λ (p : Pass). Finds p found) is (record { head_is = head; knew = knew; lent = lent; board = board })

pub inside_held : (inside held : Pass) (found : Contents) → IsSame inside held →
    held.held ≡ Some (held_of found.events (lent_pairs found)) → found.head ≡ inside.head → IsInside held found
inside_held inside held found same took head = record { took = took; head_is = head ∙ sym same.head }

pub seat_held : (given inside held : Pass) (k : ℕ) → inside ≡ given → IsSame inside held → given.seat ≡ Some k → held.seat ≡ Some k
seat_held given inside held k is same own = same.seat ∙ ap (λ (p : Pass). p.seat) is ∙ own

-- what is lent to the pass's seat is what it carries
pub lent_found : (p : Pass) (k : ℕ) (found : Contents) → Finds p found → p.seat ≡ Some k → loan found k ≡ p.aside
lent_found p k found f own =
    sym (aside_pairs found k f.board.lawful) ∙ ap (λ (s : Option ℕ). seat_aside s (lent_pairs found)) (sym own) ∙ f.lent

pub seen_by : (p : Pass) (k : ℕ) (found : List Event) → p.seat ≡ Some k → Knew p found → StandsFor (Some k) p.front found
seen_by p k found own knew = subst (λ (s : Option ℕ). StandsFor s p.front found) own knew.seen

pub lawful_found : (p : Pass) (found : Contents) → Finds p found → IsLawful p.head found.events
lawful_found p found f = subst (λ (h : Head). IsLawful h found.events) f.head_is f.board.lawful

-- ---- what it takes back

-- events of its own that a seat put behind those it found
pub record Puts (k : ℕ) (old new : List Event) : Type 0 where
  pub added : List Event
  pub whole : old ++ added ≡ new
  pub own : All (IsOwn (Some k)) added

pub puts_one : (k : ℕ) (old new : List Event) (e : Event) → new ≡ old ++ e ∷ [] → IsOwn (Some k) e → Puts k old new
puts_one k old new e is own =
    record { added = e ∷ []; whole = sym is; own = All-cons (IsOwn (Some k)) e [] own (All-nil (IsOwn (Some k))) }

pub puts_none : (k : ℕ) (old new : List Event) → new ≡ old → Puts k old new
puts_none k old new is = record { added = []; whole = append-nil old ∙ sym is; own = All-nil (IsOwn (Some k)) }

-- the seat is as before
pub seat_kept : (p : Pass) (k : ℕ) (old new : Contents) → p.seat ≡ Some k → IsInside p old → Puts k old.events new.events →
    new_seat p.seat p.held new.events ≡ p.seat
seat_kept p k old new own inside puts =
    ap (λ (s : Option ℕ). new_seat s p.held new.events) own
    ∙ ap (λ (h : Option Held). new_seat (Some k) h new.events) inside.took
    ∙ keeps_seat (Some k) (held_of old.events (lent_pairs old)) puts.added new.events puts.whole puts.own ∙ sym own

pub can_put : (p : Pass) (k : ℕ) (old new : Contents) → p.seat ≡ Some k → IsInside p old → IsLawful old.head old.events →
    new.head ≡ old.head → Puts k old.events new.events → ((j : ℕ) → j ≢ k → loan new j ≡ loan old j) → CanPut p new
can_put p k old new own inside lawful head puts others =
    record {
      found = old;
      took = inside.took;
      lawful = lawful;
      head_is = head ∙ inside.head_is;
      added = puts.added;
      whole = puts.whole;
      may = inl (subst (λ (s : Option ℕ). All (IsOwn s) puts.added) (sym own) puts.own);
      others = λ j apart.
          others j (λ is. apart (seat_kept p k old new own inside puts ∙ own ∙ ap (λ (n : ℕ). Some n) (sym is)));
    }

pub may_put_back : (p : Pass) (new : Contents) → CanPut p new → IsLawful new.head new.events →
    MayPutBack p new.events (lent_pairs new)
may_put_back p new c lawful =
    record {
      taken = held_of c.found.events (lent_pairs c.found);
      holds = c.took;
      added = c.added;
      whole = c.whole;
      may = c.may;
      others = λ j apart. aside_pairs new j lawful ∙ c.others j apart ∙ sym (aside_pairs c.found j c.lawful);
    }

pub still_put : (p after : Pass) (k : ℕ) (old new : Contents) → p.seat ≡ Some k → IsInside p old → Puts k old.events new.events →
    IsPut p after new → IsStill p after
still_put p after k old new own inside puts put =
    record { lock = put.lock; head = put.head; seat = put.seat ∙ seat_kept p k old new own inside puts; admits = put.admits }

-- what the pass carries then
pub lent_put : (p after : Pass) (k : ℕ) (old new : Contents) → p.seat ≡ Some k → IsInside p old → Puts k old.events new.events →
    IsPut p after new → after.aside ≡ loan new k
lent_put p after k old new own inside puts put = put.lent k (put.seat ∙ seat_kept p k old new own inside puts ∙ own)

pub still_given : (given inside held after : Pass) → inside ≡ given → IsSame inside held → IsStill held after → IsStill given after
still_given given inside held after is same s =
    subst (λ (p : Pass). IsStill p after) is
    (record {
      lock = s.lock ∙ same.lock;
      head = s.head ∙ same.head;
      seat = s.seat ∙ same.seat;
      admits = s.admits ∙ same.admits;
    })

pub sight_put : (after : Pass) (b : Contents) (seen : ℕ) → after.head ≡ b.head → after.front ≡ b.events → after.held ≡ None →
    seen ≡ length b.events → IsLawful b.head b.events → IsSight after seen
sight_put after b seen head front free count lawful =
    record {
      lawful =
          subst (λ (h : Head). IsLawful h after.front) (sym head)
          (subst (λ (w : List Event). IsLawful b.head w) (sym front) lawful);
      free = free;
      seen_is = count ∙ sym (ap (λ (w : List Event). length w) front);
    }

pub lent_then : (after : Pass) (b : Contents) (k : ℕ) → after.aside ≡ seat_aside after.seat (lent_pairs b) →
    IsLawful b.head b.events → after.seat ≡ Some k → after.aside ≡ loan b k
lent_then after b k aside lawful own =
    aside ∙ ap (λ (s : Option ℕ). seat_aside s (lent_pairs b)) own ∙ aside_pairs b k lawful

pub nothing_then : (after : Pass) (b : Contents) → after.aside ≡ seat_aside after.seat (lent_pairs b) → after.seat ≡ None →
    after.aside ≡ None
nothing_then after b aside own = aside ∙ ap (λ (s : Option ℕ). seat_aside s (lent_pairs b)) own

pub root_held : (given inside held : Pass) → inside ≡ given → IsSame inside held → IsRoot given → IsRoot held
root_held given inside held is same root =
    record {
      no_seat = same.seat ∙ ap (λ (p : Pass). p.seat) is ∙ root.no_seat;
      right = same.admits ∙ ap (λ (p : Pass). p.admits) is ∙ root.right;
    }
