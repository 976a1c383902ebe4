-- Who holds the lock, and what stays where a seat that does not hold it changes its view.
use Rattle.std.proofs.Common.{◌≡◌, ◌≢◌, ◌⊎◌, inl, inr, ℕ, true, false, List, get_or, set, sym, ap, ◌∙◌, subst, ⊎_elim, Option, Some, None}
use Rattle.hp_states.proofs.Basics.{none_some}
use mathlib.Core.Logic.{dite}
use mathlib.Core.Option.{some, some-injective}
use native.Mathlib.Decide.{ℕ_discrete}
use lib.ListN.{get_elem?}
use lib.Seq.{set-get_or}
use Rattle.atomic_table.specs.Table.{State, Me, keeps, stepped}
use Rattle.atomic_table.proofs.Lists.{set_else}
use Rattle.hp_event.specs.declared.aside.Aside.{Aside}
use Rattle.hp_event.specs.declared.head.Head.{Head}
use Rattle.hp_event.specs.declared.event.Event.{Event}
use Rattle.hp_turn.specs.declared.view.Held.{Held}
use Rattle.hp_turn.specs.declared.view.View.{View}
use Rattle.hp_turn.specs.Views.{view, held_of}
use Rattle.hp_turn.specs.Turn.{Fits, HasSeat, HasRight, Free, Taken, Kept}
use Rattle.hp_turn.proofs.Tables.{each_set, alone_set, alone_same}

-- the same facts hold of a view that says the same
pub fits_like : (h : Head) (told : List Event) (ps : List (ℕ × Aside)) (v : View) (misses : ℕ) (held : Option Held) → Fits h told ps v →
    Fits h told ps (view v.head v.front v.seat v.admits v.heard misses held v.aside v.kept)
fits_like h told ps v misses held f =
    record { alike = f.alike; knows = f.knows; admitted = f.admitted; heard = f.heard; aside = f.aside }

module _ {V : Type 0} (head : V → Head) (story : V → List Event) (aside : V → List (ℕ × Aside)) where
  abbrev St : Type 0
  St = State (Option V) View

  abbrev M : Type 0
  M = Me (Option V) View

  abbrev Rule : St → Type 0
  Rule = Kept head story aside

  -- a seat that does not hold the lock is not the holder
  pub not_holder : (t : List Event) (ps : List (ℕ × Aside)) (s : St) (k : Taken head story aside t ps s) (id : ℕ) (v : View) → get_elem? s.views id ≡ some v →
      v.held ≡ None → k.holder ≢ id
  not_holder t ps s k id v at idle e = none_some (held_of t ps)
      (sym idle ∙ (ap (λ (x : View). x.held)
      (some-injective v k.holding (sym at ∙ (ap (get_elem? s.views) (sym e) ∙ k.there))) ∙ k.keeps))

  -- the seat that holds the lock is the holder
  pub is_holder : (t : List Event) (ps : List (ℕ × Aside)) (u : Held) (s : St) (k : Taken head story aside t ps s) (id : ℕ)
      (v : View) → get_elem? s.views id ≡ some v → v.held ≡ Some u → (k.holder ≡ id) × (t ≡ u.story) × (ps ≡ u.pairs)
  is_holder t ps u s k id v at holds = dite (ℕ_discrete id k.holder)
      (λ e. let same : v ≡ k.holding = some-injective v k.holding (sym at ∙ (ap (get_elem? s.views) e ∙ k.there)) in
      let both : Some (held_of t ps) ≡ Some u = sym k.keeps ∙ (ap (λ (x : View). x.held) (sym same) ∙ holds) in
      let it : held_of t ps ≡ u = cc both in (sym e, ap (λ (x : Held). x.story) it, ap (λ (x : Held). x.pairs) it))
      (λ ne. absurd (none_some u (sym (k.others id v at ne) ∙ holds)))

  -- who holds the lock stays, where a seat that does not hold it changes its view
  pub lock_stays : (h : Head) (told : List Event) (ps : List (ℕ × Aside)) (s : St) (id : ℕ) (v w : View) →
      Free head story aside h told ps s ⊎ Taken head story aside told ps s → get_elem? s.views id ≡ some v → v.held ≡ None → w.held ≡ None
      → (let t : St = record { words = s.words; homes = s.homes; views = set s.views id w } in
      Free head story aside h told ps t ⊎ Taken head story aside told ps t)
  lock_stays h told ps s id v w lock at idle still = ⊎_elim
      (λ (f : Free head story aside h told ps s). inl record {
        held = f.held;
        value = f.value;
        home = f.home;
        value_head = f.value_head;
        value_story = f.value_story;
        value_pairs = f.value_pairs;
        nobody = each_set (λ _ x. x.held ≡ None) s.views id w still (λ j x _ e. f.nobody j x e);
      })
      (λ (k : Taken head story aside told ps s). let n = not_holder told ps s k id v at idle in inr record {
        held = k.held;
        holder = k.holder;
        holding = k.holding;
        there = set_else s.views id k.holder w n ∙ k.there;
        keeps = k.keeps;
        others = each_set (λ j x. j ≢ k.holder → x.held ≡ None) s.views id w (λ _. still) (λ j x _ e. k.others j x e);
      })
      lock

  -- a seat that does not hold the lock changes its view, and no word and no slot changes
  abbrev pub moved : (s : St) (r : Rule s) (id : ℕ) (v w : View) → get_elem? s.views id ≡ some v → v.held ≡ None →
      w.held ≡ None → (w.spent ≡ false → Fits r.h r.told r.pairs w) → (w.spent ≡ true → w.seat ≡ None)
      → ((k : ℕ) → w.seat ≡ Some k → v.seat ≡ Some k) →
      (w.admits ≡ true → (j : ℕ) (u : View) → j ≢ id → get_elem? s.views j ≡ some u → u.admits ≡ true → ⊥)
      → Rule record { words = s.words; homes = s.homes; views = set s.views id w }
  moved s r id v w at idle still fits ends seats right = record {
    h = r.h;
    told = r.told;
    pairs = r.pairs;
    room = r.room;
    words = r.words;
    count = r.count;
    each = each_set (λ _ x. x.spent ≡ false → Fits r.h r.told r.pairs x) s.views id w fits (λ j x _ e. r.each j x e);
    spent_idle = each_set (λ _ x. x.spent ≡ true → x.seat ≡ None) s.views id w ends (λ j x _ e. r.spent_idle j x e);
    one_seat = λ k. alone_same (HasSeat k) s.views id v w (r.one_seat k) at (seats k);
    one_right = alone_set HasRight s.views id w r.one_right right;
    lock = lock_stays r.h r.told r.pairs s id v w r.lock at idle still;
  }

  -- the same, of a step on word 0 that leaves it
  pub loaded : (s : St) (r : Rule s) (id : ℕ) (cs : List (ℕ × Option V)) (v w : View) → get_elem? s.views id ≡ some v →
      v.held ≡ None → w.held ≡ None → (w.spent ≡ false → Fits r.h r.told r.pairs w) → (w.spent ≡ true → w.seat ≡ None)
      → ((k : ℕ) → w.seat ≡ Some k → v.seat ≡ Some k) → (w.admits ≡ true → v.admits ≡ true)
      → Rule (stepped s 0 (get_or s.words 0 0) id cs w keeps)
  loaded s r id cs v w at idle still fits ends seats right = subst
      (λ (ws : List ℕ). Rule record { words = ws; homes = s.homes; views = set s.views id w }) (sym (set-get_or s.words 0 0))
      (moved s r id v w at idle still fits ends seats
      (λ yes j u ne at_j has. ne (r.one_right j id u v at_j at has (right yes))))
