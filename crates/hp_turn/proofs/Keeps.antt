-- The lock is made, taken and released by the rule.
use Rattle.std.proofs.Common.{◌≡◌, ◌≢◌, inl, inr, ℕ, ◌<◌, ◌≤◌, eqb, true, false, List, [], ◌∷◌, length, get_or, sym, refl, ap, ◌∙◌, subst, ⊎_elim, arith, length-set, get_or-set_other, get_or-set_same, Option, Some, None}
use Rattle.hp_states.proofs.Basics.{none_some}
use mathlib.Core.Option.{some, some-ne-none}
use prog.Atomic.{either}
use Rattle.atomic_table.specs.Table.{State, Me, Act, keeps, takes, gives, stepped, Valid, carried_after, Allows, opening}
use Rattle.atomic_table.proofs.Lists.{set_here}
use Rattle.hp_states.specs.declared.limits.TheConstants.{MAX_EVENTS}
use Rattle.hp_event.specs.declared.aside.Aside.{Aside}
use Rattle.hp_event.specs.declared.head.Head.{Head}
use Rattle.hp_event.specs.declared.event.Event.{Event}
use Rattle.hp_turn.specs.declared.view.Held.{Held}
use Rattle.hp_turn.specs.declared.view.View.{View}
use Rattle.hp_turn.specs.Asides.{seat_aside}
use Rattle.hp_turn.specs.Story.{Knows}
use Rattle.hp_turn.specs.Views.{fresh, held_of, holding, missed, freed}
use Rattle.hp_turn.specs.Turn.{Fits, HasSeat, HasRight, Free, Taken, Kept, locked, released}
use Rattle.hp_turn.proofs.Stories.{knows_self}
use Rattle.hp_turn.proofs.Tables.{set_there, each_set, each_end, alone_same, alone_end}
use Rattle.hp_turn.proofs.Holders.{is_holder, loaded, fits_like}

module _ {V : Type 0} (head : V → Head) (story : V → List Event) (aside : V → List (ℕ × Aside)) where
  abbrev St : Type 0
  St = State (Option V) View

  abbrev M : Type 0
  M = Me (Option V) View

  abbrev Rule : St → Type 0
  Rule = Kept head story aside

  pub opens : (x : V) (n : ℕ) → n ≡ length (story x) → length (story x) ≤ MAX_EVENTS →
      Rule (opening (0 ∷ n ∷ []) (Some x ∷ []) (fresh (head x) (story x) true))
  opens x n count room = let v : View = fresh (head x) (story x) true in record {
    h = head x;
    told = story x;
    pairs = aside x;
    room = room;
    words = refl;
    count = count;
    each = each_end (λ _ y. y.spent ≡ false → Fits (head x) (story x) (aside x) y) [] v
        (λ _. record {
          alike = refl;
          knows = knows_self None true (story x);
          admitted = λ k e. absurd
              (none_some k e);
          heard = λ y e. absurd (none_some y e);
          aside = refl;
        }) (λ j y e. absurd (some-ne-none y (sym e)));
    spent_idle = each_end (λ _ y. y.spent ≡ true → y.seat ≡ None) [] v (λ _. refl)
        (λ j y e. absurd (some-ne-none y (sym e)));
    one_seat = λ k. alone_end (HasSeat k) [] v (λ i j a b at_i. absurd (some-ne-none a (sym at_i)))
        (λ e. absurd (none_some k e));
    one_right = alone_end HasRight [] v (λ i j a b at_i. absurd (some-ne-none a (sym at_i)))
        (λ _ j u at_j. absurd (some-ne-none u (sym at_j)));
    lock = inl record {
      held = refl;
      value = x;
      home = refl;
      value_head = refl;
      value_story = refl;
      value_pairs = refl;
      nobody = each_end
          (λ _ y. y.held ≡ None) [] v refl (λ j y e. absurd (some-ne-none y (sym e)));
    };
  }

  pub locks : (n id : ℕ) (m : M) → m.0.spent ≡ false → m.0.held ≡ None →
      Allows Rule n id m 0 (λ c. either (eqb c 0) 1 c) (locked head story aside m)
  locks n id m live idle s r wide at _ = let fits = r.each id m.0 at live in
      let Goal : ℕ → Type 0 = λ c. (w : View) × (a : Act (Option V)) × Valid s.homes m.1 a × Rule
      (stepped s 0 (either (eqb c 0) 1 c) id m.1 w a) × locked head story aside m c (w, carried_after m.1 a) in
      ⊎_elim
      (λ (f : Free head story aside r.h r.told r.pairs s). let w : View = holding m.0 (story f.value) (aside f.value) in subst Goal (sym f.held) (
        w,
        takes 0 (Some f.value),
        f.home,
        record {
          h = r.h;
          told = r.told;
          pairs = r.pairs;
          room = r.room;
          words = length-set s.words 0 1 ∙ r.words;
          count = get_or-set_other s.words 0 1 1 0 (λ e. omega arith) ∙ r.count;
          each = each_set (λ _ x. x.spent ≡ false → Fits r.h r.told r.pairs x) s.views id w
              (λ _. fits_like r.h r.told r.pairs m.0 m.0.misses (Some (held_of (story f.value) (aside f.value))) fits) (λ j x _ e. r.each j x e);
          spent_idle = each_set (λ _ x. x.spent ≡ true → x.seat ≡ None) s.views id w (λ e. absurd (cc e))
              (λ j x _ e. r.spent_idle j x e);
          one_seat = λ k. alone_same (HasSeat k) s.views id m.0 w (r.one_seat k) at (λ e. e);
          one_right = alone_same HasRight s.views id m.0 w r.one_right at (λ e. e);
          lock = inr record {
            held = get_or-set_same s.words 0 1 0 (let l = r.words in omega arith);
            holder = id;
            holding = w;
            there = set_there s.views id m.0 w at;
            keeps = ap Some (ap (λ (t : List Event). held_of t (aside f.value)) f.value_story ∙ ap (held_of r.told) f.value_pairs);
            others = each_set (λ j x. j ≢ id → x.held ≡ None) s.views id w (λ ne. absurd (ne refl))
                (λ j x _ e _. f.nobody j x e);
          };
        },
        (
          λ _. record {
            value = f.value;
            now = refl;
            alike = f.value_head ∙ sym fits.alike;
            knew = subst (Knows m.0.seat m.0.admits m.0.front) (sym f.value_story) fits.knows;
            lent = ap (seat_aside m.0.seat) f.value_pairs ∙ sym fits.aside;
            room = subst (λ (t : List Event). length t ≤ MAX_EVENTS) (sym f.value_story) r.room;
          },
          λ ne. absurd (ne refl),
        ),
      ))
      (λ (k : Taken head story aside r.told r.pairs s). let w : View = missed m.0 in
      let c : ℕ = get_or s.words 0 0 in let one : either (eqb c 0) 1 c ≡ c = subst (λ (z : ℕ). either (eqb z 0) 1 z ≡ z)
      (sym k.held) refl in (
        w,
        keeps,
        tt,
        subst (λ (z : ℕ). Rule (stepped s 0 z id m.1 w keeps)) (sym one)
            (loaded head story aside s r id m.1 m.0 w at idle refl (λ _. fits_like r.h r.told r.pairs m.0 (missed m.0).misses None fits)
            (λ e. absurd (cc e)) (λ _ e. e) (λ e. e)),
        (λ z. let l = k.held in absurd (omega arith), λ _. (k.held, refl)),
      ))
      r.lock

  pub releases : (n id : ℕ) (m : M) (x : V) (t : Held) → 0 < n → m.0.spent ≡ false → m.0.held ≡ Some t →
      m.1 ≡ (0, Some x) ∷ [] → story x ≡ t.story → aside x ≡ t.pairs → head x ≡ m.0.head → Allows Rule n id m 0 (λ _. 0) (λ _ w. released m w)
  releases n id m x t some_slot live holds carries whole lent alike s r wide at _ = let fits = r.each id m.0 at live in ⊎_elim
      (λ (f : Free head story aside r.h r.told r.pairs s). absurd (none_some t (sym (f.nobody id m.0 at) ∙ holds)))
      (λ (taken : Taken head story aside r.told r.pairs s). let mine = is_holder head story aside r.told r.pairs t s taken id m.0 at holds in
      let w : View = freed m.0 in (
        w,
        gives,
        tt,
        subst (λ (cs : List (ℕ × Option V)). Rule (stepped s 0 0 id cs w gives)) (sym carries) record {
          h = r.h;
          told = r.told;
          pairs = r.pairs;
          room = r.room;
          words = length-set s.words 0 0 ∙ r.words;
          count = get_or-set_other s.words 0 1 0 0 (λ e. omega arith) ∙ r.count;
          each = each_set (λ _ v. v.spent ≡ false → Fits r.h r.told r.pairs v) s.views id w
              (λ _. fits_like r.h r.told r.pairs m.0 m.0.misses None fits) (λ j v _ e. r.each j v e);
          spent_idle = each_set (λ _ v. v.spent ≡ true → v.seat ≡ None) s.views id w (λ e. absurd (cc e))
              (λ j v _ e. r.spent_idle j v e);
          one_seat = λ k. alone_same (HasSeat k) s.views id m.0 w (r.one_seat k) at (λ e. e);
          one_right = alone_same HasRight s.views id m.0 w r.one_right at (λ e. e);
          lock = inl record {
            held = get_or-set_same s.words 0 0 0 (let l = r.words in omega arith);
            value = x;
            home = set_here s.homes 0 (some (Some x)) (omega arith);
            value_head = alike ∙ fits.alike;
            value_story = whole ∙ sym mine.1;
            value_pairs = lent ∙ sym mine.2;
            nobody = each_set (λ _ v. v.held ≡ None) s.views id w refl
                (λ j v ne e. taken.others j v e (λ same. ne (same ∙ mine.0)));
          };
        },
        refl,
      ))
      r.lock
