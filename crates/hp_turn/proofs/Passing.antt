-- Passes are split and joined by the rule, and what the load after a join tells.
use Rattle.std.proofs.Common.{◌≡◌, ◌≢◌, ◌||◌, inl, inr, ℕ, true, false, List, [], ◌∷◌, set, sym, refl, ap, ◌∙◌, subst, ⊎_elim, Option, Some, None}
use Rattle.hp_states.proofs.Basics.{none_some}
use mathlib.Core.Option.{some}
use mathlib.Core.List.{IsPrefix}
use lib.ListN.{get_elem?}
use Rattle.atomic_table.specs.Table.{State, Me, keeps, Allows, Splits, Joins}
use Rattle.atomic_table.proofs.Lists.{set_else, at_longer}
use Rattle.hp_event.specs.declared.aside.Aside.{Aside}
use Rattle.hp_event.specs.declared.head.Head.{Head}
use Rattle.hp_event.specs.declared.event.Event.{Event}
use Rattle.hp_turn.specs.declared.view.Heard.{Heard}
use Rattle.hp_turn.specs.declared.view.View.{View}
use Rattle.hp_turn.specs.Story.{Knows, longer}
use Rattle.hp_turn.specs.Views.{spent, settled, split_left, split_right, joined}
use Rattle.hp_turn.specs.Turn.{WereHeard, Fits, HasSeat, HasRight, Free, Taken, Kept, learned}
use Rattle.hp_turn.proofs.Stories.{has_before, knows_until, knows_new, knows_without, knows_prefix, knows_both, longest, or_left, or_cases}
use Rattle.hp_turn.proofs.Tables.{set_swap, each_set, each_end, alone_set, alone_same, alone_end}
use Rattle.hp_turn.proofs.Holders.{not_holder, moved, loaded}

module _ {V : Type 0} (head : V → Head) (story : V → List Event) (aside : V → List (ℕ × Aside)) where
  abbrev St : Type 0
  St = State (Option V) View

  abbrev M : Type 0
  M = Me (Option V) View

  abbrev Rule : St → Type 0
  Rule = Kept head story aside

  pub splits : (id : ℕ) (v : View) → v.spent ≡ false → v.heard ≡ None → v.held ≡ None →
      Splits Rule id v (split_left v) (split_right v)
  splits id v live quiet idle s r at = let fits = r.each id v at live in let left : View = split_left v in
      let right : View = split_right v in let vs : List View = set s.views id left in record {
        h = r.h;
        told = r.told;
        pairs = r.pairs;
        room = r.room;
        words = r.words;
        count = r.count;
        each = each_end (λ _ x. x.spent ≡ false → Fits r.h r.told r.pairs x) vs right
            (λ _. record {
              alike = fits.alike;
              knows = knows_new v.seat v.admits v.admits v.front r.told fits.knows
                  (λ e. e);
              admitted = λ k e. absurd (none_some k e);
              heard = λ y e. absurd (none_some y e);
              aside = refl;
            })
            (each_set (λ _ x. x.spent ≡ false → Fits r.h r.told r.pairs x) s.views id left
            (λ _. record { alike = fits.alike; knows = knows_without v.seat v.admits v.front r.told fits.knows; admitted = fits.admitted; heard = λ y e. absurd (none_some y (sym quiet ∙ e)); aside = fits.aside })
            (λ j x _ e. r.each j x e));
        spent_idle = each_end (λ _ x. x.spent ≡ true → x.seat ≡ None) vs right (λ e. absurd (cc e))
            (each_set (λ _ x. x.spent ≡ true → x.seat ≡ None) s.views id left (λ e. absurd (cc e))
            (λ j x _ e. r.spent_idle j x e));
        one_seat = λ k. alone_end (HasSeat k) vs right (alone_same (HasSeat k) s.views id v left (r.one_seat k) at (λ e. e))
            (λ e. absurd (none_some k e));
        one_right = alone_end HasRight vs right (alone_set HasRight s.views id left r.one_right (λ e. absurd (cc e)))
            (λ has. each_set (λ _ u. u.admits ≡ true → ⊥) s.views id left (λ e. absurd (cc e))
            (λ j u ne at_j also. ne (r.one_right j id u v at_j at also has)));
        lock = ⊎_elim
            (λ (f : Free head story aside r.h r.told r.pairs s). inl record {
              held = f.held;
              value = f.value;
              home = f.home;
              value_head = f.value_head;
              value_story = f.value_story;
              value_pairs = f.value_pairs;
              nobody = each_end (λ _ x. x.held ≡ None) vs right refl
                  (each_set (λ _ x. x.held ≡ None) s.views id left idle (λ j x _ e. f.nobody j x e));
            })
            (λ (k : Taken head story aside r.told r.pairs s). let n = not_holder head story aside r.told r.pairs s k id v at idle in inr record {
              held = k.held;
              holder = k.holder;
              holding = k.holding;
              there = at_longer vs (right ∷ []) k.holder k.holding (set_else s.views id k.holder left n ∙ k.there);
              keeps = k.keeps;
              others = each_end (λ j x. j ≢ k.holder → x.held ≡ None) vs right (λ _. refl)
                  (each_set (λ j x. j ≢ k.holder → x.held ≡ None) s.views id left (λ _. idle) (λ j x _ e. k.others j x e));
            })
            r.lock;
      }

  pub joins : (id : ℕ) (v : View) (other : ℕ) (w : View) → v.spent ≡ false → v.held ≡ None → w.spent ≡ false →
      w.held ≡ None → Joins Rule id v other w (joined v w) spent
  joins id v other w live idle live' idle' s r at apart there = let fits = r.each id v at live in
      let one : View = joined v w in let both : Heard = record { one = v.front; two = w.front; had = v.admits; head = w.head } in
      let was : get_elem? s.views other ≡ some w = sym (set_else s.views id other one apart) ∙ there in
      let fits' = r.each other w was live' in
      let s1 : St = record { words = s.words; homes = s.homes; views = set s.views other spent } in
      let r1 : Rule s1 = moved head story aside s r other w spent was idle' refl (λ e. absurd (cc e)) (λ _. refl)
      (λ k e. absurd (none_some k e)) (λ e. absurd (cc e)) in
      let back : id ≢ other = λ e. apart (sym e) in
      let at1 : get_elem? (set s.views other spent) id ≡ some v = set_else s.views other id spent back ∙ at in
      let all = longest v.front w.front r.told (knows_prefix v.seat v.admits v.front r.told fits.knows)
      (knows_prefix w.seat w.admits w.front r.told fits'.knows) in
      let mine : Fits r.h r.told r.pairs one = record {
        alike = fits.alike;
        knows = knows_both v.seat w.seat v.admits w.admits v.front w.front r.told fits.knows fits'.knows;
        admitted = λ k e. has_before k v.front (longer v.front w.front) all.1 (fits.admitted k e);
        aside = fits.aside;
        heard = λ y e. let is : both ≡ y = cc e in
            subst (WereHeard r.h v.seat (v.admits || w.admits) (longer v.front w.front) r.told) is record {
              alike = fits'.alike;
              one = fits.knows;
              two = knows_prefix w.seat w.admits w.front r.told fits'.knows;
              front_is = refl;
              right = or_left v.admits w.admits;
            };
      } in
      subst (λ (vs : List View). Rule record { words = s.words; homes = s.homes; views = vs })
      (sym (set_swap s.views id other one spent back))
      (moved head story aside s1 r1 id v one at1 idle idle (λ _. mine) (λ e. absurd (cc e)) (λ _ e. e)
      (λ yes j u off at_j. each_set (λ i z. i ≢ id → z.admits ≡ true → ⊥) s.views other spent (λ _ e. absurd (cc e))
      (λ i z ne at_i away has. ⊎_elim (λ mine_had. away (r.one_right i id z v at_i at has mine_had))
      (λ its_had. ne (r.one_right i other z w at_i was has its_had)) (or_cases v.admits w.admits yes))
      j u at_j off))

  pub learns : (n id : ℕ) (m : M) → m.0.spent ≡ false → m.0.held ≡ None → Allows Rule n id m 0 (λ c. c) (λ _ w. learned m w)
  learns n id m live idle s r wide at _ = let fits = r.each id m.0 at live in let w : View = settled m.0 in (
    w,
    keeps,
    tt,
    loaded head story aside s r id m.1 m.0 w at idle idle
        (λ _. record {
          alike = fits.alike;
          knows = fits.knows;
          admitted = fits.admitted;
          aside = fits.aside;
          heard = λ y e. absurd
              (none_some y e);
        }) (λ e. absurd (cc e)) (λ _ e. e) (λ e. e),
    (
      refl,
      λ y e. let old = fits.heard y e in
          let all = longest y.one y.two r.told (knows_prefix m.0.seat y.had y.one r.told old.one) old.two in (
            subst (Knows m.0.seat y.had y.one) (sym old.front_is)
                (knows_until m.0.seat y.had y.one (longer y.one y.two) r.told old.one all.1 all.0),
            subst (IsPrefix y.two)
                (sym old.front_is) all.2,
            old.alike ∙ sym fits.alike,
          ),
    ),
  )

-- what the load after a join tells
pub joined_front : (v w m n : View) → m ≡ joined v w → n ≡ settled m →
    ((x : Heard) → m.heard ≡ Some x → Knows m.seat x.had x.one m.front × IsPrefix x.two m.front × (x.head ≡ m.head))
    → (n.front ≡ longer v.front w.front) × Knows v.seat v.admits v.front n.front × IsPrefix w.front n.front × (w.head ≡ v.head)
joined_front v w m n e f told = let both : Heard = record { one = v.front; two = w.front; had = v.admits; head = w.head } in
    let t = told both (ap (λ (x : View). x.heard) e) in
    let nf : n.front ≡ m.front = ap (λ (x : View). x.front) f in (
      nf ∙ ap (λ (x : View). x.front) e,
      subst (Knows v.seat v.admits v.front) (sym nf)
          (subst (λ s. Knows s v.admits v.front m.front) (ap (λ (x : View). x.seat) e) t.0),
      subst (IsPrefix w.front) (sym nf) t.1,
      t.2 ∙ ap (λ (x : View). x.head) e,
    )
