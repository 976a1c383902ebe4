-- The count step keeps the rule: what a section added is told, and no other view is wronged.
use Rattle.std.proofs.Common.{◌≡◌, ◌≢◌, inr, ℕ, ◌+◌, ◌-◌, ◌%◌, ◌^◌, ◌≤◌, true, false, All, List, [], ◌∷◌, ◌++◌, length, get_or, sym, refl, ap, ◌∙◌, subst, ⊎_elim, arith, length-set, get_or-set_other, get_or-set_same, mod-eq_of_lt, Option, Some, None}
use Rattle.std.proofs.lemmas.List.Elements.{All-nil, All-cons, All-weaker}
use Rattle.hp_states.proofs.Basics.{cases_bool, none_some}
use mathlib.Core.Option.{some}
use lib.ListN.{get_elem?}
use Rattle.atomic_table.specs.Table.{State, Me, keeps, Allows}
use Rattle.hp_states.specs.declared.limits.TheConstants.{MAX_EVENTS}
use Rattle.hp_event.specs.declared.aside.Aside.{Aside}
use Rattle.hp_event.specs.declared.head.Head.{Head}
use Rattle.hp_event.specs.declared.event.Role.{Role}
use Rattle.hp_event.specs.declared.event.Event.{Event}
use Rattle.hp_event.specs.declared.event.Event.TheVariants.{Admit}
use Rattle.hp_model.specs.Events.{seat_of}
use Rattle.hp_model.specs.Front.{IsOther}
use Rattle.hp_turn.specs.declared.view.Held.{Held}
use Rattle.hp_turn.specs.declared.view.View.{View}
use Rattle.hp_turn.specs.Asides.{aside_of, seat_aside, KeepsOthers}
use Rattle.hp_turn.specs.Story.{IsNoAdmit, HasAdmit, IsOwn, AdmitsOne, MayAdd, new_seat}
use Rattle.hp_turn.specs.Views.{held_of, after_count}
use Rattle.hp_turn.specs.Turn.{Fits, HasSeat, HasRight, Free, Taken, Kept, counted}
use Rattle.hp_turn.proofs.Prefixes.{prefix_trans, prefix_length}
use Rattle.hp_turn.proofs.Stories.{has_before, has_not, has_last, knows_self, knows_more, knows_prefix, keeps_seat, gets_seat}
use Rattle.hp_turn.proofs.Tables.{set_there, each_set, alone_set, alone_same}
use Rattle.hp_turn.proofs.Holders.{is_holder}

module _ {V : Type 0} (head : V → Head) (story : V → List Event) (aside : V → List (ℕ × Aside)) where
  abbrev St : Type 0
  St = State (Option V) View

  abbrev M : Type 0
  M = Me (Option V) View

  abbrev Rule : St → Type 0
  Rule = Kept head story aside

  -- what the count step owes of the views
  record Counted (s : St) (r : Rule s) (id : ℕ) (v : View) (u : List Event) (qs : List (ℕ × Aside)) : Type 0 where
    mine : Fits r.h u qs (after_count v u qs)
    others : (j : ℕ) (x : View) → j ≢ id → get_elem? s.views j ≡ some x → x.spent ≡ false → Fits r.h u qs x
    seats : (k : ℕ) → HasSeat k (after_count v u qs) → (j : ℕ) (x : View) → j ≢ id → get_elem? s.views j ≡ some x →
        HasSeat k x → ⊥

  -- what is lent to a seat that keeps it
  lent_same : (seat : Option ℕ) (ps qs : List (ℕ × Aside)) →
      ((k : ℕ) → seat ≡ Some k → aside_of k qs ≡ aside_of k ps) → seat_aside seat qs ≡ seat_aside seat ps
  lent_same None ps qs same = refl
  lent_same (Some k) ps qs same = same k refl

  -- another view, where the story grew by events that are none of its seat and, where it has the right, admit nobody
  grown_fits : (h : Head) (t added u : List Event) (ps qs : List (ℕ × Aside)) (x : View) → t ++ added ≡ u → Fits h t ps x →
      All (IsOther x.seat) added → (x.admits ≡ true → All IsNoAdmit added) →
      ((k : ℕ) → x.seat ≡ Some k → aside_of k qs ≡ aside_of k ps) → Fits h u qs x
  grown_fits h t added u ps qs x grows f others admitted same = record {
    aside = f.aside ∙ sym (lent_same x.seat ps qs same);
    alike = f.alike;
    knows = knows_more x.seat x.admits x.front t added u f.knows grows others admitted;
    admitted = f.admitted;
    heard = λ y e. let old = f.heard y e in record {
      alike = old.alike;
      one = knows_more x.seat y.had y.one t added u old.one grows others (λ yes. admitted (old.right yes));
      two = prefix_trans y.two t u old.two (added, grows);
      front_is = old.front_is;
      right = old.right;
    };
  }

  counted_own : (s : St) (r : Rule s) (id : ℕ) (v : View) (added u : List Event) (qs : List (ℕ × Aside)) →
      KeepsOthers (new_seat v.seat v.held u) r.pairs qs → get_elem? s.views id ≡ some v → v.spent ≡ false → v.heard ≡ None →
      v.held ≡ Some (held_of r.told r.pairs) → r.told ++ added ≡ u → All (IsOwn v.seat) added → Counted s r id v u qs
  counted_own s r id v added u qs keep at live quiet holds grows own = let fits = r.each id v at live in
      let same : new_seat v.seat v.held u ≡ v.seat = ap
      (λ o. new_seat v.seat o u) holds ∙ keeps_seat v.seat (held_of r.told r.pairs) added u grows own in record {
        mine = record {
          aside = refl;
          alike = fits.alike;
          knows = knows_self (new_seat v.seat v.held u) v.admits u;
          admitted = λ k is. has_before k v.front u
              (prefix_trans v.front r.told u (knows_prefix v.seat v.admits v.front r.told fits.knows) (added, grows))
              (fits.admitted k (sym same ∙ is));
          heard = λ y e. absurd (none_some y (sym quiet ∙ e));
        };
        others = λ j x ne at_j awake. grown_fits r.h r.told added u r.pairs qs x grows (r.each j x at_j awake)
            (All-weaker (IsOwn v.seat) (IsOther x.seat)
            (λ e (mine : IsOwn v.seat e) k is back. ne
            (r.one_seat k j id x v at_j at is (mine.0 ∙ ap Some back))) added own)
            (λ _. All-weaker (IsOwn v.seat) IsNoAdmit (λ e (mine : IsOwn v.seat e). mine.1) added own)
            (λ k has. keep k (λ own_k. ne (r.one_seat k j id x v at_j at has (sym same ∙ own_k))));
        seats = λ k is j x ne at_j has. ne (r.one_seat k j id x v at_j at has (sym same ∙ is));
      }

  counted_admit : (s : St) (r : Rule s) (id : ℕ) (v : View) (n : ℕ) (role : Role) (u : List Event)
      (qs : List (ℕ × Aside)) → KeepsOthers (new_seat v.seat v.held u) r.pairs qs → get_elem? s.views id ≡ some v →
      v.spent ≡ false → v.heard ≡ None → v.held ≡ Some (held_of r.told r.pairs) → r.told ++ Admit n role ∷ [] ≡ u → v.admits ≡ true
      → All (λ e. seat_of e ≢ n) r.told → Counted s r id v u qs
  counted_admit s r id v n role u qs keep at live quiet holds grows right absent = let fits = r.each id v at live in
      let same : new_seat v.seat v.held u ≡ Some n = ap
      (λ o. new_seat v.seat o u) holds ∙ gets_seat v.seat n role (held_of r.told r.pairs) u grows in
      let nobody : (j : ℕ) (x : View) → get_elem? s.views j ≡ some x → x.spent ≡ false → x.seat ≡ Some n → ⊥ = λ j x at_j awake is. let f = r.each j x at_j awake in
      has_not n r.told (has_before n x.front r.told (knows_prefix x.seat x.admits x.front r.told f.knows)
      (f.admitted n is)) absent in record {
        mine = record {
          aside = refl;
          alike = fits.alike;
          knows = knows_self (new_seat v.seat v.held u) v.admits u;
          admitted = λ k is. let e : Some n ≡ Some k = sym same ∙ is in let is_n : n ≡ k = cc e in subst
              (λ z. HasAdmit z u) is_n (subst (HasAdmit n) grows (has_last n role r.told));
          heard = λ y e. absurd (none_some y (sym quiet ∙ e));
        };
        others = λ j x ne at_j awake. grown_fits r.h r.told (Admit n role ∷ []) u r.pairs qs x grows (r.each j x at_j awake)
            (All-cons (IsOther x.seat) (Admit n role) [] (λ k is back. nobody j x at_j awake (is ∙ ap Some (sym back)))
            (All-nil (IsOther x.seat)))
            (λ has. absurd (ne (r.one_right j id x v at_j at has right)))
            (λ k has. keep k (λ own_k. let e : Some n ≡ Some k = sym same ∙ own_k in let is_n : n ≡ k = cc e in
            nobody j x at_j awake (has ∙ ap Some (sym is_n))));
        seats = λ k is j x ne at_j has. let e : Some n ≡ Some k = sym same ∙ is in let is_n : n ≡ k = cc e in
            ⊎_elim (λ gone. none_some k (sym (r.spent_idle j x at_j gone) ∙ has))
            (λ awake. nobody j x at_j awake (has ∙ ap Some (sym is_n))) (cases_bool x.spent);
      }

  counted_views : (s : St) (r : Rule s) (id : ℕ) (v : View) (t : Held) (added u : List Event) (qs : List (ℕ × Aside)) →
      KeepsOthers (new_seat v.seat v.held u) t.pairs qs → get_elem? s.views id ≡ some v → v.spent ≡ false → v.heard ≡ None →
      v.held ≡ Some t → r.told ≡ t.story → r.pairs ≡ t.pairs → t.story ++ added ≡ u → MayAdd v.seat v.admits t.story added →
      Counted s r id v u qs
  counted_views s r id v t added u qs keep at live quiet holds same lent grows may = let here : t.story ≡ r.told = sym same in
      let kept = subst (λ (ps : List (ℕ × Aside)). KeepsOthers (new_seat v.seat v.held u) ps qs) (sym lent) keep in
      let held : v.held ≡ Some (held_of r.told r.pairs) = holds ∙
      ap Some (ap (λ (z : List Event). held_of z t.pairs) here ∙ ap (held_of r.told) (sym lent)) in ⊎_elim
      (λ own. counted_own s r id v added u qs kept at live quiet held
      (ap (λ (w : List Event). w ++ added) same ∙ grows) own)
      (λ (a : AdmitsOne v.seat v.admits t.story added). counted_admit s r id v a.new a.role u qs kept at live quiet held
      (ap (λ (w : List Event). w ++ Admit a.new a.role ∷ []) same ∙
      (ap (λ (w : List Event). t.story ++ w) (sym a.is_one) ∙ grows)) a.has_right
      (subst (All (λ e. seat_of e ≢ a.new)) here a.is_new))
      may

  pub counts : (n id : ℕ) (m : M) (x : V) (t : Held) (added : List Event) (k : ℕ) → m.0.spent ≡ false → m.0.heard ≡ None →
      m.0.held ≡ Some t → m.1 ≡ (0, Some x) ∷ [] → t.story ++ added ≡ story x → MayAdd m.0.seat m.0.admits t.story added
      → KeepsOthers (new_seat m.0.seat m.0.held (story x)) t.pairs (aside x)
      → k ≡ length (story x) - length t.story → length (story x) ≤ MAX_EVENTS → Allows Rule n id m 1 (λ c. (c + k) % 2 ^ 64)
      (λ _ w. counted head story aside m w)
  counts n id m x t added k live quiet holds carries grows may keep more room s r wide at _ = ⊎_elim
      (λ (f : Free head story aside r.h r.told r.pairs s). absurd (none_some t (sym (f.nobody id m.0 at) ∙ holds)))
      (λ (taken : Taken head story aside r.told r.pairs s). let mine = is_holder head story aside r.told r.pairs t s taken id m.0 at holds in
      let u : List Event = story x in
      let qs : List (ℕ × Aside) = aside x in
      let w : View = after_count m.0 u qs in
      let c : ℕ = get_or s.words 1 0 in
      let longest : length t.story ≤ length u = prefix_length t.story u (added, grows) in
      let now : c ≡ length t.story = r.count ∙ ap length mine.1 in
      let all : c + k ≡ length u = omega arith in
      let sum : (c + k) % 2 ^ 64 ≡ length u = ap (λ (z : ℕ). z % 2 ^ 64) all ∙ mod-eq_of_lt (omega arith) in
      let views = counted_views s r id m.0 t added u qs keep at live quiet holds mine.1 mine.2 grows may in (
        w,
        keeps,
        tt,
        record {
          h = r.h;
          told = u;
          pairs = qs;
          room = room;
          words = length-set s.words 1 ((c + k) % 2 ^ 64) ∙ r.words;
          count = get_or-set_same s.words 1 ((c + k) % 2 ^ 64) 0 (let l = r.words in omega arith) ∙ sum;
          each = each_set (λ _ v. v.spent ≡ false → Fits r.h u qs v) s.views id w (λ _. views.mine)
              (λ j v ne e awake. views.others j v ne e awake);
          spent_idle = each_set (λ _ v. v.spent ≡ true → v.seat ≡ None) s.views id w (λ e. absurd (cc e))
              (λ j v _ e. r.spent_idle j v e);
          one_seat = λ q. alone_set (HasSeat q) s.views id w (r.one_seat q) (views.seats q);
          one_right = alone_same HasRight s.views id m.0 w r.one_right at (λ e. e);
          lock = inr record {
            held = get_or-set_other s.words 1 0 ((c + k) % 2 ^ 64) 0 (λ e. omega arith) ∙ taken.held;
            holder = id;
            holding = w;
            there = set_there s.views id m.0 w at;
            keeps = refl;
            others = each_set (λ j v. j ≢ id → v.held ≡ None) s.views id w (λ ne. absurd (ne refl))
                (λ j v _ e ne. taken.others j v e (λ same. ne (same ∙ mine.0)));
          };
        },
        subst (λ (cs : List (ℕ × Option V)). counted head story aside (m.0, cs) (w, cs)) (sym carries) refl,
      ))
      r.lock
