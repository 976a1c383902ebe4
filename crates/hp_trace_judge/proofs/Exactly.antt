-- What is said of walks is `Lawful` exactly where they are, and else it is of the first event with which they aren't.
use Rattle.std.proofs.Common.{◌≡◌, ◌<◌, ℕ, zero, suc, ◌+◌, List, [], ◌∷◌, ◌++◌, take, length, slice_get, Option, Some, None, Result, Ok, Err, refl, sym, ap, subst, ◌∙◌, arith}
use Rattle.hp_trace.specs.declared.event.Event.{Event}
use Rattle.hp_trace.specs.declared.event.Said.{Said}
use Rattle.hp_trace.specs.declared.event.Said.TheVariants as said
use Rattle.hp_trace.specs.Said.{said_of}
use Rattle.hp_trace_walk.specs.declared.walk.Borders.{Borders}
use Rattle.hp_trace_walk.specs.declared.walk.Wrong.TheVariants.{Shows}
use Rattle.hp_trace_walk.specs.Tables.{Kept, fresh}
use Rattle.hp_trace_walk.specs.Answered.{Asking, States, AnswersTrace, kept_behind, TablesAreExact}
use Rattle.hp_trace_judge.specs.declared.place.Place.{Place}
use Rattle.hp_trace_judge.specs.declared.place.Turn.{Turn}
use Rattle.hp_trace_judge.specs.declared.place.Halt.{Halt}
use Rattle.hp_trace_judge.specs.declared.place.Halt.TheVariants as halt
use Rattle.hp_trace_judge.specs.declared.walks.Walks.{Walks}
use Rattle.hp_trace_judge.specs.declared.walks.Walks.TheVariants.{Lawful}
use Rattle.hp_trace_judge.specs.Turns.{misfit}
use Rattle.hp_trace_judge.specs.Events.{turn_of}
use Rattle.hp_trace_judge.specs.Walks.{nowhere, applied, fit, place_after, table_after, place_behind, table_behind, halted, by_place, walks_from}
use Rattle.hp_trace_judge.specs.Lawful.{asking_of, AskedTurn, AskedLine, AskedLines, AreLawful, IsSaidOf, IsFirstUnlawful, AreExact}

-- ---- lines from a place on, with what is known of the table there

record Goes (b : Borders) (p : Place) (k : Kept) (line : ℕ) (lines : List (List ℕ)) : Type 0 where
  asking : List Asking
  last : Place
  asked : AskedLines b p line lines asking last
  no_shut : (kept_behind b k asking).shut ≡ None

record Halts (b : Borders) (p : Place) (k : Kept) (line : ℕ) (lines : List (List ℕ)) (verdict : Walks) : Type 0 where
  before : ℕ
  inside : before < length lines
  goes : Goes b p k line (take before lines)
  no_more : Goes b p k line (take (suc before) lines) → ⊥
  text : List ℕ
  is_text : slice_get lines before ≡ Some text
  event : Event
  is_event : said_of text ≡ said.Event event
  is_said : IsSaidOf (turn_of b goes.last (line + before) event) (line + before) verdict

data Judged (b : Borders) (p : Place) (k : Kept) (line : ℕ) (lines : List (List ℕ)) (verdict : Walks) : Type 0 where
  well : verdict ≡ Lawful → Goes b p k line lines → Judged b p k line lines verdict
  not_well : Halts b p k line lines verdict → Judged b p k line lines verdict

abbrev Turned : Type 0
Turned = Result Turn Halt

ok_same : (x y : Turn) (r : Turned) → r ≡ Ok x → r ≡ Ok y → x ≡ y
ok_same x y r one two = cc

err_same : (x y : Halt) (r : Turned) → r ≡ Err x → r ≡ Err y → x ≡ y
err_same x y r one two = cc

-- ---- a line more before them

goes_event : (b : Borders) (p : Place) (k : Kept) (line : ℕ) (l : List ℕ) (ls : List (List ℕ)) (e : Event) (t : Turn) →
    said_of l ≡ said.Event e → turn_of b p line e ≡ Ok t → Goes b t.place (applied b t k) (line + 1) ls → Goes b p k line (l ∷ ls)
goes_event b p k line l ls e t is does g = record {
  asking = asking_of t ∷ g.asking;
  last = g.last;
  asked =
      subst
      (λ s. AskedLine b p line s (λ next behind. AskedLines b next (line + 1) ls behind g.last) (asking_of t ∷ g.asking))
      (sym is)
      (record { does = t; is_turn = does; behind = g.asking; asks = refl; more = g.asked });
  no_shut = g.no_shut;
}

record Alike (b : Borders) (p : Place) (line : ℕ) (s : Said) : Type 1 where
  put : (More : Place → List Asking → Type 0) (asking : List Asking) → More p asking → AskedLine b p line s More asking
  get : (More : Place → List Asking → Type 0) (asking : List Asking) → AskedLine b p line s More asking → More p asking

goes_other : (b : Borders) (p : Place) (k : Kept) (line : ℕ) (l : List ℕ) (ls : List (List ℕ)) (s : Said) →
    said_of l ≡ s → Alike b p line s → Goes b p k (line + 1) ls → Goes b p k line (l ∷ ls)
goes_other b p k line l ls s is a g = record {
  asking = g.asking;
  last = g.last;
  asked =
      subst
      (λ s. AskedLine b p line s (λ next behind. AskedLines b next (line + 1) ls behind g.last) g.asking)
      (sym is)
      (a.put (λ next behind. AskedLines b next (line + 1) ls behind g.last) g.asking g.asked);
  no_shut = g.no_shut;
}

-- ---- and a line less

rest_event : (b : Borders) (p : Place) (k : Kept) (line : ℕ) (l : List ℕ) (ls : List (List ℕ)) (e : Event) (t : Turn) →
    said_of l ≡ said.Event e → turn_of b p line e ≡ Ok t → Goes b p k line (l ∷ ls) → Goes b t.place (applied b t k) (line + 1) ls
rest_event b p k line l ls e t is does g =
    go
    (subst
    (λ s. AskedLine b p line s (λ next behind. AskedLines b next (line + 1) ls behind g.last) g.asking)
    is
    g.asked)
  where
    go : AskedTurn (turn_of b p line e) (λ next behind. AskedLines b next (line + 1) ls behind g.last) g.asking →
        Goes b t.place (applied b t k) (line + 1) ls
    go a =
        let same : a.does ≡ t = ok_same a.does t (turn_of b p line e) a.is_turn does in
        let asks : g.asking ≡ asking_of t ∷ a.behind = subst (λ (x : Turn). g.asking ≡ asking_of x ∷ a.behind) same a.asks in
        record {
          asking = a.behind;
          last = g.last;
          asked = subst (λ (x : Turn). AskedLines b x.place (line + 1) ls a.behind g.last) same a.more;
          no_shut = subst (λ (x : List Asking). (kept_behind b k x).shut ≡ None) asks g.no_shut;
        }

rest_other : (b : Borders) (p : Place) (k : Kept) (line : ℕ) (l : List ℕ) (ls : List (List ℕ)) (s : Said) →
    said_of l ≡ s → Alike b p line s → Goes b p k line (l ∷ ls) → Goes b p k (line + 1) ls
rest_other b p k line l ls s is a g = record {
  asking = g.asking;
  last = g.last;
  asked =
      a.get
      (λ next behind. AskedLines b next (line + 1) ls behind g.last)
      g.asking
      (subst
      (λ s. AskedLine b p line s (λ next behind. AskedLines b next (line + 1) ls behind g.last) g.asking)
      is
      g.asked);
  no_shut = g.no_shut;
}

-- ---- what is said, line after line

no_lines : (b : Borders) (p : Place) (k : Kept) (line : ℕ) → k.shut ≡ None → Goes b p k line []
no_lines b p k line h = record { asking = []; last = p; asked = (refl, refl); no_shut = h }

later : (b : Borders) (p next : Place) (k then : Kept) (line : ℕ) (l : List ℕ) (ls : List (List ℕ)) (verdict : Walks) →
    (put : (xs : List (List ℕ)) → Goes b next then (line + 1) xs → Goes b p k line (l ∷ xs)) →
    ((xs : List (List ℕ)) (g : Goes b next then (line + 1) xs) → (put xs g).last ≡ g.last) →
    ((xs : List (List ℕ)) → Goes b p k line (l ∷ xs) → Goes b next then (line + 1) xs) →
    Judged b next then (line + 1) ls verdict → Judged b p k line (l ∷ ls) verdict
later b p next k then line l ls verdict put same get (well e g) = well e (put ls g)
later b p next k then line l ls verdict put same get (not_well h) =
    let one : (line + 1) + h.before ≡ line + suc h.before = omega arith in
    let inside = h.inside in
    not_well (record {
      before = suc h.before;
      inside = omega (arith, inside);
      goes = put (take h.before ls) h.goes;
      no_more = λ g. h.no_more (get (take (suc h.before) ls) g);
      text = h.text;
      is_text = h.is_text;
      event = h.event;
      is_event = h.is_event;
      is_said =
          subst
          (λ (x : Place). IsSaidOf (turn_of b x (line + suc h.before) h.event) (line + suc h.before) verdict)
          (sym (same (take h.before ls) h.goes))
          (subst (λ n. IsSaidOf (turn_of b h.goes.last n h.event) n verdict) one h.is_said);
    })

judged : (b : Borders) (p : Place) (k : Kept) (line : ℕ) (lines : List (List ℕ)) → k.shut ≡ None →
    Judged b p k line lines (walks_from b p k line lines)
unfolding goes_other goes_event no_lines
judged b p k line [] h = well refl (no_lines b p k line h)
judged b p k line (l ∷ ls) h = go (λ next then none. judged b next then (line + 1) ls none) (said_of l) refl
  where
    Later : Type 0
    Later = (next : Place) (then : Kept) → then.shut ≡ None → Judged b next then (line + 1) ls (walks_from b next then (line + 1) ls)

    Here : Result Place Halt → Kept → Type 0
    Here r then = Judged b p k line (l ∷ ls) (by_place line r (λ next. walks_from b next then (line + 1) ls))

    other : Later → (s : Said) → said_of l ≡ s → Alike b p line s → Here (Ok p) k
    other more s is a =
        later b p p k k line l ls (walks_from b p k (line + 1) ls) (λ xs g. goes_other b p k line l xs s is a g) (λ xs g. refl)
        (λ xs g. rest_other b p k line l xs s is a g) (more p k h)

    table : Later → (e : Event) (t : Turn) → said_of l ≡ said.Event e → turn_of b p line e ≡ Ok t → (o : Option ℕ) → (applied b t k).shut ≡ o →
        Here (fit t o) (applied b t k)
    table more e t is does None no_shut =
        later b p t.place k (applied b t k) line l ls (walks_from b t.place (applied b t k) (line + 1) ls)
        (λ xs g. goes_event b p k line l xs e t is does g) (λ xs g. refl) (λ xs g. rest_event b p k line l xs e t is does g)
        (more t.place (applied b t k) no_shut)
    table more e t is does (Some state) shut =
        not_well (record {
          before = 0;
          inside = omega arith;
          goes = no_lines b p k line h;
          no_more = λ g. closed (rest_event b p k line l [] e t is does g);
          text = l;
          is_text = refl;
          event = e;
          is_event = is;
          is_said = subst (λ n. IsSaidOf (turn_of b p n e) n (halted line (misfit t.named (Shows state)))) zero_more named;
        })
      where
        zero_more : line ≡ line + 0
        zero_more = omega arith

        closed : Goes b t.place (applied b t k) (line + 1) [] → ⊥
        closed g =
            let none : (applied b t k).shut ≡ None =
            subst (λ (x : List Asking). (kept_behind b (applied b t k) x).shut ≡ None) g.asked.0 g.no_shut in
            let both = sym shut ∙ none in
            absurd cc

        named : IsSaidOf (turn_of b p line e) line (halted line (misfit t.named (Shows state)))
        named = record {
          no_turn = λ x is_err. let both = sym does ∙ is_err in absurd cc;
          no_table = λ x is_ok.
              let same : t ≡ x = ok_same t x (turn_of b p line e) does is_ok in
              (state, ap (λ (y : Turn). halted line (misfit y.named (Shows state))) same);
        }

    turned : Later → (e : Event) → said_of l ≡ said.Event e → (r : Result Turn Halt) → turn_of b p line e ≡ r →
        Here (place_after b r k) (table_after b r k)
    turned more e is (Ok t) does = table more e t is does (applied b t k).shut refl
    turned more e is (Err why) does =
        not_well (record {
          before = 0;
          inside = omega arith;
          goes = no_lines b p k line h;
          no_more = no_more;
          text = l;
          is_text = refl;
          event = e;
          is_event = is;
          is_said = subst (λ n. IsSaidOf (turn_of b p n e) n (halted line why)) zero_more named;
        })
      where
        zero_more : line ≡ line + 0
        zero_more = omega arith

        no_more : Goes b p k line (l ∷ []) → ⊥
        no_more g =
            let a =
            subst
            (λ s. AskedLine b p line s (λ next behind. AskedLines b next (line + 1) [] behind g.last) g.asking)
            is
            g.asked in
            let both = sym does ∙ a.is_turn in
            absurd cc

        named : IsSaidOf (turn_of b p line e) line (halted line why)
        named = record {
          no_turn = λ x is_err. ap (λ (y : Halt). halted line y) (err_same why x (turn_of b p line e) does is_err);
          no_table = λ x is_ok. let both = sym does ∙ is_ok in absurd cc;
        }

    go : Later → (s : Said) → said_of l ≡ s → Here (place_behind b p line s k) (table_behind b p line s k)
    go more (said.Event e) is = turned more e is (turn_of b p line e) refl
    go more said.NoForm is = other more said.NoForm is (record { put = λ More asking m. m; get = λ More asking m. m })
    go more said.Lost is = other more said.Lost is (record { put = λ More asking m. m; get = λ More asking m. m })
    go more said.Other is = other more said.Other is (record { put = λ More asking m. m; get = λ More asking m. m })

-- ---- a front of lawful lines

answers_front : (b : Borders) (t : States) (xs ys : List Asking) → AnswersTrace b t (xs ++ ys) → AnswersTrace b t xs
answers_front b t [] ys a = tt
answers_front b t (x ∷ xs) ys a = record {
  closed = a.closed;
  next = a.next;
  can_be = a.can_be;
  behind = a.behind;
  asked = a.asked;
  more = answers_front b a.next xs ys a.more;
}

record Front (b : Borders) (p : Place) (line : ℕ) (lines : List (List ℕ)) (asking : List Asking) : Type 0 where
  front : List Asking
  others : List Asking
  is_front : asking ≡ front ++ others
  last : Place
  asked : AskedLines b p line lines front last

front_of : (b : Borders) (p : Place) (line : ℕ) (lines : List (List ℕ)) (n : ℕ) (asking : List Asking) (last : Place) →
    AskedLines b p line lines asking last → Front b p line (take n lines) asking
front_of b p line lines zero asking last a = record { front = []; others = asking; is_front = refl; last = p; asked = (refl, refl) }
front_of b p line [] (suc n) asking last a = record { front = []; others = asking; is_front = refl; last = p; asked = (refl, refl) }
front_of b p line (l ∷ ls) (suc n) asking last a =
    go (λ next asks asked. front_of b next (line + 1) ls n asks last asked) (said_of l) refl a
  where
    Later : Type 0
    Later = (next : Place) (asks : List Asking) → AskedLines b next (line + 1) ls asks last → Front b next (line + 1) (take n ls) asks

    other : (s : Said) → said_of l ≡ s → Alike b p line s → Front b p (line + 1) (take n ls) asking → Front b p line (l ∷ take n ls) asking
    other s is k f = record {
      front = f.front;
      others = f.others;
      is_front = f.is_front;
      last = f.last;
      asked =
          subst
          (λ s. AskedLine b p line s (λ next behind. AskedLines b next (line + 1) (take n ls) behind f.last) f.front)
          (sym is)
          (k.put (λ next behind. AskedLines b next (line + 1) (take n ls) behind f.last) f.front f.asked);
    }

    go : Later → (s : Said) → said_of l ≡ s → AskedLine b p line s (λ next behind. AskedLines b next (line + 1) ls behind last) asking →
        Front b p line (l ∷ take n ls) asking
    go more (said.Event e) is x =
        let f = more x.does.place x.behind x.more in
        record {
          front = asking_of x.does ∷ f.front;
          others = f.others;
          is_front = x.asks ∙ ap (λ (v : List Asking). asking_of x.does ∷ v) f.is_front;
          last = f.last;
          asked =
              subst
              (λ s. AskedLine b p line s (λ next behind. AskedLines b next (line + 1) (take n ls) behind f.last)
              (asking_of x.does ∷ f.front))
              (sym is)
              (record { does = x.does; is_turn = x.is_turn; behind = f.front; asks = refl; more = f.asked });
        }
    go more said.NoForm is x =
        other said.NoForm is (record { put = λ More asking m. m; get = λ More asking m. m }) (more p asking x)
    go more said.Lost is x =
        other said.Lost is (record { put = λ More asking m. m; get = λ More asking m. m }) (more p asking x)
    go more said.Other is x =
        other said.Other is (record { put = λ More asking m. m; get = λ More asking m. m }) (more p asking x)

front_lawful : (b : Borders) (lines : List (List ℕ)) (n : ℕ) → AreLawful b lines → AreLawful b (take n lines)
front_lawful b lines n a =
    let f = front_of b nowhere 1 lines n a.asking a.last a.asked in
    let answers = subst (λ (x : List Asking). AnswersTrace b a.has_table.table x) f.is_front a.has_table.answers in
    record {
      asking = f.front;
      last = f.last;
      asked = f.asked;
      has_table = record {
        table = a.has_table.table;
        can_be = a.has_table.can_be;
        answers = answers_front b a.has_table.table f.front f.others answers;
      };
    }

-- ---- the law

lawful_by : TablesAreExact → (b : Borders) (lines : List (List ℕ)) → Goes b nowhere fresh 1 lines → AreLawful b lines
lawful_by tables b lines g =
    record { asking = g.asking; last = g.last; asked = g.asked; has_table = (tables b g.asking).1 g.no_shut }

goes_by : TablesAreExact → (b : Borders) (lines : List (List ℕ)) → AreLawful b lines → Goes b nowhere fresh 1 lines
goes_by tables b lines a =
    record { asking = a.asking; last = a.last; asked = a.asked; no_shut = (tables b a.asking).0 a.has_table }

pub exact : TablesAreExact → (b : Borders) (lines : List (List ℕ)) → AreExact b lines (walks_from b nowhere fresh 1 lines)
unfolding lawful_by
exact tables b lines = go (walks_from b nowhere fresh 1 lines) (judged b nowhere fresh 1 lines refl)
  where
    go : (verdict : Walks) → Judged b nowhere fresh 1 lines verdict → AreExact b lines verdict
    go verdict (well is g) = record { exact = (λ a. is, λ h. lawful_by tables b lines g); first = λ no. absurd (no is) }
    go verdict (not_well h) = record {
      exact = (
        λ a. absurd (h.no_more (goes_by tables b (take (suc h.before) lines) (front_lawful b lines (suc h.before) a))),
        λ is. absurd (not_lawful is),
      );
      first = λ no. first;
    }
      where
        one : h.before + 1 ≡ suc h.before
        one = omega arith

        first : IsFirstUnlawful b lines verdict
        first = record {
          before = h.before;
          inside = h.inside;
          lawful = lawful_by tables b (take h.before lines) h.goes;
          unlawful = λ a.
              h.no_more
              (goes_by tables b (take (suc h.before) lines) (subst (λ n. AreLawful b (take n lines)) one a));
          line = h.text;
          is_line = h.is_text;
          event = h.event;
          is_event = h.is_event;
          is_said = h.is_said;
        }

        not_lawful : verdict ≡ Lawful → ⊥
        not_lawful is = by_turn (turn_of b h.goes.last (1 + h.before) h.event) refl
          where
            halts : (n : ℕ) (why : Halt) → Lawful ≡ halted n why → ⊥
            halts n (halt.Misfit m) e = absurd cc
            halts n halt.Far e = absurd cc

            by_turn : (r : Result Turn Halt) → turn_of b h.goes.last (1 + h.before) h.event ≡ r → ⊥
            by_turn (Err why) e = halts (1 + h.before) why (sym is ∙ h.is_said.no_turn why e)
            by_turn (Ok t) e =
                let says = h.is_said.no_table t e in
                let both = sym is ∙ says.1 in
                absurd cc
