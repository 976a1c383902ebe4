-- Where no state is shut, there is a table that answers all that was asked.
use Rattle.std.proofs.Common.{◌≡◌, ◌⊎◌, inl, inr, ℕ, Bool, true, false, cond, eqb, ltb, Option, Some, None, List, [], ◌∷◌, length, slice_get, refl, ap, sym, subst, ◌∙◌, arith, true≢false}
use Rattle.std.proofs.lemmas.Bool.{eqb-true, eq-eqb}
use Rattle.std.proofs.lemmas.List.{length-set, length-replicate}
use Rattle.hp_trace_walk.specs.declared.ask.TheConstants.{MOST_STATES}
use Rattle.hp_trace_walk.specs.declared.table.Known.{Known}
use Rattle.hp_trace_walk.specs.declared.walk.Borders.{Borders}
use Rattle.hp_trace_walk.specs.Tables.{Kept, unknown, fresh, set_at, asked_all, forgotten}
use Rattle.hp_trace_walk.specs.Entries.{Entry, CanBe}
use Rattle.hp_trace_walk.specs.Answered.{Asking, States, CanBeTable, IsTableBehind, AnswersTrace, HasTable, kept_by, kept_behind}
use Rattle.hp_trace_walk.proofs.EntryLaws.{Fits, found}
use Rattle.hp_trace_walk.proofs.PlaceLaws.{set_then, then_set, replicated}
use Rattle.hp_trace_walk.proofs.TableHolds.{IsFit}
use Rattle.hp_trace_walk.proofs.TableBack.{IsWell, AreWell, back_all}

-- ---- an entry of each state

record Picked (k : Kept) (s : ℕ) : Type 0 where
  entry : Entry
  can_be : CanBe entry
  fits : (x : Known) → slice_get k.known s ≡ Some x → Fits x entry

picked : (k : Kept) → AreWell k → (s : ℕ) → Picked k s
picked k w s = go (slice_get k.known s) refl
  where
    go : (o : Option Known) → slice_get k.known s ≡ o → Picked k s
    go None e = record {
      entry = record { up = 0; down = 0 };
      can_be = record { same = inl refl; few_up = omega arith; few_down = omega arith };
      fits = λ x h. absurd cc;
    }
    go (Some x) e =
        let well = w.each s x e in
        let f = found x well.open_is in
        let up = f.fits.most_up in
        let down = f.fits.most_down in
        let few_up = well.few_up in
        let few_down = well.few_down in
        record {
          entry = f.entry;
          can_be = record { same = f.same; few_up = omega (arith, up, few_up); few_down = omega (arith, down, few_down) };
          fits = λ y h. subst (λ v. Fits v f.entry) (same_known x y (sym e ∙ h)) f.fits;
        }
      where
        same_known : (x y : Known) → Some x ≡ Some y → x ≡ y
        same_known x y h = cc

-- ---- a registration

record Before (k : Kept) (f : Option ℕ) (n : States) : Type 0 where
  table : States
  can_be : CanBeTable table
  fit : IsFit k table
  behind : IsTableBehind f table n

abbrev at_state : (state : ℕ) → Entry → States → States
at_state r e n u = cond (eqb u r) e (n u)

well_unknown : IsWell unknown
well_unknown = record { open_is = refl; few_up = omega arith; few_down = omega arith }

well_forgotten : (f : Option ℕ) (k : Kept) → AreWell k → AreWell (forgotten f k)
well_forgotten None k w = w
well_forgotten (Some r) k w = go (ltb r (length k.known))
  where
    each : (u : ℕ) (x : Known) → ((r ≡ u) × (unknown ≡ x)) ⊎ (slice_get k.known u ≡ Some x) → IsWell x
    each u x (inl p) = subst (λ v. IsWell v) p.1 well_unknown
    each u x (inr e) = w.each u x e

    go : (o : Bool) → AreWell (cond o (record { known = (set_at r unknown k).known; shut = k.shut }) k)
    go true = record { each = λ u x e. each u x (set_then k.known r u unknown x e) }
    go false = w

shut_forgotten : (f : Option ℕ) (k : Kept) → (forgotten f k).shut ≡ None → k.shut ≡ None
shut_forgotten None k h = h
shut_forgotten (Some r) k h = go (ltb r (length k.known)) h
  where
    go : (o : Bool) → (cond o (record { known = (set_at r unknown k).known; shut = k.shut }) k).shut ≡ None → k.shut ≡ None
    go true h = h
    go false h = h

places_forgotten : (f : Option ℕ) (k : Kept) → length (forgotten f k).known ≡ length k.known
places_forgotten None k = refl
places_forgotten (Some r) k = go (ltb r (length k.known))
  where
    go : (o : Bool) → length (cond o (record { known = (set_at r unknown k).known; shut = k.shut }) k).known ≡ length k.known
    go true = length-set k.known r unknown
    go false = refl

before : (f : Option ℕ) (k : Kept) (n : States) → AreWell k → CanBeTable n → IsFit (forgotten f k) n → Before k f n
before None k n w can fit = record { table = n; can_be = can; fit = fit; behind = λ u. inr refl }
before (Some r) k n w can fit = go (ltb r (length k.known)) fit
  where
    pick : Picked k r
    pick = picked k w r

    mine : States
    mine = at_state r pick.entry n

    can_at : (u : ℕ) → (o : Bool) → CanBe (cond o pick.entry (n u))
    can_at u true = pick.can_be
    can_at u false = can u

    behind_at : (u : ℕ) → (o : Bool) → eqb u r ≡ o → (Some r ≡ Some u) ⊎ (n u ≡ cond o pick.entry (n u))
    behind_at u true e = inl (ap Some (sym (eqb-true u r e)))
    behind_at u false e = inr refl

    fit_at : (u : ℕ) (x : Known) → slice_get k.known u ≡ Some x → IsFit (set_at r unknown k) n → (o : Bool) → eqb u r ≡ o →
        ((r ≡ u) × (slice_get (set_at r unknown k).known u ≡ Some unknown)) ⊎ (slice_get (set_at r unknown k).known u ≡ Some x) →
        Fits x (cond o pick.entry (n u))
    fit_at u x e f true o there = pick.fits x (subst (λ v. slice_get k.known v ≡ Some x) (eqb-true u r o) e)
    fit_at u x e f false o (inl p) = absurd (true≢false (sym (eq-eqb u r (sym p.0)) ∙ o))
    fit_at u x e f false o (inr g) = f.each u x g

    go : (o : Bool) → IsFit (cond o (record { known = (set_at r unknown k).known; shut = k.shut }) k) n → Before k (Some r) n
    go true f = record {
      table = mine;
      can_be = λ u. can_at u (eqb u r);
      fit = record {
        each = λ u x e. fit_at u x e (record { each = f.each }) (eqb u r) refl (then_set k.known r u unknown x e);
      };
      behind = λ u. behind_at u (eqb u r) refl;
    }
    go false f = record { table = n; can_be = can; fit = f; behind = λ u. inr refl }

-- ---- event after event

shut_before : (b : Borders) (asking : List Asking) (k : Kept) → length k.known ≡ MOST_STATES →
    (kept_behind b k asking).shut ≡ None → k.shut ≡ None
shut_before b [] k n h = h
shut_before b (a ∷ asking) k n h =
    let one = back_all b a.closed k n in
    let k1 = asked_all b a.closed k in
    let n1 = one.places ∙ n in
    let k2 = forgotten a.registers k1 in
    let n2 = places_forgotten a.registers k1 ∙ n1 in
    let two = back_all b a.asked k2 n2 in
    let n3 = two.places ∙ n2 in
    one.shut (shut_forgotten a.registers k1 (two.shut (shut_before b asking (kept_by b a k) n3 h)))

record Built (b : Borders) (k : Kept) (asking : List Asking) : Type 0 where
  table : States
  can_be : CanBeTable table
  fit : IsFit k table
  answers : AnswersTrace b table asking

built : (b : Borders) (asking : List Asking) (k : Kept) → length k.known ≡ MOST_STATES → AreWell k →
    (kept_behind b k asking).shut ≡ None → Built b k asking
built b [] k n w h = record {
  table = λ s. (picked k w s).entry;
  can_be = λ s. (picked k w s).can_be;
  fit = record { each = λ s x e. (picked k w s).fits x e };
  answers = tt;
}
built b (a ∷ asking) k n w h =
    let one = back_all b a.closed k n in
    let k1 = asked_all b a.closed k in
    let n1 = one.places ∙ n in
    let k2 = forgotten a.registers k1 in
    let n2 = places_forgotten a.registers k1 ∙ n1 in
    let two = back_all b a.asked k2 n2 in
    let n3 = two.places ∙ n2 in
    let h3 = shut_before b asking (kept_by b a k) n3 h in
    let h2 = two.shut h3 in
    let w1 = one.well (shut_forgotten a.registers k1 h2) w in
    let w2 = well_forgotten a.registers k1 w1 in
    let rest = built b asking (kept_by b a k) n3 (two.well h3 w2) h in
    let asked_so = two.fit rest.table rest.fit in
    let here = before a.registers k1 rest.table w1 rest.can_be asked_so.0 in
    let closed_so = one.fit here.table here.fit in
    record {
      table = here.table;
      can_be = here.can_be;
      fit = closed_so.0;
      answers = record {
        closed = closed_so.1;
        next = rest.table;
        can_be = rest.can_be;
        behind = here.behind;
        asked = asked_so.1;
        more = rest.answers;
      };
    }

pub table_is_there : (b : Borders) (asking : List Asking) → (kept_behind b fresh asking).shut ≡ None → HasTable b asking
table_is_there b asking h =
    let start : AreWell fresh =
    record { each = λ s x e. subst (λ v. IsWell v) (replicated MOST_STATES s unknown x e) well_unknown } in
    let it = built b asking fresh (length-replicate MOST_STATES unknown) start h in
    record { table = it.table; can_be = it.can_be; answers = it.answers }
