-- Where a table answers all that is asked, no state is shut.
use Rattle.std.proofs.Common.{◌≡◌, ◌≤◌, ◌<◌, ◌⊎◌, inl, inr, ℕ, zero, suc, ◌+◌, ◌-◌, Bool, true, false, not, cond, ltb, Option, Some, None, List, [], ◌∷◌, length, slice_get, refl, ap, sym, subst, ◌∙◌, arith}
use Rattle.std.proofs.lemmas.Bool.{leb-false}
use Rattle.std.proofs.lemmas.List.{length-set, length-replicate}
use Rattle.std.proofs.lemmas.Option.{slice_get_within}
use Rattle.hp_trace_walk.specs.declared.ask.Ask.{Ask}
use Rattle.hp_trace_walk.specs.declared.ask.Asks.{Asks}
use Rattle.hp_trace_walk.specs.declared.ask.TheConstants.{MOST_STATES}
use Rattle.hp_trace_walk.specs.declared.table.Known.{Known}
use Rattle.hp_trace_walk.specs.declared.walk.Borders.{Borders}
use Rattle.hp_trace_walk.specs.Walks.{is_starting}
use Rattle.hp_trace_walk.specs.Tables.{Kept, unknown, with_ask, fresh, set_at, asked_at, asked_one, asked_if, asked_from, asked, asked_all, forgotten}
use Rattle.hp_trace_walk.specs.Entries.{Entry, CanBe, IsWithin}
use Rattle.hp_trace_walk.specs.Answered.{Asking, States, CanBeTable, calls_of, Answers, AnswersEach, IsTableBehind, AnswersTrace, kept_by, kept_behind}
use Rattle.hp_trace_walk.proofs.EntryLaws.{Fits, fits_more, is_open_by}
use Rattle.hp_trace_walk.proofs.PlaceLaws.{set_then, set_same, replicated}

-- a table fits what is known of each state
pub record IsFit (k : Kept) (t : States) : Type 0 where
  pub each : (s : ℕ) (x : Known) → slice_get k.known s ≡ Some x → Fits x (t s)

record Holds (k : Kept) (t : States) : Type 0 where
  places : length k.known ≡ MOST_STATES
  fit : IsFit k t
  shut : k.shut ≡ None

-- ---- an ask

fit_set : (k : Kept) (t : States) (s : ℕ) (y : Known) → IsFit k t → Fits y (t s) → IsFit (set_at s y k) t
fit_set k t s y f more = record { each = λ u x h. go u x (set_then k.known s u y x h) }
  where
    go : (u : ℕ) (x : Known) → ((s ≡ u) × (y ≡ x)) ⊎ (slice_get k.known u ≡ Some x) → Fits x (t u)
    go u x (inl p) = subst (λ v. Fits v (t u)) p.1 (subst (λ v. Fits y (t v)) p.0 more)
    go u x (inr h) = f.each u x h

holds_one : (a : Ask) (s : ℕ) (k : Kept) (t : States) → CanBeTable t → Holds k t →
    (s < length k.known → IsWithin a (calls_of (t s) a.up)) → Holds (asked_one a s k) t
holds_one a s k t can h within = go (slice_get k.known s) refl
  where
    go : (o : Option Known) → slice_get k.known s ≡ o → Holds (asked_at a s k o) t
    go None e = h
    go (Some x) e =
        let f = fits_more x a (t s) (h.fit.each s x e) (within (slice_get_within k.known s x e)) in
        let open_is = is_open_by (with_ask x a) (t s) f (can s).same in
        record {
          places = length-set k.known s (with_ask x a) ∙ h.places;
          fit = fit_set k t s (with_ask x a) h.fit f;
          shut = ap (λ o. cond (not o) (Some s) k.shut) open_is ∙ h.shut;
        }

holds_if : (b : Borders) (a : Ask) (s : ℕ) (k : Kept) (t : States) → CanBeTable t → Holds k t →
    (s < MOST_STATES → is_starting b s ≡ false → IsWithin a (calls_of (t s) a.up)) → Holds (asked_if b a s k) t
holds_if b a s k t can h within = go (is_starting b s) refl
  where
    go : (o : Bool) → is_starting b s ≡ o → Holds (cond (not o) (asked_one a s k) k) t
    go true e = h
    go false e = holds_one a s k t can h (λ less. within (subst (λ n. s < n) h.places less) e)

holds_from : (b : Borders) (a : Ask) (many s : ℕ) (k : Kept) (t : States) → CanBeTable t → Holds k t →
    ((u : ℕ) → s ≤ u → u < s + many → u < MOST_STATES → is_starting b u ≡ false → IsWithin a (calls_of (t u) a.up)) →
    Holds (asked_from b a many s k) t
holds_from b a zero s k t can h within = h
holds_from b a (suc many) s k t can h within =
    holds_from
    b
    a
    many
    (s + 1)
    (asked_if b a s k)
    t
    can
    (holds_if b a s k t can h (λ most e. within s (omega arith) (omega arith) most e))
    (λ u near far most e. within u (omega (arith, near)) (omega (arith, far)) most e)

holds_asked : (b : Borders) (a : Ask) (k : Kept) (t : States) → CanBeTable t → Holds k t → Answers b t a → Holds (asked b a k) t
holds_asked b a k t can h answers =
    holds_from
    b
    a
    (a.below - a.from)
    a.from
    k
    t
    can
    h
    (λ u near far most e. answers u near (omega (arith, near, far)) most e)

holds_all : (b : Borders) (a : Asks) (k : Kept) (t : States) → CanBeTable t → Holds k t → AnswersEach b t a → Holds (asked_all b a k) t
holds_all b a k t can h w =
    let whole = holds_asked b a.whole k t can h w.whole in
    let passed = holds_asked b a.passed (asked b a.whole k) t can whole w.passed in
    let k2 = asked b a.passed (asked b a.whole k) in
    let back = holds_asked b a.back k2 t can passed w.back in
    let k3 = asked b a.back k2 in
    let before = holds_asked b a.before k3 t can back w.before in
    let k4 = asked b a.before k3 in
    let made = holds_asked b a.made k4 t can before w.made in
    holds_asked b a.other (asked b a.made k4) t can made w.other

-- ---- a registration

pub fits_unknown : (e : Entry) → CanBe e → Fits unknown e
fits_unknown e c = record { least_up = omega arith; most_up = c.few_up; least_down = omega arith; most_down = c.few_down }

holds_forgotten : (f : Option ℕ) (k : Kept) (t n : States) → CanBeTable n → Holds k t → IsTableBehind f t n → Holds (forgotten f k) n
holds_forgotten None k t n can h behind =
    record { places = h.places; fit = record { each = λ u x e. go u x e (behind u) }; shut = h.shut }
  where
    go : (u : ℕ) (x : Known) → slice_get k.known u ≡ Some x → (None ≡ Some u) ⊎ (n u ≡ t u) → Fits x (n u)
    go u x e (inl never) = absurd cc
    go u x e (inr same) = subst (λ v. Fits x v) (sym same) (h.fit.each u x e)
holds_forgotten (Some r) k t n can h behind = go (ltb r (length k.known)) refl
  where
    elsewhere : (u : ℕ) (x : Known) → (r ≡ u → Fits x (n u)) → slice_get k.known u ≡ Some x → (Some r ≡ Some u) ⊎ (n u ≡ t u) → Fits x (n u)
    elsewhere u x there e (inl is) = there cc
    elsewhere u x there e (inr same) = subst (λ v. Fits x v) (sym same) (h.fit.each u x e)

    there : (u : ℕ) (x : Known) → slice_get (set_at r unknown k).known u ≡ Some x → r ≡ u → Fits x (n u)
    there u x e is =
        let same = set_same k.known r unknown x (subst (λ v. slice_get (set_at r unknown k).known v ≡ Some x) (sym is) e) in
        subst (λ v. Fits v (n u)) same (fits_unknown (n u) (can u))

    set : (u : ℕ) (x : Known) → slice_get (set_at r unknown k).known u ≡ Some x →
        ((r ≡ u) × (unknown ≡ x)) ⊎ (slice_get k.known u ≡ Some x) → Fits x (n u)
    set u x e (inl p) = there u x e p.0
    set u x e (inr old) = elsewhere u x (there u x e) old (behind u)

    past : (u : ℕ) (x : Known) → ltb r (length k.known) ≡ false → slice_get k.known u ≡ Some x → r ≡ u → Fits x (n u)
    past u x beyond e is =
        let far = leb-false (suc r) (length k.known) beyond in
        let near = slice_get_within k.known u x e in
        absurd (omega (arith, far, near, is))

    go : (o : Bool) → ltb r (length k.known) ≡ o →
        Holds (cond o (record { known = (set_at r unknown k).known; shut = k.shut }) k) n
    go true o = record {
      places = length-set k.known r unknown ∙ h.places;
      fit = record { each = λ u x e. set u x e (set_then k.known r u unknown x e) };
      shut = h.shut;
    }
    go false o = record {
      places = h.places;
      fit = record { each = λ u x e. elsewhere u x (past u x o e) e (behind u) };
      shut = h.shut;
    }

-- ---- event after event

holds_by : (b : Borders) (a : Asking) (k : Kept) (t n : States) → CanBeTable t → CanBeTable n → Holds k t →
    AnswersEach b t a.closed → IsTableBehind a.registers t n → AnswersEach b n a.asked → Holds (kept_by b a k) n
holds_by b a k t n can can_next h closed behind asks =
    let first = holds_all b a.closed k t can h closed in
    let second = holds_forgotten a.registers (asked_all b a.closed k) t n can_next first behind in
    holds_all b a.asked (forgotten a.registers (asked_all b a.closed k)) n can_next second asks

holds_behind : (b : Borders) (asking : List Asking) (k : Kept) (t : States) → CanBeTable t → Holds k t → AnswersTrace b t asking →
    (kept_behind b k asking).shut ≡ None
holds_behind b [] k t can h w = h.shut
holds_behind b (a ∷ asking) k t can h w =
    holds_behind b asking (kept_by b a k) w.next w.can_be (holds_by b a k t w.next can w.can_be h w.closed w.behind w.asked) w.more

pub none_is_shut : (b : Borders) (asking : List Asking) (t : States) → CanBeTable t → AnswersTrace b t asking →
    (kept_behind b fresh asking).shut ≡ None
none_is_shut b asking t can w =
    holds_behind
    b
    asking
    fresh
    t
    can
    (record {
      places = length-replicate MOST_STATES unknown;
      fit = record {
        each = λ s x e. subst (λ v. Fits v (t s)) (replicated MOST_STATES s unknown x e) (fits_unknown (t s) (can s));
      };
      shut = refl;
    })
    w
