-- One rule more keeps the places of a plan in order.
use Rattle.std.proofs.Common.{◌≡◌, ℕ, ◌+◌, ◌-◌, ◌<◌, ◌≤◌, List, take, drop, length, refl, sym, subst, ap, ◌∙◌, arith, set, length-set, length-append}
use Rattle.std.proofs.lemmas.List.{drop-set-lt, drop-drop, drop-replicate, length-replicate, take-append-drop, length-take-le}
use Rattle.std.proofs.Math.ListN.{replicate}
use Rattle.std.proofs.Math.Seq.{drop-append_seam}
use Rattle.hp_states.specs.declared.limits.TheConstants.{MAX_RULES}
use Rattle.hp_states.specs.declared.plan.Rule.{Rule}
use Rattle.hp_states.specs.declared.plan.HookPlan.TheInside.{Inside}
use Rattle.hp_states.specs.Plans.{IsPadded, blank, padded}

-- the first `len` places have the rules, and the others are blank
record InOrder (places : List Rule) (len : ℕ) : Type 0 where
  pub fits : len ≤ MAX_RULES
  pub all : length places ≡ MAX_RULES
  pub rest : drop len places ≡ replicate (MAX_RULES - len) blank

in_order : (p : Inside) → IsPadded p → InOrder p.rules p.len
in_order p h =
    let rules : List Rule = take p.len p.rules in
    let blanks : List Rule = replicate (MAX_RULES - length rules) blank in
    let places : padded rules ≡ p.rules = ap (λ (q : Inside). q.rules) h.same in
    let len : length rules ≡ p.len = ap (λ (q : Inside). q.len) h.same in
    let behind : drop (length rules) (padded rules) ≡ blanks = drop-append_seam rules blanks in
    record {
      fits = h.fits;
      all = omega (arith, h.fits, ap length places, length-append rules blanks, length-replicate (MAX_RULES - length rules) blank);
      rest =
          ap (drop p.len) (sym places)
          ∙ subst (λ (n : ℕ). drop n (padded rules) ≡ replicate (MAX_RULES - n) blank) len behind;
    }

same_fields : (places : List Rule) (len : ℕ) → InOrder places len → IsPadded (record { rules = places; len = len })
same_fields places len h =
    let len_back : length (take len places) ≡ len = length-take-le len places (omega (arith, h.fits, h.all)) in
    let places_back : padded (take len places) ≡ places = rw (len_back, ← h.rest) (take-append-drop len places) in
    record { fits = h.fits; same = rw (places_back, len_back) refl }

one_more : (places : List Rule) (len : ℕ) (rule : Rule) → InOrder places len → len < MAX_RULES → InOrder (set places len rule) (len + 1)
one_more places len rule h less =
    record {
      fits = omega arith;
      all = length-set places len rule ∙ h.all;
      rest =
          let past : len < len + 1 = omega arith in
          drop-set-lt (len + 1) places len rule past
          ∙ sym (drop-drop 1 len places)
          ∙ ap (drop 1) h.rest
          ∙ drop-replicate 1 (MAX_RULES - len) blank
          ∙ ap (λ n. replicate n blank) (let e : (MAX_RULES - len) - 1 ≡ MAX_RULES - (len + 1) = omega arith in e);
    }

pub padded_more : (p : Inside) (rule : Rule) → IsPadded p → p.len < MAX_RULES → IsPadded (record { rules = set p.rules p.len rule; len = p.len + 1 })
padded_more p rule h less = same_fields _ _ (one_more p.rules p.len rule (in_order p h) less)
