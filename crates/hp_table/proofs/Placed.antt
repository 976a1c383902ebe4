-- What is so of a taken place.
use Rattle.std.proofs.Common.{◌≡◌, ℕ, Bool, true, false, eqb, ◌||◌, Option, Some, None, IsSome, is_some, List, [], length, Bor, refl, sym, ap, ◌∙◌}
use Rattle.std.specs.Option.{option_copied}
use Rattle.std.proofs.lemmas.List.{nil_from_length}
use Rattle.std.proofs.lemmas.Bool.{false≢true, eqb-true}
use Rattle.hp_table.specs.Named.{is_named, is_builtin}
use Rattle.hp_table.specs.Kept.{Kept}
use Rattle.hp_table.specs.Instances.{instances_at}
use Rattle.std.specs.Prelude.{slice_set}
use Rattle.hp_table.specs.Step.{Step, step_at, kept_of, changed, changed_at, is_home}
use Rattle.hp_table.proofs.Places.{set_same}

-- what a taken place has
pub taken_at : (place : Option Step) → IsSome place → (step : Step) × (place ≡ Some step)
taken_at None some = absurd (false≢true some)
taken_at (Some step) some = (step, refl)

-- and where the table hands its record out
pub taken_by : (record_there : Option (Bor Kept)) (place : Option Step) → option_copied record_there ≡ kept_of place →
    is_some record_there ≡ true → (step : Step) × (place ≡ Some step)
taken_by None place is some = absurd (false≢true some)
taken_by (Some found) None is some = absurd (cc is)
taken_by (Some found) (Some step) is some = (step, refl)

-- a state whose instances are none
pub insts_at : (places : List (Option Step)) (s : ℕ) (step : Step) (insts : List ℕ) → step_at places s ≡ Some step →
    insts ≡ instances_at places s → eqb (length insts) 0 ≡ true → step.insts ≡ []
insts_at places s step insts some is none =
    let all : insts ≡ step.insts = is ∙ rw some refl in
    nil_from_length step.insts (sym (ap length all) ∙ eqb-true _ _ none)

-- nothing is registered at a state without a name
pub vacant_at : (places : List (Option Step)) (s : ℕ) → is_named places s ≡ false → step_at places s ≡ None
vacant_at places s unnamed = go (step_at places s) (or_false (is_builtin s) (is_some (step_at places s)) unnamed)
  where
    or_false : (b c : Bool) → b || c ≡ false → c ≡ false
    or_false true c h = absurd (false≢true (sym h))
    or_false false c h = h

    go : (place : Option Step) → is_some place ≡ false → place ≡ None
    go None h = refl
    go (Some step) h = absurd (false≢true (sym h))

-- the hook of a taken place is there
pub home_there : (places : List (Option Step)) (s : ℕ) (step : Step) (b : Bool) → step_at places s ≡ Some step →
    is_home (step_at places s) ≡ b → step.kept.home ≡ b
home_there places s step b there home = rw there at home

-- nothing that is registered is nothing to change
pub none_changed : (places : List (Option Step)) (s : ℕ) (f : Step → Step) → step_at places s ≡ None →
    places ≡ changed_at places s f
none_changed places s f none =
    sym (ap (λ p. slice_set places s (changed f p)) none ∙ set_same places s None none)

pub none_by : (record_there : Option (Bor Step)) (place : Option Step) → option_copied record_there ≡ place →
    is_some record_there ≡ false → place ≡ None
none_by None place is none = sym is
none_by (Some found) place is none = absurd (false≢true (sym none))

-- and where the table hands its record out, the hook of the record is there
pub home_of : (place : Option Step) (kept : Kept) → Some kept ≡ kept_of place → is_home place ≡ true → kept.home ≡ true
home_of None kept is home = absurd (cc is)
home_of (Some step) kept is home =
    let same : kept ≡ step.kept = some_is kept step.kept is in ap (λ (k : Kept). k.home) same ∙ home
  where
    some_is : (x y : Kept) → Some x ≡ Some y → x ≡ y
    some_is x y e = cc
