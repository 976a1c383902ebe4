-- A report has no float, and nests no deeper than five.
use Rattle.std.proofs.Common.{◌≡◌, ℕ, ◌+◌, ◌≤◌, Bool, true, false, ◌||◌, Option, Some, None, List, [], ◌∷◌, ◌++◌, map, refl, arith}
use Rattle.std.specs.List.{flat_map}
use Rattle.serde_json.specs.Data.{Data, depth, items_depth}
use Rattle.serde_json.specs.View.{items_of}
use Rattle.serde_json.specs.Written.{has_float, items_have_float}
use Rattle.hp_states.specs.declared.limits.TheConstants.{ONLINE}
use Rattle.hp_event.specs.declared.key.Key.{Key}
use Rattle.hp_event.specs.declared.event.Event.{Event}
use Rattle.hp_event.specs.declared.head.Head.{Head}
use Rattle.hp_model.specs.Lists.{numbers}
use Rattle.hp_model.specs.Net.{keys_in_force}
use Rattle.hp_model.specs.Registered.{Registered, registered}
use Rattle.hp_model.specs.Summary.{recorded}
use Rattle.hp_print.specs.Report.{whole, key_pair, cpu_report, registered_report, sub_report, report}

-- a value without floats that nests no deeper than this, and such values
abbrev Fits : ℕ → Data → Type 0
Fits n d = (has_float d ≡ false) × (depth d ≤ n)

abbrev AllFit : ℕ → List Data → Type 0
AllFit n ds = (items_have_float (items_of ds) ≡ false) × (items_depth (items_of ds) ≤ n)

neither : (a b : Bool) → a ≡ false → b ≡ false → (a || b) ≡ false
neither false b h k = k
neither true b h k = absurd (cc)

one_more : (n : ℕ) (d : Data) (ds : List Data) → Fits n d → AllFit n ds → AllFit n (d ∷ ds)
one_more n d ds h k = (neither (has_float d) (items_have_float (items_of ds)) h.0 k.0, omega (arith, h.1, k.1))

each : {X : Type 0} (value : X → Data) (n : ℕ) (xs : List X) → ((x : X) → Fits n (value x)) → AllFit n (map value xs)
each value n [] h = (refl, omega arith)
each value n (x ∷ xs) h = one_more n (value x) (map value xs) (h x) (each value n xs h)

joined : (n : ℕ) (xs ys : List Data) → AllFit n xs → AllFit n ys → AllFit n (xs ++ ys)
joined n [] ys h k = k
joined n (x ∷ xs) ys h k = go (has_float x) refl h.0 (λ f. joined n xs ys (f, omega (arith, h.1)) k)
  where
    go : (b : Bool) → has_float x ≡ b → (b || items_have_float (items_of xs)) ≡ false →
        (items_have_float (items_of xs) ≡ false → AllFit n (xs ++ ys)) → AllFit n (x ∷ xs ++ ys)
    go true e f rest = absurd (cc)
    go false e f rest = one_more n x (xs ++ ys) (e, omega (arith, h.1)) (rest f)

each_list : {X : Type 0} (values : X → List Data) (n : ℕ) (xs : List X) → ((x : X) → AllFit n (values x)) →
    AllFit n (flat_map values xs)
each_list values n [] h = (refl, omega arith)
each_list values n (x ∷ xs) h = joined n (values x) (flat_map values xs) (h x) (each_list values n xs h)

wholes : (ns : List ℕ) → AllFit 0 (map whole ns)
wholes ns = each whole 0 ns (λ n. (refl, omega arith))

pairs : (keys : List Key) → AllFit 1 (map key_pair keys)
pairs keys = each key_pair 1 keys (λ key. (refl, omega arith))

cpu : (head : Head) (events : List Event) (c : ℕ) → Fits 3 (cpu_report head events c)
unfolding cpu_report
cpu head events c =
    let fit = pairs (keys_in_force c events) in
    let deep = fit.1 in
    (rw (fit.0) refl, omega (arith, deep))

sub : (head : Head) (events : List Event) (s : ℕ) → AllFit 3 (sub_report head events s)
sub head events s = go (registered head s events)
  where
    go : (r : Option Registered) → AllFit 3 (registered_report head events s r)
    go None = (refl, omega arith)
    go (Some r) =
        let fit = wholes r.insts in
        let deep = fit.1 in
        (rw (fit.0) refl, omega (arith, deep))

pub report_fits : (head : Head) (events : List Event) → (has_float (report head events) ≡ false) × (depth (report head events) ≤ 5)
unfolding report
report_fits head events =
    let cpus = each (cpu_report head events) 3 (numbers head.possible) (cpu head events) in
    let frozen = wholes (recorded head events) in
    let subs = each_list (sub_report head events) 3 (numbers (ONLINE + 1)) (sub head events) in
    let cpus_deep = cpus.1 in
    let frozen_deep = frozen.1 in
    let subs_deep = subs.1 in
    (rw (cpus.0, frozen.0, subs.0) refl, omega (arith, cpus_deep, frozen_deep, subs_deep))
