-- How many clients are in after one seat more, and after one that has left.
use Rattle.std.proofs.Common.{◌≡◌, ℕ, zero, suc, ◌+◌, ◌<◌, ◌≤◌, cond, Option, None, List, [], ◌∷◌, ◌++◌, length, get_or, length-append, length-set, refl, ap, sym, subst, ◌∙◌, arith}
use Rattle.std.specs.Prelude.{slice_set}
use Rattle.std.proofs.Math.ListN.{set}
use Rattle.std.proofs.lemmas.List.Sums.{sum_by-set, fold-append, count_by-le-length}
use Rattle.hp_states.specs.declared.limits.TheConstants.{MAX_SEATS}
use Rattle.hp_event.specs.declared.event.Role.{Role}
use Rattle.hp_model.specs.FirstEvent.{is_client}
use Rattle.hp_account.specs.Places.{at_place}
use Rattle.hp_account.specs.Seats.{IsCounted, clients_among, one_client}

get_place : (xs : List (Option Role)) (n : ℕ) → at_place xs n ≡ get_or xs n None
get_place [] n = refl
get_place (x ∷ xs) zero = refl
get_place (x ∷ xs) (suc n) = get_place xs n

-- one seat more
more : (xs : List (Option Role)) (r : Option Role) → clients_among (xs ++ r ∷ []) ≡ clients_among xs + one_client r
more xs r = fold-append (λ (n : ℕ) (y : Option Role). n + cond (is_client y) 1 0) 0 xs (r ∷ [])

pub counted_more : (xs : List (Option Role)) (r : Option Role) (n after : ℕ) → IsCounted xs n → length xs < MAX_SEATS →
    after ≡ n + one_client r → IsCounted (xs ++ r ∷ []) after
counted_more xs r n after is few counts =
    let all = length-append xs (r ∷ []) in
    let h = is.counts in
    let k = more xs r in
    record {
      few = omega (arith, all, few);
      counts = omega (arith, counts, h, k);
    }

-- as many as there are seats at most
pub few_clients : (xs : List (Option Role)) (n : ℕ) → IsCounted xs n → n ≤ length xs
few_clients xs n is =
    let h = is.counts in
    let k = count_by-le-length is_client xs in
    omega (arith, h, k)

-- one that has left, which had this role
less : (xs : List (Option Role)) (seat : ℕ) → seat < length xs →
    clients_among (set xs seat None) + one_client (at_place xs seat) ≡ clients_among xs + one_client None
less xs seat below = rw (get_place xs seat) (sum_by-set one_client xs seat None None below)

pub one_of : (xs ys : List (Option Role)) (seat n : ℕ) (r : Option Role) → xs ≡ ys → IsCounted xs n → seat < length ys →
    r ≡ at_place ys seat → one_client r ≤ n
one_of xs ys seat n r same is below role =
    let seated : seat < length xs = subst (λ (zs : List (Option Role)). seat < length zs) (sym same) below in
    let had : one_client r ≡ one_client (at_place xs seat) =
    ap one_client (role ∙ ap (λ (zs : List (Option Role)). at_place zs seat) (sym same)) in
    let h = is.counts in
    let k = less xs seat seated in
    omega (arith, h, k, had)

pub counted_less : (xs ys : List (Option Role)) (seat n after : ℕ) (r : Option Role) → xs ≡ ys → IsCounted xs n →
    seat < length ys → r ≡ at_place ys seat → after + one_client r ≡ n → IsCounted (slice_set xs seat None) after
counted_less xs ys seat n after r same is below role counts =
    let seated : seat < length xs = subst (λ (zs : List (Option Role)). seat < length zs) (sym same) below in
    let had : one_client r ≡ one_client (at_place xs seat) =
    ap one_client (role ∙ ap (λ (zs : List (Option Role)). at_place zs seat) (sym same)) in
    let f = is.few in
    let h = is.counts in
    let k = less xs seat seated in
    record {
      few = rw length-set f;
      counts = omega (arith, counts, h, k, had);
    }
