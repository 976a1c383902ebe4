use Rattle.std.proofs.Common.{Result, Ok, Err, IfErr, inl, inr, rules, ◌≡◌, Option, ◌∷◌, map, option_map, string_bytes, codes, IfSome, subst, sym}
use Rattle.std.proofs.lemmas.Bool.Decides.{Decides-eqb}
use Rattle.std.proofs.lemmas.Slice.Eq.{slice_eq-Decides}
use Rattle.hp_command.specs.Commands.{IsCommand}
use Rattle.hp_command.specs.declared.command.Command.{Command}
use Rattle.hp_command.specs.declared.command.Command.TheVariants.{Gen, Bench, Count, Smt}
use Rattle.hp_command.proofs.CommandLaws.{gen_of, bench_of, count_of, smt_of}
use Rattle.hp_command.proofs.command.command_of.Goals as goal

pub returns-then-eq-clause-some : goal.returns-then-eq-clause-some
returns-then-eq-clause-some c =
    let made : c.map.result ≡ option_map (λ options. Gen options) c.in_ok-options.options = search rules in
    let word : c.as_str-word.result.now ≡ codes "gen" = (slice_eq-Decides Decides-eqb _ _ c.eq.result c.eq.ensures).0 c.if-eq.true in
    let all : map string_bytes c.args.words.now ≡ codes "gen" ∷ map string_bytes c.in-Some.rest.now = search rules in
    subst (λ (f : Option Command). IfSome f (IsCommand (map string_bytes c.args.words.now))) (sym made) (gen_of _ _ _ all c.in_ok-options.ensures.some)

pub returns-then-eq-2-clause-some : goal.returns-then-eq-2-clause-some
returns-then-eq-2-clause-some c =
    let made : c.map-then-eq-2.result ≡ option_map (λ options. Bench options) c.in_ok-options-2.options = search rules in
    let word : c.as_str-word.result.now ≡ codes "bench" = (slice_eq-Decides Decides-eqb _ _ c.eq-2.result c.eq-2.ensures).0 c.if-eq-2.true in
    let all : map string_bytes c.args.words.now ≡ codes "bench" ∷ map string_bytes c.in-Some.rest.now = search rules in
    subst (λ (f : Option Command). IfSome f (IsCommand (map string_bytes c.args.words.now))) (sym made) (bench_of _ _ _ all c.in_ok-options-2.ensures.some)

pub returns-then-eq-3-clause-some : goal.returns-then-eq-3-clause-some
returns-then-eq-3-clause-some c =
    let made : c.map-then-eq-3.result ≡ option_map (λ counting. Count counting) c.counting_of.result = search rules in
    let word : c.as_str-word.result.now ≡ codes "count" = (slice_eq-Decides Decides-eqb _ _ c.eq-3.result c.eq-3.ensures).0 c.if-eq-3.true in
    let all : map string_bytes c.args.words.now ≡ codes "count" ∷ map string_bytes c.in-Some.rest.now = search rules in
    subst (λ (f : Option Command). IfSome f (IsCommand (map string_bytes c.args.words.now))) (sym made) (count_of _ _ _ all c.counting_of.ensures.some)

pub returns-then-eq-4-clause-some : goal.returns-then-eq-4-clause-some
returns-then-eq-4-clause-some c =
    let made : c.map-then-eq-4.result ≡ option_map (λ controlling. Smt controlling) c.controlling_of.result = search rules in
    let word : c.as_str-word.result.now ≡ codes "smt" = (slice_eq-Decides Decides-eqb _ _ c.eq-4.result c.eq-4.ensures).0 c.if-eq-4.true in
    let all : map string_bytes c.args.words.now ≡ codes "smt" ∷ map string_bytes c.in-Some.rest.now = search rules in
    subst (λ (f : Option Command). IfSome f (IsCommand (map string_bytes c.args.words.now))) (sym made) (smt_of _ _ _ all c.controlling_of.ensures.some)

err_by : {A B P : Type 0} (r : Result A B) → P → IfErr r (λ _. P)
err_by (Ok x) p = tt
err_by (Err e) p = p

pub returns-in_err-options-clause-no_memory : goal.returns-in_err-options-clause-no_memory
returns-in_err-options-clause-no_memory c =
    let word : c.as_str-word.result.now ≡ codes "gen" = (slice_eq-Decides Decides-eqb _ _ c.eq.result c.eq.ensures).0 c.if-eq.true in
    let all : map string_bytes c.args.words.now ≡ codes "gen" ∷ map string_bytes c.in-Some.rest.now = search rules in
    err_by c.from_residual.result (record {
      rest = map string_bytes c.in-Some.rest.now;
      begins = inl all;
      can_be = c.in_err-options.ensures.no_memory;
    })

pub returns-in_err-options-2-clause-no_memory : goal.returns-in_err-options-2-clause-no_memory
returns-in_err-options-2-clause-no_memory c =
    let word : c.as_str-word.result.now ≡ codes "bench" = (slice_eq-Decides Decides-eqb _ _ c.eq-2.result c.eq-2.ensures).0 c.if-eq-2.true in
    let all : map string_bytes c.args.words.now ≡ codes "bench" ∷ map string_bytes c.in-Some.rest.now = search rules in
    err_by c.from_residual-in_err-options-2.result (record {
      rest = map string_bytes c.in-Some.rest.now;
      begins = inr all;
      can_be = c.in_err-options-2.ensures.no_memory;
    })
