-- What clap answers of the command that is built here.
use Rattle.std.proofs.Common.{rules, ◌≡◌, List, [], true, false, map, string_bytes, codes, Option, sym, ap, ap₂, subst, ◌∙◌}
use Rattle.clap.specs.Matches.{first_value, found_of}
use Rattle.clap.specs.Kinds.{HasKind}
use Rattle.clap.specs.declared.parser.matches.Found.{Found}
use Rattle.clap.specs.Walk.{Row, first_of, rows_of, rule_of}
use Rattle.clap.specs.Simple.{App, app_of, app_of_fields, matches_of, with_rule}
use Rattle.clap.specs.Faults.{fault_of, is_simple_and_free}
use Rattle.clap.specs.Simple.{is_simple}
use Rattle.clap.proofs.WalkLemmas.{first_value-rows}
use Rattle.hp_command.specs.Options.{AreWordsOfBoth}
use Rattle.hp_command.proofs.Reading.{Word}
use Rattle.hp_command.proofs.ClapRules.{app, given, quiet, seed, size, is_free}
use Rattle.hp_command.proofs.ClapWalk.{has_dashes}
use Rattle.hp_command.proofs.ClapReads.{AreRead, clap_reads}
use Rattle.hp_command.proofs.ClapTakes.{can_be, no_fault, only_memory}
use Rattle.hp_command.proofs.texts.texts_of.Goals as goal

pub returns-then-not-can_be_options-clause-none : goal.returns-then-not-can_be_options-clause-none
returns-then-not-can_be_options-clause-none c s z h ps pz =
    let can : c.can_be_options.result ≡ true = c.can_be_options.ensures.1 (can_be _ s z h ps pz) in cc

-- the texts that the rows have are those that the matches give
read_of : (words : List Word) (rows : List Row) (f : Found) (s z : Option Word) → AreRead words rows → rows_of f ≡ rows →
    s ≡ first_value f (codes "seed") → z ≡ first_value f (codes "size") → AreWordsOfBoth words s z
read_of words rows f s z h same es ez =
    let at : (id : Word) → first_value f id ≡ first_of id rows = λ id. first_value-rows f id ∙ ap (first_of id) same in
    subst (λ (t : Option Word). AreWordsOfBoth words t z) (sym (es ∙ at (codes "seed")))
    (subst (λ (t : Option Word). AreWordsOfBoth words (first_of (codes "seed") rows) t) (sym (ez ∙ at (codes "size"))) h)

pub returns-in-Ok-clause-some : goal.returns-in-Ok-clause-some
returns-in-Ok-clause-some c =
    let words = map string_bytes c.args.words.now in
    let seed_is : rule_of c.long.result ≡ given seed = search rules in
    let size_is : rule_of c.long-2.result ≡ given size = search rules in
    let base : app_of c.disable_help_flag.result ≡ quiet (app_of c.new.result) =
    ap app_of_fields c.disable_help_flag.ensures ∙ ap (λ f. app_of_fields (record f { disable_help_flag = true })) c.no_binary_name.ensures in
    let parser_is : app_of c.in_ok-parser.parser ≡ app = c.in_ok-parser.ensures.shape (search rules)
    ∙ ap₂ with_rule (c.in_ok-arg.ensures.shape (search rules) ∙ ap₂ with_rule (base ∙ ap quiet c.new.ensures.app) seed_is) size_is in
    let clear : has_dashes words ≡ false = (c.can_be_options.ensures.0 c.if-not-can_be_options.false).none_ends in
    let none : fault_of app words ≡ [] = subst (λ (a : App). fault_of a words ≡ []) parser_is (c.in-Ok.ensures.kinds (ap is_simple_and_free parser_is ∙ is_free)) in
    let rows : rows_of (found_of c.in-Ok.matches) ≡ matches_of app words =
    (c.in-Ok.ensures.matches (ap is_simple parser_is)).0 ∙ ap (λ (a : App). matches_of a words) parser_is in
    read_of words (matches_of app words) (found_of c.in-Ok.matches) _ _ (clap_reads words clear none) rows c.get_str.ensures c.get_str-in-Ok.ensures

pub returns : goal.returns
returns c =
    let words = map string_bytes c.args.words.now in
    let seed_is : rule_of c.long.result ≡ given seed = search rules in
    let size_is : rule_of c.long-2.result ≡ given size = search rules in
    let base : app_of c.disable_help_flag.result ≡ quiet (app_of c.new.result) =
    ap app_of_fields c.disable_help_flag.ensures ∙ ap (λ f. app_of_fields (record f { disable_help_flag = true })) c.no_binary_name.ensures in
    let parser_is : app_of c.in_ok-parser.parser ≡ app = c.in_ok-parser.ensures.shape (search rules)
    ∙ ap₂ with_rule (c.in_ok-arg.ensures.shape (search rules) ∙ ap₂ with_rule (base ∙ ap quiet c.new.ensures.app) seed_is) size_is in
    let refused : HasKind (fault_of app words) c.in-Err.error = subst (λ (a : App). HasKind (fault_of a words) c.in-Err.error) parser_is
    (c.in-Err.ensures.kinds (ap is_simple_and_free parser_is ∙ is_free)) in
    record {
      some = tt;
      no_memory = tt;
      none = λ s z h ps pz. c.in_default.not-OutOfMemory (c.kind.ensures ∙ only_memory _ c.in-Err.error (no_fault words s z h ps pz) refused);
    }
