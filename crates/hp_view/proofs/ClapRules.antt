-- The command that clap is given: two options, each with one value.
use Rattle.std.proofs.Common.{◌≡◌, Bool, true, false, cond, Option, Some, None, List, [], ◌∷◌, option_map, codes, refl}
use Rattle.std.specs.Str.{bytes_eq}
use Rattle.clap.specs.Walk.{Rule, arg_by_long}
use Rattle.clap.specs.Simple.{App, Shape, built, new_app, new_rule, new_shape, on_top, with_rule}
use Rattle.clap.specs.Faults.{is_simple_and_free}
use Rattle.clap.specs.declared.builder.action.ArgAction.TheVariants.{Set}
use Rattle.clap.specs.declared.builder.value_parser.ValueParser.TheVariants as vp
use Rattle.hp_command.proofs.Reading.{Word}

pub data Flag : Type 0 where
  start : Flag
  stop : Flag

abbrev pub name : Flag → Word
name start = codes "from"
name stop = codes "to"

-- an option, as it is given
abbrev pub given : Flag → Rule
given f = record (new_rule (name f)) { long = Some (name f) }

-- the same, as the command reads it
abbrev pub rule : Flag → Rule
rule f = record (given f) {
  action = Some Set;
  range = Some (record { start_inclusive = 1; end_inclusive = 1 });
  parser = Some vp.String;
}

abbrev pub rules : List Rule
rules = rule start ∷ rule stop ∷ []

abbrev pub quiet : App → App
quiet = on_top (λ s. record s { no_binary_name = true; disable_help_flag = true })

abbrev pub app : App
app = with_rule (with_rule (quiet (new_app (codes "hpview"))) (given start)) (given stop)

abbrev pub top : Shape
top = record (new_shape (codes "hpview")) {
  rules = rules;
  no_binary_name = true;
  disable_help_flag = true;
  disable_help_subcommand = true;
  is_built = true;
}

pub built_is : built app ≡ record { top = top; subs = [] }
built_is = refl

pub is_free : is_simple_and_free app ≡ true
is_free = refl

-- the option that has this name
abbrev pub by_tests : (is_start is_stop : Bool) → Option Flag
by_tests is_start is_stop = cond is_start (Some start) (cond is_stop (Some stop) None)

abbrev pub flag_named : Word → Option Flag
flag_named n = by_tests (bytes_eq (codes "from") n) (bytes_eq (codes "to") n)

found_by : (a b : Bool) (n : Word) → bytes_eq (codes "from") n ≡ a → bytes_eq (codes "to") n ≡ b → arg_by_long rules n ≡ option_map rule (by_tests a b)
found_by true b n ea eb = rw ea refl
found_by false true n ea eb = rw (ea, eb) refl
found_by false false n ea eb = rw (ea, eb) refl

pub found : (n : Word) → arg_by_long rules n ≡ option_map rule (flag_named n)
found n = found_by (bytes_eq (codes "from") n) (bytes_eq (codes "to") n) n refl refl
