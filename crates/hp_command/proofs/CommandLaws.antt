-- The first word decides which command it is.
use Rattle.std.proofs.Common.{◌≡◌, ℕ, Option, Some, None, IfSome, List, ◌∷◌, option_map, codes, refl, sym, ap, subst, ◌∙◌, arith}
use Rattle.std.specs.Prelude.{if◌then◌else◌}
use Rattle.std.specs.Str.{bytes_eq}
use Rattle.hp_command.specs.Options.{AreOptions}
use Rattle.hp_command.specs.Controlling.{AreControlling}
use Rattle.hp_command.specs.Counting.{AreCounting}
use Rattle.hp_command.specs.Commands.{IsCommand, word_of, AreRest}
use Rattle.hp_command.proofs.Reading.{Word}
use Rattle.hp_command.specs.declared.command.Command.{Command}
use Rattle.hp_command.specs.declared.command.Command.TheVariants.{Play, States, Report, Replay, Migrate, Gen, Bench, Count, Smt}
use Rattle.hp_command.specs.declared.options.Options.{Options}
use Rattle.hp_command.specs.declared.controlling.Controlling.{Controlling}
use Rattle.hp_command.specs.declared.counting.Counting.{Counting}
use Rattle.hp_command.proofs.OptionLaws.{same_options}
use Rattle.hp_command.proofs.ControllingLaws.{same_controlling}
use Rattle.hp_command.proofs.CountingLaws.{same_counting}

pub gen_of : (words rest : List Word) (found : Option Options) → words ≡ codes "gen" ∷ rest → IfSome found (AreOptions rest) →
    IfSome (option_map (λ options. Gen options) found) (IsCommand words)
gen_of words rest None e h = tt
gen_of words rest (Some options) e h = record { rest = rest; begins = e; goes_on = h }

pub bench_of : (words rest : List Word) (found : Option Options) → words ≡ codes "bench" ∷ rest → IfSome found (AreOptions rest) →
    IfSome (option_map (λ options. Bench options) found) (IsCommand words)
bench_of words rest None e h = tt
bench_of words rest (Some options) e h = record { rest = rest; begins = e; goes_on = h }

pub count_of : (words rest : List Word) (found : Option Counting) → words ≡ codes "count" ∷ rest → IfSome found (AreCounting rest) →
    IfSome (option_map (λ counting. Count counting) found) (IsCommand words)
count_of words rest None e h = tt
count_of words rest (Some counting) e h = record { rest = rest; begins = e; goes_on = h }

pub smt_of : (words rest : List Word) (found : Option Controlling) → words ≡ codes "smt" ∷ rest → IfSome found (AreControlling rest) →
    IfSome (option_map (λ controlling. Smt controlling) found) (IsCommand words)
smt_of words rest None e h = tt
smt_of words rest (Some controlling) e h = record { rest = rest; begins = e; goes_on = h }

-- the words determine the command
pub record SameWords (x y : Word) (a b : List Word) : Type 0 where
  pub word : x ≡ y
  pub rest : a ≡ b

same_words : (words a b : List Word) (x y : Word) → words ≡ x ∷ a → words ≡ y ∷ b → SameWords x y a b
same_words words a b x y e f = let same : x ∷ a ≡ y ∷ b = sym e ∙ f in record { word = cc; rest = cc }

-- which command a word is of
abbrev place : Command → ℕ
place Play = 0
place States = 1
place Report = 2
place Replay = 3
place (Gen options) = 4
place (Bench options) = 5
place (Count counting) = 6
place (Smt controlling) = 7
place Migrate = 8

place_in : Word → ℕ
place_in word =
    if bytes_eq word (codes "play") then 0
    else if bytes_eq word (codes "states") then 1
    else if bytes_eq word (codes "report") then 2
    else if bytes_eq word (codes "replay") then 3
    else if bytes_eq word (codes "gen") then 4
    else if bytes_eq word (codes "bench") then 5
    else if bytes_eq word (codes "count") then 6
    else if bytes_eq word (codes "smt") then 7
    else 8

placed : (command : Command) → place_in (word_of command) ≡ place command
unfolding place_in
placed Play = refl
placed States = refl
placed Report = refl
placed Replay = refl
placed (Gen options) = refl
placed (Bench options) = refl
placed (Count counting) = refl
placed (Smt controlling) = refl
placed Migrate = refl

same_place : (a b : Command) → word_of a ≡ word_of b → place a ≡ place b
same_place a b e = sym (placed a) ∙ ap place_in e ∙ placed b

same_options_of : (a b : Options) (r r' : List Word) → AreOptions r a → AreOptions r' b → r ≡ r' → a ≡ b
same_options_of a b r r' ha hb e = same_options r a b ha (subst (λ (ws : List Word). AreOptions ws b) (sym e) hb)

same_of : (a b : Command) (r r' : List Word) → AreRest a r → AreRest b r' → place a ≡ place b → r ≡ r' → a ≡ b
same_of Play Play r r' ha hb p e = refl
same_of States States r r' ha hb p e = refl
same_of Report Report r r' ha hb p e = refl
same_of Replay Replay r r' ha hb p e = refl
same_of (Gen a) (Gen b) r r' ha hb p e = ap (λ (o : Options). Gen o) (same_options_of a b r r' ha hb e)
same_of (Bench a) (Bench b) r r' ha hb p e = ap (λ (o : Options). Bench o) (same_options_of a b r r' ha hb e)
same_of (Count a) (Count b) r r' ha hb p e = ap (λ (c : Counting). Count c) (same_counting a b r r' ha hb e)
same_of (Smt a) (Smt b) r r' ha hb p e = ap (λ (c : Controlling). Smt c) (same_controlling a b r r' ha hb e)
same_of Migrate Migrate r r' ha hb p e = refl
same_of a b r r' ha hb p e = absurd (omega (arith, p))

pub same_command : (words : List Word) (a b : Command) → IsCommand words a → IsCommand words b → a ≡ b
same_command words a b ha hb =
    let s = same_words words ha.rest hb.rest (word_of a) (word_of b) ha.begins hb.begins in
    same_of a b ha.rest hb.rest ha.goes_on hb.goes_on (same_place a b s.word) s.rest
