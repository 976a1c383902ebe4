-- What the lines of a generated script say.
use Rattle.std.proofs.Common.{◌≡◌, ℕ, ◌^◌, ◌<◌, ◌≤◌, Bool, true, false, List, [], ◌∷◌, ◌++◌, length, Some, None, Ok, refl, sym, ap, ◌∙◌, arith}
use Rattle.std.specs.Prelude.{codes}
use Rattle.std.specs.Fmt.{decimal}
use Rattle.std.proofs.lemmas.Fmt.{length-decimal-le, decimal_digit}
use Rattle.hp_states.specs.declared.dir.Dir.TheVariants as dir
use Rattle.hp_states.specs.declared.plan.Rule.{Rule}
use Rattle.hp_event.specs.declared.op.Op.{Op}
use Rattle.hp_event.specs.declared.op.Op.TheVariants as op
use Rattle.hp_event.specs.declared.head.Sub.{Sub}
use Rattle.hp_model.specs.Words.{line, kind_word}
use Rattle.hp_model.specs.EventLine.{op_words}
use Rattle.hp_text.specs.declared.first_word.OpWord.{OpWord}
use Rattle.hp_text.specs.declared.first_word.OpWord.TheVariants as word
use Rattle.hp_text.specs.Fits.{IsSayable}
use Rattle.hp_text.specs.Numbers.{number_below, number, long_number}
use Rattle.hp_text.specs.Readings.{said}
use Rattle.hp_text.specs.Choices.{calls_of, kind_of, name_of}
use Rattle.hp_text.specs.FirstWords.{op_word_of}
use Rattle.hp_text.specs.Subs.{sub, rule}
use Rattle.hp_text.specs.OpAt.{tail_of, op_at}
use Rattle.hp_text.proofs.NumberLaws.{below_again}
use Rattle.hp_text.proofs.SubLaws.{rule_again}
use Rattle.hp_text.proofs.OpLaws.{op_again}
use Rattle.hp_script.specs.declared.verb.Verb.TheVariants as verb
use Rattle.hp_script.specs.declared.schedule.Schedule.TheVariants.{Mix}
use Rattle.hp_script.specs.declared.statement.Statement.TheVariants as says
use Rattle.hp_script.specs.Words.{is_comment}
use Rattle.hp_script.specs.Verbs.{verb_of}
use Rattle.hp_script.specs.Statements.{schedule_of_kind, schedule, statement_by}
use Rattle.hp_script.specs.Generated.{plain}
use Rattle.hp_script.proofs.CleanLines.{is_clean, are_clean, decimal_clean}
use Rattle.hp_script.proofs.FineLines.{Says}
use Rattle.hp_script.proofs.Spelled.{IsTitle, title, line_length}

-- a number of five digits at most
record IsShort (word : List ℕ) : Type 0 where
  clean : is_clean word ≡ true
  short : length word ≤ 5

small : (n : ℕ) → n < 100000 → IsShort (decimal n)
small n lt = record { clean = decimal_clean n (omega (arith, lt)); short = length-decimal-le 5 n (omega arith) (omega (arith, lt)) (omega (arith, lt)) }

-- ---- the lines before the actors

pub cpus_line : Says (codes "cpus") (codes "8" ∷ []) verb.Cpus (says.Cpus 8)
unfolding verb_of op_word_of number_below
cpus_line = record { verb = refl; said = refl; clean = refl; cleans = refl; plain = refl; short = omega (arith, line_length (codes "cpus") (codes "8" ∷ [])) }

-- a subsystem with both callbacks
abbrev pub named_sub : (name : List ℕ) (multi : Bool) → Sub
named_sub name multi = record { name = name; up = true; down = true; multi = multi; plan = [] }

sub_clean : (word : List ℕ) (multi : Bool) → is_clean word ≡ true → are_clean (word ∷ codes "both" ∷ kind_word multi ∷ []) ≡ true
sub_clean word true e = rw e refl
sub_clean word false e = rw e refl

kind_short : (multi : Bool) → length (kind_word multi) ≤ 6
kind_short true = omega arith
kind_short false = omega arith

abbrev gen : (number : List ℕ) → List ℕ
gen number = codes "gen:" ++ number

sub_says : (number : List ℕ) (multi : Bool) → IsTitle (gen number) → sub (gen number ∷ codes "both" ∷ kind_word multi ∷ []) ≡ Ok (named_sub (gen number) multi)
unfolding sub name_of calls_of kind_of
sub_says number true t = let e = t.named in rw e refl
sub_says number false t = let e = t.named in rw e refl

sub_of_title : (number : List ℕ) (multi : Bool) → IsTitle (gen number) → Says (codes "sub") (gen number ∷ codes "both" ∷ kind_word multi ∷ []) verb.Sub (says.Sub (named_sub (gen number) multi))
unfolding verb_of op_word_of
sub_of_title number multi t = record {
  verb = refl;
  said = ap (said (λ s. says.Sub s)) (sub_says number multi t);
  clean = refl;
  cleans = sub_clean (gen number) multi t.clean;
  plain = refl;
  short = omega (arith, line_length (codes "sub") (gen number ∷ codes "both" ∷ kind_word multi ∷ []), t.short, kind_short multi);
}

pub sub_line : (n : ℕ) (multi : Bool) → n < 100
    → Says (codes "sub") ((codes "gen:" ++ decimal n) ∷ codes "both" ∷ kind_word multi ∷ []) verb.Sub (says.Sub (named_sub (codes "gen:" ++ decimal n) multi))
sub_line n multi lt = sub_of_title (decimal n) multi (title 103 (codes "en:") n refl refl (omega arith) lt)

abbrev pub failing_rule : (nth : ℕ) → Rule
failing_rule nth = record { dir = dir.Up; cpu = None; inst = None; nth = Some nth; code = 5 }

pub rule_line : (n : ℕ) → 1 ≤ n → n < 100000 → Says (codes "rule") (codes "up" ∷ codes "*" ∷ codes "*" ∷ decimal n ∷ codes "5" ∷ []) verb.Rule (says.Rule (failing_rule n))
unfolding verb_of op_word_of
rule_line n some lt =
    let w = small n lt in
    record {
      verb = refl;
      said = ap (λ (five : List ℕ). said (λ r. says.Rule r) (rule (codes "up" ∷ codes "*" ∷ codes "*" ∷ decimal n ∷ five ∷ []))) (sym (decimal_digit 5 (omega arith)))
          ∙ ap (said (λ r. says.Rule r)) (rule_again (failing_rule n) (record { cpu_fits = tt; inst_fits = tt; nth_above = some; nth_fits = omega (arith, lt); code_above = omega arith; code_fits = omega arith }));
      clean = refl;
      cleans = let e = w.clean in rw e refl;
      plain = refl;
      short = omega (arith, line_length (codes "rule") (codes "up" ∷ codes "*" ∷ codes "*" ∷ decimal n ∷ codes "5" ∷ []), w.short);
    }

mix_says : (a b : List ℕ) (m n : ℕ) → long_number a ≡ Ok m → number b ≡ Ok n → schedule (codes "mix" ∷ a ∷ b ∷ []) ≡ Ok (Mix m n)
unfolding schedule schedule_of_kind
mix_says a b m n e f = rw (e, f) refl

two_clean : (a b : List ℕ) → is_clean a ≡ true → is_clean b ≡ true → are_clean (a ∷ b ∷ []) ≡ true
two_clean a b e f = rw (e, f) refl

pub schedule_line : (seed : ℕ) → seed < 2 ^ 64 → Says (codes "schedule") (codes "mix" ∷ decimal seed ∷ decimal 10000 ∷ []) verb.Schedule (says.Schedule (Mix seed 10000))
unfolding verb_of op_word_of
schedule_line seed lt =
    let w = small 10000 (omega arith) in
    let short : length (decimal seed) ≤ 20 = length-decimal-le 20 seed (omega arith) (omega (arith, lt)) lt in
    record {
      verb = refl;
      said = ap (said (λ s. says.Schedule s)) (mix_says (decimal seed) (decimal 10000) seed 10000 (below_again (2 ^ 64) seed (decimal seed) (omega arith) lt refl) (below_again (2 ^ 32) 10000 (decimal 10000) (omega arith) (omega arith) refl));
      clean = refl;
      cleans = two_clean (decimal seed) (decimal 10000) (decimal_clean seed lt) w.clean;
      plain = refl;
      short = omega (arith, line_length (codes "schedule") (codes "mix" ∷ decimal seed ∷ decimal 10000 ∷ []), short, w.short);
    }

-- ---- actors and operations

actor_of_title : (word : List ℕ) → IsTitle word → Says (codes "actor") (word ∷ []) verb.Actor says.Actor
unfolding verb_of op_word_of
actor_of_title word t = record {
  verb = refl;
  said = let e = t.named in rw e refl;
  clean = refl;
  cleans = let e = t.clean in rw e refl;
  plain = refl;
  short = omega (arith, line_length (codes "actor") (word ∷ []), t.short);
}

pub actor_line : (n : ℕ) → n < 100 → Says (codes "actor") ((codes "g" ++ decimal n) ∷ []) verb.Actor says.Actor
actor_line n lt = actor_of_title (codes "g" ++ decimal n) (title 103 [] n refl refl (omega arith) lt)

-- the words of an operation, of which this is the first, say it
op_line : (o : Op) (first : List ℕ) (rest : List (List ℕ)) (f : OpWord) → op_words o ≡ first ∷ rest → op_word_of first ≡ Some f → IsSayable o
    → is_clean first ≡ true → is_comment first ≡ false → are_clean rest ≡ true → length (line (first ∷ rest)) ≤ 64 → Says first rest (verb.Operation f) (says.Operation o)
unfolding verb_of op_at
op_line o first rest f spelled is sayable clean plain cleans short = record {
  verb = rw is refl;
  said = ap (said (λ o. says.Operation o)) (ap (λ v. tail_of v rest) (sym is) ∙ ap op_at (sym spelled) ∙ op_again o sayable);
  clean = clean;
  cleans = cleans;
  plain = plain;
  short = short;
}

one_number : (n : ℕ) → n < 100000 → are_clean (decimal n ∷ []) ≡ true
one_number n lt = let e = decimal_clean n (omega (arith, lt)) in rw e refl

two_numbers : (m n : ℕ) → m < 100000 → n < 100000 → are_clean (decimal m ∷ decimal n ∷ []) ≡ true
two_numbers m n lt few = two_clean (decimal m) (decimal n) (small m lt).clean (small n few).clean

pub up_line : (n : ℕ) → n < 100000 → Says (codes "up") (decimal n ∷ []) (verb.Operation word.Up) (says.Operation (op.Up n))
unfolding op_word_of
up_line n lt =
    op_line (op.Up n) (codes "up") (decimal n ∷ []) word.Up refl refl (omega (arith, lt), refl) refl refl (one_number n lt)
    (omega (arith, line_length (codes "up") (decimal n ∷ []), (small n lt).short))

pub down_line : (n : ℕ) → n < 100000 → Says (codes "down") (decimal n ∷ []) (verb.Operation word.Down) (says.Operation (op.Down n))
unfolding op_word_of
down_line n lt =
    op_line (op.Down n) (codes "down") (decimal n ∷ []) word.Down refl refl (omega (arith, lt), refl) refl refl (one_number n lt)
    (omega (arith, line_length (codes "down") (decimal n ∷ []), (small n lt).short))

show_clean : (n : ℕ) → n < 100000 → are_clean (codes "state" ∷ decimal n ∷ []) ≡ true
show_clean n lt = let e = (small n lt).clean in rw e refl

pub show_line : (n : ℕ) → n < 100000 → Says (codes "show") (codes "state" ∷ decimal n ∷ []) (verb.Operation word.Show) (says.Operation (op.ShowState n))
unfolding op_word_of
show_line n lt =
    op_line (op.ShowState n) (codes "show") (codes "state" ∷ decimal n ∷ []) word.Show refl refl (omega (arith, lt), refl) refl refl (show_clean n lt)
    (omega (arith, line_length (codes "show") (codes "state" ∷ decimal n ∷ []), (small n lt).short))

pub lock_line : Says (codes "lock") [] (verb.Operation word.Lock) (says.Operation op.Lock)
unfolding op_word_of
lock_line = op_line op.Lock (codes "lock") [] word.Lock refl refl (tt, refl) refl refl refl (omega (arith, line_length (codes "lock") []))

pub unlock_line : Says (codes "unlock") [] (verb.Operation word.Unlock) (says.Operation op.Unlock)
unfolding op_word_of
unlock_line = op_line op.Unlock (codes "unlock") [] word.Unlock refl refl (tt, refl) refl refl refl (omega (arith, line_length (codes "unlock") []))

-- of two numbers
placed : (o : Op) (first : List ℕ) (f : OpWord) (m n : ℕ) → op_words o ≡ first ∷ decimal m ∷ decimal n ∷ [] → op_word_of first ≡ Some f → IsSayable o
    → is_clean first ≡ true → is_comment first ≡ false → length first ≤ 10 → m < 100000 → n < 100000
    → Says first (decimal m ∷ decimal n ∷ []) (verb.Operation f) (says.Operation o)
placed o first f m n spelled is sayable clean plain short lt few =
    op_line o first (decimal m ∷ decimal n ∷ []) f spelled is sayable clean plain (two_numbers m n lt few)
    (omega (arith, short, line_length first (decimal m ∷ decimal n ∷ []), (small m lt).short, (small n few).short))

pub add_line : (m n : ℕ) → m < 100000 → n < 100000 → Says (codes "add") (decimal m ∷ decimal n ∷ []) (verb.Operation word.Add) (says.Operation (op.Add m n plain))
unfolding op_word_of
add_line m n lt few = placed (op.Add m n plain) (codes "add") word.Add m n refl refl ((omega (arith, lt), omega (arith, few)), refl) refl refl (omega arith) lt few

pub del_line : (m n : ℕ) → m < 100000 → n < 100000 → Says (codes "del") (decimal m ∷ decimal n ∷ []) (verb.Operation word.Del) (says.Operation (op.Del m n plain))
unfolding op_word_of
del_line m n lt few = placed (op.Del m n plain) (codes "del") word.Del m n refl refl ((omega (arith, lt), omega (arith, few)), refl) refl refl (omega arith) lt few

pub setup_line : (m n : ℕ) → m < 100000 → n < 100000 → Says (codes "setup") (decimal m ∷ decimal n ∷ []) (verb.Operation word.Setup) (says.Operation (op.Setup m n plain))
unfolding op_word_of
setup_line m n lt few = placed (op.Setup m n plain) (codes "setup") word.Setup m n refl refl ((omega (arith, lt), omega (arith, few)), refl) refl refl (omega arith) lt few
