-- What holds of a statement whose line isn't refused, after what stood before it.
use Rattle.std.proofs.Common.{◌≡◌, ℕ, Bool, true, false, not, cond, ◌&&◌, List, [], ◌∷◌, Option, Some, None, Ok, Err, refl, sym, ap, subst, ◌∙◌}
use Rattle.std.specs.Result.{result_ok}
use Rattle.hp_states.proofs.Basics.{not_false}
use Rattle.hp_states.specs.Names.{IsName}
use Rattle.hp_model.specs.Heads.{IsRule}
use Rattle.hp_text.specs.Numbers.{number}
use Rattle.hp_text.specs.Readings.{Reading, said, alone}
use Rattle.hp_text.specs.Lists.{number_list}
use Rattle.hp_text.specs.Subs.{sub, rule}
use Rattle.hp_text.specs.OpAt.{op_tail}
use Rattle.hp_text.proofs.Readings.{said_ok}
use Rattle.hp_text.proofs.SubLaws.{sub_takes, rule_takes}
use Rattle.hp_script.specs.declared.error.ScriptKind.{ScriptKind}
use Rattle.hp_script.specs.declared.error.ScriptKind.TheVariants.{BadByte}
use Rattle.hp_script.specs.declared.verb.Verb.{Verb}
use Rattle.hp_script.specs.declared.verb.Verb.TheVariants as verb
use Rattle.hp_script.specs.declared.before.Group.{Group}
use Rattle.hp_script.specs.declared.before.Before.{Before}
use Rattle.hp_script.specs.declared.statement.Statement.{Statement}
use Rattle.hp_script.specs.declared.statement.Statement.TheVariants as says
use Rattle.hp_script.specs.Words.{words, has_bad_byte, is_skipped, is_comment}
use Rattle.hp_script.specs.Verbs.{verb_of}
use Rattle.hp_script.specs.Statements.{schedule, label, statement_by, statement_behind, statement_in}
use Rattle.hp_script.specs.Ranges.{is_in_range}
use Rattle.hp_script.specs.Before.{statement_of}
use Rattle.hp_script.specs.Refusals.{is_first, is_cpus, is_actor, can_stand, names_no_sub, is_too_many, first_of, wrongs, refusal_of_words, refusal}

abbrev pub says_cpus : Statement → Bool
says_cpus (says.Cpus n) = true
says_cpus _ = false

abbrev pub says_actor : Statement → Bool
says_actor says.Actor = true
says_actor _ = false

-- a subsystem has no name or one of the form of names, and a rule's numbers are in their ranges
abbrev pub IsFormed : Statement → Type 0
IsFormed (says.Sub sub) = IsName sub.name
IsFormed (says.Rule rule) = IsRule rule
IsFormed other = Unit {0}

pub record Taken (hooks : ℕ) (b : Before) (s : Statement) : Type 0 where
  pub first : is_first b.group ≡ says_cpus s
  pub unlocked : (says_actor s && b.locked) ≡ false
  pub formed : IsFormed s
  pub range : is_in_range b.possible s ≡ true
  pub sub : names_no_sub b.subs s ≡ false
  pub room : is_too_many hooks b s ≡ false

and_yes : (a : Bool) → (a && true) ≡ false → a ≡ false
and_yes true e = absurd cc
and_yes false e = refl

-- ---- a first word and what its line says

record Fitting (v : Verb) (s : Statement) : Type 0 where
  cpus : is_cpus (Some v) ≡ says_cpus s
  actor : is_actor (Some v) ≡ says_actor s
  formed : IsFormed s

mapped : {A : Type 0} (f : A → Statement) (r : Reading A) (s : Statement) (v : Verb) → said f r ≡ Ok s
    → ((a : A) → r ≡ Ok a → Fitting v (f a)) → Fitting v s
mapped f r s v e h = let m = said_ok f r s e in subst (Fitting v) m.2 (h m.0 m.1)

fitting : (v : Verb) (words : List (List ℕ)) (s : Statement) → statement_by v words ≡ Ok s → Fitting v s
fitting verb.Cpus words s e = mapped (λ n. says.Cpus n) (alone number words) s verb.Cpus e (λ a is. record { cpus = refl; actor = refl; formed = tt })
fitting verb.Absent words s e = mapped (λ n. says.Absent n) (number_list words) s verb.Absent e (λ a is. record { cpus = refl; actor = refl; formed = tt })
fitting verb.Sub words s e = mapped (λ n. says.Sub n) (sub words) s verb.Sub e (λ a is. record { cpus = refl; actor = refl; formed = (sub_takes words a is).1.0 })
fitting verb.Rule words s e = mapped (λ n. says.Rule n) (rule words) s verb.Rule e (λ a is. record { cpus = refl; actor = refl; formed = (rule_takes words a is).1 })
fitting verb.Schedule words s e = mapped (λ n. says.Schedule n) (schedule words) s verb.Schedule e (λ a is. record { cpus = refl; actor = refl; formed = tt })
fitting verb.Actor words s e = mapped (λ _. says.Actor) (alone label words) s verb.Actor e (λ a is. record { cpus = refl; actor = refl; formed = tt })
fitting (verb.Operation first) words s e = mapped (λ o. says.Operation o) (op_tail first words) s (verb.Operation first) e (λ a is. record { cpus = refl; actor = refl; formed = tt })

-- ---- no condition holds

abbrev NoneHolds : List (Bool × ScriptKind) → Type 0
NoneHolds [] = Unit {0}
NoneHolds (row ∷ rows) = (row.0 ≡ false) × NoneHolds rows

none_holds : (rows : List (Bool × ScriptKind)) → first_of rows ≡ None → NoneHolds rows
none_holds [] e = tt
none_holds (row ∷ rows) e = by_test row.0 refl e (λ h. none_holds rows h)
  where
    by_test : (t : Bool) → row.0 ≡ t → cond t (Some row.1) (first_of rows) ≡ None → (first_of rows ≡ None → NoneHolds rows) → (row.0 ≡ false) × NoneHolds rows
    by_test true is e more = absurd cc
    by_test false is e more = (is, more e)

first_is : (g : Group) (v : Verb) → (is_first g && not (is_cpus (Some v))) ≡ false → not (can_stand g v) ≡ false → is_first g ≡ is_cpus (Some v)
first_is g verb.Cpus cpus stands = not_false (is_first g) stands
first_is g other cpus stands = and_yes (is_first g) cpus

taken_verb : (hooks : ℕ) (b : Before) (v : Option Verb) (rest : List (List ℕ)) (s : Statement)
    → first_of (wrongs hooks b v (statement_behind v rest)) ≡ None → statement_behind v rest ≡ Ok s → Taken hooks b s
taken_verb hooks b None rest s fine said = absurd cc
taken_verb hooks b (Some v) rest s fine said =
    let f = fitting v rest s said in
    let all = none_holds (wrongs hooks b (Some v) (Ok s)) (sym (ap (λ (r : Reading Statement). first_of (wrongs hooks b (Some v) r)) said) ∙ fine) in
    record {
      first = first_is b.group v all.0 all.1.1.0 ∙ f.cpus;
      unlocked = ap (λ (a : Bool). a && b.locked) (sym f.actor) ∙ all.1.1.1.0;
      formed = f.formed;
      range = not_false (is_in_range b.possible s) all.1.1.1.1.1.0;
      sub = all.1.1.1.1.1.1.0;
      room = all.1.1.1.1.1.1.1.0;
    }

ok_is : (r : Reading Statement) (s : Statement) → result_ok r ≡ Some s → r ≡ Ok s
ok_is (Ok t) s e = cc
ok_is (Err u) s e = absurd cc

taken_words : (hooks : ℕ) (b : Before) (ws : List (List ℕ)) (s : Statement)
    → cond (is_skipped ws) None (refusal_of_words hooks b ws) ≡ None → cond (is_skipped ws) None (result_ok (statement_in ws)) ≡ Some s → Taken hooks b s
taken_words hooks b [] s fine said = absurd cc
taken_words hooks b (first ∷ rest) s fine said = by_comment (is_comment first) fine said
  where
    by_comment : (t : Bool) → cond t None (refusal_of_words hooks b (first ∷ rest)) ≡ None → cond t None (result_ok (statement_in (first ∷ rest))) ≡ Some s → Taken hooks b s
    by_comment true fine said = absurd cc
    by_comment false fine said = taken_verb hooks b (verb_of first) rest s fine (ok_is (statement_in (first ∷ rest)) s said)

pub taken : (hooks : ℕ) (b : Before) (line : List ℕ) (s : Statement) → refusal hooks b line ≡ None → statement_of line ≡ Some s → Taken hooks b s
taken hooks b line s fine said = by_bytes (has_bad_byte line) fine
  where
    by_bytes : (t : Bool) → cond t (Some BadByte) (cond (is_skipped (words line)) None (refusal_of_words hooks b (words line))) ≡ None → Taken hooks b s
    by_bytes true fine = absurd cc
    by_bytes false fine = taken_words hooks b (words line) s fine said
