-- The loop over the lines: what was read so far, and what follows at a refusal and at the end.
use Rattle.std.proofs.Common.{◌≡◌, ℕ, ◌+◌, ◌≤◌, false, List, [], ◌∷◌, ◌++◌, length, Option, Some, None, Err, refl, sym, ap, subst, ◌∙◌, append_assoc, length-append, arith}
use Rattle.std.proofs.lemmas.Bool.{leb-false}
use Rattle.std.specs.List.{cons_option}
use Rattle.std.proofs.lemmas.List.{append-nil}
use Rattle.std.proofs.lemmas.List.Elements.{filter_map-append}
use Rattle.std.specs.Prelude.{vec_items, vec_len}
use Rattle.hp_states.specs.declared.limits.TheConstants.{MAX_RULES, MAX_ACTORS, MAX_SCRIPT_BYTES}
use Rattle.hp_states.specs.declared.plan.Rule.{Rule}
use Rattle.hp_event.specs.declared.head.Sub.{Sub}
use Rattle.hp_script.specs.declared.error.ScriptKind.{ScriptKind}
use Rattle.hp_script.specs.declared.stop.Stop.{Stop}
use Rattle.hp_script.specs.declared.stop.Stop.TheVariants.{Bad, NoMemory}
use Rattle.hp_script.specs.LineAnswers.{AnswersStep, error_at}
use Rattle.hp_script.specs.declared.before.Before.{Before}
use Rattle.hp_script.specs.declared.draft.Draft.{Draft}
use Rattle.hp_script.specs.declared.statement.Statement.{Statement}
use Rattle.hp_script.specs.declared.statement.Statement.TheVariants as says
use Rattle.hp_script.specs.Pieces.{lines, next}
use Rattle.hp_script.specs.Before.{start, after, statement_of, after_line, after_lines, before}
use Rattle.hp_script.specs.Refusals.{refusal, refusal_at_end, is_too_many}
use Rattle.hp_script.specs.Script.{Contents, statements, script_in}
use Rattle.hp_script.specs.Drafts.{contents_of, contents_and, contents_maybe, subs_and, with_last, one_rule_more, one_op_more, last_rules, HasPlace, Fits}
use Rattle.hp_script.specs.Judged.{AreFine, IsRefused, IsRead, RefusesOrWants, too_long, at_line, at_end}
use Rattle.hp_script.proofs.Groups.{script_more}
use Rattle.hp_script.proofs.Lasts.{as_many, map_length}

pub some_none : (kind : ScriptKind) → ◌≡◌ {A = Option ScriptKind} (Some kind) None → ⊥
some_none kind e = absurd cc

-- ---- rules of the last subsystem

no_rules : (subs : List Sub) (sub : Sub) → last_rules (subs ++ record sub { plan = [] } ∷ []) ≡ 0
no_rules [] sub = refl
no_rules (a ∷ []) sub = refl
no_rules (a ∷ b ∷ bs) sub = no_rules (b ∷ bs) sub

one_more : (subs : List Sub) (rule : Rule) → last_rules (with_last (one_rule_more rule) subs) ≤ last_rules subs + 1
one_more [] rule = omega arith
one_more (a ∷ []) rule = omega (arith, length-append a.plan (rule ∷ []))
one_more (a ∷ b ∷ []) rule = omega (arith, length-append b.plan (rule ∷ []))
one_more (a ∷ b ∷ c ∷ cs) rule = one_more (b ∷ c ∷ cs) rule

pub rules_kept : (b : Before) (subs : List Sub) (s : Statement) → last_rules subs ≤ b.rules → last_rules (subs_and subs s) ≤ (after b s).rules
rules_kept b subs (says.Sub sub) few = omega (arith, no_rules subs sub)
rules_kept b subs (says.Rule rule) few = omega (arith, one_more subs rule, few)
rules_kept b subs other few = few

pub has_place : (hooks : ℕ) (b : Before) (subs : List Sub) (s : Statement) → last_rules subs ≤ b.rules → is_too_many hooks b s ≡ false → HasPlace subs s
has_place hooks b subs (says.Rule rule) few room = omega (arith, few, leb-false MAX_RULES b.rules room)
has_place hooks b subs other few room = tt

-- ---- the lines so far

pub record SoFar (hooks number : ℕ) (all rest : List (List ℕ)) (b : Before) (d : Draft) : Type 0 where
  pub front : List (List ℕ)
  pub parts : all ≡ front ++ rest
  pub count : number ≡ length front + 1
  pub fine : AreFine hooks start front
  pub stood : b ≡ before front
  pub said : contents_of d ≡ script_in (statements front)
  pub fits : Fits (contents_of d) b

fine_more : (hooks : ℕ) (b : Before) (front : List (List ℕ)) (line : List ℕ) → AreFine hooks b front → refusal hooks (after_lines b front) line ≡ None → AreFine hooks b (front ++ line ∷ [])
fine_more hooks b [] line fine good = (good, tt)
fine_more hooks b (l ∷ ls) line fine good = (fine.0, fine_more hooks (after_line b l) ls line fine.1 good)

after_more : (b : Before) (front : List (List ℕ)) (line : List ℕ) → after_lines b (front ++ line ∷ []) ≡ after_line (after_lines b front) line
after_more b [] line = refl
after_more b (l ∷ ls) line = after_more (after_line b l) ls line

pub contents_more : (front : List (List ℕ)) (line : List ℕ) → script_in (statements (front ++ line ∷ [])) ≡ contents_maybe (script_in (statements front)) (statement_of line)
contents_more front line = ap script_in (filter_map-append statement_of front (line ∷ [])) ∙ by_statement (statement_of line)
  where
    by_statement : (s : Option Statement) → script_in (statements front ++ cons_option s []) ≡ contents_maybe (script_in (statements front)) s
    by_statement None = ap script_in (append-nil (statements front))
    by_statement (Some s) = script_more (statements front) s

pub goes_on : (hooks number : ℕ) (all : List (List ℕ)) (line : List ℕ) (behind : List (List ℕ)) (b c : Before) (d e : Draft)
    → refusal hooks b line ≡ None → c ≡ after_line b line → contents_of e ≡ contents_maybe (contents_of d) (statement_of line) → Fits (contents_of e) c
    → SoFar hooks number all (line ∷ behind) b d → SoFar hooks (number + 1) all behind c e
goes_on hooks number all line behind b c d e good stood said fits s = record {
  front = s.front ++ line ∷ [];
  parts = s.parts ∙ sym (append_assoc s.front (line ∷ []) behind);
  count = omega (arith, s.count, length-append s.front (line ∷ []));
  fine = fine_more hooks start s.front line s.fine (sym (ap (λ (x : Before). refusal hooks x line) s.stood) ∙ good);
  stood = stood ∙ ap (λ (x : Before). after_line x line) s.stood ∙ sym (after_more start s.front line);
  said = said ∙ ap (λ (x : Contents). contents_maybe x (statement_of line)) s.said ∙ sym (contents_more s.front line);
  fits = fits;
}

pub stops : (hooks number : ℕ) (bytes : List ℕ) (line : List ℕ) (behind : List (List ℕ)) (b : Before) (d : Draft) (kind : ScriptKind)
    → length bytes ≤ MAX_SCRIPT_BYTES → refusal hooks b line ≡ Some kind → SoFar hooks number (lines bytes) (line ∷ behind) b d → IsRefused hooks bytes number kind
stops hooks number bytes line behind b d kind short bad s = at_line hooks bytes number kind short (record {
  front = s.front;
  line = line;
  back = behind;
  parts = s.parts;
  count = s.count;
  fine = s.fine;
  refused = sym (ap (λ (x : Before). refusal hooks x line) s.stood) ∙ bad;
})

pub stops_at : (hooks number : ℕ) (bytes : List ℕ) (line : List ℕ) (behind : List (List ℕ)) (b c : Before) (d e : Draft) (stop : Stop)
    → length bytes ≤ MAX_SCRIPT_BYTES → AnswersStep hooks line b c d e (Err stop) → SoFar hooks number (lines bytes) (line ∷ behind) b d → RefusesOrWants hooks bytes (error_at number stop)
stops_at hooks number bytes line behind b c d e (Bad kind) short bad s = stops hooks number bytes line behind b d kind short bad s
stops_at hooks number bytes line behind b c d e NoMemory short bad s = tt

-- ---- the end

pub ends_badly : (hooks number : ℕ) (bytes : List ℕ) (b : Before) (d : Draft) (kind : ScriptKind)
    → length bytes ≤ MAX_SCRIPT_BYTES → refusal_at_end b ≡ Some kind → SoFar hooks number (lines bytes) [] b d → IsRefused hooks bytes number kind
ends_badly hooks number bytes b d kind short bad s =
    let all : lines bytes ≡ s.front = s.parts ∙ append-nil s.front in
    at_end hooks bytes number kind short (record {
      count = s.count ∙ ap (λ (ls : List (List ℕ)). length ls + 1) (sym all);
      fine = subst (AreFine hooks start) (sym all) s.fine;
      refused = sym (ap (λ (ls : List (List ℕ)). refusal_at_end (before ls)) (sym all)) ∙ sym (ap refusal_at_end s.stood) ∙ bad;
    })

pub fine_at : (hooks : ℕ) (b : Before) (front : List (List ℕ)) (line : List ℕ) (back : List (List ℕ)) → AreFine hooks b (front ++ line ∷ back) → refusal hooks (after_lines b front) line ≡ None
fine_at hooks b [] line back fine = fine.0
fine_at hooks b (l ∷ ls) line back fine = fine_at hooks (after_line b l) ls line back fine.1

pub ends_well : (hooks number : ℕ) (bytes : List ℕ) (b : Before) (d : Draft) (script : Contents)
    → length bytes ≤ MAX_SCRIPT_BYTES → refusal_at_end b ≡ None → script ≡ contents_of d → SoFar hooks number (lines bytes) [] b d → IsRead hooks bytes script
ends_well hooks number bytes b d script short good is s =
    let all : lines bytes ≡ s.front = s.parts ∙ append-nil s.front in
    let fine : AreFine hooks start (lines bytes) = subst (AreFine hooks start) (sym all) s.fine in
    let ended : refusal_at_end (before (lines bytes)) ≡ None = ap (λ (ls : List (List ℕ)). refusal_at_end (before ls)) all ∙ sym (ap refusal_at_end s.stood) ∙ good in
    record {
      unrefused = λ number kind refused. never number kind fine ended short refused;
      says = is ∙ s.said ∙ ap (λ (ls : List (List ℕ)). script_in (statements ls)) (sym all);
    }
  where
    never : (number : ℕ) (kind : ScriptKind) → AreFine hooks start (lines bytes) → refusal_at_end (before (lines bytes)) ≡ None → length bytes ≤ MAX_SCRIPT_BYTES → IsRefused hooks bytes number kind → ⊥
    never number kind fine ended short (too_long h bs long) = omega (arith, long, short)
    never number kind fine ended short (at_line h bs n k s bad) =
        let none = fine_at hooks start bad.front bad.line bad.back (subst (AreFine hooks start) bad.parts fine) in
        some_none kind (sym bad.refused ∙ none)
    never number kind fine ended short (at_end h bs n k s bad) = some_none kind (sym bad.refused ∙ ended)

-- no piece is left
pub no_next : (pieces : List (List ℕ)) → None ≡ next pieces → pieces ≡ []
no_next [] e = refl
no_next (p ∷ ps) e = absurd cc

-- what one statement more makes of the counts
pub fits_more : (hooks : ℕ) (s : Contents) (b : Before) (t : Statement) → is_too_many hooks b t ≡ false → Fits s b → Fits (contents_and s t) (after b t)
fits_more hooks s b (says.Cpus n) room f = record { rules = f.rules; actors = f.actors; few = f.few }
fits_more hooks s b (says.Absent ns) room f = record { rules = f.rules; actors = f.actors; few = f.few }
fits_more hooks s b (says.Sub sub) room f = record { rules = rules_kept b s.head.subs (says.Sub sub) f.rules; actors = f.actors; few = f.few }
fits_more hooks s b (says.Rule rule) room f = record { rules = rules_kept b s.head.subs (says.Rule rule) f.rules; actors = f.actors; few = f.few }
fits_more hooks s b (says.Schedule schedule) room f = record { rules = f.rules; actors = f.actors; few = f.few }
fits_more hooks s b says.Actor room f = record {
  rules = f.rules;
  actors = omega (arith, f.actors, length-append s.actors ([] ∷ []));
  few = omega (arith, leb-false MAX_ACTORS b.actors room);
}
fits_more hooks s b (says.Operation op) room f = record {
  rules = f.rules;
  actors = omega (arith, f.actors, as_many (one_op_more op) s.actors);
  few = f.few;
}

pub fits_said : (hooks : ℕ) (b : Before) (s t : Contents) (said : Statement) → is_too_many hooks b said ≡ false → Fits s b → t ≡ contents_and s said → Fits t (after b said)
fits_said hooks b s t said room f is = subst (λ (t : Contents). Fits t (after b said)) (sym is) (fits_more hooks s b said room f)

-- few enough actors for a script
pub few_actors : (hooks number : ℕ) (all rest : List (List ℕ)) (b : Before) (d : Draft) → SoFar hooks number all rest b d → vec_len d.actors ≤ MAX_ACTORS
few_actors hooks number all rest b d s = omega (arith, d.actors.ok.0, map_length vec_items d.actors.items, s.fits.actors, s.fits.few)
