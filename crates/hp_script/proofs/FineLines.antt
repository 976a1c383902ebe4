-- Lines of clean words of which none is refused, each after those before it, as they stand in a text.
use Rattle.std.proofs.Common.{◌≡◌, ℕ, ◌+◌, ◌≤◌, Bool, true, false, cond, not, ◌&&◌, List, [], ◌∷◌, ◌++◌, length, map, Option, Some, None, Ok, refl, sym, ap, subst, ◌∙◌, append_assoc, arith}
use Rattle.std.specs.Result.{result_ok}
use Rattle.std.specs.List.{flat_map}
use Rattle.std.proofs.lemmas.List.{append-nil, length-append, map-append}
use Rattle.std.proofs.lemmas.List.Concat.{flat_map-append}
use Rattle.hp_model.specs.Words.{joined, line}
use Rattle.hp_text.specs.Readings.{Reading}
use Rattle.hp_script.specs.declared.error.ScriptKind.TheVariants.{NoCpus, BadWord, BadOrder, StillLocked, BadForm, BadNumber, NoSub, TooMany}
use Rattle.hp_script.specs.declared.verb.Verb.{Verb}
use Rattle.hp_script.specs.declared.before.Before.{Before}
use Rattle.hp_script.specs.declared.statement.Statement.{Statement}
use Rattle.hp_script.specs.Pieces.{pieces}
use Rattle.hp_script.specs.Words.{words, has_bad_byte, is_comment}
use Rattle.hp_script.specs.Verbs.{verb_of}
use Rattle.hp_script.specs.Statements.{statement_by, statement_behind, statement_in}
use Rattle.hp_script.specs.Ranges.{is_in_range}
use Rattle.hp_script.specs.Before.{after, after_line, after_lines, after_maybe, statement_of}
use Rattle.hp_script.specs.Refusals.{is_first, is_cpus, is_actor, can_stand, names_no_sub, is_too_many, first_of, wrongs, refusal_of_words, refusal}
use Rattle.hp_script.specs.Judged.{AreFine}
use Rattle.hp_script.proofs.CleanLines.{is_clean, are_clean, words_again, line_good, line_parts}

-- a line of these words says this, and isn't long
pub record Says (first : List ℕ) (rest : List (List ℕ)) (v : Verb) (s : Statement) : Type 0 where
  pub verb : verb_of first ≡ Some v
  pub said : statement_by v rest ≡ Ok s
  pub clean : is_clean first ≡ true
  pub cleans : are_clean rest ≡ true
  pub plain : is_comment first ≡ false
  pub short : length (line (first ∷ rest)) ≤ 64

-- a statement can stand here, but for want of room
pub record Stands (b : Before) (v : Verb) (s : Statement) : Type 0 where
  pub first : (is_first b.group && not (is_cpus (Some v))) ≡ false
  pub stands : can_stand b.group v ≡ true
  pub unlocked : (is_actor (Some v) && b.locked) ≡ false
  pub range : is_in_range b.possible s ≡ true
  pub sub : names_no_sub b.subs s ≡ false

verdict_of : (hooks : ℕ) (b : Before) (line first : List ℕ) (rest : List (List ℕ)) → has_bad_byte line ≡ false → words line ≡ first ∷ rest → is_comment first ≡ false
    → refusal hooks b line ≡ refusal_of_words hooks b (first ∷ rest)
verdict_of hooks b line first rest good are plain = rw (good, are, plain) refl

said_of : (line first : List ℕ) (rest : List (List ℕ)) → words line ≡ first ∷ rest → is_comment first ≡ false → statement_of line ≡ result_ok (statement_in (first ∷ rest))
said_of line first rest are plain = rw (are, plain) refl

pub line_says : (first : List ℕ) (rest : List (List ℕ)) (v : Verb) (s : Statement) → Says first rest v s → statement_of (joined (first ∷ rest)) ≡ Some s
line_says first rest v s h =
    said_of (joined (first ∷ rest)) first rest (words_again first rest h.clean h.cleans) h.plain
    ∙ ap (λ (o : Option Verb). result_ok (statement_behind o rest)) h.verb
    ∙ ap (λ (r : Reading Statement). result_ok r) h.said

pub line_verdict : (hooks : ℕ) (b : Before) (first : List ℕ) (rest : List (List ℕ)) (v : Verb) (s : Statement) → Says first rest v s
    → refusal hooks b (joined (first ∷ rest)) ≡ first_of (wrongs hooks b (Some v) (Ok s))
line_verdict hooks b first rest v s h =
    verdict_of hooks b (joined (first ∷ rest)) first rest (line_good first rest h.clean h.cleans) (words_again first rest h.clean h.cleans) h.plain
    ∙ ap (λ (o : Option Verb). first_of (wrongs hooks b o (statement_behind o rest))) h.verb
    ∙ ap (λ (r : Reading Statement). first_of (wrongs hooks b (Some v) r)) h.said

last_row : (a c d e f g : Bool) → a ≡ false → c ≡ true → d ≡ false → e ≡ true → f ≡ false
    → first_of ((a, NoCpus) ∷ (false, BadWord) ∷ (not c, BadOrder) ∷ (d, StillLocked) ∷ (false, BadForm) ∷ (not e, BadNumber) ∷ (f, NoSub) ∷ (g, TooMany) ∷ []) ≡ cond g (Some TooMany) None
last_row a c d e f g ea ec ed ee ef = rw (ea, ec, ed, ee, ef) refl

-- only the room is left to be asked for
pub asks_room : (hooks : ℕ) (b : Before) (v : Verb) (s : Statement) → Stands b v s → first_of (wrongs hooks b (Some v) (Ok s)) ≡ cond (is_too_many hooks b s) (Some TooMany) None
asks_room hooks b v s h =
    last_row (is_first b.group && not (is_cpus (Some v))) (can_stand b.group v) (is_actor (Some v) && b.locked) (is_in_range b.possible s) (names_no_sub b.subs s) (is_too_many hooks b s)
    h.first h.stands h.unlocked h.range h.sub

pub line_fine : (hooks : ℕ) (b : Before) (first : List ℕ) (rest : List (List ℕ)) (v : Verb) (s : Statement) → Says first rest v s → Stands b v s → is_too_many hooks b s ≡ false
    → refusal hooks b (joined (first ∷ rest)) ≡ None
line_fine hooks b first rest v s h stands room =
    line_verdict hooks b first rest v s h ∙ asks_room hooks b v s stands ∙ ap (λ (t : Bool). cond t (Some TooMany) None) room

pub line_too_many : (hooks : ℕ) (b : Before) (first : List ℕ) (rest : List (List ℕ)) (v : Verb) (s : Statement) → Says first rest v s → Stands b v s → is_too_many hooks b s ≡ true
    → refusal hooks b (joined (first ∷ rest)) ≡ Some TooMany
line_too_many hooks b first rest v s h stands full =
    line_verdict hooks b first rest v s h ∙ asks_room hooks b v s stands ∙ ap (λ (t : Bool). cond t (Some TooMany) None) full

-- ---- some lines

pub record FineTo (hooks : ℕ) (b : Before) (ls : List (List (List ℕ))) (most : ℕ) (c : Before) : Type 0 where
  pub parts : (rest : List ℕ) → pieces 10 (flat_map line ls ++ rest) ≡ map joined ls ++ pieces 10 rest
  pub short : length (flat_map line ls) ≤ most
  pub fine : AreFine hooks b (map joined ls)
  pub ends : after_lines b (map joined ls) ≡ c

pub none : (hooks : ℕ) (b : Before) → FineTo hooks b [] 0 b
none hooks b = record { parts = λ rest. refl; short = omega arith; fine = tt; ends = refl }

pub one : (hooks : ℕ) (b : Before) (first : List ℕ) (rest : List (List ℕ)) (v : Verb) (s : Statement) → Says first rest v s → Stands b v s → is_too_many hooks b s ≡ false
    → FineTo hooks b ((first ∷ rest) ∷ []) 64 (after b s)
one hooks b first rest v s h stands room = record {
  parts = λ more. ap (λ (w : List ℕ). pieces 10 (w ++ more)) (append-nil (line (first ∷ rest))) ∙ line_parts first rest more h.clean h.cleans;
  short = omega (arith, h.short, length-append (line (first ∷ rest)) []);
  fine = (line_fine hooks b first rest v s h stands room, tt);
  ends = ap (after_maybe b) (line_says first rest v s h);
}

fine_append : (hooks : ℕ) (b : Before) (xs ys : List (List ℕ)) → AreFine hooks b xs → AreFine hooks (after_lines b xs) ys → AreFine hooks b (xs ++ ys)
fine_append hooks b [] ys f g = g
fine_append hooks b (x ∷ xs) ys f g = (f.0, fine_append hooks (after_line b x) xs ys f.1 g)

after_append : (b : Before) (xs ys : List (List ℕ)) → after_lines b (xs ++ ys) ≡ after_lines (after_lines b xs) ys
after_append b [] ys = refl
after_append b (x ∷ xs) ys = after_append (after_line b x) xs ys

pub both : (hooks : ℕ) (b c d : Before) (xs ys : List (List (List ℕ))) (m n : ℕ) → FineTo hooks b xs m c → FineTo hooks c ys n d → FineTo hooks b (xs ++ ys) (m + n) d
both hooks b c d xs ys m n f g = record {
  parts = λ rest.
      ap (λ (w : List ℕ). pieces 10 (w ++ rest)) (flat_map-append line xs ys)
      ∙ ap (pieces 10) (append_assoc (flat_map line xs) (flat_map line ys) rest)
      ∙ f.parts (flat_map line ys ++ rest)
      ∙ ap (λ (ps : List (List ℕ)). map joined xs ++ ps) (g.parts rest)
      ∙ sym (append_assoc (map joined xs) (map joined ys) (pieces 10 rest))
      ∙ ap (λ (ps : List (List ℕ)). ps ++ pieces 10 rest) (sym (map-append joined xs ys));
  short = omega (arith, f.short, g.short, ap length (flat_map-append line xs ys), length-append (flat_map line xs) (flat_map line ys));
  fine = subst (AreFine hooks b) (sym (map-append joined xs ys))
      (fine_append hooks b (map joined xs) (map joined ys) f.fine (subst (λ (x : Before). AreFine hooks x (map joined ys)) (sym f.ends) g.fine));
  ends = ap (after_lines b) (map-append joined xs ys)
      ∙ after_append b (map joined xs) (map joined ys)
      ∙ ap (λ (x : Before). after_lines x (map joined ys)) f.ends
      ∙ g.ends;
}

pub longer : (hooks : ℕ) (b c : Before) (ls : List (List (List ℕ))) (m n : ℕ) → m ≤ n → FineTo hooks b ls m c → FineTo hooks b ls n c
longer hooks b c ls m n le f = record { parts = f.parts; short = omega (arith, le, f.short); fine = f.fine; ends = f.ends }

-- the lines of their text
pub lines_are : (hooks : ℕ) (b c : Before) (ls : List (List (List ℕ))) (most : ℕ) → FineTo hooks b ls most c → pieces 10 (flat_map line ls) ≡ map joined ls
lines_are hooks b c ls most f =
    ap (pieces 10) (sym (append-nil (flat_map line ls))) ∙ f.parts [] ∙ nil_lines (map joined ls)
  where
    nil_lines : (xs : List (List ℕ)) → xs ++ [] ≡ xs
    nil_lines [] = refl
    nil_lines (x ∷ xs) = ap (λ (ws : List (List ℕ)). x ∷ ws) (nil_lines xs)
