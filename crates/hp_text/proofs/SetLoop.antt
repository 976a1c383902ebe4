-- The words of a set read one by one: those that were read are numbers that rise, and the set so far is theirs.
use Rattle.std.proofs.Common.{◌≡◌, ℕ, ◌+◌, ◌<◌, ◌≤◌, Bool, true, false, cond, ◌&&◌, eqb, leb, ltb, List, [], ◌∷◌, ◌++◌, map, Some, None, Ok, Err, refl, sym, ap, ◌∙◌, subst, append_assoc, arith}
use Rattle.std.specs.Prelude.{Result}
use Rattle.std.specs.List.{list_all}
use Rattle.std.proofs.lemmas.Bool.{leb-true, le-leb, ltb-true, lt-ltb, and_from, ne_eqb}
use Rattle.std.proofs.lemmas.List.{append-nil, map-append}
use Rattle.std.proofs.lemmas.List.Folds.{list_all-append}
use Rattle.hp_states.specs.declared.cpu_set.CpuSet.{CpuSet}
use Rattle.hp_states.specs.CpuSets.{has}
use Rattle.hp_model.specs.Lists.{is_empty}
use Rattle.hp_model.specs.SetOf.{set_of, IsSet}
use Rattle.hp_model.proofs.SetLemmas.{none_put}
use Rattle.hp_text.specs.declared.unread.Unread.{Unread}
use Rattle.hp_text.specs.declared.unread.Unread.TheVariants.{NotOfForm, OutOfRange}
use Rattle.hp_text.specs.Words.{first_of, others_of}
use Rattle.hp_text.specs.Numbers.{is_number, value, if_below, number_below, at_least, number_from}
use Rattle.hp_text.specs.Sets.{rise_from, set}

-- ---- a word that was taken

pub taken : (w : List ℕ) (ws all : List (List ℕ)) → Some w ≡ first_of all → ws ≡ others_of all → all ≡ w ∷ ws
taken w ws [] e f = absurd cc
taken w ws (v ∷ vs) e f = let same : w ≡ v = cc in cc

pub none_taken : (all : List (List ℕ)) → None ≡ first_of all → all ≡ []
none_taken [] e = refl
none_taken (w ∷ ws) e = absurd cc

-- ---- what a word was, by what it says as the next number

abbrev next : (form : Bool) (low n : ℕ) → Result ℕ Unread
next form low n = at_least low (cond form (if_below 256 n) (Err NotOfForm))

-- the word is a number, and the next one of numbers that rise
pub record IsNext (low : ℕ) (w : List ℕ) (cpu : ℕ) : Type 0 where
  pub form : is_number w ≡ true
  pub value_is : value w ≡ cpu
  pub from : low ≤ cpu
  pub below : cpu < 256

next_is : (low n cpu : ℕ) (form small least : Bool) → ltb n 256 ≡ small → leb low n ≡ least → next form low n ≡ Ok cpu →
    (form ≡ true) × (n ≡ cpu) × (least ≡ true) × (small ≡ true)
next_is low n cpu true true true s l e = let t : at_least low (cond (ltb n 256) (Ok n) (Err OutOfRange)) ≡ Ok cpu = e in let u : n ≡ cpu = (let v = rw (s, l) at t in cc) in (refl, u, refl, refl)
next_is low n cpu true true false s l e = let v = rw (s, l) at e in absurd cc
next_is low n cpu true false least s l e = let v = rw s at e in absurd cc
next_is low n cpu false small least s l e = absurd cc

pub next_number : (low cpu : ℕ) (w : List ℕ) → Ok cpu ≡ number_from low 256 w → IsNext low w cpu
unfolding number_below
next_number low cpu w e =
    let p = next_is low (value w) cpu (is_number w) (ltb (value w) 256) (leb low (value w)) refl refl (sym e) in
    record {
      form = p.0;
      value_is = p.1;
      from = subst (λ n. low ≤ n) p.1 (leb-true low (value w) p.2);
      below = subst (λ n. n < 256) p.1 (ltb-true (value w) 256 p.3);
    }

no_number_by : (low n : ℕ) (form small least : Bool) → ltb n 256 ≡ small → leb low n ≡ least → Err NotOfForm ≡ next form low n → form ≡ false
no_number_by low n true true true s l e = let v = rw (s, l) at e in absurd cc
no_number_by low n true true false s l e = let v = rw (s, l) at e in absurd cc
no_number_by low n true false least s l e = let v = rw s at e in absurd cc
no_number_by low n false small least s l e = refl

pub no_number : (low : ℕ) (w : List ℕ) → Err NotOfForm ≡ number_from low 256 w → is_number w ≡ false
unfolding number_below
no_number low w e = no_number_by low (value w) (is_number w) (ltb (value w) 256) (leb low (value w)) refl refl e

out_by : (low n : ℕ) (form small least : Bool) → ltb n 256 ≡ small → leb low n ≡ least → Err OutOfRange ≡ next form low n → (form ≡ true) × ((least && small) ≡ false)
out_by low n true true true s l e = let v = rw (s, l) at e in absurd cc
out_by low n true true false s l e = (refl, refl)
out_by low n true false true s l e = (refl, refl)
out_by low n true false false s l e = (refl, refl)
out_by low n false small least s l e = absurd cc

pub out_of_place : (low : ℕ) (w : List ℕ) → Err OutOfRange ≡ number_from low 256 w → (is_number w ≡ true) × ((leb low (value w) && ltb (value w) 256) ≡ false)
unfolding number_below
out_of_place low w e = out_by low (value w) (is_number w) (ltb (value w) 256) (leb low (value w)) refl refl e

-- ---- the loop

pub record SoFar (set : CpuSet) (low : ℕ) (left all : List (List ℕ)) : Type 0 where
  pub read : List (List ℕ)
  pub parts : read ++ left ≡ all
  pub form : list_all is_number read ≡ true
  pub rest : (ns : List ℕ) → rise_from 0 256 (map value read ++ ns) ≡ rise_from low 256 ns
  pub set_is : set ≡ set_of (map value read)
  pub some : is_empty read ≡ eqb low 0
  pub few : low ≤ 256

pub at_start : (set : CpuSet) (all : List (List ℕ)) → IsSet set → ((c : ℕ) → has set c ≡ false) → SoFar set 0 all all
at_start set all is none = record {
  read = [];
  parts = refl;
  form = refl;
  rest = λ ns. refl;
  set_is = none_put set is none;
  some = refl;
  few = omega arith;
}

longer : (read : List (List ℕ)) (w : List ℕ) → is_empty (read ++ w ∷ []) ≡ false
longer [] w = refl
longer (v ∷ vs) w = refl

values_more : (read : List (List ℕ)) (w : List ℕ) → map value (read ++ w ∷ []) ≡ map value read ++ value w ∷ []
values_more [] w = refl
values_more (v ∷ vs) w = ap (λ (ns : List ℕ). value v ∷ ns) (values_more vs w)

pub one_more : (set new : CpuSet) (low cpu : ℕ) (w : List ℕ) (ws all : List (List ℕ)) (s : SoFar set low (w ∷ ws) all) → IsNext low w cpu →
    new ≡ set_of (map value s.read ++ cpu ∷ []) → SoFar new (cpu + 1) ws all
one_more set new low cpu w ws all s is put = record {
  read = s.read ++ w ∷ [];
  parts = append_assoc s.read (w ∷ []) ws ∙ s.parts;
  form = list_all-append is_number s.read (w ∷ []) ∙ and_from (list_all is_number s.read) (list_all is_number (w ∷ [])) s.form (and_from (is_number w) true is.form refl);
  rest = λ ns.
      ap (λ (ms : List ℕ). rise_from 0 256 (ms ++ ns)) (values_more s.read w)
      ∙ ap (rise_from 0 256) (append_assoc (map value s.read) (value w ∷ []) ns)
      ∙ s.rest (value w ∷ ns)
      ∙ ap (λ (n : ℕ). rise_from low 256 (n ∷ ns)) is.value_is
      ∙ placed ns;
  set_is = put ∙ ap set_of (ap (λ (n : ℕ). map value s.read ++ n ∷ []) (sym is.value_is) ∙ sym (values_more s.read w));
  some = longer s.read w ∙ sym (ne_eqb (cpu + 1) 0 (λ e. omega (arith, e)));
  few = omega (arith, is.below);
}
  where
    placed : (ns : List ℕ) → rise_from low 256 (cpu ∷ ns) ≡ rise_from (cpu + 1) 256 ns
    placed ns =
        let least : leb low cpu ≡ true = le-leb low cpu is.from in
        let small : ltb cpu 256 ≡ true = lt-ltb cpu 256 is.below in
        rw (least, small) refl

-- what the words say where the first is one, by whether they are numbers and these rise
by_tests : (w : List ℕ) (ws : List (List ℕ)) (form rise : Bool) → list_all is_number (w ∷ ws) ≡ form → rise_from 0 256 (map value (w ∷ ws)) ≡ rise →
    set (w ∷ ws) ≡ cond form (cond rise (Ok (set_of (map value (w ∷ ws)))) (Err OutOfRange)) (Err NotOfForm)
unfolding set
by_tests w ws true true f r = rw (f, r) refl
by_tests w ws true false f r = rw (f, r) refl
by_tests w ws false rise f r = rw f refl

pub said_by : (all : List (List ℕ)) (form rise : Bool) → is_empty all ≡ false → list_all is_number all ≡ form → rise_from 0 256 (map value all) ≡ rise →
    set all ≡ cond form (cond rise (Ok (set_of (map value all))) (Err OutOfRange)) (Err NotOfForm)
said_by [] form rise some f r = absurd cc
said_by (w ∷ ws) form rise some f r = by_tests w ws form rise f r

some_in : (read : List (List ℕ)) (w : List ℕ) (ws all : List (List ℕ)) → read ++ w ∷ ws ≡ all → is_empty all ≡ false
some_in [] w ws all e = ap (λ (vs : List (List ℕ)). is_empty vs) (sym e)
some_in (v ∷ vs) w ws all e = ap (λ (us : List (List ℕ)). is_empty us) (sym e)

all_form : (read : List (List ℕ)) (w : List ℕ) (ws all : List (List ℕ)) → read ++ w ∷ ws ≡ all → list_all is_number read ≡ true →
    list_all is_number all ≡ (is_number w && list_all is_number ws)
all_form read w ws all e form =
    let parts = list_all-append is_number read (w ∷ ws) in
    let front : list_all is_number (read ++ w ∷ ws) ≡ (is_number w && list_all is_number ws) = rw form at parts in
    ap (list_all is_number) (sym e) ∙ front

all_rise : (read : List (List ℕ)) (left all : List (List ℕ)) → read ++ left ≡ all → map value all ≡ map value read ++ map value left
all_rise read left all e = ap (λ (ws : List (List ℕ)). map value ws) (sym e) ∙ map-append value read left

pub stops : (set' : CpuSet) (low : ℕ) (w : List ℕ) (ws all : List (List ℕ)) → SoFar set' low (w ∷ ws) all → is_number w ≡ false → ◌≡◌ {A = Result CpuSet Unread} (Err NotOfForm) (set all)
stops set' low w ws all s other =
    let form : list_all is_number all ≡ false = rw other at (all_form s.read w ws all s.parts s.form) in
    sym (said_by all false (rise_from 0 256 (map value all)) (some_in s.read w ws all s.parts) form refl)

pub leaves : (set' : CpuSet) (low : ℕ) (w : List ℕ) (ws all : List (List ℕ)) → SoFar set' low (w ∷ ws) all → is_number w ≡ true →
    (leb low (value w) && ltb (value w) 256) ≡ false → (t : Bool) → list_all is_number ws ≡ t →
    ◌≡◌ {A = Result CpuSet Unread} (Err (cond t OutOfRange NotOfForm)) (set all)
leaves set' low w ws all s is out t numbers =
    let form : list_all is_number all ≡ t = (rw is at (all_form s.read w ws all s.parts s.form)) ∙ numbers in
    let here : rise_from low 256 (value w ∷ map value ws) ≡ false = rw out refl in
    let rise : rise_from 0 256 (map value all) ≡ false = ap (rise_from 0 256) (all_rise s.read (w ∷ ws) all s.parts) ∙ s.rest (value w ∷ map value ws) ∙ here in
    by t (said_by all t false (some_in s.read w ws all s.parts) form rise)
  where
    by : (u : Bool) → set all ≡ cond u (Err OutOfRange) (Err NotOfForm) → ◌≡◌ {A = Result CpuSet Unread} (Err (cond u OutOfRange NotOfForm)) (set all)
    by true e = sym e
    by false e = sym e

nothing_said : (all : List (List ℕ)) → is_empty all ≡ true → ◌≡◌ {A = Result CpuSet Unread} (Err NotOfForm) (set all)
unfolding set
nothing_said [] e = refl
nothing_said (w ∷ ws) e = absurd cc

pub none_read : (set' : CpuSet) (low : ℕ) (all : List (List ℕ)) → SoFar set' low [] all → low ≡ 0 → ◌≡◌ {A = Result CpuSet Unread} (Err NotOfForm) (set all)
none_read set' low all s e =
    let whole : s.read ≡ all = sym (append-nil s.read) ∙ s.parts in
    nothing_said all (ap (λ (vs : List (List ℕ)). is_empty vs) (sym whole) ∙ s.some ∙ ap (λ (n : ℕ). eqb n 0) e)

pub all_read : (set' : CpuSet) (low : ℕ) (all : List (List ℕ)) → SoFar set' low [] all → (low ≡ 0 → ⊥) → Ok set' ≡ set all
all_read set' low all s some =
    let whole : s.read ≡ all = sym (append-nil s.read) ∙ s.parts in
    let rise : rise_from 0 256 (map value all) ≡ true =
    ap (rise_from 0 256) (all_rise s.read [] all s.parts) ∙ s.rest [] in
    ap (λ (t : CpuSet). Ok t) (s.set_is ∙ ap (λ (vs : List (List ℕ)). set_of (map value vs)) whole)
    ∙ sym (said_by all true true
    (ap (λ (vs : List (List ℕ)). is_empty vs) (sym whole) ∙ s.some ∙ ne_eqb low 0 some)
    (ap (list_all is_number) (sym whole) ∙ s.form) rise)
