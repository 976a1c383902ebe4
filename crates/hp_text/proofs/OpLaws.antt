-- What words say as an operation is spelled by them, and what is spelled is said again.
use Rattle.std.proofs.Common.{◌≡◌, ℕ, ◌^◌, Bool, true, false, cond, ◌&&◌, List, [], ◌∷◌, ◌++◌, Option, Some, None, Ok, Err, refl, sym, ap, subst, ◌∙◌, arith}
use Rattle.std.specs.Prelude.{ℤ, codes, find, Result, IfOk}
use Rattle.std.specs.Fmt.{decimal, signed_decimal}
use Rattle.std.specs.Str.{bytes_eq}
use Rattle.std.proofs.lemmas.Bool.{and_parts}
use Rattle.std.proofs.lemmas.Slice.Eq.{bytes_eq-Decides}
use Rattle.hp_states.proofs.Basics.{same_some}
use Rattle.hp_event.specs.declared.event.File.{File}
use Rattle.hp_event.specs.declared.event.File.TheVariants as file
use Rattle.hp_event.specs.declared.op.Form.{Form}
use Rattle.hp_event.specs.declared.op.Op.{Op}
use Rattle.hp_event.specs.declared.op.Op.TheVariants as op
use Rattle.hp_model.specs.HasLine.{lists_one}
use Rattle.hp_model.specs.EventLine.{form_words, op_words}
use Rattle.hp_text.specs.declared.unread.Unread.{Unread}
use Rattle.hp_text.specs.declared.unread.Unread.TheVariants.{NotOfForm}
use Rattle.hp_text.specs.declared.first_word.OpWord.{OpWord}
use Rattle.hp_text.specs.declared.first_word.OpWord.TheVariants as word
use Rattle.hp_text.specs.Fits.{IsU32, IsI32, OpFits, IsSayable}
use Rattle.hp_text.specs.Numbers.{number, integer}
use Rattle.hp_text.specs.Readings.{Tail, said, done}
use Rattle.hp_text.specs.Flags.{flags, form}
use Rattle.hp_text.specs.FirstWords.{text_of_op, op_words as first_words, op_word_of, text_of_file, file_of}
use Rattle.hp_text.specs.OpAt.{shown_tail, show_tail, op_tail, tail_of, op_at}
use Rattle.hp_text.proofs.NumberLaws.{below_takes, integer_takes, below_again, integer_again}
use Rattle.hp_text.proofs.Readings.{IsField, IsTail, same_ok, said_ok, done_takes, alone_is, in_front_is}
use Rattle.hp_text.proofs.SetWords.{set_is, set_again}

same_word : (w v : List ℕ) → bytes_eq w v ≡ true → w ≡ v
same_word w v h = (bytes_eq-Decides w v).0 h

-- ---- words of a table

found_by : {V : Type 0} (text : V → List ℕ) (u : V) (us : List V) (w : List ℕ) (v : V) → (t : Bool) → bytes_eq w (text u) ≡ t →
    (find (λ x. bytes_eq w (text x)) us ≡ Some v → w ≡ text v) → cond t (Some u) (find (λ x. bytes_eq w (text x)) us) ≡ Some v → w ≡ text v
found_by text u us w v true e more h = same_word w (text u) e ∙ ap text (same_some u v h)
found_by text u us w v false e more h = more h

pub found : {V : Type 0} (text : V → List ℕ) (vs : List V) (w : List ℕ) (v : V) → find (λ u. bytes_eq w (text u)) vs ≡ Some v → w ≡ text v
found text [] w v e = absurd cc
found text (u ∷ us) w v e = found_by text u us w v (bytes_eq w (text u)) refl (λ h. found text us w v h) e

op_word_is : (w : List ℕ) (v : OpWord) → op_word_of w ≡ Some v → w ≡ text_of_op v
unfolding op_word_of
op_word_is w v e = found text_of_op first_words w v e

file_is : (w : List ℕ) (f : File) → file_of w ≡ Some f → w ≡ text_of_file f
unfolding file_of
file_is w f e = found text_of_file (file.State ∷ file.Target ∷ file.Fail ∷ file.States ∷ []) w f e

-- ---- fields and tails

number_is : IsField number decimal IsU32
number_is = record { takes = λ w n e. below_takes (2 ^ 32) w n (omega arith) e }

integer_is : IsField integer signed_decimal IsI32
integer_is = record { takes = λ w z e. integer_takes w z e }

one_flag_takes : (w : List ℕ) (g : Form) (t u : Bool) → bytes_eq w (codes "nocalls") ≡ t → bytes_eq w (codes "locked") ≡ u →
    cond t (Ok (flags true false)) (cond u (Ok (flags false true)) (Err NotOfForm)) ≡ Ok g → w ∷ [] ≡ form_words g
one_flag_takes w g true u a b h = ap (λ (v : List ℕ). v ∷ []) (same_word w (codes "nocalls") a) ∙ ap form_words (same_ok (flags true false) g h)
one_flag_takes w g false true a b h = ap (λ (v : List ℕ). v ∷ []) (same_word w (codes "locked") b) ∙ ap form_words (same_ok (flags false true) g h)
one_flag_takes w g false false a b h = absurd cc

two_flags_take : (w v : List ℕ) (g : Form) (t : Bool) → bytes_eq w (codes "nocalls") && bytes_eq v (codes "locked") ≡ t →
    cond t (Ok (flags true true)) (Err NotOfForm) ≡ Ok g → w ∷ v ∷ [] ≡ form_words g
two_flags_take w v g true e h =
    let q = and_parts (bytes_eq w (codes "nocalls")) (bytes_eq v (codes "locked")) e in
    let a : w ≡ codes "nocalls" = same_word w (codes "nocalls") q.0 in
    let b : v ≡ codes "locked" = same_word v (codes "locked") q.1 in
    ap (λ (x : List ℕ). x ∷ v ∷ []) a ∙ ap (λ (x : List ℕ). codes "nocalls" ∷ x ∷ []) b ∙ ap form_words (same_ok (flags true true) g h)
two_flags_take w v g false e h = absurd cc

abbrev AnyForm : Form → Type 0
AnyForm f = Unit {0}

form_takes : (ws : List (List ℕ)) (f : Form) → form ws ≡ Ok f → (ws ≡ form_words f) × AnyForm f
unfolding form
form_takes [] f h = (ap form_words (same_ok (flags false false) f h), tt)
form_takes (w ∷ []) f h = (one_flag_takes w f (bytes_eq w (codes "nocalls")) (bytes_eq w (codes "locked")) refl refl h, tt)
form_takes (w ∷ v ∷ []) f h = (two_flags_take w v f (bytes_eq w (codes "nocalls") && bytes_eq v (codes "locked")) refl h, tt)
form_takes (w ∷ v ∷ u ∷ ws) f h = absurd cc

form_is : IsTail form form_words AnyForm
form_is = record { takes = form_takes }

-- ---- operations

-- words are those of an operation that words can say
abbrev IsSpelled : List (List ℕ) → Op → Type 0
IsSpelled ws o = (ws ≡ op_words o) × IsSayable o

-- behind some words, what a tail says is a part of an operation
part : {A : Type 0} {tail : Tail A} {words : A → List (List ℕ)} {In : A → Type 0} (front : List (List ℕ)) (make : A → Op) → IsTail tail words In →
    ((a : A) → In a → IsSpelled (front ++ words a) (make a)) → (ws : List (List ℕ)) (o : Op) → said make (tail ws) ≡ Ok o → IsSpelled (front ++ ws) o
part {A} {tail} {words} {In} front make is made ws o e =
    let s = said_ok make (tail ws) o e in
    let t = is.takes ws s.0 s.1 in
    let m = made s.0 t.1 in
    subst (λ (x : Op). IsSpelled (front ++ ws) x) s.2 (ap (λ (v : List (List ℕ)). front ++ v) t.0 ∙ m.0, m.1)

-- some words are all
whole : (front : List (List ℕ)) (x : Op) → IsSpelled (front ++ []) x → (ws : List (List ℕ)) (o : Op) → done x ws ≡ Ok o → IsSpelled (front ++ ws) o
whole front x is ws o e =
    let d = done_takes x o ws e in
    subst (λ (y : Op). IsSpelled (front ++ ws) y) d.1 (ap (λ (v : List (List ℕ)). front ++ v) d.0 ∙ is.0, is.1)

shown_takes : (f : File) (ws : List (List ℕ)) (o : Op) → shown_tail (Some f) ws ≡ Ok o → IsSpelled (codes "show" ∷ text_of_file f ∷ ws) o
shown_takes file.State ws o e = part (codes "show" ∷ codes "state" ∷ []) (λ cpu. op.ShowState cpu) (alone_is number_is) (λ cpu a. (refl, (a, refl))) ws o e
shown_takes file.Target ws o e = part (codes "show" ∷ codes "target" ∷ []) (λ cpu. op.ShowTarget cpu) (alone_is number_is) (λ cpu a. (refl, (a, refl))) ws o e
shown_takes file.Fail ws o e = part (codes "show" ∷ codes "fail" ∷ []) (λ cpu. op.ShowFail cpu) (alone_is number_is) (λ cpu a. (refl, (a, refl))) ws o e
shown_takes file.States ws o e = whole (codes "show" ∷ codes "states" ∷ []) op.ShowStates (refl, (tt, refl)) ws o e

named_takes : (w : List ℕ) (ws : List (List ℕ)) (o : Op) (f : Option File) → file_of w ≡ f → shown_tail f ws ≡ Ok o → IsSpelled (codes "show" ∷ w ∷ ws) o
named_takes w ws o (Some f) is e = subst (λ (v : List ℕ). IsSpelled (codes "show" ∷ v ∷ ws) o) (sym (file_is w f is)) (shown_takes f ws o e)
named_takes w ws o None is e = absurd cc

show_takes : (ws : List (List ℕ)) (o : Op) → show_tail ws ≡ Ok o → IsSpelled (codes "show" ∷ ws) o
show_takes [] o e = absurd cc
show_takes (w ∷ ws) o e = named_takes w ws o (file_of w) refl e

tail_takes : (v : OpWord) (ws : List (List ℕ)) (o : Op) → op_tail v ws ≡ Ok o → IsSpelled (text_of_op v ∷ ws) o
unfolding op_tail
tail_takes word.Up ws o e = part (codes "up" ∷ []) (λ cpu. op.Up cpu) (alone_is number_is) (λ cpu a. (refl, (a, refl))) ws o e
tail_takes word.Down ws o e = part (codes "down" ∷ []) (λ cpu. op.Down cpu) (alone_is number_is) (λ cpu a. (refl, (a, refl))) ws o e
tail_takes word.Target ws o e = part (codes "target" ∷ []) (λ x. op.Target x.0 x.1) (in_front_is number_is (alone_is integer_is)) (λ x a. (refl, (a, refl))) ws o e
tail_takes word.Fail ws o e = part (codes "fail" ∷ []) (λ x. op.Arm x.0 x.1) (in_front_is number_is (alone_is integer_is)) (λ x a. (refl, (a, refl))) ws o e
tail_takes word.Show ws o e = show_takes ws o e
tail_takes word.Setup ws o e = part (codes "setup" ∷ []) (λ x. op.Setup x.0 x.1.0 x.1.1) (in_front_is number_is (in_front_is number_is form_is)) (λ x a. (refl, ((a.0, a.1.0), refl))) ws o e
tail_takes word.Remove ws o e = part (codes "remove" ∷ []) (λ x. op.Remove x.0 x.1) (in_front_is number_is form_is) (λ x a. (refl, (a.0, refl))) ws o e
tail_takes word.Add ws o e = part (codes "add" ∷ []) (λ x. op.Add x.0 x.1.0 x.1.1) (in_front_is number_is (in_front_is number_is form_is)) (λ x a. (refl, ((a.0, a.1.0), refl))) ws o e
tail_takes word.Del ws o e = part (codes "del" ∷ []) (λ x. op.Del x.0 x.1.0 x.1.1) (in_front_is number_is (in_front_is number_is form_is)) (λ x a. (refl, ((a.0, a.1.0), refl))) ws o e
tail_takes word.Lock ws o e = whole (codes "lock" ∷ []) op.Lock (refl, (tt, refl)) ws o e
tail_takes word.Unlock ws o e = whole (codes "unlock" ∷ []) op.Unlock (refl, (tt, refl)) ws o e
tail_takes word.Boot ws o e = part (codes "boot" ∷ []) (λ most. op.Boot most) (alone_is number_is) (λ most a. (refl, (a, refl))) ws o e
tail_takes word.Disable ws o e = whole (codes "disable" ∷ []) op.Disable (refl, (tt, refl)) ws o e
tail_takes word.Enable ws o e = whole (codes "enable" ∷ []) op.Enable (refl, (tt, refl)) ws o e
tail_takes word.Freeze ws o e = part (codes "freeze" ∷ []) (λ primary. op.Freeze primary) (alone_is integer_is) (λ primary a. (refl, (a, refl))) ws o e
tail_takes word.Thaw ws o e = whole (codes "thaw" ∷ []) op.Thaw (refl, (tt, refl)) ws o e
tail_takes word.Wakeup ws o e = whole (codes "wakeup" ∷ []) op.Wakeup (refl, (tt, refl)) ws o e
tail_takes word.UpMany ws o e = part (codes "upmany" ∷ []) (λ s. op.UpMany s) set_is (λ s a. (refl, (a.0, a.1))) ws o e

first_takes : (w : List ℕ) (ws : List (List ℕ)) (o : Op) (v : Option OpWord) → op_word_of w ≡ v → tail_of v ws ≡ Ok o → IsSpelled (w ∷ ws) o
first_takes w ws o (Some v) is e = subst (λ (u : List ℕ). IsSpelled (u ∷ ws) o) (sym (op_word_is w v is)) (tail_takes v ws o e)
first_takes w ws o None is e = absurd cc

pub op_takes : (ws : List (List ℕ)) (o : Op) → op_at ws ≡ Ok o → (ws ≡ op_words o) × IsSayable o
unfolding op_at
op_takes [] o e = absurd cc
op_takes (w ∷ ws) o e = first_takes w ws o (op_word_of w) refl e

-- ---- what is spelled is said again

number_again : (n : ℕ) → IsU32 n → number (decimal n) ≡ Ok n
number_again n fits = below_again (2 ^ 32) n (decimal n) (omega arith) fits refl

signed_again : (z : ℤ) → IsI32 z → integer (signed_decimal z) ≡ Ok z
signed_again z fits = integer_again z (signed_decimal z) fits refl

flags_again : (n l : Bool) → form (form_words (flags n l)) ≡ Ok (flags n l)
unfolding form
flags_again false false = refl
flags_again false true = refl
flags_again true false = refl
flags_again true true = refl

form_again : (f : Form) → form (form_words f) ≡ Ok f
form_again f = flags_again f.nocalls f.locked

spelled_again : (o : Op) → OpFits o → lists_one o ≡ true → op_at (op_words o) ≡ Ok o
unfolding op_at op_tail op_word_of file_of
spelled_again (op.Up cpu) h s = rw (number_again cpu h) refl
spelled_again (op.Down cpu) h s = rw (number_again cpu h) refl
spelled_again (op.Target cpu value) h s = rw (number_again cpu h.0, signed_again value h.1) refl
spelled_again (op.Arm cpu value) h s = rw (number_again cpu h.0, signed_again value h.1) refl
spelled_again (op.ShowState cpu) h s = rw (number_again cpu h) refl
spelled_again (op.ShowTarget cpu) h s = rw (number_again cpu h) refl
spelled_again (op.ShowFail cpu) h s = rw (number_again cpu h) refl
spelled_again op.ShowStates h s = refl
spelled_again (op.Setup state sub f) h s = rw (number_again state h.0, number_again sub h.1, form_again f) refl
spelled_again (op.Remove state f) h s = rw (number_again state h, form_again f) refl
spelled_again (op.Add state inst f) h s = rw (number_again state h.0, number_again inst h.1, form_again f) refl
spelled_again (op.Del state inst f) h s = rw (number_again state h.0, number_again inst h.1, form_again f) refl
spelled_again op.Lock h s = refl
spelled_again op.Unlock h s = refl
spelled_again (op.Boot most) h s = rw (number_again most h) refl
spelled_again op.Disable h s = refl
spelled_again op.Enable h s = refl
spelled_again (op.Freeze primary) h s = rw (signed_again primary h) refl
spelled_again op.Thaw h s = refl
spelled_again op.Wakeup h s = refl
spelled_again (op.UpMany cpus) h s = rw (set_again cpus (h, s)) refl

pub op_again : (o : Op) → IsSayable o → op_at (op_words o) ≡ Ok o
op_again o h = spelled_again o h.0 h.1

-- ---- by what is answered

pub op_spelled : (ws : List (List ℕ)) (r : Result Op Unread) → r ≡ op_at ws → IfOk r (λ o. ws ≡ op_words o)
op_spelled ws (Ok o) e = (op_takes ws o (sym e)).0
op_spelled ws (Err u) e = tt

pub op_read : (ws : List (List ℕ)) (r : Result Op Unread) → r ≡ op_at ws → (o : Op) → IsSayable o → ws ≡ op_words o → r ≡ Ok o
op_read ws r e o h is = e ∙ ap op_at is ∙ op_again o h
