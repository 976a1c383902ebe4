-- What words say as a subsystem or a rule is spelled by them, and what is spelled is said again.
use Rattle.std.proofs.Common.{◌≡◌, ◌≢◌, ℕ, ◌+◌, ◌^◌, ◌<◌, ◌≤◌, Bool, true, false, cond, ◌&&◌, leb, List, [], ◌∷◌, length, Option, Some, None, Ok, Err, refl, sym, ap, subst, ◌∙◌, arith}
use Rattle.std.specs.Prelude.{codes, decimal, Result, IfSome, IfOk}
use Rattle.std.specs.List.{list_all}
use Rattle.std.specs.Str.{bytes_eq}
use Rattle.std.proofs.lemmas.Bool.{and_parts, and_from, leb-true, le-leb}
use Rattle.std.proofs.lemmas.Slice.Eq.{bytes_eq-Decides}
use Rattle.std.proofs.lemmas.List.Sums.{AllPass-from_list_all, list_all-from_AllPass}
use Rattle.std.proofs.lemmas.List.Elements.{All-nil}
use Rattle.hp_states.proofs.Basics.{passed, same_some}
use Rattle.hp_states.specs.declared.dir.Dir.{Dir}
use Rattle.hp_states.specs.declared.dir.Dir.TheVariants.{Up, Down}
use Rattle.hp_states.specs.declared.limits.TheConstants.{MAX_NAME_LEN, MAX_RULE_CPU, MAX_INSTANCE, MAX_EVENTS, MAX_CODE}
use Rattle.hp_states.specs.declared.plan.Rule.{Rule}
use Rattle.hp_states.specs.Names.{is_name_byte, IsName}
use Rattle.hp_event.specs.declared.head.Sub.{Sub}
use Rattle.hp_model.specs.Words.{dir_word, name_word, any_word, calls_word, kind_word}
use Rattle.hp_model.specs.Heads.{IsRule}
use Rattle.hp_text.specs.declared.unread.Unread.{Unread}
use Rattle.hp_text.specs.Numbers.{are_digits, number_from}
use Rattle.hp_text.specs.Readings.{Reading, of_form, said, alone, in_front}
use Rattle.hp_text.specs.Choices.{dir_of, calls_of, kind_of, is_name, name_of, any_from}
use Rattle.hp_text.specs.Subs.{name, calls, kind, dir, fresh_sub, calls_and_kind, sub, behind_sub, nth_and_code, cpu_and_call, rule_of, rule, behind_rule}
use Rattle.hp_text.proofs.NumberLaws.{decimal_written, from_takes, from_again}
use Rattle.hp_text.proofs.Readings.{IsField, IsTail, same_ok, said_ok, alone_is, in_front_is}

pub same_word : (w v : List ℕ) → bytes_eq w v ≡ true → w ≡ v
same_word w v h = (bytes_eq-Decides w v).0 h

pub other_word : (w v : List ℕ) (t : Bool) → bytes_eq w v ≡ t → w ≢ v → t ≡ false
other_word w v true h n = absurd (n (same_word w v h))
other_word w v false h n = refl

pub decimal_other : (n : ℕ) (v : List ℕ) → n < 2 ^ 64 → are_digits v ≡ false → bytes_eq (decimal n) v ≡ false
decimal_other n v lt other =
    other_word (decimal n) v (bytes_eq (decimal n) v) refl
    (λ same. let digits : are_digits v ≡ true = subst (λ (w : List ℕ). are_digits w ≡ true) same (decimal_written n lt).digits in absurd cc)

-- ---- words that have a form alone

abbrev pub Whatever : {A : Type 0} → A → Type 0
Whatever a = Unit {0}

formed : {A : Type 0} (o : Option A) (a : A) → of_form o ≡ Ok a → o ≡ Some a
formed (Some b) a e = ap (λ x. Some x) (same_ok b a e)
formed None a e = absurd cc

dir_is : (w : List ℕ) (d : Dir) (t u : Bool) → bytes_eq w (codes "up") ≡ t → bytes_eq w (codes "down") ≡ u → cond t (Some Up) (cond u (Some Down) None) ≡ Some d → w ≡ dir_word d
dir_is w d true u a b h = same_word w (codes "up") a ∙ ap dir_word (same_some Up d h)
dir_is w d false true a b h = same_word w (codes "down") b ∙ ap dir_word (same_some Down d h)
dir_is w d false false a b h = absurd cc

pub dir_takes : (w : List ℕ) (d : Dir) → dir_of w ≡ Some d → w ≡ dir_word d
unfolding dir_of
dir_takes w d h = dir_is w d (bytes_eq w (codes "up")) (bytes_eq w (codes "down")) refl refl h

dir_field : IsField dir dir_word Whatever
dir_field = record { takes = λ w d e. (dir_takes w d (formed (dir_of w) d e), tt) }

pub dir_again : (d : Dir) → dir_of (dir_word d) ≡ Some d
unfolding dir_of
dir_again Up = refl
dir_again Down = refl

abbrev calls_words : Bool × Bool → List ℕ
calls_words c = calls_word c.0 c.1

calls_are : (w : List ℕ) (c : Bool × Bool) (s t u v : Bool) → bytes_eq w (codes "both") ≡ s → bytes_eq w (codes "up") ≡ t → bytes_eq w (codes "down") ≡ u → bytes_eq w (codes "none") ≡ v →
    cond s (Some (true, true)) (cond t (Some (true, false)) (cond u (Some (false, true)) (cond v (Some (false, false)) None))) ≡ Some c → w ≡ calls_words c
calls_are w c true t u v a b d f e = same_word w _ a ∙ ap calls_words (same_some (true, true) c e)
calls_are w c false true u v a b d f e = same_word w _ b ∙ ap calls_words (same_some (true, false) c e)
calls_are w c false false true v a b d f e = same_word w _ d ∙ ap calls_words (same_some (false, true) c e)
calls_are w c false false false true a b d f e = same_word w _ f ∙ ap calls_words (same_some (false, false) c e)
calls_are w c false false false false a b d f e = absurd cc

calls_take : (w : List ℕ) (c : Bool × Bool) → calls_of w ≡ Some c → w ≡ calls_words c
unfolding calls_of
calls_take w c e = calls_are w c (bytes_eq w (codes "both")) (bytes_eq w (codes "up")) (bytes_eq w (codes "down")) (bytes_eq w (codes "none")) refl refl refl refl e

calls_field : IsField calls calls_words Whatever
calls_field = record { takes = λ w c e. (calls_take w c (formed (calls_of w) c e), tt) }

calls_again : (up down : Bool) → calls_of (calls_word up down) ≡ Some (up, down)
unfolding calls_of
calls_again true true = refl
calls_again true false = refl
calls_again false true = refl
calls_again false false = refl

kind_is : (w : List ℕ) (m : Bool) (s t : Bool) → bytes_eq w (codes "multi") ≡ s → bytes_eq w (codes "single") ≡ t → cond s (Some true) (cond t (Some false) None) ≡ Some m → w ≡ kind_word m
kind_is w m true t a b e = same_word w (codes "multi") a ∙ ap kind_word (same_some true m e)
kind_is w m false true a b e = same_word w (codes "single") b ∙ ap kind_word (same_some false m e)
kind_is w m false false a b e = absurd cc

kind_takes : (w : List ℕ) (m : Bool) → kind_of w ≡ Some m → w ≡ kind_word m
unfolding kind_of
kind_takes w m e = kind_is w m (bytes_eq w (codes "multi")) (bytes_eq w (codes "single")) refl refl e

kind_field : IsField kind kind_word Whatever
kind_field = record { takes = λ w m e. (kind_takes w m (formed (kind_of w) m e), tt) }

kind_again : (m : Bool) → kind_of (kind_word m) ≡ Some m
unfolding kind_of
kind_again true = refl
kind_again false = refl

-- ---- names

no_name : IsName []
no_name = record { short = omega arith; bytes = All-nil (λ b. is_name_byte b ≡ true); not_dash = λ same. cc }

name_word_some : (w : List ℕ) → 1 ≤ length w → w ≡ name_word w
name_word_some [] h = absurd (omega (arith, h))
name_word_some (b ∷ bs) h = refl

name_says : (w n : List ℕ) (t : Bool) → bytes_eq w (codes "-") ≡ t → cond t (Some []) (cond (is_name w) (Some w) None) ≡ Some n → (w ≡ name_word n) × IsName n
name_says w n true t e = subst (λ (x : List ℕ). (w ≡ name_word x) × IsName x) (same_some [] n e) (same_word w (codes "-") t, no_name)
name_says w n false t e =
    let p = passed (is_name w) (Some w) n e in
    let q = and_parts (leb 1 (length w)) (leb (length w) MAX_NAME_LEN && list_all is_name_byte w) p.0 in
    let r = and_parts (leb (length w) MAX_NAME_LEN) (list_all is_name_byte w) q.1 in
    subst (λ (x : List ℕ). (w ≡ name_word x) × IsName x) (same_some w n p.1) (
      name_word_some w (leb-true 1 (length w) q.0),
      record {
        short = leb-true _ _ r.0;
        bytes = AllPass-from_list_all is_name_byte w r.1;
        not_dash = λ same. let dash : bytes_eq w (codes "-") ≡ true = (bytes_eq-Decides w (codes "-")).1 same in cc;
      },
    )

name_takes : (w n : List ℕ) → name_of w ≡ Some n → (w ≡ name_word n) × IsName n
unfolding name_of
name_takes w n e = name_says w n (bytes_eq w (codes "-")) refl e

name_field : IsField name name_word IsName
name_field = record { takes = λ w n e. name_takes w n (formed (name_of w) n e) }

name_again : (n : List ℕ) → IsName n → name_of (name_word n) ≡ Some n
unfolding name_of
name_again [] h = refl
name_again (b ∷ bs) h =
    let no_dash : bytes_eq (b ∷ bs) (codes "-") ≡ false = other_word (b ∷ bs) (codes "-") (bytes_eq (b ∷ bs) (codes "-")) refl h.not_dash in
    let few : leb (length (b ∷ bs)) MAX_NAME_LEN ≡ true = le-leb _ _ h.short in
    let some : leb 1 (length (b ∷ bs)) ≡ true = le-leb _ _ (omega arith) in
    let all : list_all is_name_byte (b ∷ bs) ≡ true = list_all-from_AllPass is_name_byte (b ∷ bs) h.bytes in
    let is : is_name (b ∷ bs) ≡ true = and_from _ _ some (and_from _ _ few all) in
    rw (no_dash, is) refl

-- ---- subsystems

abbrev pub IsFresh : Sub → Type 0
IsFresh s = IsName s.name × (s.plan ≡ [])

sub_tail : IsTail (in_front name calls_and_kind) (λ p. name_word p.0 ∷ calls_words p.1.0 ∷ kind_word p.1.1 ∷ []) (λ p. IsName p.0 × (Whatever p.1.0 × Whatever p.1.1))
sub_tail = in_front_is name_field (in_front_is calls_field (alone_is kind_field))

pub sub_takes : (ws : List (List ℕ)) (s : Sub) → sub ws ≡ Ok s → (ws ≡ behind_sub s) × IsFresh s
unfolding sub
sub_takes ws s e =
    let m = said_ok fresh_sub (in_front name calls_and_kind ws) s e in
    let t = sub_tail.takes ws m.0 m.1 in
    subst (λ (x : Sub). (ws ≡ behind_sub x) × IsFresh x) m.2 (t.0, (t.1.0, refl))

pub sub_again : (s : Sub) → IsFresh s → sub (behind_sub s) ≡ Ok s
unfolding sub
sub_again s h =
    let fresh : record s { plan = [] } ≡ s = ap (λ p. record s { plan = p }) (sym h.1) in
    (rw (name_again s.name h.0, calls_again s.up s.down, kind_again s.multi) refl) ∙ ap (λ (x : Sub). Ok x) fresh

pub sub_spelled : {E : Type 0} (ws : List (List ℕ)) (r : Result (Reading Sub) E) → IfOk r (λ x. x ≡ sub ws) → IfOk r (λ x. IfOk x (λ s. ws ≡ behind_sub s))
sub_spelled ws (Ok (Ok s)) e = (sub_takes ws s (sym e)).0
sub_spelled ws (Ok (Err u)) e = tt
sub_spelled ws (Err n) e = tt

pub sub_read : {E : Type 0} (ws : List (List ℕ)) (r : Result (Reading Sub) E) → IfOk r (λ x. x ≡ sub ws) → (s : Sub) → IsName s.name → s.plan ≡ [] → ws ≡ behind_sub s → IfOk r (λ x. x ≡ Ok s)
sub_read ws (Ok x) e s named fresh is = e ∙ ap sub is ∙ sub_again s (named, fresh)
sub_read ws (Err n) e s named fresh is = tt

-- ---- numbers and stars

abbrev pub InRange : (low limit : ℕ) → ℕ → Type 0
InRange low limit n = (low ≤ n) × (n < limit)

abbrev AnyInRange : (low limit : ℕ) → Option ℕ → Type 0
AnyInRange low limit o = IfSome o (InRange low limit)

pub range_field : (low limit : ℕ) → limit ≤ 2 ^ 64 → IsField (number_from low limit) decimal (InRange low limit)
range_field low limit le = record { takes = λ w n e. from_takes low limit w n le e }

star_takes : (low limit : ℕ) (w : List ℕ) (o : Option ℕ) (t : Bool) → limit ≤ 2 ^ 64 → bytes_eq w (codes "*") ≡ t →
    cond t (Ok None) (said (λ n. Some n) (number_from low limit w)) ≡ Ok o → (w ≡ any_word o) × AnyInRange low limit o
star_takes low limit w o true le t e =
    subst (λ (x : Option ℕ). (w ≡ any_word x) × AnyInRange low limit x) (same_ok None o e) (same_word w (codes "*") t, tt)
star_takes low limit w o false le t e =
    let m = said_ok (λ n. Some n) (number_from low limit w) o e in
    let r = from_takes low limit w m.0 le m.1 in
    subst (λ (x : Option ℕ). (w ≡ any_word x) × AnyInRange low limit x) m.2 (r.0, r.1)

any_takes : (low limit : ℕ) (w : List ℕ) (o : Option ℕ) → limit ≤ 2 ^ 64 → any_from low limit w ≡ Ok o → (w ≡ any_word o) × AnyInRange low limit o
unfolding any_from
any_takes low limit w o le e = star_takes low limit w o (bytes_eq w (codes "*")) le refl e

any_field : (low limit : ℕ) → limit ≤ 2 ^ 64 → IsField (any_from low limit) any_word (AnyInRange low limit)
any_field low limit le = record { takes = λ w o e. any_takes low limit w o le e }

any_again : (low limit : ℕ) (o : Option ℕ) → limit ≤ 2 ^ 64 → AnyInRange low limit o → any_from low limit (any_word o) ≡ Ok o
unfolding any_from
any_again low limit None le h = refl
any_again low limit (Some n) le h =
    let again : number_from low limit (decimal n) ≡ Ok n = from_again low limit n (decimal n) le h.0 h.1 refl in
    rw (decimal_other n (codes "*") (omega (arith, h)) refl, again) refl

-- ---- rules

rule_tail : IsTail (in_front dir cpu_and_call)
    (λ p. dir_word p.0 ∷ any_word p.1.0 ∷ any_word p.1.1.0 ∷ any_word p.1.1.1.0 ∷ decimal p.1.1.1.1 ∷ [])
    (λ p. Whatever p.0 × (AnyInRange 0 (MAX_RULE_CPU + 1) p.1.0 × (AnyInRange 0 (MAX_INSTANCE + 1) p.1.1.0
    × (AnyInRange 1 (MAX_EVENTS + 1) p.1.1.1.0 × InRange 1 (MAX_CODE + 1) p.1.1.1.1))))
rule_tail =
    in_front_is dir_field (in_front_is (any_field 0 (MAX_RULE_CPU + 1) (omega arith)) (in_front_is (any_field 0 (MAX_INSTANCE + 1) (omega arith))
    (in_front_is (any_field 1 (MAX_EVENTS + 1) (omega arith)) (alone_is (range_field 1 (MAX_CODE + 1) (omega arith))))))

any_weaker : (o : Option ℕ) (low high : ℕ) → AnyInRange low (high + 1) o → IfSome o (λ n. n ≤ high)
any_weaker None low high h = tt
any_weaker (Some n) low high h = omega (arith, h.1)

any_least : (o : Option ℕ) (limit : ℕ) → AnyInRange 1 limit o → IfSome o (λ n. 0 < n)
any_least None limit h = tt
any_least (Some n) limit h = omega (arith, h.0)

pub rule_takes : (ws : List (List ℕ)) (r : Rule) → rule ws ≡ Ok r → (ws ≡ behind_rule r) × IsRule r
unfolding rule
rule_takes ws r e =
    let m = said_ok rule_of (in_front dir cpu_and_call ws) r e in
    let t = rule_tail.takes ws m.0 m.1 in
    subst (λ (x : Rule). (ws ≡ behind_rule x) × IsRule x) m.2 (
      t.0,
      record {
        cpu_fits = any_weaker m.0.1.0 0 MAX_RULE_CPU t.1.1.0;
        inst_fits = any_weaker m.0.1.1.0 0 MAX_INSTANCE t.1.1.1.0;
        nth_above = any_least m.0.1.1.1.0 (MAX_EVENTS + 1) t.1.1.1.1.0;
        nth_fits = any_weaker m.0.1.1.1.0 1 MAX_EVENTS t.1.1.1.1.0;
        code_above = omega (arith, t.1.1.1.1.1.0);
        code_fits = omega (arith, t.1.1.1.1.1.1);
      },
    )

pub any_in : (o : Option ℕ) (high : ℕ) → IfSome o (λ n. n ≤ high) → AnyInRange 0 (high + 1) o
any_in None high h = tt
any_in (Some n) high h = (omega arith, omega (arith, h))

pub nth_in : (o : Option ℕ) (high : ℕ) → IfSome o (λ n. 0 < n) → IfSome o (λ n. n ≤ high) → AnyInRange 1 (high + 1) o
nth_in None high h g = tt
nth_in (Some n) high h g = (omega (arith, h), omega (arith, g))

code_again : (n : ℕ) → 0 < n → n ≤ MAX_CODE → number_from 1 (MAX_CODE + 1) (decimal n) ≡ Ok n
code_again n some few = from_again 1 (MAX_CODE + 1) n (decimal n) (omega arith) some (omega (arith, few)) refl

pub rule_again : (r : Rule) → IsRule r → rule (behind_rule r) ≡ Ok r
unfolding rule
rule_again r h =
    rw (
      dir_again r.dir,
      any_again 0 (MAX_RULE_CPU + 1) r.cpu (omega arith) (any_in r.cpu MAX_RULE_CPU h.cpu_fits),
      any_again 0 (MAX_INSTANCE + 1) r.inst (omega arith) (any_in r.inst MAX_INSTANCE h.inst_fits),
      any_again 1 (MAX_EVENTS + 1) r.nth (omega arith) (nth_in r.nth MAX_EVENTS h.nth_above h.nth_fits),
      code_again r.code h.code_above h.code_fits,
    ) refl

pub rule_spelled : (ws : List (List ℕ)) (x : Reading Rule) → x ≡ rule ws → IfOk x (λ r. ws ≡ behind_rule r)
rule_spelled ws (Ok r) e = (rule_takes ws r (sym e)).0
rule_spelled ws (Err u) e = tt

pub rule_read : (ws : List (List ℕ)) (x : Reading Rule) → x ≡ rule ws → (r : Rule) → IsRule r → ws ≡ behind_rule r → x ≡ Ok r
rule_read ws x e r h is = e ∙ ap rule is ∙ rule_again r h
