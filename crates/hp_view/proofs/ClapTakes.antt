-- Clap takes the words of the two options, where no text begins with a dash.
use Rattle.std.proofs.Common.{◌≡◌, ℕ, ◌≤◌, Bool, true, false, cond, eqb, ◌||◌, Option, Some, None, List, [], ◌∷◌, ◌++◌, length, length-append, codes, inl, inr, refl, sym, ap, subst, ◌∙◌, arith}
use Rattle.std.specs.Prelude.{fold}
use Rattle.std.specs.Str.{bytes_eq}
use Rattle.std.proofs.lemmas.Bool.{ne_eqb}
use Rattle.clap.specs.Lexer.{long_of, short_of}
use Rattle.clap.specs.Walk.{Row, Walk, finished, has_row, settled, walked, with_default}
use Rattle.clap.specs.Simple.{built}
use Rattle.clap.specs.Kinds.{HasKind, Kinds, or_else}
use Rattle.clap.specs.Values.{kind_of}
use Rattle.clap.specs.declared.error.Error.{Error}
use Rattle.clap.specs.declared.error.kind.ErrorKind.TheVariants as kind
use Rattle.clap.specs.Faults.{check_fault, default_fault, defaults_fault, fault_of, given_default_fault, settle_fault, turn_fault, walk_fault}
use Rattle.clap.specs.Walk.{nothing_held}
use Rattle.clap.proofs.FaultLemmas.{leaf_fault}
use Rattle.hp_command.specs.Options.{AreWordsOf, BeginsPlain, CanBeOptions}
use Rattle.hp_view.specs.Options.{AreWordsOfBoth}
use Rattle.hp_command.proofs.Reading.{Word}
use Rattle.hp_view.proofs.ClapRules.{Flag, start, stop, name, rule, rules, top, app}
use Rattle.hp_command.proofs.ClapWords.{joined}
use Rattle.hp_view.proofs.ClapSteps.{at_rest, at_value, with_use, dashes, turn_at, walked_at, turn_value, walked_value}
use Rattle.hp_view.proofs.ClapWalk.{Passes, has_dashes}

-- ---- words that pass

ends : (w : Walk) → settle_fault rules false w.held ≡ [] → Passes w []
unfolding walk_fault
ends w e = record { walk = refl; end = e }

next : (w after : Walk) (word : Word) (words : List Word) → turn_fault top [] w word ≡ [] → walked rules [] w word ≡ after → Passes after words → Passes w (word ∷ words)
unfolding walk_fault
next w after word words turn step h =
    let behind : Passes (walked rules [] w word) words = subst (λ (v : Walk). Passes v words) (sym step) h in
    record { walk = ap (λ (k : Kinds). or_else k (walk_fault top [] (walked rules [] w word) words)) turn ∙ behind.walk; end = behind.end }

-- what clap sees of a text that doesn't begin with a dash
record IsPlain (text : Word) : Type 0 where
  other : bytes_eq text dashes ≡ false
  no_long : long_of text ≡ None
  no_short : short_of text ≡ None

plain_byte : (b : ℕ) (bs : Word) → eqb b 45 ≡ false → IsPlain (b ∷ bs)
plain_byte b bs e = record { other = rw e refl; no_long = rw e refl; no_short = rw e refl }

plain : (text : Word) → BeginsPlain (Some text) → IsPlain text
plain [] h = absurd h
plain (b ∷ bs) h = plain_byte b bs (ne_eqb b 45 h)

value_turn : (f : Flag) (rows : List Row) (text : Word) → short_of text ≡ None → turn_at false None text (at_value f rows) ≡ []
value_turn start rows text e = rw e refl
value_turn stop rows text e = rw e refl

value_step : (f : Flag) (rows : List Row) (text : Word) → short_of text ≡ None → walked_at false None text (at_value f rows) ≡ at_rest (Some (f, text)) rows
value_step start rows text e = rw e refl
value_step stop rows text e = rw e refl

value_next : (f : Flag) (rows : List Row) (text : Word) (words : List Word) → BeginsPlain (Some text) → Passes (at_rest (Some (f, text)) rows) words → Passes (at_value f rows) (text ∷ words)
value_next f rows text words h after =
    let p = plain text h in
    next (at_value f rows) (at_rest (Some (f, text)) rows) text words
    (turn_value f rows text ∙ ap (λ (b : Bool). turn_at b (long_of text) text (at_value f rows)) p.other
    ∙ ap (λ (o : Option (Word × Option Word)). turn_at false o text (at_value f rows)) p.no_long ∙ value_turn f rows text p.no_short)
    (walked_value f rows text ∙ ap (λ (b : Bool). walked_at b (long_of text) text (at_value f rows)) p.other
    ∙ ap (λ (o : Option (Word × Option Word)). walked_at false o text (at_value f rows)) p.no_long ∙ value_step f rows text p.no_short)
    after

-- ---- no fault after the walk

default_by : (b : Bool) (k : Kinds) → cond (b || true) [] k ≡ []
default_by true k = refl
default_by false k = refl

default_is : (f : Flag) (rows : List Row) → default_fault rows (rule f) ≡ []
default_is f rows = default_by (has_row (name f) rows) (given_default_fault (rule f) [])

both_none : (a b : Kinds) → a ≡ [] → b ≡ [] → or_else a b ≡ []
both_none a b ea eb = rw (ea, eb) refl

no_default_fault : (rows : List Row) → defaults_fault rows rules ≡ []
unfolding defaults_fault
no_default_fault rows = both_none _ _ (default_is start rows) (both_none _ _ (default_is stop (with_default rows (rule start))) refl)

pub passes_all : (words : List Word) → Passes (at_rest None []) words → fault_of app words ≡ []
passes_all words h =
    let end = (fold (walked rules []) (at_rest None []) words).held in
    leaf_fault (built app) nothing_held words refl
    ∙ both_none (walk_fault top [] (at_rest None []) words) _ h.walk
    (both_none (settle_fault rules false end) _ h.end
    (both_none (defaults_fault (settled rules end).rows rules) (check_fault top (finished rules end) false) (no_default_fault (settled rules end).rows) refl))

-- ---- the words of both options

-- one use, and two uses of different options
apart : (f : Flag) (t : Word) → BeginsPlain (Some t) → Passes (at_rest None []) ((45 ∷ 45 ∷ name f) ∷ t ∷ [])
unfolding walked
apart start t p = next _ (at_value start []) _ _ refl refl (value_next start [] t [] p (ends _ refl))
apart stop t p = next _ (at_value stop []) _ _ refl refl (value_next stop [] t [] p (ends _ refl))

whole : (f : Flag) (t : Word) → Passes (at_rest None []) ((45 ∷ 45 ∷ joined (name f) (Some t)) ∷ [])
unfolding walked
whole start t = next _ (at_rest None (with_use start t [])) _ _ refl refl (ends _ refl)
whole stop t = next _ (at_rest None (with_use stop t [])) _ _ refl refl (ends _ refl)

abbrev other : Flag → Flag
other start = stop
other stop = start

-- the words of the second use, behind the first
behind_apart : (f : Flag) (t u : Word) → BeginsPlain (Some u) → Passes (at_rest (Some (f, t)) []) ((45 ∷ 45 ∷ name (other f)) ∷ u ∷ [])
unfolding walked
behind_apart start t u p = next _ (at_value stop (with_use start t [])) _ _ refl refl (value_next stop (with_use start t []) u [] p (ends _ refl))
behind_apart stop t u p = next _ (at_value start (with_use stop t [])) _ _ refl refl (value_next start (with_use stop t []) u [] p (ends _ refl))

behind_whole : (f : Flag) (t u : Word) → BeginsPlain (Some u) → Passes (at_rest None (with_use f t [])) ((45 ∷ 45 ∷ name (other f)) ∷ u ∷ [])
unfolding walked
behind_whole start t u p = next _ (at_value stop (with_use start t [])) _ _ refl refl (value_next stop (with_use start t []) u [] p (ends _ refl))
behind_whole stop t u p = next _ (at_value start (with_use stop t [])) _ _ refl refl (value_next start (with_use stop t []) u [] p (ends _ refl))

whole_behind_apart : (f : Flag) (t u : Word) → Passes (at_rest (Some (f, t)) []) ((45 ∷ 45 ∷ joined (name (other f)) (Some u)) ∷ [])
unfolding walked
whole_behind_apart start t u = next _ (at_rest None (with_use stop u (with_use start t []))) _ _ refl refl (ends _ refl)
whole_behind_apart stop t u = next _ (at_rest None (with_use start u (with_use stop t []))) _ _ refl refl (ends _ refl)

whole_behind_whole : (f : Flag) (t u : Word) → Passes (at_rest None (with_use f t [])) ((45 ∷ 45 ∷ joined (name (other f)) (Some u)) ∷ [])
unfolding walked
whole_behind_whole start t u = next _ (at_rest None (with_use stop u (with_use start t []))) _ _ refl refl (ends _ refl)
whole_behind_whole stop t u = next _ (at_rest None (with_use start u (with_use stop t []))) _ _ refl refl (ends _ refl)

apart_and : (f : Flag) (t : Word) (words : List Word) → BeginsPlain (Some t) → Passes (at_rest (Some (f, t)) []) words → Passes (at_rest None []) ((45 ∷ 45 ∷ name f) ∷ t ∷ words)
unfolding walked
apart_and start t words p h = next _ (at_value start []) _ _ refl refl (value_next start [] t words p h)
apart_and stop t words p h = next _ (at_value stop []) _ _ refl refl (value_next stop [] t words p h)

whole_and : (f : Flag) (t : Word) (words : List Word) → Passes (at_rest None (with_use f t [])) words → Passes (at_rest None []) ((45 ∷ 45 ∷ joined (name f) (Some t)) ∷ words)
unfolding walked
whole_and start t words h = next _ (at_rest None (with_use start t [])) _ _ refl refl h
whole_and stop t words h = next _ (at_rest None (with_use stop t [])) _ _ refl refl h

in_order : (f : Flag) (x y : Option Word) (a b : List Word) → AreWordsOf (45 ∷ 45 ∷ name f) x a → AreWordsOf (45 ∷ 45 ∷ name (other f)) y b → BeginsPlain x → BeginsPlain y → Passes (at_rest None []) (a ++ b)
in_order f None None a b ea eb px py = rw (ea, eb) (ends _ refl)
in_order start None (Some y) a b ea (inl eb) px py = rw (ea, eb) (apart stop y py)
in_order start None (Some y) a b ea (inr eb) px py = rw (ea, eb) (whole stop y)
in_order stop None (Some y) a b ea (inl eb) px py = rw (ea, eb) (apart start y py)
in_order stop None (Some y) a b ea (inr eb) px py = rw (ea, eb) (whole start y)
in_order f (Some x) None a b (inl ea) eb px py = rw (ea, eb) (apart f x px)
in_order f (Some x) None a b (inr ea) eb px py = rw (ea, eb) (whole f x)
in_order f (Some x) (Some y) a b (inl ea) (inl eb) px py = rw (ea, eb) (apart_and f x _ px (behind_apart f x y py))
in_order f (Some x) (Some y) a b (inl ea) (inr eb) px py = rw (ea, eb) (apart_and f x _ px (whole_behind_apart f x y))
in_order f (Some x) (Some y) a b (inr ea) (inl eb) px py = rw (ea, eb) (whole_and f x _ (behind_whole f x y py))
in_order f (Some x) (Some y) a b (inr ea) (inr eb) px py = rw (ea, eb) (whole_and f x _ (whole_behind_whole f x y))

-- clap finds no fault in the words of both options
pub no_fault : (words : List Word) (s z : Option Word) → AreWordsOfBoth words s z → BeginsPlain s → BeginsPlain z → fault_of app words ≡ []
no_fault words s z h ps pz =
    passes_all words (elim h.any_order [
      | inl e ↦ subst (λ (ws : List Word). Passes (at_rest None []) ws) (sym e) (in_order start s z h.start_words h.stop_words h.of_start h.of_stop ps pz)
      | inr e ↦ subst (λ (ws : List Word). Passes (at_rest None []) ws) (sym e) (in_order stop z s h.stop_words h.start_words h.of_stop h.of_start pz ps)
    ])

-- ---- none of these words is two dashes

not_dashes : (text : Word) → BeginsPlain (Some text) → bytes_eq text dashes ≡ false
not_dashes text h = (plain text h).other

clear_of : (f : Flag) (t : Option Word) (a : List Word) → AreWordsOf (45 ∷ 45 ∷ name f) t a → BeginsPlain t → has_dashes a ≡ false
clear_of f None a e p = rw e refl
clear_of start (Some t) a (inl e) p = rw e (rw (not_dashes t p) refl)
clear_of stop (Some t) a (inl e) p = rw e (rw (not_dashes t p) refl)
clear_of start (Some t) a (inr e) p = rw e refl
clear_of stop (Some t) a (inr e) p = rw e refl

clear_both : (a b : List Word) → has_dashes a ≡ false → has_dashes b ≡ false → has_dashes (a ++ b) ≡ false
clear_both [] b ea eb = eb
clear_both (w ∷ ws) b ea eb = go (bytes_eq w dashes) refl ea (λ e. clear_both ws b e eb)
  where
    go : (t : Bool) → bytes_eq w dashes ≡ t → t || has_dashes ws ≡ false → (has_dashes ws ≡ false → has_dashes (ws ++ b) ≡ false) →
        has_dashes (w ∷ (ws ++ b)) ≡ false
    go true is e more = absurd cc
    go false is e more = rw is (more e)

pub no_dashes : (words : List Word) (s z : Option Word) → AreWordsOfBoth words s z → BeginsPlain s → BeginsPlain z → has_dashes words ≡ false
no_dashes words s z h ps pz =
    let cs = clear_of start s h.start_words h.of_start ps in
    let cz = clear_of stop z h.stop_words h.of_stop pz in
    elim h.any_order [
      | inl e ↦ subst (λ (ws : List Word). has_dashes ws ≡ false) (sym e) (clear_both h.start_words h.stop_words cs cz)
      | inr e ↦ subst (λ (ws : List Word). has_dashes ws ≡ false) (sym e) (clear_both h.stop_words h.start_words cz cs)
    ]

-- and they are few
few_of : (name : Word) (text : Option Word) (words : List Word) → AreWordsOf name text words → length words ≤ 2
few_of name None words h = rw h (omega arith)
few_of name (Some text) words (inl h) = rw h (omega arith)
few_of name (Some text) words (inr h) = rw h (omega arith)

pub can_be : (words : List Word) (s z : Option Word) → AreWordsOfBoth words s z → BeginsPlain s → BeginsPlain z → CanBeOptions words
can_be words s z h ps pz =
    let few_s = few_of (codes "--from") s h.start_words h.of_start in
    let few_z = few_of (codes "--to") z h.stop_words h.of_stop in
    record {
      few = elim h.any_order [
        | inl e ↦ let both = ap length e ∙ length-append h.start_words h.stop_words in omega (arith, few_s, few_z, both)
        | inr e ↦ let both = ap length e ∙ length-append h.stop_words h.start_words in omega (arith, few_s, few_z, both)
      ];
      none_ends = no_dashes words s z h ps pz;
    }

-- where there is no fault, memory is wanting
pub only_memory : (kinds : Kinds) (e : Error) → kinds ≡ [] → HasKind kinds e → kind_of e ≡ kind.OutOfMemory
only_memory kinds e none (inl m) = m
only_memory [] e none (inr among) = absurd among
only_memory (k ∷ ks) e none (inr among) = absurd cc
