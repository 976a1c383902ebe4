-- The lines before the events, and the end line: what they say is spelled by them, and what is spelled is said.
use Rattle.std.proofs.Common.{◌≡◌, ℕ, ◌+◌, ◌^◌, ◌<◌, ◌≤◌, Bool, true, false, cond, List, [], ◌∷◌, map, Some, None, refl, ap, subst, ◌∙◌, arith}
use Rattle.std.specs.Prelude.{codes, decimal}
use Rattle.std.specs.Option.{option_map}
use Rattle.std.specs.Result.{result_ok}
use Rattle.std.proofs.lemmas.Bool.{cond-true}
use Rattle.hp_states.proofs.Basics.{passed, same_some}
use Rattle.hp_states.specs.declared.limits.TheConstants.{MAX_RULE_CPU, MAX_INSTANCE, MAX_EVENTS}
use Rattle.hp_states.specs.declared.plan.Rule.{Rule}
use Rattle.hp_event.specs.declared.head.Sub.{Sub}
use Rattle.hp_model.specs.Words.{line, dir_word, name_word, any_word, calls_word, kind_word, list_words}
use Rattle.hp_model.specs.Heads.{IsName, IsRule}
use Rattle.hp_model.proofs.Rising.{Rise}
use Rattle.hp_text.specs.Numbers.{is_number, value, number_from}
use Rattle.hp_text.specs.Readings.{alone}
use Rattle.hp_text.specs.Sets.{rise_from}
use Rattle.hp_text.specs.Lists.{number_list_or_dash}
use Rattle.hp_text.specs.Subs.{sub, behind_sub, rule, behind_rule}
use Rattle.hp_text.proofs.NumberLaws.{number_is, decimal_written, from_again}
use Rattle.hp_text.proofs.Readings.{alone_is}
use Rattle.hp_text.proofs.SetWords.{rises, tested}
use Rattle.hp_text.proofs.ListLaws.{dash_takes, dash_again}
use Rattle.hp_text.proofs.SubLaws.{InRange, range_field, IsFresh}
use Rattle.hp_text.proofs.SubLaws as text
use Rattle.hp_event.specs.declared.version.Version.{Version}
use Rattle.hp_replay.specs.LineWords.{words_at}
use Rattle.hp_replay.specs.Readers.{one_of}
use Rattle.hp_replay.specs.Tails.{read}
use Rattle.hp_replay.specs.HeadLines.{HeadLine, a_sub, a_rule, the_events, cpus_tail, cpus_rows, cpus_at, if_rising, absent_tail, absent_rows, absent_at, head_rows, head_line_at}
use Rattle.hp_replay.specs.Versions.{most_cpus}
use Rattle.hp_replay.proofs.VersionLaws.{most_small}
use Rattle.hp_replay.specs.EndAt.{any_number, end_tail, end_rows, end_at}
use Rattle.hp_replay.proofs.NumberLaws.{ok_is}
use Rattle.hp_replay.proofs.LineLaws.{all_free, decimal_free, words_take}
use Rattle.hp_replay.proofs.ReaderLaws.{Spells, done_spells, mapped_spells, one_spells, line_takes, line_again, single_row, single_field, and_then_was}
use Rattle.hp_replay.proofs.EventAgain.{dir_free}
use Rattle.hp_replay.proofs.HeadFields.{any_free, name_free, calls_free, kind_free}
use Rattle.hp_replay.proofs.AbsentLaws.{rise_free}

-- ---- the possible processors

abbrev pub cpus_words : ℕ → List (List ℕ)
cpus_words n = codes "cpus" ∷ decimal n ∷ []

abbrev pub IsCount : Version → ℕ → Type 0
IsCount v n = InRange 1 (most_cpus v + 1) n

cpus_take : (v : Version) (ws : List (List ℕ)) (n : ℕ) → cpus_tail v ws ≡ Some n → (codes "cpus" ∷ ws ≡ cpus_words n) × IsCount v n
cpus_take v ws n e =
    let small = most_small v in
    let t = (alone_is (range_field 1 (most_cpus v + 1) (omega arith))).takes ws n (ok_is (alone (number_from 1 (most_cpus v + 1)) ws) n e) in
    (ap (λ (us : List (List ℕ)). codes "cpus" ∷ us) t.0, t.1)

cpus_spell : (v : Version) → Spells cpus_words (IsCount v) [] (one_of (cpus_rows v))
cpus_spell v = one_spells (cpus_rows v) (record { takes = cpus_take v }, tt)

pub cpus_takes : (v : Version) (l : List ℕ) (n : ℕ) → cpus_at v l ≡ Some n → (l ≡ line (cpus_words n)) × IsCount v n
unfolding cpus_at
cpus_takes v l n h = line_takes (cpus_spell v) l n h

pub cpus_free : (v : Version) (n : ℕ) → IsCount v n → all_free (cpus_words n) ≡ true
cpus_free v n h = let small = most_small v in rw (decimal_free n (omega (arith, h.1))) refl

pub cpus_again : (v : Version) (n : ℕ) → IsCount v n → cpus_at v (line (cpus_words n)) ≡ Some n
unfolding cpus_at
cpus_again v n h =
    let small = most_small v in
    line_again (one_of (cpus_rows v)) n (codes "cpus") (decimal n ∷ []) (cpus_free v n h)
    (ap (λ r. result_ok r) (from_again 1 (most_cpus v + 1) n (decimal n) (omega arith) h.0 h.1 refl))

-- ---- the absent ones

abbrev pub absent_words : List ℕ → List (List ℕ)
absent_words absent = codes "absent" ∷ list_words (map decimal absent)

risen : (possible : ℕ) (ns ms : List ℕ) (t : Bool) → rise_from 1 possible ns ≡ t → cond t (Some ns) None ≡ Some ms → (ns ≡ ms) × Rise 1 possible ns
risen possible ns ms true t e = (same_some ns ms e, rises 1 possible ns t)
risen possible ns ms false t e = absurd cc

absent_take : (possible : ℕ) (ws : List (List ℕ)) (ns : List ℕ) → absent_tail possible ws ≡ Some ns → (codes "absent" ∷ ws ≡ absent_words ns) × Rise 1 possible ns
absent_take possible ws ns e =
    let a = and_then_was (if_rising possible) (read number_list_or_dash ws) ns e in
    let r = risen possible a.0 ns (rise_from 1 possible a.0) refl a.2 in
    subst (λ (x : List ℕ). (codes "absent" ∷ ws ≡ absent_words x) × Rise 1 possible x) r.0
    (ap (λ (v : List (List ℕ)). codes "absent" ∷ v) (dash_takes ws a.0 (ok_is (number_list_or_dash ws) a.0 a.1)), r.1)

absent_spell : (possible : ℕ) → Spells absent_words (Rise 1 possible) [] (one_of (absent_rows possible))
absent_spell possible = one_spells (absent_rows possible) (record { takes = λ ws ns e. absent_take possible ws ns e }, tt)

pub absent_takes : (possible : ℕ) (l : List ℕ) (ns : List ℕ) → absent_at possible l ≡ Some ns → (l ≡ line (absent_words ns)) × Rise 1 possible ns
unfolding absent_at
absent_takes possible l ns h = line_takes (absent_spell possible) l ns h

pub absent_free : (possible : ℕ) (ns : List ℕ) → possible ≤ 2 ^ 32 → Rise 1 possible ns → all_free (absent_words ns) ≡ true
absent_free possible [] le h = refl
absent_free possible (n ∷ ns) le h = rise_free 1 possible (n ∷ ns) (omega (arith, le)) h

absent_reads : (possible : ℕ) (ns : List ℕ) → possible ≤ 2 ^ 32 → Rise 1 possible ns → absent_tail possible (list_words (map decimal ns)) ≡ Some ns
absent_reads possible ns le h = rw (dash_again 1 possible ns le h, tested 1 possible ns h) refl

pub absent_again : (possible : ℕ) (ns : List ℕ) → possible ≤ 2 ^ 32 → Rise 1 possible ns → absent_at possible (line (absent_words ns)) ≡ Some ns
unfolding absent_at
absent_again possible ns le h =
    line_again (one_of (absent_rows possible)) ns (codes "absent") (list_words (map decimal ns)) (absent_free possible ns le h)
    (absent_reads possible ns le h)

-- ---- subsystems, rules, and that the events follow

abbrev pub head_words : HeadLine → List (List ℕ)
head_words (a_sub sub) = codes "sub" ∷ name_word sub.name ∷ calls_word sub.up sub.down ∷ kind_word sub.multi ∷ []
head_words (a_rule rule) = codes "rule" ∷ dir_word rule.dir ∷ any_word rule.cpu ∷ any_word rule.inst ∷ any_word rule.nth ∷ decimal rule.code ∷ []
head_words the_events = codes "events" ∷ []

abbrev pub HeadFits : HeadLine → Type 0
HeadFits (a_sub sub) = IsName sub.name × (sub.plan ≡ [])
HeadFits (a_rule rule) = IsRule rule
HeadFits the_events = Unit {0}

sub_spells : Spells behind_sub IsFresh [] (read sub)
sub_spells = record { takes = λ ws s e. text.sub_takes ws s (ok_is (sub ws) s e) }

rule_spells : Spells behind_rule IsRule [] (read rule)
rule_spells = record { takes = λ ws r e. text.rule_takes ws r (ok_is (rule ws) r e) }

pub head_spells : Spells head_words HeadFits [] (one_of head_rows)
head_spells = one_spells head_rows (
  mapped_spells (λ s. a_sub s) sub_spells (λ s f. (refl, f)),
  (
    mapped_spells (λ r. a_rule r) rule_spells (λ r f. (refl, f)),
    (done_spells the_events refl tt, tt),
  ),
)

pub head_takes : (l : List ℕ) (x : HeadLine) → head_line_at l ≡ Some x → (l ≡ line (head_words x)) × HeadFits x
unfolding head_line_at
head_takes l x h = line_takes head_spells l x h

pub sub_free : (sub : Sub) → IsName sub.name → all_free (head_words (a_sub sub)) ≡ true
sub_free sub h = rw (name_free sub.name h, calls_free sub.up sub.down, kind_free sub.multi) refl

pub rule_free : (rule : Rule) → IsRule rule → all_free (head_words (a_rule rule)) ≡ true
rule_free rule h =
    rw (
      dir_free rule.dir,
      any_free MAX_RULE_CPU rule.cpu (omega arith) h.cpu_fits,
      any_free MAX_INSTANCE rule.inst (omega arith) h.inst_fits,
      any_free MAX_EVENTS rule.nth (omega arith) h.nth_fits,
      decimal_free rule.code (omega (arith, h.code_fits)),
    ) refl

pub sub_again : (sub : Sub) → IsName sub.name → head_line_at (line (head_words (a_sub sub))) ≡ Some (a_sub (record sub { plan = [] }))
unfolding head_line_at
sub_again sub h =
    line_again (one_of head_rows) (a_sub (record sub { plan = [] })) (codes "sub") (name_word sub.name ∷ calls_word sub.up sub.down ∷ kind_word sub.multi ∷ []) (sub_free sub h)
    (ap (λ r. option_map (λ s. a_sub s) (result_ok r)) (text.sub_again (record sub { plan = [] }) (h, refl)))

pub rule_again : (rule : Rule) → IsRule rule → head_line_at (line (head_words (a_rule rule))) ≡ Some (a_rule rule)
unfolding head_line_at
rule_again rule h =
    line_again (one_of head_rows) (a_rule rule) (codes "rule") (dir_word rule.dir ∷ any_word rule.cpu ∷ any_word rule.inst ∷ any_word rule.nth ∷ decimal rule.code ∷ []) (rule_free rule h)
    (ap (λ r. option_map (λ x. a_rule x) (result_ok r)) (text.rule_again rule h))

pub events_again : head_line_at (line (codes "events" ∷ [])) ≡ Some the_events
unfolding head_line_at
events_again = line_again (one_of head_rows) the_events (codes "events") [] refl refl

-- ---- the end

abbrev pub end_words : ℕ → List (List ℕ)
end_words n = codes "end" ∷ decimal n ∷ []

number_form : (w : List ℕ) (n : ℕ) → any_number w ≡ Some n → (is_number w ≡ true) × (value w ≡ n)
unfolding any_number
number_form w n e = let p = passed (is_number w) (Some (value w)) n e in (p.0, same_some (value w) n p.1)

number_small : (w : List ℕ) (n : ℕ) → n < 2 ^ 64 → any_number w ≡ Some n → w ≡ decimal n
number_small w n lt e = let p = number_form w n e in number_is w p.0 (omega (arith, p.1)) ∙ ap decimal p.1

-- an end line has these words
pub end_says : (l : List ℕ) (n : ℕ) → end_at l ≡ Some n → (w : List ℕ) × (words_at l ≡ Some (codes "end" ∷ w ∷ [])) × (any_number w ≡ Some n)
unfolding end_at
end_says l n h =
    let a = and_then_was (one_of end_rows) (words_at l) n h in
    let r = single_row (codes "end") end_tail a.0 n a.2 in
    let f = single_field any_number r.others n r.says in
    (f.word, a.1 ∙ ap Some (r.words_are ∙ ap (λ (vs : List (List ℕ)). codes "end" ∷ vs) f.words_are), f.says)

-- one with a number that a journal can have is spelled so
pub end_takes : (l : List ℕ) (n : ℕ) → n < 2 ^ 64 → end_at l ≡ Some n → l ≡ line (end_words n)
end_takes l n lt h =
    let s = end_says l n h in
    (words_take l _ s.1).whole ∙ ap (λ (w : List ℕ). line (codes "end" ∷ w ∷ [])) (number_small s.0 n lt s.2)

pub end_free : (n : ℕ) → n < 2 ^ 64 → all_free (end_words n) ≡ true
end_free n lt = rw (decimal_free n lt) refl

any_number_again : (n : ℕ) → n < 2 ^ 64 → any_number (decimal n) ≡ Some n
unfolding any_number
any_number_again n lt =
    let d = decimal_written n lt in
    let form : is_number (decimal n) ≡ true = d.form in
    cond-true (is_number (decimal n)) (Some (value (decimal n))) None form ∙ ap Some d.value_is

pub end_again : (n : ℕ) → n < 2 ^ 64 → end_at (line (end_words n)) ≡ Some n
unfolding end_at
end_again n lt =
    line_again (one_of end_rows) n (codes "end") (decimal n ∷ []) (end_free n lt)
    (rw (any_number_again n lt) refl)
