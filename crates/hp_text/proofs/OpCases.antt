-- Words, and the operation, the subsystem or the rule that they say, or why they say none. All hold by computing the
-- definitions.
use Rattle.std.proofs.Common.{◌≡◌, ℕ, pos, negsuc, true, false, List, [], ◌∷◌, map, Some, None, Ok, Err, refl}
use Rattle.std.specs.Prelude.{codes}
use Rattle.hp_states.specs.CpuSets.{has}
use Rattle.hp_states.specs.declared.dir.Dir.TheVariants as dir
use Rattle.hp_states.specs.declared.plan.Rule.{Rule}
use Rattle.hp_event.specs.declared.op.Op.{Op}
use Rattle.hp_event.specs.declared.op.Op.TheVariants as op
use Rattle.hp_event.specs.declared.head.Sub.{Sub}
use Rattle.hp_model.specs.Listed.{listed}
use Rattle.hp_model.specs.SetOf.{bits_of, set_of}
use Rattle.hp_text.specs.declared.unread.Unread.TheVariants.{NotOfForm, OutOfRange}
use Rattle.hp_text.specs.Numbers.{number_below, integer}
use Rattle.hp_text.specs.Readings.{Reading}
use Rattle.hp_text.specs.Choices.{dir_of, calls_of, kind_of, name_of, any_from}
use Rattle.hp_text.specs.Flags.{flags, form}
use Rattle.hp_text.specs.Sets.{set}
use Rattle.hp_text.specs.FirstWords.{op_word_of, file_of}
use Rattle.hp_text.specs.Subs.{sub, rule}
use Rattle.hp_text.specs.OpAt.{op_tail, op_at}

abbrev ops : List (List (List ℕ) × Reading Op)
ops =
    (codes "target" ∷ codes "4294967295" ∷ codes "-2147483648" ∷ [], Ok (op.Target 4294967295 (negsuc 2147483647))) ∷
    (codes "target" ∷ codes "0" ∷ codes "-2147483649" ∷ [], Err OutOfRange) ∷
    (codes "target" ∷ codes "0" ∷ codes "2147483648" ∷ [], Err OutOfRange) ∷
    (codes "target" ∷ codes "4294967296" ∷ codes "-0" ∷ [], Err NotOfForm) ∷
    (codes "target" ∷ codes "4294967296" ∷ codes "0" ∷ [], Err OutOfRange) ∷
    (codes "fail" ∷ codes "0" ∷ codes "+1" ∷ [], Err NotOfForm) ∷
    (codes "boot" ∷ codes "-1" ∷ [], Err NotOfForm) ∷
    (codes "freeze" ∷ codes "-1" ∷ [], Ok (op.Freeze (negsuc 0))) ∷
    (codes "freeze" ∷ codes "-0" ∷ [], Err NotOfForm) ∷
    (codes "show" ∷ codes "other" ∷ codes "1" ∷ [], Err NotOfForm) ∷
    (codes "show" ∷ [], Err NotOfForm) ∷
    (codes "show" ∷ codes "states" ∷ codes "1" ∷ [], Err NotOfForm) ∷
    (codes "show" ∷ codes "states" ∷ [], Ok op.ShowStates) ∷
    (codes "show" ∷ codes "target" ∷ codes "2" ∷ [], Ok (op.ShowTarget 2)) ∷
    (codes "disable" ∷ codes "1" ∷ [], Err NotOfForm) ∷
    (codes "setup" ∷ codes "1" ∷ codes "1" ∷ codes "nocalls" ∷ codes "locked" ∷ [], Ok (op.Setup 1 1 (flags true true))) ∷
    (codes "setup" ∷ codes "1" ∷ codes "1" ∷ codes "locked" ∷ codes "nocalls" ∷ [], Err NotOfForm) ∷
    (codes "setup" ∷ codes "4294967296" ∷ codes "1" ∷ codes "noflag" ∷ [], Err NotOfForm) ∷
    (codes "upmany" ∷ [], Err NotOfForm) ∷
    (codes "upmany" ∷ codes "1" ∷ codes "two" ∷ [], Err NotOfForm) ∷
    (codes "upmany" ∷ codes "2" ∷ codes "1" ∷ codes "03" ∷ [], Err NotOfForm) ∷
    (codes "upmany" ∷ codes "256" ∷ codes "-1" ∷ [], Err NotOfForm) ∷
    (codes "upmany" ∷ codes "256" ∷ [], Err OutOfRange) ∷
    (codes "upmany" ∷ codes "1" ∷ codes "1" ∷ [], Err OutOfRange) ∷
    (codes "upmany" ∷ codes "0" ∷ codes "18446744073709551616" ∷ [], Err OutOfRange) ∷
    (codes "upmany" ∷ codes "1" ∷ codes "2" ∷ codes "65" ∷ codes "255" ∷ [], Ok (op.UpMany (record { words = 6 ∷ 2 ∷ 0 ∷ 9223372036854775808 ∷ [] }))) ∷
    []

ops_said : map (λ row. op_at row.0) ops ≡ map (λ row. row.1) ops
unfolding op_at op_tail op_word_of file_of form set number_below integer set_of bits_of listed has
ops_said = refl

-- ---- behind `sub` and `rule`

abbrev subs : List (List (List ℕ) × Reading Sub)
subs =
    (codes "-" ∷ codes "none" ∷ codes "multi" ∷ [], Ok (record { name = []; up = false; down = false; multi = true; plan = [] })) ∷
    (codes "a,b" ∷ codes "both" ∷ codes "single" ∷ [], Err NotOfForm) ∷
    (codes "abcdefghijklmnopqrstuvwxyzabcdefg" ∷ codes "both" ∷ codes "single" ∷ [], Err NotOfForm) ∷
    (codes "a" ∷ codes "both" ∷ [], Err NotOfForm) ∷
    []

subs_said : map (λ row. sub row.0) subs ≡ map (λ row. row.1) subs
unfolding sub name_of calls_of kind_of
subs_said = refl

abbrev rules : List (List (List ℕ) × Reading Rule)
rules =
    (codes "up" ∷ codes "1" ∷ codes "*" ∷ codes "*" ∷ codes "5" ∷ [], Ok (record { dir = dir.Up; cpu = Some 1; inst = None; nth = None; code = 5 })) ∷
    (codes "up" ∷ codes "256" ∷ codes "*" ∷ codes "*" ∷ codes "5" ∷ [], Err OutOfRange) ∷
    (codes "up" ∷ codes "256" ∷ codes "*" ∷ codes "*" ∷ codes "x" ∷ [], Err NotOfForm) ∷
    (codes "up" ∷ codes "*" ∷ codes "*" ∷ codes "0" ∷ codes "5" ∷ [], Err OutOfRange) ∷
    (codes "up" ∷ codes "*" ∷ codes "65536" ∷ codes "*" ∷ codes "5" ∷ [], Err OutOfRange) ∷
    (codes "up" ∷ codes "*" ∷ codes "*" ∷ codes "*" ∷ codes "4096" ∷ [], Err OutOfRange) ∷
    []

rules_said : map (λ row. rule row.0) rules ≡ map (λ row. row.1) rules
unfolding rule dir_of any_from number_below
rules_said = refl
