-- Small scripts, each with the first line that is refused and why, or none. All hold by computing the definitions.
use Rattle.std.proofs.Common.{◌≡◌, ℕ, ◌+◌, List, [], ◌∷◌, ◌++◌, map, Option, Some, None, refl}
use Rattle.std.proofs.Math.ListN.{replicate}
use Rattle.std.specs.Prelude.{codes, decimal}
use Rattle.std.specs.Fmt.{digits}
use Rattle.hp_states.specs.declared.limits.TheConstants.{MAX_EVENTS}
use Rattle.hp_text.specs.Numbers.{number_below, integer}
use Rattle.hp_text.specs.Choices.{dir_of, calls_of, kind_of, name_of, any_from}
use Rattle.hp_text.specs.Flags.{form}
use Rattle.hp_text.specs.Sets.{set}
use Rattle.hp_text.specs.Subs.{sub, rule}
use Rattle.hp_text.specs.FirstWords.{op_word_of, file_of}
use Rattle.hp_text.specs.OpAt.{op_tail}
use Rattle.hp_script.specs.declared.error.ScriptKind.{ScriptKind}
use Rattle.hp_script.specs.declared.error.ScriptKind.TheVariants.{BadByte, NoCpus, BadWord, BadOrder, StillLocked, BadForm, BadNumber, NoSub, TooMany, NoActor}
use Rattle.hp_script.specs.declared.before.Before.{Before}
use Rattle.hp_script.specs.Pieces.{lines}
use Rattle.hp_script.specs.Verbs.{verb_of}
use Rattle.hp_script.specs.Statements.{schedule_of_kind, schedule}
use Rattle.hp_script.specs.Before.{start, after_line}
use Rattle.hp_script.specs.Refusals.{refusal, refusal_at_end}

abbrev or_then : Option ScriptKind → (n : ℕ) → Option (ℕ × ScriptKind) → Option (ℕ × ScriptKind)
or_then None n more = more
or_then (Some kind) n more = Some (n, kind)

abbrev first_bad : (hooks : ℕ) → Before → (n : ℕ) → List (List ℕ) → Option (ℕ × ScriptKind)
first_bad hooks b n [] = or_then (refusal_at_end b) n None
first_bad hooks b n (line ∷ lines) = or_then (refusal hooks b line) n (first_bad hooks (after_line b line) (n + 1) lines)

unfoldable verdict : (hooks : ℕ) (bytes : List ℕ) → Option (ℕ × ScriptKind)
verdict hooks bytes = first_bad hooks start 1 (lines bytes)

-- the bytes of lines, each with its newline
abbrev script : List (List ℕ) → List ℕ
script [] = []
script (line ∷ lines) = line ++ 10 ∷ script lines

-- these lines behind that of one processor
abbrev of_one : List (List ℕ) → List ℕ
of_one lines = script (codes "cpus 1" ∷ lines)

-- behind those of two and of a subsystem
abbrev with_sub : List (List ℕ) → List ℕ
with_sub lines = script (codes "cpus 2" ∷ codes "sub a both single" ∷ lines)

-- and of an actor
abbrev acting : List (List ℕ) → List ℕ
acting lines = with_sub (codes "actor x" ∷ lines)

-- with two hooks
abbrev cases : List (List ℕ × Option (ℕ × ScriptKind))
cases =
    -- processors come first
    ([], Some (1, NoCpus)) ∷
    (script (codes " " ∷ [] ∷ codes "# c" ∷ []), Some (4, NoCpus)) ∷
    (script (codes "actor a" ∷ []), Some (1, NoCpus)) ∷
    (script ([] ∷ codes "foo" ∷ []), Some (2, NoCpus)) ∷
    (script (codes "Cpus 1" ∷ []), Some (1, NoCpus)) ∷
    (script (codes "thaw" ∷ []), Some (1, NoCpus)) ∷
    -- no byte below a space or above a tilde, in a comment either
    (script ((35 ∷ 32 ∷ 9 ∷ []) ∷ []), Some (1, BadByte)) ∷
    (script ((9 ∷ []) ∷ []), Some (1, BadByte)) ∷
    (script ((99 ∷ 112 ∷ 117 ∷ 115 ∷ 32 ∷ 49 ∷ 127 ∷ []) ∷ []), Some (1, BadByte)) ∷
    (script ((102 ∷ 111 ∷ 111 ∷ 32 ∷ 1 ∷ []) ∷ []), Some (1, BadByte)) ∷
    (of_one [] ++ codes "boot 1" ++ 9 ∷ [], Some (2, BadByte)) ∷
    -- comments, and words that no line begins with
    (of_one (codes "  # x y" ∷ codes "#" ∷ []) ++ codes "actor a", None) ∷
    (of_one (codes "actor a#" ∷ []), Some (2, BadForm)) ∷
    (of_one (codes "foo" ∷ []), Some (2, BadWord)) ∷
    (of_one (codes "actor a" ∷ codes "upmost 1" ∷ []), Some (3, BadWord)) ∷
    (acting (codes "upmany" ∷ []), Some (4, BadForm)) ∷
    (acting (codes "upmany 256 x" ∷ []), Some (4, BadForm)) ∷
    -- the order of lines
    (of_one (codes "cpus 1" ∷ []), Some (2, BadOrder)) ∷
    (of_one (codes "cpus x y" ∷ []), Some (2, BadOrder)) ∷
    (of_one (codes "rule up * * * 1" ∷ []), Some (2, BadOrder)) ∷
    (with_sub (codes "up 1" ∷ []), Some (3, BadOrder)) ∷
    (of_one (codes "sub a both single" ∷ codes "thaw" ∷ []), Some (3, BadOrder)) ∷
    (with_sub (codes "absent 1" ∷ []), Some (3, BadOrder)) ∷
    (script (codes "cpus 3" ∷ codes "absent 1" ∷ codes "absent 2" ∷ []), Some (3, BadOrder)) ∷
    (of_one (codes "schedule rounds" ∷ codes "sub a up multi" ∷ []), Some (3, BadOrder)) ∷
    (with_sub (codes "schedule rounds" ∷ codes "rule up * * * 1" ∷ []), Some (4, BadOrder)) ∷
    (of_one (codes "schedule rounds" ∷ codes "schedule rounds" ∷ []), Some (3, BadOrder)) ∷
    (of_one (codes "actor a" ∷ codes "schedule rounds" ∷ []), Some (3, BadOrder)) ∷
    -- read sections end before their actor does
    (of_one (codes "actor a" ∷ codes "lock" ∷ codes "actor b" ∷ []), Some (4, StillLocked)) ∷
    (of_one (codes "actor a" ∷ codes "lock" ∷ codes "actor" ∷ []), Some (4, StillLocked)) ∷
    (of_one ([] ∷ codes "actor a" ∷ []) ++ codes "lock", Some (5, StillLocked)) ∷
    (of_one (codes "actor a" ∷ codes "lock" ∷ codes "lock" ∷ codes "unlock" ∷ codes "actor b" ∷ codes "unlock" ∷ []), None) ∷
    -- a script has an actor, and at most 32
    (of_one [], Some (2, NoActor)) ∷
    (of_one ([] ∷ []), Some (3, NoActor)) ∷
    (of_one (codes "actor a b" ∷ []), Some (2, BadForm)) ∷
    (of_one (replicate 33 (codes "actor a")), Some (34, TooMany)) ∷
    -- how many processors, and which are absent
    (script (codes "cpus -1" ∷ []), Some (1, BadForm)) ∷
    (script (codes "cpus 01" ∷ []), Some (1, BadForm)) ∷
    (script (codes "cpus" ∷ []), Some (1, BadForm)) ∷
    (script (codes "cpus 1 2" ∷ []), Some (1, BadForm)) ∷
    (script (codes "cpus 0" ∷ []), Some (1, BadNumber)) ∷
    (script (codes "cpus 257" ∷ []), Some (1, BadNumber)) ∷
    (script (codes "cpus 99999999999999999999999999" ∷ []), Some (1, BadNumber)) ∷
    (script (codes "cpus 2" ∷ codes "absent" ∷ []), Some (2, BadForm)) ∷
    (of_one (codes "absent 1" ∷ []), Some (2, BadNumber)) ∷
    (script (codes "cpus 2" ∷ codes "absent 0" ∷ []), Some (2, BadNumber)) ∷
    (script (codes "cpus 4" ∷ codes "absent 2 2" ∷ []), Some (2, BadNumber)) ∷
    (script (codes "cpus 4" ∷ codes "absent 9 x" ∷ []), Some (2, BadForm)) ∷
    (script (codes "cpus 4" ∷ codes " absent  1   3 " ∷ codes "actor a" ∷ []), None) ∷
    -- subsystems, and their rules: at most eight of each
    (of_one (codes "sub a sideways multi" ∷ []), Some (2, BadForm)) ∷
    (of_one (codes "sub a! both multi" ∷ []), Some (2, BadForm)) ∷
    (of_one (codes "sub abcdefghijklmnopqrstuvwxyzabcdefg both multi" ∷ []), Some (2, BadForm)) ∷
    (with_sub (codes "rule up * * 0 x" ∷ []), Some (3, BadForm)) ∷
    (with_sub (codes "rule up * * 0 1" ∷ []), Some (3, BadNumber)) ∷
    (with_sub (codes "rule up 256 * * 1" ∷ []), Some (3, BadNumber)) ∷
    (with_sub (codes "rule down 255 65535 * 4096" ∷ []), Some (3, BadNumber)) ∷
    (with_sub ((codes "rule down 255 65535 " ++ decimal MAX_EVENTS ++ codes " 4095") ∷ codes "actor a" ∷ []), None) ∷
    (with_sub (replicate 9 (codes "rule up * * * 1")), Some (11, TooMany)) ∷
    (with_sub (replicate 8 (codes "rule up * * * 1") ++ codes "sub b none multi" ∷ codes "rule up * * * 1" ∷ codes "actor a" ∷ []), None) ∷
    -- schedules
    (of_one (codes "schedule" ∷ []), Some (2, BadForm)) ∷
    (of_one (codes "schedule turns" ∷ []), Some (2, BadForm)) ∷
    (of_one (codes "schedule turns 319 320" ∷ []), Some (2, BadNumber)) ∷
    (of_one (codes "schedule mix 18446744073709551616 0" ∷ []), Some (2, BadNumber)) ∷
    (of_one (codes "schedule mix 0 1000001" ∷ []), Some (2, BadNumber)) ∷
    (of_one (codes "schedule mix 18446744073709551615 1000000" ∷ codes "actor a" ∷ []), None) ∷
    -- operations of registration
    (acting (codes "setup 1 2" ∷ []), Some (4, NoSub)) ∷
    (acting (codes "setup 1 129" ∷ []), Some (4, BadNumber)) ∷
    (acting (codes "setup 1 0" ∷ []), Some (4, BadNumber)) ∷
    (acting (codes "setup 1 1" ∷ codes "setup 1 1 nocalls locked" ∷ codes "setup 1 1" ∷ []), Some (6, TooMany)) ∷
    (acting (codes "setup 1 1" ∷ codes "setup 1 1 locked" ∷ []), None) ∷
    (acting (codes "setup 1 1 locked nocalls" ∷ []), Some (4, BadForm)) ∷
    (acting (codes "remove 65536 noflag" ∷ []), Some (4, BadForm)) ∷
    (acting (codes "add 5 0" ∷ codes "del 5 0 nocalls" ∷ []) ++ codes "remove 65535 locked", None) ∷
    (acting (codes "add 5 65536" ∷ []), Some (4, BadNumber)) ∷
    -- other operations
    (acting (codes "up -1" ∷ []), Some (4, BadForm)) ∷
    (acting (codes "up 4096" ∷ []), Some (4, BadNumber)) ∷
    (acting (codes "lock now" ∷ []), Some (4, BadForm)) ∷
    (acting (codes "target 1 200" ∷ []), None) ∷
    (acting (codes "fail" ∷ []), Some (4, BadForm)) ∷
    (acting (codes "target 4095 -2147483648" ∷ []), None) ∷
    (acting (codes "show states" ∷ []), None) ∷
    (acting (codes "boot x" ∷ []), Some (4, BadForm)) ∷
    (acting (codes "disable" ∷ []), None) ∷
    (acting (codes "enable now" ∷ []), Some (4, BadForm)) ∷
    (acting (codes "freeze 4096" ∷ []), Some (4, BadNumber)) ∷
    (acting (codes "freeze -2" ∷ []), Some (4, BadNumber)) ∷
    (acting (codes "freeze -1" ∷ codes "freeze 4095" ∷ []), None) ∷
    (acting (codes "thaw" ∷ []), None) ∷
    (acting (codes "wakeup" ∷ []), None) ∷
    []

cases_hold : map (λ row. verdict 2 row.0) cases ≡ map (λ row. row.1) cases
unfolding verdict digits op_word_of file_of number_below integer form set op_tail dir_of calls_of kind_of name_of any_from sub rule verb_of schedule_of_kind schedule
cases_hold = refl

-- the subsystem is looked for before a hook is
without_hooks : verdict 0 (acting (codes "setup 1 2" ∷ [])) ≡ Some (4, NoSub)
unfolding verdict op_word_of file_of number_below integer form set op_tail dir_of calls_of kind_of name_of any_from sub rule verb_of schedule_of_kind schedule
without_hooks = refl
