-- Words that are numbers and operations in the lines of a journal: what is read is spelled by them, what is spelled is
-- read again, and they have no spaces and newlines.
use Rattle.std.proofs.Common.{◌≡◌, ℕ, Bool, true, false, [], Some, refl, ap, arith}
use Rattle.std.specs.Result.{result_ok}
use Rattle.std.specs.Fmt.{decimal, signed_decimal}
use Rattle.hp_event.specs.declared.op.Op.{Op}
use Rattle.hp_event.specs.declared.op.Op.TheVariants.{Up, Down, Target, Arm, ShowState, ShowTarget, ShowFail, ShowStates, Setup, Remove, Add, Del, Lock, Unlock, Boot, Disable, Enable, Freeze, Thaw, Wakeup, UpMany}
use Rattle.hp_event.specs.declared.op.Form.{Form}
use Rattle.hp_model.specs.Listed.{listed}
use Rattle.hp_model.specs.HasLine.{lists_one}
use Rattle.hp_model.specs.EventLine.{form_words, op_words}
use Rattle.hp_model.proofs.SetLemmas.{listed_rises}
use Rattle.hp_text.specs.Fits.{IsU32, IsI32, OpFits, IsSayable}
use Rattle.hp_text.specs.Flags.{flags}
use Rattle.hp_text.specs.OpAt.{op_at}
use Rattle.hp_text.proofs.OpLaws as laws
use Rattle.hp_replay.specs.Numbers.{number, integer}
use Rattle.hp_replay.specs.Tails.{op}
use Rattle.hp_replay.proofs.AbsentLaws.{rise_free}
use Rattle.hp_replay.proofs.LineLaws.{is_free, all_free, decimal_free, signed_free}
use Rattle.hp_replay.proofs.NumberLaws.{ok_is, number_takes, integer_takes}
use Rattle.hp_replay.proofs.ReaderLaws.{IsField, Spells}

-- ---- what is read

pub number_field : IsField number decimal IsU32
number_field = record { takes = number_takes }

pub integer_field : IsField integer signed_decimal IsI32
integer_field = record { takes = integer_takes }

pub op_spells : Spells op_words IsSayable [] op
op_spells = record { takes = λ ws o e. laws.op_takes ws o (ok_is (op_at ws) o e) }

-- ---- what is read again

pub op_again : (o : Op) → OpFits o → lists_one o ≡ true → op (op_words o) ≡ Some o
op_again o fits one = ap (λ r. result_ok r) (laws.op_again o (fits, one))

-- ---- words without spaces and newlines

pub number_free : (n : ℕ) → IsU32 n → is_free (decimal n) ≡ true
number_free n lt = decimal_free n (omega arith)

flags_free : (n l : Bool) → all_free (form_words (flags n l)) ≡ true
flags_free false false = refl
flags_free false true = refl
flags_free true false = refl
flags_free true true = refl

form_free : (f : Form) → all_free (form_words f) ≡ true
form_free f = flags_free f.nocalls f.locked

pub op_free : (o : Op) → OpFits o → all_free (op_words o) ≡ true
op_free (Up cpu) h = rw (number_free cpu h) refl
op_free (Down cpu) h = rw (number_free cpu h) refl
op_free (Target cpu value) h = rw (number_free cpu h.0, signed_free value h.1) refl
op_free (Arm cpu value) h = rw (number_free cpu h.0, signed_free value h.1) refl
op_free (ShowState cpu) h = rw (number_free cpu h) refl
op_free (ShowTarget cpu) h = rw (number_free cpu h) refl
op_free (ShowFail cpu) h = rw (number_free cpu h) refl
op_free ShowStates h = refl
op_free (Setup state sub f) h = rw (number_free state h.0, number_free sub h.1, form_free f) refl
op_free (Remove state f) h = rw (number_free state h, form_free f) refl
op_free (Add state inst f) h = rw (number_free state h.0, number_free inst h.1, form_free f) refl
op_free (Del state inst f) h = rw (number_free state h.0, number_free inst h.1, form_free f) refl
op_free Lock h = refl
op_free Unlock h = refl
op_free (Boot most) h = rw (number_free most h) refl
op_free Disable h = refl
op_free Enable h = refl
op_free (Freeze primary) h = rw (signed_free primary h) refl
op_free Thaw h = refl
op_free Wakeup h = refl
op_free (UpMany set) h = rise_free 0 256 (listed set) (omega arith) (listed_rises set)
