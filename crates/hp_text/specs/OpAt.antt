-- The operation that words say: its first word, and what stands behind that. This project's own.
use Rattle.std.specs.Prelude.{[], ◌∷◌, Option, Some, None, Err}
use Rattle.hp_event.specs.declared.event.File.{File}
use Rattle.hp_event.specs.declared.event.File.TheVariants as file
use Rattle.hp_event.specs.declared.op.Op.{Op}
use Rattle.hp_event.specs.declared.op.Op.TheVariants as op
use Rattle.hp_text.specs.declared.unread.Unread.TheVariants.{NotOfForm}
use Rattle.hp_text.specs.declared.first_word.OpWord.{OpWord}
use Rattle.hp_text.specs.declared.first_word.OpWord.TheVariants as word
use Rattle.hp_text.specs.Numbers.{number, integer}
use Rattle.hp_text.specs.Readings.{Tail, said, done, alone, in_front}
use Rattle.hp_text.specs.Flags.{form}
use Rattle.hp_text.specs.Sets.{set}
use Rattle.hp_text.specs.FirstWords.{op_word_of, file_of}

-- what stands behind the name of a file that is shown
abbrev pub shown_tail : Option File → Tail Op
shown_tail None ws = Err NotOfForm
shown_tail (Some file.State) ws = said (λ cpu. op.ShowState cpu) (alone number ws)
shown_tail (Some file.Target) ws = said (λ cpu. op.ShowTarget cpu) (alone number ws)
shown_tail (Some file.Fail) ws = said (λ cpu. op.ShowFail cpu) (alone number ws)
shown_tail (Some file.States) ws = done op.ShowStates ws

abbrev pub show_tail : Tail Op
show_tail [] = Err NotOfForm
show_tail (w ∷ ws) = shown_tail (file_of w) ws

-- what stands behind the first word
unfoldable pub op_tail : OpWord → Tail Op
op_tail word.Up ws = said (λ cpu. op.Up cpu) (alone number ws)
op_tail word.Down ws = said (λ cpu. op.Down cpu) (alone number ws)
op_tail word.Target ws = said (λ x. op.Target x.0 x.1) (in_front number (alone integer) ws)
op_tail word.Fail ws = said (λ x. op.Arm x.0 x.1) (in_front number (alone integer) ws)
op_tail word.Show ws = show_tail ws
op_tail word.Setup ws = said (λ x. op.Setup x.0 x.1.0 x.1.1) (in_front number (in_front number form) ws)
op_tail word.Remove ws = said (λ x. op.Remove x.0 x.1) (in_front number form ws)
op_tail word.Add ws = said (λ x. op.Add x.0 x.1.0 x.1.1) (in_front number (in_front number form) ws)
op_tail word.Del ws = said (λ x. op.Del x.0 x.1.0 x.1.1) (in_front number (in_front number form) ws)
op_tail word.Lock ws = done op.Lock ws
op_tail word.Unlock ws = done op.Unlock ws
op_tail word.Boot ws = said (λ most. op.Boot most) (alone number ws)
op_tail word.Disable ws = done op.Disable ws
op_tail word.Enable ws = done op.Enable ws
op_tail word.Freeze ws = said (λ primary. op.Freeze primary) (alone integer ws)
op_tail word.Thaw ws = done op.Thaw ws
op_tail word.Wakeup ws = done op.Wakeup ws
op_tail word.UpMany ws = said (λ cpus. op.UpMany cpus) (set ws)

-- what stands behind a word that may be a first one
abbrev pub tail_of : Option OpWord → Tail Op
tail_of None ws = Err NotOfForm
tail_of (Some first) ws = op_tail first ws

unfoldable pub op_at : Tail Op
op_at [] = Err NotOfForm
op_at (w ∷ ws) = tail_of (op_word_of w) ws
