-- The mark of an entry that ran and was ok, whose numbers are short: its two parts. This project's own.
use Rattle.std.specs.Prelude.{ℕ, ◌<◌, List, ◌++◌, codes, decimal}
use Rattle.hp_event.specs.declared.how.How.TheVariants.{RanOk}
use Rattle.hp_model.specs.Words.{dir_word}
use Rattle.hp_timeline.specs.declared.mark.Ran.{Ran}
use Rattle.hp_text.specs.declared.pieces.TheConstants.{FEW}
use Rattle.hp_timeline.specs.declared.text.TheConstants.{LONG}
use Rattle.hp_timeline.specs.Marks.{shape, how_word}

pub record IsShort (r : Ran) : Type 0 where
  pub left : r.left < LONG
  pub top : r.top < LONG
  pub number : r.number < LONG
  pub seat : r.seat < FEW
  pub cpu : r.cpu < FEW
  pub state : r.state < FEW
  pub inst : r.inst < FEW

-- where it stands, its shape, and the number of its event
abbrev pub spot_text : Ran → List ℕ
spot_text r =
    codes "<path d='M"
    ++ (decimal r.left ++ (codes " " ++ (decimal r.top ++ (shape r.dir ++ (how_word RanOk ++ decimal r.number)))))

-- the line of its event, and its end
abbrev pub ran_line : Ran → List ℕ
ran_line r =
    codes ": call "
    ++ (decimal r.seat
    ++ (codes " "
    ++ (decimal r.cpu
    ++ (codes " "
    ++ (decimal r.state
    ++ (codes " " ++ (decimal r.inst ++ (codes " " ++ (dir_word r.dir ++ codes " ok\n</title></path>\n")))))))))
