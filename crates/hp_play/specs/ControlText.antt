-- What is written of a run under SMT control, behind its journal and summary: a line for each write of control, with the processors that
-- were online as it was answered, and how many operations were denied. This project's own.
use Rattle.std.specs.Prelude.{ℕ, List, [], ◌∷◌, ◌++◌, map, codes, decimal}
use Rattle.std.specs.List.{flat_map}
use Rattle.hp_model.specs.EventLine.{answer_words}
use Rattle.hp_model.specs.Words.{line, list_words}
use Rattle.hp_smt.specs.Run.{Written}
use Rattle.hp_smt.specs.declared.mode.Control.{Control}
use Rattle.hp_smt.specs.declared.mode.Control.TheVariants.{On, Off, ForceOff}

abbrev pub control_word : Control → List ℕ
control_word On = codes "on"
control_word Off = codes "off"
control_word ForceOff = codes "forceoff"

abbrev pub write_line : Written → List ℕ
write_line w =
    line
    (codes "smt" ∷ control_word w.want ∷ (answer_words w.answer ++ codes "online" ∷ list_words (map decimal w.online)))

abbrev pub denied_line : ℕ → List ℕ
denied_line n = line (codes "denied" ∷ decimal n ∷ [])

abbrev pub control_text : (written : List Written) → (denied : ℕ) → List ℕ
control_text written denied = flat_map write_line written ++ denied_line denied
