use Rattle.std.proofs.Common.{map, decimal}
use Rattle.std.proofs.lemmas.Result.{on_ok_weaker}
use Rattle.hp_model.specs.EventLine.{answer_words}
use Rattle.hp_model.specs.Words.{list_words}
use Rattle.hp_play.specs.ControlText.{control_word}
use Rattle.hp_play.proofs.ControlLines.{write_by_pieces}
use Rattle.hp_play.proofs.control_text.append_write.Goals as goal

pub returns : goal.returns
returns c =
    let w = c.args.written.now in
    on_ok_weaker c.end_line.result (λ ended.
    write_by_pieces c.args.out.now.items c.append.new.out.items c.append_control.new.out.items c.append_answer.new.out.items
    c.append-2.new.out.items c.append_numbers.new.out.items c.end_line.new.out.items (control_word w.want) (answer_words w.answer)
    (list_words (map decimal w.online.items)) c.in_ok-append.ensures c.in_ok-append_control.ensures c.in_ok-append_answer.ensures
    c.in_ok-append-2.ensures (rw c.deref.ensures.value at c.in_ok-append_numbers.ensures) ended) c.end_line.ensures
