use Rattle.std.proofs.Common.{◌≡◌, ◌<◌, ◌≤◌, ℕ, List, length, get_or, sym, append_assoc, arith}
use Rattle.std.proofs.lemmas.List.{append-nil}
use Rattle.hp_event.specs.declared.event.Event.{Event}
use Rattle.hp_event.specs.declared.event.Event.TheVariants.{Admit}
use Rattle.hp_event.specs.declared.event.Role.TheVariants.{Client}
use Rattle.hp_timeline.proofs.Events.{got, past}
use Rattle.hp_timeline.proofs.OperationNumbers.{numbers_many, number_here}
use Rattle.hp_timeline.proofs.span_text.append_numbered.Goals as goal

pub bounds-numbers-at : goal.bounds-numbers-at
bounds-numbers-at c = let many = numbers_many c.args.events.now c.args.numbers.now c.requires in omega arith

pub returns-in_ok-append_event : goal.returns-in_ok-append_event
returns-in_ok-append_event c =
    let low : c.args.place < length c.args.events.now = omega arith in
    let number = number_here c.args.events.now c.args.numbers.now c.args.place (Admit 0 Client) c.requires low in
    rw (got c.args.events.now c.args.place low)
    (simp (c.in_ok-append_before.ensures, append_assoc) at (rw number at c.in_ok-append_event.ensures))

pub returns-else-at-events : goal.returns-else-at-events
returns-else-at-events c =
    let high : length c.args.events.now ≤ c.args.place = omega arith in
    rw (past c.args.events.now c.args.place high) (sym (append-nil c.args.out.now.items))
