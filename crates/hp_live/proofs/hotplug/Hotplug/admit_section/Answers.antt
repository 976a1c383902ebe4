-- A section in which a seat comes in.
use denote.Exit.{no}
use denote.Param.Send.{param_send, arg_send}
use Rattle.hp_live.proofs.Sending.{live_send}
use Rattle.std.proofs.Common.{ap, ◌∙◌}
use Rattle.hp_turn.specs.Pass.{Pass}
use Rattle.hp_live.specs.Known.{IsRoot}
use Rattle.hp_live.specs.Steps.{Finds, IsInside}
use Rattle.hp_live.proofs.Admitting.{admit_puts, admit_seat, admit_no_seat, admit_lends, admits_in, refuses_in}
use Rattle.hp_live.proofs.Finding.{is_board, finds, inside_held, root_held}
use Rattle.hp_live.proofs.hotplug.Hotplug.admit_section.Given as given
use Rattle.hp_live.proofs.hotplug.Hotplug.admit_section.Goals as goal
use Rattle.hp_live.proofs.hotplug.Hotplug.admit_section.Goals.{After-sound}

found : (g : given.Over) (c : After-sound g) → Finds c.args.sight.now c.lock-live.result.board
found g c =
    finds c.args.sight.now c.sight.inside.turn c.lock-live.result.board c.sight.view_is c.lock-live.ensures.head
    c.lock-live.ensures.knew c.lock-live.ensures.lent
    (is_board c.lock-live.result.board c.sound.ensures.lawful c.sound.ensures.table c.sound.ensures.out)

inside : (g : given.Over) (c : After-sound g) → IsInside c.lock-live.new.pass c.lock-live.result.board
inside g c =
    inside_held c.sight.inside.turn c.lock-live.new.pass c.lock-live.result.board c.lock-live.ensures.same
    c.lock-live.ensures.took c.lock-live.ensures.head

root : (g : given.Over) (c : After-sound g) → IsRoot c.args.sight.now → IsRoot c.lock-live.new.pass
root g c is = root_held c.args.sight.now c.sight.inside.turn c.lock-live.new.pass c.sight.view_is c.lock-live.ensures.same is

pub put_back-seen-requires-clause-put : goal.put_back-seen-requires-clause-put
put_back-seen-requires-clause-put g c κs within =
    let at = (goal.at.put_back-seen-requires-clause-put g c).After-sound in
    admit_puts c.lock-live.new.pass c.args.role c.lock-live.result.board c.admit-admitted.new.self c.admit-admitted.result
    (root g at c.requires.root) (inside g at) c.sound.ensures.lawful c.admit-admitted.ensures.ok c.admit-admitted.ensures.err
    c.admit-admitted.ensures.stays

pub returns-clause-lock : goal.returns-clause-lock
returns-clause-lock g c =
    c.put_back-seen.ensures.put.lock ∙ c.lock-live.ensures.same.lock ∙ ap (λ (p : Pass). p.lock) c.sight.view_is

pub returns-clause-head : goal.returns-clause-head
returns-clause-head g c =
    c.put_back-seen.ensures.put.head ∙ c.lock-live.ensures.same.head ∙ ap (λ (p : Pass). p.head) c.sight.view_is

pub returns-clause-right : goal.returns-clause-right
returns-clause-right g c =
    c.put_back-seen.ensures.put.admits ∙ c.lock-live.ensures.same.admits ∙ ap (λ (p : Pass). p.admits) c.sight.view_is
    ∙ c.requires.root.right

pub returns-clause-nothing : goal.returns-clause-nothing
returns-clause-nothing g c =
    let at = (goal.at.returns-clause-nothing g c).After-sound in
    admit_lends c.lock-live.new.pass c.put_back-seen.new.pass c.args.role c.lock-live.result.board c.admit-admitted.new.self
    c.admit-admitted.result (root g at c.requires.root) (inside g at) c.sound.ensures.lawful c.admit-admitted.ensures.ok
    c.admit-admitted.ensures.err c.admit-admitted.ensures.seat c.admit-admitted.ensures.stays c.put_back-seen.ensures.put

pub returns-clause-seat : goal.returns-clause-seat
returns-clause-seat g c =
    admit_seat c.lock-live.new.pass c.put_back-seen.new.pass c.args.role c.lock-live.result.board c.admit-admitted.new.self
    c.admit-admitted.result (inside g (goal.at.returns-clause-seat g c).After-sound) c.admit-admitted.ensures.ok
    c.admit-admitted.ensures.seat c.put_back-seen.ensures.put

pub returns-clause-no_seat : goal.returns-clause-no_seat
returns-clause-no_seat g c =
    let at = (goal.at.returns-clause-no_seat g c).After-sound in
    admit_no_seat c.lock-live.new.pass c.put_back-seen.new.pass c.lock-live.result.board c.admit-admitted.new.self
    c.admit-admitted.result (root g at c.requires.root) (inside g at) c.admit-admitted.ensures.err c.put_back-seen.ensures.put

pub returns-clause-ok : goal.returns-clause-ok
returns-clause-ok g c =
    admits_in c.args.sight.now c.put_back-seen.new.pass c.args.role c.lock-live.result.board c.admit-admitted.new.self
    c.admit-admitted.result c.requires.root (found g (goal.at.returns-clause-ok g c).After-sound) c.admit-admitted.ensures.ok
    c.admit-admitted.ensures.seat c.admit-admitted.ensures.free c.put_back-seen.ensures.put.seen.front_is

pub returns-clause-err : goal.returns-clause-err
returns-clause-err g c =
    refuses_in c.args.sight.now c.put_back-seen.new.pass c.args.role c.lock-live.result.board c.admit-admitted.new.self
    c.admit-admitted.result c.requires.root (found g (goal.at.returns-clause-err g c).After-sound) c.admit-admitted.ensures.err
    c.admit-admitted.ensures.refused c.admit-admitted.ensures.no_memory c.put_back-seen.ensures.put.seen.front_is

pub lock-live-requires-send-V : goal.lock-live-requires-send-V
lock-live-requires-send-V g c κs within = param_send 0 _ (arg_send _ no _ (live_send _ _ c.type_bounds.send-H))
