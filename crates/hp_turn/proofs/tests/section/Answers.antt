use Rattle.std.proofs.Common.{◌≡◌, Some, [], ap, ◌∙◌}
use Rattle.hp_turn.specs.Asides.{seat_aside}
use Rattle.hp_turn.specs.Story.{new_seat}
use Rattle.hp_turn.specs.Views.{held_of}
use Rattle.hp_turn.proofs.Stories.{keeps_seat}
use Rattle.hp_turn.proofs.tests.section.Goals as goal

pub returns-clause-pass : goal.returns-clause-pass
returns-clause-pass g c =
    let is : c.lock-notes.new.pass.seat ≡ Some c.args.seat = c.lock-notes.ensures.same.seat ∙ c.requires.1 in
    let story = c.act-done.ensures.story in
    let now = c.act-done.new.self.events.items in
    let stays = keeps_seat (Some c.args.seat) (held_of c.lock-notes.result.events.items []) story.0 now story.1 story.2 in (
      c.unlock.ensures.freed,
      c.unlock.ensures.seat
          ∙ (ap (λ s. new_seat s c.lock-notes.new.pass.held now) is
          ∙ (ap (λ h. new_seat (Some c.args.seat) h now) c.lock-notes.ensures.took ∙ stays)),
    )

pub returns-clause-nothing : goal.returns-clause-nothing
returns-clause-nothing g c =
    let pass = returns-clause-pass g c in c.unlock.ensures.aside ∙ ap (λ s. seat_aside s []) pass.1
