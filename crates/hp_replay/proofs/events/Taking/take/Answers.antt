use Rattle.std.proofs.Common.{arith, ◌≡◌, ◌≤◌, ℕ, Bool, true, false, [], ◌∷◌, ◌++◌, length, refl, sym, ap, subst, ◌∙◌, length-append}
use Rattle.hp_event.specs.Events.{seat_of}
use Rattle.hp_law.specs.Law.{Taken}
use Rattle.hp_states.specs.declared.limits.TheConstants.{MAX_EVENTS}
use Rattle.hp_model.specs.OperationNumber.{operations_of, operation_number}
use Rattle.hp_print.proofs.OperationNumbersLaws.{operations_few, numbered_push}
use Rattle.hp_replay.specs.Versions.{has_seat, is_its_number, is_numbered}
use Rattle.hp_replay.proofs.EventReading.{wrong}
use Rattle.hp_replay.proofs.events.Taking.take.Goals as goal
use Rattle.hp_replay.proofs.events.Taking.take.Goals.{else-is_its-via-then-is_its+else-has_seat, else-is_its-via-else-is_its}

pub take-requires : goal.take-requires
take-requires c = λ seat.
    let events = c.args.self.now.law.events in
    let taken = c.in_ok-offer.ensures.taken c.if-not-branch.false in
    let held : length (events ++ c.args.said.now.event ∷ []) ≤ MAX_EVENTS = subst (λ (t : Taken). length t.events ≤ MAX_EVENTS) taken c.sound.ensures.few in
    let few = operations_few seat events in
    let is = c.requires.numbered seat in
    omega (arith, length-append events (c.args.said.now.event ∷ []))

pub returns-then-has_seat-clause-right : goal.returns-then-has_seat-clause-right
returns-then-has_seat-clause-right c =
    let said = c.args.said.now in
    let events = c.args.self.now.law.events in
    let numbered = numbered_push events said.event c.args.self.now.numbers c.take.new.self c.requires.numbered c.in_ok-number.ensures.taken in
    let number : c.in_ok-number.number ≡ operation_number events said.event = c.in_ok-number.ensures.number ∙ numbered (seat_of said.event) in
    let its : is_its_number (operation_number events said.event) said.number ≡ true = ap (λ (n : ℕ). is_its_number n said.number) (sym number) ∙ sym c.is_its.ensures ∙ c.if-is_its.true in
    let seat : has_seat c.args.self.now.version said.event ≡ true = sym c.has_seat.ensures ∙ c.if-has_seat.true in
    rw (its, seat) refl

pub returns-then-has_seat-clause-numbered : goal.returns-then-has_seat-clause-numbered
returns-then-has_seat-clause-numbered c = λ seat.
    let taken = c.in_ok-offer.ensures.taken c.if-not-branch.false in
    let numbered = numbered_push c.args.self.now.law.events c.args.said.now.event c.args.self.now.numbers c.take.new.self c.requires.numbered c.in_ok-number.ensures.taken in
    numbered seat ∙ ap (λ (t : Taken). operations_of seat t.events) (sym taken)

pub returns-else-is_its-clause-bad : goal.returns-else-is_its-clause-bad
returns-else-is_its-clause-bad c =
    let said = c.args.said.now in
    let events = c.args.self.now.law.events in
    let numbered = numbered_push events said.event c.args.self.now.numbers c.take.new.self c.requires.numbered c.in_ok-number.ensures.taken in
    let number : c.in_ok-number.number ≡ operation_number events said.event = c.in_ok-number.ensures.number ∙ numbered (seat_of said.event) in
    let same : (b : Bool) → is_its_number c.in_ok-number.number said.number ≡ b → is_its_number (operation_number events said.event) said.number ≡ b = λ b h. ap (λ (n : ℕ). is_its_number n said.number) (sym number) ∙ h in
    let not : is_numbered c.args.self.now.version events said ≡ false = elim c.else-is_its.branch [
      | else-is_its-via-then-is_its+else-has_seat w ↦
          (let its = same true (sym c.is_its.ensures ∙ w.if-is_its.true) in
          let seat : has_seat c.args.self.now.version said.event ≡ false = sym w.has_seat.ensures ∙ w.if-has_seat.false in
          rw (its, seat) refl)
      | else-is_its-via-else-is_its w ↦ (let its = same false (sym c.is_its.ensures ∙ w.if-is_its.false) in rw its refl)
    ] in
    rw c.bad-else-is_its.ensures (refl, wrong c.args.self.now.version c.args.self.now.law.head events said not)
