-- Every hook is home and no registration is in flight, so the hooks are those of the registered states.
use Rattle.std.proofs.Common.{◌≡◌, Bool, false, Option, Some, None, List, ◌++◌, map, refl, sym, ap, subst, ◌∙◌}
use Rattle.std.specs.Option.{is_some, option_map}
use Rattle.hp_board.specs.Retired.{registered_hooks}
use Rattle.hp_event.specs.declared.head.Head.{Head}
use Rattle.hp_event.specs.declared.event.Event.{Event}
use Rattle.hp_model.specs.Lawful.{IsLawful}
use Rattle.hp_model.specs.Registrations.{Registration, registration}
use Rattle.hpcaches.proofs.run.retire.Goals as goal

none_by : {A B : Type 0} (f : A → B) (o : Option A) (b : Bool) → b ≡ false → b ≡ is_some (option_map f o) → o ≡ None
none_by f None b off is = refl
none_by f (Some x) b off is = absurd cc

pub retire-requires : goal.retire-requires
retire-requires g c = c.is_home.ensures.0 c.if-not-is_home.false

pub returns-in-Ok : goal.returns-in-Ok
returns-in-Ok g c =
    let free : registration c.args.board.events ≡ None =
    none_by (λ (r : Registration). r.seat) (registration c.args.board.events) c.is_some.result c.if-is_some.false
    (c.is_some.ensures ∙ ap (λ o. is_some o) c.registrar.ensures) in
    let racked = c.in-Ok.ensures.registered free in
    let head = sym c.in-Ok.ensures.head in
    let events = sym c.in-Ok.ensures.events in
    record {
      lawful =
          subst (λ (h : Head). IsLawful h c.in-Ok.journal.events) head
          (subst (λ (es : List Event). IsLawful c.args.board.head es) events c.sound.ensures.lawful);
      at_rest = subst (λ (es : List Event). registration es ≡ None) events free;
      called =
          ap (λ hooks. map g.H.Hook.counts hooks) (racked.behind ∙ ap (λ hooks. hooks ++ racked.added) c.new.ensures.items)
          ∙ racked.are
          ∙ ap (λ (h : Head). registered_hooks h c.args.board.events) head
          ∙ ap (λ (es : List Event). registered_hooks c.in-Ok.journal.head es) events;
    }
