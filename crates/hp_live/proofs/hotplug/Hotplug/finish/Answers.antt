-- An operation of a client that has none in flight, to its end.
use Rattle.std.proofs.Common.{◌≡◌, false, refl, sym, subst, is_some}
use Rattle.hp_model.specs.Seats.{is_busy}
use Rattle.hp_live.specs.Forms.{Ran}
use Rattle.hp_live.specs.Known.{Seated}
use Rattle.hp_live.specs.Sections.{CanAsk}
use Rattle.hp_live.proofs.Finishing.{can_ask, ran_idle, still_out}
use Rattle.hp_live.proofs.hotplug.Hotplug.finish.Given as given
use Rattle.hp_live.proofs.hotplug.Hotplug.finish.Goals as goal
use Rattle.hp_live.proofs.hotplug.Hotplug.finish.Goals.{After-sound-2}

pub run_seat-ran-requires-clause-asked : goal.run_seat-ran-requires-clause-asked
run_seat-ran-requires-clause-asked g c κs within =
    subst (λ (s : Seated). CanAsk s.head s.front s.seat c.args.ask.now.op (is_some c.args.ask.now.hook)) (sym c.pass.view_is)
    (can_ask c.args.pass.now.head c.args.pass.now.front c.args.pass.now.seat c.args.ask.now.op (is_some c.args.ask.now.hook)
    c.sound.ensures.role c.requires.idle c.requires.named c.requires.hook)

pub invariant_of-pass : goal.invariant_of-pass
invariant_of-pass g c =
    still_out c.pass.inside.own c.run_seat-ran.new.own c.args.ask.now.op c.run_seat-ran.ensures.same c.run_seat-ran.ensures.stays
    c.requires.op c.pass.invariant

idle : (g : given.Over) (c : After-sound-2 g) → is_busy c.run_seat-ran.new.own.seat c.run_seat-ran.new.own.front ≡ false
idle g c =
    ran_idle c.run_seat-ran.result c.pass.inside.own c.run_seat-ran.new.own c.run_seat-ran.ensures.same c.run_seat-ran.ensures.idle
    (c.run_seat-ran.ensures.none refl) c.sound-2.ensures.lawful
    (subst (λ (s : Seated). is_busy s.seat s.front ≡ false) (sym c.pass.view_is) c.requires.idle)

pub returns-clause-ran : goal.returns-clause-ran
returns-clause-ran g c =
    let e = c.run_seat-ran.ensures in
    subst (λ (s : Seated). Ran s c.run_seat-ran.new.own c.args.ask.now.op c.run_seat-ran.result) c.pass.view_is
    (record {
      same = e.same;
      answered = e.answered;
      none = e.none refl;
      idle = idle g (goal.at.returns-clause-ran g c).After-sound-2;
      nothing = e.nothing;
    })
