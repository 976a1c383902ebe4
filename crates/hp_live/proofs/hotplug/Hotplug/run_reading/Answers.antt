-- An operation in a read section leaves its seat in it.
use Rattle.std.proofs.Common.{refl, ap, subst}
use Rattle.hp_model.specs.Lawful.{IsLawful}
use Rattle.hp_live.specs.Known.{Seated}
use Rattle.hp_live.proofs.ReadOnline.{still_reader}
use Rattle.hp_live.proofs.hotplug.Hotplug.run_reading.Goals as goal

pub invariant_of-read : goal.invariant_of-read
invariant_of-read g c =
    let e = c.run_seat-ran.ensures in
    still_reader c.run_seat-ran.result c.read.inside.own c.run_seat-ran.new.own c.read.inside.online c.args.ask.now.op c.read.invariant
    e.same c.requires.op e.stays e.idle (e.none refl)
    (subst (λ (s : Seated). IsLawful s.head s.front) (ap (λ r. r.own) c.read-inside.view_is) c.sound.ensures) e.nothing
