use Rattle.std.proofs.Common.{◌≡◌, true, false, sym, ◌∙◌, refl}
use Rattle.hp_pcount.specs.Changes.{followed}
use Rattle.hp_pcount.proofs.Tallies.{wide}
use Rattle.hp_pcount.proofs.Standing.{entry_followed, other_followed, other_lawful, total_stays, lawful_follows}
use Rattle.hp_pcount.proofs.counters.Counters.follow.Goals as goal

up : (c : goal.After-open) → c.open.new.self ≡ followed c.args.event.now c.args.self.now
up c =
    let e = c.in-Call in
    entry_followed c.args.self.now c.open.new.self c.args.event.now e.seat e.cpu e.state e.inst e.dir e.how e.is true
    (sym c.if-is_followed.true ∙ c.is_followed.ensures.exactly) (rw c.in-Up.is c.open.ensures)

down : (c : goal.After-close) → c.close.new.self ≡ followed c.args.event.now c.args.self.now
down c =
    let e = c.in-Call in
    entry_followed c.args.self.now c.close.new.self c.args.event.now e.seat e.cpu e.state e.inst e.dir e.how e.is true
    (sym c.if-is_followed.true ∙ c.is_followed.ensures.exactly) (rw c.in-Down.is c.close.ensures)

pub returns-in-Up : goal.returns-in-Up
returns-in-Up c =
    let w = wide c.args.self.now c.is_followed.ensures.all in
    record {
      exactly = up c;
      total = total_stays c.args.self.now c.open.new.self c.args.event.now w c.requires (up c);
      lawful = lawful_follows c.args.self.now c.open.new.self c.args.event.now w c.requires (up c);
    }

pub returns-in-Down : goal.returns-in-Down
returns-in-Down c =
    let w = wide c.args.self.now c.is_followed.ensures.all in
    record {
      exactly = down c;
      total = total_stays c.args.self.now c.close.new.self c.args.event.now w c.requires (down c);
      lawful = lawful_follows c.args.self.now c.close.new.self c.args.event.now w c.requires (down c);
    }

pub returns-else-is_followed : goal.returns-else-is_followed
returns-else-is_followed c =
    let e = c.in-Call in
    let w = wide c.args.self.now c.is_followed.ensures.all in
    let same : c.args.self.now ≡ followed c.args.event.now c.args.self.now =
    entry_followed c.args.self.now c.args.self.now c.args.event.now e.seat e.cpu e.state e.inst e.dir e.how e.is false
    (sym c.if-is_followed.false ∙ c.is_followed.ensures.exactly) refl in
    record {
      exactly = same;
      total = refl;
      lawful = lawful_follows c.args.self.now c.args.self.now c.args.event.now w c.requires same;
    }

pub returns-in_default : goal.returns-in_default
returns-in_default c = record {
  exactly = other_followed c.args.self.now c.args.event.now c.in_default.not-Call;
  total = refl;
  lawful = other_lawful c.args.self.now c.args.event.now c.in_default.not-Call;
}
