use Rattle.std.proofs.Common.{◌≡◌, true, false, sym, ◌∙◌, refl}
use Rattle.hp_work.specs.Changes.{followed}
use Rattle.hp_work.proofs.Following.{entry_followed, other_followed, other_lawful, lawful_follows, unfollowed_lawful}
use Rattle.hp_work.proofs.queues.Queues.follow.Goals as goal

up : (c : goal.After-open) → c.open.new.self ≡ followed c.args.event.now c.args.self.now
up c =
    let e = c.in-Call in
    entry_followed c.args.self.now c.open.new.self c.args.event.now e.seat e.cpu e.state e.inst e.dir e.how e.is true
    (sym c.if-is_followed.true ∙ c.is_followed.ensures) (rw c.in-Up.is c.open.ensures.exactly)

down : (c : goal.After-close) → c.close.new.self ≡ followed c.args.event.now c.args.self.now
down c =
    let e = c.in-Call in
    entry_followed c.args.self.now c.close.new.self c.args.event.now e.seat e.cpu e.state e.inst e.dir e.how e.is true
    (sym c.if-is_followed.true ∙ c.is_followed.ensures) (rw c.in-Down.is c.close.ensures.exactly)

pub returns-in-Up : goal.returns-in-Up
returns-in-Up c = record {
  exactly = up c;
  lawful = lawful_follows c.args.self.now c.open.new.self c.args.event.now c.open.ensures.places c.requires (up c);
}

pub returns-in-Down : goal.returns-in-Down
returns-in-Down c = record {
  exactly = down c;
  lawful = lawful_follows c.args.self.now c.close.new.self c.args.event.now c.close.ensures.places c.requires (down c);
}

pub returns-else-is_followed : goal.returns-else-is_followed
returns-else-is_followed c =
    let e = c.in-Call in
    let same : c.args.self.now ≡ followed c.args.event.now c.args.self.now =
    entry_followed c.args.self.now c.args.self.now c.args.event.now e.seat e.cpu e.state e.inst e.dir e.how e.is false
    (sym c.if-is_followed.false ∙ c.is_followed.ensures) refl in
    record {
      exactly = same;
      lawful = unfollowed_lawful c.args.self.now c.args.event.now e.seat e.cpu e.state e.inst e.dir e.how e.is
          (sym c.is_followed.ensures ∙ c.if-is_followed.false);
    }

pub returns-in_default : goal.returns-in_default
returns-in_default c = record {
  exactly = other_followed c.args.self.now c.args.event.now c.in_default.not-Call;
  lawful = other_lawful c.args.self.now c.args.event.now c.in_default.not-Call;
}
