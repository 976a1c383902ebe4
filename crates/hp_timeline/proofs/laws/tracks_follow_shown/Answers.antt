use Rattle.hp_timeline.proofs.TrackLaws.{follows_shown}
use Rattle.hp_timeline.proofs.laws.tracks_follow_shown.Goals as goal

pub returns : goal.returns
returns c = follows_shown c.args.head.now c.args.events.now c.args.window
