-- Rounds until all is answered make the run.
use Rattle.std.proofs.Common.{sym, ◌∙◌}
use Rattle.hp_actors.proofs.HooksTurned.{keeps_on}
use Rattle.hp_actors.proofs.Later.{later_on}
use Rattle.hp_actors.proofs.RoundLaws.{IsRound, round_smaller, more_rounds}
use Rattle.hp_actors.proofs.run.Run.play_rounds.Goals as goal

pub loop-self-smaller : goal.loop-self-smaller
loop-self-smaller g c =
    let i = c.loop-self.invariant in
    let round : IsRound c.loop-self.self c.round.new.self =
    record {
      script = i.script;
      reached = i.reached;
      reached_after = c.sound-in-loop-self.ensures.reached;
      goes = sym c.is_over.ensures ∙ c.loop-self-test.true;
      head_is = c.in_ok-round.ensures.head;
      actors_are = c.in_ok-round.ensures.actors;
      after_is = c.in_ok-round.ensures.ok;
    } in
    round_smaller c.loop-self.self c.round.new.self round

pub loop-self-preserved : goal.loop-self-preserved
loop-self-preserved g c =
    let i = c.loop-self.invariant in
    let round : IsRound c.loop-self.self c.round.new.self =
    record {
      script = i.script;
      reached = i.reached;
      reached_after = c.sound-in-loop-self.ensures.reached;
      goes = sym c.is_over.ensures ∙ c.loop-self-test.true;
      head_is = c.in_ok-round.ensures.head;
      actors_are = c.in_ok-round.ensures.actors;
      after_is = c.in_ok-round.ensures.ok;
    } in
    record {
      head = c.in_ok-round.ensures.head ∙ i.head;
      actors = c.in_ok-round.ensures.actors ∙ i.actors;
      script = c.sound-in-loop-self.ensures.script;
      reached = c.sound-in-loop-self.ensures.reached;
      rounds = λ seats is. more_rounds c.args.self.now c.loop-self.self c.round.new.self i.head i.actors round seats (i.rounds seats is);
      made = later_on c.args.self.now c.loop-self.self c.round.new.self i.made c.round.ensures.made;
      kept = keeps_on c.args.self.now c.loop-self.self c.round.new.self i.kept c.round.ensures.kept;
    }

pub returns-in_err-round-clause-kept : goal.returns-in_err-round-clause-kept
returns-in_err-round-clause-kept g c =
    keeps_on c.args.self.now c.loop-self.self c.round.new.self c.loop-self.invariant.kept c.round.ensures.kept

pub returns-in_err-round-clause-made : goal.returns-in_err-round-clause-made
returns-in_err-round-clause-made g c =
    later_on c.args.self.now c.loop-self.self c.round.new.self c.loop-self.invariant.made c.round.ensures.made
