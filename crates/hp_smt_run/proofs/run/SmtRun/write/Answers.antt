-- A write of control is a turn of the client.
use Rattle.std.proofs.Common.{◌≡◌, ◌+◌, length, refl, ap, sym, subst, ◌∙◌}
use Rattle.hp_board.specs.Contents.{Contents}
use Rattle.hp_board.specs.declared.turn.Turn.{Turn}
use Rattle.hp_board.specs.declared.turn.Turn.TheVariants.{Made, Answered, NotYet}
use Rattle.hp_model.specs.Processors.{online}
use Rattle.hp_smt.specs.Sound.{MayWrite}
use Rattle.hp_smt.specs.Turns.{IsControl}
use Rattle.hp_smt_run.proofs.HooksTurned.{writer_under}
use Rattle.hp_smt_run.proofs.MayWrite.{may_write}
use Rattle.hp_smt_run.proofs.Writing.{write_turned}
use Rattle.hp_smt_run.proofs.run.SmtRun.write.Goals as goal

pub control-requires : goal.control-requires
control-requires g c =
    let run = c.args.self.now in
    let same : c.len.result ≡ length run.actors.items = c.len.ensures ∙ run.actors.ok.0 in
    subst (λ n. MayWrite run.smt.board run.smt.setting (run.seats + n) c.in-Some.want) (sym same)
    (may_write run c.in-Some.want c.requires (sym c.next_write.ensures ∙ c.in-Some.is))

pub returns-in_ok-push-in-Answered-clause-turned : goal.returns-in_ok-push-in-Answered-clause-turned
returns-in_ok-push-in-Answered-clause-turned g c =
    let run = c.args.self.now in
    let k = run.seats + length run.actors.items in
    let same : c.len.result ≡ length run.actors.items = c.len.ensures ∙ run.actors.ok.0 in
    let control = subst (λ n. IsControl (run.seats + n) c.in-Some.want run.smt c.control.new.self c.in_ok-turn.turn) same
    c.in_ok-turn.ensures.turn in
    write_turned k c.in-Some.want (Answered c.in-Answered.at c.in-Answered.answer) run _ c.requires
    (record {
      seat_is = refl;
      next_is = sym c.next_write.ensures ∙ c.in-Some.is;
      control = subst (λ (t : Turn). IsControl k c.in-Some.want run.smt c.control.new.self t) c.in-Answered.is control;
      actors_are = refl;
      seats_are = refl;
      want_is = refl;
      denied_are = refl;
      as_many = c.in_ok-turn.ensures.hooks;
      off = c.sound-2.ensures.primaries;
      notes = record {
        written = record { want = c.in-Some.want; answer = c.in-Answered.answer; online = c.in_ok-online-in-Answered.online };
        pushed = c.in_ok-push-in-Answered.ensures.items;
        want_is = refl;
        answer_is = refl;
        online_are = c.in_ok-online-in-Answered.ensures ∙ ap (λ (b : Contents). online b.head b.events) c.board.ensures;
      };
    })

pub returns-in-Made-clause-turned : goal.returns-in-Made-clause-turned
returns-in-Made-clause-turned g c =
    let run = c.args.self.now in
    let k = run.seats + length run.actors.items in
    let same : c.len.result ≡ length run.actors.items = c.len.ensures ∙ run.actors.ok.0 in
    let control = subst (λ n. IsControl (run.seats + n) c.in-Some.want run.smt c.control.new.self c.in_ok-turn.turn) same
    c.in_ok-turn.ensures.turn in
    write_turned k c.in-Some.want (Made c.in-Made.at) run _ c.requires
    (record {
      seat_is = refl;
      next_is = sym c.next_write.ensures ∙ c.in-Some.is;
      control = subst (λ (t : Turn). IsControl k c.in-Some.want run.smt c.control.new.self t) c.in-Made.is control;
      actors_are = refl;
      seats_are = refl;
      want_is = refl;
      denied_are = refl;
      as_many = c.in_ok-turn.ensures.hooks;
      off = c.sound-2.ensures.primaries;
      notes = refl;
    })

pub returns-in-NotYet-clause-turned : goal.returns-in-NotYet-clause-turned
returns-in-NotYet-clause-turned g c =
    let run = c.args.self.now in
    let k = run.seats + length run.actors.items in
    let same : c.len.result ≡ length run.actors.items = c.len.ensures ∙ run.actors.ok.0 in
    let control = subst (λ n. IsControl (run.seats + n) c.in-Some.want run.smt c.control.new.self c.in_ok-turn.turn) same
    c.in_ok-turn.ensures.turn in
    write_turned k c.in-Some.want (NotYet c.in-NotYet.field-0) run _ c.requires
    (record {
      seat_is = refl;
      next_is = sym c.next_write.ensures ∙ c.in-Some.is;
      control = subst (λ (t : Turn). IsControl k c.in-Some.want run.smt c.control.new.self t) c.in-NotYet.is control;
      actors_are = refl;
      seats_are = refl;
      want_is = refl;
      denied_are = refl;
      as_many = c.in_ok-turn.ensures.hooks;
      off = c.sound-2.ensures.primaries;
      notes = refl;
    })

pub returns-in_ok-push-in-Answered-clause-hooks : goal.returns-in_ok-push-in-Answered-clause-hooks
returns-in_ok-push-in-Answered-clause-hooks g c =
    let run = c.args.self.now in
    writer_under g.H.Hook.counts (run.seats + length run.actors.items) run c.requires refl

pub returns-in-Made-clause-hooks : goal.returns-in-Made-clause-hooks
returns-in-Made-clause-hooks g c =
    let run = c.args.self.now in
    writer_under g.H.Hook.counts (run.seats + length run.actors.items) run c.requires refl

pub returns-in-NotYet-clause-hooks : goal.returns-in-NotYet-clause-hooks
returns-in-NotYet-clause-hooks g c =
    let run = c.args.self.now in
    writer_under g.H.Hook.counts (run.seats + length run.actors.items) run c.requires refl
