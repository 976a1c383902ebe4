use Rattle.std.proofs.Common.{◌≡◌, ◌∙◌, ap, sym, Option, Some, None}
use Rattle.hp_script.specs.declared.verb.Verb.{Verb}
use Rattle.hp_script.specs.Verbs.{verb_of}
use Rattle.hp_script.specs.Refusals.{first_of}
use Rattle.hp_script.specs.LineAnswers.{wrongs_of_place}
use Rattle.hp_script.proofs.Wrongs.{misread_stop, read_room, read_no_room}
use Rattle.hp_script.proofs.line.read_words.Goals as goal

pub returns-in-Err-read_statement : goal.returns-in-Err-read_statement
returns-in-Err-read_statement c =
    let is : verb_of c.args.first.now ≡ Some c.in-Ok.verb = sym c.verb_of.ensures ∙ c.in-Ok.ensures.0 in
    let place : first_of (wrongs_of_place c.args.before.now (verb_of c.args.first.now)) ≡ None = sym (ap (λ (v : Option Verb). first_of (wrongs_of_place c.args.before.now v)) c.verb_of.ensures) ∙ c.in-Ok.ensures.1 in
    misread_stop c.args.hooks c.args.before.now c.args.first.now c.in-Ok.verb c.args.behind.now c.in-Err-read_statement.stop is place c.in-Err-read_statement.ensures

pub returns-in-Ok-room : goal.returns-in-Ok-room
returns-in-Ok-room c =
    let is : verb_of c.args.first.now ≡ Some c.in-Ok.verb = sym c.verb_of.ensures ∙ c.in-Ok.ensures.0 in
    let place : first_of (wrongs_of_place c.args.before.now (verb_of c.args.first.now)) ≡ None = sym (ap (λ (v : Option Verb). first_of (wrongs_of_place c.args.before.now v)) c.verb_of.ensures) ∙ c.in-Ok.ensures.1 in
    read_room c.args.hooks c.args.before.now c.args.first.now c.in-Ok.verb c.args.behind.now c.in-Ok-read_statement.said is place c.in-Ok-read_statement.ensures c.in-Ok-room.ensures

pub returns-in-Err-room : goal.returns-in-Err-room
returns-in-Err-room c =
    let is : verb_of c.args.first.now ≡ Some c.in-Ok.verb = sym c.verb_of.ensures ∙ c.in-Ok.ensures.0 in
    let place : first_of (wrongs_of_place c.args.before.now (verb_of c.args.first.now)) ≡ None = sym (ap (λ (v : Option Verb). first_of (wrongs_of_place c.args.before.now v)) c.verb_of.ensures) ∙ c.in-Ok.ensures.1 in
    read_no_room c.args.hooks c.args.before.now c.args.first.now c.in-Ok.verb c.args.behind.now c.in-Ok-read_statement.said c.in-Err-room.kind is place c.in-Ok-read_statement.ensures c.in-Err-room.ensures
