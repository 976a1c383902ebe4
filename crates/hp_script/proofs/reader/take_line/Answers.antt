use Rattle.std.proofs.Common.{◌≡◌, false, ◌∙◌, ap, sym, subst, Option, Some}
use Rattle.hp_script.specs.declared.before.Before.{Before}
use Rattle.hp_script.specs.declared.statement.Statement.{Statement}
use Rattle.hp_script.specs.Before.{after_maybe, after_line, statement_of}
use Rattle.hp_script.specs.Refusals.{is_too_many}
use Rattle.hp_script.specs.LineAnswers.{HasRoom}
use Rattle.hp_script.specs.Drafts.{contents_of, contents_maybe, Fits}
use Rattle.hp_script.proofs.ReadLoop.{fits_said}
use Rattle.hp_script.proofs.reader.take_line.Goals as goal

pub returns-in-Ok : goal.returns-in-Ok
returns-in-Ok c =
    let read = c.in-Ok-Some.ensures in
    let says : statement_of c.args.line.now ≡ Some c.in-Ok-Some.statement = read.1 ∙ c.in-Ok-Some.field-0-is in
    let room : is_too_many c.args.hooks c.args.before.now c.in-Ok-Some.statement ≡ false = subst (HasRoom c.args.hooks c.args.before.now) c.in-Ok-Some.field-0-is read.2 in
    let stood : c.after.result ≡ after_line c.args.before.now c.args.line.now = c.after.ensures ∙ sym (ap (λ (s : Option Statement). after_maybe c.args.before.now s) says) in
    let said : contents_of c.add.new.self ≡ contents_maybe (contents_of c.args.draft.now) (statement_of c.args.line.now) = c.in-Ok.ensures ∙ sym (ap (λ (s : Option Statement). contents_maybe (contents_of c.args.draft.now) s) says) in
    let fits = fits_said c.args.hooks c.args.before.now (contents_of c.args.draft.now) (contents_of c.add.new.self) c.in-Ok-Some.statement room c.requires c.in-Ok.ensures in
    (read.0, stood, said, subst (λ (b : Before). Fits (contents_of c.add.new.self) b) (sym c.after.ensures) fits)
