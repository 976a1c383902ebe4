use Rattle.std.proofs.Common.{◌≡◌, Some, true, ℕ, sym, subst}
use Rattle.hp_script.specs.declared.error.ParseError.{ParseError}
use Rattle.hp_script.specs.Judged.{RefusesOrWants}
use Rattle.hp_script.specs.Words.{words}
use Rattle.hp_script.specs.Statements.{statement_in}
use Rattle.hp_script.specs.Refusals.{is_out_of_range}
use Rattle.hp_hint.specs.Faults.{line_of}
use Rattle.hp_hint.proofs.Possibles.{refused_number}
use Rattle.hp_hint.proofs.fault.fault_of.Goals as goal

pub mark_of-requires-clause-bad : goal.mark_of-requires-clause-bad
mark_of-requires-clause-bad c = λ is.
    let there : line_of c.args.bytes.now c.in-Err-Bad.line ≡ Some c.in-Some.text.now = sym c.in-Some.ensures.found in
    let refused = subst (λ (e : ParseError). RefusesOrWants c.args.hooks c.args.bytes.now e) c.in-Err-Bad.field-0-is c.in-Err-Bad.ensures.refused in
    subst (λ (p : ℕ). is_out_of_range p (statement_in (words c.in-Some.text.now)) ≡ true) (sym c.before-context.ensures)
    (refused_number c.args.hooks c.args.bytes.now c.in-Err-Bad.line c.in-Err-Bad.kind c.in-Some.text.now refused is there)
