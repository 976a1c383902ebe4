use Rattle.std.proofs.Common.{true, ◌≡◌, [], ◌∷◌, ◌++◌, ◌∙◌, sym, ap, subst, refl}
use Rattle.std.proofs.lemmas.Bool.{true≢false}
use Rattle.hp_event.specs.declared.head.Head.{Head}
use Rattle.hp_model.specs.Lawful.{Stands}
use Rattle.hp_account.specs.Table.{IsTableOf}
use Rattle.hp_account.specs.TableChanges.{CanChange, with_added, without_left, is_registering}
use Rattle.hp_account.proofs.Changeable.{can_change}
use Rattle.hp_account.proofs.TableMore.{table_same}
use Rattle.hp_account.proofs.TableOfEvent.{on_ok, flies, takes_out, begun_table, left_table, Untouched, untouched}
use Rattle.hp_account.proofs.table_changes.change_table.Goals as goal

pub add_to_table-requires-clause-can : goal.add_to_table-requires-clause-can
add_to_table-requires-clause-can g c =
    let l = c.args.journal.now in
    let b = c.in-RegBegin in
    let stands = subst (Stands l.head l.events) b.is c.requires.stands in
    let head = sym c.head.ensures in
    subst (λ (h : Head). CanChange h b.op b.state c.args.table.now) head
    (can_change l.head l.events c.args.table.now b.seat b.op b.state c.requires.table c.sound.ensures stands.0)

pub take_from_table-requires-clause-can : goal.take_from_table-requires-clause-can
take_from_table-requires-clause-can g c =
    let l = c.args.journal.now in
    let f = flies l.events c.in-Some.op c.in-Some.state (sym c.in-Some.is ∙ c.in_flight.ensures.there) in
    takes_out l.head l.events c.args.table.now c.in-Some.op c.in-Some.state c.requires.table c.in-Some.ensures.op f

pub take_from_table-requires-clause-home : goal.take_from_table-requires-clause-home
take_from_table-requires-clause-home g c =
    c.requires.home (ap is_registering c.in-RegEnd.is) c.in-Some.state

pub returns-in-RegBegin-clause-table : goal.returns-in-RegBegin-clause-table
returns-in-RegBegin-clause-table g c =
    let l = c.args.journal.now in
    let b = c.in-RegBegin in
    let places = c.args.table.now in
    let stands = subst (Stands l.head l.events) b.is c.requires.stands in
    let head = sym c.head.ensures in
    let after = begun_table l.head l.events places b.seat b.state b.op c.requires.table c.sound.ensures stands.0 in
    let there = subst (λ x. IsTableOf l.head (l.events ++ x ∷ []) (with_added l.head b.op b.state places)) (sym b.is) after in
    let by_head = subst (λ (h : Head). IsTableOf l.head (l.events ++ c.args.event.now ∷ []) (with_added h b.op b.state places)) head there in
    on_ok c.add_to_table.result (c.add_to_table.new.table ≡ with_added c.head.result.now b.op b.state places)
    (IsTableOf l.head (l.events ++ c.args.event.now ∷ []) c.add_to_table.new.table) c.add_to_table.ensures.added
    (λ is. subst (IsTableOf l.head (l.events ++ c.args.event.now ∷ [])) (sym is) by_head)

pub returns-in-Some-clause-table : goal.returns-in-Some-clause-table
returns-in-Some-clause-table g c =
    let l = c.args.journal.now in
    let places = c.args.table.now in
    let x = c.in-RegEnd in
    let op = c.in-Some.op in
    let state = c.in-Some.state in
    let f = flies l.events op state (sym c.in-Some.is ∙ c.in_flight.ensures.there) in
    let after = left_table l.head l.events places x.seat x.answer op state c.requires.table c.in-Some.ensures.op f in
    let there = subst (λ e. IsTableOf l.head (l.events ++ e ∷ []) (without_left op x.answer state places)) (sym x.is) after in
    subst (IsTableOf l.head (l.events ++ c.args.event.now ∷ [])) (sym c.take_from_table.ensures.left) there

pub returns-in_default : goal.returns-in_default
returns-in_default g c =
    let l = c.args.journal.now in
    let places = c.args.table.now in
    let u : Untouched l.head l.events c.args.event.now places =
    untouched l.head l.events c.args.event.now places c.in_default.not-RegBegin c.in_default.not-RegEnd c.requires.no_entry in
    let other : is_registering c.args.event.now ≡ true → ⊥ = λ is. true≢false (sym is ∙ u.no_registration) in
    record {
      changed = sym u.same;
      table = table_same l.head l.events places c.args.event.now u.leaves c.requires.table;
      hands = λ is. absurd (other is);
      hook = λ is. absurd (other is);
      left = λ is. refl;
      err = tt;
      kept = tt;
      memory = tt;
    }
