use Rattle.std.proofs.Common.{rules, ◌≡◌, List, true, [], ◌∷◌, Option, Some, sym, subst}
use Rattle.atomic_table.specs.Table.{opening}
use Rattle.hp_turn.specs.Views.{fresh}
use Rattle.hp_turn.specs.Turn.{Kept}
use Rattle.hp_turn.proofs.Keeps.{opens}
use Rattle.hp_turn.proofs.parts.TurnLock.new.Goals as goal

pub new-requires : goal.new-requires
new-requires g c =
    let head = g.V.Grown.head in
    let story = g.V.Grown.story in
    let aside = g.V.Grown.aside in
    let first : c.of-first.result.value ≡ c.args.value = search rules in
    let slots : c.push.new.self.items ≡ Some c.args.value ∷ [] = search rules in
    subst (λ (k : g.row.V.Denot). Kept head story aside
    (opening (0 ∷ c.length.result ∷ []) c.push.new.self.items (fresh (head k) (story k) true))) (sym first)
    (subst (λ (xs : List (Option g.row.V.Denot)). Kept head story aside
    (opening (0 ∷ c.length.result ∷ []) xs (fresh (head c.args.value) (story c.args.value) true))) (sym slots)
    (opens head story aside c.args.value c.length.result (search rules) (search rules)))
