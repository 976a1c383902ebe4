use Rattle.std.proofs.Common.{◌∙◌, sym}
use Rattle.hp_account.proofs.WalkKeys.{keys_up, keys_down}
use Rattle.hp_account.proofs.room.keys_crossed.Goals as goal

pub returns-in-Up-clause-keys : goal.returns-in-Up-clause-keys
returns-in-Up-clause-keys g c =
    c.keys_between.ensures.keys ∙ keys_up c.args.table.now c.args.from c.args.to (sym c.between.ensures ∙ c.in-Up.is)

pub returns-in-Down-clause-keys : goal.returns-in-Down-clause-keys
returns-in-Down-clause-keys g c =
    c.keys_between-in-Down.ensures.keys ∙ keys_down c.args.table.now c.args.from c.args.to (sym c.between.ensures ∙ c.in-Down.is)
