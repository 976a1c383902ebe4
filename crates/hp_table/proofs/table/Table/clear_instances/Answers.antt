-- Where nothing is registered nothing changes.
use Rattle.std.proofs.Common.{◌≡◌, is_some, Option, Some, None, Bor, refl, ap, sym, ◌∙◌}
use Rattle.std.specs.Option.{option_copied}
use Rattle.hp_table.specs.Step.{Step}
use Rattle.hp_table.proofs.Clearing.{uncleared}
use Rattle.hp_table.proofs.table.Table.clear_instances.Goals as goal

copied : (place : Option (Bor Step)) → is_some (option_copied place) ≡ is_some place
copied None = refl
copied (Some step) = refl

pub returns-else-is_some : goal.returns-else-is_some
returns-else-is_some g c =
    uncleared c.args.self.now c.args.state
    (sym (ap is_some c.registered.ensures.there) ∙ copied c.registered.result ∙ sym c.is_some.ensures ∙ c.if-is_some.false)
