-- What the entries of a registration are made by, and who makes them. After `cpuhp_invoke_callback` and
-- `cpuhp_invoke_ap_callback` of `kernel/cpu.c`.
use Rattle.std.specs.Prelude.{◌≡◌, ℕ, Bool, not, ◌&&◌, if◌then◌else◌, IfSome, Option, Some}
use Rattle.hp_states.specs.declared.dir.Dir.{Dir}
use Rattle.hp_states.specs.Sections.{is_ap_state}
use Rattle.hp_table.specs.Kept.{Kept}
use Rattle.hp_table.specs.Step.{Step}
use Rattle.hp_account.specs.declared.under_way.MadeBy.{MadeBy}
use Rattle.hp_account.specs.declared.under_way.MadeBy.TheVariants.{Presumed, Empty, Hook}
use Rattle.hp_account.specs.NextStep.{has_callback_by}

-- nothing where the form is without calls or there is no callback of the direction, and else the state's hook
abbrev pub made_by_in_registration : (nocalls : Bool) → Kept → Dir → MadeBy
made_by_in_registration nocalls kept d = if nocalls then Presumed else (if has_callback_by kept d then Hook else Empty)

-- an entry of that direction is made by this, where something is registered
abbrev pub IsMadeByInRegistration : (nocalls : Bool) → Option Step → Dir → MadeBy → Type 0
IsMadeByInRegistration nocalls place d made_by = IfSome place (λ step. made_by ≡ made_by_in_registration nocalls step.kept d)

-- the thread of the processor at an AP state, unless the entry is presumed, and else the client
abbrev pub seat_by : (nocalls : Bool) → (state : ℕ) → (thread : Option ℕ) → (client : ℕ) → Option ℕ
seat_by nocalls s thread client = if is_ap_state s && not nocalls then thread else Some client
