-- What a rack of so many hooks makes of generated scripts. This project's own.
use Rattle.std.specs.Prelude.{ℕ, ◌+◌, ◌^◌, ◌<◌, ◌≤◌}
use Rattle.hp_states.specs.declared.limits.TheConstants.{MAX_GENERATED_SIZE}
use Rattle.hp_script.specs.declared.error.ScriptKind.TheVariants.{TooMany}
use Rattle.hp_script.specs.Generated.{generated}
use Rattle.hp_script.specs.Judged.{IsRefused, IsUnrefused}

-- it takes the script of this seed and size
abbrev pub TakesGenerated : (hooks seed size : ℕ) → Type 0
TakesGenerated hooks seed size =
    seed < 2 ^ 64 → size ≤ MAX_GENERATED_SIZE → IsUnrefused hooks (generated seed size)

-- it is too small for it: the setups begin at line 20, and the first that finds no hook is refused
abbrev pub LacksHooks : (hooks seed size : ℕ) → Type 0
LacksHooks hooks seed size =
    seed < 2 ^ 64 → size ≤ MAX_GENERATED_SIZE → IsRefused hooks (generated seed size) (20 + hooks) TooMany
