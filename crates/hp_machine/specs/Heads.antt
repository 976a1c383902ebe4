-- Which processors a head may have, and the first thing that is at fault in them, in their order. This project's own.
use Rattle.std.specs.Prelude.{◌≡◌, ◌<◌, ◌≤◌, true, false, length, All}
use Rattle.std.specs.List.Sorted.{IsStrictlyIncreasing}
use Rattle.hp_states.specs.declared.limits.TheConstants.{MAX_CPUS, MAX_SUBS}
use Rattle.hp_event.specs.declared.head.Head.{Head}
use Rattle.hp_model.specs.Processors.{is_present}
use Rattle.hp_machine.specs.declared.heads.HeadFault.{HeadFault}
use Rattle.hp_machine.specs.declared.heads.HeadFault.TheVariants.{NoProcessor, TooManyCpus, BadAbsent, NoBoot, TooManySubs}

-- the absent ones strictly rise, and are possible ones
abbrev pub AreAbsent : Head → Type 0
AreAbsent head = IsStrictlyIncreasing head.absent × All (λ c. c < head.possible) head.absent

-- some are possible, and not too many
abbrev pub HasCpus : Head → Type 0
HasCpus head = (0 < head.possible) × (head.possible ≤ MAX_CPUS)

-- and the first of them is there, to boot on
abbrev pub CanBoot : Head → Type 0
CanBoot head = HasCpus head × AreAbsent head × (is_present head 0 ≡ true)

-- nothing is at fault, but in its subsystems' names and rules
abbrev pub IsFaultless : Head → Type 0
IsFaultless head = CanBoot head × (length head.subs ≤ MAX_SUBS)

abbrev pub IsFirstFault : Head → HeadFault → Type 0
IsFirstFault head NoProcessor = head.possible ≡ 0
IsFirstFault head TooManyCpus = MAX_CPUS < head.possible
IsFirstFault head BadAbsent = HasCpus head × (AreAbsent head → ⊥)
IsFirstFault head NoBoot = HasCpus head × AreAbsent head × (is_present head 0 ≡ false)
IsFirstFault head TooManySubs = HasCpus head × AreAbsent head × (is_present head 0 ≡ true) × (MAX_SUBS < length head.subs)
