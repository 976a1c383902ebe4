-- Which numbers and operations are values of their type, and which operations words can say. This project's own.
use Rattle.std.specs.Prelude.{◌≡◌, ℕ, ◌<◌, ◌^◌, ℤ, pos, negsuc, true}
use Rattle.hp_event.specs.declared.op.Op.{Op}
use Rattle.hp_event.specs.declared.op.Op.TheVariants as op
use Rattle.hp_model.specs.SetOf.{IsSet}
use Rattle.hp_model.specs.HasLine.{lists_one}

-- a number of the type u32
abbrev pub IsU32 : ℕ → Type 0
IsU32 n = n < 2 ^ 32

-- a number of the type i32
abbrev pub IsI32 : ℤ → Type 0
IsI32 (pos n) = n < 2 ^ 31
IsI32 (negsuc n) = n < 2 ^ 31

-- each number is within the range of its field, and a set of processors has four words of 64 bits
abbrev pub OpFits : Op → Type 0
OpFits (op.Up cpu) = IsU32 cpu
OpFits (op.Down cpu) = IsU32 cpu
OpFits (op.Target cpu value) = IsU32 cpu × IsI32 value
OpFits (op.Arm cpu value) = IsU32 cpu × IsI32 value
OpFits (op.ShowState cpu) = IsU32 cpu
OpFits (op.ShowTarget cpu) = IsU32 cpu
OpFits (op.ShowFail cpu) = IsU32 cpu
OpFits op.ShowStates = Unit {0}
OpFits (op.Setup state sub form) = IsU32 state × IsU32 sub
OpFits (op.Remove state form) = IsU32 state
OpFits (op.Add state inst form) = IsU32 state × IsU32 inst
OpFits (op.Del state inst form) = IsU32 state × IsU32 inst
OpFits op.Lock = Unit {0}
OpFits op.Unlock = Unit {0}
OpFits (op.Boot most) = IsU32 most
OpFits op.Disable = Unit {0}
OpFits op.Enable = Unit {0}
OpFits (op.Freeze primary) = IsI32 primary
OpFits op.Thaw = Unit {0}
OpFits op.Wakeup = Unit {0}
OpFits (op.UpMany set) = IsSet set

-- an operation that words can say: a value of its type, and an upmany that lists a processor
abbrev pub IsSayable : Op → Type 0
IsSayable o = OpFits o × (lists_one o ≡ true)
