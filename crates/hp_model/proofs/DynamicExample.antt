-- A dynamic range filled by setups: what the journal is to be was written by hand, from the rules.
use Rattle.std.proofs.Common.{◌≡◌, true, false, List, [], ◌∷◌, refl}
use Rattle.std.specs.Prelude.{pos, codes}
use Rattle.hp_states.specs.declared.dir.Dir.TheVariants.{Up, Down}
use Rattle.hp_event.specs.declared.how.How.TheVariants.{Empty}
use Rattle.hp_event.specs.declared.answer.Answer.TheVariants.{Ok}
use Rattle.hp_event.specs.declared.op.Op.{Op}
use Rattle.hp_event.specs.declared.op.Op.TheVariants.{Setup, Remove}
use Rattle.hp_event.specs.declared.event.Role.TheVariants.{Client, Ap}
use Rattle.hp_event.specs.declared.head.Head.{Head}
use Rattle.hp_event.specs.declared.event.Event.TheVariants.{Admit, Refused, Call, RegBegin, RegEnd}
use Rattle.hp_model.specs.Walks.{walk, walking, walk_entries}
use Rattle.hp_model.specs.Registrations.{registration, registration_entries}
use Rattle.hp_model.specs.Registered.{registered, instance_count}
use Rattle.hp_model.specs.Resolved.{lowest_free}
use Rattle.hp_model.specs.Settled.{settled}
use Rattle.hp_model.specs.Calls.{sites}
use Rattle.hp_model.specs.Armed.{armed}
use Rattle.hp_model.specs.Sequence.{answers, begun}
use Rattle.hp_model.specs.Suspend.{disabled, frozen, wakeup_pending}
use Rattle.hp_model.specs.MapLock.{operation}
use Rattle.hp_model.specs.Readers.{reading_since, readers}
use Rattle.hp_model.specs.Seats.{role_of, ap_seat, seats}
use Rattle.hp_model.specs.Promised.{promised, promised_to_walks}
use Rattle.hp_model.specs.Files.{named_states}
use Rattle.hp_model.specs.UnderWay.{under_way}
use Rattle.hp_model.specs.NextEvent.{due_entry, next_event, is_full}
use Rattle.hp_model.specs.ScriptTurns.{RunState, after_turns}
use Rattle.hp_model.specs.ScriptRun.{is_over, after_rounds}
use Rattle.hp_model.proofs.RunExamples.{plain}

abbrev dynamic_slots_head : Head
dynamic_slots_head =
    record { possible = 1; absent = []; subs = record { name = codes "net:a"; up = false; down = false; multi = false; plan = [] } ∷ [] }

abbrev dynamic_slots_actors : List (List Op)
dynamic_slots_actors = (Setup 141 1 plain ∷ Setup 141 1 plain ∷ Setup 141 1 plain ∷ Setup 141 1 plain ∷ Setup 141 1 plain ∷ Setup 141 1 plain ∷ Setup 141 1 plain ∷ Setup 141 1 plain ∷ Setup 141 1 plain ∷ Setup 141 1 plain ∷ Setup 141 1 plain ∷ Setup 141 1 plain ∷ Setup 141 1 plain ∷ Setup 141 1 plain ∷ Setup 141 1 plain ∷ Setup 141 1 plain ∷ Setup 141 1 plain ∷ Setup 141 1 plain ∷ Setup 141 1 plain ∷ Setup 141 1 plain ∷ Setup 141 1 plain ∷ Setup 141 1 plain ∷ Setup 141 1 plain ∷ Setup 141 1 plain ∷ Setup 141 1 plain ∷ Setup 141 1 plain ∷ Setup 141 1 plain ∷ Setup 141 1 plain ∷ Setup 141 1 plain ∷ Setup 141 1 plain ∷ Setup 141 1 plain ∷ Setup 141 1 plain ∷ Remove 150 plain ∷ Setup 141 1 plain ∷ []) ∷ []

abbrev dynamic_slots_progress : RunState
dynamic_slots_progress = after_rounds dynamic_slots_head dynamic_slots_actors [] 120

-- 31 setups fill the range, one more is refused, and a state that was removed is taken again
dynamic_slots : dynamic_slots_progress.events ≡ Admit 0 (Ap 0) ∷ Admit 1 Client ∷ RegBegin 1 141 (Setup 141 1 plain) ∷ Call 0 0 141 0 Up Empty ∷ RegEnd 1 (Ok (pos 141)) ∷ RegBegin 1 142 (Setup 141 1 plain) ∷ Call 0 0 142 0 Up Empty ∷ RegEnd 1 (Ok (pos 142)) ∷ RegBegin 1 143 (Setup 141 1 plain) ∷ Call 0 0 143 0 Up Empty ∷ RegEnd 1 (Ok (pos 143)) ∷ RegBegin 1 144 (Setup 141 1 plain) ∷ Call 0 0 144 0 Up Empty ∷ RegEnd 1 (Ok (pos 144)) ∷ RegBegin 1 145 (Setup 141 1 plain) ∷ Call 0 0 145 0 Up Empty ∷ RegEnd 1 (Ok (pos 145)) ∷ RegBegin 1 146 (Setup 141 1 plain) ∷ Call 0 0 146 0 Up Empty ∷ RegEnd 1 (Ok (pos 146)) ∷ RegBegin 1 147 (Setup 141 1 plain) ∷ Call 0 0 147 0 Up Empty ∷ RegEnd 1 (Ok (pos 147)) ∷ RegBegin 1 148 (Setup 141 1 plain) ∷ Call 0 0 148 0 Up Empty ∷ RegEnd 1 (Ok (pos 148)) ∷ RegBegin 1 149 (Setup 141 1 plain) ∷ Call 0 0 149 0 Up Empty ∷ RegEnd 1 (Ok (pos 149)) ∷ RegBegin 1 150 (Setup 141 1 plain) ∷ Call 0 0 150 0 Up Empty ∷ RegEnd 1 (Ok (pos 150)) ∷ RegBegin 1 151 (Setup 141 1 plain) ∷ Call 0 0 151 0 Up Empty ∷ RegEnd 1 (Ok (pos 151)) ∷ RegBegin 1 152 (Setup 141 1 plain) ∷ Call 0 0 152 0 Up Empty ∷ RegEnd 1 (Ok (pos 152)) ∷ RegBegin 1 153 (Setup 141 1 plain) ∷ Call 0 0 153 0 Up Empty ∷ RegEnd 1 (Ok (pos 153)) ∷ RegBegin 1 154 (Setup 141 1 plain) ∷ Call 0 0 154 0 Up Empty ∷ RegEnd 1 (Ok (pos 154)) ∷ RegBegin 1 155 (Setup 141 1 plain) ∷ Call 0 0 155 0 Up Empty ∷ RegEnd 1 (Ok (pos 155)) ∷ RegBegin 1 156 (Setup 141 1 plain) ∷ Call 0 0 156 0 Up Empty ∷ RegEnd 1 (Ok (pos 156)) ∷ RegBegin 1 157 (Setup 141 1 plain) ∷ Call 0 0 157 0 Up Empty ∷ RegEnd 1 (Ok (pos 157)) ∷ RegBegin 1 158 (Setup 141 1 plain) ∷ Call 0 0 158 0 Up Empty ∷ RegEnd 1 (Ok (pos 158)) ∷ RegBegin 1 159 (Setup 141 1 plain) ∷ Call 0 0 159 0 Up Empty ∷ RegEnd 1 (Ok (pos 159)) ∷ RegBegin 1 160 (Setup 141 1 plain) ∷ Call 0 0 160 0 Up Empty ∷ RegEnd 1 (Ok (pos 160)) ∷ RegBegin 1 161 (Setup 141 1 plain) ∷ Call 0 0 161 0 Up Empty ∷ RegEnd 1 (Ok (pos 161)) ∷ RegBegin 1 162 (Setup 141 1 plain) ∷ Call 0 0 162 0 Up Empty ∷ RegEnd 1 (Ok (pos 162)) ∷ RegBegin 1 163 (Setup 141 1 plain) ∷ Call 0 0 163 0 Up Empty ∷ RegEnd 1 (Ok (pos 163)) ∷ RegBegin 1 164 (Setup 141 1 plain) ∷ Call 0 0 164 0 Up Empty ∷ RegEnd 1 (Ok (pos 164)) ∷ RegBegin 1 165 (Setup 141 1 plain) ∷ Call 0 0 165 0 Up Empty ∷ RegEnd 1 (Ok (pos 165)) ∷ RegBegin 1 166 (Setup 141 1 plain) ∷ Call 0 0 166 0 Up Empty ∷ RegEnd 1 (Ok (pos 166)) ∷ RegBegin 1 167 (Setup 141 1 plain) ∷ Call 0 0 167 0 Up Empty ∷ RegEnd 1 (Ok (pos 167)) ∷ RegBegin 1 168 (Setup 141 1 plain) ∷ Call 0 0 168 0 Up Empty ∷ RegEnd 1 (Ok (pos 168)) ∷ RegBegin 1 169 (Setup 141 1 plain) ∷ Call 0 0 169 0 Up Empty ∷ RegEnd 1 (Ok (pos 169)) ∷ RegBegin 1 170 (Setup 141 1 plain) ∷ Call 0 0 170 0 Up Empty ∷ RegEnd 1 (Ok (pos 170)) ∷ RegBegin 1 171 (Setup 141 1 plain) ∷ Call 0 0 171 0 Up Empty ∷ RegEnd 1 (Ok (pos 171)) ∷ Refused 1 28 (Setup 141 1 plain) ∷ RegBegin 1 150 (Remove 150 plain) ∷ Call 0 0 150 0 Down Empty ∷ RegEnd 1 (Ok (pos 0)) ∷ RegBegin 1 150 (Setup 141 1 plain) ∷ Call 0 0 150 0 Up Empty ∷ RegEnd 1 (Ok (pos 150)) ∷ []
unfolding walk walking walk_entries registration registration_entries operation reading_since readers role_of ap_seat seats promised promised_to_walks under_way due_entry next_event is_full after_turns registered settled sites armed answers begun disabled frozen wakeup_pending lowest_free instance_count named_states
dynamic_slots = refl

dynamic_slots_over : is_over dynamic_slots_actors dynamic_slots_progress ≡ true
unfolding walk walking walk_entries registration registration_entries operation reading_since readers role_of ap_seat seats promised promised_to_walks under_way due_entry next_event is_full after_turns registered settled sites armed answers begun disabled frozen wakeup_pending lowest_free instance_count named_states
dynamic_slots_over = refl
