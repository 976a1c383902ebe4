-- The line of an event says it, and the number of its operation.
use Rattle.std.proofs.Common.{◌≡◌, ℕ, true, List, [], ◌∷◌, Some, refl, sym, ap, ◌∙◌}
use Rattle.std.specs.Prelude.{ℤ, decimal}
use Rattle.std.specs.Fmt.{signed_decimal}
use Rattle.std.specs.Option.{option_and_then}
use Rattle.std.proofs.lemmas.Bool.{and_parts}
use Rattle.hp_states.specs.declared.dir.Dir.{Dir}
use Rattle.hp_states.specs.declared.dir.Dir.TheVariants.{Up, Down}
use Rattle.hp_event.specs.declared.how.How.{How}
use Rattle.hp_event.specs.declared.how.How.TheVariants.{RanOk, RanFault, Injected, Empty, Presumed, Overruled}
use Rattle.hp_event.specs.declared.answer.Answer.{Answer}
use Rattle.hp_event.specs.declared.answer.Answer.TheVariants as answers
use Rattle.hp_event.specs.declared.event.Role.{Role}
use Rattle.hp_event.specs.declared.event.Role.TheVariants.{Client, Ap}
use Rattle.hp_event.specs.declared.event.File.TheVariants.{State, Target, Fail, States}
use Rattle.hp_event.specs.declared.event.Event.{Event}
use Rattle.hp_event.specs.declared.event.Event.TheVariants.{Admit, Leave, Enter, Refused, WalkBegin, Call, WalkEnd, OpEnd, RegBegin, RegEnd, ReadLock, ReadUnlock, Armed, Shown, Wakeup}
use Rattle.hp_model.specs.Words.{line, dir_word}
use Rattle.hp_model.specs.EventLine.{how_words, answer_words, walk_answer_words, role_words, op_words, file_words, event_words, event_line}
use Rattle.hp_event.specs.declared.version.Version.{Version}
use Rattle.hp_text.proofs.SubLaws.{dir_again}
use Rattle.hp_replay.specs.LineWords.{words_at}
use Rattle.hp_replay.specs.Fits.{IsU32, HowFits, AnswerFits, RoleFits, EventFits}
use Rattle.hp_replay.specs.Versions.{numbered_event}
use Rattle.hp_replay.specs.Spelled.{IsWalkAnswer, IsSpelled}
use Rattle.hp_replay.specs.EventAt.{role, how, answer, walk_answer, event, event_at}
use Rattle.hp_replay.proofs.NumberLaws.{number_again, integer_again}
use Rattle.hp_replay.proofs.LineLaws.{is_free, all_free, signed_free, words_again}
use Rattle.hp_replay.proofs.OpWords.{number_free, op_again, op_free}
use Rattle.hp_replay.proofs.VersionLaws.{number_behind, number_behind_two, number_last, number_words_free, number_two_free, number_alone_free}
use Rattle.hp_replay.specs.declared.first_word.EventWord.TheVariants as word
use Rattle.hp_replay.specs.EventAt.{operation_tail}

pub dir_free : (d : Dir) → is_free (dir_word d) ≡ true
dir_free Up = refl
dir_free Down = refl

role_again : (r : Role) → RoleFits r → role (role_words r) ≡ Some r
unfolding role
role_again Client h = refl
role_again (Ap cpu) h = rw (number_again cpu h) refl

role_free : (r : Role) → RoleFits r → all_free (role_words r) ≡ true
role_free Client h = refl
role_free (Ap cpu) h = rw (number_free cpu h) refl

how_again : (x : How) → HowFits x → how (how_words x) ≡ Some x
unfolding how
how_again RanOk h = refl
how_again (RanFault code) h = rw (number_again code h) refl
how_again Injected h = refl
how_again Empty h = refl
how_again Presumed h = refl
how_again (Overruled code) h = rw (number_again code h) refl

how_free : (x : How) → HowFits x → all_free (how_words x) ≡ true
how_free RanOk h = refl
how_free (RanFault code) h = rw (number_free code h) refl
how_free Injected h = refl
how_free Empty h = refl
how_free Presumed h = refl
how_free (Overruled code) h = rw (number_free code h) refl

answer_again : (a : Answer) → AnswerFits a → answer (answer_words a) ≡ Some a
unfolding answer
answer_again (answers.Ok value) h = rw (integer_again value h) refl
answer_again (answers.Refused errno) h = rw (number_again errno h) refl
answer_again (answers.Fault code) h = rw (number_again code h) refl
answer_again (answers.Stuck first second at) h = rw (number_again first h.0, number_again second h.1, number_again at h.2) refl
answer_again answers.LogFull h = refl

answer_free : (a : Answer) → AnswerFits a → all_free (answer_words a) ≡ true
answer_free (answers.Ok value) h = rw (signed_free value h) refl
answer_free (answers.Refused errno) h = rw (number_free errno h) refl
answer_free (answers.Fault code) h = rw (number_free code h) refl
answer_free (answers.Stuck first second at) h = rw (number_free first h.0, number_free second h.1, number_free at h.2) refl
answer_free answers.LogFull h = refl

walk_answer_again : (a : Answer) → AnswerFits a → IsWalkAnswer a → walk_answer (walk_answer_words a) ≡ Some a
unfolding walk_answer
walk_answer_again (answers.Ok value) h s = ap (λ (v : ℤ). Some (answers.Ok v)) (sym s)
walk_answer_again (answers.Refused errno) h s = absurd s
walk_answer_again (answers.Fault code) h s = rw (number_again code h) refl
walk_answer_again (answers.Stuck first second at) h s = rw (number_again first h.0, number_again second h.1, number_again at h.2) refl
walk_answer_again answers.LogFull h s = absurd s

walk_answer_free : (a : Answer) → AnswerFits a → all_free (walk_answer_words a) ≡ true
walk_answer_free (answers.Ok value) h = refl
walk_answer_free (answers.Refused errno) h = answer_free (answers.Refused errno) h
walk_answer_free (answers.Fault code) h = answer_free (answers.Fault code) h
walk_answer_free (answers.Stuck first second at) h = answer_free (answers.Stuck first second at) h
walk_answer_free answers.LogFull h = refl

pub event_again : (v : Version) (n : ℕ) (e : Event) → IsU32 n → EventFits e → IsSpelled e → event v (event_words v n e) ≡ Some (numbered_event v n e)
unfolding event
event_again v n (Admit seat r) u h s = rw (number_again seat h.0, role_again r h.1) refl
event_again v n (Leave seat) u h s = rw (number_again seat h) refl
event_again v n (Enter seat o) u h s = rw (number_again seat h.0, number_behind v n u (operation_tail word.Enter seat) (op_words o), op_again o h.1 s) refl
event_again v n (Refused seat errno o) u h s = rw (number_again seat h.0, number_behind v n u (operation_tail word.Refused seat) (decimal errno ∷ op_words o), number_again errno h.1, op_again o h.2 s) refl
event_again v n (WalkBegin seat cpu from to) u h s = rw (number_again seat h.0, number_again cpu h.1, number_again from h.2, number_again to h.3) refl
event_again v n (Call seat cpu state inst dir x) u h s = rw (number_again seat h.0, number_again cpu h.1, number_again state h.2, number_again inst h.3, dir_again dir, how_again x h.4) refl
event_again v n (WalkEnd seat cpu a) u h s = rw (number_again seat h.0, number_again cpu h.1, walk_answer_again a h.2 s) refl
event_again v n (OpEnd seat a) u h s = rw (number_again seat h.0, number_behind v n u (operation_tail word.Done seat) (answer_words a), answer_again a h.1) refl
event_again v n (RegBegin seat state o) u h s = rw (number_again seat h.0, number_behind v n u (operation_tail word.Reg seat) (decimal state ∷ op_words o), number_again state h.1, op_again o h.2 s) refl
event_again v n (RegEnd seat a) u h s = rw (number_again seat h.0, number_behind v n u (operation_tail word.Regged seat) (answer_words a), answer_again a h.1) refl
event_again v n (ReadLock seat) u h s = rw (number_again seat h, number_last v n u (operation_tail word.Lock seat)) refl
event_again v n (ReadUnlock seat) u h s = rw (number_again seat h, number_last v n u (operation_tail word.Unlock seat)) refl
event_again v n (Armed seat cpu value) u h s = rw (number_again seat h.0, number_behind v n u (operation_tail word.Armed seat) (decimal cpu ∷ signed_decimal value ∷ []), number_again cpu h.1, integer_again value h.2) refl
event_again v n (Shown seat State cpu value) u h s = rw (number_again seat h.0, number_behind_two v n u (operation_tail word.Shown seat) (file_words State cpu) (signed_decimal value ∷ []), number_again cpu h.1, integer_again value h.2) refl
event_again v n (Shown seat Target cpu value) u h s = rw (number_again seat h.0, number_behind_two v n u (operation_tail word.Shown seat) (file_words Target cpu) (signed_decimal value ∷ []), number_again cpu h.1, integer_again value h.2) refl
event_again v n (Shown seat Fail cpu value) u h s = rw (number_again seat h.0, number_behind_two v n u (operation_tail word.Shown seat) (file_words Fail cpu) (signed_decimal value ∷ []), number_again cpu h.1, integer_again value h.2) refl
event_again v n (Shown seat States cpu value) u h s =
    rw (number_again seat h.0, number_behind_two v n u (operation_tail word.Shown seat) (file_words States cpu) (signed_decimal value ∷ []), integer_again value h.2)
    (ap (λ (c : ℕ). Some (numbered_event v n (Shown seat States c value))) (sym s))
event_again v n (Wakeup seat) u h s = rw (number_again seat h, number_last v n u (operation_tail word.Wakeup seat)) refl

pub event_free : (v : Version) (n : ℕ) (e : Event) → IsU32 n → EventFits e → all_free (event_words v n e) ≡ true
event_free v n (Admit seat r) u h = rw (number_free seat h.0, role_free r h.1) refl
event_free v n (Leave seat) u h = rw (number_free seat h) refl
event_free v n (Enter seat o) u h = rw (number_free seat h.0, number_words_free v n u (op_words o), op_free o h.1) refl
event_free v n (Refused seat errno o) u h = rw (number_free seat h.0, number_words_free v n u (decimal errno ∷ op_words o), number_free errno h.1, op_free o h.2) refl
event_free v n (WalkBegin seat cpu from to) u h = rw (number_free seat h.0, number_free cpu h.1, number_free from h.2, number_free to h.3) refl
event_free v n (Call seat cpu state inst dir x) u h = rw (number_free seat h.0, number_free cpu h.1, number_free state h.2, number_free inst h.3, dir_free dir, how_free x h.4) refl
event_free v n (WalkEnd seat cpu a) u h = rw (number_free seat h.0, number_free cpu h.1, walk_answer_free a h.2) refl
event_free v n (OpEnd seat a) u h = rw (number_free seat h.0, number_words_free v n u (answer_words a), answer_free a h.1) refl
event_free v n (RegBegin seat state o) u h = rw (number_free seat h.0, number_words_free v n u (decimal state ∷ op_words o), number_free state h.1, op_free o h.2) refl
event_free v n (RegEnd seat a) u h = rw (number_free seat h.0, number_words_free v n u (answer_words a), answer_free a h.1) refl
event_free v n (ReadLock seat) u h = rw (number_free seat h, number_alone_free v n u) refl
event_free v n (ReadUnlock seat) u h = rw (number_free seat h, number_alone_free v n u) refl
event_free v n (Armed seat cpu value) u h = rw (number_free seat h.0, number_words_free v n u (decimal cpu ∷ signed_decimal value ∷ []), number_free cpu h.1, signed_free value h.2) refl
event_free v n (Shown seat State cpu value) u h = rw (number_free seat h.0, number_two_free v n u (file_words State cpu) (signed_decimal value ∷ []), number_free cpu h.1, signed_free value h.2) refl
event_free v n (Shown seat Target cpu value) u h = rw (number_free seat h.0, number_two_free v n u (file_words Target cpu) (signed_decimal value ∷ []), number_free cpu h.1, signed_free value h.2) refl
event_free v n (Shown seat Fail cpu value) u h = rw (number_free seat h.0, number_two_free v n u (file_words Fail cpu) (signed_decimal value ∷ []), number_free cpu h.1, signed_free value h.2) refl
event_free v n (Shown seat States cpu value) u h = rw (number_free seat h.0, number_two_free v n u (file_words States cpu) (signed_decimal value ∷ []), signed_free value h.2) refl
event_free v n (Wakeup seat) u h = rw (number_free seat h, number_alone_free v n u) refl

-- each event has a first word
pub words_some : (v : Version) (n : ℕ) (e : Event) → (w : List ℕ) × (ws : List (List ℕ)) × (event_words v n e ≡ w ∷ ws)
words_some v n (Admit seat r) = (_, _, refl)
words_some v n (Leave seat) = (_, _, refl)
words_some v n (Enter seat o) = (_, _, refl)
words_some v n (Refused seat errno o) = (_, _, refl)
words_some v n (WalkBegin seat cpu from to) = (_, _, refl)
words_some v n (Call seat cpu state inst dir x) = (_, _, refl)
words_some v n (WalkEnd seat cpu a) = (_, _, refl)
words_some v n (OpEnd seat a) = (_, _, refl)
words_some v n (RegBegin seat state o) = (_, _, refl)
words_some v n (RegEnd seat a) = (_, _, refl)
words_some v n (ReadLock seat) = (_, _, refl)
words_some v n (ReadUnlock seat) = (_, _, refl)
words_some v n (Armed seat cpu value) = (_, _, refl)
words_some v n (Shown seat file cpu value) = (_, _, refl)
words_some v n (Wakeup seat) = (_, _, refl)

pub words_are_again : (ws : List (List ℕ)) (w : List ℕ) (vs : List (List ℕ)) → ws ≡ w ∷ vs → all_free ws ≡ true → words_at (line ws) ≡ Some ws
words_are_again ws w vs e free =
    let both : all_free (w ∷ vs) ≡ true = ap all_free (sym e) ∙ free in
    let p = and_parts (is_free w) (all_free vs) both in
    ap (λ (us : List (List ℕ)). words_at (line us)) e ∙ words_again w vs p.0 p.1 ∙ ap Some (sym e)

pub event_at_again : (v : Version) (n : ℕ) (e : Event) → IsU32 n → EventFits e → IsSpelled e → event_at v (event_line v n e) ≡ Some (numbered_event v n e)
unfolding event_at
event_at_again v n e u h s =
    let p = words_some v n e in
    ap (option_and_then (event v)) (words_are_again (event_words v n e) p.0 p.1 p.2 (event_free v n e u h)) ∙ event_again v n e u h s
