-- The event that a line says is spelled by it, and the number of its operation.
use Rattle.std.proofs.Common.{◌≡◌, ℕ, List, [], ◌∷◌, ◌++◌, Option, Some, None, refl, sym, ap, ◌∙◌, append_assoc, arith}
use Rattle.std.specs.Prelude.{pos, codes, unwrap_or}
use Rattle.std.specs.Fmt.{decimal, signed_decimal}
use Rattle.hp_event.specs.declared.how.How.TheVariants.{RanOk, RanFault, Injected, Empty, Presumed, Overruled}
use Rattle.hp_event.specs.declared.answer.Answer.{Answer}
use Rattle.hp_event.specs.declared.answer.Answer.TheVariants as answers
use Rattle.hp_event.specs.declared.event.Role.TheVariants.{Client, Ap}
use Rattle.hp_event.specs.declared.event.File.TheVariants.{State, Target, Fail, States}
use Rattle.hp_event.specs.declared.event.Event.{Event}
use Rattle.hp_event.specs.declared.event.Event.TheVariants.{Admit, Leave, Enter, Refused, WalkBegin, Call, WalkEnd, OpEnd, RegBegin, RegEnd, ReadLock, ReadUnlock, Armed, Shown, Wakeup}
use Rattle.hp_model.specs.Words.{dir_word}
use Rattle.hp_model.specs.EventLine.{how_words, answer_words, walk_answer_words, role_words, op_words, number_words, event_words}
use Rattle.hp_event.specs.declared.version.Version.{Version}
use Rattle.hp_event.specs.declared.version.Version.TheVariants.{One, Two}
use Rattle.hp_text.specs.Choices.{dir_of}
use Rattle.hp_text.proofs.SubLaws.{Whatever, dir_takes}
use Rattle.hp_replay.specs.Readers.{Tail, one_of}
use Rattle.hp_replay.specs.Fits.{IsU32, HowFits, AnswerFits, RoleFits, EventFits}
use Rattle.hp_replay.specs.Spelled.{IsWalkAnswer, IsSpelled}
use Rattle.hp_replay.specs.Spellings.{IsEventLine}
use Rattle.hp_replay.specs.declared.event.NumberedEvent.{NumberedEvent}
use Rattle.hp_replay.specs.declared.first_word.EventWord.{EventWord}
use Rattle.hp_replay.specs.declared.first_word.EventWord.TheVariants as word
use Rattle.hp_replay.specs.FirstWords.{text_of_event}
use Rattle.hp_replay.specs.Versions.{number_in, named_number}
use Rattle.hp_replay.specs.EventAt.{role_rows, role, how_rows, how, answer_rows, answer, walk_answer_rows, walk_answer, alone, of_operation, shown_rows, operation_tail, behind_number, of_operation_tail, event_rows, event, event_at}
use Rattle.hp_replay.proofs.ReaderLaws.{IsField, Spells, done_spells, bind_spells, mapped_spells, one_spells, line_takes}
use Rattle.hp_replay.proofs.OpWords.{number_field, integer_field, op_spells}

-- ---- the parts of an event

direction_field : IsField dir_of dir_word Whatever
direction_field = record { takes = λ w d h. (dir_takes w d h, tt) }

role_rows_say : Spells role_words RoleFits [] (one_of role_rows)
role_rows_say = one_spells role_rows (
  done_spells Client refl tt,
  (bind_spells number_field (λ cpu a. done_spells (Ap cpu) refl a), tt),
)

role_spells : Spells role_words RoleFits [] role
unfolding role
role_spells = record { takes = λ ws x h. role_rows_say.takes ws x h }

how_rows_say : Spells how_words HowFits [] (one_of how_rows)
how_rows_say = one_spells how_rows (
  done_spells RanOk refl tt,
  (
    bind_spells number_field (λ code a. done_spells (RanFault code) refl a),
    (
      done_spells Injected refl tt,
      (
        done_spells Empty refl tt,
        (
          done_spells Presumed refl tt,
          (bind_spells number_field (λ code a. done_spells (Overruled code) refl a), tt),
        ),
      ),
    ),
  ),
)

how_spells : Spells how_words HowFits [] how
unfolding how
how_spells = record { takes = λ ws x h. how_rows_say.takes ws x h }

answer_rows_say : Spells answer_words AnswerFits [] (one_of answer_rows)
answer_rows_say = one_spells answer_rows (
  bind_spells integer_field (λ value a. done_spells (answers.Ok value) refl a),
  (
    bind_spells number_field (λ errno a. done_spells (answers.Refused errno) refl a),
    (
      bind_spells number_field (λ code a. done_spells (answers.Fault code) refl a),
      (
        bind_spells number_field (λ first a. bind_spells number_field (λ second b. bind_spells number_field (λ at c. done_spells (answers.Stuck first second at) refl (a, b, c)))),
        (done_spells answers.LogFull refl tt, tt),
      ),
    ),
  ),
)

answer_spells : Spells answer_words AnswerFits [] answer
unfolding answer
answer_spells = record { takes = λ ws x h. answer_rows_say.takes ws x h }

abbrev WalkFits : Answer → Type 0
WalkFits a = AnswerFits a × IsWalkAnswer a

walk_rows_say : Spells walk_answer_words WalkFits [] (one_of walk_answer_rows)
walk_rows_say = one_spells walk_answer_rows (
  done_spells (answers.Ok (pos 0)) refl (omega arith, refl),
  (
    bind_spells number_field (λ code a. done_spells (answers.Fault code) refl (a, tt)),
    (bind_spells number_field (λ first a. bind_spells number_field (λ second b. bind_spells number_field (λ at c. done_spells (answers.Stuck first second at) refl ((a, b, c), tt)))), tt),
  ),
)

walk_answer_spells : Spells walk_answer_words WalkFits [] walk_answer
unfolding walk_answer
walk_answer_spells = record { takes = λ ws x h. walk_rows_say.takes ws x h }

-- ---- the number of an operation

-- a number as the lines of a version name it
abbrev IsNamed : Version → Option ℕ → Type 0
IsNamed One None = Unit {0}
IsNamed One (Some n) = ⊥
IsNamed Two None = ⊥
IsNamed Two (Some n) = IsU32 n

abbrev named_words : Option ℕ → List (List ℕ)
named_words None = []
named_words (Some n) = decimal n ∷ []

words_named : (v : Version) (o : Option ℕ) → IsNamed v o → number_words v (unwrap_or o 0) ≡ named_words o
words_named One None h = refl
words_named One (Some n) h = absurd h
words_named Two None h = absurd h
words_named Two (Some n) h = refl

named_fits : (v : Version) (o : Option ℕ) → IsNamed v o → IsU32 (unwrap_or o 0)
named_fits One None h = omega arith
named_fits One (Some n) h = absurd h
named_fits Two None h = absurd h
named_fits Two (Some n) h = h

named_is : (v : Version) (o : Option ℕ) → IsNamed v o → o ≡ number_in v (unwrap_or o 0)
named_is One None h = refl
named_is One (Some n) h = absurd h
named_is Two None h = absurd h
named_is Two (Some n) h = refl

-- ---- events

abbrev said_words : Version → NumberedEvent → List (List ℕ)
said_words v said = event_words v (unwrap_or said.number 0) said.event

pub record Sayable (v : Version) (said : NumberedEvent) : Type 0 where
  pub fits : EventFits said.event
  pub spelled : IsSpelled said.event
  pub number_fits : IsU32 (unwrap_or said.number 0)
  pub named : said.number ≡ named_number v (unwrap_or said.number 0) said.event

abbrev Says : Version → List (List ℕ) → Tail NumberedEvent → Type 0
Says v front tail = Spells (said_words v) (Sayable v) front tail

-- an event whose line names no operation
alone_is : (v : Version) (e : Event) → EventFits e → IsSpelled e → None ≡ named_number v 0 e → Sayable v (alone e)
alone_is v e f s n = record { fits = f; spelled = s; number_fits = omega arith; named = n }

-- an event of an operation
of_is : (v : Version) (o : Option ℕ) (e : Event) → IsNamed v o → EventFits e → IsSpelled e → number_in v (unwrap_or o 0) ≡ named_number v (unwrap_or o 0) e →
    Sayable v (of_operation o e)
of_is v o e h f s n = record { fits = f; spelled = s; number_fits = named_fits v o h; named = named_is v o h ∙ n }

shown_say : (v : Version) (seat : ℕ) (o : Option ℕ) → IsU32 seat → IsNamed v o → Says v (codes "shown" ∷ decimal seat ∷ named_words o) (one_of (shown_rows seat o))
shown_say v seat o s h =
    let front = codes "shown" ∷ decimal seat ∷ named_words o in
    let file : (f : List ℕ) (cpu : ℕ) (w : List ℕ) → codes "shown" ∷ decimal seat ∷ ((number_words v (unwrap_or o 0) ++ f ∷ decimal cpu ∷ []) ++ w ∷ []) ≡ ((front ++ f ∷ []) ++ decimal cpu ∷ []) ++ w ∷ [] =
    λ f cpu w.
    ap (λ (ws : List (List ℕ)). codes "shown" ∷ decimal seat ∷ ((ws ++ f ∷ decimal cpu ∷ []) ++ w ∷ [])) (words_named v o h)
    ∙ sym (ap (λ (ws : List (List ℕ)). ws ++ w ∷ []) (append_assoc front (f ∷ []) (decimal cpu ∷ []))) in
    one_spells (shown_rows seat o) (
      bind_spells number_field (λ cpu a. bind_spells integer_field (λ value b. done_spells (of_operation o (Shown seat State cpu value)) (file (codes "state") cpu (signed_decimal value)) (of_is v o (Shown seat State cpu value) h (s, a, b) tt refl))),
      (
        bind_spells number_field (λ cpu a. bind_spells integer_field (λ value b. done_spells (of_operation o (Shown seat Target cpu value)) (file (codes "target") cpu (signed_decimal value)) (of_is v o (Shown seat Target cpu value) h (s, a, b) tt refl))),
        (
          bind_spells number_field (λ cpu a. bind_spells integer_field (λ value b. done_spells (of_operation o (Shown seat Fail cpu value)) (file (codes "fail") cpu (signed_decimal value)) (of_is v o (Shown seat Fail cpu value) h (s, a, b) tt refl))),
          (
            bind_spells integer_field (λ value b.
                done_spells (of_operation o (Shown seat States 0 value))
                (ap (λ (ws : List (List ℕ)). codes "shown" ∷ decimal seat ∷ ((ws ++ codes "states" ∷ []) ++ signed_decimal value ∷ [])) (words_named v o h))
                (of_is v o (Shown seat States 0 value) h (s, omega arith, b) refl refl)),
            tt,
          ),
        ),
      ),
    )

-- what stands behind the seat of an operation and its number
operation_says : (v : Version) (w : EventWord) (seat : ℕ) (o : Option ℕ) → IsU32 seat → IsNamed v o →
    Says v (text_of_event w ∷ decimal seat ∷ named_words o) (operation_tail w seat o)
operation_says v word.Enter seat o s h =
    mapped_spells (λ x. of_operation o (Enter seat x)) op_spells
    (λ x f. (ap (λ (ws : List (List ℕ)). codes "enter" ∷ decimal seat ∷ (ws ++ op_words x)) (words_named v o h), of_is v o (Enter seat x) h (s, f.0) f.1 refl))
operation_says v word.Refused seat o s h =
    bind_spells number_field (λ errno a.
    mapped_spells (λ x. of_operation o (Refused seat errno x)) op_spells
    (λ x f. (
      ap (λ (ws : List (List ℕ)). codes "refused" ∷ decimal seat ∷ (ws ++ decimal errno ∷ op_words x)) (words_named v o h)
          ∙ sym (append_assoc (codes "refused" ∷ decimal seat ∷ named_words o) (decimal errno ∷ []) (op_words x)),
      of_is v o (Refused seat errno x) h (s, a, f.0) f.1 refl,
    )))
operation_says v word.Done seat o s h =
    mapped_spells (λ x. of_operation o (OpEnd seat x)) answer_spells
    (λ x f. (ap (λ (ws : List (List ℕ)). codes "done" ∷ decimal seat ∷ (ws ++ answer_words x)) (words_named v o h), of_is v o (OpEnd seat x) h (s, f) tt refl))
operation_says v word.Reg seat o s h =
    bind_spells number_field (λ state a.
    mapped_spells (λ x. of_operation o (RegBegin seat state x)) op_spells
    (λ x f. (
      ap (λ (ws : List (List ℕ)). codes "reg" ∷ decimal seat ∷ (ws ++ decimal state ∷ op_words x)) (words_named v o h)
          ∙ sym (append_assoc (codes "reg" ∷ decimal seat ∷ named_words o) (decimal state ∷ []) (op_words x)),
      of_is v o (RegBegin seat state x) h (s, a, f.0) f.1 refl,
    )))
operation_says v word.Regged seat o s h =
    mapped_spells (λ x. of_operation o (RegEnd seat x)) answer_spells
    (λ x f. (ap (λ (ws : List (List ℕ)). codes "regged" ∷ decimal seat ∷ (ws ++ answer_words x)) (words_named v o h), of_is v o (RegEnd seat x) h (s, f) tt refl))
operation_says v word.Lock seat o s h =
    done_spells (of_operation o (ReadLock seat)) (ap (λ (ws : List (List ℕ)). codes "lock" ∷ decimal seat ∷ ws) (words_named v o h)) (of_is v o (ReadLock seat) h s tt refl)
operation_says v word.Unlock seat o s h =
    done_spells (of_operation o (ReadUnlock seat)) (ap (λ (ws : List (List ℕ)). codes "unlock" ∷ decimal seat ∷ ws) (words_named v o h)) (of_is v o (ReadUnlock seat) h s tt refl)
operation_says v word.Armed seat o s h =
    bind_spells number_field (λ cpu a. bind_spells integer_field (λ value b.
    done_spells (of_operation o (Armed seat cpu value))
    (ap (λ (ws : List (List ℕ)). codes "armed" ∷ decimal seat ∷ (ws ++ decimal cpu ∷ signed_decimal value ∷ [])) (words_named v o h)
    ∙ sym (append_assoc (codes "armed" ∷ decimal seat ∷ named_words o) (decimal cpu ∷ []) (signed_decimal value ∷ [])))
    (of_is v o (Armed seat cpu value) h (s, a, b) tt refl)))
operation_says v word.Shown seat o s h = shown_say v seat o s h
operation_says v word.Wakeup seat o s h =
    done_spells (of_operation o (Wakeup seat)) (ap (λ (ws : List (List ℕ)). codes "wakeup" ∷ decimal seat ∷ ws) (words_named v o h)) (of_is v o (Wakeup seat) h s tt refl)
operation_says v word.Admit seat o s h = record { takes = λ ws x e. absurd cc }
operation_says v word.Leave seat o s h = record { takes = λ ws x e. absurd cc }
operation_says v word.Walk seat o s h = record { takes = λ ws x e. absurd cc }
operation_says v word.Call seat o s h = record { takes = λ ws x e. absurd cc }
operation_says v word.Walked seat o s h = record { takes = λ ws x e. absurd cc }

behind_says : (v : Version) (w : EventWord) (seat : ℕ) → IsU32 seat → Says v (text_of_event w ∷ decimal seat ∷ []) (behind_number v (operation_tail w seat))
behind_says One w seat s = record { takes = λ ws x e. (operation_says One w seat None s tt).takes ws x e }
behind_says Two w seat s =
    let more = bind_spells {front = text_of_event w ∷ decimal seat ∷ []} number_field (λ n a. operation_says Two w seat (Some n) s a) in
    record { takes = λ ws x e. more.takes ws x e }

of_operation_says : (v : Version) (w : EventWord) → Says v (text_of_event w ∷ []) (of_operation_tail v w)
of_operation_says v w = bind_spells number_field (λ seat a. behind_says v w seat a)

rows_say : (v : Version) → Says v [] (one_of (event_rows v))
rows_say v = one_spells (event_rows v) (
  of_operation_says v word.Enter,
  (
    of_operation_says v word.Done,
    (
      bind_spells number_field (λ seat a. bind_spells number_field (λ cpu b. mapped_spells (λ x. alone (WalkEnd seat cpu x)) walk_answer_spells (λ x f. (refl, alone_is v (WalkEnd seat cpu x) (a, b, f.0) f.1 refl)))),
      (
        bind_spells number_field (λ seat a. bind_spells number_field (λ cpu b. bind_spells number_field (λ from c. bind_spells number_field (λ to d. done_spells (alone (WalkBegin seat cpu from to)) refl (alone_is v (WalkBegin seat cpu from to) (a, b, c, d) tt refl))))),
        (
          of_operation_says v word.Refused,
          (
            of_operation_says v word.Lock,
            (
              of_operation_says v word.Unlock,
              (
                of_operation_says v word.Reg,
                (
                  of_operation_says v word.Regged,
                  (
                    of_operation_says v word.Shown,
                    (
                      of_operation_says v word.Armed,
                      (
                        of_operation_says v word.Wakeup,
                        (
                          bind_spells number_field (λ seat a. mapped_spells (λ r. alone (Admit seat r)) role_spells (λ r f. (refl, alone_is v (Admit seat r) (a, f) tt refl))),
                          (
                            bind_spells number_field (λ seat a. done_spells (alone (Leave seat)) refl (alone_is v (Leave seat) a tt refl)),
                            (bind_spells number_field (λ seat a. bind_spells number_field (λ cpu b. bind_spells number_field (λ state c. bind_spells number_field (λ inst d. bind_spells direction_field (λ dir u. mapped_spells (λ h. alone (Call seat cpu state inst dir h)) how_spells (λ h f. (refl, alone_is v (Call seat cpu state inst dir h) (a, b, c, d, f) tt refl))))))), tt),
                          ),
                        ),
                      ),
                    ),
                  ),
                ),
              ),
            ),
          ),
        ),
      ),
    ),
  ),
)

event_spells : (v : Version) → Spells (said_words v) (Sayable v) [] (event v)
unfolding event
event_spells v = record { takes = λ ws x h. (rows_say v).takes ws x h }

-- a line that says an event is that event's
pub event_at_takes : (v : Version) (l : List ℕ) (said : NumberedEvent) → event_at v l ≡ Some said → IsEventLine v l said
unfolding event_at
event_at_takes v l said h =
    let t = line_takes (event_spells v) l said h in
    record {
      number = unwrap_or said.number 0;
      number_fits = t.1.number_fits;
      named = t.1.named;
      bytes_are = t.0;
      fits = t.1.fits;
      spelled = t.1.spelled;
    }
