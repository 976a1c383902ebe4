-- Each script that is read can be played: what its lines make is sound, line by line, and no refusal holds at the end.
use Rattle.std.proofs.Common.{◌≡◌, ◌⊎◌, inl, inr, ℕ, zero, suc, ◌+◌, ◌<◌, ◌≤◌, Bool, true, false, not, List, [], ◌∷◌, ◌++◌, length, Option, Some, None, refl, sym, ap, subst, ◌∙◌, append_assoc, arith}
use Rattle.std.specs.Prelude.{All, is_some, nat_le, slice_get}
use Rattle.std.proofs.lemmas.Bool.{leb-true, leb-false}
use Rattle.std.proofs.lemmas.Bool.Decides.{nat_tests}
use Rattle.std.proofs.lemmas.List.{append-nil}
use Rattle.std.proofs.lemmas.List.Elements.{All-nil, All-cons}
use Rattle.hp_states.proofs.Basics.{and_parts}
use Rattle.hp_states.specs.declared.limits.TheConstants.{MAX_SUBS, MAX_SCRIPT_BYTES}
use Rattle.hp_event.specs.declared.op.Op.{Op}
use Rattle.hp_event.specs.declared.op.Op.TheVariants as op
use Rattle.hp_event.specs.declared.head.Sub.{Sub}
use Rattle.hp_event.specs.declared.head.Head.{Head}
use Rattle.hp_event.specs.Heads.{occurs}
use Rattle.hp_model.specs.Lists.{numbers}
use Rattle.hp_model.specs.Processors.{is_present, present}
use Rattle.hp_model.specs.Subsystems.{names_sub}
use Rattle.hp_model.specs.Heads.{IsHead, IsSub}
use Rattle.hp_model.specs.Scripts.{is_locked}
use Rattle.hp_model.proofs.Rising.{Rise, rise_within, rise_increases, rise_below}
use Rattle.hp_model.proofs.SumLemmas.{length-filter_le, length-numbers}
use Rattle.hp_text.proofs.SetWords.{rises}
use Rattle.hp_script.specs.declared.error.ScriptKind.{ScriptKind}
use Rattle.hp_script.specs.declared.error.ScriptKind.TheVariants.{NoCpus, NoActor, StillLocked}
use Rattle.hp_script.specs.declared.before.Group.{Group}
use Rattle.hp_script.specs.declared.before.Group.TheVariants as group
use Rattle.hp_script.specs.declared.before.Before.{Before}
use Rattle.hp_script.specs.declared.limits.TheConstants.{MAX_NAMED_STATE}
use Rattle.hp_script.specs.declared.statement.Statement.{Statement}
use Rattle.hp_script.specs.Pieces.{lines}
use Rattle.hp_script.specs.Ranges.{is_within}
use Rattle.hp_script.specs.Before.{start, statement_of, after_maybe, after_line, after_lines, before}
use Rattle.hp_script.specs.Refusals.{is_first, is_among_actors, first_of, refusal, refusal_at_end}
use Rattle.hp_script.specs.Script.{Contents, statements, script_in}
use Rattle.hp_script.specs.Drafts.{contents_maybe, Fits}
use Rattle.hp_script.specs.Judged.{AreFine, IsRead, too_long, at_line, at_end}
use Rattle.hp_script.specs.Playable.{IsPlayable}
use Rattle.hp_script.proofs.ReadLoop.{contents_more, fits_more}
use Rattle.hp_script.proofs.TakenLines.{taken}
use Rattle.hp_script.proofs.SoundScripts.{SoundHead, SoundActors, IsSoundOp, AreLocked, first_unlocked, others_locked, at_least, head_more, actors_more}

-- ---- line by line

record Sound (hooks : ℕ) (s : Contents) (b : Before) : Type 0 where
  head : SoundHead s b
  actors : SoundActors hooks s b
  fits : Fits s b

sound_start : (hooks : ℕ) → Sound hooks (script_in []) start
sound_start hooks = record {
  head = record {
    possible = refl;
    some = λ e. absurd cc;
    few = omega arith;
    absent = refl;
    none_yet = λ e. refl;
    subs = refl;
    few_subs = omega arith;
    subs_are = All-nil IsSub;
    schedule = refl;
  };
  actors = record {
    ops_are = All-nil (All (IsSoundOp 0));
    few_ops = All-nil _;
    last = omega arith;
    setups = omega arith;
    few_setups = omega arith;
    locks = tt;
  };
  fits = record { rules = omega arith; actors = omega arith; few = omega arith };
}

sound_line : (hooks : ℕ) (b : Before) (s : Contents) (line : List ℕ) → refusal hooks b line ≡ None → Sound hooks s b
    → Sound hooks (contents_maybe s (statement_of line)) (after_line b line)
sound_line hooks b s line fine sound = by_statement (statement_of line) refl
  where
    by_statement : (o : Option Statement) → statement_of line ≡ o → Sound hooks (contents_maybe s o) (after_maybe b o)
    by_statement None is = sound
    by_statement (Some t) is =
        let t_is = taken hooks b line t fine is in
        record {
          head = head_more hooks s b t t_is sound.fits sound.head;
          actors = actors_more hooks s b t t_is sound.actors;
          fits = fits_more hooks s b t t_is.room sound.fits;
        }

abbrev contents_after : Contents → (lines : List (List ℕ)) → Contents
contents_after s [] = s
contents_after s (line ∷ lines) = contents_after (contents_maybe s (statement_of line)) lines

sound_lines : (hooks : ℕ) (b : Before) (s : Contents) (ls : List (List ℕ)) → AreFine hooks b ls → Sound hooks s b → Sound hooks (contents_after s ls) (after_lines b ls)
sound_lines hooks b s [] fine sound = sound
sound_lines hooks b s (l ∷ ls) fine sound =
    sound_lines hooks (after_line b l) (contents_maybe s (statement_of l)) ls fine.1 (sound_line hooks b s l fine.0 sound)

after_all : (front ls : List (List ℕ)) → contents_after (script_in (statements front)) ls ≡ script_in (statements (front ++ ls))
after_all front [] = ap (λ (x : List (List ℕ)). script_in (statements x)) (sym (append-nil front))
after_all front (l ∷ ls) =
    ap (λ (s : Contents). contents_after s ls) (sym (contents_more front l))
    ∙ after_all (front ++ l ∷ []) ls
    ∙ ap (λ (x : List (List ℕ)). script_in (statements x)) (append_assoc front (l ∷ []) ls)

-- ---- the lines are fine

record FirstBad (hooks : ℕ) (b : Before) (ls : List (List ℕ)) : Type 0 where
  front : List (List ℕ)
  line : List ℕ
  back : List (List ℕ)
  kind : ScriptKind
  parts : ls ≡ front ++ line ∷ back
  fine : AreFine hooks b front
  refused : refusal hooks (after_lines b front) line ≡ Some kind

fine_or_bad : (hooks : ℕ) (b : Before) (ls : List (List ℕ)) → AreFine hooks b ls ⊎ FirstBad hooks b ls
fine_or_bad hooks b [] = inl tt
fine_or_bad hooks b (l ∷ ls) = by_refusal (refusal hooks b l) refl (fine_or_bad hooks (after_line b l) ls)
  where
    by_refusal : (o : Option ScriptKind) → refusal hooks b l ≡ o → AreFine hooks (after_line b l) ls ⊎ FirstBad hooks (after_line b l) ls
        → AreFine hooks b (l ∷ ls) ⊎ FirstBad hooks b (l ∷ ls)
    by_refusal (Some kind) is more = inr (record { front = []; line = l; back = ls; kind = kind; parts = refl; fine = tt; refused = is })
    by_refusal None is (inl fine) = inl (is, fine)
    by_refusal None is (inr bad) = inr (record {
      front = l ∷ bad.front;
      line = bad.line;
      back = bad.back;
      kind = bad.kind;
      parts = ap (λ (x : List (List ℕ)). l ∷ x) bad.parts;
      fine = (is, bad.fine);
      refused = bad.refused;
    })

-- a script that is read isn't too long
pub short_read : (hooks : ℕ) (bytes : List ℕ) (script : Contents) → IsRead hooks bytes script → length bytes ≤ MAX_SCRIPT_BYTES
short_read hooks bytes script read = by_length (nat_le (length bytes) MAX_SCRIPT_BYTES) refl
  where
    by_length : (t : Bool) → nat_le (length bytes) MAX_SCRIPT_BYTES ≡ t → length bytes ≤ MAX_SCRIPT_BYTES
    by_length true is = leb-true (length bytes) MAX_SCRIPT_BYTES is
    by_length false is = absurd (read.unrefused 0 _ (too_long hooks bytes (leb-false (length bytes) MAX_SCRIPT_BYTES is)))

fine_read : (hooks : ℕ) (bytes : List ℕ) (script : Contents) → IsRead hooks bytes script → AreFine hooks start (lines bytes)
fine_read hooks bytes script read = go (fine_or_bad hooks start (lines bytes))
  where
    go : AreFine hooks start (lines bytes) ⊎ FirstBad hooks start (lines bytes) → AreFine hooks start (lines bytes)
    go (inl fine) = fine
    go (inr bad) = absurd (read.unrefused (length bad.front + 1) bad.kind (at_line hooks bytes (length bad.front + 1) bad.kind (short_read hooks bytes script read) (record {
      front = bad.front;
      line = bad.line;
      back = bad.back;
      parts = bad.parts;
      count = refl;
      fine = bad.fine;
      refused = bad.refused;
    })))

end_read : (hooks : ℕ) (bytes : List ℕ) (script : Contents) → IsRead hooks bytes script → refusal_at_end (before (lines bytes)) ≡ None
end_read hooks bytes script read = by_end (refusal_at_end (before (lines bytes))) refl
  where
    by_end : (o : Option ScriptKind) → refusal_at_end (before (lines bytes)) ≡ o → o ≡ None
    by_end None is = refl
    by_end (Some kind) is = absurd (read.unrefused (length (lines bytes) + 1) kind (at_end hooks bytes (length (lines bytes) + 1) kind (short_read hooks bytes script read) (record {
      count = refl;
      fine = fine_read hooks bytes script read;
      refused = is;
    })))

ended : (g : Group) (locked : Bool) → first_of ((is_first g, NoCpus) ∷ (not (is_among_actors g), NoActor) ∷ (locked, StillLocked) ∷ []) ≡ None
    → (is_first g ≡ false) × (locked ≡ false)
ended group.Actors true e = absurd cc
ended group.Actors false e = (refl, refl)
ended other locked e = absurd cc

-- ---- what a sound script is

no_zero : (limit : ℕ) (ns : List ℕ) → Rise 1 limit ns → occurs 0 ns ≡ 0
no_zero limit ns h = go (occurs 0 ns) refl
  where
    go : (n : ℕ) → occurs 0 ns ≡ n → n ≡ 0
    go zero e = refl
    go (suc n) e = absurd (omega (arith, (rise_within 1 limit 0 ns h (omega (arith, e))).0))

first_there : (head : Head) → 0 < head.possible → occurs 0 head.absent ≡ 0 → is_present head 0 ≡ true
first_there head some none = grind (arith, nat_tests, some, none)

some_at : (xs : List Sub) (n : ℕ) → n < length xs → is_some (slice_get xs n) ≡ true
some_at [] n within = absurd (omega (arith, within))
some_at (x ∷ xs) zero within = refl
some_at (x ∷ xs) (suc n) within = some_at xs n (omega (arith, within))

has_its_sub : (head : Head) (subs : ℕ) (op : Op) → length head.subs ≡ subs → IsSoundOp subs op → names_sub head op ≡ true
has_its_sub head subs (op.Setup state zero form) count sound =
    absurd (omega (arith, at_least 1 MAX_SUBS 0 (and_parts (is_within 0 MAX_NAMED_STATE state) (is_within 1 MAX_SUBS 0) sound.0).1))
has_its_sub head subs (op.Setup state (suc n) form) count sound = some_at head.subs n (grind (arith, nat_tests, count, sound.1))
has_its_sub head subs (op.UpMany set) count sound = sound.0
has_its_sub head subs other count sound = refl

unlocked : (actors : List (List Op)) → AreLocked actors false → All (λ ops. is_locked ops ≡ false) actors
unlocked [] are = All-nil (λ ops. is_locked ops ≡ false)
unlocked (a ∷ []) are = All-cons (λ ops. is_locked ops ≡ false) a [] are (All-nil (λ ops. is_locked ops ≡ false))
unlocked (a ∷ b ∷ bs) are =
    All-cons (λ ops. is_locked ops ≡ false) a (b ∷ bs) (first_unlocked a b bs false are) (unlocked (b ∷ bs) (others_locked a b bs false are))

few_present : (head : Head) → length (present head) ≤ head.possible
few_present head = omega (arith, length-filter_le (λ c. is_present head c) (numbers head.possible), length-numbers head.possible)

head_of : (s : Contents) (b : Before) → SoundHead s b → is_first b.group ≡ false → IsHead s.head
head_of s b h later =
    let some : 0 < s.head.possible = omega (arith, h.possible, h.some later) in
    let absent = rises 1 b.possible s.head.absent h.absent in
    record {
      some_possible = some;
      few_possible = omega (arith, h.possible, h.few);
      absent_rising = rise_increases 1 b.possible s.head.absent absent;
      absent_possible = λ k d within. omega (arith, h.possible, h.some later, rise_below 1 b.possible s.head.absent absent k d within);
      first_present = first_there s.head some (no_zero b.possible s.head.absent absent);
      few_subs = omega (arith, h.subs, h.few_subs);
      subs_are = h.subs_are;
    }

playable : (hooks : ℕ) (s : Contents) (b : Before) → Sound hooks s b → refusal_at_end b ≡ None → IsPlayable hooks s
playable hooks s b sound good =
    let h = sound.head in
    let a = sound.actors in
    let end = ended b.group b.locked good in
    record {
      plays = record {
        head_is = head_of s b h end.0;
        few_seats = omega (arith, few_present s.head, h.possible, h.few, sound.fits.actors, sound.fits.few);
        has_subs = λ k d within i e more. has_its_sub s.head b.subs _ h.subs (a.ops_are k d within i e more);
        end_unlocked = unlocked s.actors (subst (AreLocked s.actors) end.1 a.locks);
      };
      few_actors = omega (arith, sound.fits.actors, sound.fits.few);
      few_ops = a.few_ops;
      ops_are = λ k d within i e more. (a.ops_are k d within i e more).0;
      schedule_is = h.schedule;
      hooks_for_all = omega (arith, a.setups, a.few_setups);
    }

pub read_scripts_play : (hooks : ℕ) (bytes : List ℕ) (script : Contents) → IsRead hooks bytes script → IsPlayable hooks script
read_scripts_play hooks bytes script read =
    let sound = sound_lines hooks start (script_in []) (lines bytes) (fine_read hooks bytes script read) (sound_start hooks) in
    let is : contents_after (script_in []) (lines bytes) ≡ script = after_all [] (lines bytes) ∙ sym read.says in
    playable hooks script (before (lines bytes)) (subst (λ (s : Contents). Sound hooks s (before (lines bytes))) is sound) (end_read hooks bytes script read)
