-- The first bytes of an answer are a part of it.
use Rattle.std.proofs.Common.{◌≡◌, ℕ, ◌<◌, Option, List, take, length, refl, ap, sym, subst, ◌∙◌}
use Rattle.std.specs.Io.KnownBytes.{append_known}
use Rattle.hp_states.specs.declared.limits.TheConstants.{MAX_JOURNAL_BYTES}
use Rattle.hp_event.specs.declared.event.Event.{Event}
use Rattle.hp_event.specs.declared.head.Head.{Head}
use Rattle.hp_edge.specs.Reading.{WasRead}
use Rattle.hp_event.specs.declared.version.Version.TheVariants.{Two}
use Rattle.hp_replay.specs.Judged.{accepted}
use Rattle.hp_replay.specs.Verdict.{IsReplay}
use Rattle.hp_view.specs.declared.asked.Asked.{Asked}
use Rattle.hp_view.specs.Chosen.{HasNone, window_error_line}
use Rattle.hp_view.specs.Options.{IsAsked}
use Rattle.hp_view.specs.Main.{Answer, IsUsage, IsAnswer, IsBadWindow, WritesPart, usage_line}

pub part_of : (answer : Answer) (words : List (List ℕ)) (left now taken taken_now : Option (List ℕ)) (bytes written : List ℕ) →
    IsAnswer answer words left now bytes → written ≡ bytes → (n : ℕ) → n < length written →
    taken_now ≡ append_known taken (take n written) → WritesPart words left now taken taken_now
part_of answer words left now taken taken_now bytes written is same n below part = record {
  answer = answer;
  bytes = bytes;
  is_answer = is;
  count = n;
  not_all = subst (λ z. n < length z) same below;
  part = part ∙ ap (λ z. append_known taken (take n z)) same;
}

-- other words: the usage line
pub nothing_asked : (words words_now : List (List ℕ)) (left : Option (List ℕ)) → words ≡ words_now →
    ((asked : Asked) → IsAsked words asked → ⊥) → IsUsage words_now left left usage_line
nothing_asked words words_now left same none = record {
  other_words = λ asked is. none asked (subst (λ z. IsAsked z asked) (sym same) is);
  unread = refl;
  line = refl;
}

-- a journal that has no such window
pub no_window : (asked : Asked) (left now : Option (List ℕ)) (bytes : List ℕ) (head : Head) (events : List Event) (n m : ℕ)
    (written : List ℕ) → WasRead MAX_JOURNAL_BYTES left now bytes → IsReplay Two bytes (accepted head events) → HasNone asked n →
    n ≡ length events → written ≡ window_error_line m → m ≡ length events → IsBadWindow asked left now written
no_window asked left now bytes head events n m written read is none same line many = record {
  bytes = bytes;
  read = read;
  head = head;
  events = events;
  is_text = is;
  none = subst (λ (k : ℕ). HasNone asked k) same none;
  written_is = line ∙ ap (λ (k : ℕ). window_error_line k) many;
}
