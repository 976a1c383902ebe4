-- The first bytes of an answer are a part of it.
use Rattle.std.proofs.Common.{◌≡◌, ℕ, ◌<◌, Option, List, take, length, refl, ap, sym, subst, ◌∙◌}
use Rattle.std.specs.Io.KnownBytes.{append_known}
use Rattle.hp_command.specs.declared.command.Command.{Command}
use Rattle.hp_command.specs.Commands.{IsCommand}
use Rattle.hp_play.specs.Main.{Answer, IsUsage, IsAnswer, WritesPart, usage_line}
use Rattle.hp_play.specs.Racks.{Racks}

pub part_of : {H : Type 0} (answer : Answer) (words : List (List ℕ)) (rack : Racks H) (left now taken taken_now : Option (List ℕ))
    (bytes written : List ℕ) → IsAnswer answer words rack left now bytes → written ≡ bytes →
    (n : ℕ) → n < length written → taken_now ≡ append_known taken (take n written) →
    WritesPart words rack left now taken taken_now
part_of answer words rack left now taken taken_now bytes written is same n below part = record {
  answer = answer;
  bytes = bytes;
  is_answer = is;
  count = n;
  not_all = subst (λ z. n < length z) same below;
  part = part ∙ ap (λ z. append_known taken (take n z)) same;
}

-- no command: the usage line
pub no_command : (words words_now : List (List ℕ)) (left : Option (List ℕ)) → words ≡ words_now →
    ((command : Command) → IsCommand words command → ⊥) → IsUsage words_now left left usage_line
no_command words words_now left same none = record {
  other_words = λ command is. none command (subst (λ z. IsCommand z command) (sym same) is);
  unread = refl;
  line = refl;
}
