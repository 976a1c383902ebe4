-- The first bytes of an answer are a part of it.
use Rattle.std.proofs.Common.{◌≡◌, ℕ, ◌<◌, Option, List, take, length, ap, subst, ◌∙◌}
use Rattle.std.specs.Io.KnownBytes.{append_known}
use Rattle.hp_run.specs.Main.{Answer, IsAnswer, WritesPart}

pub part_of : (answer : Answer) (words : List (List ℕ)) (hooks : ℕ) (left now taken taken_now : Option (List ℕ)) (bytes written : List ℕ) →
    IsAnswer answer words hooks left now bytes → written ≡ bytes → (n : ℕ) → n < length written →
    taken_now ≡ append_known taken (take n written) → WritesPart words hooks left now taken taken_now
part_of answer words hooks left now taken taken_now bytes written is same n below part = record {
  answer = answer;
  bytes = bytes;
  is_answer = is;
  count = n;
  not_all = subst (λ z. n < length z) same below;
  part = part ∙ ap (λ z. append_known taken (take n z)) same;
}
