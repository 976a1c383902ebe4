-- A word that isn't read is the digits of no number.
use Rattle.std.proofs.Common.{◌≡◌, ℕ, ◌^◌, ◌<◌, List, Ok, Err, ◌∙◌}
use Rattle.std.specs.Prelude.{Result, decimal, IfNone}
use Rattle.std.specs.Result.{result_ok}
use Rattle.hp_text.specs.declared.unread.Unread.{Unread}
use Rattle.hp_command.proofs.number.number_of.Goals as goal

unread : (w : List ℕ) (r : Result ℕ Unread) → ((n : ℕ) → n < 2 ^ 64 → w ≡ decimal n → r ≡ Ok n) → IfNone (result_ok r) ((n : ℕ) → n < 2 ^ 64 → w ≡ decimal n → ⊥)
unread w (Ok m) read = tt
unread w (Err u) read = λ n lt is. let e = read n lt is in absurd cc

pub returns-clause-none : goal.returns-clause-none
returns-clause-none c =
    rw c.ok.ensures.value (unread c.args.word.now c.long_number.result (λ n lt is. c.long_number.ensures.read n lt (c.as_bytes.ensures.value ∙ is)))
