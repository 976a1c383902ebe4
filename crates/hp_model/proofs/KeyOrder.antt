-- The order of keys: it is strict, and two keys of which neither is before the other are one.
use Rattle.std.proofs.Common.{◌≡◌, true, false, arith}
use Rattle.std.proofs.lemmas.Bool.Decides.{nat_tests}
use Rattle.hp_event.specs.declared.key.Key.{Key}
use Rattle.hp_model.specs.Net.{is_before}

pub before_after : (a b c : Key) → is_before a b ≡ true → is_before b c ≡ true → is_before a c ≡ true
before_after a b c p q = grind (arith, nat_tests)

pub before_self : (a : Key) → is_before a a ≡ false
before_self a = grind (arith, nat_tests)

pub before_not_after : (a b : Key) → is_before a b ≡ true → is_before b a ≡ false
before_not_after a b p = grind (arith, nat_tests)
