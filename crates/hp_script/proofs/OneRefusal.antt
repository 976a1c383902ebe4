-- At most one refusal holds: the first line that is refused, and the first kind on it, are determined.
use Rattle.std.proofs.Common.{◌≡◌, ℕ, List, [], ◌∷◌, ◌++◌, length, Option, Some, refl, sym, ap, subst, ◌∙◌, arith}
use Rattle.hp_script.specs.declared.error.ScriptKind.{ScriptKind}
use Rattle.hp_script.specs.declared.before.Before.{Before}
use Rattle.hp_script.specs.Pieces.{lines}
use Rattle.hp_script.specs.Before.{start, after_line, after_lines}
use Rattle.hp_script.specs.Refusals.{refusal}
use Rattle.hp_script.specs.Judged.{AreFine, IsBadLine, IsBadEnd, IsRefused, too_long, at_line, at_end}
use Rattle.hp_script.proofs.ReadLoop.{some_none, fine_at}

some_same : (k j : ScriptKind) → ◌≡◌ {A = Option ScriptKind} (Some k) (Some j) → k ≡ j
some_same k j e = cc

first_same : (l m : List ℕ) (ls ms : List (List ℕ)) → ◌≡◌ {A = List (List ℕ)} (l ∷ ls) (m ∷ ms) → (l ≡ m) × (ls ≡ ms)
first_same l m ls ms e = (cc, cc)

one_line : (hooks : ℕ) (b : Before) (front : List (List ℕ)) (l : List ℕ) (back others : List (List ℕ)) (m : List ℕ) (rest : List (List ℕ)) (k j : ScriptKind)
    → front ++ l ∷ back ≡ others ++ m ∷ rest → AreFine hooks b front → AreFine hooks b others
    → refusal hooks (after_lines b front) l ≡ Some k → refusal hooks (after_lines b others) m ≡ Some j → (length front ≡ length others) × (k ≡ j)
one_line hooks b [] l back [] m rest k j e fine also bad worse =
    let same = first_same l m back rest e in
    (refl, some_same k j (sym bad ∙ ap (refusal hooks b) same.0 ∙ worse))
one_line hooks b [] l back (o ∷ os) m rest k j e fine also bad worse =
    let same = first_same l o back (os ++ m ∷ rest) e in
    absurd (some_none k (sym bad ∙ ap (refusal hooks b) same.0 ∙ also.0))
one_line hooks b (f ∷ fs) l back [] m rest k j e fine also bad worse =
    let same = first_same f m (fs ++ l ∷ back) rest e in
    absurd (some_none j (sym worse ∙ sym (ap (refusal hooks b) same.0) ∙ fine.0))
one_line hooks b (f ∷ fs) l back (o ∷ os) m rest k j e fine also bad worse =
    let same = first_same f o (fs ++ l ∷ back) (os ++ m ∷ rest) e in
    let next : after_line b o ≡ after_line b f = ap (after_line b) (sym same.0) in
    let more = one_line hooks (after_line b f) fs l back os m rest k j same.1 fine.1 (subst (λ (c : Before). AreFine hooks c os) next also.1) bad (ap (λ (c : Before). refusal hooks (after_lines c os) m) (sym next) ∙ worse) in
    (omega (arith, more.0), more.1)

line_and_end : (hooks : ℕ) (all : List (List ℕ)) (n m : ℕ) (k j : ScriptKind) → IsBadLine hooks all n k → IsBadEnd hooks all m j → ⊥
line_and_end hooks all n m k j bad end =
    some_none k (sym bad.refused ∙ fine_at hooks start bad.front bad.line bad.back (subst (AreFine hooks start) bad.parts end.fine))

pub one_refusal : (hooks : ℕ) (bytes : List ℕ) (n m : ℕ) (k j : ScriptKind) → IsRefused hooks bytes n k → IsRefused hooks bytes m j → (n ≡ m) × (k ≡ j)
one_refusal hooks bytes n m k j (too_long h b long) (too_long h2 b2 also) = (refl, refl)
one_refusal hooks bytes n m k j (too_long h b long) (at_line h2 b2 n2 k2 short bad) = absurd (omega (arith, long, short))
one_refusal hooks bytes n m k j (too_long h b long) (at_end h2 b2 n2 k2 short bad) = absurd (omega (arith, long, short))
one_refusal hooks bytes n m k j (at_line h b n1 k1 short bad) (too_long h2 b2 long) = absurd (omega (arith, long, short))
one_refusal hooks bytes n m k j (at_end h b n1 k1 short bad) (too_long h2 b2 long) = absurd (omega (arith, long, short))
one_refusal hooks bytes n m k j (at_line h b n1 k1 short bad) (at_line h2 b2 n2 k2 short2 worse) =
    let same = one_line hooks start bad.front bad.line bad.back worse.front worse.line worse.back k j (sym bad.parts ∙ worse.parts) bad.fine worse.fine bad.refused worse.refused in
    (omega (arith, bad.count, worse.count, same.0), same.1)
one_refusal hooks bytes n m k j (at_line h b n1 k1 short bad) (at_end h2 b2 n2 k2 short2 end) = absurd (line_and_end hooks (lines bytes) n m k j bad end)
one_refusal hooks bytes n m k j (at_end h b n1 k1 short end) (at_line h2 b2 n2 k2 short2 bad) = absurd (line_and_end hooks (lines bytes) m n j k bad end)
one_refusal hooks bytes n m k j (at_end h b n1 k1 short end) (at_end h2 b2 n2 k2 short2 also) = (omega (arith, end.count, also.count), some_same k j (sym end.refused ∙ also.refused))
