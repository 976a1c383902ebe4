-- Lemmas on the bytes that a source has left, or a sink has taken, over several calls.
use Rattle.std.proofs.Common.{◌≡◌, ℕ, ◌+◌, ◌-◌, List, ◌++◌, length, take, drop, None, Some, Option, sym, ap, subst, ◌∙◌, append_assoc, length-drop, drop-drop, take-append-drop, arith}
use Rattle.std.proofs.lemmas.List.{take_all}
use Rattle.std.proofs.Math.Seq.{take-append_seam, take-add}
use Rattle.std.specs.Io.KnownBytes.{append_known}

-- the bytes from n on, as code reads them
abbrev pub slice_from : ℕ → List ℕ → List ℕ
slice_from n bs = take (length bs - n) (drop n bs)

slice_from-drop : (n : ℕ) (bs : List ℕ) → slice_from n bs ≡ drop n bs
slice_from-drop n bs = take_all (length bs - n) (drop n bs) (simp length-drop (omega arith))

-- the first n of bs were written, and then the first m of the rest
pub append_known-take : (o p q : Option (List ℕ)) (n m : ℕ) (bs : List ℕ)
    → p ≡ append_known o (take n bs) → q ≡ append_known p (take m (slice_from n bs))
    → q ≡ append_known o (take (n + m) bs)
append_known-take None p q n m bs first next = cc
append_known-take (Some xs) p q n m bs first next =
    next ∙ ap (λ k. append_known k (take m (slice_from n bs))) first
    ∙ ap Some (append_assoc xs (take n bs) (take m (slice_from n bs))
    ∙ ap (λ l. xs ++ (take n bs ++ take m l)) (slice_from-drop n bs)
    ∙ ap (λ l. xs ++ l) (sym (take-add n m bs)))

-- the first n of what is left from a place on, written over the first n of a buffer
pub next_of : (bytes read given buf : List ℕ) (at n : ℕ)
    → read ≡ bytes → given ≡ take n (slice_from at read) → length given ≡ n
    → drop at bytes ≡ take n (given ++ drop n buf) ++ drop (at + n) bytes
next_of bytes read given buf at n same is len =
    let left : slice_from at read ≡ drop at bytes = slice_from-drop at read ∙ ap (drop at) same in
    let whole : given ≡ take n (drop at bytes) = is ∙ ap (take n) left in
    let front : take n (given ++ drop n buf) ≡ given =
    subst (λ (k : ℕ). take k (given ++ drop n buf) ≡ given) len (take-append_seam given (drop n buf)) in
    sym (take-append-drop n (drop at bytes))
    ∙ ap (λ l. take n (drop at bytes) ++ l) (drop-drop n at bytes)
    ∙ ap (λ l. l ++ drop (at + n) bytes) (sym (front ∙ whole))
