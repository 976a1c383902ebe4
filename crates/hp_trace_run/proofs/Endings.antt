-- How a call ends.
use Rattle.std.proofs.Common.{◌≡◌, ℕ, ◌<◌, ◌≤◌, ◌⊎◌, inl, inr, Bool, true, false, eqb, List, [], ◌∷◌, Option, Some, length, take, map, String, string_bytes, refl, sym, ap, subst, ◌∙◌, arith}
use Rattle.std.specs.Io.KnownBytes.{append_known}
use Rattle.std.proofs.lemmas.Bool.{eqb-true}
use Rattle.hp_trace_run.specs.declared.status.TheConstants.{BAD_WORDS, UNLAWFUL}
use Rattle.hp_trace_run.specs.Texts.{usage_line}
use Rattle.hp_trace_run.specs.Calls.{Call, ReadsFor, text_for, status_for, AnswersRead, WroteAll, WrotePart, Ends, answered, half_written, unread, wanting, EndsExactly}
use Rattle.hp_trace_run.proofs.Bytes.{same_answer, small_status}

-- what was read is answered, or a write failed
pub ends_written : (c : Call) (read bytes : List ℕ) (status answer : ℕ) → ReadsFor c.words c.left c.left_now read →
    bytes ≡ text_for c.words read → status ≡ status_for c.words read → c.read_faults_now ≡ c.read_faults →
    WroteAll c.taken c.taken_now c.write_faults c.write_faults_now bytes status answer
    ⊎ WrotePart c.taken c.taken_now c.write_faults c.write_faults_now bytes answer → Ends c answer
ends_written c read bytes status answer reads text is none (inl all) = answered (record {
  read = read;
  reads = reads;
  status_is = all.same ∙ is;
  written = all.all ∙ ap (λ (t : List ℕ). append_known c.taken t) text;
  no_read_fault = none;
  no_write_fault = all.no_fault;
})
ends_written c read bytes status answer reads text is none (inr part) = half_written part.failed (record {
  read = read;
  reads = reads;
  count = part.count;
  not_all = subst (λ (t : List ℕ). part.count < length t) text part.not_all;
  part = part.part ∙ ap (λ (t : List ℕ). append_known c.taken (take part.count t)) text;
  no_read_fault = none;
  write_fault = part.fault;
})

-- with words nothing is read, and the usage line is the answer
pub record IsUsage (words : List (List ℕ)) : Type 0 where
  pub reads : (left : Option (List ℕ)) → ReadsFor words left left []
  pub text : usage_line ≡ text_for words []
  pub status : BAD_WORDS ≡ status_for words []

pub some_words : {Y : Type 0} (words : List (String Y)) (t : Bool) → t ≡ eqb (length words) 0 → t ≡ false → IsUsage (map string_bytes words)
some_words [] t e f = absurd cc
some_words (w ∷ ws) t e f = record { reads = λ left. (refl, refl); text = refl; status = refl }

pub no_words : {Y : Type 0} (words : List (String Y)) (t : Bool) → t ≡ eqb (length words) 0 → t ≡ true → map string_bytes words ≡ []
no_words [] t e f = refl
no_words (w ∷ ws) t e f = let none = eqb-true (length (w ∷ ws)) 0 (sym e ∙ f) in absurd (omega (arith, none))

-- with none the source is read
pub ends_read : (c : Call) (text bytes : List ℕ) (status answer : ℕ) → c.words ≡ [] → AnswersRead c.left c.left_now text status →
    bytes ≡ text → c.read_faults_now ≡ c.read_faults →
    WroteAll c.taken c.taken_now c.write_faults c.write_faults_now bytes status answer
    ⊎ WrotePart c.taken c.taken_now c.write_faults c.write_faults_now bytes answer → Ends c answer
ends_read c text bytes status answer none r same fine wrote =
    ends_written c r.read bytes status answer (rw none r.was_read) (rw none (same ∙ r.answers.text_is))
    (rw none r.answers.status_is) fine wrote

same_for : (words : List (List ℕ)) (left now : Option (List ℕ)) (read all : List ℕ) → left ≡ Some all → ReadsFor words left now read →
    (text_for words read ≡ text_for words all) × (status_for words read ≡ status_for words all)
same_for [] left now read all held reads = let s = same_answer left now read all held reads in (s.text, s.status)
same_for (w ∷ ws) left now read all held reads = (refl, refl)

pub ends_exactly : (c : Call) (status : ℕ) → Ends c status → EndsExactly c status
ends_exactly c status (answered a) all held r w m =
    let s = same_for c.words c.left c.left_now a.read all held a.reads in
    record {
      status_is = a.status_is ∙ s.1;
      written = a.written ∙ ap (λ (t : List ℕ). append_known c.taken t) s.0;
    }
ends_exactly c status (half_written e h) all held r w m = let f = h.write_fault in absurd (omega (arith, f, w))
ends_exactly c status (unread e u) all held r w m = let f = u.read_fault in absurd (omega (arith, f, r))
ends_exactly c status (wanting e u) all held r w m = absurd (m e)

small_for : (words : List (List ℕ)) (read : List ℕ) → status_for words read ≤ UNLAWFUL
small_for [] read = small_status read
small_for (w ∷ ws) read = omega arith

pub ends_small : (c : Call) (status : ℕ) → Ends c status → status ≤ UNLAWFUL
ends_small c status (answered a) = let small = small_for c.words a.read in omega (arith, small, a.status_is)
ends_small c status (half_written e h) = omega (arith, e)
ends_small c status (unread e u) = omega (arith, e)
ends_small c status (wanting e u) = omega (arith, e)
