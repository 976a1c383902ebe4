-- What comes of threads, each in its place.
use Rattle.std.proofs.Common.{◌≡◌, suc, All, List, [], ◌∷◌, ◌++◌, length, refl, sym, ap, ◌∙◌, subst, append_assoc}
use Rattle.std.proofs.lemmas.List.{append-nil}
use Rattle.std.proofs.lemmas.List.Elements.{All-head, All-tail}
use Rattle.hp_live.specs.Known.{Gone, Seated}
use Rattle.hp_threads.specs.declared.job.Job.{Job}
use Rattle.hp_threads.specs.declared.threads.ActorThread.{ActorThread}
use Rattle.hp_threads.specs.declared.threads.ActorThread.TheVariants as actor
use Rattle.hp_threads.specs.declared.threads.ServerThread.{ServerThread}
use Rattle.hp_threads.specs.declared.threads.ServerThread.TheVariants as server
use Rattle.hp_threads.specs.Crews.{AreActing, AreServing, HasLeft, HasServed, HaveLeft, HaveServed, IsActing, IsServing}
use Rattle.hp_threads.specs.Jobs.{HasRun, HasStayed, HaveRun, HaveStayed}

pub all_last : {A : Type 0} (P : A → Type 0) (xs : List A) (x : A) → All P (xs ++ x ∷ []) → P x
all_last P [] x all = All-head P x [] all
all_last P (y ∷ xs) x all = all_last P xs x (All-tail P y (xs ++ x ∷ []) all)

-- ---- started, the last job first

pub acting_more : {H : Type 0} (jobs : List (Job H)) (threads : List (ActorThread H)) (job : Job H) (thread : ActorThread H) →
    AreActing jobs threads → IsActing job thread → AreActing (jobs ++ job ∷ []) (threads ++ thread ∷ [])
acting_more [] [] job thread all one = (one, tt)
acting_more (j ∷ jobs) (t ∷ threads) job thread all one = (all.0, acting_more jobs threads job thread all.1 one)
acting_more [] (t ∷ threads) job thread all one = absurd all
acting_more (j ∷ jobs) [] job thread all one = absurd all

pub acting_one : {H : Type 0} (all jobs : List (Job H)) (before after : List (ActorThread H)) (job : Job H) (thread : ActorThread H) →
    all ≡ jobs ++ job ∷ [] → after ≡ before ++ thread ∷ [] → AreActing jobs before → IsActing job thread → AreActing all after
acting_one {H} all jobs before after job thread whole grown have one =
    subst (λ (w : List (Job H)). AreActing w after) (sym whole)
    (subst (AreActing (jobs ++ job ∷ [])) (sym grown) (acting_more jobs before job thread have one))

pub acting_none : {H : Type 0} (jobs : List (Job H)) (threads : List (ActorThread H)) → jobs ≡ [] → threads ≡ [] → AreActing jobs threads
acting_none {H} jobs threads none empty =
    subst (λ (w : List (Job H)). AreActing w threads) (sym none) (subst (AreActing []) (sym empty) tt)

pub serving_more : {H : Type 0} (passes : List Seated) (threads : List (ServerThread H)) (pass : Seated) (thread : ServerThread H) →
    AreServing passes threads → IsServing pass thread → AreServing (passes ++ pass ∷ []) (threads ++ thread ∷ [])
serving_more [] [] pass thread all one = (one, tt)
serving_more (j ∷ passes) (t ∷ threads) pass thread all one = (all.0, serving_more passes threads pass thread all.1 one)
serving_more [] (t ∷ threads) pass thread all one = absurd all
serving_more (j ∷ passes) [] pass thread all one = absurd all

pub serving_one : {H : Type 0} (all passes : List Seated) (before after : List (ServerThread H)) (pass : Seated) (thread : ServerThread H) →
    all ≡ passes ++ pass ∷ [] → after ≡ before ++ thread ∷ [] → AreServing passes before → IsServing pass thread → AreServing all after
serving_one all passes before after pass thread whole grown have one =
    subst (λ (w : List Seated). AreServing w after) (sym whole)
    (subst (AreServing (passes ++ pass ∷ [])) (sym grown) (serving_more passes before pass thread have one))

pub serving_none : {H : Type 0} (passes : List Seated) (threads : List (ServerThread H)) → passes ≡ [] → threads ≡ [] →
    AreServing passes threads
serving_none passes threads none empty =
    subst (λ (w : List Seated). AreServing w threads) (sym none) (subst (AreServing []) (sym empty) tt)

-- as many as jobs, or passes

pub acting_length : {H : Type 0} (jobs : List (Job H)) (threads : List (ActorThread H)) → AreActing jobs threads →
    length threads ≡ length jobs
acting_length [] [] all = refl
acting_length (job ∷ jobs) (thread ∷ threads) all = ap suc (acting_length jobs threads all.1)
acting_length [] (thread ∷ threads) all = absurd all
acting_length (job ∷ jobs) [] all = absurd all

pub serving_length : {H : Type 0} (passes : List Seated) (threads : List (ServerThread H)) → AreServing passes threads →
    length threads ≡ length passes
serving_length [] [] all = refl
serving_length (pass ∷ passes) (thread ∷ threads) all = ap suc (serving_length passes threads all.1)
serving_length [] (thread ∷ threads) all = absurd all
serving_length (pass ∷ passes) [] all = absurd all

-- ---- joined

have_left_more : {H : Type 0} (threads : List (ActorThread H)) (lefts : List Gone) (thread : ActorThread H) (left : Gone) →
    HaveLeft threads lefts → HasLeft thread left → HaveLeft (threads ++ thread ∷ []) (lefts ++ left ∷ [])
have_left_more [] [] thread left all one = (one, tt)
have_left_more (t ∷ threads) (l ∷ lefts) thread left all one = (all.0, have_left_more threads lefts thread left all.1 one)
have_left_more [] (l ∷ lefts) thread left all one = absurd all
have_left_more (t ∷ threads) [] thread left all one = absurd all

-- of all threads these are left, and this came of the others
pub record Joined {H : Type 0} (all left : List (ActorThread H)) (lefts : List Gone) : Type 0 where
  pub done : List (ActorThread H)
  pub whole : done ++ left ≡ all
  pub have : HaveLeft done lefts

pub joined_none : {H : Type 0} (all left : List (ActorThread H)) (lefts : List Gone) → left ≡ all → lefts ≡ [] → Joined all left lefts
joined_none {H} all left lefts is none = record { done = []; whole = is; have = subst (HaveLeft {H = H} []) (sym none) tt }

pub joined_one : {H : Type 0} (all before after : List (ActorThread H)) (lefts more : List Gone) (thread : ActorThread H) (left : Gone) →
    before ≡ thread ∷ after → more ≡ lefts ++ left ∷ [] → Joined all before lefts → HasLeft thread left → Joined all after more
joined_one {H} all before after lefts more thread left is grown j one =
    record {
      done = j.done ++ thread ∷ [];
      whole = append_assoc j.done (thread ∷ []) after ∙ ap (λ (w : List (ActorThread H)). j.done ++ w) (sym is) ∙ j.whole;
      have = subst (HaveLeft (j.done ++ thread ∷ [])) (sym grown) (have_left_more j.done lefts thread left j.have one);
    }

pub joined_all : {H : Type 0} (all left : List (ActorThread H)) (lefts : List Gone) → left ≡ [] → Joined all left lefts → HaveLeft all lefts
joined_all {H} all left lefts none j =
    subst (λ (w : List (ActorThread H)). HaveLeft w lefts)
    (sym (append-nil j.done) ∙ ap (λ (w : List (ActorThread H)). j.done ++ w) (sym none) ∙ j.whole) j.have

have_served_more : {H : Type 0} (threads : List (ServerThread H)) (backs : List Seated) (thread : ServerThread H) (back : Seated) →
    HaveServed threads backs → HasServed thread back → HaveServed (threads ++ thread ∷ []) (backs ++ back ∷ [])
have_served_more [] [] thread back all one = (one, tt)
have_served_more (t ∷ threads) (b ∷ backs) thread back all one = (all.0, have_served_more threads backs thread back all.1 one)
have_served_more [] (b ∷ backs) thread back all one = absurd all
have_served_more (t ∷ threads) [] thread back all one = absurd all

pub record Back {H : Type 0} (all left : List (ServerThread H)) (backs : List Seated) : Type 0 where
  pub done : List (ServerThread H)
  pub whole : done ++ left ≡ all
  pub have : HaveServed done backs

pub back_none : {H : Type 0} (all left : List (ServerThread H)) (backs : List Seated) → left ≡ all → backs ≡ [] → Back all left backs
back_none {H} all left backs is none = record { done = []; whole = is; have = subst (HaveServed {H = H} []) (sym none) tt }

pub back_one : {H : Type 0} (all before after : List (ServerThread H)) (backs more : List Seated) (thread : ServerThread H) (back : Seated) →
    before ≡ thread ∷ after → more ≡ backs ++ back ∷ [] → Back all before backs → HasServed thread back → Back all after more
back_one {H} all before after backs more thread back is grown j one =
    record {
      done = j.done ++ thread ∷ [];
      whole = append_assoc j.done (thread ∷ []) after ∙ ap (λ (w : List (ServerThread H)). j.done ++ w) (sym is) ∙ j.whole;
      have = subst (HaveServed (j.done ++ thread ∷ [])) (sym grown) (have_served_more j.done backs thread back j.have one);
    }

pub back_all : {H : Type 0} (all left : List (ServerThread H)) (backs : List Seated) → left ≡ [] → Back all left backs → HaveServed all backs
back_all {H} all left backs none j =
    subst (λ (w : List (ServerThread H)). HaveServed w backs)
    (sym (append-nil j.done) ∙ ap (λ (w : List (ServerThread H)). j.done ++ w) (sym none) ∙ j.whole) j.have

-- ---- both together

has_run : {H : Type 0} (job : Job H) (thread : ActorThread H) (left : Gone) → IsActing job thread → HasLeft thread left → HasRun job left
has_run job (actor.Started thread) left is kept = subst (λ j. HasRun j left) is kept
has_run job (actor.Ran had) left run is = subst (HasRun job) (sym is) run

pub have_run : {H : Type 0} (jobs : List (Job H)) (threads : List (ActorThread H)) (lefts : List Gone) → AreActing jobs threads →
    HaveLeft threads lefts → HaveRun jobs lefts
have_run [] [] [] a l = tt
have_run (job ∷ jobs) (thread ∷ threads) (left ∷ lefts) a l =
    (has_run job thread left a.0 l.0, have_run jobs threads lefts a.1 l.1)
have_run [] (thread ∷ threads) lefts a l = absurd a
have_run (job ∷ jobs) [] lefts a l = absurd a
have_run [] [] (left ∷ lefts) a l = absurd l
have_run (job ∷ jobs) (thread ∷ threads) [] a l = absurd l

has_stayed : {H : Type 0} (pass : Seated) (thread : ServerThread H) (back : Seated) → IsServing pass thread → HasServed thread back →
    HasStayed pass back
has_stayed pass (server.Started thread) back is kept = subst (λ p. HasStayed p back) is kept
has_stayed pass (server.Ran had) back stayed is = subst (HasStayed pass) (sym is) stayed

pub have_stayed : {H : Type 0} (passes : List Seated) (threads : List (ServerThread H)) (backs : List Seated) → AreServing passes threads →
    HaveServed threads backs → HaveStayed passes backs
have_stayed [] [] [] a l = tt
have_stayed (pass ∷ passes) (thread ∷ threads) (back ∷ backs) a l =
    (has_stayed pass thread back a.0 l.0, have_stayed passes threads backs a.1 l.1)
have_stayed [] (thread ∷ threads) backs a l = absurd a
have_stayed (pass ∷ passes) [] backs a l = absurd a
have_stayed [] [] (back ∷ backs) a l = absurd l
have_stayed (pass ∷ passes) (thread ∷ threads) [] a l = absurd l

pub nil_of : {A : Type 0} (xs : List A) → length xs ≡ 0 → xs ≡ []
nil_of [] none = refl
nil_of (x ∷ xs) none = absurd (cc none)
