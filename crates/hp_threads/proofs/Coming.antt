-- Seats come in, one after another.
use Rattle.std.proofs.Common.{◌≡◌, ℕ, ◌+◌, Bool, true, false, Some, List, [], ◌∷◌, ◌++◌, map, take, refl, sym, ap, ◌∙◌, subst}
use Rattle.std.proofs.lemmas.List.{map-append}
use Rattle.std.proofs.lemmas.List.Elements.{All-nil, All-push}
use Rattle.std.specs.Prelude.{slice_get}
use Rattle.std.proofs.lemmas.Option.{get_or_from_slice_get, slice_get_within}
use Rattle.hp_states.proofs.Basics.{take_at}
use Rattle.hp_event.specs.declared.event.Role.{Role}
use Rattle.hp_event.specs.declared.event.Role.TheVariants.{Client, Ap}
use Rattle.hp_event.specs.declared.head.Head.{Head}
use Rattle.hp_event.specs.declared.op.Op.{Op}
use Rattle.hp_model.specs.Processors.{is_present}
use Rattle.hp_live.specs.Known.{Known, Seated}
use Rattle.hp_live.specs.Sections.{AdmitsIn}
use Rattle.hp_threads.specs.declared.job.Job.{Job}
use Rattle.hp_threads.specs.Admitting.{HasEntered, HaveEntered, IsAdmitted, IsSeated, client_of, pass_in}
use Rattle.hp_threads.specs.Loaded.{ops_in}
use Rattle.hp_threads.proofs.Numbers.{present_below, present_not, present_there}
use Rattle.hp_threads.proofs.Opening.{came_append}

-- ---- seats come in

pub entered_none : (at : Known) → HaveEntered at at [] []
entered_none at = record { lock = refl; head = refl; seated = All-nil (IsSeated at.lock at.head); came = refl }

pub entered_more : (old now next : Known) (roles : List Role) (passes : List Seated) (role : Role) (pass : Seated) →
    HaveEntered old now roles passes → IsAdmitted role now next pass → HaveEntered old next (roles ++ role ∷ []) (passes ++ pass ∷ [])
entered_more old now next roles passes role pass e a =
    record {
      lock = a.lock ∙ e.lock;
      head = a.head ∙ e.head;
      seated =
          All-push (IsSeated old.lock old.head) passes pass e.seated
          (record {
            lock_is = a.seated.lock_is ∙ e.lock;
            head_is = a.seated.head_is ∙ e.head;
            nothing = a.seated.nothing;
          });
      came =
          came_append old.head roles (role ∷ []) passes (pass ∷ []) old.front now.front next.front e.came
          (subst (λ (h : Head). AdmitsIn h role now.front pass.front pass.seat) e.head a.admitted, a.front);
    }

-- the threads of the present processors, up to one more
pub entered_next : (head : Head) (cpu : ℕ) (old now next : Known) (before after : List Seated) →
    HaveEntered old now (map Ap (present_below head cpu)) before →
    (is_present head cpu ≡ true → HasEntered (Ap cpu) now next before after) →
    (is_present head cpu ≡ false → (next ≡ now) × (after ≡ before)) →
    HaveEntered old next (map Ap (present_below head (cpu + 1))) after
entered_next head cpu old now next before after e there absent = go (is_present head cpu) refl
  where
    go : (b : Bool) → is_present head cpu ≡ b → HaveEntered old next (map Ap (present_below head (cpu + 1))) after
    go true is =
        let h = there is in
        subst (λ (rs : List Role). HaveEntered old next rs after)
        (sym (ap (map Ap) (present_there head cpu is) ∙ map-append Ap (present_below head cpu) (cpu ∷ [])))
        (subst (λ (ps : List Seated). HaveEntered old next (map Ap (present_below head cpu) ++ Ap cpu ∷ []) ps) (sym h.pushed)
        (entered_more old now next (map Ap (present_below head cpu)) before (Ap cpu) h.pass e h.admitted))
    go false is =
        let same = absent is in
        subst (λ (cs : List ℕ). HaveEntered old next (map Ap cs) after) (sym (present_not head cpu is))
        (subst (λ (ps : List Seated). HaveEntered old next (map Ap (present_below head cpu)) ps) (sym same.1)
        (subst (λ (k : Known). HaveEntered old k (map Ap (present_below head cpu)) before) (sym same.0) e))

-- ---- the actors, one after another

pub take_next : (actors : List (List Op)) (i : ℕ) (ops : List Op) → slice_get actors i ≡ Some ops →
    take (i + 1) actors ≡ take i actors ++ ops ∷ []
take_next actors i ops at =
    take_at actors i ops (slice_get_within actors i ops at)
    ∙ ap (λ z. take i actors ++ z ∷ []) (get_or_from_slice_get actors i ops ops at)

pub client_more : {H : Type 0} (old now next : Known) (actors : List (List Op)) (i : ℕ) (ops : List Op) (jobs more : List (Job H)) (job : Job H) →
    slice_get actors i ≡ Some ops → more ≡ jobs ++ job ∷ [] → HaveEntered old now (map client_of (take i actors)) (map pass_in jobs) →
    IsAdmitted Client now next job.pass → HaveEntered old next (map client_of (take (i + 1) actors)) (map pass_in more)
client_more {H} old now next actors i ops jobs more job at grown e admitted =
    subst (λ (rs : List Role). HaveEntered old next rs (map pass_in more))
    (sym (ap (map client_of) (take_next actors i ops at) ∙ map-append client_of (take i actors) (ops ∷ [])))
    (subst (λ (ps : List Seated). HaveEntered old next (map client_of (take i actors) ++ Client ∷ []) ps)
    (sym (ap (map pass_in) grown ∙ map-append pass_in jobs (job ∷ [])))
    (entered_more old now next (map client_of (take i actors)) (map pass_in jobs) Client job.pass e admitted))

pub ops_more : {H : Type 0} (actors : List (List Op)) (i : ℕ) (ops : List Op) (jobs more : List (Job H)) (job : Job H) →
    slice_get actors i ≡ Some ops → more ≡ jobs ++ job ∷ [] → map ops_in jobs ≡ take i actors → ops_in job ≡ ops →
    map ops_in more ≡ take (i + 1) actors
ops_more {H} actors i ops jobs more job at grown are one =
    ap (map ops_in) grown ∙ map-append ops_in jobs (job ∷ []) ∙ ap (λ z. z ++ ops_in job ∷ []) are
    ∙ ap (λ z. take i actors ++ z ∷ []) one ∙ sym (take_next actors i ops at)
