-- Who is in after one event more.
use Rattle.std.proofs.Common.{◌≡◌, ℕ, ◌+◌, ◌<◌, Bool, true, false, cond, eqb, Option, Some, None, List, [], ◌∷◌, ◌++◌, length, length-append, refl, sym, ap, ◌∙◌, arith}
use Rattle.std.specs.Prelude.{slice_set}
use Rattle.std.proofs.lemmas.Bool.{eqb-true, eqb-false, eq-eqb}
use Rattle.std.proofs.lemmas.List.{length-set}
use Rattle.hp_states.proofs.Basics.{same_some}
use Rattle.hp_event.specs.declared.event.Role.{Role}
use Rattle.hp_event.specs.declared.event.Role.TheVariants.{Client, Ap}
use Rattle.hp_event.specs.declared.head.Head.{Head}
use Rattle.hp_event.specs.declared.event.Event.{Event}
use Rattle.hp_event.specs.declared.event.Event.TheVariants.{Admit, Leave}
use Rattle.hp_model.specs.Lawful.{Comes}
use Rattle.hp_model.specs.Seats.{role_of, ap_seat, seated, unseated}
use Rattle.hp_model.specs.StandsSeats.{CanSit}
use Rattle.hp_model.proofs.Laws.{admits_push, role_push, ap_push}
use Rattle.hp_model.proofs.Owners.{Owners}
use Rattle.hp_model.proofs.EntryProcessors.{present_below}
use Rattle.hp_account.specs.Places.{at_place}
use Rattle.hp_account.specs.Seats.{SeatsView, IsRoll, with_seat, without_seat, with_thread, without_thread}
use Rattle.hp_account.specs.After.{roll_after}
use Rattle.hp_account.proofs.PlaceLemmas.{at_place-push, at_place-set, at_place-within}

with_length : (role : Role) (k : ℕ) (threads : List (Option ℕ)) → length (with_thread role k threads) ≡ length threads
with_length Client k threads = refl
with_length (Ap c) k threads = length-set threads c (Some k)

without_length : (role : Option Role) (threads : List (Option ℕ)) → length (without_thread role threads) ≡ length threads
without_length None threads = refl
without_length (Some Client) threads = refl
without_length (Some (Ap c)) threads = length-set threads c None

-- the threads after an admission
sits : (head : Head) (es : List Event) (role : Role) (k c : ℕ) (threads : List (Option ℕ)) → CanSit head es role →
    length threads ≡ head.possible → ap_seat c es ≡ at_place threads c →
    seated c k role (ap_seat c es) ≡ at_place (with_thread role k threads) c
sits head es Client k c threads can all is = is
sits head es (Ap cpu) k c threads can all is =
    let below = present_below head cpu can.0 in
    sym (at_place-set threads cpu (Some k) c (omega (arith, below, all)) ∙ ap (cond (eqb cpu c) (Some k)) (sym is))

-- each thread sits at its processor's place
sits_more : (head : Head) (es : List Event) (role : Role) (roles : List (Option Role)) (threads : List (Option ℕ)) → CanSit head es role →
    length threads ≡ head.possible → ((c : ℕ) → ap_seat c es ≡ at_place threads c) →
    ((k c : ℕ) → at_place roles k ≡ Some (Ap c) → at_place threads c ≡ Some k) → (k c : ℕ) →
    at_place (roles ++ Some role ∷ []) k ≡ Some (Ap c) → at_place (with_thread role (length roles) threads) c ≡ Some k
sits_more head es role roles threads can all are sat k c h =
    go (eqb (length roles) k) refl (sym (at_place-push roles (Some role) k) ∙ h)
  where
    same_cpu : (a b : ℕ) → Some (Ap a) ≡ Some (Ap b) → a ≡ b
    same_cpu a b h = cc

    old : (role : Role) → CanSit head es role → at_place threads c ≡ Some k → at_place (with_thread role (length roles) threads) c ≡ Some k
    old Client can is = is
    old (Ap cpu) can is =
        let below = present_below head cpu can.0 in
        at_place-set threads cpu (Some (length roles)) c (omega (arith, below, all)) ∙ other (eqb cpu c) refl
      where
        other : (b : Bool) → eqb cpu c ≡ b → cond b (Some (length roles)) (at_place threads c) ≡ Some k
        other true e =
            let at : cpu ≡ c = eqb-true cpu c e in
            absurd (let n = sym can.1 ∙ are cpu ∙ ap (at_place threads) at ∙ is in cc)
        other false e = is

    new : (role : Role) → CanSit head es role → eqb (length roles) k ≡ true → Some role ≡ Some (Ap c) →
        at_place (with_thread role (length roles) threads) c ≡ Some k
    new Client can e h = absurd (cc)
    new (Ap cpu) can e h =
        let at : cpu ≡ c = same_cpu cpu c h in
        let below = present_below head cpu can.0 in
        at_place-set threads cpu (Some (length roles)) c (omega (arith, below, all)) ∙ rw (eq-eqb cpu c at) (ap Some (eqb-true (length roles) k e))

    go : (b : Bool) → eqb (length roles) k ≡ b → cond b (Some role) (at_place roles k) ≡ Some (Ap c) →
        at_place (with_thread role (length roles) threads) c ≡ Some k
    go true e h = new role can e h
    go false e h = old role can (sat k c h)

admitted : (head : Head) (es : List Event) (r : SeatsView) (seat : ℕ) (role : Role) → Comes head es (Admit seat role) → IsRoll head es r →
    IsRoll head (es ++ Admit seat role ∷ []) (with_seat role r)
admitted head es r seat role comes is =
    let e : Event = Admit seat role in
    let number : length r.roles ≡ seat = is.admitted ∙ sym comes.seat_is in
    record {
      admitted = rw (length-append r.roles (Some role ∷ []), admits_push es e) (ap (λ n. n + 1) is.admitted);
      roles_are = λ k.
          role_push k es e
          ∙ sym (at_place-push r.roles (Some role) k ∙ ap (λ n. cond (eqb n k) (Some role) (at_place r.roles k)) number
          ∙ ap (cond (eqb seat k) (Some role)) (sym (is.roles_are k)));
      cpus = with_length role (length r.roles) r.threads ∙ is.cpus;
      threads_are = λ c.
          ap_push c es e
          ∙ rw number (sits head es role seat c r.threads comes.can_sit is.cpus (is.threads_are c));
      sits = sits_more head es role r.roles r.threads comes.can_sit is.cpus is.threads_are is.sits;
    }

-- without a seat
left_role : (k seat : ℕ) (roles : List (Option Role)) (found : Option Role) → seat < length roles → found ≡ at_place roles k →
    cond (eqb seat k) None found ≡ at_place (slice_set roles seat None) k
left_role k seat roles found below is = sym (at_place-set roles seat None k below ∙ ap (cond (eqb seat k) None) (sym is))

same_role : (a b : Role) → Some a ≡ Some b → a ≡ b
same_role a b h = cc

same_ap : (a b : ℕ) → Ap a ≡ Ap b → a ≡ b
same_ap a b h = cc

-- the thread of a processor, once a seat with a role has left
left_thread : (seat c : ℕ) (role : Role) (roles : List (Option Role)) (threads : List (Option ℕ)) → at_place roles seat ≡ Some role →
    ((k : ℕ) → at_place threads c ≡ Some k → at_place roles k ≡ Some (Ap c)) →
    ((k d : ℕ) → at_place roles k ≡ Some (Ap d) → at_place threads d ≡ Some k) →
    unseated seat (at_place threads c) ≡ at_place (without_thread (Some role) threads) c
left_thread seat c role roles threads there own sat = go role there (at_place threads c) refl
  where
    go : (role : Role) → at_place roles seat ≡ Some role → (t : Option ℕ) → at_place threads c ≡ t →
        unseated seat t ≡ at_place (without_thread (Some role) threads) c
    go Client h None is = sym is
    go Client h (Some k) is = apart (eqb k seat) refl
      where
        apart : (b : Bool) → eqb k seat ≡ b → cond b None (Some k) ≡ at_place threads c
        apart true e =
            let at : k ≡ seat = eqb-true k seat e in absurd (let n = sym h ∙ ap (at_place roles) (sym at) ∙ own k is in cc)
        apart false e = sym is
    go (Ap d) h t is =
        let there = sat seat d h in
        sym (at_place-set threads d None c (at_place-within threads d seat there) ∙ cleared (eqb d c) refl)
      where
        own_seat : d ≡ c → t ≡ Some seat
        own_seat at = sym is ∙ ap (at_place threads) (sym at) ∙ sat seat d h

        stays : (u : Option ℕ) → t ≡ u → eqb d c ≡ false → at_place threads c ≡ unseated seat u
        stays None e apart = is ∙ e
        stays (Some k) e apart = cases (eqb k seat) refl
          where
            cases : (b : Bool) → eqb k seat ≡ b → at_place threads c ≡ cond b None (Some k)
            cases true f =
                let at : k ≡ seat = eqb-true k seat f in
                let role_is : Some (Ap d) ≡ Some (Ap c) = sym h ∙ ap (at_place roles) (sym at) ∙ own k (is ∙ e) in
                absurd (eqb-false d c apart (same_ap d c (same_role (Ap d) (Ap c) role_is)))
            cases false f = is ∙ e

        cleared : (b : Bool) → eqb d c ≡ b → cond b None (at_place threads c) ≡ unseated seat t
        cleared true e =
            let self : eqb seat seat ≡ true = eq-eqb seat seat refl in
            rw (own_seat (eqb-true d c e), self) refl
        cleared false e = stays t refl e

-- each thread that is left sits at its processor's place
sits_left : (seat : ℕ) (role : Role) (roles : List (Option Role)) (threads : List (Option ℕ)) → at_place roles seat ≡ Some role →
    ((k d : ℕ) → at_place roles k ≡ Some (Ap d) → at_place threads d ≡ Some k) → (k c : ℕ) →
    at_place (slice_set roles seat None) k ≡ Some (Ap c) → at_place (without_thread (Some role) threads) c ≡ Some k
sits_left seat role roles threads there sat k c h =
    go (eqb seat k) refl (sym (at_place-set roles seat None k (at_place-within roles seat role there)) ∙ h)
  where
    kept : (role : Role) → at_place roles seat ≡ Some role → eqb seat k ≡ false → at_place roles k ≡ Some (Ap c) →
        at_place (without_thread (Some role) threads) c ≡ Some k
    kept Client there apart h = sat k c h
    kept (Ap d) there apart h =
        let own = sat seat d there in
        at_place-set threads d None c (at_place-within threads d seat own) ∙ other (eqb d c) refl
      where
        other : (b : Bool) → eqb d c ≡ b → cond b None (at_place threads c) ≡ Some k
        other true e =
            let at : d ≡ c = eqb-true d c e in
            let both : Some seat ≡ Some k = sym (sat seat d there) ∙ ap (at_place threads) at ∙ sat k c h in
            absurd (eqb-false seat k apart (same_some seat k both))
        other false e = sat k c h

    go : (b : Bool) → eqb seat k ≡ b → cond b None (at_place roles k) ≡ Some (Ap c) →
        at_place (without_thread (Some role) threads) c ≡ Some k
    go true e h = absurd (cc)
    go false e h = kept role there e h

left : (head : Head) (es : List Event) (r : SeatsView) (seat : ℕ) → Owners es → Comes head es (Leave seat) → IsRoll head es r →
    IsRoll head (es ++ Leave seat ∷ []) (without_seat seat r)
left head es r seat owners comes is =
    let e : Event = Leave seat in
    let there : at_place r.roles seat ≡ Some comes.is_in.0 = sym (is.roles_are seat) ∙ comes.is_in.1 in
    let below = at_place-within r.roles seat comes.is_in.0 there in
    record {
      admitted = rw (length-set r.roles seat None, admits_push es e) is.admitted;
      roles_are = λ k. role_push k es e ∙ left_role k seat r.roles (role_of k es) below (is.roles_are k);
      cpus = without_length (at_place r.roles seat) r.threads ∙ is.cpus;
      threads_are = λ c.
          ap_push c es e ∙ ap (unseated seat) (is.threads_are c)
          ∙ left_thread seat c comes.is_in.0 r.roles r.threads there
          (λ k at. sym (is.roles_are k) ∙ owners.ap_role c k (is.threads_are c ∙ at)) is.sits
          ∙ ap (λ x. at_place (without_thread x r.threads) c) (sym there);
      sits = λ k c h.
          ap (λ x. at_place (without_thread x r.threads) c) there ∙ sits_left seat comes.is_in.0 r.roles r.threads there is.sits k c h;
    }

pub roll_more : (head : Head) (es : List Event) (r : SeatsView) (e : Event) → Owners es → Comes head es e → IsRoll head es r →
    IsRoll head (es ++ e ∷ []) (roll_after e r)
roll_more head es r (Admit seat role) owners comes is = admitted head es r seat role comes is
roll_more head es r (Leave seat) owners comes is = left head es r seat owners comes is
roll_more head es r e owners comes is = record {
  admitted = is.admitted ∙ sym (admits_push es e);
  roles_are = λ k. role_push k es e ∙ is.roles_are k;
  cpus = is.cpus;
  threads_are = λ c. ap_push c es e ∙ is.threads_are c;
  sits = is.sits;
}
