-- The called set follows what is made on the machine.
use Rattle.std.proofs.Common.{◌≡◌, ℕ, List, [], ◌∷◌, ◌++◌, Some, length, slice_get, refl, ap, sym, ◌∙◌, subst, inl, inr}
use Rattle.hp_states.proofs.Basics.{none_some, same_some}
use Rattle.hp_event.specs.declared.event.Event.{Event}
use Rattle.hp_event.specs.declared.event.Event.TheVariants.{Admit, Leave}
use Rattle.hp_event.specs.declared.event.Role.{Role}
use Rattle.hp_event.specs.declared.head.Head.{Head}
use Rattle.hp_model.specs.How.{answer_at}
use Rattle.hp_model.specs.Lawful.{IsLawful, Stands}
use Rattle.hp_account.specs.declared.under_way.Entry.{Entry}
use Rattle.hp_account.specs.Entries.{entry_event, how_by}
use Rattle.hp_machine.proofs.Below.{call_in_set}
use Rattle.hp_machine.specs.StandsNext.{CanMakeEntry}
use Rattle.hp_called.specs.declared.called.Called.{Called}
use Rattle.hp_called.specs.Called.{IsCalled}
use Rattle.hp_called.specs.Steps.{IsOnSomeCpu}
use Rattle.hp_called.proofs.Follows.{Followed, follows}
use Rattle.hp_board.specs.Contents.{Contents, with_event}

-- ---- an entry that was made is the last event

last_at : {X : Type 0} (xs : List X) (x : X) → slice_get (xs ++ x ∷ []) (length xs) ≡ Some x
last_at [] x = refl
last_at (y ∷ ys) x = last_at ys x

abbrev made_by : Contents → Entry → Event
made_by m x = entry_event m.head m.events x

pub last_is : (m n : Contents) (x : Entry) (events : List Event) (at : ℕ) (f : Event) → n.events ≡ m.events ++ made_by m x ∷ [] →
    events ≡ n.events → at ≡ length m.events → slice_get events at ≡ Some f → f ≡ made_by m x
last_is m n x events at f made same place is =
    same_some f (made_by m x)
    (sym is
    ∙ (ap (λ (es : List Event). slice_get es at) (same ∙ made)
    ∙ (ap (λ k. slice_get (m.events ++ made_by m x ∷ []) k) place ∙ last_at m.events (made_by m x))))

pub has_place : (m : Contents) (x : Entry) (f : Event) → IsLawful m.head m.events → CanMakeEntry m x → f ≡ made_by m x → IsOnSomeCpu f
has_place m x f lawful stands is =
    subst IsOnSomeCpu (sym is)
    (call_in_set m.head m.events x.seat x.cpu x.key.state x.key.inst x.dir
    (how_by x (answer_at m.head m.events x.cpu x.key.state x.key.inst x.dir)) lawful stands.0)

-- a called set follows an event after any journal
abbrev pub FollowsTo : Head → Event → (old new : Called) → Type 0
FollowsTo head f old new =
    (events : List Event) → IsLawful head events → Stands head events f → IsCalled head events old → IsCalled head (events ++ f ∷ []) new

pub followed : (m n : Contents) (x : Entry) (head : Head) (f : Event) (old new : Called) → n.head ≡ m.head →
    n.events ≡ m.events ++ made_by m x ∷ [] → head ≡ m.head → f ≡ made_by m x → IsLawful m.head m.events → CanMakeEntry m x →
    IsCalled m.head m.events old → FollowsTo head f old new → IsCalled n.head n.events new
followed m n x head f old new same_head made head_is is lawful stands called follows =
    let here = subst (λ g. FollowsTo m.head g old new) is (subst (λ h. FollowsTo h f old new) head_is follows) in
    subst (λ h. IsCalled h n.events new) (sym same_head)
    (subst (λ es. IsCalled m.head es new) (sym made) (here m.events lawful stands called))

-- ---- a seat that comes in or goes changes nothing of it

quiet : (head : Head) (es : List Event) (e : Event) (called : Called) → IsLawful head es → Stands head es e → IsCalled head es called →
    ((old : Called) → Followed head e old old) → IsCalled head (es ++ e ∷ []) called
quiet head es e called lawful stands is same = follows head es e called called lawful stands is (same called)

pub after_admit : (b : Contents) (seat : ℕ) (role : Role) (called : Called) → IsLawful b.head b.events →
    Stands b.head b.events (Admit seat role) → IsCalled b.head b.events called → IsCalled b.head (b.events ++ Admit seat role ∷ []) called
after_admit b seat role called lawful stands is =
    quiet b.head b.events (Admit seat role) called lawful stands is
    (λ old. record { rows = λ k. refl; sets = λ k c. refl; ending_is = refl })

pub after_leave : (b : Contents) (seat : ℕ) (called : Called) → IsLawful b.head b.events → Stands b.head b.events (Leave seat) →
    IsCalled b.head b.events called → IsCalled b.head (b.events ++ Leave seat ∷ []) called
after_leave b seat called lawful stands is =
    quiet b.head b.events (Leave seat) called lawful stands is (λ old. record { rows = λ k. refl; sets = λ k c. refl; ending_is = refl })
