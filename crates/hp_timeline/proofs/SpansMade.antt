-- What is drawn by what is kept is what lasts, by the events.
use Rattle.std.proofs.Common.{◌≡◌, ℕ, ◌<◌, Bool, true, false, ◌&&◌, not, Option, Some, None, List, [], ◌∷◌, ◌++◌, length, get_or, take, refl, sym, ap, ap₂, ◌∙◌, subst, arith}
use Rattle.std.specs.Prelude.{option_to_list, slice_get}
use Rattle.std.specs.List.{flat_map}
use Rattle.std.proofs.lemmas.Bool.Decides.{nat_tests}
use Rattle.hp_event.specs.declared.answer.Answer.{Answer}
use Rattle.hp_event.specs.declared.event.Role.TheVariants.{Client}
use Rattle.hp_event.specs.declared.head.Head.{Head}
use Rattle.hp_event.specs.declared.event.Event.{Event}
use Rattle.hp_event.specs.declared.event.Event.TheVariants.{Admit, Refused, WalkEnd, OpEnd, RegEnd, ReadUnlock, Armed, Shown, Wakeup}
use Rattle.hp_model.specs.Lawful.{Stands, IsLawful}
use Rattle.hp_model.specs.Lists.{numbers}
use Rattle.hp_model.specs.MapLock.{Operation, operation}
use Rattle.hp_model.specs.Processors.{is_present}
use Rattle.hp_model.specs.Readers.{reading_since}
use Rattle.hp_model.specs.Registrations.{Registration, registration}
use Rattle.hp_model.specs.Walks.{Walk, walk}
use Rattle.hp_model.proofs.Induction.{kept}
use Rattle.hp_model.proofs.Kept.{WalkKept, Kept}
use Rattle.hp_timeline.specs.declared.scene.Scene.{Scene}
use Rattle.hp_timeline.specs.declared.sheet.Sheet.{Sheet}
use Rattle.hp_timeline.specs.declared.span.Class.{Class}
use Rattle.hp_timeline.specs.declared.span.Class.TheVariants as class
use Rattle.hp_timeline.specs.declared.span.Span.{Span}
use Rattle.hp_timeline.specs.Sheet.{clients}
use Rattle.hp_timeline.specs.Spans.{class_of, walk_span, operation_span, registration_span, section_span, ended_by, ended, ended_at, walks_going, sections_going, going}
use Rattle.hp_timeline.specs.Scenes.{walking_of, operation_begun, registration_begun, section_begun, lane_at, IsScene, walking_span, begun_span, reading_span, ended_in, walks_in, sections_in, going_in}
use Rattle.hp_timeline.proofs.Events.{got, length_take, lawful_take, stands_at}
use Rattle.hp_timeline.proofs.Numbers.{each_below}

walk_as : (c : Class) (over : Bool) (last cpu : ℕ) (w : Option Walk) →
    option_to_list (walking_span c over last cpu (walking_of w)) ≡ walk_span c over last cpu w
walk_as c over last cpu None = refl
walk_as c over last cpu (Some w) = refl

operation_as : (c : Class) (over : Bool) (last : ℕ) (o : Option Operation) →
    option_to_list (begun_span c over last (operation_begun o)) ≡ operation_span c over last o
operation_as c over last None = refl
operation_as c over last (Some o) = refl

registration_as : (c : Class) (over : Bool) (last : ℕ) (r : Option Registration) →
    option_to_list (begun_span c over last (registration_begun r)) ≡ registration_span c over last r
registration_as c over last None = refl
registration_as c over last (Some r) = refl

section_as : (c : Class) (over : Bool) (last seat : ℕ) (before : Option (List Event)) →
    option_to_list (reading_span c over last seat (section_begun before)) ≡ section_span c over last seat before
section_as c over last seat None = refl
section_as c over last seat (Some before) = refl

-- a processor that walks is possible
present_possible : (head : Head) (c : ℕ) → is_present head c ≡ true → c < head.possible
present_possible head c h = grind (arith, nat_tests)

walk_possible : (head : Head) (xs : List Event) (c : ℕ) (w : Walk) → IsLawful head xs → walk c xs ≡ Some w → c < head.possible
walk_possible head xs c w lawful e =
    let k : WalkKept head c w xs = rw e at ((kept head xs lawful).at c).kept in present_possible head c k.present

pub ended_as : (head : Head) (xs : List Event) (e : Event) (s : Scene) → IsLawful head xs → Stands head xs e → IsScene head xs s →
    option_to_list (ended_in s (length xs) e) ≡ ended_by xs e
ended_as head xs (WalkEnd seat cpu answer) s lawful stands h =
    let b : cpu < head.possible = walk_possible head xs cpu stands.0.of lawful stands.0.in_flight in
    ap (λ l. option_to_list (walking_span (class_of answer) true (length xs) cpu l.walk)) (h.lanes_are cpu b)
    ∙ walk_as (class_of answer) true (length xs) cpu (walk cpu xs)
ended_as head xs (OpEnd seat answer) s lawful stands h =
    ap (λ o. option_to_list (begun_span (class_of answer) true (length xs) o)) h.operation_is
    ∙ operation_as (class_of answer) true (length xs) (operation xs)
ended_as head xs (RegEnd seat answer) s lawful stands h =
    ap (λ o. option_to_list (begun_span (class_of answer) true (length xs) o)) h.registration_is
    ∙ registration_as (class_of answer) true (length xs) (registration xs)
ended_as head xs (ReadUnlock seat) s lawful stands h =
    ap (λ f. option_to_list (reading_span class.Done true (length xs) seat f)) (h.sections_are seat)
    ∙ section_as class.Done true (length xs) seat (reading_since seat xs)
ended_as head xs e s lawful stands h = refl

walks_as : (head : Head) (xs : List Event) (s : Scene) (last : ℕ) → IsScene head xs s →
    walks_in s last head.possible ≡ walks_going head xs last
walks_as head xs s last h =
    each_below _ _ head.possible (λ c b.
    ap (λ l. option_to_list (walking_span class.Going false last c l.walk)) (h.lanes_are c b)
    ∙ walk_as class.Going false last c (walk c xs))

sections_as : (head : Head) (xs : List Event) (s : Scene) (last : ℕ) (seats : List ℕ) → IsScene head xs s →
    sections_in s last seats ≡ flat_map (λ k. section_span class.Going false last k (reading_since k xs)) seats
sections_as head xs s last [] h = refl
sections_as head xs s last (k ∷ ks) h =
    ap₂ (λ (x y : List Span). x ++ y)
    (ap (λ f. option_to_list (reading_span class.Going false last k f)) (h.sections_are k)
    ∙ section_as class.Going false last k (reading_since k xs))
    (sections_as head xs s last ks h)

pub going_as : (head : Head) (xs : List Event) (s : Scene) (last : ℕ) (sheet : Sheet) → IsScene head xs s →
    sheet.possible ≡ head.possible → sheet.clients ≡ clients xs → going_in s last sheet ≡ going head xs last
going_as head xs s last sheet h possible seats =
    rw (possible, seats)
    (ap₂ (λ (x y : List Span). x ++ y) (walks_as head xs s last h)
    (ap₂ (λ (x y : List Span). x ++ y)
    (ap (λ o. option_to_list (begun_span class.Going false last o)) h.operation_is ∙ operation_as class.Going false last (operation xs))
    (ap₂ (λ (x y : List Span). x ++ y)
    (ap (λ o. option_to_list (begun_span class.Going false last o)) h.registration_is
    ∙ registration_as class.Going false last (registration xs))
    (sections_as head xs s last (clients xs) h))))

-- the event of a place
pub ended_here : (head : Head) (events : List Event) (k : ℕ) (s : Scene) → IsLawful head events → k < length events →
    IsScene head (take k events) s →
    option_to_list (ended_in s k (get_or events k (Admit 0 Client))) ≡ ended_at events k
ended_here head events k s lawful low h =
    subst (λ n. option_to_list (ended_in s n (get_or events k (Admit 0 Client))) ≡ ended_by (take k events) (get_or events k (Admit 0 Client)))
    (length_take events k (omega (arith, low)))
    (ended_as head (take k events) (get_or events k (Admit 0 Client)) s (lawful_take head events k lawful)
    (stands_at head events k (Admit 0 Client) low lawful) h)
    ∙ sym (ap (λ o. ended (take k events) o) (got events k low))
