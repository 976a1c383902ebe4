-- A machine that makes an event: what its parts need, and what it is then.
use Rattle.std.proofs.Common.{◌≡◌, ℕ, Option, List, Result, Ok, Err, OnOk, [], ◌∷◌, ◌++◌, sym, ap, ◌∙◌, subst}
use Rattle.hp_states.specs.declared.cpu_set.CpuSet.{CpuSet}
use Rattle.hp_event.specs.Story.{Story}
use Rattle.hp_event.specs.declared.event.Event.{Event}
use Rattle.hp_event.specs.declared.event.Event.TheVariants.{Admit}
use Rattle.hp_event.specs.declared.event.Role.{Role}
use Rattle.hp_event.specs.declared.head.Head.{Head}
use Rattle.hp_model.specs.Lawful.{Stands}
use Rattle.hp_table.specs.Step.{Step}
use Rattle.hp_account.specs.declared.account.Account.{Account}
use Rattle.hp_account.specs.declared.under_way.NextStep.{NextStep}
use Rattle.hp_account.specs.Accounted.{IsAccounted}
use Rattle.hp_account.specs.Table.{IsTableOf}
use Rattle.hp_account.specs.TableChanges.{table_after}
use Rattle.hp_account.specs.UnderWay.{IsUnderWay}
use Rattle.hp_account.proofs.TableMore.{table_same}
use Rattle.hp_machine.specs.Contents.{Contents, with_event}
use Rattle.hp_machine.specs.Machine.{IsMachine}

-- what contracts see of a journal, a table and a set
abbrev pub seen : Story → List (Option Step) → CpuSet → Contents
seen j places lent = record { head = j.head; events = j.events; places = places; lent = lent }

-- the event `made`, which is `e`, can be appended beside the table `after`
pub record Makes (j : Story) (places after : List (Option Step)) (e made : Event) : Type 0 where
  pub stands : Stands j.head j.events made
  pub table : IsTableOf j.head (j.events ++ made ∷ []) after
  pub is : made ≡ e
  pub changed : after ≡ table_after j.head j.events e places

pub makes : (j : Story) (places after : List (Option Step)) (e made : Event) → Stands j.head j.events e → made ≡ e →
    after ≡ table_after j.head j.events e places → IsTableOf j.head (j.events ++ e ∷ []) after → Makes j places after e made
makes j places after e made stands same changed t =
    record {
      stands = subst (Stands j.head j.events) (sym same) stands;
      table = subst (λ x. IsTableOf j.head (j.events ++ x ∷ []) after) (sym same) t;
      is = same;
      changed = changed;
    }

-- it is a machine afterwards
pub made_machine : (old new : Story) (account : Account) (coming : Option NextStep) (made : Event) (after : List (Option Step)) →
    new.head ≡ old.head → new.events ≡ old.events ++ made ∷ [] → IsAccounted new 0 account → IsUnderWay new.head new.events coming →
    IsTableOf old.head (old.events ++ made ∷ []) after → IsMachine new account coming after
made_machine old new account coming made after head events kept under_way t =
    record {
      kept = kept;
      under_way = under_way;
      table_is =
          subst (λ (h : Head). IsTableOf h new.events after) (sym head)
          (subst (λ (es : List Event). IsTableOf old.head es after) (sym events) t);
    }

-- with the event more
pub made_seen : (old new : Story) (places after : List (Option Step)) (lent : CpuSet) (e made : Event) → new.head ≡ old.head →
    new.events ≡ old.events ++ made ∷ [] → Makes old places after e made → seen new after lent ≡ with_event (seen old places lent) e
made_seen old new places after lent e made head events m =
    ap (λ (h : Head). record { head = h; events = new.events; places = after; lent = lent }) head
    ∙ (ap (λ (es : List Event). record { head = old.head; events = es; places = after; lent = lent }) (events ∙ ap (λ x. old.events ++ x ∷ []) m.is)
    ∙ ap (λ (p : List (Option Step)). record { head = old.head; events = old.events ++ e ∷ []; places = p; lent = lent }) m.changed)

-- a seat came in, which leaves the table, or memory was wanting
pub admitted_machine : {T E : Type 0} (r : Result T E) (old new : Story) (account : Account) (coming : Option NextStep) (seat : ℕ) (role : Role)
    (places : List (Option Step)) → OnOk r (new.head ≡ old.head) → OnOk r (new.events ≡ old.events ++ Admit seat role ∷ []) →
    OnOk r (IsAccounted new 0 account) → OnOk r (IsUnderWay new.head new.events coming) → IsTableOf old.head old.events places →
    OnOk r (IsMachine new account coming places)
admitted_machine (Ok t) old new account coming seat role places head events kept under_way table =
    made_machine old new account coming (Admit seat role) places head events kept under_way
    (table_same old.head old.events places (Admit seat role) tt table)
admitted_machine (Err e) old new account coming seat role places head events kept under_way table = tt
