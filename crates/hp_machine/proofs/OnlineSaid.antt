-- What the account says of one processor, whichever number it has, is what the journal says: whether it is present, and
-- whether it is online.
use Rattle.std.proofs.Common.{◌≡◌, ℕ, Bool, true, false, not, ◌&&◌, ltb, List, get_or, refl, sym, ap, ◌∙◌, arith}
use Rattle.std.specs.Prelude.{slice_index}
use Rattle.std.proofs.Math.ListN.{get_or-eq_default}
use Rattle.std.proofs.lemmas.Bool.{ltb-true, ltb-false}
use Rattle.hp_states.specs.CpuSets.{has}
use Rattle.hp_states.specs.Sections.{is_online_state}
use Rattle.hp_states.specs.declared.cpu_set.CpuSet.{CpuSet}
use Rattle.hp_event.specs.Heads.{among}
use Rattle.hp_event.specs.declared.head.Head.{Head}
use Rattle.hp_event.specs.declared.event.Event.{Event}
use Rattle.hp_model.specs.Lawful.{IsLawful}
use Rattle.hp_model.specs.Processors.{is_present}
use Rattle.hp_model.specs.Settled.{is_online, settled}
use Rattle.hp_model.proofs.Induction.{kept}
use Rattle.hp_account.specs.Processors.{ProcessorsView, IsOnlineSet, IsStanding}

pub present_said : (head : Head) (es : List Event) (p : ProcessorsView) → IsStanding head es p → (c : ℕ) →
    get_or p.present c false ≡ is_present head c
present_said head es p is c = at (ltb c head.possible) refl
  where
    at : (b : Bool) → ltb c head.possible ≡ b → get_or p.present c false ≡ is_present head c
    at true e = is.present_is.each c (ltb-true c head.possible e)
    at false e =
        let places = is.present_is.places in
        let past = ltb-false c head.possible e in
        get_or-eq_default p.present false {n = c} (omega (arith, places, past)) ∙ sym (ap (λ b. b && not (among c head.absent)) e)

pub set_said : (head : Head) (es : List Event) (p : ProcessorsView) (set : CpuSet) → IsLawful head es → IsStanding head es p →
    IsOnlineSet p.settled set → (c : ℕ) → has set c ≡ is_online c es
set_said head es p set lawful is on c = on c ∙ ap is_online_state (at (ltb c head.possible) refl)
  where
    at : (b : Bool) → ltb c head.possible ≡ b → slice_index p.settled c ≡ settled c es
    at true e = is.settled_is c (ltb-true c head.possible e)
    at false e =
        let cpus = is.cpus in
        let past = ltb-false c head.possible e in
        get_or-eq_default p.settled 0 {n = c} (omega (arith, cpus, past))
        ∙ sym (((kept head es lawful).at c).away (ap (λ b. b && not (among c head.absent)) e))
