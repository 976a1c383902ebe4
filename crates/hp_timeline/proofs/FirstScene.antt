-- What is kept of no events.
use Rattle.std.proofs.Common.{◌≡◌, ℕ, ◌<◌, None, [], refl, sym, ap, ◌∙◌}
use Rattle.std.proofs.lemmas.List.{length-map, get_or-map}
use Rattle.hp_states.specs.Sections.{first_state}
use Rattle.hp_event.specs.declared.head.Head.{Head}
use Rattle.hp_model.specs.Lists.{numbers}
use Rattle.hp_model.specs.MapLock.{operation}
use Rattle.hp_model.specs.Readers.{reading_since}
use Rattle.hp_model.specs.Registrations.{registration}
use Rattle.hp_model.specs.Settled.{settled}
use Rattle.hp_model.specs.Walks.{walk, walk_entries}
use Rattle.hp_model.proofs.SumLemmas.{length-numbers}
use Rattle.hp_print.specs.Tallies.{IsStateTally}
use Rattle.hp_timeline.specs.declared.scene.Scene.{Scene}
use Rattle.hp_timeline.specs.Scenes.{lane_of, lane_at, no_lane, stood, first_lanes, section_begun, IsScene}
use Rattle.hp_timeline.proofs.Numbers.{number_at}
use Rattle.hp_timeline.proofs.StateSteps.{knows_of}

first_lane : (head : Head) (c : ℕ) → lane_of head [] c ≡ stood (first_state c)
unfolding settled walk walk_entries
first_lane head c = refl

lanes_first : (head : Head) (n c : ℕ) → c < n → lane_at (first_lanes n) c ≡ lane_of head [] c
lanes_first head n c h =
    get_or-map (λ k. stood (first_state k)) (numbers n) c 0 no_lane (rw length-numbers h)
    ∙ ap (λ k. stood (first_state k)) (number_at n c h) ∙ sym (first_lane head c)

nobody_reads : (k : ℕ) → section_begun (reading_since k []) ≡ None
unfolding reading_since
nobody_reads k = refl

pub first_scene : (head : Head) (s : Scene) → s.lanes.items ≡ first_lanes head.possible → IsStateTally head 201 [] s.states →
    s.operation ≡ None → s.registration ≡ None → s.sections.items ≡ [] → IsScene head [] s
unfolding operation registration
first_scene head s lanes states o r sections = record {
  lanes_many = rw lanes (length-map (numbers head.possible) (λ k. stood (first_state k)) ∙ length-numbers head.possible);
  lanes_are = λ c b. rw lanes (lanes_first head head.possible c b);
  states_are = knows_of head [] s.states states;
  operation_is = o;
  registration_is = r;
  sections_are = λ k. rw sections (sym (nobody_reads k));
}
