-- The mark of an entry: a triangle at its event, on its processor's lane and at its state. This project's own.
use Rattle.std.specs.Prelude.{◌≡◌, ℕ, Option, Some, None, List, [], ◌∷◌, ◌++◌, slice_get, codes, decimal}
use Rattle.std.specs.List.{flat_map}
use Rattle.hp_states.specs.declared.dir.Dir.{Dir}
use Rattle.hp_states.specs.declared.dir.Dir.TheVariants.{Up, Down}
use Rattle.hp_event.specs.declared.how.How.{How}
use Rattle.hp_event.specs.declared.how.How.TheVariants.{RanOk, RanFault, Injected, Empty, Presumed, Overruled}
use Rattle.hp_event.specs.declared.event.Event.{Event}
use Rattle.hp_event.specs.declared.event.Event.TheVariants.{Call}
use Rattle.hp_timeline.specs.declared.mark.Mark.{Mark}
use Rattle.hp_timeline.specs.declared.window.Window.{Window}
use Rattle.hp_timeline.specs.Windows.{places}
use Rattle.hp_timeline.specs.Sheet.{middle, height}
use Rattle.hp_timeline.specs.Spans.{numbered_at}

abbrev pub mark_of : (place : ℕ) → Event → List Mark
mark_of k (Call seat cpu state inst dir how) =
    record { place = k; cpu = cpu; state = state; dir = dir; how = how } ∷ []
mark_of k _ = []

abbrev pub marked : (place : ℕ) → Option Event → List Mark
marked k None = []
marked k (Some e) = mark_of k e

abbrev pub marks : List Event → Window → List Mark
marks events w = flat_map (λ k. marked k (slice_get events k)) (places w)

-- the event is the mark's entry
pub record IsEntry (m : Mark) (e : Option Event) : Type 0 where
  pub seat : ℕ
  pub inst : ℕ
  pub event : e ≡ Some (Call seat m.cpu m.state inst m.dir m.how)

-- a triangle that points up for a startup, down for a teardown
abbrev pub shape : Dir → List ℕ
shape Up = codes "m0-12l12 24h-24z' class='"
shape Down = codes "m0 12l12-24h-24z' class='"

-- filled where a hook was called, hollow where none was
abbrev pub how_word : How → List ℕ
how_word RanOk = codes "ok'><title>"
how_word (RanFault code) = codes "fault'><title>"
how_word Injected = codes "injected'><title>"
how_word Empty = codes "empty'><title>"
how_word Presumed = codes "presumed'><title>"
how_word (Overruled code) = codes "overruled'><title>"

unfoldable pub mark_text : Window → List Event → Mark → List ℕ
mark_text w events m =
    codes "<path d='M"
    ++ (decimal (middle w m.place)
    ++ (codes " "
    ++ (decimal (height m.cpu m.state)
    ++ (shape m.dir ++ (how_word m.how ++ (numbered_at events m.place ++ codes "</title></path>\n"))))))
