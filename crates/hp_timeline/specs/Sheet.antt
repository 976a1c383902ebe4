-- Where things stand on the sheet. Its unit is a third of a pixel, so that a state takes one unit, and an event a
-- column of 36. A lane for each possible processor stands above one for each client's seat. This project's own.
use Rattle.std.specs.Prelude.{ℕ, ◌+◌, ◌-◌, ◌*◌, ◌^◌, ◌<◌, max, nat_lt, List, [], ◌∷◌, length, take, count_by}
use Rattle.std.specs.List.{flat_map}
use Rattle.hp_event.specs.declared.head.Head.{Head}
use Rattle.hp_event.specs.declared.event.Event.{Event}
use Rattle.hp_event.specs.declared.event.Event.TheVariants.{Admit}
use Rattle.hp_event.specs.declared.event.Role.{Role}
use Rattle.hp_event.specs.declared.event.Role.TheVariants.{Client, Ap}
use Rattle.hp_timeline.specs.declared.window.Window.{Window}
use Rattle.hp_timeline.specs.declared.sheet.Sheet.{Sheet}

abbrev pub seat_in : (seat : ℕ) → Role → List ℕ
seat_in seat Client = seat ∷ []
seat_in seat (Ap cpu) = []

abbrev pub client_in : Event → List ℕ
client_in (Admit seat role) = seat_in seat role
client_in _ = []

-- the clients' seats that came in, in that order
abbrev pub clients : List Event → List ℕ
clients events = flat_map client_in events

-- the sheet of a window: its events, the possible processors, and the clients' seats that came in by its end
abbrev pub sheet_of : Head → List Event → Window → Sheet
sheet_of head events w = record { window = w; possible = head.possible; clients = clients (take w.until events) }

-- they are no more than a number can count
abbrev pub HasFewClients : Sheet → Type 0
HasFewClients sheet = length sheet.clients < 2 ^ 32

-- where the column of a place begins, and its middle, from left
unfoldable pub edge : Window → (place : ℕ) → ℕ
edge w k = 450 + 36 * (k - w.before)

unfoldable pub middle : Window → (place : ℕ) → ℕ
middle w k = edge w k + 18

-- where the lane of a processor begins, from above, and where a state stands in it: 0 below, 200 above
unfoldable pub lane_top : (cpu : ℕ) → ℕ
lane_top c = 180 + 240 * c

unfoldable pub height : (cpu state : ℕ) → ℕ
height c s = (390 + 240 * c) - s

-- where the lane of a seat begins: below the processors, in the order of the seats' numbers
unfoldable pub seat_top : Sheet → (seat : ℕ) → ℕ
seat_top sheet k = 180 + 240 * sheet.possible + 120 * count_by (λ s. nat_lt s k) sheet.clients

-- how wide the lanes are, how wide the sheet, where the lanes end, and how high the sheet is
unfoldable pub lane_width : Window → ℕ
lane_width w = 36 * (w.until - w.before)

unfoldable pub width : Window → ℕ
width w = max (lane_width w + 540) 2700

unfoldable pub bottom : Sheet → ℕ
bottom sheet = 180 + 240 * sheet.possible + 120 * length sheet.clients
