-- What stands round the lanes: the sheet, its heading, its legend, the numbers of events, and the lanes' own boxes and
-- names. This project's own.
use Rattle.std.specs.Prelude.{ℕ, ◌+◌, ◌-◌, ◌*◌, ◌/◌, ◌==◌, Bool, if◌then◌else◌, List, [], ◌∷◌, ◌++◌, codes, decimal}
use Rattle.std.specs.List.{flat_map}
use Rattle.hp_event.specs.declared.head.Head.{Head}
use Rattle.hp_model.specs.Lists.{numbers}
use Rattle.hp_model.specs.Processors.{is_present}
use Rattle.hp_timeline.specs.declared.window.Window.{Window}
use Rattle.hp_timeline.specs.declared.sheet.Sheet.{Sheet}
use Rattle.hp_timeline.specs.Sheet.{middle, lane_top, lane_width, seat_top, width, bottom}

-- ---- the sheet

unfoldable pub size_text : (wide high : ℕ) → List ℕ
size_text wide high =
    codes "<svg xmlns='http://www.w3.org/2000/svg' width='"
    ++ (decimal (wide / 3)
    ++ (codes "' height='"
    ++ (decimal (high / 3)
    ++ (codes "' viewBox='0 0 "
    ++ (decimal wide
    ++ (codes " " ++ (decimal high ++ codes "' font-family='sans-serif' font-size='33'>\n")))))))

-- the colours of the lanes
unfoldable pub lane_style : List ℕ
lane_style =
    codes "<style>text{fill:#333}.end{text-anchor:end;font-weight:bold}.small{fill:#777;font-size:27px}"
    ++ (codes ".box{fill:#fafafa;stroke:#ddd;stroke-width:3}.tick{stroke:#e4e4e4;stroke-width:3}"
    ++ (codes ".half{stroke:#bbb;stroke-width:3;stroke-dasharray:9 9}"
    ++ codes ".track{fill:none;stroke:#0072b2;stroke-width:5}"))

-- the colours of what lasts
unfoldable pub span_style : List ℕ
span_style =
    codes ".walk.ok{fill:#d5eee4}.walk.fault{fill:#f8ddc9}.walk.stuck{fill:#ecd3e2}.walk.going{fill:#fdf6c9}"
    ++ (codes ".bar{stroke:#777;stroke-width:3}.bar.ok{fill:#9fd8c4}.bar.fault{fill:#f0b48b}"
    ++ (codes ".bar.refused{fill:#ffd27f}.bar.stuck{fill:#dba6c5}.bar.full{fill:#ccc}.bar.going{fill:#fff}"
    ++ codes ".section{fill:#56b4e9}"))

-- the colours of marks
unfoldable pub mark_style : List ℕ
mark_style =
    codes "path.ok{fill:#009e73;stroke:#006b4e}path.fault{fill:#d55e00;stroke:#8a3d00}"
    ++ (codes "path.overruled{fill:#f0e442;stroke:#7a7400}path.injected{fill:#fff;stroke:#d55e00}"
    ++ (codes "path.empty,path.presumed{fill:#fff;stroke:#888}path{stroke-width:3}</style>\n"
    ++ codes "<rect width='100%' height='100%' fill='#fff'/>\n"))

-- the numbers of the first event that is shown and of the last, if one is
unfoldable pub range_text : Window → List ℕ
range_text w = if w.before == w.until then codes "none" else decimal (w.before + 1) ++ (codes " to " ++ decimal w.until)

unfoldable pub heading_text : Sheet → (many : ℕ) → List ℕ
heading_text sheet many =
    codes "<text x='450' y='60' font-size='42' font-weight='bold'>processors: "
    ++ (decimal sheet.possible
    ++ (codes ", events: " ++ (range_text sheet.window ++ (codes " of " ++ (decimal many ++ codes "</text>\n")))))

-- what the shapes of entries mean
unfoldable pub mark_legend : List ℕ
mark_legend =
    codes "<path class='ok' d='M450 108m0-12l12 24h-24z'/><text x='474' y='120'>startup</text>"
    ++ (codes "<path class='ok' d='M660 108m0 12l12-24h-24z'/><text x='684' y='120'>teardown</text>"
    ++ (codes "<path class='fault' d='M900 108m0-12l12 24h-24z'/><text x='924' y='120'>fault</text>"
    ++ (codes "<path class='overruled' d='M1050 108m0-12l12 24h-24z'/><text x='1074' y='120'>overruled</text>"
    ++ (codes "<path class='injected' d='M1290 108m0-12l12 24h-24z'/><text x='1314' y='120'>injected</text>"
    ++ codes "<path class='empty' d='M1500 108m0-12l12 24h-24z'/><text x='1524' y='120'>not called</text>"))))

-- what the colours of walks and of bars mean
unfoldable pub span_legend : List ℕ
span_legend =
    codes "<path class='bar ok' d='M1725 93h36v30h-36z'/><text x='1773' y='120'>ok</text>"
    ++ (codes "<path class='bar fault' d='M1845 93h36v30h-36z'/><text x='1893' y='120'>fault</text>"
    ++ (codes "<path class='bar stuck' d='M1995 93h36v30h-36z'/><text x='2043' y='120'>stuck</text>"
    ++ (codes "<path class='bar refused' d='M2160 93h36v30h-36z'/><text x='2208' y='120'>refused</text>"
    ++ (codes "<path class='bar going' d='M2355 93h36v30h-36z'/><text x='2403' y='120'>in flight</text>"
    ++ (codes "<path class='bar full' d='M2565 93h36v30h-36z'/><text x='2613' y='120'>full</text>" ++ codes "\n")))))

-- ---- the numbers of events

-- the line at an event of this number, counted from 1, and the number below it
unfoldable pub tick_line : Sheet → (number : ℕ) → List ℕ
tick_line sheet n =
    codes "<path class='tick' d='M"
    ++ (decimal (middle sheet.window (n - 1)) ++ (codes " 150V" ++ (decimal (bottom sheet) ++ codes "'/>")))

unfoldable pub tick_name : Sheet → (number : ℕ) → List ℕ
tick_name sheet n =
    codes "<text class='small' text-anchor='middle' x='"
    ++ (decimal (middle sheet.window (n - 1))
    ++ (codes "' y='" ++ (decimal (bottom sheet + 45) ++ (codes "'>" ++ (decimal n ++ codes "</text>\n")))))

unfoldable pub tick_text : Sheet → (number : ℕ) → List ℕ
tick_text sheet n = tick_line sheet n ++ tick_name sheet n

-- each tenth number of the window
abbrev pub tenth : Window → (index : ℕ) → ℕ
tenth w i = 10 * (w.before / 10 + 1 + i)

abbrev pub tick_at : Sheet → (index : ℕ) → List ℕ
tick_at sheet i = tick_text sheet (tenth sheet.window i)

abbrev pub tick_count : Window → ℕ
tick_count w = w.until / 10 - w.before / 10

unfoldable pub ticks_text : Sheet → List ℕ
ticks_text sheet = flat_map (tick_at sheet) (numbers (tick_count sheet.window))

-- ---- the lanes

unfoldable pub lane_box : Window → (cpu : ℕ) → List ℕ
lane_box w c =
    codes "<g transform='translate(0 "
    ++ (decimal (lane_top c)
    ++ (codes ")'><path class='box' d='M450 0h"
    ++ (decimal (lane_width w)
    ++ (codes "v220H450z'/><path class='half' d='M450 109h" ++ (decimal (lane_width w) ++ codes "'/>")))))

abbrev pub absence : Bool → List ℕ
absence present = if present then [] else codes "<text class='small' x='474' y='120'>absent</text>"

unfoldable pub lane_name : Head → (cpu : ℕ) → List ℕ
lane_name head c =
    codes "<text class='end' x='348' y='120'>cpu "
    ++ (decimal c
    ++ (codes "</text><text class='small' x='372' y='21'>200</text><text class='small' x='372' y='119'>101</text>"
    ++ (codes "<text class='small' x='402' y='217'>0</text>" ++ (absence (is_present head c) ++ codes "</g>\n"))))

unfoldable pub lane_text : Head → Window → (cpu : ℕ) → List ℕ
lane_text head w c = lane_box w c ++ lane_name head c

unfoldable pub seat_text : Sheet → (seat : ℕ) → List ℕ
seat_text sheet k =
    codes "<text class='end' x='348' y='"
    ++ (decimal (seat_top sheet k + 63) ++ (codes "'>seat " ++ (decimal k ++ codes "</text>\n")))

-- ---- all of it

unfoldable pub opening_text : Sheet → (many : ℕ) → List ℕ
opening_text sheet many =
    size_text (width sheet.window) (bottom sheet + 90)
    ++ (lane_style ++ (span_style ++ (mark_style ++ (heading_text sheet many ++ (mark_legend ++ span_legend)))))

unfoldable pub lanes_text : Head → Sheet → List ℕ
lanes_text head sheet =
    flat_map (lane_text head sheet.window) (numbers sheet.possible) ++ flat_map (seat_text sheet) sheet.clients

unfoldable pub frame_text : Head → Sheet → (many : ℕ) → List ℕ
frame_text head sheet many = opening_text sheet many ++ (ticks_text sheet ++ lanes_text head sheet)
