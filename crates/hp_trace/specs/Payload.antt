-- What the words of an event say behind its name, as the kernel's `TP_printk` of `include/trace/events/cpuhp.h` and
-- `trace-cmd report -R` write them.
use Rattle.std.specs.Prelude.{ℕ, ◌==◌, ◌||◌, Bool, true, false, nat_le, ◌&&◌, not, if◌then◌else◌, List, [], ◌∷◌, Option, Some, None, codes}
use Rattle.std.specs.Option.{option_map, option_and_then}
use Rattle.std.specs.Str.{bytes_eq}
use Rattle.hp_trace.specs.declared.event.Name.{Name}
use Rattle.hp_trace.specs.declared.event.Name.TheVariants.{Enter, MultiEnter, Exit}
use Rattle.hp_trace.specs.declared.event.Mark.TheVariants.{Kick, BringUp, TakeDown}
use Rattle.hp_trace.specs.declared.event.Function.{Function}
use Rattle.hp_trace.specs.declared.event.Function.TheVariants.{Mark, Callback}
use Rattle.hp_trace.specs.declared.event.Payload.{Payload}
use Rattle.hp_trace.specs.declared.event.Payload.TheVariants.{Entered, Left}
use Rattle.hp_trace.specs.Pieces.{pieces, first_of}
use Rattle.hp_trace.specs.Readers.{Field, Tail, ◌>>=◌, done, exactly, number, integer, padded}

-- ---- the name of an event

unfoldable pub name_of : (word : List ℕ) → Option Name
name_of word =
    if bytes_eq word (codes "cpuhp_enter:") then Some Enter
    else if bytes_eq word (codes "cpuhp_multi_enter:") then Some MultiEnter
    else if bytes_eq word (codes "cpuhp_exit:") then Some Exit
    else None

-- ---- the function

-- a symbol's name; what a compiler or a disassembler adds behind `.` or `+` is no part of it
unfoldable pub symbol : (text : List ℕ) → Option (List ℕ)
symbol text = option_and_then (λ w. first_of (pieces 43 w)) (first_of (pieces 46 text))

unfoldable pub function_named : (symbol : List ℕ) → Function
function_named s =
    if bytes_eq s (codes "cpuhp_kick_ap_work") then Mark Kick
    else if bytes_eq s (codes "bringup_cpu") || bytes_eq s (codes "cpuhp_bringup_ap") then Mark BringUp
    else if bytes_eq s (codes "takedown_cpu") then Mark TakeDown
    else Callback

-- an address begins with a digit, and isn't the name of a symbol; neither is nothing
abbrev pub is_name : (text : List ℕ) → Bool
is_name [] = false
is_name (b ∷ bs) = not (nat_le 48 b && nat_le b 57)

unfoldable pub function_of : (text : List ℕ) → Option Function
function_of text = if is_name text then option_map function_named (symbol text) else None

-- what stands before a byte that ends a word
abbrev pub closed : List (List ℕ) → Option (List ℕ)
closed (w ∷ [] ∷ []) = Some w
closed _ = None

-- what stands behind a byte that begins a word
abbrev pub opened : (by : ℕ) → List ℕ → Option (List ℕ)
opened by [] = None
opened by (b ∷ bs) = if b == by then Some bs else None

-- `(F)`
unfoldable pub in_parentheses : Field Function
in_parentheses word = option_and_then (λ w. option_and_then function_of (opened 40 w)) (closed (pieces 41 word))

-- `(F [M])`, where M is the function's module
unfoldable pub of_module : (word : List ℕ) → Field Function
of_module word last =
    option_and_then (λ w. option_and_then (λ m. option_and_then (λ _. option_and_then function_of (opened 40 word)) (closed (pieces 93 m))) (opened 91 w)) (closed (pieces 41 last))

unfoldable pub function_words : (Function → Payload) → Tail Payload
function_words make [] = None
function_words make (word ∷ []) = option_map make (in_parentheses word)
function_words make (word ∷ last ∷ []) = option_map make (of_module word last)
function_words make (word ∷ last ∷ more ∷ words) = None

-- ---- the forms of the tracepoints' own text

unfoldable pub entered : (multi : Bool) → Tail Payload
entered multi = do
  _ ← exactly (codes "cpu:")
  cpu ← padded
  _ ← exactly (codes "target:")
  target ← integer
  _ ← exactly (codes "step:")
  step ← number
  function_words (λ function. Entered multi cpu target step function)

unfoldable pub left : Tail Payload
left = do
  _ ← exactly (codes "cpu:")
  cpu ← padded
  _ ← exactly (codes "state:")
  state ← integer
  _ ← exactly (codes "step:")
  step ← number
  _ ← exactly (codes "ret:")
  code ← integer
  done (Left cpu state step code)

-- ---- the forms of `trace-cmd report -R`

-- `LABEL=VALUE`
abbrev pub value_behind : (label : List ℕ) → List (List ℕ) → Option (List ℕ)
value_behind label (l ∷ v ∷ []) = if bytes_eq l label then Some v else None
value_behind label _ = None

abbrev pub behind : {A : Type 0} → (label : List ℕ) → Field A → Field A
behind label field word = option_and_then field (value_behind label (pieces 61 word))

unfoldable pub entered_raw : (multi : Bool) → Tail Payload
entered_raw multi = do
  cpu ← behind (codes "cpu") padded
  target ← behind (codes "target") integer
  step ← behind (codes "idx") number
  function ← behind (codes "fun") function_of
  done (Entered multi cpu target step function)

unfoldable pub left_raw : Tail Payload
left_raw = do
  cpu ← behind (codes "cpu") padded
  state ← behind (codes "state") integer
  step ← behind (codes "idx") number
  code ← behind (codes "ret") integer
  done (Left cpu state step code)

-- ---- which is it

-- the tracepoints' own text begins with the word `cpu:`
abbrev pub is_own : List (List ℕ) → Bool
is_own [] = false
is_own (w ∷ ws) = bytes_eq w (codes "cpu:")

unfoldable pub payload_at : Name → Tail Payload
payload_at Enter ws = if is_own ws then entered false ws else entered_raw false ws
payload_at MultiEnter ws = if is_own ws then entered true ws else entered_raw true ws
payload_at Exit ws = if is_own ws then left ws else left_raw ws
