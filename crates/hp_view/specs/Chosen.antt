-- The window that is asked for of a journal of so many events: from the first event and to the last where no number is
-- given. It lies within the journal, shows an event where there is one, and has few enough. This project's own.
use Rattle.std.specs.Prelude.{◌≡◌, ℕ, ◌+◌, ◌<◌, ◌≤◌, ◌⊎◌, unwrap_or, List, [], ◌∷◌, ◌++◌, codes, decimal}
use Rattle.hp_timeline.specs.declared.window.Window.{Window}
use Rattle.hp_view.specs.declared.asked.Asked.{Asked}
use Rattle.hp_view.specs.declared.window.TheConstants.{MAX_SHOWN}

pub record IsChosen (asked : Asked) (many : ℕ) (window : Window) : Type 0 where
  pub start_is : unwrap_or asked.start 1 ≡ window.before + 1
  pub stop_is : unwrap_or asked.stop many ≡ window.until
  pub within : window.until ≤ many
  pub rises : window.before ≤ window.until
  pub shows : (window.before < window.until) ⊎ (many ≡ 0)
  pub few : window.until ≤ window.before + MAX_SHOWN

-- there is no such window
abbrev pub HasNone : Asked → (many : ℕ) → Type 0
HasNone asked many = (window : Window) → IsChosen asked many window → ⊥

-- the line that says so
abbrev pub window_error_line : (many : ℕ) → List ℕ
window_error_line many =
    codes "error: "
    ++ (decimal many ++ (codes " events: choose a window of at most 20000 with --from and --to" ++ 10 ∷ []))
