-- The mark of an entry that ran and was ok is its two parts.
use Rattle.std.proofs.Common.{◌≡◌, ℕ, ◌+◌, Some, List, [], ◌∷◌, ◌++◌, codes, decimal, refl, sym, ap, ◌∙◌, append_assoc}
use Rattle.std.specs.Prelude.{slice_get}
use Rattle.hp_states.specs.declared.dir.Dir.{Dir}
use Rattle.hp_states.specs.declared.dir.Dir.TheVariants.{Up, Down}
use Rattle.hp_event.specs.declared.how.How.TheVariants.{RanOk}
use Rattle.hp_event.specs.declared.event.Event.{Event}
use Rattle.hp_event.specs.declared.event.Event.TheVariants.{Call}
use Rattle.hp_model.specs.Words.{dir_word}
use Rattle.hp_event.specs.declared.version.Version.TheVariants.{Two}
use Rattle.hp_model.specs.EventLine.{event_line}
use Rattle.hp_timeline.specs.declared.mark.Mark.{Mark}
use Rattle.hp_timeline.specs.declared.mark.Ran.{Ran}
use Rattle.hp_timeline.specs.declared.window.Window.{Window}
use Rattle.hp_timeline.specs.Sheet.{middle, height}
use Rattle.hp_timeline.specs.Marks.{shape, how_word, mark_text}
use Rattle.hp_timeline.specs.Ran.{spot_text, ran_line}

move : (a x y z : List ℕ) → ((a ++ x) ++ y) ++ z ≡ a ++ ((x ++ y) ++ z)
move a x y z = ap (λ t. t ++ z) (append_assoc a x y) ∙ append_assoc a (x ++ y) z

-- what stands behind four numbers, each behind a space
four : (s c t i end y z : List ℕ) →
    ((s ++ (32 ∷ (c ++ (32 ∷ (t ++ (32 ∷ (i ++ (32 ∷ end)))))))) ++ y) ++ z
    ≡ s ++ (32 ∷ (c ++ (32 ∷ (t ++ (32 ∷ (i ++ (32 ∷ ((end ++ y) ++ z))))))))
four s c t i end y z =
    move s (32 ∷ (c ++ (32 ∷ (t ++ (32 ∷ (i ++ (32 ∷ end))))))) y z
    ∙ ap (λ u. s ++ (32 ∷ u))
    (move c (32 ∷ (t ++ (32 ∷ (i ++ (32 ∷ end))))) y z
    ∙ ap (λ u. c ++ (32 ∷ u))
    (move t (32 ∷ (i ++ (32 ∷ end))) y z ∙ ap (λ u. t ++ (32 ∷ u)) (move i (32 ∷ end) y z)))

line_end : (d : Dir) →
    ((dir_word d ++ (32 ∷ (codes "ok" ++ []))) ++ 10 ∷ []) ++ codes "</title></path>\n"
    ≡ dir_word d ++ codes " ok\n</title></path>\n"
line_end Up = refl
line_end Down = refl

-- what stands behind a spot
spot : (l t s h n r : List ℕ) →
    (l ++ (32 ∷ (t ++ (s ++ (h ++ n))))) ++ r ≡ l ++ (32 ∷ (t ++ (s ++ (h ++ (n ++ r)))))
spot l t s h n r =
    append_assoc l (32 ∷ (t ++ (s ++ (h ++ n)))) r
    ∙ ap (λ u. l ++ (32 ∷ u))
    (append_assoc t (s ++ (h ++ n)) r
    ∙ ap (λ u. t ++ u) (append_assoc s (h ++ n) r ∙ ap (λ u. s ++ u) (append_assoc h n r)))

-- its line, with the number before it and the end of the mark behind it
line : (n seat cpu state inst : ℕ) (d : Dir) →
    (decimal n ++ (codes ": " ++ event_line Two 0 (Call seat cpu state inst d RanOk))) ++ codes "</title></path>\n"
    ≡ decimal n ++ ran_line (record { left = 0; top = 0; number = n; seat = seat; cpu = cpu; state = state; inst = inst; dir = d })
line n seat cpu state inst d =
    append_assoc (decimal n) (codes ": " ++ event_line Two 0 (Call seat cpu state inst d RanOk)) (codes "</title></path>\n")
    ∙ ap (λ u. decimal n ++ (codes ": call " ++ u))
    (four (decimal seat) (decimal cpu) (decimal state) (decimal inst) (dir_word d ++ (32 ∷ (codes "ok" ++ []))) (10 ∷ []) (codes "</title></path>\n")
    ∙ ap (λ u. decimal seat ++ (32 ∷ (decimal cpu ++ (32 ∷ (decimal state ++ (32 ∷ (decimal inst ++ (32 ∷ u)))))))) (line_end d))

abbrev pub ran_of : Mark → (seat inst left top : ℕ) → Ran
ran_of m seat inst l t =
    record { left = l; top = t; number = m.place + 1; seat = seat; cpu = m.cpu; state = m.state; inst = inst; dir = m.dir }

pub ran_is : (w : Window) (events : List Event) (m : Mark) (seat inst l t : ℕ) → l ≡ middle w m.place → t ≡ height m.cpu m.state →
    m.how ≡ RanOk → slice_get events m.place ≡ Some (Call seat m.cpu m.state inst m.dir m.how) →
    spot_text (ran_of m seat inst l t) ++ ran_line (ran_of m seat inst l t) ≡ mark_text w events m
unfolding mark_text
ran_is w events m seat inst l t left top how there =
    rw (there, how, ← left, ← top)
    (ap (λ u. codes "<path d='M" ++ u)
    (spot (decimal l) (decimal t) (shape m.dir) (how_word RanOk) (decimal (m.place + 1)) (ran_line (ran_of m seat inst l t))
    ∙ ap (λ u. decimal l ++ (32 ∷ (decimal t ++ (shape m.dir ++ (how_word RanOk ++ u)))))
    (sym (line (m.place + 1) seat m.cpu m.state inst m.dir))))
